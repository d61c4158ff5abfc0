-- One name for the definitions that worked examples compute with: `unfolding node_definitions` opens them all.
use Rattle.stream.specs.Computing.{stream_definitions}
use Rattle.node.specs.Totals.{total_limit, held, totals_bytes, read_totals, totals_section}
use Rattle.node.specs.Nodes.{node_limit}
use Rattle.node.specs.Nodes.Functions.{output_type}
use Rattle.node.specs.Feeding.Functions.{sends, leaves}
use Rattle.node.specs.Checking.{gives, typing}
use Rattle.node.specs.PatchFiles.{node_bytes, patch_file_bytes, node_root, read_node, node_section, patch_sections, first_pass, second_pass, patch_file}

unfoldable pub node_definitions : Unit {0}
unfolding stream_definitions total_limit held totals_bytes read_totals totals_section output_type node_limit sends leaves gives typing node_bytes patch_file_bytes node_root read_node node_section patch_sections first_pass second_pass patch_file
node_definitions = tt
