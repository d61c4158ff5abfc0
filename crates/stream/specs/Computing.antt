-- One name for the definitions that worked examples compute with: `unfolding stream_definitions` opens them all.
use Rattle.stream.specs.Types.{nullable, size, type_limit, same_type}
use Rattle.stream.specs.Levels.{level_limit}
use Rattle.stream.specs.Prefixes.{empty_prefix, arrivals, derivative}
use Rattle.stream.specs.Prefixes.Functions.{complete, brings_nothing, opens, concat}
use Rattle.stream.specs.Reading.{number_bytes, read_number, section_bytes, counted, section, forest, tree}
use Rattle.stream.specs.TypeFiles.{type_bytes, type_file_bytes, type_root, read_type, type_section, type_file}
use Rattle.stream.specs.SliceFiles.{prefix_bytes, slice_file_bytes, prefix_root, read_prefix, slice_file}
use Rattle.stream.specs.Longest.{longest_prefix}

unfoldable pub stream_definitions : Unit {0}
unfolding nullable size type_limit same_type level_limit complete empty_prefix brings_nothing opens arrivals derivative concat number_bytes read_number section_bytes counted section forest tree type_bytes type_file_bytes type_root read_type type_section type_file prefix_bytes slice_file_bytes prefix_root read_prefix slice_file longest_prefix
stream_definitions = tt
