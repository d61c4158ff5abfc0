-- Demand 3 once more, by what the operations themselves answer on files: Join joins the slices and the outputs, Left says what they
-- leave, and Check says the output type.
use Rattle.std.specs.Prelude.{◌≡◌, List, [], ◌∷◌, ◌++◌, ℕ}
use Rattle.std.proofs.Common.{sym, ap, ◌∙◌}
use Rattle.stream.specs.Types.{Ty, Small}
use Rattle.stream.specs.Prefixes.{Prefix}
use Rattle.stream.proofs.Prefixes.Laws.{concat-only}
use Rattle.stream.specs.Reading.{accepted}
use Rattle.stream.specs.TypeFiles.{type_file_bytes}
use Rattle.stream.specs.SliceFiles.{slice_file_bytes}
use Rattle.node.proofs.Nodes.Laws.{output_small, allowed_fits}
use Rattle.node.specs.PatchFiles.{PatchFile}
use Rattle.meaning.specs.Answers.{check, join, first_section}
use Rattle.meaning.proofs.Answers.Laws.{check_answers, left_answers, join_answers, first_section_of_patch}
use Rattle.demands.proofs.Runs.Laws.{joined_is_prefix}
use Rattle.demands.specs.Runs.{RunEnd, Joined, alone, and_next, AsOne}
use Rattle.demands.specs.Runs.Files.{JoinedFiles, join_alone, join_next, OnFiles}

-- Join writes the joined slice.

join_last : {type : List ℕ} {files : List (List ℕ)} {all both : List ℕ} (next : List ℕ) → JoinedFiles type files all → join type all next ≡ accepted both
    → JoinedFiles type (files ++ next ∷ []) both
join_last next join_alone e = join_next e join_alone
join_last next (join_next d j) e = join_next d (join_last next j e)

joined_files : {t : Ty} {files : List (List ℕ)} {p : Prefix} → Small t → Joined t files p → JoinedFiles (type_file_bytes t) files (slice_file_bytes p)
joined_files small (alone h) = join_alone
joined_files small (and_next {q = q} j k c) =
    join_last (slice_file_bytes q) (joined_files small j)
    (join_answers q small (joined_is_prefix j) k ∙ ap (λ x. accepted (slice_file_bytes x)) (concat-only c))

input_section : {file : List ℕ} (patch : PatchFile file) → first_section file ≡ type_file_bytes patch.trees.input
input_section patch = ap first_section (sym patch.bytes) ∙ first_section_of_patch patch.trees

check_is : {file : List ℕ} (patch : PatchFile file) → check file ≡ accepted (type_file_bytes patch.output)
check_is patch = ap check (sym patch.bytes) ∙ check_answers patch.allowed patch.held

pub on_files : {start : List ℕ} {r : RunEnd} (patch : PatchFile start) (end : PatchFile r.file) → AsOne patch r end → OnFiles start r
on_files patch end one =
    let small = output_small patch.allowed.types (allowed_fits patch.allowed) in
    record {
      slice = slice_file_bytes one.slice;
      output = slice_file_bytes one.output;
      output_type = type_file_bytes patch.output;
      checked = check_is patch;
      slices_joined = rw (input_section patch) (joined_files patch.allowed.input_small one.slices_joined);
      outputs_joined = joined_files small one.outputs_joined;
      fed_as_one = λ call h k. one.fed_as_one call h k;
      input_left =
          rw (input_section patch, input_section end, one.input_left)
          (left_answers patch.allowed.input_small (joined_is_prefix one.slices_joined));
      output_left =
          left_answers small (joined_is_prefix one.outputs_joined) ∙ ap (λ t. accepted (type_file_bytes t)) (sym one.output_left) ∙ sym (check_is end);
    }
