-- The first file: a patch that Check accepts is kept, and a refused one stops the program.
use mathlib.Core.Path.{◌≡◌, refl, ap, ◌∙◌}
use mathlib.Core.List.{List}
use Prim.Native.Nat.{ℕ, ◌≤◌}
use native.Mathlib.Omega.{arith}
use lib.ListN.{length, take, drop}
use lib.Seq.{take_at}
use Rattle.stream.specs.Reading.{Bytes, Result, accepted, refused}
use Rattle.stream.specs.Buffers.{at_front}
use Rattle.writing.specs.Writing.Laws.{front_length}
use Rattle.writing.specs.Writing.{Begun}
use Rattle.node.proofs.PatchFiles.Laws.{patch_file_length}
use Rattle.meaning.specs.Answers.{check, number_of}
use Rattle.meaning.proofs.Answers.Laws.{number_bounds, check_accepted}
use Rattle.transcript.specs.declared.Stage.TheVariants.{Awaiting, Feeding, Stopped}
use Rattle.transcript.specs.Transcripts.{feeding, number_line, takes}
use Rattle.transcript.proofs.Transcripts.Laws.{number_line_length}
use Rattle.transcript.specs.Playing.{state_of, Inside, TakesFile}
use Rattle.stream.specs.Bounds.{patch_file_limit}

-- An accepted patch has room where every patch has.
pub patch_short : (file : List ℕ) → Bytes file → number_of (check file) ≡ 0 → length file ≤ patch_file_limit
patch_short file b none = go (check file) refl none
  where
    go : (o : Result (List ℕ)) → check file ≡ o → number_of o ≡ 0 → length file ≤ patch_file_limit
    go (accepted type) e n = let f = (check_accepted file b).0 (type, e) in rw (← f.bytes) (patch_file_length f.trees.totals f.allowed)
    go (refused f) e n = absurd (omega (arith, (number_bounds f).0))

module _ (patch file lent : List ℕ) where
  pub patch_kept : number_of (check file) ≡ 0 → length file ≤ length patch → {patch_after : List ℕ} → patch_after ≡ at_front file patch
      → TakesFile Awaiting patch file lent (record { stage = Feeding (length file); written = 0 }) patch_after lent
  unfolding state_of Inside takes
  patch_kept none room {patch_after} kept = go (check file) refl none
    where
      go : (o : Result (List ℕ)) → check file ≡ o → number_of o ≡ 0
          → TakesFile Awaiting patch file lent (record { stage = Feeding (length file); written = 0 }) patch_after lent
      go (accepted type) e n =
          record {
            inside = omega (arith, ap length kept, front_length file patch room);
            long = ap length kept ∙ front_length file patch room;
            stands = rw e (ap feeding (ap (take (length file)) kept ∙ take_at file (drop (length file) patch) (length file) refl));
            line = rw e (record { long = refl; buffer = refl });
            short = omega arith;
          }
      go (refused f) e n = absurd (omega (arith, (number_bounds f).0))

  pub patch_refused : (number_of (check file) ≡ 0 → ⊥) → {lent_after : List ℕ} {n : ℕ} → Begun (number_line (number_of (check file))) lent lent_after n
      → TakesFile Awaiting patch file lent (record { stage = Stopped; written = n }) patch lent_after
  unfolding state_of Inside takes
  patch_refused some {lent_after} {n} line = go (check file) refl some line
    where
      go : (o : Result (List ℕ)) → check file ≡ o → (number_of o ≡ 0 → ⊥) → Begun (number_line (number_of o)) lent lent_after n
          → TakesFile Awaiting patch file lent (record { stage = Stopped; written = n }) patch lent_after
      go (accepted type) e s l = absurd (s refl)
      go (refused f) e s l = record { inside = tt; long = refl; stands = rw e refl; line = rw e l; short = omega (arith, l.long, number_line_length (number_of {A = List ℕ} (refused f))) }
