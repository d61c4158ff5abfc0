-- Whatever the pieces that are read and whenever lines are written, the program prints the transcript of the stream.
use Rattle.std.specs.Prelude.{List, [], ◌∷◌, ◌++◌, ◌≡◌, refl, ℕ, length, take, drop}
use Rattle.std.proofs.Common.{append_assoc, append-nil, sym, ap, ap₂, ◌∙◌, take_at}
use Rattle.transcript.specs.declared.Stage.{Stage}
use Rattle.transcript.specs.declared.Stage.TheVariants.{Awaiting}
use Rattle.transcript.specs.Transcripts.{State, stopped, files, takes, prints, transcript}
use Rattle.transcript.specs.Playing.{state_of, Waits, has_stopped, no_file}
use Rattle.transcript.specs.Sessions.{Session, reading, playing, ends, stops, all}

-- A program that has stopped prints nothing more.
prints_stopped : (rest : List (List ℕ)) → prints stopped rest ≡ []
unfolding prints takes
prints_stopped [] = refl
prints_stopped (file ∷ rest) = prints_stopped rest

prints_waiting : {state : State} {held : List ℕ} → Waits state held → prints state (files held) ≡ []
unfolding prints
prints_waiting {held = held} (has_stopped e) = ap (λ s. prints s (files held)) e ∙ prints_stopped (files held)
prints_waiting {state} (no_file e) = ap (prints state) e

prints_from : {stage : Stage} {patch held : List ℕ} {reads writes : List (List ℕ)} → Session stage patch held reads writes
    → all writes ≡ prints (state_of stage patch) (files (held ++ all reads))
prints_from {stage} {patch} {held} (reading {piece = piece} {reads = reads} s) =
    prints_from s ∙ ap (λ l. prints (state_of stage patch) (files l)) (append_assoc held piece (all reads))
prints_from {stage} {patch} {held} (playing {lent = lent} {r = r} {reads = reads} p s) =
    ap₂ (λ a b. a ++ b)
    (ap (take r.written) p.plays.written.buffer
    ∙ take_at p.plays.lines (drop (length p.plays.lines) lent) r.written (sym p.plays.written.long))
    (prints_from s)
    ∙ sym (p.plays.goes_on (all reads))
prints_from {stage} {patch} {held} (ends w) = sym (ap (λ l. prints (state_of stage patch) (files l)) (append-nil held) ∙ prints_waiting w)
prints_from {held = held} (stops {reads = reads} e) = sym (ap (λ s. prints s (files (held ++ all reads))) e ∙ prints_stopped (files (held ++ all reads)))

pub session_prints : (patch : List ℕ) {reads writes : List (List ℕ)} → Session Awaiting patch [] reads writes → all writes ≡ transcript (all reads)
unfolding state_of transcript
session_prints patch s = prints_from s
