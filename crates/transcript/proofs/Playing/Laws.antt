-- What is true of playing.
use Rattle.std.specs.Prelude.{Err, Ok, Result, ◌≡◌, refl, Bool, true, false, List, [], ◌∷◌, ◌++◌, ℕ, suc, ◌+◌, ◌*◌, ◌-◌, ◌≤◌, leb, length, drop}
use Rattle.std.proofs.Common.{sym, ap₂, ◌∙◌, true≢false, append_assoc, append-nil, arith, length-drop, drop-drop, leb-true, leb-false}
use Rattle.std.proofs.Math.Path.{ap}
use Rattle.std.proofs.Math.ListN.{take}
use Rattle.stream.specs.declared.Fault.{Fault}
use Rattle.stream.specs.declared.Fault.TheVariants.{CutShort, LeftOver}
use Rattle.stream.specs.Reading.{Bytes, section}
use Rattle.reading.specs.Sections.{end_of, any_bytes}
use Rattle.reading.specs.Sections.Laws.{section_ended, section_there}
use Rattle.writing.specs.Writing.Laws.{part, back, part_is, goes_on, room_left}
use Rattle.transcript.specs.declared.Stage.{Stage}
use Rattle.transcript.specs.declared.Stage.TheVariants.{Awaiting, Feeding, Stopped}
use Rattle.transcript.specs.declared.Line.{Line}
use Rattle.transcript.specs.declared.Played.{Played}
use Rattle.transcript.specs.Transcripts.{stopped, files_within, files, takes, prints}
use Rattle.transcript.proofs.Transcripts.Laws.{file_first, no_first}
use Rattle.transcript.specs.Playing.{state_of, is_stopped, Inside, TakesFile, Plays, Waits, has_stopped, no_file, PlaysNext}

-- The file at the front of the input, where the reader of sections says that it ends; or there is none.

abbrev pub ends : List ℕ → Result ℕ Fault
ends s = end_of (length s) (section CutShort LeftOver any_bytes s)

pub record FirstFile (input : List ℕ) (end : ℕ) : Type 0 where
  pub two : 2 ≤ end
  pub fits : end ≤ length input
  pub first : (more : List ℕ) → files (input ++ more) ≡ take (end - 2) (drop 2 input) ∷ files (drop end input ++ more)

pub first_file : (input : List ℕ) (end : ℕ) → ends input ≡ Ok end → FirstFile input end
first_file [] end e = let s = section_ended any_bytes [] end e in absurd (omega (arith, s.place, s.fits))
first_file (h ∷ []) end e = let s = section_ended any_bytes (h ∷ []) end e in absurd (omega (arith, s.place, s.fits))
first_file (h ∷ l ∷ s) end e =
    let x = section_ended any_bytes (h ∷ l ∷ s) end e in
    let k = h * 256 + l in
    let body : k ≡ end - 2 = omega (arith, x.place) in
    let all : suc (suc k) ≡ end = omega (arith, x.place) in
    record {
      two = omega (arith, x.place);
      fits = x.fits;
      first = λ more.
          file_first h l s more (omega (arith, x.place, x.fits))
          ∙ ap₂ (λ a b. take a s ∷ files (drop b (h ∷ l ∷ s) ++ more)) body all;
    }

pub no_file_first : (input : List ℕ) (e : Fault) → ends input ≡ Err e → files input ≡ []
unfolding files_within files
no_file_first [] e d = refl
no_file_first (h ∷ []) e d = refl
no_file_first (h ∷ l ∷ s) e d = go (leb (h * 256 + l) (length s)) refl
  where
    go : (t : Bool) → leb (h * 256 + l) (length s) ≡ t → files (h ∷ l ∷ s) ≡ []
    go true t =
        let there = section_there (h ∷ l ∷ s) (omega arith) (omega (arith, leb-true (h * 256 + l) (length s) t)) in
        let z : ◌≡◌ {A = ℕ} 0 1 = let x = sym there ∙ d in cc in
        absurd (omega arith)
    go false t = no_first h l s (leb-false (h * 256 + l) (length s) t)

-- One file is played, or none.

module _ (stage : Stage) (patch input lent : List ℕ) where
  pub plays_file : {end : ℕ} → FirstFile input end → 1536 ≤ length lent → {r : Line} {patch_after lent_after : List ℕ}
      → TakesFile stage patch (take (end - 2) (drop 2 input)) lent r patch_after lent_after
      → PlaysNext stage patch input lent (record { stage = r.stage; taken = end; written = r.written }) patch_after lent_after
  unfolding prints
  plays_file {end} f room {r} {patch_after} took =
      let file = take (end - 2) (drop 2 input) in
      record {
        plays = record {
          taken_inside = f.fits;
          inside = took.inside;
          long = took.long;
          lines = (takes (state_of stage patch) file).0;
          written = took.line;
          room = omega (arith, took.short);
          goes_on = λ more.
              ap (prints (state_of stage patch)) (f.first more)
              ∙ ap (λ state. (takes (state_of stage patch) file).0 ++ prints state (files (drop end input ++ more))) (sym took.stands);
        };
        waits = λ none. absurd (omega (arith, f.two));
      }

  pub plays_none : Inside stage patch → Plays stage patch input lent (record { stage = stage; taken = 0; written = 0 }) patch lent
  plays_none inside =
      record {
        taken_inside = omega arith;
        inside = inside;
        long = refl;
        lines = [];
        written = record { long = refl; buffer = refl };
        room = omega arith;
        goes_on = λ more. refl;
      }

  pub plays_nothing : Inside stage patch → Waits (state_of stage patch) input
      → PlaysNext stage patch input lent (record { stage = stage; taken = 0; written = 0 }) patch lent
  plays_nothing inside waits = record { plays = plays_none inside; waits = λ none. waits }

  -- What is played of the rest, on the part behind the lines that were written, comes to what is played of all.
  pub plays_on : {r : Played} {patch_then lent_then : List ℕ} → Plays stage patch input lent r patch_then lent_then
      → {q : Played} {patch_after lent_part : List ℕ}
      → Plays r.stage patch_then (part r.taken input) (part r.written lent_then) q patch_after lent_part
      → Plays stage patch input lent (record { stage = q.stage; taken = r.taken + q.taken; written = r.written + q.written }) patch_after
      (back r.written lent_then lent_part)
  plays_on {r} {patch_then} {lent_then} p {q} {patch_after} {lent_part} n =
      record {
        taken_inside = omega (arith, p.taken_inside, n.taken_inside, ap length (part_is r.taken input), length-drop r.taken input);
        inside = n.inside;
        long = n.long ∙ p.long;
        lines = p.lines ++ n.lines;
        written = goes_on p.written n.lines n.written.buffer n.written.long;
        room = omega (arith, p.room, n.room, room_left p.written);
        goes_on = λ more.
            p.goes_on more
            ∙ ap (λ i. p.lines ++ prints (state_of r.stage patch_then) (files (i ++ more))) (sym (part_is r.taken input))
            ∙ ap (λ l. p.lines ++ l) (n.goes_on more)
            ∙ sym (append_assoc p.lines n.lines _)
            ∙ ap (λ i. p.lines ++ n.lines ++ prints (state_of q.stage patch_after) (files (i ++ more)))
            (ap (drop q.taken) (part_is r.taken input) ∙ drop-drop q.taken r.taken input);
      }

-- Where the program waits and has not stopped, what it holds is shorter than the longest file with its length, 65,537 bytes.

waiting_short : (s : List ℕ) → Bytes s → files s ≡ [] → length s ≤ 65536
waiting_short [] b e = omega arith
waiting_short (h ∷ []) b e = omega arith
waiting_short (h ∷ l ∷ s) b e = go (leb (h * 256 + l) (length s)) refl
  where
    go : (t : Bool) → leb (h * 256 + l) (length s) ≡ t → length (h ∷ l ∷ s) ≤ 65536
    go true t =
        let some = file_first h l s [] (leb-true (h * 256 + l) (length s) t) in
        let z : ◌≡◌ {A = ℕ} 0 1 = let x = sym e ∙ ap (λ r. files (h ∷ l ∷ r)) (sym (append-nil s)) ∙ some in cc in
        absurd (omega arith)
    go false t = omega (arith, leb-false (h * 256 + l) (length s) t, b 0, b 1)

never_stopped : (stage : Stage) (patch : List ℕ) → is_stopped stage ≡ false → state_of stage patch ≡ stopped → ⊥
unfolding state_of is_stopped
never_stopped Awaiting patch h e = let z : ◌≡◌ {A = ℕ} 0 1 = cc in absurd (omega arith)
never_stopped (Feeding n) patch h e = let z : ◌≡◌ {A = ℕ} 0 1 = cc in absurd (omega arith)
never_stopped Stopped patch h e = true≢false h

pub held_short : (stage : Stage) (patch held : List ℕ) → Bytes held → is_stopped stage ≡ false → Waits (state_of stage patch) held
    → length held ≤ 65536
held_short stage patch held b h (has_stopped e) = absurd (never_stopped stage patch h e)
held_short stage patch held b h (no_file e) = waiting_short held b e
