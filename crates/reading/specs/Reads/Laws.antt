-- What the readers of files answer says where what they read ends, of which the laws of sections speak.
use Rattle.std.specs.Prelude.{Result, Ok, Err, ◌≡◌, List, ℕ, ◌-◌, length}
use Rattle.std.proofs.Common.{Bor, sym, ap, ◌∙◌}
use Rattle.stream.specs.declared.Fault.{Fault}
use Rattle.stream.specs.declared.Fault.TheVariants.{CutShort, LeftOver}
use Rattle.stream.specs.Reading.{Bytes, section}
use Rattle.stream.specs.TypeFiles.{read_type, type_section}
use Rattle.reading.specs.declared.types.TypeView.{TypeView}
use Rattle.reading.specs.Sections.{end_of, any_bytes, filled}
use Rattle.reading.specs.Sections.Laws.{SectionEnds, inside, section_failed, section_filled}
use Rattle.reading.specs.TypeReads.Laws.{TypeSectionEnds, type_section_ended, read_type_within}
use Rattle.reading.specs.Reads.{type_seen}

-- Of n bytes, where those begin that are behind the type.
abbrev pub end_seen : ℕ → Result (TypeView × Bor (List ℕ)) Fault → Result ℕ Fault
end_seen n (Ok v) = Ok (n - length v.1.now)
end_seen n (Err e) = Err e

pub seen_ends : (s : List ℕ) (answer : Result (TypeView × Bor (List ℕ)) Fault) → type_seen answer ≡ type_section s
    → end_of (length s) (type_section s) ≡ end_seen (length s) answer
unfolding end_of
seen_ends s (Ok v) told = ap (end_of (length s)) (sym told)
seen_ends s (Err e) told = ap (end_of (length s)) (sym told)

pub seen_section : (s : List ℕ) → Bytes s → (v : TypeView × Bor (List ℕ)) → type_seen (Ok v) ≡ type_section s
    → TypeSectionEnds s (length s - length v.1.now)
seen_section s bytes v told = type_section_ended s _ bytes (seen_ends s (Ok v) told)

-- The same by where the section ends, whatever it holds, and by the type that has to fill it.

pub seen_failed : (s : List ℕ) (answer : Result (TypeView × Bor (List ℕ)) Fault) (e : Fault) → type_seen answer ≡ type_section s
    → end_of (length s) (section CutShort LeftOver any_bytes s) ≡ Err e → end_seen (length s) answer ≡ Err e
unfolding type_section
seen_failed s answer e told fails = sym (seen_ends s answer told) ∙ section_failed read_type s e fails

pub seen_filled : (s : List ℕ) (answer : Result (TypeView × Bor (List ℕ)) Fault) {end : ℕ} → type_seen answer ≡ type_section s
    → SectionEnds any_bytes s end → end_seen (length s) answer ≡ filled end (end_of (length (inside end s)) (read_type (inside end s)))
unfolding type_section
seen_filled s answer told counted = sym (seen_ends s answer told) ∙ section_filled read_type s counted (read_type_within _)
