-- What the comparison of two types by their bytes tells: words of laws, to which the answer of `==` is led (`compared`); no demand rests on them.
use Rattle.std.specs.Prelude.{◌≡◌, refl, Bool, true, false, List, [], ℕ}
use Rattle.std.proofs.Common.{nat_eq, sym, ap, ◌∙◌}
use Rattle.std.specs.Cmp.Lexicographic.{pointwise, same_text, other_text}
use Rattle.stream.specs.Types.{Ty, Small, same_type}
use Rattle.stream.proofs.Types.Laws.{same_type_sound, same_type-complete}
use Rattle.stream.specs.Reading.{read}
use Rattle.stream.specs.TypeFiles.{type_bytes, read_type}
use Rattle.stream.proofs.TypeFiles.Laws.{read_type_reads}

-- Whether two lists that are the bytes of types, and of nothing else, are those of one type: whichever types they are.
pub record Compares (first second : List ℕ) (answer : Bool) : Type 0 where
  pub each : (t r : Ty) → Small t → Small r → first ≡ type_bytes t [] → second ≡ type_bytes r [] → answer ≡ same_type t r

-- Two types of the same bytes are the same.
bytes_tell : {t r : Ty} → Small t → Small r → type_bytes t [] ≡ type_bytes r [] → t ≡ r
bytes_tell {t} {r} small other same =
    let e : read t [] ≡ read r [] = sym (read_type_reads t [] small) ∙ ap read_type same ∙ read_type_reads r [] other in
    cc

module _ {first second : List ℕ} where
  pub alike : first ≡ second → Compares first second true
  alike same =
      record {
        each = λ t r small other is_first is_second.
            let one : t ≡ r = bytes_tell small other (sym is_first ∙ same ∙ is_second) in
            rw (← one) (sym (same_type-complete t));
      }

  pub apart : (first ≡ second → ⊥) → Compares first second false
  apart differ = record { each = λ t r small other is_first is_second. sym (go t r is_first is_second (same_type t r) refl) }
    where
      go : (t r : Ty) → first ≡ type_bytes t [] → second ≡ type_bytes r [] → (b : Bool) → same_type t r ≡ b → b ≡ false
      go t r is_first is_second true e = absurd (differ (is_first ∙ ap (λ x. type_bytes x []) (same_type_sound t r e) ∙ sym is_second))
      go t r is_first is_second false e = refl

  -- What tells the lists apart tells the types apart.
  pub compared : (answer : Bool) → answer ≡ pointwise nat_eq first second → Compares first second answer
  compared true same = alike (same_text first second same)
  compared false differ = apart (other_text first second differ)
