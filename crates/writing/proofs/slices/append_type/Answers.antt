-- A type of one node is its kind byte.
use Rattle.std.proofs.Common.{◌≡◌, ℕ, List, [], ◌∷◌, length, get_or, sym, ap, ◌∙◌, arith, refl}
use Rattle.reading.proofs.TypeViews.{size_is, kind_is}
use Rattle.writing.specs.Appending.{Appends}
use Rattle.writing.proofs.slices.append_type.Goals as goal

-- One byte and no more.
alone : (s : List ℕ) → length s ≡ 1 → s ≡ get_or s 0 0 ∷ []
alone [] e = absurd (omega arith)
alone (k ∷ []) e = refl
alone (k ∷ l ∷ s) e = absurd (omega arith)

-- The same bytes in other words.
appends_as : {source other now after : List ℕ} {written end : ℕ} → source ≡ other → Appends source written now after end → Appends other written now after end
appends_as same appended = rw same at appended

pub append-requires : goal.append-requires
append-requires c = omega (arith, size_is c.args.ty)

pub returns-then-size-eq1 : goal.returns-then-size-eq1
returns-then-size-eq1 c =
    let v = c.args.ty in
    let one : c.kind.result ∷ [] ≡ v.bytes.now
    = ap (λ k. k ∷ []) (c.kind.ensures ∙ sym (kind_is v)) ∙ sym (alone v.bytes.now (size_is v ∙ sym c.size.ensures ∙ c.if-size-eq1.true)) in
    appends_as (one ∙ sym v.whole) c.append_kind.ensures

pub returns : goal.returns
returns c = appends_as (sym c.args.ty.whole) c.append.ensures
