-- Tables by number: entries that share a value, and what stands past the end. So a match whose arms are ranges of kinds is proved
-- arm by arm.
use Rattle.std.specs.Prelude.{◌≡◌, List, ℕ, suc, ◌+◌, ◌-◌, ◌≤◌, ◌<◌, length, get_or, take, drop, replicate}
use Rattle.std.proofs.Common.{sym, ap, ◌∙◌, arith, get_or-take, get_or-drop}
use Rattle.std.proofs.lemmas.List.{get_or-replicate}
use Rattle.std.proofs.Math.ListN.{get_or-eq_default}

-- The n entries from a on are v.
pub shared : {K : Type 0} {v : K} (ks : List K) (d : K) (a n : ℕ) → take n (drop a ks) ≡ replicate n v → (k : ℕ) → a ≤ k → k < a + n
    → v ≡ get_or ks k d
shared {v = v} ks d a n alike k low high =
    let within : k - a < n = omega arith in
    let behind : a + (k - a) ≡ k = omega arith in
    sym (get_or-replicate n (k - a) v d within)
    ∙ ap (λ l. get_or l (k - a) d) (sym alike)
    ∙ get_or-take n (drop a ks) (k - a) d within
    ∙ get_or-drop a ks (k - a) d
    ∙ ap (λ i. get_or ks i d) behind

pub beyond : {K : Type 0} (ks : List K) (d : K) (k : ℕ) → length ks ≤ k → d ≡ get_or ks k d
beyond ks d k long = sym (get_or-eq_default ks d long)

-- The entries come to one after the other: the next is past one that it is not.
pub above : {n k : ℕ} → n ≤ k → (k ≡ n → ⊥) → suc n ≤ k
above low other = omega arith
