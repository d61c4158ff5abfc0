-- A digit goes in front of those that are there.
use Rattle.std.specs.Prelude.{◌≡◌, List, ◌∷◌, ℕ, ◌+◌, ◌-◌, ◌/◌, ◌%◌, ◌≤◌, ◌<◌, suc, length, take, drop}
use Rattle.std.proofs.Common.{arith, sym, ap, set}
use Rattle.std.proofs.lemmas.List.{drop-set}
use Rattle.stream.specs.Reading.{number_bytes}

pub step : (width at v : ℕ) (out : List ℕ) → 0 < at → at ≤ width → width ≤ length out
    → number_bytes (at - 1) (v / 256) (take (width - (at - 1)) (drop (at - 1) (set out (at - 1) (v % 256))))
    ≡ number_bytes at v (take (width - at) (drop at out))
unfolding number_bytes
step width at v out some most room =
    let d : drop (at - 1) (set out (at - 1) (v % 256)) ≡ v % 256 ∷ drop (at - 1 + 1) out = drop-set out (at - 1) (v % 256) (omega arith) in
    let w : width - (at - 1) ≡ suc (width - at) = omega arith in
    let n : at ≡ suc (at - 1) = omega arith in
    let m : at - 1 + 1 ≡ at = omega arith in
    rw (d, w, m) (sym (ap (λ k. number_bytes k v (take (width - at) (drop at out))) n))
