-- The second pass accepts exactly what the typing rules and the limit allow.
use Rattle.std.specs.Prelude.{◌≡◌, refl, Bool, true, ◌&&◌, leb}
use Rattle.std.proofs.Common.{arith, leb-true, le-leb}
use Rattle.stream.specs.declared.Fault.{Fault}
use Rattle.stream.specs.declared.Fault.TheVariants.{TypeTooLarge, NotNullable, WrongShape, OutputsDiffer}
use Rattle.stream.specs.Types.{Ty, empty, cue, level, seq, par, either, nullable, size, type_limit, first_part, second_part, has_kind, same_type, Small}
use Rattle.stream.proofs.Types.Laws.{and_left, and_right, nullable_sound, nullable-complete, made_of, same_type_sound, same_type-complete}
use Rattle.stream.specs.Faults.{patch_numbers, Listed}
use Rattle.stream.specs.Reading.{Result, accepted, require, go_on}
use Rattle.stream.proofs.Reading.Refusals.{Refusals, go_on_refusals, require_refusals}
use Rattle.stream.proofs.Reading.Laws.{go_on_accepted, require_accepted}
use Rattle.node.specs.Nodes.{Node, pass, silent, emit_cue, emit_level, both, left_side, right_side, first, second, then, chain, regroup_right, regroup_left, spread, front, choose, mark_first, mark_second, Takes, takes_pass, takes_silent, takes_cue, takes_level, takes_both, takes_left, takes_right, takes_first, takes_second, takes_then, takes_chain, takes_regroup_right, takes_regroup_left, takes_spread, takes_front, takes_choose, takes_mark_first, takes_mark_second}
use Rattle.node.specs.Nodes.Functions.{output_type, Fits, Carries}
use Rattle.node.proofs.Nodes.Laws.{output_type_is}
use Rattle.node.specs.Checking.{gives, typing, WellTyped}

pub types_carries : {s t : Ty} {n : Node} → Takes s n t → Fits s n → Carries n
unfolding output_type size
types_carries takes_pass f = tt
types_carries (takes_silent z) f = f
types_carries takes_cue f = tt
types_carries (takes_level v) f = v
types_carries (takes_both d e) f = (types_carries d f.0, types_carries e f.1)
types_carries takes_left f = tt
types_carries takes_right f = tt
types_carries takes_first f = tt
types_carries takes_second f = tt
types_carries (takes_then d e) f = (types_carries d f.0, types_carries e f.1)
types_carries (takes_chain d e) f = (types_carries d f.0, types_carries e (rw (output_type_is d) at f.1))
types_carries takes_regroup_right f = tt
types_carries takes_regroup_left f = tt
types_carries takes_spread f = tt
types_carries takes_front f = tt
types_carries (takes_choose d e) f = (types_carries d f.0, types_carries e f.1)
types_carries takes_mark_first f = omega arith
types_carries takes_mark_second f = omega arith

-- The steps of the pass

pub gives_accepted : (u t : Ty) → gives u ≡ accepted t → (u ≡ t) × Small t
unfolding gives
gives_accepted u t e =
    let r = require_accepted (leb (size u) type_limit) TypeTooLarge (accepted u) t e in
    let h : u ≡ t = let d = r.1 in cc in
    (h, rw (← h) (leb-true (size u) type_limit r.0))

pub gives_small : {t : Ty} → Small t → gives t ≡ accepted t
unfolding gives
gives_small {t} h = rw (le-leb (size t) type_limit h)

-- What the pass accepts is typed and fits

given : {s u : Ty} {n : Node} (t : Ty) → gives u ≡ accepted t → ((h : u ≡ t) → Small u → WellTyped s n t) → WellTyped s n t
given {u = u} t e k = let g = gives_accepted u t e in k g.0 (rw g.0 g.1)

then_types : {u v : Ty} {n m : Node} (s : Ty) → has_kind 3 s ≡ true → Takes (first_part s) n u → Takes (second_part s) m v → Takes s (then n m) (seq u v)
then_types s e d f = rw (made_of 3 s e) (takes_then d f)

choose_types : {u : Ty} {n m : Node} (s : Ty) → has_kind 5 s ≡ true → Takes (first_part s) n u → Takes (second_part s) m u → Takes s (choose n m) u
choose_types s e d f = rw (made_of 5 s e) (takes_choose d f)

pub typing_sound : (s : Ty) (n : Node) (t : Ty) → Carries n → typing s n ≡ accepted t → WellTyped s n t
unfolding typing output_type
typing_sound s pass t v e = given t e (λ h k. rw (← h) (record { types = takes_pass; fits = k }))
typing_sound s (silent n) t v e =
    let r = require_accepted (nullable n) NotNullable (gives n) t e in
    given t r.1 (λ h k. rw (← h) (record { types = takes_silent (nullable_sound n r.0); fits = k }))
typing_sound s emit_cue t v e = given t e (λ h k. rw (← h) (record { types = takes_cue; fits = k }))
typing_sound s (emit_level x) t v e = given t e (λ h k. rw (← h) (record { types = takes_level v; fits = k }))
typing_sound s (both n m) t v e =
    let x = go_on_accepted (typing s n) (λ u. go_on (typing s m) (λ r. gives (par u r))) t e in
    let y = go_on_accepted (typing s m) (λ r. gives (par x.0 r)) t x.2 in
    let a = typing_sound s n x.0 v.0 x.1 in
    let b = typing_sound s m y.0 v.1 y.1 in
    given t y.2 (λ h k. rw (← h)
    (record { types = takes_both a.types b.types; fits = (a.fits, b.fits, rw (output_type_is a.types, output_type_is b.types) k) }))
typing_sound s left_side t v e =
    let r = require_accepted (has_kind 4 s) WrongShape (gives (first_part s)) t e in
    given t r.1 (λ h k. rw (← h) (record { types = rw (made_of 4 s r.0) takes_left; fits = k }))
typing_sound s right_side t v e =
    let r = require_accepted (has_kind 4 s) WrongShape (gives (second_part s)) t e in
    given t r.1 (λ h k. rw (← h) (record { types = rw (made_of 4 s r.0) takes_right; fits = k }))
typing_sound s first t v e =
    let r = require_accepted (has_kind 3 s) WrongShape (gives (first_part s)) t e in
    given t r.1 (λ h k. rw (← h) (record { types = rw (made_of 3 s r.0) takes_first; fits = k }))
typing_sound s second t v e =
    let r = require_accepted (has_kind 3 s) WrongShape (gives (second_part s)) t e in
    given t r.1 (λ h k. rw (← h) (record { types = rw (made_of 3 s r.0) takes_second; fits = k }))
typing_sound s (then n m) t v e =
    let r = require_accepted (has_kind 3 s) WrongShape
    (go_on (typing (first_part s) n) (λ u. go_on (typing (second_part s) m) (λ w. gives (seq u w)))) t e in
    let x = go_on_accepted (typing (first_part s) n) (λ u. go_on (typing (second_part s) m) (λ w. gives (seq u w))) t r.1 in
    let y = go_on_accepted (typing (second_part s) m) (λ w. gives (seq x.0 w)) t x.2 in
    let a = typing_sound (first_part s) n x.0 v.0 x.1 in
    let b = typing_sound (second_part s) m y.0 v.1 y.1 in
    given t y.2 (λ h k. rw (← h)
    (record {
      types = then_types s r.0 a.types b.types;
      fits = (a.fits, b.fits, rw (output_type_is a.types, output_type_is b.types) k);
    }))
typing_sound s (chain n m) t v e =
    let x = go_on_accepted (typing s n) (λ u. go_on (typing u m) (λ r. gives r)) t e in
    let y = go_on_accepted (typing x.0 m) (λ r. gives r) t x.2 in
    let a = typing_sound s n x.0 v.0 x.1 in
    let b = typing_sound x.0 m y.0 v.1 y.1 in
    given t y.2 (λ h k. rw (← h)
    (record { types = takes_chain a.types b.types; fits = rw (output_type_is a.types) (a.fits, b.fits, rw (output_type_is b.types) k) }))
typing_sound s regroup_right t v e =
    let c = has_kind 3 s && has_kind 3 (first_part s) in
    let r = require_accepted c WrongShape (gives (seq (first_part (first_part s)) (seq (second_part (first_part s)) (second_part s)))) t e in
    given t r.1 (λ h k. rw (← h)
    (record {
      types = rw (made_of 3 s (and_left (has_kind 3 s) _ r.0), made_of 3 (first_part s) (and_right (has_kind 3 s) _ r.0)) takes_regroup_right;
      fits = k;
    }))
typing_sound s regroup_left t v e =
    let c = has_kind 3 s && has_kind 3 (second_part s) in
    let r = require_accepted c WrongShape (gives (seq (seq (first_part s) (first_part (second_part s))) (second_part (second_part s)))) t e in
    given t r.1 (λ h k. rw (← h)
    (record {
      types = rw (made_of 3 s (and_left (has_kind 3 s) _ r.0), made_of 3 (second_part s) (and_right (has_kind 3 s) _ r.0)) takes_regroup_left;
      fits = k;
    }))
typing_sound s spread t v e =
    let c = has_kind 3 s && has_kind 4 (second_part s) in
    let r = require_accepted c WrongShape
    (gives (par (seq (first_part s) (first_part (second_part s))) (seq (first_part s) (second_part (second_part s))))) t e in
    given t r.1 (λ h k. rw (← h)
    (record {
      types = rw (made_of 3 s (and_left (has_kind 3 s) _ r.0), made_of 4 (second_part s) (and_right (has_kind 3 s) _ r.0)) takes_spread;
      fits = k;
    }))
typing_sound s front t v e = given t e (λ h k. rw (← h) (record { types = takes_front; fits = k }))
typing_sound s (choose n m) t v e =
    let r = require_accepted (has_kind 5 s) WrongShape
    (go_on (typing (first_part s) n) (λ u. go_on (typing (second_part s) m) (λ w. require (same_type u w) OutputsDiffer (gives u)))) t e in
    let x = go_on_accepted (typing (first_part s) n)
    (λ u. go_on (typing (second_part s) m) (λ w. require (same_type u w) OutputsDiffer (gives u))) t r.1 in
    let y = go_on_accepted (typing (second_part s) m) (λ w. require (same_type x.0 w) OutputsDiffer (gives x.0)) t x.2 in
    let z = require_accepted (same_type x.0 y.0) OutputsDiffer (gives x.0) t y.2 in
    let a = typing_sound (first_part s) n x.0 v.0 x.1 in
    let b = typing_sound (second_part s) m y.0 v.1 y.1 in
    given t z.1 (λ h k. rw (← h)
    (record {
      types = choose_types s r.0 a.types (rw (← same_type_sound x.0 y.0 z.0) at b.types);
      fits = (a.fits, b.fits, rw (output_type_is a.types) k);
    }))
typing_sound s (mark_first u) t v e = given t e (λ h k. rw (← h) (record { types = takes_mark_first; fits = k }))
typing_sound s (mark_second u) t v e = given t e (λ h k. rw (← h) (record { types = takes_mark_second; fits = k }))

-- What is typed and fits is accepted

pub typing-complete : {s t : Ty} {n : Node} → Takes s n t → Fits s n → typing s n ≡ accepted t
unfolding typing output_type
typing-complete takes_pass f = gives_small f
typing-complete (takes_silent z) f = rw (nullable-complete z) (gives_small f)
typing-complete takes_cue f = gives_small f
typing-complete (takes_level v) f = gives_small f
typing-complete (takes_both d e) f =
    rw (typing-complete d f.0, typing-complete e f.1) (gives_small (rw (output_type_is d, output_type_is e) at f.2))
typing-complete takes_left f = gives_small f
typing-complete takes_right f = gives_small f
typing-complete takes_first f = gives_small f
typing-complete takes_second f = gives_small f
typing-complete (takes_then d e) f =
    rw (typing-complete d f.0, typing-complete e f.1) (gives_small (rw (output_type_is d, output_type_is e) at f.2))
typing-complete (takes_chain d e) f =
    let g = rw (output_type_is d) at f.1 in
    let k = rw (output_type_is d, output_type_is e) at f.2 in
    rw (typing-complete d f.0, typing-complete e g) (gives_small k)
typing-complete takes_regroup_right f = gives_small f
typing-complete takes_regroup_left f = gives_small f
typing-complete takes_spread f = gives_small f
typing-complete takes_front f = gives_small f
typing-complete (takes_choose {r = r} d e) f =
    rw (typing-complete d f.0, typing-complete e f.1, same_type-complete r) (gives_small (rw (output_type_is d) at f.2))
typing-complete takes_mark_first f = gives_small f
typing-complete takes_mark_second f = gives_small f

-- The refusals of the pass are a patch's: 4, 6, 7 and 30.

abbrev TypingFault : Fault → Type 0
TypingFault = Listed patch_numbers

gives_refusals : (t : Ty) → Refusals TypingFault (gives t)
unfolding gives
gives_refusals t = require_refusals TypingFault (leb (size t) type_limit) TypeTooLarge (accepted t) refl tt

shaped : (b : Bool) (r : Result Ty) → Refusals TypingFault r → Refusals TypingFault (require b WrongShape r)
shaped b r h = require_refusals TypingFault b WrongShape r refl h

pub typing_refusals : (s : Ty) (n : Node) → Refusals (Listed patch_numbers) (typing s n)
unfolding typing
typing_refusals s pass = gives_refusals s
typing_refusals s (silent n) = require_refusals TypingFault (nullable n) NotNullable (gives n) refl (gives_refusals n)
typing_refusals s emit_cue = gives_refusals cue
typing_refusals s (emit_level v) = gives_refusals level
typing_refusals s (both n m) =
    go_on_refusals TypingFault (typing s n) _ (typing_refusals s n)
    (λ t. go_on_refusals TypingFault (typing s m) _ (typing_refusals s m) (λ r. gives_refusals (par t r)))
typing_refusals s left_side = shaped (has_kind 4 s) _ (gives_refusals (first_part s))
typing_refusals s right_side = shaped (has_kind 4 s) _ (gives_refusals (second_part s))
typing_refusals s first = shaped (has_kind 3 s) _ (gives_refusals (first_part s))
typing_refusals s second = shaped (has_kind 3 s) _ (gives_refusals (second_part s))
typing_refusals s (then n m) =
    shaped (has_kind 3 s) _
    (go_on_refusals TypingFault (typing (first_part s) n) _ (typing_refusals (first_part s) n)
    (λ t. go_on_refusals TypingFault (typing (second_part s) m) _ (typing_refusals (second_part s) m) (λ r. gives_refusals (seq t r))))
typing_refusals s (chain n m) =
    go_on_refusals TypingFault (typing s n) _ (typing_refusals s n)
    (λ t. go_on_refusals TypingFault (typing t m) _ (typing_refusals t m) (λ r. gives_refusals r))
typing_refusals s regroup_right = shaped (has_kind 3 s && has_kind 3 (first_part s)) _ (gives_refusals _)
typing_refusals s regroup_left = shaped (has_kind 3 s && has_kind 3 (second_part s)) _ (gives_refusals _)
typing_refusals s spread = shaped (has_kind 3 s && has_kind 4 (second_part s)) _ (gives_refusals _)
typing_refusals s front = gives_refusals (seq empty s)
typing_refusals s (choose n m) =
    shaped (has_kind 5 s) _
    (go_on_refusals TypingFault (typing (first_part s) n) _ (typing_refusals (first_part s) n)
    (λ t. go_on_refusals TypingFault (typing (second_part s) m) _ (typing_refusals (second_part s) m)
    (λ r. require_refusals TypingFault (same_type t r) OutputsDiffer (gives t) refl (gives_refusals t))))
typing_refusals s (mark_first t) = gives_refusals (either s t)
typing_refusals s (mark_second t) = gives_refusals (either t s)
