-- The output type of the rules is the function's; every type that arises is within the limit exactly if the function says so.
use Rattle.std.specs.Prelude.{◌≡◌, refl}
use Rattle.std.proofs.Common.{ap₂}
use Rattle.stream.specs.Types.{Ty, seq, par, Small}
use Rattle.node.specs.Nodes.{Node, Takes, takes_pass, takes_silent, takes_cue, takes_level, takes_both, takes_left, takes_right, takes_first, takes_second, takes_then, takes_chain, takes_regroup_right, takes_regroup_left, takes_spread, takes_front, takes_choose, takes_mark_first, takes_mark_second, Arises, given, in_both_first, in_both_second, in_then_first, in_then_second, in_chain_first, in_chain_second, in_choose_first, in_choose_second, Allowed, Few}
use Rattle.node.specs.Nodes.Functions.{output_type, Fits}

pub output_type_is : {s t : Ty} {n : Node} → Takes s n t → output_type s n ≡ t
unfolding output_type
output_type_is takes_pass = refl
output_type_is (takes_silent h) = refl
output_type_is takes_cue = refl
output_type_is (takes_level h) = refl
output_type_is (takes_both d e) = ap₂ par (output_type_is d) (output_type_is e)
output_type_is takes_left = refl
output_type_is takes_right = refl
output_type_is takes_first = refl
output_type_is takes_second = refl
output_type_is (takes_then d e) = ap₂ seq (output_type_is d) (output_type_is e)
output_type_is (takes_chain d e) = rw (output_type_is d) (output_type_is e)
output_type_is takes_regroup_right = refl
output_type_is takes_regroup_left = refl
output_type_is takes_spread = refl
output_type_is takes_front = refl
output_type_is (takes_choose d e) = output_type_is d
output_type_is takes_mark_first = refl
output_type_is takes_mark_second = refl

-- The output type is within the limit, as every type given is.
pub output_small : {s t : Ty} {n : Node} → Takes s n t → Fits s n → Small t
unfolding output_type
output_small takes_pass f = f
output_small (takes_silent z) f = f
output_small takes_cue f = f
output_small (takes_level v) f = f
output_small (takes_both d e) f = rw (output_type_is d, output_type_is e) at f.2
output_small takes_left f = f
output_small takes_right f = f
output_small takes_first f = f
output_small takes_second f = f
output_small (takes_then d e) f = rw (output_type_is d, output_type_is e) at f.2
output_small (takes_chain d e) f = rw (output_type_is d, output_type_is e) at f.2
output_small takes_regroup_right f = f
output_small takes_regroup_left f = f
output_small takes_spread f = f
output_small takes_front f = f
output_small (takes_choose d e) f = rw (output_type_is d) at f.2
output_small takes_mark_first f = f
output_small takes_mark_second f = f

-- The limit on every type that arises: the function is the rule

pub arises_small : {s t : Ty} {n : Node} → Arises s n t → Fits s n → Small t
unfolding output_type
arises_small (given d) f = output_small d f
arises_small (in_both_first a) f = arises_small a f.0
arises_small (in_both_second a) f = arises_small a f.1
arises_small (in_then_first a) f = arises_small a f.0
arises_small (in_then_second a) f = arises_small a f.1
arises_small (in_chain_first a) f = arises_small a f.0
arises_small (in_chain_second d a) f = arises_small a (rw (output_type_is d) at f.1)
arises_small (in_choose_first a) f = arises_small a f.0
arises_small (in_choose_second a) f = arises_small a f.1

abbrev EachSmall : Ty → Node → Type 0
EachSmall s n = (t : Ty) → Arises s n t → Small t

output_type_small : {s t : Ty} {n : Node} → Takes s n t → EachSmall s n → Small (output_type s n)
output_type_small d h = rw (output_type_is d) (h _ (given d))

pub fits_of : {s t : Ty} {n : Node} → Takes s n t → ((u : Ty) → Arises s n u → Small u) → Fits s n
unfolding output_type
fits_of takes_pass h = h _ (given takes_pass)
fits_of (takes_silent z) h = h _ (given (takes_silent z))
fits_of takes_cue h = h _ (given takes_cue)
fits_of (takes_level v) h = h _ (given (takes_level v))
fits_of (takes_both d e) h =
    (fits_of d (λ u a. h u (in_both_first a)), fits_of e (λ u a. h u (in_both_second a)), output_type_small (takes_both d e) h)
fits_of takes_left h = h _ (given takes_left)
fits_of takes_right h = h _ (given takes_right)
fits_of takes_first h = h _ (given takes_first)
fits_of takes_second h = h _ (given takes_second)
fits_of (takes_then d e) h =
    (fits_of d (λ u a. h u (in_then_first a)), fits_of e (λ u a. h u (in_then_second a)), output_type_small (takes_then d e) h)
fits_of (takes_chain d e) h = (
  fits_of d (λ u a. h u (in_chain_first a)),
  rw (output_type_is d) (fits_of e (λ u a. h u (in_chain_second d a))),
  output_type_small (takes_chain d e) h,
)
fits_of takes_regroup_right h = h _ (given takes_regroup_right)
fits_of takes_regroup_left h = h _ (given takes_regroup_left)
fits_of takes_spread h = h _ (given takes_spread)
fits_of takes_front h = h _ (given takes_front)
fits_of (takes_choose d e) h =
    (fits_of d (λ u a. h u (in_choose_first a)), fits_of e (λ u a. h u (in_choose_second a)), output_type_small (takes_choose d e) h)
fits_of takes_mark_first h = h _ (given takes_mark_first)
fits_of takes_mark_second h = h _ (given takes_mark_second)

-- A patch that is allowed, by the function
module _ {s t : Ty} {n : Node} where
  pub is_allowed : Takes s n t → Small s → Few n → Fits s n → Allowed s n t
  is_allowed d small few fits = record { types = d; input_small = small; few = few; each_small = λ u a. arises_small a fits }

  pub allowed_fits : Allowed s n t → Fits s n
  allowed_fits a = fits_of a.types a.each_small
