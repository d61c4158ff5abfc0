-- Prefixes by their kind bytes: how many parts a kind has, which they are, and sums over the nodes of a prefix by their kinds.
-- What goes through the bytes of a slice goes by these tables.
use Rattle.std.specs.Prelude.{◌≡◌, refl, List, [], ◌∷◌, ◌++◌, ℕ, suc, ◌+◌, length, get_or}
use Rattle.std.proofs.Common.{arith}
use Rattle.stream.specs.Levels.{value_width}
use Rattle.stream.specs.Prefixes.{Prefix, nothing, cue_awaited, cue_come, level_awaited, level_come, in_first, crossed, beside, none_chosen, first_chosen, second_chosen, arrivals}

abbrev pub prefix_kind : Prefix → ℕ
prefix_kind nothing = 0
prefix_kind cue_awaited = 1
prefix_kind cue_come = 2
prefix_kind level_awaited = 3
prefix_kind (level_come v) = 4
prefix_kind (in_first p) = 5
prefix_kind (crossed b q) = 6
prefix_kind (beside p q) = 7
prefix_kind none_chosen = 8
prefix_kind (first_chosen p) = 9
prefix_kind (second_chosen p) = 10

-- How many parts each kind has, by its number; of a byte that is no slice's kind nobody asks.
abbrev pub prefix_arities : List ℕ
prefix_arities = 0 ∷ 0 ∷ 0 ∷ 0 ∷ 0 ∷ 1 ∷ 2 ∷ 2 ∷ 0 ∷ 1 ∷ 1 ∷ []

abbrev pub prefix_arity : ℕ → ℕ
prefix_arity k = get_or prefix_arities k 2

-- How many bytes a node takes without its parts: its kind, and behind a level that has come the value.
abbrev pub root_widths : List ℕ
root_widths = 1 ∷ 1 ∷ 1 ∷ 1 ∷ suc value_width ∷ 1 ∷ 1 ∷ 1 ∷ 1 ∷ 1 ∷ 1 ∷ []

abbrev pub root_width : ℕ → ℕ
root_width k = get_or root_widths k 1

-- The parts, left to right.
abbrev pub prefix_parts : Prefix → List Prefix
prefix_parts nothing = []
prefix_parts cue_awaited = []
prefix_parts cue_come = []
prefix_parts level_awaited = []
prefix_parts (level_come v) = []
prefix_parts (in_first p) = p ∷ []
prefix_parts (crossed b q) = b ∷ q ∷ []
prefix_parts (beside p q) = p ∷ q ∷ []
prefix_parts none_chosen = []
prefix_parts (first_chosen p) = p ∷ []
prefix_parts (second_chosen p) = p ∷ []

-- A part, from the left.
abbrev pub piece : ℕ → Prefix → Prefix
piece i p = get_or (prefix_parts p) i nothing

pub prefix_parts_many : (p : Prefix) → length (prefix_parts p) ≡ prefix_arity (prefix_kind p)
prefix_parts_many nothing = refl
prefix_parts_many cue_awaited = refl
prefix_parts_many cue_come = refl
prefix_parts_many level_awaited = refl
prefix_parts_many (level_come v) = refl
prefix_parts_many (in_first p) = refl
prefix_parts_many (crossed b q) = refl
prefix_parts_many (beside p q) = refl
prefix_parts_many none_chosen = refl
prefix_parts_many (first_chosen p) = refl
prefix_parts_many (second_chosen p) = refl

-- The sum over the nodes of a prefix of a number for each kind; over several prefixes; and over nodes of which the kinds are
-- listed. How many bytes a prefix has, how many nodes, and how many cues and levels have come in it are such sums.
unfoldable pub tally : (ℕ → ℕ) → Prefix → ℕ
tally weight nothing = weight 0
tally weight cue_awaited = weight 1
tally weight cue_come = weight 2
tally weight level_awaited = weight 3
tally weight (level_come v) = weight 4
tally weight (in_first p) = weight 5 + tally weight p
tally weight (crossed b q) = weight 6 + (tally weight b + tally weight q)
tally weight (beside p q) = weight 7 + (tally weight p + tally weight q)
tally weight none_chosen = weight 8
tally weight (first_chosen p) = weight 9 + tally weight p
tally weight (second_chosen p) = weight 10 + tally weight p

abbrev pub tallies : (ℕ → ℕ) → List Prefix → ℕ
tallies weight [] = 0
tallies weight (p ∷ ps) = tally weight p + tallies weight ps

abbrev pub totals : (ℕ → ℕ) → List ℕ → ℕ
totals weight [] = 0
totals weight (k ∷ ks) = weight k + totals weight ks

pub tallies_append : (weight : ℕ → ℕ) (ps qs : List Prefix) → tallies weight (ps ++ qs) ≡ tallies weight ps + tallies weight qs
tallies_append weight [] qs = omega arith
tallies_append weight (p ∷ ps) qs = omega (arith, tallies_append weight ps qs)

-- A cue or a level that has come is an arrival, by its kind.
abbrev pub arrivals_by_kind : List ℕ
arrivals_by_kind = 0 ∷ 0 ∷ 1 ∷ 0 ∷ 1 ∷ 0 ∷ 0 ∷ 0 ∷ 0 ∷ 0 ∷ 0 ∷ []

abbrev pub root_arrivals : ℕ → ℕ
root_arrivals k = get_or arrivals_by_kind k 0

pub arrivals-tally : (p : Prefix) → arrivals p ≡ tally root_arrivals p
unfolding arrivals tally
arrivals-tally nothing = refl
arrivals-tally cue_awaited = refl
arrivals-tally cue_come = refl
arrivals-tally level_awaited = refl
arrivals-tally (level_come v) = refl
arrivals-tally (in_first p) = omega (arith, arrivals-tally p)
arrivals-tally (crossed b q) = omega (arith, arrivals-tally b, arrivals-tally q)
arrivals-tally (beside p q) = omega (arith, arrivals-tally p, arrivals-tally q)
arrivals-tally none_chosen = refl
arrivals-tally (first_chosen p) = omega (arith, arrivals-tally p)
arrivals-tally (second_chosen p) = omega (arith, arrivals-tally p)

-- A node counts for its kind, and its parts for themselves.
pub tally_by_parts : (weight : ℕ → ℕ) (p : Prefix) → tally weight p ≡ weight (prefix_kind p) + tallies weight (prefix_parts p)
unfolding tally
tally_by_parts weight nothing = omega arith
tally_by_parts weight cue_awaited = omega arith
tally_by_parts weight cue_come = omega arith
tally_by_parts weight level_awaited = omega arith
tally_by_parts weight (level_come v) = omega arith
tally_by_parts weight (in_first p) = omega arith
tally_by_parts weight (crossed b q) = omega arith
tally_by_parts weight (beside p q) = omega arith
tally_by_parts weight none_chosen = omega arith
tally_by_parts weight (first_chosen p) = omega arith
tally_by_parts weight (second_chosen p) = omega arith
