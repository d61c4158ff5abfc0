-- What regroup right, regroup left, spread, front and the nodes that mark a choice send: the bytes of the prefix behind others, or the
-- pieces of a nested sequence, once its s has come, in another order.
use Rattle.std.specs.Prelude.{◌≡◌, refl, List, [], ◌∷◌, ◌++◌, ℕ, ◌+◌, ◌-◌, ◌≤◌, length, take, drop, set, Some}
use Rattle.std.proofs.Common.{inl, inr, sym, ap, ◌∙◌, arith, append_assoc, length-drop, take_all}
use Rattle.stream.specs.Types.{Ty}
use Rattle.stream.specs.Buffers.{at_front}
use Rattle.stream.specs.Prefixes.{Prefix, IsPrefix, of_first, of_crossed, of_beside}
use Rattle.stream.specs.SliceFiles.{prefix_bytes}
use Rattle.stream.proofs.SliceFiles.Laws.{prefix_before}
use Rattle.reading.specs.declared.inputs.Input.{Input}
use Rattle.reading.specs.declared.types.Pieces.{Pieces}
use Rattle.reading.specs.declared.inputs.Nested.{Nested}
use Rattle.reading.specs.InputViews.{type, prefix}
use Rattle.reading.specs.SliceReads.{prefix_width}
use Rattle.reading.specs.SliceReads.Laws.{prefix_bytes_length}
use Rattle.reading.specs.Nesting.{Cut, uncut, cut, FirstCut, first_coming, first_one, first_two, SecondCut, second_coming, second_one, second_two, second_sides}
use Rattle.reading.specs.PieceViews.{HowCut, CutInto}
use Rattle.reading.proofs.InputViews.{is_prefix, prefix_in, slice_few}
use Rattle.writing.specs.Appending.Laws.{WrittenSoFar}
use Rattle.writing.specs.Reordering.{regrouped_right, regrouped_left, spread_out}
use Rattle.writing.specs.Rearranging.{Countable, Rearranged}
use Rattle.node.specs.Nodes.{Node, regroup_right, regroup_left, spread, front, Takes, takes_regroup_right, takes_regroup_left, takes_spread}
use Rattle.node.specs.Nodes.Kinds.{node_kind}
use Rattle.node.specs.Feeding.Functions.{sends, leaves}
use Rattle.node.specs.PatchFiles.{node_bytes}
use Rattle.typing.specs.Typing.{Marks}
use Rattle.patch_reading.proofs.NodeParts.{made_of}
use Rattle.leaf_feeding.specs.Steps.Laws.{front_leads, byte_leads}
use Rattle.leaf_feeding.specs.Reordered.{SendDue, Sent, MarkOf}

-- What a node sends and leaves, in bytes; the node left has one.
pub record Sends (t : Ty) (n : Node) (p : Prefix) (bytes : List ℕ) (k : ℕ) : Type 0 where
  pub sent : prefix_bytes (sends t n p) [] ≡ bytes
  pub kept : node_bytes (leaves t n p) [] ≡ k ∷ []

-- If what is sent is written in pieces, and the node left is written, that makes the delivery.
pub delivered : {t : Ty} {n : Node} {p : Prefix} {k many : ℕ} {bytes out remainder out_after : List ℕ} → SendDue t n p out remainder → Sends t n p bytes k
    → WrittenSoFar bytes out out_after many → Sent t n p out remainder out_after (set remainder 0 k) many
delivered {t} {n} {p} {k} {out = out} due is so_far =
    let o = sends t n p in
    let long = prefix_bytes_length o [] in
    let room : length (prefix_bytes o []) ≤ length out = omega (arith, long, due.output_room) in
    record {
      wide = omega (arith, so_far.long, ap length is.sent, long);
      output =
          front_leads (prefix_bytes o []) out
          (so_far.holds.in_front (omega (arith, room, ap length is.sent)) ∙ ap (λ l. at_front l out) (sym is.sent)) room;
      one = ap length is.kept;
      node_left = rw is.kept (byte_leads k due.left_room);
    }

-- How the slice is cut, and in which order its pieces make what is sent.
pub record Reorders (n : Node) (Cuts : Prefix → Cut → Type 0) (order : ℕ → List ℕ → List ℕ → List ℕ → List ℕ) : Type 0 where
  known : (ty u : Ty) (p : Prefix) → Takes ty n u → IsPrefix ty p → HowCut Cuts p
  -- The pieces, and two kinds, are all of it.
  wide : (p : Prefix) (k : ℕ) (s t r : List ℕ) → Cuts p (cut k s t r) → prefix_width p ≡ 2 + (length s + length t + length r)
  turned : (ty u : Ty) (p : Prefix) (k : ℕ) (s t r : List ℕ) → Takes ty n u → IsPrefix ty p → Cuts p (cut k s t r) → Sends ty n p (order k s t r) 0

module _ {n : Node} {Cuts : Prefix → Cut → Type 0} {order : ℕ → List ℕ → List ℕ → List ℕ → List ℕ} (reorders : Reorders n Cuts order)
    (i : Input) {out remainder : List ℕ} (due : SendDue (type i) n (prefix i) out remainder) where
  -- It can be looked for its pieces.
  pub how_cut : HowCut Cuts (prefix i)
  how_cut = reorders.known (type i) due.output_type (prefix i) due.types (is_prefix i)

  -- They are found: they can be written, which makes what is sent.
  module _ (found : Nested) (cuts : CutInto Cuts (prefix i) (Some found)) where
    abbrev pieces : Pieces
    pieces = found.pieces

    pub countable : Countable pieces
    countable =
        omega (arith, reorders.wide (prefix i) found.kind pieces.s.now pieces.t.now pieces.r.now cuts, slice_few i, (prefix_in i).ends)

    pub pieces_delivered : {many : ℕ} {out_after : List ℕ} → Rearranged (order found.kind) pieces out out_after many
        → Sent (type i) n (prefix i) out remainder out_after (set remainder 0 0) many
    pieces_delivered written =
        delivered due
        (reorders.turned (type i) due.output_type (prefix i) found.kind pieces.s.now pieces.t.now pieces.r.now due.types (is_prefix i) cuts)
        written

-- What is put behind the bytes of a prefix.
onto : (p : Prefix) (r s : List ℕ) → prefix_bytes p r ++ s ≡ prefix_bytes p (r ++ s)
onto p r s = rw (prefix_before p r, prefix_before p (r ++ s)) (append_assoc (prefix_bytes p []) r s)

-- Regroup right: 5 6 b q and 6 6 b c q; and 5 5 p, whose bytes stand behind the first byte.

right_cut : {t u : Ty} {p : Prefix} → Takes t regroup_right u → IsPrefix t p → HowCut FirstCut p
right_cut takes_regroup_right (of_crossed (of_first h) d l) = elim d [ ]
right_cut takes_regroup_right (of_first (of_first h)) = record { how = uncut; is_cut = first_coming }
right_cut takes_regroup_right (of_first (of_crossed {b = b} {q = q} h c k)) = record { how = cut 5 (prefix_bytes b []) (prefix_bytes q []) []; is_cut = first_one }
right_cut takes_regroup_right (of_crossed {q = r} (of_crossed {b = b} {q = q} h c k) d l) =
    record { how = cut 6 (prefix_bytes b []) (prefix_bytes q []) (prefix_bytes r []); is_cut = first_two }

first_width : {p : Prefix} {k : ℕ} {s t r : List ℕ} → FirstCut p (cut k s t r) → prefix_width p ≡ 2 + (length s + length t + length r)
unfolding prefix_width
first_width (first_one {b = b} {q = q}) = omega (arith, prefix_bytes_length b [], prefix_bytes_length q [])
first_width (first_two {b = b} {c = c} {q = q}) = omega (arith, prefix_bytes_length b [], prefix_bytes_length c [], prefix_bytes_length q [])

right_sent : {ty u : Ty} {p : Prefix} {k : ℕ} {s t r : List ℕ} → Takes ty regroup_right u → IsPrefix ty p → FirstCut p (cut k s t r)
    → Sends ty regroup_right p (regrouped_right 6 k s t r) 0
unfolding sends leaves node_bytes prefix_bytes
right_sent takes_regroup_right (of_first (of_first h)) cuts = elim cuts [ ]
right_sent takes_regroup_right (of_crossed (of_first h) d l) cuts = elim d [ ]
right_sent takes_regroup_right (of_first (of_crossed h c k)) first_one = record { sent = simp onto; kept = refl }
right_sent takes_regroup_right (of_crossed (of_crossed h c k) d l) first_two = record { sent = simp onto; kept = refl }

pub regroups_right : Reorders regroup_right FirstCut (regrouped_right 6)
regroups_right =
    record {
      known = λ ty u p takes is_prefix. right_cut takes is_prefix;
      wide = λ p k s t r is. first_width is;
      turned = λ ty u p k s t r takes is_prefix is. right_sent takes is_prefix is;
    }

behind_first : {t : Ty} {p : Prefix} {slice : List ℕ} → FirstCut p uncut → slice ≡ prefix_bytes p []
    → Sends t regroup_right p (take (length slice - 1) (drop 1 slice)) 11
unfolding sends leaves node_bytes prefix_bytes
behind_first {slice = slice} first_coming whole =
    record {
      sent = sym (take_all (length slice - 1) (drop 1 slice) (omega (arith, length-drop 1 slice)) ∙ ap (drop 1) whole);
      kept = refl;
    }

-- Its bytes are those of the slice from the second on.
pub right_coming : (i : Input) → FirstCut (prefix i) uncut
    → Sends (type i) regroup_right (prefix i) (take (length i.slice.now - 1) (drop 1 i.slice.now)) 11
right_coming i is = behind_first is (sym i.whole)

-- Regroup left: 6 b 5 q and 6 b 6 c q; and 5 p.

left_cut : {t u : Ty} {p : Prefix} → Takes t regroup_left u → IsPrefix t p → HowCut SecondCut p
left_cut takes_regroup_left (of_first h) = record { how = uncut; is_cut = second_coming }
left_cut takes_regroup_left (of_crossed {b = b} h c (of_first {p = q} k)) = record { how = cut 5 (prefix_bytes b []) (prefix_bytes q []) []; is_cut = second_one }
left_cut takes_regroup_left (of_crossed {b = b} h c (of_crossed {b = q} {q = r} k d l)) =
    record { how = cut 6 (prefix_bytes b []) (prefix_bytes q []) (prefix_bytes r []); is_cut = second_two }

second_width : {p : Prefix} {k : ℕ} {s t r : List ℕ} → SecondCut p (cut k s t r) → prefix_width p ≡ 2 + (length s + length t + length r)
unfolding prefix_width
second_width (second_one {b = b} {q = q}) = omega (arith, prefix_bytes_length b [], prefix_bytes_length q [])
second_width (second_two {b = b} {c = c} {q = q}) = omega (arith, prefix_bytes_length b [], prefix_bytes_length c [], prefix_bytes_length q [])
second_width (second_sides {b = b} {q = q} {r = r}) = omega (arith, prefix_bytes_length b [], prefix_bytes_length q [], prefix_bytes_length r [])

left_sent : {ty u : Ty} {p : Prefix} {k : ℕ} {s t r : List ℕ} → Takes ty regroup_left u → IsPrefix ty p → SecondCut p (cut k s t r)
    → Sends ty regroup_left p (regrouped_left k 6 s t r) 0
unfolding sends leaves node_bytes prefix_bytes
left_sent takes_regroup_left (of_first h) cuts = elim cuts [ ]
left_sent takes_regroup_left (of_crossed h c (of_first k)) second_one = record { sent = simp onto; kept = refl }
left_sent takes_regroup_left (of_crossed h c (of_crossed k d l)) second_two = record { sent = simp onto; kept = refl }

pub regroups_left : Reorders regroup_left SecondCut (λ k. regrouped_left k 6)
regroups_left =
    record {
      known = λ ty u p takes is_prefix. left_cut takes is_prefix;
      wide = λ p k s t r is. second_width is;
      turned = λ ty u p k s t r takes is_prefix is. left_sent takes is_prefix is;
    }

left_behind : {t : Ty} {p : Prefix} → SecondCut p uncut → Sends t regroup_left p (5 ∷ prefix_bytes p []) 12
unfolding sends leaves node_bytes prefix_bytes
left_behind second_coming = record { sent = refl; kept = refl }

pub left_coming : (i : Input) → SecondCut (prefix i) uncut → Sends (type i) regroup_left (prefix i) (5 ∷ i.slice.now) 12
left_coming i is = rw i.whole at (left_behind {t = type i} is)

-- Spread: 6 b 7 q r; and 5 p.

spread_cut : {t u : Ty} {p : Prefix} → Takes t spread u → IsPrefix t p → HowCut SecondCut p
spread_cut takes_spread (of_first h) = record { how = uncut; is_cut = second_coming }
spread_cut takes_spread (of_crossed {b = b} h c (of_beside {p = q} {q = r} k l)) =
    record { how = cut 7 (prefix_bytes b []) (prefix_bytes q []) (prefix_bytes r []); is_cut = second_sides }

spread_sent : {ty u : Ty} {p : Prefix} {k : ℕ} {s t r : List ℕ} → Takes ty spread u → IsPrefix ty p → SecondCut p (cut k s t r)
    → Sends ty spread p (spread_out 7 6 s t r) 0
unfolding sends leaves node_bytes prefix_bytes
spread_sent takes_spread (of_first h) cuts = elim cuts [ ]
spread_sent takes_spread (of_crossed h c (of_beside k l)) second_sides = record { sent = simp onto; kept = refl }

pub spreads : Reorders spread SecondCut (λ k. spread_out 7 6)
spreads =
    record {
      known = λ ty u p takes is_prefix. spread_cut takes is_prefix;
      wide = λ p k s t r is. second_width is;
      turned = λ ty u p k s t r takes is_prefix is. spread_sent takes is_prefix is;
    }

both_sides : {t : Ty} {p : Prefix} → SecondCut p uncut → Sends t spread p (7 ∷ (prefix_bytes p [] ++ prefix_bytes p [])) 13
unfolding sends leaves node_bytes prefix_bytes
both_sides second_coming = record { sent = simp onto; kept = refl }

pub spread_coming : (i : Input) → SecondCut (prefix i) uncut → Sends (type i) spread (prefix i) (7 ∷ (i.slice.now ++ i.slice.now)) 13
spread_coming i is = rw i.whole at (both_sides {t = type i} is)

-- Front: the bytes of nothing crossed into the prefix.
pub front_sent : (i : Input) → Sends (type i) front (prefix i) (6 ∷ 0 ∷ i.slice.now) 0
unfolding sends leaves node_bytes prefix_bytes
front_sent i = record { sent = ap (λ l. 6 ∷ 0 ∷ l) i.whole; kept = refl }

-- Mark first and mark second: the bytes of the prefix behind the mark.
pub marked_sent : (i : Input) (n : Node) {mark : ℕ} → Marks (node_kind n) → MarkOf (node_kind n) mark
    → Sends (type i) n (prefix i) (mark ∷ i.slice.now) 0
unfolding sends leaves node_bytes prefix_bytes
marked_sent i n (inl e) mark_is =
    rw (mark_is.first e, made_of n e) (record { sent = ap (λ l. 9 ∷ l) i.whole; kept = refl })
marked_sent i n (inr e) mark_is =
    rw (mark_is.second e, made_of n e) (record { sent = ap (λ l. 10 ∷ l) i.whole; kept = refl })
