-- The parts of a patch file by what their readers find: a node by where it ends, and totals by how many bytes they are.
use Rattle.std.specs.Prelude.{◌≡◌, refl, Result, Ok, Err, Bool, true, false, List, [], ℕ, ◌-◌, ◌≤◌, ◌<◌, leb, length, take, drop}
use Rattle.std.proofs.Common.{sym, ap, ◌∙◌, arith, take_at}
use Rattle.std.proofs.Math.Seq.{drop-append_seam}
use Rattle.std.proofs.Math.ListN.{drop_of_length-le}
use Rattle.stream.specs.declared.Fault.{Fault}
use Rattle.stream.specs.declared.Fault.TheVariants.{CutShort, LeftOver}
use Rattle.stream.specs.Reading.{Reading, Bytes, read, fault, found, accepted, read_on, require, whole, followed_by, read_number, counted, section}
use Rattle.stream.proofs.Reading.Laws.{section_sound}
use Rattle.reading.specs.Sections.{end_of}
use Rattle.reading.specs.Sections.Laws.{byte_behind, none_behind}
use Rattle.reading.specs.Reads.{all_bytes}
use Rattle.node.specs.Totals.{read_totals, totals_section}
use Rattle.node.proofs.Totals.Laws.{held_test, totals_there, totals_missing, read_totals_sound}
use Rattle.node.specs.Nodes.{Node}
use Rattle.node.specs.PatchFiles.{node_bytes, read_node}
use Rattle.node.proofs.PatchFiles.Laws.{read_node_sound}
use Rattle.patch_reading.specs.Found.{OneNode, totals_of, AreTotals}
use Rattle.patch_reading.specs.PatchReads.{node_width, NodeAt}
use Rattle.patch_reading.specs.PatchReads.Laws.{node_before, node_bytes_length}
use Rattle.patch_reading.proofs.NodeFronts.{has_node}

-- The node at the front of s ends at `end`.
pub record NodeEnds (s : List ℕ) (end : ℕ) : Type 0 where
  pub node : Node
  pub fits : end ≤ length s
  pub stands : NodeAt (take end s) 0 node
  pub one : OneNode (take end s)
  pub reads : read_node s ≡ read node (drop end s)

pub node_ended : (s : List ℕ) (end : ℕ) → Bytes s → Ok end ≡ end_of (length s) (read_node s) → NodeEnds s end
unfolding end_of
node_ended s end b e = go (read_node s) refl
  where
    go : (g : Reading Node) → read_node s ≡ g → NodeEnds s end
    go (fault x) is = let z : ◌≡◌ {A = Result ℕ Fault} (Ok end) (Err x) = rw (is, end_of) at e in absurd cc
    go (read n r) is =
        let f = read_node_sound s n r b is in
        let z : ◌≡◌ {A = Result ℕ Fault} (Ok end) (Ok (length s - length r)) = rw (is, end_of) at e in
        let w : end ≡ length s - length r = cc in
        let long = ap length f.bytes in
        let h : node_width n ≡ end = omega (arith, node_bytes_length n r) in
        let d : drop end s ≡ r = rw (← f.bytes, ← h, node_before n r) (drop-append_seam (node_bytes n []) r) in
        let there : take end s ≡ node_bytes n [] = rw (← f.bytes, node_before n r) (take_at (node_bytes n []) r end h) in
        let stands : NodeAt (take end s) 0 n = record { rest = []; here = there; carries = f.carries } in
        record {
          node = n;
          fits = omega arith;
          stands = stands;
          one = (rw (has_node stands) (sym there), rw (has_node stands) f.few);
          reads = is ∙ ap (read n) (sym d);
        }

-- A section with the contents `body`, by what these are read as.
section_of : {A : Type 0} (contents : List ℕ → Reading A) (s body rest : List ℕ) → read body rest ≡ section CutShort LeftOver all_bytes s
    → section CutShort LeftOver contents s ≡ followed_by rest (whole LeftOver (contents body))
unfolding section counted
section_of contents s body rest told = go (read_number CutShort 2 s) told
  where
    on : (n : ℕ) (r : List ℕ) (b : Bool) → read body rest ≡ followed_by (drop n r) (require b CutShort (accepted (take n r)))
        → followed_by (drop n r) (require b CutShort (whole LeftOver (contents (take n r)))) ≡ followed_by rest (whole LeftOver (contents body))
    on n r true h = let e : take n r ≡ body = cc in let d : drop n r ≡ rest = cc in rw (e, d) refl
    on n r false h = absurd cc

    go : (g : Reading ℕ) → read body rest ≡ read_on g (counted CutShort LeftOver all_bytes)
        → read_on g (counted CutShort LeftOver contents) ≡ followed_by rest (whole LeftOver (contents body))
    go (fault e) h = absurd cc
    go (read n r) h = on n r (leb n (length r)) h

module _ (s body rest : List ℕ) (told : read body rest ≡ section CutShort LeftOver all_bytes s) where
  pub totals_short : length body < 8 → fault CutShort ≡ totals_section s
  unfolding totals_section
  totals_short h =
      sym (section_of read_totals s body rest told ∙ ap (λ g. followed_by rest (whole LeftOver g)) (totals_missing body h))

  pub totals_long : 8 < length body → fault LeftOver ≡ totals_section s
  unfolding totals_section
  totals_long h =
      let there = totals_there body (omega arith) in
      sym (section_of read_totals s body rest told ∙ ap (λ g. followed_by rest (whole LeftOver g)) there.1
      ∙ ap (followed_by rest) (byte_behind LeftOver there.0 body 8 h))

  pub totals_read : 8 ≤ length body → length body ≤ 8 → read (totals_of body) rest ≡ totals_section s
  unfolding totals_section totals_of
  totals_read least most =
      let there = totals_there body least in
      sym (section_of read_totals s body rest told ∙ ap (λ g. followed_by rest (whole LeftOver g)) there.1
      ∙ ap (followed_by rest) (none_behind LeftOver there.0 body 8 most)
      ∙ ap (λ g. read (found (record { arrived = 0; sent = 0 }) g) rest) (sym there.1))

  pub totals_are : Bytes s → 8 ≤ length body → length body ≤ 8 → AreTotals body
  unfolding totals_of
  totals_are b least most =
      let held_in = section_sound CutShort LeftOver all_bytes s body rest b (sym told) in
      let inside = held_in.inside in
      let same : held_in.body ≡ body = cc in
      let there = totals_there body least in
      let f = read_totals_sound body there.0 (drop 8 body) (rw same at held_in.body_bytes) there.1 in
      let none : drop 8 body ≡ [] = drop_of_length-le body most in
      let is : found (record { arrived = 0; sent = 0 }) (read_totals body) ≡ there.0 = ap (found _) there.1 in
      (rw is (rw none at f.bytes), rw is ((held_test there.0).1 f.within))
