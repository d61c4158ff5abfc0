-- Runs: a list of Feed calls is a list of feeds of trees, and so it is as one feed.
use Rattle.std.proofs.Math.Path.{◌≡◌, refl, ap}
use Rattle.std.proofs.Common.{sym, ap₂, ◌∙◌, ⊎_elim, arith, length-append, eqb-true, le_trans}
use Rattle.std.specs.Prelude.{Bool, true, false, ◌↔◌, ℕ, ◌+◌, ◌≤◌, eqb, length, take, drop}
use Rattle.std.proofs.Math.Logic.Iff
use mathlib.Core.List.{List, [], ◌∷◌, ◌++◌, map, append-nil, append_assoc}
use Rattle.std.proofs.Math.Seq.{take-append_seam}
use Rattle.std.proofs.lemmas.Bool.{eqb-false}
use Rattle.stream.specs.Bounds.{arrivals_limit}
use Rattle.stream.specs.Types.{Ty, Small}
use Rattle.stream.specs.Prefixes.{Prefix, IsPrefix, Opens, arrivals, derivative}
use Rattle.stream.proofs.Prefixes.Laws.{closed_derivative, closed_arrivals, concat_is_prefix, derivative-concat, concats, concat-only, derivative-size}
use Rattle.stream.specs.Reading.{Bytes, accepted}
use Rattle.stream.specs.SliceFiles.{slice_file, slice_file_bytes, SliceFile}
use Rattle.stream.proofs.SliceFiles.Laws.{prefix_short, few_arrivals, slice_file-complete}
use Rattle.node.specs.Totals.{Held}
use Rattle.node.proofs.Totals.Laws.{held_test}
use Rattle.node.specs.Nodes.{Node, Allowed, Patch}
use Rattle.node.specs.Feeding.{Feeds, FeedsPatch, Within}
use Rattle.node.specs.Feeding.Functions.{sends, leaves, patch_left}
use Rattle.node.proofs.Feeding.Laws.{Preserved, preserved, leaves_allowed}
use Rattle.node.specs.Feeding.Patches.{FeedsAll, patch_left_all}
use Rattle.node.proofs.Feeding.Patches.{feeds_patch, feeds_patch_only, within_test, feeds_all, patch_left-none, patch_left_next, patch_left-concat_all, as_one_feed, held_along, held_first, within_held}
use Rattle.node.specs.Feeding.Lists.{Pieces, no_more, piece, concat_all, derivative_all, sends_all, arrivals_all}
use Rattle.node.proofs.Feeding.Lists.{arrivals-concat_all, sends_pieces, derivative-concat_all, leaves_all_allowed}
use Rattle.node.specs.PatchFiles.{patch_file_bytes, PatchFile, patch_file, Checked}
use Rattle.stream.specs.Buffers.{at_front}
use Rattle.meaning.specs.declared.Written.{Written}
use Rattle.meaning.specs.declared.Admitted.{Admitted}
use Rattle.meaning.specs.declared.Fed.{Fed}
use Rattle.meaning.specs.Answers.{FedFiles, feed, files_of, fed_files}
use Rattle.meaning.proofs.Answers.Laws.{admit_answers, feed_answers, fed_patch, fed_piece, feed_passed, feed_refuses, longest_answers}
use Rattle.meaning.specs.Promises.{AdmitPromise, FeedPromise, LongestPromise}
use Rattle.demands.specs.Calls.{WroteBoth}
use Rattle.demands.specs.Calls.Laws.{writes_accepted, admits_counts, feeds_exactly, feeds_accepted, feeds_refused, feeds_aside, feeds_number, feed_kept, feeds_alike, left-only}
use Rattle.demands.specs.Runs.{Call, ByteSlices, RunEnd, Ran, no_call, accepted_call, refused_call, Joined, alone, and_next, AsOne, Faithful, Through, NoneShort, handed, NoneLonger}
use Rattle.stream.specs.Prefixes.Functions.{concat}
use Rattle.node.proofs.Nodes.Laws.{output_small, allowed_fits}
use Rattle.stream.specs.TypeFiles.{type_file_bytes}
use Rattle.stream.specs.Longest.{longest_prefix}
use Rattle.stream.proofs.Longest.Laws.{no_file_longer, no_file_longer_later, longest-slice_file}
use Rattle.node.proofs.PatchFiles.Laws.{patch_file-complete}

-- Where a run has come to, by trees.
record Traced (a : Patch) (r : RunEnd) : Type 0 where
  pieces : List Prefix
  are_pieces : Pieces a.input pieces
  patch : r.file ≡ patch_file_bytes (patch_left_all a pieces)
  held : Held (patch_left_all a pieces).totals
  slices : r.slices ≡ map slice_file_bytes pieces
  outputs : r.outputs ≡ map slice_file_bytes (sends_all a.input a.node pieces)
  arrived : r.arrived ≡ arrivals_all pieces
  sent : r.sent ≡ arrivals_all (sends_all a.input a.node pieces)

-- An accepted call more, in front.
one_more : (a : Patch) {p : Prefix} (r : RunEnd) {slice output : List ℕ} {came went : ℕ} → IsPrefix a.input p → slice_file_bytes p ≡ slice
    → slice_file_bytes (sends a.input a.node p) ≡ output → came ≡ arrivals p → went ≡ arrivals (sends a.input a.node p) → Traced (patch_left a p) r
    → Traced a (record { file = r.file; slices = slice ∷ r.slices; outputs = output ∷ r.outputs; arrived = came + r.arrived; sent = went + r.sent })
unfolding sends_all arrivals_all
one_more a {p} r h d e came went t =
    record {
      pieces = p ∷ t.pieces;
      are_pieces = piece h t.are_pieces;
      patch = t.patch ∙ ap patch_file_bytes (patch_left_next a p t.pieces);
      held = held_along (patch_left_next a p t.pieces) t.held;
      slices = ap₂ ◌∷◌ (sym d) t.slices;
      outputs = ap₂ ◌∷◌ (sym e) t.outputs;
      arrived = ap₂ ◌+◌ came t.arrived;
      sent = ap₂ ◌+◌ went t.sent;
    }

traced : (a : Patch) {t : Ty} {start : List ℕ} {r : RunEnd} (calls : List Call) → patch_file_bytes a ≡ start → Allowed a.input a.node t → Held a.totals
    → ByteSlices calls → Ran start calls r → Traced a r
unfolding sends_all arrivals_all
traced a [] e w c b no_call =
    record {
      pieces = [];
      are_pieces = no_more;
      patch = sym e ∙ ap patch_file_bytes (sym (patch_left-none a));
      held = held_along (sym (patch_left-none a)) c;
      slices = refl;
      outputs = refl;
      arrived = refl;
      sent = refl;
    }
traced a (c ∷ calls) e w h b (refused_call k z ran) = traced a calls e w h b.1 ran
traced a (c ∷ calls) e w h b (accepted_call {r = r} k z ran) =
    let x = feeds_accepted k z in
    let p = fed_piece a c.slice x.files w h b.0 (ap (λ f. feed f c.slice) e ∙ x.due) in
    one_more a r p.taken.is_prefix p.taken.bytes (ap (λ (w : FedFiles). w.output) p.files ∙ sym x.output_file)
    (x.arrived ∙ sym (ap (λ (w : FedFiles). w.arrived) p.files)) (x.sent ∙ sym (ap (λ (w : FedFiles). w.sent) p.files))
    (traced (patch_left a p.prefix) calls (ap (λ (w : FedFiles). w.patch) p.files ∙ sym x.patch_file) (leaves_allowed w p.taken.is_prefix)
    p.taken.held b.1 ran)

-- The files of pieces join to their concatenation.

joined_on : {s : Ty} {p : Prefix} (done : List (List ℕ)) (ps : List Prefix) → Joined s done p → IsPrefix s p → Pieces (derivative s p) ps
    → Joined s (done ++ map slice_file_bytes ps) (concat_all p ps)
unfolding concat_all
joined_on done [] j h k = rw (append-nil done) j
joined_on {p = p} done (q ∷ ps) j h (piece k r) =
    rw (← append_assoc done (slice_file_bytes q ∷ []) (map slice_file_bytes ps))
    (joined_on {p = concat p q} (done ++ slice_file_bytes q ∷ []) ps (and_next j k (concats q h k)) (concat_is_prefix q h k) (rw (derivative-concat q h k) r))

joined_all : {s : Ty} {p : Prefix} (ps : List Prefix) → IsPrefix s p → Pieces (derivative s p) ps
    → Joined s (slice_file_bytes p ∷ map slice_file_bytes ps) (concat_all p ps)
joined_all {p = p} ps h k = joined_on (slice_file_bytes p ∷ []) ps (alone h) h k

-- Demand 3 on files, where the joined slice is within the limits of Feed: it sends the outputs joined and leaves the patch that the list
-- of feeds leaves by the rules.
pub fed_joined : {a b : Patch} {t : Ty} {p o : Prefix} {ps os : List Prefix} → Allowed a.input a.node t → Held a.totals
    → Pieces a.input (p ∷ ps) → FeedsAll a (p ∷ ps) (o ∷ os) b → Within a (concat_all p ps)
    → feed (patch_file_bytes a) (slice_file_bytes (concat_all p ps)) ≡ accepted (files_of (concat_all p ps) (concat_all o os) b)
fed_joined {a} w c k fs within =
    let one = as_one_feed w.types k fs in
    feed_answers a w c one.0 within ∙ ap accepted (left-only one.0 one.1)

-- A run of one accepted call or more, by its pieces.
record OneFeed (a : Patch) (t : Ty) (ps : List Prefix) (r : RunEnd) : Type 0 where
  slice : Prefix
  output : Prefix
  slices_joined : Joined a.input r.slices slice
  outputs_joined : Joined t r.outputs output
  fed_as_one : feed (patch_file_bytes a) (slice_file_bytes slice)
      ≡ accepted (record { output = slice_file_bytes output; patch = r.file; arrived = r.arrived; sent = r.sent })
  input_left : derivative_all a.input ps ≡ derivative a.input slice
  output_left : derivative_all t (sends_all a.input a.node ps) ≡ derivative t output

one_feed : (a : Patch) {t : Ty} (r : RunEnd) (ps : List Prefix) → Allowed a.input a.node t → Held a.totals → Pieces a.input ps
    → r.file ≡ patch_file_bytes (patch_left_all a ps) → Held (patch_left_all a ps).totals → r.slices ≡ map slice_file_bytes ps
    → r.outputs ≡ map slice_file_bytes (sends_all a.input a.node ps) → r.arrived ≡ arrivals_all ps
    → r.sent ≡ arrivals_all (sends_all a.input a.node ps) → (r.slices ≡ [] → ⊥) → OneFeed a t ps r
unfolding derivative_all sends_all
one_feed a r [] w c no_more e held d o came went some = absurd (some d)
one_feed a {t} r (p ∷ ps) w c (piece h k) e held d o came went some =
    record {
      slice = concat_all p ps;
      output = concat_all (sends a.input a.node p) sent;
      slices_joined = rw d (joined_all ps h k);
      outputs_joined = rw o (joined_all sent x.sent outputs);
      fed_as_one =
          fed_joined w c (piece h k) (feeds_all a (p ∷ ps) w.types (piece h k)) ((within_held a ps w.types (piece h k)).1 held)
          ∙ (λ i. accepted (record {
            output = slice_file_bytes (concat_all (sends a.input a.node p) sent);
            patch = sym e i;
            arrived = (arrivals-concat_all ps h k ∙ sym came) i;
            sent = (arrivals-concat_all sent x.sent outputs ∙ sym went) i;
          }));
      input_left = sym (derivative-concat_all ps h k);
      output_left = sym (derivative-concat_all sent x.sent outputs);
    }
  where
    x : Preserved a.input a.node t p
    x = preserved w.types h

    sent : List Prefix
    sent = sends_all (derivative a.input p) (leaves a.input a.node p) ps

    outputs : Pieces (derivative t (sends a.input a.node p)) (sends_all (derivative a.input p) (leaves a.input a.node p) ps)
    outputs = sends_pieces ps x.types k

-- Fed a prefix within the limits, a patch file sends and leaves what the rules say.
pub feed_by_rules : {b : Patch} {o : Prefix} {file slice output_lent patch_lent output_after patch_after : List ℕ} {answer : Fed}
    → FeedPromise file slice output_lent patch_lent answer output_after patch_after
    → (patch : PatchFile file) (taken : SliceFile patch.trees.input slice) → Within patch.trees taken.prefix
    → FeedsPatch patch.trees taken.prefix o b
    → length (slice_file_bytes o) ≤ length output_lent → length (patch_file_bytes b) ≤ length patch_lent
    → WroteBoth (files_of taken.prefix o b) output_lent patch_lent answer output_after patch_after
feed_by_rules call patch taken within rule i j =
    feeds_exactly call
    (rw (patch.bytes, taken.bytes) at (feed_answers patch.trees patch.allowed patch.held taken.is_prefix within)
    ∙ ap accepted (left-only taken.is_prefix rule)) i j

-- Where the node stays, on a prefix that opens nothing, and sends nothing, the patch file is written back, byte for byte.
pub stays_on_file : {o : Prefix} {file slice output_lent patch_lent output_after patch_after : List ℕ} {answer : Fed}
    → FeedPromise file slice output_lent patch_lent answer output_after patch_after
    → (patch : PatchFile file) (taken : SliceFile patch.trees.input slice) → (Opens patch.trees.input taken.prefix → ⊥)
    → Feeds patch.trees.input patch.trees.node taken.prefix o patch.trees.node → arrivals o ≡ 0
    → length (slice_file_bytes o) ≤ length output_lent → length file ≤ length patch_lent
    → WroteBoth (record { output = slice_file_bytes o; patch = file; arrived = 0; sent = 0 }) output_lent patch_lent answer output_after patch_after
stays_on_file {o} call patch taken closed rule none_sent i j =
    let a = patch.trees in
    let none_came = closed_arrivals taken.is_prefix closed in
    let came : a.totals.arrived ≡ a.totals.arrived + arrivals taken.prefix = omega (arith, none_came) in
    let went : a.totals.sent ≡ a.totals.sent + arrivals o = omega (arith, none_sent) in
    let fed : FeedsPatch patch.trees taken.prefix o patch.trees = record {
      by_node = rule;
      input_left = sym (closed_derivative taken.is_prefix closed);
      totals_left = λ i. record { arrived = came i; sent = went i };
    } in
    let same = (feeds_patch_only fed taken.is_prefix).1 in
    let within = (within_test a patch.allowed.types taken.is_prefix).0 ((held_test (patch_left a taken.prefix).totals).1 (held_along same patch.held)) in
    rw (patch.bytes, none_came, none_sent) at (feed_by_rules call patch taken within fed i (rw patch.bytes j))

-- No more is counted than the leaves of a type, of what arrived and of what was sent.
pub feeds_few : {file slice output_lent patch_lent output_after patch_after : List ℕ} {answer : Fed}
    → FeedPromise file slice output_lent patch_lent answer output_after patch_after → Bytes file → Bytes slice
    → (answer.arrived ≤ arrivals_limit) × (answer.sent ≤ arrivals_limit)
feeds_few {file} {slice} {answer = answer} call b c = go (eqb answer.number 0) refl
  where
    go : (z : Bool) → eqb answer.number 0 ≡ z → (answer.arrived ≤ arrivals_limit) × (answer.sent ≤ arrivals_limit)
    go true e =
        let accepted_call = feeds_accepted call (eqb-true _ _ e) in
        let patch = fed_patch file slice accepted_call.files b accepted_call.due in
        let allowed = patch.allowed in
        let p = fed_piece patch.trees slice accepted_call.files allowed patch.held c (ap (λ f. feed f slice) patch.bytes ∙ accepted_call.due) in
        let h = p.taken.is_prefix in (
          rw (accepted_call.arrived, ← ap (λ (w : FedFiles). w.arrived) p.files) (few_arrivals h allowed.input_small),
          rw (accepted_call.sent, ← ap (λ (w : FedFiles). w.sent) p.files)
              (few_arrivals (preserved allowed.types h).sent (output_small allowed.types (allowed_fits allowed))),
        )
    go false e = let none = feeds_refused call (eqb-false _ _ e) in (rw none.0 (omega arith), rw none.1 (omega arith))

-- Feed counts as Admit does, what arrived in the slice and what was sent in the output.
pub counts_as_admit : {file slice output_lent patch_lent output_after patch_after : List ℕ} {answer : Fed} {taken sent : Admitted}
    → FeedPromise file slice output_lent patch_lent answer output_after patch_after → answer.number ≡ 0 → (patch : PatchFile file) → Bytes slice
    → AdmitPromise (type_file_bytes patch.trees.input) slice taken
    → AdmitPromise (type_file_bytes patch.output) (take answer.output output_after) sent
    → (answer.arrived ≡ taken.arrived) × (answer.sent ≡ sent.arrived)
counts_as_admit {slice = slice} call zero patch c takes sends_on =
    let fed = feeds_accepted call zero in
    let allowed = patch.allowed in
    let p = fed_piece patch.trees slice fed.files allowed patch.held c (ap (λ f. feed f slice) patch.bytes ∙ fed.due) in
    let h = p.taken.is_prefix in
    let output = ap (λ (w : FedFiles). w.output) p.files ∙ sym fed.output_file in
    let small = output_small allowed.types (allowed_fits allowed) in (
      fed.arrived ∙ sym (ap (λ (w : FedFiles). w.arrived) p.files)
          ∙ sym (admits_counts takes (rw p.taken.bytes at (admit_answers allowed.input_small h))),
      fed.sent ∙ sym (ap (λ (w : FedFiles). w.sent) p.files)
          ∙ sym (admits_counts sends_on (rw output at (admit_answers small (preserved allowed.types h).sent))),
    )

-- The rules define what is sent and left, of every prefix.
pub feed_defined : {file slice : List ℕ} (patch : PatchFile file) (taken : SliceFile patch.trees.input slice)
    → (o : Prefix) × (b : Patch) × FeedsPatch patch.trees taken.prefix o b
feed_defined patch taken = (_, _, feeds_patch patch.trees patch.allowed.types taken.is_prefix)

-- From any patch file, with any calls

module _ {start : List ℕ} {calls : List Call} {r : RunEnd} (ran : Ran start calls r) (patch : PatchFile start) (slices : ByteSlices calls) where
  abbrev input : Ty
  input = patch.trees.input

  abbrev node : Node
  node = patch.trees.node

  trace : Traced patch.trees r
  trace = traced patch.trees calls patch.bytes patch.allowed patch.held slices ran

  pub run_patch : PatchFile r.file
  run_patch =
      let t = trace in
      record {
        trees = patch_left_all patch.trees t.pieces;
        output = derivative_all patch.output (sends_all input node t.pieces);
        allowed = leaves_all_allowed t.pieces patch.allowed t.are_pieces;
        held = t.held;
        bytes = sym t.patch;
      }

  run_as_one : (r.slices ≡ [] → ⊥) → AsOne patch r run_patch
  unfolding run_patch
  run_as_one h =
      let t = trace in
      let one = one_feed patch.trees r t.pieces patch.allowed patch.held t.are_pieces t.patch t.held t.slices t.outputs
      t.arrived t.sent h in
      record {
        slice = one.slice;
        output = one.output;
        slices_joined = one.slices_joined;
        outputs_joined = one.outputs_joined;
        fed_as_one = λ call i j. feeds_exactly call (rw patch.bytes at one.fed_as_one) i j;
        input_left = one.input_left;
        output_left = one.output_left;
      }

  run_none : r.slices ≡ [] → (r.file ≡ start) × (run_patch.trees ≡ patch.trees) × (run_patch.output ≡ patch.output) × (r.arrived ≡ 0) × (r.sent ≡ 0)
  unfolding run_patch derivative_all sends_all arrivals_all
  run_none e = go trace.pieces (sym trace.slices ∙ e) trace.patch trace.arrived trace.sent
    where
      go : (ps : List Prefix) → map slice_file_bytes ps ≡ [] → r.file ≡ patch_file_bytes (patch_left_all patch.trees ps)
          → r.arrived ≡ arrivals_all ps → r.sent ≡ arrivals_all (sends_all input node ps)
          → (r.file ≡ start) × (patch_left_all patch.trees ps ≡ patch.trees)
          × (derivative_all patch.output (sends_all input node ps) ≡ patch.output) × (r.arrived ≡ 0) × (r.sent ≡ 0)
      go [] d h c w = (h ∙ ap patch_file_bytes (patch_left-none patch.trees) ∙ patch.bytes, patch_left-none patch.trees, refl, c, w)
      go (p ∷ ps) d h c w = let z : ◌≡◌ {A = ℕ} 0 1 = cc in absurd (omega arith)

  pub run_faithful : Faithful patch r
  run_faithful = record { next = run_patch; as_one = run_as_one; unmoved = run_none }

-- A run goes through the runs of the initial parts of its list.

pub run_through : {start : List ℕ} {r : RunEnd} (calls more : List Call) → Ran start (calls ++ more) r → Through start calls more r
run_through {r = r} [] more ran =
    let none : (n : ℕ) → n ≡ 0 + n = λ n. omega arith in
    record {
      so_far = _;
      ran = no_call;
      rest = _;
      goes_on = ran;
      comes_to = λ i. record { file = r.file; slices = r.slices; outputs = r.outputs; arrived = none r.arrived i; sent = none r.sent i };
    }
run_through (c ∷ calls) more (refused_call k z ran) =
    let t = run_through calls more ran in
    record { so_far = t.so_far; ran = refused_call k z t.ran; rest = t.rest; goes_on = t.goes_on; comes_to = t.comes_to }
run_through (c ∷ calls) more (accepted_call {answer = answer} {output_after = output} {patch_after = left} {r = r} k z ran) =
    let t = run_through {start = take answer.patch left} calls more ran in
    let came : answer.arrived + r.arrived ≡ answer.arrived + t.so_far.arrived + t.rest.arrived
    = omega (arith, ap (λ (e : RunEnd). e.arrived) t.comes_to) in
    let went : answer.sent + r.sent ≡ answer.sent + t.so_far.sent + t.rest.sent = omega (arith, ap (λ (e : RunEnd). e.sent) t.comes_to) in
    record {
      so_far = _;
      ran = accepted_call k z t.ran;
      rest = t.rest;
      goes_on = t.goes_on;
      comes_to = λ i. let e = t.comes_to i in
          record { file = e.file; slices = c.slice ∷ e.slices; outputs = take answer.output output ∷ e.outputs; arrived = came i; sent = went i };
    }

first_slices : (calls more : List Call) → ByteSlices (calls ++ more) → ByteSlices calls
first_slices [] more b = tt
first_slices (c ∷ calls) more b = (b.0, first_slices calls more b.1)

pub run_faithful_so_far : {start : List ℕ} {r : RunEnd} (calls more : List Call) → Ran start (calls ++ more) r → (patch : PatchFile start)
    → ByteSlices (calls ++ more) → (t : Through start calls more r) × Faithful patch t.so_far
run_faithful_so_far calls more ran patch b = let t = run_through calls more ran in (t, run_faithful t.ran patch (first_slices calls more b))

-- Every list of calls runs, from whatever start, and comes to one thing.

one_call : (start : List ℕ) (c : Call) (calls : List Call) → ((next : List ℕ) → (r : RunEnd) × Ran next calls r)
    → (answer : Fed) (output left : List ℕ) → FeedPromise start c.slice c.output_lent c.patch_lent answer output left
    → (b : Bool) → eqb answer.number 0 ≡ b → (r : RunEnd) × Ran start (c ∷ calls) r
one_call start c calls next answer output left k true e = (_, accepted_call k (eqb-true _ _ e) (next (take answer.patch left)).1)
one_call start c calls next answer output left k false e = (_, refused_call k (eqb-false _ _ e) (next start).1)

pub every_list_runs : (start : List ℕ) (calls : List Call) → (r : RunEnd) × Ran start calls r
every_list_runs start [] = (_, no_call)
every_list_runs start (c ∷ calls) =
    let k = feed_kept start c.slice c.output_lent c.patch_lent in
    one_call start c calls (λ next. every_list_runs next calls) k.0 k.1 k.2 k.3 (eqb k.0.number 0) refl

-- The same calls come to the same.
pub runs_alike : {start : List ℕ} {r q : RunEnd} (calls : List Call) → Ran start calls r → Ran start calls q → r ≡ q
runs_alike [] no_call no_call = refl
runs_alike (c ∷ calls) (refused_call h x ran) (refused_call k y also) = runs_alike calls ran also
runs_alike (c ∷ calls) (refused_call h x ran) (accepted_call k y also) = absurd (x (ap (λ (a : Fed). a.number) (feeds_alike h k).0 ∙ y))
runs_alike (c ∷ calls) (accepted_call h x ran) (refused_call k y also) = absurd (y (ap (λ (a : Fed). a.number) (feeds_alike k h).0 ∙ x))
runs_alike (c ∷ calls) (accepted_call {answer = a} {output_after = o} {patch_after = l} h x ran) (accepted_call {answer = b} {output_after = u} {patch_after = v} {r = q} k y also) =
    let e = feeds_alike h k in
    let next : take b.patch v ≡ take a.patch l = λ i. take (sym e.0 i).patch (sym e.2 i) in
    let d = runs_alike {start = take a.patch l} calls ran (rw next at also) in
    λ i. record {
      file = (d i).file;
      slices = c.slice ∷ (d i).slices;
      outputs = take (e.0 i).output (e.1 i) ∷ (d i).outputs;
      arrived = (e.0 i).arrived + (d i).arrived;
      sent = (e.0 i).sent + (d i).sent;
    }

-- Two runs of the same stream, however it is cut, leave the same patch, send the same joined output and count the same.

same_front : (x y lent : List ℕ) → length x ≡ length y → at_front x lent ≡ at_front y lent → x ≡ y
same_front x y lent n e =
    sym (take-append_seam x (drop (length x) lent)) ∙ ap (take (length x)) e
    ∙ rw n (take-append_seam y (drop (length y) lent))

pub same_stream : {start : List ℕ} {patch : PatchFile start} {r q : RunEnd} {m : PatchFile r.file} {l : PatchFile q.file}
    (a : AsOne patch r m) (b : AsOne patch q l) → a.slice ≡ b.slice
    → (r.file ≡ q.file) × (slice_file_bytes a.output ≡ slice_file_bytes b.output) × (r.arrived ≡ q.arrived) × (r.sent ≡ q.sent)
same_stream {start} {r = r} {q = q} a b e =
    go (feed_kept start (slice_file_bytes a.slice) (one_output ++ other_output) (r.file ++ q.file))
  where
    one_output : List ℕ
    one_output = slice_file_bytes a.output

    other_output : List ℕ
    other_output = slice_file_bytes b.output

    -- Both fed as one, with buffers that hold either answer.
    go : (answer : Fed) × (output : List ℕ) × (left : List ℕ)
        × FeedPromise start (slice_file_bytes a.slice) (slice_file_bytes a.output ++ slice_file_bytes b.output) (r.file ++ q.file) answer output left
        → (r.file ≡ q.file) × (slice_file_bytes a.output ≡ slice_file_bytes b.output) × (r.arrived ≡ q.arrived) × (r.sent ≡ q.sent)
    go (answer, output, left, k) =
        let m = length-append (slice_file_bytes a.output) (slice_file_bytes b.output) in
        let n = length-append r.file q.file in
        let x = a.fed_as_one k (omega arith) (omega arith) in
        let y = b.fed_as_one (rw e at k) (omega arith) (omega arith) in
        let told = sym x.0 ∙ y.0 in (
          same_front r.file q.file _ (ap (λ (f : Fed). f.patch) told) (sym x.2 ∙ y.2),
          same_front (slice_file_bytes a.output) (slice_file_bytes b.output) _ (ap (λ (f : Fed). f.output) told) (sym x.1 ∙ y.1),
          ap (λ (f : Fed). f.arrived) told,
          ap (λ (f : Fed). f.sent) told,
        )

-- Files join to one slice, which is a prefix.

pub joined_is_prefix : {t : Ty} {files : List (List ℕ)} {p : Prefix} → Joined t files p → IsPrefix t p
joined_is_prefix (alone h) = h
joined_is_prefix (and_next {q = q} j k c) = rw (← concat-only c) (concat_is_prefix q (joined_is_prefix j) k)

some_files : {t : Ty} {files : List (List ℕ)} {p : Prefix} → Joined t files p → 1 ≤ length files
some_files (alone h) = omega arith
some_files (and_next {files = files} {q = q} j k c) = omega (arith, length-append files (slice_file_bytes q ∷ []))

one_slice : {t : Ty} {p q : Prefix} → Small t → IsPrefix t p → IsPrefix t q → slice_file_bytes p ≡ slice_file_bytes q → p ≡ q
one_slice {t} {p} {q} w h k e =
    let x : accepted p ≡ accepted q = sym (slice_file-complete h (prefix_short h w)) ∙ ap (slice_file t) e ∙ slice_file-complete k (prefix_short k w) in cc

one_last : (xs ys : List (List ℕ)) (x y : List ℕ) → xs ++ x ∷ [] ≡ ys ++ y ∷ [] → (xs ≡ ys) × (x ≡ y)
one_last [] [] x y e = (refl, cc)
one_last [] (z ∷ ys) x y e = absurd (omega (arith, ap length e, length-append ys (y ∷ [])))
one_last (z ∷ xs) [] x y e = absurd (omega (arith, ap length e, length-append xs (x ∷ [])))
one_last (z ∷ xs) (u ∷ ys) x y e =
    let tail : xs ++ x ∷ [] ≡ ys ++ y ∷ [] = cc in
    let head : z ≡ u = cc in
    let i = one_last xs ys x y tail in
    (ap₂ ◌∷◌ head i.0, i.1)

pub one_joined : {t : Ty} {files also : List (List ℕ)} {p q : Prefix} → Small t → Joined t files p → Joined t also q → files ≡ also → p ≡ q
one_joined w (alone h) (alone k) e = one_slice w h k (cc)
one_joined w (alone h) (and_next {files = gs} {q = y} j k c) e =
    absurd (omega (arith, ap length e, length-append gs (slice_file_bytes y ∷ []), some_files j))
one_joined w (and_next {files = fs} {q = x} j k c) (alone h) e =
    absurd (omega (arith, ap length e, length-append fs (slice_file_bytes x ∷ []), some_files j))
one_joined w (and_next {files = fs} {p = p} {q = x} j k c) (and_next {files = gs} {p = u} {q = y} i l d) e =
    let s = one_last fs gs (slice_file_bytes x) (slice_file_bytes y) e in
    let same = one_joined w j i s.0 in
    let small = le_trans (derivative-size (joined_is_prefix j)) w in
    let last = one_slice small k (rw (← same) at l) s.1 in
    sym (concat-only c) ∙ ap₂ concat same last ∙ concat-only d

-- Two runs from one start whose slices join to the same slice leave the same patch, their outputs join to the same output, and their
-- counts are the same.
module _ {start : List ℕ} {calls others : List Call} {r q : RunEnd} {p : Prefix} (ran : Ran start calls r) (also : Ran start others q)
    (patch : PatchFile start) (b : ByteSlices calls) (c : ByteSlices others) where
  pub runs_agree : Joined patch.trees.input r.slices p → Joined patch.trees.input q.slices p
      → (r.file ≡ q.file) × ((o : Prefix) × Joined patch.output r.outputs o × Joined patch.output q.outputs o)
      × (r.arrived ≡ q.arrived) × (r.sent ≡ q.sent)
  runs_agree j k =
      let one = (run_faithful ran patch b).as_one (λ e. omega (arith, some_files j, ap length e)) in
      let other = (run_faithful also patch c).as_one (λ e. omega (arith, some_files k, ap length e)) in
      let w = patch.allowed.input_small in
      let small = output_small patch.allowed.types (allowed_fits patch.allowed) in
      let slice = one_joined w one.slices_joined j refl ∙ sym (one_joined w other.slices_joined k refl) in
      let same = same_stream one other slice in
      let output = one_slice small (joined_is_prefix one.outputs_joined) (joined_is_prefix other.outputs_joined) same.1 in
      (same.0, (one.output, one.outputs_joined, rw output other.outputs_joined), same.2, same.3)

-- A file is read in one way.

pub one_prefix : {t : Ty} {file : List ℕ} → Small t → (a b : SliceFile t file) → a.prefix ≡ b.prefix
one_prefix w a b = one_slice w a.is_prefix b.is_prefix (a.bytes ∙ sym b.bytes)

pub one_patch : {file : List ℕ} (a b : PatchFile file) → (a.trees ≡ b.trees) × (a.output ≡ b.output)
one_patch {file} a b =
    let x : patch_file file ≡ accepted (record { patch = a.trees; output = a.output }) = rw a.bytes at (patch_file-complete a.allowed a.held) in
    let y : patch_file file ≡ accepted (record { patch = b.trees; output = b.output }) = rw b.bytes at (patch_file-complete b.allowed b.held) in
    let same : ◌≡◌ {A = Checked} (record { patch = a.trees; output = a.output }) (record { patch = b.trees; output = b.output }) = cc in
    (ap (λ (c : Checked). c.patch) same, ap (λ (c : Checked). c.output) same)

-- 31, and the totals of a run

pub feeds_passed : {file slice output_lent patch_lent output_after patch_after : List ℕ} {answer : Fed}
    → FeedPromise file slice output_lent patch_lent answer output_after patch_after → (patch : PatchFile file) → Bytes slice
    → answer.number ≡ 31 ↔ ((taken : SliceFile patch.trees.input slice) × (Within patch.trees taken.prefix → ⊥))
feeds_passed {slice = slice} call patch b = Iff.trans (feeds_number call 31 (λ e. omega (arith, e)) (λ e. omega (arith, e))) (feed_passed slice patch b)

pub run_totals : {start : List ℕ} {calls : List Call} {r : RunEnd} → Ran start calls r → (patch : PatchFile start) → ByteSlices calls
    → (next : PatchFile r.file)
    → next.trees.totals ≡ record { arrived = patch.trees.totals.arrived + r.arrived; sent = patch.trees.totals.sent + r.sent }
unfolding run_patch
run_totals ran patch b next =
    let t = trace ran patch b in
    let c = patch.trees.totals in
    ap (λ (a : Patch). a.totals) (one_patch next (run_patch ran patch b)).0
    ∙ (λ i. record { arrived = c.arrived + sym t.arrived i; sent = c.sent + sym t.sent i })

-- A slice that Feed accepts whole, cut anyhow: every piece is accepted, and the last patch is the same.

-- Prefixes one after the other, of which p is the join and these the files.
record Cut (t : Ty) (files : List (List ℕ)) (p : Prefix) : Type 0 where
  first : Prefix
  rest : List Prefix
  are_pieces : Pieces t (first ∷ rest)
  joins : concat_all first rest ≡ p
  are_files : files ≡ map slice_file_bytes (first ∷ rest)

pieces_last : {t : Ty} {p q : Prefix} (ps : List Prefix) → IsPrefix t p → Pieces (derivative t p) ps → IsPrefix (derivative t (concat_all p ps)) q
    → Pieces (derivative t p) (ps ++ q ∷ [])
unfolding concat_all
pieces_last [] h k l = piece l no_more
pieces_last {p = p} {q = q} (x ∷ ps) h (piece i k) l =
    piece {ps = ps ++ q ∷ []} i (rw (← derivative-concat x h i) (pieces_last {p = concat p x} ps (concat_is_prefix x h i) (rw (derivative-concat x h i) k) l))

concat_all_last : (p q : Prefix) (ps : List Prefix) → concat_all p (ps ++ q ∷ []) ≡ concat (concat_all p ps) q
unfolding concat_all
concat_all_last p q [] = refl
concat_all_last p q (x ∷ ps) = concat_all_last (concat p x) q ps

files_last : (ps : List Prefix) (q : Prefix) → map slice_file_bytes ps ++ slice_file_bytes q ∷ [] ≡ map slice_file_bytes (ps ++ q ∷ [])
files_last [] q = refl
files_last (p ∷ ps) q = ap (λ files. slice_file_bytes p ∷ files) (files_last ps q)

one_file_more : {t : Ty} {files : List (List ℕ)} {p q r : Prefix} (x : Prefix) (xs : List Prefix) → Pieces t (x ∷ xs) → concat_all x xs ≡ p
    → files ≡ map slice_file_bytes (x ∷ xs) → IsPrefix (derivative t p) q → concat p q ≡ r → Cut t (files ++ slice_file_bytes q ∷ []) r
one_file_more {q = q} x xs (piece h i) d f k e =
    record {
      first = x;
      rest = xs ++ q ∷ [];
      are_pieces = piece h (pieces_last {q = q} xs h i (rw d k));
      joins = concat_all_last x q xs ∙ ap (λ y. concat y q) d ∙ e;
      are_files = ap (λ files. files ++ slice_file_bytes q ∷ []) f ∙ files_last (x ∷ xs) q;
    }

joined_cut : {t : Ty} {files : List (List ℕ)} {p : Prefix} → Joined t files p → Cut t files p
unfolding concat_all
joined_cut (alone {p = p} h) = record { first = p; rest = []; are_pieces = piece h no_more; joins = refl; are_files = refl }
joined_cut (and_next j k c) =
    let cut = joined_cut j in
    one_file_more cut.first cut.rest cut.are_pieces cut.joins cut.are_files k (concat-only c)

-- A piece of a stream whose totals are held is due to be fed.
piece_due : (a : Patch) {t : Ty} {start : List ℕ} {p : Prefix} (c : Call) → patch_file_bytes a ≡ start → Allowed a.input a.node t → Held a.totals
    → IsPrefix a.input p → Held (patch_left a p).totals → c.slice ≡ slice_file_bytes p → feed start c.slice ≡ accepted (fed_files a p)
piece_due a {p = p} c e w h k held d =
    ap₂ feed (sym e) d ∙ feed_answers a w h k ((within_test a w.types k).0 ((held_test (patch_left a p).totals).1 held))

all_taken : (a : Patch) {t : Ty} {start : List ℕ} {r : RunEnd} (ps : List Prefix) (calls : List Call) → patch_file_bytes a ≡ start
    → Allowed a.input a.node t → Held a.totals → Pieces a.input ps → Held (patch_left_all a ps).totals
    → handed calls ≡ map slice_file_bytes ps → (ran : Ran start calls r) → NoneShort ran
    → (r.slices ≡ handed calls) × (r.file ≡ patch_file_bytes (patch_left_all a ps))
all_taken a [] [] e w c k held d no_call short = (refl, sym e ∙ ap patch_file_bytes (sym (patch_left-none a)))
all_taken a [] (x ∷ calls) e w c k held d ran short = let z : ◌≡◌ {A = ℕ} 0 1 = cc in absurd (omega arith)
all_taken a (p ∷ ps) [] e w c k held d ran short = let z : ◌≡◌ {A = ℕ} 0 1 = cc in absurd (omega arith)
all_taken a (p ∷ ps) (x ∷ calls) e w c (piece h k) held d (refused_call call not_zero ran) short =
    absurd (⊎_elim not_zero short.0 ((feeds_aside call (feed_refuses _ x.slice)).1 (_, piece_due a x e w c h (held_first a p ps held) (cc))))
all_taken a (p ∷ ps) (x ∷ calls) e w c (piece h k) held d (accepted_call call zero ran) short =
    let now = held_first a p ps held in
    let due = piece_due a x e w c h now (cc) in
    let y = feeds_accepted call zero in
    let same : fed_files a p ≡ y.files = let is_due = y.due in cc in
    let i = all_taken (patch_left a p) ps calls (ap (λ (f : FedFiles). f.patch) same ∙ sym y.patch_file) (leaves_allowed w h) now k
    (held_along (sym (patch_left_next a p ps)) held) (cc) ran short in
    (ap (λ files. x.slice ∷ files) i.0, i.1 ∙ ap patch_file_bytes (patch_left_next a p ps))

pub cut_anyhow : {start slice output_lent patch_lent output_after patch_after : List ℕ} {answer : Fed} {calls : List Call} {r : RunEnd} {p : Prefix}
    → FeedPromise start slice output_lent patch_lent answer output_after patch_after → answer.number ≡ 0 → (patch : PatchFile start) → Bytes slice
    → Joined patch.trees.input (handed calls) p → slice_file_bytes p ≡ slice → (ran : Ran start calls r) → NoneShort ran
    → (r.slices ≡ handed calls) × (r.file ≡ take answer.patch patch_after)
cut_anyhow {start} {slice} {calls = calls} {p = p} call zero patch b j e ran short =
    let a = patch.trees in
    let w = patch.allowed in
    let x = feeds_accepted call zero in
    let whole = fed_piece a slice x.files w patch.held b (ap (λ f. feed f slice) patch.bytes ∙ x.due) in
    let cut = joined_cut j in
    let same = one_slice w.input_small whole.taken.is_prefix (joined_is_prefix j) (whole.taken.bytes ∙ sym e) ∙ sym cut.joins in
    let left = ap (patch_left a) same ∙ patch_left-concat_all a cut.rest w.types cut.are_pieces in
    let taken = all_taken a (cut.first ∷ cut.rest) calls patch.bytes w patch.held cut.are_pieces (held_along left whole.taken.held)
    cut.are_files ran short in
    (taken.0, taken.1 ∙ ap patch_file_bytes (sym left) ∙ ap (λ (f : FedFiles). f.patch) whole.files ∙ sym x.patch_file)

-- No slice of a run, and no output, is longer than the longest slice of its type at the start.

pieces_fit : {t : Ty} {n : ℕ} (ps : List Prefix) → Pieces t ps → length (slice_file_bytes (longest_prefix t)) ≤ n → NoneLonger n (map slice_file_bytes ps)
pieces_fit [] no_more h = tt
pieces_fit {t = t} (p ∷ ps) (piece k rest) h = (
  le_trans (no_file_longer (record { prefix = p; is_prefix = k; bytes = refl })) h,
  pieces_fit {t = derivative t p} ps rest (le_trans (no_file_longer_later k (longest-slice_file _)) h),
)

-- What Longest tells of a type of at most 255 nodes.
longest-told : (t : Ty) {lent lent_after : List ℕ} {answer : Written} → Small t → LongestPromise (type_file_bytes t) lent answer lent_after → answer.number ≡ 0
    → length (slice_file_bytes (longest_prefix t)) ≤ answer.written
longest-told t small call zero =
    let w = writes_accepted call zero in
    let same : slice_file_bytes (longest_prefix t) ≡ w.file = let d = w.due in let e = longest_answers t small in cc in
    omega (arith, ap length same, w.long)

module _ {start : List ℕ} {calls : List Call} {r : RunEnd} (ran : Ran start calls r) (patch : PatchFile start) (b : ByteSlices calls)
    {lent lent_after : List ℕ} {answer : Written} where
  pub run_slices_fit : LongestPromise (type_file_bytes patch.trees.input) lent answer lent_after → answer.number ≡ 0 → NoneLonger answer.written r.slices
  run_slices_fit call zero =
      let t = trace ran patch b in
      rw t.slices (pieces_fit t.pieces t.are_pieces (longest-told patch.trees.input patch.allowed.input_small call zero))

  pub run_outputs_fit : LongestPromise (type_file_bytes patch.output) lent answer lent_after → answer.number ≡ 0 → NoneLonger answer.written r.outputs
  run_outputs_fit call zero =
      let t = trace ran patch b in
      let a = patch.allowed in
      rw t.outputs
      (pieces_fit (sends_all patch.trees.input patch.trees.node t.pieces) (sends_pieces t.pieces a.types t.are_pieces)
      (longest-told patch.output (output_small a.types (allowed_fits a)) call zero))
