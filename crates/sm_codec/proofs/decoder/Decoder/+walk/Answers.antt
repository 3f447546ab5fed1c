use Rattle.std.proofs.Common.{◌≡◌, ◌+◌, ◌∷◌, [], drop, refl, ap, sym, ◌∙◌, subst, arith}
use Rattle.std.proofs.lemmas.List.{drop_more, drop_all}
use Rattle.sm_tree.specs.Building.{in_list}
use Rattle.sm_tree.specs.Node.{list, object, nodes_of, members_of}
use Rattle.sm_tree.specs.View.{node_of, nodes_view, members_view}
use Rattle.sm_tree.specs.steps.Weight.{nodes_weight, members_weight}
use Rattle.sm_shapes.specs.TableView.{table_data}
use Rattle.sm_codec.specs.Codec.{codec_of}
use Rattle.sm_codec.specs.Decoding as decoding
use Rattle.sm_codec.specs.DecodingView.{decoding_of}
use Rattle.sm_codec.specs.OpeningView.{Opens}
use Rattle.sm_codec.specs.PlaceView.{place_of}
use Rattle.sm_codec.specs.Sorts.{sort_of}
use Rattle.sm_codec.specs.StackView.{frames_of}
use Rattle.sm_codec.specs.steps.DecoderSteps.{EndedBy}
use Rattle.sm_codec.specs.steps.OpeningSteps.{LeafTaken, FirstNames}
use Rattle.sm_codec.specs.steps.WalkSteps.{IsLeafAt, next_place, TreeTaken, PairTaken}
use Rattle.sm_codec.proofs.StructureOutcome.{known_by}
use Rattle.sm_codec.proofs.Walked.{leaf_walked, level_ended, list_opens, entry_took, all_entries, object_opens, pair_took}
use Rattle.sm_codec.proofs.Walked.{known_ready, known_took, object_can_end, object_ended, unknown_took}
use Rattle.sm_codec.proofs.decoder.Decoder.+walk.Goals as goal

pub walk-returns-in-Leaf-clause-taken : goal.walk-returns-in-Leaf-clause-taken
walk-returns-in-Leaf-clause-taken g t c =
    let k = codec_of (table_data c.args.table.now) (g.L.Leaves.convention c.args.leaves.now) g.P.Patterns.test in
    let d = decoding_of c.args.self.now in
    let n = node_of c.args.tree.now in
    let p = place_of c.place-place.result in
    let e = decoding_of c.take_leaf.new.self in
    let is : IsLeafAt (sort_of k.table p) n = subst (Opens (sort_of k.table p) n) c.in-Leaf.is c.opens.ensures in
    known_by (λ u. LeafTaken k.table k.convention k.test p n d.frames e) (λ u. TreeTaken k n d e) c.take_leaf.result
    (λ u taken. leaf_walked k n d e p c.place-place.ensures is taken) c.take_leaf.ensures.taken

pub walk_list-loop-item-init : goal.walk_list-loop-item-init
walk_list-loop-item-init g t c =
    let k = codec_of (table_data c.args.table.now) (g.L.Leaves.convention c.args.leaves.now) g.P.Patterns.test in
    let d = decoding_of c.args.self.now in
    let now : decoding.Decoding = record { shape = d.shape; frames = frames_of c.push.new.self; result = d.result } in
    record {
      sofar = list_opens k d now (place_of c.args.place) (nodes_view c.args.items.now) c.requires.list c.requires.at c.requires.ready.2 refl
          (c.in-Ok.ensures ∙ ap (λ f. f ∷ d.frames) c.list_at.ensures);
      shape = refl;
      added = refl;
      refused = refl;
      refusals = refl;
      weight = omega arith;
    }

pub walk_list-loop-item-preserved : goal.walk_list-loop-item-preserved
walk_list-loop-item-preserved g t c =
    let k = codec_of (table_data c.args.table.now) (g.L.Leaves.convention c.args.leaves.now) g.P.Patterns.test in
    let d = decoding_of c.args.self.now in
    let all = c.args.items.now in
    let i = c.loop-item.item-index in
    let item = c.item-item.result in
    let view : nodes_view (drop i all) ≡ node_of item ∷ nodes_view (drop (i + 1) all) =
    ap nodes_view (drop_more all i item c.loop-item-test.true ∙ ap (λ y. y ∷ drop (i + 1) all) (sym c.item-item.is)) in
    record {
      sofar = entry_took k (next_place k.table d) d.frames (nodes_view all) (nodes_view (drop i all))
          (decoding_of c.loop-item.self) c.requires.laws
          c.requires.shaped c.requires.ready.0 c.requires.list c.loop-item.invariant.sofar (node_of item) (nodes_view (drop (i + 1) all))
          (decoding_of c.walk.new.self) view c.in-Ok-walk.ensures.taken;
      shape = c.walk.ensures.shape ∙ c.loop-item.invariant.shape;
      added = c.walk.ensures.added ∙ c.loop-item.invariant.added;
      refused = c.walk.ensures.refused ∙ c.loop-item.invariant.refused;
      refusals = c.walk.ensures.refusals ∙ c.loop-item.invariant.refusals;
      weight = omega (arith, ap (λ ns. nodes_weight (nodes_of ns)) view, c.loop-item.invariant.weight);
    }

pub walk_list-returns-clause-taken : goal.walk_list-returns-clause-taken
walk_list-returns-clause-taken g t c =
    let k = codec_of (table_data c.args.table.now) (g.L.Leaves.convention c.args.leaves.now) g.P.Patterns.test in
    let d = decoding_of c.args.self.now in
    let all = c.args.items.now in
    let i = c.loop-item.item-index in
    let now = decoding_of c.loop-item.self in
    let none = ap nodes_view (drop_all i all c.loop-item-test.false) in
    let at = all_entries k (next_place k.table d) d.frames (nodes_view all) (nodes_view (drop i all)) now c.requires.laws c.requires.shaped
    c.requires.ready.0 c.requires.list c.loop-item.invariant.sofar none in
    let e = decoding_of c.end.new.self in
    let n = list (nodes_of (nodes_view all)) in
    known_by (λ u. EndedBy k.table k.test now.shape now.frames e) (λ u. TreeTaken k n d e) c.end.result
    (λ u by. level_ended k (in_list (nodes_view all) []) d now e c.requires.shaped refl c.requires.ready c.loop-item.invariant.shape at
    by) c.end.ensures.ended

pub walk_object-loop-pair-init : goal.walk_object-loop-pair-init
walk_object-loop-pair-init g t c =
    let k = codec_of (table_data c.args.table.now) (g.L.Leaves.convention c.args.leaves.now) g.P.Patterns.test in
    let d = decoding_of c.args.self.now in
    let now : decoding.Decoding = record { shape = d.shape; frames = frames_of c.push.new.self; result = d.result } in
    record {
      sofar = object_opens k d now (place_of c.args.place) (members_view c.args.pairs.now) c.requires.object c.requires.at
          c.requires.ready.2 refl
          (c.in-Ok.ensures ∙ ap (λ f. f ∷ d.frames) c.object_at.ensures);
      shape = refl;
      added = refl;
      refused = refl;
      refusals = refl;
      weight = omega arith;
    }

pub walk_object-loop-pair-preserved : goal.walk_object-loop-pair-preserved
walk_object-loop-pair-preserved g t c =
    let k = codec_of (table_data c.args.table.now) (g.L.Leaves.convention c.args.leaves.now) g.P.Patterns.test in
    let d = decoding_of c.args.self.now in
    let all = c.args.pairs.now in
    let i = c.loop-pair.pair-index in
    let item = c.pair-item.result in
    let n = node_of item.1 in
    let before = decoding_of c.loop-pair.self in
    let e = decoding_of c.walk_pair.new.self in
    let view : members_view (drop i all) ≡ (item.0, n) ∷ members_view (drop (i + 1) all) =
    ap members_view (drop_more all i item c.loop-pair-test.true ∙ ap (λ y. y ∷ drop (i + 1) all) (sym c.pair-item.is)) in
    record {
      sofar = pair_took k (next_place k.table d) d.frames (members_view all) (members_view (drop i all)) before c.requires.ready.0
          c.loop-pair.invariant.sofar item.0 n (members_view (drop (i + 1) all)) e view
          c.in-Ok-walk_pair.ensures.taken;
      shape = c.walk_pair.ensures.shape ∙ c.loop-pair.invariant.shape;
      added = c.walk_pair.ensures.added ∙ c.loop-pair.invariant.added;
      refused = c.walk_pair.ensures.refused ∙ c.loop-pair.invariant.refused;
      refusals = c.walk_pair.ensures.refusals ∙ c.loop-pair.invariant.refusals;
      weight = omega (arith, ap (λ ns. members_weight (members_of ns)) view, c.loop-pair.invariant.weight);
    }

pub walk_object-end-requires-clause-can : goal.walk_object-end-requires-clause-can
walk_object-end-requires-clause-can g t c =
    let k = codec_of (table_data c.args.table.now) (g.L.Leaves.convention c.args.leaves.now) g.P.Patterns.test in
    let all = c.args.pairs.now in
    let i = c.loop-pair.pair-index in
    object_can_end k (decoding_of c.args.self.now) (decoding_of c.loop-pair.self) (members_view all)
    (members_view (drop i all)) c.requires.shaped c.requires.ready c.loop-pair.invariant.shape c.loop-pair.invariant.sofar
    (ap members_view (drop_all i all c.loop-pair-test.false))

pub walk_object-returns-clause-taken : goal.walk_object-returns-clause-taken
walk_object-returns-clause-taken g t c =
    let k = codec_of (table_data c.args.table.now) (g.L.Leaves.convention c.args.leaves.now) g.P.Patterns.test in
    let d = decoding_of c.args.self.now in
    let all = c.args.pairs.now in
    let i = c.loop-pair.pair-index in
    let now = decoding_of c.loop-pair.self in
    let e = decoding_of c.end.new.self in
    known_by (λ u. EndedBy k.table k.test now.shape now.frames e)
    (λ u. TreeTaken k (object (members_of (members_view all))) d e) c.end.result
    (λ u by. object_ended k d now (members_view all)
    (members_view (drop i all)) c.requires.shaped c.requires.ready c.loop-pair.invariant.shape c.loop-pair.invariant.sofar
    (ap members_view (drop_all i all c.loop-pair-test.false)) e by) c.end.ensures.ended

pub walk_pair-walk-requires : goal.walk_pair-walk-requires
walk_pair-walk-requires g t c =
    let k = codec_of (table_data c.args.table.now) (g.L.Leaves.convention c.args.leaves.now) g.P.Patterns.test in
    let d = decoding_of c.args.self.now in
    let now : decoding.Decoding = record { shape = d.shape; frames = frames_of c.name_first.new.self; result = d.result } in
    let named = subst (λ w. FirstNames k.table k.convention w c.in-Ok.known d.frames now.frames) c.as_str.ensures.bytes c.in-Ok.ensures in
    let at = c.requires.ready in
    λ κs inside. (
      omega arith,
      (
        inside.0,
        (
          inside.1,
          (
            c.requires.shaped,
            (
              c.requires.stored,
              (
                c.requires.laws,
                known_ready k at.0 at.1 c.args.name.now at.2 d now c.requires.laws c.requires.shaped at.3 c.in-Ok.known refl named at.4
                    c.if-known.true,
              ),
            ),
          ),
        ),
      ),
    )

pub walk_pair-returns-then-known-clause-taken : goal.walk_pair-returns-then-known-clause-taken
walk_pair-returns-then-known-clause-taken g t c =
    let k = codec_of (table_data c.args.table.now) (g.L.Leaves.convention c.args.leaves.now) g.P.Patterns.test in
    let d = decoding_of c.args.self.now in
    let now : decoding.Decoding = record { shape = d.shape; frames = frames_of c.name_first.new.self; result = d.result } in
    let named = subst (λ w. FirstNames k.table k.convention w c.in-Ok.known d.frames now.frames) c.as_str.ensures.bytes c.in-Ok.ensures in
    let n = node_of c.args.tree.now in
    let e = decoding_of c.walk.new.self in
    known_by (λ u. TreeTaken k n now e) (λ u. PairTaken k c.args.name.now n d e) c.walk.result
    (λ u taken p ms fs inside at. known_took k p ms c.args.name.now fs d now c.requires.laws c.requires.shaped inside c.in-Ok.known refl
    named at c.if-known.true n e taken) c.walk.ensures.taken

pub walk_pair-returns-else-known-clause-taken : goal.walk_pair-returns-else-known-clause-taken
walk_pair-returns-else-known-clause-taken g t c =
    let k = codec_of (table_data c.args.table.now) (g.L.Leaves.convention c.args.leaves.now) g.P.Patterns.test in
    let d = decoding_of c.args.self.now in
    let now : decoding.Decoding = record { shape = d.shape; frames = frames_of c.name_first.new.self; result = d.result } in
    let named = subst (λ w. FirstNames k.table k.convention w c.in-Ok.known d.frames now.frames) c.as_str.ensures.bytes c.in-Ok.ensures in
    λ p ms fs inside at. unknown_took k p ms c.args.name.now fs d now c.requires.laws c.requires.shaped inside c.in-Ok.known refl named at
    c.if-known.false (node_of c.args.tree.now)
