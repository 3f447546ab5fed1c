use Rattle.std.proofs.Common.{◌++◌, get_or, map, take, ap, subst, sym, ◌∙◌}
use Rattle.std.specs.List.{flat_map}
use Rattle.std.proofs.lemmas.List.{map-append}
use Rattle.std.proofs.lemmas.List.Elements.{Contains-get_or}
use Rattle.sm_model.specs.GraphView.{AreShapeNumbers, maps_of}
use Rattle.sm_model.specs.Reaching.{id_of_number}
use Rattle.sm_compile.specs.Compiled.{members_under}
use Rattle.sm_compile.proofs.ReachedNumbers.{each_number, numbers_joined}
use Rattle.sm_service.proofs.RowsTold.{flat_more}
use Rattle.sm_service.proofs.bound_members.member_numbers.Goals as goal

pub value_members-requires : goal.value_members-requires
value_members-requires c =
    let ks = c.args.shapes.now in
    let i = c.loop-shape.shape-index in
    each_number c.args.graph.now ks c.requires (get_or ks i 0) (Contains-get_or ks i 0 c.loop-shape-test.true)

pub loop-shape-preserved : goal.loop-shape-preserved
loop-shape-preserved c =
    let g = c.args.graph.now in
    let ks = c.args.shapes.now in
    let i = c.loop-shape.shape-index in
    let old = c.loop-shape.members.items in
    let more = c.value_members.result.now in
    let put = c.in_ok-extend_from_slice.ensures.items in
    record {
      ids = ap (map (id_of_number g)) put ∙ map-append (id_of_number g) old more
          ∙ ap (λ xs. xs ++ map (id_of_number g) more) c.loop-shape.invariant.ids
          ∙ ap (λ ys. flat_map (members_under (maps_of g)) (map (id_of_number g) (take i ks)) ++ ys) c.value_members.ensures.ids
          ∙ sym (flat_more (members_under (maps_of g)) (id_of_number g) ks i c.loop-shape-test.true);
      numbers = subst (AreShapeNumbers g) (sym put)
          (numbers_joined g old more c.loop-shape.invariant.numbers c.value_members.ensures.numbers);
    }
