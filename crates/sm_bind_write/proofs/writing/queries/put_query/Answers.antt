use Rattle.std.proofs.Common.{◌≡◌, [], refl, subst}
use Rattle.std.specs.Prelude.{Some}
use Rattle.sm_shapes.specs.Places.{member_place}
use Rattle.sm_shapes.specs.TableView.{binding_data, table_data}
use Rattle.sm_shapes.specs.ValueView.{val_of}
use Rattle.sm_part_texts.specs.PlaceTexts.{in_targets}
use Rattle.sm_part_texts.specs.declared.carried.TextTest.TheVariants.{OfQuery}
use Rattle.sm_part_texts.proofs.TextsHad.{texts_had}
use Rattle.sm_bind.specs.BoundView.{bound_of}
use Rattle.sm_bind_write.specs.CarriedParts.{uncarried_bound}
use Rattle.sm_bind_write.proofs.writing.queries.put_query.Goals as goal

pub put_pairs-requires-clause-has : goal.put_pairs-requires-clause-has
put_pairs-requires-clause-has c =
    let t = table_data c.args.place.now.table.now in
    let v = val_of c.args.value.now in
    texts_had OfQuery OfQuery in_targets t (member_place c.args.member) v refl refl
    (subst (λ x. uncarried_bound (Some (binding_data x)) (bound_of c.args.place.now) c.args.member v ≡ []) c.in-Query.is c.requires.carried)
