use Rattle.std.proofs.Common.{◌∙◌, ◌≤◌, length, sym, ap, subst}
use Rattle.sm_shapes.specs.FieldPuts.{IsPlaceOf, put_field}
use Rattle.sm_shapes.proofs.ValueViews.{view_fields}
use Rattle.sm_shapes.specs.ValueView.{val_of, each_field_view}
use Rattle.sm_shapes.specs.declared.values.Value.TheViews.{roll-Fields}
use Rattle.sm_shapes.proofs.FieldPlaces.{put_at}
use Rattle.sm_shapes.proofs.values.Fields.put.Goals as goal

pub returns : goal.returns
returns c =
    let fs = c.args.self.now.fields.items in
    let k = c.args.member in
    let i = c.place_of-place.result in
    let small = subst (λ xs. i ≤ length xs) c.deref.ensures.value c.place_of-place.ensures.bound in
    let place = subst (λ xs. IsPlaceOf k xs i) c.deref.ensures.value c.place_of-place.ensures.place in
    view_fields (roll-Fields (record { fields = c.insert.new.self }))
    ∙ ap each_field_view c.in_ok-insert.ensures.items
    ∙ put_at k c.args.value fs i small place.0 place.1
    ∙ ap (put_field k (val_of c.args.value)) (sym (view_fields c.args.self.now))
