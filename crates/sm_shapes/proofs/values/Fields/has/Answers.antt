use Rattle.std.proofs.Common.{◌≡◌, ◌∙◌, sym, ap, length}
use Rattle.std.specs.Prelude.{Some, slice_get}
use Rattle.std.proofs.lemmas.Bool.Decides.{Decides-ltb}
use Rattle.std.proofs.lemmas.Option.{slice_get-get_or, slice_get_past}
use Rattle.sm_shapes.proofs.FieldPlaces.{has_place, number_some, number_past, at_least}
use Rattle.sm_shapes.proofs.values.Fields.has.Goals as goal

pub returns-in-Some : goal.returns-in-Some
returns-in-Some c =
    let fs = c.deref-2.result.now in
    let k = c.args.member in
    let i = c.place_of-place.result in
    let here : slice_get fs i ≡ Some c.in-Some.field.now =
    slice_get-get_or fs i c.in-Some.field.now ((Decides-ltb i (length fs)).0 (sym c.in-Some.ensures.lookup.0))
    ∙ ap (λ f. Some f) (sym c.in-Some.ensures.lookup.1) in
    sym (has_place k c.args.self.now c.deref.result.now fs i c.deref.ensures.value c.deref-2.ensures.value c.requires.rises
    c.place_of-place.ensures.place ∙ number_some k fs i c.in-Some.field.now here)

pub returns-in-None : goal.returns-in-None
returns-in-None c =
    let fs = c.deref-2.result.now in
    let i = c.place_of-place.result in
    sym (has_place c.args.member c.args.self.now c.deref.result.now fs i c.deref.ensures.value c.deref-2.ensures.value c.requires.rises
    c.place_of-place.ensures.place
    ∙ number_past c.args.member fs i (slice_get_past fs i (at_least i (length fs) (sym c.in-None.ensures.lookup.0))))
