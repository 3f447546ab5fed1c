use Rattle.std.proofs.Common.{◌≡◌, ◌<◌, refl, sym, subst}
use Rattle.std.specs.Prelude.{IfOk}
use Rattle.sm_shapes.specs.TableData.{shape_count}
use Rattle.sm_rest.specs.bind.BindingsView.{bindings_data, parts_data}
use Rattle.sm_rest_read.specs.Begun.{bindings_codec}
use Rattle.sm_rest_read.proofs.beginning.fed.Goals as goal

pub begin-begun-requires : goal.begin-begun-requires
begin-begun-requires c = record { number = subst (λ t. c.args.shape < shape_count t) (sym c.documents-documents.ensures) c.requires }

pub returns-in-Ok-begun : goal.returns-in-Ok-begun
returns-in-Ok-begun c = λ given is.
    let d = bindings_data c.args.bindings.now in
    let made = c.in-Ok-begun.field-0 in (
      refl,
      subst (λ r. IfOk r (λ all. parts_data all ≡ given)) c.in-Ok.is is,
      c.in-Ok-begun.ensures.memory,
      λ test. c.in-Ok-begun.ensures.fed (bindings_codec d test) (sym c.documents-documents.ensures),
    )
