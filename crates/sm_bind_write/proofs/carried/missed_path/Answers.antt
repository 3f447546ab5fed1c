use Rattle.std.proofs.Common.{◌≡◌, [], ◌∷◌, sym, ap, ◌∙◌}
use Rattle.std.specs.Prelude.{Some}
use Rattle.std.specs.Option.{option_map}
use Rattle.std.proofs.lemmas.Result.{IfOk-weaker}
use Rattle.sm_shapes.specs.ValueView.{val_of}
use Rattle.sm_codec.specs.Encoded.{are_none, first_path}
use Rattle.sm_bind.specs.BoundView.{bound_of}
use Rattle.sm_bind.specs.Roles.{binding_on}
use Rattle.sm_bind_write.specs.CarriedParts.{uncarried_absent, uncarried_member}
use Rattle.sm_bind_write.specs.steps.SeenParts.{paths_of}
use Rattle.sm_bind_write.proofs.Payloads.{absent_is}
use Rattle.sm_bind_write.proofs.carried.missed_path.Goals as goal

pub returns-in-None : goal.returns-in-None
returns-in-None c =
    let b = bound_of c.args.place.now in
    let k = c.args.missed.member in
    let gone : paths_of b c.args.missed ≡ uncarried_absent (binding_on b k) =
    ap (λ o. uncarried_member b k (option_map (λ v. val_of v.now) o)) c.in-None.is in
    let own : paths_of b c.args.missed ≡ [] ∷ [] =
    gone ∙ absent_is (binding_on b k) (sym (ap are_none gone) ∙ c.requires.missed) in
    IfOk-weaker c.found_under-in-None.result _ _
    (λ longer h. h (paths_of b c.args.missed) (ap Some (c.new-in-None.ensures ∙ c.new.ensures.items) ∙ sym (ap first_path own))) c.found_under-in-None.ensures
