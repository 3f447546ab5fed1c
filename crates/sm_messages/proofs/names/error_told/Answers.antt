use Rattle.std.proofs.Common.{◌≡◌, ◌∙◌, map, sym, subst}
use Rattle.std.specs.Prelude.{IsUtf8, MatchOption, Some, slice_get}
use Rattle.std.specs.List.{Contains}
use Rattle.sm_service.specs.ServiceData.{name_of_error}
use Rattle.sm_messages.specs.Names.{error_name}
use Rattle.sm_messages.proofs.ErrorsTold.{names_utf8, place_nowhere, place_told}
use Rattle.sm_messages.proofs.names.error_told.Goals as goal

pub returns-in-Ok : goal.returns-in-Ok
returns-in-Ok c =
    let es = c.args.errors.now in
    let same : c.in-Ok.name.now ≡ error_name c.args.told.now = c.in-Ok.ensures.cases.0 ∙ c.error_name.ensures in
    place_told es (error_name c.args.told.now) c.named.result c.requires.differ
    (subst (λ w. MatchOption c.named.result (Contains (map name_of_error es) w → ⊥)
    (λ place. slice_get (map name_of_error es) place ≡ Some w)) same c.named.ensures)

pub returns-in-Err : goal.returns-in-Err
returns-in-Err c =
    let es = c.args.errors.now in
    sym (place_nowhere es (error_name c.args.told.now) (λ there.
    c.in-Err.ensures.cases.0 (subst IsUtf8 (sym c.error_name.ensures) (names_utf8 es (error_name c.args.told.now) c.requires.ids there))))
