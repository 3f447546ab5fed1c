use Rattle.std.proofs.Common.{◌≡◌, Some, length, map, ap, ◌∙◌, rules}
use Rattle.std.specs.Prelude.{slice_get}
use Rattle.sm_shapes.specs.SharedView.{shared_list}
use Rattle.sm_service.specs.ErrorOrder.{place_named}
use Rattle.sm_service.specs.ErrorsView.{but_at}
use Rattle.sm_service.specs.ServiceData.{name_of_error}
use Rattle.sm_service.proofs.ErrorsNamed.{found_name, kept_found, none_named}
use Rattle.sm_service.proofs.errors.kept_named.Goals as goal

pub kept_place-requires : goal.kept_place-requires
kept_place-requires c =
    let shared = shared_list c.args.shared.now in
    record {
      rise = (length shared, c.requires.rise);
      other = λ h. c.requires.other c.in-Some.place h (found_name shared c.args.name.now c.in-Some.place (search rules));
    }

pub returns-in-None : goal.returns-in-None
returns-in-None c = none_named (shared_list c.args.shared.now) c.args.name.now (search rules)

pub returns-in-Some : goal.returns-in-Some
returns-in-Some c =
    let shared = shared_list c.args.shared.now in
    let name = c.args.name.now in
    let place = c.in-Some.place in
    let found : place_named shared name ≡ Some place = search rules in
    ap (slice_get (map name_of_error (but_at c.args.again.now 0 shared))) c.kept_place.ensures
    ∙ kept_found c.args.again.now shared name place c.requires.rise
    (λ h. c.requires.other place h (found_name shared name place found)) found
