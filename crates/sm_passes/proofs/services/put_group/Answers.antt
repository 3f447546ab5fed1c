use Rattle.std.proofs.Common.{get_or}
use Rattle.std.proofs.lemmas.List.Elements.{Contains-get_or}
use Rattle.sm_passes.proofs.SharedClosures.{closure_shared}
use Rattle.sm_passes.proofs.services.put_group.Goals as goal

pub walk-requires-clause-number : goal.walk-requires-clause-number
walk-requires-clause-number g c =
    let ks = c.args.services.now in (c.requires.own (get_or ks 0 0) (Contains-get_or ks 0 0 c.requires.some)).0

pub put_of_services-requires-clause-closure : goal.put_of_services-requires-clause-closure
put_of_services-requires-clause-closure g c =
    let ks = c.args.services.now in
    closure_shared c.args.graph.now ks (get_or ks 0 0) (Contains-get_or ks 0 0 c.requires.some) c.requires.one c.walk.new.self
    c.in_ok-walk.ensures
