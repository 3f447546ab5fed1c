use Rattle.std.proofs.Common.{get_or, map}
use Rattle.std.proofs.lemmas.List.Elements.{Contains-get_or}
use Rattle.sm_model.specs.Reaching.{id_of_number}
use Rattle.sm_compile.proofs.NamesBehind.{one_named}
use Rattle.sm_compile.proofs.ReachedNumbers.{ids_among}
use Rattle.sm_compile.proofs.names.names_of.Goals as goal

pub returns-in-None : goal.returns-in-None
returns-in-None c names h =
    let g = c.args.graph.now in
    let ms = c.args.members.now in
    let k = get_or ms c.loop-member.member-index 0 in
    let one = one_named (id_of_number g c.args.shape) names (map (id_of_number g) ms) (id_of_number g k) h
    (ids_among g ms k (Contains-get_or ms c.loop-member.member-index 0 c.loop-member-test.true)) in
    c.in-None.ensures one.0 one.1
