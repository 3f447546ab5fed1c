use Rattle.sm_passes.specs.Firsts.{number_in}
use Rattle.sm_name_rules.specs.steps.NameTwins.{earlier_in}
use Rattle.sm_name_rules.proofs.NamesApart.{untold_each, was_true}
use Rattle.sm_name_rules.proofs.NamesNumbered.{names_apart}
use Rattle.sm_name_rules.proofs.names.NamesOfServices.may_tell.Goals as goal

pub returns-else-not-self : goal.returns-else-not-self
returns-else-not-self c h k among e told =
    let g = c.args.graph.now in
    let names = c.args.self.now in
    untold_each g c.args.services.now
    (names_apart g (number_in names.firsts.now) (earlier_in names.earlier.now) c.requires.knows.0
    (c.requires.knows.1 c.if-not-self.false))
    (c.give_none.ensures (was_true c.give_none.result h)) k among e told
