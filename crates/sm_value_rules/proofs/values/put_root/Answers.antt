use Rattle.std.proofs.Common.{sym, ◌∙◌}
use Rattle.sm_value_rules.proofs.ValuesTold.{wanted_added}
use Rattle.sm_value_rules.proofs.values.put_root.Goals as goal

pub returns-in_ok-push : goal.returns-in_ok-push
returns-in_ok-push c =
    wanted_added c.args.graph.now c.args.checked.now c.requires.checked c.args.number c.requires.number
    (sym c.is_judged.ensures ∙ c.if-is_judged.true) c.args.roots.now.items c.push.new.self.items c.in_ok-push.ensures.items
