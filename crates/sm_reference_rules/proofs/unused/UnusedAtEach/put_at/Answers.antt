use Rattle.std.proofs.Common.{[], subst}
use Rattle.sm_model.specs.Reaching.{id_of_number}
use Rattle.sm_rules.specs.RuleEvents.{Puts, rule_event}
use Rattle.sm_rules.specs.declared.rule.Rule.TheVariants.{ShapeUnused}
use Rattle.sm_passes.specs.Putting.{IsWhere}
use Rattle.sm_reference_rules.proofs.UnusedShapes.{unused_put}
use Rattle.sm_reference_rules.proofs.unused.UnusedAtEach.put_at.Goals as goal

pub is_unused-unused-requires-clause-whole : goal.is_unused-unused-requires-clause-whole
is_unused-unused-requires-clause-whole c = c.requires.knows.whole

pub returns : goal.returns
returns c =
    unused_put c.args.graph.now c.args.self.now.marks.now c.requires.knows c.args.number c.requires.number c.args.events.now.items
    c.put_if.new.events.items
    (subst (λ w. Puts (IsWhere w (rule_event ShapeUnused (id_of_number c.args.graph.now c.args.number) [])) c.args.events.now.items
    c.put_if.new.events.items) c.is_unused-unused.ensures c.in_ok-put_if.ensures)
