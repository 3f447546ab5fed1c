use Rattle.std.proofs.Common.{[], subst}
use Rattle.sm_model.specs.Reaching.{id_of_number}
use Rattle.sm_rules.specs.RuleEvents.{Puts, rule_event}
use Rattle.sm_rules.specs.declared.rule.Rule.TheVariants.{ShapeInfinite}
use Rattle.sm_passes.specs.Putting.{IsWhere}
use Rattle.sm_reference_rules.proofs.FiniteTold.{infinite_put}
use Rattle.sm_reference_rules.proofs.finite.InfiniteAtEach.put_at.Goals as goal

pub is_infinite-infinite-requires-clause-whole : goal.is_infinite-infinite-requires-clause-whole
is_infinite-infinite-requires-clause-whole c = c.requires.knows.whole

pub returns : goal.returns
returns c =
    infinite_put c.args.graph.now c.args.self.now.marks.now c.requires.knows c.args.number c.requires.number c.args.events.now.items
    c.put_if.new.events.items
    (subst (λ w. Puts (IsWhere w (rule_event ShapeInfinite (id_of_number c.args.graph.now c.args.number) [])) c.args.events.now.items
    c.put_if.new.events.items) c.is_infinite-infinite.ensures c.in_ok-put_if.ensures)
