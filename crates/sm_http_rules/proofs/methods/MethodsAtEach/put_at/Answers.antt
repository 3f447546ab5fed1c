use Rattle.std.proofs.Common.{subst}
use Rattle.std.specs.Prelude.{not}
use Rattle.sm_model.specs.GraphView.{maps_of}
use Rattle.sm_model.specs.Reaching.{id_of_number}
use Rattle.sm_rules.specs.RuleEvents.{Puts, rule_event}
use Rattle.sm_rules.specs.declared.rule.Rule.TheVariants.{HttpMethod}
use Rattle.sm_passes.specs.Putting.{IsWhere}
use Rattle.sm_http_rules.proofs.HttpUris.{method_put, no_method}
use Rattle.sm_http_rules.proofs.methods.MethodsAtEach.put_at.Goals as goal

pub returns-in_ok-put_if-in-Some : goal.returns-in_ok-put_if-in-Some
returns-in_ok-put_if-in-Some c =
    method_put (maps_of c.args.graph.now) (id_of_number c.args.graph.now c.args.number) c.in-Some.method.now c.in-Some.ensures
    c.args.events.now.items c.put_if.new.events.items
    (subst (λ b. Puts (IsWhere (not b) (rule_event HttpMethod (id_of_number c.args.graph.now c.args.number) c.in-Some.method.now))
    c.args.events.now.items c.put_if.new.events.items) c.is_routed-other.ensures c.in_ok-put_if-in-Some.ensures)

pub returns-in-None : goal.returns-in-None
returns-in-None c =
    no_method (maps_of c.args.graph.now) (id_of_number c.args.graph.now c.args.number) c.in-None.ensures c.args.events.now.items
