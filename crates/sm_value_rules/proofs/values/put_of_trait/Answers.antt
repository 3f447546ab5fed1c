use Rattle.std.proofs.Common.{subst, sym}
use Rattle.sm_model.specs.GraphView.{maps_of}
use Rattle.sm_model.specs.Reaching.{id_of_number}
use Rattle.sm_value_rules.specs.steps.Valuing.{IsJudgedTrait}
use Rattle.sm_value_rules.proofs.ValuesTold.{unjudged_put}
use Rattle.sm_value_rules.proofs.values.put_of_trait.Goals as goal

pub put_value-requires-clause-judged : goal.put_value-requires-clause-judged
put_value-requires-clause-judged c =
    subst (IsJudgedTrait (maps_of c.args.graph.now)) c.as_str.ensures.bytes c.in-Some.ensures.2

pub returns-in-None-clause-told : goal.returns-in-None-clause-told
returns-in-None-clause-told c =
    unjudged_put (maps_of c.args.graph.now) (id_of_number c.args.graph.now c.args.number) c.args.pair.now
    (λ h. c.in-None.ensures (subst (IsJudgedTrait (maps_of c.args.graph.now)) (sym c.as_str.ensures.bytes) h)) c.args.events.now.items
