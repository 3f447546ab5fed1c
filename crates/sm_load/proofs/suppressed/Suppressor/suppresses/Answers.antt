use Rattle.std.proofs.Common.{◌∙◌, sym, subst}
use Rattle.std.specs.Prelude.{◌||◌, codes}
use Rattle.sm_model.specs.GraphView.{maps_of}
use Rattle.sm_rules.specs.RuleList.{rule_id}
use Rattle.sm_ids.specs.TextParts.{namespace_part}
use Rattle.sm_load.specs.Suppressions.{is_suppressed_there}
use Rattle.sm_load.specs.steps.Suppressing.{AreNamedThere}
use Rattle.sm_load.proofs.suppressed.Suppressor.suppresses.Goals as goal

pub returns : goal.returns
returns c = λ h.
    let event = rule_id c.args.self.now.rule in
    let there = c.is_marked-there.ensures event (subst (AreNamedThere c.args.graph.now event) (sym c.as_slice.ensures.value) h.marks) in
    c.either.ensures
    ∙ (λ i. there i || c.is_in-in_metadata.ensures i)
    ∙ (λ i. is_suppressed_there (maps_of c.args.graph.now) c.args.id.now event
    || (h.namespaces (codes "*") i || h.namespaces (namespace_part c.args.id.now) i))
