use Rattle.std.proofs.Common.{subst, ◌∙◌, List, ℕ}
use Rattle.sm_model.specs.Reaching.{id_of_number}
use Rattle.sm_http_rules.specs.steps.WireNames.{BeginsWithOne}
use Rattle.sm_http_rules.proofs.WireNamesTold.{begun_put}
use Rattle.sm_http_rules.proofs.prefixes.put_header.Goals as goal

pub returns-then-begins_with_one : goal.returns-then-begins_with_one
returns-then-begins_with_one c =
    begun_put (id_of_number c.args.graph.now c.args.member) c.args.prefixes.now c.args.header.now
    (subst (λ (t : List ℕ). BeginsWithOne t c.args.prefixes.now) (c.as_str.ensures.bytes ∙ c.in_ok-small.ensures)
    (c.begins_with_one.ensures.0 c.if-begins_with_one.true))
    c.args.events.now.items c.put_event.new.events.items c.in_ok-put_event.ensures
