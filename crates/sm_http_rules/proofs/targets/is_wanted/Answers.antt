use Rattle.std.proofs.Common.{sym, ap, ◌∙◌}
use Rattle.sm_http_rules.specs.declared.targets.Wanted.{Wanted}
use Rattle.sm_http_rules.specs.steps.Allowing.{test_of}
use Rattle.sm_http_rules.proofs.AllowedTold.{payload_same, spelled_same}
use Rattle.sm_http_rules.proofs.targets.is_wanted.Goals as goal

pub returns-in-Spelled : goal.returns-in-Spelled
returns-in-Spelled c =
    c.is_spelled_kind.ensures ∙ spelled_same c.args.kind ∙ ap (λ (w : Wanted). test_of w c.args.kind) (sym c.in-Spelled.is)

pub returns-in-Payload : goal.returns-in-Payload
returns-in-Payload c =
    c.is_payload_kind.ensures ∙ payload_same c.args.kind ∙ ap (λ (w : Wanted). test_of w c.args.kind) (sym c.in-Payload.is)
