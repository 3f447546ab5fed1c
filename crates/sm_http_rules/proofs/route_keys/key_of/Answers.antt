use Rattle.std.proofs.Common.{List, ap, ℕ, ◌++◌, ◌∙◌}
use Rattle.std.specs.Option.{option_copied}
use Rattle.sm_http_rules.specs.steps.Routes.{method_tail}
use Rattle.sm_http_rules.proofs.route_keys.key_of.Goals as goal

pub returns : goal.returns
returns c =
    c.in_ok-key.ensures
    ∙ ap (λ (t : List ℕ). t ++ method_tail (option_copied c.args.method)) (c.as_str.ensures.bytes ∙ c.in_ok-route.ensures)
