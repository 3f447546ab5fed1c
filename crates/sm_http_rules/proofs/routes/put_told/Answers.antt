use Rattle.std.proofs.Common.{List, subst, ℕ, ◌≡◌}
use Rattle.sm_model.specs.Reaching.{id_of_number}
use Rattle.sm_rules.specs.RuleEvents.{Puts, rule_event}
use Rattle.sm_rules.specs.declared.rule.Rule.TheVariants.{HttpRoutes}
use Rattle.sm_passes.proofs.EventsPut.{puts_same}
use Rattle.sm_http_rules.specs.steps.SameRoutes.{IsPairTold}
use Rattle.sm_http_rules.proofs.routes.put_told.Goals as goal

pub returns : goal.returns
returns c =
    let g = c.args.graph.now in
    let k = c.args.greater in
    let a = c.args.events.now.items in
    let b = c.put_event.new.events.items in
    puts_same (λ e. e ≡ rule_event HttpRoutes (id_of_number g k) (id_of_number g c.args.smaller)) (IsPairTold g c.args.smaller k) a b
    (λ e. (λ is. (c.requires.order, is), λ t. t.1))
    (subst (λ (d : List ℕ). Puts (λ e. e ≡ rule_event HttpRoutes (id_of_number g k) d) a b) c.id_text.ensures c.in_ok-put_event.ensures)
