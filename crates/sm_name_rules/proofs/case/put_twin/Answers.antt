use Rattle.std.proofs.Common.{sym, ap, subst, ◌∙◌}
use Rattle.std.specs.Prelude.{◌==◌, not}
use Rattle.sm_model.specs.Reaching.{id_of_number}
use Rattle.sm_rules.specs.RuleEvents.{Puts, rule_event}
use Rattle.sm_rules.specs.declared.rule.Rule.TheVariants.{IdCase}
use Rattle.sm_passes.specs.Firsts.{ToldFirst, number_in}
use Rattle.sm_passes.specs.Putting.{IsWhere}
use Rattle.sm_passes.proofs.FirstRows.{not_first}
use Rattle.sm_name_rules.proofs.case.put_twin.Goals as goal

pub id_text-requires : goal.id_text-requires
id_text-requires c =
    c.requires.firsts c.args.row.now.0 c.in-Some.first
    (sym (c.in-Some.ensures ∙ ap (number_in c.args.firsts.now) c.as_str.ensures.bytes))

pub returns-in_ok-put_if-in-Some : goal.returns-in_ok-put_if-in-Some
returns-in_ok-put_if-in-Some c =
    let g = c.args.graph.now in
    let k = c.args.row.now.1 in
    subst (λ o. Puts (ToldFirst g o k) c.args.events.now.items c.put_if.new.events.items)
    (c.in-Some.ensures ∙ ap (number_in c.args.firsts.now) c.as_str.ensures.bytes)
    (subst (λ d. Puts (IsWhere (not (c.in-Some.first == k)) (rule_event IdCase (id_of_number g k) d)) c.args.events.now.items
    c.put_if.new.events.items) c.id_text.ensures c.in_ok-put_if-in-Some.ensures)

pub returns-in-None : goal.returns-in-None
returns-in-None c =
    subst (λ o. Puts (ToldFirst c.args.graph.now o c.args.row.now.1) c.args.events.now.items c.args.events.now.items)
    (c.in-None.ensures ∙ ap (number_in c.args.firsts.now) c.as_str.ensures.bytes)
    (not_first c.args.graph.now c.args.row.now.1 c.args.events.now.items)
