use Rattle.std.proofs.Common.{◌≡◌, ◌+◌, ◌∷◌, ◌++◌, [], take, sym, ap, subst, ◌∙◌}
use Rattle.std.specs.List.{Contains}
use Rattle.std.proofs.lemmas.List.{take_all, take_more}
use Rattle.std.proofs.lemmas.List.Elements.{Contains-get_or}
use Rattle.sm_rules.specs.RuleEvents.{Puts}
use Rattle.sm_passes.specs.Firsts.{ToldAmong, number_in}
use Rattle.sm_passes.proofs.FirstRows.{none_told, told_more}
use Rattle.sm_name_rules.proofs.case.put_each_twin.Goals as goal

pub loop-row-init : goal.loop-row-init
loop-row-init c = none_told c.args.graph.now (number_in c.args.firsts.now) c.args.events.now.items

pub put_twin-requires-clause-number : goal.put_twin-requires-clause-number
put_twin-requires-clause-number c =
    let row = c.row-item.result in
    c.requires.numbers row
    (subst (Contains c.args.rows.now) (sym c.row-item.is) (Contains-get_or c.args.rows.now c.loop-row.row-index row c.loop-row-test.true))

pub put_twin-requires-clause-firsts : goal.put_twin-requires-clause-firsts
put_twin-requires-clause-firsts c = c.requires.firsts

pub loop-row-preserved : goal.loop-row-preserved
loop-row-preserved c =
    let rows = c.args.rows.now in
    let i = c.loop-row.row-index in
    let row = c.row-item.result in
    let parts : take (i + 1) rows ≡ take i rows ++ row ∷ [] =
    take_more rows i row c.loop-row-test.true ∙ ap (λ r. take i rows ++ r ∷ []) (sym c.row-item.is) in
    subst (λ rs. Puts (ToldAmong c.args.graph.now (number_in c.args.firsts.now) rs) c.args.events.now.items c.put_twin.new.events.items)
    (sym parts)
    (told_more c.args.graph.now (number_in c.args.firsts.now) (take i rows) row c.args.events.now.items c.loop-row.events.items
    c.put_twin.new.events.items c.loop-row.invariant c.in_ok-put_twin.ensures)

pub returns : goal.returns
returns c =
    subst (λ rs. Puts (ToldAmong c.args.graph.now (number_in c.args.firsts.now) rs) c.args.events.now.items c.loop-row.events.items)
    (take_all c.loop-row.row-index c.args.rows.now c.loop-row-test.false) c.loop-row.invariant
