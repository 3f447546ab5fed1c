use Rattle.std.proofs.Common.{◌≤◌, length, arith}
use Rattle.sm_model.specs.GraphView.{entries_of, maps_of}
use Rattle.sm_rules.specs.Traits.{CarriesTwice}
use Rattle.sm_rules.specs.declared.rule.Rule.TheVariants.{TraitSingle}
use Rattle.sm_passes.proofs.Numbered.{at_number, puts_numbers}
use Rattle.sm_passes.proofs.EventsPut.{puts_next}
use Rattle.sm_trait_rules.proofs.single.put_single.Goals as goal

pub loop-number-preserved : goal.loop-number-preserved
loop-number-preserved c =
    puts_next (at_number c.args.graph.now TraitSingle (CarriesTwice (maps_of c.args.graph.now))) c.loop-number.number
    c.args.events.now.items
    c.loop-number.events.items c.put_single_at.new.events.items c.loop-number.invariant c.in_ok-put_single_at.ensures

pub returns : goal.returns
returns c =
    let all : length (entries_of c.args.graph.now) ≤ c.loop-number.number =
    omega (arith, c.loop-number-test.false, c.count-number-end.ensures) in
    puts_numbers c.args.graph.now TraitSingle (CarriesTwice (maps_of c.args.graph.now)) (λ id detail h. (_, h.behind.home.0))
    c.loop-number.number all
    c.args.events.now.items c.loop-number.events.items c.loop-number.invariant
