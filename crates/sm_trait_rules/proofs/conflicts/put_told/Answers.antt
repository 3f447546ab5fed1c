use Rattle.std.proofs.Common.{subst}
use Rattle.std.proofs.lemmas.List.{take_all}
use Rattle.sm_model.specs.Reaching.{id_of_number}
use Rattle.sm_rules.specs.RuleEvents.{Puts}
use Rattle.sm_passes.specs.Putting.{ToldOf}
use Rattle.sm_passes.proofs.ListPut.{none_of, put_next}
use Rattle.sm_trait_rules.specs.steps.Conflicting.{ToldHeld}
use Rattle.sm_trait_rules.proofs.ConflictsTold.{carried_told}
use Rattle.sm_trait_rules.proofs.conflicts.put_told.Goals as goal

pub loop-pair-init : goal.loop-pair-init
loop-pair-init c =
    none_of (λ t. ToldHeld (id_of_number c.args.graph.now c.args.number) c.args.told.now.texts t.0) c.args.events.now.items

pub loop-pair-preserved : goal.loop-pair-preserved
loop-pair-preserved c =
    let told = ToldHeld (id_of_number c.args.graph.now c.args.number) c.args.told.now.texts in
    put_next (λ t. told t.0) c.traits-traits.result.now c.loop-pair.pair-index c.pair-item.result c.loop-pair-test.true c.pair-item.is
    c.args.events.now.items c.loop-pair.events.items c.put_if_told.new.events.items c.loop-pair.invariant
    (subst (λ n. Puts (told n) c.loop-pair.events.items c.put_if_told.new.events.items) c.as_str.ensures.bytes c.in_ok-put_if_told.ensures)

pub returns : goal.returns
returns c =
    let told = ToldHeld (id_of_number c.args.graph.now c.args.number) c.args.told.now.texts in
    carried_told c.args.graph.now c.args.number c.traits-traits.result.now c.traits-traits.ensures c.args.told.now.texts
    c.args.events.now.items c.loop-pair.events.items
    (subst (λ ts. Puts (ToldOf (λ t. told t.0) ts) c.args.events.now.items c.loop-pair.events.items)
    (take_all c.loop-pair.pair-index c.traits-traits.result.now c.loop-pair-test.false) c.loop-pair.invariant)
