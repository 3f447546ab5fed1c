use Rattle.std.proofs.Common.{subst}
use Rattle.std.proofs.lemmas.List.{take_all}
use Rattle.sm_model.specs.GraphView.{maps_of}
use Rattle.sm_model.specs.Reaching.{id_of_number}
use Rattle.sm_model.specs.Joins.{Joins}
use Rattle.sm_trait_rules.specs.steps.Conflicting.{HasText, IsGreaterOfTrait, IsOfSome}
use Rattle.sm_trait_rules.proofs.ConflictsTold.{carried_taken}
use Rattle.sm_trait_rules.proofs.SomeJoined.{none_of_some, some_next}
use Rattle.sm_trait_rules.proofs.conflicts.take_carried.Goals as goal

pub loop-pair-init : goal.loop-pair-init
loop-pair-init c =
    none_of_some (λ t. IsGreaterOfTrait (maps_of c.args.graph.now) (id_of_number c.args.graph.now c.args.number) t.0)
    (HasText c.args.told.now.texts)

pub loop-pair-preserved : goal.loop-pair-preserved
loop-pair-preserved c =
    let greater = IsGreaterOfTrait (maps_of c.args.graph.now) (id_of_number c.args.graph.now c.args.number) in
    some_next (λ t. greater t.0) c.traits-traits.result.now c.loop-pair.pair-index c.pair-item.result c.loop-pair-test.true c.pair-item.is
    (HasText c.args.told.now.texts) (HasText c.loop-pair.told.texts) (HasText c.take_of_trait.new.told.texts) c.loop-pair.invariant
    (subst (λ n. Joins (HasText c.loop-pair.told.texts) (greater n) (HasText c.take_of_trait.new.told.texts)) c.as_str.ensures.bytes
    c.in_ok-take_of_trait.ensures)

pub returns : goal.returns
returns c =
    let greater = IsGreaterOfTrait (maps_of c.args.graph.now) (id_of_number c.args.graph.now c.args.number) in
    carried_taken c.args.graph.now c.args.number c.traits-traits.result.now c.traits-traits.ensures (HasText c.args.told.now.texts)
    (HasText c.loop-pair.told.texts)
    (subst (λ ts. Joins (HasText c.args.told.now.texts) (IsOfSome (λ t. greater t.0) ts) (HasText c.loop-pair.told.texts))
    (take_all c.loop-pair.pair-index c.traits-traits.result.now c.loop-pair-test.false) c.loop-pair.invariant)
