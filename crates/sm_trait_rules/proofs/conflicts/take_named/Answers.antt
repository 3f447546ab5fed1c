use Rattle.std.proofs.Common.{subst}
use Rattle.std.proofs.lemmas.List.{take_all}
use Rattle.sm_model.specs.GraphView.{maps_of}
use Rattle.sm_model.specs.Reaching.{id_of_number}
use Rattle.sm_model.specs.Joins.{Joins}
use Rattle.sm_trait_rules.specs.steps.Conflicting.{HasText, IsGreaterIfHeld, IsOfSome}
use Rattle.sm_trait_rules.proofs.ConflictsTold.{named_taken}
use Rattle.sm_trait_rules.proofs.SomeJoined.{none_of_some, some_next}
use Rattle.sm_trait_rules.proofs.conflicts.take_named.Goals as goal

pub loop-pair-init : goal.loop-pair-init
loop-pair-init c =
    let m = maps_of c.args.graph.now in
    let at = id_of_number c.args.graph.now c.args.number in
    none_of_some (λ t. IsGreaterIfHeld m at c.args.name.now c.args.set.now.texts t.0) (HasText c.args.told.now.texts)

pub loop-pair-preserved : goal.loop-pair-preserved
loop-pair-preserved c =
    let m = maps_of c.args.graph.now in
    let at = id_of_number c.args.graph.now c.args.number in
    let greater = IsGreaterIfHeld m at c.args.name.now c.args.set.now.texts in
    some_next (λ t. greater t.0) c.traits-traits.result.now c.loop-pair.pair-index c.pair-item.result c.loop-pair-test.true c.pair-item.is
    (HasText c.args.told.now.texts) (HasText c.loop-pair.told.texts) (HasText c.take_if_held.new.told.texts) c.loop-pair.invariant
    (subst (λ n. Joins (HasText c.loop-pair.told.texts) (greater n) (HasText c.take_if_held.new.told.texts)) c.as_str.ensures.bytes
    c.in_ok-take_if_held.ensures)

pub returns : goal.returns
returns c =
    let m = maps_of c.args.graph.now in
    let at = id_of_number c.args.graph.now c.args.number in
    let greater = IsGreaterIfHeld m at c.args.name.now c.args.set.now.texts in
    named_taken c.args.graph.now c.args.number c.traits-traits.result.now c.traits-traits.ensures c.args.name.now c.args.set.now.texts
    (HasText c.args.told.now.texts) (HasText c.loop-pair.told.texts)
    (subst (λ ts. Joins (HasText c.args.told.now.texts) (IsOfSome (λ t. greater t.0) ts) (HasText c.loop-pair.told.texts))
    (take_all c.loop-pair.pair-index c.traits-traits.result.now c.loop-pair-test.false) c.loop-pair.invariant)
