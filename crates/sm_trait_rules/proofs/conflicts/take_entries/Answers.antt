use Rattle.std.proofs.Common.{◌≡◌, ◌+◌, List, subst, take}
use Rattle.std.proofs.lemmas.List.{take_all}
use Rattle.sm_tree.specs.Node.{nodes_of, text}
use Rattle.sm_tree.specs.View.{node_of, nodes_view}
use Rattle.sm_tree.specs.declared.tree.Tree.{Tree}
use Rattle.sm_model.specs.GraphView.{maps_of}
use Rattle.sm_model.specs.Reaching.{id_of_number}
use Rattle.sm_model.specs.Relations.{IsEntryText}
use Rattle.sm_model.specs.Joins.{Joins}
use Rattle.sm_trait_rules.specs.steps.Conflicting.{HasText, IsGreaterOfAny}
use Rattle.sm_trait_rules.proofs.ConflictsTold.{any_joined, any_none}
use Rattle.sm_trait_rules.proofs.TextsHeld.{entries_next}
use Rattle.sm_trait_rules.proofs.conflicts.take_entries.Goals as goal

pub loop-entry-init : goal.loop-entry-init
loop-entry-init c =
    any_none (maps_of c.args.graph.now) (id_of_number c.args.graph.now c.args.number) c.args.name.now
    (λ o. IsEntryText o (nodes_of (nodes_view (take 0 c.args.conflicts.now)))) (λ o h. h) (HasText c.args.told.now.texts)

pub loop-entry-preserved : goal.loop-entry-preserved
loop-entry-preserved c =
    let xs = c.args.conflicts.now in
    let i = c.loop-entry.entry-index in
    let x = c.entry-item.result in
    any_joined (maps_of c.args.graph.now) (id_of_number c.args.graph.now c.args.number) c.args.name.now
    (λ o. IsEntryText o (nodes_of (nodes_view (take i xs)))) (λ o. node_of x ≡ text o)
    (λ o. IsEntryText o (nodes_of (nodes_view (take (i + 1) xs)))) (entries_next xs i x c.loop-entry-test.true c.entry-item.is)
    (HasText c.args.told.now.texts) (HasText c.loop-entry.told.texts) (HasText c.take_entry.new.told.texts) c.loop-entry.invariant
    c.in_ok-take_entry.ensures

pub returns : goal.returns
returns c =
    subst (λ (ts : List Tree). Joins (HasText c.args.told.now.texts) (IsGreaterOfAny (maps_of c.args.graph.now)
    (id_of_number c.args.graph.now c.args.number) c.args.name.now (λ o. IsEntryText o (nodes_of (nodes_view ts))))
    (HasText c.loop-entry.told.texts)) (take_all c.loop-entry.entry-index c.args.conflicts.now c.loop-entry-test.false)
    c.loop-entry.invariant
