use Rattle.std.proofs.Common.{◌∙◌, ap, sym}
use Rattle.sm_model.specs.GraphView.{maps_of}
use Rattle.sm_compile.specs.Sound.{trait_in, trait_of}
use Rattle.sm_compile.proofs.LookedUp.{stands_is}
use Rattle.sm_examples.specs.Entries.{entries_there, examples_id}
use Rattle.sm_examples.proofs.entries.operation_entries.Goals as goal

pub trait_node-requires : goal.trait_node-requires
trait_node-requires c = let n = c.in-Some.number in (stands_is c.args.graph.now n n c.args.operation.now c.in-Some.ensures).0

pub returns-in-Some : goal.returns-in-Some
returns-in-Some c =
    let n = c.in-Some.number in
    c.entries_there.ensures ∙ ap entries_there c.trait_node.ensures
    ∙ ap (λ id. entries_there (trait_of (maps_of c.args.graph.now) id examples_id))
    (stands_is c.args.graph.now n n c.args.operation.now c.in-Some.ensures).1

pub returns-in-None : goal.returns-in-None
returns-in-None c = ap (λ x. entries_there (trait_in examples_id x)) (sym c.in-None.ensures)
