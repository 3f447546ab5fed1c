use Rattle.std.proofs.Common.{◌≡◌, ◌++◌, drop}
use Rattle.sm_tree.specs.Node.{nodes_of}
use Rattle.sm_tree.specs.View.{nodes_view}
use Rattle.sm_compile.specs.steps.Naming.{texts_of_all}
use Rattle.sm_service.specs.References.{texts_among}
use Rattle.sm_service.proofs.references.texts_among.Given as goal

abbrev pub invariant-loop-tree : goal.invariant-loop-tree
invariant-loop-tree l =
    texts_of_all l.texts.items ++ texts_among (nodes_of (nodes_view (drop l.tree-index l.trees)))
    ≡ texts_among (nodes_of (nodes_view l.trees))
