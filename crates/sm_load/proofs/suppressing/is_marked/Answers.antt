use Rattle.std.proofs.Common.{◌∙◌, sym, ap}
use Rattle.sm_compile.specs.Sound.{trait_in}
use Rattle.sm_compile.specs.TraitIds.{suppress_id}
use Rattle.sm_rules.specs.TraitRows.{that_reads}
use Rattle.sm_load.specs.Suppressions.{node_names, nodes_in, some_node}
use Rattle.sm_load.proofs.SuppressionsKept.{marked_there}
use Rattle.sm_load.proofs.suppressing.is_marked.Goals as goal

pub returns-in-Some : goal.returns-in-Some
returns-in-Some c = λ event are.
    c.mark_at.ensures
    ∙ marked_there c.args.graph.now event c.args.marks.now c.in-Some.number c.args.id.now are c.in-Some.ensures

pub returns-in-None : goal.returns-in-None
returns-in-None c = λ event are.
    sym (ap (λ o. some_node (node_names event) (nodes_in (that_reads suppress_id (trait_in suppress_id o)))) c.in-None.ensures)
