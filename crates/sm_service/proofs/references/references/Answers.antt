use Rattle.std.proofs.Common.{Some, None, rules}
use Rattle.sm_tree.specs.View.{node_of}
use Rattle.sm_compile.specs.steps.Naming.{texts_of_all}
use Rattle.sm_service.proofs.ReferencesRead.{references_read}
use Rattle.sm_service.proofs.ServedRoots.{if_ok}
use Rattle.sm_service.proofs.references.references.Goals as goal

pub returns-in-Some : goal.returns-in-Some
returns-in-Some c =
    if_ok c.texts_in.result
    (λ ids told.
    references_read c.args.graph.now c.args.shape (node_of c.properties.result.now) c.args.name.now (Some (node_of c.in-Some.tree.now))
    (texts_of_all ids.items) c.properties.ensures (search rules) told)
    c.texts_in.ensures

pub returns-in-None : goal.returns-in-None
returns-in-None c =
    references_read c.args.graph.now c.args.shape (node_of c.properties.result.now) c.args.name.now None (texts_of_all c.new.result.items)
    c.properties.ensures (search rules) (search rules)
