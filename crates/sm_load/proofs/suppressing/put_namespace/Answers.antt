use Rattle.std.proofs.Common.{◌∙◌, sym, ap}
use Rattle.std.specs.Prelude.{◌||◌}
use Rattle.sm_tree.specs.View.{node_of}
use Rattle.sm_merge.specs.steps.Known.{has_text}
use Rattle.sm_merge.proofs.NamesKnown.{or_none}
use Rattle.sm_load.proofs.SuppressionsKept.{entry_here, entry_other}
use Rattle.sm_load.proofs.suppressing.put_namespace.Goals as goal

pub returns-in_ok-put_named : goal.returns-in_ok-put_named
returns-in_ok-put_named c = λ namespace.
    c.in_ok-put_named.ensures namespace
    ∙ ap (λ b. has_text c.args.namespaces.now namespace || b)
    (entry_here c.args.event.now namespace (node_of c.args.entry.now) (sym c.names_id.ensures ∙ c.if-names_id.true))

pub returns-else-names_id : goal.returns-else-names_id
returns-else-names_id c = λ namespace.
    or_none (has_text c.args.namespaces.now namespace)
    ∙ ap (λ b. has_text c.args.namespaces.now namespace || b)
    (sym (entry_other c.args.event.now namespace (node_of c.args.entry.now) (sym c.names_id.ensures ∙ c.if-names_id.false)))
