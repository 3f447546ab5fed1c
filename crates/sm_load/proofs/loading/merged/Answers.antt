use Rattle.std.proofs.Common.{Ok, Err, subst}
use Rattle.sm_merge.specs.Answers.{MergesTo}
use Rattle.sm_merge.specs.Files.{files_view}
use Rattle.sm_load.proofs.GraphsMade.{graph_told}
use Rattle.sm_load.proofs.loading.merged.Goals as goal

pub returns-in-Ok : goal.returns-in-Ok
returns-in-Ok c =
    graph_told (files_view c.args.said.items) c.in-Ok.graph
    (subst (λ files. MergesTo (files_view files) (Ok c.in-Ok.graph)) c.as_slice.ensures.value c.in-Ok.ensures)

pub returns : goal.returns
returns c =
    c.not_merged.ensures (files_view c.args.said.items)
    (subst (λ files. MergesTo (files_view files) (Err c.in-Err.refusal)) c.as_slice.ensures.value c.in-Err.ensures)
