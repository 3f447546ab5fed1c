use Rattle.std.proofs.Common.{sym, ap, ◌∙◌}
use Rattle.sm_model.specs.GraphView.{maps_of}
use Rattle.sm_model.specs.Reaching.{id_of_number}
use Rattle.sm_compile.specs.Looked.{target_under}
use Rattle.sm_trait_rules.specs.steps.Judging.{entry_where}
use Rattle.sm_passes.specs.Places.{entry_behind}
use Rattle.sm_trait_rules.proofs.JudgedTraits.{member_behind, nothing_behind, shape_behind}
use Rattle.sm_trait_rules.proofs.judged.behind_of.Goals as goal

pub returns-in-Some-kind_of : goal.returns-in-Some-kind_of
returns-in-Some-kind_of c =
    let g = c.args.graph.now in
    sym (ap (λ o. entry_behind (entry_where (maps_of g) o)) c.in-Some.ensures.1
    ∙ shape_behind (maps_of g) (id_of_number g c.in-Some.target) c.in-Some-kind_of.kind c.in-Some-kind_of.ensures)

pub returns-in-None-kind_of : goal.returns-in-None-kind_of
returns-in-None-kind_of c =
    let g = c.args.graph.now in
    sym (ap (λ o. entry_behind (entry_where (maps_of g) o)) c.in-Some.ensures.1
    ∙ member_behind g c.in-Some.target c.in-Some.ensures.0 c.in-None-kind_of.ensures)

pub returns-in-None : goal.returns-in-None
returns-in-None c =
    let g = c.args.graph.now in
    sym (nothing_behind (maps_of g) (target_under (maps_of g) (id_of_number g c.args.member)) c.in-None.ensures)
