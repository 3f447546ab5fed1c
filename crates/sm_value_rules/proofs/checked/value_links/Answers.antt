use Rattle.std.proofs.lemmas.Result.{IfOk-weaker}
use Rattle.sm_value_rules.specs.steps.Checking.{AreOfValues, AreValueLinks}
use Rattle.sm_value_rules.proofs.CheckedMarks.{value_links_told}
use Rattle.sm_value_rules.proofs.checked.value_links.Goals as goal

pub returns : goal.returns
returns c =
    let g = c.args.graph.now in
    let all = c.args.all.now in
    IfOk-weaker c.links_of_values.result (λ links. AreOfValues all links.items) (λ links. AreValueLinks g links.items)
    (λ links of. value_links_told g all links.items c.requires of) c.links_of_values.ensures
