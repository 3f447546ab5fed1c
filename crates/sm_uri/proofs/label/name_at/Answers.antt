use Rattle.sm_ids.proofs.Cutting.{clash}
use Rattle.sm_uri.proofs.UriCuts.{no_name}
use Rattle.sm_uri.proofs.label.name_at.Goals as goal

pub returns-else-is_identifier : goal.returns-else-is_identifier
returns-else-is_identifier c =
    let name = c.cut_run-cut.ensures in
    let low = c.cut_run.ensures in
    no_name c.args.text.now c.cut_run-cut.result.taken.now c.cut_run-cut.result.behind.now c.cut_run.result.taken.now
    c.cut_run.result.behind.now name.parts name.passes name.ends
    (λ h. clash c.is_identifier.result (c.is_identifier.ensures.1 h) c.if-is_identifier.false) low.parts low.passes low.ends
