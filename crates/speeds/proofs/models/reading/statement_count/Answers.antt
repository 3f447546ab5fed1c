use Rattle.std.proofs.Common.{◌∙◌, ap, length, sym}
use Rattle.std.proofs.lemmas.List.{length-map}
use Rattle.sm_model.specs.SaidView.{statement_view}
use Rattle.speeds.proofs.models.reading.statement_count.Goals as goal

pub returns-in-Ok-read_idl : goal.returns-in-Ok-read_idl
returns-in-Ok-read_idl c =
    let found = c.in-Ok-read_idl.statements.items in
    let said = c.in-Ok-read_idl.ensures.reads in
    (said.0, said.3, ap length said.1 ∙ length-map found statement_view ∙ sym c.in-Ok-read_idl.statements.ok.0 ∙ sym c.len.ensures)
