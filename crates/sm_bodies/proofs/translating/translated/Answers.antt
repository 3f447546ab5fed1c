use Rattle.std.specs.Prelude.{Ok}
use Rattle.sm_shapes.specs.TableView.{table_data}
use Rattle.sm_bodies.specs.Sides.{side_of}
use Rattle.sm_bodies.proofs.BodiesRead.{body_fits}
use Rattle.sm_bodies.proofs.BodiesAnswered.{value_told, refusal_told}
use Rattle.sm_bodies.proofs.translating.translated.Goals as goal

pub far_answer-requires-clause-fits : goal.far_answer-requires-clause-fits
far_answer-requires-clause-fits g c =
    body_fits (side_of c.args.near).syntax (table_data c.args.table.now) (side_of c.args.near).leaves g.P.Patterns.test c.args.shape
    c.args.body.now (Ok c.in-Ok.value) c.in-Ok.ensures.value

pub returns-in-Ok-clause-answers : goal.returns-in-Ok-clause-answers
returns-in-Ok-clause-answers g c =
    value_told c.args.near c.args.far (table_data c.args.table.now) g.P.Patterns.test c.args.shape c.args.body.now c.in-Ok.value
    c.far_answer.result c.in-Ok.ensures.value c.far_answer.ensures

pub returns-in-Err-clause-answers : goal.returns-in-Err-clause-answers
returns-in-Err-clause-answers g c =
    refusal_told c.args.near c.args.far (table_data c.args.table.now) g.P.Patterns.test c.args.shape c.args.body.now c.in-Err.refusal
    c.refused_answer.result c.in-Err.ensures.value c.refused_answer.ensures
