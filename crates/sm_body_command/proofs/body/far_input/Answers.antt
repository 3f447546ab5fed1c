use Rattle.std.proofs.Common.{subst}
use Rattle.sm_io.specs.Seen.{stream}
use Rattle.sm_shapes.specs.TableView.{table_data}
use Rattle.sm_asked_shape.specs.asked.Lines.{body_limit_line}
use Rattle.sm_body_command.specs.steps.BodySteps.{PrintsText}
use Rattle.sm_asked_shape.specs.asked.Comes.{StepComesTo}
use Rattle.sm_body_command.proofs.Bodies.{input_comes, input_past}
use Rattle.sm_body_command.proofs.body.far_input.Goals as goal

pub returns-in-Ok-clause-comes : goal.returns-in-Ok-clause-comes
returns-in-Ok-clause-comes g c =
    let near = c.args.words.near in
    let far = c.args.words.far in
    let t = table_data c.args.table.now in
    input_comes near far t g.P.Patterns.test c.args.shape (stream (g.S.Source.left c.args.input.now) (g.S.Source.faults c.args.input.now))
    (stream (g.S.Source.left c.read_all.new.source) (g.S.Source.faults c.read_all.new.source)) c.in-Ok.body.items c.far_body.result
    c.in-Ok.ensures.bytes.0 c.in-Ok.ensures.bytes.1
    (subst (λ body. StepComesTo (PrintsText near far t g.P.Patterns.test c.args.shape body) ⊥ (Unit {0}) c.far_body.result)
    c.deref.ensures.value c.far_body.ensures.comes)

pub returns-in-Err-TooLong-clause-comes : goal.returns-in-Err-TooLong-clause-comes
returns-in-Err-TooLong-clause-comes g c =
    let long = rw c.in-Err-TooLong.field-0-is at c.in-Err-TooLong.ensures.bytes in
    input_past c.args.words.near c.args.words.far (table_data c.args.table.now) g.P.Patterns.test c.args.shape
    (stream (g.S.Source.left c.args.input.now) (g.S.Source.faults c.args.input.now))
    (stream (g.S.Source.left c.read_all.new.source) (g.S.Source.faults c.read_all.new.source)) c.past.result long.0
    (c.past.ensures body_limit_line c.limit_line.ensures)
