use Rattle.std.proofs.Common.{◌≡◌, ap, sym}
use Rattle.sm_bodies.specs.AnswerView.{text_answer}
use Rattle.sm_body_command.specs.Body.{printed}
use Rattle.sm_lines.specs.Lines.{fault_line, syntax_line}
use Rattle.sm_asked_shape.proofs.asked.Stops.{line_stops}
use Rattle.sm_body_command.proofs.body.printed_answer.Goals as goal

pub returns-in-Syntax : goal.returns-in-Syntax
returns-in-Syntax c =
    line_stops (λ a. a ≡ printed (text_answer c.args.answer)) ⊥ (Unit {0}) (syntax_line c.in-Syntax.refusal) c.refused.result
    (ap (λ x. printed (text_answer x)) (sym c.in-Syntax.is)) tt
    (c.refused.ensures (syntax_line c.in-Syntax.refusal) c.syntax_line.ensures)

pub returns-in-Fault : goal.returns-in-Fault
returns-in-Fault c =
    line_stops (λ a. a ≡ printed (text_answer c.args.answer)) ⊥ (Unit {0}) (fault_line c.in-Fault.fault.path c.in-Fault.fault.kind)
    c.refused-in-Fault.result (ap (λ x. printed (text_answer x)) (sym c.in-Fault.is)) tt
    (c.refused-in-Fault.ensures (fault_line c.in-Fault.fault.path c.in-Fault.fault.kind) c.fault_line.ensures)
