-- The second byte ends a character of two, goes on in one of more, or stands in none.
use Rattle.std.proofs.Common.{◌+◌, ◌-◌, ◌*◌, arith, sym, ap, ◌∙◌, subst}
use Rattle.std.proofs.lemmas.Bool.{false≢true}
use Rattle.sm_json.specs.steps.TextSteps.{CodeEnd, StepsTo}
use Rattle.sm_json.proofs.Utf8Parts.{one_refused, one_whole}
use Rattle.sm_json.proofs.Utf8Tests.{second_said, second_told}
use Rattle.sm_json.proofs.utf8.second_byte.Goals as goal

pub returns-else-x-ge224 : goal.returns-else-x-ge224
returns-else-x-ge224 c = one_whole c.args.x c.args.y c.whole.result (omega arith) (omega arith)
    (second_said c.args.x c.args.y c.is_second.result c.is_second.ensures c.if-is_second.true)
    (subst (λ n. StepsTo (CodeEnd n) c.whole.result) (c.with_tail.ensures ∙ ap (λ n. (n - 192) * 64 + (c.args.y - 128)) c.from.ensures)
    c.whole.ensures)

pub returns-else-is_second : goal.returns-else-is_second
returns-else-is_second c = one_refused c.args.x c.args.y (omega arith)
    (λ h. false≢true (sym c.if-is_second.false ∙ second_told c.args.x c.args.y c.is_second.result c.is_second.ensures h))
