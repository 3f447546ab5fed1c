-- The third byte ends a character of three, goes on in one of four, or stands in none.
use Rattle.std.proofs.Common.{◌+◌, ◌-◌, ◌*◌, arith, sym, ap, ◌∙◌, subst}
use Rattle.std.proofs.lemmas.Bool.{false≢true}
use Rattle.sm_json.specs.steps.TextSteps.{CodeEnd, StepsTo}
use Rattle.sm_json.proofs.Utf8Parts.{two_refused, two_whole}
use Rattle.sm_json.proofs.Utf8Tests.{tail_said, tail_told}
use Rattle.sm_json.proofs.utf8.third_byte.Goals as goal

pub returns-else-x-ge240 : goal.returns-else-x-ge240
returns-else-x-ge240 c = two_whole c.args.x c.args.y c.args.z c.whole.result (omega arith) (omega arith) c.requires.2
    (tail_said c.args.z c.is_tail.result c.is_tail.ensures c.if-is_tail.true)
    (subst (λ n. StepsTo (CodeEnd n) c.whole.result)
    (c.with_tail.ensures ∙ ap (λ n. n * 64 + (c.args.z - 128))
    (c.with_tail-two.ensures ∙ ap (λ n. (n - 224) * 64 + (c.args.y - 128)) c.from.ensures)) c.whole.ensures)

pub returns-else-is_tail : goal.returns-else-is_tail
returns-else-is_tail c = two_refused c.args.x c.args.y c.args.z (omega arith)
    (λ h. false≢true (sym c.if-is_tail.false ∙ tail_told c.args.z c.is_tail.result c.is_tail.ensures h))
