use Rattle.std.proofs.Common.{refl, codes}
use Rattle.sm_idl.proofs.PairsAhead.{says_true, says_false, says_null, says_id, same_word, other_word}
use Rattle.sm_idl.proofs.word.is_node_word.Goals as goal

pub returns-then-eq : goal.returns-then-eq
returns-then-eq c = λ home. (
  (λ _. says_true home c.args.word.now (same_word c.args.word.now (codes "true") c.eq.result c.eq.ensures c.if-eq.true)),
  (λ _. refl),
)

pub returns-then-eq-2 : goal.returns-then-eq-2
returns-then-eq-2 c = λ home. (
  (λ _. says_false home c.args.word.now (same_word c.args.word.now (codes "false") c.eq-2.result c.eq-2.ensures c.if-eq-2.true)),
  (λ _. refl),
)

pub returns-then-eq-3 : goal.returns-then-eq-3
returns-then-eq-3 c = λ home. (
  (λ _. says_null home c.args.word.now (same_word c.args.word.now (codes "null") c.eq-3.result c.eq-3.ensures c.if-eq-3.true)),
  (λ _. refl),
)

pub returns : goal.returns
returns c = λ home.
    says_id home c.args.word.now (other_word c.args.word.now (codes "true") c.eq.result c.eq.ensures c.if-eq.false)
    (other_word c.args.word.now (codes "false") c.eq-2.result c.eq-2.ensures c.if-eq-2.false)
    (other_word c.args.word.now (codes "null") c.eq-3.result c.eq-3.ensures c.if-eq-3.false) c.is_word_id.result c.is_word_id.ensures
