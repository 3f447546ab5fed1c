use Rattle.std.proofs.Common.{◌≡◌, ◌++◌, true, true≢false, refl, sym, ap, ◌∙◌}
use Rattle.std.specs.Ordering.{eq_by_cmp}
use Rattle.sm_tree.specs.View.{node_of}
use Rattle.sm_tree.specs.steps.Canonical.{form, form_cmp}
use Rattle.sm_tree.proofs.Equal.{equal_is}
use Rattle.sm_tree.proofs.SameForms.{answers_same, answers_equal}
use Rattle.sm_tree.proofs.same.is_same.Goals as goal

pub returns-then-eq-clause-same : goal.returns-then-eq-clause-same
returns-then-eq-clause-same c =
    let one = (equal_is c.args.a.now c.args.b.now).0 (sym c.eq.ensures ∙ c.if-eq.true) in
    answers_equal (node_of c.args.a.now) (node_of c.args.b.now) true refl one

pub returns-in_err-put-clause-equal : goal.returns-in_err-put-clause-equal
returns-in_err-put-clause-equal c = λ one.
    absurd (true≢false (sym (c.eq.ensures ∙ (equal_is c.args.a.now c.args.b.now).1 one) ∙ c.if-eq.false))

pub returns-in_err-put-2-clause-equal : goal.returns-in_err-put-2-clause-equal
returns-in_err-put-2-clause-equal c = λ one.
    absurd (true≢false (sym (c.eq.ensures ∙ (equal_is c.args.a.now c.args.b.now).1 one) ∙ c.if-eq.false))

pub returns-clause-same : goal.returns-clause-same
returns-clause-same c =
    let first : c.put.new.out ≡ form (node_of c.args.a.now) = c.in_ok-put.ensures
    ∙ ap (λ f. f ++ form (node_of c.args.a.now)) c.new-first.ensures in
    let second : c.put-2.new.out ≡ form (node_of c.args.b.now) = c.in_ok-put-2.ensures
    ∙ ap (λ f. f ++ form (node_of c.args.b.now)) c.new-second.ensures in
    answers_same (node_of c.args.a.now) (node_of c.args.b.now) c.eq-2.result
    (c.eq-2.ensures ∙ ap (λ f. eq_by_cmp form_cmp f c.put-2.new.out) first
    ∙ ap (λ f. eq_by_cmp form_cmp (form (node_of c.args.a.now)) f) second)
