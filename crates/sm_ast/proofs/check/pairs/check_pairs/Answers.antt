use Rattle.std.proofs.Common.{ℕ, ◌++◌, ◌∷◌, List, [], map, take, Some, subst, sym, ap, ◌∙◌, arith}
use Rattle.sm_tree.specs.View.{node_of}
use Rattle.sm_ast.specs.Faults.{field, stands_in}
use Rattle.sm_ast.specs.steps.Checks.{Remembers}
use Rattle.sm_ast.proofs.Telling.{names_more, pair_passed, pair_told, told_again, told_fresh}
use Rattle.sm_ast.proofs.check.pairs.check_pairs.Goals as goal

pub returns-then-branch : goal.returns-then-branch
returns-then-branch g c =
    let xs = c.args.pairs.now in
    let i = c.loop-pair.pair-index in
    let x = c.pair-item.result in
    let before : List (List ℕ) = map (λ p. p.0) (take i xs) in
    let same = (c.in_ok-stands_again.ensures before c.loop-pair.invariant.seen).0 in
    pair_told (g.R.PairRule.fault c.args.rule.now) xs i x (omega arith) c.pair-item.is before _ c.loop-pair.invariant.fault _
    (told_again before x.0 _ _ (ap (λ k. stands_in k before) (sym c.as_str.ensures.bytes) ∙ sym same ∙ c.if-branch.true)
    (c.under_key.ensures (Some (field [])) c.field.ensures))

pub returns-in-Err : goal.returns-in-Err
returns-in-Err g c =
    let xs = c.args.pairs.now in
    let i = c.loop-pair.pair-index in
    let x = c.pair-item.result in
    let before : List (List ℕ) = map (λ p. p.0) (take i xs) in
    let same = (c.in_ok-stands_again.ensures before c.loop-pair.invariant.seen).0 in
    pair_told (g.R.PairRule.fault c.args.rule.now) xs i x (omega arith) c.pair-item.is before _ c.loop-pair.invariant.fault _
    (told_fresh before x.0 _ _ (ap (λ k. stands_in k before) (sym c.as_str.ensures.bytes) ∙ sym same ∙ c.if-branch.false)
    (c.under_key-in-Err.ensures (g.R.PairRule.fault c.args.rule.now x.0 (node_of x.1)) c.in-Err.ensures))

pub loop-pair-preserved : goal.loop-pair-preserved
loop-pair-preserved g c =
    let xs = c.args.pairs.now in
    let i = c.loop-pair.pair-index in
    let x = c.pair-item.result in
    let before : List (List ℕ) = map (λ p. p.0) (take i xs) in
    let kept = c.in_ok-stands_again.ensures before c.loop-pair.invariant.seen in
    let more = names_more xs i x (omega arith) c.pair-item.is in
    record {
      seen = subst (λ names. Remembers c.stands_again.new.seen names) (sym more)
          (subst (λ k. Remembers c.stands_again.new.seen (before ++ k ∷ [])) c.as_str.ensures.bytes kept.1);
      fault = pair_passed (g.R.PairRule.fault c.args.rule.now) xs i x
          (omega arith) c.pair-item.is before _ more _ c.loop-pair.invariant.fault
          (ap (λ k. stands_in k before) (sym c.as_str.ensures.bytes) ∙ sym kept.0 ∙ c.if-branch.false) c.in-Ok.ensures;
    }
