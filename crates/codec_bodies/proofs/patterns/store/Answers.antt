use Rattle.std.proofs.Common.{[], ◌∷◌, ◌++◌, take, sym, ap, ◌∙◌, arith, rules}
use Rattle.std.proofs.lemmas.List.{take_more}
use Rattle.sm_shapes.specs.LiteralStore.{texts}
use Rattle.codec_bodies.proofs.CheckedParts.{stored_step}
use Rattle.codec_bodies.proofs.patterns.store.Goals as goal

pub loop-pattern-preserved : goal.loop-pattern-preserved
loop-pattern-preserved c =
    let i = c.loop-pattern.pattern-index in
    let items = c.as_slice-pattern-items.result.now in
    let p = c.pattern-item.result in
    stored_step items i p (texts c.loop-pattern.patterns) (texts c.add.new.self) c.in-Ok.number c.as_str.result.now
    (take_more items i p (omega (arith, c.loop-pattern-test.true, c.loop-pattern.auto.pattern-index-end))
    ∙ ap (λ x. take i items ++ x ∷ []) (sym c.pattern-item.is))
    c.in-Ok.ensures.number.0 c.in-Ok.ensures.number.1 (omega (arith, c.if-number-pattern.false)) (search rules) c.loop-pattern.invariant
