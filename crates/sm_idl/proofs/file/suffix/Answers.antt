use Rattle.std.proofs.Common.{sym, subst, ◌∙◌, arith, IfOk, ◌≡◌}
use Rattle.sm_idl.proofs.PairsAhead.{same_word, other_word}
use Rattle.sm_idl.proofs.ReadControls.{suffix_here, suffix_next}
use Rattle.sm_idl.proofs.file.suffix.Goals as goal

pub returns-then-eq : goal.returns-then-eq
returns-then-eq c =
    subst (λ z. IfOk c.suffix_of.result (λ suffix. suffix ≡ z)) (suffix_here c.args.controls.now c.loop-control.control-index
    c.control-item.result (omega arith) c.control-item.is c.args.name.now c.args.otherwise.now
    (sym c.as_str.ensures.bytes ∙ same_word c.as_str.result.now c.args.name.now c.eq.result c.eq.ensures c.if-eq.true)
    c.loop-control.invariant) c.suffix_of.ensures

pub loop-control-preserved : goal.loop-control-preserved
loop-control-preserved c =
    suffix_next c.args.controls.now c.loop-control.control-index c.control-item.result (omega arith) c.control-item.is c.args.name.now
    c.args.otherwise.now (λ e. other_word c.as_str.result.now c.args.name.now c.eq.result c.eq.ensures c.if-eq.false
    (c.as_str.ensures.bytes ∙ e)) c.loop-control.invariant
