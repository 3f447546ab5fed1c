use Rattle.std.proofs.Common.{subst, sym, ◌∙◌, ap, arith, drop, length, length-drop}
use Rattle.std.specs.Prelude.{Some}
use Rattle.std.proofs.lemmas.List.{drop-drop}
use Rattle.sm_lex.specs.Space.{SkipsSpace}
use Rattle.sm_lex.specs.steps.LexSteps.{PartOfSpace}
use Rattle.sm_lex.proofs.Lengths.{whole_rest}
use Rattle.sm_lex.proofs.Spaces.{skips_part}
use Rattle.sm_lex.proofs.space.space_len.Goals as goal

pub loop-part-preserved : goal.loop-part-preserved
loop-part-preserved c =
    let s = c.args.bytes.now in
    let at = c.loop-part.at in
    let found = subst (λ t. PartOfSpace t (Some c.in-Some.part)) (whole_rest s at) c.in-Some.ensures.part in
    let rest = ap (λ k. drop k (drop at s)) (sym c.len-at.ensures) ∙ drop-drop c.len-at.result at s in record {
      within = omega (arith, ap length (whole_rest s at), length-drop at s, c.in-Some.ensures.within, c.len-at.ensures);
      skips = λ r behind. c.loop-part.invariant.skips r
          (skips_part (drop at s) r c.in-Some.part found (subst (λ t. SkipsSpace t r) (sym rest) behind));
    }
