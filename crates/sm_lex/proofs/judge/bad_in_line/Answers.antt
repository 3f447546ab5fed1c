use Rattle.std.proofs.Common.{subst}
use Rattle.std.specs.Prelude.{List, ℕ}
use Rattle.sm_lex.specs.steps.LexSteps.{PartOfLine, LineGives}
use Rattle.sm_lex.specs.declared.part.Part.TheVariants.{Plain, Escaped}
use Rattle.sm_lex.proofs.Lengths.{whole_rest}
use Rattle.sm_lex.proofs.LineParts.{reached_plain, reached_escaped, reached_end}
use Rattle.sm_lex.proofs.judge.bad_in_line.Goals as goal

pub loop-at-preserved-in-Plain : goal.loop-at-preserved-in-Plain
loop-at-preserved-in-Plain c =
    let s = c.as_bytes-bytes.result.now in
    reached_plain c.args.last c.args.line.at c.loop-at.at c.in-Plain.len s c.loop-at.invariant
    (subst (λ t. PartOfLine c.args.last t (Plain c.in-Plain.len)) (whole_rest s c.loop-at.at) c.in-Plain.ensures)

pub loop-at-preserved : goal.loop-at-preserved
loop-at-preserved c =
    let s = c.as_bytes-bytes.result.now in
    reached_escaped c.args.last c.args.line.at c.loop-at.at s c.in-Escaped.escape c.loop-at.invariant
    (subst (λ t. PartOfLine c.args.last t (Escaped c.in-Escaped.escape)) (whole_rest s c.loop-at.at) c.in-Escaped.ensures)

pub returns : goal.returns
returns c = subst (λ s. (t : List ℕ) × LineGives c.args.last c.args.line.at s t) c.as_bytes-bytes.ensures.value
    (reached_end c.args.last c.args.line.at c.loop-at.at c.as_bytes-bytes.result.now c.loop-at.invariant c.loop-at-test.false)
