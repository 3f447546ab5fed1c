use Rattle.std.proofs.Common.{subst}
use Rattle.std.specs.List.{Contains}
use Rattle.sm_compile.specs.steps.Carrying.{rows_in, texts_in}
use Rattle.sm_compile.proofs.PatternsPut.{one_carried, none_more}
use Rattle.sm_compile.proofs.TextsPlaced.{there_at}
use Rattle.sm_compile.proofs.patterns.put_text.Goals as goal

pub returns-in-Some : goal.returns-in-Some
returns-in-Some c =
    let known = there_at (texts_in c.args.carried.now) c.in-Some.field-0 c.args.text.now c.in-Some.ensures in
    record {
      rows = none_more c.args.graph.now c.args.marks.now c.args.number (rows_in c.args.carried.now) c.requires.before.rows
          (λ u is. subst (Contains (texts_in c.args.carried.now))
          (one_carried c.args.graph.now c.args.marks.now c.args.number c.args.text.now u c.requires.carries is) known);
      placed = c.requires.before.placed;
    }
