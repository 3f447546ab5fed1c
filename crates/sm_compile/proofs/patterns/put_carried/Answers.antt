use Rattle.sm_compile.specs.steps.Carrying.{rows_in}
use Rattle.sm_compile.proofs.PatternsPut.{none_more}
use Rattle.sm_compile.proofs.patterns.put_carried.Goals as goal

pub returns-in-None : goal.returns-in-None
returns-in-None c = record {
  rows = none_more c.args.graph.now c.args.marks.now c.args.number (rows_in c.args.carried.now) c.requires.before.rows
      (λ u is. absurd (c.in-None.ensures u is));
  placed = c.requires.before.placed;
}
