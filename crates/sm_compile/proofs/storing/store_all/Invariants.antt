use Rattle.std.proofs.Common.{take}
use Rattle.sm_compile.specs.Answers.{seen_store}
use Rattle.sm_compile.specs.Compiled.{texts_of}
use Rattle.sm_compile.specs.steps.Carrying.{rows_in}
use Rattle.sm_compile.specs.steps.Storing.{AreTextsStored}
use Rattle.sm_compile.proofs.storing.store_all.Given as goal

abbrev pub invariant-loop-first : goal.invariant-loop-first
invariant-loop-first g l =
    AreTextsStored (texts_of (take l.first-index (rows_in l.carried)))
    (seen_store (g.P.Patterns.added l.fn.patterns) (g.P.Patterns.refused l.fn.patterns) (g.P.Patterns.refusals l.fn.patterns))
    (seen_store (g.P.Patterns.added l.patterns) (g.P.Patterns.refused l.patterns) (g.P.Patterns.refusals l.patterns)) l.rows.items
