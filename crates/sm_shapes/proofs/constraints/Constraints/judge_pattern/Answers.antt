use Rattle.std.proofs.Common.{sym, ◌∙◌, subst, true, false}
use Rattle.sm_shapes.specs.InOrder.{NamesPattern}
use Rattle.sm_shapes.specs.TableView.{table_data}
use Rattle.sm_shapes.proofs.PatternNumbers.{stored_at, pattern_first}
use Rattle.sm_shapes.proofs.constraints.Constraints.judge_pattern.Goals as goal

pub finds-requires : goal.finds-requires
finds-requires g c = record {
  number = (stored_at (table_data c.args.table.now) (g.P.Patterns.added c.args.patterns.now) c.in-Some.pattern c.requires.stored
      (subst (λ o. NamesPattern (table_data c.args.table.now) o) c.in-Some.is c.requires.named)).0;
}

pub returns-in-Ok-true-clause-first : goal.returns-in-Ok-true-clause-first
returns-in-Ok-true-clause-first g c =
    pattern_first (table_data c.args.table.now) g.P.Patterns.test
    (g.P.Patterns.added c.args.patterns.now) c.args.self.now.pattern c.in-Some.pattern
    c.args.text.now true c.in-Some.is c.requires.stored c.requires.named (sym c.in-Ok-true.field-0-test ∙ c.in-Ok-true.ensures.found)

pub returns-in-Ok-false-clause-first : goal.returns-in-Ok-false-clause-first
returns-in-Ok-false-clause-first g c =
    pattern_first (table_data c.args.table.now) g.P.Patterns.test
    (g.P.Patterns.added c.args.patterns.now) c.args.self.now.pattern c.in-Some.pattern
    c.args.text.now false c.in-Some.is c.requires.stored c.requires.named (sym c.in-Ok-false.field-0-test ∙ c.in-Ok-false.ensures.found)
