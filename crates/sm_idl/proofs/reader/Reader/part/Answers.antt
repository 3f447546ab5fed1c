use Rattle.sm_idl.specs.steps.ReaderView.{left}
use Rattle.sm_idl.specs.steps.HomeView.{home_of_file}
use Rattle.sm_idl.specs.steps.Firm.{HeadIs}
use Rattle.sm_idl.proofs.NodeRows.{refused}
use Rattle.std.proofs.Common.{codes}
use Rattle.sm_idl.specs.steps.PartSteps.{part_view, suffixes_view}
use Rattle.sm_idl.specs.steps.Classes.{AWord}
use Rattle.sm_idl.proofs.ReadParts.{part_input, part_output, part_last}
use Rattle.sm_idl.proofs.reader.Reader.part.Goals as goal

pub returns-then-is_at_word-clause-reads : goal.returns-then-is_at_word-clause-reads
returns-then-is_at_word-clause-reads c = λ before seen.
    part_input (home_of_file c.args.home.now) (suffixes_view c.args.endings.now) c.args.operation.now before part_view
    (left c.args.self.now) (left c.part_shape.new.self) c.part_shape.result (c.is_at_word.ensures.0 c.if-is_at_word.true)
    (c.part_shape.ensures.reads before seen)

pub returns-then-is_at_word-2-clause-reads : goal.returns-then-is_at_word-2-clause-reads
returns-then-is_at_word-2-clause-reads c = λ before seen.
    part_output (home_of_file c.args.home.now) (suffixes_view c.args.endings.now) c.args.operation.now before part_view
    (left c.args.self.now) (left c.part_shape-then-is_at_word-2.new.self) c.part_shape-then-is_at_word-2.result
    (refused c.is_at_word.result (HeadIs (AWord (codes "input")) (left c.args.self.now)) c.is_at_word.ensures c.if-is_at_word.false)
    (c.is_at_word-2.ensures.0 c.if-is_at_word-2.true) (c.part_shape-then-is_at_word-2.ensures.reads before seen)

pub returns-clause-reads : goal.returns-clause-reads
returns-clause-reads c = λ before seen.
    part_last (home_of_file c.args.home.now) (suffixes_view c.args.endings.now) c.args.operation.now before part_view
    (left c.args.self.now) (left c.part_errors.new.self) c.part_errors.result
    (refused c.is_at_word.result (HeadIs (AWord (codes "input")) (left c.args.self.now)) c.is_at_word.ensures c.if-is_at_word.false)
    (refused c.is_at_word-2.result (HeadIs (AWord (codes "output")) (left c.args.self.now)) c.is_at_word-2.ensures
    c.if-is_at_word-2.false) (c.part_errors.ensures.reads before seen)
