use Rattle.sm_idl.specs.steps.ReaderView.{left}
use Rattle.sm_idl.specs.steps.HomeView.{home_of_file}
use Rattle.sm_idl.specs.steps.Firm.{HeadIs}
use Rattle.sm_idl.proofs.NodeRows.{refused}
use Rattle.std.proofs.Common.{◌++◌, ◌∷◌, [], codes, subst}
use Rattle.sm_idl.specs.steps.PartSteps.{side_word, part_view}
use Rattle.sm_idl.specs.Bodies.{part_names, part_word, part_target, part_inline, part_shape}
use Rattle.sm_idl.specs.steps.Classes.{AMark}
use Rattle.sm_idl.specs.steps.Names.{Remembers}
use Rattle.sm_idl.specs.steps.ReaderView.{NoToken, StopsIn, ReadsAs}
use Rattle.sm_idl.proofs.ReadParts.{shape_word_stop, shape_target, shape_inline, read_seen, target_named, inline_named}
use Rattle.sm_idl.proofs.reader.Reader.part_shape.Goals as goal

pub returns-in-Err-clause-reads : goal.returns-in-Err-clause-reads
returns-in-Err-clause-reads c = λ before seen.
    subst (λ w. StopsIn NoToken (part_shape (home_of_file c.args.home.now) c.args.operation.now c.args.suffix.now w before)
    (left c.args.self.now) (left c.part_word.new.self) c.in-Err.stop) c.word-word.ensures
    (shape_word_stop (home_of_file c.args.home.now) c.args.operation.now c.args.suffix.now c.word-word.result.now before
    (left c.args.self.now) (left c.part_word.new.self) c.in-Err.stop (c.in-Err.ensures.reads before seen))

pub returns-then-is_at_mark-clause-reads : goal.returns-then-is_at_mark-clause-reads
returns-then-is_at_mark-clause-reads c = λ before seen.
    subst (λ w. ReadsAs part_view (part_shape (home_of_file c.args.home.now) c.args.operation.now c.args.suffix.now w before)
    (left c.args.self.now) (left c.part_target.new.self) c.part_target.result) c.word-word.ensures
    (shape_target (home_of_file c.args.home.now) c.args.operation.now c.args.suffix.now c.word-word.result.now part_view before
    (left c.args.self.now) (left c.part_word.new.self) (left c.part_target.new.self) c.part_target.result
    (c.in-Ok.ensures.reads before seen) (c.is_at_mark.ensures.0 c.if-is_at_mark.true) c.part_target.ensures)

pub returns-then-is_at_mark-clause-seen : goal.returns-then-is_at_mark-clause-seen
returns-then-is_at_mark-clause-seen c = λ before seen.
    read_seen part_view (part_target (home_of_file c.args.home.now) c.word-word.result.now) c.word-word.result.now
    (target_named (home_of_file c.args.home.now) c.word-word.result.now) c.part_word.new.seen before (left c.part_word.new.self)
    (left c.part_target.new.self) c.part_target.result c.part_target.ensures (c.in-Ok.ensures.seen before seen)

pub returns-clause-reads : goal.returns-clause-reads
returns-clause-reads c = λ before seen.
    shape_inline (home_of_file c.args.home.now) c.args.operation.now c.args.suffix.now (side_word c.args.side) part_view before
    (left c.args.self.now) (left c.part_word.new.self) (left c.part_inline.new.self) c.part_inline.result
    (subst (λ w. (part_word w before).whole tt (left c.args.self.now) (left c.part_word.new.self)) c.word-word.ensures
    (c.in-Ok.ensures.reads before seen)) (refused c.is_at_mark.result (HeadIs (AMark (codes ":")) (left c.part_word.new.self))
    c.is_at_mark.ensures c.if-is_at_mark.false) c.part_inline.ensures

pub returns-clause-seen : goal.returns-clause-seen
returns-clause-seen c = λ before seen.
    read_seen part_view (part_inline (home_of_file c.args.home.now) c.args.operation.now c.args.suffix.now (side_word c.args.side))
    (side_word c.args.side) (inline_named (home_of_file c.args.home.now) c.args.operation.now c.args.suffix.now (side_word c.args.side))
    c.part_word.new.seen before (left c.part_word.new.self) (left c.part_inline.new.self) c.part_inline.result c.part_inline.ensures
    (subst (λ w. Remembers c.part_word.new.seen (part_names before ++ w ∷ [])) c.word-word.ensures (c.in-Ok.ensures.seen before seen))
