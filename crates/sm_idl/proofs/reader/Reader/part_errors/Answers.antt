use Rattle.sm_idl.specs.steps.ReaderView.{left}
use Rattle.sm_idl.specs.steps.HomeView.{home_of_file}
use Rattle.sm_idl.specs.steps.PartSteps.{part_view}
use Rattle.sm_idl.proofs.ReadParts.{errors_word_stop, errors_colon_stop, errors_ids_stop, errors_read, part_seen}
use Rattle.std.proofs.Common.{codes, ap}
use Rattle.sm_idl.proofs.reader.Reader.part_errors.Goals as goal

pub returns-in-Err-clause-reads : goal.returns-in-Err-clause-reads
returns-in-Err-clause-reads c = λ before seen.
    errors_word_stop (home_of_file c.args.home.now) before (left c.args.self.now) (left c.part_word.new.self) c.in-Err.stop
    (c.in-Err.ensures.reads before seen)

pub returns-in-Err-mark-clause-reads : goal.returns-in-Err-mark-clause-reads
returns-in-Err-mark-clause-reads c = λ before seen.
    errors_colon_stop (home_of_file c.args.home.now) before (left c.args.self.now) (left c.part_word.new.self) (left c.mark.new.self)
    c.in-Err-mark.stop (c.in-Ok.ensures.reads before seen) c.in-Err-mark.ensures

pub returns-in-Err-listed_ids-clause-reads : goal.returns-in-Err-listed_ids-clause-reads
returns-in-Err-listed_ids-clause-reads c = λ before seen.
    errors_ids_stop (home_of_file c.args.home.now) before (left c.args.self.now) (left c.part_word.new.self) (left c.mark.new.self)
    (left c.listed_ids.new.self) c.in-Err-listed_ids.stop (c.in-Ok.ensures.reads before seen) c.in-Ok-mark.ensures
    c.in-Err-listed_ids.ensures

pub returns-in-Ok-errors_part-clause-reads : goal.returns-in-Ok-errors_part-clause-reads
returns-in-Ok-errors_part-clause-reads c = λ before seen.
    errors_read (home_of_file c.args.home.now) before c.in-Ok-listed_ids.ids.items (part_view c.in-Ok-errors_part.part)
    (left c.args.self.now) (left c.part_word.new.self) (left c.mark.new.self) (left c.listed_ids.new.self)
    c.in-Ok-errors_part.ensures (c.in-Ok.ensures.reads before seen) c.in-Ok-mark.ensures c.in-Ok-listed_ids.ensures

pub returns-in-Ok-errors_part-clause-seen : goal.returns-in-Ok-errors_part-clause-seen
returns-in-Ok-errors_part-clause-seen c = λ before seen.
    part_seen c.part_word.new.seen before (codes "errors") (part_view c.in-Ok-errors_part.part)
    (ap (λ p. p.name) c.in-Ok-errors_part.ensures) (c.in-Ok.ensures.seen before seen)
