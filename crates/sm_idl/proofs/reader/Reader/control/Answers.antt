use Rattle.sm_idl.specs.steps.ReaderView.{left}
use Rattle.sm_idl.specs.steps.ReaderView.{raw_pair}
use Rattle.sm_idl.proofs.ReadBeginning.{control_mark_stop, control_behind}
use Rattle.sm_idl.proofs.reader.Reader.control.Goals as goal

pub returns-in-Err-clause-reads : goal.returns-in-Err-clause-reads
returns-in-Err-clause-reads g c = λ before seen.
    control_mark_stop (g.W.Words.home c.args.words.now) before (left c.args.self.now) (left c.mark.new.self) c.in-Err.stop c.in-Err.ensures

pub returns-clause-reads : goal.returns-clause-reads
returns-clause-reads g c = λ before seen.
    control_behind (g.W.Words.home c.args.words.now) before raw_pair (left c.args.self.now) (left c.mark.new.self)
    (left c.pair.new.self) c.pair.result c.in-Ok.ensures (c.pair.ensures.reads before seen)
