use Rattle.sm_idl.specs.steps.ReaderView.{left}
use Rattle.sm_idl.proofs.ReadBeginning.{used_word_stop, used_behind}
use Rattle.sm_idl.proofs.reader.Reader.used.Goals as goal

pub returns-in-Err : goal.returns-in-Err
returns-in-Err c = used_word_stop (left c.args.self.now) (left c.the_word.new.self) c.in-Err.stop c.in-Err.ensures

pub returns : goal.returns
returns c =
    used_behind (λ w. w.now) (left c.args.self.now) (left c.the_word.new.self) (left c.id.new.self) c.id.result c.in-Ok.ensures
    c.id.ensures
