use Rattle.sm_idl.specs.steps.HomeView.{home_of_file}
use Rattle.sm_idl.specs.steps.ReaderView.{left}
use Rattle.sm_idl.proofs.ReadTraits.{parens_open, parens_within, parens_close}
use Rattle.sm_idl.proofs.reader.Reader.arguments.Goals as goal

pub returns-in-Err : goal.returns-in-Err
returns-in-Err c = parens_open (home_of_file c.args.home.now) (left c.args.self.now) (left c.mark.new.self) c.in-Err.stop c.in-Err.ensures

pub returns-in-Err-argument : goal.returns-in-Err-argument
returns-in-Err-argument c =
    parens_within (home_of_file c.args.home.now) (left c.args.self.now) (left c.mark.new.self) (left c.argument.new.self)
    c.in-Err-argument.stop c.in-Ok.ensures c.in-Err-argument.ensures

pub returns-in-Err-mark : goal.returns-in-Err-mark
returns-in-Err-mark c =
    parens_close (home_of_file c.args.home.now) _ (left c.args.self.now) (left c.mark.new.self) (left c.argument.new.self) _
    c.in-Err-mark.stop c.in-Ok.ensures c.in-Ok-argument.ensures c.in-Err-mark.ensures
