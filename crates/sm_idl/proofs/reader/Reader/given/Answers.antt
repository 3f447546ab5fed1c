use Rattle.sm_idl.specs.steps.Firm.{HeadIs}
use Rattle.sm_idl.specs.steps.Classes.{Paren}
use Rattle.sm_idl.specs.steps.HomeView.{home_of_file}
use Rattle.sm_idl.specs.steps.ReaderView.{left, maybe_raw}
use Rattle.sm_idl.proofs.NodeRows.{refused}
use Rattle.sm_idl.proofs.ReadTraits.{given_none, given_some, given_stop}
use Rattle.sm_idl.proofs.reader.Reader.given.Goals as goal

pub returns-in-Ok : goal.returns-in-Ok
returns-in-Ok c =
    given_some (home_of_file c.args.home.now) (maybe_raw c.in-Ok.value) (left c.args.self.now) (left c.arguments.new.self) c.in-Ok.ensures

pub returns-in-Err : goal.returns-in-Err
returns-in-Err c =
    given_stop (home_of_file c.args.home.now) (left c.args.self.now) (left c.arguments.new.self) c.in-Err.stop
    (c.is_at_mark.ensures.0 c.if-is_at_mark.true) c.in-Err.ensures

pub returns : goal.returns
returns c =
    given_none (home_of_file c.args.home.now) (left c.args.self.now)
    (refused c.is_at_mark.result (HeadIs Paren (left c.args.self.now)) c.is_at_mark.ensures c.if-is_at_mark.false)
