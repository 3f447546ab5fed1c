use Rattle.sm_idl.specs.steps.ReaderView.{left}
use Rattle.sm_idl.specs.steps.HomeView.{home_of_file}
use Rattle.sm_model.specs.SaidView.{member_statements_view}
use Rattle.sm_idl.proofs.MemberRows.{brace_stop, within_stop, close_stop, missing_stop, members_read, members_named}
use Rattle.sm_idl.proofs.reader.Reader.members.Goals as goal

pub returns-in-Err : goal.returns-in-Err
returns-in-Err c =
    brace_stop (home_of_file c.args.home.now) c.args.kind (left c.args.self.now) (left c.mark.new.self) c.in-Err.stop c.in-Err.ensures

pub returns-in-Err-entries : goal.returns-in-Err-entries
returns-in-Err-entries c =
    within_stop (home_of_file c.args.home.now) c.args.kind (left c.args.self.now) (left c.mark.new.self) (left c.entries.new.self)
    c.in-Err-entries.stop c.in-Ok.ensures c.in-Err-entries.ensures

pub returns-in-Ok-mark : goal.returns-in-Ok-mark
returns-in-Ok-mark c = let told = c.in-Some.ensures (members_named (home_of_file c.args.home.now) c.args.kind
    (member_statements_view c.in-Ok-entries.members.items) (left c.mark.new.self) (left c.entries.new.self) c.in-Ok-entries.ensures) in
    members_read (home_of_file c.args.home.now) c.args.kind (member_statements_view c.in-Ok-entries.members.items)
    (member_statements_view c.in-Some.members.items) (left c.args.self.now) (left c.mark.new.self) (left c.entries.new.self)
    (left c.mark-in-Some.new.self) told.1 told.0 c.in-Ok.ensures c.in-Ok-entries.ensures c.in-Ok-mark.ensures

pub returns-in-Err-mark : goal.returns-in-Err-mark
returns-in-Err-mark c =
    close_stop (home_of_file c.args.home.now) c.args.kind (member_statements_view c.in-Ok-entries.members.items) (left c.args.self.now)
    (left c.mark.new.self) (left c.entries.new.self) (left c.mark-in-Some.new.self) c.in-Err-mark.stop c.in-Ok.ensures
    c.in-Ok-entries.ensures c.in-Err-mark.ensures

pub returns-in-None : goal.returns-in-None
returns-in-None c =
    missing_stop (home_of_file c.args.home.now) c.args.kind (member_statements_view c.in-Ok-entries.members.items)
    (left c.args.self.now) (left c.mark.new.self) (left c.entries.new.self) c.in-Ok.ensures c.in-Ok-entries.ensures
    (c.in-None.ensures (members_named (home_of_file c.args.home.now) c.args.kind (member_statements_view c.in-Ok-entries.members.items)
    (left c.mark.new.self) (left c.entries.new.self) c.in-Ok-entries.ensures))
