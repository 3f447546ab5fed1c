use Rattle.sm_idl.specs.steps.ReaderView.{left}
use Rattle.sm_idl.specs.steps.HomeView.{home_of_file}
use Rattle.std.proofs.Common.{ap}
use Rattle.sm_model.specs.SaidView.{member_view}
use Rattle.sm_idl.specs.steps.ReaderView.{maybe_raw}
use Rattle.sm_idl.proofs.ReadMembers.{field_member_stop, field_value_stop, field_made, field_seen}
use Rattle.sm_idl.proofs.reader.Reader.field.Goals as goal

pub returns-in-Err-clause-reads : goal.returns-in-Err-clause-reads
returns-in-Err-clause-reads c = λ before seen.
    field_member_stop (home_of_file c.args.home.now) before (left c.args.self.now) (left c.member.new.self) c.in-Err.stop
    (c.in-Err.ensures.reads before seen)

pub returns-in-Err-given_value-clause-reads : goal.returns-in-Err-given_value-clause-reads
returns-in-Err-given_value-clause-reads c = λ before seen.
    field_value_stop (home_of_file c.args.home.now) before (member_view c.in-Ok.member) (left c.args.self.now) (left c.member.new.self)
    (left c.given_value.new.self) c.in-Err-given_value.stop (c.in-Ok.ensures.reads before seen) c.in-Err-given_value.ensures

pub returns-in-Ok-field_of-clause-reads : goal.returns-in-Ok-field_of-clause-reads
returns-in-Ok-field_of-clause-reads c = λ before seen.
    field_made (home_of_file c.args.home.now) before (member_view c.in-Ok.member) (maybe_raw c.in-Ok-given_value.value)
    (member_view c.in-Ok-field_of.member) (left c.args.self.now) (left c.member.new.self) (left c.given_value.new.self)
    c.in-Ok-field_of.ensures (c.in-Ok.ensures.reads before seen) c.in-Ok-given_value.ensures

pub returns-in-Ok-field_of-clause-seen : goal.returns-in-Ok-field_of-clause-seen
returns-in-Ok-field_of-clause-seen c = λ before seen.
    field_seen c.member.new.seen before (member_view c.in-Ok.member) (member_view c.in-Ok-field_of.member)
    (ap (λ m. m.name) c.in-Ok-field_of.ensures) (c.in-Ok.ensures.seen before seen)
