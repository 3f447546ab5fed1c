use Rattle.sm_idl.specs.steps.ReaderView.{left}
use Rattle.sm_idl.specs.steps.HomeView.{home_of_file}
use Rattle.std.proofs.Common.{ap}
use Rattle.sm_model.specs.SaidView.{traits_view, member_view}
use Rattle.sm_idl.specs.steps.ReaderView.{maybe_raw}
use Rattle.sm_idl.proofs.ReadMembers.{seen_member, enum_traits_stop, enum_name_stop, enum_value_stop, enum_made}
use Rattle.sm_idl.proofs.reader.Reader.enum_member_with.Goals as goal

pub returns-in-Err-clause-reads : goal.returns-in-Err-clause-reads
returns-in-Err-clause-reads c = λ before seen.
    enum_traits_stop (home_of_file c.args.home.now) before (traits_view c.args.docs.items) (left c.args.self.now)
    (left c.traits.new.self) c.in-Err.stop c.in-Err.ensures

pub returns-in-Err-member_name-clause-reads : goal.returns-in-Err-member_name-clause-reads
returns-in-Err-member_name-clause-reads c = λ before seen.
    enum_name_stop (home_of_file c.args.home.now) before (traits_view c.args.docs.items) c.in-Ok.ensures.0 (left c.args.self.now)
    (left c.traits.new.self) (left c.member_name.new.self) c.in-Err-member_name.stop c.in-Ok.ensures.2
    (c.in-Err-member_name.ensures.reads before seen)

pub returns-in-Err-given_value-clause-reads : goal.returns-in-Err-given_value-clause-reads
returns-in-Err-given_value-clause-reads c = λ before seen.
    enum_value_stop (home_of_file c.args.home.now) before (traits_view c.args.docs.items) c.in-Ok.ensures.0 c.in-Ok-member_name.name
    (left c.args.self.now) (left c.traits.new.self) (left c.member_name.new.self) (left c.given_value.new.self)
    c.in-Err-given_value.stop c.in-Ok.ensures.2 (c.in-Ok-member_name.ensures.reads before seen) c.in-Err-given_value.ensures

pub returns-in-Ok-enum_member_of-clause-reads : goal.returns-in-Ok-enum_member_of-clause-reads
returns-in-Ok-enum_member_of-clause-reads c = λ before seen.
    enum_made (home_of_file c.args.home.now) before (traits_view c.args.docs.items) c.in-Ok.ensures.0
    (traits_view c.traits.new.traits.items) c.in-Ok-member_name.name (maybe_raw c.in-Ok-given_value.value)
    (member_view c.in-Ok-enum_member_of.member) (left c.args.self.now) (left c.traits.new.self) (left c.member_name.new.self)
    (left c.given_value.new.self) c.in-Ok-enum_member_of.ensures c.in-Ok.ensures.1 c.in-Ok.ensures.2
    (c.in-Ok-member_name.ensures.reads before seen) c.in-Ok-given_value.ensures

pub returns-in-Ok-enum_member_of-clause-seen : goal.returns-in-Ok-enum_member_of-clause-seen
returns-in-Ok-enum_member_of-clause-seen c = λ before seen.
    seen_member c.member_name.new.seen before c.in-Ok-member_name.name (member_view c.in-Ok-enum_member_of.member)
    (ap (λ m. m.name) c.in-Ok-enum_member_of.ensures) (c.in-Ok-member_name.ensures.seen before seen)
