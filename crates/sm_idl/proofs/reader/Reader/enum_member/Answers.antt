use Rattle.sm_idl.specs.steps.ReaderView.{left}
use Rattle.sm_idl.specs.steps.HomeView.{home_of_file}
use Rattle.sm_model.specs.SaidView.{traits_view, member_view}
use Rattle.sm_idl.specs.Members.{enum_member_with}
use Rattle.sm_idl.specs.steps.Classes.{Equals, MemberStart}
use Rattle.sm_idl.proofs.FirmMembers.{enum_member_with_firm}
use Rattle.sm_idl.proofs.ReadDocs.{documented_on}
use Rattle.sm_idl.proofs.reader.Reader.enum_member.Goals as goal

pub returns-in-Ok-clause-reads : goal.returns-in-Ok-clause-reads
returns-in-Ok-clause-reads c = λ before seen.
    documented_on MemberStart member_view (enum_member_with (home_of_file c.args.home.now) before) Equals
    (enum_member_with_firm (home_of_file c.args.home.now) before) c.in-Ok.ensures.0 (traits_view c.in-Ok.docs.items)
    (left c.args.self.now) (left c.enum_member_with.new.self) c.enum_member_with.result c.in-Ok.ensures.2 c.in-Ok.ensures.1
    (c.enum_member_with.ensures.reads before seen)
