use Rattle.sm_idl.specs.steps.ReaderView.{left}
use Rattle.sm_idl.specs.steps.HomeView.{home_of_file}
use Rattle.sm_model.specs.SaidView.{traits_view, member_view}
use Rattle.sm_idl.specs.Members.{member_with}
use Rattle.sm_idl.specs.steps.Classes.{MemberStart}
use Rattle.sm_idl.specs.steps.MemberSteps.{form_of}
use Rattle.sm_idl.proofs.FirmMembers.{member_with_firm}
use Rattle.sm_idl.proofs.ReadDocs.{documented_as}
use Rattle.sm_idl.proofs.reader.Reader.member.Goals as goal

pub returns-in-Ok-clause-reads : goal.returns-in-Ok-clause-reads
returns-in-Ok-clause-reads c = λ before seen.
    documented_as MemberStart member_view (member_with (home_of_file c.args.home.now) (form_of c.args.kind) before)
    (member_with_firm (home_of_file c.args.home.now) (form_of c.args.kind) before) c.in-Ok.ensures.0 (traits_view c.in-Ok.docs.items)
    (left c.args.self.now) (left c.member_with.new.self) c.member_with.result c.in-Ok.ensures.2 c.in-Ok.ensures.1
    (c.member_with.ensures.reads before seen)
