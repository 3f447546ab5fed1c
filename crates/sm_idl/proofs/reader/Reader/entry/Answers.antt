use Rattle.sm_idl.specs.steps.ReaderView.{left}
use Rattle.sm_idl.specs.steps.HomeView.{home_of_file}
use Rattle.std.proofs.Common.{sym, subst}
use Rattle.sm_model.specs.SaidView.{member_view}
use Rattle.sm_idl.specs.Members.{member}
use Rattle.sm_idl.specs.declared.members.MemberKind.TheVariants.{Item, Pair, Choice}
use Rattle.sm_idl.specs.steps.Classes.{Equals}
use Rattle.sm_idl.specs.steps.MemberSteps.{form_of, entry}
use Rattle.sm_idl.specs.steps.ReaderView.{ReadsOn}
use Rattle.sm_idl.proofs.FirmMembers.{member_firm}
use Rattle.sm_idl.proofs.Answered.{as_on}
use Rattle.sm_idl.proofs.reader.Reader.entry.Goals as goal

pub returns-in-Value-clause-reads : goal.returns-in-Value-clause-reads
returns-in-Value-clause-reads c = λ before seen.
    subst (λ k. ReadsOn Equals member_view (entry (home_of_file c.args.home.now) k before) (left c.args.self.now)
    (left c.enum_member.new.self) c.enum_member.result) (sym c.in-Value.is) (c.enum_member.ensures.reads before seen)

pub returns-in-Item-clause-reads : goal.returns-in-Item-clause-reads
returns-in-Item-clause-reads c = λ before seen.
    subst (λ k. ReadsOn Equals member_view (entry (home_of_file c.args.home.now) k before) (left c.args.self.now)
    (left c.member.new.self) c.member.result) (sym c.in-Item.is) (as_on Equals member_view
    (member (home_of_file c.args.home.now) (form_of Item) before) (member_firm (home_of_file c.args.home.now) (form_of Item) before)
    (left c.args.self.now) (left c.member.new.self) c.member.result (c.member.ensures.reads before seen))

pub returns-in-Pair-clause-reads : goal.returns-in-Pair-clause-reads
returns-in-Pair-clause-reads c = λ before seen.
    subst (λ k. ReadsOn Equals member_view (entry (home_of_file c.args.home.now) k before) (left c.args.self.now)
    (left c.member-in-Pair.new.self) c.member-in-Pair.result) (sym c.in-Pair.is)
    (as_on Equals member_view (member (home_of_file c.args.home.now) (form_of Pair) before)
    (member_firm (home_of_file c.args.home.now) (form_of Pair) before) (left c.args.self.now) (left c.member-in-Pair.new.self)
    c.member-in-Pair.result (c.member-in-Pair.ensures.reads before seen))

pub returns-in-Choice-clause-reads : goal.returns-in-Choice-clause-reads
returns-in-Choice-clause-reads c = λ before seen.
    subst (λ k. ReadsOn Equals member_view (entry (home_of_file c.args.home.now) k before) (left c.args.self.now)
    (left c.member-in-Choice.new.self) c.member-in-Choice.result) (sym c.in-Choice.is)
    (as_on Equals member_view (member (home_of_file c.args.home.now) (form_of Choice) before)
    (member_firm (home_of_file c.args.home.now) (form_of Choice) before) (left c.args.self.now) (left c.member-in-Choice.new.self)
    c.member-in-Choice.result (c.member-in-Choice.ensures.reads before seen))

pub returns-in-Field-clause-reads : goal.returns-in-Field-clause-reads
returns-in-Field-clause-reads c = λ before seen.
    subst (λ k. ReadsOn Equals member_view (entry (home_of_file c.args.home.now) k before) (left c.args.self.now)
    (left c.field.new.self) c.field.result) (sym c.in-Field.is) (c.field.ensures.reads before seen)
