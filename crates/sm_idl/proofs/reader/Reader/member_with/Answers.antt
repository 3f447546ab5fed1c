use Rattle.sm_idl.specs.steps.ReaderView.{left}
use Rattle.sm_idl.specs.steps.HomeView.{home_of_file}
use Rattle.std.proofs.Common.{◌∙◌, refl}
use Rattle.sm_model.specs.SaidView.{traits_view, traits_of}
use Rattle.sm_idl.specs.steps.MemberSteps.{form_of}
use Rattle.sm_idl.proofs.ReadMembers.{seen_member, member_traits_stop, member_name_stop, member_colon_stop, member_target_stop, member_made}
use Rattle.sm_idl.proofs.reader.Reader.member_with.Goals as goal

pub returns-in-Err-clause-reads : goal.returns-in-Err-clause-reads
returns-in-Err-clause-reads c = λ before seen.
    member_traits_stop (home_of_file c.args.home.now) (form_of c.args.kind) before (traits_view c.args.docs.items)
    (left c.args.self.now) (left c.traits.new.self) c.in-Err.stop c.in-Err.ensures

pub returns-in-Err-member_name-clause-reads : goal.returns-in-Err-member_name-clause-reads
returns-in-Err-member_name-clause-reads c = λ before seen.
    member_name_stop (home_of_file c.args.home.now) (form_of c.args.kind) before (traits_view c.args.docs.items) c.in-Ok.ensures.0
    (left c.args.self.now) (left c.traits.new.self) (left c.member_name.new.self) c.in-Err-member_name.stop c.in-Ok.ensures.2
    (c.in-Err-member_name.ensures.reads before seen)

pub returns-in-Err-mark-clause-reads : goal.returns-in-Err-mark-clause-reads
returns-in-Err-mark-clause-reads c = λ before seen.
    member_colon_stop (home_of_file c.args.home.now) (form_of c.args.kind) before (traits_view c.args.docs.items) c.in-Ok.ensures.0
    c.in-Ok-member_name.name (left c.args.self.now) (left c.traits.new.self) (left c.member_name.new.self) (left c.mark.new.self)
    c.in-Err-mark.stop c.in-Ok.ensures.2 (c.in-Ok-member_name.ensures.reads before seen) c.in-Err-mark.ensures

pub returns-in-Err-id-clause-reads : goal.returns-in-Err-id-clause-reads
returns-in-Err-id-clause-reads c = λ before seen.
    member_target_stop (home_of_file c.args.home.now) (form_of c.args.kind) before (traits_view c.args.docs.items) c.in-Ok.ensures.0
    c.in-Ok-member_name.name (left c.args.self.now) (left c.traits.new.self) (left c.member_name.new.self) (left c.mark.new.self)
    (left c.id.new.self) c.in-Err-id.stop c.in-Ok.ensures.2 (c.in-Ok-member_name.ensures.reads before seen) c.in-Ok-mark.ensures
    c.in-Err-id.ensures

pub returns-in-Ok-reference-clause-reads : goal.returns-in-Ok-reference-clause-reads
returns-in-Ok-reference-clause-reads c = λ before seen.
    member_made (home_of_file c.args.home.now) (form_of c.args.kind) before (traits_view c.args.docs.items) c.in-Ok.ensures.0
    (traits_of c.new.result) c.in-Ok-member_name.name c.in-Ok-id.word.now c.in-Ok-reference.target (left c.args.self.now)
    (left c.traits.new.self) (left c.member_name.new.self) (left c.mark.new.self) (left c.id.new.self) c.in-Ok-reference.ensures
    (c.new.ensures ∙ c.in-Ok.ensures.1) c.in-Ok.ensures.2 (c.in-Ok-member_name.ensures.reads before seen) c.in-Ok-mark.ensures
    c.in-Ok-id.ensures

pub returns-in-Ok-reference-clause-seen : goal.returns-in-Ok-reference-clause-seen
returns-in-Ok-reference-clause-seen c = λ before seen.
    seen_member c.member_name.new.seen before c.in-Ok-member_name.name _ refl (c.in-Ok-member_name.ensures.seen before seen)
