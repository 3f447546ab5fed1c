use Rattle.sm_idl.specs.steps.ReaderView.{left}
use Rattle.sm_idl.specs.steps.HomeView.{home_of_file}
use Rattle.sm_idl.specs.steps.PartSteps.{suffixes_view}
use Rattle.std.proofs.Common.{sym, subst, ◌∙◌}
use Rattle.sm_idl.specs.Shapes.{members_body, operation_body, pairs_body}
use Rattle.sm_idl.specs.steps.Classes.{With}
use Rattle.sm_idl.specs.steps.MemberSteps.{form_of, entry}
use Rattle.sm_idl.specs.steps.ReaderView.{ReadsOn}
use Rattle.sm_idl.specs.steps.ShapeSteps.{body_by, body_view}
use Rattle.sm_idl.proofs.Answered.{as_on}
use Rattle.sm_idl.proofs.ReadShapes.{from_form, members_body_firm, operation_body_firm, pairs_body_firm}
use Rattle.sm_idl.proofs.reader.Reader.body.Goals as goal

pub returns-in-Simple : goal.returns-in-Simple
returns-in-Simple c =
    from_form (home_of_file c.args.home.now) (suffixes_view c.args.endings.now) c.args.kind c.args.name.now body_view
    (left c.args.self.now) (left c.simple_body.new.self) c.simple_body.result
    (subst (λ f. ReadsOn With body_view (body_by (home_of_file c.args.home.now) (suffixes_view c.args.endings.now) c.args.kind
    c.args.name.now f) (left c.args.self.now) (left c.simple_body.new.self) c.simple_body.result)
    (sym c.in-Simple.is ∙ c.body_form.ensures) c.simple_body.ensures)

pub returns-in-Members : goal.returns-in-Members
returns-in-Members c =
    from_form (home_of_file c.args.home.now) (suffixes_view c.args.endings.now) c.args.kind c.args.name.now body_view
    (left c.args.self.now) (left c.members_body.new.self) c.members_body.result
    (subst (λ f. ReadsOn With body_view (body_by (home_of_file c.args.home.now) (suffixes_view c.args.endings.now) c.args.kind
    c.args.name.now f) (left c.args.self.now) (left c.members_body.new.self) c.members_body.result)
    (sym c.in-Members.is ∙ c.body_form.ensures) (as_on With body_view
    (members_body (home_of_file c.args.home.now) (form_of c.in-Members.members)
    (entry (home_of_file c.args.home.now) c.in-Members.members)) (members_body_firm (home_of_file c.args.home.now) c.in-Members.members)
    (left c.args.self.now) (left c.members_body.new.self) c.members_body.result c.members_body.ensures))

pub returns-in-Parts : goal.returns-in-Parts
returns-in-Parts c =
    from_form (home_of_file c.args.home.now) (suffixes_view c.args.endings.now) c.args.kind c.args.name.now body_view
    (left c.args.self.now) (left c.operation_body.new.self) c.operation_body.result
    (subst (λ f. ReadsOn With body_view (body_by (home_of_file c.args.home.now) (suffixes_view c.args.endings.now) c.args.kind
    c.args.name.now f) (left c.args.self.now) (left c.operation_body.new.self) c.operation_body.result)
    (sym c.in-Parts.is ∙ c.body_form.ensures) (as_on With body_view (operation_body (home_of_file c.args.home.now)
    (suffixes_view c.args.endings.now) c.args.name.now) (operation_body_firm (home_of_file c.args.home.now)
    (suffixes_view c.args.endings.now) c.args.name.now) (left c.args.self.now) (left c.operation_body.new.self) c.operation_body.result
    c.operation_body.ensures))

pub returns-in-Fields : goal.returns-in-Fields
returns-in-Fields c =
    from_form (home_of_file c.args.home.now) (suffixes_view c.args.endings.now) c.args.kind c.args.name.now body_view
    (left c.args.self.now) (left c.pairs_body.new.self) c.pairs_body.result
    (subst (λ f. ReadsOn With body_view (body_by (home_of_file c.args.home.now) (suffixes_view c.args.endings.now) c.args.kind
    c.args.name.now f) (left c.args.self.now) (left c.pairs_body.new.self) c.pairs_body.result)
    (sym c.in-Fields.is ∙ c.body_form.ensures) (as_on With body_view (pairs_body (home_of_file c.args.home.now) c.args.kind)
    (pairs_body_firm (home_of_file c.args.home.now) c.args.kind) (left c.args.self.now) (left c.pairs_body.new.self) c.pairs_body.result
    c.pairs_body.ensures))
