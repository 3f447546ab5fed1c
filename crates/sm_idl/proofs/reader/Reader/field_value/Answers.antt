use Rattle.sm_idl.specs.steps.ReaderView.{left}
use Rattle.sm_idl.specs.steps.HomeView.{home_of_file}
use Rattle.std.proofs.Common.{sym, subst}
use Rattle.sm_model.specs.RawView.{raw_view}
use Rattle.sm_idl.specs.Bodies.{field_value}
use Rattle.sm_idl.specs.steps.ReaderView.{ReadsAs}
use Rattle.sm_idl.proofs.reader.Reader.field_value.Goals as goal

pub returns-in-Reference : goal.returns-in-Reference
returns-in-Reference c =
    subst (λ f. ReadsAs raw_view (field_value (home_of_file c.args.home.now) f) (left c.args.self.now) (left c.reference.new.self)
    c.reference.result) (sym c.in-Reference.is) c.reference.ensures

pub returns-in-References : goal.returns-in-References
returns-in-References c =
    subst (λ f. ReadsAs raw_view (field_value (home_of_file c.args.home.now) f) (left c.args.self.now) (left c.references.new.self)
    c.references.result) (sym c.in-References.is) c.references.ensures

pub returns-in-NamedReferences : goal.returns-in-NamedReferences
returns-in-NamedReferences c =
    subst (λ f. ReadsAs raw_view (field_value (home_of_file c.args.home.now) f) (left c.args.self.now) (left c.object_under.new.self)
    c.object_under.result) (sym c.in-NamedReferences.is) c.object_under.ensures

pub returns-in-Text : goal.returns-in-Text
returns-in-Text c =
    subst (λ f. ReadsAs raw_view (field_value (home_of_file c.args.home.now) f) (left c.args.self.now) (left c.text_value.new.self)
    c.text_value.result) (sym c.in-Text.is) c.text_value.ensures

pub returns-in-Rename : goal.returns-in-Rename
returns-in-Rename c =
    subst (λ f. ReadsAs raw_view (field_value (home_of_file c.args.home.now) f) (left c.args.self.now)
    (left c.object_under-in-Rename.new.self) c.object_under-in-Rename.result) (sym c.in-Rename.is) c.object_under-in-Rename.ensures
