use Rattle.sm_idl.specs.steps.ReaderView.{left}
use Rattle.sm_idl.specs.steps.HomeView.{home_of_file}
use Rattle.sm_idl.specs.steps.PartSteps.{suffixes_view}
use Rattle.sm_model.specs.SaidView.{traits_view, statements_view}
use Rattle.sm_idl.specs.steps.ShapeSteps.{body_view}
use Rattle.sm_idl.proofs.ReadShapes.{shape_traits_stop, shape_type_stop, shape_name_stop, shape_body_stop, shape_made}
use Rattle.sm_idl.proofs.reader.Reader.shape_with.Goals as goal

pub returns-in-Err : goal.returns-in-Err
returns-in-Err c =
    shape_traits_stop (home_of_file c.args.home.now) (suffixes_view c.args.endings.now) (traits_view c.args.docs.items)
    (left c.args.self.now) (left c.traits.new.self) c.in-Err.stop c.in-Err.ensures

pub returns-in-Err-type_word : goal.returns-in-Err-type_word
returns-in-Err-type_word c =
    shape_type_stop (home_of_file c.args.home.now) (suffixes_view c.args.endings.now) (traits_view c.args.docs.items) c.in-Ok.ensures.0
    (left c.args.self.now) (left c.traits.new.self) (left c.type_word.new.self) c.in-Err-type_word.stop c.in-Ok.ensures.2
    c.in-Err-type_word.ensures

pub returns-in-Err-identifier : goal.returns-in-Err-identifier
returns-in-Err-identifier c =
    shape_name_stop (home_of_file c.args.home.now) (suffixes_view c.args.endings.now) (traits_view c.args.docs.items) c.in-Ok.ensures.0
    c.in-Ok-type_word.kind (left c.args.self.now) (left c.traits.new.self) (left c.type_word.new.self) (left c.identifier.new.self)
    c.in-Err-identifier.stop c.in-Ok.ensures.2 c.in-Ok-type_word.ensures c.in-Err-identifier.ensures

pub returns-in-Err-body : goal.returns-in-Err-body
returns-in-Err-body c =
    shape_body_stop (home_of_file c.args.home.now) (suffixes_view c.args.endings.now) (traits_view c.args.docs.items) c.in-Ok.ensures.0
    c.in-Ok-type_word.kind c.in-Ok-identifier.name.now (left c.args.self.now) (left c.traits.new.self) (left c.type_word.new.self)
    (left c.identifier.new.self) (left c.body.new.self) c.in-Err-body.stop c.in-Ok.ensures.2 c.in-Ok-type_word.ensures
    c.in-Ok-identifier.ensures c.in-Err-body.ensures

pub returns-in-Ok-stated : goal.returns-in-Ok-stated
returns-in-Ok-stated c =
    shape_made (home_of_file c.args.home.now) (suffixes_view c.args.endings.now) (traits_view c.args.docs.items) c.in-Ok.ensures.0
    (traits_view c.traits.new.traits.items) c.in-Ok-type_word.kind c.in-Ok-identifier.name.now (body_view c.in-Ok-body.body)
    (statements_view c.args.statements.now.items) (statements_view c.stated.new.statements.items) (left c.args.self.now)
    (left c.traits.new.self) (left c.type_word.new.self) (left c.identifier.new.self) (left c.body.new.self) c.in-Ok.ensures.1
    c.in-Ok-stated.ensures c.in-Ok.ensures.2 c.in-Ok-type_word.ensures c.in-Ok-identifier.ensures c.in-Ok-body.ensures
