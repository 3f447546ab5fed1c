use Rattle.std.proofs.Common.{[], refl, ap}
use Rattle.sm_model.specs.SaidView.{member_statements_view, statements_view}
use Rattle.sm_idl.specs.steps.ReaderView.{left}
use Rattle.sm_idl.specs.steps.HomeView.{home_of_file}
use Rattle.sm_idl.specs.steps.PartSteps.{suffixes_view}
use Rattle.sm_model.specs.RawView.{raw_members_view}
use Rattle.sm_idl.specs.Nodes.{as_object}
use Rattle.sm_idl.proofs.ReadShapes.{operation_open, operation_within, operation_close, operation_read, same_body}
use Rattle.sm_idl.proofs.reader.Reader.operation_body.Goals as goal

pub returns-in-Err : goal.returns-in-Err
returns-in-Err c =
    operation_open (home_of_file c.args.home.now) (suffixes_view c.args.endings.now) c.args.name.now (left c.args.self.now)
    (left c.mark.new.self) c.in-Err.stop c.in-Err.ensures

pub returns-in-Err-parts : goal.returns-in-Err-parts
returns-in-Err-parts c =
    operation_within (home_of_file c.args.home.now) (suffixes_view c.args.endings.now) c.args.name.now (left c.args.self.now)
    (left c.mark.new.self) (left c.parts.new.self) c.in-Err-parts.stop c.in-Ok.ensures c.in-Err-parts.ensures

pub returns-in-Err-mark : goal.returns-in-Err-mark
returns-in-Err-mark c =
    operation_close (home_of_file c.args.home.now) (suffixes_view c.args.endings.now) c.args.name.now c.in-Ok-parts.ensures.0
    (left c.args.self.now) (left c.mark.new.self) (left c.parts.new.self) (left c.mark-2.new.self) c.in-Err-mark.stop c.in-Ok.ensures
    c.in-Ok-parts.ensures.3 c.in-Err-mark.ensures

pub returns-in-Ok-mark : goal.returns-in-Ok-mark
returns-in-Ok-mark c =
    operation_read (home_of_file c.args.home.now) (suffixes_view c.args.endings.now) c.args.name.now c.in-Ok-parts.ensures.0
    (raw_members_view c.in-Ok-parts.parts.pairs.items) (statements_view c.in-Ok-parts.parts.defined.items) _ (left c.args.self.now)
    (left c.mark.new.self) (left c.parts.new.self) (left c.mark-2.new.self) c.in-Ok-parts.ensures.1 c.in-Ok-parts.ensures.2
    (same_body _ [] _ [] _ (as_object (raw_members_view c.in-Ok-parts.parts.pairs.items)) _ _
    (ap member_statements_view c.new.ensures.items) c.new-in-Ok-mark.ensures.items c.object_node.ensures refl) c.in-Ok.ensures
    c.in-Ok-parts.ensures.3 c.in-Ok-mark.ensures
