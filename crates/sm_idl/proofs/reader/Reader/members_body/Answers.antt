use Rattle.std.proofs.Common.{[], refl, ap}
use Rattle.sm_model.specs.Raw.{empty_raw}
use Rattle.sm_model.specs.SaidView.{member_statements_view, statements_view}
use Rattle.sm_idl.specs.steps.ReaderView.{left}
use Rattle.sm_idl.specs.steps.HomeView.{home_of_file}
use Rattle.sm_idl.proofs.ReadShapes.{mixed_stop, braced_stop, members_body_read, same_body}
use Rattle.sm_idl.proofs.reader.Reader.members_body.Goals as goal

pub returns-in-Err : goal.returns-in-Err
returns-in-Err c =
    mixed_stop (home_of_file c.args.home.now) c.args.kind (left c.args.self.now) (left c.mixins.new.self) c.in-Err.stop c.in-Err.ensures

pub returns-in-Err-members : goal.returns-in-Err-members
returns-in-Err-members c =
    braced_stop (home_of_file c.args.home.now) c.args.kind c.in-Ok.mixins.items (left c.args.self.now) (left c.mixins.new.self)
    (left c.members.new.self) c.in-Err-members.stop c.in-Ok.ensures c.in-Err-members.ensures

pub returns-in-Ok-members : goal.returns-in-Ok-members
returns-in-Ok-members c =
    members_body_read (home_of_file c.args.home.now) c.args.kind c.in-Ok.mixins.items
    (member_statements_view c.in-Ok-members.members.items) _ (left c.args.self.now) (left c.mixins.new.self) (left c.members.new.self)
    (same_body _ _ _ _ _ empty_raw _ [] refl refl c.empty_node.ensures (ap statements_view c.new.ensures.items)) c.in-Ok.ensures
    c.in-Ok-members.ensures
