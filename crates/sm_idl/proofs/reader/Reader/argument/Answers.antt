use Rattle.std.proofs.Common.{Some, sym, subst}
use Rattle.sm_model.specs.RawView.{raw_view, raw_members_view}
use Rattle.sm_idl.specs.Productions.{maybe}
use Rattle.sm_idl.specs.Traits.{pairs_or_node}
use Rattle.sm_idl.specs.steps.Firm.{HeadIs}
use Rattle.sm_idl.specs.steps.Classes.{NodeStart, PairAhead, ArgumentGoesOn}
use Rattle.sm_idl.specs.steps.HomeView.{home_of_file}
use Rattle.sm_idl.specs.steps.ReaderView.{left}
use Rattle.sm_idl.specs.steps.Reading.{IsRead}
use Rattle.sm_idl.proofs.NodeRows.{refused}
use Rattle.sm_idl.proofs.ReadTraits.{argument_none, argument_pairs, argument_pairs_stop, argument_node, argument_node_stop}
use Rattle.sm_idl.proofs.reader.Reader.argument.Goals as goal

pub returns-in-Ok : goal.returns-in-Ok
returns-in-Ok c =
    let home = home_of_file c.args.home.now in
    subst (λ n. IsRead ArgumentGoesOn (maybe (pairs_or_node home)) (Some n) (left c.args.self.now) (left c.pairs.new.self))
    (sym c.object_node.ensures)
    (argument_pairs home (raw_members_view c.in-Ok.pairs.items) (left c.args.self.now) (left c.pairs.new.self)
    ((c.is_at_pair.ensures (Some home)).0 c.if-is_at_pair.true) c.in-Ok.ensures)

pub returns-in-Err : goal.returns-in-Err
returns-in-Err c =
    let home = home_of_file c.args.home.now in
    argument_pairs_stop home (left c.args.self.now) (left c.pairs.new.self) c.in-Err.stop
    ((c.is_at_pair.ensures (Some home)).0 c.if-is_at_pair.true) c.in-Err.ensures

pub returns-in-Ok-node : goal.returns-in-Ok-node
returns-in-Ok-node c =
    let home = home_of_file c.args.home.now in
    argument_node home (raw_view c.in-Ok-node.node) (left c.args.self.now) (left c.node.new.self)
    (refused c.is_at_pair.result (PairAhead (Some home) (left c.args.self.now)) (c.is_at_pair.ensures (Some home)) c.if-is_at_pair.false)
    c.in-Ok-node.ensures

pub returns-in-Err-node : goal.returns-in-Err-node
returns-in-Err-node c =
    let home = home_of_file c.args.home.now in
    argument_node_stop home (left c.args.self.now) (left c.node.new.self) c.in-Err-node.stop
    (c.is_at_node.ensures.0 c.if-is_at_node.true)
    (refused c.is_at_pair.result (PairAhead (Some home) (left c.args.self.now)) (c.is_at_pair.ensures (Some home)) c.if-is_at_pair.false)
    c.in-Err-node.ensures

pub returns : goal.returns
returns c =
    argument_none (home_of_file c.args.home.now) (left c.args.self.now)
    (refused c.is_at_node.result (HeadIs NodeStart (left c.args.self.now)) c.is_at_node.ensures c.if-is_at_node.false)
