use Rattle.std.proofs.Common.{Ok}
use Rattle.sm_tree.specs.BuilderView.{building_of}
use Rattle.sm_json.proofs.Answered.{took, feed_refused, first_placed, builder_closed, tree_built, end_refused, read_json}
use Rattle.sm_json.proofs.Turns.{fed_placed}
use Rattle.sm_json.proofs.read.read_tree.Goals as goal

pub feed-requires-clause-placed : goal.feed-requires-clause-placed
feed-requires-clause-placed c = first_placed c.new-reader.result (building_of c.new-builder.result)
    (λ e. Unit {0}) c.new-reader.ensures.state
    c.new-builder.ensures.taken (λ e. tt)

pub finish-requires-clause-placed : goal.finish-requires-clause-placed
finish-requires-clause-placed c = fed_placed c.new-reader.result c.feed.new.self _ _ _ _ _
    (first_placed c.new-reader.result (building_of c.new-builder.result)
    (λ e. Unit {0}) c.new-reader.ensures.state c.new-builder.ensures.taken (λ e. tt))
    c.in-Ok.ensures.goes

pub finish-requires-in-Ok-finish-clause-closed : goal.finish-requires-in-Ok-finish-clause-closed
finish-requires-in-Ok-finish-clause-closed c = (builder_closed c.new-reader.result c.feed.new.self c.args.bytes.now
    (building_of c.new-builder.result)
    (building_of c.feed.new.to) (building_of c.finish.new.to) _ _
    c.new-reader.ensures.state c.new-builder.ensures.taken c.in-Ok.ensures.goes c.in-Ok-finish.ensures.goes).0

pub finish-requires-in-Ok-finish-clause-begun : goal.finish-requires-in-Ok-finish-clause-begun
finish-requires-in-Ok-finish-clause-begun c = (builder_closed c.new-reader.result c.feed.new.self c.args.bytes.now
    (building_of c.new-builder.result)
    (building_of c.feed.new.to) (building_of c.finish.new.to) _ _
    c.new-reader.ensures.state c.new-builder.ensures.taken c.in-Ok.ensures.goes c.in-Ok-finish.ensures.goes).1

pub returns-in-Ok-finish-clause-text : goal.returns-in-Ok-finish-clause-text
returns-in-Ok-finish-clause-text c = tree_built c.new-reader.result c.feed.new.self c.args.bytes.now (building_of c.new-builder.result)
    (building_of c.feed.new.to) (building_of c.finish.new.to) _ _
    c.finish-in-Ok-finish.result c.new-reader.ensures.state c.new-builder.ensures.taken c.in-Ok.ensures.goes c.in-Ok-finish.ensures.goes
    c.finish-in-Ok-finish.ensures

pub returns-in-Ok-finish-clause-json : goal.returns-in-Ok-finish-clause-json
returns-in-Ok-finish-clause-json c = read_json c.args.bytes.now (Ok c.finish-in-Ok-finish.result)
    (tree_built c.new-reader.result c.feed.new.self c.args.bytes.now (building_of c.new-builder.result)
    (building_of c.feed.new.to) (building_of c.finish.new.to) _ _
    c.finish-in-Ok-finish.result c.new-reader.ensures.state c.new-builder.ensures.taken c.in-Ok.ensures.goes c.in-Ok-finish.ensures.goes
    c.finish-in-Ok-finish.ensures)

pub returns-in-Ok-clause-text : goal.returns-in-Ok-clause-text
returns-in-Ok-clause-text c = end_refused c.new-reader.result c.feed.new.self (took (building_of c.new-builder.result))
    (took (building_of c.feed.new.to)) (took (building_of c.finish.new.to)) _ (λ e. Unit {0}) c.args.bytes.now c.in-Err-finish.refusal
    c.new-reader.ensures.state c.in-Ok.ensures.goes c.in-Err-finish.ensures.goes

pub returns-clause-text : goal.returns-clause-text
returns-clause-text c =
    feed_refused c.new-reader.result c.feed.new.self (took (building_of c.new-builder.result)) (took (building_of c.feed.new.to))
    (λ e. Unit {0})
    c.args.bytes.now c.in-Err.refusal c.new-reader.ensures.state c.in-Err.ensures.goes
