use Rattle.std.proofs.Common.{[], Err, subst, ◌∙◌, ◌-◌, append-nil, length, take, drop}
use Rattle.sm_tree.specs.Syntax.{Reads}
use Rattle.sm_tree.specs.BuilderView.{building_of}
use Rattle.sm_cbor.specs.Refusals.{cbor_syntax}
use Rattle.sm_cbor.proofs.Feeding.{reading_first, first_taken, both_taken, reading_refused, both_pieces, tree_whole, tree_closed, tree_read}
use Rattle.sm_cbor.proofs.Feeding.{end_answers}
use Rattle.sm_cbor.proofs.pieces.read_in_pieces.Goals as goal

pub feed-requires-clause-stands : goal.feed-requires-clause-stands
feed-requires-clause-stands c fresh =
    let (told, stands, follows) = reading_first c.new-reader.result (building_of c.new-builder.result) c.new-reader.ensures.fresh
    c.new-reader.ensures.stands c.new-builder.ensures.taken in ([], stands, follows)

pub returns-in-Err : goal.returns-in-Err
returns-in-Err c =
    subst (λ bs. Reads cbor_syntax bs (Err c.in-Err.refusal)) (both_pieces c.args.bytes.now c.args.first c.requires)
    (reading_refused (building_of c.new-builder.result) (building_of c.feed.new.to) c.new-reader.result c.feed.new.self []
    (take c.args.first c.args.bytes.now) (take (length c.args.bytes.now - c.args.first) (drop c.args.first c.args.bytes.now))
    c.in-Err.refusal
    (reading_first c.new-reader.result (building_of c.new-builder.result) c.new-reader.ensures.fresh c.new-reader.ensures.stands
    c.new-builder.ensures.taken) c.in-Err.ensures.feeds)

pub feed-requires-2-clause-stands : goal.feed-requires-2-clause-stands
feed-requires-2-clause-stands c fresh =
    let (told, stands, follows) = first_taken (building_of c.new-builder.result) (building_of c.feed.new.to) c.new-reader.result
    c.feed.new.self c.args.bytes.now c.args.first c.new-reader.ensures.fresh c.new-reader.ensures.stands c.new-builder.ensures.taken
    c.in-Ok.ensures.feeds in (take c.args.first c.args.bytes.now, stands, follows)

pub returns-in-Err-feed : goal.returns-in-Err-feed
returns-in-Err-feed c =
    subst (λ bs. Reads cbor_syntax bs (Err c.in-Err-feed.refusal)) (append-nil _ ∙ both_pieces c.args.bytes.now c.args.first c.requires)
    (reading_refused (building_of c.feed.new.to) (building_of c.feed-2.new.to) c.feed.new.self c.feed-2.new.self
    (take c.args.first c.args.bytes.now) (take (length c.args.bytes.now - c.args.first) (drop c.args.first c.args.bytes.now)) []
    c.in-Err-feed.refusal
    (first_taken (building_of c.new-builder.result) (building_of c.feed.new.to) c.new-reader.result c.feed.new.self c.args.bytes.now
    c.args.first c.new-reader.ensures.fresh c.new-reader.ensures.stands c.new-builder.ensures.taken c.in-Ok.ensures.feeds)
    c.in-Err-feed.ensures.feeds)

pub finish-requires : goal.finish-requires
finish-requires c =
    let first = first_taken (building_of c.new-builder.result) (building_of c.feed.new.to) c.new-reader.result c.feed.new.self
    c.args.bytes.now c.args.first c.new-reader.ensures.fresh c.new-reader.ensures.stands c.new-builder.ensures.taken
    c.in-Ok.ensures.feeds in
    let both = both_taken (building_of c.feed.new.to) (building_of c.feed-2.new.to) c.feed.new.self c.feed-2.new.self c.args.bytes.now
    c.args.first c.requires first c.in-Ok-feed.ensures.feeds in
    let whole = tree_whole (building_of c.feed-2.new.to) c.feed-2.new.self c.args.bytes.now both c.in-Ok-end.ensures.ends in
    let closed = tree_closed (building_of c.feed-2.new.to) c.args.bytes.now whole in
    record { closed = closed.0; begun = closed.1 }

pub returns-in-Ok-end : goal.returns-in-Ok-end
returns-in-Ok-end c =
    let first = first_taken (building_of c.new-builder.result) (building_of c.feed.new.to) c.new-reader.result c.feed.new.self
    c.args.bytes.now c.args.first c.new-reader.ensures.fresh c.new-reader.ensures.stands c.new-builder.ensures.taken
    c.in-Ok.ensures.feeds in
    let both = both_taken (building_of c.feed.new.to) (building_of c.feed-2.new.to) c.feed.new.self c.feed-2.new.self c.args.bytes.now
    c.args.first c.requires first c.in-Ok-feed.ensures.feeds in
    tree_read (building_of c.feed-2.new.to) c.args.bytes.now c.finish.result
    (tree_whole (building_of c.feed-2.new.to) c.feed-2.new.self c.args.bytes.now both c.in-Ok-end.ensures.ends) c.finish.ensures

pub returns : goal.returns
returns c =
    let (told, stands, follows) = both_taken (building_of c.feed.new.to) (building_of c.feed-2.new.to) c.feed.new.self c.feed-2.new.self
    c.args.bytes.now c.args.first c.requires
    (first_taken (building_of c.new-builder.result) (building_of c.feed.new.to) c.new-reader.result c.feed.new.self c.args.bytes.now
    c.args.first c.new-reader.ensures.fresh c.new-reader.ensures.stands c.new-builder.ensures.taken c.in-Ok.ensures.feeds)
    c.in-Ok-feed.ensures.feeds in
    end_answers c.feed-2.new.self c.args.bytes.now c.in-Err-end.refusal (c.in-Err-end.ensures.ends c.args.bytes.now stands)
