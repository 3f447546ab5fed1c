use Rattle.sm_tree.proofs.Sources.{come_read}
use Rattle.sm_json.specs.Stands.{json_source}
use Rattle.sm_json.proofs.ReadPieces.{piece_placed, flush_none, flush_last}
use Rattle.sm_json.proofs.pieces.JsonReader.hand_last.Goals as goal

pub finish-requires-clause-sound : goal.finish-requires-clause-sound
finish-requires-clause-sound g c =
    let (bytes, stands, follows) = c.requires.stands in (come_read json_source c.args.self.now bytes c.requires.fresh stands.1).goes.sound

pub finish-requires-clause-placed : goal.finish-requires-clause-placed
finish-requires-clause-placed g c =
    let (bytes, stands, follows) = c.requires.stands in
    piece_placed c.args.self.now bytes _ _ (come_read json_source c.args.self.now bytes c.requires.fresh stands.1) follows c.requires.takes

pub returns-then-not-is_over-clause-flushes : goal.returns-then-not-is_over-clause-flushes
returns-then-not-is_over-clause-flushes g c = flush_none c.args.self.now _ c.requires.fresh c.if-not-is_over.ensures

pub returns-in-Ok-clause-flushes : goal.returns-in-Ok-clause-flushes
returns-in-Ok-clause-flushes g c = flush_last c.args.self.now _ _ _ c.requires.fresh c.in-Ok.ensures.goes
