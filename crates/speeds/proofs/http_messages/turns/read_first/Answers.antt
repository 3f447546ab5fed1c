use Rattle.std.specs.Io.KnownBytes.{prepend_known}
use Rattle.speeds.proofs.Told.{message_told}
use Rattle.speeds.proofs.http_messages.turns.read_first.Goals as goal

pub returns : goal.returns
returns g c =
    message_told c.args.side c.args.held.now (g.S.Source.left c.args.source.now)
    (prepend_known c.read_message.new.held (g.S.Source.left c.read_message.new.source))
    (g.S.Source.left c.read_message.new.source) c.read_message.result c.requires c.read_message.ensures.bytes
