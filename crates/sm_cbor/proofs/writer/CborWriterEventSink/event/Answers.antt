-- An event that the trait's condition allows is written, and the writer then stands for the longer stream.
use Rattle.std.proofs.lemmas.Result.{on_ok_weaker}
use Rattle.sm_tree.specs.EventView.{event_of}
use Rattle.sm_cbor.proofs.EventItems.{written_on}
use Rattle.sm_cbor.proofs.writer.CborWriterEventSink.event.Goals as goal

pub write-requires : goal.write-requires
write-requires c = c.requires.taken

pub returns-clause-stands : goal.returns-clause-stands
returns-clause-stands c =
    on_ok_weaker c.write.result (written_on c.args.self.now.bytes.items c.write.new.self.bytes.items (event_of c.args.event))
    c.write.ensures.written
