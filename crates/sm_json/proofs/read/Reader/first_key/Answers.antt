use Rattle.sm_json.proofs.Readers.{first_key_takes}
use Rattle.sm_json.proofs.Turns.{feeds_byte}
use Rattle.sm_json.proofs.read.Reader.first_key.Goals as goal

pub returns-in_ok-close_object-clause-goes : goal.returns-in_ok-close_object-clause-goes
returns-in_ok-close_object-clause-goes g c = rw c.if-byte-eq125.true c.in_ok-close_object.ensures.goes

pub returns-else-byte-eq125-clause-goes : goal.returns-else-byte-eq125-clause-goes
returns-else-byte-eq125-clause-goes g c = first_key_takes c.args.self.now c.next_key.new.self _ _ _ c.args.byte c.next_key.result
    c.requires.sound
    c.requires.place c.requires.black c.if-byte-eq125.false
    (feeds_byte _ c.next_key.new.self _ _ c.args.byte c.next_key.result c.requires.placed.takes_all c.next_key.ensures)
