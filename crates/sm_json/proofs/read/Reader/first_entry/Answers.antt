use Rattle.sm_json.proofs.Readers.{first_entry_takes}
use Rattle.sm_json.proofs.MayCome.{first_entry_placed}
use Rattle.sm_json.proofs.read.Reader.first_entry.Goals as goal

pub returns-in_ok-close_list-clause-goes : goal.returns-in_ok-close_list-clause-goes
returns-in_ok-close_list-clause-goes g c = rw c.if-byte-eq93.true c.in_ok-close_list.ensures.goes

pub returns-else-byte-eq93-clause-goes : goal.returns-else-byte-eq93-clause-goes
returns-else-byte-eq93-clause-goes g c = first_entry_takes c.args.self.now c.value.new.self _ _ _ c.args.byte c.value.result
    c.requires.sound
    c.requires.place c.requires.black c.if-byte-eq93.false c.value.ensures.goes

pub value-requires-clause-placed : goal.value-requires-clause-placed
value-requires-clause-placed g c = first_entry_placed c.args.self.now _ _ c.requires.sound c.requires.place c.requires.placed
