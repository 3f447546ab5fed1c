use Rattle.std.proofs.Common.{refl}
use Rattle.sm_json.proofs.Readers.{entry_goes, entry_halts}
use Rattle.sm_json.proofs.Turns.{feeds_nothing, keeps}
use Rattle.sm_json.proofs.read.Reader.after_entry.Goals as goal

pub returns-then-byte-eq44-clause-goes : goal.returns-then-byte-eq44-clause-goes
returns-then-byte-eq44-clause-goes g c = rw c.if-byte-eq44.true
    (feeds_nothing c.args.self.now _ _ _ _ c.requires.placed (entry_goes c.args.self.now c.requires.place c.requires.inside))

pub returns-in_ok-close_list-clause-goes : goal.returns-in_ok-close_list-clause-goes
returns-in_ok-close_list-clause-goes g c = rw c.if-byte-eq93.true c.in_ok-close_list.ensures.goes

pub returns-else-byte-eq93-clause-goes : goal.returns-else-byte-eq93-clause-goes
returns-else-byte-eq93-clause-goes g c = (
  refl,
  entry_halts c.args.self.now c.args.byte c.requires.place c.requires.inside c.requires.black
      c.if-byte-eq44.false c.if-byte-eq93.false,
  keeps c.args.self.now _ _ c.requires.placed,
)
