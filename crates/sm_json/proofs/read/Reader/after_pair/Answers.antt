use Rattle.std.proofs.Common.{refl}
use Rattle.sm_json.proofs.Readers.{pair_goes, pair_halts}
use Rattle.sm_json.proofs.Turns.{feeds_nothing, keeps}
use Rattle.sm_json.proofs.read.Reader.after_pair.Goals as goal

pub returns-then-byte-eq44-clause-goes : goal.returns-then-byte-eq44-clause-goes
returns-then-byte-eq44-clause-goes g c = rw c.if-byte-eq44.true
    (feeds_nothing c.args.self.now _ _ _ _ c.requires.placed (pair_goes c.args.self.now c.requires.place c.requires.inside))

pub returns-in_ok-close_object-clause-goes : goal.returns-in_ok-close_object-clause-goes
returns-in_ok-close_object-clause-goes g c = rw c.if-byte-eq125.true c.in_ok-close_object.ensures.goes

pub returns-else-byte-eq125-clause-goes : goal.returns-else-byte-eq125-clause-goes
returns-else-byte-eq125-clause-goes g c = (
  refl,
  pair_halts c.args.self.now c.args.byte c.requires.place c.requires.inside c.requires.black
      c.if-byte-eq44.false c.if-byte-eq125.false,
  keeps c.args.self.now _ _ c.requires.placed,
)
