use Rattle.std.proofs.Common.{refl}
use Rattle.sm_json.proofs.Readers.{colon_goes, colon_halts}
use Rattle.sm_json.proofs.read.Reader.colon.Goals as goal

pub returns-then-byte-eq58 : goal.returns-then-byte-eq58
returns-then-byte-eq58 c = rw c.if-byte-eq58.true (colon_goes c.args.self.now c.requires.place)

pub returns-else-byte-eq58 : goal.returns-else-byte-eq58
returns-else-byte-eq58 c = (refl, colon_halts c.args.self.now c.args.byte c.requires.place c.requires.black c.if-byte-eq58.false)
