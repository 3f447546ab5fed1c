use Rattle.sm_idl.proofs.Taken.{taken}
use Rattle.std.proofs.Common.{◌<◌, length, arith}
use Rattle.sm_idl.proofs.reader.Reader.take.Goals as goal

pub returns : goal.returns
returns c =
    let r = c.args.self.now in
    let inside : r.at < length r.tokens.now = omega (arith, c.if-self.false) in
    (_, taken r.text.now r.behind r.tokens.now r.at c.index-self-self.result inside)
