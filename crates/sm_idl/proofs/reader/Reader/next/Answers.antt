use Rattle.sm_idl.proofs.Taken.{taken}
use Rattle.sm_idl.proofs.reader.Reader.next.Goals as goal

pub returns-then-self : goal.returns-then-self
returns-then-self c =
    let r = c.args.self.now in
    (_, _, taken r.text.now r.behind r.tokens.now r.at c.index-self-self.result c.if-self.true)
