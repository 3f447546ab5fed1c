use Rattle.std.proofs.Common.{sym, ◌∙◌}
use Rattle.sm_json.proofs.Turns.{white_goes, takes_white_after, feeds_nothing}
use Rattle.sm_json.proofs.read.Reader.behind.Goals as goal

pub returns-then-has-clause-goes : goal.returns-then-has-clause-goes
returns-then-has-clause-goes g c = feeds_nothing c.args.self.now _ _ _ _ c.requires.placed
    (white_goes c.args.self.now c.args.byte c.requires.sound (takes_white_after c.args.self.now c.requires.place)
    (sym c.has.ensures ∙ c.if-has.true))
