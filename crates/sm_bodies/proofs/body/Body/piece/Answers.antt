use Rattle.sm_bodies.proofs.BodiesFed.{on_ok}
use Rattle.sm_bodies.proofs.body.Body.piece.Goals as goal

pub returns-clause-fed : goal.returns-clause-fed
returns-clause-fed g c =
    on_ok c.waits.result c.waits.ensures (λ other shape bytes fed. c.feed_piece-fed.ensures.fed shape bytes fed other)

pub returns-clause-memory : goal.returns-clause-memory
returns-clause-memory g c = on_ok c.waits.result c.waits.ensures (λ other out. other (c.feed_piece-fed.ensures.memory out))
