use Rattle.std.proofs.Common.{sym}
use Rattle.sm_trait_rules.proofs.first_texts.first_at.Goals as goal

pub first_with-requires-clause-number : goal.first_with-requires-clause-number
first_with-requires-clause-number c = (c.requires.number, sym c.in-Some.ensures)

pub returns-in_ok-first-in-Some-clause-shares : goal.returns-in_ok-first-in-Some-clause-shares
returns-in_ok-first-in-Some-clause-shares c =
    (c.in-Some.text.now, (c.requires.number, sym c.in-Some.ensures), c.in_ok-first-in-Some.ensures.first)

pub returns-in-None-clause-shares : goal.returns-in-None-clause-shares
returns-in-None-clause-shares c = sym c.in-None.ensures
