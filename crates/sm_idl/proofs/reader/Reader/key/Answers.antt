use Rattle.std.proofs.Common.{◌++◌, ◌∷◌, [], subst}
use Rattle.sm_idl.specs.Words.{IsKey, IsNew}
use Rattle.sm_idl.specs.steps.Names.{Remembers}
use Rattle.sm_idl.proofs.Choosing.{token_stuck}
use Rattle.sm_idl.proofs.reader.Reader.key.Goals as goal

pub returns-then-new-clause-seen : goal.returns-then-new-clause-seen
returns-then-new-clause-seen c = λ before h.
    subst (λ n. Remembers c.is_new.new.seen (before ++ n ∷ [])) c.as_str.ensures.bytes (c.in-Ok.ensures before h).1

pub returns-in-Ok-None-clause-reads : goal.returns-in-Ok-None-clause-reads
returns-in-Ok-None-clause-reads c = λ before h.
    let none = rw c.in-Ok-None.field-0-is at c.in-Ok-None.ensures in
    token_stuck (λ t k. IsKey k t × IsNew k before) _ _ _ c.in-Some.ensures.2 (λ k m. none k m.0)
