use Rattle.std.proofs.Common.{◌↔◌, ◌++◌, ◌∷◌, [], IfOk, IsTrue, subst}
use Rattle.sm_idl.specs.Words.{IsNew}
use Rattle.sm_idl.specs.steps.Names.{Remembers}
use Rattle.sm_idl.proofs.names.is_new_text.Goals as goal

pub returns : goal.returns
returns c = λ before h.
    subst (λ n. IfOk c.is_new.result (λ new. (IsTrue new ↔ IsNew n before) × Remembers c.is_new.new.seen (before ++ n ∷ [])))
    c.as_str.ensures.bytes (c.is_new.ensures before h)
