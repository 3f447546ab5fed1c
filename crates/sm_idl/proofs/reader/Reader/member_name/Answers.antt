use Rattle.std.proofs.Common.{◌++◌, ◌∷◌, [], sym, subst}
use Rattle.sm_model.specs.Formed.{stated_names}
use Rattle.sm_idl.specs.steps.Names.{Remembers}
use Rattle.sm_idl.proofs.reader.Reader.member_name.Goals as goal

pub returns-in-Ok-copy-clause-seen : goal.returns-in-Ok-copy-clause-seen
returns-in-Ok-copy-clause-seen c = λ before h.
    subst (λ n. Remembers c.is_new.new.seen (stated_names before ++ n ∷ [])) (sym c.in-Ok-copy.ensures.bytes)
    (c.in-Ok.ensures (stated_names before) h).1
