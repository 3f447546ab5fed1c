use Rattle.std.proofs.Common.{◌∙◌, ap}
use Rattle.std.specs.Prelude.{◌||◌}
use Rattle.sm_merge.specs.steps.Known.{has_text}
use Rattle.sm_merge.proofs.NamesKnown.{or_none}
use Rattle.sm_load.specs.Suppressions.{text_is}
use Rattle.sm_load.proofs.suppressing.put_named.Goals as goal

pub returns-in_ok-put_text-in-Some : goal.returns-in_ok-put_text-in-Some
returns-in_ok-put_text-in-Some c = λ q.
    c.in_ok-put_text-in-Some.ensures q ∙ ap (λ o. has_text c.args.namespaces.now q || text_is q o) c.in-Some.ensures

pub returns-in-None : goal.returns-in-None
returns-in-None c = λ q.
    or_none (has_text c.args.namespaces.now q) ∙ ap (λ o. has_text c.args.namespaces.now q || text_is q o) c.in-None.ensures
