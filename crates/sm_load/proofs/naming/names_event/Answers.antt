use Rattle.std.proofs.Common.{◌∙◌, Some, None, sym}
use Rattle.std.proofs.lemmas.Bool.Decides.{Decides-eqb}
use Rattle.std.proofs.lemmas.Slice.Eq.{strip_prefix_is}
use Rattle.sm_load.specs.Suppressions.{names_event}
use Rattle.sm_load.proofs.NamedEvents.{named_here, not_named}
use Rattle.sm_load.proofs.naming.names_event.Goals as goal

pub returns-in-Some : goal.returns-in-Some
returns-in-Some c =
    let event = c.as_bytes.result.now in
    let named = c.as_bytes-2.result.now in
    let cut = strip_prefix_is Decides-eqb event named (Some c.in-Some.rest) c.in-Some.ensures.cases in
    c.ends_word.ensures ∙ sym (named_here event named c.in-Some.rest.now cut)
    ∙ (λ i. names_event (c.as_bytes.ensures.value i) (c.as_bytes-2.ensures.value i))

pub returns-in-None : goal.returns-in-None
returns-in-None c =
    let event = c.as_bytes.result.now in
    let named = c.as_bytes-2.result.now in
    let other = strip_prefix_is Decides-eqb event named None c.in-None.ensures.cases in
    sym (not_named event named other) ∙ (λ i. names_event (c.as_bytes.ensures.value i) (c.as_bytes-2.ensures.value i))
