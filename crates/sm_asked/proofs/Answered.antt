-- An answer that stands before the input, in a run that refuses no pattern.
use Rattle.std.proofs.Common.{◌≡◌, None, Some}
use Rattle.sm_asked.specs.Answer.{Answer, came}
use Rattle.sm_asked.specs.Answer.InputUse.{untouched}
use Rattle.sm_asked.specs.CommandAsked.{Answers, CommandAsked, told_by}
use Rattle.sm_asked.specs.Outside.{InputsSeen}

pub none_is_some : {A X : Type 0} (u : X) → None ≡ Some u → A
none_is_some u e = absurd (cc)

pub answer_before : (before after : InputsSeen) (asked : CommandAsked) (a : Answer) → asked.says (told_by before None) (came untouched a)
    → after.input ≡ before.input → after.store.refusals ≡ before.store.refusals → Answers before after asked a
answer_before before after asked a says input count =
    record { taken = untouched; written = None; pattern = None; by = count; only = λ u e. none_is_some u e; says = says; left = input }
