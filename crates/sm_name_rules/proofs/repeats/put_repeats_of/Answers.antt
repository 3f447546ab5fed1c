use Rattle.std.proofs.Common.{length, subst, ◌∙◌}
use Rattle.std.specs.List.{Contains}
use Rattle.sm_rules.specs.RuleEvents.{Puts}
use Rattle.sm_passes.specs.Earlier.{ToldAt, ToldRepeat}
use Rattle.sm_passes.specs.Putting.{Below}
use Rattle.sm_name_rules.proofs.RepeatedNames.{rows_of_members}
use Rattle.sm_name_rules.proofs.repeats.put_repeats_of.Goals as goal

pub put_later-requires-clause-numbers : goal.put_later-requires-clause-numbers
put_later-requires-clause-numbers c r h =
    rows_of_members c.args.graph.now c.args.members.now c.requires.numbers r
    (subst (λ rs. Contains rs r) (c.as_slice.ensures.value ∙ c.in_ok-rows.ensures) h)

pub returns : goal.returns
returns c =
    subst (λ rs. Puts (Below (ToldAt (ToldRepeat c.args.graph.now c.args.shape) rs) (length rs)) c.args.events.now.items
    c.put_later.new.events.items) (c.as_slice.ensures.value ∙ c.in_ok-rows.ensures) c.in_ok-put_later.ensures
