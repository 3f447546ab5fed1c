use Rattle.std.proofs.Common.{length, subst, ◌∙◌}
use Rattle.std.specs.List.{Contains}
use Rattle.sm_rules.specs.RuleEvents.{Puts}
use Rattle.sm_passes.specs.Earlier.{ToldAt}
use Rattle.sm_passes.specs.Putting.{Below}
use Rattle.sm_http_rules.specs.steps.Naming.{ToldName}
use Rattle.sm_http_rules.proofs.NamesAgain.{again_put, rows_numbers}
use Rattle.sm_http_rules.proofs.again.put_again.Goals as goal

pub put_later-requires-clause-numbers : goal.put_later-requires-clause-numbers
put_later-requires-clause-numbers c r h =
    rows_numbers c.args.naming c.args.graph.now c.args.shape c.members_of.result.now c.members_of.ensures.numbers r
    (subst (λ rs. Contains rs r) (c.as_slice.ensures.value ∙ c.in_ok-rows.ensures) h)

pub returns : goal.returns
returns c =
    again_put c.args.naming c.args.graph.now c.args.shape c.requires.own c.members_of.result.now c.members_of.ensures.ids
    c.args.events.now.items c.put_later.new.events.items
    (subst (λ rs. Puts (Below (ToldAt (ToldName c.args.naming c.args.graph.now c.args.shape) rs) (length rs)) c.args.events.now.items
    c.put_later.new.events.items) (c.as_slice.ensures.value ∙ c.in_ok-rows.ensures) c.in_ok-put_later.ensures)
