use Rattle.std.proofs.Common.{take}
use Rattle.sm_rules.specs.RuleEvents.{Puts}
use Rattle.sm_passes.specs.Putting.{ToldOf}
use Rattle.sm_http_rules.specs.steps.Labels.{ToldByLink}
use Rattle.sm_http_rules.proofs.labels.put_by_links.Given as goal

abbrev pub invariant-loop-link : goal.invariant-loop-link
invariant-loop-link l = Puts (ToldOf (ToldByLink l.graph) (take l.link-index l.links)) l.fn.events.items l.events.items
