use Rattle.std.proofs.Common.{◌≡◌, ◌++◌, drop}
use Rattle.std.specs.List.{filter_map}
use Rattle.sm_http_rules.specs.steps.LeftOut.{value_link}
use Rattle.sm_http_rules.proofs.left_out.value_links.Given as goal

abbrev pub invariant-loop-link : goal.invariant-loop-link
invariant-loop-link l = l.kept.items ++ filter_map value_link (drop l.link-index l.links) ≡ filter_map value_link l.links
