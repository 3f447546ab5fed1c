use Rattle.std.proofs.Common.{drop, length}
use Rattle.sm_select.specs.steps.Runs.{Fills}
use Rattle.sm_select.proofs.neighbors.put_steps.Given as goal

abbrev pub invariant-loop-link : goal.invariant-loop-link
invariant-loop-link l = Fills (length l.initial.ends) l.back l.links (drop l.link-index l.links) l.numbers l.ends
