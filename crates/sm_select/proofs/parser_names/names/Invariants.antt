use Rattle.std.proofs.Common.{◌≡◌, [], List, length}
use Rattle.sm_select.specs.Selectors.{Step}
use Rattle.sm_select.specs.steps.Places.{Frame, name_wanted}
use Rattle.sm_select.specs.steps.Standing.{Passes}
use Rattle.sm_select.proofs.parser_names.names.Given as goal

abbrev pub invariant-loop-name : goal.invariant-loop-name
invariant-loop-name l = record {
  read : (ss : List Step) (fs : List Frame) → Passes (name_wanted ss fs []) l.fn.reading.rest.now
      (name_wanted ss fs l.names.items) l.reading.rest.now;
  len : l.reading.len ≡ l.fn.reading.len;
}

abbrev pub decreases-loop-name : goal.decreases-loop-name
decreases-loop-name l = length l.reading.rest.now
