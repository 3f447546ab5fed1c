use Rattle.std.proofs.Common.{◌≡◌, [], List, length}
use Rattle.sm_select.specs.Selectors.{Step}
use Rattle.sm_select.specs.View.{path_view}
use Rattle.sm_select.specs.steps.Places.{Frame, value_wanted}
use Rattle.sm_select.specs.steps.Standing.{Passes}
use Rattle.sm_select.proofs.parser_attribute.compared.Given as goal

abbrev pub invariant-loop-value : goal.invariant-loop-value
invariant-loop-value l = record {
  read : (ss : List Step) (fs : List Frame) → Passes (value_wanted ss fs (path_view l.fn.path) l.op []) l.fn.reading.rest.now
      (value_wanted ss fs (path_view l.fn.path) l.op l.values.items) l.reading.rest.now;
  same : l.path ≡ l.fn.path;
  len : l.reading.len ≡ l.fn.reading.len;
}

abbrev pub decreases-loop-value : goal.decreases-loop-value
decreases-loop-value l = length l.reading.rest.now
