use Rattle.std.proofs.Common.{◌≡◌, [], List, ℕ, length}
use Rattle.sm_select.specs.Selectors.{Step, trait_of}
use Rattle.sm_select.specs.steps.Places.{Frame, behind_path}
use Rattle.sm_select.specs.steps.Standing.{Passes}
use Rattle.sm_select.proofs.parser_attribute.keys.Given as goal

abbrev pub invariant-loop-alloc : goal.invariant-loop-alloc
invariant-loop-alloc l = record {
  read : (ss : List Step) (fs : List Frame) (u : List ℕ) → Passes (behind_path ss fs (trait_of u [])) l.fn.reading.rest.now
      (behind_path ss fs (trait_of u l.keys.items)) l.reading.rest.now;
  len : l.reading.len ≡ l.fn.reading.len;
}

abbrev pub decreases-loop-alloc : goal.decreases-loop-alloc
decreases-loop-alloc l = length l.reading.rest.now
