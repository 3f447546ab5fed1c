-- What is asked of the program by a command over a shape of a model file that reads no input and writes no file.
use Rattle.std.specs.Prelude.{◌≡◌, ℕ, false, List, [], ◌∷◌}
use Rattle.sm_asked.specs.Answer.{Answer, came}
use Rattle.sm_asked.specs.Answer.InputUse.{untouched}
use Rattle.sm_asked.specs.CommandAsked.{CommandAsked}
use Rattle.sm_asked.specs.Stages.{Told}

abbrev pub over_shape : List ℕ → (Told → Answer → Type 0) → CommandAsked
over_shape name Says = record {
  reads = name ∷ [];
  writes = [];
  touches_input = false;
  streams = false;
  says = λ t c. (a : Answer) × Says t a × (c ≡ came untouched a);
  reaches = λ t. ⊥;
}
