-- How far the command `body` has come behind a shape of its model file whose values are served, over bytes alone: the input is read.
use Rattle.std.specs.Prelude.{ℕ, ◌≤◌, List, length}
use Rattle.sm_asked_shape.specs.asked.Limits.{body_limit}
use Rattle.sm_asked_shape.specs.asked.Stages.{Told, IsInput}
use Rattle.sm_asked_shape.specs.ShapeStages.{ShapeServed}

-- the input is within its limit
pub record InputRead (t : Told) (name shape : List ℕ) : Type 0 where
  pub served : ShapeServed t name shape
  pub bytes : List ℕ
  pub is_input : IsInput t.input bytes
  pub within : length bytes ≤ body_limit
