-- What holds of the words of `serve`, and of what stands before its links.
use Rattle.std.specs.Prelude.{◌≡◌, ℕ, List}
use Rattle.sm_serve.specs.ServeWords.{IsServeForm, ServeAsked}

-- words have the form in one way
abbrev pub OneServeForm : Type 0
OneServeForm = (words : List (List ℕ)) (w v : ServeAsked) → IsServeForm words w → IsServeForm words v → w ≡ v
