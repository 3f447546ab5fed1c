-- What is left of a list, as a slice up to its end.
use Rattle.std.proofs.Common.{◌≡◌, ℕ, List, length, take, drop, arith, ◌-◌}
use Rattle.std.proofs.lemmas.List.{take_all, length-drop}

pub whole_rest : (s : List ℕ) (i : ℕ) → take (length s - i) (drop i s) ≡ drop i s
whole_rest s i = take_all (length s - i) (drop i s) (omega (arith, length-drop i s))
