-- Which one of a list has a number.
use Rattle.std.proofs.Common.{◌<◌, ℕ, ◌-◌, List, map, Option, None, Some, ap, subst, sym, ◌∙◌, inl, inr}
use Rattle.std.proofs.lemmas.Option.{slice_get-map}
use Rattle.std.specs.Prelude.{option_map}
use Rattle.std.proofs.lemmas.List.{length-map}
use Rattle.sm_doors.specs.MemSeen.{IsNumbered}

-- the one of a number of the images is the image of that one
pub numbered_map : {A B : Type 0} (f : A → B) (xs : List A) (number : ℕ) (found : Option A) → IsNumbered xs number found
    → IsNumbered (map f xs) number (option_map f found)
numbered_map f xs number None (inl zero) = inl zero
numbered_map f xs number None (inr past) = inr (subst (λ n. n < number) (sym (length-map xs f)) past)
numbered_map f xs number (Some x) is = (is.0, slice_get-map f xs (number - 1) ∙ ap (option_map f) is.1)
