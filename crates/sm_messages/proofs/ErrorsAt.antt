-- The error at a place of a list that has it.
use Rattle.std.proofs.Common.{◌≡◌, ℕ, ◌<◌, List, length, get_or, Option, None, Some, sym, ◌∙◌}
use Rattle.std.specs.Prelude.{slice_get}
use Rattle.std.proofs.lemmas.Option.{get_or_from_slice_get, slice_get-get_or}
use Rattle.sm_service.specs.declared.error.ErrorShape.{ErrorShape}
use Rattle.sm_messages.specs.Goals.{no_error}

pub got_error : (es : List ErrorShape) (k : ℕ) (e : ErrorShape) → Some e ≡ slice_get es k → e ≡ get_or es k no_error
got_error es k e h = sym (get_or_from_slice_get es k e no_error (sym h))

pub no_error_there : (es : List ErrorShape) (k : ℕ) → k < length es → Path (Option ErrorShape) None (slice_get es k) → ⊥
no_error_there es k lt h =
    let bad : Path (Option ErrorShape) None (Some (get_or es k no_error)) = h ∙ slice_get-get_or es k no_error lt in none_or_some (get_or es k no_error) bad
  where
    none_or_some : (e : ErrorShape) → Path (Option ErrorShape) None (Some e) → ⊥
    none_or_some e same = cc
