-- What `ShapeIdRef::parse` answers for a text. The three conditions exclude each other.
use Rattle.std.specs.Prelude.{◌≡◌, ◌≢◌, ℕ, List, [], Result, Ok, Err}
use Rattle.sm_ids.specs.declared.id.ShapeIdRef.{ShapeIdRef}
use Rattle.sm_ids.specs.declared.refusal.IdRefusal.{IdRefusal}
use Rattle.sm_ids.specs.declared.refusal.IdRefusal.TheVariants.{Empty, BadIdentifier}
use Rattle.sm_ids.specs.IdText.{IdText, IsIdText, BreaksAt}
use Rattle.sm_ids.specs.View.{id_of}

abbrev pub Parses : List ℕ → Result ShapeIdRef IdRefusal → Type 0
Parses text (Ok id) = IdText (id_of id) text
Parses text (Err Empty) = text ≡ []
Parses text (Err (BadIdentifier at)) = (text ≢ []) × BreaksAt IsIdText text at
