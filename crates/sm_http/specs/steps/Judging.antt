-- What is answered of a head: the body that begins behind it, or why it is refused.
use Rattle.std.specs.Prelude.{◌≡◌, true, false, Option, Some, None, Result, Ok, Err}
use Rattle.sm_http.specs.declared.message.BodyLeft.{BodyLeft}
use Rattle.sm_http.specs.declared.refusal.HttpRefusal.{HttpRefusal}
use Rattle.sm_http.specs.Heads.{HeadText}
use Rattle.sm_http.specs.BodyFields.{is_past_limit, body_begin, head_refusal}

-- the body that was told, unless it is past the limit
abbrev pub Tells : BodyLeft → Option BodyLeft → Type 0
Tells told (Some left) = (left ≡ told) × (is_past_limit told ≡ false)
Tells told None = is_past_limit told ≡ true

abbrev pub Judges : HeadText → Result BodyLeft HttpRefusal → Type 0
Judges text (Ok left) = (head_refusal text ≡ None) × (left ≡ body_begin text.head)
Judges text (Err why) = head_refusal text ≡ Some why
