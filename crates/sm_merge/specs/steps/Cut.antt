-- What stands behind the first dollar sign of an id.
use Rattle.std.specs.Prelude.{◌≡◌, ◌<◌, ℕ, List, length, Option, MatchOption}
use Rattle.std.specs.List.{position_or_len}
use denote.Ref.{Bor}
use Rattle.sm_bytes.specs.Ascii.{dollar}
use Rattle.sm_ids.specs.TextParts.{is_byte, member_name}

abbrev pub HasMember : List ℕ → Option (Bor (List ℕ)) → Type 0
HasMember id o = MatchOption o (position_or_len (is_byte dollar) id ≡ length id)
    (λ m. (position_or_len (is_byte dollar) id < length id) × (m.now ≡ member_name id))
