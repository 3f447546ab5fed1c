-- What of the parts of a written message is found in its head, and how its body is read.
use Rattle.std.specs.Prelude.{◌≡◌, ◌⊎◌, ◌++◌, ℕ, Bool, true, List, []}
use Rattle.std.specs.List.{AllByRecursion}
use Rattle.std.specs.Str.{str_to_ascii_lowercase}
use Rattle.sm_http.specs.declared.message.Field.{Field}
use Rattle.sm_bind_read.specs.messages.MessageForm.{Content, nothing, raw_bytes}
use Rattle.sm_bind_read.specs.bind.PartsData.{PartsData}
use Rattle.sm_bind_read.specs.bind.Roles.{is_among, reserved_names}
use Rattle.sm_bind_laws.specs.WrittenLabels.{texts_for}

-- a field of a name that means something else than a member
abbrev pub is_reserved : Field → Bool
is_reserved f = is_among reserved_names (str_to_ascii_lowercase f.name)

abbrev pub AreReserved : List Field → Type 0
AreReserved fields = AllByRecursion (λ f. is_reserved f ≡ true) fields

-- Of the parts that are written these are found: the labels of these names with their texts, all pairs, all fields among such as no
-- member has, and the status
pub record AreFound (names : List (List ℕ)) (written found : PartsData) : Type 0 where
  pub labels : found.labels ≡ texts_for names written.labels
  pub query : found.query ≡ written.query
  pub before : List Field
  pub behind : List Field
  pub fields : found.fields ≡ before ++ (written.fields ++ behind)
  pub first : AreReserved before
  pub last : AreReserved behind
  pub status : found.status ≡ written.status

-- the content of a body that is written is read as it was, but that a payload of bytes which is absent may be one of none
abbrev pub IsReadAs : Content → Content → Type 0
IsReadAs written content = (content ≡ written) ⊎ ((written ≡ nothing) × (content ≡ raw_bytes []))
