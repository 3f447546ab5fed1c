-- Texts of labels and queries, put together by their names.
use Rattle.std.specs.Prelude.{◌&&◌, ◌++◌, ℕ, zero, suc, Bool, true, false, not, List, [], ◌∷◌, Option, Some, None}
use Rattle.std.specs.List.{filter, join_with_byte}
use Rattle.sm_bytes.specs.Ascii.{comma}
use Rattle.std.specs.Str.{is_utf8, str_to_ascii_lowercase}
use Rattle.httparse.specs.Grammar.{trim_ows}
use denote.Ref.{Bor}
use Rattle.sm_groups.specs.Groups.{AreGroupsOf, group_view, groups_view}
use Rattle.sm_groups.specs.declared.groups.Group.{Group}
use Rattle.sm_http.specs.declared.message.Field.{Field}
use Rattle.sm_parts.specs.Targets.{QueryPair}
use Rattle.sm_bind.specs.PartsData.{PartsData}
use Rattle.sm_bind.specs.Roles.{Bound, is_taken_name}
use Rattle.sm_bind_read.specs.declared.sources.PartGroups.{PartGroups}

-- the pairs whose keys are texts: no member has another one
abbrev pub text_rows : List QueryPair → List QueryPair
text_rows pairs = filter (λ pair. is_utf8 pair.0) pairs

-- the texts of the parts
pub record AreGroupsIn (p : PartsData) (g : PartGroups) : Type 0 where
  pub labels : AreGroupsOf p.labels (groups_view g.labels.items)
  pub query : AreGroupsOf (text_rows p.query) (groups_view g.query.items)

-- the texts of a group that may be missing
abbrev pub texts_in : Option (Bor (Group (List ℕ))) → List (List ℕ)
texts_in None = []
texts_in (Some g) = (group_view g.now).1

-- pairs whose keys are texts that aren't taken
abbrev pub is_free : (List ℕ → Bool) → QueryPair → Bool
is_free taken pair = is_utf8 pair.0 && not (taken pair.0)

-- the value of a field under a key, unless it is empty or something else has the field
abbrev pub kept_by : Bool → List ℕ → List ℕ → List (List ℕ × List ℕ)
kept_by taken key [] = []
kept_by true key (c ∷ text) = []
kept_by false key (c ∷ text) = (key, c ∷ text) ∷ []

abbrev pub kept_text : Bound → List ℕ → Field → List (List ℕ × List ℕ)
kept_text b key f = kept_by (is_taken_name b (str_to_ascii_lowercase f.name)) key (trim_ows f.value)

-- texts behind n others, each behind a comma but for the first of all
abbrev pub behind_commas : List (List ℕ) → List ℕ
behind_commas [] = []
behind_commas (u ∷ us) = comma ∷ (u ++ behind_commas us)

abbrev pub joined_on : ℕ → List (List ℕ) → List ℕ
joined_on zero us = join_with_byte comma us
joined_on (suc n) us = behind_commas us

abbrev pub with_comma : ℕ → List ℕ → List ℕ
with_comma zero u = u
with_comma (suc n) u = comma ∷ u
