-- What the code asks of the rows of the table is what the table says.
use Rattle.std.proofs.Common.{◌≡◌, ℕ, Bool, true, false, List, [], ◌∷◌, ◌++◌, Some, None, cond, refl, sym, ap, ◌∙◌}
use Rattle.std.specs.Prelude.{◌&&◌, ◌||◌, ◌==◌, codes, is_some, not}
use Rattle.httparse.specs.Grammar.{is_token_byte}
use Rattle.std.specs.Char.{is_ascii_alphanumeric}
use Rattle.std.specs.List.{filter, list_any}
use Rattle.std.specs.Str.{bytes_eq}
use Rattle.std.proofs.lemmas.Bool.{true≢false}
use Rattle.std.proofs.lemmas.Slice.Eq.{bytes_eq-Decides}
use Rattle.sm_tree.specs.Node.{Node}
use Rattle.sm_model.specs.Graphs.{shape_entry, member_entry}
use Rattle.sm_model.specs.declared.kind.Kind.{Kind}
use Rattle.sm_model.specs.declared.kind.Kind.TheVariants as model
use Rattle.sm_compile.specs.Kinds.{has_values}
use Rattle.sm_compile.specs.TraitNodes.{field_of, is_number, is_object, is_text, where_there}
use Rattle.sm_rules.specs.TraitRows as table
use Rattle.sm_rules.specs.TraitRows.{PlaceForm, Spot, TraitRow, are_text_nodes, at_member, at_shape, has_form, has_none, has_row}
use Rattle.sm_rules.specs.TraitRows.{defaulted_kinds, is_among, trait_kinds, is_as_one, judging, may_stand, row_takes_in, rows_of, takes_in}
use Rattle.sm_rules.specs.TraitRows.{trait_rows}
use Rattle.sm_http_traits.proofs.HttpSaid.{free, needed}
use Rattle.sm_passes.specs.declared.rows.form.RowForm.{RowForm}
use Rattle.sm_passes.specs.declared.rows.form.RowForm.TheVariants as form
use Rattle.sm_passes.specs.declared.rows.names.FoundRows.{FoundRows}
use Rattle.sm_passes.specs.declared.rows.place.RowPlace.{RowPlace}
use Rattle.sm_passes.specs.declared.rows.place.RowPlace.TheVariants as place
use Rattle.sm_passes.specs.declared.rows.place.Stand.{Stand}
use Rattle.sm_passes.specs.Forms.{form_said, is_of_form, token_signs}
use Rattle.sm_passes.specs.Places.{allows, is_defaulted_kind, places_said, stand_at, types_said}
use Rattle.sm_passes.specs.RowTests.{AsksOfRow, any_row, is_wrong_place, is_wrong_value, reads_by, reads_there, some_row, some_said}
use Rattle.sm_passes.specs.RowTests.{stand_takes_in, stands_by}

or_false : (b : Bool) → (b || false) ≡ b
or_false true = refl
or_false false = refl

and_true : (b : Bool) → (b && true) ≡ b
and_true true = refl
and_true false = refl

freed : (test : Node → Bool) (name : List ℕ) (n : Node)
    → (where_there test (field_of name n) && (not false || is_some (field_of name n))) ≡ where_there test (field_of name n)
freed test name n = and_true (where_there test (field_of name n))

-- a value is of a form of the code where the table says so
pub form_same : (f : RowForm) (n : Node) → has_form (form_said f) n ≡ is_of_form f n
form_same form.AnyValue n = refl
form_same form.AnyObject n = refl
form_same form.Endpoint n = ap (λ b. is_object n && b) (and_true _ ∙ needed is_text (field_of (codes "hostPrefix") n))
form_same form.Mixin n = ap (λ b. is_object n && b) (free are_text_nodes (field_of (codes "localTraits") n))
form_same form.Trait n =
    λ i. is_object n && (freed is_text (codes "selector") n i && free are_text_nodes (field_of (codes "conflicts") n) i)
form_same form.Deprecated n =
    λ i. is_object n && (freed is_text (codes "message") n i && free is_text (field_of (codes "since") n) i)
form_same form.Recommended n = ap (λ b. is_object n && b) (free is_text (field_of (codes "reason") n))
form_same form.Http n =
    λ i. is_object n && (needed is_text (field_of (codes "method") n) i && (needed is_text (field_of (codes "uri") n) i
    && free is_number (field_of (codes "code") n) i))
form_same form.WholeBounds n = refl
form_same form.AnyBounds n = refl
form_same form.NamedTexts n = refl
form_same form.AnyList n = refl
form_same form.Texts n = refl
form_same form.AnyText n = refl
form_same form.FilledText n = refl
form_same form.Token n = refl
form_same form.Side n = refl
form_same form.TimeFormat n = refl
form_same form.WholeNumber n = refl
form_same form.TextOrNumber n = refl

-- a trait may stand at a place of the code where the table says so
pub place_same : (p : RowPlace) (at : Stand) → allows p at ≡ list_any (stand_takes_in at) (places_said p)
place_same place.Everywhere at = refl
place_same place.AnyShape at = sym (or_false _)
place_same place.StructureMember at = sym (or_false _)
place_same place.Unit at = refl
place_same place.Default at = ap (λ b. stand_takes_in at table.structure_member || b) (sym (or_false _))
place_same (place.MemberOf ts) at = sym (or_false _)
place_same (place.Of ts) at = sym (or_false _)
place_same (place.With ts) at =
    ap (λ b. stand_takes_in at (table.of_types (types_said ts)) || b) (sym (or_false _))

spot_takes : (spot : Spot) (p : PlaceForm) → takes_in spot p ≡ stand_takes_in (stand_at spot) p
spot_takes (at_shape kind) table.everywhere = refl
spot_takes (at_shape kind) table.any_shape = refl
spot_takes (at_shape kind) table.structure_member = refl
spot_takes (at_shape kind) (table.member_of kinds) = refl
spot_takes (at_shape kind) (table.of_types kinds) = refl
spot_takes (at_shape kind) (table.targeting kinds) = refl
spot_takes (at_shape kind) table.unit_alone = refl
spot_takes (at_member kind target) table.everywhere = refl
spot_takes (at_member kind target) table.any_shape = refl
spot_takes (at_member kind target) table.structure_member = refl
spot_takes (at_member kind target) (table.member_of kinds) = refl
spot_takes (at_member kind target) (table.of_types kinds) = refl
spot_takes (at_member kind None) (table.targeting kinds) = refl
spot_takes (at_member kind (Some (shape_entry s))) (table.targeting kinds) = refl
spot_takes (at_member kind (Some (member_entry m))) (table.targeting kinds) = refl
spot_takes (at_member kind target) table.unit_alone = refl

-- rows that name the trait
module _ (p : TraitRow → Bool) where
  pub filtered : (f : TraitRow → Bool) (rows : List TraitRow) → list_any f (filter p rows) ≡ list_any (λ r. p r && f r) rows
  filtered f [] = refl
  filtered f (r ∷ rows) = by (p r) (filtered f rows)
    where
      by : (b : Bool) → list_any f (filter p rows) ≡ list_any (λ r. p r && f r) rows
          → list_any f (cond b (r ∷ filter p rows) (filter p rows)) ≡ ((b && f r) || list_any (λ r. p r && f r) rows)
      by true h = ap (λ b. f r || b) h
      by false h = h

  some_left : (rows : List TraitRow) → not (has_none (filter p rows)) ≡ list_any (λ r. p r && true) rows
  some_left [] = refl
  some_left (r ∷ rows) = by (p r) (some_left rows)
    where
      by : (b : Bool) → not (has_none (filter p rows)) ≡ list_any (λ r. p r && true) rows
          → not (has_none (cond b (r ∷ filter p rows) (filter p rows))) ≡ ((b && true) || list_any (λ r. p r && true) rows)
      by true h = refl
      by false h = h

pub row_named : (trait : List ℕ) → has_row trait ≡ some_row trait any_row trait_rows
row_named trait = some_left (λ r. list_any (bytes_eq trait) r.traits) trait_rows

module _ (trait : List ℕ) (spot : Spot) where
  takes : (r : TraitRow) → row_takes_in spot r ≡ stands_by (stand_at spot) r.value r.places
  takes r = ap (λ (f : PlaceForm → Bool). list_any f r.places) (λ i p. spot_takes spot p i)

  stands : may_stand trait spot ≡ some_row trait (stands_by (stand_at spot)) trait_rows
  stands =
      filtered (λ r. list_any (bytes_eq trait) r.traits) (row_takes_in spot) trait_rows
      ∙ ap (λ (f : TraitRow → Bool). list_any (λ r. list_any (bytes_eq trait) r.traits && f r) trait_rows) (λ i r. takes r i)

  judged : (n : Node) → is_as_one (judging trait spot) n
      ≡ cond (some_row trait (stands_by (stand_at spot)) trait_rows) (some_row trait (reads_there (stand_at spot) n) trait_rows)
      (some_row trait (reads_by n) trait_rows)
  judged n = by (may_stand trait spot) ∙ ap (λ b. cond b (some_row trait (reads_there (stand_at spot) n) trait_rows)
      (some_row trait (reads_by n) trait_rows)) stands
    where
      by : (b : Bool) → is_as_one (cond b (filter (row_takes_in spot) (rows_of trait)) (rows_of trait)) n
          ≡ cond b (some_row trait (reads_there (stand_at spot) n) trait_rows) (some_row trait (reads_by n) trait_rows)
      by true =
          filtered (row_takes_in spot) (λ r. has_form r.value n) (rows_of trait)
          ∙ filtered (λ r. list_any (bytes_eq trait) r.traits) (λ r. row_takes_in spot r && has_form r.value n) trait_rows
          ∙ ap (λ (f : TraitRow → Bool). list_any (λ r. list_any (bytes_eq trait) r.traits && (f r && has_form r.value n)) trait_rows)
          (λ i r. takes r i)
      by false = filtered (λ r. list_any (bytes_eq trait) r.traits) (λ r. has_form r.value n) trait_rows

  pub value_judged : (n : Node) → is_wrong_value trait (stand_at spot) n ≡ (has_row trait && not (is_as_one (judging trait spot) n))
  value_judged n = λ i. sym (row_named trait) i && not (sym (judged n) i)

  pub place_judged : (n : Node) → is_wrong_place trait (stand_at spot) n ≡ (has_row trait && not (may_stand trait spot))
  place_judged n = λ i. sym (row_named trait) i && not (sym stands i)

-- types by their names
pub trait_kind_same : (kind : Kind) → has_values kind ≡ is_among trait_kinds kind
trait_kind_same model.Blob = refl
trait_kind_same model.Boolean = refl
trait_kind_same model.Text = refl
trait_kind_same model.Byte = refl
trait_kind_same model.Short = refl
trait_kind_same model.Integer = refl
trait_kind_same model.Long = refl
trait_kind_same model.Float = refl
trait_kind_same model.Double = refl
trait_kind_same model.BigInteger = refl
trait_kind_same model.BigDecimal = refl
trait_kind_same model.Timestamp = refl
trait_kind_same model.Document = refl
trait_kind_same model.Enum = refl
trait_kind_same model.IntEnum = refl
trait_kind_same model.List = refl
trait_kind_same model.Map = refl
trait_kind_same model.Structure = refl
trait_kind_same model.Union = refl
trait_kind_same model.Service = refl
trait_kind_same model.Operation = refl
trait_kind_same model.Resource = refl

pub defaulted_kind_same : (kind : Kind) → is_defaulted_kind kind ≡ is_among defaulted_kinds kind
defaulted_kind_same model.Blob = refl
defaulted_kind_same model.Boolean = refl
defaulted_kind_same model.Text = refl
defaulted_kind_same model.Byte = refl
defaulted_kind_same model.Short = refl
defaulted_kind_same model.Integer = refl
defaulted_kind_same model.Long = refl
defaulted_kind_same model.Float = refl
defaulted_kind_same model.Double = refl
defaulted_kind_same model.BigInteger = refl
defaulted_kind_same model.BigDecimal = refl
defaulted_kind_same model.Timestamp = refl
defaulted_kind_same model.Document = refl
defaulted_kind_same model.Enum = refl
defaulted_kind_same model.IntEnum = refl
defaulted_kind_same model.List = refl
defaulted_kind_same model.Map = refl
defaulted_kind_same model.Structure = refl
defaulted_kind_same model.Union = refl
defaulted_kind_same model.Service = refl
defaulted_kind_same model.Operation = refl
defaulted_kind_same model.Resource = refl

-- what is asked of the rows that name a trait is asked of the table
module _ (trait : List ℕ) (rs : FoundRows)
    (all : (test : AsksOfRow) → some_said test rs ≡ some_row trait test trait_rows) (at : Stand) where
  pub value_by_rows : (n : Node) → (some_said any_row rs && not (cond (some_said (stands_by at) rs) (some_said (reads_there at n) rs)
      (some_said (reads_by n) rs))) ≡ is_wrong_value trait at n
  value_by_rows n = λ i. all any_row i && not (cond (all (stands_by at) i) (all (reads_there at n) i) (all (reads_by n) i))

  pub place_by_rows : (n : Node) → (some_said any_row rs && not (some_said (stands_by at) rs)) ≡ is_wrong_place trait at n
  place_by_rows n = λ i. all any_row i && not (all (stands_by at) i)

-- one of these rows is a trait's
abbrev pub is_named_in : List TraitRow → List ℕ → Bool
is_named_in rows trait = list_any (λ r. list_any (bytes_eq trait) r.traits) rows

-- a trait that a group doesn't name is looked for behind it
pub behind_group : (rows more : List TraitRow) (trait : List ℕ) (test : AsksOfRow) → is_named_in rows trait ≡ false
    → some_row trait test (rows ++ more) ≡ some_row trait test more
behind_group [] more trait test none = refl
behind_group (r ∷ rows) more trait test none =
    by (list_any (bytes_eq trait) r.traits) (λ h. behind_group rows more trait test h) none
  where
    by : (b : Bool) → (is_named_in rows trait ≡ false → some_row trait test (rows ++ more) ≡ some_row trait test more)
        → (b || is_named_in rows trait) ≡ false
        → ((b && test r.value r.places) || some_row trait test (rows ++ more)) ≡ some_row trait test more
    by true later h = absurd (true≢false h)
    by false later h = later h

-- a text that is another
pub not_text : {a b : List ℕ} → (a ≡ b → ⊥) → bytes_eq a b ≡ false
not_text {a} {b} h = by (bytes_eq a b) refl
  where
    by : (v : Bool) → bytes_eq a b ≡ v → v ≡ false
    by true is = absurd (h ((bytes_eq-Decides a b).0 is))
    by false is = refl

-- a byte of a token
pub token_byte : (b : ℕ) (r : Bool) → r ≡ (is_ascii_alphanumeric b || list_any (λ c. c == b) token_signs) → r ≡ is_token_byte b
unfolding is_token_byte
token_byte b r h = h
