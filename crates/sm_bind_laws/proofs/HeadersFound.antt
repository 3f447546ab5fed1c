-- The value of a header is found by its name, without regard to case, among all fields of a message.
use Rattle.std.proofs.Common.{◌≡◌, ℕ, Bool, true, false, ◌&&◌, ◌||◌, List, [], ◌∷◌, ◌++◌, refl, sym, ap, ◌∙◌, subst, append-nil}
use Rattle.std.specs.Prelude.{IfSome, None, Option, Some, if◌then◌else◌, not}
use Rattle.std.specs.Char.{to_ascii_lowercase}
use Rattle.std.specs.Str.{bytes_eq, str_eq_ignore_ascii_case, str_to_ascii_lowercase}
use Rattle.std.proofs.lemmas.Bool.{false_from_ne_true}
use Rattle.std.proofs.lemmas.List.{map-append}
use Rattle.std.proofs.lemmas.Slice.Eq.{bytes_eq-Decides}
use Rattle.std.proofs.lemmas.Str.Ascii.{lowercase-lowercase}
use Rattle.httparse.specs.Grammar.{is_token}
use Rattle.sm_tree.specs.declared.path.Step.TheVariants.{Key}
use Rattle.sm_time.proofs.StampForms.{and_first, and_second}
use Rattle.sm_shapes.specs.Fitting.{Test}
use Rattle.sm_shapes.specs.Places.{Place, member_place, value_place}
use Rattle.sm_shapes.specs.TableData.{BindingData, header, prefix_headers}
use Rattle.sm_shapes.specs.Values.{EntryVals, FieldVals, Val, entry, map_val, no_entries}
use Rattle.sm_shapes.proofs.NamedMembers.{IsAmong, among_contains}
use Rattle.sm_codec.specs.Codec.{Codec}
use Rattle.sm_codec.specs.Written.{paths_under}
use Rattle.sm_codec.proofs.NoFaults.{none_behind, none_first}
use Rattle.sm_codec.proofs.WrittenValues.{none_of_paths}
use Rattle.sm_http.specs.FieldValues.{values_named}
use Rattle.sm_http.specs.declared.message.Field.{Field}
use Rattle.sm_parts.specs.HeaderLists.{filled}
use Rattle.sm_part_values.specs.PartTexts.{field_children, fields_by, is_list_at}
use Rattle.sm_part_texts.specs.CarriedTexts.{here_unless, is_carried}
use Rattle.sm_part_texts.specs.PlaceTexts.{field_value, in_fields, prefixed_fields, text_at}
use Rattle.sm_part_texts.specs.declared.carried.TextTest.TheVariants.{OfField}
use Rattle.sm_part_texts.proofs.TextsHad.{passed_here}
use Rattle.sm_bind_read.specs.bind.Roles.{Bound, binding_on, bound_members, header_names, is_among, is_taken_name, reserved_names}
use Rattle.sm_bind_read.specs.PartFaults.{bound_codec}
use Rattle.sm_bind_write.specs.CarriedParts.{is_prefix_key, is_prefixed_entry, prefixed_failing, some_prefixed_failing, uncarried_bound}
use Rattle.sm_bind_write.specs.CarriedParts.{uncarried_prefixed}
use Rattle.sm_bind_write.specs.WrittenParts.{entries_in, member_headers, value_of, written_headers}
use Rattle.sm_part_laws.specs.Coming.{ComeTo, HasEntries}
use Rattle.sm_part_laws.specs.Laws.{HeaderRead}
use Rattle.sm_bind_laws.specs.FoundParts.{AreReserved, is_reserved}
use Rattle.sm_bind_laws.proofs.EachCarried.{CanBeRead, IsReady}
use Rattle.sm_bind_laws.proofs.FieldsEach.{at_most, each_map, over_only, over_through, value_held}
use Rattle.sm_bind_laws.proofs.MembersRead.{StandFor}
use Rattle.sm_bind_laws.proofs.OwnParts.{header_taken, one_header}

-- a name in lower case is in lower case
pub lower_twice : (u : List ℕ) → str_to_ascii_lowercase (str_to_ascii_lowercase u) ≡ str_to_ascii_lowercase u
lower_twice [] = refl
lower_twice (c ∷ u) =
    ap (λ d. d ∷ str_to_ascii_lowercase (str_to_ascii_lowercase u)) (lowercase-lowercase c)
    ∙ ap (λ v. to_ascii_lowercase c ∷ v) (lower_twice u)

pub lower_joined : (prefix key : List ℕ) → bytes_eq (str_to_ascii_lowercase key) key ≡ true
    → str_to_ascii_lowercase (str_to_ascii_lowercase prefix ++ key) ≡ str_to_ascii_lowercase prefix ++ key
lower_joined prefix key lower =
    map-append to_ascii_lowercase (str_to_ascii_lowercase prefix) key
    ∙ ap (λ u. u ++ str_to_ascii_lowercase key) (lower_twice prefix)
    ∙ ap (λ u. str_to_ascii_lowercase prefix ++ u) ((bytes_eq-Decides (str_to_ascii_lowercase key) key).0 lower)

-- fields of a name
pub values_both : (name : List ℕ) (xs ys : List Field) → values_named name (xs ++ ys) ≡ values_named name xs ++ values_named name ys
values_both name [] ys = refl
values_both name (f ∷ xs) ys = by (str_eq_ignore_ascii_case f.name name) (values_both name xs ys)
  where
    by : (t : Bool) → values_named name (xs ++ ys) ≡ values_named name xs ++ values_named name ys
        → (if t then f.value ∷ values_named name (xs ++ ys) else values_named name (xs ++ ys))
        ≡ (if t then f.value ∷ values_named name xs else values_named name xs) ++ values_named name ys
    by true rest = ap (λ us. f.value ∷ us) rest
    by false rest = rest

value_other : (name : List ℕ) (f : Field) (fs : List Field) → (str_to_ascii_lowercase f.name ≡ str_to_ascii_lowercase name → ⊥)
    → values_named name (f ∷ fs) ≡ values_named name fs
value_other name f fs other =
    ap (λ t. if t then f.value ∷ values_named name fs else values_named name fs)
    (false_from_ne_true (str_eq_ignore_ascii_case f.name name)
    (λ e. other ((bytes_eq-Decides (str_to_ascii_lowercase f.name) (str_to_ascii_lowercase name)).0 e)))

value_own : (name : List ℕ) (f : Field) (fs : List Field) → str_to_ascii_lowercase f.name ≡ str_to_ascii_lowercase name
    → values_named name (f ∷ fs) ≡ f.value ∷ values_named name fs
value_own name f fs same =
    ap (λ t. if t then f.value ∷ values_named name fs else values_named name fs)
    ((bytes_eq-Decides (str_to_ascii_lowercase f.name) (str_to_ascii_lowercase name)).1 same)

pub not_both : (t : Bool) → t ≡ true → t ≡ false → ⊥
not_both t h g = cc

none_reserved : (name : List ℕ) (fs : List Field) → is_among reserved_names (str_to_ascii_lowercase name) ≡ false → AreReserved fs
    → values_named name fs ≡ []
none_reserved name [] free h = refl
none_reserved name (f ∷ fs) free h =
    value_other name f fs
    (λ same. not_both (is_reserved f) h.0 (subst (λ u. is_among reserved_names u ≡ false) (sym same) free))
    ∙ none_reserved name fs free h.1

-- names that are taken
pub name_free : (x y : Bool) → not (x || y) ≡ true → (x ≡ false) × (y ≡ false)
name_free true y h = absurd cc
name_free false true h = absurd cc
name_free false false h = (refl, refl)

-- a map of prefix headers that is carried
pub record IsPrefixMap (b : Bound) (prefix : List ℕ) (p : Place) (v : Val) : Type 0 where
  pub entries : EntryVals
  pub is_map : v ≡ map_val entries
  pub some : HasEntries entries
  pub none : prefixed_failing b prefix p entries ≡ []

entries_free : (b : Bound) (prefix : List ℕ) (p : Place) (es : EntryVals) → some_prefixed_failing b prefix p es ≡ []
    → HasEntries es × (prefixed_failing b prefix p es ≡ [])
entries_free b prefix p no_entries h = absurd cc
entries_free b prefix p (entry key v es) h = (tt, h)

pub prefix_map : (b : Bound) (prefix : List ℕ) (p : Place) (v : Val) → uncarried_prefixed b prefix p v ≡ [] → IsPrefixMap b prefix p v
prefix_map b prefix p (map_val es) h =
    let parts = entries_free b prefix p es h in record { entries = es; is_map = refl; some = parts.0; none = parts.1 }
prefix_map b prefix p v h = absurd cc

-- what is known of an entry of one
pub record IsPrefixEntry (b : Bound) (prefix : List ℕ) (p : Place) (key : List ℕ) (v : Val) : Type 0 where
  pub lower : bytes_eq (str_to_ascii_lowercase key) key ≡ true
  pub reserved : is_among reserved_names (prefix ++ key) ≡ false
  pub header : is_among (header_names b) (prefix ++ key) ≡ false
  pub carried : is_carried OfField b.table p v ≡ true

module _ (b : Bound) (prefix : List ℕ) (p : Place) where
  entry_told : (key : List ℕ) (v : Val) → is_prefixed_entry b prefix p key v ≡ true → IsPrefixEntry b prefix p key v
  entry_told key v h =
      let whole = and_first (is_prefix_key b prefix key) (is_carried OfField b.table p v) h in
      let lower = bytes_eq (str_to_ascii_lowercase key) key in
      let token = is_token (prefix ++ key) in
      let free = not (is_taken_name b (prefix ++ key)) in
      let rest = and_second lower (token && free) whole in
      let apart = name_free (is_among reserved_names (prefix ++ key)) (is_among (header_names b) (prefix ++ key))
      (and_second token free rest) in
      record {
        lower = and_first lower (token && free) whole;
        reserved = apart.0;
        header = apart.1;
        carried = and_second (is_prefix_key b prefix key) (is_carried OfField b.table p v) h;
      }

  pub entry_free : (key : List ℕ) (v : Val) (es : EntryVals) → prefixed_failing b prefix p (entry key v es) ≡ []
      → IsPrefixEntry b prefix p key v × (prefixed_failing b prefix p es ≡ [])
  entry_free key v es h =
      let own = here_unless (is_prefixed_entry b prefix p key v) in
      let here = paths_under (Key key) own in
      let rest = prefixed_failing b prefix p es in (
        entry_told key v (passed_here (is_prefixed_entry b prefix p key v) (none_of_paths (Key key) own (none_first here rest h))),
        none_behind here rest h,
      )

-- no field of prefix headers has the name of a header
prefix_others : (b : Bound) (prefix : List ℕ) (p : Place) (name : List ℕ) (es : EntryVals)
    → is_among (header_names b) (str_to_ascii_lowercase name) ≡ true → prefixed_failing b (str_to_ascii_lowercase prefix) p es ≡ []
    → values_named name (prefixed_fields b.table p (str_to_ascii_lowercase prefix) es) ≡ []
prefix_others b prefix p name no_entries taken h = refl
prefix_others b prefix p name (entry key v es) taken h =
    let front = str_to_ascii_lowercase prefix in
    let parts = entry_free b front p key v es h in
    let lower = lower_joined prefix key parts.0.lower in
    value_other name (record { name = front ++ key; value = text_at in_fields b.table p v }) (prefixed_fields b.table p front es)
    (λ same. not_both (is_among (header_names b) (str_to_ascii_lowercase name)) taken
    (subst (λ u. is_among (header_names b) u ≡ false) (sym lower ∙ same) parts.0.header))
    ∙ prefix_others b prefix p name es taken parts.1

module _ (b : Bound) (test : Test) (labels : List (List ℕ)) (fs : FieldVals) (can : CanBeRead b test labels fs) where
  abbrev members : List ℕ
  members = bound_members b

  module _ (k : ℕ) (name : List ℕ) (there : IsAmong k members) (bound : binding_on b k ≡ Some (header name)) where
    abbrev header_texts : ℕ → Val → List (List ℕ)
    header_texts j w = values_named name (member_headers (binding_on b j) b.table j w)

    other_headers : (j : ℕ) (w : Val) → IsReady b test j w → (j ≡ k → ⊥) → (o : Option BindingData) → binding_on b j ≡ o
        → values_named name (member_headers o b.table j w) ≡ []
    other_headers j w ready other (Some (header key)) e =
        value_other name (record { name = str_to_ascii_lowercase key; value = field_value b.table (member_place j) w }) []
        (λ same. other (one_header b test labels can.right j k key name ready.among there e bound (sym (lower_twice key) ∙ same)))
    other_headers j w ready other (Some (prefix_headers prefix)) e =
        let front = str_to_ascii_lowercase prefix in
        let place = value_place b.table (member_place j) in
        let free = prefix_map b front place w (subst (λ o. uncarried_bound o b j w ≡ []) e ready.carried) in
        ap (λ v. values_named name (prefixed_fields b.table place front (entries_in v))) free.is_map
        ∙ prefix_others b prefix place name free.entries (header_taken b test labels can.right k name there bound) free.none
    other_headers j w ready other o e = refl

    own_header : (o : Option Val) → at_most (header_texts k) o ≡ at_most (λ v. field_value b.table (member_place k) v ∷ []) o
    own_header None = refl
    own_header (Some v) =
        ap (λ x. values_named name (member_headers x b.table k v)) bound
        ∙ value_own name (record { name = str_to_ascii_lowercase name; value = field_value b.table (member_place k) v }) []
        (lower_twice name)

    pub header_found : (before behind : List Field) → AreReserved before → AreReserved behind
        → values_named name (before ++ (written_headers b fs ++ behind))
        ≡ at_most (λ v. field_value b.table (member_place k) v ∷ []) (value_of k fs)
    header_found before behind first last =
        let free = can.right.headers k name (among_contains k members there) bound in
        let own = written_headers b fs in
        let found = at_most (λ v. field_value b.table (member_place k) v ∷ []) (value_of k fs) in
        let others = each_map (IsReady b test) (λ j w. (j ≡ k → ⊥) → header_texts j w ≡ [])
        (λ j w ready other. other_headers j w ready other (binding_on b j) refl) fs can.each in
        values_both name before (own ++ behind)
        ∙ ap (λ us. us ++ values_named name (own ++ behind)) (none_reserved name before free first)
        ∙ values_both name own behind
        ∙ ap (λ us. us ++ values_named name behind)
        (over_through (values_named name) refl (values_both name) (λ j. member_headers (binding_on b j) b.table j) fs
        ∙ over_only header_texts k fs can.apart others ∙ own_header (value_of k fs))
        ∙ ap (λ us. found ++ us) (none_reserved name behind free last) ∙ append-nil found

    none_by : (z : Bool) (c : Codec) → fields_by z c k [] ≡ []
    none_by true c = refl
    none_by false c = refl

    read_by : HeaderRead → (o : Option Val) (us : List (List ℕ)) → us ≡ at_most (λ v. field_value b.table (member_place k) v ∷ []) o
        → IfSome o (IsReady b test k)
        → StandFor k o (fields_by (is_list_at (bound_codec b test) (member_place k)) (bound_codec b test) k (filled us))
    read_by law None us e ready =
        let c = bound_codec b test in
        ap (λ ts. fields_by (is_list_at c (member_place k)) c k (filled ts)) e ∙ none_by (is_list_at c (member_place k)) c
    read_by law (Some v) us e ready =
        let c = bound_codec b test in
        subst (λ ts. ComeTo (member_place k) v (fields_by (is_list_at c (member_place k)) c k (filled ts))) (sym e)
        (law c k v ready.fits (subst (λ o. uncarried_bound o b k v ≡ []) bound ready.carried))

    pub header_read : HeaderRead → (fields before behind : List Field) → fields ≡ before ++ (written_headers b fs ++ behind)
        → AreReserved before → AreReserved behind → StandFor k (value_of k fs) (field_children (bound_codec b test) k name fields)
    header_read law fields before behind e first last =
        read_by law (value_of k fs) (values_named name fields) (ap (values_named name) e ∙ header_found before behind first last)
        (value_held (IsReady b test) k fs can.each)
