-- What people read in a schema refuses nothing: with it a schema accepts what it accepts without.
use Rattle.std.proofs.Common.{◌≡◌, ℕ, suc, ◌+◌, ◌==◌, ℤ, Bool, true, false, ◌&&◌, ◌||◌, cond, List, [], ◌∷◌, Option, Some, None, codes, refl}
use Rattle.std.proofs.Common.{sym, ap, ◌∙◌, if◌then◌else◌}
use Rattle.std.specs.Prelude.{is_some, unwrap_or}
use Rattle.std.specs.List.{list_all}
use Rattle.std.specs.Str.{bytes_eq}
use Rattle.sm_time.specs.declared.format.Format.{Format}
use Rattle.sm_time.specs.declared.format.Format.TheVariants.{DateTime, HttpDate, EpochSeconds}
use Rattle.sm_tree.specs.Node.{Node, Nodes, Members, null, bool, int, number, text, bytes, tag, opaque, list, object, no_nodes, node}
use Rattle.sm_tree.specs.Node.{no_members, member}
use Rattle.sm_tree.specs.Parts.{tree_named}
use Rattle.sm_tree.specs.Size.{node_size}
use Rattle.sm_shapes.specs.Fitting.{Test}
use Rattle.sm_shapes.specs.TableData.{TableData, ConstraintData}
use Rattle.sm_shapes.specs.Places.{Place, root_place, kind_of, format_of, shape_of, members_of_place, constraints_of, sparse_of, unique_of, entry_place}
use Rattle.sm_shapes.specs.Places.{key_place, value_place}
use Rattle.sm_shapes.specs.declared.kinds.ShapeKind.{ShapeKind}
use Rattle.sm_shapes.specs.declared.kinds.ShapeKind.TheVariants as kinds
use Rattle.sm_schema.specs.Keywords.{Instance, Part, Property, accepted_by, type_holds, enum_holds, minimum_holds, maximum_holds}
use Rattle.sm_schema.specs.Keywords.{min_length_holds, max_length_holds, pattern_holds, min_items_holds, max_items_holds, unique_items_holds}
use Rattle.sm_schema.specs.Keywords.{min_properties_holds, max_properties_holds, required_holds, items_hold, properties_hold, names_hold}
use Rattle.sm_schema.specs.Keywords.{schemas_of}
use Rattle.sm_schema.specs.Valid.{Asked, accepts, accepts_referred, all_hold, asked, behind_prefix, defined, elements_of, how_many, how_many_in}
use Rattle.sm_schema.specs.Valid.{instance_of, is_valid, keyword_holds, leaf_instance, properties_of, reference_holds, refers_by}
use Rattle.sm_schema.specs.Definitions.{Listing, definition_name, reference}
use Rattle.sm_schema.specs.Described.{choice, choices, choice_schema, definition, definition_by, definitions, member_schema, nullable_if}
use Rattle.sm_schema.specs.Described.{name_of, required_names, schema_tree, schemas_under, text_keywords, text_nodes, with_bound}
use Rattle.sm_schema.specs.Described.{with_pattern, with_required, with_unique}
use Rattle.sm_schema.specs.SchemaLaws.{NotesDontCount, OneNotedSchema, SomeNotedSchema, SomeSchema}
use Rattle.sm_schema.proofs.PlacesListed.{listed_once}
use Rattle.sm_schema.specs.Noted.{MemberNotesData, NotesData, ShapeNotesData, before_member, before_shape, keywords_by, noted, noted_definition}
use Rattle.sm_schema.specs.Noted.{noted_definitions, noted_member, noted_tree, default_tree, member_notes, shape_notes, with_deprecated, with_form, with_member_notes, with_shape_notes}
use Rattle.sm_schema.specs.Noted.{with_text, with_tree}

-- what a keyword says, by what stands under "properties" beside it
abbrev keyword_by : Asked → Option Node → List ℕ → Node → ℕ → Bool
keyword_by x beside name v accepting =
    cond (bytes_eq name (codes "$ref")) (reference_holds x.refers v) (
    cond (bytes_eq name (codes "type")) (type_holds v x.instance.tree) (
    cond (bytes_eq name (codes "enum")) (enum_holds v x.instance.tree) (
    cond (bytes_eq name (codes "minimum")) (minimum_holds v x.instance.tree) (
    cond (bytes_eq name (codes "maximum")) (maximum_holds v x.instance.tree) (
    cond (bytes_eq name (codes "minLength")) (min_length_holds v x.instance.tree) (
    cond (bytes_eq name (codes "maxLength")) (max_length_holds v x.instance.tree) (
    cond (bytes_eq name (codes "pattern")) (pattern_holds x.test v x.instance.tree) (
    cond (bytes_eq name (codes "minItems")) (min_items_holds v x.instance.tree) (
    cond (bytes_eq name (codes "maxItems")) (max_items_holds v x.instance.tree) (
    cond (bytes_eq name (codes "uniqueItems")) (unique_items_holds v x.instance.tree) (
    cond (bytes_eq name (codes "minProperties")) (min_properties_holds v x.instance.tree) (
    cond (bytes_eq name (codes "maxProperties")) (max_properties_holds v x.instance.tree) (
    cond (bytes_eq name (codes "required")) (required_holds v x.instance.tree) (
    cond (bytes_eq name (codes "items")) (items_hold v x.instance) (
    cond (bytes_eq name (codes "properties")) (properties_hold v x.instance) (
    cond (bytes_eq name (codes "additionalProperties"))
    (list_all (λ p. is_some (tree_named p.name (schemas_of beside)) || p.value.accepted v) x.instance.properties) (
    cond (bytes_eq name (codes "propertyNames")) (names_hold v x.instance) (
    cond (bytes_eq name (codes "oneOf")) (accepting == 1)
    true))))))))))))))))))

abbrev properties_in : Members → Option Node
properties_in ms = tree_named (codes "properties") ms

beside_alike : (x : Asked) (b c ms : Members) → properties_in b ≡ properties_in c → all_hold x b ms ≡ all_hold x c ms
beside_alike x b c no_members e = refl
beside_alike x b c (member name v ms) e =
    ap (λ o. keyword_by x o name v (how_many_in x v) && all_hold x b ms) e
    ∙ ap (λ r. keyword_holds x c name v (how_many_in x v) && r) (beside_alike x b c ms e)

-- keywords that are put before others and say nothing of an instance
pub record SayNothing (before : Members → Members) : Type 0 where
  pub hold : (x : Asked) (b ms : Members) → all_hold x b (before ms) ≡ all_hold x b ms
  pub beside : (ms : Members) → properties_in (before ms) ≡ properties_in ms

pub noted_same : (before : Members → Members) → SayNothing before → (x : Asked) (s : Node) → accepts x (noted before s) ≡ accepts x s
noted_same before h x (object ms) = h.hold x (before ms) ms ∙ beside_alike x (before ms) ms ms (h.beside ms)
noted_same before h x null = refl
noted_same before h x (bool b) = refl
noted_same before h x (int z) = refl
noted_same before h x (number u) = refl
noted_same before h x (text u) = refl
noted_same before h x (bytes u) = refl
noted_same before h x (tag k n) = refl
noted_same before h x (opaque b) = refl
noted_same before h x (list ns) = refl

described_holds : (x : Asked) (b : Members) (o : Option (List ℕ)) (ms : Members)
    → all_hold x b (with_text (codes "description") o ms) ≡ all_hold x b ms
described_holds x b None ms = refl
described_holds x b (Some u) ms = refl

default_holds : (x : Asked) (b : Members) (o : Option Node) (ms : Members) → all_hold x b (with_tree (codes "default") o ms) ≡ all_hold x b ms
default_holds x b None ms = refl
default_holds x b (Some n) ms = refl

deprecated_holds : (x : Asked) (b : Members) (deprecated : Bool) (ms : Members)
    → all_hold x b (with_deprecated deprecated ms) ≡ all_hold x b ms
deprecated_holds x b true ms = refl
deprecated_holds x b false ms = refl

form_holds : (x : Asked) (b : Members) (kind : ShapeKind) (format : Format) (ms : Members)
    → all_hold x b (with_form kind format ms) ≡ all_hold x b ms
form_holds x b kinds.Timestamp DateTime ms = refl
form_holds x b kinds.Timestamp HttpDate ms = refl
form_holds x b kinds.Timestamp EpochSeconds ms = refl
form_holds x b kinds.Blob format ms = refl
form_holds x b kinds.Boolean format ms = refl
form_holds x b kinds.Text format ms = refl
form_holds x b kinds.Enum format ms = refl
form_holds x b kinds.Byte format ms = refl
form_holds x b kinds.Short format ms = refl
form_holds x b kinds.Integer format ms = refl
form_holds x b kinds.IntEnum format ms = refl
form_holds x b kinds.Long format ms = refl
form_holds x b kinds.List format ms = refl
form_holds x b kinds.Map format ms = refl
form_holds x b kinds.Structure format ms = refl
form_holds x b kinds.Union format ms = refl
form_holds x b kinds.LeftOut format ms = refl

described_beside : (o : Option (List ℕ)) (ms : Members) → properties_in (with_text (codes "description") o ms) ≡ properties_in ms
described_beside None ms = refl
described_beside (Some u) ms = refl

default_beside : (o : Option Node) (ms : Members) → properties_in (with_tree (codes "default") o ms) ≡ properties_in ms
default_beside None ms = refl
default_beside (Some n) ms = refl

deprecated_beside : (deprecated : Bool) (ms : Members) → properties_in (with_deprecated deprecated ms) ≡ properties_in ms
deprecated_beside true ms = refl
deprecated_beside false ms = refl

form_beside : (kind : ShapeKind) (format : Format) (ms : Members) → properties_in (with_form kind format ms) ≡ properties_in ms
form_beside kinds.Timestamp DateTime ms = refl
form_beside kinds.Timestamp HttpDate ms = refl
form_beside kinds.Timestamp EpochSeconds ms = refl
form_beside kinds.Blob format ms = refl
form_beside kinds.Boolean format ms = refl
form_beside kinds.Text format ms = refl
form_beside kinds.Enum format ms = refl
form_beside kinds.Byte format ms = refl
form_beside kinds.Short format ms = refl
form_beside kinds.Integer format ms = refl
form_beside kinds.IntEnum format ms = refl
form_beside kinds.Long format ms = refl
form_beside kinds.List format ms = refl
form_beside kinds.Map format ms = refl
form_beside kinds.Structure format ms = refl
form_beside kinds.Union format ms = refl
form_beside kinds.LeftOut format ms = refl

shape_says : (s : ShapeNotesData) (kind : ShapeKind) (format : Format) → SayNothing (with_shape_notes s kind format)
shape_says s kind format = record {
  hold = λ x b ms. described_holds x b s.description (with_deprecated s.deprecated (with_form kind format ms))
      ∙ deprecated_holds x b s.deprecated (with_form kind format ms) ∙ form_holds x b kind format ms;
  beside = λ ms. described_beside s.description (with_deprecated s.deprecated (with_form kind format ms))
      ∙ deprecated_beside s.deprecated (with_form kind format ms) ∙ form_beside kind format ms;
}

member_says : (m : MemberNotesData) (o : Option Node) → SayNothing (with_member_notes m o)
member_says m o = record {
  hold = λ x b ms. described_holds x b m.description (with_tree (codes "default") o (with_deprecated m.deprecated ms))
      ∙ default_holds x b o (with_deprecated m.deprecated ms) ∙ deprecated_holds x b m.deprecated ms;
  beside = λ ms. described_beside m.description (with_tree (codes "default") o (with_deprecated m.deprecated ms))
      ∙ default_beside o (with_deprecated m.deprecated ms) ∙ deprecated_beside m.deprecated ms;
}

-- a definition refers to nothing that is asked of the same instance
module _ (test : Test) (f g : List ℕ → Bool) (i : Instance) where
  abbrev by_f : Asked
  by_f = record { test = test; refers = f; instance = i }

  abbrev by_g : Asked
  by_g = record { test = test; refers = g; instance = i }

  bound_alike : (b : Members) (name : List ℕ) → ((z : ℤ) → keyword_holds by_f b name (int z) 0 ≡ keyword_holds by_g b name (int z) 0)
      → (o : Option ℤ) (more : Members) → all_hold by_f b more ≡ all_hold by_g b more
      → all_hold by_f b (with_bound name o more) ≡ all_hold by_g b (with_bound name o more)
  bound_alike b name same None more h = h
  bound_alike b name same (Some z) more h =
      ap (λ r. r && all_hold by_f b more) (same z) ∙ ap (λ r. keyword_holds by_g b name (int z) 0 && r) h

  pattern_alike : (t : TableData) (b : Members) (o : Option ℕ) → all_hold by_f b (with_pattern t o) ≡ all_hold by_g b (with_pattern t o)
  pattern_alike t b None = refl
  pattern_alike t b (Some n) = refl

  texts_alike : (t : TableData) (c : ConstraintData) (b : Members) → all_hold by_f b (text_keywords t c) ≡ all_hold by_g b (text_keywords t c)
  texts_alike t c b =
      bound_alike b (codes "minLength") (λ z. refl) c.min (with_bound (codes "maxLength") c.max (with_pattern t c.pattern))
      (bound_alike b (codes "maxLength") (λ z. refl) c.max (with_pattern t c.pattern) (pattern_alike t b c.pattern))

  unique_alike : (b : Members) (unique : Bool) → all_hold by_f b (with_unique unique) ≡ all_hold by_g b (with_unique unique)
  unique_alike b true = refl
  unique_alike b false = refl

  required_alike : (b : Members) (ns : Nodes) → all_hold by_f b (with_required ns) ≡ all_hold by_g b (with_required ns)
  required_alike b no_nodes = refl
  required_alike b (node n ns) = refl

  choices_alike : (d : Listing) (s : ℕ) (ks : List ℕ) → how_many by_f (choices d s ks) ≡ how_many by_g (choices d s ks)
  choices_alike d s [] = refl
  choices_alike d s (k ∷ ks) = ap (λ m. cond (accepts by_f (choice d s k)) 1 0 + m) (choices_alike d s ks)

  alike : (d : Listing) (p : Place) (kind : ShapeKind) → accepts by_f (definition_by kind d p) ≡ accepts by_g (definition_by kind d p)
  alike d p kinds.Blob = refl
  alike d p kinds.Boolean = refl
  alike d p kinds.Text =
      let c = constraints_of d.table p in
      ap (λ r. type_holds (text (codes "string")) i.tree && r)
      (texts_alike d.table c (member (codes "type") (text (codes "string")) (text_keywords d.table c)))
  alike d p kinds.Enum =
      let c = constraints_of d.table p in
      let v = list (text_nodes c.texts) in
      ap (λ r. type_holds (text (codes "string")) i.tree && (enum_holds v i.tree && r))
      (texts_alike d.table c (member (codes "type") (text (codes "string")) (member (codes "enum") v (text_keywords d.table c))))
  alike d p kinds.Byte = refl
  alike d p kinds.Short = refl
  alike d p kinds.Integer = refl
  alike d p kinds.IntEnum = refl
  alike d p kinds.Long = refl
  alike d p kinds.Timestamp = refl
  alike d p kinds.List =
      let c = constraints_of d.table p in
      let items = nullable_if (sparse_of d.table p) (reference d (entry_place d.table p)) in
      let last = with_unique (unique_of d.table p) in
      let bounds = with_bound (codes "minItems") c.min (with_bound (codes "maxItems") c.max last) in
      let b = member (codes "type") (text (codes "array")) (member (codes "items") items bounds) in
      ap (λ r. type_holds (text (codes "array")) i.tree && (items_hold items i && r))
      (bound_alike b (codes "minItems") (λ z. refl) c.min (with_bound (codes "maxItems") c.max last)
      (bound_alike b (codes "maxItems") (λ z. refl) c.max last (unique_alike b (unique_of d.table p))))
  alike d p kinds.Map =
      let c = constraints_of d.table p in
      let key = reference d (key_place d.table p) in
      let value = nullable_if (sparse_of d.table p) (reference d (value_place d.table p)) in
      let bounds = with_bound (codes "minProperties") c.min (with_bound (codes "maxProperties") c.max no_members) in
      let b = member (codes "type") (text (codes "object")) (member (codes "propertyNames") key (
      member (codes "additionalProperties") value bounds)) in
      ap (λ r. type_holds (text (codes "object")) i.tree && (names_hold key i
      && (keyword_holds by_f b (codes "additionalProperties") value 0 && r)))
      (bound_alike b (codes "minProperties") (λ z. refl) c.min (with_bound (codes "maxProperties") c.max no_members)
      (bound_alike b (codes "maxProperties") (λ z. refl) c.max no_members refl))
  alike d p kinds.Structure =
      let ks = members_of_place d.table p in
      let s = shape_of d.table p in
      let v = object (schemas_under d s (member_schema d) ks) in
      let names = required_names d s ks in
      ap (λ r. type_holds (text (codes "object")) i.tree && (properties_hold v i && r))
      (required_alike (member (codes "type") (text (codes "object")) (member (codes "properties") v (with_required names))) names)
  alike d p kinds.Union =
      let ks = members_of_place d.table p in
      let s = shape_of d.table p in
      let v = object (schemas_under d s (choice_schema d) ks) in
      ap (λ m. type_holds (text (codes "object")) i.tree && (properties_hold v i && ((m == 1) && true))) (choices_alike d s ks)
  alike d p kinds.LeftOut = refl

-- the properties of an instance are asked by schemas whose annotations say nothing
abbrev AreSteady : List Property → Type 0
AreSteady [] = Unit {0}
AreSteady (p ∷ ps) =
    ((before : Members → Members) → SayNothing before → (s : Node) → p.value.accepted (noted before s) ≡ p.value.accepted s) × AreSteady ps

required_beside : (x : Asked) (b c : Members) (ns : Nodes) → all_hold x b (with_required ns) ≡ all_hold x c (with_required ns)
required_beside x b c no_nodes = refl
required_beside x b c (node n ns) = refl

abbrev instance_with : Node → List Part → List Property → Instance
instance_with n es ps = record { tree = n; elements = es; properties = ps }

module _ (d : Listing) (notes : NotesData) where
  -- under a name stands the schema of the same member
  under_same : (part : Part) (s : ℕ) (f g : ℕ → Node) → ((k : ℕ) → part.accepted (f k) ≡ part.accepted (g k)) → (name : List ℕ) (ks : List ℕ)
      → accepted_by (tree_named name (schemas_under d s f ks)) part ≡ accepted_by (tree_named name (schemas_under d s g ks)) part
  under_same part s f g same name [] = refl
  under_same part s f g same name (k ∷ ks) = by (bytes_eq (name_of d s k) name) (under_same part s f g same name ks)
    where
      by : (b : Bool)
          → accepted_by (tree_named name (schemas_under d s f ks)) part ≡ accepted_by (tree_named name (schemas_under d s g ks)) part
          → accepted_by (if b then Some (f k) else tree_named name (schemas_under d s f ks)) part
          ≡ accepted_by (if b then Some (g k) else tree_named name (schemas_under d s g ks)) part
      by true h = same k
      by false h = h

  -- so annotations of members say nothing of properties
  properties_same : (s : ℕ) (schema : ℕ → Node) (ks : List ℕ) (ps : List Property) → AreSteady ps
      → list_all (λ p. accepted_by (tree_named p.name (schemas_under d s (noted_member notes d schema) ks)) p.value) ps
      ≡ list_all (λ p. accepted_by (tree_named p.name (schemas_under d s schema ks)) p.value) ps
  properties_same s schema ks [] h = refl
  properties_same s schema ks (p ∷ ps) h =
      let rest = list_all (λ q. accepted_by (tree_named q.name (schemas_under d s (noted_member notes d schema) ks)) q.value) ps in
      let here = accepted_by (tree_named p.name (schemas_under d s schema ks)) p.value in
      ap (λ r. r && rest) (under_same p.value s (noted_member notes d schema) schema
      (λ k. h.0 (before_member notes d k) (member_says (member_notes notes k) (default_tree d k)) (schema k)) p.name ks)
      ∙ ap (λ r. here && r) (properties_same s schema ks ps h.1)

  -- with annotations a definition says what it says without
  keywords_same : (x : Asked) → AreSteady x.instance.properties → (p : Place) (kind : ShapeKind)
      → accepts x (keywords_by kind notes d p) ≡ accepts x (definition_by kind d p)
  keywords_same x h p kinds.Structure =
      let ks = members_of_place d.table p in
      let s = shape_of d.table p in
      let names = required_names d s ks in
      let v = object (schemas_under d s (member_schema d) ks) in
      let w = object (schemas_under d s (noted_member notes d (member_schema d)) ks) in
      let b = member (codes "type") (text (codes "object")) (member (codes "properties") v (with_required names)) in
      let c = member (codes "type") (text (codes "object")) (member (codes "properties") w (with_required names)) in
      ap (λ r. type_holds (text (codes "object")) x.instance.tree && (properties_hold w x.instance && r)) (required_beside x c b names)
      ∙ ap (λ r. type_holds (text (codes "object")) x.instance.tree && (r && all_hold x b (with_required names)))
      (properties_same s (member_schema d) ks x.instance.properties h)
  keywords_same x h p kinds.Union =
      let ks = members_of_place d.table p in
      let s = shape_of d.table p in
      ap (λ r. type_holds (text (codes "object")) x.instance.tree && (r && ((how_many x (choices d s ks) == 1) && true)))
      (properties_same s (choice_schema d) ks x.instance.properties h)
  keywords_same x h p kinds.Blob = refl
  keywords_same x h p kinds.Boolean = refl
  keywords_same x h p kinds.Text = refl
  keywords_same x h p kinds.Enum = refl
  keywords_same x h p kinds.Byte = refl
  keywords_same x h p kinds.Short = refl
  keywords_same x h p kinds.Integer = refl
  keywords_same x h p kinds.IntEnum = refl
  keywords_same x h p kinds.Long = refl
  keywords_same x h p kinds.Timestamp = refl
  keywords_same x h p kinds.List = refl
  keywords_same x h p kinds.Map = refl
  keywords_same x h p kinds.LeftOut = refl

  definition_same : (test : Test) (f g : List ℕ → Bool) (i : Instance) → AreSteady i.properties → (p : Place)
      → accepts (by_f test f g i) (noted_definition notes d p) ≡ accepts (by_g test f g i) (definition d p)
  definition_same test f g i h p =
      let kind = kind_of d.table p in
      noted_same (before_shape notes d p)
      (shape_says (shape_notes notes (shape_of d.table p)) kind (unwrap_or (format_of d.table p) EpochSeconds))
      (by_f test f g i) (keywords_by kind notes d p)
      ∙ keywords_same (by_f test f g i) h p kind ∙ alike test f g i d p kind

  -- what stands under a name
  named_same : (test : Test) (f g : List ℕ → Bool) (i : Instance) → AreSteady i.properties → (name : List ℕ) (k : ℕ) (ps : List Place)
      → accepts_referred (by_f test f g i) (tree_named name (noted_definitions notes d k ps))
      ≡ accepts_referred (by_g test f g i) (tree_named name (definitions d k ps))
  named_same test f g i h name k [] = refl
  named_same test f g i h name k (p ∷ ps) = by (bytes_eq (definition_name k) name) (named_same test f g i h name (suc k) ps)
    where
      by : (b : Bool)
          → accepts_referred (by_f test f g i) (tree_named name (noted_definitions notes d (suc k) ps))
          ≡ accepts_referred (by_g test f g i) (tree_named name (definitions d (suc k) ps))
          → accepts_referred (by_f test f g i)
          (if b then Some (noted_definition notes d p) else tree_named name (noted_definitions notes d (suc k) ps))
          ≡ accepts_referred (by_g test f g i) (if b then Some (definition d p) else tree_named name (definitions d (suc k) ps))
      by true more = definition_same test f g i h p
      by false more = more

  defined_same : (test : Test) (f g : List ℕ → Bool) (i : Instance) → AreSteady i.properties → (o : Option (List ℕ))
      → accepts_referred (by_f test f g i) (defined (noted_definitions notes d 0 d.places) o)
      ≡ accepts_referred (by_g test f g i) (defined (definitions d 0 d.places) o)
  defined_same test f g i h None = refl
  defined_same test f g i h (Some name) = named_same test f g i h name 0 d.places

  refers_same : (test : Test) (i : Instance) → AreSteady i.properties → (m n : ℕ) (u : List ℕ)
      → refers_by test (noted_tree notes d) i (suc m) u ≡ refers_by test (schema_tree d) i (suc n) u
  refers_same test i h m n u =
      defined_same test (λ w. refers_by test (noted_tree notes d) i m w) (λ w. refers_by test (schema_tree d) i n w) i h
      (behind_prefix (codes "#/$defs/") u)

  asked_same : (test : Test) (i j : Instance) → AreSteady i.properties → i ≡ j
      → asked test (noted_tree notes d) i ≡ asked test (schema_tree d) j
  asked_same test i j h e =
      let m = node_size (noted_tree notes d) in
      let n = node_size (schema_tree d) in
      let says : (u : List ℕ) → refers_by test (noted_tree notes d) i (suc m) u ≡ refers_by test (schema_tree d) j (suc n) u =
      λ u. refers_same test i h m n u ∙ ap (λ k. refers_by test (schema_tree d) k (suc n) u) e in
      λ z. record { test = test; refers = λ u. says u z; instance = e z }

  steady_properties : (test : Test) (root : Node) (ms : Members) → AreSteady (properties_of test root ms)
  steady_properties test root no_members = tt
  steady_properties test root (member name n ms) =
      (λ before says s. noted_same before says (asked test root (instance_of test root n)) s, steady_properties test root ms)

  steady : (test : Test) (root n : Node) → AreSteady (instance_of test root n).properties
  steady test root null = tt
  steady test root (bool b) = tt
  steady test root (int z) = tt
  steady test root (number u) = tt
  steady test root (text u) = tt
  steady test root (bytes u) = tt
  steady test root (tag k n) = tt
  steady test root (opaque b) = tt
  steady test root (list ns) = tt
  steady test root (object ms) = steady_properties test root ms

  abbrev part_by : Node → Asked → Part
  part_by n x = record { tree = n; accepted = λ schema. accepts x schema }

  abbrev property_by : List ℕ → Asked → Part → Property
  property_by name x part = record { name = name; name_accepted = λ schema. accepts x schema; value = part }

  mutual
    instance_same : (test : Test) (n : Node) → instance_of test (noted_tree notes d) n ≡ instance_of test (schema_tree d) n
    instance_same test null = refl
    instance_same test (bool b) = refl
    instance_same test (int z) = refl
    instance_same test (number u) = refl
    instance_same test (text u) = refl
    instance_same test (bytes u) = refl
    instance_same test (tag k n) = refl
    instance_same test (opaque b) = refl
    instance_same test (list ns) =
        ap (λ (es : List Part). instance_with (list ns) es []) (elements_same test ns)
    instance_same test (object ms) =
        ap (λ (ps : List Property). instance_with (object ms) [] ps) (pairs_same test ms)

    elements_same : (test : Test) (ns : Nodes) → elements_of test (noted_tree notes d) ns ≡ elements_of test (schema_tree d) ns
    elements_same test no_nodes = refl
    elements_same test (node n ns) =
        let here = ap (part_by n) (asked_same test (instance_of test (noted_tree notes d) n) (instance_of test (schema_tree d) n)
        (steady test (noted_tree notes d) n) (instance_same test n)) in
        let rest = elements_same test ns in λ z. here z ∷ rest z

    pairs_same : (test : Test) (ms : Members) → properties_of test (noted_tree notes d) ms ≡ properties_of test (schema_tree d) ms
    pairs_same test no_members = refl
    pairs_same test (member name n ms) =
        let leaf = leaf_instance (text name) in
        let named = asked_same test leaf leaf tt refl in
        let here = ap (part_by n) (asked_same test (instance_of test (noted_tree notes d) n) (instance_of test (schema_tree d) n)
        (steady test (noted_tree notes d) n) (instance_same test n)) in
        let rest = pairs_same test ms in λ z. property_by name (named z) (here z) ∷ rest z

  pub noted_accepts : (test : Test) (n : Node) → is_valid test (noted_tree notes d) n ≡ is_valid test (schema_tree d) n
  noted_accepts test n =
      ap (λ x. accepts x (noted_tree notes d)) (asked_same test (instance_of test (noted_tree notes d) n)
      (instance_of test (schema_tree d) n) (steady test (noted_tree notes d) n) (instance_same test n))

abbrev listing : TableData → Bool → List Place → Listing
listing t json_names places = record { table = t; json_names = json_names; places = places }

pub notes_dont_count : NotesDontCount
notes_dont_count t json_names notes test s schema with_notes n is also =
    ap (λ x. is_valid test x n) also.is
    ∙ ap (λ ps. is_valid test (noted_tree notes (listing t json_names ps)) n)
    (listed_once t also.turns is.turns (root_place s ∷ []) 0 also.places is.places also.listed is.listed)
    ∙ noted_accepts (listing t json_names is.places) notes test n ∙ ap (λ x. is_valid test x n) (sym is.is)

-- a shape has one schema with these notes, and has one
pub one_noted_schema : OneNotedSchema
one_noted_schema t json_names notes s a b is also =
    is.is ∙ ap (λ ps. noted_tree notes (listing t json_names ps))
    (listed_once t is.turns also.turns (root_place s ∷ []) 0 is.places also.places is.listed also.listed) ∙ sym also.is

pub some_noted_schema : SomeSchema → SomeNotedSchema
some_noted_schema some t json_names notes s shaped within =
    let plain = some t json_names s shaped within in (
      noted_tree notes (listing t json_names plain.1.places),
      record { places = plain.1.places; turns = plain.1.turns; listed = plain.1.listed; is = refl },
    )
