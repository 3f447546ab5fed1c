-- The bodies of operations, services and resources (Smithy 2.0, "Smithy IDL", "Service types", "Inline input / output shapes").
use Rattle.std.specs.Prelude.{◌≡◌, ◌⊎◌, ℕ, false, if◌then◌else◌, List, [], ◌∷◌, ◌++◌, map, Option, Some, None, codes}
use Rattle.std.specs.Str.{bytes_eq}
use Rattle.sm_ids.specs.TextParts.{absolute_id}
use Rattle.sm_ids.specs.Identifier.{IsIdentifier}
use Rattle.sm_ids.specs.IdText.{IsIdText}
use Rattle.sm_lex.specs.Tokens.{Lexeme}
use Rattle.sm_tree.specs.Node.{null, bool, int, number, text, bytes, tag, opaque, list, object}
use Rattle.sm_model.specs.Kinds.{any}
use Rattle.sm_model.specs.Properties.{TypeFields, form_named}
use Rattle.sm_model.specs.Raw.{Raw, raw_leaf, raw_id, raw_list, raw_object, raws_of, empty_raw}
use Rattle.sm_model.specs.References.{absolute}
use Rattle.sm_model.specs.Said.{TraitSaid, MemberSaid, Said, shape_said}
use Rattle.sm_model.specs.declared.kind.Kind.TheVariants.{Structure}
use Rattle.sm_model.specs.declared.reference.Ref.{Ref}
use Rattle.sm_model.specs.declared.property.PropertyForm.{PropertyForm}
use Rattle.sm_model.specs.declared.property.PropertyForm.TheVariants.{Reference, References, NamedReferences, Text, Rename}
use Rattle.sm_idl.specs.Productions.{Production, one, gives, ◌>>=◌, ◌>>◌, ◌or◌, each, many}
use Rattle.sm_idl.specs.Words.{IsMark, IsWord, IsString, IsBlock, IsKey, IsNew, mark, word_that, id}
use Rattle.sm_idl.specs.Nodes.{Home, written, IsNodeId, Pair, pair_names, as_object, pair_of}
use Rattle.sm_idl.specs.Traits.{standing_for, documented, traits}
use Rattle.sm_idl.specs.Members.{field, members, mixins}

-- the id of a shape that the file defines
abbrev pub defined_id : Home → List ℕ → List ℕ
defined_id home name = absolute_id home.namespace name

-- the controls of a file, by their keys
abbrev pub Controls : Type 0
Controls = List Pair

-- the text of a control. One that is no text is passed over; a word means an id, whose text ends no identifier
abbrev pub suffix_said : List ℕ → Raw → Option (List ℕ)
suffix_said otherwise (raw_leaf (text t)) = Some t
suffix_said otherwise (raw_leaf null) = Some otherwise
suffix_said otherwise (raw_leaf (bool b)) = Some otherwise
suffix_said otherwise (raw_leaf (int z)) = Some otherwise
suffix_said otherwise (raw_leaf (number t)) = Some otherwise
suffix_said otherwise (raw_leaf (bytes t)) = Some otherwise
suffix_said otherwise (raw_leaf (tag k n)) = Some otherwise
suffix_said otherwise (raw_leaf (opaque b)) = Some otherwise
suffix_said otherwise (raw_leaf (list ns)) = Some otherwise
suffix_said otherwise (raw_leaf (object ms)) = Some otherwise
suffix_said otherwise (raw_id r) = None
suffix_said otherwise (raw_list ns) = Some otherwise
suffix_said otherwise (raw_object ms) = Some otherwise

abbrev pub suffix_under : List ℕ → List ℕ → Controls → Option (List ℕ)
suffix_under name otherwise [] = Some otherwise
suffix_under name otherwise (c ∷ cs) = if bytes_eq c.0 name then suffix_said otherwise c.1 else suffix_under name otherwise cs

-- what the names of inline inputs and outputs end with, where a control says no word
pub record Suffixes : Type 0 where
  pub input : Option (List ℕ)
  pub output : Option (List ℕ)

-- `Input` and `Output`, or what a control says
abbrev pub suffixes : Controls → Suffixes
suffixes cs = record {
  input = suffix_under (codes "operationInputSuffix") (codes "Input") cs;
  output = suffix_under (codes "operationOutputSuffix") (codes "Output") cs;
}

-- a part of an operation: its name, its node, and the statement of the structure that it defines in its place
pub record PartSaid : Type 0 where
  pub name : List ℕ
  pub value : Raw
  pub defined : List Said

abbrev pub part_names : List PartSaid → List (List ℕ)
part_names ps = map (λ p. p.name) ps

-- a part's word, which no part before it has
abbrev pub part_word : List ℕ → List PartSaid → Production Unit
part_word name before = one (λ t _. IsWord name t × IsNew name (part_names before))

-- ":" word
abbrev pub part_target : Home → List ℕ → Production PartSaid
part_target home name = do
  mark (codes ":")
  w ← id
  gives (record { name = name; value = raw_id (written home w false); defined = [] })

-- `:=` where the name of the structure that it defines is an identifier: the operation's with the suffix
abbrev pub inline_name : List ℕ → Option (List ℕ) → Production (List ℕ)
inline_name operation suffix =
    one (λ t name. IsMark (codes ":=") t × ((end : List ℕ) × (suffix ≡ Some end) × (name ≡ operation ++ end)) × IsIdentifier name)

-- the structure that an operation defines in the place of its input or output
abbrev pub inline_said : Home → List ℕ → List ℕ → List TraitSaid → List Ref → List MemberSaid → PartSaid
inline_said home structure name ts mixed ms = record {
  name = name;
  value = raw_id (absolute (defined_id home structure) false);
  defined = shape_said (record {
    id = defined_id home structure;
    kind = Structure;
    members = ms;
    mixins = mixed;
    properties = empty_raw;
    traits = standing_for name empty_raw ∷ ts;
  }) ∷ [];
}

-- trait* [ with ] "{" field* "}"
abbrev pub inline_with : Home → List ℕ → List ℕ → List TraitSaid → Production PartSaid
inline_with home structure name docs = do
  ts ← traits home
  mixed ← mixins home
  ms ← members any (field home)
  gives (inline_said home structure name (docs ++ ts) mixed ms)

-- ":=" trait* [ with ] "{" field* "}"
abbrev pub part_inline : Home → List ℕ → Option (List ℕ) → List ℕ → Production PartSaid
part_inline home operation suffix name = do
  structure ← inline_name operation suffix
  documented (inline_with home structure name)

-- ( "input" | "output" ) ( ":" word | ":=" trait* [ with ] "{" field* "}" )
abbrev pub part_shape : Home → List ℕ → Option (List ℕ) → List ℕ → List PartSaid → Production PartSaid
part_shape home operation suffix name before = part_word name before >> (part_target home name or part_inline home operation suffix name)

-- "errors" ":" "[" word* "]"
abbrev pub part_errors : Home → List PartSaid → Production PartSaid
part_errors home before = do
  part_word (codes "errors") before
  mark (codes ":")
  mark (codes "[")
  ws ← many id
  mark (codes "]")
  gives (record {
    name = codes "errors";
    value = raw_list (raws_of (map (λ w. raw_id (written home w false)) ws));
    defined = [];
  })

-- part = ( "input" | "output" ) ( .. ) | "errors" ":" "[" word* "]"
abbrev pub part : Home → Suffixes → List ℕ → List PartSaid → Production PartSaid
part home endings operation before = part_shape home operation endings.input (codes "input") before
    or (part_shape home operation endings.output (codes "output") before or part_errors home before)

-- the pairs of services and resources, whose nodes have the forms of their fields

-- a reference: a word of a node
abbrev pub reference : Home → Production Raw
reference home = do
  w ← word_that IsNodeId
  gives (raw_id (written home w false))

abbrev pub references : Home → Production Raw
references home = do
  mark (codes "[")
  ws ← many (reference home)
  mark (codes "]")
  gives (raw_list (raws_of ws))

-- "{" pair* "}", with these pairs
abbrev pub braced_pairs : (List Pair → Production Pair) → Production Raw
braced_pairs each_pair = do
  mark (codes "{")
  ps ← each each_pair
  mark (codes "}")
  gives (as_object ps)

-- a text; a word is the text of the id that it means
abbrev pub TextSays : Home → Lexeme → Raw → Type 0
TextSays home t n = ((v : List ℕ) × (IsString v t ⊎ IsBlock v t) × (n ≡ raw_leaf (text v)))
    ⊎ ((w : List ℕ) × IsWord w t × IsNodeId w × (n ≡ raw_id (written home w false)))

abbrev pub text_node : Home → Production Raw
text_node home = one (TextSays home)

-- an identifier under an id
abbrev pub new_name : Production Raw
new_name = one (λ t n. (v : List ℕ) × (IsString v t ⊎ IsBlock v t) × IsIdentifier v × (n ≡ raw_leaf (text v)))

abbrev pub renaming : List Pair → Production Pair
renaming before = do
  k ← one (λ t k. IsKey k t × IsIdText k × IsNew k (pair_names before))
  mark (codes ":")
  n ← new_name
  gives (k, n)

abbrev pub field_value : Home → PropertyForm → Production Raw
field_value home Reference = reference home
field_value home References = references home
field_value home NamedReferences = braced_pairs (pair_of (reference home))
field_value home Text = text_node home
field_value home Rename = braced_pairs renaming

-- a field's name, which no pair before it has
abbrev pub FieldNamed : TypeFields → List Pair → Lexeme → List ℕ × PropertyForm → Type 0
FieldNamed fields before t f = IsKey f.0 t × (form_named f.0 fields ≡ Some f.1) × IsNew f.0 (pair_names before)

-- pair = key ":" node
abbrev pub property : Home → TypeFields → List Pair → Production Pair
property home fields before = do
  f ← one (FieldNamed fields before)
  mark (codes ":")
  n ← field_value home f.1
  gives (f.0, n)
