-- Which shapes a selector picks from a start (Smithy 2.0, "Selectors"): its steps lead, one after the other, from a shape to shapes.
use Rattle.std.specs.Prelude.{◌≡◌, ◌⊎◌, ◌++◌, ◌==◌, ◌||◌, ℕ, Bool, true, false, List, [], ◌∷◌, Option, Some, None, codes, cond, map}
use Rattle.std.specs.Option.{option_and_then}
use Rattle.std.specs.Fmt.{signed_decimal}
use Rattle.std.specs.Char.{is_ascii_digit}
use Rattle.std.specs.List.{Contains, list_all}
use Rattle.sm_bytes.specs.Ascii.{minus}
use Rattle.std.specs.FinMap as fin
use Rattle.std.specs.Str.{str_to_ascii_lowercase}
use Rattle.sm_ids.specs.IdText.{Id, IdText}
use Rattle.sm_tree.specs.Node.{Node, null, bool, int, number, text, bytes, tag, opaque, list, object}
use Rattle.sm_tree.specs.Parts.{pairs_in, tree_named}
use Rattle.sm_model.specs.Graphs.{Entry, shape_entry, member_entry, GraphMaps, traits_in}
use Rattle.sm_model.specs.PreludeShapes.{is_prelude_id}
use Rattle.sm_model.specs.Relations.{HasEntry, IsInGraph, IsRelated, IsNeighbor, Reaches}
use Rattle.sm_model.specs.declared.kind.Kind.{Kind}
use Rattle.sm_model.specs.declared.kind.Kind.TheVariants.{Text as text_kind, Enum, Integer, IntEnum}
use Rattle.sm_model.specs.declared.relation.Relation.{Relation}
use Rattle.sm_select.specs.declared.selector.SelectorOp.{SelectorOp}
use Rattle.sm_select.specs.declared.selector.SelectorOp.TheVariants.{Equal, Unequal, Starts, Ends, Contains as HasIn}
use Rattle.sm_select.specs.Selectors.{Attribute, id_of, namespace_of, name_of, member_of, trait_of}
use Rattle.sm_select.specs.Selectors.{Step, any_shape, of_kind, has, compares, forward, back, walk, along, picked_by, picks_none}
use Rattle.sm_select.specs.Selectors.{picks_some}
use Rattle.sm_select.specs.Selectors.{Steps, no_steps, then, Alternatives, no_selectors, or_by}

-- the type that a step names takes a shape in: `string` takes enums too, and `integer` intEnums
abbrev pub IsTaken : Kind → Kind → Type 0
IsTaken named kind = (kind ≡ named) ⊎ (((named ≡ text_kind) × (kind ≡ Enum)) ⊎ ((named ≡ Integer) × (kind ≡ IntEnum)))

abbrev pub IsNamed : Option Kind → Entry → Type 0
IsNamed None (member_entry m) = Unit {0}
IsNamed None (shape_entry s) = ⊥
IsNamed (Some named) (shape_entry s) = IsTaken named s.kind
IsNamed (Some named) (member_entry m) = ⊥

-- the value of an object's field, and of a field within it, and so on; of two fields of one name the first is meant
abbrev pub value_at_key : List ℕ → Node → Option Node
value_at_key key n = option_and_then (tree_named key) (pairs_in n)

abbrev pub value_within : List (List ℕ) → Node → Option Node
value_within [] n = Some n
value_within (key ∷ keys) n = option_and_then (value_within keys) (value_at_key key n)

-- the value that an attribute has at a shape or member
abbrev pub HasValue : GraphMaps → List ℕ → Attribute → Node → Type 0
HasValue g id id_of n = n ≡ text id
HasValue g id namespace_of n = (parts : Id) × IdText parts id × (n ≡ text parts.namespace)
HasValue g id name_of n = (parts : Id) × IdText parts id × (n ≡ text parts.name)
HasValue g id member_of n = (parts : Id) × IdText parts id × ((name : List ℕ) × (parts.member ≡ Some name) × (n ≡ text name))
HasValue g id (trait_of trait keys) n =
    (e : Entry) × HasEntry g id e × ((value : Node) × (fin.get (traits_in e) trait ≡ Some value) × (value_within keys value ≡ Some n))

-- the text of a number that is whole has neither a fraction nor an exponent
abbrev pub is_whole_number : List ℕ → Bool
is_whole_number t = list_all (λ c. is_ascii_digit c || (c == minus)) t

-- the text of a value that is compared: of a text, a whole number, `true` and `false`
abbrev pub compared_text : Node → Option (List ℕ)
compared_text (text t) = Some t
compared_text (int z) = Some (signed_decimal z)
compared_text (bool true) = Some (codes "true")
compared_text (bool false) = Some (codes "false")
compared_text (number t) = cond (is_whole_number t) (Some t) None
compared_text null = None
compared_text (bytes t) = None
compared_text (tag k n) = None
compared_text (opaque b) = None
compared_text (list ns) = None
compared_text (object ms) = None

abbrev pub BeginsWith : List ℕ → List ℕ → Type 0
BeginsWith t value = (more : List ℕ) × (t ≡ value ++ more)

abbrev pub EndsWith : List ℕ → List ℕ → Type 0
EndsWith t value = (before : List ℕ) × (t ≡ before ++ value)

abbrev pub HasWithin : List ℕ → List ℕ → Type 0
HasWithin t value = (before : List ℕ) × (more : List ℕ) × (t ≡ before ++ value ++ more)

-- how a text stands to a value
abbrev pub StandsTo : SelectorOp → List ℕ → List ℕ → Type 0
StandsTo Equal t value = t ≡ value
StandsTo Unequal t value = t ≡ value → ⊥
StandsTo Starts t value = BeginsWith t value
StandsTo Ends t value = EndsWith t value
StandsTo HasIn t value = HasWithin t value

abbrev pub StandsToOne : SelectorOp → List ℕ → List (List ℕ) → Type 0
StandsToOne op t [] = ⊥
StandsToOne op t (value ∷ values) = StandsTo op t value ⊎ StandsToOne op t values

-- in lower case, where the case of ASCII doesn't count
abbrev pub folded : Bool → List ℕ → List ℕ
folded true t = str_to_ascii_lowercase t
folded false t = t

-- the text that a path's value shows stands so to one of these values, which are folded
pub record Compares (g : GraphMaps) (id : List ℕ) (of : Attribute) (op : SelectorOp) (fold : Bool) (values : List (List ℕ)) : Type 0 where
  pub value : Node
  pub has_value : HasValue g id of value
  pub shown : List ℕ
  pub shows : compared_text value ≡ Some shown
  pub one : StandsToOne op (folded fold shown) values

abbrev pub LeadsAlong : GraphMaps → List Relation → List ℕ → List ℕ → Type 0
LeadsAlong g relations from to = (relation : Relation) × Contains relations relation × IsRelated relation g from to

-- a step that keeps a shape or drops it
abbrev pub Keeps : Type 0 → List ℕ → List ℕ → Type 0
Keeps Is from to = (to ≡ from) × Is

abbrev mutual
  pub Goes : GraphMaps → Step → List ℕ → List ℕ → Type 0
  Goes g any_shape from to = to ≡ from
  Goes g (of_kind named) from to = Keeps ((e : Entry) × HasEntry g from e × IsNamed named e) from to
  Goes g (has attribute) from to = Keeps ((n : Node) × HasValue g from attribute n) from to
  Goes g (compares attribute op values fold) from to = Keeps (Compares g from attribute op fold (map (folded fold) values)) from to
  Goes g forward from to = IsNeighbor g from to
  Goes g back from to = IsNeighbor g to from
  Goes g walk from to = Reaches g from to
  Goes g (along relations) from to = LeadsAlong g relations from to
  Goes g (picked_by selectors) from to = PickedByOne g selectors from to
  Goes g (picks_none steps) from to = Keeps ((other : List ℕ) → Picks g steps from other → ⊥) from to
  Goes g (picks_some selectors) from to = Keeps ((other : List ℕ) × PickedByOne g selectors from other) from to

  -- a selector picks a shape from a start
  pub Picks : GraphMaps → Steps → List ℕ → List ℕ → Type 0
  Picks g no_steps from to = to ≡ from
  Picks g (then step steps) from to = (next : List ℕ) × Goes g step from next × Picks g steps next to

  pub PickedByOne : GraphMaps → Alternatives → List ℕ → List ℕ → Type 0
  PickedByOne g no_selectors from to = ⊥
  PickedByOne g (or_by steps selectors) from to = Picks g steps from to ⊎ PickedByOne g selectors from to

-- a start: a shape or member outside of the prelude
abbrev pub IsStart : GraphMaps → List ℕ → Type 0
IsStart g id = IsInGraph g id × (is_prelude_id id ≡ false)

-- a selector picks a shape from some start
abbrev pub IsPicked : GraphMaps → Steps → List ℕ → Type 0
IsPicked g steps to = (from : List ℕ) × IsStart g from × Picks g steps from to
