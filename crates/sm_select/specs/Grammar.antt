-- Which tokens spell a selector (Smithy 2.0, "Selectors", "Grammar"). `ts` spells something and then `r` stands.
use Rattle.std.specs.Prelude.{◌≡◌, ◌⊎◌, ℕ, Bool, true, false, List, [], ◌∷◌, Option, Some, None, codes}
use Rattle.sm_ids.specs.Identifier.{IsIdentifier}
use Rattle.sm_ids.specs.IdText.{IsIdText}
use Rattle.sm_model.specs.Kinds.{kind_name}
use Rattle.sm_model.specs.PreludeShapes.{api_id}
use Rattle.sm_model.specs.Relations.{relation_name}
use Rattle.sm_model.specs.declared.kind.Kind.{Kind}
use Rattle.sm_model.specs.declared.relation.Relation.{Relation}
use Rattle.sm_select.specs.declared.selector.SelectorOp.{SelectorOp}
use Rattle.sm_select.specs.declared.selector.SelectorOp.TheVariants.{Equal, Unequal, Starts, Ends, Contains}
use Rattle.sm_select.specs.Selectors.{Attribute, id_of, namespace_of, name_of, member_of, trait_of}
use Rattle.sm_select.specs.Selectors.{Step, any_shape, of_kind, has, compares, forward, back, walk, along, picked_by, picks_none}
use Rattle.sm_select.specs.Selectors.{picks_some}
use Rattle.sm_select.specs.Selectors.{Steps, no_steps, then, Alternatives, no_selectors, or_by}
use Rattle.sm_select.specs.Tokens.{Token, terminal, word, quoted, numeral}

-- typeName: that of a type of shapes, or `member`
abbrev pub type_word : Option Kind → List ℕ
type_word None = codes "member"
type_word (Some kind) = kind_name kind

-- op = "=" | "!=" | "^=" | "$=" | "*="
abbrev pub op_sign : SelectorOp → List ℕ
op_sign Equal = codes "="
op_sign Unequal = codes "!="
op_sign Starts = codes "^="
op_sign Ends = codes "$="
op_sign Contains = codes "*="

-- the id of a trait; one without a namespace is in that of the prelude
abbrev pub MeansTrait : List ℕ → List ℕ → Type 0
MeansTrait t trait = (IsIdText t × (trait ≡ t)) ⊎ (IsIdentifier t × (trait ≡ api_id t))

-- key: an identifier, or quoted text
abbrev pub SpellsKey : List ℕ → List Token → List Token → Type 0
SpellsKey key ts r = (IsIdentifier key × (ts ≡ word key ∷ r)) ⊎ (ts ≡ quoted key ∷ r)

-- ( "|" key )*
abbrev pub SpellsKeys : List (List ℕ) → List Token → List Token → Type 0
SpellsKeys [] ts r = ts ≡ r
SpellsKeys (key ∷ keys) ts r =
    (here behind : List Token) × (ts ≡ terminal (codes "|") ∷ here) × SpellsKey key here behind × SpellsKeys keys behind r

-- path = "id" | "id|namespace" | "id|name" | "id|member" | "trait|" id ( "|" key )*
abbrev pub SpellsPath : Attribute → List Token → List Token → Type 0
SpellsPath id_of ts r = ts ≡ word (codes "id") ∷ r
SpellsPath namespace_of ts r = ts ≡ terminal (codes "id|namespace") ∷ r
SpellsPath name_of ts r = ts ≡ terminal (codes "id|name") ∷ r
SpellsPath member_of ts r = ts ≡ terminal (codes "id|member") ∷ r
SpellsPath (trait_of trait keys) ts r =
    (t : List ℕ) × (behind : List Token) × (ts ≡ terminal (codes "trait|") ∷ word t ∷ behind) × MeansTrait t trait
    × SpellsKeys keys behind r

-- value: quoted text, a number, or an id
abbrev pub SpellsValue : List ℕ → List Token → List Token → Type 0
SpellsValue value ts r = (ts ≡ quoted value ∷ r) ⊎ ((ts ≡ numeral value ∷ r) ⊎ (IsIdText value × (ts ≡ word value ∷ r)))

-- ( "," value )*
abbrev pub SpellsMoreValues : List (List ℕ) → List Token → List Token → Type 0
SpellsMoreValues [] ts r = ts ≡ r
SpellsMoreValues (value ∷ values) ts r =
    (here behind : List Token) × (ts ≡ terminal (codes ",") ∷ here) × SpellsValue value here behind × SpellsMoreValues values behind r

-- values = value ( "," value )*
abbrev pub SpellsValues : List (List ℕ) → List Token → List Token → Type 0
SpellsValues [] ts r = ⊥
SpellsValues (value ∷ values) ts r = (behind : List Token) × SpellsValue value ts behind × SpellsMoreValues values behind r

-- [ "i" ]
abbrev pub SpellsFold : Bool → List Token → List Token → Type 0
SpellsFold true ts r = ts ≡ word (codes "i") ∷ r
SpellsFold false ts r = ts ≡ r

-- attr = "[" path [ op values [ "i" ] ] "]"
abbrev pub SpellsHas : Attribute → List Token → List Token → Type 0
SpellsHas path ts r = (here : List Token) × (ts ≡ terminal (codes "[") ∷ here) × SpellsPath path here (terminal (codes "]") ∷ r)

pub record SpellsCompare (path : Attribute) (op : SelectorOp) (values : List (List ℕ)) (fold : Bool) (ts r : List Token) : Type 0 where
  pub opened : List Token
  pub compared : List Token
  pub valued : List Token
  pub opens : ts ≡ terminal (codes "[") ∷ opened
  pub of_path : SpellsPath path opened (terminal (op_sign op) ∷ compared)
  pub with_values : SpellsValues values compared valued
  pub folded : SpellsFold fold valued (terminal (codes "]") ∷ r)

-- names = relation ( "," relation )*, with what closes them
abbrev pub SpellsMoreNames : List Relation → List Token → List Token → Type 0
SpellsMoreNames [] ts r = ts ≡ terminal (codes "]->") ∷ r
SpellsMoreNames (name ∷ names) ts r =
    (behind : List Token) × (ts ≡ terminal (codes ",") ∷ word (relation_name name) ∷ behind) × SpellsMoreNames names behind r

abbrev pub SpellsNames : List Relation → List Token → List Token → Type 0
SpellsNames [] ts r = ⊥
SpellsNames (name ∷ names) ts r = (behind : List Token) × (ts ≡ word (relation_name name) ∷ behind) × SpellsMoreNames names behind r

abbrev mutual
  -- step = "*" | typeName | attr | ">" | "<" | "~>" | "-[" names "]->" | ":is(" list ")" | ":not(" selector ")" | ":test(" list ")"
  pub SpellsStep : Step → List Token → List Token → Type 0
  SpellsStep any_shape ts r = ts ≡ terminal (codes "*") ∷ r
  SpellsStep (of_kind named) ts r = ts ≡ word (type_word named) ∷ r
  SpellsStep (has path) ts r = SpellsHas path ts r
  SpellsStep (compares path op values fold) ts r = SpellsCompare path op values fold ts r
  SpellsStep forward ts r = ts ≡ terminal (codes ">") ∷ r
  SpellsStep back ts r = ts ≡ terminal (codes "<") ∷ r
  SpellsStep walk ts r = ts ≡ terminal (codes "~>") ∷ r
  SpellsStep (along names) ts r = (here : List Token) × (ts ≡ terminal (codes "-[") ∷ here) × SpellsNames names here r
  SpellsStep (picked_by selectors) ts r = (here : List Token) × (ts ≡ terminal (codes ":is(") ∷ here) × SpellsList selectors here r
  SpellsStep (picks_none steps) ts r =
      (here : List Token) × (ts ≡ terminal (codes ":not(") ∷ here) × SpellsSteps steps here (terminal (codes ")") ∷ r)
  SpellsStep (picks_some selectors) ts r = (here : List Token) × (ts ≡ terminal (codes ":test(") ∷ here) × SpellsList selectors here r

  -- selector = step+
  pub SpellsSteps : Steps → List Token → List Token → Type 0
  SpellsSteps no_steps ts r = ⊥
  SpellsSteps (then step steps) ts r = (behind : List Token) × SpellsStep step ts behind × SpellsMoreSteps steps behind r

  pub SpellsMoreSteps : Steps → List Token → List Token → Type 0
  SpellsMoreSteps no_steps ts r = ts ≡ r
  SpellsMoreSteps (then step steps) ts r = (behind : List Token) × SpellsStep step ts behind × SpellsMoreSteps steps behind r

  -- list = selector ( "," selector )*, with what closes it
  pub SpellsList : Alternatives → List Token → List Token → Type 0
  SpellsList no_selectors ts r = ⊥
  SpellsList (or_by steps selectors) ts r = (behind : List Token) × SpellsSteps steps ts behind × SpellsMoreList selectors behind r

  pub SpellsMoreList : Alternatives → List Token → List Token → Type 0
  SpellsMoreList no_selectors ts r = ts ≡ terminal (codes ")") ∷ r
  SpellsMoreList (or_by steps selectors) ts r =
      (here behind : List Token) × (ts ≡ terminal (codes ",") ∷ here) × SpellsSteps steps here behind × SpellsMoreList selectors behind r
