-- The shapes that files define, without the prelude's, in the order of their ids; and ids of which not all statements agree.
use Rattle.std.specs.Prelude.{◌≡◌, ◌⊎◌, ◌↔◌, ℕ, List, [], ◌∷◌, ◌++◌, map, IsSomeAnd, IsTrue, Some, if◌then◌else◌, slice_get}
use Rattle.std.specs.List.{Contains, flat_map}
use Rattle.std.specs.Option.{option_map}
use Rattle.std.specs.FinMap as fin
use Rattle.sm_tree.specs.Same.{IsNode, Same}
use Rattle.sm_model.specs.Graphs.{text_cmp}
use Rattle.sm_model.specs.PreludeShapes.{is_prelude_id}
use Rattle.sm_model.specs.steps.Rising.{Rise}
use Rattle.sm_merge.specs.Merged.{HasOtherShape, IsStatedAgain}
use Rattle.sm_merge.specs.Places.{shape_under}
use Rattle.sm_merge.specs.Stated.{Stated}
use Rattle.sm_groups.specs.Groups.{AreGroupsOf}
use Rattle.sm_merge.specs.steps.Placed.{Bare, bare_of, bare_view, bares_view}
use Rattle.sm_merge.specs.declared.parts.BareShape.{BareShape}
use Rattle.sm_merge.specs.declared.shapes.Shapes.{Shapes}

abbrev pub all_bare : List BareShape → List Bare
all_bare ss = map bare_view ss

-- shapes by their ids
abbrev pub shapes_view : List BareShape → List (List ℕ × Bare)
shapes_view ss = map (λ s. (s.id, bare_view s)) ss

abbrev pub ids_of : List BareShape → List (List ℕ)
ids_of ss = map (λ e. e.0) (shapes_view ss)

-- at this number stands the shape with this id
abbrev pub IsAt : List BareShape → List ℕ → ℕ → Type 0
IsAt rows id i = IsSomeAnd (slice_get (shapes_view rows) i) (λ e. (e.0 ≡ id) × (fin.find text_cmp id (shapes_view rows) ≡ Some e.1))

pub record AreShapesOf (ss : List Stated) (rows : List BareShape) : Type 0 where
  pub rise : Rise (ids_of rows)
  pub each : (id : List ℕ) → fin.find text_cmp id (shapes_view rows) ≡ option_map bare_of (shape_under id ss)

-- two shapes agree but for their traits
pub record AgreeBare (a b : Bare) : Type 0 where
  pub kind : a.kind ≡ b.kind
  pub members : a.members ≡ b.members
  pub mixins : a.mixins ≡ b.mixins
  pub properties : Same a.properties b.properties

-- but for their bodies
pub record AreAlike (a b : Bare) : Type 0 where
  pub kind : a.kind ≡ b.kind
  pub members : a.members ≡ b.members
  pub mixins : a.mixins ≡ b.mixins

abbrev pub SomeDiffer : Bare → List Bare → Type 0
SomeDiffer a [] = ⊥
SomeDiffer a (b ∷ bs) = (AgreeBare a b → ⊥) ⊎ SomeDiffer a bs

-- a shape of the prelude is stated, or statements for one shape don't agree
abbrev pub AreWrong : List ℕ → List Bare → Type 0
AreWrong id [] = ⊥
AreWrong id (b ∷ bs) = IsTrue (is_prelude_id id) ⊎ SomeDiffer b bs

-- an id is put where this holds
abbrev pub PutsIf : Type 0 → List ℕ → List (List ℕ) → List (List ℕ) → Type 0
PutsIf P id before after = (P × (after ≡ before ++ id ∷ [])) ⊎ ((P → ⊥) × (after ≡ before))

-- the first of each group, but for those of the prelude
abbrev pub head_alone : {V : Type 0} → List V → List V
head_alone [] = []
head_alone (v ∷ vs) = v ∷ []

abbrev pub kept_of : {V : Type 0} → List ℕ × List V → List V
kept_of g = if is_prelude_id g.0 then [] else head_alone g.1

-- the ids of groups in which something is wrong
abbrev pub ArePicked : List (List ℕ × List BareShape) → List (List ℕ) → Type 0
ArePicked [] ids = ids ≡ []
ArePicked (g ∷ gs) ids =
    (AreWrong g.0 (all_bare g.1) × ((rest : List (List ℕ)) × (ids ≡ g.0 ∷ rest) × ArePicked gs rest))
    ⊎ ((AreWrong g.0 (all_bare g.1) → ⊥) × ArePicked gs ids)

-- the table of these rows: groups by id, of which the first of each is kept
pub record AreShapesFrom (es : List (List ℕ × BareShape)) (t : Shapes) : Type 0 where
  pub groups : List (List ℕ × List BareShape)
  pub are : AreGroupsOf es groups
  pub rows : t.rows.items ≡ flat_map kept_of groups
  pub wrong : ArePicked groups t.wrong.items

-- the bodies are nodes, and stand under their own ids
abbrev pub AreSoundUnder : List ℕ → List BareShape → Type 0
AreSoundUnder key [] = Unit {0}
AreSoundUnder key (s ∷ ss) = (s.id ≡ key) × IsNode (bare_view s).properties × AreSoundUnder key ss

abbrev pub AreSoundBares : List (List ℕ × Bare) → Type 0
AreSoundBares [] = Unit {0}
AreSoundBares (e ∷ es) = (e.1.id ≡ e.0) × IsNode e.1.properties × AreSoundBares es

abbrev pub AreSoundRows : List (List ℕ × BareShape) → Type 0
AreSoundRows es = AreSoundBares (bares_view es)

-- shapes that are stated again and differ, or are the prelude's
abbrev pub AreWrongIds : List Stated → List (List ℕ) → Type 0
AreWrongIds ss ids = (id : List ℕ) → Contains ids id ↔ (HasOtherShape ss id ⊎ IsStatedAgain ss id)

pub record IsShapeTable (ss : List Stated) (t : Shapes) : Type 0 where
  pub rows : AreShapesOf ss t.rows.items
  pub wrong : AreWrongIds ss t.wrong.items
