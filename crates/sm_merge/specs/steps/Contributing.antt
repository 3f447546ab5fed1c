-- Which mixins contribute to a shape, from tables of shapes and traits and a walk over the shapes' numbers.
use Rattle.std.specs.Prelude.{◌≡◌, ℕ, false, List, get_or, Option, MatchOption}
use Rattle.sm_tree.specs.View.{node_of}
use Rattle.sm_model.specs.steps.Rising.{Rise}
use Rattle.sm_model.specs.declared.kind.Kind.{Kind}
use Rattle.sm_merge.specs.Mixins.{Contributes}
use Rattle.sm_merge.specs.Stated.{ShapeStated, Stated}
use Rattle.sm_merge.specs.steps.Links.{At}
use Rattle.sm_merge.specs.steps.Numbered.{IsMixinWalk}
use Rattle.sm_merge.specs.steps.ShapeTables.{AreShapesOf, ids_of}
use Rattle.sm_merge.specs.steps.Tables.{AreTraitsOf, names_in, traits_found}
use Rattle.sm_merge.specs.steps.Walking.{is_ring}
use Rattle.sm_merge.specs.declared.mixins.Contributing.{Contributing}
use Rattle.sm_merge.specs.declared.parts.BareShape.{BareShape}
use Rattle.sm_merge.specs.declared.table.PlaceRow.{PlaceRow}
use Rattle.sm_merge.specs.declared.walk.Status.TheVariants.{New}
use Rattle.sm_merge.specs.declared.walk.Walk.{Walk}

-- tables of shapes and traits, with a walk from each shape to those that it mixes in
pub record AreWalkedTables (ss : List Stated) (rows : List BareShape) (traits : List PlaceRow) (walk : Walk) : Type 0 where
  pub shapes : AreShapesOf ss rows
  pub traits_of : AreTraitsOf ss traits
  pub walked : IsMixinWalk ss (ids_of rows) walk

-- the names of what is given at each place rise
abbrev pub NamesRise : List PlaceRow → Type 0
NamesRise traits = (place : List ℕ) → Rise (names_in (traits_found place traits))

-- the mixin contributes by this shape and this value
pub record ContributesBy (ss : List Stated) (rows : List BareShape) (s : ShapeStated) (mixin : List ℕ) (c : Contributing) : Type 0 where
  pub there : At (ids_of rows) c.number mixin
  pub contributes : Contributes ss s mixin
  pub value : contributes.mixin_value ≡ node_of c.value.now

-- whether it does
abbrev pub TellsMixin : List Stated → List BareShape → ShapeStated → List ℕ → Option Contributing → Type 0
TellsMixin ss rows s mixin o = MatchOption o (Contributes ss s mixin → ⊥) (ContributesBy ss rows s mixin)

-- the shape of this number is of this type, and on no ring
pub record MayContribute (rows : List BareShape) (walk : Walk) (kind : Kind) (number : ℕ) : Type 0 where
  pub row : BareShape
  pub there : At rows number row
  pub same : row.kind ≡ kind
  pub apart : is_ring (get_or walk.status.items number New) ≡ false
