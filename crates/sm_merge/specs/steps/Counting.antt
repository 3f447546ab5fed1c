-- How much the traits of shapes count that are listed so far.
use Rattle.std.specs.Prelude.{◌≡◌, ◌⊎◌, ◌<◌, ◌≤◌, ℕ, List, [], ◌∷◌, length, sum, Option, None, Some}
use Rattle.std.specs.Global.{Vec}
use Rattle.std.specs.FinMap as fin
use Rattle.sm_bytes.specs.Lengths.{length_word}
use Rattle.sm_model.specs.Graphs.{text_cmp}
use Rattle.sm_merge.specs.steps.EffectiveTables.{AreSoundTraits}
use Rattle.sm_merge.specs.steps.Filling.{FoldedRows, HasMixedTraits, IsFilled, folded_rows}
use Rattle.sm_merge.specs.steps.Folding.{IsRunning}
use Rattle.sm_merge.specs.steps.Links.{At}
use Rattle.sm_merge.specs.steps.Made.{made_shape, shape_size}
use Rattle.sm_merge.specs.steps.MixedIn.{IsMixedOrder}
use Rattle.sm_merge.specs.steps.Placed.{bare_view}
use Rattle.sm_merge.specs.steps.Tables.{named_view, traits_found}
use Rattle.sm_merge.specs.declared.effective.ShapeTraits.{ShapeTraits}
use Rattle.sm_merge.specs.declared.firsts.NamedTarget.{NamedTarget}
use Rattle.sm_merge.specs.Limits.{most_in_traits}
use Rattle.sm_merge.specs.declared.mixins.Contributing.{Contributing}
use Rattle.sm_merge.specs.declared.parts.BareShape.{BareShape}
use Rattle.sm_merge.specs.declared.table.PlaceRow.{PlaceRow}
use Rattle.sm_merge.specs.declared.value.Folded.{Folded}

-- how much each value counts that is found among these rows is told
abbrev pub AreTold : FoldedRows → Type 0
AreTold rows = (k : List ℕ) (f : Folded) → fin.find text_cmp k rows ≡ Some f → IsRunning f

abbrev pub AllTold : List PlaceRow → Type 0
AllTold traits = (place : List ℕ) → AreTold (named_view (traits_found place traits))

pub record IsSoundEntry (t : ShapeTraits) : Type 0 where
  pub sound : AreSoundTraits t
  pub copied : AreTold (folded_rows t.copied.items)

abbrev pub AreSoundEntries : List ShapeTraits → Type 0
AreSoundEntries [] = Unit {0}
AreSoundEntries (t ∷ ts) = IsSoundEntry t × AreSoundEntries ts

-- a number that stands in the order before this place
pub record IsPlaced (order : List ℕ) (k v : ℕ) : Type 0 where
  pub place : ℕ
  pub before : place < k
  pub there : At order place v

-- how much the shape of a number counts
pub record HasSize (rows : List BareShape) (members : List (Vec NamedTarget)) (all : List ShapeTraits) (v n : ℕ) : Type 0 where
  pub row : BareShape
  pub list : Vec NamedTarget
  pub entry : ShapeTraits
  pub at_row : At rows v row
  pub at_list : At members v list
  pub at_entry : At all v entry
  pub size : n ≡ shape_size (made_shape (bare_view row) list.items entry)

-- the sizes of those that stand before a place
pub record IsCounted (rows : List BareShape) (members : List (Vec NamedTarget)) (order : List ℕ) (k : ℕ) (all : List ShapeTraits)
    (total : ℕ)
    : Type 0 where
  pub sizes : List ℕ
  pub many : length sizes ≡ length rows
  pub each : (v n : ℕ) → At sizes v n
      → ((IsPlaced order k v → ⊥) × (n ≡ 0)) ⊎ (IsPlaced order k v × HasSize rows members all v n)
  pub total_is : total ≡ length_word (sum sizes)

-- the traits of shapes that stand before a place, and how much they count
pub record AreListedTo (rows : List BareShape) (traits : List PlaceRow) (members : List (Vec NamedTarget)) (mixed : List (Vec Contributing))
    (order : List ℕ) (k : ℕ) (all : List ShapeTraits) (total : ℕ) : Type 0 where
  pub size : length all ≡ length rows
  pub sound : AreSoundEntries all
  pub filled : IsMixedOrder order mixed → IsFilled (HasMixedTraits traits rows members mixed) order k all
  pub counted : IsMixedOrder order mixed → IsCounted rows members order k all total

-- those of all shapes, which aren't too large
pub record AreListedTraits (rows : List BareShape) (traits : List PlaceRow) (members : List (Vec NamedTarget))
    (mixed : List (Vec Contributing)) (order : List ℕ) (all : List ShapeTraits) : Type 0 where
  pub total : ℕ
  pub small : total ≤ most_in_traits
  pub listed : AreListedTo rows traits members mixed order (length order) all total

-- those of shapes up to one with which they are
pub record HasLargeTraits (rows : List BareShape) (traits : List PlaceRow) (members : List (Vec NamedTarget))
    (mixed : List (Vec Contributing)) (order : List ℕ) : Type 0 where
  pub all : List ShapeTraits
  pub place : ℕ
  pub total : ℕ
  pub large : most_in_traits < total
  pub listed : AreListedTo rows traits members mixed order place all total

abbrev pub ListsTraits : List BareShape → List PlaceRow → List (Vec NamedTarget) → List (Vec Contributing) → List ℕ
    → Option (Vec ShapeTraits) → Type 0
ListsTraits rows traits members mixed order None = HasLargeTraits rows traits members mixed order
ListsTraits rows traits members mixed order (Some all) = AreListedTraits rows traits members mixed order all.items

-- a number of 64 bits tells how much the shape of a number counts with these traits
pub record TellsSize (rows : List BareShape) (members : List (Vec NamedTarget)) (v : ℕ) (t : ShapeTraits) (n : ℕ) : Type 0 where
  pub row : BareShape
  pub list : Vec NamedTarget
  pub at_row : At rows v row
  pub at_list : At members v list
  pub size : n ≡ length_word (shape_size (made_shape (bare_view row) list.items t))
