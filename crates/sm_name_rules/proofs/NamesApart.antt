-- Where no two names of a graph are equal but for case, nothing is told of a service that gives none.
use Rattle.std.proofs.Common.{◌≡◌, ℕ, Bool, true, false, List, None, refl, sym, ap, ◌∙◌, subst}
use Rattle.std.specs.Prelude.{◌&&◌, not}
use Rattle.std.specs.List.{Contains}
use Rattle.std.specs.Option.{unwrap_or}
use Rattle.sm_tree.specs.Parts.{tree_named}
use Rattle.sm_tree.specs.Same.{HasName}
use Rattle.sm_model.specs.EventView.{EventTold}
use Rattle.sm_model.specs.Graphs.{text_cmp, shape_entry, ShapeEntry, GraphMaps}
use Rattle.sm_model.specs.GraphView.{maps_of}
use Rattle.sm_model.specs.Reaching.{id_of_number}
use Rattle.sm_model.specs.Relations.{HasEntry}
use Rattle.sm_model.specs.declared.graph.Graph.{Graph}
use Rattle.sm_model.proofs.NumberedIds.{number_of}
use Rattle.sm_model.proofs.Worklist.{apart}
use Rattle.sm_compile.specs.Looked.{kind_in, kind_under}
use Rattle.sm_rules.specs.Services.{HasWrongNames, IsNamedIn, name_again, wrong_rename}
use Rattle.sm_passes.specs.Folded.{folded}
use Rattle.sm_passes.specs.Owned.{is_own_shape}
use Rattle.sm_passes.proofs.IdsRise.{falling}
use Rattle.sm_passes.proofs.OwnShapes.{told_own}
use Rattle.sm_name_rules.specs.steps.Naming.{AreNamesApart, GivesNone, IsOwnKey, ToldNames, is_named_kind, renames_under}
use Rattle.sm_name_rules.proofs.GivenNames.{given_name, renames_are}

-- a service that gives no names
module _ (g : Graph) (service : ℕ) (differ : AreNamesApart g) (none : GivesNone g service) where
  abbrev m : GraphMaps
  m = maps_of g

  abbrev sid : List ℕ
  sid = id_of_number g service

  given_none : (key : List ℕ) → None ≡ tree_named key (renames_under m sid)
  given_none key = sym (ap (tree_named key) none)

  -- a name in its closure is that of the id
  own_key : (v : ShapeEntry) → HasEntry m sid (shape_entry v) → (k : ℕ) (name : List ℕ) → IsNamedIn m sid v (id_of_number g k) name
      → IsOwnKey g k (folded name)
  own_key v there k name n =
      let id = id_of_number g k in
      let own : is_own_shape m id ≡ true = told_own m id n.s n.own in
      let kind : is_named_kind (kind_under m id) ≡ true = ap (λ o. is_named_kind (kind_in o)) n.own.0 ∙ n.kind in (
        λ i. own i && kind i,
        (
          name,
          (
            n.named.0,
            n.named.1,
            n.named.2 ∙ ap (λ o. unwrap_or o n.named.0.name) (sym (given_name m sid v there (λ q. None) given_none id)),
          ),
          refl,
        ),
      )

  untold : (detail : List ℕ) → HasWrongNames m sid detail → ⊥
  untold detail (name_again h) =
      let k = number_of g detail (shape_entry h.named.s, h.named.own.0) in
      let j = number_of g h.smaller (shape_entry h.other_named.s, h.other_named.own.0) in
      let order = ap (λ a. text_cmp a (id_of_number g k.0)) j.2 ∙ ap (text_cmp h.smaller) k.2 ∙ h.order in
      differ j.0 k.0 (falling g j.0 k.0 j.1 k.1 order) k.1 (folded h.name)
      (subst (IsOwnKey g j.0) h.same
      (own_key h.v h.own.0 j.0 h.other (subst (λ i. IsNamedIn m sid h.v i h.other) (sym j.2) h.other_named)))
      (own_key h.v h.own.0 k.0 h.name (subst (λ i. IsNamedIn m sid h.v i h.name) (sym k.2) h.named))
  untold detail (wrong_rename h) =
      subst (HasName detail) (sym (renames_are m sid h.v h.own.0 h.pairs h.rename) ∙ none) h.among

-- what isn't false
pub was_true : (b : Bool) → not b ≡ false → b ≡ true
was_true true h = refl
was_true false h = absurd (apart (sym h))

-- nor of some of them
pub untold_each : (g : Graph) (services : List ℕ) → AreNamesApart g → ((k : ℕ) → Contains services k → GivesNone g k)
    → (k : ℕ) → Contains services k → (e : EventTold) → ToldNames g k e → ⊥
untold_each g services differ none k among e h = untold g k differ (none k among) h.0 h.1
