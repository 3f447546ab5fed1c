-- Members of a shape by their names in an object: which schema stands under a name, and what a member's number says.
use Rattle.std.proofs.Common.{◌≡◌, ◌⊎◌, inl, inr, ℕ, ◌<◌, Bool, true, false, ◌&&◌, Option, Some, None, is_none, List}
use Rattle.std.proofs.Common.{[], ◌∷◌, map, refl, sym, ap, ◌∙◌, subst, arith, if◌then◌else◌}
use Rattle.std.specs.Prelude.{Ok, Err}
use Rattle.std.specs.List.{Contains}
use Rattle.std.specs.Str.{bytes_eq}
use Rattle.std.proofs.lemmas.Bool.{false_from_ne_true}
use Rattle.std.proofs.lemmas.List.Elements.{Contains-append_right}
use Rattle.std.proofs.lemmas.Slice.Eq.{bytes_eq-Decides}
use Rattle.sm_tree.specs.Node.{Node}
use Rattle.sm_tree.specs.Parts.{tree_named}
use Rattle.sm_shapes.specs.InOrder.{AreMembersOf}
use Rattle.sm_shapes.specs.Names.{NoneIs, AllDiffer}
use Rattle.sm_shapes.specs.TableData.{TableData, member_count}
use Rattle.sm_shapes.specs.Values.{Val}
use Rattle.sm_codec.specs.FaultLists.{Reading, faults_in}
use Rattle.sm_codec.specs.Readings.{absent_with, absent_reading, present_reading, member_faults}
use Rattle.sm_schema.specs.Definitions.{Listing}
use Rattle.sm_schema.specs.Described.{name_of, schemas_under}
use Rattle.sm_schema.proofs.PlacesListed.{IsOne}

pub one_contained : (k : ℕ) (ks : List ℕ) → IsOne k ks → Contains ks k
one_contained k [] h = absurd h
one_contained k (j ∷ ks) (inl e) = (0, omega arith, sym e)
one_contained k (j ∷ ks) (inr h) = Contains-append_right (j ∷ []) ks k (one_contained k ks h)

pub one_in_table : (t : TableData) (s k : ℕ) (ks : List ℕ) → AreMembersOf t s ks → IsOne k ks → k < member_count t
one_in_table t s k [] h is = absurd is
one_in_table t s k (j ∷ ks) h (inl e) = subst (λ x. x < member_count t) (sym e) h.0
one_in_table t s k (j ∷ ks) h (inr is) = one_in_table t s k ks h.2 is

-- the schema that stands under a name is that of a member with it, or there is none
pub schema_found : (d : Listing) (s : ℕ) (schema : ℕ → Node) (ks : List ℕ) (name : List ℕ)
    → (tree_named name (schemas_under d s schema ks) ≡ None)
    ⊎ ((k : ℕ) × IsOne k ks × (name_of d s k ≡ name) × (tree_named name (schemas_under d s schema ks) ≡ Some (schema k)))
schema_found d s schema [] name = inl refl
schema_found d s schema (k ∷ ks) name = by (bytes_eq (name_of d s k) name) refl (schema_found d s schema ks name)
  where
    by : (b : Bool) → bytes_eq (name_of d s k) name ≡ b
        → (tree_named name (schemas_under d s schema ks) ≡ None)
        ⊎ ((j : ℕ) × IsOne j ks × (name_of d s j ≡ name) × (tree_named name (schemas_under d s schema ks) ≡ Some (schema j)))
        → ((if b then Some (schema k) else tree_named name (schemas_under d s schema ks)) ≡ None)
        ⊎ ((j : ℕ) × IsOne j (k ∷ ks) × (name_of d s j ≡ name)
        × ((if b then Some (schema k) else tree_named name (schemas_under d s schema ks)) ≡ Some (schema j)))
    by true e more = inr (k, inl refl, (bytes_eq-Decides (name_of d s k) name).0 e, refl)
    by false e (inl none) = inl none
    by false e (inr (j, is, same, found)) = inr (j, inr is, same, found)

none_is_one : (f : ℕ → List ℕ) (name : List ℕ) (ks : List ℕ) (k : ℕ) → NoneIs name (map f ks) → IsOne k ks → f k ≡ name → ⊥
none_is_one f name [] k h is e = is
none_is_one f name (j ∷ ks) k h (inl same) e = h.0 (sym (ap f same) ∙ e)
none_is_one f name (j ∷ ks) k h (inr is) e = none_is_one f name ks k h.1 is e

-- where the names differ, a member's own schema stands under its name
pub schema_of_member : (d : Listing) (s : ℕ) (schema : ℕ → Node) (ks : List ℕ) (k : ℕ) → AllDiffer (map (name_of d s) ks) → IsOne k ks
    → tree_named (name_of d s k) (schemas_under d s schema ks) ≡ Some (schema k)
schema_of_member d s schema [] k differ is = absurd is
schema_of_member d s schema (j ∷ ks) k differ (inl e) =
    ap (λ b. if b then Some (schema j) else tree_named (name_of d s k) (schemas_under d s schema ks))
    ((bytes_eq-Decides (name_of d s j) (name_of d s k)).1 (ap (name_of d s) (sym e))) ∙ ap (λ x. Some (schema x)) (sym e)
schema_of_member d s schema (j ∷ ks) k differ (inr is) =
    ap (λ b. if b then Some (schema j) else tree_named (name_of d s k) (schemas_under d s schema ks))
    (false_from_ne_true (bytes_eq (name_of d s j) (name_of d s k))
    (λ e. none_is_one (name_of d s) (name_of d s j) ks k differ.0 is (sym ((bytes_eq-Decides (name_of d s j) (name_of d s k)).0 e))))
    ∙ schema_of_member d s schema ks k differ.1 is

-- a member that is absent is a fault where it must stand
pub absent_clean : (default : Option Val) (required : Bool) → member_faults (absent_reading (absent_with default required)) ≡ []
    → (required && is_none default) ≡ false
absent_clean (Some v) true h = refl
absent_clean (Some v) false h = refl
absent_clean None true h = absurd cc
absent_clean None false h = refl

pub absent_none : (default : Option Val) (required : Bool) → (required && is_none default) ≡ false
    → member_faults (absent_reading (absent_with default required)) ≡ []
absent_none (Some v) required h = refl
absent_none None true h = absurd cc
absent_none None false h = refl

pub present_faults : (r : Reading) → member_faults (present_reading r) ≡ faults_in r
present_faults (Ok v) = refl
present_faults (Err fs) = refl
