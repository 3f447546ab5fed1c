-- A value that fits a structure is one of some fields.
use Rattle.std.proofs.Common.{◌≡◌, ℕ, subst}
use Rattle.sm_shapes.specs.Fitting.{Fits, IsOfKind, any_text}
use Rattle.sm_shapes.specs.Places.{root_place}
use Rattle.sm_shapes.specs.TableData.{TableData, kind_at}
use Rattle.sm_shapes.specs.Values.{Val, blob_val, bool_val, int_val, list_val, map_val, null_val, structure_val, text_val, time_val, union_val}
use Rattle.sm_shapes.specs.declared.kinds.ShapeKind.{ShapeKind}
use Rattle.sm_shapes.specs.declared.kinds.ShapeKind.TheVariants as table
use Rattle.sm_bind_write.specs.messages.TreeBodies.{fields_in}

no_list : (k : ShapeKind) → k ≡ table.Structure → k ≡ table.List → ⊥
no_list k h g = cc

no_map : (k : ShapeKind) → k ≡ table.Structure → k ≡ table.Map → ⊥
no_map k h g = cc

no_union : (k : ShapeKind) → k ≡ table.Structure → k ≡ table.Union → ⊥
no_union k h g = cc

pub fields_fit : (t : TableData) (s : ℕ) (v : Val) → kind_at t s ≡ table.Structure → Fits t any_text (root_place s) v
    → Fits t any_text (root_place s) (structure_val (fields_in v))
fields_fit t s null_val kind h = absurd h
fields_fit t s (bool_val b) kind h = absurd (subst (λ k. IsOfKind k (bool_val b)) kind h.0)
fields_fit t s (int_val z) kind h = absurd (subst (λ k. IsOfKind k (int_val z)) kind h.0)
fields_fit t s (text_val u) kind h = absurd (subst (λ k. IsOfKind k (text_val u)) kind h.0)
fields_fit t s (blob_val u) kind h = absurd (subst (λ k. IsOfKind k (blob_val u)) kind h.0)
fields_fit t s (time_val ms) kind h = absurd (subst (λ k. IsOfKind k (time_val ms)) kind h.0)
fields_fit t s (list_val vs) kind h = absurd (no_list (kind_at t s) kind h.0)
fields_fit t s (map_val es) kind h = absurd (no_map (kind_at t s) kind h.0)
fields_fit t s (structure_val fs) kind h = h
fields_fit t s (union_val k v) kind h = absurd (no_union (kind_at t s) kind h.0)
