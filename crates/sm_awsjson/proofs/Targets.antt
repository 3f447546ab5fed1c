-- The operation that a target tells, by what stands behind the name of its service.
use Rattle.std.proofs.Common.{◌≡◌, ℕ, ◌<◌, List, ◌∷◌, ◌++◌, Option, None, Some, map, length, get_or, sym, ap, ◌∙◌, subst}
use Rattle.std.specs.Prelude.{MatchOption, slice_get}
use Rattle.std.specs.List.{Contains}
use Rattle.std.specs.Option.{option_map}
use denote.Ref.{Bor}
use Rattle.std.proofs.lemmas.List.{length-map}
use Rattle.std.proofs.lemmas.Option.{get_or_from_slice_get, slice_get-get_or, slice_get-map, slice_get_within}
use Rattle.sm_service.specs.ServiceData.{OperationData, ServiceData}
use Rattle.sm_messages.specs.Goals.{no_operation, operation_at}
use Rattle.sm_messages.proofs.OperationsNamed.{same_behind}
use Rattle.sm_awsjson.specs.Heads.{target_of}

same_rest : (a b : List ℕ) → 46 ∷ a ≡ 46 ∷ b → a ≡ b
same_rest a b e = cc

pub stop_behind : (name target first : List ℕ) (r : Option (Bor (List ℕ))) → target ≡ name ++ first
    → MatchOption r ((rest : List ℕ) → first ≡ 46 ∷ rest → ⊥) (λ rest. first ≡ 46 ∷ rest.now)
    → MatchOption r ((rest : List ℕ) → target ≡ name ++ 46 ∷ rest → ⊥) (λ rest. target ≡ name ++ 46 ∷ rest.now)
stop_behind name target first None at h = λ rest e. h rest (same_behind name first (46 ∷ rest) (sym at ∙ e))
stop_behind name target first (Some x) at h = at ∙ ap (λ u. name ++ u) h

-- the operation of a name among them
at_name : (os : List OperationData) (o : ℕ) → o < length os → slice_get (map (λ k. k.name) os) o ≡ Some (get_or os o no_operation).name
at_name os o lt =
    slice_get-map (λ k. k.name) os o ∙ ap (option_map (λ k. k.name)) (slice_get-get_or os o no_operation lt)

pub told_named : (s : ServiceData) (target name : List ℕ) (r : Option ℕ) → target ≡ s.name ++ 46 ∷ name
    → MatchOption r (Contains (map (λ o. o.name) s.operations) name → ⊥)
    (λ place. slice_get (map (λ o. o.name) s.operations) place ≡ Some name)
    → MatchOption r ((o : ℕ) → o < length s.operations → target ≡ target_of s o → ⊥)
    (λ o. (o < length s.operations) × (target ≡ target_of s o))
told_named s target name None at h = λ o lt e.
    let same : (operation_at s o).name ≡ name =
    sym (same_rest name (operation_at s o).name (same_behind s.name (46 ∷ name) (46 ∷ (operation_at s o).name) (sym at ∙ e)))
    in
    let there : slice_get (map (λ k. k.name) s.operations) o ≡ Some name = at_name s.operations o lt ∙ ap Some same in
    h (
      o,
      slice_get_within (map (λ k. k.name) s.operations) o name there,
      get_or_from_slice_get (map (λ k. k.name) s.operations) o name name there,
    )
told_named s target name (Some o) at h =
    let lt : o < length s.operations =
    subst (λ n. o < n) (length-map s.operations (λ k. k.name)) (slice_get_within (map (λ k. k.name) s.operations) o name h)
    in
    let same : Some name ≡ Some (operation_at s o).name = sym h ∙ at_name s.operations o lt in
    (lt, at ∙ ap (λ u. s.name ++ 46 ∷ u) (same_some name (operation_at s o).name same))
  where
    same_some : (a b : List ℕ) → Some a ≡ Some b → a ≡ b
    same_some a b e = cc
