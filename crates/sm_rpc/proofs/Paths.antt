-- The operation that a path tells, by what stands behind the name of its service.
use Rattle.std.proofs.Common.{◌≡◌, ℕ, ◌<◌, List, ◌++◌, Option, None, Some, map, length, sym, ap, ◌∙◌, subst}
use Rattle.std.specs.Prelude.{MatchOption, codes, slice_get}
use Rattle.std.specs.List.{Contains}
use Rattle.std.specs.Option.{option_map}
use denote.Ref.{Bor}
use Rattle.std.proofs.lemmas.List.{append_assoc, length-map}
use Rattle.std.proofs.lemmas.Option.{get_or_from_slice_get, slice_get-get_or, slice_get-map, slice_get_within}
use Rattle.sm_service.specs.ServiceData.{ServiceData}
use Rattle.sm_messages.specs.Goals.{no_operation, operation_at}
use Rattle.sm_messages.proofs.OperationsNamed.{same_behind}
use Rattle.sm_rpc.specs.Heads.{path_of}

-- what stands behind two texts stands behind both
pub behind_both : (a b whole first : List ℕ) (r : Option (Bor (List ℕ))) → whole ≡ a ++ first
    → MatchOption r ((rest : List ℕ) → first ≡ b ++ rest → ⊥) (λ rest. first ≡ b ++ rest.now)
    → MatchOption r ((rest : List ℕ) → whole ≡ (a ++ b) ++ rest → ⊥) (λ rest. whole ≡ (a ++ b) ++ rest.now)
behind_both a b whole first None at h =
    λ rest e. h rest (same_behind a first (b ++ rest) (sym at ∙ e ∙ append_assoc a b rest))
behind_both a b whole first (Some x) at h = at ∙ ap (λ u. a ++ u) h ∙ sym (append_assoc a b x.now)

at_name : (s : ServiceData) (o : ℕ) → o < length s.operations
    → slice_get (map (λ k. k.name) s.operations) o ≡ Some (operation_at s o).name
at_name s o lt =
    slice_get-map (λ k. k.name) s.operations o ∙ ap (option_map (λ k. k.name)) (slice_get-get_or s.operations o no_operation lt)

same_some : (a b : List ℕ) → Path (Option (List ℕ)) (Some a) (Some b) → a ≡ b
same_some a b e = cc

pub path_named : (s : ServiceData) (path front name : List ℕ) (r : Option ℕ) → front ≡ codes "/service/" ++ s.name ++ codes "/operation/"
    → path ≡ front ++ name
    → MatchOption r (Contains (map (λ o. o.name) s.operations) name → ⊥)
    (λ place. slice_get (map (λ o. o.name) s.operations) place ≡ Some name)
    → MatchOption r ((o : ℕ) → o < length s.operations → path ≡ path_of s o → ⊥) (λ o. (o < length s.operations) × (path ≡ path_of s o))
path_named s path front name None is at h = λ o lt e.
    let same : (operation_at s o).name ≡ name =
    same_behind front (operation_at s o).name name (ap (λ u. u ++ (operation_at s o).name) is ∙ sym e ∙ at)
    in
    let there : slice_get (map (λ k. k.name) s.operations) o ≡ Some name = at_name s o lt ∙ ap Some same in
    h (
      o,
      slice_get_within (map (λ k. k.name) s.operations) o name there,
      get_or_from_slice_get (map (λ k. k.name) s.operations) o name name there,
    )
path_named s path front name (Some o) is at h =
    let lt : o < length s.operations =
    subst (λ n. o < n) (length-map s.operations (λ k. k.name)) (slice_get_within (map (λ k. k.name) s.operations) o name h)
    in
    let same : name ≡ (operation_at s o).name = same_some name (operation_at s o).name (sym h ∙ at_name s o lt) in
    (lt, at ∙ ap (λ u. u ++ name) is ∙ ap (λ u. codes "/service/" ++ s.name ++ codes "/operation/" ++ u) same)

pub behind_none : (a b whole : List ℕ) → ((rest : List ℕ) → whole ≡ a ++ rest → ⊥) → (rest : List ℕ) → whole ≡ (a ++ b) ++ rest → ⊥
behind_none a b whole none rest e = none (b ++ rest) (e ∙ append_assoc a b rest)
