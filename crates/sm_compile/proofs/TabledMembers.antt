-- The members of a table are exactly those at which values of its shapes stand, and its shapes differ.
use Rattle.std.proofs.Common.{◌≡◌, inl, inr, ℕ, List, [], ◌∷◌, ◌++◌, sym, ap, subst}
use Rattle.std.specs.Prelude.{◌↔◌}
use Rattle.std.specs.Cmp.Lexicographic.{nat_list_cmp_total}
use Rattle.std.specs.List.{AllByRecursion, Contains, flat_map}
use Rattle.std.specs.List.Sorted.{IsStrictlySortedBy}
use Rattle.std.specs.declared.cmp.Ordering.TheVariants.{Less}
use Rattle.std.proofs.lemmas.List.Elements.{Contains-append_cases, Contains-append_left}
use Rattle.sm_model.specs.Graphs.{text_cmp, GraphMaps}
use Rattle.sm_model.proofs.OneRising.{contains_behind, contains_either, contains_head, contains_none, not_before_itself}
use Rattle.sm_shapes.specs.Names.{AllDiffer, NoneIs}
use Rattle.sm_compile.specs.Compiled.{IsTabled, IsTabledMember, members_in, members_under}

-- what a function gives for a list, joined
pub joined_from : {X Y : Type 0} (f : X → List Y) (xs : List X) (y : Y) → Contains (flat_map f xs) y
    → (x : X) × Contains xs x × Contains (f x) y
joined_from f [] y h = absurd (contains_none y h)
joined_from f (x ∷ xs) y h = elim (Contains-append_cases (f x) (flat_map f xs) y h) [
  | inl here ↦ (x, contains_head x xs, here)
  | inr later ↦ let r = joined_from f xs y later in (r.0, contains_behind x r.0 xs r.1, r.2)
]

behind_too : {Y : Type 0} (ys zs : List Y) (y : Y) → Contains zs y → Contains (ys ++ zs) y
behind_too [] zs y h = h
behind_too (x ∷ ys) zs y h = contains_behind x y (ys ++ zs) (behind_too ys zs y h)

pub joined_to : {X Y : Type 0} (f : X → List Y) (xs : List X) (x : X) (y : Y) → Contains xs x → Contains (f x) y → Contains
    (flat_map f xs) y
joined_to f [] x y h k = absurd (contains_none x h)
joined_to f (z ∷ xs) x y h k = elim (contains_either z x xs h) [
  | inl is ↦ Contains-append_left (f z) (flat_map f xs) y (subst (λ w. Contains (f w) y) (sym is) k)
  | inr later ↦ behind_too (f z) (flat_map f xs) y (joined_to f xs x y later k)
]

pub tabled_members_told : (g : GraphMaps) (In : List ℕ → Type 0) (shapes : List (List ℕ))
    → ((id : List ℕ) → Contains shapes id ↔ IsTabled g In id)
    → (id : List ℕ) → Contains (flat_map (members_under g) shapes) id ↔ IsTabledMember g In id
tabled_members_told g In shapes told id = (
  λ h.
      let r = joined_from (members_under g) shapes id h in
      let tabled = (told r.0).0 r.1 in
      let s = tabled.1.0 in
      (r.0, s, tabled, tabled.1.1, subst (λ ms. Contains ms id) (ap members_in tabled.1.1) r.2),
  λ h.
      joined_to (members_under g) shapes h.0 id ((told h.0).1 h.2)
      (subst (λ ms. Contains ms id) (sym (ap members_in h.3)) h.4),
)

-- what rises differs
not_among : (k : List ℕ) (ks : List (List ℕ)) → AllByRecursion (λ y. text_cmp k y ≡ Less) ks → NoneIs k ks
not_among k [] h = tt
not_among k (j ∷ ks) h = (
  λ e. not_before_itself nat_list_cmp_total k (subst (λ y. text_cmp k y ≡ Less) e h.0),
  not_among k ks h.1,
)

pub rising_differ : (ks : List (List ℕ)) → IsStrictlySortedBy text_cmp ks → AllDiffer ks
unfolding IsStrictlySortedBy
rising_differ [] h = tt
rising_differ (k ∷ ks) h = (not_among k ks h.0, rising_differ ks h.1)
