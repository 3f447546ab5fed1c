-- The first way to what isn't served is one, so a shape is served or has one path.
use Rattle.std.proofs.Common.{◌≡◌, ℕ, List, [], ◌∷◌, refl, sym, ap, ◌∙◌, subst}
use Rattle.std.specs.Prelude.{slice_get}
use Rattle.std.specs.Cmp.Lexicographic.{nat_list_cmp_total, slice_cmp}
use Rattle.std.specs.FinMap.{nat_cmp-IsAntisymmetric, slice_cmp-IsAntisymmetric}
use Rattle.std.specs.List.{join_with_byte}
use Rattle.std.specs.Ordering.{nat_cmp, ordering_reverse}
use Rattle.std.specs.declared.cmp.Ordering.{Ordering}
use Rattle.std.specs.declared.cmp.Ordering.TheVariants.{Less, Equal, Greater}
use Rattle.std.proofs.lemmas.Option.{same_Some}
use Rattle.sm_bytes.specs.Ascii.{slash}
use Rattle.sm_model.specs.Graphs.{GraphMaps, MemberEntry, member_entry, member_id}
use Rattle.sm_model.specs.Relations.{HasEntry}
use Rattle.sm_compile.specs.Answers.{TellsServed}
use Rattle.sm_compile.specs.Kinds.{value_members}
use Rattle.sm_compile.specs.Served.{IsFirstWay, IsStep, IsWay, WayStep, names_of_way, numbers_of_way}
use Rattle.sm_compile.specs.declared.compiled.Served.{Served}
use Rattle.sm_compile.specs.declared.compiled.Served.TheVariants.{Yes, Unserved}
pub use Rattle.sm_ids.proofs.MadeIds.{one_name}
use Rattle.sm_compile.proofs.OnePatterns.{same_member, same_shape}

module _ (g : GraphMaps) where
  -- by one number from one shape there is one step
  pub same_step : (id : List ℕ) (a b : WayStep) → IsStep g id a → IsStep g id b → a.at ≡ b.at → (a.name ≡ b.name) × (a.to ≡ b.to)
  same_step id a b h k at =
      let shape = same_shape g id h.s k.s h.there k.there in
      let member : member_id id a.name ≡ member_id id b.name =
      same_Some (member_id id a.name) (member_id id b.name) (sym h.at ∙ (λ i. slice_get (value_members (shape i)) (at i)) ∙ k.at) in
      let entry = same_member g (member_id id b.name) h.m k.m (subst (λ x. HasEntry g x (member_entry h.m)) member h.member_there)
      k.member_there in
      (one_name id a.name b.name member, sym h.is ∙ ap (λ (m : MemberEntry). m.target) entry ∙ k.is)

  abbrev first_number : List ℕ → ℕ
  first_number [] = 0
  first_number (n ∷ ns) = n

  abbrev other_numbers : List ℕ → List ℕ
  other_numbers [] = []
  other_numbers (n ∷ ns) = ns

  abbrev is_some_list : List ℕ → Type 0
  is_some_list [] = ⊥
  is_some_list (n ∷ ns) = Unit {0}

  same_names : (id : List ℕ) (v w : List WayStep) → IsWay g id v → IsWay g id w → numbers_of_way v ≡ numbers_of_way w
      → names_of_way v ≡ names_of_way w
  same_names id [] [] h k e = refl
  same_names id [] (b ∷ w) h k e = absurd (subst is_some_list (sym e) tt)
  same_names id (a ∷ v) [] h k e = absurd (subst is_some_list e tt)
  same_names id (a ∷ v) (b ∷ w) h k e =
      let step = same_step id a b h.0 k.0 (ap first_number e) in
      let rest = same_names b.to v w (subst (λ x. IsWay g x v) step.1 h.1) k.1 (ap other_numbers e) in
      λ i. step.0 i ∷ rest i

  neither : (r : Ordering) (x y : List ℕ) → slice_cmp nat_cmp x y ≡ r → (slice_cmp nat_cmp x y ≡ Less → ⊥)
      → (slice_cmp nat_cmp y x ≡ Less → ⊥) → x ≡ y
  neither Less x y is h k = absurd (h is)
  neither Equal x y is h k = slice_cmp-IsAntisymmetric nat_cmp-IsAntisymmetric x y is
  neither Greater x y is h k = absurd (k (nat_list_cmp_total.antisymm y x ∙ ap ordering_reverse is))

  pub one_way : (root : List ℕ) (v w : List WayStep) → IsFirstWay g root v → IsFirstWay g root w → names_of_way v ≡ names_of_way w
  one_way root v w h k =
      same_names root v w h.simple.0 k.simple.0
      (neither (slice_cmp nat_cmp (numbers_of_way v) (numbers_of_way w)) (numbers_of_way v) (numbers_of_way w) refl (k.first v h.simple)
      (h.first w k.simple))

  pub one_served : (root : List ℕ) (a b : Served) → TellsServed g root a → TellsServed g root b → Path Served a b
  one_served root Yes Yes h k = refl
  one_served root Yes (Unserved path) h (way, first, is) = absurd (h way first.simple.0)
  one_served root (Unserved path) Yes (way, first, is) k = absurd (k way first.simple.0)
  one_served root (Unserved path) (Unserved other) (v, first, is) (w, also, so) =
      ap (λ p. Unserved p) (is ∙ ap (join_with_byte slash) (one_way root v w first also) ∙ sym so)
