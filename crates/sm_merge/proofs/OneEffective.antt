-- What a shape comes to with its mixins is one thing: the statement, the copies of its mixins, and what is made from them.
use Rattle.std.proofs.Common.{◌≡◌, ℕ, List, [], ◌∷◌, Option, Some, None, refl, sym, ap, subst, ◌∙◌}
use Rattle.std.specs.Prelude.{◌↔◌}
use Rattle.std.specs.Option.{unwrap_or}
use Rattle.std.specs.Cmp.Lexicographic.{nat_list_cmp_total}
use Rattle.std.specs.FinMap as fin
use Rattle.std.specs.FinMap.{same_map, slice_cmp-IsAntisymmetric, nat_cmp-IsAntisymmetric}
use Rattle.sm_model.specs.Graphs.{text_cmp, MemberEntry}
use Rattle.sm_merge.specs.Stated.{ShapeStated, Stated}
use Rattle.sm_merge.specs.Mixins.{EffectiveMembers, EffectiveShape, copy_of, all_members, names_of}
use Rattle.sm_merge.specs.Mixins.{IsEffectiveMember, AreEffectiveMembers, IsMadeFrom, IsEffective, effective}
use Rattle.sm_merge.specs.Mixins.{AreCopied, no_mixins, mixed_in, passed_over}
use Rattle.sm_merge.proofs.OneValue.{one_value}

module _ {X : Type 0} where
  pub same_some : (x y : X) → Some x ≡ Some y → x ≡ y
  same_some x y e = ap (λ o. unwrap_or o x) e

  -- answers that are told by the same words are one
  pub same_answer : (P : X → Type 0) (o p : Option X) → ((x : X) → (o ≡ Some x) ↔ P x) → ((x : X) → (p ≡ Some x) ↔ P x) → o ≡ p
  same_answer P None None h k = refl
  same_answer P (Some x) p h k = sym ((k x).1 ((h x).0 refl))
  same_answer P None (Some y) h k = (h y).1 ((k y).0 refl)

  -- maps that are told by the same words are one
  pub same_told : (P : List ℕ → X → Type 0) (m n : fin.FinMap text_cmp X) → ((k : List ℕ) (x : X) → (fin.get m k ≡ Some x) ↔ P k x)
      → ((k : List ℕ) (x : X) → (fin.get n k ≡ Some x) ↔ P k x) → Path (fin.FinMap text_cmp X) m n
  same_told P m n h g = same_map nat_list_cmp_total (slice_cmp-IsAntisymmetric nat_cmp-IsAntisymmetric) m n
      (λ k. same_answer (P k) (fin.get m k) (fin.get n k) (h k) (g k))

one_member : (ss : List Stated) (id : List ℕ) (copied : List EffectiveShape) (all : EffectiveMembers) (name : List ℕ) (e f : MemberEntry)
    → IsEffectiveMember ss id copied all name e → IsEffectiveMember ss id copied all name f → Path MemberEntry e f
one_member ss id copied all name e f h k =
    let target = h.target ∙ ap (λ m. m.target) (same_some h.first k.first (sym h.found ∙ k.found)) ∙ sym k.target in
    let traits = same_told _ e.traits f.traits h.traits k.traits in
    λ i. record { target = target i; traits = traits i }

abbrev head_name : (names : List (List ℕ)) → List ℕ
head_name [] = []
head_name (k ∷ ks) = k

abbrev other_names : (names : List (List ℕ)) → List (List ℕ)
other_names [] = []
other_names (k ∷ ks) = ks

abbrev is_cons : (names : List (List ℕ)) → Type 0
is_cons [] = ⊥
is_cons (k ∷ ks) = Unit {0}

one_members : (ss : List Stated) (id : List ℕ) (copied : List EffectiveShape) (all ms ns : EffectiveMembers) → names_of ms ≡ names_of ns
    → AreEffectiveMembers ss id copied all ms → AreEffectiveMembers ss id copied all ns → Path EffectiveMembers ms ns
one_members ss id copied all [] [] e h k = refl
one_members ss id copied all [] (n ∷ ns) e h k = absurd (subst is_cons (sym e) tt)
one_members ss id copied all (m ∷ ms) [] e h k = absurd (subst is_cons e tt)
one_members ss id copied all (m ∷ ms) (n ∷ ns) e h k =
    let name = ap head_name e in
    let entry = one_member ss id copied all m.0 m.1 n.1 h.0 (subst (λ t. IsEffectiveMember ss id copied all t n.1) (sym name) k.0) in
    let rest = one_members ss id copied all ms ns (ap other_names e) h.1 k.1 in
    λ i. (name i, entry i) ∷ rest i

one_made : (ss : List Stated) (id : List ℕ) (s : ShapeStated) (copied : List EffectiveShape) (m n : EffectiveShape)
    → IsMadeFrom ss id s copied m → IsMadeFrom ss id s copied n → Path EffectiveShape m n
one_made ss id s copied m n h k =
    let members = one_members ss id copied (all_members copied s.shape.members) m.members n.members
    (h.names ∙ sym k.names) h.members k.members in
    let traits = same_told _ m.traits n.traits h.traits k.traits in
    λ i. record { members = members i; traits = traits i }

mutual
  pub one_effective : (ss : List Stated) (id : List ℕ) (m n : EffectiveShape) → IsEffective ss id m → IsEffective ss id n
      → Path EffectiveShape m n
  one_effective ss id m n (effective i a s copied there from made) (effective j b t others at by is) =
      let same : Path ShapeStated t s = same_some t s (sym at ∙ there) in
      let copies : Path (List EffectiveShape) others copied = sym (one_copied ss s s.mixins copied others from
      (subst (λ u. AreCopied ss u u.mixins others) same by)) in
      one_made ss id s copied m n made (subst (λ c. IsMadeFrom ss id s c n) copies (subst (λ u. IsMadeFrom ss id u others n) same is))

  pub one_copied : (ss : List Stated) (s : ShapeStated) (mixins : List (List ℕ)) (gs hs : List EffectiveShape)
      → AreCopied ss s mixins gs → AreCopied ss s mixins hs → Path (List EffectiveShape) gs hs
  one_copied ss s mixins gs hs (no_mixins a) (no_mixins b) = refl
  one_copied ss s mixins gs hs (mixed_in a mixin more c m copied e rest) (mixed_in b other others d n copies f behind) =
      let value = one_value _ c.mixin_value d.mixin_value c.marked d.marked in
      let shape = one_effective ss mixin m n e f in
      let later = one_copied ss s more copied copies rest behind in
      λ i. copy_of (value i) (shape i) ∷ later i
  one_copied ss s mixins gs hs (mixed_in a mixin more c m copied e rest) (passed_over b other others copies never behind) = absurd (never c)
  one_copied ss s mixins gs hs (passed_over a mixin more copied never rest) (mixed_in b other others d n copies f behind) = absurd (never d)
  one_copied ss s mixins gs hs (passed_over a mixin more copied never rest) (passed_over b other others copies none behind) =
      one_copied ss s more copied copies rest behind
