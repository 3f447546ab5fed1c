-- What loops over the members of a shape, and over patterns, check one by one.
use Rattle.std.proofs.Common.{◌≡◌, ℕ, ◌+◌, ◌<◌, List, [], ◌∷◌, ◌++◌, map, length, take, get_or, zero, suc, refl, sym, ap, ◌∙◌, subst, arith}
use Rattle.std.specs.Prelude.{IsTrue, nat_eq, Some, None, slice_get, IsUtf8}
use Rattle.std.specs.List.{Contains}
use Rattle.std.proofs.lemmas.Option.{slice_get_within}
use Rattle.std.proofs.Math.Seq.{get_or-append_seam}
use Rattle.std.proofs.lemmas.Bool.Decides.{nat_tests}
use Rattle.std.proofs.lemmas.List.Sorted.{IsPermutation-sym}
use Rattle.std.specs.List.Sorted.{IsPermutation, IsStrictlySortedBy}
use Rattle.std.specs.Ordering.{nat_cmp}
use Rattle.std.specs.Cmp.Lexicographic.{slice_cmp}
use Rattle.sm_tree.specs.Node.{Node}
use Rattle.sm_shapes.specs.Names.{NoneIs}
use Rattle.sm_shapes.specs.TableData.{TableData, MemberData, shape_count, kind_at, members_at, home_in, target_in, constraints_in}
use Rattle.sm_shapes.specs.TableData.{default_node_in, default_in, binding_in, name_at, json_name_at}
use Rattle.sm_shapes.specs.InOrder.{AreMembersOf, AreByName, AreStored, NamesPattern, MayHaveNode}
use Rattle.sm_shapes.specs.declared.kinds.ShapeKind.TheVariants.{Structure}
use Rattle.codec_bodies.specs.Checked.{MemberInOrder}

pub is_one : (n : ℕ) → IsTrue (nat_eq n 1) → n ≡ 1
is_one n h = grind (arith, nat_tests)

pub members_more : (t : TableData) (s k : ℕ) (m : MemberData) (left rest : List ℕ) (W : Type 0) → left ≡ k ∷ rest
    → slice_get t.members k ≡ Some m → m.shape ≡ s → (AreMembersOf t s left → W) → AreMembersOf t s rest → W
members_more t s k m left rest W cut there home kept h =
    kept (subst (AreMembersOf t s) (sym cut) (slice_get_within t.members k m there, ap home_in there ∙ home, h))

pub none_more : (name : List ℕ) (f : ℕ → List ℕ) (k : ℕ) (left rest : List ℕ) (W : Type 0) → left ≡ k ∷ rest → (f k ≡ name → ⊥)
    → (NoneIs name (map f left) → W) → NoneIs name (map f rest) → W
none_more name f k left rest W cut other kept h = kept (subst (λ xs. NoneIs name (map f xs)) (sym cut) (other, h))

get_left : (xs : List (List ℕ)) (u : List ℕ) (i : ℕ) → i < length xs → get_or (xs ++ u ∷ []) i [] ≡ get_or xs i []
get_left [] u i h = absurd (omega (arith, h))
get_left (x ∷ xs) u zero h = refl
get_left (x ∷ xs) u (suc i) h = get_left xs u i (omega (arith, h))

length_more : (xs : List (List ℕ)) (u : List ℕ) → length (xs ++ u ∷ []) ≡ length xs + 1
length_more [] u = refl
length_more (x ∷ xs) u = omega (arith, length_more xs u)

-- each pattern's number still names its text where another one was added
pub stored_more : (ps : List (ℕ × List ℕ)) (p : ℕ × List ℕ) (added : List (List ℕ)) → p.0 ≡ length added → AreStored ps added
    → AreStored (ps ++ p ∷ []) (added ++ p.1 ∷ [])
stored_more [] p added is h =
    (grind (arith, is, length_more added p.1), ap (λ n. get_or (added ++ p.1 ∷ []) n []) is ∙ get_or-append_seam added p.1 [] [], tt)
stored_more (q ∷ ps) p added is h =
    (grind (arith, h.0, length_more added p.1), get_left added p.1 q.0 h.0 ∙ h.1, stored_more ps p added is h.2)

pub stored_step : (items : List (ℕ × List ℕ)) (i : ℕ) (p : ℕ × List ℕ) (added now : List (List ℕ)) (number : ℕ) (u : List ℕ)
    → take (i + 1) items ≡ take i items ++ p ∷ [] → number ≡ length added → now ≡ added ++ u ∷ [] → number ≡ p.0 → u ≡ p.1
    → AreStored (take i items) added → AreStored (take (i + 1) items) now
stored_step items i p added now number u cut is grown same text h =
    subst (λ ps. AreStored ps now) (sym cut)
    (subst (AreStored (take i items ++ p ∷ [])) (ap (λ w. added ++ w ∷ []) (sym text) ∙ sym grown)
    (stored_more (take i items) p added (sym same ∙ is) h))

pub in_name_order : (name : ℕ → List ℕ) (ks all ordered : List ℕ) → IsPermutation ks all → all ≡ ordered
    → IsStrictlySortedBy (slice_cmp nat_cmp) (map name ordered) → AreByName name ks ordered
in_name_order name ks all ordered put same rise = (IsPermutation-sym _ _ (subst (IsPermutation ks) same put), rise)

module _ (t : TableData) (k : ℕ) (m : MemberData) (there : slice_get t.members k ≡ Some m) where
  pub member_checked : m.target < shape_count t → m.shape < shape_count t → Contains (members_at t m.shape) k → IsUtf8 (name_at t k)
      → IsUtf8 (json_name_at t k) → NamesPattern t m.constraints.pattern
      → ((n : Node) → m.default_node ≡ Some n → (kind_at t m.shape ≡ Structure) × (m.binding ≡ None) × MayHaveNode (kind_at t m.target) n)
      → m.default ≡ None → MemberInOrder t k
  member_checked target home stands name json_name pattern node unset = record {
    target = subst (λ o. target_in o < shape_count t) (sym there) target;
    home = subst (λ o. home_in o < shape_count t) (sym there) home;
    stands = subst (λ o. Contains (members_at t (home_in o)) k) (sym there) stands;
    name = name;
    json_name = json_name;
    pattern = subst (λ o. NamesPattern t (constraints_in o).pattern) (sym there) pattern;
    node = λ n e. subst (λ o. ((kind_at t (home_in o) ≡ Structure) × (binding_in o ≡ None)) × MayHaveNode (kind_at t (target_in o)) n)
        (sym there) (let h = node n (ap default_node_in (sym there) ∙ e) in ((h.0, h.1), h.2));
    unset = ap default_in there ∙ unset;
  }
