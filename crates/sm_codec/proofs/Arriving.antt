-- A tree that arrives where one is due: what it comes to in the tags before it, and where what is passed over ends.
use Rattle.std.proofs.Common.{◌≡◌, ℕ, false, List, [], ◌∷◌, ◌++◌, refl, sym, ap, ◌∙◌}
use Rattle.std.specs.Prelude.{Option, Some, Err}
use Rattle.sm_tree.specs.Node.{Node, tag}
use Rattle.sm_tree.specs.Building.{tagged}
use Rattle.sm_shapes.specs.Places.{Place}
use Rattle.sm_shapes.specs.declared.fault.FaultKind.{FaultKind}
use Rattle.sm_shapes.specs.declared.fault.FaultKind.TheVariants.{WrongType}
use Rattle.sm_codec.specs.declared.simple.Simple.{Simple}
use Rattle.sm_codec.specs.Convention.{IsConvention, IsNested, nested_fault}
use Rattle.sm_codec.specs.Sorts.{Sort, simple, a_list, a_map, a_structure, a_union, left_out}
use Rattle.sm_codec.specs.Codec.{Codec, sort_at}
use Rattle.sm_codec.specs.Named.{is_null}
use Rattle.sm_codec.specs.Readings.{one_here, leaf_reading, leaf_by, reading}
use Rattle.sm_codec.specs.Walk.{Due, due_at, due_tagged, due_passed, due_nowhere, tagged_by, behind_tag, behind_tags}
use Rattle.sm_codec.specs.steps.Arrivals.{null_where, read_where}

-- one tag more, behind the others
pub behind_more : (c : Codec) (due : Due) (ts : List ℕ) (k : ℕ) → behind_tags c due (ts ++ k ∷ []) ≡ behind_tag c (behind_tags c due ts) k
behind_more c due [] k = refl
behind_more c due (t ∷ ts) k = behind_more c (behind_tag c due t) ts k

-- no tag leads out of what is passed over
pub passed_stays : (c : Codec) (depth : ℕ) (report : Option FaultKind) (ts : List ℕ)
    → behind_tags c (due_passed depth report) ts ≡ due_passed depth report
passed_stays c depth report [] = refl
passed_stays c depth report (t ∷ ts) = passed_stays c depth report ts

-- in tags no tree is null
null_tagged : (c : Codec) (due : Due) (n : Node) (ts : List ℕ) → null_where due n ≡ false → null_where (behind_tags c due ts) n ≡ false
null_tagged c due n [] h = h
null_tagged c (due_at p) n (t ∷ ts) h = null_tagged c (tagged_by (sort_at c p) p t) n ts (by_sort (sort_at c p))
  where
    by_sort : (s : Sort) → null_where (tagged_by s p t) n ≡ false
    by_sort (simple x) = refl
    by_sort a_list = refl
    by_sort a_map = refl
    by_sort a_structure = refl
    by_sort a_union = refl
    by_sort left_out = refl
null_tagged c (due_tagged p x k) n (t ∷ ts) h = null_tagged c (due_passed 0 (Some (nested_fault c.convention x k))) n ts refl
null_tagged c (due_passed depth report) n (t ∷ ts) h = null_tagged c (due_passed depth report) n ts refl
null_tagged c due_nowhere n (t ∷ ts) h = null_tagged c due_nowhere n ts h

behind_one : (c : Codec) (p : Place) (n : Node) (t : ℕ) (ts : List ℕ) (s : Sort)
    → null_where (behind_tags c (tagged_by s p t) ts) n ≡ false
behind_one c p n t ts (simple x) = null_tagged c (due_tagged p x t) n ts refl
behind_one c p n t ts a_list = null_tagged c (due_passed 0 (Some WrongType)) n ts refl
behind_one c p n t ts a_map = null_tagged c (due_passed 0 (Some WrongType)) n ts refl
behind_one c p n t ts a_structure = null_tagged c (due_passed 0 (Some WrongType)) n ts refl
behind_one c p n t ts a_union = null_tagged c (due_passed 0 (Some WrongType)) n ts refl
behind_one c p n t ts left_out = null_tagged c (due_passed 0 (Some WrongType)) n ts refl

-- a tree in tags is null where it is known as null
pub null_arrives : (c : Codec) (p : Place) (ts : List ℕ) (n : Node) → is_null (tagged ts n) ≡ null_where (behind_tags c (due_at p) ts) n
null_arrives c p [] n = refl
null_arrives c p (t ∷ ts) n = sym (behind_one c p n t ts (sort_at c p))

-- what stands under a tag that is nested
nested_tag : (c : Codec) (p : Place) (x : Simple) (k : ℕ) (n : Node) → IsConvention c.convention → IsNested n
    → leaf_by (simple x) c p (tag k n) ≡ Err (one_here (nested_fault c.convention x k))
nested_tag c p x k n laws nested = ap (leaf_reading c p) (laws.nested x k n nested)

-- behind two tags at least
passed_reads : (c : Codec) (depth : ℕ) (kind : FaultKind) (ts : List ℕ) (n : Node)
    → read_where c (behind_tags c (due_passed depth (Some kind)) ts) n ≡ Err (one_here kind)
passed_reads c depth kind ts n = ap (λ due. read_where c due n) (passed_stays c depth (Some kind) ts)

tagged_reads : (c : Codec) (p : Place) (t : ℕ) (ts : List ℕ) (n : Node) (s : Sort) → IsConvention c.convention → sort_at c p ≡ s
    → leaf_by s c p (tag t (tagged ts n)) ≡ read_where c (behind_tags c (tagged_by s p t) ts) n
tagged_reads c p t [] n (simple x) laws e = ap (λ s. leaf_by s c p (tag t n)) (sym e)
tagged_reads c p t (k ∷ ts) n (simple x) laws e =
    nested_tag c p x t (tag k (tagged ts n)) laws tt ∙ sym (passed_reads c 0 (nested_fault c.convention x t) ts n)
tagged_reads c p t ts n a_list laws e = sym (passed_reads c 0 WrongType ts n)
tagged_reads c p t ts n a_map laws e = sym (passed_reads c 0 WrongType ts n)
tagged_reads c p t ts n a_structure laws e = sym (passed_reads c 0 WrongType ts n)
tagged_reads c p t ts n a_union laws e = sym (passed_reads c 0 WrongType ts n)
tagged_reads c p t ts n left_out laws e = sym (passed_reads c 0 WrongType ts n)

-- and what a tree in tags comes to is what it comes to where it is due
pub read_arrives : (c : Codec) (p : Place) (ts : List ℕ) (n : Node) → IsConvention c.convention
    → reading c (tagged ts n) p ≡ read_where c (behind_tags c (due_at p) ts) n
read_arrives c p [] n laws = refl
read_arrives c p (t ∷ ts) n laws = tagged_reads c p t ts n (sort_at c p) laws refl
