-- What is left of lists, of entries and pairs, and of a list or an object of which something was left or nothing.
use Rattle.std.proofs.Common.{◌≡◌, ℕ, suc, true, false, List, [], ◌∷◌, ◌++◌, length, Option, Some, None, refl, ap, ◌∙◌, append_assoc}
use Rattle.std.proofs.Common.{arith}
use Rattle.std.specs.Prelude.{◌==◌}
use Rattle.std.proofs.lemmas.Bool.Decides.{nat_tests}
use Rattle.sm_model.proofs.Worklist.{apart}
use Rattle.sm_tree.specs.View.{members_view, nodes_view}
use Rattle.sm_tree.specs.declared.tree.Tree.{Tree}
use Rattle.std.specs.List.{cons_option, filter_map}
use Rattle.std.specs.Option.{option_map}
use Rattle.sm_model.specs.Properties.{form_named, property_forms}
use Rattle.sm_tree.specs.Node.{Node, list, object, nodes_of, members_of}
use Rattle.sm_model.specs.declared.kind.Kind.{Kind}
use Rattle.sm_transform.specs.IdChanges.{IdChange, entries_after, field_after, fields_after, is_needed, keys_after}
use Rattle.sm_transform.specs.IdChanges.{list_left, object_left, put_entry}
use Rattle.sm_transform.specs.IdChanges.{put_pair, put_under, reference_after, trait_after, values_after}
use Rattle.sm_transform.specs.steps.Changing.{named_field, named_reference}

-- one more is looked at
joined : {Y : Type 0} (o : Option Y) (ys : List Y) → cons_option o [] ++ ys ≡ cons_option o ys
joined None ys = refl
joined (Some y) ys = refl

pub one_more : {X Y : Type 0} (h : X → Option Y) (done : List Y) (x : X) (xs : List X)
    → (done ++ filter_map h (x ∷ [])) ++ filter_map h xs ≡ done ++ filter_map h (x ∷ xs)
one_more h done x xs = append_assoc done (filter_map h (x ∷ [])) (filter_map h xs) ∙ ap (λ ys. done ++ ys) (joined (h x) (filter_map h xs))

-- entries and pairs, as lists
module _ (change : IdChange) where
  put_listed : (o : Option Node) (ns : List Node) → put_entry o (nodes_of ns) ≡ nodes_of (cons_option o ns)
  put_listed None ns = refl
  put_listed (Some n) ns = refl

  pub entries_listed : (ns : List Node) → entries_after change (nodes_of ns) ≡ nodes_of (filter_map (reference_after change) ns)
  entries_listed [] = refl
  entries_listed (n ∷ ns) =
      ap (put_entry (reference_after change n)) (entries_listed ns)
      ∙ put_listed (reference_after change n) (filter_map (reference_after change) ns)

  abbrev Pairs : Type 0
  Pairs = List (List ℕ × Node)

  put_pairs : (k : List ℕ) (o : Option Node) (ps : Pairs)
      → put_pair k o (members_of ps) ≡ members_of (cons_option (option_map (λ n. (k, n)) o) ps)
  put_pairs k None ps = refl
  put_pairs k (Some n) ps = refl

  pub values_listed : (ps : Pairs) → values_after change (members_of ps) ≡ members_of (filter_map (named_reference change) ps)
  values_listed [] = refl
  values_listed (p ∷ ps) =
      ap (put_pair p.0 (reference_after change p.1)) (values_listed ps)
      ∙ put_pairs p.0 (reference_after change p.1) (filter_map (named_reference change) ps)

  put_keyed : (o : Option (List ℕ)) (n : Node) (ps : Pairs)
      → put_under o n (members_of ps) ≡ members_of (cons_option (option_map (λ k. (k, n)) o) ps)
  put_keyed None n ps = refl
  put_keyed (Some k) n ps = refl

  pub keys_listed : (ps : Pairs) → keys_after change (members_of ps) ≡ members_of (filter_map (trait_after change) ps)
  keys_listed [] = refl
  keys_listed (p ∷ ps) =
      ap (put_under (change p.0) p.1) (keys_listed ps) ∙ put_keyed (change p.0) p.1 (filter_map (trait_after change) ps)

  pub fields_listed : (kind : Kind) (ps : Pairs) → fields_after change kind (members_of ps) ≡ members_of (filter_map
      (named_field change kind) ps)
  fields_listed kind [] = refl
  fields_listed kind (p ∷ ps) =
      let o = field_after change (is_needed kind p.0) (form_named p.0 (property_forms kind)) p.1 in
      ap (put_pair p.0 o) (fields_listed kind ps) ∙ put_pairs p.0 o (filter_map (named_field change kind) ps)

-- what something or nothing is left of
some_are_some : (n : ℕ) → true ≡ (suc n == 0) → ⊥
some_are_some n h = grind (arith, nat_tests)

pub list_none : (items left : List Tree) → false ≡ (length items == 0) → true ≡ (length left == 0)
    → list_left (nodes_of (nodes_view items)) (nodes_of (nodes_view left)) ≡ None
list_none [] left some none = absurd (apart some)
list_none (x ∷ items) [] some none = refl
list_none (x ∷ items) (y ∷ left) some none = absurd (some_are_some (length left) none)

pub list_some : (items left : List Tree) → false ≡ (length left == 0)
    → list_left (nodes_of (nodes_view items)) (nodes_of (nodes_view left)) ≡ Some (list (nodes_of (nodes_view left)))
list_some [] left some = refl
list_some (x ∷ items) [] some = absurd (apart some)
list_some (x ∷ items) (y ∷ left) some = refl

pub object_none : (pairs left : List (List ℕ × Tree)) → false ≡ (length pairs == 0) → true ≡ (length left == 0)
    → object_left (members_of (members_view pairs)) (members_of (members_view left)) ≡ None
object_none [] left some none = absurd (apart some)
object_none (x ∷ pairs) [] some none = refl
object_none (x ∷ pairs) (y ∷ left) some none = absurd (some_are_some (length left) none)

pub object_some : (pairs left : List (List ℕ × Tree)) → false ≡ (length left == 0)
    → object_left (members_of (members_view pairs)) (members_of (members_view left)) ≡ Some (object (members_of (members_view left)))
object_some [] left some = refl
object_some (x ∷ pairs) [] some = absurd (apart some)
object_some (x ∷ pairs) (y ∷ left) some = refl
