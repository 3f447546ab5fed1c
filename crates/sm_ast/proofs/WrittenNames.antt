-- Names of pairs that are put in the order of a list of names, some left out: they differ where the names of the list do.
use Rattle.std.proofs.Common.{◌≡◌, inl, inr, ◌⊎◌, ℕ, not, ◌&&◌, Bool, true, false, List, [], ◌∷◌, ◌++◌, map, Option, Some, None, refl}
use Rattle.std.proofs.Common.{sym, subst, ◌∙◌, bytes_eq}
use Rattle.std.proofs.lemmas.List.{map-append}
use Rattle.sm_tree.specs.Node.{Node, Members, members_of}
use Rattle.sm_tree.specs.Same.{HasPair, HasName, HasDistinctNames, AreDistinct}
use Rattle.sm_model.specs.Formed.{StandsAmong, DifferInNames}
use Rattle.sm_model.specs.Given.{are_under}
use Rattle.sm_model.specs.Properties.{TypeFields}
use Rattle.sm_tree.specs.Parts.{tree_named}
use Rattle.sm_ast.specs.Faults.{stands_in}
use Rattle.sm_ast.specs.Written.{WrittenPairs, field_there, property_there, written_properties}
use Rattle.sm_ast.proofs.Judged.{both_true, or_left, or_right, test_same, true_is_false}

-- these names, in this order, some left out
abbrev pub Within : List (List ℕ) → List (List ℕ) → Type 0
Within [] all = Unit {0}
Within (k ∷ ks) [] = ⊥
Within (k ∷ ks) (j ∷ js) = ((k ≡ j) × Within ks js) ⊎ Within (k ∷ ks) js

pub within_stands : (ks js : List (List ℕ)) → Within ks js → (n : List ℕ) → StandsAmong n ks → StandsAmong n js
within_stands [] js w n among = absurd among
within_stands (k ∷ ks) [] w n among = absurd w
within_stands (k ∷ ks) (j ∷ js) (inl (same, rest)) n (inl is) = inl (is ∙ same)
within_stands (k ∷ ks) (j ∷ js) (inl (same, rest)) n (inr among) = inr (within_stands ks js rest n among)
within_stands (k ∷ ks) (j ∷ js) (inr later) n among = inr (within_stands (k ∷ ks) js later n among)

pub differ_within : (ks js : List (List ℕ)) → Within ks js → DifferInNames js → DifferInNames ks
differ_within [] js w d = tt
differ_within (k ∷ ks) [] w d = absurd w
differ_within (k ∷ ks) (j ∷ js) (inl (same, rest)) d =
    ((λ among. d.0 (within_stands ks js rest j (subst (λ x. StandsAmong x ks) same among))), differ_within ks js rest d.1)
differ_within (k ∷ ks) (j ∷ js) (inr later) d = differ_within (k ∷ ks) js later d.1

within_behind : (js ls ms : List (List ℕ)) → Within ls ms → Within ls (js ++ ms)
within_behind [] ls ms w = w
within_behind (j ∷ js) [] ms w = tt
within_behind (j ∷ js) (l ∷ ls) ms w = inr (within_behind js (l ∷ ls) ms w)

within_joined : (ks js ls ms : List (List ℕ)) → Within ks js → Within ls ms → Within (ks ++ ls) (js ++ ms)
within_joined [] js ls ms w v = within_behind js ls ms v
within_joined (k ∷ ks) [] ls ms w v = absurd w
within_joined (k ∷ ks) (j ∷ js) ls ms (inl (same, rest)) v = inl (same, within_joined ks js ls ms rest v)
within_joined (k ∷ ks) (j ∷ js) ls ms (inr later) v = inr (within_joined (k ∷ ks) js ls ms later v)

pub within_itself : (ks : List (List ℕ)) → Within ks ks
within_itself [] = tt
within_itself (k ∷ ks) = inl (refl, within_itself ks)

-- of pairs
abbrev pub PairsWithin : WrittenPairs → List (List ℕ) → Type 0
PairsWithin ps names = Within (are_under ps) names

pub pairs_joined : (ps qs : WrittenPairs) (js ks : List (List ℕ)) → PairsWithin ps js → PairsWithin qs ks
    → PairsWithin (ps ++ qs) (js ++ ks)
pairs_joined ps qs js ks w v =
    subst (λ xs. Within xs (js ++ ks)) (sym (map-append (λ (p : List ℕ × Node). p.0) ps qs))
    (within_joined (are_under ps) js (are_under qs) ks w v)

pub field_within : (name : List ℕ) (o : Option Node) → PairsWithin (field_there name o) (name ∷ [])
field_within name None = tt
field_within name (Some n) = inl (refl, tt)

abbrev pub field_names : TypeFields → List (List ℕ)
field_names fs = map (λ f. f.0) fs

pub properties_within : (fs : TypeFields) (body : Members) → PairsWithin (written_properties fs body) (field_names fs)
properties_within [] body = tt
properties_within (f ∷ fs) body =
    let o = property_there f.1 (tree_named f.0 body) in
    pairs_joined (field_there f.0 o) (written_properties fs body) (f.0 ∷ []) (field_names fs) (field_within f.0 o)
    (properties_within fs body)

-- a name of a pair stands among the names
pub has_under : (k : List ℕ) (ps : WrittenPairs) → HasName k (members_of ps) → StandsAmong k (are_under ps)
has_under k [] has = has
has_under k (p ∷ ps) (inl same) = inl same
has_under k (p ∷ ps) (inr has) = inr (has_under k ps has)

-- no name stands twice, here and in each value
abbrev pub EachDistinct : WrittenPairs → Type 0
EachDistinct [] = Unit {0}
EachDistinct (p ∷ ps) = HasDistinctNames p.1 × EachDistinct ps

pub distinct_joined : (ps qs : WrittenPairs) → EachDistinct ps → EachDistinct qs → EachDistinct (ps ++ qs)
distinct_joined [] qs h more = more
distinct_joined (p ∷ ps) qs h more = (h.0, distinct_joined ps qs h.1 more)

pub distinct_pairs : (ps : WrittenPairs) → DifferInNames (are_under ps) → EachDistinct ps → AreDistinct (members_of ps)
distinct_pairs [] d each = tt
distinct_pairs (p ∷ ps) d each = ((λ has. d.0 (has_under p.0 ps has)), each.0, distinct_pairs ps d.1 each.1)

-- pairs of a part are pairs of the whole
pub pair_behind : (ps qs : WrittenPairs) (k : List ℕ) (n : Node) → HasPair k n (members_of qs) → HasPair k n (members_of (ps ++ qs))
pair_behind [] qs k n has = has
pair_behind (p ∷ ps) qs k n has = inr (pair_behind ps qs k n has)

pub pair_before : (ps qs : WrittenPairs) (k : List ℕ) (n : Node) → HasPair k n (members_of ps) → HasPair k n (members_of (ps ++ qs))
pair_before [] qs k n has = absurd has
pair_before (p ∷ ps) qs k n (inl same) = inl same
pair_before (p ∷ ps) qs k n (inr has) = inr (pair_before ps qs k n has)

-- by a test
pub stands_by_test : (k : List ℕ) (ks : List (List ℕ)) → StandsAmong k ks → stands_in k ks ≡ true
stands_by_test k [] among = absurd among
stands_by_test k (j ∷ js) (inl same) = or_left (bytes_eq j k) (stands_in k js) (test_same j k (sym same))
stands_by_test k (j ∷ js) (inr among) = or_right (bytes_eq j k) (stands_in k js) (stands_by_test k js among)

pub apart_by_test : (k : List ℕ) (ks : List (List ℕ)) → stands_in k ks ≡ false → StandsAmong k ks → ⊥
apart_by_test k ks apart among = true_is_false (sym (stands_by_test k ks among) ∙ apart)

abbrev pub all_differ : List (List ℕ) → Bool
all_differ [] = true
all_differ (k ∷ ks) = not (stands_in k ks) && all_differ ks

pub not_true : (b : Bool) → not b ≡ true → b ≡ false
not_true false h = refl
not_true true h = true_is_false (sym h)

pub differ_by_test : (ks : List (List ℕ)) → all_differ ks ≡ true → DifferInNames ks
differ_by_test [] h = tt
differ_by_test (k ∷ ks) h =
    let parts = both_true (not (stands_in k ks)) (all_differ ks) h in
    (apart_by_test k ks (not_true (stands_in k ks) parts.0), differ_by_test ks parts.1)
