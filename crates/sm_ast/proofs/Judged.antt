-- What follows where nothing is refused: of a step, of entries, and of pairs; and what stands under a name.
use Rattle.std.proofs.Common.{◌≡◌, ℕ, ◌+◌, inl, inr, ◌⊎◌, ◌&&◌, ◌||◌, Bool, true, false, cond, List, [], ◌∷◌, ◌++◌, Option, Some, None}
use Rattle.std.proofs.Common.{refl, sym, ap, subst, ◌∙◌, if◌then◌else◌, bytes_eq}
use Rattle.std.specs.Option.{unwrap_or}
use Rattle.std.proofs.lemmas.List.Folds.{list_any-append}
use Rattle.std.proofs.lemmas.Slice.Eq.{bytes_eq-Decides}
use Rattle.sm_tree.specs.Node.{Node, Nodes, Members, node, no_members, member}
use Rattle.sm_tree.specs.Same.{HasPair, HasName}
use Rattle.sm_tree.specs.declared.path.Step.{Step}
use Rattle.sm_tree.specs.declared.path.Step.TheVariants.{Index, Key}
use Rattle.sm_ast.specs.Faults.{AstFault, field, seen_from, earlier_of, unless, stands_in, names_of, pair_fault, pairs_fault}
use Rattle.sm_tree.specs.Parts.{tree_named}
use Rattle.sm_ast.specs.Faults.{entries_fault, judged}

-- a fault is none, true isn't false
pub some_is_none : {X : Type 0} {A : Type 0} (x : X) → ◌≡◌ {A = Option X} (Some x) None → A
some_is_none {X} {A} x e = absurd (subst (λ o. IsSomething o) e tt)
  where
    IsSomething : Option X → Type 0
    IsSomething (Some y) = Unit {0}
    IsSomething None = ⊥

pub true_is_false : {A : Type 0} → true ≡ false → A
true_is_false {A} e = absurd (subst (λ b. cond b (Unit {0}) ⊥) e tt)

pub some_same : {X : Type 0} (x y : X) → ◌≡◌ {A = Option X} (Some x) (Some y) → x ≡ y
some_same x y e = ap (λ o. unwrap_or o x) e

-- a test either way
pub either_way : (b : Bool) → (b ≡ true) ⊎ (b ≡ false)
either_way true = inl refl
either_way false = inr refl

pub both_true : (a b : Bool) → (a && b) ≡ true → (a ≡ true) × (b ≡ true)
both_true true b h = (refl, h)
both_true false b h = true_is_false (sym h)

pub same_text : (s t : List ℕ) → bytes_eq s t ≡ true → s ≡ t
same_text s t e = (bytes_eq-Decides s t).0 e

pub test_same : (s t : List ℕ) → s ≡ t → bytes_eq s t ≡ true
test_same s t e = (bytes_eq-Decides s t).1 e

-- no fault of two is no fault of each
pub none_first : (found later : Option AstFault) → earlier_of found later ≡ None → (found ≡ None) × (later ≡ None)
none_first None later e = (refl, e)
none_first (Some fault) later e = some_is_none fault e

pub none_inside : (step : Step) (found : Option AstFault) → seen_from step found ≡ None → found ≡ None
none_inside step None e = refl
none_inside step (Some fault) e = some_is_none _ e

pub none_unless : (b : Bool) (fault : AstFault) → unless b fault ≡ None → b ≡ true
none_unless true fault e = refl
none_unless false fault e = some_is_none fault e

-- where a test decides between a judge and a fault, or between two judges
pub none_if : (b : Bool) (fault : AstFault) (found : Option AstFault) → (if b then found else Some fault) ≡ None → (b ≡ true)
    × (found ≡ None)
none_if true fault found e = (refl, e)
none_if false fault found e = some_is_none fault e

pub none_either : (b : Bool) (one other : Option AstFault) → (if b then one else other) ≡ None
    → ((b ≡ true) × (one ≡ None)) ⊎ ((b ≡ false) × (other ≡ None))
none_either true one other e = inl (refl, e)
none_either false one other e = inr (refl, e)

pub none_judged : {X : Type 0} (judge : X → Option AstFault) (o : Option X) → judged judge o ≡ None → (x : X) × (o ≡ Some x)
    × (judge x ≡ None)
none_judged judge None e = some_is_none _ e
none_judged judge (Some x) e = (x, refl, e)

none_again : (b : Bool) (fault : AstFault) (found : Option AstFault) → (if b then Some fault else found) ≡ None → (b ≡ false)
    × (found ≡ None)
none_again true fault found e = some_is_none fault e
none_again false fault found e = (refl, e)

pub none_at_pair : (before : List (List ℕ)) (k : List ℕ) (found : Option AstFault) → pair_fault before k found ≡ None
    → (stands_in k before ≡ false) × (found ≡ None)
none_at_pair before k found e = none_again (stands_in k before) (field []) found (none_inside (Key k) _ e)

-- of the first pair and of the rest
pub none_of_pairs : (judge : List ℕ → Node → Option AstFault) (before : List (List ℕ)) (k : List ℕ) (n : Node) (ms : Members)
    → pairs_fault judge before (member k n ms) ≡ None
    → (stands_in k before ≡ false) × (judge k n ≡ None) × (pairs_fault judge (before ++ k ∷ []) ms ≡ None)
none_of_pairs judge before k n ms e =
    let parts = none_first (pair_fault before k (judge k n)) (pairs_fault judge (before ++ k ∷ []) ms) e in
    let first = none_at_pair before k (judge k n) parts.0 in (first.0, first.1, parts.1)

pub none_of_entries : (judge : Node → Option AstFault) (at : ℕ) (n : Node) (ns : Nodes) → entries_fault judge at (node n ns) ≡ None
    → (judge n ≡ None) × (entries_fault judge (at + 1) ns ≡ None)
none_of_entries judge at n ns e =
    let parts = none_first (seen_from (Index at) (judge n)) (entries_fault judge (at + 1) ns) e in
    (none_inside (Index at) (judge n) parts.0, parts.1)

-- names that stood before still do
pub or_left : (a b : Bool) → a ≡ true → (a || b) ≡ true
or_left a b e = ap (λ c. c || b) e

pub or_right : (a b : Bool) → b ≡ true → (a || b) ≡ true
or_right true b e = refl
or_right false b e = e

pub stands_more : (j : List ℕ) (before after : List (List ℕ)) → stands_in j before ≡ true → stands_in j (before ++ after) ≡ true
stands_more j before after e = list_any-append (λ k. bytes_eq k j) before after ∙ or_left _ _ e

pub stands_last : (k : List ℕ) (before : List (List ℕ)) → stands_in k (before ++ k ∷ []) ≡ true
stands_last k before = list_any-append (λ j. bytes_eq j k) before (k ∷ [])
    ∙ or_right (stands_in k before) _ (or_left (bytes_eq k k) false (test_same k k refl))

-- a name that stood before is none of these
pub not_before : (judge : List ℕ → Node → Option AstFault) (before : List (List ℕ)) (ms : Members) → pairs_fault judge before ms ≡ None
    → (j : List ℕ) → stands_in j before ≡ true → HasName j ms → ⊥
not_before judge before no_members e j stood has = has
not_before judge before (member k n ms) e j stood (inl same) =
    let parts = none_of_pairs judge before k n ms e in
    true_is_false (sym (subst (λ x. stands_in x before ≡ true) same stood) ∙ parts.0)
not_before judge before (member k n ms) e j stood (inr has) =
    let parts = none_of_pairs judge before k n ms e in
    not_before judge (before ++ k ∷ []) ms parts.2 j (stands_more j before (k ∷ []) stood) has

-- what a pair says was judged
pub judged_pair : (judge : List ℕ → Node → Option AstFault) (before : List (List ℕ)) (ms : Members) → pairs_fault judge before ms ≡ None
    → (k : List ℕ) (n : Node) → HasPair k n ms → judge k n ≡ None
judged_pair judge before no_members e k n has = absurd has
judged_pair judge before (member l m ms) e k n (inl same) =
    let parts = none_of_pairs judge before l m ms e in
    ap (λ j. judge j n) same.0 ∙ ap (judge l) same.1 ∙ parts.1
judged_pair judge before (member l m ms) e k n (inr has) =
    judged_pair judge (before ++ l ∷ []) ms (none_of_pairs judge before l m ms e).2 k n has

-- the name of a pair is a name, and has a tree
pub pair_name : (k : List ℕ) (n : Node) (ms : Members) → HasPair k n ms → HasName k ms
pair_name k n no_members has = has
pair_name k n (member l m ms) (inl same) = inl same.0
pair_name k n (member l m ms) (inr has) = inr (pair_name k n ms has)

pub name_pair : (k : List ℕ) (ms : Members) → HasName k ms → (n : Node) × HasPair k n ms
name_pair k no_members has = absurd has
name_pair k (member l m ms) (inl same) = (m, inl (same, refl))
name_pair k (member l m ms) (inr has) = let later = name_pair k ms has in (later.0, inr later.1)

-- the first tree under a name is one under it
pub named_pair : (name : List ℕ) (ms : Members) (n : Node) → tree_named name ms ≡ Some n → HasPair name n ms
named_pair name no_members n e = some_is_none n (sym e)
named_pair name (member k m ms) n e = elim (either_way (bytes_eq k name)) [
  | inl same ↦ inl (sym (same_text k name same), sym (some_same m n (ap (λ b. if b then Some m else tree_named name ms) (sym same) ∙ e)))
  | inr other ↦ inr (named_pair name ms n (ap (λ b. if b then Some m else tree_named name ms) (sym other) ∙ e))
]

-- and without one no pair has the name
pub none_named : (name : List ℕ) (ms : Members) → tree_named name ms ≡ None → HasName name ms → ⊥
none_named name no_members e has = has
none_named name (member k m ms) e has = elim (either_way (bytes_eq k name)) [
  | inl same ↦ some_is_none m (ap (λ b. if b then Some m else tree_named name ms) (sym same) ∙ e)
  | inr other ↦ elim has [
    | inl is ↦ true_is_false (sym (test_same k name (sym is)) ∙ other)
    | inr later ↦ none_named name ms (ap (λ b. if b then Some m else tree_named name ms) (sym other) ∙ e) later
  ]
]

-- a name that has to be there names a tree
pub found_named : (name : List ℕ) (ms : Members) → stands_in name (names_of ms) ≡ true → (n : Node) × (tree_named name ms ≡ Some n)
found_named name no_members e = true_is_false (sym e)
found_named name (member k m ms) e = elim (either_way (bytes_eq k name)) [
  | inl same ↦ (m, ap (λ b. if b then Some m else tree_named name ms) same)
  | inr other ↦ let later = found_named name ms (ap (λ b. b || stands_in name (names_of ms)) (sym other) ∙ e) in
      (later.0, ap (λ b. if b then Some m else tree_named name ms) other ∙ later.1)
]

-- and the other way round: what the code looks for
pub stands_named : (name : List ℕ) (ms : Members) (n : Node) → tree_named name ms ≡ Some n → stands_in name (names_of ms) ≡ true
stands_named name no_members n e = some_is_none n (sym e)
stands_named name (member k m ms) n e = elim (either_way (bytes_eq k name)) [
  | inl same ↦ or_left (bytes_eq k name) _ same
  | inr other ↦ or_right (bytes_eq k name) _ (stands_named name ms n (ap (λ b. if b then Some m else tree_named name ms) (sym other) ∙ e))
]

pub stands_nowhere : (name : List ℕ) (ms : Members) → tree_named name ms ≡ None → stands_in name (names_of ms) ≡ false
stands_nowhere name no_members e = refl
stands_nowhere name (member k m ms) e = elim (either_way (bytes_eq k name)) [
  | inl same ↦ some_is_none m (ap (λ b. if b then Some m else tree_named name ms) (sym same) ∙ e)
  | inr other ↦ ap (λ b. b || stands_in name (names_of ms)) other
      ∙ stands_nowhere name ms (ap (λ b. if b then Some m else tree_named name ms) (sym other) ∙ e)
]

-- an object has one value under a name
pub one_value : (judge : List ℕ → Node → Option AstFault) (before : List (List ℕ)) (ms : Members) → pairs_fault judge before ms ≡ None
    → (k : List ℕ) (t : Node) → tree_named k ms ≡ Some t → (n : Node) → HasPair k n ms → n ≡ t
one_value judge before no_members e k t named n has = absurd has
one_value judge before (member l m ms) e k t named n (inl same) =
    same.1 ∙ some_same m t (ap (λ b. if b then Some m else tree_named k ms) (sym (test_same l k (sym same.0))) ∙ named)
one_value judge before (member l m ms) e k t named n (inr has) =
    let parts = none_of_pairs judge before l m ms e in elim (either_way (bytes_eq l k)) [
      | inl same ↦ absurd (not_before judge (before ++ l ∷ []) ms parts.2 l (stands_last l before)
          (pair_name l n ms (subst (λ j. HasPair j n ms) (sym (same_text l k same)) has)))
      | inr other ↦ one_value judge (before ++ l ∷ []) ms parts.2 k t
          (ap (λ b. if b then Some m else tree_named k ms) (sym other) ∙ named) n has
    ]
