-- What stands under a name in an object, where no name repeats; and what holds of every entry of a list and every pair of an object.
use Rattle.std.proofs.Common.{◌≡◌, inl, inr, ℕ, suc, Bool, true, false, cond, Option, Some, None, List, [], ◌∷◌, length}
use Rattle.std.proofs.Common.{refl, sym, ap, ◌∙◌, subst, if◌then◌else◌}
use Rattle.std.specs.Str.{bytes_eq}
use Rattle.std.proofs.lemmas.Bool.{false_from_ne_true}
use Rattle.std.proofs.lemmas.Slice.Eq.{bytes_eq-Decides}
use Rattle.sm_tree.specs.Node.{Node, Nodes, Members, no_nodes, node, no_members, member}
use Rattle.sm_tree.specs.Parts.{tree_named}
use Rattle.sm_tree.specs.Same.{HasPair, HasName, AreDistinct, HasDistinctNames}
use Rattle.sm_codec.specs.Codec.{Codec}
use Rattle.sm_codec.specs.Named.{named}
use Rattle.sm_codec.specs.Readings.{children, named_children, children_of}
use Rattle.sm_codec.proofs.ChildLists.{each_pair, named_are, pairs_are}
use Rattle.sm_schema.specs.Equal.{trees_named, count_entries}

-- of each entry, and of the value of each pair
abbrev pub AllNodes : (Node → Type 0) → Nodes → Type 0
AllNodes P no_nodes = Unit {0}
AllNodes P (node n ns) = P n × AllNodes P ns

abbrev pub AllPairs : (Node → Type 0) → Members → Type 0
AllPairs P no_members = Unit {0}
AllPairs P (member k n ms) = P n × AllPairs P ms

pub of_pair : (P : Node → Type 0) (name : List ℕ) (n : Node) (ms : Members) → AllPairs P ms → HasPair name n ms → P n
of_pair P name n no_members all is = absurd is
of_pair P name n (member k m ms) all (inl e) = subst P (sym e.1) all.0
of_pair P name n (member k m ms) all (inr is) = of_pair P name n ms all.1 is

-- what is found under a name
same_name : (k name : List ℕ) → bytes_eq k name ≡ true → k ≡ name
same_name k name h = (bytes_eq-Decides k name).0 h

pub pair_of : (name : List ℕ) (n : Node) (ns : List Node) (ms : Members) → trees_named name ms ≡ n ∷ ns → HasPair name n ms
pair_of name n ns no_members h = absurd cc
pair_of name n ns (member k m ms) h = by (bytes_eq k name) refl (λ g. pair_of name n ns ms g) h
  where
    head : (x y : Node) (xs ys : List Node) → x ∷ xs ≡ y ∷ ys → x ≡ y
    head x y xs ys e = cc

    by : (b : Bool) → bytes_eq k name ≡ b → (trees_named name ms ≡ n ∷ ns → HasPair name n ms)
        → cond b (m ∷ trees_named name ms) (trees_named name ms) ≡ n ∷ ns → HasPair name n (member k m ms)
    by true e more g = inl (sym (same_name k name e), sym (head m n (trees_named name ms) ns g))
    by false e more g = inr (more g)

pub name_of_pair : (name : List ℕ) (n : Node) (ms : Members) → HasPair name n ms → HasName name ms
name_of_pair name n no_members h = absurd h
name_of_pair name n (member k m ms) (inl e) = inl e.0
name_of_pair name n (member k m ms) (inr h) = inr (name_of_pair name n ms h)

none_named : (name : List ℕ) (ms : Members) → (HasName name ms → ⊥) → trees_named name ms ≡ []
none_named name no_members h = refl
none_named name (member k m ms) h =
    ap (λ b. cond b (m ∷ trees_named name ms) (trees_named name ms))
    (false_from_ne_true (bytes_eq k name) (λ e. h (inl (sym (same_name k name e)))))
    ∙ none_named name ms (λ is. h (inr is))

-- where no name repeats, a pair stands alone under its name
pub alone_named : (name : List ℕ) (n : Node) (ms : Members) → AreDistinct ms → HasPair name n ms → trees_named name ms ≡ n ∷ []
alone_named name n no_members d h = absurd h
alone_named name n (member k m ms) d (inl e) =
    ap (λ b. cond b (m ∷ trees_named name ms) (trees_named name ms)) ((bytes_eq-Decides k name).1 (sym e.0))
    ∙ ap (λ ns. m ∷ ns) (none_named name ms (λ is. d.0 (subst (λ x. HasName x ms) e.0 is)))
    ∙ ap (λ x. x ∷ []) (sym e.1)
alone_named name n (member k m ms) d (inr h) =
    ap (λ b. cond b (m ∷ trees_named name ms) (trees_named name ms))
    (false_from_ne_true (bytes_eq k name) (λ e. d.0 (subst (λ x. HasName x ms) (sym (same_name k name e)) (name_of_pair name n ms h))))
    ∙ alone_named name n ms d.2 h

pub never_two : (name : List ℕ) (n m : Node) (ns : List Node) (ms : Members) → AreDistinct ms → trees_named name ms ≡ n ∷ m ∷ ns → ⊥
never_two name n m ns ms d h = one (sym (alone_named name n ms d (pair_of name n (m ∷ ns) ms h)) ∙ h)
  where
    one : n ∷ [] ≡ n ∷ m ∷ ns → ⊥
    one e = cc

-- the first tree under a name
abbrev pub first_of : List Node → Option Node
first_of [] = None
first_of (n ∷ ns) = Some n

first_tree : (name : List ℕ) (ms : Members) → tree_named name ms ≡ first_of (trees_named name ms)
first_tree name no_members = refl
first_tree name (member k m ms) = by (bytes_eq k name) (first_tree name ms)
  where
    by : (b : Bool) → tree_named name ms ≡ first_of (trees_named name ms)
        → (if b then Some m else tree_named name ms) ≡ first_of (cond b (m ∷ trees_named name ms) (trees_named name ms))
    by true more = refl
    by false more = more

pub first_named : (name : List ℕ) (ms : Members) (ns : List Node) → trees_named name ms ≡ ns → tree_named name ms ≡ first_of ns
first_named name ms ns h = first_tree name ms ∙ ap first_of h

pub pair_distinct : (name : List ℕ) (n : Node) (ms : Members) → AreDistinct ms → HasPair name n ms → HasDistinctNames n
pair_distinct name n no_members d h = absurd h
pair_distinct name n (member k m ms) d (inl e) = subst HasDistinctNames (sym e.1) d.1
pair_distinct name n (member k m ms) d (inr h) = pair_distinct name n ms d.2 h

-- the children under a name are those of the trees under it
pub pairs_named : (name : List ℕ) (ms : Members) → named name (each_pair ms) ≡ trees_named name ms
pairs_named name no_members = refl
pairs_named name (member k m ms) = ap (λ ns. cond (bytes_eq k name) (m ∷ ns) ns) (pairs_named name ms)

pub children_named : (c : Codec) (name : List ℕ) (ms : Members) → named name (named_children c ms) ≡ children_of c (trees_named name ms)
children_named c name ms =
    ap (named name) (pairs_are c ms) ∙ named_are c name (each_pair ms) ∙ ap (children_of c) (pairs_named name ms)

pub count_children : (c : Codec) (ns : Nodes) → length (children c ns) ≡ count_entries ns
count_children c no_nodes = refl
count_children c (node n ns) = ap suc (count_children c ns)
