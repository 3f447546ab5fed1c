-- The names that `rename` of a service gives, and what it names.
use Rattle.std.proofs.Common.{◌≡◌, inl, inr, ℕ, Bool, true, false, cond, List, [], ◌∷◌, Option, Some, None, refl, sym, ap, ◌∙◌, subst}
use Rattle.std.proofs.Common.{arith}
use Rattle.std.proofs.lemmas.Bool.{eqb-true}
use Rattle.std.specs.Prelude.{◌==◌, codes, if◌then◌else◌, length}
use denote.Ref.{Bor}
use Rattle.std.specs.List.{Contains}
use Rattle.std.specs.Option.{option_map, unwrap_or}
use Rattle.std.specs.Str.{bytes_eq}
use Rattle.sm_ids.specs.IdText.{Id, IdText}
use Rattle.sm_ids.proofs.Spellings.{one_id}
use Rattle.sm_tree.specs.Node.{Node, Members, null, bool, int, number, text, bytes, tag, opaque, list, object, no_members, member}
use Rattle.sm_tree.specs.Node.{members_of}
use Rattle.sm_tree.specs.Parts.{pairs_in, tree_named}
use Rattle.sm_tree.specs.Same.{HasName}
use Rattle.sm_tree.specs.View.{members_view, node_of}
use Rattle.sm_tree.specs.declared.tree.Tree.{Tree}
use Rattle.sm_model.specs.Graphs.{Entry, GraphMaps, ShapeEntry, member_entry, shape_entry}
use Rattle.sm_model.specs.GraphView.{At, HasBodyNode, is_member_entry, maps_of}
use Rattle.sm_model.specs.Reaching.{id_of_number}
use Rattle.sm_model.specs.Relations.{HasEntry}
use Rattle.sm_model.specs.declared.graph.Graph.{Graph}
use Rattle.sm_model.proofs.OneRising.{contains_behind, contains_either, contains_head, contains_none}
use Rattle.sm_model.proofs.Worklist.{apart}
use Rattle.sm_compile.proofs.LookedUp.{seen}
use Rattle.sm_compile.specs.TraitNodes.{field_of, text_of}
use Rattle.sm_rules.specs.Services.{name_given}
use Rattle.sm_rules.specs.Words.{field_in}
use Rattle.sm_passes.specs.Folded.{folded}
use Rattle.sm_name_rules.specs.steps.Naming.{IsKeyBy, IsNameBy, pairs_where, renames_in, renames_under}

-- a pair before others is found first
pub tree_more : (old new : List ℕ → Option Node) (k : List ℕ) (n : Node) (ms : Members)
    → ((q : List ℕ) → new q ≡ cond (bytes_eq k q) (Some n) (old q)) → ((q : List ℕ) → old q ≡ tree_named q ms) → (q : List ℕ)
    → new q ≡ tree_named q (member k n ms)
tree_more old new k n ms changed h q = changed q ∙ by (bytes_eq k q)
  where
    by : (b : Bool) → cond b (Some n) (old q) ≡ (if b then Some n else tree_named q ms)
    by true = refl
    by false = h q

pub tree_cond : (b : Bool) (t : Bor Tree) (o : Option (Bor Tree))
    → option_map (λ (x : Bor Tree). node_of x.now) (cond b (Some t) o)
    ≡ cond b (Some (node_of t.now)) (option_map (λ (x : Bor Tree). node_of x.now) o)
tree_cond true t o = refl
tree_cond false t o = refl

-- the name that a service gives
module _ (g : GraphMaps) (id : List ℕ) (v : ShapeEntry) (there : HasEntry g id (shape_entry v)) where
  pub given_name : (given : List ℕ → Option Node) → ((key : List ℕ) → given key ≡ tree_named key (renames_under g id)) → (key : List ℕ)
      → text_of (given key) ≡ name_given v key
  given_name given is key =
      ap text_of (is key) ∙ ap (λ o. text_of (tree_named key (renames_in o))) there ∙ by (field_of (codes "rename") v.properties)
    where
      by : (o : Option Node) → text_of (tree_named key (pairs_where o)) ≡ text_of (field_in key o)
      by None = refl
      by (Some n) = refl

  -- `rename` has pairs where it names something
  pub some_renames : (key : List ℕ) → HasName key (renames_under g id)
      → (ms : Members) × (field_of (codes "rename") v.properties ≡ Some (object ms)) × HasName key ms
  some_renames key h =
      by (field_of (codes "rename") v.properties) (subst (λ o. HasName key (renames_in o)) there h)
    where
      by : (o : Option Node) → HasName key (pairs_where o) → (ms : Members) × (o ≡ Some (object ms)) × HasName key ms
      by None k = absurd k
      by (Some null) k = absurd k
      by (Some (bool b)) k = absurd k
      by (Some (int z)) k = absurd k
      by (Some (number t)) k = absurd k
      by (Some (text t)) k = absurd k
      by (Some (bytes t)) k = absurd k
      by (Some (tag i n)) k = absurd k
      by (Some (opaque b)) k = absurd k
      by (Some (list ns)) k = absurd k
      by (Some (object ms)) k = (ms, refl, k)

  pub renames_are : (ms : Members) → field_of (codes "rename") v.properties ≡ Some (object ms) → renames_under g id ≡ ms
  renames_are ms is = ap renames_in there ∙ ap pairs_where is

-- names of pairs
pub name_of_pair : (pairs : List (List ℕ × Tree)) (p : List ℕ × Tree) → Contains pairs p → HasName p.0 (members_of (members_view pairs))
name_of_pair [] p c = absurd (contains_none p c)
name_of_pair (x ∷ xs) p c = elim (contains_either x p xs c) [
  | inl same ↦ inl (ap (λ (y : List ℕ × Tree). y.0) (sym same))
  | inr later ↦ inr (name_of_pair xs p later)
]

pub pair_of_name : (pairs : List (List ℕ × Tree)) (key : List ℕ) → HasName key (members_of (members_view pairs))
    → (p : List ℕ × Tree) × Contains pairs p × (p.0 ≡ key)
pair_of_name [] key h = absurd h
pair_of_name (x ∷ xs) key (inl same) = (x, contains_head x xs, sym same)
pair_of_name (x ∷ xs) key (inr later) = let r = pair_of_name xs key later in (r.0, contains_behind x r.0 xs r.1, r.2)

-- no pairs
pub none_there : (pairs : List (List ℕ × Tree)) → (length pairs == 0) ≡ true → members_of (members_view pairs) ≡ no_members
none_there [] h = refl
none_there (p ∷ ps) h = let none : length (p ∷ ps) ≡ 0 = eqb-true (length (p ∷ ps)) 0 h in absurd (omega (arith, none))

-- a shape has one key
pub one_key : (given : List ℕ → Option Node) (g : Graph) (k : ℕ) (a b : List ℕ) → IsKeyBy given g k a → IsKeyBy given g k b → a ≡ b
one_key given g k a b (x, (p, pt, px), ax) (y, (q, qt, qy), bx) =
    let same : p ≡ q = one_id p q (id_of_number g k) pt qt in
    ax ∙ ap folded (px ∙ ap (λ (i : Id). unwrap_or (text_of (given (id_of_number g k))) i.name) same ∙ sym qy) ∙ sym bx

-- what is no object has no pairs
pub no_pairs : (n : Node) → ((ms : Members) → n ≡ object ms → ⊥) → no_members ≡ unwrap_or (pairs_in n) no_members
no_pairs null none = refl
no_pairs (bool b) none = refl
no_pairs (int z) none = refl
no_pairs (number t) none = refl
no_pairs (text t) none = refl
no_pairs (bytes t) none = refl
no_pairs (tag i n) none = refl
no_pairs (opaque b) none = refl
no_pairs (list ns) none = refl
no_pairs (object ms) none = absurd (none ms refl)

-- the pairs of `rename` at a number
pub no_renames : (g : Graph) (k : ℕ) → At g k (λ id e. is_member_entry e ≡ true) → no_members ≡ renames_under (maps_of g) (id_of_number g k)
no_renames g k at = seen g k (λ o. no_members ≡ renames_in o) (λ id e. is_member_entry e ≡ true) by at
  where
    by : (e : Entry) → is_member_entry e ≡ true → no_members ≡ renames_in (Some e)
    by (shape_entry s) h = absurd (apart h)
    by (member_entry m) h = refl

pub its_renames : (g : Graph) (k : ℕ) (n : Node) → At g k (λ id e. HasBodyNode n e)
    → pairs_where (field_of (codes "rename") n) ≡ renames_under (maps_of g) (id_of_number g k)
its_renames g k n at = seen g k (λ o. pairs_where (field_of (codes "rename") n) ≡ renames_in o) (λ id e. HasBodyNode n e) by at
  where
    by : (e : Entry) → HasBodyNode n e → pairs_where (field_of (codes "rename") n) ≡ renames_in (Some e)
    by (shape_entry s) h = ap (λ m. pairs_where (field_of (codes "rename") m)) (sym h)
    by (member_entry m) h = absurd h

-- the name of a shape: the given one, else its own
pub name_by : (parts : Id) (id seen own name : List ℕ) (given : Option (List ℕ)) → seen ≡ id → IdText parts seen → own ≡ parts.name
    → name ≡ unwrap_or given own → IsNameBy given id name
name_by parts id seen own name given same spelled is h =
    (parts, subst (IdText parts) same spelled, h ∙ ap (unwrap_or given) is)
