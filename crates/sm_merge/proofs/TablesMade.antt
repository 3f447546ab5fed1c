-- A table is what groups of rows come to, group by group.
use Rattle.std.proofs.Common.{◌≡◌, ℕ, Bool, true, false, cond, List, [], ◌∷◌, ◌++◌, map, Option, Some, None, refl, sym, ap, subst, ◌∙◌}
use Rattle.std.proofs.Common.{append-nil, bytes_eq}
use Rattle.std.specs.Prelude.{MatchOption, if◌then◌else◌}
use Rattle.std.specs.List.{cons_option}
use Rattle.std.specs.Option.{unwrap_or}
use Rattle.std.specs.FinMap.Entries.{find}
use Rattle.std.specs.Cmp.Lexicographic.{nat_list_cmp_total}
use Rattle.std.specs.Ordering.{is_eq, ordering_reverse}
use Rattle.sm_tree.specs.Node.{Node}
use Rattle.sm_tree.specs.View.{members_view, node_of, nodes_view, pairs_view}
use Rattle.sm_tree.specs.declared.tree.Tree.{Tree}
use Rattle.sm_tree.specs.declared.tree.Pairs.{Pairs}
use Rattle.sm_model.specs.Given.{AreNodes as ArePairsOfNodes}
use Rattle.sm_model.specs.Graphs.{text_cmp}
use Rattle.sm_model.specs.steps.Rising.{IsBelow, Rise}
use Rattle.sm_merge.specs.steps.Folding.{AreNodes, IsFolded}
use Rattle.sm_groups.specs.Groups.{AreGroupsOf, all_under, groups_view}
use Rattle.sm_merge.specs.steps.Placed.{placed_view}
use Rattle.sm_merge.specs.steps.Tables.{AreListsOfNodes, ArePlacedNodes, ArePlacesOf, AreValuesOf, ComeToRows, ComeToTraits, HoldGroups}
use Rattle.sm_merge.specs.steps.Tables.{IsTableOf, all_given, named_view, pairs_views, places_view}
use Rattle.sm_groups.specs.declared.groups.Group.{Group}
use Rattle.sm_merge.specs.declared.table.NamedValue.{NamedValue}
use Rattle.sm_merge.specs.declared.table.PlaceRow.{PlaceRow}
use Rattle.sm_merge.specs.declared.value.Folded.{Folded}
use Rattle.sm_groups.proofs.GroupsMade.{tie_itself}

-- one more behind others, and then the rest
pub behind_more : {X Y : Type 0} (f : X → Y) (xs : List X) (x : X) (more : List Y) → map f (xs ++ x ∷ []) ++ more ≡ map f xs ++ f x ∷ more
behind_more f [] x more = refl
behind_more f (y ∷ xs) x more = ap (λ l. f y ∷ l) (behind_more f xs x more)

module _ {V X : Type 0} (R : List V → X → Type 0) where
  abbrev IsFound : List ℕ → List (List ℕ × List V) → X → Type 0
  IsFound key gs x = (vs : List V) × (find text_cmp key gs ≡ Some vs) × R vs x

  row_found : (key : List ℕ) (gs : List (List ℕ × List V)) (xs : List (List ℕ × X)) → ComeToRows R gs xs
      → MatchOption (find text_cmp key xs) (find text_cmp key gs ≡ None) (IsFound key gs)
  row_found key [] [] h = refl
  row_found key [] (x ∷ xs) h = absurd h
  row_found key (g ∷ gs) [] h = absurd h
  row_found key (g ∷ gs) (x ∷ xs) h =
      by_test (is_eq (text_cmp key x.0)) (is_eq (text_cmp key g.0)) (ap (λ k. is_eq (text_cmp key k)) h.0) (find text_cmp key xs)
      (row_found key gs xs h.2)
    where
      by_test : (b t : Bool) → t ≡ b → (o : Option X) → MatchOption o (find text_cmp key gs ≡ None) (IsFound key gs)
          → MatchOption (cond b (Some x.1) o) (cond t (Some g.1) (find text_cmp key gs) ≡ None)
          (λ y. (vs : List V) × (cond t (Some g.1) (find text_cmp key gs) ≡ Some vs) × R vs y)
      by_test true t e o rest = (g.1, ap (λ u. cond u (Some g.1) (find text_cmp key gs)) e, h.1)
      by_test false t e None rest = ap (λ u. cond u (Some g.1) (find text_cmp key gs)) e ∙ rest
      by_test false t e (Some y) (vs, at, r) = (vs, ap (λ u. cond u (Some g.1) (find text_cmp key gs)) e ∙ at, r)

  same_keys : (gs : List (List ℕ × List V)) (xs : List (List ℕ × X)) → ComeToRows R gs xs → map (λ g. g.0) gs ≡ map (λ x. x.0) xs
  same_keys [] [] h = refl
  same_keys [] (x ∷ xs) h = absurd h
  same_keys (g ∷ gs) [] h = absurd h
  same_keys (g ∷ gs) (x ∷ xs) h = λ i. h.0 i ∷ same_keys gs xs h.2 i

  pub table_of : (es : List (List ℕ × V)) (gs : List (List ℕ × List V)) (xs : List (List ℕ × X)) → AreGroupsOf es gs → ComeToRows R gs xs
      → IsTableOf R es xs
  table_of es gs xs are h = record {
    rise = subst Rise (same_keys gs xs h) are.rise;
    each = λ key. joined key (find text_cmp key xs) (row_found key gs xs h);
  }
    where
      joined : (key : List ℕ) (o : Option X) → MatchOption o (find text_cmp key gs ≡ None) (IsFound key gs)
          → MatchOption o (all_under key es ≡ []) (R (all_under key es))
      joined key None none = sym (are.each key) ∙ ap (λ p. unwrap_or p []) none
      joined key (Some x) (vs, at, r) = subst (λ us. R us x) (sym (ap (λ p. unwrap_or p []) at) ∙ are.each key) r

module _ {X : Type 0} where
  abbrev keys : List (List ℕ × X) → List (List ℕ)
  keys gs = map (λ g. g.0) gs

  abbrev pub AllFound : (List ℕ → Option X) → List (List ℕ × X) → Type 0
  AllFound F [] = Unit {0}
  AllFound F (g ∷ gs) = (F g.0 ≡ Some g.1) × AllFound F gs

  behind : (g : List ℕ × X) (gs hs : List (List ℕ × X)) → IsBelow g.0 (keys hs) → AllFound (λ k. find text_cmp k gs) hs
      → AllFound (λ k. find text_cmp k (g ∷ gs)) hs
  behind g gs [] below h = tt
  behind g gs (k ∷ ks) below h = (
    ap (λ r. cond (is_eq r) (Some g.1) (find text_cmp k.0 gs)) (nat_list_cmp_total.antisymm k.0 g.0 ∙ ap ordering_reverse below.0) ∙ h.0,
    behind g gs ks below.1 h.1,
  )

  pub all_found : (gs : List (List ℕ × X)) → Rise (keys gs) → AllFound (λ k. find text_cmp k gs) gs
  all_found [] h = tt
  all_found (g ∷ gs) h = (
    ap (λ r. cond (is_eq r) (Some g.1) (find text_cmp g.0 gs)) (tie_itself g.0),
    behind g gs gs h.0 (all_found gs h.1),
  )

module _ {V : Type 0} where
  -- what holds of all that stands under any text holds of each group
  pub hold_groups : (P : List ℕ → List V → Type 0) (es : List (List ℕ × V)) (gs : List (List ℕ × List V)) → AreGroupsOf es gs
      → ((key : List ℕ) → P key (all_under key es)) → HoldGroups P gs
  hold_groups P es gs are h = each gs (all_found gs are.rise)
    where
      each : (hs : List (List ℕ × List V)) → AllFound (λ k. find text_cmp k gs) hs → HoldGroups P hs
      each [] found = tt
      each (g ∷ hs) found =
          (subst (P g.0) (sym (are.each g.0) ∙ ap (λ o. unwrap_or o []) found.0) (h g.0), each hs found.1)

module _ {V W : Type 0} (f : V → W) where
  abbrev seen : List (List ℕ × V) → List (List ℕ × W)
  seen es = map (λ e. (e.0, f e.1)) es

  -- what stands under a text, seen otherwise
  pub seen_under : (key : List ℕ) (es : List (List ℕ × V)) → map f (all_under key es) ≡ all_under key (seen es)
  seen_under key [] = refl
  seen_under key (e ∷ es) = by_test (seen_under key es) (bytes_eq e.0 key)
    where
      by_test : map f (all_under key es) ≡ all_under key (seen es) → (b : Bool)
          → map f (cons_option (if b then Some e.1 else None) (all_under key es))
          ≡ cons_option (if b then Some (f e.1) else None) (all_under key (seen es))
      by_test rest true = ap (λ ws. f e.1 ∷ ws) rest
      by_test rest false = rest

  pub table_seen : {X : Type 0} (S : List W → X → Type 0) (es : List (List ℕ × V)) (xs : List (List ℕ × X))
      → IsTableOf (λ vs x. S (map f vs) x) es xs → IsTableOf S (seen es) xs
  table_seen {X} S es xs h = record {
    rise = h.rise;
    each = λ key. carried key (find text_cmp key xs) (h.each key);
  }
    where
      none_seen : (key : List ℕ) → all_under key es ≡ [] → all_under key (seen es) ≡ []
      none_seen key none = sym (seen_under key es) ∙ ap (map f) none

      carried : (key : List ℕ) (o : Option X) → MatchOption o (all_under key es ≡ []) (λ x. S (map f (all_under key es)) x)
          → MatchOption o (all_under key (seen es) ≡ []) (S (all_under key (seen es)))
      carried key None none = none_seen key none
      carried key (Some x) is = subst (λ ws. S ws x) (seen_under key es) is

-- values under a name are nodes, and lists of values under a place are lists of nodes
nodes_under : (key : List ℕ) (es : List (List ℕ × Tree)) → ArePairsOfNodes (members_view es) → AreNodes (nodes_view (all_under key es))
nodes_under key [] h = tt
nodes_under key (e ∷ es) h = by_test (nodes_under key es h.1) (bytes_eq e.0 key)
  where
    by_test : AreNodes (nodes_view (all_under key es)) → (b : Bool)
        → AreNodes (nodes_view (cons_option (if b then Some e.1 else None) (all_under key es)))
    by_test rest true = (h.0, rest)
    by_test rest false = rest

pub groups_of_nodes : (es : List (List ℕ × Tree)) (gs : List (List ℕ × List Tree)) → AreGroupsOf es gs → ArePairsOfNodes (members_view es)
    → HoldGroups (λ key ts. AreNodes (nodes_view ts)) gs
groups_of_nodes es gs are h = hold_groups (λ key ts. AreNodes (nodes_view ts)) es gs are (λ key. nodes_under key es h)

lists_under : (key : List ℕ) (es : List (List ℕ × Pairs)) → ArePlacedNodes (placed_view es)
    → AreListsOfNodes (pairs_views (all_under key es))
lists_under key [] h = tt
lists_under key (e ∷ es) h = by_test (lists_under key es h.1) (bytes_eq e.0 key)
  where
    by_test : AreListsOfNodes (pairs_views (all_under key es)) → (b : Bool)
        → AreListsOfNodes (pairs_views (cons_option (if b then Some e.1 else None) (all_under key es)))
    by_test rest true = (h.0, rest)
    by_test rest false = rest

pub groups_of_lists : (es : List (List ℕ × Pairs)) (gs : List (List ℕ × List Pairs)) → AreGroupsOf es gs → ArePlacedNodes (placed_view es)
    → HoldGroups (λ key ps. AreListsOfNodes (pairs_views ps)) gs
groups_of_lists es gs are h = hold_groups (λ key ps. AreListsOfNodes (pairs_views ps)) es gs are (λ key. lists_under key es h)

-- pairs of several lists of nodes
nodes_joined : (ps qs : List (List ℕ × Node)) → ArePairsOfNodes ps → ArePairsOfNodes qs → ArePairsOfNodes (ps ++ qs)
nodes_joined [] qs h k = k
nodes_joined (p ∷ ps) qs h k = (h.0, nodes_joined ps qs h.1 k)

pub all_nodes : (tss : List (List (List ℕ × Node))) → AreListsOfNodes tss → ArePairsOfNodes (all_given tss)
all_nodes [] h = tt
all_nodes (ts ∷ tss) h = nodes_joined ts (all_given tss) h.0 (all_nodes tss h.1)

-- where a loop has put all rows
module _ {V X T : Type 0} (R : List V → X → Type 0) (f : T → List ℕ × X) where
  pub rows_put : (gs left : List (Group V)) (done : List T) → left ≡ []
      → ((more : List (List ℕ × X)) → ComeToRows R (groups_view left) more → ComeToRows R (groups_view gs) (map f done ++ more))
      → ComeToRows R (groups_view gs) (map f done)
  rows_put gs left done ended all =
      subst (ComeToRows R (groups_view gs)) (append-nil (map f done))
      (all [] (subst (λ l. ComeToRows R (groups_view l) []) (sym ended) tt))

pub values_made : (es : List (List ℕ × Tree)) (gs left : List (Group Tree)) (done : List NamedValue) → left ≡ []
    → AreGroupsOf es (groups_view gs)
    → ((more : List (List ℕ × Folded)) → ComeToRows (λ ts f. IsFolded (nodes_view ts) f) (groups_view left) more
    → ComeToRows (λ ts f. IsFolded (nodes_view ts) f) (groups_view gs) (named_view done ++ more))
    → AreValuesOf (members_view es) done
values_made es gs left done ended are all =
    table_seen node_of IsFolded es (named_view done)
    (table_of (λ ts f. IsFolded (nodes_view ts) f) es (groups_view gs) (named_view done) are
    (rows_put (λ ts f. IsFolded (nodes_view ts) f) (λ v. (v.name, v.folded)) gs left done ended all))

pub places_made : (es : List (List ℕ × Pairs)) (gs left : List (Group Pairs)) (done : List PlaceRow) → left ≡ []
    → AreGroupsOf es (groups_view gs)
    → ((more : List (List ℕ × List NamedValue)) → ComeToRows (λ ps vs. ComeToTraits (pairs_views ps) vs) (groups_view left) more
    → ComeToRows (λ ps vs. ComeToTraits (pairs_views ps) vs) (groups_view gs) (places_view done ++ more))
    → ArePlacesOf (placed_view es) done
places_made es gs left done ended are all =
    table_seen pairs_view ComeToTraits es (places_view done)
    (table_of (λ ps vs. ComeToTraits (pairs_views ps) vs) es (groups_view gs) (places_view done) are
    (rows_put (λ ps vs. ComeToTraits (pairs_views ps) vs) (λ r. (r.place, r.traits.items)) gs left done ended all))
