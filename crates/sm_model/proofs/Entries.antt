-- What a row stands for, by what it is.
use Rattle.std.proofs.Common.{◌≡◌, ℕ, ◌<◌, nat_lt, zero, suc, Bool, true, List, [], ◌∷◌, length, map, get_or, Some, None, Option, sym, ap}
use Rattle.std.proofs.Common.{◌∙◌, subst, refl}
use Rattle.std.specs.Prelude.{IsSomeAnd, MatchOption, slice_get}
use Rattle.std.specs.Bool.{passes}
use Rattle.std.specs.Option.{option_map}
use Rattle.std.specs.FinMap as fin
use Rattle.std.specs.FinMap.{entries-from_sorted, get-from_sorted, find, is_sorted}
use Rattle.std.specs.List.{HoldsAt, list_all}
use Rattle.std.specs.List.Sorted.{IsNonDecreasingBy, IsPartitionPoint}
use Rattle.std.specs.Ordering.{ordering_index}
use Rattle.std.specs.declared.cmp.Ordering.TheVariants.{Less, Equal, Greater}
use Rattle.std.proofs.lemmas.List.{length-map}
use Rattle.std.proofs.lemmas.Option.{slice_get-map}
use Rattle.sm_tree.specs.Node.{Node}
use Rattle.sm_tree.specs.View.{pairs_view}
use Rattle.sm_model.specs.Graphs.{text_cmp, NodeMap, traits_in, Entry}
use Rattle.sm_model.specs.GraphRows.{are_below, entry_view, is_member_row, is_sound_row, members_are_below, members_kept, row_entry}
use Rattle.sm_model.specs.GraphView.{AreShapeNumbers, At, HasMembers, is_member_entry, Stands, entries_of, ids, maps_of}
use Rattle.sm_model.specs.declared.graph.Graph.{Graph}
use Rattle.sm_model.specs.declared.graph.rows.GraphRow.{GraphRow}
use Rattle.sm_model.specs.declared.graph.rows.RowEntry.{RowEntry}
use Rattle.sm_model.specs.declared.graph.rows.RowEntry.TheVariants.{Shape, Member}
use Rattle.sm_model.proofs.MoreRows.{is_less}
use Rattle.sm_model.proofs.Searching.{and_left, and_right, rises, found_at, found_nowhere}

pub member_viewed : (ids : List (List ℕ)) (traits : NodeMap) (e : RowEntry) → is_member_entry (entry_view ids traits e) ≡ is_member_row e
member_viewed ids traits (Shape s) = refl
member_viewed ids traits (Member target) = refl

pub members_viewed : (ids : List (List ℕ)) (traits : NodeMap) (e : RowEntry)
    → HasMembers (map (λ k. get_or ids k []) (members_kept e)) (entry_view ids traits e)
members_viewed ids traits (Shape s) = refl
members_viewed ids traits (Member target) = refl

-- what stands at a number is what its row stands for
pub at_row : (g : Graph) (s : ℕ) (r : GraphRow) → IsSomeAnd (slice_get g.rows.items s) (λ x. r ≡ x) → (Is : List ℕ → Entry → Type 0)
    → Is (row_entry (ids g) r).0 (row_entry (ids g) r).1 → At g s Is
at_row g s r at Is is =
    subst (λ o. IsSomeAnd o (λ e. Is e.0 e.1)) (sym (slice_get-map (row_entry (ids g)) g.rows.items s))
    (mapped (slice_get g.rows.items s) at)
  where
    mapped : (o : Option GraphRow) → IsSomeAnd o (λ x. r ≡ x) → IsSomeAnd (option_map (row_entry (ids g)) o) (λ e. Is e.0 e.1)
    mapped None h = h
    mapped (Some x) h = subst (λ y. Is (row_entry (ids g) y).0 (row_entry (ids g) y).1) h is

-- what a search for an id among the rows comes to
pub found_number : (g : Graph) (q : List ℕ) (i : ℕ) → i < length g.rows.items → HoldsAt (λ r. text_cmp r.id q ≡ Equal) g.rows.items i
    → Stands g i q
found_number g q i lt tied =
    let es = entries_of g in
    let sorted = and_left (is_sorted text_cmp es) _ g.sound in
    subst (λ v. IsSomeAnd (slice_get es i) (λ e. (e.0 ≡ q) × (v ≡ Some e.1)))
    (sym (get-from_sorted text_cmp es q (passes _ sorted)))
    (found_at (row_entry (ids g)) g.rows.items sorted q i lt tied)

pub found_no_number : (g : Graph) (q : List ℕ) (i : ℕ)
    → (IsNonDecreasingBy (λ r. ordering_index (text_cmp r.id q)) g.rows.items
    → IsPartitionPoint (λ r. text_cmp r.id q ≡ Less) (λ r. text_cmp r.id q ≡ Greater) g.rows.items i)
    → fin.get (maps_of g).shapes q ≡ None
found_no_number g q i parted =
    let es = entries_of g in
    let sorted = and_left (is_sorted text_cmp es) _ g.sound in
    get-from_sorted text_cmp es q (passes _ sorted)
    ∙ found_nowhere (row_entry (ids g)) g.rows.items q i (parted (rises (row_entry (ids g)) g.rows.items sorted q))

-- what holds of each row holds of the row at a number
all_at : {X : Type 0} (q : X → Bool) (xs : List X) → list_all q xs ≡ true → (n : ℕ) (r : X) → IsSomeAnd (slice_get xs n) (λ x. r ≡ x)
    → q r ≡ true
all_at q [] h n r at = absurd at
all_at q (x ∷ xs) h zero r at = ap q at ∙ and_left (q x) _ h
all_at q (x ∷ xs) h (suc n) r at = all_at q xs (and_right (q x) _ h) n r at

pub traits_sorted : (g : Graph) (s : ℕ) (r : GraphRow) → IsSomeAnd (slice_get g.rows.items s) (λ x. r ≡ x)
    → is_sorted text_cmp (pairs_view r.traits) ≡ true
traits_sorted g s r at =
    let rows = g.rows.items in
    let each = and_right (is_sorted text_cmp (entries_of g)) (list_all (is_sound_row (length rows)) rows) g.sound in
    and_left _ _ (all_at (is_sound_row (length rows)) rows each s r at)

traits_viewed : (ids : List (List ℕ)) (traits : NodeMap) (e : RowEntry) → traits_in (entry_view ids traits e) ≡ traits
traits_viewed ids traits (Shape s) = refl
traits_viewed ids traits (Member target) = refl

-- the value of a trait is what stands under its id among the row's pairs
pub trait_found : {T : Type 0} (node : T → Node) (g : Graph) (s : ℕ) (r : GraphRow) → IsSomeAnd (slice_get g.rows.items s) (λ x. r ≡ x)
    → (ps : List (List ℕ × Node)) → ps ≡ pairs_view r.traits → (q : List ℕ) (found : Option T)
    → MatchOption found (find text_cmp q ps ≡ None) (λ t. find text_cmp q ps ≡ Some (node t))
    → At g s (λ i e. MatchOption found (fin.get (traits_in e) q ≡ None) (λ t. fin.get (traits_in e) q ≡ Some (node t)))
trait_found node g s r at ps same q found h =
    at_row g s r at (λ i e. MatchOption found (fin.get (traits_in e) q ≡ None) (λ t. fin.get (traits_in e) q ≡ Some (node t)))
    (subst (λ v. MatchOption found (v ≡ None) (λ t. v ≡ Some (node t)))
    (ap (find text_cmp q) same ∙ sym (get-from_sorted text_cmp (pairs_view r.traits) q (passes _ (traits_sorted g s r at)))
    ∙ ap (λ m. fin.get m q) (sym (traits_viewed (ids g) _ r.entry))) h)

-- the traits of what stands at a number, in order
pub traits_at : (g : Graph) (s : ℕ) (r : GraphRow) → IsSomeAnd (slice_get g.rows.items s) (λ x. r ≡ x) → (ps : List (List ℕ × Node))
    → ps ≡ pairs_view r.traits → At g s (λ id e. fin.entries (traits_in e) ≡ ps)
traits_at g s r at ps same =
    at_row g s r at (λ id e. fin.entries (traits_in e) ≡ ps)
    (ap fin.entries (traits_viewed (ids g) _ r.entry)
    ∙ entries-from_sorted text_cmp (pairs_view r.traits) (passes _ (traits_sorted g s r at)) ∙ sym same)

-- the metadata, in order
pub metadata_in_order : (g : Graph) → fin.entries (maps_of g).metadata ≡ pairs_view g.metadata
metadata_in_order g = entries-from_sorted text_cmp (pairs_view g.metadata) (passes _ g.sorted)

-- the members of a shape are rows
each_number : (g : Graph) (ks : List ℕ) → are_below (length g.rows.items) ks ≡ true → AreShapeNumbers g ks
each_number g [] h = tt
each_number g (k ∷ ks) h = (
  subst (λ n. k < n) (sym (length-map g.rows.items (row_entry (ids g)))) (is_less k (length g.rows.items) (and_left _ _ h)),
  each_number g ks (and_right (nat_lt k (length g.rows.items)) _ h),
)

kept_below : (n : ℕ) (e : RowEntry) → members_are_below n e ≡ true → are_below n (members_kept e) ≡ true
kept_below n (Shape s) h = h
kept_below n (Member target) h = refl

pub members_numbered : (g : Graph) (s : ℕ) (r : GraphRow) → IsSomeAnd (slice_get g.rows.items s) (λ x. r ≡ x)
    → AreShapeNumbers g (members_kept r.entry)
members_numbered g s r at =
    let rows = g.rows.items in
    let each = and_right (is_sorted text_cmp (entries_of g)) (list_all (is_sound_row (length rows)) rows) g.sound in
    each_number g (members_kept r.entry) (kept_below (length rows) r.entry
    (and_right (is_sorted text_cmp (pairs_view r.traits)) _ (all_at (is_sound_row (length rows)) rows each s r at)))
