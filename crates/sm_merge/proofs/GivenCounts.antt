-- How many shapes and members there are among the entries of shapes, and how much their traits count.
use Rattle.std.proofs.Common.{◌≡◌, ◌⊎◌, inl, inr, ℕ, zero, suc, ◌+◌, ◌<◌, true, false, cond, List, [], ◌∷◌, ◌++◌, filter, map, length}
use Rattle.std.proofs.Common.{IsPermutation, refl, sym, ap, subst, ◌∙◌, arith, append-nil, length-append}
use Rattle.std.specs.Prelude.{not}
use Rattle.std.specs.FinMap as fin
use Rattle.std.specs.List.{Any, list_any, sum_by}
use Rattle.std.proofs.Common.{bytes_eq}
use Rattle.std.proofs.lemmas.Bool.{cases_Bool, or_cases, true≢false}
use Rattle.std.proofs.lemmas.List.{length-map}
use Rattle.std.proofs.lemmas.List.Elements.{filter-append}
use Rattle.std.proofs.lemmas.List.Sorted.{sum_by-IsPermutation}
use Rattle.std.proofs.lemmas.List.Sums.{sum_by-append, sum_by-cons}
use Rattle.std.proofs.lemmas.Slice.Eq.{bytes_eq-Decides}
use Rattle.sm_tree.specs.Node.{Node}
use Rattle.sm_tree.specs.Size.{node_size}
use Rattle.sm_model.specs.Formed.{StandsAmong, DifferInNames}
use Rattle.sm_model.specs.Given.{AreGivenMembers, AreGivenShapes, IsGivenShape, IsNodeMap, given_ids}
use Rattle.sm_model.specs.Graphs.{Entry, MemberGiven, ShapeGiven, given_entries, given_member, given_members, given_shape, graph_of}
use Rattle.sm_model.specs.Graphs.{member_id, shape_entry, traits_in}
use Rattle.sm_model.specs.PreludeShapes.{is_prelude_id, prelude_shapes}
use Rattle.sm_model.proofs.MapFacts.{keys}
use Rattle.sm_merge.specs.Limits.{is_own, members_in, own_entries, shapes_in, traits_size}
use Rattle.sm_merge.specs.Limits.{most_members}
use Rattle.sm_merge.specs.steps.Made.{members_size, pairs_size, shape_size, shapes_size}
use Rattle.sm_merge.proofs.EntriesMoved.{entries_moved, filter_moved}
use Rattle.sm_merge.proofs.EntryKeys.{keys_joined}
use Rattle.sm_merge.proofs.NamesOnce.{names_apart, stands_behind}
use Rattle.sm_merge.proofs.OneMerged.{none_own, prelude_ids}
use Rattle.sm_merge.proofs.WholeGraph.{entries_joined}

abbrev Entries : Type 0
Entries = List (List ℕ × Entry)

-- what an entry counts for
abbrev one_shape : List ℕ × Entry → ℕ
one_shape e = shapes_in e.1

abbrev its_members : List ℕ × Entry → ℕ
its_members e = members_in e.1

abbrev pub its_size : List ℕ × Entry → ℕ
its_size e = traits_size (traits_in e.1)

none_counted : (f : List ℕ × Entry → ℕ) → ((shape : List ℕ) (m : MemberGiven) → f (given_member shape m) ≡ 0) → (shape : List ℕ)
    (ms : List MemberGiven) → sum_by f (given_members shape ms) ≡ 0
none_counted f none shape [] = refl
none_counted f none shape (m ∷ ms) =
    sum_by-cons f (given_member shape m) (given_members shape ms) ∙ (λ i. none shape m i + none_counted f none shape ms i)

nothing_more : (n : ℕ) → n + 0 ≡ n
nothing_more n = omega arith

-- shapes
abbrev head_entry : ShapeGiven → List ℕ × Entry
head_entry s = (
  s.id,
  shape_entry (record {
    kind = s.kind;
    members = map (λ m. member_id s.id m.name) s.members;
    properties = s.properties;
    traits = fin.from_entries s.traits;
  }),
)

pub shapes_counted : (gs : List ShapeGiven) → sum_by one_shape (given_entries gs) ≡ length gs
shapes_counted [] = refl
shapes_counted (s ∷ gs) =
    let block : sum_by one_shape (given_shape s) ≡ 1 =
    sum_by-cons one_shape (head_entry s) (given_members s.id s.members)
    ∙ ap (λ n. 1 + n) (none_counted one_shape (λ shape m. refl) s.id s.members) in
    let longer : 1 + length gs ≡ length (s ∷ gs) = omega arith in
    sum_by-append one_shape (given_shape s) (given_entries gs) ∙ (λ i. block i + shapes_counted gs i) ∙ longer

-- members
abbrev pub member_count : ShapeGiven → ℕ
member_count s = length s.members

members_of_one : (s : ShapeGiven) → sum_by its_members (given_shape s) ≡ length s.members
members_of_one s =
    sum_by-cons its_members (head_entry s) (given_members s.id s.members)
    ∙ ap (λ n. length (map (λ m. member_id s.id m.name) s.members) + n) (none_counted its_members (λ shape m. refl) s.id s.members)
    ∙ nothing_more (length (map (λ m. member_id s.id m.name) s.members)) ∙ length-map s.members (λ m. member_id s.id m.name)

pub members_counted : (gs : List ShapeGiven) → sum_by its_members (given_entries gs) ≡ sum_by member_count gs
members_counted [] = refl
members_counted (s ∷ gs) =
    sum_by-append its_members (given_shape s) (given_entries gs) ∙ (λ i. members_of_one s i + members_counted gs i)
    ∙ sym (sum_by-cons member_count s gs)

-- all entries
pub entries_counted : (gs : List ShapeGiven) → length (given_entries gs) ≡ length gs + sum_by member_count gs
entries_counted [] = refl
entries_counted (s ∷ gs) =
    let rest = entries_counted gs in
    let both = length-append (given_shape s) (given_entries gs) in
    let members = length-map s.members (given_member s.id) in
    let count = sum_by-cons member_count s gs in
    omega (arith, rest, both, members, count)

-- traits
pairs_summed : (ps : List (List ℕ × Node)) → sum_by (λ p. node_size p.1) ps ≡ pairs_size ps
pairs_summed [] = refl
pairs_summed (p ∷ ps) =
    sum_by-cons (λ (q : List ℕ × Node). node_size q.1) p ps ∙ ap (λ n. node_size p.1 + n) (pairs_summed ps)

pairs_counted : (ps : List (List ℕ × Node)) → IsNodeMap ps → traits_size (fin.from_entries ps) ≡ pairs_size ps
pairs_counted ps h =
    sum_by-IsPermutation (λ (p : List ℕ × Node). node_size p.1) ps (fin.entries (fin.from_entries ps)) (entries_moved ps h.differ)
    ∙ pairs_summed ps

sizes_of_members : (shape : List ℕ) (ms : List MemberGiven) → AreGivenMembers ms
    → sum_by its_size (given_members shape ms) ≡ members_size ms
sizes_of_members shape [] h = refl
sizes_of_members shape (m ∷ ms) h =
    sum_by-cons its_size (given_member shape m) (given_members shape ms)
    ∙ (λ i. pairs_counted m.traits h.2 i + sizes_of_members shape ms h.3 i)

sizes_of_one : (s : ShapeGiven) → IsGivenShape s → sum_by its_size (given_shape s) ≡ shape_size s
sizes_of_one s h =
    sum_by-cons its_size (head_entry s) (given_members s.id s.members)
    ∙ (λ i. pairs_counted s.traits h.traits i + sizes_of_members s.id s.members h.members i)

pub sizes_counted : (gs : List ShapeGiven) → AreGivenShapes gs → sum_by its_size (given_entries gs) ≡ shapes_size gs
sizes_counted [] h = refl
sizes_counted (s ∷ gs) h =
    sum_by-append its_size (given_shape s) (given_entries gs) ∙ (λ i. sizes_of_one s h.0 i + sizes_counted gs h.1 i)

-- some entry
module _ {X : Type 0} (P : X → Type 0) where
  pub any_first : (x : X) (xs : List X) → P x → Any P (x ∷ xs)
  any_first x xs h = let inside : 0 < length (x ∷ xs) = omega arith in (0, x, inside, refl, h)

  pub any_later : (x : X) (xs : List X) → Any P xs → Any P (x ∷ xs)
  any_later x xs (k, y, inside, at, holds) =
      let more : suc k < length (x ∷ xs) = omega (arith, inside) in (suc k, y, more, at, holds)

  pub any_either : (x : X) (xs : List X) → Any P (x ∷ xs) → P x ⊎ Any P xs
  any_either x xs (zero, y, inside, at, holds) = inl (subst P (sym at) holds)
  any_either x xs (suc k, y, inside, at, holds) =
      let less : k < length xs = omega (arith, inside) in inr (k, y, less, at, holds)

  any_behind : (xs ys : List X) → Any P ys → Any P (xs ++ ys)
  any_behind [] ys h = h
  any_behind (x ∷ xs) ys h = any_later x (xs ++ ys) (any_behind xs ys h)

  pub none_in : Any P [] → ⊥
  none_in (k, y, inside, at, holds) = omega (arith, inside)

abbrev HasMany : List ℕ × Entry → Type 0
HasMany e = most_members < members_in e.1

-- a shape with more members than one may have
abbrev pub SomeHaveMany : List ShapeGiven → Type 0
SomeHaveMany [] = ⊥
SomeHaveMany (s ∷ gs) = (most_members < length s.members) ⊎ SomeHaveMany gs

many_members : (s : ShapeGiven) → length (map (λ m. member_id s.id m.name) s.members) ≡ length s.members
many_members s = length-map s.members (λ m. member_id s.id m.name)

not_of_members : (shape : List ℕ) (ms : List MemberGiven) (es : Entries) → Any HasMany (given_members shape ms ++ es) → Any HasMany es
not_of_members shape [] es h = h
not_of_members shape (m ∷ ms) es h = elim (any_either HasMany (given_member shape m) (given_members shape ms ++ es) h) [
  | inl here ↦ absurd (omega (arith, here))
  | inr later ↦ not_of_members shape ms es later
]

pub any_many : (gs : List ShapeGiven) → Any HasMany (given_entries gs) → SomeHaveMany gs
any_many [] h = none_in HasMany h
any_many (s ∷ gs) h =
    elim (any_either HasMany (head_entry s) (given_members s.id s.members ++ given_entries gs) h) [
      | inl here ↦ inl (subst (λ n. most_members < n) (many_members s) here)
      | inr later ↦ inr (any_many gs (not_of_members s.id s.members (given_entries gs) later))
    ]

pub many_any : (gs : List ShapeGiven) → SomeHaveMany gs → Any HasMany (given_entries gs)
many_any [] h = absurd h
many_any (s ∷ gs) (inl here) =
    any_first HasMany (head_entry s) (given_members s.id s.members ++ given_entries gs)
    (subst (λ n. most_members < n) (sym (many_members s)) here)
many_any (s ∷ gs) (inr later) = any_behind HasMany (given_shape s) (given_entries gs) (many_any gs later)

-- what a graph has outside of the prelude is the entries of its own shapes
stands_by : (k : List ℕ) (ks : List (List ℕ)) → list_any (bytes_eq k) ks ≡ true → StandsAmong k ks
stands_by k [] h = absurd (true≢false (sym h))
stands_by k (j ∷ js) h = elim (or_cases (bytes_eq k j) (list_any (bytes_eq k) js) h) [
  | inl same ↦ inl ((bytes_eq-Decides k j).0 same)
  | inr later ↦ inr (stands_by k js later)
]

ids_are_keys : (k : List ℕ) (gs : List ShapeGiven) → StandsAmong k (given_ids gs) → StandsAmong k (keys (given_entries gs))
ids_are_keys k [] h = h
ids_are_keys k (s ∷ gs) (inl same) = inl same
ids_are_keys k (s ∷ gs) (inr h) =
    subst (StandsAmong k) (sym (keys_joined (given_shape s) (given_entries gs)))
    (stands_behind k (keys (given_shape s)) (keys (given_entries gs)) (ids_are_keys k gs h))

all_own : (es : Entries) → ((k : List ℕ) → StandsAmong k (keys es) → is_prelude_id k ≡ false) → filter is_own es ≡ es
all_own [] h = refl
all_own (e ∷ es) h =
    ap (λ b. cond (not b) (e ∷ filter is_own es) (filter is_own es)) (h e.0 (inl refl))
    ∙ ap (λ l. e ∷ l) (all_own es (λ k later. h k (inr later)))

module _ (own : List ShapeGiven) (differ : DifferInNames (keys (given_entries (own ++ prelude_shapes)))) where
  joined : given_entries (own ++ prelude_shapes) ≡ given_entries own ++ given_entries prelude_shapes
  joined = entries_joined own prelude_shapes

  outside : (k : List ℕ) → StandsAmong k (keys (given_entries own)) → is_prelude_id k ≡ false
  outside k among = elim (cases_Bool (is_prelude_id k)) [
    | inr no_prelude ↦ no_prelude
    | inl is ↦ absurd (names_apart (keys (given_entries own)) (keys (given_entries prelude_shapes))
        (subst DifferInNames (ap keys joined ∙ keys_joined (given_entries own) (given_entries prelude_shapes)) differ) k among
        (ids_are_keys k prelude_shapes (stands_by k (given_ids prelude_shapes) is)))
  ]

  own_kept : filter is_own (given_entries (own ++ prelude_shapes)) ≡ given_entries own
  own_kept =
      ap (filter is_own) joined ∙ filter-append is_own (given_entries own) (given_entries prelude_shapes)
      ∙ (λ i. all_own (given_entries own) outside i ++ none_own (given_entries prelude_shapes) prelude_ids i)
      ∙ append-nil (given_entries own)

  pub own_moved : (metadata : List (List ℕ × Node))
      → IsPermutation (given_entries own) (own_entries (graph_of (own ++ prelude_shapes) metadata))
  own_moved metadata =
      subst (λ es. IsPermutation es (own_entries (graph_of (own ++ prelude_shapes) metadata))) own_kept
      (filter_moved is_own (given_entries (own ++ prelude_shapes)) _ (entries_moved (given_entries (own ++ prelude_shapes)) differ))
