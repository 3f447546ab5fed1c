-- The keys of a map, as a frame takes one more: its place among them, what the others come to, and the fault that stands first in byte
-- order.
use Rattle.std.proofs.Common.{◌≡◌, ◌⊎◌, inl, inr, ℕ, Bool, true, false, ◌||◌, cond, List, [], ◌∷◌, ◌++◌, append-nil, refl, sym, ap, ◌∙◌}
use Rattle.std.proofs.Common.{subst}
use Rattle.std.specs.Prelude.{Ok, Err}
use Rattle.std.specs.BTreeMap.{insert_entry}
use Rattle.std.specs.Cmp.Lexicographic.{slice_cmp}
use Rattle.std.specs.List.Sorted.{IsStrictlySortedBy}
use Rattle.std.specs.Ordering.{nat_cmp, match_ordering, is_eq, is_le}
use Rattle.std.specs.Str.{bytes_eq}
use Rattle.std.specs.declared.cmp.Ordering.{Ordering}
use Rattle.std.specs.declared.cmp.Ordering.TheVariants.{Less, Equal, Greater}
use Rattle.std.proofs.lemmas.Map.Text.{is_eq-slice_cmp}
use Rattle.std.proofs.lemmas.Slice.Eq.{bytes_eq-Decides}
use Rattle.sm_tree.specs.declared.path.Step.TheVariants.{Key}
use Rattle.sm_shapes.specs.Values.{Val}
use Rattle.sm_shapes.specs.Places.{Place, sparse_of, value_place}
use Rattle.sm_codec.specs.Codec.{Codec}
use Rattle.sm_codec.specs.Named.{named, names_of, put_name, in_byte_order}
use Rattle.sm_codec.specs.FaultLists.{FaultAt, Reading, under, first_fault}
use Rattle.sm_codec.specs.Readings.{Child, entry_reading, keyed, pair_faults, keys_faults}
use Rattle.sm_codec.specs.Kept.{AreOf, each_entry, spelled_entries}
use Rattle.sm_codec.specs.steps.MapSteps.{at_key, goes_first, least_at, has_key}
use Rattle.sm_codec.proofs.Joined.{Agree, joined_two, joined_agree}
use Rattle.sm_codec.proofs.KeyOrder.{IsIn, order, IsBefore, InOrder, same_where_equal, less_where_greater, never_before_itself}
use Rattle.sm_codec.proofs.KeyOrder.{before_all, put_in_order, in_put, put_in, ordered, ordered_is, is_ordered, same_order, stands_in}
use Rattle.sm_codec.proofs.KeyOrder.{named_in}
use Rattle.sm_codec.proofs.LeastFault.{HeadGives, least_of_parts}
use Rattle.sm_codec.proofs.MemberNamed.{named_pair}

-- the key compares so to each of these
abbrev pub KeysAt : List ℕ → Ordering → List (List ℕ) → Type 0
KeysAt key o [] = Unit {0}
KeysAt key o (k ∷ ks) = (order key k ≡ o) × KeysAt key o ks

pub at_before : (key : List ℕ) (ks : List (List ℕ)) → IsBefore key ks → KeysAt key Less ks
at_before key [] h = tt
at_before key (k ∷ ks) h = (h.0, at_before key ks h.1)

-- where a key stands among others, or goes
abbrev pub PlacedIn : List ℕ → List (List ℕ) → List (List ℕ) → Type 0
PlacedIn key keys now =
    (before behind : List (List ℕ)) × (now ≡ before ++ key ∷ behind) × KeysAt key Greater before × KeysAt key Less behind
    × ((keys ≡ before ++ key ∷ behind) ⊎ (keys ≡ before ++ behind))

placed_by : (key k : List ℕ) (ks : List (List ℕ)) (o : Ordering) → order key k ≡ o → InOrder (k ∷ ks) → PlacedIn key ks (put_name key ks)
    → PlacedIn key (k ∷ ks) (match_ordering o (key ∷ k ∷ ks) (k ∷ ks) (k ∷ put_name key ks))
unfolding IsStrictlySortedBy
placed_by key k ks Less e h rest = ([], k ∷ ks, refl, tt, (e, at_before key ks (before_all key k ks e h.0)), inr refl)
placed_by key k ks Equal e h rest =
    let same = same_where_equal key k e in
    let all : k ∷ ks ≡ key ∷ ks = ap (λ x. x ∷ ks) (sym same) in
    ([], ks, all, tt, at_before key ks (subst (λ x. IsBefore x ks) (sym same) h.0), inl all)
placed_by key k ks Greater e h rest = (
  k ∷ rest.0,
  rest.1,
  ap (λ xs. k ∷ xs) rest.2,
  (e, rest.3),
  rest.4,
  elim rest.5 [ inl same ↦ inl (ap (λ xs. k ∷ xs) same) | inr same ↦ inr (ap (λ xs. k ∷ xs) same) ],
)

pub placed : (key : List ℕ) (ks : List (List ℕ)) → InOrder ks → PlacedIn key ks (put_name key ks)
unfolding IsStrictlySortedBy
placed key [] h = ([], [], refl, tt, tt, inr refl)
placed key (k ∷ ks) h = placed_by key k ks (order key k) refl h (placed key ks h.1)

-- no key is among those before it and behind it
never_behind_itself : (key k : List ℕ) → key ≡ k → order key k ≡ Greater → ⊥
never_behind_itself key k e h = never_before_itself k key (sym e) (less_where_greater key k h)

pub not_among : (key : List ℕ) (before behind : List (List ℕ)) → KeysAt key Greater before → KeysAt key Less behind
    → IsIn key (before ++ behind)
    → ⊥
not_among key [] [] low high i = i
not_among key [] (k ∷ ks) low high (inl e) = never_before_itself key k e high.0
not_among key [] (k ∷ ks) low high (inr i) = not_among key [] ks tt high.1 i
not_among key (k ∷ ks) behind low high (inl e) = never_behind_itself key k e low.0
not_among key (k ∷ ks) behind low high (inr i) = not_among key ks behind low.1 high i

pub among_these : (key : List ℕ) (before behind : List (List ℕ)) → IsIn key (before ++ key ∷ behind)
among_these key [] behind = inl refl
among_these key (k ∷ ks) behind = inr (among_these key ks behind)

-- a key is seen exactly where it is among them
has_by : (b : Bool) (key k : List ℕ) (ks : List (List ℕ)) → bytes_eq key k ≡ b → (has_key key ks ≡ true → IsIn key ks)
    → (b || has_key key ks) ≡ true → IsIn key (k ∷ ks)
has_by true key k ks e more h = inl ((bytes_eq-Decides key k).0 e)
has_by false key k ks e more h = inr (more h)

pub has_in : (key : List ℕ) (ks : List (List ℕ)) → has_key key ks ≡ true → IsIn key ks
has_in key [] h = absurd cc
has_in key (k ∷ ks) h = has_by (bytes_eq key k) key k ks refl (has_in key ks) h

or_true : (b : Bool) → (b || true) ≡ true
or_true true = refl
or_true false = refl

pub in_has : (key : List ℕ) (ks : List (List ℕ)) → IsIn key ks → has_key key ks ≡ true
in_has key [] i = absurd i
in_has key (k ∷ ks) (inl e) = ap (λ b. b || has_key key ks) ((bytes_eq-Decides key k).1 e)
in_has key (k ∷ ks) (inr i) = ap (λ b. bytes_eq key k || b) (in_has key ks i) ∙ or_true (bytes_eq key k)

-- names with one more behind
is_in_behind : (x name : List ℕ) (names : List (List ℕ)) → IsIn x (names ++ name ∷ []) → (x ≡ name) ⊎ IsIn x names
is_in_behind x name [] (inl e) = inl e
is_in_behind x name [] (inr i) = absurd i
is_in_behind x name (k ∷ names) (inl e) = inr (inl e)
is_in_behind x name (k ∷ names) (inr i) = elim (is_in_behind x name names i) [ inl e ↦ inl e | inr j ↦ inr (inr j) ]

in_behind : (x name : List ℕ) (names : List (List ℕ)) → (x ≡ name) ⊎ IsIn x names → IsIn x (names ++ name ∷ [])
in_behind x name [] (inl e) = inl e
in_behind x name [] (inr i) = absurd i
in_behind x name (k ∷ names) (inl e) = inr (in_behind x name names (inl e))
in_behind x name (k ∷ names) (inr (inl e)) = inl e
in_behind x name (k ∷ names) (inr (inr i)) = inr (in_behind x name names (inr i))

put_behind : (name : List ℕ) (names : List (List ℕ)) → in_byte_order (names ++ name ∷ []) ≡ put_name name (in_byte_order names)
put_behind name names =
    same_order (in_byte_order (names ++ name ∷ [])) (put_name name (in_byte_order names)) (ordered (names ++ name ∷ []))
    (put_in_order name (in_byte_order names) (ordered names))
    (λ z i. put_in z name (in_byte_order names)
    (elim (is_in_behind z name names (ordered_is z (names ++ name ∷ []) i)) [ inl e ↦ inl e | inr j ↦ inr (is_ordered z names j) ]))
    (λ z i. is_ordered z (names ++ name ∷ [])
    (in_behind z name names (elim (in_put z name (in_byte_order names) i) [ inl e ↦ inl e | inr j ↦ inr (ordered_is z names j) ])))

names_behind : (key : List ℕ) (child : Child) (ps : List (List ℕ × Child)) → names_of (ps ++ (key, child) ∷ []) ≡ names_of ps ++ key ∷ []
names_behind key child [] = refl
names_behind key child (p ∷ ps) = ap (λ xs. p.0 ∷ xs) (names_behind key child ps)

pub keys_now : (key : List ℕ) (child : Child) (ps : List (List ℕ × Child))
    → in_byte_order (names_of (ps ++ (key, child) ∷ [])) ≡ put_name key (in_byte_order (names_of ps))
keys_now key child ps = ap in_byte_order (names_behind key child ps) ∙ put_behind key (names_of ps)

-- nothing stands under a key that isn't there, and something under one that is
nothing_by : (key : List ℕ) (ps : List (List ℕ × Child)) (cs : List Child) → named key ps ≡ cs → (IsIn key (names_of ps) → ⊥) → cs ≡ []
nothing_by key ps [] e h = refl
nothing_by key ps (x ∷ xs) e h = absurd (h (named_in key ps x xs e))

pub nothing_under : (key : List ℕ) (ps : List (List ℕ × Child)) → (IsIn key (names_of ps) → ⊥) → named key ps ≡ []
nothing_under key ps h = nothing_by key ps (named key ps) refl h

something_by : (key : List ℕ) (ps : List (List ℕ × Child)) (cs : List Child) → named key ps ≡ cs → IsIn key (names_of ps)
    → (x : Child) × (xs : List Child) × (cs ≡ x ∷ xs)
something_by key ps [] e i = absurd (stands_in key ps i e)
something_by key ps (x ∷ xs) e i = (x, xs, refl)

pub something_under : (key : List ℕ) (ps : List (List ℕ × Child)) → IsIn key (names_of ps)
    → (x : Child) × (xs : List Child) × (named key ps ≡ x ∷ xs)
something_under key ps i = something_by key ps (named key ps) refl i

-- the same stands under each of these
abbrev pub SameUnder : List (List ℕ × Child) → List (List ℕ × Child) → List (List ℕ) → Type 0
SameUnder qs ps ks = Agree (λ k. named k qs) (λ k. named k ps) ks

module _ (key : List ℕ) (child : Child) (ps : List (List ℕ × Child)) where
  abbrev qs : List (List ℕ × Child)
  qs = ps ++ (key, child) ∷ []

  pub under_key : named key qs ≡ named key ps ++ child ∷ []
  under_key = named_pair key key child ps ∙ ap (λ b. named key ps ++ cond b (child ∷ []) []) ((bytes_eq-Decides key key).1 refl)

  pub same_under : (o : Ordering) (ks : List (List ℕ)) → is_eq o ≡ false → KeysAt key o ks → SameUnder qs ps ks
  same_under o [] apart h = tt
  same_under o (k ∷ ks) apart h = (
    named_pair k key child ps
        ∙ ap (λ b. named k ps ++ cond b (child ∷ []) []) (sym (is_eq-slice_cmp key k) ∙ ap is_eq h.0 ∙ apart)
        ∙ append-nil (named k ps),
    same_under o ks apart h.1,
  )

module _ (c : Codec) (p : Place) (ps : List (List ℕ × Child)) where
  pub faults_joined : (ks js : List (List ℕ)) → keys_faults c p ps (ks ++ js) ≡ keys_faults c p ps ks ++ keys_faults c p ps js
  faults_joined ks js = joined_two (λ k. under (Key k) (pair_faults c p k (named k ps))) (keys_faults c p ps) (refl, λ k ms. refl) ks js

  pub entries_joined : (ks js : List (List ℕ)) → spelled_entries c p ps (ks ++ js) ≡ spelled_entries c p ps ks ++ spelled_entries c p ps js
  entries_joined ks js = joined_two (λ k. each_entry c p k (named k ps)) (spelled_entries c p ps) (refl, λ k ms. refl) ks js

  pub faults_same : (qs : List (List ℕ × Child)) (ks : List (List ℕ)) → SameUnder qs ps ks → keys_faults c p qs ks ≡ keys_faults c p ps ks
  faults_same qs ks h =
      joined_agree (λ k cs. under (Key k) (pair_faults c p k cs)) (λ k. named k qs) (λ k. named k ps) (keys_faults c p qs)
      (keys_faults c p ps)
      (refl, λ k ms. refl) (refl, λ k ms. refl) ks h

  pub entries_same : (qs : List (List ℕ × Child)) (ks : List (List ℕ)) → SameUnder qs ps ks
      → spelled_entries c p qs ks ≡ spelled_entries c p ps ks
  entries_same qs ks h =
      joined_agree (λ k cs. each_entry c p k cs) (λ k. named k qs) (λ k. named k ps) (spelled_entries c p qs) (spelled_entries c p ps)
      (refl, λ k ms. refl) (refl, λ k ms. refl) ks h

-- entries under keys to which one compares so
abbrev pub EntriesAt : List ℕ → Ordering → List (List ℕ × Val) → Type 0
EntriesAt key o [] = Unit {0}
EntriesAt key o (e ∷ es) = (order key e.0 ≡ o) × EntriesAt key o es

pub at_joined : (key : List ℕ) (o : Ordering) (es hs : List (List ℕ × Val)) → EntriesAt key o es → EntriesAt key o hs
    → EntriesAt key o (es ++ hs)
at_joined key o [] hs h g = g
at_joined key o (e ∷ es) hs h g = (h.0, at_joined key o es hs h.1 g)

pub at_of : (key : List ℕ) (o : Ordering) (es hs : List (List ℕ × Val)) → AreOf es hs → EntriesAt key o hs → EntriesAt key o es
at_of key o [] hs h g = tt
at_of key o (e ∷ es) [] h g = absurd h
at_of key o (e ∷ es) (x ∷ hs) (inl h) g = (subst (λ y. order key y.0 ≡ o) (sym h.0) g.0, at_of key o es hs h.1 g.1)
at_of key o (e ∷ es) (x ∷ hs) (inr h) g = at_of key o (e ∷ es) hs h g.1

at_keyed : (key k : List ℕ) (o : Ordering) (r : Reading) → order key k ≡ o → EntriesAt key o (keyed k r)
at_keyed key k o (Ok v) h = (h, tt)
at_keyed key k o (Err fs) h = tt

module _ (c : Codec) (p : Place) where
  at_each : (key k : List ℕ) (o : Ordering) (cs : List Child) → order key k ≡ o → EntriesAt key o (each_entry c p k cs)
  at_each key k o [] h = tt
  at_each key k o (x ∷ cs) h =
      let r = entry_reading (sparse_of c.table p) (value_place c.table p) x in
      at_joined key o (keyed k r) (each_entry c p k cs) (at_keyed key k o r h) (at_each key k o cs h)

  pub at_spelled : (key : List ℕ) (o : Ordering) (ps : List (List ℕ × Child)) (ks : List (List ℕ)) → KeysAt key o ks
      → EntriesAt key o (spelled_entries c p ps ks)
  at_spelled key o ps [] h = tt
  at_spelled key o ps (k ∷ ks) h =
      at_joined key o (each_entry c p k (named k ps)) (spelled_entries c p ps ks) (at_each key k o (named k ps) h.0)
      (at_spelled key o ps ks h.1)

  pub each_joined : (key : List ℕ) (cs ds : List Child) → each_entry c p key (cs ++ ds) ≡ each_entry c p key cs ++ each_entry c p key ds
  each_joined key cs ds =
      joined_two (λ x. keyed key (entry_reading (sparse_of c.table p) (value_place c.table p) x)) (each_entry c p key)
      (refl, λ x xs. refl) cs ds

-- an entry that is put goes behind those before it
module _ (key : List ℕ) (v : Val) where
  pub insert_past : (es hs : List (List ℕ × Val)) → EntriesAt key Greater es
      → insert_entry (slice_cmp nat_cmp) (es ++ hs) key v ≡ es ++ insert_entry (slice_cmp nat_cmp) hs key v
  insert_past [] hs h = refl
  insert_past (e ∷ es) hs h =
      ap (λ o. match_ordering o ((key, v) ∷ e ∷ (es ++ hs)) ((e.0, v) ∷ (es ++ hs))
      (e ∷ insert_entry (slice_cmp nat_cmp) (es ++ hs) key v)) h.0
      ∙ ap (λ xs. e ∷ xs) (insert_past es hs h.1)

  pub insert_first : (hs : List (List ℕ × Val)) → EntriesAt key Less hs → insert_entry (slice_cmp nat_cmp) hs key v ≡ (key, v) ∷ hs
  insert_first [] h = refl
  insert_first (e ∷ hs) h =
      ap (λ o. match_ordering o ((key, v) ∷ e ∷ hs) ((e.0, v) ∷ hs) (e ∷ insert_entry (slice_cmp nat_cmp) hs key v)) h.0

  pub insert_between : (es hs : List (List ℕ × Val)) → EntriesAt key Greater es → EntriesAt key Less hs
      → insert_entry (slice_cmp nat_cmp) (es ++ hs) key v ≡ es ++ (key, v) ∷ hs
  insert_between es hs h g = insert_past es hs h ∙ ap (λ xs. es ++ xs) (insert_first hs g)

-- the first fault of keys before one stays, and of it and those behind it gives way
pub first_own : (key k : List ℕ) (b : Bool) (own rest : List FaultAt) → is_le (order key k) ≡ b → HeadGives (goes_first key) b rest
    → HeadGives (goes_first key) b (under (Key k) own ++ rest)
first_own key k b [] rest e h = h
first_own key k b (f ∷ own) rest e h = e

pub first_at : (c : Codec) (p : Place) (ps : List (List ℕ × Child)) (key : List ℕ) (o : Ordering) (b : Bool) (ks : List (List ℕ))
    → is_le o ≡ b
    → KeysAt key o ks → HeadGives (goes_first key) b (keys_faults c p ps ks)
first_at c p ps key o b [] e h = tt
first_at c p ps key o b (k ∷ ks) e h =
    first_own key k b (pair_faults c p k (named k ps)) (keys_faults c p ps ks) (ap is_le h.0 ∙ e) (first_at c p ps key o b ks e h.1)

-- so the first fault of all is kept, where the key has one now
not_after_itself : (key : List ℕ) (o : Ordering) → order key key ≡ o → is_le o ≡ true
not_after_itself key Less e = refl
not_after_itself key Equal e = refl
not_after_itself key Greater e = absurd (never_behind_itself key key refl e)

pub least_of_keys : (key : List ℕ) (new : FaultAt) (fs more own gs : List FaultAt) → HeadGives (goes_first key) false fs
    → HeadGives (goes_first key) true gs
    → first_fault (fs ++ ((at_key key new ∷ more) ++ gs)) ≡ least_at key new (first_fault (fs ++ (under (Key key) own ++ gs)))
least_of_keys key new fs more own gs low high =
    least_of_parts (goes_first key) (at_key key new) more (under (Key key) own) fs gs low
    (first_own key key true own gs (not_after_itself key (order key key) refl) high)
