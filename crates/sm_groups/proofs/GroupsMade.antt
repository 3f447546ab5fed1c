-- Rows that a stable sort has put into the order of their texts, gathered: what stands under a text is what stood there before.
use Rattle.std.proofs.Common.{◌≡◌, ◌+◌, inl, inr, ℕ, suc, Bool, true, false, cond, List, [], ◌∷◌, ◌++◌, map, get_or, filter, Some, None}
use Rattle.std.proofs.Common.{IsPermutation, IsSortedBy, refl, sym, ap, subst, ◌∙◌, arith, append_assoc, bytes_eq}
use Rattle.std.specs.Prelude.{◌&&◌, not, if◌then◌else◌}
use Rattle.std.specs.List.{cons_option}
use Rattle.std.specs.List.Sorted.{ties, IsStableBy}
use Rattle.std.specs.Option.{unwrap_or}
use Rattle.std.specs.FinMap.{slice_cmp-IsAntisymmetric, nat_cmp-IsAntisymmetric}
use Rattle.std.specs.FinMap.Entries.{find}
use Rattle.std.specs.Cmp.{tied_itself}
use Rattle.std.specs.Cmp.Lexicographic.{nat_list_cmp_total}
use Rattle.std.specs.Ordering.{is_lt, is_eq, ordering_reverse}
use Rattle.std.specs.declared.cmp.Ordering.{Ordering}
use Rattle.std.specs.declared.cmp.Ordering.TheVariants.{Less, Equal, Greater}
use Rattle.std.proofs.lemmas.Bool.{cases_Bool, true≢false}
use Rattle.std.proofs.lemmas.Slice.Eq.{bytes_eq-Decides}
use Rattle.std.proofs.lemmas.List.Sorted.{length_permutation}
use Rattle.sm_model.specs.Graphs.{text_cmp}
use Rattle.sm_model.specs.steps.Rising.{IsBelow, Rise}
use Rattle.sm_groups.specs.Groups.{AreGroupsOf, all_under, group_view, grouped, groups_view, if_under, resumed, resumed_by}
use Rattle.sm_groups.specs.declared.groups.Group.{Group}

-- texts that tie are one text, by either test
same_text : (a b : List ℕ) → text_cmp a b ≡ Equal → a ≡ b
same_text a b e = slice_cmp-IsAntisymmetric nat_cmp-IsAntisymmetric a b e

pub tie_itself : (a : List ℕ) → text_cmp a a ≡ Equal
tie_itself a = tied_itself nat_list_cmp_total a

apart_tests : (a b : List ℕ) (r : Ordering) → text_cmp a b ≡ r → (a ≡ b → ⊥) → is_eq r ≡ false
apart_tests a b Less e apart = refl
apart_tests a b Equal e apart = absurd (apart (same_text a b e))
apart_tests a b Greater e apart = refl

pub tests : (a b : List ℕ) → is_eq (text_cmp a b) ≡ bytes_eq b a
tests a b = elim (cases_Bool (bytes_eq b a)) [
  | inl is ↦ ap is_eq (ap (text_cmp a) ((bytes_eq-Decides b a).0 is) ∙ tie_itself a) ∙ sym is
  | inr not ↦
      apart_tests a b (text_cmp a b) refl (λ e. true≢false (sym ((bytes_eq-Decides b a).1 (sym e)) ∙ not)) ∙ sym not
]

pub ties_tests : (r : Ordering) → (not (is_lt r) && not (is_lt (ordering_reverse r))) ≡ is_eq r
ties_tests Less = refl
ties_tests Equal = refl
ties_tests Greater = refl

pub less : (a b : List ℕ) (r : Ordering) → text_cmp a b ≡ r → is_lt (text_cmp b a) ≡ false → bytes_eq a b ≡ false → r ≡ Less
less a b Less e h apart = refl
less a b Equal e h apart = absurd (true≢false (sym ((bytes_eq-Decides a b).1 (same_text a b e)) ∙ apart))
less a b Greater e h apart = absurd (true≢false (sym (ap is_lt (nat_list_cmp_total.antisymm b a ∙ ap ordering_reverse e)) ∙ h))

pub below_all_of : (a b : List ℕ) (ks : List (List ℕ)) → text_cmp a b ≡ Less → IsBelow b ks → IsBelow a ks
below_all_of a b [] h below = tt
below_all_of a b (k ∷ ks) h below = (nat_list_cmp_total.trans a b k h below.0, below_all_of a b ks h below.1)

-- rows by their texts
module _ {A : Type 0} (text_of_row : A → List ℕ) where
  abbrev pub comes_before : A → A → Bool
  comes_before a b = is_lt (text_cmp (text_of_row a) (text_of_row b))

  pub tied_rows : (a b : A) → ties comes_before a b ≡ bytes_eq (text_of_row b) (text_of_row a)
  tied_rows a b =
      ap (λ r. not (is_lt (text_cmp (text_of_row a) (text_of_row b))) && not (is_lt r))
      (nat_list_cmp_total.antisymm (text_of_row b) (text_of_row a))
      ∙ ties_tests (text_cmp (text_of_row a) (text_of_row b)) ∙ tests (text_of_row a) (text_of_row b)

  -- each row isn't before the one that stands before it
  abbrev pub Climb : List A → Type 0
  Climb [] = Unit {0}
  Climb (a ∷ []) = Unit {0}
  Climb (a ∷ b ∷ rows) = (comes_before b a ≡ false) × Climb (b ∷ rows)

  pub climbs : (rows : List A) → IsSortedBy comes_before rows → Climb rows
  climbs [] up = tt
  climbs (a ∷ []) up = tt
  climbs (a ∷ b ∷ rows) up = (
    up 0 a (omega arith) (omega arith),
    climbs (b ∷ rows) (λ k d low high.
        let next : suc k + 1 ≡ suc (k + 1) = omega arith in
        subst (λ (n : ℕ). comes_before (get_or (a ∷ b ∷ rows) n d) (get_or (b ∷ rows) k d) ≡ false) next
        (up (suc k) d (omega arith) (omega arith))),
  )

module _ {V : Type 0} where
  abbrev key_of : List ℕ × V → List ℕ
  key_of e = e.0

  abbrev before : List ℕ × V → List ℕ × V → Bool
  before a b = comes_before key_of a b

  kept : (key : List ℕ) (v : V) (es : List (List ℕ × V)) → all_under key es ≡ map (λ e. e.1) (filter (ties before (key, v)) es)
  kept key v [] = refl
  kept key v (e ∷ es) = by_test (kept key v es) (bytes_eq e.0 key) (ties before (key, v) e) (tied_rows key_of (key, v) e)
    where
      by_test : all_under key es ≡ map (λ f. f.1) (filter (ties before (key, v)) es) → (b t : Bool) → t ≡ b
          → cons_option (if b then Some e.1 else None) (all_under key es)
          ≡ map (λ e. e.1) (cond t (e ∷ filter (ties before (key, v)) es) (filter (ties before (key, v)) es))
      by_test rest true true h = ap (λ vs. e.1 ∷ vs) rest
      by_test rest false false h = rest
      by_test rest true false h = absurd (true≢false (sym h))
      by_test rest false true h = absurd (true≢false h)

  -- a stable sort keeps what stands under a text
  pub still_under : (xs ys : List (List ℕ × V)) → IsPermutation xs ys → IsStableBy before xs ys → (key : List ℕ)
      → all_under key ys ≡ all_under key xs
  still_under [] [] moved stable key = refl
  still_under [] (y ∷ ys) moved stable key = let none = length_permutation [] (y ∷ ys) moved in absurd (omega (arith, none))
  still_under (x ∷ xs) ys moved stable key =
      kept key x.1 ys ∙ ap (map (λ e. e.1)) (stable (key, x.1)) ∙ sym (kept key x.1 (x ∷ xs))

  abbrev keys : List (List ℕ × List V) → List (List ℕ)
  keys gs = map (λ g. g.0) gs

  -- groups begin with the text of the first row
  abbrev HeadIs : List ℕ → List (List ℕ × List V) → Type 0
  HeadIs key [] = ⊥
  HeadIs key (g ∷ gs) = g.0 ≡ key

  head_of : (key : List ℕ) (vs : List V) (gs : List (List ℕ × List V)) → HeadIs key (resumed key vs gs)
  head_of key vs [] = refl
  head_of key vs (g ∷ gs) = by_test (bytes_eq key g.0)
    where
      by_test : (b : Bool) → HeadIs key (if b then (key, vs ++ g.1) ∷ gs else (key, vs) ∷ g ∷ gs)
      by_test true = refl
      by_test false = refl

  rise_resumed : (key : List ℕ) (vs : List V) (g : List ℕ × List V) (gs : List (List ℕ × List V)) → is_lt (text_cmp g.0 key) ≡ false
      → Rise (keys (g ∷ gs)) → Rise (keys (resumed key vs (g ∷ gs)))
  rise_resumed key vs g gs least rise = by_test (bytes_eq key g.0) refl
    where
      by_test : (b : Bool) → bytes_eq key g.0 ≡ b → Rise (keys (if b then (key, vs ++ g.1) ∷ gs else (key, vs) ∷ g ∷ gs))
      by_test true h = subst (λ k. Rise (k ∷ keys gs)) (sym ((bytes_eq-Decides key g.0).0 h)) rise
      by_test false h =
          let below = less key g.0 (text_cmp key g.0) refl least h in
          ((below, below_all_of key g.0 (keys gs) below rise.0), rise)

  -- the groups of rows in order rise
  pub groups_rise : (es : List (List ℕ × V)) → Climb key_of es → Rise (keys (grouped es))
  groups_rise [] h = tt
  groups_rise (e ∷ []) h = (tt, tt)
  groups_rise (e ∷ f ∷ es) h = behind (grouped (f ∷ es)) (head_of f.0 (f.1 ∷ []) (grouped es)) (groups_rise (f ∷ es) h.1)
    where
      behind : (gs : List (List ℕ × List V)) → HeadIs f.0 gs → Rise (keys gs) → Rise (keys (resumed e.0 (e.1 ∷ []) gs))
      behind [] head rise = absurd head
      behind (g ∷ gs) head rise = rise_resumed e.0 (e.1 ∷ []) g gs (ap (λ k. is_lt (text_cmp k e.0)) head ∙ h.0) rise

  pub found_none : (key : List ℕ) (gs : List (List ℕ × List V)) → IsBelow key (keys gs) → find text_cmp key gs ≡ None
  found_none key [] h = refl
  found_none key (g ∷ gs) h = ap (λ r. cond (is_eq r) (Some g.1) (find text_cmp key gs)) h.0 ∙ found_none key gs h.1

  abbrev found : List ℕ → List (List ℕ × List V) → List V
  found key gs = unwrap_or (find text_cmp key gs) []

  -- what is found with one more row
  found_more : (key : List ℕ) (e : List ℕ × V) (gs : List (List ℕ × List V)) → Rise (keys (resumed e.0 (e.1 ∷ []) gs))
      → (b : Bool) → bytes_eq e.0 key ≡ b
      → found key (resumed e.0 (e.1 ∷ []) gs) ≡ cons_option (if b then Some e.1 else None) (found key gs)
  found_more key e [] rise true h = ap (λ b. unwrap_or (cond b (Some (e.1 ∷ [])) None) []) (tests key e.0 ∙ h)
  found_more key e [] rise false h = ap (λ b. unwrap_or (cond b (Some (e.1 ∷ [])) None) []) (tests key e.0 ∙ h)
  found_more key e (g ∷ gs) rise b h = by_test (bytes_eq e.0 g.0) refl rise b h
    where
      by_test : (t : Bool) → bytes_eq e.0 g.0 ≡ t → Rise (keys (if t then (e.0, e.1 ∷ g.1) ∷ gs else (e.0, e.1 ∷ []) ∷ g ∷ gs))
          → (b : Bool) → bytes_eq e.0 key ≡ b
          → found key (if t then (e.0, e.1 ∷ g.1) ∷ gs else (e.0, e.1 ∷ []) ∷ g ∷ gs)
          ≡ cons_option (if b then Some e.1 else None) (found key (g ∷ gs))
      by_test true same up true h =
          let at_g : bytes_eq g.0 key ≡ true = subst (λ k. bytes_eq k key ≡ true) ((bytes_eq-Decides e.0 g.0).0 same) h in
          ap (λ b. unwrap_or (cond b (Some (e.1 ∷ g.1)) (find text_cmp key gs)) []) (tests key e.0 ∙ h)
          ∙ sym (ap (λ b. e.1 ∷ unwrap_or (cond b (Some g.1) (find text_cmp key gs)) []) (tests key g.0 ∙ at_g))
      by_test true same up false h =
          let at_g : bytes_eq g.0 key ≡ false = subst (λ k. bytes_eq k key ≡ false) ((bytes_eq-Decides e.0 g.0).0 same) h in
          ap (λ b. unwrap_or (cond b (Some (e.1 ∷ g.1)) (find text_cmp key gs)) []) (tests key e.0 ∙ h)
          ∙ sym (ap (λ b. unwrap_or (cond b (Some g.1) (find text_cmp key gs)) []) (tests key g.0 ∙ at_g))
      by_test false apart up true h =
          ap (λ b. unwrap_or (cond b (Some (e.1 ∷ [])) (find text_cmp key (g ∷ gs))) []) (tests key e.0 ∙ h)
          ∙ sym (ap (λ o. e.1 ∷ unwrap_or o [])
          (subst (λ k. find text_cmp k (g ∷ gs) ≡ None) ((bytes_eq-Decides e.0 key).0 h) (found_none e.0 (g ∷ gs) up.0)))
      by_test false apart up false h = ap (λ b. unwrap_or (cond b (Some (e.1 ∷ [])) (find text_cmp key (g ∷ gs))) []) (tests key e.0 ∙ h)

  later : (e : List ℕ × V) (es : List (List ℕ × V)) → Climb key_of (e ∷ es) → Climb key_of es
  later e [] h = tt
  later e (f ∷ es) h = h.1

  pub groups_hold : (es : List (List ℕ × V)) → Climb key_of es → (key : List ℕ) → found key (grouped es) ≡ all_under key es
  groups_hold [] h key = refl
  groups_hold (e ∷ es) h key =
      found_more key e (grouped es) (groups_rise (e ∷ es) h) (bytes_eq e.0 key) refl
      ∙ ap (cons_option (if_under key e)) (groups_hold es (later e es h) key)

  -- rows that were sorted, and gathered
  pub groups_of : (xs ys : List (List ℕ × V)) → IsSortedBy before ys → ((key : List ℕ) → all_under key ys ≡ all_under key xs)
      → AreGroupsOf xs (grouped ys)
  groups_of xs ys up same = record {
    rise = groups_rise ys (climbs key_of ys up);
    each = λ key. groups_hold ys (climbs key_of ys up) key ∙ same key;
  }

  -- the open group takes a row of its text, and any other row begins another
  pub taken : (key : List ℕ) (vs : List V) (e : List ℕ × V) (gs : List (List ℕ × List V)) → bytes_eq key e.0 ≡ true
      → resumed key (vs ++ e.1 ∷ []) gs ≡ resumed key vs (resumed e.0 (e.1 ∷ []) gs)
  taken key vs e [] same = sym (ap (λ b. if b then (key, vs ++ e.1 ∷ []) ∷ [] else (key, vs) ∷ (e.0, e.1 ∷ []) ∷ []) same)
  taken key vs e (g ∷ gs) same = by_test (bytes_eq e.0 g.0) refl
    where
      is_key : key ≡ e.0
      is_key = (bytes_eq-Decides key e.0).0 same

      by_test : (b : Bool) → bytes_eq e.0 g.0 ≡ b
          → resumed key (vs ++ e.1 ∷ []) (g ∷ gs)
          ≡ resumed key vs (if b then (e.0, e.1 ∷ g.1) ∷ gs else (e.0, e.1 ∷ []) ∷ g ∷ gs)
      by_test true h =
          ap (λ b. if b then (key, (vs ++ e.1 ∷ []) ++ g.1) ∷ gs else (key, vs ++ e.1 ∷ []) ∷ g ∷ gs) (ap (λ k. bytes_eq k g.0) is_key ∙ h)
          ∙ ap (λ us. (key, us) ∷ gs) (append_assoc vs (e.1 ∷ []) g.1)
          ∙ sym (ap (λ b. if b then (key, vs ++ e.1 ∷ g.1) ∷ gs else (key, vs) ∷ (e.0, e.1 ∷ g.1) ∷ gs) same)
      by_test false h =
          ap (λ b. if b then (key, (vs ++ e.1 ∷ []) ++ g.1) ∷ gs else (key, vs ++ e.1 ∷ []) ∷ g ∷ gs) (ap (λ k. bytes_eq k g.0) is_key ∙ h)
          ∙ sym (ap (λ b. if b then (key, vs ++ e.1 ∷ []) ∷ g ∷ gs else (key, vs) ∷ (e.0, e.1 ∷ []) ∷ g ∷ gs) same)

  pub passed : (key : List ℕ) (vs : List V) (e : List ℕ × V) (gs : List (List ℕ × List V)) → bytes_eq key e.0 ≡ false
      → (key, vs) ∷ resumed e.0 (e.1 ∷ []) gs ≡ resumed key vs (resumed e.0 (e.1 ∷ []) gs)
  passed key vs e gs apart = by_head (resumed e.0 (e.1 ∷ []) gs) (head_of e.0 (e.1 ∷ []) gs)
    where
      by_head : (hs : List (List ℕ × List V)) → HeadIs e.0 hs → (key, vs) ∷ hs ≡ resumed key vs hs
      by_head [] head = absurd head
      by_head (h ∷ hs) head =
          sym (ap (λ b. if b then (key, vs ++ h.1) ∷ hs else (key, vs) ∷ h ∷ hs) (ap (bytes_eq key) head ∙ apart))

  -- steps of the code
  pub begun_by : (before : List (Group V)) (h : Group V) (e : List ℕ × V) (rest : List (List ℕ × V)) → h.key ≡ e.0 → h.first ≡ e.1
      → h.more.items ≡ [] → groups_view before ++ resumed_by (Some h) (grouped rest) ≡ groups_view before ++ grouped (e ∷ rest)
  begun_by before h e rest key first more = λ i. groups_view before ++ resumed (key i) (first i ∷ more i) (grouped rest)

  pub passed_by : (before : List (Group V)) (g h : Group V) (e : List ℕ × V) (rest : List (List ℕ × V)) → bytes_eq g.key e.0 ≡ false
      → h.key ≡ e.0 → h.first ≡ e.1 → h.more.items ≡ []
      → groups_view (before ++ g ∷ []) ++ resumed_by (Some h) (grouped rest)
      ≡ groups_view before ++ resumed_by (Some g) (grouped (e ∷ rest))
  passed_by [] g h e rest apart key first more =
      (λ i. group_view g ∷ resumed (key i) (first i ∷ more i) (grouped rest))
      ∙ passed g.key (g.first ∷ g.more.items) e (grouped rest) apart
  passed_by (b ∷ before) g h e rest apart key first more =
      ap (λ l. group_view b ∷ l) (passed_by before g h e rest apart key first more)
