-- The patterns that are carried are one list, in one order, and a pattern has one number.
use Rattle.std.proofs.Common.{◌≡◌, inl, inr, ℕ, ◌+◌, Bool, true, false, cond, List, [], ◌∷◌, Option, Some, None, refl, sym, ap, ◌∙◌}
use Rattle.std.proofs.Common.{subst}
use Rattle.std.specs.Prelude.{◌==◌}
use Rattle.std.specs.Cmp.Lexicographic.{nat_list_cmp_total}
use Rattle.std.specs.FinMap.{nat_cmp-IsAntisymmetric, slice_cmp-IsAntisymmetric}
use Rattle.std.specs.List.{Contains}
use Rattle.std.specs.List.Sorted.{IsStrictlySortedBy}
use Rattle.std.specs.Ordering.{ordering_reverse}
use Rattle.std.specs.declared.cmp.Ordering.{Ordering}
use Rattle.std.specs.declared.cmp.Ordering.TheVariants.{Less, Equal, Greater}
use Rattle.std.proofs.lemmas.Bool.{eqb-true}
use Rattle.std.proofs.lemmas.Option.{none-some, same_Some}
use Rattle.sm_model.specs.Graphs.{Entry, GraphMaps, MemberEntry, ShapeEntry, member_entry, shape_entry, text_cmp}
use Rattle.sm_model.specs.Relations.{HasEntry}
use Rattle.sm_model.proofs.OneRising.{before_one, contains_behind, contains_either, contains_head, contains_none, not_before_itself}
use Rattle.sm_model.proofs.OneRising.{one_rising}
use Rattle.sm_shapes.specs.Names.{AllDiffer, NoneIs}
use Rattle.sm_shapes.specs.TableData.{ConstraintData, texts_numbered}
use Rattle.sm_compile.specs.Compiled.{AreNumberedFrom, ArePatternsOf, CarriesPattern, EachSays, IdSet, IsFirstCarrier, NamesText}
use Rattle.sm_compile.specs.Compiled.{PatternRows, SayConstraints, texts_of}
use Rattle.sm_compile.specs.Said.{ConstraintsSaid, pattern_seen}
use Rattle.sm_compile.specs.TraitNodes.{own_traits}

-- one thing stands under an id
abbrev as_shape : Entry → Option ShapeEntry
as_shape (shape_entry s) = Some s
as_shape (member_entry m) = None

abbrev as_member : Entry → Option MemberEntry
as_member (shape_entry s) = None
as_member (member_entry m) = Some m

pub same_shape : (g : GraphMaps) (id : List ℕ) (s t : ShapeEntry) → HasEntry g id (shape_entry s) → HasEntry g id (shape_entry t)
    → Path ShapeEntry s t
same_shape g id s t h k = same_Some s t (ap as_shape (same_Some (shape_entry s) (shape_entry t) (sym h ∙ k)))

pub same_member : (g : GraphMaps) (id : List ℕ) (m n : MemberEntry) → HasEntry g id (member_entry m) → HasEntry g id (member_entry n)
    → Path MemberEntry m n
same_member g id m n h k = same_Some m n (ap as_member (same_Some (member_entry m) (member_entry n) (sym h ∙ k)))

pub not_both : (g : GraphMaps) (id : List ℕ) (s : ShapeEntry) (m : MemberEntry) → HasEntry g id (shape_entry s)
    → HasEntry g id (member_entry m) → ⊥
not_both g id s m h k = none-some s (sym (ap as_shape (same_Some (shape_entry s) (member_entry m) (sym h ∙ k))))

-- what carries a pattern carries one
one_pattern : (g : GraphMaps) (id u v : List ℕ) → CarriesPattern g id u → CarriesPattern g id v → u ≡ v
one_pattern g id u v (inl (s, there, is)) (inl (t, also, so)) =
    let same = same_shape g id s t there also in
    same_Some u v (sym is ∙ (λ i. pattern_seen (same i).kind (own_traits (same i).traits)) ∙ so)
one_pattern g id u v (inl (s, there, is)) (inr (m, t, also, target, so)) = absurd (not_both g id s m there also)
one_pattern g id u v (inr (m, s, there, target, is)) (inl (t, also, so)) = absurd (not_both g id t m also there)
one_pattern g id u v (inr (m, s, there, target, is)) (inr (n, t, also, targets, so)) =
    let same = same_member g id m n there also in
    let shape = same_shape g n.target s t (subst (λ (x : MemberEntry). HasEntry g x.target (shape_entry s)) same target) targets in
    same_Some u v (sym is ∙ (λ i. pattern_seen (shape i).kind (own_traits (same i).traits)) ∙ so)

-- the least that carries it is one
least_one : (r : Ordering) (x y : List ℕ) → text_cmp x y ≡ r → (text_cmp x y ≡ Greater → ⊥) → (text_cmp y x ≡ Greater → ⊥) → x ≡ y
least_one Less x y is h k = absurd (k (nat_list_cmp_total.antisymm y x ∙ ap ordering_reverse is))
least_one Equal x y is h k = slice_cmp-IsAntisymmetric nat_cmp-IsAntisymmetric x y is
least_one Greater x y is h k = absurd (h is)

pub one_first : (g : GraphMaps) (In : IdSet) (u x y : List ℕ) → IsFirstCarrier g In u x → IsFirstCarrier g In u y → x ≡ y
one_first g In u x y h k = least_one (text_cmp x y) x y refl (h.least y k.carries) (k.least x h.carries)

-- rows and columns of what is said row by row
module _ (F : List ℕ → List ℕ → Type 0) where
  row_of : (ts fs : List (List ℕ)) → EachSays F ts fs → (x : List ℕ) → Contains fs x → (u : List ℕ) × Contains ts u × F u x
  row_of [] [] h x there = absurd (contains_none x there)
  row_of [] (f ∷ fs) h x there = absurd h
  row_of (t ∷ ts) [] h x there = absurd (contains_none x there)
  row_of (t ∷ ts) (f ∷ fs) h x there = elim (contains_either f x fs there) [
    | inl same ↦ (t, contains_head t ts, subst (F t) same h.0)
    | inr later ↦ let rest = row_of ts fs h.1 x later in (rest.0, contains_behind t rest.0 ts rest.1, rest.2)
  ]

  pub column_of : (ts fs : List (List ℕ)) → EachSays F ts fs → (u : List ℕ) → Contains ts u → (x : List ℕ) × Contains fs x × F u x
  column_of [] [] h u there = absurd (contains_none u there)
  column_of [] (f ∷ fs) h u there = absurd h
  column_of (t ∷ ts) [] h u there = absurd h
  column_of (t ∷ ts) (f ∷ fs) h u there = elim (contains_either t u ts there) [
    | inl same ↦ (f, contains_head f fs, subst (λ v. F v f) same h.0)
    | inr later ↦ let rest = column_of ts fs h.1 u later in (rest.0, contains_behind f rest.0 fs rest.1, rest.2)
  ]

module _ (g : GraphMaps) (In : IdSet) where
  abbrev IsFirst : List ℕ → List ℕ → Type 0
  IsFirst u id = IsFirstCarrier g In u id

  first_in : (ts us : List (List ℕ)) (p : ArePatternsOf g In ts) (q : ArePatternsOf g In us) (x : List ℕ) → Contains p.firsts x
      → Contains q.firsts x
  first_in ts us p q x there =
      let row = row_of IsFirst ts p.firsts p.each x there in
      let column = column_of IsFirst us q.firsts q.each row.0 (q.all row.0 x row.2.carries) in
      subst (Contains q.firsts) (one_first g In row.0 column.0 x column.2 row.2) column.1

  same_texts : (ts us fs : List (List ℕ)) → EachSays IsFirst ts fs → EachSays IsFirst us fs → ts ≡ us
  same_texts [] [] [] h k = refl
  same_texts [] [] (f ∷ fs) h k = absurd h
  same_texts [] (u ∷ us) [] h k = absurd k
  same_texts [] (u ∷ us) (f ∷ fs) h k = absurd h
  same_texts (t ∷ ts) [] [] h k = absurd h
  same_texts (t ∷ ts) [] (f ∷ fs) h k = absurd k
  same_texts (t ∷ ts) (u ∷ us) [] h k = absurd h
  same_texts (t ∷ ts) (u ∷ us) (f ∷ fs) h k =
      let head = one_pattern g f t u h.0.carries.1 k.0.carries.1 in
      let rest = same_texts ts us fs h.1 k.1 in λ i. head i ∷ rest i

  pub one_texts : (ts us : List (List ℕ)) → ArePatternsOf g In ts → ArePatternsOf g In us → ts ≡ us
  one_texts ts us p q =
      let firsts = one_rising nat_list_cmp_total p.firsts q.firsts p.rise q.rise
      (λ x. (λ there. first_in ts us p q x there, λ there. first_in us ts q p x there)) in
      same_texts ts us q.firsts (subst (EachSays IsFirst ts) firsts p.each) q.each

  -- so no text stands twice
  none_later : (t f : List ℕ) (ts fs : List (List ℕ)) → IsFirst t f → EachSays IsFirst ts fs
      → ((x : List ℕ) → Contains fs x → text_cmp f x ≡ Less) → NoneIs t ts
  none_later t f [] fs h each above = tt
  none_later t f (u ∷ ts) [] h each above = absurd each
  none_later t f (u ∷ ts) (x ∷ fs) h each above = (
    λ same.
        let one = one_first g In t f x h (subst (λ v. IsFirst v x) same each.0) in
        not_before_itself nat_list_cmp_total f (subst (λ w. text_cmp f w ≡ Less) (sym one) (above x (contains_head x fs))),
    none_later t f ts fs h each.1 (λ y there. above y (contains_behind x y fs there)),
  )

  pub texts_differ : (ts fs : List (List ℕ)) → EachSays IsFirst ts fs → IsStrictlySortedBy text_cmp fs → AllDiffer ts
  unfolding IsStrictlySortedBy
  texts_differ [] fs each rise = tt
  texts_differ (t ∷ ts) [] each rise = absurd each
  texts_differ (t ∷ ts) (f ∷ fs) each rise = (
    none_later t f ts fs each.0 each.1 (λ x there. before_one nat_list_cmp_total f x fs rise.0 there),
    texts_differ ts fs each.1 rise.1,
  )

-- rows with the same texts, numbered from the same number
abbrev first_text : List (List ℕ) → List ℕ
first_text [] = []
first_text (t ∷ ts) = t

abbrev other_texts : List (List ℕ) → List (List ℕ)
other_texts [] = []
other_texts (t ∷ ts) = ts

abbrev is_some_list : List (List ℕ) → Type 0
is_some_list [] = ⊥
is_some_list (t ∷ ts) = Unit {0}

pub same_rows : (k : ℕ) (ps qs : PatternRows) → AreNumberedFrom k ps → AreNumberedFrom k qs → texts_of ps ≡ texts_of qs
    → Path PatternRows ps qs
same_rows k [] [] h g e = refl
same_rows k [] (q ∷ qs) h g e = absurd (subst is_some_list (sym e) tt)
same_rows k (p ∷ ps) [] h g e = absurd (subst is_some_list e tt)
same_rows k (p ∷ ps) (q ∷ qs) h g e =
    let number : p.0 ≡ q.0 = h.0 ∙ sym g.0 in
    let text = ap first_text e in
    let rest = same_rows (k + 1) ps qs h.1 g.1 (ap other_texts e) in λ i. (number i, text i) ∷ rest i

-- a text has one number
named_in : (n : ℕ) (ps : PatternRows) (u : List ℕ) → texts_numbered n ps ≡ u ∷ [] → Contains (texts_of ps) u
named_in n [] u h = absurd (subst is_some_list (sym h) tt)
named_in n (p ∷ ps) u h = by_test (λ rest. named_in n ps u rest) (p.0 == n) h
  where
    by_test : (texts_numbered n ps ≡ u ∷ [] → Contains (texts_of ps) u) → (b : Bool)
        → cond b (p.1 ∷ texts_numbered n ps) (texts_numbered n ps) ≡ u ∷ [] → Contains (p.1 ∷ texts_of ps) u
    by_test later true is = subst (Contains (p.1 ∷ texts_of ps)) (ap first_text is) (contains_head p.1 (texts_of ps))
    by_test later false is = contains_behind p.1 u (texts_of ps) (later is)

none_in : (x : List ℕ) (xs : List (List ℕ)) → NoneIs x xs → Contains xs x → ⊥
none_in x [] h there = contains_none x there
none_in x (y ∷ xs) h there = elim (contains_either y x xs there) [ inl same ↦ h.0 same | inr later ↦ none_in x xs h.1 later ]

one_number : (ps : PatternRows) → AllDiffer (texts_of ps) → (u : List ℕ) (a b : ℕ) → texts_numbered a ps ≡ u ∷ []
    → texts_numbered b ps ≡ u ∷ [] → a ≡ b
one_number [] d u a b h k = absurd (subst is_some_list (sym h) tt)
one_number (p ∷ ps) d u a b h k = by_tests (λ x y. one_number ps d.1 u a b x y) (p.0 == a) (p.0 == b) refl refl h k
  where
    by_tests : (texts_numbered a ps ≡ u ∷ [] → texts_numbered b ps ≡ u ∷ [] → a ≡ b) → (x y : Bool) → (p.0 == a) ≡ x → (p.0 == b) ≡ y
        → cond x (p.1 ∷ texts_numbered a ps) (texts_numbered a ps) ≡ u ∷ []
        → cond y (p.1 ∷ texts_numbered b ps) (texts_numbered b ps) ≡ u ∷ [] → a ≡ b
    by_tests later true true is also i j = sym (eqb-true p.0 a is) ∙ eqb-true p.0 b also
    by_tests later true false is also i j =
        absurd (none_in p.1 (texts_of ps) d.0 (subst (Contains (texts_of ps)) (sym (ap first_text i)) (named_in b ps u j)))
    by_tests later false true is also i j =
        absurd (none_in p.1 (texts_of ps) d.0 (subst (Contains (texts_of ps)) (sym (ap first_text j)) (named_in a ps u i)))
    by_tests later false false is also i j = later i j

same_named : (ps : PatternRows) → AllDiffer (texts_of ps) → (a b : Option ℕ) (u : Option (List ℕ)) → NamesText ps a u → NamesText ps b u
    → a ≡ b
same_named ps d None None None h k = refl
same_named ps d None (Some b) None h k = absurd k
same_named ps d (Some a) b None h k = absurd h
same_named ps d None b (Some u) h k = absurd h
same_named ps d (Some a) None (Some u) h k = absurd k
same_named ps d (Some a) (Some b) (Some u) h k = ap (λ x. Some x) (one_number ps d u a b h k)

pub same_constraints : (ps : PatternRows) → AllDiffer (texts_of ps) → (c d : ConstraintData) (said : ConstraintsSaid)
    → SayConstraints ps c said → SayConstraints ps d said → Path ConstraintData c d
same_constraints ps differ c d said h k =
    let min = h.min ∙ sym k.min in
    let max = h.max ∙ sym k.max in
    let pattern = same_named ps differ c.pattern d.pattern said.pattern h.pattern k.pattern in
    let texts = h.texts ∙ sym k.texts in
    let numbers = h.numbers ∙ sym k.numbers in
    λ i. record { min = min i; max = max i; pattern = pattern i; texts = texts i; numbers = numbers i }
