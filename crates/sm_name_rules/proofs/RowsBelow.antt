-- Rows by rising numbers, and what is told of those whose keys earlier ones have.
use Rattle.std.proofs.Common.{◌≡◌, ◌⊎◌, ◌<◌, ◌≤◌, inl, inr, ℕ, Bool, true, false, cond, List, [], ◌∷◌, ◌++◌, Option, Some, None, get_or}
use Rattle.std.proofs.Common.{length, take, refl, sym, ap, ◌∙◌, subst, arith}
use Rattle.std.specs.Prelude.{◌↔◌, IsSomeAnd, slice_get}
use Rattle.std.specs.Cmp.{tied_itself}
use Rattle.std.specs.Cmp.Lexicographic.{nat_list_cmp_total}
use Rattle.std.specs.FinMap.Entries.{find}
use Rattle.std.specs.List.{Contains}
use Rattle.std.specs.List.Sorted.{IsStrictlyIncreasing}
use Rattle.std.specs.Ordering.{is_eq}
use Rattle.std.proofs.lemmas.Bool.{cases_lt, cases_eq}
use Rattle.std.proofs.lemmas.List.{get_or-take, get_or_default, length-take-le}
use Rattle.std.proofs.lemmas.List.Elements.{Contains-append_left, Contains-get_or, Contains-push, Contains-push_cases}
use Rattle.std.proofs.lemmas.List.Kept.{AllPairs-from_increasing}
use Rattle.std.proofs.lemmas.List.Quantifiers.{all_pairs_push}
use Rattle.std.proofs.lemmas.Option.{slice_get-get_or}
use Rattle.sm_model.specs.EventView.{EventTold}
use Rattle.sm_model.specs.Graphs.{text_cmp}
use Rattle.sm_model.proofs.OneRising.{contains_either, contains_none}
use Rattle.sm_model.proofs.Worklist.{apart}
use Rattle.sm_passes.specs.Earlier.{ToldAfter, ToldAt}
use Rattle.sm_passes.specs.Putting.{Below}
use Rattle.sm_passes.proofs.TraitEntries.{found_in}
use Rattle.sm_name_rules.specs.steps.Naming.{AreRows, AreRowsAmong, AreRowsBelow, MoreBy}

-- a key that stands there is found
pub found_some : (key : List ℕ) (j : ℕ) (rows : List (List ℕ × ℕ)) → Contains rows (key, j) → (i : ℕ) × (find text_cmp key rows ≡ Some i)
found_some key j [] c = absurd (contains_none (key, j) c)
found_some key j (r ∷ rows) c = by (λ later. found_some key j rows later) (is_eq (text_cmp key r.0)) refl
  where
    by : (Contains {X = List ℕ × ℕ} rows (key, j) → (i : ℕ) × (find text_cmp key rows ≡ Some i)) → (b : Bool)
        → is_eq (text_cmp key r.0) ≡ b → (i : ℕ) × (cond b (Some r.1) (find text_cmp key rows) ≡ Some i)
    by rest true is = (r.1, refl)
    by rest false is = elim (contains_either r (key, j) rows c) [
      | inl same ↦ absurd (apart (sym is ∙ ap (λ (x : List ℕ × ℕ). is_eq (text_cmp key x.0)) same
          ∙ ap is_eq (tied_itself nat_list_cmp_total key)))
      | inr later ↦ rest later
    ]

-- an element of a part in front stands before its end, and the other way round
before_place : {X : Type 0} (xs : List X) (n : ℕ) (x : X) → n < length xs → Contains (take n xs) x
    → (i : ℕ) × (i < n) × (get_or xs i x ≡ x)
before_place xs n x inside (i, small, at) =
    let long : length (take n xs) ≡ n = length-take-le n xs (omega (arith, inside)) in
    let less : i < n = omega (arith, small, long) in
    (i, less, sym (get_or-take n xs i x less) ∙ at)

place_before : {X : Type 0} (xs : List X) (n i : ℕ) (x : X) → n < length xs → i < n → get_or xs i x ≡ x → Contains (take n xs) x
place_before xs n i x inside less at =
    let long : length (take n xs) ≡ n = length-take-le n xs (omega (arith, inside)) in
    let small : i < length (take n xs) = omega (arith, less, long) in
    (i, small, get_or-take n xs i x less ∙ at)

-- of numbers that rise each is above those before it
pub taken_above : (ns : List ℕ) (i : ℕ) → IsStrictlyIncreasing ns → i < length ns → (k : ℕ) → Contains (take i ns) k → k < get_or ns i 0
taken_above ns i rise small k c =
    let p = before_place ns i k small c in
    let inside : p.0 < length ns = omega (arith, p.1, small) in
    let up = AllPairs-from_increasing ns rise p.0 i 0 p.1 small in
    let here : get_or ns p.0 0 ≡ k = get_or_default ns p.0 0 k inside ∙ p.2 in
    omega (arith, up, here)

-- rows of none; one row more, of a number above all of them
module _ (Among : ℕ → Type 0) (passes : ℕ → Bool) (IsKey : ℕ → List ℕ → Type 0) where
  pub no_rows : ((k : ℕ) → Among k → ⊥) → AreRowsAmong Among passes IsKey []
  no_rows none = record {
    each = λ r c. absurd (contains_none r c);
    all = λ k h. absurd (none k h.0);
    rise = λ i j d less small. absurd (omega (arith, small));
  }

  pub rows_next : (Now : ℕ → Type 0) (n : ℕ) (rows more : List (List ℕ × ℕ)) → ((k : ℕ) → Among k → k < n)
      → ((k : ℕ) → (Among k ⊎ (n ≡ k)) ↔ Now k) → AreRowsAmong Among passes IsKey rows → MoreBy (passes n) (IsKey n) n rows more
      → AreRowsAmong Now passes IsKey more
  rows_next Now n rows more below now are next = by (passes n) refl next
    where
      kept : (k : ℕ) → Among k × (passes k ≡ true) → Now k × (passes k ≡ true)
      kept k h = ((now k).0 (inl h.0), h.1)

      by : (b : Bool) → passes n ≡ b → MoreBy b (IsKey n) n rows more → AreRowsAmong Now passes IsKey more
      by false is same = subst (AreRowsAmong Now passes IsKey) (sym same) (record {
        each = λ r c. let e = are.each r c in (kept r.1 e.0, e.1);
        all = λ k h. elim ((now k).1 h.0) [
          | inl old ↦ are.all k (old, h.1)
          | inr here ↦ absurd (apart (sym is ∙ ap passes here ∙ h.1))
        ];
        rise = are.rise;
      })
      by true is (key, named, same) = subst (AreRowsAmong Now passes IsKey) (sym same) (record {
        each = λ r c. elim (Contains-push_cases rows (key, n) r c) [
          | inl earlier ↦ let e = are.each r earlier in (kept r.1 e.0, e.1)
          | inr last ↦ subst (λ (x : List ℕ × ℕ). (Now x.1 × (passes x.1 ≡ true)) × IsKey x.1 x.0) last
              (((now n).0 (inr refl), is), named)
        ];
        all = λ k h. elim ((now k).1 h.0) [
          | inl old ↦ let a = are.all k (old, h.1) in (a.0, Contains-append_left rows ((key, n) ∷ []) (a.0, k) a.1)
          | inr here ↦ (key, subst (λ j. Contains {X = List ℕ × ℕ} (rows ++ (key, n) ∷ []) (key, j)) here (Contains-push rows (key, n)))
        ];
        rise = all_pairs_push (λ (q : List ℕ × ℕ) (r : List ℕ × ℕ). q.1 < r.1) rows (key, n) are.rise
            (λ i d small. below (get_or rows i d).1 (are.each (get_or rows i d) (Contains-get_or rows i d small)).0.0);
      })

-- rows of the numbers below one: each is of a number that passes, and each of these has a row
module _ (passes : ℕ → Bool) (IsKey : ℕ → List ℕ → Type 0) where
  abbrev pub IsRow : ℕ → List ℕ × ℕ → Type 0
  IsRow n r = (r.1 < n) × (passes r.1 ≡ true) × IsKey r.1 r.0

  pub row_of : (n : ℕ) (rows : List (List ℕ × ℕ)) → AreRowsBelow passes IsKey n rows → (r : List ℕ × ℕ) → Contains rows r → IsRow n r
  row_of n rows are r c = let e = are.each r c in (e.0.0, e.0.1, e.1)

  pub row_for : (n : ℕ) (rows : List (List ℕ × ℕ)) → AreRowsBelow passes IsKey n rows → (k : ℕ) → k < n → passes k ≡ true
      → (key : List ℕ) × IsKey k key × Contains {X = List ℕ × ℕ} rows (key, k)
  row_for n rows are k small p = let a = are.all k (small, p) in (a.0, (are.each (a.0, k) a.1).1, a.1)

-- what is told of rows is told by their numbers alone
module _ (Told : ℕ → EventTold → Type 0) where
  abbrev By : Option ℕ → ℕ → EventTold → Type 0
  By o k e = ToldAfter (λ j i. Told i) o k e

  abbrev pub ToldRows : List (List ℕ × ℕ) → EventTold → Type 0
  ToldRows rows e = Below (ToldAt (λ j k. Told k) rows) (length rows) e

  after_some : (o : Option ℕ) (k : ℕ) (e : EventTold) → By o k e → (j : ℕ) × (o ≡ Some j) × Told k e
  after_some None k e h = absurd h
  after_some (Some j) k e h = (j, refl, h)

  module _ (Holds : ℕ → Type 0) (IsKey : ℕ → List ℕ → Type 0) (rows : List (List ℕ × ℕ)) (are : AreRows Holds IsKey rows) where
    -- a number whose key a smaller one has
    abbrev pub ToldTwice : EventTold → Type 0
    ToldTwice e =
        (j k : ℕ) × (key : List ℕ) × (j < k) × Holds j × Holds k × IsKey j key × IsKey k key × Told k e

    pub told_twice : (e : EventTold) → ToldRows rows e → ToldTwice e
    told_twice e (i, small, w) =
        let r : List ℕ × ℕ = get_or rows i ([], 0) in
        let t : By (find text_cmp r.0 (take i rows)) r.1 e =
        subst (λ o. IsSomeAnd o (λ (x : List ℕ × ℕ). By (find text_cmp x.0 (take i rows)) x.1 e))
        (slice_get-get_or rows i ([], 0) small) w in
        let s = after_some (find text_cmp r.0 (take i rows)) r.1 e t in
        let c = found_in r.0 s.0 (take i rows) s.1 in
        let p = before_place rows i (r.0, s.0) small c in
        let inside : p.0 < length rows = omega (arith, p.1, small) in
        let here = are.each r (Contains-get_or rows i ([], 0) small) in
        let there = are.each (r.0, s.0) (p.0, inside, p.2) in
        let up = are.rise p.0 i ([], 0) p.1 small in
        let less : s.0 < r.1 =
        subst (λ (x : List ℕ × ℕ). x.1 < r.1) (get_or_default rows p.0 ([], 0) (r.0, s.0) inside ∙ p.2) up in
        (s.0, r.1, r.0, less, there.0, here.0, there.1, here.1, s.2)

    pub twice_told : ((k : ℕ) (a b : List ℕ) → IsKey k a → IsKey k b → a ≡ b) → (e : EventTold) → ToldTwice e → ToldRows rows e
    twice_told one e (j, k, key, less, cj, ck, kj, kk, t) =
        let a = are.all j cj in
        let b = are.all k ck in
        let ja : a.0 ≡ key = one j a.0 key (are.each (a.0, j) a.1).1 kj in
        let kb : b.0 ≡ key = one k b.0 key (are.each (b.0, k) b.1).1 kk in
        let order = place (a.0, j) (b.0, k) less a.1 b.1 in
        let f = found_some b.0 j (take b.1.0 rows)
        (subst (λ q. Contains {X = List ℕ × ℕ} (take b.1.0 rows) (q, j)) (ja ∙ sym kb)
        (place_before rows b.1.0 a.1.0 (a.0, j) b.1.1 order a.1.2)) in
        let at : slice_get rows b.1.0 ≡ Some (b.0, k) =
        slice_get-get_or rows b.1.0 (b.0, k) b.1.1 ∙ ap (λ (x : List ℕ × ℕ). Some x) b.1.2 in (
          b.1.0,
          b.1.1,
          subst (λ o. IsSomeAnd o (λ (x : List ℕ × ℕ). By (find text_cmp x.0 (take b.1.0 rows)) x.1 e)) (sym at)
              (subst (λ o. By o k e) (sym f.1) t),
        )
      where
        -- a smaller number stands before
        place : (q r : List ℕ × ℕ) → q.1 < r.1 → (a : Contains rows q) → (b : Contains rows r) → a.0 < b.0
        place q r less (m, im, am) (n, ik, an) = elim (cases_lt m n) [
          | inl before ↦ before
          | inr behind ↦ elim (cases_eq n m) [
            | inl same ↦
                let one : q ≡ r = sym am ∙ get_or_default rows m q r im ∙ ap (λ i. get_or rows i r) (sym same) ∙ an in
                let even : q.1 ≡ r.1 = ap (λ (x : List ℕ × ℕ). x.1) one in
                absurd (omega (arith, less, even))
            | inr other ↦
                let first : n < m = by n m behind other in
                let up = are.rise n m q first im in
                let x : (get_or rows n q).1 ≡ r.1 = ap (λ (x : List ℕ × ℕ). x.1) (get_or_default rows n q r ik ∙ an) in
                let y : (get_or rows m q).1 ≡ q.1 = ap (λ (x : List ℕ × ℕ). x.1) am in
                absurd (omega (arith, less, up, x, y))
          ]
        ]
          where
            by : (n m : ℕ) → n ≤ m → (n ≡ m → ⊥) → n < m
            by n m le ne = elim (cases_lt n m) [ inl l ↦ l | inr g ↦ absurd (ne (omega (arith, le, g))) ]
