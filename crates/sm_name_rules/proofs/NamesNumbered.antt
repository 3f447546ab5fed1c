-- The names of a graph by the numbers that have them: what stands first under each, and what marked numbers have of it.
use Rattle.std.proofs.Common.{◌≡◌, ◌⊎◌, ◌<◌, inl, inr, ℕ, zero, suc, Bool, true, false, cond, List, [], ◌∷◌, ◌++◌, Option, ◌+◌, Some, None}
use Rattle.std.proofs.Common.{get_or, length, drop, replicate, take, refl, sym, ap, ◌∙◌, subst, arith}
use Rattle.std.specs.Prelude.{◌==◌, ◌&&◌, ◌↔◌, is_some, set}
use Rattle.std.specs.FinMap.Entries.{find}
use Rattle.std.specs.List.{Contains}
use Rattle.std.proofs.lemmas.Bool.{cases_eq, eq-eqb, ne_eqb}
use Rattle.std.proofs.lemmas.List.{get_or-set_other, get_or-set_same, take-append-drop, take_more}
use Rattle.std.proofs.lemmas.List.Elements.{Contains-append_left, Contains-get_or, Contains-push, Contains-push_cases}
use Rattle.std.proofs.lemmas.Option.{none-some, same_Some}
use Rattle.sm_tree.specs.Node.{Node}
use Rattle.sm_model.specs.Graphs.{text_cmp}
use Rattle.sm_model.specs.GraphView.{IsShapeNumber, entries_of, maps_of}
use Rattle.sm_model.specs.Reaching.{AreMarks, IsMarked, id_of_number}
use Rattle.sm_model.specs.declared.graph.Graph.{Graph}
use Rattle.sm_model.proofs.OneRising.{contains_none}
use Rattle.sm_model.proofs.Searching.{and_right}
use Rattle.sm_model.proofs.Worklist.{apart, marked_within}
use Rattle.sm_compile.specs.TraitNodes.{text_of}
use Rattle.sm_passes.proofs.TraitEntries.{found_in}
use Rattle.sm_name_rules.specs.steps.Naming.{AreNamesApart, AreRowsBelow, IsKeyBy, IsNameBy, IsOwnKey, is_named, is_own_named}
use Rattle.sm_name_rules.specs.steps.NameTwins.{AreCounted, AreEarlierIn, AreNameTwins, AreNames, AreOwnRows, IsEarlierIn, IsOf, IsOneNamed}
use Rattle.sm_name_rules.specs.steps.NameTwins.{SameName, earlier_in, earlier_of, one_of}
use Rattle.sm_name_rules.proofs.GivenNames.{one_key}
use Rattle.sm_name_rules.proofs.NumbersCounted.{HasOne, one_is}
use Rattle.sm_name_rules.proofs.RowsBelow.{found_some, row_for, row_of}

-- a number has one key
own_keys : (g : Graph) (k : ℕ) (a b : List ℕ) → IsOwnKey g k a → IsOwnKey g k b → a ≡ b
own_keys g k a b h i = one_key (λ q. None) g k a b h.1 i.1

-- rows of all numbers are those of the graph
pub own_rows : (g : Graph) (inside : List Bool) → AreMarks (length (entries_of g)) (λ k. Unit {0}) inside → (given : List ℕ → Option Node)
    → ((q : List ℕ) → given q ≡ None) → (rows : List (List ℕ × ℕ))
    → AreRowsBelow (is_named g inside) (IsKeyBy given g) (length (entries_of g)) rows → AreOwnRows g rows
own_rows g inside all given none rows are r = (forth, back)
  where
    same_key : (o : Option Node) → o ≡ None → (id name : List ℕ) → IsNameBy (text_of o) id name → IsNameBy None id name
    same_key o is id name h = subst (λ x. IsNameBy (text_of x) id name) is h

    other_key : (o : Option Node) → o ≡ None → (id name : List ℕ) → IsNameBy None id name → IsNameBy (text_of o) id name
    other_key o is id name h = subst (λ x. IsNameBy (text_of x) id name) (sym is) h

    forth : Contains rows r → IsShapeNumber g r.1 × IsOwnKey g r.1 r.0
    forth c =
        let o = row_of (is_named g inside) (IsKeyBy given g) (length (entries_of g)) rows are r c in
        let id = id_of_number g r.1 in (
          o.0,
          (
            and_right (get_or inside r.1 false) (is_own_named (maps_of g) id) o.1,
            (o.2.0, same_key (given id) (none id) id o.2.0 o.2.1, o.2.2),
          ),
        )

    back : IsShapeNumber g r.1 × IsOwnKey g r.1 r.0 → Contains rows r
    back (small, own) =
        let id = id_of_number g r.1 in
        let marked : get_or inside r.1 false ≡ true = (all.marked r.1).1 (small, tt) in
        let passes : is_named g inside r.1 ≡ true = λ i. marked i && own.0 i in
        let f = row_for (is_named g inside) (IsKeyBy given g) (length (entries_of g)) rows are r.1 small passes in
        let mine : IsKeyBy given g r.1 r.0 = (own.1.0, other_key (given id) (none id) id own.1.0 own.1.1, own.1.2) in
        let same : f.0 ≡ r.0 = one_key given g r.1 f.0 r.0 f.1 mine in
        subst (λ q. Contains {X = List ℕ × ℕ} rows (q, r.1)) same f.2

-- what stands first under the name of a row, where it is another number
earlier_from : (o : Option ℕ) (k f : ℕ) → earlier_of o k ≡ Some f → (o ≡ Some f) × (f ≡ k → ⊥)
earlier_from None k f h = absurd (none-some f h)
earlier_from (Some j) k f h = by (j == k) refl h
  where
    by : (b : Bool) → (j == k) ≡ b → cond b None (Some j) ≡ Some f → (Some j ≡ Some f) × (f ≡ k → ⊥)
    by true is h = absurd (none-some f h)
    by false is h = (h, λ e. apart (sym is ∙ eq-eqb j k (same_Some j f h ∙ e)))

earlier_to : (o : Option ℕ) (k f : ℕ) → o ≡ Some f → (f ≡ k → ⊥) → earlier_of o k ≡ Some f
earlier_to o k f is differ = ap (λ x. earlier_of x k) is ∙ ap (λ b. cond b None (Some f)) (ne_eqb f k differ)

-- where no number stands
pub not_some : (o : Option ℕ) → is_some o ≡ false → o ≡ None
not_some None h = refl
not_some (Some f) h = absurd (apart (sym h))

-- those of some rows, in a table by numbers: of none, and of one row more
module _ (first : List ℕ → Option ℕ) where
  pub earlier_none : (n : ℕ) → AreEarlierIn first [] (replicate n None)
  earlier_none n k f = (
    λ h. absurd (none-some f (sym (none_of n k) ∙ h)),
    λ h. absurd (contains_none {K = List ℕ × ℕ} (h.0, k) h.1),
  )
    where
      none_of : (n k : ℕ) → earlier_in (replicate n None) k ≡ None
      none_of zero k = refl
      none_of (suc n) zero = refl
      none_of (suc n) (suc k) = none_of n k

  module _ (rows : List (List ℕ × ℕ)) (r : List ℕ × ℕ) (table : List (Option ℕ)) (small : r.1 < length table)
      (one : (q : List ℕ × ℕ) → Contains rows q → q.1 ≡ r.1 → q.0 ≡ r.0) (old : AreEarlierIn first rows table) where
    abbrev now : List (Option ℕ)
    now = set table r.1 (earlier_of (first r.0) r.1)

    -- at its number
    here : (k f : ℕ) → r.1 ≡ k → (earlier_in now k ≡ Some f) ↔ IsEarlierIn first (rows ++ r ∷ []) k f
    here k f same = (forth, back)
      where
        is : earlier_in now k ≡ earlier_of (first r.0) r.1
        is = ap (earlier_in now) (sym same) ∙ get_or-set_same table r.1 (earlier_of (first r.0) r.1) None small

        forth : earlier_in now k ≡ Some f → IsEarlierIn first (rows ++ r ∷ []) k f
        forth h =
            let e = earlier_from (first r.0) r.1 f (sym is ∙ h) in (
              r.0,
              subst (λ i. Contains {X = List ℕ × ℕ} (rows ++ r ∷ []) (r.0, i)) same (Contains-push rows r),
              e.0,
              λ x. e.1 (x ∙ sym same),
            )

        back : IsEarlierIn first (rows ++ r ∷ []) k f → earlier_in now k ≡ Some f
        back (key, c, at, differ) =
            let mine : key ≡ r.0 = elim (Contains-push_cases rows r (key, k) c) [
              | inl before ↦ one (key, k) before (sym same)
              | inr last ↦ ap (λ (x : List ℕ × ℕ). x.0) (sym last)
            ] in
            is ∙ earlier_to (first r.0) r.1 f (ap first (sym mine) ∙ at) (λ x. differ (x ∙ same))

    -- at another one
    elsewhere : (k f : ℕ) → (k ≡ r.1 → ⊥) → (earlier_in now k ≡ Some f) ↔ IsEarlierIn first (rows ++ r ∷ []) k f
    elsewhere k f other = (forth, back)
      where
        is : earlier_in now k ≡ earlier_in table k
        is = get_or-set_other table r.1 k (earlier_of (first r.0) r.1) None other

        forth : earlier_in now k ≡ Some f → IsEarlierIn first (rows ++ r ∷ []) k f
        forth h = let e = (old k f).0 (sym is ∙ h) in (e.0, Contains-append_left rows (r ∷ []) (e.0, k) e.1, e.2, e.3)

        back : IsEarlierIn first (rows ++ r ∷ []) k f → earlier_in now k ≡ Some f
        back (key, c, at, differ) = elim (Contains-push_cases rows r (key, k) c) [
          | inl before ↦ is ∙ (old k f).1 (key, before, at, differ)
          | inr last ↦ absurd (other (ap (λ (x : List ℕ × ℕ). x.1) (sym last)))
        ]

    pub earlier_next : AreEarlierIn first (rows ++ r ∷ []) now
    earlier_next k f = elim (cases_eq k r.1) [ inl same ↦ here k f (sym same) | inr other ↦ elsewhere k f other ]

module _ (g : Graph) (rows : List (List ℕ × ℕ)) (own : AreOwnRows g rows) where
  -- rows of one number have one key
  pub row_once : (q r : List ℕ × ℕ) → Contains rows q → Contains rows r → q.1 ≡ r.1 → q.0 ≡ r.0
  row_once q r c d same =
      own_keys g r.1 q.0 r.0 (subst (λ k. IsOwnKey g k q.0) same ((own q).0 c).1) ((own r).0 d).1

  -- by one row of the graph more
  module _ (i : ℕ) (r : List ℕ × ℕ) (less : i < length rows) (is : r ≡ get_or rows i r) (table : List (Option ℕ))
      (whole : length table ≡ length (entries_of g)) where
    there : Contains rows r
    there = subst (Contains rows) (sym is) (Contains-get_or rows i r less)

    pub row_within : r.1 < length table
    row_within = subst (λ n. r.1 < n) (sym whole) ((own r).0 there).0

    pub earlier_more : (first : List ℕ → Option ℕ) → AreEarlierIn first (take i rows) table
        → AreEarlierIn first (take (i + 1) rows) (set table r.1 (earlier_of (first r.0) r.1))
    earlier_more first old =
        subst (λ rs. AreEarlierIn first rs (set table r.1 (earlier_of (first r.0) r.1)))
        (sym (take_more rows i r less ∙ ap (λ q. take i rows ++ q ∷ []) (sym is)))
        (earlier_next first (take i rows) r table row_within (λ q c same. row_once q r (before q c) there same) old)
      where
        before : (q : List ℕ × ℕ) → Contains (take i rows) q → Contains rows q
        before q c =
            subst (λ rs. Contains {X = List ℕ × ℕ} rs q) (take-append-drop i rows) (Contains-append_left (take i rows) (drop i rows) q c)

  -- by all of them it has the names of the graph
  module _ (first : List ℕ → Option ℕ) (firsts : (key : List ℕ) → first key ≡ find text_cmp key rows) where
    pub are_names : (table : List (Option ℕ)) → AreEarlierIn first rows table → AreNames g first (earlier_in table)
    are_names table are = record {
      named = λ key k h. (own (key, k)).0 (found_in key k rows (sym (firsts key) ∙ h));
      first_of = λ k small key named.
          let f = found_some key k rows ((own (key, k)).1 (small, named)) in
          (f.0, firsts key ∙ f.1);
      others = λ k f. (
        λ h. let e = (are k f).0 h in let n = (own (e.0, k)).0 e.1 in (n.0, e.3, (e.0, n.1, e.2)),
        λ h. (are k f).1 (h.2.0, (own (h.2.0, k)).1 (h.0, h.2.1), h.2.2, h.1),
      );
    }

module _ (g : Graph) (first : List ℕ → Option ℕ) (earlier : ℕ → Option ℕ) (are : AreNames g first earlier) where
  -- a number of a name is the first one, or a later one
  of_name : (k : ℕ) → IsShapeNumber g k → (key : List ℕ) → IsOwnKey g k key → (f : ℕ) × (first key ≡ Some f) × IsOf earlier f k
  of_name k small key own =
      let f = are.first_of k small key own in (
        f.0,
        f.1,
        elim (cases_eq k f.0) [
          | inl same ↦ inl same
          | inr differ ↦ inr ((are.others k f.0).1 (small, λ e. differ (sym e), (key, own, f.1)))
        ],
      )

  -- where none stands later, no two have one name
  pub names_apart : ((k : ℕ) → earlier k ≡ None) → AreNamesApart g
  names_apart none j k less small key a b =
      let before : j < length (entries_of g) = omega (arith, less, small) in
      let fj = of_name j before key a in
      let fk = of_name k small key b in
      let same : j ≡ k = is_first j fj.0 fj.2 ∙ same_Some fj.0 fk.0 (sym fj.1 ∙ fk.1) ∙ sym (is_first k fk.0 fk.2) in
      omega (arith, less, same)
    where
      is_first : (k f : ℕ) → IsOf earlier f k → k ≡ f
      is_first k f (inl same) = same
      is_first k f (inr among) = absurd (none-some f (sym (none k) ∙ among))

  -- all numbers of a first one have its name
  has_name : (f : ℕ) (key : List ℕ) → first key ≡ Some f → (k : ℕ) → IsOf earlier f k → IsOwnKey g k key
  has_name f key is k (inl same) = subst (λ j. IsOwnKey g j key) (sym same) (are.named key f is).1
  has_name f key is k (inr among) =
      let l = (are.others k f).0 among in
      let same = own_keys g f l.2.0 key (are.named l.2.0 f l.2.2).1 (are.named key f is).1 in
      subst (IsOwnKey g k) same l.2.1

  same_name : (f j k : ℕ) → (j ≡ k → ⊥) → IsOf earlier f j → IsOf earlier f k → SameName g j k
  same_name f j k differ (inr among) of_k =
      let l = (are.others j f).0 among in
      (l.2.0, l.2.1, has_name f l.2.0 l.2.2 k of_k)
  same_name f j k differ (inl same) (inr among) =
      let l = (are.others k f).0 among in
      (l.2.0, has_name f l.2.0 l.2.2 j (inl same), l.2.1)
  same_name f j k differ (inl same) (inl too) = absurd (differ (same ∙ sym too))

  -- of marked numbers that were all counted
  module _ (inside : List Bool) (whole : length inside ≡ length (entries_of g)) (ones : ℕ → Option ℕ) (twins : List ℕ)
      (ns : List ℕ) (all : (k : ℕ) → IsMarked inside k → Contains ns k) (counted : AreCounted inside earlier ns ones twins) where
    one_for : (k : ℕ) → IsMarked inside k → (key : List ℕ) → IsOwnKey g k key
        → (f : ℕ) × (first key ≡ Some f) × HasOne inside earlier ones twins k f
    one_for k marked key own =
        let small : k < length (entries_of g) = subst (λ n. k < n) whole (marked_within inside k marked) in
        let n = of_name k small key own in
        (n.0, n.1, by n.0 n.2)
      where
        by : (f : ℕ) → IsOf earlier f k → HasOne inside earlier ones twins k f
        by f (inl same) =
            let here : get_or inside f false ≡ true = subst (IsMarked inside) same marked in
            (f, ap (λ b. cond b (Some f) (ones f)) here, inl (sym same))
        by f (inr among) = counted.counted k f (all k marked) among

    pub are_twins : AreNameTwins g inside twins
    are_twins k = (forth, back)
      where
        forth : Contains twins k → IsMarked inside k × ((j : ℕ) × (j ≡ k → ⊥) × IsMarked inside j × SameName g j k)
        forth c =
            let t = counted.twin k c in
            (t.0, (t.1.0, t.1.2, t.1.3, same_name t.1.1 t.1.0 k t.1.2 t.1.4 t.1.5))

        joined : (j x y : ℕ) → x ≡ y → (j ≡ k → ⊥) → (x ≡ j) ⊎ (Contains twins x × Contains twins j)
            → (y ≡ k) ⊎ (Contains twins y × Contains twins k) → Contains twins k
        joined j x y same differ a (inr both) = both.1
        joined j x y same differ (inl at) (inl here) = absurd (differ (sym at ∙ same ∙ here))
        joined j x y same differ (inr both) (inl here) = subst (Contains twins) (same ∙ here) both.0

        back : IsMarked inside k × ((j : ℕ) × (j ≡ k → ⊥) × IsMarked inside j × SameName g j k) → Contains twins k
        back (marked, (j, differ, other, (key, a, b))) =
            let p = one_for j other key a in
            let q = one_for k marked key b in
            let first_same : p.0 ≡ q.0 = same_Some p.0 q.0 (sym p.1 ∙ q.1) in
            let same : p.2.0 ≡ q.2.0 =
            same_Some p.2.0 q.2.0 (sym p.2.1 ∙ ap (λ f. one_of inside ones (Some f)) first_same ∙ q.2.1) in
            joined j p.2.0 q.2.0 same differ p.2.2 q.2.2

    pub one_there : (key : List ℕ) → IsOneNamed g inside key (one_of inside ones (first key))
    one_there key = by (first key) refl
      where
        here : (f : ℕ) → first key ≡ Some f → (o : Option ℕ) → one_of inside ones (Some f) ≡ o → IsOneNamed g inside key o
        here f is None none = λ k marked own.
            let p = one_for k marked key own in
            none-some p.2.0 (sym none ∙ ap (one_of inside ones) (sym is ∙ p.1) ∙ p.2.1)
        here f is (Some k) one = let o = one_is inside earlier ones counted.one f k one in (o.0, has_name f key is k o.1)

        by : (o : Option ℕ) → first key ≡ o → IsOneNamed g inside key (one_of inside ones o)
        by None none = λ k marked own. let p = one_for k marked key own in none-some p.0 (sym none ∙ p.1)
        by (Some f) is = here f is (one_of inside ones (Some f)) refl
