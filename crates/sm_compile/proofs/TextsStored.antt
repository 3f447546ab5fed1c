-- Texts that are added to a store one after the other: their numbers, their rows, and where one is refused.
use Rattle.std.proofs.Common.{◌≡◌, ℕ, zero, suc, ◌+◌, ◌-◌, ◌^◌, ◌<◌, ◌≤◌, cond, List, [], ◌∷◌, ◌++◌, map, length, take, drop, get_or, Some}
use Rattle.std.proofs.Common.{refl, sym, ap, ◌∙◌, subst, arith, append_assoc, append-nil, length-append}
use Rattle.std.specs.Prelude.{min, slice_get}
use Rattle.std.proofs.lemmas.Bool.{eq-eqb, ne_eqb}
use Rattle.std.proofs.lemmas.List.{drop_more, length-map, map-append, take-append-drop, take_more}
use Rattle.std.proofs.lemmas.Option.{none-some, same_Some, slice_get_within}
use Rattle.sm_model.specs.GraphView.{AreShapeNumbers, IsShapeNumber}
use Rattle.sm_model.specs.Reaching.{id_of_number}
use Rattle.sm_model.specs.declared.graph.Graph.{Graph}
use Rattle.sm_shapes.specs.TableData.{texts_numbered}
use Rattle.sm_compile.specs.Answers.{StoreSeen}
use Rattle.sm_compile.specs.Compiled.{AreNumberedFrom, PatternRows, texts_of}
use Rattle.sm_compile.specs.declared.compiled.CompileRefusal.{CompileRefusal}
use Rattle.sm_compile.specs.declared.compiled.CompileRefusal.TheVariants.{NoShape, Pattern, NoMemory}
use Rattle.sm_compile.specs.declared.patterns.FirstCarrier.{FirstCarrier}
use Rattle.sm_compile.specs.steps.Carrying.{carriers_of}
use Rattle.sm_compile.specs.steps.Storing.{AreTextsStored, IsTextStored, StopsAmong, StopsAt}

abbrev pub row_of : FirstCarrier → ℕ × List ℕ
row_of f = (f.number, f.text.now)

abbrev pub rows_of : List FirstCarrier → PatternRows
rows_of fs = map row_of fs

-- nothing is stored yet
pub none_stored : (s : StoreSeen) → AreTextsStored [] s s []
none_stored s = record {
  are = refl;
  numbered = tt;
  added = sym (append-nil s.added);
  refused = refl;
  refusals = refl;
}

-- one row more
numbered_more : (k : ℕ) (rows : PatternRows) (n : ℕ) (t : List ℕ) → AreNumberedFrom k rows → n ≡ k + length rows
    → AreNumberedFrom k (rows ++ (n, t) ∷ [])
numbered_more k [] n t h is = (omega (arith, is), tt)
numbered_more k (r ∷ rows) n t h is =
    let next : n ≡ (k + 1) + length rows = omega (arith, is) in (h.0, numbered_more (k + 1) rows n t h.1 next)

one_stored : (t : List ℕ) (ts : List (List ℕ)) (before mid now : StoreSeen) (rows rows_now : PatternRows)
    → AreTextsStored ts before mid rows → IsTextStored t mid now rows rows_now → AreTextsStored (ts ++ t ∷ []) before now rows_now
one_stored t ts before mid now rows rows_now h is =
    let long : length mid.added ≡ length before.added + length ts = ap length h.added ∙ length-append before.added ts in
    let many : length rows ≡ length ts = sym (length-map rows (λ (r : ℕ × List ℕ). r.1)) ∙ ap length h.are in
    let number : length mid.added ≡ length before.added + length rows = omega (arith, long, many) in
    record {
      are = ap texts_of is.row ∙ map-append (λ (r : ℕ × List ℕ). r.1) rows ((length mid.added, t) ∷ [])
          ∙ ap (λ us. us ++ t ∷ []) h.are;
      numbered = subst (AreNumberedFrom (length before.added)) (sym is.row)
          (numbered_more (length before.added) rows (length mid.added) t h.numbered number);
      added = is.added ∙ ap (λ us. us ++ t ∷ []) h.added ∙ append_assoc before.added ts (t ∷ []);
      refused = is.refused ∙ h.refused;
      refusals = is.refusals ∙ h.refusals;
    }

-- a stop, behind those that were stored
stopped : (g : Graph) (all : PatternRows) (earlier later : PatternRows) (number : ℕ) (text : List ℕ) (before mid now : StoreSeen)
    (rows : PatternRows) (refusal : CompileRefusal) → AreTextsStored (texts_of earlier) before mid rows
    → all ≡ earlier ++ (number, text) ∷ later → StopsAt (id_of_number g number) text mid now refusal → StopsAmong g all before now refusal
stopped g all earlier later number text before mid now rows NoShape h parts is = is
stopped g all earlier later number text before mid now rows (Pattern id) h parts is = record {
  earlier = earlier;
  number = number;
  text = text;
  later = later;
  parts = parts;
  carrier = is.0;
  added = is.1.added ∙ h.added;
  refused = is.1.refused;
  refusals = is.1.refusals ∙ ap (λ (n : ℕ). min (n + 1) (2 ^ 64 - 1)) h.refusals;
}
stopped g all earlier later number text before mid now rows NoMemory h parts is = record {
  more = texts_of earlier ++ is.more;
  added = is.added ∙ ap (λ us. us ++ is.more) h.added ∙ append_assoc before.added (texts_of earlier) is.more;
  refused = is.refused ∙ h.refused;
  refusals = is.refusals ∙ h.refusals;
}

-- rows that are numbered one after the other: the number of a place names its text alone
none_numbered : (k n : ℕ) (rows : PatternRows) → AreNumberedFrom k rows → n < k → texts_numbered n rows ≡ []
none_numbered k n [] h less = refl
none_numbered k n (r ∷ rows) h less =
    let other : r.0 ≡ n → ⊥ = λ e. omega (arith, less, h.0, e) in
    ap (λ b. cond b (r.1 ∷ texts_numbered n rows) (texts_numbered n rows)) (ne_eqb r.0 n other)
    ∙ none_numbered (k + 1) n rows h.1 (omega (arith, less))

at_within : (rows : PatternRows) (i : ℕ) (u : List ℕ) → slice_get (texts_of rows) i ≡ Some u → i < length rows
at_within rows i u is =
    let low = slice_get_within (texts_of rows) i u is in
    omega (arith, low, length-map rows (λ (r : ℕ × List ℕ). r.1))

later_number : (k i : ℕ) (rows : PatternRows) (d : ℕ × List ℕ) → AreNumberedFrom k rows → i < length rows → k ≤ (get_or rows i d).0
later_number k i [] d h lt = absurd (omega (arith, lt))
later_number k zero (r ∷ rows) d h lt = omega (arith, h.0)
later_number k (suc i) (r ∷ rows) d h lt =
    let rest = later_number (k + 1) i rows d h.1 (omega (arith, lt)) in omega (arith, rest)

pub named_at : (k i : ℕ) (u : List ℕ) (rows : PatternRows) (d : ℕ × List ℕ) → AreNumberedFrom k rows → slice_get (texts_of rows) i ≡ Some u
    → texts_numbered (get_or rows i d).0 rows ≡ u ∷ []
named_at k i u [] d h is = absurd (none-some u is)
named_at k zero u (r ∷ rows) d h is =
    ap (λ b. cond b (r.1 ∷ texts_numbered r.0 rows) (texts_numbered r.0 rows)) (eq-eqb r.0 r.0 refl)
    ∙ (λ j. same_Some r.1 u is j ∷ none_numbered (k + 1) r.0 rows h.1 (omega (arith, h.0)) j)
named_at k (suc i) u (r ∷ rows) d h is =
    let n = (get_or rows i d).0 in
    let later = later_number (k + 1) i rows d h.1 (at_within rows i u is) in
    ap (λ b. cond b (r.1 ∷ texts_numbered n rows) (texts_numbered n rows)) (ne_eqb r.0 n (λ e. omega (arith, h.0, e, later)))
    ∙ named_at (k + 1) i u rows d h.1 is

-- a first carrier among those that come, and its text behind those before
pub number_at : (g : Graph) (fs : List FirstCarrier) (i : ℕ) (d : FirstCarrier) → i < length fs
    → AreShapeNumbers g (carriers_of (rows_of fs)) → IsShapeNumber g (get_or fs i d).number
number_at g [] i d lt h = absurd (omega (arith, lt))
number_at g (f ∷ fs) zero d lt h = h.0
number_at g (f ∷ fs) (suc i) d lt h = number_at g fs i d (omega (arith, lt)) h.1

row_at : (fs : List FirstCarrier) (i : ℕ) (d : FirstCarrier) → i < length fs
    → get_or (rows_of fs) i (d.number, d.text.now) ≡ ((get_or fs i d).number, (get_or fs i d).text.now)
row_at [] i d lt = absurd (omega (arith, lt))
row_at (f ∷ fs) zero d lt = refl
row_at (f ∷ fs) (suc i) d lt = row_at fs i d (omega (arith, lt))

row_parts : (fs : List FirstCarrier) (i : ℕ) (d : FirstCarrier) → i < length fs
    → rows_of fs ≡ take i (rows_of fs) ++ ((get_or fs i d).number, (get_or fs i d).text.now) ∷ drop (i + 1) (rows_of fs)
row_parts fs i d lt =
    let within : i < length (rows_of fs) = omega (arith, lt, length-map {B = ℕ × List ℕ} fs row_of) in
    sym (take-append-drop i (rows_of fs))
    ∙ ap (λ rs. take i (rows_of fs) ++ rs)
    (drop_more (rows_of fs) i (d.number, d.text.now) within ∙ ap (λ r. r ∷ drop (i + 1) (rows_of fs)) (row_at fs i d lt))

texts_more : (fs : List FirstCarrier) (i : ℕ) (d : FirstCarrier) → i < length fs
    → texts_of (take (i + 1) (rows_of fs)) ≡ texts_of (take i (rows_of fs)) ++ (get_or fs i d).text.now ∷ []
texts_more fs i d lt =
    let within : i < length (rows_of fs) = omega (arith, lt, length-map {B = ℕ × List ℕ} fs row_of) in
    let row : ℕ × List ℕ = ((get_or fs i d).number, (get_or fs i d).text.now) in
    ap texts_of (take_more (rows_of fs) i (d.number, d.text.now) within ∙ ap (λ r. take i (rows_of fs) ++ r ∷ []) (row_at fs i d lt))
    ∙ map-append (λ (r : ℕ × List ℕ). r.1) (take i (rows_of fs)) (row ∷ [])

-- the next text that is stored, and the next that stops; the first carriers come as a slice of them all
module _ (fs all : List FirstCarrier) (same : fs ≡ all) (i : ℕ) (d : FirstCarrier) (lt : i < length fs) (before mid now : StoreSeen)
    (rows : PatternRows) (stored : AreTextsStored (texts_of (take i (rows_of all))) before mid rows) where
  stored_here : AreTextsStored (texts_of (take i (rows_of fs))) before mid rows
  stored_here = subst (λ xs. AreTextsStored (texts_of (take i (rows_of xs))) before mid rows) (sym same) stored

  pub stores_next : (rows_now : PatternRows) → IsTextStored (get_or fs i d).text.now mid now rows rows_now
      → AreTextsStored (texts_of (take (i + 1) (rows_of all))) before now rows_now
  stores_next rows_now is =
      subst (λ xs. AreTextsStored (texts_of (take (i + 1) (rows_of xs))) before now rows_now) same
      (subst (λ ts. AreTextsStored ts before now rows_now) (sym (texts_more fs i d lt))
      (one_stored (get_or fs i d).text.now (texts_of (take i (rows_of fs))) before mid now rows rows_now stored_here is))

  pub stops_next : (g : Graph) (refusal : CompileRefusal)
      → StopsAt (id_of_number g (get_or fs i d).number) (get_or fs i d).text.now mid now refusal
      → StopsAmong g (rows_of all) before now refusal
  stops_next g refusal is =
      subst (λ xs. StopsAmong g (rows_of xs) before now refusal) same
      (stopped g (rows_of fs) (take i (rows_of fs)) (drop (i + 1) (rows_of fs)) (get_or fs i d).number (get_or fs i d).text.now before mid
      now rows refusal stored_here (row_parts fs i d lt) is)
