-- Rows that a stable sort has put into the order of their names, each name once: the first of a name stays what it was.
use Rattle.std.proofs.Common.{◌≡◌, ℕ, Bool, true, false, cond, List, [], ◌∷◌, filter, Option, Some, None}
use Rattle.std.proofs.Common.{IsPermutation, IsSortedBy, refl, sym, ap, subst, ◌∙◌, arith, bytes_eq}
use Rattle.std.specs.List.{dedup, dedup_from}
use Rattle.std.specs.List.Sorted.{ties, IsStableBy}
use Rattle.std.specs.FinMap.Entries.{find}
use Rattle.std.specs.Ordering.{is_lt, is_eq}
use Rattle.std.proofs.lemmas.List.Sorted.{length_permutation}
use Rattle.std.proofs.lemmas.Slice.Eq.{bytes_eq-Decides}
use Rattle.sm_model.specs.Graphs.{text_cmp}
use Rattle.sm_model.specs.steps.Rising.{IsBelow, Rise}
use Rattle.sm_merge.specs.steps.EffectiveTables.{trait_names}
use Rattle.sm_merge.specs.steps.Filling.{AreFirstRows, folded_rows}
use Rattle.sm_merge.specs.declared.effective.NamedFolded.{NamedFolded}
use Rattle.sm_merge.specs.declared.value.Folded.{Folded}
use Rattle.sm_merge.proofs.FoundRows.{here, passed}
use Rattle.sm_groups.proofs.GroupsMade.{Climb, below_all_of, climbs, comes_before, less, tied_rows}

abbrev pub name_of : NamedFolded → List ℕ
name_of e = e.name.now

abbrev pub before : NamedFolded → NamedFolded → Bool
before a b = comes_before name_of a b

abbrev pub same : NamedFolded → NamedFolded → Bool
same a b = bytes_eq a.name.now b.name.now

abbrev named : List ℕ → NamedFolded → Bool
named k e = bytes_eq e.name.now k

abbrev head_folded : List NamedFolded → Option Folded
head_folded [] = None
head_folded (e ∷ es) = Some e.folded.now

-- what is found is the first of those of that name
first_named : (k : List ℕ) (es : List NamedFolded) → find text_cmp k (folded_rows es) ≡ head_folded (filter (named k) es)
first_named k [] = refl
first_named k (e ∷ es) = by (bytes_eq e.name.now k) refl (first_named k es)
  where
    by : (b : Bool) → bytes_eq e.name.now k ≡ b → find text_cmp k (folded_rows es) ≡ head_folded (filter (named k) es)
        → find text_cmp k (folded_rows (e ∷ es)) ≡ head_folded (cond b (e ∷ filter (named k) es) (filter (named k) es))
    by true is rest = here k (e.name.now, e.folded.now) (folded_rows es) is
    by false is rest = passed k (e.name.now, e.folded.now) (folded_rows es) is ∙ rest

abbrev with_name : List ℕ → NamedFolded → NamedFolded
with_name k e = record { name = record { ref_ptr = (0, 0); now = k }; folded = e.folded }

same_filter : (a b : NamedFolded → Bool) → ((e : NamedFolded) → a e ≡ b e) → (es : List NamedFolded) → filter a es ≡ filter b es
same_filter a b h [] = refl
same_filter a b h (e ∷ es) = λ i. cond (h e i) (e ∷ same_filter a b h es i) (same_filter a b h es i)

pub still_found : (xs ys : List NamedFolded) → IsPermutation xs ys → IsStableBy before xs ys → (k : List ℕ)
    → find text_cmp k (folded_rows ys) ≡ find text_cmp k (folded_rows xs)
still_found [] [] moved stable k = refl
still_found [] (y ∷ ys) moved stable k = let none = length_permutation [] (y ∷ ys) moved in absurd (omega (arith, none))
still_found (x ∷ xs) ys moved stable k =
    first_named k ys
    ∙ ap head_folded (sym (same_filter (ties before (with_name k x)) (named k) (tied_rows name_of (with_name k x)) ys)
    ∙ stable (with_name k x)
    ∙ same_filter (ties before (with_name k x)) (named k) (tied_rows name_of (with_name k x)) (x ∷ xs))
    ∙ sym (first_named k (x ∷ xs))

-- of those next to each other that have one name the first is kept
found_from : (k : List ℕ) (e : NamedFolded) (es : List NamedFolded)
    → find text_cmp k (folded_rows (dedup_from same e es)) ≡ find text_cmp k (folded_rows (e ∷ es))
found_from k e [] = refl
found_from k e (f ∷ es) = by (bytes_eq f.name.now e.name.now) refl (found_from k e es) (found_from k f es)
  where
    skip : bytes_eq f.name.now e.name.now ≡ true → (b : Bool) → bytes_eq e.name.now k ≡ b
        → find text_cmp k (folded_rows (e ∷ es)) ≡ find text_cmp k (folded_rows (e ∷ f ∷ es))
    skip one true is =
        here k (e.name.now, e.folded.now) (folded_rows es) is ∙ sym (here k (e.name.now, e.folded.now) (folded_rows (f ∷ es)) is)
    skip one false is =
        passed k (e.name.now, e.folded.now) (folded_rows es) is
        ∙ sym (passed k (f.name.now, f.folded.now) (folded_rows es)
        (ap (λ n. bytes_eq n k) ((bytes_eq-Decides f.name.now e.name.now).0 one) ∙ is))
        ∙ sym (passed k (e.name.now, e.folded.now) (folded_rows (f ∷ es)) is)

    by : (b : Bool) → bytes_eq f.name.now e.name.now ≡ b
        → find text_cmp k (folded_rows (dedup_from same e es)) ≡ find text_cmp k (folded_rows (e ∷ es))
        → find text_cmp k (folded_rows (dedup_from same f es)) ≡ find text_cmp k (folded_rows (f ∷ es))
        → find text_cmp k (folded_rows (cond b (dedup_from same e es) (e ∷ dedup_from same f es)))
        ≡ find text_cmp k (folded_rows (e ∷ f ∷ es))
    by true one first second = first ∙ skip one (bytes_eq e.name.now k) refl
    by false apart first second = ap (λ o. cond (is_eq (text_cmp k e.name.now)) (Some e.folded.now) o) second

found_once : (k : List ℕ) (es : List NamedFolded) → find text_cmp k (folded_rows (dedup same es)) ≡ find text_cmp k (folded_rows es)
found_once k [] = refl
found_once k (e ∷ es) = found_from k e es

-- of rows that climb the first of each name rise
climb_past : (e f : NamedFolded) (es : List NamedFolded) → f.name.now ≡ e.name.now → Climb name_of (f ∷ es) → Climb name_of (e ∷ es)
climb_past e f [] one h = tt
climb_past e f (g ∷ es) one h = (subst (λ n. is_lt (text_cmp g.name.now n) ≡ false) one h.0, h.1)

-- rows that begin with a name
abbrev BeginsWith : List ℕ → List (List ℕ) → Type 0
BeginsWith k [] = ⊥
BeginsWith k (n ∷ ns) = n ≡ k

begins : (e : NamedFolded) (es : List NamedFolded) → BeginsWith e.name.now (trait_names (dedup_from same e es))
begins e [] = refl
begins e (f ∷ es) = by (bytes_eq f.name.now e.name.now) (begins e es)
  where
    by : (b : Bool) → BeginsWith e.name.now (trait_names (dedup_from same e es))
        → BeginsWith e.name.now (trait_names (cond b (dedup_from same e es) (e ∷ dedup_from same f es)))
    by true rest = rest
    by false rest = refl

below_begun : (k m : List ℕ) (ns : List (List ℕ)) → is_lt (text_cmp m k) ≡ false → bytes_eq k m ≡ false → BeginsWith m ns → Rise ns
    → IsBelow k ns
below_begun k m [] least apart begun rise = absurd begun
below_begun k m (n ∷ ns) least apart begun rise =
    let first = less k m (text_cmp k m) refl least apart in
    (ap (text_cmp k) begun ∙ first, below_all_of k m ns first (subst (λ j. IsBelow j ns) begun rise.0))

turned_apart : (a b : List ℕ) (t : Bool) → bytes_eq b a ≡ t → bytes_eq a b ≡ false → t ≡ false
turned_apart a b false e h = refl
turned_apart a b true e h =
    let itself : bytes_eq a b ≡ true = (bytes_eq-Decides a b).1 (sym ((bytes_eq-Decides b a).0 e)) in
    sym itself ∙ h

rises_from : (e : NamedFolded) (es : List NamedFolded) → Climb name_of (e ∷ es) → Rise (trait_names (dedup_from same e es))
rises_from e [] h = (tt, tt)
rises_from e (f ∷ es) h = by (bytes_eq f.name.now e.name.now) refl (λ up. rises_from e es up) (rises_from f es h.1)
  where
    by : (b : Bool) → bytes_eq f.name.now e.name.now ≡ b → (Climb name_of (e ∷ es) → Rise (trait_names (dedup_from same e es)))
        → Rise (trait_names (dedup_from same f es))
        → Rise (trait_names (cond b (dedup_from same e es) (e ∷ dedup_from same f es)))
    by true one past rest = past (climb_past e f es ((bytes_eq-Decides f.name.now e.name.now).0 one) h.1)
    by false apart past rest = (
      below_begun e.name.now f.name.now (trait_names (dedup_from same f es)) h.0
          (turned_apart f.name.now e.name.now (bytes_eq e.name.now f.name.now) refl apart) (begins f es) rest,
      rest,
    )

rises_once : (es : List NamedFolded) → Climb name_of es → Rise (trait_names (dedup same es))
rises_once [] h = tt
rises_once (e ∷ es) h = rises_from e es h

pub first_rows_are : (xs ys zs : List NamedFolded) → IsPermutation xs ys → IsSortedBy before ys → IsStableBy before xs ys
    → zs ≡ dedup same ys
    → AreFirstRows (folded_rows xs) zs
first_rows_are xs ys zs moved up stable is = subst (AreFirstRows (folded_rows xs)) (sym is) (record {
  rise = rises_once ys (climbs name_of ys up);
  same = λ k. found_once k ys ∙ still_found xs ys moved stable k;
})
