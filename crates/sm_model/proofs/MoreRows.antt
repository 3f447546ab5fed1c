-- One block more at the end of the rows of a graph.
use Rattle.std.proofs.Common.{◌≡◌, ℕ, ◌+◌, ◌<◌, ◌≤◌, ◌^◌, true, List, [], ◌∷◌, ◌++◌, map, length, get_or, nat_lt, IsPermutation, refl}
use Rattle.std.proofs.Common.{sym, ap, subst, ◌∙◌, arith, append_assoc, append-nil}
use Rattle.std.specs.FinMap.Entries.{is_sorted}
use Rattle.std.specs.List.{list_all}
use Rattle.std.proofs.lemmas.Bool.{and_from}
use Rattle.std.proofs.lemmas.Bool.Decides.{nat_tests}
use Rattle.std.proofs.lemmas.List.{map-append, length-map, length-append, get_or_append_left}
use Rattle.std.proofs.lemmas.List.Folds.{list_all-append}
use Rattle.std.proofs.lemmas.List.Sorted.{IsPermutation-trans, IsPermutation-append_left, IsPermutation-append_right, IsPermutation-refl}
use Rattle.std.proofs.lemmas.List.Sorted.{length_permutation}
use Rattle.sm_tree.specs.View.{node_of, pairs_view}
use Rattle.sm_model.specs.Given.{AreGivenShapes, given_ids}
use Rattle.sm_model.specs.Graphs.{ShapeGiven, NodeMap, given_entries, given_shape, text_cmp, shape_entry}
use Rattle.sm_model.specs.GraphRows.{are_below, entries_of_rows, entry_view, id_of_row, ids_of, is_sound_row, members_are_below, row_entry}
use Rattle.sm_model.specs.steps.Blocks.{AreRowsOf, AreRowsUpTo, IsBlock, PutsBlock}
use Rattle.sm_model.specs.steps.Rising.{Rise}
use Rattle.sm_model.specs.declared.graph.rows.GraphRow.{GraphRow}
use Rattle.sm_model.specs.declared.graph.rows.RowEntry.{RowEntry}
use Rattle.sm_model.specs.declared.graph.rows.RowEntry.TheVariants.{Shape, Member}
use Rattle.sm_model.proofs.BlockOrder.{rise_with_members}
use Rattle.sm_model.proofs.Searching.{and_left, and_right}

pub is_less : (k n : ℕ) → nat_lt k n ≡ true → k < n
is_less k n h = grind (arith, nat_tests)

still_less : (k n m : ℕ) → n ≤ m → nat_lt k n ≡ true → nat_lt k m ≡ true
still_less k n m le h = let less = is_less k n h in grind (arith, nat_tests)

-- numbers below the ids mean the same where more ids follow
same_numbers : (ids more : List (List ℕ)) (ks : List ℕ) → are_below (length ids) ks ≡ true
    → map (λ k. get_or (ids ++ more) k []) ks ≡ map (λ k. get_or ids k []) ks
same_numbers ids more [] h = refl
same_numbers ids more (k ∷ ks) h =
    ap (λ id. id ∷ map (λ k. get_or (ids ++ more) k []) ks) (get_or_append_left ids more [] k (is_less k (length ids) (and_left _ _ h)))
    ∙ ap (λ rest. get_or ids k [] ∷ rest) (same_numbers ids more ks (and_right (nat_lt k (length ids)) _ h))

same_entry : (ids more : List (List ℕ)) (traits : NodeMap) (e : RowEntry) → members_are_below (length ids) e ≡ true
    → entry_view (ids ++ more) traits e ≡ entry_view ids traits e
same_entry ids more traits (Shape s) h =
    ap (λ names. shape_entry (record { kind = s.kind; members = names; properties = node_of s.properties; traits = traits }))
    (same_numbers ids more s.members h)
same_entry ids more traits (Member target) h = refl

same_entries : (ids more : List (List ℕ)) (rows : List GraphRow) → list_all (is_sound_row (length ids)) rows ≡ true
    → map (row_entry (ids ++ more)) rows ≡ map (row_entry ids) rows
same_entries ids more [] h = refl
same_entries ids more (r ∷ rs) h =
    let here = and_left (is_sound_row (length ids) r) _ h in
    ap (λ e. (r.id, e) ∷ map (row_entry (ids ++ more)) rs)
    (same_entry ids more _ r.entry (and_right (is_sorted text_cmp (pairs_view r.traits)) _ here))
    ∙ ap (λ es. row_entry ids r ∷ es) (same_entries ids more rs (and_right (is_sound_row (length ids) r) _ h))

-- rows stay sound where more follow
all_still_less : (n m : ℕ) → n ≤ m → (ks : List ℕ) → are_below n ks ≡ true → are_below m ks ≡ true
all_still_less n m le [] h = refl
all_still_less n m le (k ∷ ks) h =
    and_from (nat_lt k m) (are_below m ks) (still_less k n m le (and_left _ _ h)) (all_still_less n m le ks (and_right (nat_lt k n) _ h))

still_below : (n m : ℕ) → n ≤ m → (e : RowEntry) → members_are_below n e ≡ true → members_are_below m e ≡ true
still_below n m le (Shape s) h = all_still_less n m le s.members h
still_below n m le (Member target) h = refl

still_sound : (n m : ℕ) → n ≤ m → (rows : List GraphRow) → list_all (is_sound_row n) rows ≡ true → list_all (is_sound_row m) rows ≡ true
still_sound n m le [] h = refl
still_sound n m le (r ∷ rs) h =
    let sorted = is_sorted text_cmp (pairs_view r.traits) in
    let here = and_left (is_sound_row n r) _ h in
    and_from (is_sound_row m r) (list_all (is_sound_row m) rs)
    (and_from sorted (members_are_below m r.entry) (and_left sorted _ here) (still_below n m le r.entry (and_right sorted _ here)))
    (still_sound n m le rs (and_right (is_sound_row n r) _ h))

module _ (all : List ShapeGiven) (s : ShapeGiven) (rest : List ShapeGiven) (old : List GraphRow) (h : AreRowsUpTo all (s ∷ rest) old) where
  -- there are numbers for the rows of the shape
  pub room : length (given_entries all) < 2 ^ 32 → length old + length (given_shape s) < 2 ^ 32
  room few = omega (
    arith,
    few,
    length_permutation _ _ h.entries,
    length-append (entries_of_rows old) (given_shape s ++ given_entries rest),
    length-append (given_shape s) (given_entries rest),
    length-map old (row_entry (ids_of old)),
  )

  module _ (block : List GraphRow) (b : IsBlock (length old) s block) where
    ids_appended : ids_of (old ++ block) ≡ ids_of old ++ ids_of block
    ids_appended = map-append id_of_row old block

    stay_sound : list_all (is_sound_row (length (ids_of old))) old ≡ true
    stay_sound = subst (λ n. list_all (is_sound_row n) old ≡ true) (sym (length-map old id_of_row)) h.sound

    entries_appended : entries_of_rows (old ++ block) ≡ entries_of_rows old ++ map (row_entry (ids_of old ++ ids_of block)) block
    entries_appended =
        ap (λ ids. map (row_entry ids) (old ++ block)) ids_appended
        ∙ map-append (row_entry (ids_of old ++ ids_of block)) old block
        ∙ ap (λ es. es ++ map (row_entry (ids_of old ++ ids_of block)) block) (same_entries (ids_of old) (ids_of block) old stay_sound)

    more_entries : IsPermutation (given_entries all) (entries_of_rows (old ++ block) ++ given_entries rest)
    more_entries =
        subst (λ es. IsPermutation (given_entries all) (es ++ given_entries rest)) (sym entries_appended)
        (subst (IsPermutation (given_entries all)) (sym (append_assoc (entries_of_rows old) _ (given_entries rest)))
        (IsPermutation-trans _ _ _ h.entries
        (IsPermutation-append_right (entries_of_rows old) _ _
        (IsPermutation-append_left (given_entries rest) _ _ (b.entries (ids_of old) (length-map old id_of_row))))))

    more_rise : Rise (ids_of (old ++ block) ++ given_ids rest)
    more_rise =
        let together : ids_of (old ++ block) ++ given_ids rest ≡ ids_of old ++ s.id ∷ (b.ids ++ given_ids rest) =
        ap (λ ids. ids ++ given_ids rest) (ids_appended ∙ ap (λ ids. ids_of old ++ ids) b.are_ids)
        ∙ append_assoc (ids_of old) (s.id ∷ b.ids) (given_ids rest) in
        subst Rise (sym together) (rise_with_members s.id b.ids rest h.given.0.id b.members b.rise h.given.1 (ids_of old) h.rise)

    more_sound : list_all (is_sound_row (length (old ++ block))) (old ++ block) ≡ true
    more_sound =
        let n = length (old ++ block) in
        let long = length-append old block in
        list_all-append (is_sound_row n) old block
        ∙ and_from (list_all (is_sound_row n) old) (list_all (is_sound_row n) block)
        (still_sound (length old) n (omega (arith, long)) old h.sound)
        (subst (λ k. list_all (is_sound_row k) block ≡ true) (sym long) b.sound)

  pub more_rows : (new : List GraphRow) → PutsBlock s old new → AreRowsUpTo all rest new
  more_rows new p = subst (AreRowsUpTo all rest) (sym p.appended) (record {
    entries = more_entries p.block p.is_block;
    rise = more_rise p.block p.is_block;
    sound = more_sound p.block p.is_block;
    given = h.given.1;
  })

pub no_rows : (all : List ShapeGiven) → AreGivenShapes all → Rise (given_ids all) → AreRowsUpTo all all []
no_rows all given rise = record { entries = IsPermutation-refl _; rise = rise; sound = refl; given = given }

pub all_rows : (all : List ShapeGiven) (rows : List GraphRow) → AreRowsUpTo all [] rows → AreRowsOf all rows
all_rows all rows h = record {
  entries = subst (IsPermutation (given_entries all)) (append-nil (entries_of_rows rows)) h.entries;
  rise = subst Rise (append-nil (ids_of rows)) h.rise;
  sound = h.sound;
}
