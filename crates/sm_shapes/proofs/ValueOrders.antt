-- The order of values is that of their words, one list for each value, so it is total; and it tells apart all values but equal ones.
use Rattle.std.proofs.Common.{◌≡◌, ℕ, ℤ, Bool, true, false, ◌&&◌, List, [], ◌∷◌, refl, sym, ap, ◌∙◌, subst}
use Rattle.std.specs.Prelude.{pos, ◌==◌, ◌↔◌, IsTrue}
use Rattle.std.specs.Cmp.{IsTotalOrder}
use Rattle.std.specs.Cmp.Lexicographic.{slice_cmp}
use Rattle.std.specs.Ordering.{nat_cmp, int_cmp, bool_cmp, ordering_then, ordering_reverse, is_eq, then_cmp, on}
use Rattle.std.specs.Str.{bytes_eq}
use Rattle.std.specs.declared.cmp.Ordering.{Ordering}
use Rattle.std.specs.declared.cmp.Ordering.TheVariants.{Less, Equal, Greater}
use Rattle.std.proofs.lemmas.Cmp.{nat_cmp_total, int_cmp_total, nat_list_cmp_total, lists_total, on_total, then_total}
use Rattle.std.proofs.Common.{arith}
use Rattle.std.proofs.lemmas.Bool.Decides.{nat_tests}
use Rattle.std.proofs.lemmas.Map.Text.{is_eq-slice_cmp}
use Rattle.sm_shapes.specs.Values.{Val, Vals, EntryVals, FieldVals, null_val, bool_val, int_val, text_val, blob_val, time_val, list_val}
use Rattle.sm_shapes.specs.Values.{map_val, structure_val, union_val, no_vals, val, no_entries, entry, no_fields, field, same_val}
use Rattle.sm_shapes.specs.Values.{same_vals, same_entries, same_fields}
use Rattle.sm_shapes.specs.ValueOrder.{val_cmp, vals_cmp, entries_cmp, fields_cmp, ValuesInOrder, EqualIsSame}
use Rattle.sm_shapes.proofs.SameVals.{same_is, same_itself}

-- a word: what kind of part comes, a number and a text
abbrev Word : Type 0
Word = ℕ × ℤ × List ℕ

abbrev word_cmp : Word → Word → Ordering
word_cmp = then_cmp (on (λ w. w.0) nat_cmp) (then_cmp (on (λ w. w.1) int_cmp) (on (λ w. w.2) (slice_cmp nat_cmp)))

words_total : IsTotalOrder (slice_cmp word_cmp)
words_total = lists_total (then_total (on_total (λ w. w.0) nat_cmp_total)
    (then_total (on_total (λ w. w.1) int_cmp_total) (on_total (λ w. w.2) nat_list_cmp_total)))

abbrev sign : ℕ → Word
sign k = (k, pos 0, [])

abbrev bool_number : Bool → ℤ
bool_number false = pos 0
bool_number true = pos 1

abbrev bool_word : Bool → Word
bool_word b = (1, bool_number b, [])

abbrev mutual
  -- the words of a value, and then xs
  words : Val → List Word → List Word
  words null_val xs = sign 0 ∷ xs
  words (bool_val b) xs = bool_word b ∷ xs
  words (int_val z) xs = (2, z, []) ∷ xs
  words (text_val u) xs = (3, pos 0, u) ∷ xs
  words (blob_val u) xs = (4, pos 0, u) ∷ xs
  words (time_val ms) xs = (5, ms, []) ∷ xs
  words (list_val vs) xs = sign 6 ∷ vals_words vs xs
  words (map_val es) xs = sign 7 ∷ entries_words es xs
  words (structure_val fs) xs = sign 8 ∷ fields_words fs xs
  words (union_val k v) xs = sign 9 ∷ sign k ∷ words v xs

  vals_words : Vals → List Word → List Word
  vals_words no_vals xs = sign 0 ∷ xs
  vals_words (val v vs) xs = sign 1 ∷ words v (vals_words vs xs)

  entries_words : EntryVals → List Word → List Word
  entries_words no_entries xs = sign 0 ∷ xs
  entries_words (entry k v es) xs = (1, pos 0, k) ∷ words v (entries_words es xs)

  fields_words : FieldVals → List Word → List Word
  fields_words no_fields xs = sign 0 ∷ xs
  fields_words (field k v fs) xs = sign 1 ∷ sign k ∷ words v (fields_words fs xs)

then_assoc : (a b c : Ordering) → ordering_then (ordering_then a b) c ≡ ordering_then a (ordering_then b c)
then_assoc Less b c = refl
then_assoc Equal b c = refl
then_assoc Greater b c = refl

then_equal : (a : Ordering) → ordering_then a Equal ≡ a
then_equal Less = refl
then_equal Equal = refl
then_equal Greater = refl

rank_then : (a o : Ordering) → ordering_then (ordering_then a Equal) o ≡ ordering_then a o
rank_then a o = ap (λ b. ordering_then b o) (then_equal a)

bools_then : (a b : Bool) (xs ys : List Word)
    → slice_cmp word_cmp (bool_word a ∷ xs) (bool_word b ∷ ys) ≡ ordering_then (bool_cmp a b) (slice_cmp word_cmp xs ys)
bools_then false false xs ys = refl
bools_then false true xs ys = refl
bools_then true false xs ys = refl
bools_then true true xs ys = refl

mutual
  -- the words of two values, and then others, are in the order of the values, and then in that of the others
  words_then : (v w : Val) (xs ys : List Word)
      → slice_cmp word_cmp (words v xs) (words w ys) ≡ ordering_then (val_cmp v w) (slice_cmp word_cmp xs ys)
  words_then null_val null_val xs ys = refl
  words_then (bool_val a) (bool_val b) xs ys = bools_then a b xs ys
  words_then (int_val y) (int_val z) xs ys = rank_then (int_cmp y z) (slice_cmp word_cmp xs ys)
  words_then (text_val t) (text_val u) xs ys = refl
  words_then (blob_val t) (blob_val u) xs ys = refl
  words_then (time_val y) (time_val z) xs ys = rank_then (int_cmp y z) (slice_cmp word_cmp xs ys)
  words_then (list_val vs) (list_val ws) xs ys = vals_then vs ws xs ys
  words_then (map_val es) (map_val ds) xs ys = entries_then es ds xs ys
  words_then (structure_val fs) (structure_val gs) xs ys = fields_then fs gs xs ys
  words_then (union_val j v) (union_val k w) xs ys =
      rank_then (nat_cmp j k) (slice_cmp word_cmp (words v xs) (words w ys)) ∙ ap (ordering_then (nat_cmp j k)) (words_then v w xs ys)
      ∙ sym (then_assoc (nat_cmp j k) (val_cmp v w) (slice_cmp word_cmp xs ys))
  words_then v w xs ys = refl

  vals_then : (vs ws : Vals) (xs ys : List Word)
      → slice_cmp word_cmp (vals_words vs xs) (vals_words ws ys) ≡ ordering_then (vals_cmp vs ws) (slice_cmp word_cmp xs ys)
  vals_then no_vals no_vals xs ys = refl
  vals_then no_vals (val w ws) xs ys = refl
  vals_then (val v vs) no_vals xs ys = refl
  vals_then (val v vs) (val w ws) xs ys =
      words_then v w (vals_words vs xs) (vals_words ws ys) ∙ ap (ordering_then (val_cmp v w)) (vals_then vs ws xs ys)
      ∙ sym (then_assoc (val_cmp v w) (vals_cmp vs ws) (slice_cmp word_cmp xs ys))

  entries_then : (es ds : EntryVals) (xs ys : List Word)
      → slice_cmp word_cmp (entries_words es xs) (entries_words ds ys) ≡ ordering_then (entries_cmp es ds) (slice_cmp word_cmp xs ys)
  entries_then no_entries no_entries xs ys = refl
  entries_then no_entries (entry k w ds) xs ys = refl
  entries_then (entry j v es) no_entries xs ys = refl
  entries_then (entry j v es) (entry k w ds) xs ys =
      ap (ordering_then (slice_cmp nat_cmp j k))
      (words_then v w (entries_words es xs) (entries_words ds ys) ∙ ap (ordering_then (val_cmp v w)) (entries_then es ds xs ys)
      ∙ sym (then_assoc (val_cmp v w) (entries_cmp es ds) (slice_cmp word_cmp xs ys)))
      ∙ sym (then_assoc (slice_cmp nat_cmp j k) (ordering_then (val_cmp v w) (entries_cmp es ds)) (slice_cmp word_cmp xs ys))

  fields_then : (fs gs : FieldVals) (xs ys : List Word)
      → slice_cmp word_cmp (fields_words fs xs) (fields_words gs ys) ≡ ordering_then (fields_cmp fs gs) (slice_cmp word_cmp xs ys)
  fields_then no_fields no_fields xs ys = refl
  fields_then no_fields (field k w gs) xs ys = refl
  fields_then (field j v fs) no_fields xs ys = refl
  fields_then (field j v fs) (field k w gs) xs ys =
      rank_then (nat_cmp j k) (slice_cmp word_cmp (words v (fields_words fs xs)) (words w (fields_words gs ys)))
      ∙ ap (ordering_then (nat_cmp j k))
      (words_then v w (fields_words fs xs) (fields_words gs ys) ∙ ap (ordering_then (val_cmp v w)) (fields_then fs gs xs ys)
      ∙ sym (then_assoc (val_cmp v w) (fields_cmp fs gs) (slice_cmp word_cmp xs ys)))
      ∙ sym (then_assoc (nat_cmp j k) (ordering_then (val_cmp v w) (fields_cmp fs gs)) (slice_cmp word_cmp xs ys))

by_words : (v w : Val) → val_cmp v w ≡ slice_cmp word_cmp (words v []) (words w [])
by_words v w = sym (words_then v w [] [] ∙ then_equal (val_cmp v w))

pub values_in_order : ValuesInOrder
values_in_order = record {
  antisymm = λ x y. by_words x y ∙ words_total.antisymm (words x []) (words y []) ∙ ap ordering_reverse (sym (by_words y x));
  trans = λ x y z h g. by_words x z ∙ words_total.trans (words x []) (words y []) (words z []) (sym (by_words x y) ∙ h)
      (sym (by_words y z) ∙ g);
  congr = λ x y z h. by_words x z ∙ words_total.congr (words x []) (words y []) (words z []) (sym (by_words x y) ∙ h) ∙ sym (by_words y z);
}

both_equal : (a b : Ordering) → is_eq (ordering_then a b) ≡ (is_eq a && is_eq b)
both_equal Less b = refl
both_equal Equal b = refl
both_equal Greater b = refl

numbers_equal : (j k : ℕ) → is_eq (nat_cmp j k) ≡ (j == k)
numbers_equal j k = grind (arith, nat_tests)

bool_same : (a : Bool) (w : Val) → is_eq (val_cmp (bool_val a) w) ≡ same_val (bool_val a) w
bool_same false (bool_val false) = refl
bool_same false (bool_val true) = refl
bool_same true (bool_val false) = refl
bool_same true (bool_val true) = refl
bool_same true w = refl
bool_same false w = refl

mutual
  same_by_order : (v w : Val) → is_eq (val_cmp v w) ≡ same_val v w
  same_by_order null_val null_val = refl
  same_by_order (bool_val a) w = bool_same a w
  same_by_order (int_val y) (int_val z) = refl
  same_by_order (text_val t) (text_val u) = is_eq-slice_cmp t u
  same_by_order (blob_val t) (blob_val u) = is_eq-slice_cmp t u
  same_by_order (time_val y) (time_val z) = refl
  same_by_order (list_val vs) (list_val ws) = vals_by_order vs ws
  same_by_order (map_val es) (map_val ds) = entries_by_order es ds
  same_by_order (structure_val fs) (structure_val gs) = fields_by_order fs gs
  same_by_order (union_val j v) (union_val k w) =
      both_equal (nat_cmp j k) (val_cmp v w) ∙ ap (λ b. b && is_eq (val_cmp v w)) (numbers_equal j k)
      ∙ ap (λ b. (j == k) && b) (same_by_order v w)
  same_by_order v w = refl

  vals_by_order : (vs ws : Vals) → is_eq (vals_cmp vs ws) ≡ same_vals vs ws
  vals_by_order no_vals no_vals = refl
  vals_by_order no_vals (val w ws) = refl
  vals_by_order (val v vs) no_vals = refl
  vals_by_order (val v vs) (val w ws) =
      both_equal (val_cmp v w) (vals_cmp vs ws) ∙ ap (λ b. b && is_eq (vals_cmp vs ws)) (same_by_order v w)
      ∙ ap (λ b. same_val v w && b) (vals_by_order vs ws)

  entries_by_order : (es ds : EntryVals) → is_eq (entries_cmp es ds) ≡ same_entries es ds
  entries_by_order no_entries no_entries = refl
  entries_by_order no_entries (entry k w ds) = refl
  entries_by_order (entry j v es) no_entries = refl
  entries_by_order (entry j v es) (entry k w ds) =
      both_equal (slice_cmp nat_cmp j k) (ordering_then (val_cmp v w) (entries_cmp es ds))
      ∙ ap (λ b. b && is_eq (ordering_then (val_cmp v w) (entries_cmp es ds))) (is_eq-slice_cmp j k)
      ∙ ap (λ b. bytes_eq j k && b) (both_equal (val_cmp v w) (entries_cmp es ds)
      ∙ ap (λ b. b && is_eq (entries_cmp es ds)) (same_by_order v w) ∙ ap (λ b. same_val v w && b) (entries_by_order es ds))

  fields_by_order : (fs gs : FieldVals) → is_eq (fields_cmp fs gs) ≡ same_fields fs gs
  fields_by_order no_fields no_fields = refl
  fields_by_order no_fields (field k w gs) = refl
  fields_by_order (field j v fs) no_fields = refl
  fields_by_order (field j v fs) (field k w gs) =
      both_equal (nat_cmp j k) (ordering_then (val_cmp v w) (fields_cmp fs gs))
      ∙ ap (λ b. b && is_eq (ordering_then (val_cmp v w) (fields_cmp fs gs))) (numbers_equal j k)
      ∙ ap (λ b. (j == k) && b) (both_equal (val_cmp v w) (fields_cmp fs gs)
      ∙ ap (λ b. b && is_eq (fields_cmp fs gs)) (same_by_order v w) ∙ ap (λ b. same_val v w && b) (fields_by_order fs gs))

equal_where : (o : Ordering) → is_eq o ≡ true → o ≡ Equal
equal_where Equal h = refl
equal_where Less h = absurd cc
equal_where Greater h = absurd cc

pub equal_is_same : EqualIsSame
equal_is_same v w = (
  λ h. same_is v w (sym (same_by_order v w) ∙ ap is_eq h),
  λ e. equal_where (val_cmp v w) (same_by_order v w ∙ subst (λ x. same_val v x ≡ true) e (same_itself v)),
)

-- a test of the order tells whether two values are the same
pub told_same : (v w : Val) (o : Ordering) (b : Bool) → o ≡ val_cmp v w → b ≡ is_eq o → IsTrue b ↔ (v ≡ w)
told_same v w o b order test = (
  λ h. (equal_is_same v w).0 (sym order ∙ equal_where o (sym test ∙ h)),
  λ e. test ∙ ap is_eq (order ∙ (equal_is_same v w).1 e),
)
