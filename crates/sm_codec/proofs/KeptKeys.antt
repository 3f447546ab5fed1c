-- Keys of a map in a tree of std's, each with its value or without: a look-up says whether one is seen, and what an insertion does.
use Rattle.std.proofs.Common.{◌≡◌, ℕ, Bool, true, false, ◌||◌, cond, List, [], ◌∷◌, ◌++◌, refl, sym, ap, ◌∙◌}
use Rattle.std.specs.Prelude.{Option, Some, None, is_some}
use Rattle.std.specs.BTreeMap.{insert_entry, is_at}
use Rattle.std.specs.Cmp.Lexicographic.{slice_cmp}
use Rattle.std.specs.List.Sorted.{IsPermutation, IsStrictlySortedBy}
use Rattle.std.specs.Map.{keys_of, lookup}
use Rattle.std.specs.Option.{option_map}
use Rattle.std.specs.Ordering.{nat_cmp, match_ordering, is_eq}
use Rattle.std.specs.Str.{bytes_eq}
use Rattle.std.specs.declared.cmp.Ordering.{Ordering}
use Rattle.std.specs.declared.cmp.Ordering.TheVariants.{Less, Equal, Greater}
use Rattle.std.proofs.lemmas.List.Sorted.{IsPermutation-refl, IsPermutation-trans, IsPermutation-cons, IsPermutation-middle}
use Rattle.std.proofs.lemmas.List.Sorted.{IsPermutation-sym}
use Rattle.std.proofs.lemmas.Map.Text.{is_eq-slice_cmp}
use Rattle.sm_shapes.specs.Values.{Val}
use Rattle.sm_shapes.specs.ValueView.{val_of}
use Rattle.sm_shapes.specs.declared.values.Value.{Value}
use Rattle.sm_codec.specs.MapView.{held_entry, held_entries}
use Rattle.sm_codec.specs.steps.MapSteps.{has_key, entries_with}
use Rattle.sm_codec.proofs.KeyOrder.{order, IsBefore, InOrder, before_all}
use Rattle.sm_codec.proofs.KeyParts.{EntriesAt, at_joined, insert_past, insert_first}

abbrev pub Valued : Type 0
Valued = List (List ℕ × Option Value)

-- a look-up
found_by : (b d : Bool) (w more : Option (Option Value)) (rest : Bool) → b ≡ d → is_some more ≡ rest → is_some w ≡ true
    → is_some (cond b w more) ≡ (d || rest)
found_by true true w more rest e h g = g
found_by true false w more rest e h g = absurd cc
found_by false true w more rest e h g = absurd cc
found_by false false w more rest e h g = h

pub found_same : (key : List ℕ) (es : Valued) → is_some (lookup (is_at (slice_cmp nat_cmp key)) es) ≡ has_key key (keys_of es)
found_same key [] = refl
found_same key (e ∷ es) =
    found_by (is_eq (slice_cmp nat_cmp key e.0)) (bytes_eq key e.0) (Some e.1) (lookup (is_at (slice_cmp nat_cmp key)) es)
    (has_key key (keys_of es)) (is_eq-slice_cmp key e.0) (found_same key es) refl

-- a key that isn't there compares to each as less or greater
never_equal : (key k : List ℕ) (ks : List (List ℕ)) → has_key key (k ∷ ks) ≡ false → order key k ≡ Equal → ⊥
never_equal key k ks h e =
    let here : bytes_eq key k ≡ true = sym (is_eq-slice_cmp key k) ∙ ap is_eq e in
    let both : has_key key (k ∷ ks) ≡ true = ap (λ b. b || has_key key ks) here in
    let bad : true ≡ false = sym both ∙ h in cc

not_behind : (b : Bool) (key : List ℕ) (ks : List (List ℕ)) → (b || has_key key ks) ≡ false → has_key key ks ≡ false
not_behind true key ks h = absurd cc
not_behind false key ks h = h

at_entry : (key k : List ℕ) (o : Ordering) (w : Option Value) → order key k ≡ o → EntriesAt key o (held_entry k w)
at_entry key k o None h = tt
at_entry key k o (Some v) h = (h, tt)

at_held : (key : List ℕ) (es : Valued) → IsBefore key (keys_of es) → EntriesAt key Less (held_entries es)
at_held key [] h = tt
at_held key (e ∷ es) h = at_joined key Less (held_entry e.0 e.1) (held_entries es) (at_entry key e.0 Less e.1 h.0) (at_held key es h.1)

-- what stands for the entries behind an insertion
module _ (key : List ℕ) (w : Option Value) where
  abbrev now : Valued → Valued
  now es = insert_entry (slice_cmp nat_cmp) es key w

  abbrev with_it : List (List ℕ × Val) → List (List ℕ × Val)
  with_it hs = entries_with key (option_map (λ v. val_of v) w) hs

  put_first : (hs : List (List ℕ × Val)) → EntriesAt key Less hs → held_entry key w ++ hs ≡ with_it hs
  put_first hs h = by_value w
    where
      by_value : (u : Option Value) → held_entry key u ++ hs ≡ entries_with key (option_map (λ v. val_of v) u) hs
      by_value None = refl
      by_value (Some v) = sym (insert_first key (val_of v) hs h)

  put_past : (es hs : List (List ℕ × Val)) → EntriesAt key Greater es → es ++ with_it hs ≡ with_it (es ++ hs)
  put_past es hs h = by_value w
    where
      by_value : (u : Option Value)
          → es ++ entries_with key (option_map (λ v. val_of v) u) hs ≡ entries_with key (option_map (λ v. val_of v) u) (es ++ hs)
      by_value None = refl
      by_value (Some v) = sym (insert_past key (val_of v) es hs h)

  put_by : (e : List ℕ × Option Value) (es : Valued) (o : Ordering) → order key e.0 ≡ o → InOrder (e.0 ∷ keys_of es)
      → has_key key (e.0 ∷ keys_of es) ≡ false → held_entries (now es) ≡ with_it (held_entries es)
      → held_entries (match_ordering o ((key, w) ∷ e ∷ es) ((e.0, w) ∷ es) (e ∷ now es)) ≡ with_it (held_entry e.0 e.1 ++ held_entries es)
  unfolding IsStrictlySortedBy
  put_by e es Less is h absent more =
      put_first (held_entries (e ∷ es)) (at_held key (e ∷ es) (is, before_all key e.0 (keys_of es) is h.0))
  put_by e es Equal is h absent more = absurd (never_equal key e.0 (keys_of es) absent is)
  put_by e es Greater is h absent more =
      ap (λ hs. held_entry e.0 e.1 ++ hs) more ∙ put_past (held_entry e.0 e.1) (held_entries es) (at_entry key e.0 Greater e.1 is)

  pub put_entries : (es : Valued) → InOrder (keys_of es) → has_key key (keys_of es) ≡ false
      → held_entries (now es) ≡ with_it (held_entries es)
  unfolding IsStrictlySortedBy
  put_entries [] h absent = put_first [] tt
  put_entries (e ∷ es) h absent =
      put_by e es (order key e.0) refl h absent (put_entries es h.1 (not_behind (bytes_eq key e.0) key (keys_of es) absent))

  -- and for the keys
  keys_by : (e : List ℕ × Option Value) (es : Valued) (o : Ordering) → order key e.0 ≡ o → has_key key (e.0 ∷ keys_of es) ≡ false
      → IsPermutation (key ∷ keys_of es) (keys_of (now es))
      → IsPermutation (key ∷ e.0 ∷ keys_of es) (keys_of (match_ordering o ((key, w) ∷ e ∷ es) ((e.0, w) ∷ es) (e ∷ now es)))
  keys_by e es Less is absent more = IsPermutation-refl (key ∷ e.0 ∷ keys_of es)
  keys_by e es Equal is absent more = absurd (never_equal key e.0 (keys_of es) absent is)
  keys_by e es Greater is absent more =
      IsPermutation-trans (key ∷ e.0 ∷ keys_of es) (e.0 ∷ key ∷ keys_of es) (e.0 ∷ keys_of (now es))
      (IsPermutation-sym (e.0 ∷ key ∷ keys_of es) (key ∷ e.0 ∷ keys_of es) (IsPermutation-middle (e.0 ∷ []) key (keys_of es)))
      (IsPermutation-cons e.0 (key ∷ keys_of es) (keys_of (now es)) more)

  pub put_keys : (es : Valued) → has_key key (keys_of es) ≡ false → IsPermutation (key ∷ keys_of es) (keys_of (now es))
  put_keys [] absent = IsPermutation-refl (key ∷ [])
  put_keys (e ∷ es) absent =
      keys_by e es (order key e.0) refl absent (put_keys es (not_behind (bytes_eq key e.0) key (keys_of es) absent))
