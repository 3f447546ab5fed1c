-- Finite maps under texts: what holds of each entry, what is found under a key, and that keys differ. Other crates cite these.
use Rattle.std.proofs.Common.{◌≡◌, inl, inr, ◌⊎◌, ℕ, Bool, true, false, cond, List, [], ◌∷◌, ◌++◌, map, length, Some, None, refl, sym, ap}
use Rattle.std.proofs.Common.{subst, ◌∙◌, arith}
use Rattle.std.specs.Prelude.{T}
use Rattle.std.specs.Cmp.{tied_itself as tied_order}
use Rattle.std.specs.Cmp.Lexicographic.{nat_list_cmp_total}
use Rattle.std.specs.FinMap as fin
use Rattle.std.specs.FinMap.{entries-insert, entries_sorted, len-empty, len-entries, slice_cmp-IsAntisymmetric, nat_cmp-IsAntisymmetric}
use Rattle.std.specs.FinMap.Entries.{below_all, by_order, find, is_sorted, put}
use Rattle.std.specs.Ordering.{is_eq, is_lt}
use Rattle.std.specs.declared.cmp.Ordering.{Ordering}
use Rattle.std.specs.declared.cmp.Ordering.TheVariants.{Less, Equal, Greater}
use Rattle.sm_model.specs.Formed.{StandsAmong, DifferInNames}
use Rattle.sm_model.specs.Graphs.{text_cmp}
use Rattle.sm_model.specs.steps.Rising.{IsBelow, Rise}
use Rattle.sm_model.proofs.Rises.{differ_from_rise}
use Rattle.sm_model.proofs.Searching.{and_left, and_right, less_from}

-- keys that tie are one
same_key : (k l : List ℕ) → text_cmp k l ≡ Equal → k ≡ l
same_key k l e = slice_cmp-IsAntisymmetric nat_cmp-IsAntisymmetric k l e

equal_from : (r : Ordering) → is_eq r ≡ true → r ≡ Equal
equal_from Less h = absurd (subst (λ c. cond c ⊥ (Unit {0})) h tt)
equal_from Equal h = refl
equal_from Greater h = absurd (subst (λ c. cond c ⊥ (Unit {0})) h tt)

either : (b : Bool) → (b ≡ true) ⊎ (b ≡ false)
either true = inl refl
either false = inr refl

from_t : (b : Bool) → T b → b ≡ true
from_t true h = refl
from_t false h = absurd h

module _ {X : Type 0} where
  abbrev pub keys : List (List ℕ × X) → List (List ℕ)
  keys es = map (λ e. e.0) es

  -- what holds of each entry
  abbrev pub Each : (List ℕ → X → Type 0) → List (List ℕ × X) → Type 0
  Each P [] = Unit {0}
  Each P (e ∷ es) = P e.0 e.1 × Each P es

  pub each_joined : (P : List ℕ → X → Type 0) (es fs : List (List ℕ × X)) → Each P es → Each P fs → Each P (es ++ fs)
  each_joined P [] fs h hs = hs
  each_joined P (e ∷ es) fs h hs = (h.0, each_joined P es fs h.1 hs)

  pub each_so : (P Q : List ℕ → X → Type 0) → ((k : List ℕ) (x : X) → P k x → Q k x) → (es : List (List ℕ × X)) → Each P es → Each Q es
  each_so P Q to [] h = tt
  each_so P Q to (e ∷ es) h = (to e.0 e.1 h.0, each_so P Q to es h.1)

  each_by : (P : List ℕ → X → Type 0) (k : List ℕ) (v : X) (e : List ℕ × X) (es fs : List (List ℕ × X)) (r : Ordering) → text_cmp k e.0 ≡ r
      → P k v → Each P (e ∷ es) → Each P fs → Each P (by_order r ((k, v) ∷ e ∷ es) ((e.0, v) ∷ es) (e ∷ fs))
  each_by P k v e es fs Less is h all rest = (h, all)
  each_by P k v e es fs Equal is h all rest = (subst (λ x. P x v) (same_key k e.0 is) h, all.1)
  each_by P k v e es fs Greater is h all rest = (all.0, rest)

  each_put : (P : List ℕ → X → Type 0) (k : List ℕ) (v : X) (es : List (List ℕ × X)) → P k v → Each P es → Each P (put text_cmp k v es)
  each_put P k v [] h all = (h, tt)
  each_put P k v (e ∷ es) h all =
      each_by P k v e es (put text_cmp k v es) (text_cmp k e.0) refl h all (each_put P k v es h all.1)

  nothing_in : (P : List ℕ → X → Type 0) (es : List (List ℕ × X)) → length es ≡ 0 → Each P es
  nothing_in P [] h = tt
  nothing_in P (e ∷ es) h = absurd (omega (arith, h))

  -- so of each entry of a map
  pub each_entry : (P : List ℕ → X → Type 0) (es : List (List ℕ × X)) → Each P es
      → Each P (fin.entries (fin.from_entries {R = text_cmp} es))
  each_entry P [] all =
      nothing_in P (fin.entries (fin.from_entries {X = X} {R = text_cmp} []))
      (sym (len-entries {R = text_cmp} fin.empty) ∙ len-empty text_cmp X)
  each_entry P (e ∷ es) all =
      subst (Each P) (sym (entries-insert nat_list_cmp_total (fin.from_entries es) e.0 e.1))
      (each_put P e.0 e.1 _ all.0 (each_entry P es all.1))

  among_later : (q : List ℕ) (e : List ℕ × X) (es : List (List ℕ × X)) → is_eq (text_cmp q e.0) ≡ false → StandsAmong q (keys (e ∷ es))
      → StandsAmong q (keys es)
  among_later q e es apart (inl same) =
      let tied : is_eq (text_cmp q e.0) ≡ true = ap is_eq (subst (λ k. text_cmp q k ≡ Equal) same (tied_order nat_list_cmp_total q)) in
      let bad : true ≡ false = sym tied ∙ apart in absurd (subst (λ c. cond c (Unit {0}) ⊥) bad tt)
  among_later q e es apart (inr later) = later

  -- and of what is found under a key that stands among them
  pub found_among : (P : List ℕ → X → Type 0) (q : List ℕ) (es : List (List ℕ × X)) → Each P es → StandsAmong q (keys es)
      → (x : X) × (find text_cmp q es ≡ Some x) × P q x
  found_among P q [] all among = absurd among
  found_among P q (e ∷ es) all among = elim (either (is_eq (text_cmp q e.0))) [
    | inl tied ↦ (
      e.1,
      ap (λ b. cond b (Some e.1) (find text_cmp q es)) tied,
      subst (λ k. P k e.1) (sym (same_key q e.0 (equal_from (text_cmp q e.0) tied))) all.0,
    )
    | inr apart ↦
        let later = found_among P q es all.1 (among_later q e es apart among) in
        (later.0, ap (λ b. cond b (Some e.1) (find text_cmp q es)) apart ∙ later.1, later.2)
  ]

  -- and nothing is found under one that doesn't
  pub none_among : (q : List ℕ) (es : List (List ℕ × X)) → (StandsAmong q (keys es) → ⊥) → find text_cmp q es ≡ None
  none_among q [] apart = refl
  none_among q (e ∷ es) apart = elim (either (is_eq (text_cmp q e.0))) [
    | inl tied ↦ absurd (apart (inl (same_key q e.0 (equal_from (text_cmp q e.0) tied))))
    | inr differ ↦ ap (λ b. cond b (Some e.1) (find text_cmp q es)) differ ∙ none_among q es (λ later. apart (inr later))
  ]

  below_each : (k : List ℕ) (es : List (List ℕ × X)) → below_all text_cmp k es ≡ true → IsBelow k (keys es)
  below_each k [] h = tt
  below_each k (e ∷ es) h = (less_from (text_cmp k e.0) (and_left _ _ h), below_each k es (and_right (is_lt (text_cmp k e.0)) _ h))

  pub rise_from : (es : List (List ℕ × X)) → is_sorted text_cmp es ≡ true → Rise (keys es)
  rise_from [] h = tt
  rise_from (e ∷ es) h = (below_each e.0 es (and_left _ _ h), rise_from es (and_right (below_all text_cmp e.0 es) _ h))

  -- the keys of a map differ
  pub keys_differ : (m : fin.FinMap text_cmp X) → DifferInNames (keys (fin.entries m))
  keys_differ m = differ_from_rise _ (rise_from (fin.entries m) (from_t _ (entries_sorted m)))
