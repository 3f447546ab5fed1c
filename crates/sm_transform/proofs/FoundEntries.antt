-- What is found among entries under a key, and that it stands there; maps of which the same is told are one.
use Rattle.std.proofs.Common.{◌≡◌, inl, inr, ℕ, Bool, true, false, cond, List, [], ◌∷◌, Option, Some, None, refl, sym, ap, subst, ◌∙◌}
use Rattle.std.specs.Prelude.{◌↔◌}
use Rattle.std.specs.Cmp.{tied_itself as tied_order}
use Rattle.std.specs.Cmp.Lexicographic.{nat_list_cmp_total}
use Rattle.std.specs.FinMap as fin
use Rattle.std.specs.FinMap.{get-entries, get-from_entries, same_map, slice_cmp-IsAntisymmetric, nat_cmp-IsAntisymmetric}
use Rattle.std.specs.FinMap.Entries.{find}
use Rattle.std.specs.Ordering.{is_eq}
use Rattle.std.specs.declared.cmp.Ordering.{Ordering}
use Rattle.std.specs.declared.cmp.Ordering.TheVariants.{Less, Equal, Greater}
use Rattle.std.proofs.lemmas.Bool.{cases_Bool}
use Rattle.std.proofs.lemmas.Option.{none-some, same_Some}
use Rattle.sm_model.specs.Formed.{DifferInNames, StandsAmong}
use Rattle.sm_model.specs.Graphs.{text_cmp}
use Rattle.sm_model.proofs.MapFacts.{Each, found_among, keys, keys_differ}
use Rattle.sm_model.proofs.Worklist.{apart}

-- keys that tie are one
tied : (r : Ordering) → is_eq r ≡ true → r ≡ Equal
tied Less h = absurd (apart h)
tied Equal h = refl
tied Greater h = absurd (apart h)

pub one_key : (q k : List ℕ) → is_eq (text_cmp q k) ≡ true → q ≡ k
one_key q k h = slice_cmp-IsAntisymmetric nat_cmp-IsAntisymmetric q k (tied (text_cmp q k) h)

-- what is found among entries is one of them
module _ {X : Type 0} (P : List ℕ → X → Type 0) (q : List ℕ) (x : X) where
  found_here : (e : List ℕ × X) (es : List (List ℕ × X)) → P e.0 e.1 → (find text_cmp q es ≡ Some x → P q x) → (b : Bool)
      → is_eq (text_cmp q e.0) ≡ b → cond b (Some e.1) (find text_cmp q es) ≡ Some x → P q x
  found_here e es here later true same is =
      subst (P q) (same_Some e.1 x is) (subst (λ k. P k e.1) (sym (one_key q e.0 same)) here)
  found_here e es here later false other is = later is

  pub found_each : (es : List (List ℕ × X)) → Each P es → find text_cmp q es ≡ Some x → P q x
  found_each [] all h = absurd (none-some x h)
  found_each (e ∷ es) all h = found_here e es all.0 (λ rest. found_each es all.1 rest) (is_eq (text_cmp q e.0)) refl h

module _ {X : Type 0} where
  -- its key stands there
  pub found_stands : (q : List ℕ) (x : X) (es : List (List ℕ × X)) → find text_cmp q es ≡ Some x → StandsAmong q (keys es)
  found_stands q x [] h = absurd (none-some x h)
  found_stands q x (e ∷ es) h = by (is_eq (text_cmp q e.0)) refl (found_stands q x es) h
    where
      by : (b : Bool) → is_eq (text_cmp q e.0) ≡ b → (find text_cmp q es ≡ Some x → StandsAmong q (keys es))
          → cond b (Some e.1) (find text_cmp q es) ≡ Some x → StandsAmong q (keys (e ∷ es))
      by true same later is = inl (one_key q e.0 same)
      by false other later is = inr (later is)

  each_all : (es : List (List ℕ × X)) → Each (λ k x. Unit {0}) es
  each_all [] = tt
  each_all (e ∷ es) = (tt, each_all es)

  -- what is found where keys differ holds of each
  listed_found : (P : List ℕ → X → Type 0) (es : List (List ℕ × X)) → DifferInNames (keys es)
      → ((k : List ℕ) (x : X) → find text_cmp k es ≡ Some x → P k x) → Each P es
  listed_found P [] d h = tt
  listed_found P (e ∷ es) d h = (h e.0 e.1 head, listed_found P es d.1 (λ k x found. h k x (tail k x found)))
    where
      head : find text_cmp e.0 (e ∷ es) ≡ Some e.1
      head = ap (λ b. cond b (Some e.1) (find text_cmp e.0 es)) (ap is_eq (tied_order nat_list_cmp_total e.0))

      tail : (k : List ℕ) (x : X) → find text_cmp k es ≡ Some x → find text_cmp k (e ∷ es) ≡ Some x
      tail k x found = elim (cases_Bool (is_eq (text_cmp k e.0))) [
        | inl same ↦ absurd (d.0 (subst (λ j. StandsAmong j (keys es)) (one_key k e.0 same) (found_stands k x es found)))
        | inr other ↦ ap (λ b. cond b (Some e.1) (find text_cmp k es)) other ∙ found
      ]

  -- of a map
  pub each_there : (m : fin.FinMap text_cmp X) → Each (λ k x. fin.get m k ≡ Some x) (fin.entries m)
  each_there m =
      listed_found (λ k x. fin.get m k ≡ Some x) (fin.entries m) (keys_differ m) (λ k x found. get-entries m k ∙ found)

  pub key_found : (m : fin.FinMap text_cmp X) (q : List ℕ) → StandsAmong q (keys (fin.entries m)) → (x : X) × (fin.get m q ≡ Some x)
  key_found m q among =
      let r = found_among (λ k x. Unit {0}) q (fin.entries m) (each_all (fin.entries m)) among in
      (r.0, get-entries m q ∙ r.1)

  pub get_stands : (m : fin.FinMap text_cmp X) (q : List ℕ) (x : X) → fin.get m q ≡ Some x → StandsAmong q (keys (fin.entries m))
  get_stands m q x h = found_stands q x (fin.entries m) (sym (get-entries m q) ∙ h)

  pub made_each : (P : List ℕ → X → Type 0) (es : List (List ℕ × X)) → Each P es → (q : List ℕ) (x : X)
      → fin.get (fin.from_entries {R = text_cmp} es) q ≡ Some x → P q x
  made_each P es all q x h = found_each P q x es all (sym (get-from_entries nat_list_cmp_total es q) ∙ h)

  -- one option has what the other has
  same_option : (o p : Option X) → ((x : X) → (o ≡ Some x) ↔ (p ≡ Some x)) → o ≡ p
  same_option None None h = refl
  same_option None (Some y) h = (h y).1 refl
  same_option (Some y) p h = sym ((h y).0 refl)

  pub same_told : (m n : fin.FinMap text_cmp X) → ((k : List ℕ) (x : X) → (fin.get m k ≡ Some x) ↔ (fin.get n k ≡ Some x))
      → Path (fin.FinMap text_cmp X) m n
  same_told m n h =
      same_map nat_list_cmp_total (slice_cmp-IsAntisymmetric nat_cmp-IsAntisymmetric) m n
      (λ k. same_option (fin.get m k) (fin.get n k) (h k))

  pub map_again : (m : fin.FinMap text_cmp X) → Path (fin.FinMap text_cmp X) (fin.from_entries (fin.entries m)) m
  map_again m =
      same_map nat_list_cmp_total (slice_cmp-IsAntisymmetric nat_cmp-IsAntisymmetric) _ m
      (λ q. get-from_entries nat_list_cmp_total (fin.entries m) q ∙ sym (get-entries m q))
