-- What stands among entries under a key, and what is found there where keys differ; entries of a map.
use Rattle.std.proofs.Common.{◌≡◌, ◌⊎◌, inl, inr, ℕ, Bool, true, false, cond, List, [], ◌∷◌, ◌++◌, Some, refl, sym, ap, subst}
use Rattle.std.proofs.Common.{◌∙◌, bytes_eq}
use Rattle.std.specs.FinMap as fin
use Rattle.std.specs.FinMap.{get-entries, get-from_entries, same_map, slice_cmp-IsAntisymmetric, nat_cmp-IsAntisymmetric}
use Rattle.std.specs.FinMap.Entries.{find}
use Rattle.std.specs.Cmp.Lexicographic.{nat_list_cmp_total}
use Rattle.std.proofs.lemmas.Bool.{cases_Bool}
use Rattle.std.proofs.lemmas.Option.{none-some, same_Some}
use Rattle.std.proofs.lemmas.Slice.Eq.{bytes_eq-Decides}
use Rattle.sm_model.specs.Formed.{StandsAmong, DifferInNames}
use Rattle.sm_model.specs.Graphs.{text_cmp}
use Rattle.sm_model.proofs.MapFacts.{Each, keys, keys_differ}
use Rattle.sm_groups.proofs.GroupsMade.{tests}

module _ {X : Type 0} where
  -- the value stands under the key
  abbrev pub Has : List ℕ → X → List (List ℕ × X) → Type 0
  Has k x [] = ⊥
  Has k x (e ∷ es) = ((k ≡ e.0) × (x ≡ e.1)) ⊎ Has k x es

  pub has_key : (k : List ℕ) (x : X) (es : List (List ℕ × X)) → Has k x es → StandsAmong k (keys es)
  has_key k x [] h = h
  has_key k x (e ∷ es) (inl (same, is)) = inl same
  has_key k x (e ∷ es) (inr h) = inr (has_key k x es h)

  pub key_has : (k : List ℕ) (es : List (List ℕ × X)) → StandsAmong k (keys es) → (x : X) × Has k x es
  key_has k [] h = absurd h
  key_has k (e ∷ es) (inl same) = (e.1, inl (same, refl))
  key_has k (e ∷ es) (inr h) = let later = key_has k es h in (later.0, inr later.1)

  -- in front of more, and behind
  pub has_before : (k : List ℕ) (x : X) (es fs : List (List ℕ × X)) → Has k x es → Has k x (es ++ fs)
  has_before k x [] fs h = absurd h
  has_before k x (e ∷ es) fs (inl here) = inl here
  has_before k x (e ∷ es) fs (inr h) = inr (has_before k x es fs h)

  pub has_behind : (k : List ℕ) (x : X) (es fs : List (List ℕ × X)) → Has k x fs → Has k x (es ++ fs)
  has_behind k x [] fs h = h
  has_behind k x (e ∷ es) fs h = inr (has_behind k x es fs h)

  pub has_either : (k : List ℕ) (x : X) (es fs : List (List ℕ × X)) → Has k x (es ++ fs) → Has k x es ⊎ Has k x fs
  has_either k x [] fs h = inr h
  has_either k x (e ∷ es) fs (inl here) = inl (inl here)
  has_either k x (e ∷ es) fs (inr h) = elim (has_either k x es fs h) [
    | inl before ↦ inl (inr before)
    | inr behind ↦ inr behind
  ]

  -- it is found where keys differ, and what is found stands there
  pub has_found : (k : List ℕ) (x : X) (es : List (List ℕ × X)) → DifferInNames (keys es) → Has k x es → find text_cmp k es ≡ Some x
  has_found k x [] d h = absurd h
  has_found k x (e ∷ es) d (inl (same, is)) =
      ap (λ b. cond b (Some e.1) (find text_cmp k es)) (tests k e.0 ∙ (bytes_eq-Decides e.0 k).1 (sym same)) ∙ ap (λ y. Some y) (sym is)
  has_found k x (e ∷ es) d (inr h) = elim (cases_Bool (bytes_eq e.0 k)) [
    | inl same ↦
        absurd (d.0 (subst (λ j. StandsAmong j (keys es)) (sym ((bytes_eq-Decides e.0 k).0 same)) (has_key k x es h)))
    | inr apart ↦ ap (λ b. cond b (Some e.1) (find text_cmp k es)) (tests k e.0 ∙ apart) ∙ has_found k x es d.1 h
  ]

  pub found_has : (k : List ℕ) (x : X) (es : List (List ℕ × X)) → find text_cmp k es ≡ Some x → Has k x es
  found_has k x [] h = absurd (none-some x h)
  found_has k x (e ∷ es) h =
      by_test (λ rest. found_has k x es rest) (bytes_eq e.0 k) refl
      (sym (ap (λ b. cond b (Some e.1) (find text_cmp k es)) (tests k e.0)) ∙ h)
    where
      by_test : (find text_cmp k es ≡ Some x → Has k x es) → (b : Bool) → bytes_eq e.0 k ≡ b
          → cond b (Some e.1) (find text_cmp k es) ≡ Some x → Has k x (e ∷ es)
      by_test later true same is = inl (sym ((bytes_eq-Decides e.0 k).0 same), sym (same_Some e.1 x is))
      by_test later false apart is = inr (later is)

  -- what holds of each entry
  pub each_has : (P : List ℕ → X → Type 0) (es : List (List ℕ × X)) → ((k : List ℕ) (x : X) → Has k x es → P k x) → Each P es
  each_has P [] h = tt
  each_has P (e ∷ es) h = (h e.0 e.1 (inl (refl, refl)), each_has P es (λ k x there. h k x (inr there)))

  pub has_each : (P : List ℕ → X → Type 0) (k : List ℕ) (x : X) (es : List (List ℕ × X)) → Each P es → Has k x es → P k x
  has_each P k x [] all h = absurd h
  has_each P k x (e ∷ es) all (inl (same, is)) = subst (λ j. P j x) (sym same) (subst (P e.0) (sym is) all.0)
  has_each P k x (e ∷ es) all (inr h) = has_each P k x es all.1 h

  -- of a map
  pub get_has : (m : fin.FinMap text_cmp X) (k : List ℕ) (x : X) → fin.get m k ≡ Some x → Has k x (fin.entries m)
  get_has m k x h = found_has k x (fin.entries m) (sym (get-entries m k) ∙ h)

  pub has_get : (m : fin.FinMap text_cmp X) (k : List ℕ) (x : X) → Has k x (fin.entries m) → fin.get m k ≡ Some x
  has_get m k x h = get-entries m k ∙ has_found k x (fin.entries m) (keys_differ m) h

  pub made_has : (es : List (List ℕ × X)) (k : List ℕ) (x : X) → fin.get (fin.from_entries {R = text_cmp} es) k ≡ Some x → Has k x es
  made_has es k x h = found_has k x es (sym (get-from_entries nat_list_cmp_total es k) ∙ h)

  pub has_made : (es : List (List ℕ × X)) (k : List ℕ) (x : X) → DifferInNames (keys es) → Has k x es
      → fin.get (fin.from_entries {R = text_cmp} es) k ≡ Some x
  has_made es k x d h = get-from_entries nat_list_cmp_total es k ∙ has_found k x es d h

  pub map_again : (m : fin.FinMap text_cmp X) → Path (fin.FinMap text_cmp X) (fin.from_entries (fin.entries m)) m
  map_again m =
      same_map nat_list_cmp_total (slice_cmp-IsAntisymmetric nat_cmp-IsAntisymmetric) _ m
      (λ q. get-from_entries nat_list_cmp_total (fin.entries m) q ∙ sym (get-entries m q))
