-- The pairs that are written for the entries of a map, entry by entry, are in groups what stands under its keys.
use Rattle.std.proofs.Common.{◌≡◌, ℕ, Bool, true, false, cond, List, [], ◌∷◌, ◌++◌, map, append-nil, refl, sym, ap, ◌∙◌, subst}
use Rattle.std.specs.Prelude.{Some}
use Rattle.std.specs.FinMap.Entries.{find}
use Rattle.std.specs.List.Sorted.{IsStrictlySortedBy}
use Rattle.std.specs.Option.{unwrap_or}
use Rattle.std.specs.Ordering.{is_eq}
use Rattle.std.specs.Str.{bytes_eq}
use Rattle.std.specs.declared.cmp.Ordering.{Ordering}
use Rattle.std.specs.declared.cmp.Ordering.TheVariants.{Less, Equal, Greater}
use Rattle.std.proofs.lemmas.Bool.{false_from_ne_true}
use Rattle.std.proofs.lemmas.Map.Text.{is_eq-slice_cmp}
use Rattle.std.proofs.lemmas.Slice.Eq.{bytes_eq-Decides}
use Rattle.sm_model.specs.Graphs.{text_cmp}
use Rattle.sm_model.specs.steps.Rising.{IsBelow, Rise}
use Rattle.sm_groups.specs.Groups.{AreGroupsOf}
use Rattle.sm_shapes.specs.Values.{EntryVals, Val, entry, keys_of, no_entries}
use Rattle.sm_codec.specs.Named.{named}
use Rattle.sm_codec.proofs.KeyOrder.{InOrder, IsBefore, never_before_itself, same_where_equal}
use Rattle.sm_part_values.specs.steps.Maps.{Grouped}
use Rattle.sm_part_values.proofs.KeysGrouped.{under_named}
use Rattle.sm_part_texts.specs.PlaceTexts.{pairs_under}

-- what is written for each value, as pairs and as groups
abbrev pub Texts : Type 0
Texts = Val → List (List ℕ)

abbrev pub pairs_of : Texts → EntryVals → List (List ℕ × List ℕ)
pairs_of texts no_entries = []
pairs_of texts (entry key v es) = pairs_under key (texts v) ++ pairs_of texts es

abbrev pub groups_of : Texts → EntryVals → Grouped
groups_of texts no_entries = []
groups_of texts (entry key v es) = (key, texts v) ∷ groups_of texts es

-- under a key stand its own texts first, and under another one none of them
pub under_same : (k key : List ℕ) (us : List (List ℕ)) (rest : List (List ℕ × List ℕ)) → bytes_eq k key ≡ true
    → named key (pairs_under k us ++ rest) ≡ us ++ named key rest
under_same k key [] rest h = refl
under_same k key (u ∷ us) rest h =
    ap (λ b. cond b (u ∷ named key (pairs_under k us ++ rest)) (named key (pairs_under k us ++ rest))) h
    ∙ ap (λ xs. u ∷ xs) (under_same k key us rest h)

pub under_other : (k key : List ℕ) (us : List (List ℕ)) (rest : List (List ℕ × List ℕ)) → bytes_eq k key ≡ false
    → named key (pairs_under k us ++ rest) ≡ named key rest
under_other k key [] rest h = refl
under_other k key (u ∷ us) rest h =
    ap (λ b. cond b (u ∷ named key (pairs_under k us ++ rest)) (named key (pairs_under k us ++ rest))) h
    ∙ under_other k key us rest h

clash : (t : Bool) → t ≡ true → t ≡ false → ⊥
clash t h g = cc

module _ (texts : Texts) where
  below_all : (k : List ℕ) (es : EntryVals) → IsBefore k (keys_of es) → IsBelow k (map (λ g. g.0) (groups_of texts es))
  below_all k no_entries h = tt
  below_all k (entry key v es) h = (h.0, below_all k es h.1)

  keys_rise : (es : EntryVals) → InOrder (keys_of es) → Rise (map (λ g. g.0) (groups_of texts es))
  unfolding IsStrictlySortedBy
  keys_rise no_entries h = tt
  keys_rise (entry key v es) h = (below_all key es h.0, keys_rise es h.1)

  -- nothing stands under a key that comes before all
  none_under : (key : List ℕ) (es : EntryVals) → IsBefore key (keys_of es) → named key (pairs_of texts es) ≡ []
  none_under key no_entries h = refl
  none_under key (entry k v es) h =
      under_other k key (texts v) (pairs_of texts es)
      (false_from_ne_true (bytes_eq k key) (λ e. never_before_itself key k (sym ((bytes_eq-Decides k key).0 e)) h.0))
      ∙ none_under key es h.1

  -- a key is found with its texts
  abbrev Found : List ℕ → EntryVals → Type 0
  Found key es = unwrap_or (find text_cmp key (groups_of texts es)) [] ≡ named key (pairs_of texts es)

  found_here : (key k : List ℕ) (v : Val) (es : EntryVals) → text_cmp key k ≡ Equal → IsBefore k (keys_of es) → Found key (entry k v es)
  found_here key k v es e before =
      let same = same_where_equal key k e in
      ap (λ o. unwrap_or (cond (is_eq o) (Some (texts v)) (find text_cmp key (groups_of texts es))) []) e
      ∙ sym (under_same k key (texts v) (pairs_of texts es) ((bytes_eq-Decides k key).1 (sym same))
      ∙ ap (λ xs. texts v ++ xs) (none_under key es (subst (λ j. IsBefore j (keys_of es)) (sym same) before)) ∙ append-nil (texts v))

  found_behind : (key k : List ℕ) (v : Val) (es : EntryVals) (o : Ordering) → text_cmp key k ≡ o → is_eq o ≡ false → Found key es
      → Found key (entry k v es)
  found_behind key k v es o e other rest =
      ap (λ r. unwrap_or (cond (is_eq r) (Some (texts v)) (find text_cmp key (groups_of texts es))) []) e
      ∙ ap (λ b. unwrap_or (cond b (Some (texts v)) (find text_cmp key (groups_of texts es))) []) other ∙ rest
      ∙ sym (under_other k key (texts v) (pairs_of texts es) (false_from_ne_true (bytes_eq k key) (λ h. clash (bytes_eq key k)
      ((bytes_eq-Decides key k).1 (sym ((bytes_eq-Decides k key).0 h))) (sym (is_eq-slice_cmp key k) ∙ ap is_eq e ∙ other))))

  each_found : (key : List ℕ) (es : EntryVals) → InOrder (keys_of es) → Found key es
  unfolding IsStrictlySortedBy
  each_found key no_entries h = refl
  each_found key (entry k v es) h = by (text_cmp key k) refl (each_found key es h.1)
    where
      by : (o : Ordering) → text_cmp key k ≡ o → Found key es → Found key (entry k v es)
      by Less e rest = found_behind key k v es Less e refl rest
      by Equal e rest = found_here key k v es e h.0
      by Greater e rest = found_behind key k v es Greater e refl rest

  pub are_groups : (es : EntryVals) → InOrder (keys_of es) → AreGroupsOf (pairs_of texts es) (groups_of texts es)
  are_groups es h = record {
    rise = keys_rise es h;
    each = λ key. each_found key es h ∙ sym (under_named key (pairs_of texts es));
  }
