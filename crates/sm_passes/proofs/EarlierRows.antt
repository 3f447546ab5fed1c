-- Rows whose keys earlier rows have too: what was seen, and what is told, row by row.
use Rattle.std.proofs.Common.{◌≡◌, ◌<◌, ◌+◌, ℕ, Bool, true, false, cond, List, [], ◌∷◌, ◌++◌, Option, Some, None, get_or, length, take}
use Rattle.std.proofs.Common.{drop, refl, sym, ap, ◌∙◌, subst, bytes_eq}
use Rattle.std.specs.Prelude.{IsSomeAnd, slice_get}
use Rattle.std.specs.FinMap.Entries.{find}
use Rattle.std.specs.List.{Contains}
use Rattle.std.specs.Option.{option_or}
use Rattle.std.proofs.lemmas.List.{take-append-drop, take_more}
use Rattle.std.proofs.lemmas.List.Elements.{Contains-append_left}
use Rattle.std.proofs.lemmas.Option.{slice_get_read}
use Rattle.std.proofs.lemmas.Slice.Eq.{bytes_eq-Decides}
use Rattle.sm_model.specs.EventView.{EventTold}
use Rattle.sm_model.specs.Graphs.{text_cmp}
use Rattle.sm_model.specs.declared.event.ModelEvent.{ModelEvent}
use Rattle.sm_rules.specs.RuleEvents.{Puts}
use Rattle.sm_passes.specs.Earlier.{ToldAfter, ToldAt}
use Rattle.sm_passes.proofs.EventsPut.{puts_none}
use Rattle.sm_passes.proofs.FirstRows.{tests}
use Rattle.sm_passes.proofs.TraitEntries.{found_in}
use Rattle.sm_passes.proofs.Twins.{find_joined}

or_none : (o : Option ℕ) → option_or o None ≡ o
or_none None = refl
or_none (Some j) = refl

-- a row whose key was seen changes nothing
pub seen_kept : (old : List ℕ → Option ℕ) (k : List ℕ) (v j : ℕ) → old k ≡ Some j → (q : List ℕ)
    → old q ≡ option_or (old q) (cond (bytes_eq k q) (Some v) None)
seen_kept old k v j h q = by (bytes_eq k q) refl
  where
    by : (b : Bool) → bytes_eq k q ≡ b → old q ≡ option_or (old q) (cond b (Some v) None)
    by true is =
        let there : old q ≡ Some j = ap old (sym ((bytes_eq-Decides k q).0 is)) ∙ h in
        there ∙ sym (ap (λ (o : Option ℕ). option_or o (Some v)) there)
    by false is = sym (or_none (old q))

-- another one is seen besides
pub seen_added : (old new : List ℕ → Option ℕ) (k : List ℕ) (v : ℕ) → old k ≡ None
    → ((q : List ℕ) → new q ≡ cond (bytes_eq k q) (Some v) (old q)) → (q : List ℕ)
    → new q ≡ option_or (old q) (cond (bytes_eq k q) (Some v) None)
seen_added old new k v h changed q = changed q ∙ by (bytes_eq k q) refl
  where
    by : (b : Bool) → bytes_eq k q ≡ b → cond b (Some v) (old q) ≡ option_or (old q) (cond b (Some v) None)
    by true is =
        let none : old q ≡ None = ap old (sym ((bytes_eq-Decides k q).0 is)) ∙ h in
        sym (ap (λ (o : Option ℕ). option_or o (Some v)) none)
    by false is = sym (or_none (old q))

find_more : (rows : List (List ℕ × ℕ)) (r : List ℕ × ℕ) (q : List ℕ)
    → find text_cmp q (rows ++ r ∷ []) ≡ option_or (find text_cmp q rows) (cond (bytes_eq r.0 q) (Some r.1) None)
find_more rows r q =
    find_joined q rows (r ∷ []) ∙ ap (λ b. option_or (find text_cmp q rows) (cond b (Some r.1) None)) (tests q r.0)

-- so what was seen is what is found among the rows before
pub seen_next : (old new : List ℕ → Option ℕ) (rows : List (List ℕ × ℕ)) (i : ℕ) (r : List ℕ × ℕ) → i < length rows → r ≡ get_or rows i r
    → ((q : List ℕ) → old q ≡ find text_cmp q (take i rows))
    → ((q : List ℕ) → new q ≡ option_or (old q) (cond (bytes_eq r.0 q) (Some r.1) None)) → (q : List ℕ)
    → new q ≡ find text_cmp q (take (i + 1) rows)
seen_next old new rows i r within is before now q =
    let parts : take (i + 1) rows ≡ take i rows ++ r ∷ [] = take_more rows i r within ∙ ap (λ y. take i rows ++ y ∷ []) (sym is) in
    now q ∙ ap (λ o. option_or o (cond (bytes_eq r.0 q) (Some r.1) None)) (before q) ∙ sym (find_more (take i rows) r q)
    ∙ ap (find text_cmp q) (sym parts)

-- what is found is the number of a row
pub found_number : (P : ℕ → Type 0) (rows : List (List ℕ × ℕ)) (i : ℕ) (q : List ℕ) (j : ℕ)
    → ((r : List ℕ × ℕ) → Contains rows r → P r.1) → find text_cmp q (take i rows) ≡ Some j → P j
found_number P rows i q j each h =
    let among = Contains-append_left (take i rows) (drop i rows) (q, j) (found_in q j (take i rows) h) in
    each (q, j) (subst (λ rs. Contains {X = List ℕ × ℕ} rs (q, j)) (take-append-drop i rows) among)

module _ (Told : ℕ → ℕ → EventTold → Type 0) where
  -- nothing is told of a row with a new key
  pub none_after : (o : Option ℕ) (k : ℕ) (es : List ModelEvent) → o ≡ None → Puts (ToldAfter Told o k) es es
  none_after o k es none =
      subst (λ p. Puts (ToldAfter Told p k) es es) (sym none) (puts_none (ToldAfter Told None k) es (λ e h. h))

  pub told_after : (o : Option ℕ) (j k : ℕ) (before now : List ModelEvent) → o ≡ Some j → Puts (Told j k) before now
      → Puts (ToldAfter Told o k) before now
  told_after o j k before now is h = subst (λ p. Puts (ToldAfter Told p k) before now) (sym is) h

  -- what is told of a row is what is told at its place
  pub told_here : (old : List ℕ → Option ℕ) (rows : List (List ℕ × ℕ)) (i : ℕ) (r : List ℕ × ℕ) → i < length rows → r ≡ get_or rows i r
      → ((q : List ℕ) → old q ≡ find text_cmp q (take i rows)) → (before now : List ModelEvent)
      → Puts (ToldAfter Told (old r.0) r.1) before now → Puts (ToldAt Told rows i) before now
  told_here old rows i r within is seen before now h =
      let at : slice_get rows i ≡ Some r = slice_get_read rows (length rows) i r refl within is in
      subst (λ o. Puts (λ e. IsSomeAnd o (λ (x : List ℕ × ℕ). ToldAfter Told (find text_cmp x.0 (take i rows)) x.1 e)) before now) (sym at)
      (subst (λ o. Puts (ToldAfter Told o r.1) before now) (seen r.0) h)
