-- Keys of a map of queries that nothing else names, up to the first that something does.
use Rattle.std.proofs.Common.{◌≡◌, ℕ, zero, suc, ◌+◌, ◌≤◌, Bool, true, false, ◌||◌, cond, List, [], ◌∷◌, ◌++◌, map, length, take, drop, min, refl, sym}
use Rattle.std.proofs.Common.{ap, ◌∙◌, subst, arith, append_assoc}
use Rattle.std.specs.Prelude.{◌==◌, not, Option, None, Some}
use Rattle.std.specs.List.{cons_option}
use Rattle.std.specs.Str.{bytes_eq}
use Rattle.std.proofs.lemmas.List.{length-map}
use Rattle.std.proofs.lemmas.List.Sums.{prefix_len-le-length}
use Rattle.sm_tree.specs.declared.path.Step.{Step}
use Rattle.sm_tree.specs.declared.path.Step.TheVariants.{Key}
use Rattle.sm_shapes.specs.Places.{Place}
use Rattle.sm_shapes.specs.Values.{entries_of, keys_of}
use Rattle.sm_shapes.specs.ValueView.{each_entry_view, val_of}
use Rattle.sm_shapes.specs.declared.values.Value.{Value}
use Rattle.sm_codec.specs.Encoded.{first_path}
use Rattle.sm_codec.specs.Written.{paths_under}
use Rattle.sm_part_texts.specs.CarriedTexts.{uncarried_query}
use Rattle.sm_part_texts.specs.PlaceTexts.{EachStandsAt}
use Rattle.sm_bind.specs.Roles.{Bound, is_among, is_taken_key}
use Rattle.sm_bind_write.specs.CarriedParts.{params_failing, prefixed_failing, some_params_failing, some_prefixed_failing}
use Rattle.sm_bind_write.specs.steps.FreeKeys.{free_failing, keys_before}
use Rattle.sm_bind_write.specs.steps.Naming.{is_named}
use Rattle.sm_bind_write.proofs.FirstPaths.{first_joined, none_joined}

pub at_most_all : (p : List ℕ → Bool) (keys : List (List ℕ)) → keys_before p keys ≤ length keys
at_most_all p keys = prefix_len-le-length (λ k. not (p k)) keys

pub all_before : (keys : List (List ℕ)) → keys_before (λ k. false) keys ≡ length keys
all_before [] = refl
all_before (k ∷ keys) = let more = all_before keys in omega (arith, more)

either_by : (a b : Bool) (m n : ℕ) → cond (not (a || b)) (1 + min m n) 0 ≡ min (cond (not a) (1 + m) 0) (cond (not b) (1 + n) 0)
either_by true b m n = omega arith
either_by false true m n = omega arith
either_by false false m n = omega arith

-- before the first that passes one of two tests
pub either : (p q : List ℕ → Bool) (keys : List (List ℕ)) → keys_before (λ k. p k || q k) keys ≡ min (keys_before p keys) (keys_before q keys)
either p q [] = refl
either p q (k ∷ keys) =
    ap (λ n. cond (not (p k || q k)) (1 + n) 0) (either p q keys) ∙ either_by (p k) (q k) (keys_before p keys) (keys_before q keys)

least : (m n : ℕ) → n ≤ m → min m n ≡ n
least m n le = omega (arith, le)

-- a name more
pub next_key : (name : List ℕ) (names keys : List (List ℕ)) (len : ℕ)
    → min (min len (keys_before (λ k. bytes_eq k name) keys)) (keys_before (is_among names) keys)
    ≡ min len (keys_before (is_among (name ∷ names)) keys)
next_key name names keys len =
    let both = either (λ k. bytes_eq k name) (is_among names) keys in
    omega (arith, both)

pub next_optional : (o : Option (List ℕ)) (names keys : List (List ℕ)) (len : ℕ)
    → min (min len (keys_before (is_named o) keys)) (keys_before (is_among names) keys)
    ≡ min len (keys_before (is_among (cons_option o names)) keys)
next_optional None names keys len =
    let all = all_before keys in
    let most = at_most_all (is_among names) keys in
    omega (arith, all, most)
next_optional (Some name) names keys len = next_key name names keys len

-- the keys of entries
pub keys_seen : (es : List (List ℕ × Value)) → keys_of (entries_of (each_entry_view es)) ≡ map (λ e. e.0) es
keys_seen [] = refl
keys_seen (e ∷ es) = ap (λ ks. e.0 ∷ ks) (keys_seen es)

-- what isn't carried of a map, by the entries before that key and those from it on
module _ (b : Bound) (p : Place) where
  abbrev all_failing : List (List ℕ × Value) → List (List Step)
  all_failing es = params_failing b p (entries_of (each_entry_view es))

  abbrev own_failing : List (List ℕ × Value) → List (List Step)
  own_failing es = free_failing b.table p (entries_of (each_entry_view es))

  abbrev Splits : List (List ℕ × Value) → ℕ → Type 0
  Splits es n =
      (all_failing es ≡ own_failing (take n es) ++ all_failing (drop n es))
      × (first_path (all_failing (drop n es)) ≡ first_path (map (λ e. Key e.0 ∷ []) (drop n es)))

  split_by : (e : List ℕ × Value) (es : List (List ℕ × Value)) (n m : ℕ) (taken : Bool) → is_taken_key b e.0 ≡ taken
      → n ≡ cond (not taken) (1 + m) 0 → Splits es m → Splits (e ∷ es) n
  split_by e es n m true is size more =
      subst (Splits (e ∷ es)) (sym size)
      (refl, ap (λ t. first_path (paths_under (Key e.0) (cond t ([] ∷ []) (uncarried_query b.table p (val_of e.1))) ++ all_failing es)) is)
  split_by e es n m false is size more =
      let here = paths_under (Key e.0) (uncarried_query b.table p (val_of e.1)) in
      let same : n ≡ suc m = omega (arith, size) in
      subst (Splits (e ∷ es)) (sym same) (
        ap (λ t. paths_under (Key e.0) (cond t ([] ∷ []) (uncarried_query b.table p (val_of e.1))) ++ all_failing es) is
            ∙ ap (λ ps. here ++ ps) more.0 ∙ sym (append_assoc here (own_failing (take m es)) (all_failing (drop m es))),
        more.1,
      )

  pub params_split : (es : List (List ℕ × Value)) → Splits es (keys_before (is_taken_key b) (map (λ e. e.0) es))
  params_split [] = (refl, refl)
  params_split (e ∷ es) =
      split_by e es (keys_before (is_taken_key b) (map (λ x. x.0) (e ∷ es))) (keys_before (is_taken_key b) (map (λ x. x.0) es))
      (is_taken_key b e.0) refl refl (params_split es)

  -- a map that has entries
  some_of : (es : List (List ℕ × Value)) → (es ≡ [] → ⊥) → some_params_failing b p (entries_of (each_entry_view es)) ≡ all_failing es
  some_of [] h = absurd (h refl)
  some_of (e ∷ es) h = refl

  pub free_found : (es : List (List ℕ × Value)) (n : ℕ) (path : List Step) → (es ≡ [] → ⊥)
      → n ≡ keys_before (is_taken_key b) (map (λ e. e.0) es) → Some path ≡ first_path (own_failing (take n es))
      → Some path ≡ first_path (some_params_failing b p (entries_of (each_entry_view es)))
  free_found es n path some size h =
      let split = subst (Splits es) (sym size) (params_split es) in
      first_joined path (own_failing (take n es)) (all_failing (drop n es)) h ∙ ap first_path (sym split.0) ∙ ap first_path (sym (some_of es some))

  pub free_none : (es : List (List ℕ × Value)) (n : ℕ) → (es ≡ [] → ⊥) → n ≡ keys_before (is_taken_key b) (map (λ e. e.0) es)
      → None ≡ first_path (own_failing (take n es))
      → first_path (map (λ e. Key e.0 ∷ []) (drop n es)) ≡ first_path (some_params_failing b p (entries_of (each_entry_view es)))
  free_none es n some size h =
      let split = subst (Splits es) (sym size) (params_split es) in
      sym split.1 ∙ sym (none_joined (own_failing (take n es)) (all_failing (drop n es)) h) ∙ ap first_path (sym split.0)
      ∙ ap first_path (sym (some_of es some))

  -- the first entries of a map stand at their places
  pub stand_first : (es : List (List ℕ × Value)) (n : ℕ) → EachStandsAt b.table p (entries_of (each_entry_view es))
      → EachStandsAt b.table p (entries_of (each_entry_view (take n es)))
  stand_first [] zero h = tt
  stand_first [] (suc n) h = tt
  stand_first (e ∷ es) zero h = tt
  stand_first (e ∷ es) (suc n) h = (h.0, stand_first es n h.1)

pub not_empty : (es : List (List ℕ × Value)) → (length es == 0) ≡ false → es ≡ [] → ⊥
not_empty es h e = no (length es == 0) (ap (λ xs. length xs == 0) e) h
  where
    no : (t : Bool) → t ≡ true → t ≡ false → ⊥
    no t holds fails = cc

-- of entries: where nothing is looked for yet, and where nothing is left to look for
pub begun : (p : List ℕ → Bool) (es : List (List ℕ × Value)) → min (length es) (keys_before p (map (λ e. e.0) es)) ≡ keys_before p (map (λ e. e.0) es)
begun p es =
    let most = at_most_all p (map (λ e. e.0) es) in
    let long : length (map (λ e. e.0) es) ≡ length es = length-map es (λ e. e.0) in
    omega (arith, most, long)

pub ended : (es : List (List ℕ × Value)) (len : ℕ) → len ≤ length es → min len (keys_before (λ k. false) (map (λ e. e.0) es)) ≡ len
ended es len within =
    let all = all_before (map (λ e. e.0) es) in
    let long : length (map (λ e. e.0) es) ≡ length es = length-map es (λ e. e.0) in
    omega (arith, within, all, long)

pub all_entries : (es : List (List ℕ × Value)) → length es ≡ keys_before (λ k. false) (map (λ e. e.0) es)
all_entries es = sym (all_before (map (λ e. e.0) es) ∙ length-map es (λ e. e.0))

pub within_all : (p : List ℕ → Bool) (es : List (List ℕ × Value)) → keys_before p (map (λ e. e.0) es) ≤ length es
within_all p es =
    let most = at_most_all p (map (λ e. e.0) es) in
    let long : length (map (λ e. e.0) es) ≡ length es = length-map es (λ e. e.0) in
    omega (arith, most, long)

-- a map of prefix headers that has entries
pub prefixed_of : (b : Bound) (prefix : List ℕ) (q : Place) (es : List (List ℕ × Value)) → (es ≡ [] → ⊥)
    → prefixed_failing b prefix q (entries_of (each_entry_view es)) ≡ some_prefixed_failing b prefix q (entries_of (each_entry_view es))
prefixed_of b prefix q [] h = absurd (h refl)
prefixed_of b prefix q (e ∷ es) h = refl
