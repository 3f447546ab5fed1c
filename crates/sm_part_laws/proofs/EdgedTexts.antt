-- Texts without blanks at their ends, and lists of them in a field.
use Rattle.std.proofs.Common.{◌≡◌, ℕ, ◌<◌, ◌≤◌, List, [], ◌∷◌, ◌++◌, length, reverse, Bool, true, false, cond, refl, sym, ap, ◌∙◌, subst}
use Rattle.std.proofs.Common.{append-nil, arith}
use Rattle.std.specs.Prelude.{◌==◌, ◌||◌, if◌then◌else◌, not}
use Rattle.std.specs.List.{AllByRecursion, flat_map, list_any}
use Rattle.std.proofs.lemmas.List.{length-reverse, reverse-append, reverse-reverse}
use Rattle.httparse.specs.Grammar.{is_ows, skip_ows, trim_ows}
use Rattle.httparse.proofs.TrimLemmas.{trim_ows_space}
use Rattle.sm_bytes.specs.Ascii.{comma, quote, space}
use Rattle.sm_parts.specs.HeaderLists.{escaped_byte, filled, is_filled, needs_quotes, quoted, written_entry}
use Rattle.sm_parts.specs.Laws.{IsTrimmed}
use Rattle.sm_parts.specs.declared.list_entry.HeaderCut.TheVariants.{Quoted}

-- a first byte that is no blank
abbrev pub starts : List ℕ → Bool
starts [] = false
starts (b ∷ u) = not (is_ows b)

pub record IsEdged (u : List ℕ) : Type 0 where
  pub front : starts u ≡ true
  pub back : starts (reverse u) ≡ true

no_true : false ≡ true → ⊥
no_true e = cc

keeps : (u v : List ℕ) → starts u ≡ true → starts (u ++ v) ≡ true
keeps [] v h = absurd (no_true h)
keeps (b ∷ u) v h = h

keeps_last : (u v : List ℕ) → starts (reverse v) ≡ true → starts (reverse (u ++ v)) ≡ true
keeps_last u v h = subst (λ w. starts w ≡ true) (sym (reverse-append u v)) (keeps (reverse v) (reverse u) h)

-- nothing is skipped of it
skips_none : (u : List ℕ) → starts u ≡ true → skip_ows u ≡ u
skips_none [] h = refl
skips_none (b ∷ u) h = by (is_ows b) refl
  where
    by : (t : Bool) → is_ows b ≡ t → (if t then skip_ows u else b ∷ u) ≡ b ∷ u
    by true e = absurd (no_true (sym (ap not e) ∙ h))
    by false e = refl

pub edged_trim : (u : List ℕ) → IsEdged u → trim_ows u ≡ u
unfolding trim_ows
edged_trim u h =
    ap (λ w. reverse (skip_ows (reverse w))) (skips_none u h.front) ∙ ap reverse (skips_none (reverse u) h.back) ∙ reverse-reverse u

pub edged_space : (u : List ℕ) → IsEdged u → trim_ows (space ∷ u) ≡ u
edged_space u h = trim_ows_space u (skips_none u h.front) (skips_none (reverse u) h.back)

pub edged_filled : (u : List ℕ) → IsEdged u → is_filled u ≡ true
edged_filled [] h = h.front
edged_filled (b ∷ u) h = refl

-- and what trimming leaves as it is has such ends
skipped_few : (u : List ℕ) → length (skip_ows u) ≤ length u
skipped_few [] = omega arith
skipped_few (b ∷ u) = by (is_ows b) (skipped_few u)
  where
    by : (t : Bool) → length (skip_ows u) ≤ length u → length (if t then skip_ows u else b ∷ u) ≤ length (b ∷ u)
    by true h = omega (arith, h)
    by false h = omega arith

trimmed_few : (u : List ℕ) → length (trim_ows u) ≤ length (skip_ows u)
unfolding trim_ows
trimmed_few u =
    let back = length-reverse (skip_ows (reverse (skip_ows u))) in
    let front = length-reverse (skip_ows u) in
    omega (arith, back, front, skipped_few (reverse (skip_ows u)))

starts_whole : (u : List ℕ) → 0 < length u → length u ≤ length (skip_ows u) → starts u ≡ true
starts_whole [] some h = absurd (omega (arith, some))
starts_whole (b ∷ u) some h = by (is_ows b) refl
  where
    by : (t : Bool) → is_ows b ≡ t → not t ≡ true
    by true e =
        let skipped : length (skip_ows (b ∷ u)) ≡ length (skip_ows u) = ap (λ f. length (if f then skip_ows u else b ∷ u)) e in
        absurd (omega (arith, skipped, h, skipped_few u))
    by false e = refl

filled_long : (u : List ℕ) → is_filled u ≡ true → 0 < length u
filled_long [] h = absurd (no_true h)
filled_long (b ∷ u) h = omega arith

trimmed_back : (u : List ℕ) → starts u ≡ true → trim_ows u ≡ u → skip_ows (reverse u) ≡ reverse u
unfolding trim_ows
trimmed_back u first h =
    sym (reverse-reverse (skip_ows (reverse u)))
    ∙ ap reverse (sym (ap (λ w. reverse (skip_ows (reverse w))) (skips_none u first)) ∙ h)

pub trimmed_edged : (u : List ℕ) → trim_ows u ≡ u → is_filled u ≡ true → IsEdged u
trimmed_edged u h some =
    let long = filled_long u some in
    let first = starts_whole u long (omega (arith, ap length h, trimmed_few u)) in
    let back = trimmed_back u first h in
    record { front = first; back = starts_whole (reverse u) (omega (arith, long, length-reverse u)) (omega (arith, ap length back)) }

-- texts that are trimmed and not empty stay
pub filled_one : (w u : List ℕ) (us : List (List ℕ)) → trim_ows w ≡ u → is_filled u ≡ true → filled (w ∷ us) ≡ u ∷ filled us
filled_one w u us e h =
    ap (λ x. cond (is_filled x) (x ∷ filled us) (filled us)) e ∙ ap (λ t. cond t (u ∷ filled us) (filled us)) h

-- what is written for an entry has such ends, as it is or between quotation marks
not_not : (t : Bool) → not t ≡ false → t ≡ true
not_not true h = refl
not_not false h = sym h

first_false : (a b : Bool) → (a || b) ≡ false → a ≡ false
first_false true b h = h
first_false false b h = refl

quoted_edged : (u : List ℕ) → IsEdged (quoted u)
quoted_edged u = record { front = refl; back = keeps_last (quote ∷ flat_map escaped_byte u) (quote ∷ []) refl }

entry_by : (t : Bool) (u : List ℕ) → needs_quotes u ≡ t → IsTrimmed u → IsEdged (if t then quoted u else u)
entry_by true u e h = quoted_edged u
entry_by false u e h =
    let marks = list_any (λ b. (b == comma) || (b == quote)) u in
    trimmed_edged u h (not_not (is_filled u) (first_false (not (is_filled u)) marks e))

pub entry_edged : (u : List ℕ) → IsTrimmed u → IsEdged (written_entry Quoted u)
entry_edged u h = entry_by (needs_quotes u) u refl h

-- and so has a list of such entries
edged_more : (u s v : List ℕ) → IsEdged u → IsEdged v → IsEdged (u ++ (s ++ v))
edged_more u s v h g = record { front = keeps u (s ++ v) h.front; back = keeps_last u (s ++ v) (keeps_last s v g.back) }

pub list_edged : (shown : List ℕ → List ℕ) (u : List ℕ) (ts : List (List ℕ)) → IsEdged u → AllByRecursion (λ t. IsEdged (shown t)) ts
    → IsEdged (u ++ flat_map (λ t. comma ∷ space ∷ shown t) ts)
list_edged shown u [] h hs = subst IsEdged (sym (append-nil u)) h
list_edged shown u (t ∷ ts) h hs =
    edged_more u (comma ∷ space ∷ []) (shown t ++ flat_map (λ t. comma ∷ space ∷ shown t) ts) h (list_edged shown (shown t) ts hs.0 hs.1)
