-- Rows under names: what is found, and which names labels have.
use Rattle.std.proofs.Common.{◌≡◌, ◌⊎◌, inl, inr, ℕ, Bool, true, false, cond, List, [], ◌∷◌, Some, refl, sym, ap, ◌∙◌, subst}
use Rattle.std.specs.Prelude.{is_none}
use Rattle.std.specs.Cmp.{tied_itself}
use Rattle.std.specs.Cmp.Lexicographic.{nat_list_cmp_total}
use Rattle.std.specs.FinMap.{slice_cmp-IsAntisymmetric, nat_cmp-IsAntisymmetric}
use Rattle.std.specs.FinMap.Entries.{find}
use Rattle.std.specs.List.{Contains, flat_map}
use Rattle.std.specs.Ordering.{is_eq}
use Rattle.std.specs.declared.cmp.Ordering.{Ordering}
use Rattle.std.specs.declared.cmp.Ordering.TheVariants.{Less, Equal, Greater}
use Rattle.std.proofs.lemmas.List.Elements.{Contains-append_cases, Contains-append_left, Contains-append_right}
use Rattle.sm_model.specs.Graphs.{text_cmp}
use Rattle.sm_model.proofs.OneRising.{contains_behind, contains_either, contains_head, contains_none}
use Rattle.sm_model.proofs.Worklist.{apart}
use Rattle.sm_uri.specs.UriPattern.{greedy_name, greedy_names, label_name, label_names}
use Rattle.sm_uri.specs.declared.pattern.Segment.{Segment}
use Rattle.sm_uri.specs.declared.pattern.Segment.TheVariants.{Literal, Label, Greedy}
use Rattle.sm_http_rules.specs.steps.Labels.{label_row, rows_of_labels}

tied : (r : Ordering) → is_eq r ≡ true → r ≡ Equal
tied Less h = absurd (apart h)
tied Equal h = refl
tied Greater h = absurd (apart h)

-- nothing is found under a name exactly where no row has it
pub none_found : (q : List ℕ) (rows : List (List ℕ × ℕ)) → is_none (find text_cmp q rows) ≡ true → (k : ℕ) → Contains rows (q, k) → ⊥
none_found q [] h k c = contains_none {K = List ℕ × ℕ} (q, k) c
none_found q (r ∷ rows) h k c = by (is_eq (text_cmp q r.0)) refl h (contains_either r (q, k) rows c) (λ g more. none_found q rows g k more)
  where
    by : (b : Bool) → is_eq (text_cmp q r.0) ≡ b → is_none (cond b (Some r.1) (find text_cmp q rows)) ≡ true
        → (r ≡ (q, k)) ⊎ Contains rows (q, k) → (is_none (find text_cmp q rows) ≡ true → Contains rows (q, k) → ⊥) → ⊥
    by true is h c rest = apart h
    by false is h (inl same) rest =
        apart (sym is ∙ ap (λ (x : List ℕ × ℕ). is_eq (text_cmp q x.0)) same ∙ ap is_eq (tied_itself nat_list_cmp_total q))
    by false is h (inr more) rest = rest h more

pub some_found : (q : List ℕ) (rows : List (List ℕ × ℕ)) → is_none (find text_cmp q rows) ≡ false → (k : ℕ) × Contains rows (q, k)
some_found q [] h = absurd (apart (sym h))
some_found q (r ∷ rows) h = by (is_eq (text_cmp q r.0)) refl h (some_found q rows)
  where
    by : (b : Bool) → is_eq (text_cmp q r.0) ≡ b → is_none (cond b (Some r.1) (find text_cmp q rows)) ≡ false
        → (is_none (find text_cmp q rows) ≡ false → (k : ℕ) × Contains rows (q, k)) → (k : ℕ) × Contains (r ∷ rows) (q, k)
    by true is h rest =
        let same : q ≡ r.0 = slice_cmp-IsAntisymmetric nat_cmp-IsAntisymmetric q r.0 (tied (text_cmp q r.0) is) in
        let all : r ≡ (q, r.1) = λ i. (sym same i, r.1) in
        (r.1, subst (Contains {X = List ℕ × ℕ} (r ∷ rows)) all (contains_head {K = List ℕ × ℕ} r rows))
    by false is h rest = let t = rest h in (t.0, contains_behind {K = List ℕ × ℕ} r (q, t.0) rows t.1)

-- rows of names
abbrev named_rows : List (List ℕ) → List (List ℕ × ℕ)
named_rows [] = []
named_rows (name ∷ names) = (name, 0) ∷ named_rows names

row_of_name : (names : List (List ℕ)) (q : List ℕ) → Contains names q → Contains (named_rows names) (q, 0)
row_of_name [] q c = absurd (contains_none q c)
row_of_name (name ∷ names) q c = elim (contains_either name q names c) [
  | inl same ↦ subst (λ t. Contains {X = List ℕ × ℕ} ((name, 0) ∷ named_rows names) (t, 0)) same
      (contains_head {K = List ℕ × ℕ} (name, 0) (named_rows names))
  | inr more ↦ contains_behind {K = List ℕ × ℕ} (name, 0) (q, 0) (named_rows names) (row_of_name names q more)
]

name_of_row : (names : List (List ℕ)) (q : List ℕ) (k : ℕ) → Contains (named_rows names) (q, k) → Contains names q
name_of_row [] q k c = absurd (contains_none {K = List ℕ × ℕ} (q, k) c)
name_of_row (name ∷ names) q k c = elim (contains_either {K = List ℕ × ℕ} (name, 0) (q, k) (named_rows names) c) [
  | inl same ↦ subst (Contains (name ∷ names)) (ap (λ (x : List ℕ × ℕ). x.0) same) (contains_head name names)
  | inr more ↦ contains_behind name q names (name_of_row names q k more)
]

abbrev names_of : Bool → Segment → List (List ℕ)
names_of true segment = greedy_name segment
names_of false segment = label_name segment

row_is : (greedy : Bool) (segment : Segment) → label_row greedy segment ≡ named_rows (names_of greedy segment)
row_is true (Literal text) = refl
row_is true (Label name) = refl
row_is true (Greedy name) = refl
row_is false (Literal text) = refl
row_is false (Label name) = refl
row_is false (Greedy name) = refl

pub label_row_there : (greedy : Bool) (segments : List Segment) (q : List ℕ) → Contains (flat_map (names_of greedy) segments) q
    → Contains (rows_of_labels greedy segments) (q, 0)
label_row_there greedy [] q c = absurd (contains_none q c)
label_row_there greedy (s ∷ segments) q c = elim (Contains-append_cases (names_of greedy s) (flat_map (names_of greedy) segments) q c) [
  | inl here ↦ Contains-append_left (label_row greedy s) (rows_of_labels greedy segments) (q, 0)
      (subst (λ rows. Contains {X = List ℕ × ℕ} rows (q, 0)) (sym (row_is greedy s)) (row_of_name (names_of greedy s) q here))
  | inr more ↦ Contains-append_right (label_row greedy s) (rows_of_labels greedy segments) (q, 0) (label_row_there greedy segments q more)
]

pub label_there : (greedy : Bool) (segments : List Segment) (q : List ℕ) (k : ℕ) → Contains (rows_of_labels greedy segments) (q, k)
    → Contains (flat_map (names_of greedy) segments) q
label_there greedy [] q k c = absurd (contains_none {K = List ℕ × ℕ} (q, k) c)
label_there greedy (s ∷ segments) q k c = elim (Contains-append_cases (label_row greedy s) (rows_of_labels greedy segments) (q, k) c) [
  | inl here ↦ Contains-append_left (names_of greedy s) (flat_map (names_of greedy) segments) q
      (name_of_row (names_of greedy s) q k (subst (λ rows. Contains {X = List ℕ × ℕ} rows (q, k)) (row_is greedy s) here))
  | inr more ↦ Contains-append_right (names_of greedy s) (flat_map (names_of greedy) segments) q (label_there greedy segments q k more)
]

-- in the words of the definition
pub is_label_row : (segments : List Segment) (q : List ℕ) → Contains (label_names segments) q
    → Contains (rows_of_labels false segments) (q, 0)
is_label_row segments q c = label_row_there false segments q c

pub row_is_label : (segments : List Segment) (q : List ℕ) (k : ℕ) → Contains (rows_of_labels false segments) (q, k)
    → Contains (label_names segments) q
row_is_label segments q k c = label_there false segments q k c

pub is_greedy_row : (segments : List Segment) (q : List ℕ) → Contains (greedy_names segments) q
    → Contains (rows_of_labels true segments) (q, 0)
is_greedy_row segments q c = label_row_there true segments q c

pub row_is_greedy : (segments : List Segment) (q : List ℕ) (k : ℕ) → Contains (rows_of_labels true segments) (q, k)
    → Contains (greedy_names segments) q
row_is_greedy segments q k c = label_there true segments q k c
