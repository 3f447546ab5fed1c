-- Shapes that are each as large as one of others have no more entries than these.
use Rattle.std.proofs.Common.{◌≡◌, ◌≤◌, ◌+◌, inl, inr, ℕ, List, [], ◌∷◌, length, sym, ap, subst, ◌∙◌, arith}
use Rattle.std.proofs.Common.{length-append}
use Rattle.std.specs.List.{Contains}
use Rattle.sm_model.specs.Formed.{StandsAmong, DifferInNames}
use Rattle.sm_model.specs.Given.{given_ids}
use Rattle.sm_model.specs.Graphs.{ShapeGiven, given_entries, given_shape}
use Rattle.sm_model.proofs.LinkedEntries.{cons_cases, cons_here}
use Rattle.sm_transform.proofs.StepsNeeded.{behind_head}

-- all but one
record IsOneWith (ts : List ShapeGiven) (t : ShapeGiven) : Type 0 where
  rest : List ShapeGiven
  count : length (given_entries ts) ≡ length (given_shape t) + length (given_entries rest)
  others : (u : ShapeGiven) → Contains ts u → (u.id ≡ t.id → ⊥) → Contains rest u

taken_out : (ts : List ShapeGiven) (t : ShapeGiven) → Contains ts t → IsOneWith ts t
taken_out [] t among = absurd (omega (arith, among.1))
taken_out (x ∷ ts) t among = elim (cons_cases x ts t among) [
  | inl is ↦ record {
    rest = ts;
    count = length-append (given_shape x) (given_entries ts) ∙ ap (λ (y : ShapeGiven). length (given_shape y) + length
        (given_entries ts)) is;
    others = λ u h other. elim (cons_cases x ts u h) [
      | inl same ↦ absurd (other (ap (λ (y : ShapeGiven). y.id) (sym same ∙ is)))
      | inr later ↦ later
    ];
  }
  | inr later ↦
      let w = taken_out ts t later in record {
        rest = x ∷ w.rest;
        count =
            let whole = length-append (given_shape x) (given_entries ts) in
            let left = length-append (given_shape x) (given_entries w.rest) in
            let one = w.count in
            omega (arith, whole, left, one);
        others = λ u h other. elim (cons_cases x ts u h) [
          | inl same ↦ subst (Contains (x ∷ w.rest)) same (cons_here x w.rest)
          | inr rest ↦ behind_head x w.rest u (w.others u rest other)
        ];
      }
]

-- no larger than one of these, from whose id its own comes
pub record IsLike (moved : List ℕ → List ℕ) (ts : List ShapeGiven) (s : ShapeGiven) : Type 0 where
  pub other : ShapeGiven
  pub among : Contains ts other
  pub comes : s.id ≡ moved other.id
  pub large : length (given_shape s) ≤ length (given_shape other)

id_stands : (ss : List ShapeGiven) (s : ShapeGiven) → Contains ss s → StandsAmong s.id (given_ids ss)
id_stands [] s among = absurd (omega (arith, among.1))
id_stands (t ∷ ss) s among = elim (cons_cases t ss s among) [
  | inl is ↦ inl (ap (λ (x : ShapeGiven). x.id) (sym is))
  | inr later ↦ inr (id_stands ss s later)
]

pub no_more : (moved : List ℕ → List ℕ) (ss ts : List ShapeGiven) → DifferInNames (given_ids ss)
    → ((s : ShapeGiven) → Contains ss s → IsLike moved ts s) → length (given_entries ss) ≤ length (given_entries ts)
no_more moved [] ts differ like = omega arith
no_more moved (s ∷ ss) ts differ like =
    let l = like s (cons_here s ss) in
    let w = taken_out ts l.other l.among in
    let rest = no_more moved ss w.rest differ.1 (λ t h.
    let m = like t (behind_head s ss t h) in record {
      other = m.other;
      among = w.others m.other m.among (λ same. differ.0 (subst (λ i. StandsAmong i (given_ids ss))
          (m.comes ∙ ap moved same ∙ sym l.comes) (id_stands ss t h)));
      comes = m.comes;
      large = m.large;
    }) in
    let whole = length-append (given_shape s) (given_entries ss) in
    let large = l.large in
    let count = w.count in
    omega (arith, rest, whole, large, count)
