-- What walks told of shapes, kept by the shapes' numbers.
use Rattle.std.proofs.Common.{inl, inr, ℕ, ◌<◌, ◌≤◌, List, None, Some, length, get_or, sym, ap, ◌∙◌, subst}
use Rattle.std.specs.Prelude.{IfSome, Option, replicate, set}
use Rattle.std.proofs.lemmas.Bool.{cases_eq, cases_lt}
use Rattle.std.proofs.lemmas.List.{get_or-replicate, get_or-set_other, get_or-set_same, get_or_past, length-replicate, length-set}
use Rattle.sm_model.specs.GraphView.{IsShapeNumber, entries_of, maps_of}
use Rattle.sm_model.specs.Reaching.{id_of_number}
use Rattle.sm_model.specs.declared.graph.Graph.{Graph}
use Rattle.sm_compile.specs.Answers.{TellsServed}
use Rattle.sm_service.specs.declared.serving_room.ShapeServed.{ShapeServed}
use Rattle.sm_service.specs.steps.ServingRooms.{AreTold, shape_said}

-- an answer that may be kept of the shape at a number
abbrev pub IsSo : Graph → ℕ → Option ShapeServed → Type 0
IsSo g k kept = IfSome kept (λ s. TellsServed (maps_of g) (id_of_number g k) (shape_said s))

-- where nothing is kept
none_at : (count k : ℕ) → Path (Option ShapeServed) (get_or (replicate count None) k None) None
none_at count k = elim (cases_lt k count) [
  | inl lt ↦ get_or-replicate count k None None lt
  | inr ge ↦ get_or_past (replicate count None) k None (subst (λ n. n ≤ k) (sym (length-replicate count None)) ge)
]

pub nothing_told : (g : Graph) (told : List (Option ShapeServed))
    → Path (List (Option ShapeServed)) told (replicate (length (entries_of g)) None) → AreTold g told
nothing_told g told is = record {
  whole = ap length is ∙ length-replicate (length (entries_of g)) None;
  so = λ k. subst (IsSo g k) (sym (ap (λ kept. get_or kept k None) is ∙ none_at (length (entries_of g)) k)) tt;
}

-- one answer more
pub one_more_told : (g : Graph) (told : List (Option ShapeServed)) (root : ℕ) (s : ShapeServed) → IsShapeNumber g root → AreTold g told
    → TellsServed (maps_of g) (id_of_number g root) (shape_said s) → AreTold g (set told root (Some s))
one_more_told g told root s number are here = record {
  whole = length-set told root (Some s) ∙ are.whole;
  so = λ k. elim (cases_eq k root) [
    | inl same ↦
        subst (λ n. IsSo g n (get_or (set told root (Some s)) n None)) (sym same)
        (subst (IsSo g root) (sym (get_or-set_same told root (Some s) None (subst (λ n. root < n) (sym are.whole) number))) here)
    | inr other ↦ subst (IsSo g k) (sym (get_or-set_other told root k (Some s) None other)) (are.so k)
  ];
}
