-- Where members have the values of their targets' enums, these needn't be compared.
use Rattle.std.proofs.Common.{◌≡◌, ℕ, zero, suc, ℤ, true, ◌&&◌, List, [], ◌∷◌, slice_get, int_eq, ap, ◌∙◌, subst}
use Rattle.std.specs.Prelude.{Some}
use Rattle.std.specs.Cmp.Lexicographic.{pointwise, pointwise_decides}
use Rattle.std.specs.Str.{bytes_eq}
use Rattle.std.proofs.lemmas.Bool.{and_from}
use Rattle.std.proofs.lemmas.Bool.Decides.{Decides-int_eq}
use Rattle.std.proofs.lemmas.Option.{none-some, same_Some}
use Rattle.std.proofs.lemmas.Slice.Eq.{bytes_eq-Decides}
use Rattle.sm_shapes.specs.TableData.{MemberData, ShapeData, shape_constraints_in}
use Rattle.sm_schema.specs.Definitions.{EachHasValues, HasTargetsValues}

pub values_equal : (ts us : List (List ℕ)) (ms ns : List ℤ) → ts ≡ us → ms ≡ ns
    → (pointwise bytes_eq ts us && pointwise int_eq ms ns) ≡ true
values_equal ts us ms ns h g =
    and_from (pointwise bytes_eq ts us) (pointwise int_eq ms ns) ((pointwise_decides bytes_eq-Decides ts us).1 h)
    ((pointwise_decides Decides-int_eq ms ns).1 g)

-- of the member at a place
pub values_at : (shapes : List ShapeData) (ms : List MemberData) → EachHasValues shapes ms → (k : ℕ) (m : MemberData)
    → slice_get ms k ≡ Some m → HasTargetsValues shapes m
values_at shapes [] h k m e = absurd (none-some m e)
values_at shapes (n ∷ ms) h zero m e = subst (HasTargetsValues shapes) (same_Some n m e) h.0
values_at shapes (n ∷ ms) h (suc k) m e = values_at shapes ms h.1 k m e

-- beside the row of its target
pub row_texts : (shapes : List ShapeData) (m : MemberData) (s : ShapeData) → HasTargetsValues shapes m → slice_get shapes m.target ≡ Some s
    → m.constraints.texts ≡ s.constraints.texts
row_texts shapes m s h e = h.texts ∙ ap (λ o. (shape_constraints_in o).texts) e

pub row_numbers : (shapes : List ShapeData) (m : MemberData) (s : ShapeData) → HasTargetsValues shapes m
    → slice_get shapes m.target ≡ Some s → m.constraints.numbers ≡ s.constraints.numbers
row_numbers shapes m s h e = h.numbers ∙ ap (λ o. (shape_constraints_in o).numbers) e
