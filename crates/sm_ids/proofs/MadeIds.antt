-- Ids that are put together from parts.
use Rattle.std.proofs.Common.{◌≡◌, ℕ, List, [], ◌∷◌, ◌++◌, Some, None, sym, ap, ◌∙◌, append_assoc, append-nil}
use Rattle.std.proofs.lemmas.List.{append_cancel_left}
use Rattle.sm_ids.specs.IdText.{Id, IdText, IsShapeId, member_text, printed}
use Rattle.sm_ids.specs.TextParts.{member_id}
use Rattle.sm_ids.proofs.Spellings.{one_id}

-- the id of a shape has no member
pub no_member : (shape : List ℕ) → IsShapeId shape → (id : Id) → IdText id shape → id.member ≡ None
no_member shape h id is = ap (λ x. x.member) (one_id id h.0 shape is h.1) ∙ h.2

behind_name : (ns name m : List ℕ) → ns ++ 35 ∷ (name ++ 36 ∷ m) ≡ (ns ++ 35 ∷ (name ++ [])) ++ 36 ∷ m
behind_name ns name m =
    ap (λ x. ns ++ 35 ∷ (x ++ 36 ∷ m)) (sym (append-nil name)) ∙ sym (append_assoc ns (35 ∷ (name ++ [])) (36 ∷ m))

-- the parts of a shape's id with a member's name spell the member's id
pub member_spelled : (shape : List ℕ) → IsShapeId shape → (id : Id) → IdText id shape → (m : List ℕ)
    → printed (record { namespace = id.namespace; name = id.name; member = Some m }) ≡ member_id shape m
member_spelled shape h id is m =
    behind_name id.namespace id.name m
    ∙ ap (λ x. (id.namespace ++ 35 ∷ (id.name ++ member_text x)) ++ 36 ∷ m) (sym (no_member shape h id is))
    ∙ ap (λ t. t ++ 36 ∷ m) (sym is.spelled)

-- members of one shape that have one id have one name
abbrev behind_first : List ℕ → List ℕ
behind_first [] = []
behind_first (c ∷ cs) = cs

pub one_name : (shape m n : List ℕ) → member_id shape m ≡ member_id shape n → m ≡ n
one_name shape m n e = ap behind_first (append_cancel_left shape (36 ∷ m) (36 ∷ n) e)
