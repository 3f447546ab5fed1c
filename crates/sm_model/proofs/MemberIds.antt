-- The ids of a shape's members: how they are spelled, and where they stand among the ids of shapes.
use Rattle.std.proofs.Common.{◌≡◌, ℕ, cond, List, [], ◌∷◌, Some, None, refl, sym, ap, subst, ◌∙◌}
use Rattle.std.specs.Ordering.{ordering_then, is_eq, is_gt}
use Rattle.std.specs.declared.cmp.Ordering.{Ordering}
use Rattle.std.specs.declared.cmp.Ordering.TheVariants.{Less, Equal, Greater}
use Rattle.sm_ids.specs.Identifier.{IsIdentifier}
use Rattle.sm_ids.specs.IdText.{Id, IsId, printed, member_text}
use Rattle.sm_ids.proofs.PartOrder.{printed_order}
use Rattle.sm_ids.proofs.MadeIds.{member_spelled}
use Rattle.sm_ids.proofs.Spellings.{shape_before_members}
use Rattle.sm_model.specs.Graphs.{member_id, text_cmp}
use Rattle.sm_model.specs.References.{IsShapeId}

-- a shape comes before its members
pub below_member : (shape : List ℕ) → IsShapeId shape → (m : List ℕ) → text_cmp shape (member_id shape m) ≡ Less
below_member shape h m =
    ap (λ t. text_cmp t (member_id shape m)) h.1.spelled
    ∙ ap (text_cmp (printed h.0)) (sym (member_spelled shape h h.0 h.1 m)) ∙ shape_before_members h.0 m h.2

then_less : (o p r : Ordering) → ordering_then o (ordering_then p Equal) ≡ Less → ordering_then o (ordering_then p r) ≡ Less
then_less Less p r h = refl
then_less Equal Less r h = refl
then_less Equal Equal r h = absurd (subst (λ x. cond (is_eq x) (Unit {0}) ⊥) h tt)
then_less Equal Greater r h = absurd (subst (λ x. cond (is_gt x) (Unit {0}) ⊥) h tt)
then_less Greater p r h = absurd (subst (λ x. cond (is_gt x) (Unit {0}) ⊥) h tt)

abbrev with_member : Id → List ℕ → Id
with_member id m = record { namespace = id.namespace; name = id.name; member = Some m }

is_member_id : (id : Id) (m : List ℕ) → IsId id → IsIdentifier m → IsId (with_member id m)
is_member_id id m h i = record {
  namespace = h.namespace;
  name = h.name;
  member = λ x e. let same : m ≡ x = cc in subst IsIdentifier same i;
}

later_id : (id other : Id) (m : List ℕ) → IsId id → IsId other → id.member ≡ None → other.member ≡ None → IsIdentifier m
    → text_cmp (printed id) (printed other) ≡ Less → text_cmp (printed (with_member id m)) (printed other) ≡ Less
later_id id other m h k e f i less =
    let namespaces = text_cmp id.namespace other.namespace in
    let names = text_cmp id.name other.name in
    let neither : text_cmp (member_text id.member) (member_text other.member) ≡ Equal =
    ap (λ x. text_cmp (member_text x) (member_text other.member)) e ∙ ap (λ x. text_cmp [] (member_text x)) f in
    printed_order (with_member id m) other (is_member_id id m h i) k
    ∙ then_less namespaces names (text_cmp (36 ∷ m) (member_text other.member))
    (ap (λ r. ordering_then namespaces (ordering_then names r)) (sym neither) ∙ sym (printed_order id other h k) ∙ less)

-- the members of a shape come before each later shape
pub member_below : (shape other : List ℕ) → IsShapeId shape → IsShapeId other → (m : List ℕ) → IsIdentifier m
    → text_cmp shape other ≡ Less → text_cmp (member_id shape m) other ≡ Less
member_below shape other h k m i less =
    ap (λ t. text_cmp t other) (sym (member_spelled shape h h.0 h.1 m)) ∙ ap (text_cmp (printed (with_member h.0 m))) k.1.spelled
    ∙ later_id h.0 k.0 m h.1.is_id k.1.is_id h.2 k.2 i
    (ap (λ t. text_cmp t (printed k.0)) (sym h.1.spelled) ∙ ap (text_cmp shape) (sym k.1.spelled) ∙ less)
