-- What stands in a body doesn't hang on the literals of a pattern.
use Rattle.std.proofs.Common.{◌≡◌, ℕ, cond, List, [], ◌∷◌, refl, ap, ◌∙◌}
use Rattle.std.specs.Prelude.{Option, None, Some}
use Rattle.sm_rest.specs.bind.Roles.{Bound, binding_on, bound_members, bound_on, has_document}
use Rattle.sm_rest.specs.rest_heads.BodyParts.{part_of, payload_among, payload_of, payload_or, payload_part}
use Rattle.sm_rest.specs.rest_heads.declared.bodies.BodyPart.TheVariants.{Document}

among_same : (b : Bound) (ks : List ℕ) → payload_among (bound_on b.table b.side b.shape) ks ≡ payload_among b ks
among_same b [] = refl
among_same b (k ∷ ks) = ap (payload_or (binding_on b k) k) (among_same b ks)

stands_same : (b : Bound) (o : Option ℕ) → payload_part (bound_on b.table b.side b.shape) o ≡ payload_part b o
stands_same b None = refl
stands_same b (Some k) = refl

pub part_same : (b : Bound) → part_of (bound_on b.table b.side b.shape) ≡ part_of b
part_same b =
    ap (cond (has_document b) Document)
    (ap (payload_part (bound_on b.table b.side b.shape)) (among_same b (bound_members b)) ∙ stands_same b (payload_of b))
