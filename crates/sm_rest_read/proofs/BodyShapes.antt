-- What stands in a body, and the shape of the table of documents by which it is read.
use Rattle.std.proofs.Common.{◌≡◌, ℕ, ◌<◌, Bool, true, false, cond, List, [], ◌∷◌, None, Some, refl, sym, ap, ◌∙◌, subst}
use Rattle.std.specs.Prelude.{Option}
use Rattle.std.specs.List.{AllByRecursion}
use Rattle.sm_shapes.specs.InOrder.{Shaped}
use Rattle.sm_shapes.specs.TableData.{BindingData, kind_at, label, member_count, payload, query, query_params, header}
use Rattle.sm_shapes.specs.TableData.{prefix_headers, response_code, shape_count, target_at}
use Rattle.sm_shapes.specs.declared.kinds.ShapeKind.TheVariants.{Structure}
use Rattle.sm_excerpts.proofs.Extending.{members_there, more_shapes}
use Rattle.sm_rest.specs.messages.MessageForm.{as_text}
use Rattle.sm_rest.specs.bind.BindingsView.{AreBindingsOf, BindingsData, body_at}
use Rattle.sm_rest.specs.bind.Documents.{IsBodyBy, payload_shape, shape_by}
use Rattle.sm_rest.specs.bind.Roles.{Bound, binding_on, bound_members, bound_on, has_document}
use Rattle.sm_rest.specs.rest_heads.BodyParts.{is_tree_at, part_of, payload_among, payload_of, payload_or, payload_part, rest_use, use_by}
use Rattle.sm_rest.specs.rest_heads.declared.bodies.BodyPart.{BodyPart}
use Rattle.sm_rest.specs.rest_heads.declared.bodies.BodyPart.TheVariants.{Document, Nothing, Raw, Tree}
use Rattle.sm_rest_read.specs.steps.Contents.{is_document}

-- what stands in a body doesn't hang on the literals of a pattern
among_same : (b : Bound) (ks : List ℕ) → payload_among (bound_on b.table b.side b.shape) ks ≡ payload_among b ks
among_same b [] = refl
among_same b (k ∷ ks) = ap (payload_or (binding_on b k) k) (among_same b ks)

stands_same : (b : Bound) (o : Option ℕ) → payload_part (bound_on b.table b.side b.shape) o ≡ payload_part b o
stands_same b None = refl
stands_same b (Some k) = refl

pub part_same : (b : Bound) → part_of (bound_on b.table b.side b.shape) ≡ part_of b
part_same b =
    ap (cond (has_document b) Document)
    (ap (payload_part (bound_on b.table b.side b.shape)) (among_same b (bound_members b)) ∙ stands_same b (payload_of b))

-- a body that is a document or a tree has a shape, and no other one
abbrev pub HasShape : BodyPart → Option ℕ → Type 0
HasShape Document None = ⊥
HasShape Document (Some s) = Unit {0}
HasShape Tree None = ⊥
HasShape Tree (Some s) = Unit {0}
HasShape (Raw k) None = Unit {0}
HasShape (Raw k) (Some s) = ⊥
HasShape Nothing None = Unit {0}
HasShape Nothing (Some s) = ⊥

abbrev PayloadIs : Bound → Option ℕ → Option ℕ → Type 0
PayloadIs b member shape = HasShape (payload_part b member) shape

tree_shape : (b : Bound) (k : ℕ) (z : Bool) → HasShape (cond z Tree (Raw k)) (cond z (Some (target_at b.table k)) None)
tree_shape b k true = tt
tree_shape b k false = tt

payload_has : (b : Bound) (ks : List ℕ) → PayloadIs b (payload_among b ks) (payload_shape (bound_on b.table b.side b.shape) ks)
payload_has b [] = tt
payload_has b (k ∷ ks) = by (binding_on b k) (payload_has b ks)
  where
    by : (o : Option BindingData) → PayloadIs b (payload_among b ks) (payload_shape (bound_on b.table b.side b.shape) ks)
        → PayloadIs b (payload_or o k (payload_among b ks)) (shape_by o b.table k (payload_shape (bound_on b.table b.side b.shape) ks))
    by None h = h
    by (Some payload) h = tree_shape b k (is_tree_at b k)
    by (Some label) h = h
    by (Some (query name)) h = h
    by (Some query_params) h = h
    by (Some (header name)) h = h
    by (Some (prefix_headers prefix)) h = h
    by (Some response_code) h = h

pub part_has : (b : Bound) (d : BindingsData) → AreBindingsOf b.table d → b.shape < shape_count b.table
    → kind_at b.table b.shape ≡ Structure → HasShape (part_of b) (body_at d b.side b.shape)
part_has b d are lt kind = by (has_document b) (body_at d b.side b.shape) (are.each b.side b.shape lt kind)
  where
    by : (z : Bool) (o : Option ℕ) → IsBodyBy z d.documents (bound_on b.table b.side b.shape) o
        → HasShape (cond z Document (payload_part b (payload_of b))) o
    by true None h = h
    by true (Some s) h = tt
    by false o h = subst (HasShape (payload_part b (payload_of b))) h (payload_has b (bound_members b))

-- such a body is JSON, where it isn't empty
json_used : (p : BodyPart) (s : ℕ) → HasShape p (Some s) → use_by p false ≡ as_text
json_used Document s h = refl
json_used Tree s h = refl
json_used (Raw k) s h = absurd h
json_used Nothing s h = absurd h

pub shape_used : (b : Bound) (o : Option ℕ) (s : ℕ) → HasShape (part_of b) o → o ≡ Some s → rest_use b false ≡ as_text
shape_used b o s h is = json_used (part_of b) s (subst (HasShape (part_of b)) is h)

shape_missing : (p : BodyPart) → HasShape p None → use_by p false ≡ as_text → ⊥
shape_missing Document h e = h
shape_missing Tree h e = h
shape_missing (Raw k) h e = cc
shape_missing Nothing h e = cc

pub shape_needed : (b : Bound) (o : Option ℕ) → HasShape (part_of b) o → rest_use b false ≡ as_text → o ≡ None → ⊥
shape_needed b o h json e = shape_missing (part_of b) (subst (HasShape (part_of b)) e h) json

-- and an empty one is no text
empty_used : (p : BodyPart) → use_by p true ≡ as_text → ⊥
empty_used Document e = cc
empty_used Tree e = cc
empty_used (Raw k) e = cc
empty_used Nothing e = cc

pub text_is_full : (b : Bound) (empty : Bool) → rest_use b empty ≡ as_text → empty ≡ false
text_is_full b true e = absurd (empty_used (part_of b) e)
text_is_full b false e = refl

-- a document stands in the body exactly where the shape has one
no_payload_document : (b : Bound) (o : Option ℕ) → is_document (payload_part b o) ≡ false
no_payload_document b None = refl
no_payload_document b (Some k) = by (is_tree_at b k)
  where
    by : (z : Bool) → is_document (cond z Tree (Raw k)) ≡ false
    by true = refl
    by false = refl

pub document_is : (b : Bound) → has_document b ≡ is_document (part_of b)
document_is b = by (has_document b)
  where
    by : (z : Bool) → z ≡ is_document (cond z Document (payload_part b (payload_of b)))
    by true = refl
    by false = sym (no_payload_document b (payload_of b))

-- the shape is one of the table of documents
payload_there : (b : Bound) (s : ℕ) → Shaped b.table → (ks : List ℕ) → AllByRecursion (λ k. k < member_count b.table) ks
    → payload_shape (bound_on b.table b.side b.shape) ks ≡ Some s → s < shape_count b.table
payload_there b s shaped [] all e = absurd cc
payload_there b s shaped (k ∷ ks) all e = by (binding_on b k) e (payload_there b s shaped ks all.1)
  where
    one : (z : Bool) → cond z (Some (target_at b.table k)) None ≡ Some s → s < shape_count b.table
    one true is = let same : target_at b.table k ≡ s = cc in subst (λ n. n < shape_count b.table) same (shaped.targets k all.0)
    one false is = absurd cc

    by : (o : Option BindingData) → shape_by o b.table k (payload_shape (bound_on b.table b.side b.shape) ks) ≡ Some s
        → (payload_shape (bound_on b.table b.side b.shape) ks ≡ Some s → s < shape_count b.table) → s < shape_count b.table
    by None is behind = behind is
    by (Some payload) is behind = one (is_tree_at b k) is
    by (Some label) is behind = behind is
    by (Some (query name)) is behind = behind is
    by (Some query_params) is behind = behind is
    by (Some (header name)) is behind = behind is
    by (Some (prefix_headers prefix)) is behind = behind is
    by (Some response_code) is behind = behind is

pub shape_within : (b : Bound) (d : BindingsData) (s : ℕ) → Shaped b.table → AreBindingsOf b.table d → b.shape < shape_count b.table
    → kind_at b.table b.shape ≡ Structure → body_at d b.side b.shape ≡ Some s → s < shape_count d.documents
shape_within b d s shaped are lt kind at = by (has_document b) (body_at d b.side b.shape) at (are.each b.side b.shape lt kind)
  where
    by : (z : Bool) (o : Option ℕ) → o ≡ Some s → IsBodyBy z d.documents (bound_on b.table b.side b.shape) o
        → s < shape_count d.documents
    by true None is h = absurd h
    by true (Some r) is h = let same : r ≡ s = cc in subst (λ n. n < shape_count d.documents) same h.there
    by false o is h =
        more_shapes d.documents b.table are.extends s
        (payload_there b s shaped (bound_members b) (members_there b.table b.shape (bound_members b) (shaped.members b.shape lt)) (h ∙ is))
