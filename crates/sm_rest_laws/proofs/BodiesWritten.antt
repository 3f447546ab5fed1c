-- The body that is written for a value is read again as its content: a document, the tree or the bytes of a payload, or nothing. A payload
-- of bytes that is absent is read as one of none.
use Rattle.std.proofs.Common.{◌≡◌, ◌⊎◌, inl, inr, ℕ, ◌<◌, Bool, true, false, cond, List, [], ◌∷◌, None, Some, refl, sym, ap, ◌∙◌, subst}
use Rattle.std.specs.Prelude.{Option, is_some, not}
use Rattle.std.specs.List.{AllByRecursion}
use Rattle.sm_tree.specs.Json.{AreJsonMembers, IsJson}
use Rattle.sm_tree.specs.Node.{member, object}
use Rattle.sm_json.specs.JsonText.{JsonText}
use Rattle.sm_json.proofs.WrittenTrees.{text_of_tree}
use Rattle.sm_shapes.specs.Fitting.{Fits, IsOfKind, Test}
use Rattle.sm_shapes.specs.Places.{kind_of, member_place}
use Rattle.sm_shapes.specs.TableData.{BindingData, label, query, query_params, header, prefix_headers, payload, response_code}
use Rattle.sm_shapes.specs.TableData.{json_name_at, member_count}
use Rattle.sm_shapes.specs.Values.{FieldVals, Val, blob_val, bool_val, field, int_val, list_val, map_val, no_fields, null_val}
use Rattle.sm_shapes.specs.Values.{structure_val, text_val, time_val, union_val}
use Rattle.sm_shapes.specs.declared.kinds.ShapeKind.{ShapeKind}
use Rattle.sm_shapes.specs.declared.kinds.ShapeKind.TheVariants as kind
use Rattle.sm_shapes.proofs.NamedMembers.{IsAmong}
use Rattle.sm_codec.specs.Conventions.{json_convention}
use Rattle.sm_codec.specs.Written.{uncarried, written}
use Rattle.sm_codec.proofs.JsonWrites.{json_writes}
use Rattle.sm_codec.proofs.WrittenForms.{written_is_json}
use Rattle.sm_excerpts.proofs.Extending.{members_there}
use Rattle.sm_bind_laws.specs.service.WireMembers.{is_payload_kind, wire_member_at}
use Rattle.sm_bind_laws.specs.messages.Heads.{is_empty}
use Rattle.sm_bind_laws.specs.messages.MessageForm.{Content, HasContent, a_tree, nothing, raw_bytes}
use Rattle.sm_bind_laws.specs.bind.Documents.{is_tree_kind}
use Rattle.sm_bind_laws.specs.bind.Roles.{Bound, binding_on, bound_members, has_document, is_in_document}
use Rattle.sm_rest.specs.bind_bodies.WrittenBodies.{content_bytes}
use Rattle.sm_bind_laws.specs.bind_write.CarriedParts.{uncarried_bound}
use Rattle.sm_bind_laws.specs.bind_write.Restrictions.{is_collection}
use Rattle.sm_bind_laws.specs.bind_write.WrittenParts.{document_pairs, payload_among, payload_by, payload_content, written_content}
use Rattle.sm_bind_laws.specs.BoundRight.{IsBoundRight}
use Rattle.sm_bind_laws.specs.FoundParts.{IsReadAs}
use Rattle.sm_bind_laws.proofs.FieldsEach.{EachField}
use Rattle.sm_bind_laws.proofs.OwnParts.{one_payload, there_of}
use Rattle.sm_rest.specs.rest_heads.BodyParts as bodies
use Rattle.sm_rest.specs.rest_heads.BodyParts.{is_tree_at, part_of, payload_of, payload_or, payload_part, rest_use, use_by}
use Rattle.sm_rest.specs.rest_heads.declared.bodies.BodyPart.{BodyPart}
use Rattle.sm_rest.specs.rest_heads.declared.bodies.BodyPart.TheVariants.{Document, Nothing, Raw, Tree}

-- the content as which a body is read
pub record IsBodyRead (b : Bound) (written : Content) (bytes : List ℕ) : Type 0 where
  pub content : Content
  pub has : HasContent JsonText (rest_use b (is_empty bytes)) bytes content
  pub same : IsReadAs written content

picked : (P : ℕ → Type 0) (k : ℕ) (ks : List ℕ) → AllByRecursion P ks → IsAmong k ks → P k
picked P k [] h i = absurd i
picked P k (j ∷ ks) h (inl e) = subst P (sym e) h.0
picked P k (j ∷ ks) h (inr i) = picked P k ks h.1 i

none_bound : (o : Option BindingData) → not (is_some o) ≡ true → o ≡ None
none_bound None h = refl
none_bound (Some x) h = absurd cc

-- kinds of values that are no trees
blob_kind : (k : ShapeKind) (u : List ℕ) → IsOfKind k (blob_val u) → is_tree_kind k ≡ false
blob_kind kind.Structure u h = absurd h
blob_kind kind.Union u h = absurd h
blob_kind k u h = refl

text_kind : (k : ShapeKind) (u : List ℕ) → IsOfKind k (text_val u) → is_tree_kind k ≡ false
text_kind kind.Structure u h = absurd h
text_kind kind.Union u h = absurd h
text_kind k u h = refl

module _ (b : Bound) (test : Test) (labels : List (List ℕ)) (right : IsBoundRight b test labels)
    (single : (k : ℕ) → IsAmong k (bound_members b) → binding_on b k ≡ Some payload
    → is_collection (kind_of b.table (member_place k)) ≡ false) where
  abbrev IsFieldOf : ℕ → Val → Type 0
  IsFieldOf k v = IsAmong k (bound_members b) × Fits b.table test (member_place k) v × (uncarried_bound (binding_on b k) b k v ≡ [])

  there : (k : ℕ) → IsAmong k (bound_members b) → k < member_count b.table
  there k i =
      picked (λ j. j < member_count b.table) k (bound_members b)
      (members_there b.table b.shape (bound_members b) (right.shaped.members b.shape right.within)) i

  json_tree : (k : ℕ) (v : Val) → IsAmong k (bound_members b) → Fits b.table test (member_place k) v
      → uncarried b.table (json_convention true) (member_place k) v ≡ []
      → IsJson (written b.table (json_convention true) (member_place k) v)
  json_tree k v i fits carried =
      written_is_json b.table (json_convention true) test (member_place k) v right.shaped (json_writes true) (there k i) fits carried

  -- the document
  pairs_json : (fs : FieldVals) → EachField IsFieldOf fs → AreJsonMembers (document_pairs b fs)
  pairs_json no_fields h = tt
  pairs_json (field k v fs) h = by (is_in_document b k) refl (pairs_json fs h.1)
    where
      by : (t : Bool) → is_in_document b k ≡ t → AreJsonMembers (document_pairs b fs)
          → AreJsonMembers (cond t
          (member (json_name_at b.table k) (written b.table (json_convention true) (member_place k) v) (document_pairs b fs))
          (document_pairs b fs))
      by true e rest =
          let carried = subst (λ o. uncarried_bound o b k v ≡ []) (none_bound (binding_on b k) e) h.0.2 in
          ((right.shaped.utf8 k (there k h.0.0)).1, json_tree k v h.0.0 h.0.1 carried, rest)
      by false e rest = rest

  used : (p : BodyPart) (bytes : List ℕ) (content : Content) → part_of b ≡ p → HasContent JsonText (use_by p (is_empty bytes)) bytes content
      → HasContent JsonText (rest_use b (is_empty bytes)) bytes content
  used p bytes content e h = subst (λ q. HasContent JsonText (use_by q (is_empty bytes)) bytes content) (sym e) h

  document_read : (fs : FieldVals) → has_document b ≡ true → EachField IsFieldOf fs
      → IsBodyRead b (a_tree (object (document_pairs b fs))) (content_bytes (a_tree (object (document_pairs b fs))))
  document_read fs e h =
      let n = object (document_pairs b fs) in
      record {
        content = a_tree n;
        has = used Document (content_bytes (a_tree n)) (a_tree n) (ap (λ t. cond t Document (payload_part b (payload_of b))) e)
            (text_of_tree n (pairs_json fs h));
        same = inl refl;
      }

  -- the payload that is present, if one is
  pub record IsPayload (body : Content) (k : ℕ) (v : Val) : Type 0 where
    pub field : IsFieldOf k v
    pub bound : binding_on b k ≡ Some payload
    pub content : body ≡ payload_content b k v

  abbrev PayloadStands : Content → Type 0
  PayloadStands content = (content ≡ nothing) ⊎ ((k : ℕ) × (v : Val) × IsPayload content k v)

  stands_by : (k : ℕ) (v : Val) (o : Option BindingData) (rest : Content) → IsFieldOf k v → binding_on b k ≡ o → PayloadStands rest
      → PayloadStands (payload_by o b k v rest)
  stands_by k v (Some payload) rest f e h = inr (k, v, record { field = f; bound = e; content = refl })
  stands_by k v None rest f e h = h
  stands_by k v (Some label) rest f e h = h
  stands_by k v (Some (query name)) rest f e h = h
  stands_by k v (Some query_params) rest f e h = h
  stands_by k v (Some (header name)) rest f e h = h
  stands_by k v (Some (prefix_headers prefix)) rest f e h = h
  stands_by k v (Some response_code) rest f e h = h

  payload_stands : (fs : FieldVals) → EachField IsFieldOf fs → PayloadStands (payload_among b fs)
  payload_stands no_fields h = inl refl
  payload_stands (field k v fs) h = stands_by k v (binding_on b k) (payload_among b fs) h.0 refl (payload_stands fs h.1)

  -- the member that is one, if there is one
  abbrev IsFound : List ℕ → Option ℕ → Type 0
  IsFound ks None = (k : ℕ) → IsAmong k ks → binding_on b k ≡ Some payload → ⊥
  IsFound ks (Some j) = IsAmong j ks × (binding_on b j ≡ Some payload)

  other_than : (o : Option BindingData) → Type 0
  other_than (Some payload) = ⊥
  other_than o = Unit {0}

  later : (k : ℕ) (ks : List ℕ) (o : Option ℕ) → (binding_on b k ≡ Some payload → ⊥) → IsFound ks o → IsFound (k ∷ ks) o
  later k ks None other h = found
    where
      found : (j : ℕ) → IsAmong j (k ∷ ks) → binding_on b j ≡ Some payload → ⊥
      found j (inl e) is = other (subst (λ n. binding_on b n ≡ Some payload) e is)
      found j (inr i) is = h j i is
  later k ks (Some j) other h = (inr h.0, h.1)

  found_by : (k : ℕ) (ks : List ℕ) (o : Option BindingData) (rest : Option ℕ) → binding_on b k ≡ o → IsFound ks rest
      → IsFound (k ∷ ks) (payload_or o k rest)
  found_by k ks (Some payload) rest e h = (inl refl, e)
  found_by k ks None rest e h = later k ks rest (λ is. absurd (clash (sym e ∙ is))) h
    where
      clash : None ≡ Some payload → ⊥
      clash x = cc
  found_by k ks (Some label) rest e h = later k ks rest (λ is. let x = sym e ∙ is in absurd cc) h
  found_by k ks (Some (query name)) rest e h = later k ks rest (λ is. let x = sym e ∙ is in absurd cc) h
  found_by k ks (Some query_params) rest e h = later k ks rest (λ is. let x = sym e ∙ is in absurd cc) h
  found_by k ks (Some (header name)) rest e h = later k ks rest (λ is. let x = sym e ∙ is in absurd cc) h
  found_by k ks (Some (prefix_headers prefix)) rest e h = later k ks rest (λ is. let x = sym e ∙ is in absurd cc) h
  found_by k ks (Some response_code) rest e h = later k ks rest (λ is. let x = sym e ∙ is in absurd cc) h

  payload_found : (ks : List ℕ) → IsFound ks (bodies.payload_among b ks)
  payload_found [] = none
    where
      none : (k : ℕ) → IsAmong k [] → binding_on b k ≡ Some payload → ⊥
      none k i is = absurd i
  payload_found (k ∷ ks) = found_by k ks (binding_on b k) (bodies.payload_among b ks) refl (payload_found ks)

  payload_kind : (k : ℕ) → IsAmong k (bound_members b) → binding_on b k ≡ Some payload
      → is_payload_kind (kind_of b.table (member_place k)) ≡ true
  payload_kind k i e = right.targets (wire_member_at b.table k) payload (there_of (wire_member_at b.table) k (bound_members b) i) e

  -- a payload that is present: bytes, or a tree
  tree_part : (k : ℕ) → payload_of b ≡ Some k → has_document b ≡ false → is_tree_at b k ≡ true → part_of b ≡ Tree
  tree_part k at e is =
      ap (λ t. cond t Document (payload_part b (payload_of b))) e ∙ ap (payload_part b) at ∙ ap (λ t. cond t Tree (Raw k)) is

  raw_part : (k : ℕ) → payload_of b ≡ Some k → has_document b ≡ false → is_tree_at b k ≡ false → part_of b ≡ Raw k
  raw_part k at e is =
      ap (λ t. cond t Document (payload_part b (payload_of b))) e ∙ ap (payload_part b) at ∙ ap (λ t. cond t Tree (Raw k)) is

  is_structure : (k : ShapeKind) → k ≡ kind.Structure → is_tree_kind k ≡ true
  is_structure k e = ap is_tree_kind e

  raw_read : (k : ℕ) (u : List ℕ) → payload_of b ≡ Some k → has_document b ≡ false → is_tree_at b k ≡ false → IsBodyRead b (raw_bytes u) u
  raw_read k u at e is =
      record { content = raw_bytes u; has = used (Raw k) u (raw_bytes u) (raw_part k at e is) refl; same = inl refl }

  present_read : (k : ℕ) (v : Val) → payload_of b ≡ Some k → has_document b ≡ false → binding_on b k ≡ Some payload → IsFieldOf k v
      → is_payload_kind (kind_of b.table (member_place k)) ≡ true → is_collection (kind_of b.table (member_place k)) ≡ false
      → IsBodyRead b (payload_content b k v) (content_bytes (payload_content b k v))
  present_read k (blob_val u) at e bound f may alone = raw_read k u at e (blob_kind (kind_of b.table (member_place k)) u f.1.0)
  present_read k (text_val u) at e bound f may alone = raw_read k u at e (text_kind (kind_of b.table (member_place k)) u f.1.0)
  present_read k (structure_val fs) at e bound f may alone =
      let n = written b.table (json_convention true) (member_place k) (structure_val fs) in
      let carried = subst (λ o. uncarried_bound o b k (structure_val fs) ≡ []) bound f.2 in
      record {
        content = a_tree n;
        has = used Tree (content_bytes (a_tree n)) (a_tree n) (tree_part k at e (ap is_tree_kind f.1.0))
            (text_of_tree n (json_tree k (structure_val fs) f.0 f.1 carried));
        same = inl refl;
      }
  present_read k (union_val m v) at e bound f may alone =
      let n = written b.table (json_convention true) (member_place k) (union_val m v) in
      let carried = subst (λ o. uncarried_bound o b k (union_val m v) ≡ []) bound f.2 in
      record {
        content = a_tree n;
        has = used Tree (content_bytes (a_tree n)) (a_tree n) (tree_part k at e (ap is_tree_kind f.1.0))
            (text_of_tree n (json_tree k (union_val m v) f.0 f.1 carried));
        same = inl refl;
      }
  present_read k (list_val vs) at e bound f may alone = absurd (clash (ap is_collection f.1.0) alone)
    where
      clash : is_collection (kind_of b.table (member_place k)) ≡ true → is_collection (kind_of b.table (member_place k)) ≡ false → ⊥
      clash x y = cc
  present_read k (map_val es) at e bound f may alone = absurd (clash (ap is_collection f.1.0) alone)
    where
      clash : is_collection (kind_of b.table (member_place k)) ≡ true → is_collection (kind_of b.table (member_place k)) ≡ false → ⊥
      clash x y = cc
  present_read k null_val at e bound f may alone = absurd f.1
  present_read k (bool_val t) at e bound f may alone = absurd (none (kind_of b.table (member_place k)) f.1.0 may)
    where
      none : (j : ShapeKind) → IsOfKind j (bool_val t) → is_payload_kind j ≡ true → ⊥
      none kind.Boolean h x = cc
      none j h x = h
  present_read k (int_val z) at e bound f may alone = absurd (none (kind_of b.table (member_place k)) f.1.0 may)
    where
      none : (j : ShapeKind) → IsOfKind j (int_val z) → is_payload_kind j ≡ true → ⊥
      none kind.Byte h x = cc
      none kind.Short h x = cc
      none kind.Integer h x = cc
      none kind.IntEnum h x = cc
      none kind.Long h x = cc
      none j h x = h
  present_read k (time_val ms) at e bound f may alone = absurd (none (kind_of b.table (member_place k)) f.1.0 may)
    where
      none : (j : ShapeKind) → IsOfKind j (time_val ms) → is_payload_kind j ≡ true → ⊥
      none kind.Timestamp h x = cc
      none j h x = h

  -- one that is absent, and none
  absent_read : (o : Option ℕ) → payload_of b ≡ o → has_document b ≡ false → IsBodyRead b nothing []
  absent_read None at e =
      record {
        content = nothing;
        has = used Nothing [] nothing (ap (λ t. cond t Document (payload_part b (payload_of b))) e ∙ ap (payload_part b) at) refl;
        same = inl refl;
      }
  absent_read (Some k) at e = by (is_tree_at b k) refl
    where
      by : (t : Bool) → is_tree_at b k ≡ t → IsBodyRead b nothing []
      by true is = record { content = nothing; has = used Tree [] nothing (tree_part k at e is) refl; same = inl refl }
      by false is =
          record { content = raw_bytes []; has = used (Raw k) [] (raw_bytes []) (raw_part k at e is) refl; same = inr (refl, refl) }

  payload_read : (o : Option ℕ) (content : Content) → payload_of b ≡ o → IsFound (bound_members b) o → has_document b ≡ false
      → PayloadStands content → IsBodyRead b content (content_bytes content)
  payload_read o content at found e (inl none) = subst (λ c. IsBodyRead b c (content_bytes c)) (sym none) (absent_read o at e)
  payload_read None content at found e (inr (k, v, is)) = absurd (found k is.field.0 is.bound)
  payload_read (Some j) content at found e (inr (k, v, is)) =
      let same = one_payload b test labels right j k found.0 is.field.0 found.1 is.bound in
      let read = present_read k v (at ∙ ap Some same) e is.bound is.field (payload_kind k is.field.0 is.bound)
      (single k is.field.0 is.bound) in
      subst (λ c. IsBodyRead b c (content_bytes c)) (sym is.content) read

  pub body_read : (fs : FieldVals) → EachField IsFieldOf fs
      → IsBodyRead b (written_content b (structure_val fs)) (content_bytes (written_content b (structure_val fs)))
  body_read fs h = by (has_document b) refl
    where
      by : (t : Bool) → has_document b ≡ t
          → IsBodyRead b (cond t (a_tree (object (document_pairs b fs))) (payload_among b fs))
          (content_bytes (cond t (a_tree (object (document_pairs b fs))) (payload_among b fs)))
      by true e = document_read fs e h
      by false e = payload_read (payload_of b) (payload_among b fs) refl (payload_found (bound_members b)) e (payload_stands fs h)
