-- The members of a document and a payload are found again in the content of a body.
use Rattle.std.proofs.Common.{◌≡◌, ◌<◌, inl, inr, ℕ, Bool, true, false, ◌&&◌, ◌||◌, cond, List, [], ◌∷◌, ◌++◌, refl, sym, ap, ◌∙◌, subst}
use Rattle.std.specs.Prelude.{◌==◌, IfSome, None, Ok, Option, Some, is_some, not}
use Rattle.std.specs.List.{list_any}
use Rattle.std.specs.Str.{bytes_eq}
use Rattle.std.proofs.lemmas.Bool.{false_from_ne_true}
use Rattle.std.proofs.lemmas.Bool.Decides.{Decides-eqb}
use Rattle.std.proofs.lemmas.Slice.Eq.{bytes_eq-Decides}
use Rattle.sm_tree.specs.Node.{Node, member, object}
use Rattle.sm_shapes.specs.Fitting.{Fits, Test}
use Rattle.sm_shapes.specs.InOrder.{AreMembersOf}
use Rattle.sm_shapes.specs.Places.{kind_of, member_place}
use Rattle.sm_shapes.specs.TableData.{BindingData, TableData, json_name_at, member_count, payload}
use Rattle.sm_shapes.specs.Values.{FieldVals, Val, blob_val, field, no_fields, structure_val}
use Rattle.sm_shapes.specs.Values.{text_val}
use Rattle.sm_shapes.proofs.NamedMembers.{IsAmong}
use Rattle.sm_codec.specs.Codec.{Codec}
use Rattle.sm_codec.specs.CodecLaws.{IsCodec}
use Rattle.sm_codec.specs.Conventions.{json_convention}
use Rattle.sm_codec.specs.Named.{named}
use Rattle.sm_codec.specs.Readings.{Child, child_of, named_children}
use Rattle.sm_codec.specs.Written.{uncarried, written}
use Rattle.sm_codec.proofs.JsonLaws.{json_laws}
use Rattle.sm_codec.proofs.ReadValues.{one_value}
use Rattle.sm_codec.proofs.WrittenValues.{spelled_stands, written_spells}
use Rattle.sm_bind_read.specs.messages.MessageForm.{Content, a_tree, nothing, raw_bytes}
use Rattle.sm_parts.specs.HeaderLists.{is_filled}
use Rattle.sm_part_values.specs.PartTexts.{raw_by}
use Rattle.sm_part_texts.specs.CarriedTexts.{here_unless}
use Rattle.sm_bind_read.specs.bind.Roles.{Bound, binding_on, bound_members, has_document, is_in_document}
use Rattle.sm_bind_read.specs.PartFaults.{bound_codec, is_no_object}
use Rattle.sm_bind_read.specs.Parts.{document_children, payload_children}
use Rattle.sm_bind_write.specs.CarriedParts.{uncarried_bound, uncarried_payload}
use Rattle.sm_bind_write.specs.WrittenParts.{document_pairs, over_fields, payload_among, payload_by, payload_content, value_of}
use Rattle.sm_bind_write.specs.WrittenParts.{written_content}
use Rattle.sm_part_laws.specs.Coming.{ComeTo}
use Rattle.sm_part_laws.specs.Laws.{RawBlobRead, RawTextRead}
use Rattle.sm_bind_laws.specs.BoundRight.{IsBoundRight}
use Rattle.sm_bind_laws.specs.FoundParts.{IsReadAs}
use Rattle.sm_bind_laws.proofs.EachCarried.{CanBeRead, IsReady}
use Rattle.sm_bind_laws.proofs.FieldsEach.{EachField, at_most, each_map, over_only, over_through, value_held}
use Rattle.sm_bind_laws.proofs.LabelsFound.{one_member}
use Rattle.sm_bind_laws.proofs.MembersRead.{StandFor}
use Rattle.sm_bind_laws.proofs.OwnParts.{one_payload, payload_alone}
use Rattle.sm_bind_laws.proofs.QueriesFound.{named_both}

not_like : (j k : ℕ) → (j == k) ≡ false → j ≡ k → ⊥
not_like j k e same = both (j == k) ((Decides-eqb j k).1 same) e
  where
    both : (t : Bool) → t ≡ true → t ≡ false → ⊥
    both t h g = cc

inside_of : (t : TableData) (s k : ℕ) (ks : List ℕ) → AreMembersOf t s ks → IsAmong k ks → k < member_count t
inside_of t s k [] h i = absurd i
inside_of t s k (j ∷ js) h (inl e) = subst (λ n. n < member_count t) (sym e) h.0
inside_of t s k (j ∷ js) h (inr i) = inside_of t s k js h.2 i

any_of : (p : ℕ → Bool) (k : ℕ) (ks : List ℕ) → IsAmong k ks → p k ≡ true → list_any p ks ≡ true
any_of p k [] i h = absurd i
any_of p k (j ∷ js) (inl e) h = ap (λ t. t || list_any p js) (subst (λ n. p n ≡ true) e h)
any_of p k (j ∷ js) (inr i) h = either (p j) (any_of p k js i h)
  where
    either : (t : Bool) → list_any p js ≡ true → (t || list_any p js) ≡ true
    either true g = refl
    either false g = g

-- a tree that is written comes to its value
module _ (b : Bound) (test : Test) (labels : List (List ℕ)) (right : IsBoundRight b test labels) where
  abbrev codec : Codec
  codec = bound_codec b test

  is_codec : IsCodec (bound_codec b test)
  is_codec = record { convention = json_laws true; table = right.shaped; defaults = right.defaults }

  abbrev tree_of : ℕ → Val → Node
  tree_of k v = written b.table (json_convention true) (member_place k) v

  tree_read : (k : ℕ) (v : Val) → IsAmong k (bound_members b) → Fits b.table test (member_place k) v
      → uncarried b.table (json_convention true) (member_place k) v ≡ []
      → ComeTo (member_place k) v (child_of (bound_codec b test) (tree_of k v) ∷ [])
  tree_read k v i fits carried =
      let inside = inside_of b.table b.shape k (bound_members b) (right.shaped.members b.shape right.within) i in
      let spells = written_spells (bound_codec b test) (member_place k) v (json_laws true) right.shaped inside fits carried in (
        spelled_stands (bound_codec b test) (member_place k) v (tree_of k v) (json_laws true) spells.1,
        (one_value (bound_codec b test) (member_place k) v (tree_of k v) is_codec inside).0 spells,
      )

-- the content of a document is an object
abbrev content_by : Bool → Bound → FieldVals → Content
content_by z b fs = cond z (a_tree (object (document_pairs b fs))) (payload_among b fs)

no_other : (m : Content) (n : Node) → m ≡ a_tree n → m ≡ nothing → ⊥
no_other m n e f = two (sym e ∙ f)
  where
    two : a_tree n ≡ nothing → ⊥
    two h = cc

object_by : (z : Bool) (b : Bound) (fs : FieldVals) (content : Content) → has_document b ≡ z → IsReadAs (content_by z b fs) content
    → (z && is_no_object content) ≡ false
object_by false b fs content e h = refl
object_by true b fs content e (inl same) = ap is_no_object same
object_by true b fs content e (inr none) =
    absurd (no_other (a_tree (object (document_pairs b fs))) (object (document_pairs b fs)) refl none.0)

pub object_read : (b : Bound) (fs : FieldVals) (content : Content) → IsReadAs (written_content b (structure_val fs)) content
    → (has_document b && is_no_object content) ≡ false
object_read b fs content h = object_by (has_document b) b fs content refl h

module _ (b : Bound) (test : Test) (labels : List (List ℕ)) (all : FieldVals) (can : CanBeRead b test labels all) where
  abbrev members : List ℕ
  members = bound_members b

  abbrev node_at : ℕ → Val → Node
  node_at j w = written b.table (json_convention true) (member_place j) w

  -- a payload
  module _ (k : ℕ) (there : IsAmong k members) (bound : binding_on b k ≡ Some payload) where
    abbrev payload_of : Option Val → Content
    payload_of None = nothing
    payload_of (Some v) = payload_content b k v

    no_payload : (j : ℕ) (w : Val) (other : Content) → IsAmong j members → (j ≡ k → ⊥) → (o : Option BindingData) → binding_on b j ≡ o
        → payload_by o b j w other ≡ other
    no_payload j w other i apart (Some payload) e = absurd (apart (one_payload b test labels can.right j k i there e bound))
    no_payload j w other i apart o e = refl

    payload_step : (j : ℕ) (w : Val) (fs : FieldVals) (t : Bool) → (j == k) ≡ t → IsReady b test j w
        → payload_among b fs ≡ payload_of (value_of k fs)
        → payload_by (binding_on b j) b j w (payload_among b fs) ≡ payload_of (cond t (Some w) (value_of k fs))
    payload_step j w fs true e ready rest =
        let same = (Decides-eqb j k).0 e in
        ap (λ o. payload_by o b j w (payload_among b fs)) (subst (λ n. binding_on b n ≡ Some payload) (sym same) bound)
        ∙ ap (λ n. payload_content b n w) same
    payload_step j w fs false e ready rest =
        no_payload j w (payload_among b fs) ready.among (not_like j k e) (binding_on b j) refl ∙ rest

    payload_found : (fs : FieldVals) → EachField (IsReady b test) fs → payload_among b fs ≡ payload_of (value_of k fs)
    payload_found no_fields each = refl
    payload_found (field j w fs) each = payload_step j w fs (j == k) refl each.0 (payload_found fs each.1)

    raw_comes : (v : Val) (u : List ℕ) → here_unless (is_filled u) ≡ []
        → raw_by (kind_of b.table (member_place k)) (bound_codec b test) (member_place k) u ≡ Ok v
        → ComeTo (member_place k) v (payload_children (bound_codec b test) k (raw_bytes u))
    raw_comes v [] some read = absurd cc
    raw_comes v (x ∷ u) some read = (refl, read)

    value_comes : RawBlobRead → RawTextRead → (v : Val) → Fits b.table test (member_place k) v → uncarried_payload b.table k v ≡ []
        → ComeTo (member_place k) v (payload_children (bound_codec b test) k (payload_content b k v))
    value_comes blob text (blob_val u) fits carried = raw_comes (blob_val u) u carried (blob (bound_codec b test) (member_place k) u fits)
    value_comes blob text (text_val u) fits carried = raw_comes (text_val u) u carried (text (bound_codec b test) (member_place k) u fits)
    value_comes blob text v fits carried = tree_read b test labels can.right k v there fits carried

    not_nothing : (v : Val) → payload_content b k v ≡ nothing → ⊥
    not_nothing (blob_val u) e = cc
    not_nothing (text_val u) e = cc
    not_nothing v e = cc

    read_by : RawBlobRead → RawTextRead → (o : Option Val) (content : Content) → IsReadAs (payload_of o) content
        → IfSome o (IsReady b test k)
        → StandFor k o (payload_children (bound_codec b test) k content)
    read_by blob text None content (inl same) ready = ap (payload_children (bound_codec b test) k) same
    read_by blob text None content (inr none) ready = ap (payload_children (bound_codec b test) k) none.1
    read_by blob text (Some v) content (inl same) ready =
        subst (λ m. ComeTo (member_place k) v (payload_children (bound_codec b test) k m)) (sym same)
        (value_comes blob text v ready.fits (subst (λ o. uncarried_bound o b k v ≡ []) bound ready.carried))
    read_by blob text (Some v) content (inr none) ready = absurd (not_nothing v none.0)

    pub payload_read : RawBlobRead → RawTextRead → (content : Content) → IsReadAs (written_content b (structure_val all)) content
        → StandFor k (value_of k all) (payload_children (bound_codec b test) k content)
    payload_read blob text content h =
        let is = ap (λ z. content_by z b all) (payload_alone b test labels can.right k there bound) ∙ payload_found all can.each in
        read_by blob text (value_of k all) content (subst (λ m. IsReadAs m content) is h) (value_held (IsReady b test) k all can.each)

  -- a member of a document
  module _ (k : ℕ) (there : IsAmong k members) (bound : binding_on b k ≡ None) where
    abbrev pair_at : ℕ → Val → List (List ℕ × Child)
    pair_at j w = cond (is_in_document b j) ((json_name_at b.table j, child_of (bound_codec b test) (node_at j w)) ∷ []) []

    abbrev own_key : List ℕ
    own_key = json_name_at b.table k

    abbrev trees_at : ℕ → Val → List Child
    trees_at j w = named own_key (pair_at j w)

    pairs_by : (j : ℕ) (w : Val) (fs : FieldVals) (z : Bool)
        → named_children (bound_codec b test) (document_pairs b fs) ≡ over_fields pair_at fs
        → named_children (bound_codec b test) (cond z (member (json_name_at b.table j) (node_at j w) (document_pairs b fs))
        (document_pairs b fs))
        ≡ cond z ((json_name_at b.table j, child_of (bound_codec b test) (node_at j w)) ∷ []) [] ++ over_fields pair_at fs
    pairs_by j w fs true rest = ap (λ ps. (json_name_at b.table j, child_of (bound_codec b test) (node_at j w)) ∷ ps) rest
    pairs_by j w fs false rest = rest

    pairs_over : (fs : FieldVals) → named_children (bound_codec b test) (document_pairs b fs) ≡ over_fields pair_at fs
    pairs_over no_fields = refl
    pairs_over (field j w fs) = pairs_by j w fs (is_in_document b j) (pairs_over fs)

    other_by : (j : ℕ) (child : Child) (z : Bool) → bytes_eq (json_name_at b.table j) own_key ≡ false
        → named own_key (cond z ((json_name_at b.table j, child) ∷ []) []) ≡ []
    other_by j child true e = ap (λ t. cond t (child ∷ []) []) e
    other_by j child false e = refl

    other_trees : (j : ℕ) (w : Val) → IsAmong j members → (j ≡ k → ⊥) → trees_at j w ≡ []
    other_trees j w i other =
        other_by j (child_of (bound_codec b test) (node_at j w)) (is_in_document b j)
        (false_from_ne_true (bytes_eq (json_name_at b.table j) own_key) (λ e.
        other (one_member (json_name_at b.table) j k members (can.right.shaped.json_names b.shape can.right.within) i there
        ((bytes_eq-Decides (json_name_at b.table j) own_key).0 e))))

    in_document : is_in_document b k ≡ true
    in_document = ap (λ o. not (is_some o)) bound

    own_tree : (o : Option Val) → at_most (trees_at k) o ≡ at_most (λ v. child_of (bound_codec b test) (node_at k v) ∷ []) o
    own_tree None = refl
    own_tree (Some v) =
        let child = child_of (bound_codec b test) (node_at k v) in
        ap (λ z. named own_key (cond z ((own_key, child) ∷ []) [])) in_document
        ∙ ap (λ t. cond t (child ∷ []) []) ((bytes_eq-Decides own_key own_key).1 refl)

    trees_found : named own_key (named_children (bound_codec b test) (document_pairs b all))
        ≡ at_most (λ v. child_of (bound_codec b test) (node_at k v) ∷ []) (value_of k all)
    trees_found =
        let others = each_map (IsReady b test) (λ j w. (j ≡ k → ⊥) → trees_at j w ≡ [])
        (λ j w ready other. other_trees j w ready.among other) all can.each in
        ap (named own_key) (pairs_over all) ∙ over_through (named own_key) refl (named_both own_key) pair_at all
        ∙ over_only trees_at k all can.apart others ∙ own_tree (value_of k all)

    tree_by : (o : Option Val) (children : List Child)
        → children ≡ at_most (λ v. child_of (bound_codec b test) (node_at k v) ∷ []) o → IfSome o (IsReady b test k) → StandFor k o children
    tree_by None children e ready = e
    tree_by (Some v) children e ready =
        subst (ComeTo (member_place k) v) (sym e)
        (tree_read b test labels can.right k v there ready.fits (subst (λ o. uncarried_bound o b k v ≡ []) bound ready.carried))

    content_is : (content : Content) → IsReadAs (written_content b (structure_val all)) content
        → content ≡ a_tree (object (document_pairs b all))
    content_is content (inl same) =
        same ∙ ap (λ z. content_by z b all) (any_of (is_in_document b) k members there in_document)
    content_is content (inr none) =
        absurd (no_other (written_content b (structure_val all)) (object (document_pairs b all))
        (ap (λ z. content_by z b all) (any_of (is_in_document b) k members there in_document)) none.0)

    pub document_read : (content : Content) → IsReadAs (written_content b (structure_val all)) content
        → StandFor k (value_of k all) (document_children (bound_codec b test) k content)
    document_read content h =
        tree_by (value_of k all) (document_children (bound_codec b test) k content)
        (ap (document_children (bound_codec b test) k) (content_is content h) ∙ trees_found) (value_held (IsReady b test) k all can.each)
