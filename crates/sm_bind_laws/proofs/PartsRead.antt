-- The parts that are written for a value are read again as that value.
use Rattle.std.proofs.Common.{◌≡◌, ℕ, List, refl, sym, ◌∙◌, subst}
use Rattle.std.specs.Prelude.{None, Ok, Option, Some}
use Rattle.sm_shapes.specs.Fitting.{IsOfKind, Test}
use Rattle.sm_shapes.specs.TableData.{BindingData, header, label, payload, prefix_headers, query, query_params, response_code}
use Rattle.sm_shapes.specs.Values.{FieldVals, blob_val, bool_val, int_val, list_val, map_val, null_val, structure_val, text_val, time_val}
use Rattle.sm_shapes.specs.Values.{union_val}
use Rattle.sm_shapes.specs.declared.kinds.ShapeKind.TheVariants as kind
use Rattle.sm_shapes.proofs.NamedMembers.{IsAmong}
use Rattle.sm_bind_read.specs.messages.MessageForm.{Content}
use Rattle.sm_part_texts.specs.Laws.{CarriedTextsPass}
use Rattle.sm_bind_read.specs.bind.PartsData.{PartsData}
use Rattle.sm_bind_read.specs.bind.Roles.{Bound, binding_on, bound_members}
use Rattle.sm_bind_read.specs.PartFaults.{bound_codec, parts_reading}
use Rattle.sm_bind_read.specs.Parts.{bound_children, stands}
use Rattle.sm_bind_write.specs.WrittenParts.{parts_of, value_of, written_content}
use Rattle.sm_part_laws.specs.Laws.{HeaderRead, LabelRead, PrefixedRead, QueryMapRead, QueryRead, RawBlobRead, RawTextRead, StatusRead}
use Rattle.sm_bind_laws.specs.FoundParts.{AreFound, IsReadAs}
use Rattle.sm_bind_laws.specs.Laws.{WrittenPartsRead}
use Rattle.sm_bind_laws.proofs.BodiesFound.{document_read, object_read, payload_read}
use Rattle.sm_bind_laws.proofs.EachCarried.{CanBeRead, among_all, can_be_read}
use Rattle.sm_bind_laws.proofs.HeadersFound.{header_read}
use Rattle.sm_bind_laws.proofs.LabelsFound.{label_read}
use Rattle.sm_bind_laws.proofs.MembersRead.{StandFor, structure_joined}
use Rattle.sm_bind_laws.proofs.ParamsFound.{params_read}
use Rattle.sm_bind_laws.proofs.PrefixesFound.{prefixed_read}
use Rattle.sm_bind_laws.proofs.QueriesFound.{query_read}
use Rattle.sm_bind_laws.proofs.StatusFound.{status_read}

-- what the laws below say of each part by itself
pub record PartLaws : Type 0 where
  pub texts_pass : CarriedTextsPass
  pub labels : LabelRead
  pub queries : QueryRead
  pub query_maps : QueryMapRead
  pub headers : HeaderRead
  pub prefixed : PrefixedRead
  pub blobs : RawBlobRead
  pub texts : RawTextRead
  pub statuses : StatusRead

module _ (laws : PartLaws) (b : Bound) (test : Test) (labels : List (List ℕ)) (fs : FieldVals) (usual : ℕ)
    (can : CanBeRead b test labels fs)
    (found : PartsData) (are : AreFound labels (parts_of b usual fs) found) (content : Content)
    (body : IsReadAs (written_content b (structure_val fs)) content) where
  -- member by member, by the binding that counts
  member_by : (k : ℕ) → IsAmong k (bound_members b) → (o : Option BindingData) → binding_on b k ≡ o
      → StandFor k (value_of k fs) (bound_children o b (bound_codec b test) found content k)
  member_by k i None e = document_read b test labels fs can k i e content body
  member_by k i (Some label) e = label_read b test labels fs can k i e laws.labels found.labels are.labels
  member_by k i (Some (query name)) e = query_read b test labels fs can k name i e laws.queries found.query are.query
  member_by k i (Some query_params) e = params_read b test labels fs can k i e laws.query_maps found.query are.query
  member_by k i (Some (header name)) e =
      header_read b test labels fs can k name i e laws.headers found.fields are.before are.behind are.fields are.first are.last
  member_by k i (Some (prefix_headers prefix)) e =
      prefixed_read laws.texts_pass b test labels fs can k prefix i e laws.prefixed found.fields are.before are.behind are.fields are.first
      are.last
  member_by k i (Some payload) e = payload_read b test labels fs can k i e laws.blobs laws.texts content body
  member_by k i (Some response_code) e = status_read b test labels fs can k i e usual laws.statuses found.status are.status

  pub structure_read : parts_reading b test found content ≡ Ok (structure_val fs)
  structure_read =
      structure_joined b test found content fs (object_read b fs content body) can.maybe
      (among_all (λ k. StandFor k (value_of k fs) (stands b (bound_codec b test) found content k)) (bound_members b)
      (λ k i. member_by k i (binding_on b k) refl)) can.again

not_list : kind.List ≡ kind.Structure → ⊥
not_list e = cc

not_map : kind.Map ≡ kind.Structure → ⊥
not_map e = cc

not_union : kind.Union ≡ kind.Structure → ⊥
not_union e = cc

-- a value that fits a structure is one
pub parts_again : PartLaws → WrittenPartsRead
parts_again laws b test labels usual null_val found content right fits carried are body = absurd fits
parts_again laws b test labels usual (bool_val z) found content right fits carried are body =
    absurd (subst (λ k. IsOfKind k (bool_val z)) right.kind fits.0)
parts_again laws b test labels usual (int_val z) found content right fits carried are body =
    absurd (subst (λ k. IsOfKind k (int_val z)) right.kind fits.0)
parts_again laws b test labels usual (text_val u) found content right fits carried are body =
    absurd (subst (λ k. IsOfKind k (text_val u)) right.kind fits.0)
parts_again laws b test labels usual (blob_val u) found content right fits carried are body =
    absurd (subst (λ k. IsOfKind k (blob_val u)) right.kind fits.0)
parts_again laws b test labels usual (time_val ms) found content right fits carried are body =
    absurd (subst (λ k. IsOfKind k (time_val ms)) right.kind fits.0)
parts_again laws b test labels usual (list_val vs) found content right fits carried are body = absurd (not_list (sym fits.0 ∙ right.kind))
parts_again laws b test labels usual (map_val es) found content right fits carried are body = absurd (not_map (sym fits.0 ∙ right.kind))
parts_again laws b test labels usual (structure_val fs) found content right fits carried are body =
    structure_read laws b test labels fs usual (can_be_read b test labels fs right fits.1 carried) found are content body
parts_again laws b test labels usual (union_val k v) found content right fits carried are body =
    absurd (not_union (sym fits.0 ∙ right.kind))
