-- What each rule may tell of an id: few details. And an id of which it tells stands in the graph, or a shape lists it.
use Rattle.std.proofs.Common.{◌≡◌, ◌⊎◌, inl, inr, ℕ, ℤ, Bool, true, false, cond, List, [], ◌∷◌, ◌++◌, Option, Some, refl, sym, ap, subst}
use Rattle.std.proofs.Common.{◌∙◌}
use Rattle.std.specs.Prelude.{codes}
use Rattle.std.specs.Fmt.{signed_decimal}
use Rattle.std.specs.List.{Contains, find}
use Rattle.std.proofs.lemmas.List.Elements.{Contains-append_left, Contains-append_right}
use Rattle.std.proofs.lemmas.Option.{none-some, same_Some}
use Rattle.sm_tree.specs.Node.{Members, Node, object}
use Rattle.sm_tree.specs.Parts.{pairs_in}
use Rattle.sm_tree.specs.Same.{HasName}
use Rattle.sm_model.specs.Graphs.{Entry, GraphMaps, MemberEntry, ShapeEntry, member_entry, member_id, shape_entry}
use Rattle.sm_model.specs.Relations.{HasEntry, IsInGraph}
use Rattle.sm_model.proofs.OneRising.{contains_behind, contains_head}
use Rattle.sm_compile.specs.Sound.{trait_of}
use Rattle.sm_compile.specs.TraitNodes.{field_of, number_of}
use Rattle.sm_compile.specs.TraitIds.{http_error_id}
use Rattle.sm_uri.specs.UriPattern.{UriSaid, UriText, label_names}
use Rattle.sm_rules.specs.Constraints.{HasWrongBounds}
use Rattle.sm_rules.specs.Http.{HasSameRoute, HasUri, HasWrongLabel, HasWrongStatusCode, IsLabelled, method_of, success_code_of}
use Rattle.sm_rules.specs.Http.{HasOtherMethod}
use Rattle.sm_rules.specs.Names.{RepeatsName, HasCaseTwin}
use Rattle.sm_rules.specs.Services.{HasWrongNames}
use Rattle.sm_rules.specs.Targets.{RefersToNothing, RefersToOther}
use Rattle.sm_rules.specs.Traits.{CarriesTwice, single_traits}
use Rattle.sm_rules.specs.WireNames.{HasWireNameAgain, header_name, name_in_json, query_name}
use Rattle.sm_rules.specs.Words.{IsListedBehind, IsOperation, read_trait}
use Rattle.sm_compile.proofs.OneWay.{one_name}
use Rattle.sm_uri.proofs.UriOnce.{one_uri}
use Rattle.sm_load.proofs.Few.{AreFew, few_among, few_by, few_either, few_is, few_one, few_same, few_some}
use Rattle.sm_load.proofs.FewIds.{IsListedBy, IsListedSome, Says, few_entries_there, few_listed, few_names, few_said, few_shape_there}
use Rattle.sm_load.proofs.FewIds.{few_shapes, few_traits}

-- what is found is there
found_there : (test : List ℕ → Bool) (ids : List (List ℕ)) (id : List ℕ) → find test ids ≡ Some id → Contains ids id
found_there test [] id h = absurd (none-some id h)
found_there test (x ∷ xs) id h = by (test x) h (λ k. found_there test xs id k)
  where
    by : (b : Bool) → cond b (Some x) (find test xs) ≡ Some id → (find test xs ≡ Some id → Contains xs id) → Contains (x ∷ xs) id
    by true k later = subst (Contains (x ∷ xs)) (same_Some x id k) (contains_head x xs)
    by false k later = contains_behind x id xs (later k)

module _ (g : GraphMaps) where
  -- a shape, and what it lists
  pub listed : (shape : List ℕ) (s : ShapeEntry) (before : List (List ℕ)) (id : List ℕ) → IsListedBehind g shape s before id
      → IsListedSome g id
  listed shape s before id h =
      let there : Contains (before ++ id ∷ h.later) id =
      Contains-append_right before (id ∷ h.later) id (contains_head id h.later) in
      (shape, (shape_entry s, h.home.0), (s, h.home.0, subst (λ ids. Contains ids id) (sym h.members) there))

  listed_before : (shape : List ℕ) (s : ShapeEntry) (before : List (List ℕ)) (id other : List ℕ) → IsListedBehind g shape s before id
      → Contains before other → Contains s.members other
  listed_before shape s before id other h there =
      subst (λ ids. Contains ids other) (sym h.members) (Contains-append_left before (id ∷ h.later) other there)

  pub operation_there : (id : List ℕ) → IsOperation g id → IsInGraph g id
  operation_there id h = (shape_entry h.0, h.1.0)

  -- what bears this name in this shape
  few_called : (shape other : List ℕ) → AreFew (λ name. other ≡ member_id shape name)
  few_called shape other = few_one (λ name. other ≡ member_id shape name) (λ x y h k. one_name shape x y (sym h ∙ k))

  -- ids and names
  pub few_twins : (id : List ℕ) → AreFew (HasCaseTwin g id)
  few_twins id =
      few_same (IsInGraph g) (HasCaseTwin g id) (λ other h. (shape_entry h.least.holds.s, h.least.holds.own.0)) (few_shapes g)

  abbrev IsNameOf : List ℕ → List ℕ → Type 0
  IsNameOf shape name = (other : List ℕ) × IsListedBy g shape other × (other ≡ member_id shape name)

  few_member_names : (shape : List ℕ) → AreFew (IsNameOf shape)
  few_member_names shape =
      few_by (IsListedBy g shape) (λ other name. other ≡ member_id shape name) (few_listed g shape) (few_called shape)

  pub few_repeats : (id : List ℕ) → AreFew (RepeatsName g id)
  few_repeats id =
      few_same (λ name. (shape : List ℕ) × IsInGraph g shape × IsNameOf shape name) (RepeatsName g id)
      (λ name h. (h.shape, (shape_entry h.s, h.behind.home.0), (member_id h.shape name, (h.s, h.behind.home.0, there name h), refl)))
      (few_by (IsInGraph g) IsNameOf (few_shapes g) few_member_names)
    where
      there : (name : List ℕ) (h : RepeatsName g id name) → Contains h.s.members (member_id h.shape name)
      there name h =
          listed_before h.shape h.s h.before id (member_id h.shape name) h.behind (found_there _ h.before (member_id h.shape name) h.first)

  -- references
  pub few_missing : (id : List ℕ) → AreFew (RefersToNothing g id)
  few_missing id =
      few_same (λ to. (e : Entry) × HasEntry g id e × Says e to) (RefersToNothing g id)
      (λ to h. (h.refers.e, h.refers.own.0, (h.refers.relation, h.refers.says)))
      (few_by (HasEntry g id) Says (few_entries_there g id) few_said)

  pub few_others : (id : List ℕ) → AreFew (RefersToOther g id)
  few_others id = few_same (IsInGraph g) (RefersToOther g id) there (few_shapes g)
    where
      there : (to : List ℕ) → RefersToOther g id to → IsInGraph g to
      there to (RefersToOther.by_member h) = (h.e, h.there)
      there to (RefersToOther.by_body h) = (h.e, h.there)

  -- traits
  pub few_carried : (F : List ℕ → Type 0) (id : List ℕ) → ((trait : List ℕ) → F trait → (n : Node) × (trait_of g id trait ≡ Some n))
      → AreFew F
  few_carried F id carries = few_same (λ trait. (n : Node) × (trait_of g id trait ≡ Some n)) F carries (few_traits g id)

  pub few_single : (id : List ℕ) → AreFew (CarriesTwice g id)
  few_single id = few_same (Contains single_traits) (CarriesTwice g id) (λ trait h. h.among) (few_among single_traits)

  -- nothing more is told
  pub few_empty : (F : List ℕ → Type 0) → ((detail : List ℕ) → F detail → detail ≡ []) → AreFew F
  few_empty F is = few_same (λ detail. detail ≡ []) F is (few_is [])

  pub few_bounds : (id : List ℕ) → AreFew (HasWrongBounds g id)
  few_bounds id =
      few_same (λ detail. (detail ≡ codes "length") ⊎ (detail ≡ codes "range")) (HasWrongBounds g id) either
      (few_either (λ detail. detail ≡ codes "length") (λ detail. detail ≡ codes "range") (few_is (codes "length")) (few_is (codes "range")))
    where
      either : (detail : List ℕ) → HasWrongBounds g id detail → (detail ≡ codes "length") ⊎ (detail ≡ codes "range")
      either detail (HasWrongBounds.wrong_length n own reads wrong is) = inl is
      either detail (HasWrongBounds.wrong_range n own reads wrong is) = inr is

  -- names in a closure
  abbrev IsRenamed : ShapeEntry → List ℕ → Type 0
  IsRenamed v id = (pairs : Members) × (field_of (codes "rename") v.properties ≡ Some (object pairs)) × HasName id pairs

  few_pairs : (o : Option Node) → AreFew (λ pairs. o ≡ Some (object pairs))
  few_pairs o =
      few_one (λ pairs. o ≡ Some (object pairs))
      (λ x y h k. same_Some x y (ap pairs_in (same_Some (object x) (object y) (sym h ∙ k))))

  few_renamed : (v : ShapeEntry) → AreFew (IsRenamed v)
  few_renamed v =
      few_by (λ pairs. field_of (codes "rename") v.properties ≡ Some (object pairs)) (λ pairs id. HasName id pairs)
      (few_pairs (field_of (codes "rename") v.properties)) few_names

  abbrev IsRenamedBy : List ℕ → List ℕ → Type 0
  IsRenamedBy service id = (v : ShapeEntry) × HasEntry g service (shape_entry v) × IsRenamed v id

  pub few_wrong_names : (service : List ℕ) → AreFew (HasWrongNames g service)
  few_wrong_names service =
      few_same (λ id. IsInGraph g id ⊎ IsRenamedBy service id) (HasWrongNames g service) either
      (few_either (IsInGraph g) (IsRenamedBy service) (few_shapes g)
      (few_by (λ v. HasEntry g service (shape_entry v)) IsRenamed (few_shape_there g service) few_renamed))
    where
      either : (id : List ℕ) → HasWrongNames g service id → IsInGraph g id ⊎ IsRenamedBy service id
      either id (HasWrongNames.name_again h) = inl (shape_entry h.named.s, h.named.own.0)
      either id (HasWrongNames.wrong_rename h) = inr (h.v, h.own.0, (h.pairs, h.rename, h.among))

  -- labels
  few_uris : (operation : List ℕ) → AreFew (HasUri g operation)
  few_uris operation = few_one (HasUri g operation) (λ u v h k. one_uri u v h.t h.spells (subst (UriText v) (same u v h k) k.spells))
    where
      same : (u v : UriSaid) (h : HasUri g operation u) (k : HasUri g operation v) → k.t ≡ h.t
      same u v h k = same_Some k.t h.t (sym k.said ∙ h.said)

  abbrev IsLabel : UriSaid → List ℕ → Type 0
  IsLabel u name = Contains (label_names u.segments) name

  -- a name of what stands in the graph
  abbrev IsMemberName : List ℕ → List ℕ → Type 0
  IsMemberName shape name = (other : List ℕ) × IsInGraph g other × (other ≡ member_id shape name)

  few_there_names : (shape : List ℕ) → AreFew (IsMemberName shape)
  few_there_names shape = few_by (IsInGraph g) (λ other name. other ≡ member_id shape name) (few_shapes g) (few_called shape)

  abbrev IsLabelOf : List ℕ → List ℕ → Type 0
  IsLabelOf operation name = (u : UriSaid) × HasUri g operation u × IsLabel u name

  abbrev IsNameThere : List ℕ → Type 0
  IsNameThere name = (shape : List ℕ) × IsInGraph g shape × IsMemberName shape name

  pub few_labels : (operation : List ℕ) → AreFew (HasWrongLabel g operation)
  few_labels operation =
      few_same (λ name. IsLabelOf operation name ⊎ IsNameThere name) (HasWrongLabel g operation) either
      (few_either (IsLabelOf operation) IsNameThere
      (few_by (HasUri g operation) IsLabel (few_uris operation) (λ u. few_among (label_names u.segments)))
      (few_by (IsInGraph g) IsMemberName (few_shapes g) few_there_names))
    where
      bound : (input name : List ℕ) (m : MemberEntry) → IsLabelled g input name m → IsNameThere name
      bound input name m h =
          (input, (shape_entry h.s, h.member.home.0), (member_id input name, (member_entry m, h.member.there), refl))

      either : (name : List ℕ) → HasWrongLabel g operation name → IsLabelOf operation name ⊎ IsNameThere name
      either name (HasWrongLabel.no_member u input takes among none) = inl (u, takes.uri, among)
      either name (HasWrongLabel.no_label u input takes has none) = inr (bound input name has.0 has.1)
      either name (HasWrongLabel.not_required u input takes m has not) = inr (bound input name m has)
      either name (HasWrongLabel.greedy_target u input takes m has among wrong) = inr (bound input name m has)

  -- names in messages
  abbrev IsJsonName : List ℕ → List ℕ → List ℕ → Type 0
  IsJsonName id shape name = name_in_json g shape id ≡ Some name

  abbrev InJson : List ℕ → List ℕ → Type 0
  InJson id name = (shape : List ℕ) × IsInGraph g shape × IsJsonName id shape name

  pub few_again : (id : List ℕ) → AreFew (HasWireNameAgain g id)
  few_again id =
      few_same (λ name. (header_name g id ≡ Some name) ⊎ ((query_name g id ≡ Some name) ⊎ InJson id name)) (HasWireNameAgain g id) either
      (few_either (λ name. header_name g id ≡ Some name) (λ name. (query_name g id ≡ Some name) ⊎ InJson id name)
      (few_some (header_name g id))
      (few_either (λ name. query_name g id ≡ Some name) (InJson id) (few_some (query_name g id))
      (few_by (IsInGraph g) (IsJsonName id) (few_shapes g) (λ shape. few_some (name_in_json g shape id)))))
    where
      either : (name : List ℕ) → HasWireNameAgain g id name
          → (header_name g id ≡ Some name) ⊎ ((query_name g id ≡ Some name) ⊎ InJson id name)
      either name (HasWireNameAgain.header_again side shape s on h) = inl h.is
      either name (HasWireNameAgain.query_again shape s on h) = inr (inl h.is)
      either name (HasWireNameAgain.json_again shape s kind h) = inr (inr (shape, (shape_entry s, h.behind.home.0), h.is))
      either name (HasWireNameAgain.has_prefix side shape s on h) = inl h.is

  -- operations
  pub few_routes : (operation : List ℕ) → AreFew (HasSameRoute g operation)
  few_routes operation =
      few_same (IsInGraph g) (HasSameRoute g operation) (λ other h. operation_there other h.smaller_uri.is_operation) (few_shapes g)

  few_printed : (o : Option ℤ) → AreFew (λ detail. (z : ℤ) × (o ≡ Some z) × (detail ≡ signed_decimal z))
  few_printed o = few_by (λ z. o ≡ Some z) (λ z detail. detail ≡ signed_decimal z) (few_some o) (λ z. few_is (signed_decimal z))

  abbrev IsCode : Option ℤ → List ℕ → Type 0
  IsCode o detail = (z : ℤ) × (o ≡ Some z) × (detail ≡ signed_decimal z)

  abbrev status_of : List ℕ → Option ℤ
  status_of id = number_of (read_trait g id http_error_id)

  pub few_codes : (id : List ℕ) → AreFew (HasWrongStatusCode g id)
  few_codes id =
      few_same (λ detail. IsCode (success_code_of g id) detail ⊎ IsCode (status_of id) detail) (HasWrongStatusCode g id) either
      (few_either (IsCode (success_code_of g id)) (IsCode (status_of id)) (few_printed (success_code_of g id)) (few_printed (status_of id)))
    where
      either : (detail : List ℕ) → HasWrongStatusCode g id detail → IsCode (success_code_of g id) detail ⊎ IsCode (status_of id) detail
      either detail (HasWrongStatusCode.wrong_code z h is) = inl (z, h.said, is)
      either detail (HasWrongStatusCode.wrong_status z h is) = inr (z, h.said, is)

  pub few_methods : (operation : List ℕ) → AreFew (HasOtherMethod g operation)
  few_methods operation =
      few_same (λ method. method_of g operation ≡ Some method) (HasOtherMethod g operation) (λ method h. h.said)
      (few_some (method_of g operation))
