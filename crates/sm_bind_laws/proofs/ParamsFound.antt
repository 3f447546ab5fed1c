-- The pairs that a query map takes are those that are written for its entries.
use Rattle.std.proofs.Common.{◌≡◌, ℕ, Bool, true, false, ◌&&◌, List, [], ◌∷◌, ◌++◌, cond, filter, refl, sym, ap, ◌∙◌, subst}
use Rattle.std.specs.Prelude.{IfSome, IsUtf8, None, Option, Some, not}
use Rattle.std.specs.Str.{is_utf8}
use Rattle.std.proofs.lemmas.List.Elements.{filter-append}
use Rattle.std.proofs.lemmas.Str.{is_utf8-from_IsUtf8}
use Rattle.sm_shapes.specs.Fitting.{FitPairs, Fits, IsOfKind, Test}
use Rattle.sm_shapes.specs.Places.{Place, key_place, kind_of, member_place, value_place}
use Rattle.sm_shapes.specs.TableData.{BindingData, query, query_params}
use Rattle.sm_shapes.specs.Values.{EntryVals, FieldVals, Val, entry, map_val, no_entries, text_val}
use Rattle.sm_shapes.specs.declared.kinds.ShapeKind.{ShapeKind}
use Rattle.sm_shapes.specs.declared.kinds.ShapeKind.TheVariants as kind
use Rattle.sm_shapes.proofs.NamedMembers.{IsAmong}
use Rattle.sm_parts.specs.Targets.{QueryPair}
use Rattle.sm_part_values.specs.PartTexts.{in_target, is_list_at, keyed_by, map_or_none}
use Rattle.sm_part_texts.specs.PlaceTexts.{in_targets, keyed_texts, pairs_under, texts_at}
use Rattle.sm_bind_read.specs.bind.Roles.{Bound, binding_on, bound_members, is_among, is_taken_key, query_names}
use Rattle.sm_bind_read.specs.PartFaults.{bound_codec}
use Rattle.sm_bind_read.specs.Parts.{is_of_map, params_children}
use Rattle.sm_bind_write.specs.CarriedParts.{params_failing, uncarried_bound}
use Rattle.sm_bind_write.specs.WrittenParts.{entries_in, member_pairs, member_params, value_of, written_pairs, written_params}
use Rattle.sm_part_laws.specs.Coming.{ComeTo}
use Rattle.sm_part_laws.specs.Laws.{QueryMapRead}
use Rattle.sm_bind_laws.proofs.EachCarried.{CanBeRead, IsReady}
use Rattle.sm_bind_laws.proofs.FieldsEach.{at_most, each_map, over_none, over_only, over_through, value_held}
use Rattle.sm_bind_laws.proofs.MembersRead.{StandFor}
use Rattle.sm_bind_laws.proofs.OwnParts.{one_params, query_taken}
use Rattle.sm_bind_laws.proofs.QueriesFound.{each_query, entry_free, free_map, or_second}

-- keys are texts
key_utf8 : (k : ShapeKind) (u : List ℕ) → IsOfKind k (text_val u) → IsUtf8 u
key_utf8 kind.Text u h = h
key_utf8 kind.Enum u h = h
key_utf8 k u h = absurd h

taken_out : (z : Bool) → (z && false) ≡ false
taken_out true = refl
taken_out false = refl

module _ (b : Bound) where
  -- pairs under one key, all in the map or none
  none_kept : (key : List ℕ) (us : List (List ℕ)) → is_taken_key b key ≡ true → filter (is_of_map b) (pairs_under key us) ≡ []
  none_kept key [] taken = refl
  none_kept key (u ∷ us) taken =
      ap (λ t. cond t ((key, u) ∷ filter (is_of_map b) (pairs_under key us)) (filter (is_of_map b) (pairs_under key us)))
      (ap (λ t. is_utf8 key && not t) taken ∙ taken_out (is_utf8 key))
      ∙ none_kept key us taken

  all_kept : (key : List ℕ) (us : List (List ℕ)) → is_utf8 key ≡ true → is_taken_key b key ≡ false
      → filter (is_of_map b) (pairs_under key us) ≡ pairs_under key us
  all_kept key [] text free = refl
  all_kept key (u ∷ us) text free =
      ap (λ t. cond t ((key, u) ∷ filter (is_of_map b) (pairs_under key us)) (filter (is_of_map b) (pairs_under key us)))
      (ap (λ t. t && not (is_taken_key b key)) text ∙ ap not free)
      ∙ ap (λ ps. (key, u) ∷ ps) (all_kept key us text free)

  map_kept : (test : Test) (p : Place) (es : EntryVals) → FitPairs b.table test p es → params_failing b (value_place b.table p) es ≡ []
      → filter (is_of_map b) (keyed_texts b.table (value_place b.table p) es) ≡ keyed_texts b.table (value_place b.table p) es
  map_kept test p no_entries fits h = refl
  map_kept test p (entry key v es) fits h =
      let q = value_place b.table p in
      let own = pairs_under key (texts_at in_targets b.table q v) in
      let rest = keyed_texts b.table q es in
      let parts = entry_free b q key v es h in
      let text = is_utf8-from_IsUtf8 key (key_utf8 (kind_of b.table (key_place b.table p)) key fits.0) in
      filter-append (is_of_map b) own rest
      ∙ ap (λ ps. ps ++ filter (is_of_map b) rest) (all_kept key (texts_at in_targets b.table q v) text parts.0.0)
      ∙ ap (λ ps. own ++ ps) (map_kept test p es fits.3 parts.1)

no_pairs : (z : Bool) (b : Bound) (test : Test) → map_or_none (bound_codec b test) (keyed_by z in_target (bound_codec b test) []) ≡ []
no_pairs true b test = refl
no_pairs false b test = refl

module _ (b : Bound) (test : Test) (labels : List (List ℕ)) (fs : FieldVals) (can : CanBeRead b test labels fs) where
  abbrev members : List ℕ
  members = bound_members b

  abbrev of_map : List QueryPair → List QueryPair
  of_map pairs = filter (is_of_map b) pairs

  module _ (k : ℕ) (there : IsAmong k members) (bound : binding_on b k ≡ Some query_params) where
    abbrev place : Place
    place = value_place b.table (member_place k)

    abbrev query_pairs : ℕ → Val → List QueryPair
    query_pairs j w = of_map (member_pairs (binding_on b j) b.table j w)

    abbrev map_pairs : ℕ → Val → List QueryPair
    map_pairs j w = of_map (member_params (binding_on b j) b.table j w)

    no_queries : (j : ℕ) (w : Val) → IsAmong j members → (o : Option BindingData) → binding_on b j ≡ o
        → of_map (member_pairs o b.table j w) ≡ []
    no_queries j w i (Some (query key)) e =
        none_kept b key (texts_at in_targets b.table (member_place j) w)
        (or_second (is_among b.literals key) (is_among (query_names b) key) (query_taken b test labels can.right j key i e))
    no_queries j w i o e = refl

    other_maps : (j : ℕ) (w : Val) → IsAmong j members → (j ≡ k → ⊥) → (o : Option BindingData) → binding_on b j ≡ o
        → of_map (member_params o b.table j w) ≡ []
    other_maps j w i other (Some query_params) e = absurd (other (one_params b test labels can.right j k i there e bound))
    other_maps j w i other o e = refl

    map_by : (v : Val) → Fits b.table test (member_place k) v → (es : EntryVals) → v ≡ map_val es → params_failing b place es ≡ []
        → of_map (keyed_texts b.table place (entries_in v)) ≡ keyed_texts b.table place (entries_in v)
    map_by v fits es is none =
        subst (λ w. of_map (keyed_texts b.table place (entries_in w)) ≡ keyed_texts b.table place (entries_in w)) (sym is)
        (map_kept b test (member_place k) es (fit_pairs (subst (Fits b.table test (member_place k)) is fits)) none)
      where
        fit_pairs : Fits b.table test (member_place k) (map_val es) → FitPairs b.table test (member_place k) es
        fit_pairs h = h.3

    own_map : (o : Option Val) → IfSome o (IsReady b test k)
        → at_most (map_pairs k) o ≡ at_most (λ v. keyed_texts b.table place (entries_in v)) o
    own_map None ready = refl
    own_map (Some v) ready =
        let free = free_map b place v (subst (λ o. uncarried_bound o b k v ≡ []) bound ready.carried) in
        ap (λ x. of_map (member_params x b.table k v)) bound ∙ map_by v ready.fits free.entries free.is_map free.none

    pub params_found : of_map (written_pairs b fs ++ written_params b fs)
        ≡ at_most (λ v. keyed_texts b.table place (entries_in v)) (value_of k fs)
    params_found =
        let none = each_map (IsReady b test) (λ j w. query_pairs j w ≡ [])
        (λ j w ready. no_queries j w ready.among (binding_on b j) refl) fs can.each in
        let others = each_map (IsReady b test) (λ j w. (j ≡ k → ⊥) → map_pairs j w ≡ [])
        (λ j w ready other. other_maps j w ready.among other (binding_on b j) refl) fs can.each in
        filter-append (is_of_map b) (written_pairs b fs) (written_params b fs)
        ∙ ap (λ ps. ps ++ of_map (written_params b fs))
        (over_through of_map refl (filter-append (is_of_map b)) (λ j. member_pairs (binding_on b j) b.table j) fs
        ∙ over_none query_pairs fs none)
        ∙ over_through of_map refl (filter-append (is_of_map b)) (λ j. member_params (binding_on b j) b.table j) fs
        ∙ over_only map_pairs k fs can.apart others ∙ own_map (value_of k fs) (value_held (IsReady b test) k fs can.each)

    read_by : QueryMapRead → (o : Option Val) (pairs : List QueryPair) → pairs ≡ at_most (λ v. keyed_texts b.table place (entries_in v)) o
        → IfSome o (IsReady b test k)
        → StandFor k o (map_or_none (bound_codec b test) (keyed_by (is_list_at (bound_codec b test) place) in_target
        (bound_codec b test) pairs))
    read_by law None pairs e ready =
        ap (λ ps. map_or_none (bound_codec b test) (keyed_by (is_list_at (bound_codec b test) place) in_target (bound_codec b test) ps)) e
        ∙ no_pairs (is_list_at (bound_codec b test) place) b test
    read_by law (Some v) pairs e ready =
        let c = bound_codec b test in
        let free = free_map b place v (subst (λ o. uncarried_bound o b k v ≡ []) bound ready.carried) in
        let here = e ∙ ap (λ w. keyed_texts b.table place (entries_in w)) free.is_map in
        subst (λ ps. ComeTo (member_place k) v (map_or_none c (keyed_by (is_list_at c place) in_target c ps))) (sym here)
        (subst (λ w. ComeTo (member_place k) w
        (map_or_none c (keyed_by (is_list_at c place) in_target c (keyed_texts b.table place free.entries)))) (sym free.is_map)
        (law c (member_place k) free.entries (subst (Fits b.table test (member_place k)) free.is_map ready.fits) free.some
        (each_query b place free.entries free.none)))

    pub params_read : QueryMapRead → (pairs : List QueryPair) → pairs ≡ written_pairs b fs ++ written_params b fs
        → StandFor k (value_of k fs) (params_children b (bound_codec b test) k pairs)
    params_read law pairs e =
        read_by law (value_of k fs) (of_map pairs) (ap of_map e ∙ params_found) (value_held (IsReady b test) k fs can.each)
