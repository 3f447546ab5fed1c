-- The pairs of a query under the key of a member are those that are written for its value, and those of a map are the map's.
use Rattle.std.proofs.Common.{◌≡◌, ℕ, Bool, true, false, ◌||◌, cond, List, [], ◌∷◌, ◌++◌, refl, sym, ap, ◌∙◌, subst, append-nil}
use Rattle.std.specs.Prelude.{IfSome, None, Option, Some}
use Rattle.std.specs.Str.{bytes_eq}
use Rattle.std.proofs.lemmas.Bool.{false_from_ne_true}
use Rattle.std.proofs.lemmas.Slice.Eq.{bytes_eq-Decides}
use Rattle.sm_tree.specs.declared.path.Step.{Step}
use Rattle.sm_tree.specs.declared.path.Step.TheVariants.{Key}
use Rattle.sm_shapes.specs.Fitting.{Test}
use Rattle.sm_shapes.specs.Places.{Place, member_place, value_place}
use Rattle.sm_shapes.specs.TableData.{BindingData, query, query_params}
use Rattle.sm_shapes.specs.Values.{EntryVals, FieldVals, Val, entry, map_val, no_entries}
use Rattle.sm_shapes.proofs.NamedMembers.{IsAmong}
use Rattle.sm_codec.specs.Named.{named}
use Rattle.sm_codec.specs.Written.{paths_under}
use Rattle.sm_codec.proofs.NoFaults.{none_behind, none_first}
use Rattle.sm_codec.proofs.WrittenValues.{none_of_paths}
use Rattle.sm_parts.specs.Targets.{QueryPair}
use Rattle.sm_part_values.specs.PartTexts.{in_target, is_list_at, keyed_by, map_or_none, query_children}
use Rattle.sm_part_values.specs.PartTexts as values
use Rattle.sm_part_texts.specs.CarriedTexts.{uncarried_query}
use Rattle.sm_part_texts.specs.PlaceTexts.{in_targets, keyed_texts, pairs_under, texts_at}
use Rattle.sm_bind_read.specs.bind.Roles.{Bound, binding_on, bound_members, is_among, is_taken_key, query_names}
use Rattle.sm_bind_read.specs.PartFaults.{bound_codec}
use Rattle.sm_bind_write.specs.CarriedParts.{params_failing, some_params_failing, uncarried_bound, uncarried_param, uncarried_params}
use Rattle.sm_bind_write.specs.WrittenParts.{entries_in, member_pairs, member_params, value_of, written_pairs, written_params}
use Rattle.sm_part_laws.specs.Coming.{AreCarried, ComeTo, HasEntries}
use Rattle.sm_part_laws.specs.Laws.{QueryRead}
use Rattle.sm_bind_laws.proofs.EachCarried.{CanBeRead, IsReady}
use Rattle.sm_bind_laws.proofs.FieldsEach.{at_most, each_map, over_none, over_only, over_through, value_held}
use Rattle.sm_bind_laws.proofs.MembersRead.{StandFor}
use Rattle.sm_bind_laws.proofs.OwnParts.{one_query, query_taken}

-- what stands under a name in two lists
pub named_both : {A : Type 0} (name : List ℕ) (xs ys : List (List ℕ × A)) → named name (xs ++ ys) ≡ named name xs ++ named name ys
named_both name [] ys = refl
named_both name (x ∷ xs) ys = by (bytes_eq x.0 name) (named_both name xs ys)
  where
    by : (t : Bool) → named name (xs ++ ys) ≡ named name xs ++ named name ys
        → cond t (x.1 ∷ named name (xs ++ ys)) (named name (xs ++ ys)) ≡ cond t (x.1 ∷ named name xs) (named name xs) ++ named name ys
    by true rest = ap (λ zs. x.1 ∷ zs) rest
    by false rest = rest

-- pairs under one key
under_other : (name key : List ℕ) (us : List (List ℕ)) → (key ≡ name → ⊥) → named name (pairs_under key us) ≡ []
under_other name key [] other = refl
under_other name key (u ∷ us) other =
    ap (λ t. cond t (u ∷ named name (pairs_under key us)) (named name (pairs_under key us)))
    (false_from_ne_true (bytes_eq key name) (λ e. other ((bytes_eq-Decides key name).0 e)))
    ∙ under_other name key us other

under_own : (name : List ℕ) (us : List (List ℕ)) → named name (pairs_under name us) ≡ us
under_own name [] = refl
under_own name (u ∷ us) =
    ap (λ t. cond t (u ∷ named name (pairs_under name us)) (named name (pairs_under name us))) ((bytes_eq-Decides name name).1 refl)
    ∙ ap (λ vs. u ∷ vs) (under_own name us)

no_true : (t : Bool) → t ≡ true → t ≡ false → ⊥
no_true t h g = cc

-- a query map that is carried
pub record IsFreeMap (b : Bound) (p : Place) (v : Val) : Type 0 where
  pub entries : EntryVals
  pub is_map : v ≡ map_val entries
  pub some : HasEntries entries
  pub none : params_failing b p entries ≡ []

entries_free : (b : Bound) (p : Place) (es : EntryVals) → some_params_failing b p es ≡ [] → HasEntries es × (params_failing b p es ≡ [])
entries_free b p no_entries h = absurd cc
entries_free b p (entry key v es) h = (tt, h)

pub free_map : (b : Bound) (p : Place) (v : Val) → uncarried_params b p v ≡ [] → IsFreeMap b p v
free_map b p (map_val es) h =
    let parts = entries_free b p es h in record { entries = es; is_map = refl; some = parts.0; none = parts.1 }
free_map b p v h = absurd cc

free_by : (taken : Bool) (paths : List (List Step)) → cond taken ([] ∷ []) paths ≡ [] → (taken ≡ false) × (paths ≡ [])
free_by true paths h = absurd cc
free_by false paths h = (refl, h)

module _ (b : Bound) (p : Place) where
  -- of an entry, and of those behind it
  pub entry_free : (key : List ℕ) (v : Val) (es : EntryVals) → params_failing b p (entry key v es) ≡ []
      → ((is_taken_key b key ≡ false) × (uncarried_query b.table p v ≡ [])) × (params_failing b p es ≡ [])
  entry_free key v es h =
      let own = uncarried_param b p key v in
      let here = paths_under (Key key) own in
      let rest = params_failing b p es in (
        free_by (is_taken_key b key) (uncarried_query b.table p v)
            (none_of_paths (Key key) own (none_first here rest h)),
        none_behind here rest h,
      )

  pub each_query : (es : EntryVals) → params_failing b p es ≡ [] → AreCarried (uncarried_query b.table p) es
  each_query no_entries h = tt
  each_query (entry key v es) h = let parts = entry_free key v es h in (parts.0.1, each_query es parts.1)

  -- no pair of a map has a key that is taken
  map_other : (name : List ℕ) (es : EntryVals) → is_taken_key b name ≡ true → params_failing b p es ≡ []
      → named name (keyed_texts b.table p es) ≡ []
  map_other name no_entries taken h = refl
  map_other name (entry key v es) taken h =
      let parts = entry_free key v es h in
      named_both name (pairs_under key (texts_at in_targets b.table p v)) (keyed_texts b.table p es)
      ∙ ap (λ us. us ++ named name (keyed_texts b.table p es))
      (under_other name key (texts_at in_targets b.table p v)
      (λ same. no_true (is_taken_key b name) taken (subst (λ u. is_taken_key b u ≡ false) same parts.0.0)))
      ∙ map_other name es taken parts.1

pub or_second : (x y : Bool) → y ≡ true → (x || y) ≡ true
or_second true y h = refl
or_second false y h = h

none_texts : (z : Bool) (b : Bound) (test : Test) → values.texts_by z in_target (bound_codec b test) [] ≡ []
none_texts true b test = refl
none_texts false b test = refl

module _ (b : Bound) (test : Test) (labels : List (List ℕ)) (fs : FieldVals) (can : CanBeRead b test labels fs) where
  abbrev members : List ℕ
  members = bound_members b

  -- of a member of a query
  module _ (k : ℕ) (name : List ℕ) (there : IsAmong k members) (bound : binding_on b k ≡ Some (query name)) where
    abbrev pair_texts : ℕ → Val → List (List ℕ)
    pair_texts j w = named name (member_pairs (binding_on b j) b.table j w)

    abbrev map_texts : ℕ → Val → List (List ℕ)
    map_texts j w = named name (member_params (binding_on b j) b.table j w)

    other_pairs : (j : ℕ) (w : Val) → IsAmong j members → (j ≡ k → ⊥) → (o : Option BindingData) → binding_on b j ≡ o
        → named name (member_pairs o b.table j w) ≡ []
    other_pairs j w i other (Some (query key)) e =
        under_other name key (texts_at in_targets b.table (member_place j) w)
        (λ same. other (one_query b test labels can.right j k key name i there e bound same))
    other_pairs j w i other o e = refl

    name_taken : is_taken_key b name ≡ true
    name_taken =
        or_second (is_among b.literals name) (is_among (query_names b) name) (query_taken b test labels can.right k name there bound)

    map_pairs : (j : ℕ) (w : Val) → IsReady b test j w → (o : Option BindingData) → binding_on b j ≡ o
        → named name (member_params o b.table j w) ≡ []
    map_pairs j w ready (Some query_params) e =
        let place = value_place b.table (member_place j) in
        let free = free_map b place w (subst (λ o. uncarried_bound o b j w ≡ []) e ready.carried) in
        ap (λ v. named name (keyed_texts b.table place (entries_in v))) free.is_map
        ∙ map_other b place name free.entries name_taken free.none
    map_pairs j w ready o e = refl

    own_pairs : (o : Option Val) → at_most (pair_texts k) o ≡ at_most (texts_at in_targets b.table (member_place k)) o
    own_pairs None = refl
    own_pairs (Some v) =
        ap (λ x. named name (member_pairs x b.table k v)) bound ∙ under_own name (texts_at in_targets b.table (member_place k) v)

    pub query_found : named name (written_pairs b fs ++ written_params b fs)
        ≡ at_most (texts_at in_targets b.table (member_place k)) (value_of k fs)
    query_found =
        let others = each_map (IsReady b test) (λ j w. (j ≡ k → ⊥) → pair_texts j w ≡ [])
        (λ j w ready other. other_pairs j w ready.among other (binding_on b j) refl) fs can.each in
        let none = each_map (IsReady b test) (λ j w. map_texts j w ≡ [])
        (λ j w ready. map_pairs j w ready (binding_on b j) refl) fs can.each in
        named_both name (written_pairs b fs) (written_params b fs)
        ∙ ap (λ us. us ++ named name (written_params b fs))
        (over_through (named name) refl (named_both name) (λ j. member_pairs (binding_on b j) b.table j) fs
        ∙ over_only pair_texts k fs can.apart others ∙ own_pairs (value_of k fs))
        ∙ ap (λ us. at_most (texts_at in_targets b.table (member_place k)) (value_of k fs) ++ us)
        (over_through (named name) refl (named_both name) (λ j. member_params (binding_on b j) b.table j) fs ∙ over_none map_texts fs none)
        ∙ append-nil (at_most (texts_at in_targets b.table (member_place k)) (value_of k fs))

    read_by : QueryRead → (o : Option Val) (us : List (List ℕ)) → us ≡ at_most (texts_at in_targets b.table (member_place k)) o
        → IfSome o (IsReady b test k)
        → StandFor k o (values.texts_by (is_list_at (bound_codec b test) (member_place k)) in_target (bound_codec b test) us)
    read_by law None us e ready =
        ap (values.texts_by (is_list_at (bound_codec b test) (member_place k)) in_target (bound_codec b test)) e
        ∙ none_texts (is_list_at (bound_codec b test) (member_place k)) b test
    read_by law (Some v) us e ready =
        subst (λ ts. ComeTo (member_place k) v (values.texts_by (is_list_at (bound_codec b test) (member_place k)) in_target
        (bound_codec b test) ts))
        (sym e) (law (bound_codec b test) (member_place k) v ready.fits (subst (λ o. uncarried_bound o b k v ≡ []) bound ready.carried))

    pub query_read : QueryRead → (pairs : List QueryPair) → pairs ≡ written_pairs b fs ++ written_params b fs
        → StandFor k (value_of k fs) (query_children (bound_codec b test) k name pairs)
    query_read law pairs e =
        read_by law (value_of k fs) (named name pairs) (ap (named name) e ∙ query_found) (value_held (IsReady b test) k fs can.each)
