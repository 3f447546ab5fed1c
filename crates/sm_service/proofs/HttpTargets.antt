-- What rules allow a binding to target is what it may target in a table.
use Rattle.std.proofs.Common.{◌≡◌, ℕ, Bool, true, false, not, ◌&&◌, ◌||◌, List, [], ◌∷◌, map, Option, Some, refl, sym, ap, subst}
use Rattle.std.proofs.Common.{◌∙◌, arith}
use Rattle.std.specs.Prelude.{codes, is_some}
use Rattle.std.specs.List.{Contains, list_all, list_any}
use Rattle.std.specs.Option.{unwrap_or}
use Rattle.sm_model.specs.Formed.{HaveForm}
use Rattle.sm_model.specs.Graphs.{Entry, GraphMaps, ShapeEntry, member_id, shape_entry}
use Rattle.sm_model.specs.Kinds.{member_form}
use Rattle.sm_model.specs.Relations.{HasEntry}
use Rattle.sm_model.specs.declared.kind.Kind.{Kind}
use Rattle.sm_model.specs.declared.kind.Kind.TheVariants as model
use Rattle.sm_model.proofs.Worklist.{apart}
use Rattle.sm_shapes.specs.TableData.{BindingData, label, query, query_params, header, prefix_headers, payload, response_code}
use Rattle.sm_shapes.specs.declared.kinds.ShapeKind.{ShapeKind}
use Rattle.sm_compile.specs.Compiled.{members_in, members_under}
use Rattle.sm_compile.specs.Kinds.{has_values, may_target, members_of_kind, table_kind}
use Rattle.sm_compile.specs.Looked.{kind_in, target_in}
use Rattle.sm_compile.specs.Sound.{AreSoundMembers, IsSoundMember, trait_in, trait_of}
use Rattle.sm_compile.specs.TraitIds.{sparse_id}
use Rattle.sm_compile.proofs.SoundTests.{first_of, second_of}
use Rattle.sm_rules.specs.Bindings.{BoundSide, allows_target, an_error}
use Rattle.sm_rules.specs.Bindings.{an_input, an_output, bindings_of, have_strings_to, is_list_of, is_map_to, is_one_or_list, is_one_text}
use Rattle.sm_rules.specs.Bindings.{is_payload, is_string, passes, target_passes, targets}
use Rattle.sm_rules.specs.Ready.{Ready}
use Rattle.sm_rules.specs.TraitRows.{is_kind}
use Rattle.sm_rules.specs.Words.{IsService, has_trait}
use Rattle.sm_service.specs.WireMembers.{InnerSeen, have_string_keys, inner_of, is_bound_by, is_integer_kind, is_list_kind, is_map_kind}
use Rattle.sm_service.specs.WireMembers.{is_map_of, is_one_or_list_of, is_one_text_kind, is_payload_kind, is_string_kind, may_be_bound}
use Rattle.sm_service.specs.WireMembers.{trait_bound}
use Rattle.sm_service.specs.steps.WireSaid.{inner_under, kind_in_table, kind_said, target_seen_under, targeted}
use Rattle.sm_service.proofs.HttpWays.{IsKnown, known_target, sound_known}

-- kinds that pass a rule's test pass the table's
one_text : (k : Kind) → is_one_text k ≡ true → is_one_text_kind (table_kind k) ≡ true
one_text model.Text h = refl
one_text model.Enum h = refl
one_text model.Boolean h = refl
one_text model.Byte h = refl
one_text model.Short h = refl
one_text model.Integer h = refl
one_text model.Long h = refl
one_text model.IntEnum h = refl
one_text model.Timestamp h = refl
one_text k h = absurd (apart h)

one_string : (k : Kind) → is_string k ≡ true → is_string_kind (table_kind k) ≡ true
one_string model.Text h = refl
one_string k h = absurd (apart h)

one_payload : (k : Kind) → is_payload k ≡ true → is_payload_kind (table_kind k) ≡ true
one_payload model.Blob h = refl
one_payload model.Text h = refl
one_payload model.Enum h = refl
one_payload model.Structure h = refl
one_payload model.Union h = refl
one_payload model.List h = refl
one_payload model.Map h = refl
one_payload k h = absurd (apart h)

one_integer : (k : Kind) → is_kind model.Integer k ≡ true → is_integer_kind (table_kind k) ≡ true
one_integer model.Integer h = refl
one_integer k h = absurd (apart h)

list_kind : (k : Kind) → is_kind model.List k ≡ true → k ≡ model.List
list_kind model.List h = refl
list_kind k h = absurd (apart h)

map_kind : (k : Kind) → is_kind model.Map k ≡ true → k ≡ model.Map
map_kind model.Map h = refl
map_kind k h = absurd (apart h)

-- both parts
both : (a b : Bool) → a ≡ true → b ≡ true → (a && b) ≡ true
both true b h k = k
both false b h k = absurd (apart h)

either_left : (a b : Bool) → a ≡ true → (a || b) ≡ true
either_left true b h = refl
either_left false b h = absurd (apart h)

either_right : (a b : Bool) → b ≡ true → (a || b) ≡ true
either_right true b h = refl
either_right false b h = h

-- the kinds of what stands within
kinds_within : (g : GraphMaps) (ms : List (List ℕ))
    → map (λ (p : InnerSeen). p.kind) (map (λ m. inner_under g (targeted g m)) ms) ≡ map (λ m. kind_said g (targeted g m)) ms
kinds_within g [] = refl
kinds_within g (m ∷ ms) = ap (λ ks. kind_said g (targeted g m) ∷ ks) (kinds_within g ms)

inner_same : (g : GraphMaps) (id : List ℕ) → Path InnerSeen (inner_of (target_seen_under g id)) (inner_under g id)
inner_same g id =
    ap (λ (x : List ShapeKind). record { kind = kind_said g id; sparse = is_some (trait_of g id sparse_id); inner = x })
    (kinds_within g (members_under g id))

kind_is : (g : GraphMaps) (id : List ℕ) (s : ShapeEntry) → HasEntry g id (shape_entry s) → kind_said g id ≡ table_kind s.kind
kind_is g id s there = ap (λ o. kind_in_table (kind_in o)) there

sparse_is : (g : GraphMaps) (id : List ℕ) (s : ShapeEntry) → HasEntry g id (shape_entry s)
    → is_some (trait_of g id sparse_id) ≡ has_trait sparse_id s.traits
sparse_is g id s there = ap (λ o. is_some (trait_in sparse_id o)) there

members_are : (g : GraphMaps) (id : List ℕ) (s : ShapeEntry) → HasEntry g id (shape_entry s) → (kind : Kind)
    → s.kind ≡ kind → members_of_kind kind s.members ≡ s.members → members_under g id ≡ s.members
members_are g id s there kind is listed = ap members_in there ∙ ap (λ k. members_of_kind k s.members) is ∙ listed

aimed : (g : GraphMaps) (kind : Kind) (m : List ℕ) (x : IsSoundMember g kind m) → targeted g m ≡ x.m.target
aimed g kind m x = ap (λ o. unwrap_or (target_in o) []) x.there

-- the target of a member passes
target_test : (g : GraphMaps) (test : Option Entry → Bool) (kind : Kind) (m : List ℕ) (x : IsSoundMember g kind m) → targets test g m ≡ true
    → test (Some (shape_entry x.target)) ≡ true
target_test g test kind m x h = sym (ap test x.found) ∙ sym (ap (target_passes test g) x.there) ∙ h

module _ (g : GraphMaps) (test : Kind → Bool) (shown : ShapeKind → Bool) (same : (k : Kind) → test k ≡ true → shown (table_kind k) ≡ true)
  where
    one_passes : (kind : Kind) (m : List ℕ) (x : IsSoundMember g kind m) → targets (passes test) g m ≡ true
        → shown (kind_said g (targeted g m)) ≡ true
    one_passes kind m x h =
        ap shown (ap (kind_said g) (aimed g kind m x) ∙ kind_is g x.m.target x.target x.found)
        ∙ same x.target.kind (target_test g (passes test) kind m x h)

    all_pass : (kind : Kind) (ms : List (List ℕ)) → AreSoundMembers g kind ms → list_all (targets (passes test) g) ms ≡ true
        → list_all shown (map (λ m. kind_said g (targeted g m)) ms) ≡ true
    all_pass kind [] h all = refl
    all_pass kind (m ∷ ms) h all =
        both (shown (kind_said g (targeted g m))) (list_all shown (map (λ m. kind_said g (targeted g m)) ms))
        (one_passes kind m h.0 (first_of (targets (passes test) g m) (list_all (targets (passes test) g) ms) all))
        (all_pass kind ms h.1 (second_of (targets (passes test) g m) (list_all (targets (passes test) g) ms) all))

module _ (g : GraphMaps) (service : List ℕ) (is : IsService g service) (ready : Ready g service) where
  -- a list of such values, or one of them
  module _ (test : Kind → Bool) (shown : ShapeKind → Bool) (same : (k : Kind) → test k ≡ true → shown (table_kind k) ≡ true) where
    list_shown : (id : List ℕ) (s : ShapeEntry) → IsKnown g service id s → is_list_of g test (Some (shape_entry s)) ≡ true
        → (is_list_kind (inner_under g id).kind && (not (inner_under g id).sparse && list_all shown (inner_under g id).inner)) ≡ true
    list_shown id s k h =
        let rest = second_of (is_kind model.List s.kind) _ h in
        let kind = list_kind s.kind (first_of (is_kind model.List s.kind) _ h) in
        let all = second_of (not (has_trait sparse_id s.traits)) _ rest in
        both (is_list_kind (kind_said g id)) _ (ap is_list_kind (kind_is g id s k.there) ∙ ap (λ x. is_list_kind (table_kind x)) kind)
        (both (not (is_some (trait_of g id sparse_id))) _
        (ap not (sparse_is g id s k.there) ∙ first_of (not (has_trait sparse_id s.traits)) _ rest)
        (ap (λ ms. list_all shown (map (λ m. kind_said g (targeted g m)) ms)) (members_are g id s k.there model.List kind refl)
        ∙ all_pass g test shown same s.kind s.members (sound_known g service is ready id s k).each all))

    one_or_list : (id : List ℕ) (s : ShapeEntry) → IsKnown g service id s → is_one_or_list g test (Some (shape_entry s)) ≡ true
        → is_one_or_list_of shown (inner_under g id) ≡ true
    one_or_list id s k h = by (test s.kind) refl h
      where
        by : (b : Bool) → test s.kind ≡ b → (b || is_list_of g test (Some (shape_entry s))) ≡ true
            → is_one_or_list_of shown (inner_under g id) ≡ true
        by true one all =
            either_left (shown (kind_said g id)) _ (ap shown (kind_is g id s k.there) ∙ same s.kind one)
        by false one all = either_right (shown (kind_said g id)) _ (list_shown id s k all)

  -- a map to such values
  module _ (test : Option Entry → Bool) (shown : InnerSeen → Bool)
      (same : (id : List ℕ) (s : ShapeEntry) → IsKnown g service id s → test (Some (shape_entry s)) ≡ true
      → shown (inner_under g id) ≡ true)
    where
      values_of_map : (home k : Kind) (u : Bool) → home ≡ model.Map → may_target home u k ≡ true → has_values k ≡ true
      values_of_map home k u kind may = first_of (has_values k) (not u) (sym (ap (λ h. may_target h u k) kind) ∙ may)

      keys_shown : (id : List ℕ) (s : ShapeEntry) → IsKnown g service id s → s.kind ≡ model.Map → (ms : List (List ℕ)) → s.members ≡ ms
          → (key value : List ℕ) → ms ≡ key ∷ value ∷ [] → have_strings_to g test ms ≡ true
          → have_string_keys shown (map (λ m. inner_under g (targeted g m)) ms) ≡ true
      keys_shown id s k kind ms listed key value are h =
          let each : AreSoundMembers g s.kind (key ∷ value ∷ []) =
          subst (AreSoundMembers g s.kind) (listed ∙ are) (sound_known g service is ready id s k).each in
          let two : have_strings_to g test (key ∷ value ∷ []) ≡ true = sym (ap (have_strings_to g test) are) ∙ h in
          let x = each.1.0 in
          let among : Contains s.members value =
          subst (λ xs. Contains xs value) (sym (listed ∙ are)) (1, omega arith, refl) in
          let t = known_target g service is ready id s k value among x (values_of_map s.kind x.target.kind _ kind x.may_target) in
          ap (λ xs. have_string_keys shown (map (λ m. inner_under g (targeted g m)) xs)) are
          ∙ both (is_string_kind (kind_said g (targeted g key))) (shown (inner_under g (targeted g value)))
          (one_passes g is_string is_string_kind one_string s.kind key each.0
          (first_of (targets (passes is_string) g key) (targets test g value) two))
          (ap (λ i. shown (inner_under g i)) (aimed g s.kind value x)
          ∙ same x.m.target x.target t (target_test g test s.kind value x
          (second_of (targets (passes is_string) g key) (targets test g value) two)))

      map_shown : (id : List ℕ) (s : ShapeEntry) → IsKnown g service id s → is_map_to g test (Some (shape_entry s)) ≡ true
          → is_map_of shown (target_seen_under g id) ≡ true
      map_shown id s k h =
          let rest = second_of (is_kind model.Map s.kind) _ h in
          let kind = map_kind s.kind (first_of (is_kind model.Map s.kind) _ h) in
          let keys = second_of (not (has_trait sparse_id s.traits)) (have_strings_to g test s.members) rest in
          let sound = sound_known g service is ready id s k in
          let form : sound.names ≡ codes "key" ∷ codes "value" ∷ [] = subst (λ x. HaveForm (member_form x) sound.names) kind sound.form in
          let are = sound.members ∙ ap (map (member_id id)) form in
          both (is_map_kind (kind_said g id)) _ (ap is_map_kind (kind_is g id s k.there) ∙ ap (λ x. is_map_kind (table_kind x)) kind)
          (both (not (is_some (trait_of g id sparse_id))) _
          (ap not (sparse_is g id s k.there) ∙ first_of (not (has_trait sparse_id s.traits)) _ rest)
          (ap (λ ms. have_string_keys shown (map (λ m. inner_under g (targeted g m)) ms)) (members_are g id s k.there model.Map kind refl)
          ∙ keys_shown id s k kind s.members refl (member_id id (codes "key")) (member_id id (codes "value")) are keys))

  -- so a binding may have this target
  pub allowed : (b : BindingData) (id : List ℕ) (s : ShapeEntry) → IsKnown g service id s
      → allows_target g (trait_bound b) (Some (shape_entry s)) ≡ true → may_be_bound b (target_seen_under g id) ≡ true
  allowed label id s k h = ap is_one_text_kind (kind_is g id s k.there) ∙ one_text s.kind h
  allowed (query name) id s k h =
      ap (is_one_or_list_of is_one_text_kind) (inner_same g id) ∙ one_or_list is_one_text is_one_text_kind one_text id s k h
  allowed query_params id s k h =
      map_shown (is_one_or_list g is_string) (is_one_or_list_of is_string_kind) (one_or_list is_string is_string_kind one_string) id s k h
  allowed (header name) id s k h =
      ap (is_one_or_list_of is_one_text_kind) (inner_same g id) ∙ one_or_list is_one_text is_one_text_kind one_text id s k h
  allowed (prefix_headers prefix) id s k h =
      map_shown (passes is_string) (λ p. is_string_kind p.kind)
      (λ to t known passed. ap is_string_kind (kind_is g to t known.there) ∙ one_string t.kind passed) id s k h
  allowed payload id s k h = ap is_payload_kind (kind_is g id s k.there) ∙ one_payload s.kind h
  allowed response_code id s k h = ap is_integer_kind (kind_is g id s k.there) ∙ one_integer s.kind h

-- a binding that counts on a side is one of its bindings
pub counts_there : (side : BoundSide) (b : BindingData) → list_any (is_bound_by (Some b)) (bindings_of side) ≡ true
    → Contains (bindings_of side) (trait_bound b)
counts_there an_input label h = (0, omega arith, refl)
counts_there an_input (query name) h = (1, omega arith, refl)
counts_there an_input query_params h = (2, omega arith, refl)
counts_there an_input (header name) h = (3, omega arith, refl)
counts_there an_input (prefix_headers prefix) h = (4, omega arith, refl)
counts_there an_input payload h = (5, omega arith, refl)
counts_there an_input response_code h = absurd (apart h)
counts_there an_output (header name) h = (0, omega arith, refl)
counts_there an_output (prefix_headers prefix) h = (1, omega arith, refl)
counts_there an_output payload h = (2, omega arith, refl)
counts_there an_output response_code h = (3, omega arith, refl)
counts_there an_output label h = absurd (apart h)
counts_there an_output (query name) h = absurd (apart h)
counts_there an_output query_params h = absurd (apart h)
counts_there an_error (header name) h = (0, omega arith, refl)
counts_there an_error (prefix_headers prefix) h = (1, omega arith, refl)
counts_there an_error payload h = (2, omega arith, refl)
counts_there an_error label h = absurd (apart h)
counts_there an_error (query name) h = absurd (apart h)
counts_there an_error query_params h = absurd (apart h)
counts_there an_error response_code h = absurd (apart h)
