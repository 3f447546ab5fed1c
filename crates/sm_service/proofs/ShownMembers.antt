-- The table of a service shows to HTTP bindings the list of members that the graph shows.
use Rattle.std.proofs.Common.{◌≡◌, ℕ, zero, suc, ◌<◌, Bool, List, [], ◌∷◌, Some, map, length, get_or, refl, sym, ap, ◌∙◌, subst}
use Rattle.std.proofs.Common.{arith}
use Rattle.std.specs.Prelude.{is_some, slice_get}
use Rattle.std.specs.Option.{unwrap_or}
use Rattle.std.proofs.lemmas.Option.{none-some, same_Some}
use Rattle.sm_model.specs.Graphs.{GraphMaps, member_id}
use Rattle.sm_shapes.specs.InOrder.{AreMembersOf, Shaped}
use Rattle.sm_shapes.specs.TableData.{MemberData, ShapeData, TableData, binding_in, home_at, home_in, kind_at, member_count, members_at, name_in}
use Rattle.sm_shapes.specs.TableData.{required_in, sparse_at, target_at}
use Rattle.sm_shapes.specs.TableData as table
use Rattle.sm_shapes.specs.declared.kinds.ShapeKind.{ShapeKind}
use Rattle.sm_compile.specs.Compiled.{EachSays, IdSet, IsCompiled, Numbering, SaysMember, SaysShape, members_in, members_under}
use Rattle.sm_compile.specs.Looked.{kind_in, target_in}
use Rattle.sm_compile.specs.Sound.{trait_in, trait_of}
use Rattle.sm_compile.specs.TraitIds.{required_id, sparse_id}
use Rattle.sm_rules.specs.Ready.{IsOfService}
use Rattle.sm_service.specs.Bound.{Binds, BindsMember, SaysBinding}
use Rattle.sm_service.specs.WireMembers.{InnerSeen, TargetSeen, inner_at, target_seen_at, wire_member_at, wire_members}
use Rattle.sm_service.specs.steps.WireSaid.{SaysWireMember, ShowsMembers, inner_under, kind_in_table, kind_said, target_seen_under, targeted}

-- what is said of the one at a place
each_at : {D : Type 0} (Says : List ℕ → D → Type 0) (ids : List (List ℕ)) (ds : List D) (k : ℕ) (id : List ℕ)
    → slice_get ids k ≡ Some id → EachSays Says ids ds → (d : D) × (slice_get ds k ≡ Some d) × Says id d
each_at Says [] ds k id e h = absurd (none-some id e)
each_at Says (i ∷ ids) [] k id e h = absurd h
each_at Says (i ∷ ids) (d ∷ ds) zero id e h = (d, refl, subst (λ x. Says x d) (same_Some i id e) h.0)
each_at Says (i ∷ ids) (d ∷ ds) (suc k) id e h = each_at Says ids ds k id e h.1

each_long : {D : Type 0} (Says : List ℕ → D → Type 0) (ids : List (List ℕ)) (ds : List D) → EachSays Says ids ds → length ids ≡ length ds
each_long Says [] [] h = refl
each_long Says [] (d ∷ ds) h = absurd h
each_long Says (i ∷ ids) [] h = absurd h
each_long Says (i ∷ ids) (d ∷ ds) h = ap suc (each_long Says ids ds h.1)

got : (ids : List (List ℕ)) (k : ℕ) → k < length ids → slice_get ids k ≡ Some (get_or ids k [])
got [] k lt = absurd (omega (arith, lt))
got (i ∷ ids) zero lt = refl
got (i ∷ ids) (suc k) lt = got ids k (omega (arith, lt))

got_is : (ids : List (List ℕ)) (k : ℕ) (id : List ℕ) → slice_get ids k ≡ Some id → get_or ids k [] ≡ id
got_is [] k id e = absurd (none-some id e)
got_is (i ∷ ids) zero id e = same_Some i id e
got_is (i ∷ ids) (suc k) id e = got_is ids k id e

-- equal in each field
inner_same : (a b : ShapeKind) (p q : Bool) (u v : List ShapeKind) → a ≡ b → p ≡ q → u ≡ v
    → Path InnerSeen (record { kind = a; sparse = p; inner = u }) (record { kind = b; sparse = q; inner = v })
inner_same a b p q u v e f h =
    ap (λ (x : ShapeKind). record { kind = x; sparse = p; inner = u }) e
    ∙ ap (λ (x : Bool). record { kind = b; sparse = x; inner = u }) f
    ∙ ap (λ (x : List ShapeKind). record { kind = b; sparse = q; inner = x }) h

target_same : (a b : ShapeKind) (p q : Bool) (u v : List InnerSeen) → a ≡ b → p ≡ q → u ≡ v
    → Path TargetSeen (record { kind = a; sparse = p; inner = u }) (record { kind = b; sparse = q; inner = v })
target_same a b p q u v e f h =
    ap (λ (x : ShapeKind). record { kind = x; sparse = p; inner = u }) e
    ∙ ap (λ (x : Bool). record { kind = b; sparse = x; inner = u }) f
    ∙ ap (λ (x : List InnerSeen). record { kind = b; sparse = q; inner = x }) h

module _ (g : GraphMaps) (In : IdSet) (t : TableData) (n : Numbering) (c : IsCompiled g In t n) (shaped : Shaped t) where
  abbrev member_of : ℕ → List ℕ
  member_of j = get_or n.members j []

  -- the rows of a shape and of a member
  shape_row : (k : ℕ) (id : List ℕ) → slice_get n.shapes k ≡ Some id
      → (d : ShapeData) × (slice_get t.shapes k ≡ Some d) × SaysShape g t.patterns n id d
  shape_row k id e = each_at (SaysShape g t.patterns n) n.shapes t.shapes k id e c.says_shapes

  long : length n.members ≡ member_count t
  long = each_long (SaysMember g t.patterns n) n.members t.members c.says_members

  there : (j : ℕ) → j < member_count t → slice_get n.members j ≡ Some (member_of j)
  there j lt = got n.members j (subst (λ m. j < m) (sym long) lt)

  member_row : (j : ℕ) → j < member_count t
      → (d : MemberData) × (slice_get t.members j ≡ Some d) × SaysMember g t.patterns n (member_of j) d
  member_row j lt = each_at (SaysMember g t.patterns n) n.members t.members j (member_of j) (there j lt) c.says_members

  -- the kind of a shape, and whether null may stand in it
  kind_shown : (k : ℕ) (id : List ℕ) → slice_get n.shapes k ≡ Some id → kind_at t k ≡ kind_said g id
  kind_shown k id e =
      let r = shape_row k id e in
      ap table.kind_in r.1 ∙ r.2.kind ∙ sym (ap (λ o. kind_in_table (kind_in o)) r.2.there)

  sparse_shown : (k : ℕ) (id : List ℕ) → slice_get n.shapes k ≡ Some id → sparse_at t k ≡ is_some (trait_of g id sparse_id)
  sparse_shown k id e =
      let r = shape_row k id e in
      ap table.sparse_in r.1 ∙ r.2.sparse ∙ sym (ap (λ o. is_some (trait_in sparse_id o)) r.2.there)

  -- the target of a member
  target_shown : (j : ℕ) → j < member_count t → slice_get n.shapes (target_at t j) ≡ Some (targeted g (member_of j))
  target_shown j lt =
      let r = member_row j lt in
      ap (λ o. slice_get n.shapes (table.target_in o)) r.1 ∙ r.2.target_number
      ∙ sym (ap (λ o. Some (unwrap_or (target_in o) [])) r.2.there)

  -- the members of a shape
  members_shown : (k : ℕ) (id : List ℕ) → slice_get n.shapes k ≡ Some id → map member_of (members_at t k) ≡ members_under g id
  members_shown k id e =
      let r = shape_row k id e in
      ap (λ o. map member_of (table.members_in o)) r.1 ∙ r.2.members ∙ sym (ap members_in r.2.there)

  place : (k : ℕ) (id : List ℕ) → slice_get n.shapes k ≡ Some id → k < length t.shapes
  place k id e = within t.shapes k (shape_row k id e).0 (shape_row k id e).1
    where
      within : (ds : List ShapeData) (k : ℕ) (d : ShapeData) → slice_get ds k ≡ Some d → k < length ds
      within [] k d e = absurd (none-some d e)
      within (x ∷ ds) zero d e = omega arith
      within (x ∷ ds) (suc k) d e = let rest = within ds k d e in omega (arith, rest)

  -- what stands in a shape
  kinds_shown : (s : ℕ) (js : List ℕ) → AreMembersOf t s js
      → map (λ j. kind_at t (target_at t j)) js ≡ map (λ m. kind_said g (targeted g m)) (map member_of js)
  kinds_shown s [] h = refl
  kinds_shown s (j ∷ js) h =
      ap (λ x. x ∷ map (λ j. kind_at t (target_at t j)) js)
      (kind_shown (target_at t j) (targeted g (member_of j)) (target_shown j h.0))
      ∙ ap (λ xs. kind_said g (targeted g (member_of j)) ∷ xs) (kinds_shown s js h.2)

  inner_shown : (k : ℕ) (id : List ℕ) → slice_get n.shapes k ≡ Some id → Path InnerSeen (inner_at t k) (inner_under g id)
  inner_shown k id e =
      inner_same (kind_at t k) (kind_said g id) (sparse_at t k) (is_some (trait_of g id sparse_id)) _ _ (kind_shown k id e)
      (sparse_shown k id e)
      (kinds_shown k (members_at t k) (shaped.members k (place k id e))
      ∙ ap (map (λ m. kind_said g (targeted g m))) (members_shown k id e))

  inners_shown : (s : ℕ) (js : List ℕ) → AreMembersOf t s js
      → map (λ j. inner_at t (target_at t j)) js ≡ map (λ m. inner_under g (targeted g m)) (map member_of js)
  inners_shown s [] h = refl
  inners_shown s (j ∷ js) h =
      ap (λ x. x ∷ map (λ j. inner_at t (target_at t j)) js)
      (inner_shown (target_at t j) (targeted g (member_of j)) (target_shown j h.0))
      ∙ ap (λ xs. inner_under g (targeted g (member_of j)) ∷ xs) (inners_shown s js h.2)

  seen_shown : (k : ℕ) (id : List ℕ) → slice_get n.shapes k ≡ Some id → Path TargetSeen (target_seen_at t k) (target_seen_under g id)
  seen_shown k id e =
      target_same (kind_at t k) (kind_said g id) (sparse_at t k) (is_some (trait_of g id sparse_id)) _ _ (kind_shown k id e)
      (sparse_shown k id e)
      (inners_shown k (members_at t k) (shaped.members k (place k id e))
      ∙ ap (map (λ m. inner_under g (targeted g m))) (members_shown k id e))

  module _ (b : Binds g n t) where
    member_shown : (k : ℕ) (shape : List ℕ) → slice_get n.shapes k ≡ Some shape → (j : ℕ) → j < member_count t → home_at t j ≡ k
        → SaysWireMember g shape (member_of j) (wire_member_at t j)
    member_shown k shape e j lt home =
        let r = member_row j lt in
        let x = each_at (BindsMember g) n.members t.members j (member_of j) (there j lt) b.members in
        let homed : get_or n.shapes r.0.shape [] ≡ shape =
        ap (λ i. get_or n.shapes i []) (sym (ap home_in r.1) ∙ home) ∙ got_is n.shapes k shape e in
        let aimed = ap (λ o. Some (unwrap_or (target_in o) [])) x.2.there in
        record {
          m = x.2.m;
          there = x.2.there;
          name = r.2.name ∙ ap (λ i. member_id i r.0.name) homed ∙ ap (member_id shape) (sym (ap name_in r.1));
          binding = subst (SaysBinding x.2.m.traits) (sym (ap binding_in x.1)) x.2.binding;
          required = ap required_in r.1 ∙ r.2.required ∙ sym (ap (λ o. is_some (trait_in required_id o)) r.2.there)
              ∙ ap (λ o. is_some (trait_in required_id o)) x.2.there;
          target = seen_shown (target_at t j) x.2.m.target (target_shown j lt ∙ aimed);
        }

    list_shown : (k : ℕ) (shape : List ℕ) → slice_get n.shapes k ≡ Some shape → (js : List ℕ) → AreMembersOf t k js
        → EachSays (SaysWireMember g shape) (map member_of js) (map (wire_member_at t) js)
    list_shown k shape e [] h = tt
    list_shown k shape e (j ∷ js) h = (member_shown k shape e j h.0 h.1, list_shown k shape e js h.2)

    pub wire_shown : (k : ℕ) (shape : List ℕ) → slice_get n.shapes k ≡ Some shape
        → EachSays (SaysWireMember g shape) (members_under g shape) (wire_members t k)
    wire_shown k shape e =
        subst (λ ids. EachSays (SaysWireMember g shape) ids (wire_members t k)) (members_shown k shape e)
        (list_shown k shape e (members_at t k) (shaped.members k (place k shape e)))

pub shows_members : ShowsMembers
shows_members g id service of shaped shape k e =
    wire_shown g (IsOfService g id) service.table of.numbering of.compiled shaped of.binds k shape e
