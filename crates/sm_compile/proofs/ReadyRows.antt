-- What a table that can be made has at its shapes and members: what is looked up for a row is there, and the row says what the graph says.
use Rattle.std.proofs.Common.{◌≡◌, inl, inr, ℕ, ◌<◌, Bool, true, false, cond, List, [], ◌∷◌, map, length, get_or, Option, Some, None, refl}
use Rattle.std.proofs.Common.{sym, ap, ◌∙◌, subst}
use Rattle.std.specs.FinMap as fin
use Rattle.std.specs.List.{Contains}
use Rattle.std.specs.Option.{option_map, option_or}
use Rattle.std.proofs.lemmas.List.{get_or-map, length-map}
use Rattle.std.proofs.lemmas.List.Elements.{Contains-get_or}
use Rattle.std.proofs.lemmas.Option.{none-some, same_Some, slice_get-map}
use Rattle.sm_tree.specs.Node.{Node}
use Rattle.sm_model.specs.Graphs.{shape_entry, member_entry, GraphMaps, member_id}
use Rattle.sm_model.specs.GraphView.{IsShapeNumber, maps_of}
use Rattle.sm_model.specs.Reaching.{id_of_number}
use Rattle.sm_model.specs.Relations.{HasEntry}
use Rattle.sm_model.specs.declared.graph.Graph.{Graph}
use Rattle.sm_model.specs.declared.kind.Kind.{Kind}
use Rattle.sm_model.proofs.OneRising.{contains_either, contains_none}
use Rattle.sm_shapes.specs.TableData.{MemberData}
use Rattle.sm_shapes.specs.TableView.{member_data}
use Rattle.sm_shapes.specs.declared.tables.TableMember.{TableMember}
use Rattle.sm_compile.specs.Compiled.{NamesText, PatternRows, SaysMember, members_in, members_under}
use Rattle.sm_compile.specs.Kinds.{has_value_members, is_text_kind, members_of_kind, value_members}
use Rattle.sm_compile.specs.Said.{pattern_seen}
use Rattle.sm_compile.specs.Sound.{AreSoundMembers, IsSoundMember, trait_in, trait_of}
use Rattle.sm_compile.specs.TraitIds.{pattern_id}
use Rattle.sm_compile.specs.TraitNodes.{effective_traits, text_of}
use Rattle.sm_compile.specs.declared.rows.MemberPlace.{MemberPlace}
use Rattle.sm_compile.specs.steps.Looked.{kind_in, kind_under, target_in, target_under}
use Rattle.sm_compile.specs.steps.Numbered.{AreMemberRows, AreReady, AreRowShapes, IsReadyMember, IsReadyShape, IsRowShape, numbering}
use Rattle.sm_compile.specs.steps.Placing.{HasPlace}
use Rattle.sm_compile.specs.steps.Rows.{MemberPlaced, TellsMember}
use Rattle.sm_compile.specs.steps.Seeing.{traits_seen}
use Rattle.sm_compile.proofs.MembersSay.{StandsIn, says_member}
use Rattle.sm_compile.proofs.NamesBehind.{one_named}
use Rattle.sm_compile.proofs.RowsSay.{pattern_along}
use Rattle.sm_compile.proofs.TabledShapes.{mapped_from}

-- a member at which values stand is one that the shape lists
pub value_among : (kind : Kind) (ms : List (List ℕ)) (id : List ℕ) → Contains (members_of_kind kind ms) id → Contains ms id
value_among kind ms id h = by (has_value_members kind) h
  where
    by : (b : Bool) → Contains (cond b ms []) id → Contains ms id
    by true there = there
    by false there = absurd (contains_none id there)

pub sound_among : (g : GraphMaps) (kind : Kind) (ids : List (List ℕ)) (id : List ℕ) → AreSoundMembers g kind ids → Contains ids id
    → IsSoundMember g kind id
sound_among g kind [] id are there = absurd (contains_none id there)
sound_among g kind (i ∷ ids) id are there = elim (contains_either i id ids there) [
  | inl is ↦ subst (IsSoundMember g kind) is are.0
  | inr later ↦ sound_among g kind ids id are.1 later
]

-- the target of a member that is in order is there
pub target_there : (g : GraphMaps) (id : List ℕ) (kind : Kind) → IsSoundMember g kind id
    → ((i : List ℕ) → target_under g id ≡ Some i → fin.get g.shapes i ≡ None) → ⊥
target_there g id kind sound none =
    none-some (shape_entry sound.target) (sym (none sound.m.target (ap target_in sound.there)) ∙ sound.found)

-- a member of the shape of a row, ready to have a row
pub record StandsReady (g : Graph) (shapes : List ℕ) (texts : List (List ℕ)) (s k : ℕ) : Type 0 where
  pub home : IsReadyShape g shapes texts (get_or shapes s 0)
  pub sound : IsSoundMember (maps_of g) home.s.kind (id_of_number g k)
  pub member : IsReadyMember g shapes texts k
  pub named : (name : List ℕ) × (id_of_number g k ≡ member_id (id_of_number g (get_or shapes s 0)) name)

module _ (g : Graph) (shapes : List ℕ) (texts : List (List ℕ)) where
  pub ready_shape : AreReady g shapes texts → (s : ℕ) → s < length shapes → IsReadyShape g shapes texts (get_or shapes s 0)
  ready_shape ready s lt = ready.each (get_or shapes s 0) (Contains-get_or shapes s 0 lt)

  -- shapes that are ready are in order, and their members' rows are told by their ids
  pub row_shapes : AreReady g shapes texts → AreRowShapes (maps_of g) (map (id_of_number g) shapes)
  row_shapes ready id there =
      let r = mapped_from (id_of_number g) shapes id there in
      let home = ready.each r.0 r.1 in
      subst (IsRowShape (maps_of g)) r.2 (record { s = home.s; there = home.there; sound = home.sound })

  pub rows_by : (ps : PatternRows) (rows : List MemberData) → AreMemberRows (maps_of g) ps (numbering g shapes) (length shapes) rows
      → AreMemberRows (maps_of g) ps (numbering g shapes) (length (map (id_of_number g) shapes)) rows
  rows_by ps rows are =
      subst (λ n. AreMemberRows (maps_of g) ps (numbering g shapes) n rows) (sym (length-map shapes (id_of_number g))) are

  pub row_within : (s : ℕ) → s < length shapes → s < length (map (id_of_number g) shapes)
  row_within s lt = subst (λ n. s < n) (sym (length-map shapes (id_of_number g))) lt

  pub row_id : (s : ℕ) → s < length shapes → get_or (map (id_of_number g) shapes) s [] ≡ id_of_number g (get_or shapes s 0)
  row_id s lt = get_or-map (id_of_number g) shapes s 0 [] lt

  pub members_at : (k : ℕ) (h : IsReadyShape g shapes texts k) → members_under (maps_of g) (id_of_number g k) ≡ value_members h.s
  members_at k h = ap members_in h.there

  pub shape_kind : (k : ℕ) → IsReadyShape g shapes texts k → kind_under (maps_of g) (id_of_number g k) ≡ None → ⊥
  shape_kind k h none = none-some h.s.kind (sym none ∙ ap kind_in h.there)

  pub stands_ready : AreReady g shapes texts → (s k : ℕ) → s < length shapes
      → Contains (members_under (maps_of g) (id_of_number g (get_or shapes s 0))) (id_of_number g k) → StandsReady g shapes texts s k
  stands_ready ready s k lt among =
      let home = ready_shape ready s lt in
      let here : Contains (value_members home.s) (id_of_number g k) =
      subst (λ ids. Contains ids (id_of_number g k)) (members_at (get_or shapes s 0) home) among in
      let listed = value_among home.s.kind home.s.members (id_of_number g k) here in
      record {
        home = home;
        sound = sound_among (maps_of g) home.s.kind home.s.members (id_of_number g k) home.sound.each listed;
        member = home.members k here;
        named = one_named (id_of_number g (get_or shapes s 0)) home.sound.names home.s.members (id_of_number g k) home.sound.members listed;
      }

  module _ (s k : ℕ) (st : StandsReady g shapes texts s k) where
    pub target_is : (t : ℕ) → target_under (maps_of g) (id_of_number g k) ≡ Some (id_of_number g t) → st.sound.m.target ≡ id_of_number g t
    target_is t is = same_Some st.sound.m.target (id_of_number g t) (sym (ap target_in st.sound.there) ∙ is)

    pub target_here : (t : ℕ) → target_under (maps_of g) (id_of_number g k) ≡ Some (id_of_number g t)
        → HasEntry (maps_of g) (id_of_number g t) (shape_entry st.sound.target)
    target_here t is = subst (λ i. HasEntry (maps_of g) i (shape_entry st.sound.target)) (target_is t is) st.sound.found

    pub target_kind_there : (t : ℕ) → target_under (maps_of g) (id_of_number g k) ≡ Some (id_of_number g t)
        → kind_under (maps_of g) (id_of_number g t) ≡ None → ⊥
    target_kind_there t is none = none-some st.sound.target.kind (sym none ∙ ap kind_in (target_here t is))

    -- the pattern that counts is the member's own or its target's
    pub pattern_among : AreReady g shapes texts → (t : ℕ) (kind : Kind) (u : List ℕ) → IsShapeNumber g t
        → target_under (maps_of g) (id_of_number g k) ≡ Some (id_of_number g t) → kind_under (maps_of g) (id_of_number g t) ≡ Some kind
        → pattern_seen kind (traits_seen g k (Some t)) ≡ Some u → Contains texts u
    pattern_among ready t kind u lt is kind_is seen = by (trait_of (maps_of g) (id_of_number g k) pattern_id) refl
      where
        maps : GraphMaps
        maps = maps_of g

        same : st.sound.target.kind ≡ kind
        same = same_Some st.sound.target.kind kind (sym (ap kind_in (target_here t is)) ∙ kind_is)

        at : (o : Option Node) → trait_of (maps_of g) (id_of_number g k) pattern_id ≡ o
            → cond (is_text_kind st.sound.target.kind) (text_of (option_or o (trait_of (maps_of g) (id_of_number g t) pattern_id))) None
            ≡ Some u
        at o h =
            ap (λ x. cond (is_text_kind x) (text_of (option_or o (trait_of maps (id_of_number g t) pattern_id))) None) same
            ∙ ap (λ x. cond (is_text_kind kind) (text_of (option_or x (trait_of maps (id_of_number g t) pattern_id))) None) (sym h) ∙ seen

        by : (o : Option Node) → trait_of (maps_of g) (id_of_number g k) pattern_id ≡ o → Contains texts u
        by (Some n) h =
            st.member.carried u (inr (
              st.sound.m,
              st.sound.target,
              st.sound.there,
              st.sound.found,
              ap (λ x. cond (is_text_kind st.sound.target.kind) (text_of x) None) (sym (ap (trait_in pattern_id) st.sound.there) ∙ h)
                  ∙ at (Some n) h,
            ))
        by None h =
            (ready.each t (st.member.target t lt is)).carried u (inl (
              st.sound.target,
              target_here t is,
              ap (λ x. cond (is_text_kind st.sound.target.kind) (text_of x) None) (sym (ap (trait_in pattern_id) (target_here t is)))
                  ∙ at None h,
            ))

    pub stands_in : (place : MemberPlace) (name : List ℕ) → s < length shapes → HasPlace g shapes s k place
        → id_of_number g k ≡ member_id (id_of_number g (get_or shapes s 0)) name
        → StandsIn g (numbering g shapes) place name st.sound.m st.home.s st.sound.target
    stands_in place name lt has named =
        let maps = maps_of g in
        let row : get_or (map (id_of_number g) shapes) place.home_row [] ≡ id_of_number g (get_or shapes s 0) =
        ap (λ i. get_or (map (id_of_number g) shapes) i []) has.home ∙ row_id s lt in
        let number : id_of_number g place.member ≡ id_of_number g k = ap (id_of_number g) has.number in
        let target = target_is place.target has.target in
        record {
          there = subst (λ i. HasEntry maps i (member_entry st.sound.m)) (sym number) st.sound.there;
          home_there = subst (λ i. HasEntry maps i (shape_entry st.home.s)) (sym row) st.home.there;
          home_kind = same_Some st.home.s.kind place.home_kind (sym (ap kind_in st.home.there) ∙ has.home_kind);
          target_there = st.sound.found;
          target_id = sym target;
          target_kind = same_Some st.sound.target.kind place.target_kind
              (sym (ap kind_in (target_here place.target has.target)) ∙ has.target_kind);
          home_row = subst (λ n. place.home_row < n) (sym (length-map shapes (id_of_number g)))
              (subst (λ i. i < length shapes) (sym has.home) lt);
          named = number ∙ named ∙ ap (λ i. member_id i name) (sym row);
          target_row = slice_get-map (id_of_number g) shapes place.target_row ∙ ap (option_map (id_of_number g)) has.target_row ∙ ap Some
              (sym target);
        }

    -- the row of the member
    pub says_row : (ps : PatternRows) (place : MemberPlace) (row : TableMember) (name : List ℕ) (p : Option ℕ) → s < length shapes
        → HasPlace g shapes s k place → id_of_number g k ≡ member_id (id_of_number g (get_or shapes s 0)) name → TellsMember g place row
        → MemberPlaced place row → row.name ≡ name → row.constraints.pattern ≡ p
        → NamesText ps p (pattern_seen place.target_kind (traits_seen g k (Some place.target)))
        → SaysMember (maps_of g) ps (numbering g shapes) (id_of_number g k) (member_data row)
    says_row ps place row name p lt has named told placed called pattern names =
        let maps = maps_of g in
        let stands = stands_in place row.name lt has (named ∙ ap (member_id (id_of_number g (get_or shapes s 0))) (sym called)) in
        let target = target_here place.target has.target in
        let seen : (x : List ℕ) → traits_seen g k (Some place.target) x ≡ effective_traits st.sound.m.traits st.sound.target.traits x = λ x.
        ap (λ o. option_or o (trait_of maps (id_of_number g place.target) x)) (ap (trait_in x) st.sound.there)
        ∙ ap (λ o. option_or (fin.get st.sound.m.traits x) o) (ap (trait_in x) target) in
        let said : pattern_seen place.target_kind (traits_seen g k (Some place.target))
        ≡ pattern_seen st.sound.target.kind (effective_traits st.sound.m.traits st.sound.target.traits) =
        pattern_along (traits_seen g k (Some place.target)) (effective_traits st.sound.m.traits st.sound.target.traits) seen
        place.target_kind
        ∙ ap (λ x. pattern_seen x (effective_traits st.sound.m.traits st.sound.target.traits)) (sym stands.target_kind) in
        subst (λ i. SaysMember maps ps (numbering g shapes) i (member_data row)) (ap (id_of_number g) has.number)
        (says_member g place row ps (numbering g shapes) st.sound.m st.home.s st.sound.target stands told placed
        (subst (λ o. NamesText ps o (pattern_seen st.sound.target.kind (effective_traits st.sound.m.traits st.sound.target.traits)))
        (sym pattern)
        (subst (NamesText ps p) said names)))
