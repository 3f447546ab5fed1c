-- Shapes and members that are there, as the tables list them, and the events that speak of them.
use Rattle.std.proofs.Common.{◌≡◌, inl, inr, ℕ, ◌<◌, Bool, true, false, List, [], ◌∷◌, map, length, Option, Some, None}
use Rattle.std.proofs.Common.{refl, sym, ap, subst, ◌∙◌, arith, bytes_eq}
use Rattle.std.specs.Prelude.{◌↔◌, if◌then◌else◌}
use Rattle.std.specs.Global.{Vec}
use Rattle.std.specs.List.{Contains, flat_map, list_any}
use Rattle.std.specs.FinMap.Entries.{find}
use Rattle.std.specs.Option.{option_map}
use Rattle.std.proofs.lemmas.Bool.{true≢false}
use Rattle.std.proofs.lemmas.Option.{none-some}
use Rattle.sm_tree.specs.Node.{Node}
use Rattle.sm_model.specs.EventView.{EventTold}
use Rattle.sm_model.specs.Graphs.{MemberEntry, member_entry, member_id, shape_entry, text_cmp}
use Rattle.sm_merge.specs.Merged.{HasTraitConflict, IsAppliedToNothing, IsThere, with_enum_value}
use Rattle.sm_merge.specs.Mixins.{EffectiveShape, IsEffective, names_of}
use Rattle.sm_merge.specs.Places.{shape_under}
use Rattle.sm_merge.specs.Stated.{ShapeStated, Stated, apply_stated, metadata_stated, shape_stated}
use Rattle.sm_merge.specs.steps.EffectiveTables.{AreMembersOf, named_targets}
use Rattle.sm_merge.specs.steps.EventLists.{applied_event, trait_event, trait_events}
use Rattle.sm_merge.specs.steps.Filling.{id_at, id_in, members_at}
use Rattle.sm_merge.specs.steps.Firsts.{targets_view}
use Rattle.sm_merge.specs.steps.Links.{At}
use Rattle.sm_merge.specs.steps.MixedIn.{vec_items}
use Rattle.sm_merge.specs.steps.PlaceEvents.{applied_events, place_conflicts, places_at, places_below}
use Rattle.sm_merge.specs.steps.Placed.{applied_by, bare_view}
use Rattle.sm_merge.specs.steps.ShapeTables.{AreShapesOf, ids_of, shapes_view}
use Rattle.sm_merge.specs.steps.Tables.{AreTraitsOf, traits_found}
use Rattle.sm_merge.specs.steps.ToldEvents.{AllMade}
use Rattle.sm_merge.specs.declared.firsts.NamedTarget.{NamedTarget}
use Rattle.sm_merge.specs.declared.parts.BareShape.{BareShape}
use Rattle.sm_merge.specs.declared.table.PlaceRow.{PlaceRow}
use Rattle.sm_merge.proofs.Amongs.{Among, among_any, among_below, among_flat, among_found, among_from, among_map, below_among}
use Rattle.sm_merge.proofs.Amongs.{among_to, any_among, flat_among, found_among, map_among}
use Rattle.sm_merge.proofs.Ats.{at_mapped, at_there, at_within}
use Rattle.sm_merge.proofs.EffectiveMade.{target_found}
use Rattle.sm_merge.proofs.EventsTold.{traits_told}
use Rattle.sm_merge.proofs.ShapeNumbers.{ids_count, shape_at, shape_ids}

pub id_of_at : (rows : List BareShape) (v : ℕ) (id : List ℕ) → At (ids_of rows) v id → id_at rows v ≡ id
id_of_at rows v id at_v =
    let e = at_mapped (λ x. x.0) (shapes_view rows) v id at_v in
    let r = at_mapped (λ (row : BareShape). (row.id, bare_view row)) rows v e.0 e.1 in
    ap id_in r.1 ∙ ap (λ x. x.0) r.2 ∙ e.2

module _ (ss : List Stated) (rows : List BareShape) (are : AreShapesOf ss rows) (members : List (Vec NamedTarget))
    (named : AreMembersOf ss rows members) where
  pub members_told : (v : ℕ) (id : List ℕ) → At (ids_of rows) v id → (m : EffectiveShape) → IsEffective ss id m
      → named_targets m.members ≡ members_at members v
  members_told v id at_v m e =
      let inside : v < length (ids_of rows) = at_within (ids_of rows) v id at_v in
      let count : length (ids_of rows) ≡ length rows = ids_count rows in
      let size : length members ≡ length rows = named.size in
      let small : v < length members = omega (arith, inside, count, size) in
      let ms = at_there members v small in
      named.each v id ms.0 at_v ms.1 m e ∙ sym (ap (λ x. targets_view (vec_items x)) ms.1)

  module _ (made : AllMade ss) where
    shape_there : (v : ℕ) (id : List ℕ) → At (ids_of rows) v id → IsThere ss id
    shape_there v id at_v =
        let s = shape_at ss rows are v id at_v in
        let m = made id s.s s.there in (
          shape_entry (record {
            kind = s.s.shape.kind;
            members = map (member_id id) (names_of m.0.members);
            properties = s.s.shape.properties;
            traits = m.0.traits;
          }),
          inl (record { s = s.s; there = s.there; m = m.0; is_effective = m.1; is = refl }),
        )

    member_there : (v : ℕ) (id : List ℕ) → At (ids_of rows) v id → (p : List ℕ × List ℕ) → Among p (members_at members v)
        → IsThere ss (member_id id p.0)
    member_there v id at_v p among =
        let s = shape_at ss rows are v id at_v in
        let m = made id s.s s.there in
        let found = found_among p (members_at members v) among in
        by s.s s.there m.0 m.1 (find text_cmp p.0 m.0.members) refl
        (sym (target_found p.0 m.0.members) ∙ ap (find text_cmp p.0) (members_told v id at_v m.0 m.1) ∙ found.1)
      where
        by : {target : List ℕ} (s : ShapeStated) → shape_under id ss ≡ Some s → (m : EffectiveShape) → IsEffective ss id m
            → (o : Option MemberEntry) → find text_cmp p.0 m.members ≡ o → option_map (λ (e : MemberEntry). e.target) o ≡ Some target
            → IsThere ss (member_id id p.0)
        by {target} s there m e None is bad = absurd (none-some target bad)
        by s there m e (Some of) is good = (
          member_entry (with_enum_value s.shape.kind p.0 of),
          inr (record {
            shape = id;
            s = s;
            there = there;
            m = m;
            is_effective = e;
            name = p.0;
            of = of;
            found = is;
            under = refl;
            is = refl;
          }),
        )

    -- all places are there
    pub place_there : (id : List ℕ) → Among id (places_below rows members (length rows)) → IsThere ss id
    place_there id among =
        let p = among_below (places_at rows members) (length rows) id among in
        let small : p.0 < length rows = p.1 in
        let count : length (ids_of rows) ≡ length rows = ids_count rows in
        let inside : p.0 < length (ids_of rows) = omega (arith, count, small) in
        let k = at_there (ids_of rows) p.0 inside in
        here p.0 k.0 k.1 (id_of_at rows p.0 k.0 k.1) p.2
      where
        here : (n : ℕ) (k : List ℕ) → At (ids_of rows) n k → id_at rows n ≡ k → Among id (places_at rows members n) → IsThere ss id
        here n k at_n same (inl is) = subst (IsThere ss) (sym same ∙ is) (shape_there n k at_n)
        here n k at_n same (inr later) =
            let p = among_map (λ (q : List ℕ × List ℕ). member_id (id_at rows n) q.0) (members_at members n) id later in
            subst (IsThere ss) (ap (λ i. member_id i p.0.0) (sym same) ∙ p.2) (member_there n k at_n p.0 p.1)

  -- what is there is a place
  pub there_placed : (id : List ℕ) → IsThere ss id → Among id (places_below rows members (length rows))
  there_placed id (e, inl shape) =
      let n = (shape_ids ss rows are).all id shape.s shape.there in
      let inside : n.number < length (ids_of rows) = at_within (ids_of rows) n.number id n.there in
      let count : length (ids_of rows) ≡ length rows = ids_count rows in
      let small : n.number < length rows = omega (arith, inside, count) in
      below_among (places_at rows members) (length rows) n.number id small (inl (id_of_at rows n.number id n.there))
  there_placed id (e, inr member) =
      let n = (shape_ids ss rows are).all member.shape member.s member.there in
      let inside : n.number < length (ids_of rows) = at_within (ids_of rows) n.number member.shape n.there in
      let count : length (ids_of rows) ≡ length rows = ids_count rows in
      let small : n.number < length rows = omega (arith, inside, count) in
      let same = id_of_at rows n.number member.shape n.there in
      let told = members_told n.number member.shape n.there member.m member.is_effective in
      let found : find text_cmp member.name (members_at members n.number) ≡ Some member.of.target =
      ap (find text_cmp member.name) (sym told) ∙ target_found member.name member.m.members
      ∙ ap (option_map (λ (e : MemberEntry). e.target)) member.found in
      let p = among_found member.name (members_at members n.number) member.of.target found in
      below_among (places_at rows members) (length rows) n.number id small (inr (subst (λ i. Among i
      (map (λ q. member_id (id_at rows n.number) q.0) (members_at members n.number)))
      ((λ i. member_id (same i) (p.2 i)) ∙ sym member.under)
      (map_among (λ (q : List ℕ × List ℕ). member_id (id_at rows n.number) q.0) (members_at members n.number) p.0 p.1)))

  module _ (made : AllMade ss) where
    -- events for values in conflict
    pub conflicts_there : (traits : List PlaceRow) → AreTraitsOf ss traits → (e : EventTold)
        → Contains (place_conflicts traits (places_below rows members (length rows))) e
        ↔ ((id name : List ℕ) × HasTraitConflict ss id name × (e ≡ trait_event id name))
    conflicts_there traits of e = (
      λ has.
          let p = among_flat (λ id. trait_events id (traits_found id traits)) (places_below rows members (length rows)) e
          (among_from e (place_conflicts traits (places_below rows members (length rows))) has) in
          let told = (traits_told ss traits of p.0 e).0 (among_to e (trait_events p.0 (traits_found p.0 traits)) p.2) in
          (p.0, told.0, record { there = place_there made p.0 p.1; conflict = told.1 }, told.2),
      λ is.
          let c : HasTraitConflict ss is.0 is.1 = is.2 in
          among_to e (place_conflicts traits (places_below rows members (length rows)))
          (flat_among (λ id. trait_events id (traits_found id traits)) (places_below rows members (length rows)) is.0 e
          (there_placed is.0 c.there)
          (among_from e (trait_events is.0 (traits_found is.0 traits)) ((traits_told ss traits of is.0 e).1 (is.1, c.conflict, is.3)))),
    )

    -- and for traits that are applied to nothing
    applied_in : (id : List ℕ) (st : Stated) → Among id (applied_by st) → (ts : List (List ℕ × Node)) × (st ≡ apply_stated id ts)
    applied_in id (metadata_stated key value) none = absurd none
    applied_in id (shape_stated s) none = absurd none
    applied_in id (apply_stated target ts) (inl same) = (ts, ap (λ i. apply_stated i ts) same)
    applied_in id (apply_stated target ts) (inr none) = absurd none

    pub applied_there : (applied : List (List ℕ)) → applied ≡ flat_map applied_by ss → (e : EventTold)
        → Contains (applied_events (λ id. list_any (λ place. bytes_eq place id) (places_below rows members (length rows))) applied) e
        ↔ ((id : List ℕ) × IsAppliedToNothing ss id × (e ≡ applied_event id))
    applied_there applied are_applied e = (λ has. forth has, λ is. back is)
      where
        forth : Contains (applied_events (λ id. list_any (λ place. bytes_eq place id) (places_below rows members (length rows))) applied) e
            → (id : List ℕ) × IsAppliedToNothing ss id × (e ≡ applied_event id)
        forth has =
            let p = among_flat (λ id. if list_any (λ place. bytes_eq place id)
            (places_below rows members (length rows)) then [] else applied_event id ∷ [])
            applied e
            (among_from e (applied_events (λ id. list_any (λ place. bytes_eq place id) (places_below rows members (length rows)))
            applied) has) in
            let st = among_flat applied_by ss p.0 (subst (Among p.0) are_applied p.1) in
            let apply = applied_in p.0 st.0 st.2 in
            by p.0 apply.0 (subst (Contains ss) apply.1 (among_to st.0 ss st.1))
            (list_any (λ place. bytes_eq place p.0) (places_below rows members (length rows))) refl p.2
          where
            by : (id : List ℕ) (ts : List (List ℕ × Node)) → Contains ss (apply_stated id ts) → (b : Bool)
                → list_any (λ place. bytes_eq place id) (places_below rows members (length rows)) ≡ b
                → Among e (if b then [] else applied_event id ∷ []) → (i : List ℕ) × IsAppliedToNothing ss i × (e ≡ applied_event i)
            by id ts among true is none = absurd none
            by id ts among false is (inl same) = (
              id,
              record {
                traits = ts;
                among = among;
                nothing = λ there.
                    true≢false (sym (any_among id (places_below rows members (length rows)) (there_placed id there)) ∙ is);
              },
              sym same,
            )
            by id ts among false is (inr none) = absurd none

        back : (id : List ℕ) × IsAppliedToNothing ss id × (e ≡ applied_event id)
            → Contains (applied_events (λ id. list_any (λ place. bytes_eq place id) (places_below rows members (length rows))) applied) e
        back (id, n, is) =
            among_to e (applied_events (λ id. list_any (λ place. bytes_eq place id) (places_below rows members (length rows))) applied)
            (flat_among (λ id. if list_any (λ place. bytes_eq place id)
            (places_below rows members (length rows)) then [] else applied_event id ∷ [])
            applied id e
            (subst (Among id) (sym are_applied)
            (flat_among applied_by ss (apply_stated id n.traits) id (among_from (apply_stated id n.traits) ss n.among) (inl refl)))
            (by (list_any (λ place. bytes_eq place id) (places_below rows members (length rows))) refl))
          where
            by : (b : Bool) → list_any (λ place. bytes_eq place id) (places_below rows members (length rows)) ≡ b
                → Among e (if b then [] else applied_event id ∷ [])
            by true there = absurd (n.nothing (place_there made id (among_any id (places_below rows members (length rows)) there)))
            by false there = inl (sym is)
