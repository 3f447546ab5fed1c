-- Events for members that are defined again with another target are those of the definition.
use Rattle.std.proofs.Common.{◌≡◌, inl, inr, ℕ, ◌<◌, Bool, true, false, List, [], ◌∷◌, length, Option, Some, None}
use Rattle.std.proofs.Common.{refl, sym, ap, subst, ◌∙◌, arith, bytes_eq}
use Rattle.std.specs.Prelude.{◌↔◌, if◌then◌else◌, not}
use Rattle.std.specs.Global.{Vec}
use Rattle.std.specs.List.{Contains}
use Rattle.std.specs.FinMap.Entries.{find}
use Rattle.std.specs.Option.{option_map}
use Rattle.std.proofs.lemmas.Bool.{cases_Bool, true≢false}
use Rattle.std.proofs.lemmas.Option.{none-some, same_Some}
use Rattle.std.proofs.lemmas.Slice.Eq.{bytes_eq-Decides}
use Rattle.sm_model.specs.EventView.{EventTold}
use Rattle.sm_model.specs.Graphs.{MemberEntry, member_id, text_cmp}
use Rattle.sm_merge.specs.Merged.{IsDefinedOtherwise}
use Rattle.sm_merge.specs.Mixins.{AreCopied, EffectiveShape, IsEffective, IsMadeFrom, all_members, effective}
use Rattle.sm_merge.specs.Places.{shape_under}
use Rattle.sm_merge.specs.Stated.{ShapeStated, Stated}
use Rattle.sm_merge.specs.steps.AllEvents.{member_event}
use Rattle.sm_merge.specs.steps.Contributing.{AreWalkedTables}
use Rattle.sm_merge.specs.steps.EffectiveTables.{AreMembersOf, named_targets}
use Rattle.sm_merge.specs.steps.Filling.{all_targets, id_at, members_at, own_at}
use Rattle.sm_merge.specs.steps.Links.{At}
use Rattle.sm_merge.specs.steps.MixedIn.{AreMixedIn, MixIn, items_at}
use Rattle.sm_merge.specs.steps.MixinsOnce.{mixins_once}
use Rattle.sm_merge.specs.steps.PlaceEvents.{first_among, if_other, is_other, others_at, others_below}
use Rattle.sm_merge.specs.steps.ShapeTables.{ids_of}
use Rattle.sm_merge.specs.steps.ToldEvents.{AllMade}
use Rattle.sm_merge.specs.declared.firsts.NamedTarget.{NamedTarget}
use Rattle.sm_merge.specs.declared.mixins.Contributing.{Contributing}
use Rattle.sm_merge.specs.declared.parts.BareShape.{BareShape}
use Rattle.sm_merge.specs.declared.table.PlaceRow.{PlaceRow}
use Rattle.sm_merge.specs.declared.walk.Walk.{Walk}
use Rattle.sm_merge.proofs.Amongs.{Among, among_below, among_flat, among_from, among_map, among_to, below_among, flat_among}
use Rattle.sm_merge.proofs.Amongs.{map_among}
use Rattle.sm_merge.proofs.Ats.{at_there, at_within}
use Rattle.sm_merge.proofs.EffectiveAll.{shape_row}
use Rattle.sm_merge.proofs.EffectiveMade.{target_found}
use Rattle.sm_merge.proofs.FoundRows.{find_firsts}
use Rattle.sm_merge.proofs.MixinsOnce.{with_repeats, without_repeats}
use Rattle.sm_merge.proofs.NamesMixed.{AllNamed, made_names, targets_here}
use Rattle.sm_merge.proofs.PlacesThere.{members_told}
use Rattle.sm_merge.proofs.ShapeNumbers.{ids_count, shape_ids}

module _ (ss : List Stated) (rows : List BareShape) (traits : List PlaceRow) (walk : Walk) (t : AreWalkedTables ss rows traits walk)
    (mixed : List (Vec Contributing)) (are : AreMixedIn ss rows mixed) (members : List (Vec NamedTarget))
    (named : AreMembersOf ss rows members) (made : AllMade ss) where
  all_named_so : (s : ShapeStated) (mixins : List (List ℕ)) (cs : List Contributing) → MixIn ss rows s mixins cs
      → AllNamed ss rows members cs
  all_named_so s [] cs none = subst (AllNamed ss rows members) (sym none) tt
  all_named_so s (mixin ∷ mixins) cs (inl (never, rest)) = all_named_so s mixins cs rest
  all_named_so s (mixin ∷ mixins) cs (inr (c, told, rest, is, more)) =
      subst (AllNamed ss rows members) (sym is)
      ((λ m at_c n e. members_told ss rows t.shapes members named c.number m at_c n e), all_named_so s mixins rest more)

  -- the members that the shape of a number is made from
  targets_of : (v : ℕ) (id : List ℕ) → At (ids_of rows) v id → (s : ShapeStated) → shape_under id ss ≡ Some s
      → (copied : List EffectiveShape) → AreCopied ss s s.mixins copied
      → named_targets (all_members copied s.shape.members) ≡ all_targets members (items_at mixed v) (own_at rows v)
  targets_of v id at_v s there copied from =
      targets_here ss rows traits walk t mixed are members v id at_v s there copied from
      (all_named_so s s.mixins (items_at mixed v))

  -- a shape with the copies that it is made from
  abbrev HasCopies : List ℕ → Type 0
  HasCopies id = (s : ShapeStated) × (shape_under id ss ≡ Some s) × (copied : List EffectiveShape) × AreCopied ss s s.mixins copied
      × (m : EffectiveShape) × IsEffective ss id m × IsMadeFrom ss id s copied m

  copies_in : (id : List ℕ) (m : EffectiveShape) → IsEffective ss id m → HasCopies id
  copies_in id m (effective i n s copied there from is) = (s, there, copied, from, m, effective i n s copied there from is, is)

  first_at : (v : ℕ) (id : List ℕ) → At (ids_of rows) v id → (name : List ℕ)
      → find text_cmp name (members_at members v) ≡ find text_cmp name (all_targets members (items_at mixed v) (own_at rows v))
  first_at v id at_v name =
      let row = shape_row ss rows traits walk t v id at_v in
      let m = made id row.s row.there in
      let h = copies_in id m.0 m.1 in
      ap (find text_cmp name) (sym (members_told ss rows t.shapes members named v id at_v h.4 h.5) ∙ made_names ss id h.0 h.2 h.4 h.6)
      ∙ find_firsts name (named_targets (all_members h.2 h.0.shape.members))
      ∙ ap (find text_cmp name) (targets_of v id at_v h.0 h.1 h.2 h.3)

  -- one member, by what is found first under its name
  other_told : (id : List ℕ) (p : List ℕ × List ℕ) (e : EventTold) (o : Option (List ℕ))
      → Among e (if is_other o p.1 then member_event (member_id id p.0) p.1 ∷ [] else [])
      → (first : List ℕ) × (o ≡ Some first) × (first ≡ p.1 → ⊥) × (member_event (member_id id p.0) p.1 ≡ e)
  other_told id p e None none = absurd none
  other_told id p e (Some first) among = by (bytes_eq first p.1) refl among
    where
      by : (b : Bool) → bytes_eq first p.1 ≡ b → Among e (if not b then member_event (member_id id p.0) p.1 ∷ [] else [])
          → (f : List ℕ) × (Some first ≡ Some f) × (f ≡ p.1 → ⊥) × (member_event (member_id id p.0) p.1 ≡ e)
      by true is none = absurd none
      by false is (inl same) = (first, refl, (λ one. true≢false (sym ((bytes_eq-Decides first p.1).1 one) ∙ is)), same)
      by false is (inr none) = absurd none

  told_other : (id : List ℕ) (p : List ℕ × List ℕ) (first : List ℕ) → (first ≡ p.1 → ⊥)
      → Among (member_event (member_id id p.0) p.1) (if is_other (Some first) p.1 then member_event (member_id id p.0) p.1 ∷ [] else [])
  told_other id p first other = elim (cases_Bool (bytes_eq first p.1)) [
    | inl same ↦ absurd (other ((bytes_eq-Decides first p.1).0 same))
    | inr apart ↦
        subst (λ b. Among (member_event (member_id id p.0) p.1) (if not b then member_event (member_id id p.0) p.1 ∷ [] else []))
        (sym apart)
        (inl refl)
  ]

  at_told : (v : ℕ) (id : List ℕ) → At (ids_of rows) v id → id_at rows v ≡ id → (e : EventTold) → Among e (others_at rows mixed members v)
      → (i target : List ℕ) × IsDefinedOtherwise ss i target × (e ≡ member_event i target)
  at_told v id at_v same e among =
      let p = among_flat (if_other (id_at rows v) (first_among (members_at members v)))
      (all_targets members (mixins_once (items_at mixed v)) (own_at rows v)) e among in
      let o = other_told (id_at rows v) p.0 e (find text_cmp p.0.0 (members_at members v)) p.2 in
      let row = shape_row ss rows traits walk t v id at_v in
      let m = made id row.s row.there in
      let h = copies_in id m.0 m.1 in
      let whole = targets_of v id at_v h.0 h.1 h.2 h.3 in
      let x = among_map (λ (q : List ℕ × MemberEntry). (q.0, q.1.target)) (all_members h.2 h.0.shape.members) p.0
      (subst (Among p.0) (sym whole) (with_repeats p.0 (members_at members) (own_at rows v) (items_at mixed v) p.1)) in
      by id p.0 e same h whole x.0 x.1 x.2 o.0
      (sym (first_at v id at_v p.0.0) ∙ o.1) o.2 o.3 (find text_cmp p.0.0 (all_members h.2 h.0.shape.members)) refl
    where
      by : (id : List ℕ) (p : List ℕ × List ℕ) (e : EventTold) → id_at rows v ≡ id → (h : HasCopies id)
          → named_targets (all_members h.2 h.0.shape.members) ≡ all_targets members (items_at mixed v) (own_at rows v)
          → (x : List ℕ × MemberEntry) → Among x (all_members h.2 h.0.shape.members) → (x.0, x.1.target) ≡ p → (first : List ℕ)
          → find text_cmp p.0 (all_targets members (items_at mixed v) (own_at rows v)) ≡ Some first → (first ≡ p.1 → ⊥)
          → member_event (member_id (id_at rows v) p.0) p.1 ≡ e → (o : Option MemberEntry)
          → find text_cmp p.0 (all_members h.2 h.0.shape.members) ≡ o
          → (i target : List ℕ) × IsDefinedOtherwise ss i target × (e ≡ member_event i target)
      by id p e same h whole x among is first found other told None none =
          absurd (none-some first (ap (option_map (λ (f : MemberEntry). f.target)) (sym none)
          ∙ sym (target_found p.0 (all_members h.2 h.0.shape.members)) ∙ ap (find text_cmp p.0) whole ∙ found))
      by id p e same h whole x among is first found other told (Some f) at_f =
          let target : f.target ≡ first =
          same_Some f.target first (ap (option_map (λ (g : MemberEntry). g.target)) (sym at_f)
          ∙ sym (target_found p.0 (all_members h.2 h.0.shape.members)) ∙ ap (find text_cmp p.0) whole ∙ found) in
          let name : x.0 ≡ p.0 = ap (λ (q : List ℕ × List ℕ). q.0) is in (
            member_id id p.0,
            p.1,
            record {
              shape = id;
              s = h.0;
              there = h.1;
              copied = h.2;
              from_mixins = h.3;
              name = p.0;
              under = refl;
              first = f;
              found = at_f;
              again = x.1;
              among = among_to (p.0, x.1) (all_members h.2 h.0.shape.members)
                  (subst (λ n. Among (n, x.1) (all_members h.2 h.0.shape.members)) name among);
              is = ap (λ (q : List ℕ × List ℕ). q.1) is;
              other = λ one. other (sym target ∙ one);
            },
            sym told ∙ ap (λ i. member_event (member_id i p.0) p.1) same,
          )

  pub others_told : (e : EventTold)
      → Contains (others_below rows mixed members (length rows)) e
      ↔ ((i target : List ℕ) × IsDefinedOtherwise ss i target × (e ≡ member_event i target))
  others_told e = (
    λ has.
        let p = among_below (others_at rows mixed members) (length rows) e
        (among_from e (others_below rows mixed members (length rows)) has) in
        let small : p.0 < length rows = p.1 in
        let count : length (ids_of rows) ≡ length rows = ids_count rows in
        let inside : p.0 < length (ids_of rows) = omega (arith, count, small) in
        let k = at_there (ids_of rows) p.0 inside in
        at_told p.0 k.0 k.1 (shape_row ss rows traits walk t p.0 k.0 k.1).named e p.2,
    λ is. among_to e (others_below rows mixed members (length rows)) (back is.0 is.1 is.2 is.3),
  )
    where
      back : (i target : List ℕ) → IsDefinedOtherwise ss i target → e ≡ member_event i target
          → Among e (others_below rows mixed members (length rows))
      back i target d is =
          let n = (shape_ids ss rows t.shapes).all d.shape d.s d.there in
          let inside : n.number < length (ids_of rows) = at_within (ids_of rows) n.number d.shape n.there in
          let count : length (ids_of rows) ≡ length rows = ids_count rows in
          let small : n.number < length rows = omega (arith, inside, count) in
          let whole = targets_of n.number d.shape n.there d.s d.there d.copied d.from_mixins in
          let named = (shape_row ss rows traits walk t n.number d.shape n.there).named in
          let first : find text_cmp d.name (members_at members n.number) ≡ Some d.first.target =
          first_at n.number d.shape n.there d.name ∙ ap (find text_cmp d.name) (sym whole)
          ∙ target_found d.name (all_members d.copied d.s.shape.members) ∙ ap (option_map (λ (f : MemberEntry). f.target)) d.found in
          let p : Among (d.name, d.again.target) (all_targets members (items_at mixed n.number) (own_at rows n.number)) =
          subst (Among (d.name, d.again.target)) whole
          (map_among (λ (q : List ℕ × MemberEntry). (q.0, q.1.target)) (all_members d.copied d.s.shape.members) (d.name, d.again)
          (among_from (d.name, d.again) (all_members d.copied d.s.shape.members) d.among)) in
          let event : e ≡ member_event (member_id (id_at rows n.number) d.name) d.again.target =
          is ∙ (λ j. member_event ((d.under ∙ ap (λ k. member_id k d.name) (sym named)) j) (sym d.is j)) in
          below_among (others_at rows mixed members) (length rows) n.number e small
          (flat_among (if_other (id_at rows n.number) (first_among (members_at members n.number)))
          (all_targets members (mixins_once (items_at mixed n.number)) (own_at rows n.number)) (d.name, d.again.target) e
          (without_repeats (d.name, d.again.target) (members_at members) (own_at rows n.number) (items_at mixed n.number) p)
          (subst (λ o. Among e (if is_other o d.again.target then member_event
          (member_id (id_at rows n.number) d.name) d.again.target ∷ [] else []))
          (sym first)
          (subst (λ x. Among x (if is_other (Some d.first.target) d.again.target then member_event
          (member_id (id_at rows n.number) d.name) d.again.target ∷ [] else []))
          (sym event) (told_other (id_at rows n.number) (d.name, d.again.target) d.first.target (λ one. d.other (one ∙ d.is))))))
