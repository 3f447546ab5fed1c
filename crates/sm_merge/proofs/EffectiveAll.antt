-- All shapes come to what stands in the tables, along an order in which each stands behind the mixins that contribute to it.
use Rattle.std.proofs.Common.{◌≡◌, inl, inr, ℕ, zero, suc, ◌<◌, List, [], ◌∷◌}
use Rattle.std.proofs.Common.{◌++◌, length, filter, Option, Some, None, refl, sym, ap, subst}
use Rattle.std.proofs.Common.{◌∙◌, arith}
use Rattle.std.specs.Prelude.{MatchOption}
use Rattle.std.specs.Global.{Vec}
use Rattle.std.specs.FinMap.Entries.{find}
use Rattle.sm_tree.specs.Node.{Node}
use Rattle.sm_tree.specs.View.{node_of}
use Rattle.sm_model.specs.Graphs.{text_cmp}
use Rattle.sm_merge.specs.Mixins.{IsEffective, effective, is_copied, mixin_trait}
use Rattle.sm_merge.specs.Places.{names_and_targets, shape_under, trait_values}
use Rattle.sm_merge.specs.Stated.{ShapeStated, Stated}
use Rattle.sm_merge.specs.Values.{IsValueOf}
use Rattle.sm_merge.specs.steps.EffectiveTables.{traits_of_member}
use Rattle.sm_merge.specs.steps.Contributing.{AreWalkedTables, ContributesBy}
use Rattle.sm_merge.specs.steps.Filling.{AreTraitsFrom, FoldedRows, HasEntry, HasMixedMembers, HasMixedTraits, IsFilled, copied_traits}
use Rattle.sm_merge.specs.steps.Filling.{copies_by, folded_rows, id_at, id_in, member_lists}
use Rattle.sm_merge.specs.steps.Filling.{members_at, mixed_members, mixin_value, own_at, own_in}
use Rattle.sm_merge.specs.steps.Filling.{is_kept, kept_at, kept_by, kept_of, last_first, own_traits}
use Rattle.sm_merge.specs.steps.Firsts.{firsts, targets_view}
use Rattle.sm_merge.specs.steps.Folding.{IsFolded}
use Rattle.sm_merge.specs.steps.Links.{At, StandsBefore}
use Rattle.sm_merge.specs.steps.MixedIn.{AreBehind, AreMixedIn, IsMixedOrder, MixIn, items_at, vec_items}
use Rattle.sm_merge.specs.steps.Placed.{Bare, bare_of, bare_view}
use Rattle.sm_merge.specs.steps.ShapeTables.{ids_of}
use Rattle.sm_merge.specs.steps.Tables.{named_view, traits_found}
use Rattle.sm_merge.specs.declared.effective.ShapeTraits.{ShapeTraits}
use Rattle.sm_merge.specs.declared.firsts.NamedTarget.{NamedTarget}
use Rattle.sm_merge.specs.declared.mixins.Contributing.{Contributing}
use Rattle.sm_merge.specs.declared.parts.BareShape.{BareShape}
use Rattle.sm_merge.specs.declared.table.PlaceRow.{PlaceRow}
use Rattle.sm_merge.specs.declared.value.Folded.{Folded}
use Rattle.sm_merge.specs.declared.walk.Walk.{Walk}
use Rattle.sm_merge.proofs.Ats.{at_mapped, at_there, at_within}
use Rattle.sm_merge.proofs.EffectiveMade.{AllCopiedBy, AllEffective, AllHaveNoOther, HasNoOther, copied_by, copies_at, seen_as}
use Rattle.sm_merge.proofs.EffectiveMade.{shape_at_number, value_node}
use Rattle.sm_merge.proofs.KeptOnce.{kept_once}
use Rattle.sm_merge.proofs.MixinsTold.{found_given}
use Rattle.sm_merge.proofs.OneShapeMade.{made, no_other}
use Rattle.sm_merge.proofs.OneValue.{one_value}
use Rattle.sm_merge.proofs.ShapeNumbers.{ids_count, shape_at}

-- the shape at a number, by what its row says
pub record HasShapeRow (ss : List Stated) (rows : List BareShape) (v : ℕ) (id : List ℕ) : Type 0 where
  pub s : ShapeStated
  pub there : shape_under id ss ≡ Some s
  pub own : own_at rows v ≡ names_and_targets s.shape.members
  pub named : id_at rows v ≡ id

module _ (ss : List Stated) (rows : List BareShape) (traits : List PlaceRow) (walk : Walk) (t : AreWalkedTables ss rows traits walk) where
  pub shape_row : (v : ℕ) (id : List ℕ) → At (ids_of rows) v id → HasShapeRow ss rows v id
  shape_row v id at_v =
      let h = shape_at ss rows t.shapes v id at_v in
      let r = at_mapped (λ (row : BareShape). (row.id, bare_view row)) rows v (id, bare_of h.s) h.bare in
      record {
        s = h.s;
        there = h.there;
        own = ap own_in r.1 ∙ ap (λ (e : List ℕ × Bare). e.1.members) r.2;
        named = ap id_in r.1 ∙ ap (λ (e : List ℕ × Bare). e.0) r.2;
      }

  -- the value of the trait `mixin`
  pub direct : (place name : List ℕ)
      → MatchOption (find text_cmp name (named_view (traits_found place traits))) (trait_values ss place name ≡ [])
      (IsFolded (trait_values ss place name))
  direct place name =
      subst (λ o. MatchOption o (trait_values ss place name ≡ []) (IsFolded (trait_values ss place name)))
      (found_given traits place name (find text_cmp name (named_view (traits_found place traits))) refl) (t.traits_of.each place name)

  copies_told : (mixin : List ℕ) (n value : Node) (rows : FoldedRows) → IsValueOf (trait_values ss mixin mixin_trait) n → n ≡ value
      → copies_by (mixin_value traits mixin) rows ≡ filter (λ r. is_copied value r.0) rows
  copies_told mixin n value rows is same =
      by (find text_cmp mixin_trait (named_view (traits_found mixin traits))) (direct mixin mixin_trait)
    where
      by : (o : Option Folded)
          → MatchOption o (trait_values ss mixin mixin_trait ≡ []) (IsFolded (trait_values ss mixin mixin_trait))
          → copies_by o rows ≡ filter (λ r. is_copied value r.0) rows
      by None none = absurd (subst (λ vs. IsValueOf vs n) none is)
      by (Some f) folded =
          let one : value_node f ≡ value =
          one_value (trait_values ss mixin mixin_trait) (value_node f) n folded.value is ∙ same in
          ap (λ v. filter (λ r. is_copied v r.0) rows) one

  module _ (mixed : List (Vec Contributing)) (are : AreMixedIn ss rows mixed) (o : IsMixedOrder walk.order.items mixed)
      (members : List (Vec NamedTarget)) (all : List ShapeTraits)
      (filled : IsFilled (HasMixedMembers rows mixed) walk.order.items (length walk.order.items) members) (n : ℕ)
      (with_traits : IsFilled (HasMixedTraits traits rows members mixed) walk.order.items n all) where
    pub record IsDone (v : ℕ) : Type 0 where
      pub comes : (id : List ℕ) → At (ids_of rows) v id → IsEffective ss id (shape_at_number members all v)
      pub other : HasNoOther members all v

    -- what is known of mixins that stand before a place
    abbrev AllDone : ShapeStated → List Contributing → Type 0
    AllDone s [] = Unit {0}
    AllDone s (c ∷ cs) =
        ((mixin : List ℕ) × ContributesBy ss rows s mixin c) × HasEntry (HasMixedTraits traits rows members mixed) all c.number
        × IsDone c.number × AllDone s cs

    all_done : (k : ℕ) (s : ShapeStated) (mixins : List (List ℕ)) (cs : List Contributing)
        → ((i w : ℕ) → i < k → At walk.order.items i w → IsDone w) → k < n → MixIn ss rows s mixins cs
        → AreBehind walk.order.items k cs → AllDone s cs
    all_done k s [] cs before low none behind = subst (AllDone s) (sym none) tt
    all_done k s (mixin ∷ mixins) cs before low (inl (never, rest)) behind = all_done k s mixins cs before low rest behind
    all_done k s (mixin ∷ mixins) cs before low (inr (c, told, rest, is, more)) behind =
        let b : AreBehind walk.order.items k (c ∷ rest) = subst (AreBehind walk.order.items k) is behind in
        let stands : StandsBefore walk.order.items k c.number = b.0 in
        let early : stands.place < k = stands.before in
        let inside : stands.place < n = omega (arith, early, low) in
        subst (AllDone s) (sym is) (
          (mixin, told),
          with_traits stands.place c.number inside stands.there,
          before stands.place c.number stands.before stands.there,
          all_done k s mixins rest before low more b.1,
        )

    copied_so : (s : ShapeStated) (cs : List Contributing) → AllDone s cs → AllCopiedBy members all cs
    copied_so s [] h = tt
    copied_so s (c ∷ cs) h =
        let mixin = h.0.0 in
        let told : ContributesBy ss rows s h.0.0 c = h.0.1 in
        let entry : HasEntry (HasMixedTraits traits rows members mixed) all c.number = h.1 in
        let row = shape_row c.number h.0.0 told.there in (
          ap (λ x. folded_rows (copied_traits x)) entry.there ∙ entry.is.copied
              ∙ ap (λ i. copies_by (mixin_value traits i) (folded_rows entry.entry.own.items)) row.named
              ∙ copies_told h.0.0 told.contributes.mixin_value (node_of c.value.now) (folded_rows entry.entry.own.items)
              told.contributes.marked told.value
              ∙ sym (ap (λ x. filter (λ r. is_copied (node_of c.value.now) r.0) (folded_rows (own_traits x))) entry.there),
          copied_so s cs h.3,
        )

    others_so : (s : ShapeStated) (cs : List Contributing) → AllDone s cs → AllHaveNoOther members all cs
    others_so s [] h = tt
    others_so s (c ∷ cs) h = (h.2.other, others_so s cs h.3)

    kept_so : (name : List ℕ) (s : ShapeStated) (cs : List Contributing) → AllDone s cs
        → last_first (kept_by name all) cs ≡ last_first (kept_at name all) cs
    kept_so name s [] h = refl
    kept_so name s (c ∷ cs) h =
        let entry : HasEntry (HasMixedTraits traits rows members mixed) all c.number = h.1 in
        λ i. kept_so name s cs h.3 i
        ++ (ap (λ x. kept_of (member_lists x) name) entry.there ∙ kept_once name entry.entry.members.items entry.is.rise
        ∙ sym (ap (λ x. filter is_kept (folded_rows (traits_of_member name (member_lists x)))) entry.there)) i

    effective_so : (s : ShapeStated) (cs : List Contributing) → AllDone s cs → AllEffective members all ss rows s cs
    effective_so s [] h = tt
    effective_so s (c ∷ cs) h = (h.2.comes, effective_so s cs h.3)

    mixes_in : (v : ℕ) (id : List ℕ) → At (ids_of rows) v id → (s : ShapeStated) → shape_under id ss ≡ Some s → v < length mixed
        → MixIn ss rows s s.mixins (items_at mixed v)
    mixes_in v id at_v s there small =
        let here = at_there mixed v small in
        subst (MixIn ss rows s s.mixins) (sym (ap vec_items here.1)) (are.each v id s here.0 at_v there here.1)

    -- a shape, when those before it are done
    done_at : (k v : ℕ) → k < n → At walk.order.items k v → ((i w : ℕ) → i < k → At walk.order.items i w → IsDone w) → IsDone v
    done_at k v low at_k before =
        let m : HasEntry (HasMixedMembers rows mixed) members v = filled k v (at_within walk.order.items k v at_k) at_k in
        let e : HasEntry (HasMixedTraits traits rows members mixed) all v = with_traits k v low at_k in
        let size : length mixed ≡ length rows = are.size in
        let inside : v < length (ids_of rows) = t.walked.within k v at_k in
        let count : length (ids_of rows) ≡ length rows = ids_count rows in
        let small : v < length mixed = omega (arith, size, inside, count) in
        let any = at_there (ids_of rows) v inside in
        let done : (s : ShapeStated) (id : List ℕ) → At (ids_of rows) v id → shape_under id ss ≡ Some s → AllDone s (items_at mixed v) =
        λ s id at_v there. all_done k s s.mixins (items_at mixed v) before low (mixes_in v id at_v s there small) (o.behind k v at_k) in
        let are_ms : (r : (id : List ℕ) × At (ids_of rows) v id)
        → members_at members v
        ≡ firsts (mixed_members members (items_at mixed v) ++ names_and_targets (shape_row v r.0 r.1).s.shape.members) =
        λ r. ap (λ x. targets_view (vec_items x)) m.there ∙ m.is
        ∙ ap (λ own. firsts (mixed_members members (items_at mixed v) ++ own)) (shape_row v r.0 r.1).own in
        let from : (r : (id : List ℕ) × At (ids_of rows) v id)
        → AreTraitsFrom traits r.0 (members_at members v) (items_at mixed v) all e.entry =
        λ r. subst (λ i. AreTraitsFrom traits i (members_at members v) (items_at mixed v) all e.entry) (shape_row v r.0 r.1).named e.is in
        record {
          comes = λ id at_v.
              let row = shape_row v id at_v in
              let d = done row.s id at_v row.there in
              subst (λ x. IsEffective ss id (seen_as (members_at members v) (own_traits x) (member_lists x))) (sym e.there)
              (effective id (seen_as (members_at members v) e.entry.own.items e.entry.members.items) row.s
              (copies_at members all (items_at mixed v)) row.there
              (copied_by members all ss rows row.s row.s.mixins (items_at mixed v) (mixes_in v id at_v row.s row.there small)
              (effective_so row.s (items_at mixed v) d))
              (made ss traits t.traits_of id row.s members all (items_at mixed v)
              (λ name. kept_so name row.s (items_at mixed v) d) (members_at members v) e.entry (are_ms (id, at_v))
              (from (id, at_v)) (copied_so row.s (items_at mixed v) d) (others_so row.s (items_at mixed v) d)));
          other = λ name k none.
              let row = shape_row v any.0 any.1 in
              ap (λ x. find text_cmp k (folded_rows (traits_of_member name (member_lists x)))) e.there
              ∙ no_other ss traits t.traits_of any.0 row.s members all (items_at mixed v)
              (λ k. kept_so k row.s (items_at mixed v) (done row.s any.0 any.1 row.there)) (members_at members v) e.entry
              (are_ms any) (from any)
              (others_so row.s (items_at mixed v) (done row.s any.0 any.1 row.there)) name k none;
        }

    done_before : (k i v : ℕ) → i < k → i < n → At walk.order.items i v → IsDone v
    done_before zero i v low early at_i = absurd (omega (arith, low))
    done_before (suc k) i v low early at_i =
        done_at i v early at_i (λ j w before at_j.
        let earlier : j < k = omega (arith, before, low) in
        let sooner : j < n = omega (arith, before, early) in done_before k j w earlier sooner at_j)

    pub done_by : (i v : ℕ) → i < n → At walk.order.items i v → IsDone v
    done_by i v early at_i = done_before n i v early early at_i
