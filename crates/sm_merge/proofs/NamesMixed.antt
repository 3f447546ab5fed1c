-- The members of each shape are those of the table, whatever traits they have.
use Rattle.std.proofs.Common.{◌≡◌, inl, inr, ℕ, zero, suc, ◌<◌, List, [], ◌∷◌, ◌++◌, map, length, Some, refl, sym, ap, subst, ◌∙◌}
use Rattle.std.proofs.Common.{arith}
use Rattle.std.specs.Global.{Vec}
use Rattle.std.specs.List.{flat_map}
use Rattle.std.specs.Option.{option_map}
use Rattle.std.specs.FinMap.Entries.{find}
use Rattle.std.proofs.lemmas.Option.{same_Some}
use Rattle.sm_model.specs.Graphs.{MemberEntry, text_cmp}
use Rattle.sm_merge.specs.Mixins.{AreCopied, AreEffectiveMembers, EffectiveMembers, EffectiveShape, IsMadeFrom}
use Rattle.sm_merge.specs.Mixins.{all_members, copy_of, each_once, effective, mixed_in, no_mixins, own_member, passed_over}
use Rattle.sm_merge.specs.Places.{names_and_targets, shape_under}
use Rattle.sm_merge.specs.Stated.{ShapeStated, Stated}
use Rattle.sm_merge.specs.steps.Contributing.{AreWalkedTables}
use Rattle.sm_merge.specs.steps.EffectiveTables.{AreMembersOf, HasMembers, named_targets}
use Rattle.sm_merge.specs.steps.Filling.{HasEntry, HasMixedMembers, IsFilled, all_targets, members_at, mixed_members, own_at}
use Rattle.sm_merge.specs.steps.Firsts.{NamesAndTargets, firsts, targets_view}
use Rattle.sm_merge.specs.steps.Links.{At, StandsBefore}
use Rattle.sm_merge.specs.steps.MixedIn.{AreBehind, AreMixedIn, IsMixedOrder, MixIn, items_at, vec_items}
use Rattle.sm_merge.specs.steps.ShapeTables.{ids_of}
use Rattle.sm_merge.specs.declared.firsts.NamedTarget.{NamedTarget}
use Rattle.sm_merge.specs.declared.mixins.Contributing.{Contributing}
use Rattle.sm_merge.specs.declared.parts.BareShape.{BareShape}
use Rattle.sm_merge.specs.declared.table.PlaceRow.{PlaceRow}
use Rattle.sm_merge.specs.declared.walk.Walk.{Walk}
use Rattle.sm_merge.proofs.Ats.{at_there, at_within}
use Rattle.sm_merge.proofs.EffectiveAll.{shape_row}
use Rattle.sm_merge.proofs.EffectiveMade.{named_copies, named_joined, named_own, names_named, target_found}
use Rattle.sm_merge.proofs.FirstNames.{names_once}
use Rattle.sm_merge.proofs.FoundRows.{firsts_found}
use Rattle.sm_merge.proofs.ShapeNumbers.{ids_count}
use Rattle.sm_merge.proofs.TablesMade.{AllFound}

-- lists with the same names, of which each is found with the same target, are one
abbrev head_of : List (List ℕ) → List ℕ
head_of [] = []
head_of (k ∷ ks) = k

abbrev rest_of : List (List ℕ) → List (List ℕ)
rest_of [] = []
rest_of (k ∷ ks) = ks

abbrev IsCons : List (List ℕ) → Type 0
IsCons [] = ⊥
IsCons (k ∷ ks) = Unit {0}

one_list : (all ps qs : NamesAndTargets) → map (λ p. p.0) ps ≡ map (λ p. p.0) qs → AllFound (λ k. find text_cmp k all) ps
    → AllFound (λ k. find text_cmp k all) qs → ps ≡ qs
one_list all [] [] e h g = refl
one_list all [] (q ∷ qs) e h g = absurd (subst IsCons (sym e) tt)
one_list all (p ∷ ps) [] e h g = absurd (subst IsCons e tt)
one_list all (p ∷ ps) (q ∷ qs) e h g =
    let name : p.0 ≡ q.0 = ap head_of e in
    let target : p.1 ≡ q.1 = same_Some p.1 q.1 (sym h.0 ∙ ap (λ k. find text_cmp k all) name ∙ g.0) in
    let rest = one_list all ps qs (ap rest_of e) h.1 g.1 in
    λ i. (name i, target i) ∷ rest i

-- effective members are found among those that they are made from
found_targets : (ss : List Stated) (id : List ℕ) (copied : List EffectiveShape) (all ms : EffectiveMembers)
    → AreEffectiveMembers ss id copied all ms → AllFound (λ k. find text_cmp k (named_targets all)) (named_targets ms)
found_targets ss id copied all [] h = tt
found_targets ss id copied all (m ∷ ms) h = (
  target_found m.0 all ∙ ap (option_map (λ (e : MemberEntry). e.target)) h.0.found ∙ ap (λ t. Some t) (sym h.0.target),
  found_targets ss id copied all ms h.1,
)

pub made_names : (ss : List Stated) (id : List ℕ) (s : ShapeStated) (copied : List EffectiveShape) (m : EffectiveShape)
    → IsMadeFrom ss id s copied m → named_targets m.members ≡ firsts (named_targets (all_members copied s.shape.members))
made_names ss id s copied m made =
    one_list (named_targets (all_members copied s.shape.members)) (named_targets m.members)
    (firsts (named_targets (all_members copied s.shape.members)))
    (sym (names_named m.members) ∙ made.names ∙ ap each_once (names_named (all_members copied s.shape.members))
    ∙ sym (names_once (named_targets (all_members copied s.shape.members))))
    (found_targets ss id copied (all_members copied s.shape.members) m.members made.members)
    (firsts_found (named_targets (all_members copied s.shape.members)))

module _ (ss : List Stated) (rows : List BareShape) (members : List (Vec NamedTarget)) where
  abbrev pub AllNamed : List Contributing → Type 0
  AllNamed [] = Unit {0}
  AllNamed (c ∷ cs) =
      ((mixin : List ℕ) → At (ids_of rows) c.number mixin → HasMembers ss mixin (members_at members c.number)) × AllNamed cs

  named_mixed : (s : ShapeStated) (mixins : List (List ℕ)) (cs : List Contributing) (copied : List EffectiveShape)
      → MixIn ss rows s mixins cs → AreCopied ss s mixins copied → AllNamed cs
      → named_targets (flat_map (λ m. m.members) copied) ≡ mixed_members members cs
  named_mixed s [] cs copied none (no_mixins t) h = ap (mixed_members members) (sym none)
  named_mixed s (mixin ∷ mixins) cs copied (inl (never, rest)) (mixed_in t other others c m more e behind) h = absurd (never c)
  named_mixed s (mixin ∷ mixins) cs copied (inl (never, rest)) (passed_over t other others more none behind) h =
      named_mixed s mixins cs copied rest behind h
  named_mixed s (mixin ∷ mixins) cs copied (inr (d, told, rest, is, after)) (mixed_in t other others c m more e behind) h =
      let each : AllNamed (d ∷ rest) = subst AllNamed is h in
      named_joined (copy_of c.mixin_value m).members (flat_map (λ n. n.members) more)
      ∙ (λ i. (named_copies m.members ∙ each.0 mixin told.there m e) i ++ named_mixed s mixins rest more after behind each.1 i)
      ∙ ap (mixed_members members) (sym is)
  named_mixed s (mixin ∷ mixins) cs copied (inr (d, told, rest, is, after)) (passed_over t other others more never behind) h =
      absurd (never told.contributes)

  -- the members that a shape is made from
  whole_targets : (s : ShapeStated) (cs : List Contributing) (copied : List EffectiveShape) (own : NamesAndTargets)
      → MixIn ss rows s s.mixins cs → AreCopied ss s s.mixins copied → AllNamed cs → own ≡ names_and_targets s.shape.members
      → named_targets (all_members copied s.shape.members) ≡ all_targets members cs own
  whole_targets s cs copied own mixes from h same =
      named_joined (flat_map (λ x. x.members) copied) (map own_member s.shape.members)
      ∙ (λ j. named_mixed s s.mixins cs copied mixes from h j ++ (named_own s.shape.members ∙ sym same) j)

-- and the shape at a number
module _ (ss : List Stated) (rows : List BareShape) (traits : List PlaceRow) (walk : Walk) (t : AreWalkedTables ss rows traits walk)
    (mixed : List (Vec Contributing)) (are : AreMixedIn ss rows mixed) (members : List (Vec NamedTarget)) where
  pub targets_here : (v : ℕ) (id : List ℕ) → At (ids_of rows) v id → (s : ShapeStated) → shape_under id ss ≡ Some s
      → (copied : List EffectiveShape) → AreCopied ss s s.mixins copied
      → (MixIn ss rows s s.mixins (items_at mixed v) → AllNamed ss rows members (items_at mixed v))
      → named_targets (all_members copied s.shape.members) ≡ all_targets members (items_at mixed v) (own_at rows v)
  targets_here v id at_v s there copied from named =
      let row = shape_row ss rows traits walk t v id at_v in
      let shape : row.s ≡ s = same_Some row.s s (sym row.there ∙ there) in
      let inside : v < length (ids_of rows) = at_within (ids_of rows) v id at_v in
      let count : length (ids_of rows) ≡ length rows = ids_count rows in
      let size : length mixed ≡ length rows = are.size in
      let small : v < length mixed = omega (arith, inside, count, size) in
      let here = at_there mixed v small in
      let cs : MixIn ss rows s s.mixins (items_at mixed v) =
      subst (MixIn ss rows s s.mixins) (sym (ap vec_items here.1)) (are.each v id s here.0 at_v there here.1) in
      whole_targets ss rows members s (items_at mixed v) copied (own_at rows v) cs from (named cs)
      (row.own ∙ ap (λ x. names_and_targets x.shape.members) shape)

module _ (ss : List Stated) (rows : List BareShape) (traits : List PlaceRow) (walk : Walk) (t : AreWalkedTables ss rows traits walk)
    (mixed : List (Vec Contributing)) (are : AreMixedIn ss rows mixed) (o : IsMixedOrder walk.order.items mixed)
    (members : List (Vec NamedTarget)) (n : ℕ) (filled : IsFilled (HasMixedMembers rows mixed) walk.order.items n members) where
  abbrev IsNamed : ℕ → Type 0
  IsNamed v = (id : List ℕ) → At (ids_of rows) v id → HasMembers ss id (members_at members v)

  all_named : (k : ℕ) (s : ShapeStated) (mixins : List (List ℕ)) (cs : List Contributing)
      → ((i w : ℕ) → i < k → At walk.order.items i w → IsNamed w) → MixIn ss rows s mixins cs → AreBehind walk.order.items k cs
      → AllNamed ss rows members cs
  all_named k s [] cs before none behind = subst (AllNamed ss rows members) (sym none) tt
  all_named k s (mixin ∷ mixins) cs before (inl (never, rest)) behind = all_named k s mixins cs before rest behind
  all_named k s (mixin ∷ mixins) cs before (inr (c, told, rest, is, more)) behind =
      let b : AreBehind walk.order.items k (c ∷ rest) = subst (AreBehind walk.order.items k) is behind in
      subst (AllNamed ss rows members) (sym is)
      (before b.0.place c.number b.0.before b.0.there, all_named k s mixins rest before more b.1)

  -- one shape, when those before it are told
  named_at : (k v : ℕ) → k < n → At walk.order.items k v → ((i w : ℕ) → i < k → At walk.order.items i w → IsNamed w) → IsNamed v
  named_at k v low at_k before id at_v m (effective i x s copied there from made) =
      let e : HasEntry (HasMixedMembers rows mixed) members v = filled k v low at_k in
      made_names ss id s copied m made
      ∙ ap firsts (targets_here ss rows traits walk t mixed are members v id at_v s there copied from
      (λ cs. all_named k s s.mixins (items_at mixed v) before cs (o.behind k v at_k)))
      ∙ sym (ap (λ x. targets_view (vec_items x)) e.there ∙ e.is)

  named_before : (k i v : ℕ) → i < k → i < n → At walk.order.items i v → IsNamed v
  named_before zero i v low early at_i = absurd (omega (arith, low))
  named_before (suc k) i v low early at_i = named_at i v early at_i (λ j w before at_j.
      let earlier : j < k = omega (arith, before, low) in
      let sooner : j < n = omega (arith, before, early) in named_before k j w earlier sooner at_j)

  pub named_by : (i v : ℕ) → i < n → At walk.order.items i v → IsNamed v
  named_by i v early at_i = named_before n i v early early at_i

module _ (ss : List Stated) (rows : List BareShape) (traits : List PlaceRow) (walk : Walk) (t : AreWalkedTables ss rows traits walk)
    (mixed : List (Vec Contributing)) (are : AreMixedIn ss rows mixed) (o : IsMixedOrder walk.order.items mixed)
    (members : List (Vec NamedTarget)) (filled : IsFilled (HasMixedMembers rows mixed) walk.order.items (length walk.order.items)
    members) where
  pub members_are : length members ≡ length rows → AreMembersOf ss rows members
  members_are size = record {
    size = size;
    each = λ v id ms at_v at_ms.
        let inside : v < length (ids_of rows) = at_within (ids_of rows) v id at_v in
        let stands : StandsBefore walk.order.items (length walk.order.items) v = t.walked.all v inside in
        subst (HasMembers ss id) (ap (λ x. targets_view (vec_items x)) at_ms)
        (named_by ss rows traits walk t mixed are o members (length walk.order.items) filled stands.place v stands.before
        stands.there id at_v);
  }
