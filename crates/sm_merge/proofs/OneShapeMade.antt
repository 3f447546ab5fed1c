-- One shape: made from the copies of its mixins and from what is given.
use Rattle.std.proofs.Common.{◌≡◌, ℕ, Bool, true, false, cond, List, [], ◌∷◌, ◌++◌, map, Option, Some, None, refl, sym, ap, subst}
use Rattle.std.proofs.Common.{◌∙◌, bytes_eq}
use Rattle.std.specs.Prelude.{◌↔◌, MatchOption, not, slice_get, if◌then◌else◌}
use Rattle.std.specs.Global.{Vec}
use Rattle.std.specs.Option.{option_map, option_or}
use Rattle.std.specs.FinMap as fin
use Rattle.std.specs.FinMap.Entries.{find}
use Rattle.std.proofs.lemmas.Option.{none-some, same_Some}
use Rattle.std.proofs.lemmas.Slice.Eq.{bytes_eq-Decides}
use Rattle.sm_tree.specs.Node.{Node}
use Rattle.sm_model.specs.Graphs.{MemberEntry, member_id, text_cmp}
use Rattle.sm_merge.specs.Mixins.{AreEffectiveMembers, IsEffectiveValue, IsMadeFrom}
use Rattle.sm_merge.specs.Mixins.{all_members, each_once, member_values, mixin_trait, shape_values}
use Rattle.sm_merge.specs.Places.{names_and_targets, trait_values}
use Rattle.sm_merge.specs.Stated.{ShapeStated, Stated}
use Rattle.sm_merge.specs.steps.EffectiveTables.{effective_member, traits_map, traits_of_member}
use Rattle.sm_merge.specs.steps.Filling.{AreFirstRows, AreTraitsFrom, copied_at, folded_rows, given_rows, kept_at, kept_by, last_first}
use Rattle.sm_merge.specs.steps.Filling.{member_lists, member_rows}
use Rattle.sm_merge.specs.steps.Filling.{members_at, mixed_members, shape_rows}
use Rattle.sm_merge.specs.steps.Firsts.{NamesAndTargets, firsts}
use Rattle.sm_merge.specs.steps.Folding.{IsFolded}
use Rattle.sm_merge.specs.steps.Tables.{AreTraitsOf, named_view, traits_found}
use Rattle.sm_merge.specs.declared.effective.NamedFolded.{NamedFolded}
use Rattle.sm_merge.specs.declared.effective.ShapeTraits.{ShapeTraits}
use Rattle.sm_merge.specs.declared.firsts.NamedTarget.{NamedTarget}
use Rattle.sm_merge.specs.declared.mixins.Contributing.{Contributing}
use Rattle.sm_merge.specs.declared.table.PlaceRow.{PlaceRow}
use Rattle.sm_merge.specs.declared.value.Folded.{Folded}
use Rattle.sm_merge.proofs.EffectiveMade.{AllCopiedBy, AllHaveNoOther, all_named, copies_at, got, member_copies, seen_as, shape_copies}
use Rattle.sm_merge.proofs.EffectiveMade.{named_members, names_named, target_found, value_node, value_told}
use Rattle.sm_merge.proofs.FirstNames.{names_once}
use Rattle.sm_merge.proofs.FoundRows.{find_firsts, find_joined, find_kept, firsts_found, here, passed}
use Rattle.sm_merge.proofs.MixinsTold.{found_given}
use Rattle.sm_merge.proofs.TablesMade.{AllFound}

first_of_none : (o p : Option Folded) → o ≡ None → p ≡ None → option_or o p ≡ None
first_of_none o p e f = (λ i. option_or (e i) (f i))

or_same : (o p : Option Folded) → (o ≡ None → p ≡ None) → option_or o p ≡ o
or_same None p h = h refl
or_same (Some f) p h = refl

-- what is given at a member, among what is given at all of them
module _ (traits : List PlaceRow) (id name t : List ℕ) where
  given_nothing : (ps : NamesAndTargets) → find text_cmp t (named_view (traits_found (member_id id name) traits)) ≡ None
      → find text_cmp t (given_rows traits id ps name) ≡ None
  given_nothing [] none = refl
  given_nothing (p ∷ ps) none = by (bytes_eq p.0 name) refl (given_nothing ps none)
    where
      by : (b : Bool) → bytes_eq p.0 name ≡ b → find text_cmp t (given_rows traits id ps name) ≡ None
          → find text_cmp t ((if b then named_view (traits_found (member_id id p.0) traits) else []) ++ given_rows traits id ps name) ≡ None
      by true is rest =
          find_joined t (named_view (traits_found (member_id id p.0) traits)) (given_rows traits id ps name)
          ∙ first_of_none (find text_cmp t (named_view (traits_found (member_id id p.0) traits)))
          (find text_cmp t (given_rows traits id ps name))
          (ap (λ n. find text_cmp t (named_view (traits_found (member_id id n) traits))) ((bytes_eq-Decides p.0 name).0 is) ∙ none)
          rest
      by false is rest = rest

  pub given_found : (ps : NamesAndTargets) (target : List ℕ) → find text_cmp name ps ≡ Some target
      → find text_cmp t (given_rows traits id ps name) ≡ find text_cmp t (named_view (traits_found (member_id id name) traits))
  given_found [] target h = absurd (none-some target h)
  given_found (p ∷ ps) target h = by (bytes_eq p.0 name) refl (λ e. given_found ps target e) (given_nothing ps)
    where
      by : (b : Bool) → bytes_eq p.0 name ≡ b
          → (find text_cmp name ps ≡ Some target
          → find text_cmp t (given_rows traits id ps name) ≡ find text_cmp t (named_view (traits_found (member_id id name) traits)))
          → (find text_cmp t (named_view (traits_found (member_id id name) traits)) ≡ None
          → find text_cmp t (given_rows traits id ps name) ≡ None)
          → find text_cmp t ((if b then named_view (traits_found (member_id id p.0) traits) else []) ++ given_rows traits id ps name)
          ≡ find text_cmp t (named_view (traits_found (member_id id name) traits))
      by true is rest nothing =
          find_joined t (named_view (traits_found (member_id id p.0) traits)) (given_rows traits id ps name)
          ∙ ap (λ n. option_or (find text_cmp t (named_view (traits_found (member_id id n) traits)))
          (find text_cmp t (given_rows traits id ps name)))
          ((bytes_eq-Decides p.0 name).0 is)
          ∙ or_same (find text_cmp t (named_view (traits_found (member_id id name) traits)))
          (find text_cmp t (given_rows traits id ps name))
          nothing
      by false is rest nothing = rest (sym (passed name p ps is) ∙ h)

  pub given_none : (ps : NamesAndTargets) → find text_cmp name ps ≡ None → given_rows traits id ps name ≡ []
  given_none [] h = refl
  given_none (p ∷ ps) h = by (bytes_eq p.0 name) refl (λ e. given_none ps e)
    where
      by : (b : Bool) → bytes_eq p.0 name ≡ b → (find text_cmp name ps ≡ None → given_rows traits id ps name ≡ [])
          → (if b then named_view (traits_found (member_id id p.0) traits) else []) ++ given_rows traits id ps name ≡ []
      by true is rest = absurd (none-some p.1 (sym (sym (here name p ps is) ∙ h)))
      by false is rest = rest (sym (passed name p ps is) ∙ h)

-- a name that no part has
parts_none : {X : Type 0} (k : List ℕ) (es fs : List (List ℕ × X)) → find text_cmp k (es ++ fs) ≡ None
    → (find text_cmp k es ≡ None) × (find text_cmp k fs ≡ None)
parts_none {X} k es fs h = by (find text_cmp k es) refl (sym (find_joined k es fs) ∙ h)
  where
    by : (o : Option X) → find text_cmp k es ≡ o → option_or o (find text_cmp k fs) ≡ None
        → (find text_cmp k es ≡ None) × (find text_cmp k fs ≡ None)
    by None is rest = (is, rest)
    by (Some x) is rest = absurd (none-some x (sym rest))

module _ (ss : List Stated) (traits : List PlaceRow) (are : AreTraitsOf ss traits) (id : List ℕ) (s : ShapeStated)
    (members : List (Vec NamedTarget)) (all : List ShapeTraits) (cs : List Contributing)
    (kept : (name : List ℕ) → last_first (kept_by name all) cs ≡ last_first (kept_at name all) cs) where
  -- what is given at a place
  direct : (place t : List ℕ)
      → MatchOption (find text_cmp t (named_view (traits_found place traits))) (trait_values ss place t ≡ [])
      (IsFolded (trait_values ss place t))
  direct place t =
      subst (λ o. MatchOption o (trait_values ss place t ≡ []) (IsFolded (trait_values ss place t)))
      (found_given traits place t (find text_cmp t (named_view (traits_found place traits))) refl) (are.each place t)

  along : (a b : Option Node) (P : Type 0) (n : Node) → a ≡ b → (b ≡ Some n) ↔ P → (a ≡ Some n) ↔ P
  along a b P n e h = (λ is. h.0 (sym e ∙ is), λ p. e ∙ h.1 p)

  own_told : (own : List NamedFolded) → AreFirstRows (shape_rows traits id all cs) own → AllCopiedBy members all cs
      → (t : List ℕ) (n : Node)
      → (fin.get (traits_map own) t ≡ Some n) ↔ IsEffectiveValue ss id (shape_values (copies_at members all cs) t) t n
  own_told own first copied t n =
      along (fin.get (traits_map own) t)
      (option_map value_node (option_or (find text_cmp t (named_view (traits_found id traits)))
      (find text_cmp t (last_first (copied_at all) cs))))
      (IsEffectiveValue ss id (shape_values (copies_at members all cs) t) t n) n
      (got own t ∙ ap (option_map value_node) (first.same t
      ∙ find_joined t (named_view (traits_found id traits)) (last_first (copied_at all) cs)))
      (value_told (trait_values ss id t) (find text_cmp t (named_view (traits_found id traits)))
      (find text_cmp t (last_first (copied_at all) cs)) (shape_values (copies_at members all cs) t) n (direct id t)
      (shape_copies members all cs t copied))

  member_told : (ms : NamesAndTargets) (name target : List ℕ) (rows : List NamedFolded)
      → AreFirstRows (member_rows traits id ms all cs name) rows → find text_cmp name ms ≡ Some target → AllHaveNoOther members all cs
      → (t : List ℕ) (n : Node)
      → (fin.get (traits_map rows) t ≡ Some n)
      ↔ IsEffectiveValue ss (member_id id name) (member_values (copies_at members all cs) name t) t n
  member_told ms name target rows first found others t n =
      along (fin.get (traits_map rows) t)
      (option_map value_node (option_or (find text_cmp t (named_view (traits_found (member_id id name) traits)))
      (find text_cmp t (last_first (kept_at name all) cs))))
      (IsEffectiveValue ss (member_id id name) (member_values (copies_at members all cs) name t) t n) n
      (got rows t ∙ ap (option_map value_node) (first.same t
      ∙ ap (λ rows. find text_cmp t (given_rows traits id ms name ++ rows)) (kept name)
      ∙ find_joined t (given_rows traits id ms name) (last_first (kept_at name all) cs)
      ∙ ap (λ o. option_or o (find text_cmp t (last_first (kept_at name all) cs))) (given_found traits id name t ms target found)))
      (value_told (trait_values ss (member_id id name) t) (find text_cmp t (named_view (traits_found (member_id id name) traits)))
      (find text_cmp t (last_first (kept_at name all) cs)) (member_values (copies_at members all cs) name t) n
      (direct (member_id id name) t)
      (member_copies members all cs name t others))

  first_target : (name target : List ℕ) → find text_cmp name (mixed_members members cs ++ names_and_targets s.shape.members) ≡ Some target
      → (e : MemberEntry) × (find text_cmp name (all_members (copies_at members all cs) s.shape.members) ≡ Some e) × (target ≡ e.target)
  first_target name target h =
      by (find text_cmp name (all_members (copies_at members all cs) s.shape.members)) refl
      (sym (target_found name (all_members (copies_at members all cs) s.shape.members))
      ∙ ap (find text_cmp name) (all_named members all cs s.shape.members) ∙ h)
    where
      by : (o : Option MemberEntry) → find text_cmp name (all_members (copies_at members all cs) s.shape.members) ≡ o
          → option_map (λ (e : MemberEntry). e.target) o ≡ Some target
          → (e : MemberEntry) × (find text_cmp name (all_members (copies_at members all cs) s.shape.members) ≡ Some e) × (target ≡ e.target)
      by None is bad = absurd (none-some target bad)
      by (Some e) is same = (e, is, sym (same_Some e.target target same))

  members_made : (ms : NamesAndTargets) (t : ShapeTraits) → AreTraitsFrom traits id ms cs all t → AllHaveNoOther members all cs
      → ms ≡ firsts (mixed_members members cs ++ names_and_targets s.shape.members) → (ps : NamesAndTargets)
      → AllFound (λ k. find text_cmp k (mixed_members members cs ++ names_and_targets s.shape.members)) ps
      → AreEffectiveMembers ss id (copies_at members all cs) (all_members (copies_at members all cs) s.shape.members)
      (map (effective_member t.members.items) ps)
  members_made ms t from others are_ms [] found = tt
  members_made ms t from others are_ms (p ∷ ps) found =
      let first = first_target p.0 p.1 found.0 in
      let here : find text_cmp p.0 ms ≡ Some p.1 =
      ap (find text_cmp p.0) are_ms ∙ find_firsts p.0 (mixed_members members cs ++ names_and_targets s.shape.members) ∙ found.0 in (
        record {
          first = first.0;
          found = first.1;
          target = first.2;
          traits = member_told ms p.0 p.1 (traits_of_member p.0 t.members.items) (from.members p.0) here others;
        },
        members_made ms t from others are_ms ps found.1,
      )

  pub made : (ms : NamesAndTargets) (t : ShapeTraits) → ms ≡ firsts (mixed_members members cs ++ names_and_targets s.shape.members)
      → AreTraitsFrom traits id ms cs all t → AllCopiedBy members all cs → AllHaveNoOther members all cs
      → IsMadeFrom ss id s (copies_at members all cs) (seen_as ms t.own.items t.members.items)
  made ms t are_ms from copied others = record {
    names =
        names_named (map (effective_member t.members.items) ms) ∙ ap (map (λ p. p.0)) (named_members t.members.items ms ∙ are_ms)
        ∙ names_once (mixed_members members cs ++ names_and_targets s.shape.members)
        ∙ ap each_once (sym (names_named (all_members (copies_at members all cs) s.shape.members)
        ∙ ap (map (λ p. p.0)) (all_named members all cs s.shape.members)));
    members = members_made ms t from others are_ms ms
        (subst (AllFound (λ k. find text_cmp k (mixed_members members cs ++ names_and_targets s.shape.members))) (sym are_ms)
        (firsts_found (mixed_members members cs ++ names_and_targets s.shape.members)));
    traits = own_told t.own.items from.own copied;
  }

  -- and it has no traits of what isn't its member
  none_mixed : (name t : List ℕ) (ds : List Contributing) → AllHaveNoOther members all ds
      → find text_cmp name (mixed_members members ds) ≡ None → find text_cmp t (last_first (kept_at name all) ds) ≡ None
  none_mixed name t [] h none = refl
  none_mixed name t (d ∷ ds) h none =
      let apart = parts_none name (members_at members d.number) (mixed_members members ds) none in
      find_joined t (last_first (kept_at name all) ds) (kept_at name all d)
      ∙ first_of_none (find text_cmp t (last_first (kept_at name all) ds)) (find text_cmp t (kept_at name all d))
      (none_mixed name t ds h.1 apart.1)
      (find_kept t (λ k. not (bytes_eq k mixin_trait))
      (folded_rows (traits_of_member name (member_lists (slice_get all d.number))))
      ∙ ap (λ o. cond (not (bytes_eq t mixin_trait)) o None) (h.0 name t apart.0) ∙ none_either (not (bytes_eq t mixin_trait)))
    where
      none_either : (b : Bool) → Path (Option Folded) (cond b None None) None
      none_either true = refl
      none_either false = refl

  pub no_other : (ms : NamesAndTargets) (t : ShapeTraits) → ms ≡ firsts (mixed_members members cs ++ names_and_targets s.shape.members)
      → AreTraitsFrom traits id ms cs all t → AllHaveNoOther members all cs → (name k : List ℕ) → find text_cmp name ms ≡ None
      → find text_cmp k (folded_rows (traits_of_member name t.members.items)) ≡ None
  no_other ms t are_ms from others name k none =
      let apart = parts_none name (mixed_members members cs) (names_and_targets s.shape.members)
      (sym (ap (find text_cmp name) are_ms ∙ find_firsts name (mixed_members members cs ++ names_and_targets s.shape.members)) ∙ none) in
      (from.members name).same k
      ∙ ap (λ rows. find text_cmp k (given_rows traits id ms name ++ rows)) (kept name)
      ∙ ap (λ rows. find text_cmp k (rows ++ last_first (kept_at name all) cs)) (given_none traits id name k ms none)
      ∙ none_mixed name k cs others apart.0
