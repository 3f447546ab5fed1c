-- Nothing is wrong with statements that state a part of a regular graph; and metadata come to what the graph has.
use Rattle.std.proofs.Common.{◌≡◌, inl, inr, ℕ, Bool, true, false, List, [], ◌∷◌, map, Option, Some, None, refl, sym, ap}
use Rattle.std.proofs.Common.{subst, ◌∙◌, bytes_eq}
use Rattle.std.specs.Prelude.{◌↔◌, cond, if◌then◌else◌}
use Rattle.std.specs.List.{Contains, cons_option}
use Rattle.std.specs.FinMap as fin
use Rattle.std.specs.FinMap.Entries.{find}
use Rattle.std.specs.FinMap.{get-retain_keys, slice_cmp-IsAntisymmetric, nat_cmp-IsAntisymmetric}
use Rattle.std.proofs.lemmas.Option.{none-some, same_Some}
use Rattle.std.proofs.lemmas.Slice.Eq.{bytes_eq-Decides}
use Rattle.sm_tree.specs.Node.{Node}
use Rattle.sm_tree.specs.Same.{Same}
use Rattle.sm_tree.proofs.Sameness.{reflexive}
use Rattle.sm_model.specs.EventView.{EventTold}
use Rattle.sm_model.specs.Graphs.{Entry, GraphMaps, MemberEntry, ShapeMap, member_id, text_cmp}
use Rattle.sm_model.specs.PreludeShapes.{is_prelude_id}
use Rattle.sm_merge.specs.Merged.{HasTraitConflict, IsDefinedOtherwise, IsMergedMember, IsMergedShape, IsThere, IsWrong}
use Rattle.sm_merge.specs.Merged.{HasOtherShape, IsStatedAgain, HasBadMixin}
use Rattle.sm_merge.specs.Merged.{applied_to_nothing, bad_mixin, defined_otherwise, metadata_conflict, other_shape, stated_again}
use Rattle.sm_merge.specs.Merged.{trait_conflict}
use Rattle.sm_merge.specs.Mixins.{AreCopied, EffectiveShape, all_members, no_mixins, own_member}
use Rattle.sm_merge.specs.Places.{Agree, metadata_values, trait_values}
use Rattle.sm_merge.specs.Stated.{ShapeStated, Stated, apply_stated, metadata_stated, shape_stated}
use Rattle.sm_merge.specs.Values.{AllComeTo, ConflictsAfter, HaveConflict, IsValueOf}
use Rattle.sm_merge.proofs.Amongs.{Among, among_from}
use Rattle.sm_merge.proofs.EntriesFound.{Has, found_has, has_found}
use Rattle.sm_merge.proofs.OneEffective.{one_copied, one_effective}
use Rattle.sm_merge.proofs.OneValue.{one_step, one_value}
use Rattle.sm_merge.proofs.PreludeGiven.{clash}
use Rattle.sm_merge.specs.Restated.{AllStateOf, ComesTo, StatedAgain, StatesOf, StatesPart, is_kept, part_of}
use Rattle.sm_merge.proofs.RegularGraphs.{IsRegular, merged_regular}
use Rattle.sm_merge.proofs.RestatedShapes.{member_given, own_differ, values_of_member, values_of_shape}
use Rattle.sm_merge.proofs.RestatedValues.{map_calm}
use Rattle.sm_merge.proofs.Restating.{alone_under, comes, effective_once, once, only_again, stands_again, under_first}

-- values that are all this one
abbrev pub AllAre : Node → List Node → Type 0
AllAre n [] = Unit {0}
AllAre n (v ∷ vs) = (v ≡ n) × AllAre n vs

come_to_it : (n : Node) (vs : List Node) → AllAre n vs → AllComeTo n vs n
come_to_it n [] h = refl
come_to_it n (v ∷ vs) h = (n, inl (subst (Same n) (sym h.0) (reflexive n), refl), come_to_it n vs h.1)

pub value_of_all : (n : Node) (vs : List Node) → AllAre n vs → (vs ≡ [] → ⊥) → IsValueOf vs n
value_of_all n [] h some = absurd (some refl)
value_of_all n (v ∷ vs) h some = subst (λ a. AllComeTo a vs n) (sym h.0) (come_to_it n vs h.1)

calm_behind : (n : Node) (vs : List Node) → AllAre n vs → ConflictsAfter n vs → ⊥
calm_behind n [] h conflict = conflict
calm_behind n (v ∷ vs) h (inl conflict) = conflict.0 (subst (Same n) (sym h.0) (reflexive n))
calm_behind n (v ∷ vs) h (inr (next, come, rest)) =
    let same : next ≡ n = one_step n v next n come (inl (subst (Same n) (sym h.0) (reflexive n), refl)) in
    calm_behind n vs h.1 (subst (λ a. ConflictsAfter a vs) same rest)

calm_all : (n : Node) (vs : List Node) → AllAre n vs → HaveConflict vs → ⊥
calm_all n [] h conflict = conflict
calm_all n (v ∷ vs) h conflict = calm_behind n vs h.1 (subst (λ a. ConflictsAfter a vs) h.0 conflict)

-- what stands among entries
among_has : {X : Type 0} (k : List ℕ) (x : X) (es : List (List ℕ × X)) → Among (k, x) es → Has k x es
among_has k x [] h = absurd h
among_has {X} k x (e ∷ es) (inl same) =
    inl (sym (ap (λ (p : List ℕ × X). p.0) same), sym (ap (λ (p : List ℕ × X). p.1) same))
among_has k x (e ∷ es) (inr later) = inr (among_has k x es later)

module _ (g : GraphMaps) (regular : IsRegular g) (keeps : List ℕ → Bool) (ss : List Stated) (part : StatesPart keeps g ss) where
  -- metadata
  all_held : (key : List ℕ) (n : Node) → fin.get g.metadata key ≡ Some n → (ts : List Stated) → AllStateOf keeps g ts
      → AllAre n (metadata_values ts key)
  all_held key n found [] h = tt
  all_held key n found (metadata_stated k v ∷ ts) h = by_test (all_held key n found ts h.1) (bytes_eq k key) refl
    where
      by_test : AllAre n (metadata_values ts key) → (b : Bool) → bytes_eq k key ≡ b
          → AllAre n (cons_option (if b then Some v else None) (metadata_values ts key))
      by_test rest true same =
          (same_Some v n (sym (subst (λ j. fin.get g.metadata j ≡ Some v) ((bytes_eq-Decides k key).0 same) h.0) ∙ found), rest)
      by_test rest false apart = rest
  all_held key n found (shape_stated s ∷ ts) h = all_held key n found ts h.1
  all_held key n found (apply_stated id traits ∷ ts) h = absurd h.0

  some_held : (key : List ℕ) (ts : List Stated) → AllStateOf keeps g ts → (vs : List Node) → metadata_values ts key ≡ vs
      → (vs ≡ [] → ⊥) → (n : Node) × (fin.get g.metadata key ≡ Some n)
  some_held key [] h vs are some = absurd (some (sym are))
  some_held key (metadata_stated k v ∷ ts) h vs are some =
      by_test (λ is. some_held key ts h.1 vs is some) (bytes_eq k key) refl are
    where
      by_test : (metadata_values ts key ≡ vs → (n : Node) × (fin.get g.metadata key ≡ Some n)) → (b : Bool) → bytes_eq k key ≡ b
          → cons_option (if b then Some v else None) (metadata_values ts key) ≡ vs → (n : Node) × (fin.get g.metadata key ≡ Some n)
      by_test rest true same is = (v, subst (λ j. fin.get g.metadata j ≡ Some v) ((bytes_eq-Decides k key).0 same) h.0)
      by_test rest false apart is = rest is
  some_held key (shape_stated s ∷ ts) h vs are some = some_held key ts h.1 vs are some
  some_held key (apply_stated id traits ∷ ts) h vs are some = absurd h.0

  not_none : (vs : List Node) (n : Node) → IsValueOf vs n → vs ≡ [] → ⊥
  not_none vs n value none = subst (λ xs. IsValueOf xs n) none value

  pub metadata_again : (key : List ℕ) (n : Node) → (fin.get g.metadata key ≡ Some n) ↔ IsValueOf (metadata_values ss key) n
  metadata_again key n = (
    λ found. value_of_all n (metadata_values ss key) (all_held key n found ss part.each) (part.metadata key n found),
    λ value.
        let held = some_held key ss part.each (metadata_values ss key) refl (not_none (metadata_values ss key) n value) in
        let same : held.0 ≡ n = one_value (metadata_values ss key) held.0 n
        (value_of_all held.0 (metadata_values ss key) (all_held key held.0 held.1 ss part.each) (part.metadata key held.0 held.1)) value in
        held.1 ∙ ap (λ v. Some v) same,
  )

  metadata_calm : (key : List ℕ) → HaveConflict (metadata_values ss key) → ⊥
  metadata_calm key conflict =
      let held = some_held key ss part.each (metadata_values ss key) refl (λ none. subst HaveConflict none conflict) in
      calm_all held.0 (metadata_values ss key) (all_held key held.0 held.1 ss part.each) conflict

  -- traits
  shape_calm : (id name : List ℕ) (e : Entry) → IsMergedShape ss id e → HaveConflict (trait_values ss id name) → ⊥
  shape_calm id name e h conflict =
      let o = once g regular keeps ss part id h.s h.there in
      map_calm o.is_in.traits name (subst HaveConflict (ap (λ k. trait_values ss k name)
      (sym (under_first g regular keeps ss part id h.s h.there).same) ∙ values_of_shape ss g.shapes h.s o name) conflict)

  member_calm : (id name : List ℕ) (e : Entry) → IsMergedMember ss id e → HaveConflict (trait_values ss id name) → ⊥
  member_calm id name e h conflict =
      let o = once g regular keeps ss part h.shape h.s h.there in
      let here = comes g regular keeps ss part h.shape h.s h.there in
      let under = under_first g regular keeps ss part h.shape h.s h.there in
      let m : Path EffectiveShape h.m here =
      one_effective ss h.shape h.m _ h.is_effective (effective_once g regular keeps ss part h.shape h.s h.there) in
      let has : Has h.name h.of here.members = found_has h.name h.of here.members
      (subst (λ (x : EffectiveShape). find text_cmp h.name x.members ≡ Some h.of) m h.found) in
      let given = member_given g.shapes h.s.shape.id h.s.shape.members o.is_in.members h.name h.of has in
      let place : id ≡ member_id h.s.shape.id given.m.name =
      h.under ∙ ap (λ k. member_id k h.name) (sym under.same) ∙ ap (member_id h.s.shape.id) (sym given.named) in
      map_calm given.is_in.traits name (subst HaveConflict (ap (λ k. trait_values ss k name) place
      ∙ values_of_member ss g.shapes h.s o given.m given.one given.is_in name) conflict)

  traits_calm : (id name : List ℕ) → HasTraitConflict ss id name → ⊥
  traits_calm id name h = by_place h.there h.conflict
    where
      by_place : IsThere ss id → HaveConflict (trait_values ss id name) → ⊥
      by_place (e, inl is) conflict = shape_calm id name e is conflict
      by_place (e, inr is) conflict = member_calm id name e is conflict

  -- statements for shapes
  one_shape : (id : List ℕ) → HasOtherShape ss id → ⊥
  one_shape id h = elim (among_from h.other (h.first ∷ []) (subst (λ (ts : List ShapeStated). Contains ts h.other)
      (alone_under g regular keeps ss part id h.first h.there) h.among)) [
        | inl same ↦ h.differs (subst (Agree h.first) same (record {
          kind = refl;
          members = refl;
          mixins = refl;
          properties = reflexive h.first.shape.properties;
        }))
        | inr never ↦ never
      ]

  stated_of : (s : Stated) (ts : List Stated) → AllStateOf keeps g ts → Among s ts → StatesOf keeps g s
  stated_of s [] h among = absurd among
  stated_of s (t ∷ ts) h (inl same) = subst (StatesOf keeps g) same h.0
  stated_of s (t ∷ ts) h (inr later) = stated_of s ts h.1 later

  none_of_prelude : (id : List ℕ) → IsStatedAgain ss id → ⊥
  none_of_prelude id h =
      let states = stated_of (shape_stated h.s) ss part.each (among_from (shape_stated h.s) ss h.among) in
      clash (is_prelude_id id) h.of_prelude (subst (λ k. is_prelude_id k ≡ false) h.same states.2)

  -- members and mixins
  defined_once : (id target : List ℕ) → IsDefinedOtherwise ss id target → ⊥
  defined_once id target h =
      let o = once g regular keeps ss part h.shape h.s h.there in
      let none : Path (List EffectiveShape) h.copied [] = one_copied ss h.s h.s.mixins h.copied [] h.from_mixins
      (subst (λ mixins. AreCopied ss h.s mixins []) (sym o.plain) (no_mixins h.s)) in
      let all : List (List ℕ × MemberEntry) = map own_member h.s.shape.members in
      let found : find text_cmp h.name all ≡ Some h.first =
      subst (λ (copied : List EffectiveShape). find text_cmp h.name (all_members copied h.s.shape.members) ≡ Some h.first) none h.found in
      let among : Contains all (h.name, h.again) =
      subst (λ (copied : List EffectiveShape). Contains (all_members copied h.s.shape.members) (h.name, h.again)) none h.among in
      let again = has_found h.name h.again all (own_differ h.s.shape.members o.differ)
      (among_has h.name h.again all (among_from (h.name, h.again) all among)) in
      let same : Path MemberEntry h.first h.again = same_Some h.first h.again (sym found ∙ again) in
      h.other (ap (λ (m : MemberEntry). m.target) same ∙ h.is)

  no_bad_mixin : (id mixin : List ℕ) → HasBadMixin ss id mixin → ⊥
  no_bad_mixin id mixin h =
      let o = once g regular keeps ss part id h.s h.there in
      among_from mixin [] (subst (λ (mixins : List (List ℕ)). Contains mixins mixin) o.plain h.among)

  pub nothing_wrong : (e : EventTold) → IsWrong ss e → ⊥
  nothing_wrong e (other_shape id h is) = one_shape id h
  nothing_wrong e (stated_again id h is) = none_of_prelude id h
  nothing_wrong e (trait_conflict id name h is) = traits_calm id name h
  nothing_wrong e (metadata_conflict key h is) = metadata_calm key h
  nothing_wrong e (applied_to_nothing id h is) =
      stated_of (apply_stated id h.traits) ss part.each (among_from (apply_stated id h.traits) ss h.among)
  nothing_wrong e (defined_otherwise id target h is) = defined_once id target h
  nothing_wrong e (bad_mixin id mixin h is) = no_bad_mixin id mixin h

-- the part of a graph, by what it has
pub record IsPartOf (keeps : List ℕ → Bool) (g h : GraphMaps) : Type 0 where
  pub shapes : (id : List ℕ) (e : Entry) → (fin.get h.shapes id ≡ Some e) ↔ ((fin.get g.shapes id ≡ Some e) × (is_kept keeps id ≡ true))
  pub metadata : (key : List ℕ) (n : Node) → (fin.get h.metadata key ≡ Some n) ↔ (fin.get g.metadata key ≡ Some n)

retained : (m : ShapeMap) (p : List ℕ → Bool) (id : List ℕ) → fin.get (fin.retain_keys m p) id ≡ cond (p id) (fin.get m id) None
retained m p id =
    get-retain_keys m p id (λ x tied. ap p (sym (slice_cmp-IsAntisymmetric nat_cmp-IsAntisymmetric id x tied)))

some_if : (b : Bool) (o : Option Entry) (e : Entry) → cond b o None ≡ Some e → (o ≡ Some e) × (b ≡ true)
some_if true o e h = (h, refl)
some_if false o e h = absurd (none-some e h)

part_is : (keeps : List ℕ → Bool) (g : GraphMaps) → IsPartOf keeps g (part_of keeps g)
part_is keeps g = record {
  shapes = λ id e. (
    λ found. some_if (is_kept keeps id) (fin.get g.shapes id) e (sym (retained g.shapes (is_kept keeps) id) ∙ found),
    λ there. retained g.shapes (is_kept keeps) id ∙ ap (λ b. cond b (fin.get g.shapes id) None) there.1 ∙ there.0,
  );
  metadata = λ key n. (λ found. found, λ found. found);
}

pub part_again : (g h : GraphMaps) (keeps : List ℕ → Bool) (ss : List Stated) → IsRegular g → StatesPart keeps g ss → IsPartOf keeps g h
    → ComesTo ss h
part_again g h keeps ss regular part of = record {
  graph = record {
    shapes = λ id e. (
      λ found. let there = (of.shapes id e).0 found in stands_again g regular keeps ss part id e there.0 there.1,
      λ stands. (of.shapes id e).1 (only_again g regular keeps ss part id e stands),
    );
    metadata = λ key n. (
      λ found. (metadata_again g regular keeps ss part key n).0 ((of.metadata key n).0 found),
      λ value. (of.metadata key n).1 ((metadata_again g regular keeps ss part key n).1 value),
    );
  };
  nothing_wrong = nothing_wrong g regular keeps ss part;
}

pub stated_again_law : StatedAgain
stated_again_law files g keeps ss formed is part =
    part_again g (part_of keeps g) keeps ss (merged_regular files formed g is) part (part_is keeps g)
