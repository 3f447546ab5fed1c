-- It can't be that statements have no list of events: each thing that may be wrong is one of a list, and what is wrong of it is put
-- into order.
use Rattle.std.proofs.Common.{◌≡◌, ◌⊎◌, inl, inr, ℕ, List, [], ◌∷◌, ◌++◌, map, Some, refl, sym, ap, subst, ◌∙◌}
use Rattle.std.specs.Prelude.{codes}
use Rattle.std.specs.List.{flat_map}
use Rattle.std.specs.Ordering.{is_eq, ordering_reverse}
use Rattle.std.specs.declared.cmp.Ordering.{Ordering}
use Rattle.std.specs.declared.cmp.Ordering.TheVariants.{Less, Equal, Greater}
use Rattle.std.proofs.lemmas.Option.{same_Some}
use Rattle.sm_model.specs.EventView.{AreInOrder, EventTold, IsBeforeAll, event_cmp}
use Rattle.sm_model.specs.Graphs.{MemberEntry, member_id}
use Rattle.sm_model.specs.PreludeShapes.{unit_id}
use Rattle.sm_model.proofs.MapFacts.{keys}
use Rattle.sm_merge.specs.Laws.{SomeEvents}
use Rattle.sm_merge.specs.Merged.{AreEventsOf, HasTraitConflict, IsThere, IsWrong, model_event}
use Rattle.sm_merge.specs.Merged.{applied_to_nothing, bad_mixin, defined_otherwise, metadata_conflict, other_shape, stated_again}
use Rattle.sm_merge.specs.Merged.{trait_conflict}
use Rattle.sm_merge.specs.Mixins.{AreCopied, EffectiveShape, all_members}
use Rattle.sm_merge.specs.Places.{metadata_by, mixins_of, shape_under, traits_at}
use Rattle.sm_merge.specs.Stated.{ShapeStated, Stated, apply_stated, metadata_stated, shape_stated, stated_by}
use Rattle.sm_merge.specs.Values.{HaveConflict}
use Rattle.sm_merge.proofs.Amongs.{Among, among_back, among_from, among_front, among_to, flat_among, map_among}
use Rattle.sm_merge.proofs.EventsSorted.{one_event}
use Rattle.sm_merge.proofs.OneEffective.{one_copied}
use Rattle.sm_merge.proofs.OneList.{Has, each_has, event_order, has_each}
use Rattle.sm_merge.proofs.SomeEffective.{Must, either_way, filled_named, must, thence}
use Rattle.sm_merge.proofs.SomeGraph.{MemberIds, ids_by, member_ids, own_ids, own_member, own_shape, stands_among, stated_among, stated_ids}

-- an event that is put among events in order
abbrev put_at : Ordering → EventTold → EventTold → List EventTold → List EventTold → List EventTold
put_at Less e f fs rest = e ∷ f ∷ fs
put_at Equal e f fs rest = f ∷ fs
put_at Greater e f fs rest = f ∷ rest

abbrev put : EventTold → List EventTold → List EventTold
put e [] = e ∷ []
put e (f ∷ fs) = put_at (event_cmp e f) e f fs (put e fs)

put_has : (x e : EventTold) (fs : List EventTold) → Has x (put e fs) → (x ≡ e) ⊎ Has x fs
put_has x e [] h = h
put_has x e (f ∷ fs) h = by_order (λ rest. put_has x e fs rest) (event_cmp e f) h
  where
    by_order : (Has x (put e fs) → (x ≡ e) ⊎ Has x fs) → (o : Ordering) → Has x (put_at o e f fs (put e fs)) → (x ≡ e) ⊎ Has x (f ∷ fs)
    by_order later Less (inl same) = inl same
    by_order later Less (inr there) = inr there
    by_order later Equal there = inr there
    by_order later Greater (inl same) = inr (inl same)
    by_order later Greater (inr there) = elim (later there) [ inl same ↦ inl same | inr behind ↦ inr (inr behind) ]

put_keeps : (x e : EventTold) (fs : List EventTold) → Has x fs → Has x (put e fs)
put_keeps x e [] h = absurd h
put_keeps x e (f ∷ fs) h = by_order (λ rest. put_keeps x e fs rest) (event_cmp e f) h
  where
    by_order : (Has x fs → Has x (put e fs)) → (o : Ordering) → Has x (f ∷ fs) → Has x (put_at o e f fs (put e fs))
    by_order later Less there = inr there
    by_order later Equal there = there
    by_order later Greater (inl same) = inl same
    by_order later Greater (inr there) = inr (later there)

put_first : (e : EventTold) (fs : List EventTold) → Has e (put e fs)
put_first e [] = inl refl
put_first e (f ∷ fs) = by_order (put_first e fs) (event_cmp e f) refl
  where
    by_order : Has e (put e fs) → (o : Ordering) → event_cmp e f ≡ o → Has e (put_at o e f fs (put e fs))
    by_order later Less is = inl refl
    by_order later Equal is = inl (one_event e f (ap is_eq is))
    by_order later Greater is = inr later

before_later : (e f : EventTold) (fs : List EventTold) → event_cmp e f ≡ Less → IsBeforeAll f fs → IsBeforeAll e fs
before_later e f [] h all = tt
before_later e f (g ∷ gs) h all = (event_order.trans e f g h all.0, before_later e f gs h all.1)

before_put : (f e : EventTold) (gs : List EventTold) → event_cmp f e ≡ Less → IsBeforeAll f gs → IsBeforeAll f (put e gs)
before_put f e [] h all = (h, tt)
before_put f e (g ∷ gs) h all = by_order (before_put f e gs h all.1) (event_cmp e g)
  where
    by_order : IsBeforeAll f (put e gs) → (o : Ordering) → IsBeforeAll f (put_at o e g gs (put e gs))
    by_order later Less = (h, all)
    by_order later Equal = all
    by_order later Greater = (all.0, later)

after : (e f : EventTold) → event_cmp e f ≡ Greater → event_cmp f e ≡ Less
after e f h = event_order.antisymm f e ∙ ap ordering_reverse h

put_order : (e : EventTold) (fs : List EventTold) → AreInOrder fs → AreInOrder (put e fs)
put_order e [] h = (tt, tt)
put_order e (f ∷ fs) h = by_order (put_order e fs h.1) (event_cmp e f) refl
  where
    by_order : AreInOrder (put e fs) → (o : Ordering) → event_cmp e f ≡ o → AreInOrder (put_at o e f fs (put e fs))
    by_order later Less is = ((is, before_later e f fs is h.0), h)
    by_order later Equal is = h
    by_order later Greater is = (before_put f e fs (after e f is) h.0, later)

-- what holds of some of these events, in order. Other crates cite it
module _ (P : EventTold → Type 0) where
  pub record AreSome (cs : List EventTold) : Type 0 where
    pub es : List EventTold
    pub in_order : AreInOrder es
    pub holds : (e : EventTold) → Has e es → P e
    pub all : (e : EventTold) → Has e cs → P e → Has e es

  with_event : (c : EventTold) (cs : List EventTold) → P c → AreSome cs → AreSome (c ∷ cs)
  with_event c cs is rest = record {
    es = put c rest.es;
    in_order = put_order c rest.es rest.in_order;
    holds = λ e h. elim (put_has e c rest.es h) [ inl same ↦ subst P (sym same) is | inr later ↦ rest.holds e later ];
    all = λ e h k. elim h [
      | inl same ↦ subst (λ x. Has x (put c rest.es)) (sym same) (put_first c rest.es)
      | inr later ↦ put_keeps e c rest.es (rest.all e later k)
    ];
  }

  without_event : (c : EventTold) (cs : List EventTold) → (P c → ⊥) → AreSome cs → AreSome (c ∷ cs)
  without_event c cs none rest = record {
    es = rest.es;
    in_order = rest.in_order;
    holds = rest.holds;
    all = λ e h k. elim h [ inl same ↦ absurd (none (subst P same k)) | inr later ↦ rest.all e later k ];
  }

  pub some_of : (cs : List EventTold) → Must (AreSome cs)
  some_of [] = must (record { es = []; in_order = tt; holds = λ e h. absurd h; all = λ e h k. absurd h })
  some_of (c ∷ cs) =
      thence (some_of cs) (λ rest. thence (either_way (P c)) (λ known. elim known [
        | inl is ↦ must (with_event c cs is rest)
        | inr none ↦ must (without_event c cs none rest)
      ]))

-- what may be wrong
abbrev shape_event : List ℕ → EventTold
shape_event id = model_event id (codes "Model.Shape") []

abbrev trait_event : List ℕ → List ℕ → EventTold
trait_event id name = model_event id (codes "Model.Trait") name

abbrev metadata_event : List ℕ → EventTold
metadata_event key = model_event unit_id (codes "Model.Metadata") key

abbrev apply_event : List ℕ → EventTold
apply_event id = model_event id (codes "Model.Apply") []

abbrev member_event : List ℕ → List ℕ × MemberEntry → EventTold
member_event id m = model_event (member_id id m.0) (codes "Model.Member") m.1.target

abbrev mixin_event : List ℕ → List ℕ → EventTold
mixin_event id mixin = model_event id (codes "Model.Mixin") mixin

abbrev applied_by : Stated → List (List ℕ)
applied_by (metadata_stated key value) = []
applied_by (shape_stated s) = []
applied_by (apply_stated id traits) = id ∷ []

-- the copies of a shape's mixins
record Copies (ss : List Stated) (id : List ℕ) : Type 0 where
  s : ShapeStated
  there : shape_under id ss ≡ Some s
  copied : List EffectiveShape
  are : AreCopied ss s s.mixins copied

record MemberEvents (ss : List Stated) (ids : List (List ℕ)) : Type 0 where
  found : List EventTold
  all : (id : List ℕ) → Among id ids → (c : Copies ss id) → (m : List ℕ × MemberEntry) → Among m (all_members c.copied c.s.shape.members)
      → Among (member_event id m) found

module _ (ss : List Stated) where
  same_members : (id : List ℕ) (c d : Copies ss id)
      → Path (List (List ℕ × MemberEntry)) (all_members c.copied c.s.shape.members) (all_members d.copied d.s.shape.members)
  same_members id c d =
      let s : Path ShapeStated c.s d.s = same_Some c.s d.s (sym c.there ∙ d.there) in
      let copied = one_copied ss d.s d.s.mixins c.copied d.copied (subst (λ t. AreCopied ss t t.mixins c.copied) s c.are) d.are in
      λ i. all_members (copied i) (s i).shape.members

  abbrev Counts : List ℕ → List EventTold → Type 0
  Counts id es = (c : Copies ss id) (m : List ℕ × MemberEntry) → Among m (all_members c.copied c.s.shape.members)
      → Among (member_event id m) es

  with_copies : (x : List ℕ) (ids : List (List ℕ)) → Copies ss x → MemberEvents ss ids → MemberEvents ss (x ∷ ids)
  with_copies x ids d rest = record { found = front ++ rest.found; all = by_place }
    where
      front : List EventTold
      front = map (member_event x) (all_members d.copied d.s.shape.members)

      here : Counts x front
      here c m there =
          map_among (member_event x) (all_members d.copied d.s.shape.members) m (subst (λ ms. Among m ms) (same_members x c d) there)

      by_place : (id : List ℕ) → Among id (x ∷ ids) → Counts id (front ++ rest.found)
      by_place id (inl same) c m there =
          among_front (member_event id m) front rest.found (subst (λ k. Counts k front) same here c m there)
      by_place id (inr h) c m there = among_back (member_event id m) front rest.found (rest.all id h c m there)

  without_copies : (x : List ℕ) (ids : List (List ℕ)) → (Copies ss x → ⊥) → MemberEvents ss ids → MemberEvents ss (x ∷ ids)
  without_copies x ids none rest = record { found = rest.found; all = by_place }
    where
      by_place : (id : List ℕ) → Among id (x ∷ ids) → Counts id rest.found
      by_place id (inl same) c m there = absurd (none (subst (Copies ss) (sym same) c))
      by_place id (inr h) c m there = rest.all id h c m there

  member_events : (ids : List (List ℕ)) → Must (MemberEvents ss ids)
  member_events [] = must (record { found = []; all = λ id h c m there. absurd h })
  member_events (x ∷ ids) =
      thence (member_events ids) (λ rest. thence (either_way (Copies ss x)) (λ known. elim known [
        | inl c ↦ must (with_copies x ids c rest)
        | inr none ↦ must (without_copies x ids none rest)
      ]))

  -- traits that are given at a place, and what a shape mixes in
  abbrev traits_of : List ℕ → List EventTold
  traits_of id = map (trait_event id) (keys (flat_map (traits_at id) ss))

  abbrev mixins_at : List ℕ → List EventTold
  mixins_at id = map (mixin_event id) (mixins_of (shape_under id ss))

  module _ (ids : MemberIds ss (stated_ids ss)) (members : MemberEvents ss (stated_ids ss)) where
    abbrev shapes : List EventTold
    shapes = map shape_event (stated_ids ss)

    abbrev traits : List EventTold
    traits = flat_map traits_of (own_ids ss ids)

    abbrev metadata : List EventTold
    metadata = map metadata_event (keys (flat_map metadata_by ss))

    abbrev applied : List EventTold
    applied = map apply_event (flat_map applied_by ss)

    abbrev mixins : List EventTold
    mixins = flat_map mixins_at (stated_ids ss)

    abbrev candidates : List EventTold
    candidates = shapes ++ (traits ++ (metadata ++ (applied ++ (members.found ++ mixins))))

    in_shapes : (id : List ℕ) → Among id (stated_ids ss) → Among (shape_event id) candidates
    in_shapes id h = among_front (shape_event id) shapes _ (map_among shape_event (stated_ids ss) id h)

    own_there : (id : List ℕ) → IsThere ss id → Among id (own_ids ss ids)
    own_there id (e, inl h) = own_shape ss ids id e h
    own_there id (e, inr h) = own_member ss ids id e h

    in_traits : (id name : List ℕ) → HasTraitConflict ss id name → Among (trait_event id name) candidates
    in_traits id name h =
        let ps = flat_map (traits_at id) ss in
        let named = stands_among name (keys ps) (filled_named HaveConflict (λ never. never) name ps h.conflict) in
        among_back (trait_event id name) shapes _ (among_front (trait_event id name) traits _
        (flat_among traits_of (own_ids ss ids) id (trait_event id name) (own_there id h.there)
        (map_among (trait_event id) (keys ps) name named)))

    in_metadata : (key : List ℕ) → Among key (keys (flat_map metadata_by ss)) → Among (metadata_event key) candidates
    in_metadata key h =
        among_back (metadata_event key) shapes _ (among_back (metadata_event key) traits _ (among_front (metadata_event key) metadata _
        (map_among metadata_event (keys (flat_map metadata_by ss)) key h)))

    in_applied : (id : List ℕ) → Among id (flat_map applied_by ss) → Among (apply_event id) candidates
    in_applied id h =
        among_back (apply_event id) shapes _ (among_back (apply_event id) traits _ (among_back (apply_event id) metadata _
        (among_front (apply_event id) applied _ (map_among apply_event (flat_map applied_by ss) id h))))

    in_members : (e : EventTold) → Among e members.found → Among e candidates
    in_members e h =
        among_back e shapes _ (among_back e traits _ (among_back e metadata _ (among_back e applied _ (among_front e members.found _ h))))

    in_mixins : (e : EventTold) → Among e mixins → Among e candidates
    in_mixins e h =
        among_back e shapes _ (among_back e traits _ (among_back e metadata _ (among_back e applied _ (among_back e members.found _ h))))

    of_candidates : (e : EventTold) → IsWrong ss e → Among e candidates
    of_candidates e (other_shape id h is) =
        subst (λ x. Among x candidates) (sym is) (in_shapes id (stated_among id ss h.first h.there))
    of_candidates e (stated_again id h is) =
        subst (λ x. Among x candidates) (sym is) (in_shapes id (flat_among ids_by ss (shape_stated h.s) id
        (among_from (shape_stated h.s) ss h.among) (inl h.same)))
    of_candidates e (trait_conflict id name h is) = subst (λ x. Among x candidates) (sym is) (in_traits id name h)
    of_candidates e (metadata_conflict key h is) =
        let ps = flat_map metadata_by ss in
        subst (λ x. Among x candidates) (sym is)
        (in_metadata key (stands_among key (keys ps) (filled_named HaveConflict (λ never. never) key ps h)))
    of_candidates e (applied_to_nothing id h is) =
        subst (λ x. Among x candidates) (sym is) (in_applied id (flat_among applied_by ss (apply_stated id h.traits) id
        (among_from (apply_stated id h.traits) ss h.among) (inl refl)))
    of_candidates e (defined_otherwise id target h is) =
        let c : Copies ss h.shape = record { s = h.s; there = h.there; copied = h.copied; are = h.from_mixins } in
        let m : List ℕ × MemberEntry = (h.name, h.again) in
        let told = members.all h.shape (stated_among h.shape ss h.s h.there) c m
        (among_from m (all_members h.copied h.s.shape.members) h.among) in
        subst (λ x. Among x candidates) (sym (is ∙ (λ i. model_event (h.under i) (codes "Model.Member") (sym h.is i))))
        (in_members (member_event h.shape m) told)
    of_candidates e (bad_mixin id mixin h is) =
        let there : Among mixin (mixins_of (shape_under id ss)) =
        subst (λ o. Among mixin (mixins_of o)) (sym h.there) (among_from mixin h.s.mixins h.among) in
        subst (λ x. Among x candidates) (sym is) (in_mixins (mixin_event id mixin)
        (flat_among mixins_at (stated_ids ss) id (mixin_event id mixin) (stated_among id ss h.s h.there)
        (map_among (mixin_event id) (mixins_of (shape_under id ss)) mixin there)))

    told : AreSome (IsWrong ss) candidates → (es : List EventTold) × AreEventsOf ss es
    told h = (
      h.es,
      record {
        in_order = h.in_order;
        all = λ e. (
          λ among. h.holds e (has_each e h.es among),
          λ wrong. each_has e h.es (h.all e (has_each e candidates (among_to e candidates (of_candidates e wrong))) wrong),
        );
      },
    )

pub events_there : (ss : List Stated) → Must ((es : List EventTold) × AreEventsOf ss es)
events_there ss =
    thence (member_ids ss (stated_ids ss)) (λ ids.
    thence (member_events ss (stated_ids ss)) (λ members.
    thence (some_of (IsWrong ss) (candidates ss ids members)) (λ some. must (told ss ids members some))))

pub some_events : SomeEvents
some_events files none = events_there (stated_by files) (λ es. none es.0 es.1)
