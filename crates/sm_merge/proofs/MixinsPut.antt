-- Events for mixins that don't contribute: one, those of one shape, and those of all shapes.
use Rattle.std.proofs.Common.{◌≡◌, ◌⊎◌, inl, inr, ℕ, ◌<◌, List, [], ◌∷◌, ◌++◌, length, get_or, Some, refl, sym, ap, subst, ◌∙◌}
use Rattle.std.specs.Prelude.{◌↔◌}
use Rattle.std.specs.List.{Contains}
use Rattle.std.proofs.lemmas.List.Elements.{Contains-append_cases, Contains-append_left, Contains-push}
use Rattle.std.proofs.lemmas.Option.{none-some, same_Some, slice_get_read}
use Rattle.sm_model.specs.EventView.{EventTold, events_view}
use Rattle.sm_model.specs.declared.event.ModelEvent.{ModelEvent}
use Rattle.sm_merge.specs.Merged.{HasBadMixin}
use Rattle.sm_merge.specs.Mixins.{Contributes}
use Rattle.sm_merge.specs.Places.{shape_under}
use Rattle.sm_merge.specs.Stated.{ShapeStated, Stated}
use Rattle.sm_merge.specs.steps.EventLists.{TellsMore}
use Rattle.sm_merge.specs.steps.MixinEvents.{PutsSuch, TellsBad, TellsBadAmong, TellsBadMixin}
use Rattle.sm_merge.specs.steps.AllEvents.{mixin_event}
use Rattle.sm_merge.specs.steps.Contributing.{AreWalkedTables}
use Rattle.sm_merge.specs.steps.Links.{At}
use Rattle.sm_merge.specs.steps.Placed.{Bare, bare_of, bare_view}
use Rattle.sm_merge.specs.steps.ShapeTables.{AreShapesOf, ids_of, shapes_view}
use Rattle.sm_merge.specs.declared.parts.BareShape.{BareShape}
use Rattle.sm_merge.specs.declared.table.PlaceRow.{PlaceRow}
use Rattle.sm_merge.specs.declared.walk.Walk.{Walk}
use Rattle.sm_merge.proofs.ShapeNumbers.{shape_at, shape_ids}
use Rattle.sm_merge.proofs.Ats.{at_contained, at_either_one, at_map, at_one, contains_at}

only_one : {A : Type 0} (x y : A) → Contains (x ∷ []) y → y ≡ x
only_one x y h = let a = at_contained (x ∷ []) y h in elim (at_either_one [] x a.0 y a.1) [
  | inl none ↦ absurd (none-some y none)
  | inr (last, same) ↦ same
]

module _ (P : EventTold → Type 0) where
  pub puts_none : (events : List ModelEvent) → ((e : EventTold) → P e → ⊥) → PutsSuch P events events
  puts_none events none = λ e. (
    λ has. inl has,
    λ either. elim either [
      | inl has ↦ has
      | inr p ↦ absurd (none e p)
    ],
  )

  pub puts_one : (before now : List ModelEvent) (t : EventTold) → TellsMore before now (t ∷ []) → P t → ((e : EventTold) → P e → e ≡ t)
      → PutsSuch P before now
  puts_one before now t told p one = λ e. (
    λ has. elim (Contains-append_cases (events_view before) (t ∷ []) e (subst (λ es. Contains es e) told.told has)) [
      | inl old ↦ inl old
      | inr new ↦ inr (subst P (sym (only_one t e new)) p)
    ],
    λ either. subst (λ es. Contains es e) (sym told.told) (elim either [
      | inl old ↦ Contains-append_left (events_view before) (t ∷ []) e old
      | inr q ↦ subst (λ x. Contains (events_view before ++ t ∷ []) x) (sym (one e q)) (Contains-push (events_view before) t)
    ]),
  )

pub puts_more : (P Q R : EventTold → Type 0) (before between now : List ModelEvent) → PutsSuch P before between → PutsSuch Q between now
    → ((e : EventTold) → R e ↔ (P e ⊎ Q e)) → PutsSuch R before now
puts_more P Q R before between now first second both = λ e. (
  λ has. elim ((second e).0 has) [
    | inl old ↦ elim ((first e).0 old) [
      | inl older ↦ inl older
      | inr p ↦ inr ((both e).1 (inl p))
    ]
    | inr q ↦ inr ((both e).1 (inr q))
  ],
  λ either. elim either [
    | inl older ↦ (second e).1 (inl ((first e).1 (inl older)))
    | inr r ↦ elim ((both e).0 r) [
      | inl p ↦ (second e).1 (inl ((first e).1 (inr p)))
      | inr q ↦ (second e).1 (inr q)
    ]
  ],
)

-- nothing stands in an empty list
pub contains_none : {A : Type 0} (x : A) → Contains [] x → ⊥
contains_none x h = let a = at_contained [] x h in none-some x a.1

pub among_more : (ss : List Stated) (s : ShapeStated) (id : List ℕ) (mixins : List (List ℕ)) (mixin : List ℕ) (e : EventTold)
    → TellsBadAmong ss s id (mixins ++ mixin ∷ []) e ↔ (TellsBadAmong ss s id mixins e ⊎ TellsBad ss s id mixin e)
among_more ss s id mixins mixin e = (
  λ h. elim (Contains-append_cases mixins (mixin ∷ []) h.mixin h.among) [
    | inl old ↦ inl (record { mixin = h.mixin; among = old; bad = h.bad; is = h.is })
    | inr new ↦ let same = only_one mixin h.mixin new in inr (
      subst (λ m. Contributes ss s m → ⊥) same h.bad,
      h.is
          ∙ ap (mixin_event id) same,
    )
  ],
  λ either. elim either [
    | inl h ↦ record { mixin = h.mixin; among = Contains-append_left mixins (mixin ∷ []) h.mixin h.among; bad = h.bad; is = h.is }
    | inr (bad, is) ↦ record { mixin = mixin; among = Contains-push mixins mixin; bad = bad; is = is }
  ],
)

pub ids_more : (ss : List Stated) (s : ShapeStated) (ids : List (List ℕ)) (id : List ℕ) (mixins : List (List ℕ))
    → shape_under id ss ≡ Some s
    → s.mixins ≡ mixins → (e : EventTold)
    → TellsBadMixin ss (ids ++ id ∷ []) e ↔ (TellsBadMixin ss ids e ⊎ TellsBadAmong ss s id mixins e)
ids_more ss s ids id mixins there are e = (
  λ h. elim (Contains-append_cases ids (id ∷ []) h.id h.there) [
    | inl old ↦ inl (record { id = h.id; there = old; mixin = h.mixin; bad = h.bad; is = h.is })
    | inr new ↦
        let same : h.id ≡ id = only_one id h.id new in
        let one : h.bad.s ≡ s = same_Some h.bad.s s (sym h.bad.there ∙ ap (λ i. shape_under i ss) same ∙ there) in
        inr (record {
          mixin = h.mixin;
          among = subst (λ ms. Contains ms h.mixin) (ap (λ x. x.mixins) one ∙ are) h.bad.among;
          bad = subst (λ x. Contributes ss x h.mixin → ⊥) one h.bad.bad;
          is = h.is ∙ ap (λ i. mixin_event i h.mixin) same;
        })
  ],
  λ either. elim either [
    | inl h ↦ record { id = h.id; there = Contains-append_left ids (id ∷ []) h.id h.there; mixin = h.mixin; bad = h.bad; is = h.is }
    | inr h ↦ record {
      id = id;
      there = Contains-push ids id;
      mixin = h.mixin;
      bad = record { s = s; there = there; among = subst (λ ms. Contains ms h.mixin) (sym are) h.among; bad = h.bad };
      is = h.is;
    }
  ],
)

-- all of them are told
pub all_told : (ss : List Stated) (rows : List BareShape) (traits : List PlaceRow) (walk : Walk) (events : List ModelEvent)
    → AreWalkedTables ss rows traits walk → PutsSuch (TellsBadMixin ss (ids_of rows)) [] events → (e : EventTold)
    → Contains (events_view events) e ↔ ((id mixin : List ℕ) × HasBadMixin ss id mixin × (e ≡ mixin_event id mixin))
all_told ss rows traits walk events t h e = (
  λ has. elim ((h e).0 has) [
    | inl none ↦ absurd (contains_none e none)
    | inr told ↦ (told.id, told.mixin, told.bad, told.is)
  ],
  λ told.
      let n = (shape_ids ss rows t.shapes).all told.0 told.2.s told.2.there in
      (h e).1 (inr (record {
        id = told.0;
        there = contains_at (ids_of rows) n.number told.0 n.there;
        mixin = told.1;
        bad = told.2;
        is = told.3;
      })),
)

-- the shape of a row
pub record HasRow (ss : List Stated) (row : BareShape) : Type 0 where
  pub s : ShapeStated
  pub there : shape_under row.id ss ≡ Some s
  pub kind : s.shape.kind ≡ row.kind
  pub mixins : s.mixins ≡ row.mixins.items

pub row_at : (ss : List Stated) (rows : List BareShape) → AreShapesOf ss rows → (i : ℕ) (row : BareShape) → i < length rows
    → row ≡ get_or rows i row → HasRow ss row
row_at ss rows h i row small is =
    let there : At rows i row = slice_get_read rows (length rows) i row refl small is in
    let seen : At (shapes_view rows) i (row.id, bare_view row) = at_map (λ r. (r.id, bare_view r)) rows i row there in
    let s = shape_at ss rows h i row.id (at_map (λ (e : List ℕ × Bare). e.0) (shapes_view rows) i (row.id, bare_view row) seen) in
    let same : (row.id, bare_view row) ≡ (row.id, bare_of s.s) =
    at_one (shapes_view rows) i (row.id, bare_view row) (row.id, bare_of s.s) seen s.bare in
    record {
      s = s.s;
      there = s.there;
      kind = sym (ap (λ (e : List ℕ × Bare). e.1.kind) same);
      mixins = sym (ap (λ (e : List ℕ × Bare). e.1.mixins) same);
    }

pub ids_and_more : (rows : List BareShape) (row : BareShape) → ids_of (rows ++ row ∷ []) ≡ ids_of rows ++ row.id ∷ []
ids_and_more [] row = refl
ids_and_more (r ∷ rows) row = ap (λ ids. r.id ∷ ids) (ids_and_more rows row)
