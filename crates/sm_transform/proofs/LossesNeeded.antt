-- Steps from what is gone to what is lost with it.
use Rattle.std.proofs.Common.{◌≡◌, ◌⊎◌, inl, inr, ℕ, ◌+◌, Bool, true, List, [], ◌∷◌, drop, refl, sym, subst}
use Rattle.std.proofs.Common.{◌∙◌, arith}
use Rattle.std.specs.Prelude.{◌↔◌}
use Rattle.std.specs.List.{Contains}
use Rattle.sm_model.specs.Graphs.{Entry, member_entry, shape_entry}
use Rattle.sm_model.specs.GraphView.{At, HasKind, IsShapeNumber, is_member_entry, maps_of}
use Rattle.sm_model.specs.Links.{AreLinks, IsLinked}
use Rattle.sm_model.specs.Reaching.{id_of_number}
use Rattle.sm_model.specs.Relations.{IsRelated}
use Rattle.sm_model.specs.declared.graph.Graph.{Graph}
use Rattle.sm_model.specs.declared.kind.Kind.{Kind}
use Rattle.sm_model.specs.declared.kind.Kind.TheVariants.{List as list_kind, Map}
use Rattle.sm_model.specs.declared.link.Link.{Link}
use Rattle.sm_model.specs.declared.relation.Relation.TheVariants.{Input, Member, Output, Target}
use Rattle.sm_model.specs.steps.Linking.{Adds, AddsUpTo}
use Rattle.sm_model.proofs.LinkFacts.{link_is}
use Rattle.sm_model.proofs.LinkedEntries.{cons_cases, cons_here}
use Rattle.sm_model.proofs.Linking.{up_to_more, up_to_same}
use Rattle.sm_model.proofs.NumberedIds.{entry_here, of_entry}
use Rattle.sm_model.proofs.Worklist.{apart}
use Rattle.sm_transform.specs.Excluded.{IsCollection, Needs, its_input, its_member, its_output, its_shape, its_target}
use Rattle.sm_transform.specs.steps.Steps.{AreLedBy, GoesBack, IsLedBy, IsLost, Losses, LossesBy}
use Rattle.sm_transform.specs.steps.Steps.{step_between}
use Rattle.sm_transform.proofs.StepsNeeded.{behind_head}

-- one link after the other
module _ (g : Graph) where
  losses_either : (l : Link) (ls : List Link) (s : Link) → Losses g (l ∷ ls) s ↔ (LossesBy g l s ⊎ Losses g ls s)
  losses_either l ls s = (
    λ h. elim (cons_cases l ls h.0 h.1) [
      | inl is ↦ inl (subst (λ x. LossesBy g x s) (sym is) h.2)
      | inr later ↦ inr (h.0, later, h.2)
    ],
    λ h. elim h [
      | inl here ↦ (l, cons_here l ls, here)
      | inr later ↦ (later.0, behind_head l ls later.0 later.1, later.2)
    ],
  )

  pub losses_none : (s : Link) → Losses g [] s → ⊥
  losses_none s h = omega (arith, h.1.1)

  pub losses_more : (links : List Link) (i : ℕ) (link : Link) (old now next : List Link) → drop i links ≡ link ∷ drop (i + 1) links
      → AddsUpTo (Losses g links) (Losses g (drop i links)) old now → Adds (LossesBy g link) now next
      → AddsUpTo (Losses g links) (Losses g (drop (i + 1) links)) old next
  losses_more links i link old now next cut so adds =
      up_to_more (Losses g links) (LossesBy g link) (Losses g (drop (i + 1) links)) (Contains old) (Contains now) (Contains next) adds
      (up_to_same (Losses g links) (Losses g (link ∷ drop (i + 1) links)) (λ s. LossesBy g link s ⊎ Losses g (drop (i + 1) links) s)
      (Contains old) (Contains now) (losses_either link (drop (i + 1) links))
      (subst (λ ls. AddsUpTo (Losses g links) (Losses g ls) old now) cut so))

  -- what the links say
  module _ (links : List Link) (are : AreLinks g links) where
    pub link_within : (l : Link) → Contains links l → IsShapeNumber g l.from × IsShapeNumber g l.to
    link_within l among = let at = (are l).0 among in (at.from, at.to)

    related_by : (l : Link) (at : IsLinked g l) (r : _) → l.relation ≡ r
        → IsRelated r (maps_of g) (id_of_number g l.from) (id_of_number g l.to)
    related_by l at r is = subst (λ x. IsRelated x (maps_of g) (id_of_number g l.from) (id_of_number g l.to)) is at.related

    needs_back : (l : Link) (at : IsLinked g l) → GoesBack g l → Needs (maps_of g) (id_of_number g l.from) (id_of_number g l.to)
    needs_back l at (inl (inl is)) = its_target (related_by l at Target is)
    needs_back l at (inl (inr (inl is))) = its_input (related_by l at Input is)
    needs_back l at (inl (inr (inr is))) = its_output (related_by l at Output is)
    needs_back l at (inr by) = its_member by.1 (related_by l at Member by.0)

    losses_led : (s : Link) → Losses g links s → IsLedBy g (IsLost (maps_of g)) s
    losses_led s (l, among, inl on) =
        let at = (are l).0 among in
        subst (IsLedBy g (IsLost (maps_of g))) (sym on.0)
        (refl, at.from, at.to, (on.1.1, its_shape (related_by l at Member on.1.0)))
    losses_led s (l, among, inr back) =
        let at = (are l).0 among in
        subst (IsLedBy g (IsLost (maps_of g))) (sym back.0) (refl, at.to, at.from, (back.1.0, needs_back l at back.1.1))

    among_links : (r : _) (from to : ℕ) → IsShapeNumber g from → IsShapeNumber g to
        → IsRelated r (maps_of g) (id_of_number g from) (id_of_number g to) → Contains links (record { relation = r; from = from; to = to })
    among_links r from to lt gt related =
        (are (record { relation = r; from = from; to = to })).1 (record { from = lt; to = gt; related = related })

    led_losses : (s : Link) → IsLedBy g (IsLost (maps_of g)) s → Losses g links s
    led_losses s (rel, from, to, (own, needs)) = by needs
      where
        is : s ≡ step_between s.from s.to
        is = link_is s Member s.from s.to rel refl refl

        by : Needs (maps_of g) (id_of_number g s.to) (id_of_number g s.from) → Losses g links s
        by (its_shape h) =
            (record { relation = Member; from = s.from; to = s.to }, among_links Member s.from s.to from to h, inl (is, (refl, own)))
        by (its_target h) = (
          record { relation = Target; from = s.to; to = s.from },
          among_links Target s.to s.from to from h,
          inr (
            is,
            (
              own,
              inl (inl refl),
            ),
          ),
        )
        by (its_member c h) = (
          record { relation = Member; from = s.to; to = s.from },
          among_links Member s.to s.from to from h,
          inr (
            is,
            (
              own,
              inr (refl, c),
            ),
          ),
        )
        by (its_input h) = (
          record { relation = Input; from = s.to; to = s.from },
          among_links Input s.to s.from to from h,
          inr (
            is,
            (
              own,
              inl (inr (inl refl)),
            ),
          ),
        )
        by (its_output h) = (
          record { relation = Output; from = s.to; to = s.from },
          among_links Output s.to s.from to from h,
          inr (
            is,
            (
              own,
              inl (inr (inr refl)),
            ),
          ),
        )

    pub losses_are : (steps : List Link) → Adds (Losses g links) [] steps → AreLedBy g (IsLost (maps_of g)) steps
    losses_are steps adds s = (
      λ h. elim ((adds s).0 h) [ inl none ↦ absurd (nothing none) | inr some ↦ losses_led s some ],
      λ h. (adds s).1 (inr (led_losses s h)),
    )
      where
        nothing : Contains [] s → ⊥
        nothing h = omega (arith, h.1)

-- what is a list or a map
module _ (g : Graph) (n : ℕ) where
  abbrev IsOne : Type 0
  IsOne = IsCollection (maps_of g) (id_of_number g n)

  pub member_is_none : (b : Bool) → At g n (λ i e. is_member_entry e ≡ b) → b ≡ true → IsOne → ⊥
  member_is_none b told is (e, has, kinds) = by e (of_entry g n (λ i x. is_member_entry x ≡ b) told e has) kinds
    where
      by : (x : Entry) → is_member_entry x ≡ b → HasKind list_kind x ⊎ HasKind Map x → ⊥
      by (shape_entry s) said k = apart (said ∙ is)
      by (member_entry m) said (inl k) = k
      by (member_entry m) said (inr k) = k

  pub kind_is : (kind : Kind) → At g n (λ i e. HasKind kind e) → IsOne ↔ ((kind ≡ list_kind) ⊎ (kind ≡ Map))
  kind_is kind told =
      let x = entry_here g n (λ i e. HasKind kind e) told in (
        λ h. by h.0 (of_entry g n (λ i e. HasKind kind e) told h.0 h.1) h.2,
        λ h. (
          x.0,
          x.1,
          elim h [
            | inl is ↦ inl (subst (λ k. HasKind k x.0) is x.2)
            | inr is ↦ inr (subst (λ k. HasKind k x.0) is x.2)
          ],
        ),
      )
    where
      by : (e : Entry) → HasKind kind e → HasKind list_kind e ⊎ HasKind Map e → (kind ≡ list_kind) ⊎ (kind ≡ Map)
      by (shape_entry s) is (inl k) = inl (sym is ∙ k)
      by (shape_entry s) is (inr k) = inr (sym is ∙ k)
      by (member_entry m) is k = absurd is
