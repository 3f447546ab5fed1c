-- A shape is on a cycle of mixins exactly where its number is on a ring.
use Rattle.std.proofs.Common.{◌≡◌, ℕ, ◌<◌, List, [], ◌∷◌, length, Option, Some, None, refl, subst, arith}
use Rattle.std.specs.Prelude.{◌↔◌}
use Rattle.sm_merge.specs.Stated.{ShapeStated, Stated}
use Rattle.sm_merge.specs.Places.{shape_under, mixins_of}
use Rattle.sm_merge.specs.Mixins.{MixesIn, IsPath, IsOnCycle}
use Rattle.sm_merge.specs.steps.Links.{Links, At, IsWay, OnRing}
use Rattle.sm_merge.specs.steps.Numbered.{HasNumber, AreShapeIds, AreMixinLinks}
use Rattle.sm_merge.proofs.Ats.{at_there}

module _ (ss : List Stated) (ids : List (List ℕ)) (links : Links) (known : AreShapeIds ss ids) (mixed : AreMixinLinks ss ids links) where
  -- what mixes something in is there
  mixing_there : (id mixin : List ℕ) → MixesIn ss id mixin → HasNumber ids id
  mixing_there id mixin h = by (shape_under id ss) refl
    where
      by : (o : Option ShapeStated) → shape_under id ss ≡ o → HasNumber ids id
      by None is =
          let none : h.0 < length (mixins_of None) = subst (λ o. h.0 < length (mixins_of o)) is h.1 in absurd (omega (arith, none))
      by (Some s) is = known.all id s is

  way_of : (between : List (List ℕ)) (id end : List ℕ) (v w : ℕ) → At ids v id → At ids w end → IsPath ss id between end
      → (us : List ℕ) × IsWay links v us w
  way_of [] id end v w at_v at_w h = ([], mixed.leads v w id end at_v at_w h)
  way_of (next ∷ []) id end v w at_v at_w (first, more) =
      let n = mixing_there next end more in
      (n.number ∷ [], (mixed.leads v n.number id next at_v n.there first, mixed.leads n.number w next end n.there at_w more))
  way_of (next ∷ (after ∷ between)) id end v w at_v at_w (first, more) =
      let n = mixing_there next after more.0 in
      let rest = way_of (after ∷ between) next end n.number w n.there at_w more in
      (n.number ∷ rest.0, (mixed.leads v n.number id next at_v n.there first, rest.1))

  path_of : (us : List ℕ) (id end : List ℕ) (v w : ℕ) → At ids v id → At ids w end → IsWay links v us w
      → (between : List (List ℕ)) × IsPath ss id between end
  path_of [] id end v w at_v at_w h = ([], mixed.mixes v w id end at_v at_w h)
  path_of (u ∷ us) id end v w at_v at_w (first, more) =
      let size : length links ≡ length ids = mixed.size in
      let small : u < length links = mixed.within v u first in
      let there = at_there ids u (omega (arith, size, small)) in
      let rest = path_of us there.0 end u w there.1 at_w more in
      (there.0 ∷ rest.0, (mixed.mixes v u id there.0 at_v there.1 first, rest.1))

  pub cycle_ring : (v : ℕ) (id : List ℕ) → At ids v id → IsOnCycle ss id ↔ OnRing links v
  cycle_ring v id there = (
    λ cycle. let way = way_of cycle.0 id id v v there there cycle.1 in record { between = way.0; way = way.1 },
    λ ring. path_of ring.between id id v v there there ring.way,
  )
