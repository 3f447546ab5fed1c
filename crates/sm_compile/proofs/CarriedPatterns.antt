-- The pattern that an id carries is told by look-ups.
use Rattle.std.proofs.Common.{◌≡◌, inl, inr, ℕ, List, Option, Some, None, refl, ap, ◌∙◌}
use Rattle.std.specs.Prelude.{◌↔◌}
use Rattle.std.specs.FinMap as fin
use Rattle.std.specs.Option.{option_or}
use Rattle.std.proofs.lemmas.Option.{none-some}
use Rattle.sm_model.specs.Graphs.{Entry, shape_entry, member_entry, GraphMaps, MemberEntry}
use Rattle.sm_compile.specs.Compiled.{CarriesPattern}
use Rattle.sm_compile.specs.Sound.{trait_in}
use Rattle.sm_compile.specs.TraitNodes.{own_traits}
use Rattle.sm_compile.specs.steps.Carrying.{carried, pattern_where}
use Rattle.sm_compile.specs.steps.Looked.{kind_in, kind_where, target_in}

module _ (g : GraphMaps) (id u : List ℕ) where
  -- by what stands under the id, and under its target's
  abbrev carried_in : Option Entry → Option (List ℕ)
  carried_in o = pattern_where (option_or (kind_in o) (kind_where g (target_in o))) (λ name. trait_in name o)

  abbrev carried_at : MemberEntry → Option Entry → Option (List ℕ)
  carried_at m o = pattern_where (kind_in o) (own_traits m.traits)

  carries_at : (m : MemberEntry) → fin.get g.shapes id ≡ Some (member_entry m) → (o : Option Entry) → fin.get g.shapes m.target ≡ o
      → carried_at m o ≡ Some u → CarriesPattern g id u
  carries_at m has None found h = absurd (none-some u h)
  carries_at m has (Some (shape_entry s)) found h = inr (m, s, has, found, h)
  carries_at m has (Some (member_entry n)) found h = absurd (none-some u h)

  carries_from : (o : Option Entry) → fin.get g.shapes id ≡ o → carried_in o ≡ Some u → CarriesPattern g id u
  carries_from None has h = absurd (none-some u h)
  carries_from (Some (shape_entry s)) has h = inl (s, has, h)
  carries_from (Some (member_entry m)) has h = carries_at m has (fin.get g.shapes m.target) refl h

  pub carries_told : (carried g id ≡ Some u) ↔ CarriesPattern g id u
  carries_told = (
    λ h. carries_from (fin.get g.shapes id) refl h,
    λ h. elim h [
      | inl s ↦ ap carried_in s.1 ∙ s.2
      | inr x ↦ ap carried_in x.2 ∙ ap (carried_at x.0) x.3 ∙ x.4
    ],
  )
