-- Shapes of a graph of the form of one that have no members, and say nothing in a body: services, operations and resources have none, and
-- shapes of the prelude have neither.
use Rattle.std.proofs.Common.{◌≡◌, inl, inr, ℕ, Bool, true, false, ◌&&◌, List, [], ◌∷◌, map, refl, sym, ap, ◌∙◌, arith}
use Rattle.std.specs.List.{Contains, list_all}
use Rattle.sm_model.specs.Formed.{HaveForm}
use Rattle.sm_model.specs.FormedGraph.{IsFormedGraph}
use Rattle.sm_model.specs.Graphs.{GraphMaps, MemberGiven, ShapeEntry, ShapeGiven, member_id, shape_entry}
use Rattle.sm_model.specs.Kinds.{member_form}
use Rattle.sm_model.specs.PreludeShapes.{is_prelude_id, prelude_shapes}
use Rattle.sm_model.specs.Relations.{HasEntry, field_relations}
use Rattle.sm_model.specs.declared.kind.Kind.{Kind}
use Rattle.sm_model.specs.declared.kind.Kind.TheVariants as model
use Rattle.sm_model.proofs.LinkedEntries.{cons_cases}
use Rattle.sm_model.proofs.Worklist.{apart}
use Rattle.sm_compile.specs.Kinds.{has_values}
use Rattle.sm_compile.proofs.SoundTests.{first_of, second_of}
use Rattle.sm_rules.specs.TraitRows.{has_none}
use Rattle.sm_accepted.proofs.FormedShapes.{formed_entry, prelude_entry}
use Rattle.sm_accepted.proofs.GivenShapes.{entry_given}

no_names : (kind : Kind) (names : List (List ℕ)) → has_values kind ≡ false → HaveForm (member_form kind) names → names ≡ []
no_names model.Service names h form = form
no_names model.Operation names h form = form
no_names model.Resource names h form = form
no_names kind names h form = absurd (apart (sym h))

nothing : {X : Type 0} (xs : List X) → has_none xs ≡ true → xs ≡ []
nothing [] h = refl
nothing (x ∷ xs) h = absurd (apart h)

abbrev is_bare : ShapeGiven → Bool
is_bare p = has_none p.members && has_none (field_relations p.kind)

all_bare : list_all is_bare prelude_shapes ≡ true
all_bare = refl

bare_among : (ss : List ShapeGiven) → list_all is_bare ss ≡ true → (p : ShapeGiven) → Contains ss p → is_bare p ≡ true
bare_among [] all p among = absurd (omega (arith, among.1))
bare_among (s ∷ ss) all p among = elim (cons_cases s ss p among) [
  | inl is ↦ ap is_bare (sym is) ∙ first_of (is_bare s) (list_all is_bare ss) all
  | inr later ↦ bare_among ss (second_of (is_bare s) (list_all is_bare ss) all) p later
]

module _ (g : GraphMaps) (f : IsFormedGraph g) (id : List ℕ) (s : ShapeEntry) (there : HasEntry g id (shape_entry s)) where
  pub bare_members : has_values s.kind ≡ false → s.members ≡ []
  bare_members none =
      let e = formed_entry g f id s there in e.members ∙ ap (map (member_id id)) (no_names s.kind e.names none e.form)

  pub bare_of_prelude : is_prelude_id id ≡ true → (s.members ≡ []) × (field_relations s.kind ≡ [])
  bare_of_prelude of_prelude =
      let p = prelude_entry g f id (shape_entry s) of_prelude there in
      let e = p.2 in
      let is : s ≡ entry_given p.0 = cc in
      let bare = bare_among prelude_shapes all_bare p.0 p.1 in (
        ap (λ (x : ShapeEntry). x.members) is
            ∙ ap (map (λ (m : MemberGiven). member_id p.0.id m.name)) (nothing p.0.members (first_of (has_none p.0.members) _ bare)),
        ap (λ (x : ShapeEntry). field_relations x.kind) is
            ∙ nothing (field_relations p.0.kind) (second_of (has_none p.0.members) (has_none (field_relations p.0.kind)) bare),
      )
