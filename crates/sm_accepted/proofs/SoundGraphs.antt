-- Each shape of a set is in order where no rule fails at what is of the set and members lead to nothing outside of it: those of the prelude,
-- which rules don't look at, and all others.
use Rattle.std.proofs.Common.{◌≡◌, inl, inr, ℕ, Bool, true, false, ◌&&◌, List, [], ◌∷◌, map, refl, sym, ap, subst, ◌∙◌, arith}
use Rattle.std.specs.Prelude.{not}
use Rattle.std.specs.FinMap as fin
use Rattle.std.specs.FinMap.{get-from_entries}
use Rattle.std.specs.FinMap.Entries.{find}
use Rattle.std.specs.Cmp.Lexicographic.{nat_list_cmp_total}
use Rattle.std.specs.List.{Contains, list_all}
use Rattle.sm_model.specs.FormedGraph.{IsFormedGraph}
use Rattle.sm_model.specs.Graphs.{GraphMaps, MemberGiven, ShapeEntry, ShapeGiven, member_id, shape_entry, text_cmp}
use Rattle.sm_model.specs.PreludeShapes.{is_prelude_id, prelude_shapes}
use Rattle.sm_model.specs.Relations.{HasEntry}
use Rattle.sm_model.specs.declared.kind.Kind.{Kind}
use Rattle.sm_model.specs.declared.kind.Kind.TheVariants as model
use Rattle.sm_model.proofs.LinkedEntries.{cons_cases}
use Rattle.sm_model.proofs.Worklist.{apart}
use Rattle.sm_shapes.specs.Names.{AllDiffer}
use Rattle.sm_compile.specs.Compiled.{IdSet}
use Rattle.sm_compile.specs.Sound.{AreSoundMembers, HasItsValues, HasTextKey, IsSoundShape, json_name_of, trait_in, trait_of}
use Rattle.sm_compile.specs.TraitNodes.{AreFormedTraits, TraitsSeen, own_traits}
use Rattle.sm_rules.specs.Ready.{NoneFailsIn}
use Rattle.sm_rules.specs.TraitRows.{at_shape, has_none}
use Rattle.sm_rules.specs.Traits.{of_shape}
use Rattle.sm_rules.specs.Words.{IsOwnShape}
use Rattle.sm_compile.specs.steps.Tests.{are_formed}
use Rattle.sm_compile.proofs.SoundTests.{first_of, formed_along, formed_told, second_of}
use Rattle.sm_accepted.proofs.ClosedSets.{IsClosed, members_inside}
use Rattle.sm_accepted.proofs.EnumsRight.{has_its_values}
use Rattle.sm_accepted.proofs.FormedShapes.{IsFormedEntry, formed_entry, prelude_entry}
use Rattle.sm_accepted.proofs.GivenShapes.{entry_given}
use Rattle.sm_accepted.proofs.MembersRight.{has_text_key, sound_members, value_there}
use Rattle.sm_accepted.proofs.NamesRight.{json_names}
use Rattle.sm_accepted.proofs.TraitsRight.{formed_traits, or_false}

-- a shape of no members that names no values, with traits of their forms
abbrev names_values : Kind → Bool
names_values model.Enum = true
names_values model.IntEnum = true
names_values kind = false

abbrev given_traits : ShapeGiven → TraitsSeen
given_traits p name = find text_cmp name p.traits

abbrev is_plain : ShapeGiven → Bool
is_plain p = has_none p.members && (not (names_values p.kind) && are_formed p.kind (given_traits p))

all_plain : list_all is_plain prelude_shapes ≡ true
all_plain = refl

plain_among : (ss : List ShapeGiven) → list_all is_plain ss ≡ true → (p : ShapeGiven) → Contains ss p → is_plain p ≡ true
plain_among [] all p among = absurd (omega (arith, among.1))
plain_among (s ∷ ss) all p among = elim (cons_cases s ss p among) [
  | inl is ↦ ap is_plain (sym is) ∙ first_of (is_plain s) (list_all is_plain ss) all
  | inr later ↦ plain_among ss (second_of (is_plain s) (list_all is_plain ss) all) p later
]

no_members : (ms : List MemberGiven) → has_none ms ≡ true → ms ≡ []
no_members [] h = refl
no_members (m ∷ ms) h = absurd (apart h)

no_names : (shape : List ℕ) (names : List (List ℕ)) → map (member_id shape) names ≡ [] → names ≡ []
no_names shape [] h = refl
no_names shape (n ∷ names) h = cc

no_key : (g : GraphMaps) (kind : Kind) → HasTextKey g kind []
no_key g model.Map = tt
no_key g kind = tt

no_values : (g : GraphMaps) (kind : Kind) (ms : List (List ℕ)) → not (names_values kind) ≡ true → HasItsValues g kind ms
no_values g model.Enum ms h = absurd (apart h)
no_values g model.IntEnum ms h = absurd (apart h)
no_values g kind ms h = tt

module _ (g : GraphMaps) (f : IsFormedGraph g) where
  plain_sound : (id : List ℕ) (s : ShapeEntry) (p : ShapeGiven) → is_plain p ≡ true → s ≡ entry_given p → IsFormedEntry g id s
      → IsSoundShape g id s
  plain_sound id s p plain is formed =
      let rest = second_of (has_none p.members) _ plain in
      let empty : s.members ≡ [] =
      ap (λ (x : ShapeEntry). x.members) is
      ∙ ap (map (λ (m : MemberGiven). member_id p.id m.name)) (no_members p.members (first_of (has_none p.members) _ plain)) in
      let nameless = no_names id formed.names (sym formed.members ∙ empty) in
      record {
        names = formed.names;
        members = formed.members;
        form = formed.form;
        json_names = subst (λ ns. AllDiffer (map (json_name_of g id) ns)) (sym nameless) tt;
        each = subst (AreSoundMembers g s.kind) (sym empty) tt;
        key = subst (HasTextKey g s.kind) (sym empty) (no_key g s.kind);
        values = no_values g s.kind s.members
            (ap (λ (x : ShapeEntry). not (names_values x.kind)) is ∙ first_of (not (names_values p.kind)) _ rest);
        traits = subst (λ (x : ShapeEntry). AreFormedTraits x.kind (own_traits x.traits)) (sym is)
            (formed_along p.kind (given_traits p) (own_traits (fin.from_entries p.traits))
            (λ name. sym (get-from_entries nat_list_cmp_total p.traits name))
            ((formed_told p.kind (given_traits p)).0 (second_of (not (names_values p.kind)) _ rest)));
      }

  prelude_sound : (id : List ℕ) (s : ShapeEntry) → is_prelude_id id ≡ true → HasEntry g id (shape_entry s) → IsSoundShape g id s
  prelude_sound id s of_prelude there =
      let p = prelude_entry g f id (shape_entry s) of_prelude there in
      let e = p.2 in
      let is : s ≡ entry_given p.0 = cc in
      plain_sound id s p.0 (plain_among prelude_shapes all_plain p.0 p.1) is (formed_entry g f id s there)

  module _ (In : IdSet) (none : NoneFailsIn g In) (closed : IsClosed g In) where
    own_sound : (id : List ℕ) → In id → (s : ShapeEntry) → IsOwnShape g id s → IsSoundShape g id s
    own_sound id inside s own =
        let formed = formed_entry g f id s own.0 in
        let members_in = members_inside g In closed id s own.0 formed.there inside in
        record {
          names = formed.names;
          members = formed.members;
          form = formed.form;
          json_names = json_names g f In none id s own members_in formed.names formed.members formed.there formed.form;
          each = sound_members g f In none id s own members_in formed.there;
          key = has_text_key g f In none id s own members_in formed.names formed.members formed.form;
          values = has_its_values g In none id s own inside members_in (value_there g f In none id s own members_in);
          traits = formed_along s.kind (trait_of g id) (own_traits s.traits) (λ name. ap (trait_in name) own.0)
              (formed_traits g In none id inside own.1 (at_shape s.kind) (of_shape (s, own, refl)) s.kind (λ kinds. or_false (kinds s.kind)));
        }

    pub each_sound : (id : List ℕ) → In id → (s : ShapeEntry) → HasEntry g id (shape_entry s) → IsSoundShape g id s
    each_sound id inside s there = by (is_prelude_id id) refl
      where
        by : (b : Bool) → is_prelude_id id ≡ b → IsSoundShape g id s
        by true is = prelude_sound id s is there
        by false is = own_sound id inside s (there, is)
