-- The values of the members of an enum differ, and there are some, where no rule fails.
use Rattle.std.proofs.Common.{◌≡◌, inl, inr, ℕ, ℤ, List, [], ◌∷◌, ◌++◌, map, Some, refl, sym, ap, subst, ◌∙◌, pos}
use Rattle.std.specs.Prelude.{unwrap_or}
use Rattle.std.specs.List.{Contains, cons_option}
use Rattle.std.proofs.lemmas.List.Elements.{Contains-append_left}
use Rattle.sm_tree.specs.Node.{Node, text, int}
use Rattle.sm_model.specs.Graphs.{GraphMaps, ShapeEntry}
use Rattle.sm_model.specs.declared.kind.Kind.{Kind}
use Rattle.sm_model.specs.declared.kind.Kind.TheVariants as model
use Rattle.sm_model.proofs.LinkedEntries.{cons_here}
use Rattle.sm_shapes.specs.Names.{AllDiffer}
use Rattle.sm_compile.specs.Compiled.{IdSet}
use Rattle.sm_compile.specs.Sound.{AllNumbersDiffer, HasItsValues, HasNumber, HasText, enum_numbers, enum_texts, trait_of}
use Rattle.sm_compile.specs.TraitIds.{enum_value_id}
use Rattle.sm_compile.specs.TraitNodes.{number_of, text_of}
use Rattle.sm_rules.specs.Constraints.{HasItsValue, IsEnumKind, has_none, wrong_value}
use Rattle.sm_rules.specs.Ready.{NoneFailsIn}
use Rattle.sm_rules.specs.Words.{IsOwnShape}
use Rattle.sm_accepted.proofs.ClosedSets.{AreIn}
use Rattle.sm_accepted.proofs.GivenShapes.{behind_head}
use Rattle.sm_accepted.proofs.Lists.{NoneAgain, all_differ, all_numbers_differ, stands_at}

module _ (g : GraphMaps) where
  -- the values, each of a member
  abbrev text_at : List ℕ → List ℕ
  text_at id = unwrap_or (text_of (trait_of g id enum_value_id)) []

  abbrev number_at : List ℕ → ℤ
  number_at id = unwrap_or (number_of (trait_of g id enum_value_id)) (pos 0)

  said_text : (id : List ℕ) → HasText g id → trait_of g id enum_value_id ≡ Some (text (text_at id))
  said_text id h = h.1 ∙ ap (λ t. Some (text t)) (sym (ap (λ o. unwrap_or (text_of o) []) h.1))

  said_number : (id : List ℕ) → HasNumber g id → trait_of g id enum_value_id ≡ Some (int (number_at id))
  said_number id h = h.1 ∙ ap (λ z. Some (int z)) (sym (ap (λ o. unwrap_or (number_of o) (pos 0)) h.1))

  texts_are : (ids : List (List ℕ)) → ((id : List ℕ) → Contains ids id → HasText g id) → enum_texts g ids ≡ map text_at ids
  texts_are [] each = refl
  texts_are (id ∷ ids) each =
      ap (λ o. cons_option (text_of o) (enum_texts g ids)) (said_text id (each id (cons_here id ids)))
      ∙ ap (λ ts. text_at id ∷ ts) (texts_are ids (λ other among. each other (behind_head id ids other among)))

  numbers_are : (ids : List (List ℕ)) → ((id : List ℕ) → Contains ids id → HasNumber g id) → enum_numbers g ids ≡ map number_at ids
  numbers_are [] each = refl
  numbers_are (id ∷ ids) each =
      ap (λ o. cons_option (number_of o) (enum_numbers g ids)) (said_number id (each id (cons_here id ids)))
      ∙ ap (λ zs. number_at id ∷ zs) (numbers_are ids (λ other among. each other (behind_head id ids other among)))

module _ (g : GraphMaps) (In : IdSet) (none : NoneFailsIn g In) (shape : List ℕ) (s : ShapeEntry) (home : IsOwnShape g shape s)
    (home_in : In shape) (members_in : AreIn In s.members) where
  some_members : IsEnumKind s.kind → s.members ≡ [] → ⊥
  some_members enum empty = none.enums shape [] home_in (has_none (s, home, enum, empty) refl)

  -- no two say the same
  none_twice : IsEnumKind s.kind → (before : List (List ℕ)) (id : List ℕ) (later : List (List ℕ)) → s.members ≡ before ++ id ∷ later
      → (earlier : List ℕ) → Contains before earlier → (n : Node) → trait_of g id enum_value_id ≡ Some n
      → trait_of g earlier enum_value_id ≡ Some n → ⊥
  none_twice enum before id later is earlier among n here there =
      none.enums id [] (members_in id (subst (λ ms. Contains ms id) (sym is) (stands_at before id later))) (wrong_value (record {
        shape = shape;
        s = s;
        before = before;
        behind = record { home = home; later = later; members = is };
        kind = enum;
        wrong = inr (earlier, among, (n, here, there));
      }) refl)

  none_again : {X : Type 0} → IsEnumKind s.kind → (node : X → Node) (value : List ℕ → X)
      → ((id : List ℕ) → Contains s.members id → trait_of g id enum_value_id ≡ Some (node (value id))) → NoneAgain value s.members
  none_again enum node value said before x later is y among same =
      let within = λ (z : List ℕ) (there : Contains (before ++ x ∷ later) z). subst (λ ms. Contains ms z) (sym is) there in
      none_twice enum before x later is y among (node (value x)) (said x (within x (stands_at before x later)))
      (said y (within y (Contains-append_left before (x ∷ later) y among)) ∙ ap (λ v. Some (node v)) same)

  texts_differ : IsEnumKind s.kind → ((id : List ℕ) → Contains s.members id → HasText g id) → AllDiffer (enum_texts g s.members)
  texts_differ enum each =
      subst AllDiffer (sym (texts_are g s.members each))
      (all_differ (text_at g) s.members (none_again enum text (text_at g) (λ id among. said_text g id (each id among))))

  numbers_differ : IsEnumKind s.kind → ((id : List ℕ) → Contains s.members id → HasNumber g id)
      → AllNumbersDiffer (enum_numbers g s.members)
  numbers_differ enum each =
      subst AllNumbersDiffer (sym (numbers_are g s.members each))
      (all_numbers_differ (number_at g) s.members (none_again enum int (number_at g) (λ id among. said_number g id (each id among))))

  -- so an enum has its values
  values_of_kind : (kind : Kind) → s.kind ≡ kind → ((id : List ℕ) → Contains s.members id → HasItsValue g kind id)
      → HasItsValues g kind s.members
  values_of_kind model.Enum is each =
      record { some = some_members (inl is); each = each; differ = texts_differ (inl is) each }
  values_of_kind model.IntEnum is each =
      record { some = some_members (inr is); each = each; differ = numbers_differ (inr is) each }
  values_of_kind kind is each = tt

  pub has_its_values : ((id : List ℕ) → Contains s.members id → HasItsValue g s.kind id) → HasItsValues g s.kind s.members
  has_its_values each = values_of_kind s.kind refl each
