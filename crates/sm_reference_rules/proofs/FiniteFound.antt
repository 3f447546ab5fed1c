-- What is found is what has a finite value.
use Rattle.std.proofs.Common.{◌≡◌, ◌<◌, inl, inr, ℕ, zero, suc, Bool, true, false, List, [], ◌∷◌, Option, Some, None, get_or, length, refl}
use Rattle.std.proofs.Common.{sym, ap, ◌∙◌, subst, arith}
use Rattle.std.specs.Prelude.{is_some}
use Rattle.std.specs.FinMap as fin
use Rattle.std.specs.List.{Contains}
use Rattle.std.proofs.lemmas.Option.{none-some, same_Some}
use Rattle.sm_model.specs.Graphs.{Entry, shape_entry, member_entry, ShapeEntry, MemberEntry, GraphMaps}
use Rattle.sm_model.specs.GraphView.{IsShapeNumber, maps_of}
use Rattle.sm_model.specs.Reaching.{IsMarked, id_of_number}
use Rattle.sm_model.specs.Relations.{HasEntry, IsInGraph}
use Rattle.sm_model.specs.declared.graph.Graph.{Graph}
use Rattle.sm_model.specs.declared.kind.Kind.{Kind}
use Rattle.sm_model.specs.declared.kind.Kind.TheVariants.{Structure, Union}
use Rattle.sm_model.proofs.NumberedIds.{number_of}
use Rattle.sm_model.proofs.Worklist.{apart}
use Rattle.sm_compile.specs.Looked.{kind_in, kind_under, listed_in, listed_under, target_in, target_under}
use Rattle.sm_compile.specs.Sound.{trait_in}
use Rattle.sm_compile.specs.TraitIds.{required_id}
use Rattle.sm_rules.specs.Words.{has_trait}
use Rattle.sm_passes.specs.Owned.{is_member_in}
use Rattle.sm_passes.proofs.EntriesThere.{entry_there}
use Rattle.sm_passes.proofs.OwnShapes.{member_in}
use Rattle.sm_rules.specs.Shapes.{HasFinite, RequiredAreFinite, is_always_finite, not_there, at_once, by_required, by_one, no_more}
use Rattle.sm_rules.specs.Shapes.{finite_target, one_optional}
use Rattle.sm_reference_rules.specs.steps.Finding.{IsStuck, Lacks, Opens, StuckBy, Wants, is_member_id}

module _ (g : Graph) (marks : List Bool) (right : (k : ℕ) → IsMarked marks k → HasFinite (maps_of g) (id_of_number g k)) where
  -- a target that doesn't open has a finite value
  closed_finite : (id : List ℕ) (m : MemberEntry) → HasEntry (maps_of g) id (member_entry m) → (Opens g (IsMarked marks) id → ⊥)
      → HasFinite (maps_of g) m.target
  closed_finite id m there closed = by (fin.get (maps_of g).shapes m.target) refl
    where
      at : (k : ℕ) → IsShapeNumber g k → id_of_number g k ≡ m.target → (b : Bool) → get_or marks k false ≡ b
          → HasFinite (maps_of g) m.target
      at k within same true is = subst (HasFinite (maps_of g)) same (right k is)
      at k within same false is =
          absurd (closed (k, within, ap target_in there ∙ ap Some (sym same), λ marked. apart (sym is ∙ marked)))

      by : (o : Option Entry) → fin.get (maps_of g).shapes m.target ≡ o → HasFinite (maps_of g) m.target
      by None is = not_there m.target (λ e. none-some e.0 (sym is ∙ e.1))
      by (Some e) is = let k = number_of g m.target (e, is) in at k.0 k.1 k.2 (get_or marks k.0 false) refl

  as_member : (id : List ℕ) → (is_member_id g id ≡ false → ⊥) → (m : MemberEntry) × HasEntry (maps_of g) id (member_entry m)
  as_member id h = by (is_member_id g id) refl
    where
      by : (b : Bool) → is_member_id g id ≡ b → (m : MemberEntry) × HasEntry (maps_of g) id (member_entry m)
      by true is = member_in (fin.get (maps_of g).shapes id) is
      by false is = absurd (h is)

  -- a structure whose members it doesn't want
  required_finite : (ids : List (List ℕ)) → ((i : ℕ) → i < length ids → Wants g (IsMarked marks) (get_or ids i []) → ⊥)
      → RequiredAreFinite (maps_of g) ids
  required_finite [] none = no_more
  required_finite (id ∷ ids) none =
      let e = as_member id (λ other. none 0 (omega arith) (inl other)) in
      let rest = required_finite ids (λ i less. none (suc i) (omega (arith, less))) in
      by e.0 e.1 rest (has_trait required_id e.0.traits) refl
    where
      by : (m : MemberEntry) → HasEntry (maps_of g) id (member_entry m) → RequiredAreFinite (maps_of g) ids → (b : Bool)
          → has_trait required_id m.traits ≡ b → RequiredAreFinite (maps_of g) (id ∷ ids)
      by m there rest true needed =
          finite_target id ids m there
          (closed_finite id m there (λ opens. none 0 (omega arith)
          (inr (ap (λ o. is_some (trait_in required_id o)) there ∙ needed, opens)))) rest
      by m there rest false needed = one_optional id ids m there needed rest

  pub structure_finite : (k : ℕ) → kind_under (maps_of g) (id_of_number g k) ≡ Some Structure
      → ((i : ℕ) → i < length (listed_under (maps_of g) (id_of_number g k))
      → Wants g (IsMarked marks) (get_or (listed_under (maps_of g) (id_of_number g k)) i []) → ⊥)
      → HasFinite (maps_of g) (id_of_number g k)
  structure_finite k kind none = by (fin.get (maps_of g).shapes (id_of_number g k)) refl kind none
    where
      by : (o : Option Entry) → fin.get (maps_of g).shapes (id_of_number g k) ≡ o → kind_in o ≡ Some Structure
          → ((i : ℕ) → i < length (listed_in o) → Wants g (IsMarked marks) (get_or (listed_in o) i []) → ⊥)
          → HasFinite (maps_of g) (id_of_number g k)
      by None is kind none = absurd (none-some Structure kind)
      by (Some (shape_entry s)) is kind none =
          by_required (id_of_number g k) s is (same_Some s.kind Structure kind) (required_finite s.members none)
      by (Some (member_entry m)) is kind none = absurd (none-some Structure kind)

  pub union_finite : (k : ℕ) → kind_under (maps_of g) (id_of_number g k) ≡ Some Union → (id : List ℕ)
      → Contains (listed_under (maps_of g) (id_of_number g k)) id → (Lacks g (IsMarked marks) id → ⊥)
      → HasFinite (maps_of g) (id_of_number g k)
  union_finite k kind id among none = by (fin.get (maps_of g).shapes (id_of_number g k)) refl kind among
    where
      by : (o : Option Entry) → fin.get (maps_of g).shapes (id_of_number g k) ≡ o → kind_in o ≡ Some Union → Contains (listed_in o) id
          → HasFinite (maps_of g) (id_of_number g k)
      by None is kind among = absurd (none-some Union kind)
      by (Some (shape_entry s)) is kind among =
          let e = as_member id (λ other. none (inl other)) in
          by_one (id_of_number g k) s is (same_Some s.kind Union kind) id e.0 among e.1
          (closed_finite id e.0 e.1 (λ opens. none (inr opens)))
      by (Some (member_entry m)) is kind among = absurd (none-some Union kind)

-- a shape of any other type that always has one
pub other_finite : (g : Graph) (k : ℕ) (kind : Kind) → kind_under (maps_of g) (id_of_number g k) ≡ Some kind → is_always_finite kind ≡ true
    → HasFinite (maps_of g) (id_of_number g k)
other_finite g k kind there always = by (fin.get (maps_of g).shapes (id_of_number g k)) refl there
  where
    by : (o : Option Entry) → fin.get (maps_of g).shapes (id_of_number g k) ≡ o → kind_in o ≡ Some kind
        → HasFinite (maps_of g) (id_of_number g k)
    by None is h = absurd (none-some kind h)
    by (Some (shape_entry s)) is h = at_once (id_of_number g k) s is (ap is_always_finite (same_Some s.kind kind h) ∙ always)
    by (Some (member_entry m)) is h = absurd (none-some kind h)

-- what isn't marked waits
abbrev AllWait : Graph → List Bool → (ℕ → ℕ) → Type 0
AllWait g marks place = (k : ℕ) → IsShapeNumber g k → (IsMarked marks k → ⊥) → IsStuck g (IsMarked marks) k (place k)

settled : (g : Graph) (marks : List Bool) (place : ℕ → ℕ) → AllWait g marks place → (k : ℕ) → IsShapeNumber g k
    → (IsStuck g (IsMarked marks) k (place k) → ⊥) → IsMarked marks k
settled g marks place waits k within never = by (get_or marks k false) refl
  where
    by : (b : Bool) → get_or marks k false ≡ b → IsMarked marks k
    by true is = is
    by false is = absurd (never (waits k within (λ marked. apart (sym is ∙ marked))))

stuck_as : (g : Graph) (marks : List Bool) (k p : ℕ) (maps : GraphMaps) → maps ≡ maps_of g → (id : List ℕ) (s : ShapeEntry)
    → HasEntry maps id (shape_entry s) → id_of_number g k ≡ id → IsStuck g (IsMarked marks) k p
    → StuckBy g (IsMarked marks) s.members p (Some s.kind)
stuck_as g marks k p maps is id s there same stuck =
    subst (λ o. StuckBy g (IsMarked marks) (listed_in o) p (kind_in o))
    (ap (fin.get (maps_of g).shapes) same ∙ subst (λ x. HasEntry x id (shape_entry s)) is there) stuck

never_stuck : (g : Graph) (marks : List Bool) (ids : List (List ℕ)) (p : ℕ) (kind : Kind) → is_always_finite kind ≡ true
    → StuckBy g (IsMarked marks) ids p (Some kind) → ⊥
never_stuck g marks ids p Structure always stuck = apart always
never_stuck g marks ids p Union always stuck = apart always
never_stuck g marks ids p kind always stuck = apart (sym stuck ∙ always)

target_same : (g : Graph) (id : List ℕ) (m : MemberEntry) (t : ℕ) → HasEntry (maps_of g) id (member_entry m)
    → target_under (maps_of g) id ≡ Some (id_of_number g t) → id_of_number g t ≡ m.target
target_same g id m t there target = same_Some (id_of_number g t) m.target (sym target ∙ ap target_in there)

-- in maps of the graph by another name
here : (g : Graph) (maps : GraphMaps) → maps ≡ maps_of g → (id : List ℕ) (m : MemberEntry) → HasEntry maps id (member_entry m)
    → HasEntry (maps_of g) id (member_entry m)
here g maps is id m there = subst (λ x. HasEntry x id (member_entry m)) is there

mutual
  -- what has a finite value is marked
  pub finite_marked : (g : Graph) (marks : List Bool) (place : ℕ → ℕ) → AllWait g marks place → (m : GraphMaps) → m ≡ maps_of g
      → (id : List ℕ)
      → HasFinite m id → (k : ℕ) → IsShapeNumber g k → id_of_number g k ≡ id → IsMarked marks k
  finite_marked g marks place waits maps is id (not_there i none) k within same =
      absurd (none (subst (λ x. IsInGraph x i) (sym is) (subst (IsInGraph (maps_of g)) same (entry_there g k within))))
  finite_marked g marks place waits maps is id (at_once i s there always) k within same =
      settled g marks place waits k within
      (λ stuck. never_stuck g marks s.members (place k) s.kind always (stuck_as g marks k (place k) maps is id s there same stuck))
  finite_marked g marks place waits maps is id (by_required i s there kind all) k within same =
      settled g marks place waits k within (λ stuck.
      let w = subst (λ c. StuckBy g (IsMarked marks) s.members (place k) (Some c)) kind
      (stuck_as g marks k (place k) maps is id s there same stuck) in
      required_marked g marks place waits maps is s.members all (place k) w.0 w.1)
  finite_marked g marks place waits maps is id (by_one i s there kind member m among entry finite) k within same =
      settled g marks place waits k within (λ stuck.
      let w = subst (λ c. StuckBy g (IsMarked marks) s.members (place k) (Some c)) kind
      (stuck_as g marks k (place k) maps is id s there same stuck) in
      elim (w member among) [
        | inl other ↦ apart (sym other ∙ ap is_member_in (here g maps is member m entry))
        | inr opens ↦
            opens.3 (finite_marked g marks place waits maps is m.target finite opens.0 opens.1
            (target_same g member m opens.0 (here g maps is member m entry) opens.2))
      ])

  required_marked : (g : Graph) (marks : List Bool) (place : ℕ → ℕ) → AllWait g marks place → (m : GraphMaps) → m ≡ maps_of g
      → (ids : List (List ℕ)) → RequiredAreFinite m ids → (i : ℕ) → i < length ids → Wants g (IsMarked marks) (get_or ids i []) → ⊥
  required_marked g marks place waits maps is ids no_more i less w = omega (arith, less)
  required_marked g marks place waits maps is ids (finite_target id rest m there finite more) zero less (inl other) =
      apart (sym other ∙ ap is_member_in (here g maps is id m there))
  required_marked g marks place waits maps is ids (finite_target id rest m there finite more) zero less (inr (needed, opens)) =
      opens.3 (finite_marked g marks place waits maps is m.target finite opens.0 opens.1
      (target_same g id m opens.0 (here g maps is id m there) opens.2))
  required_marked g marks place waits maps is ids (finite_target id rest m there finite more) (suc i) less w =
      required_marked g marks place waits maps is rest more i (omega (arith, less)) w
  required_marked g marks place waits maps is ids (one_optional id rest m there optional more) zero less (inl other) =
      apart (sym other ∙ ap is_member_in (here g maps is id m there))
  required_marked g marks place waits maps is ids (one_optional id rest m there optional more) zero less (inr (needed, opens)) =
      apart (sym optional ∙ sym (ap (λ o. is_some (trait_in required_id o)) (here g maps is id m there)) ∙ needed)
  required_marked g marks place waits maps is ids (one_optional id rest m there optional more) (suc i) less w =
      required_marked g marks place waits maps is rest more i (omega (arith, less)) w
