-- The ids of shapes and of their members differ, where the shapes' do and the names of each shape's members.
use Rattle.std.proofs.Common.{◌≡◌, inl, inr, ℕ, List, [], ◌∷◌, ◌++◌, length, refl, sym, ap, subst, ◌∙◌, arith}
use Rattle.std.proofs.Common.{length-append}
use Rattle.std.specs.Prelude.{codes}
use Rattle.std.proofs.lemmas.List.{map-append}
use Rattle.sm_ids.proofs.MadeIds.{one_name}
use Rattle.sm_ids.proofs.TextCuts.{of_member, of_shape}
use Rattle.sm_model.specs.Formed.{StandsAmong, DifferInNames, HaveForm}
use Rattle.sm_model.specs.Given.{AreGivenShapes, IsGivenShape, given_ids, given_names}
use Rattle.sm_model.specs.Graphs.{MemberGiven, ShapeGiven, given_entries, given_members, given_shape, member_id}
use Rattle.sm_model.specs.Kinds.{MemberForm, none, exactly, any, member_form}
use Rattle.sm_model.specs.References.{IsShapeId}
use Rattle.sm_model.specs.declared.kind.Kind.{Kind}
use Rattle.sm_model.specs.declared.kind.Kind.TheVariants.{Blob, Boolean, Text, Enum, Byte, Short, Integer, IntEnum, Long, Float, Double}
use Rattle.sm_model.specs.declared.kind.Kind.TheVariants.{BigInteger, BigDecimal, Timestamp, Document, List as list_kind, Map, Structure}
use Rattle.sm_model.specs.declared.kind.Kind.TheVariants.{Union, Service, Operation, Resource}
use Rattle.sm_model.proofs.MapFacts.{keys}
use Rattle.sm_model.specs.Used.{shape_part}
use Rattle.sm_merge.proofs.NamesOnce.{differ_joined, stands_either}
use Rattle.sm_merge.proofs.PreludeGiven.{differ_by_test}

-- names of which a form consists differ
abbrev pub IsFineForm : MemberForm → Type 0
IsFineForm none = Unit {0}
IsFineForm (exactly names) = DifferInNames names
IsFineForm any = Unit {0}

pub fine_form : (kind : Kind) → IsFineForm (member_form kind)
fine_form list_kind = differ_by_test (codes "member" ∷ []) refl
fine_form Map = differ_by_test (codes "key" ∷ codes "value" ∷ []) refl
fine_form Structure = tt
fine_form Union = tt
fine_form Enum = tt
fine_form IntEnum = tt
fine_form Blob = tt
fine_form Boolean = tt
fine_form Text = tt
fine_form Byte = tt
fine_form Short = tt
fine_form Integer = tt
fine_form Long = tt
fine_form Float = tt
fine_form Double = tt
fine_form BigInteger = tt
fine_form BigDecimal = tt
fine_form Timestamp = tt
fine_form Document = tt
fine_form Service = tt
fine_form Operation = tt
fine_form Resource = tt

pub form_differ : (form : MemberForm) → IsFineForm form → (names : List (List ℕ)) → HaveForm form names → DifferInNames names
form_differ none fine names h = subst DifferInNames (sym h) tt
form_differ (exactly wanted) fine names h = subst DifferInNames (sym h) fine
form_differ any fine names h = h

-- keys in front, and keys behind
pub keys_joined : {X : Type 0} (es fs : List (List ℕ × X)) → keys (es ++ fs) ≡ keys es ++ keys fs
keys_joined es fs = map-append (λ e. e.0) es fs

-- the shape of an id
of_members : (shape : List ℕ) → IsShapeId shape → (ms : List MemberGiven) (k : List ℕ) → StandsAmong k (keys (given_members shape ms))
    → shape_part k ≡ shape
of_members shape is [] k h = absurd h
of_members shape is (m ∷ ms) k (inl same) = ap shape_part same ∙ of_member shape is m.name
of_members shape is (m ∷ ms) k (inr h) = of_members shape is ms k h

of_block : (s : ShapeGiven) → IsShapeId s.id → (k : List ℕ) → StandsAmong k (keys (given_shape s)) → shape_part k ≡ s.id
of_block s is k (inl same) = ap shape_part same ∙ of_shape s.id is
of_block s is k (inr h) = of_members s.id is s.members k h

not_own : (shape : List ℕ) (ms : List MemberGiven) → StandsAmong shape (keys (given_members shape ms)) → ⊥
not_own shape [] h = h
not_own shape (m ∷ ms) (inl same) =
    let longer = ap length same in
    let counted = length-append shape (36 ∷ m.name) in
    omega (arith, longer, counted)
not_own shape (m ∷ ms) (inr h) = not_own shape ms h

-- names that differ give ids that differ
name_among : (shape name : List ℕ) (ms : List MemberGiven) → StandsAmong (member_id shape name) (keys (given_members shape ms))
    → StandsAmong name (given_names ms)
name_among shape name [] h = h
name_among shape name (m ∷ ms) (inl same) = inl (one_name shape name m.name same)
name_among shape name (m ∷ ms) (inr h) = inr (name_among shape name ms h)

members_differ : (shape : List ℕ) (ms : List MemberGiven) → DifferInNames (given_names ms) → DifferInNames (keys (given_members shape ms))
members_differ shape [] d = tt
members_differ shape (m ∷ ms) d = ((λ h. d.0 (name_among shape m.name ms h)), members_differ shape ms d.1)

block_differs : (s : ShapeGiven) → IsGivenShape s → DifferInNames (keys (given_shape s))
block_differs s h = (
  not_own s.id s.members,
  members_differ s.id s.members (form_differ (member_form s.kind) (fine_form s.kind) (given_names s.members) h.names),
)

pub shapes_of : (ss : List ShapeGiven) → AreGivenShapes ss → (k : List ℕ) → StandsAmong k (keys (given_entries ss))
    → StandsAmong (shape_part k) (given_ids ss)
shapes_of [] g k h = h
shapes_of (s ∷ ss) g k h =
    elim (stands_either k (keys (given_shape s)) (keys (given_entries ss))
    (subst (StandsAmong k) (keys_joined (given_shape s) (given_entries ss)) h)) [
      | inl here ↦ inl (of_block s g.0.id k here)
      | inr later ↦ inr (shapes_of ss g.1 k later)
    ]

pub entries_differ : (ss : List ShapeGiven) → AreGivenShapes ss → DifferInNames (given_ids ss) → DifferInNames (keys (given_entries ss))
entries_differ [] g d = tt
entries_differ (s ∷ ss) g d =
    subst DifferInNames (sym (keys_joined (given_shape s) (given_entries ss)))
    (differ_joined (keys (given_shape s)) (keys (given_entries ss)) (block_differs s g.0) (entries_differ ss g.1 d.1)
    (λ k here later. d.0 (subst (λ i. StandsAmong i (given_ids ss)) (of_block s g.0.id k here) (shapes_of ss g.1 k later))))
