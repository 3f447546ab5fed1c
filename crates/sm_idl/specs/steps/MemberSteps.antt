-- The kinds of members, as the reader tells them apart, and what its methods answer for them.
use Rattle.std.specs.Prelude.{◌≡◌, ℕ, false, List, [], ◌∷◌, ◌++◌, Option, Some, None, codes, Vec, IfOk, Result}
use Rattle.std.specs.BTreeSet.{BTreeSet}
use Rattle.std.specs.declared.alloc.Global.{Global}
use Rattle.std.specs.declared.string.String.{String}
use Rattle.sm_model.specs.Formed.{stated_names}
use Rattle.sm_model.specs.Kinds.{MemberForm, exactly, any}
use Rattle.sm_model.specs.Raw.{Raw}
use Rattle.sm_model.specs.References.{absolute}
use Rattle.sm_model.specs.PreludeShapes.{unit_id}
use Rattle.sm_model.specs.Said.{TraitSaid, MemberSaid}
use Rattle.sm_model.specs.SaidView.{member_view, member_statements_view}
use Rattle.sm_model.specs.declared.statement.MemberStatement.{MemberStatement}
use Rattle.sm_idl.specs.Productions.{Production}
use Rattle.sm_idl.specs.Words.{IsNew}
use Rattle.sm_idl.specs.Nodes.{Home}
use Rattle.sm_idl.specs.Traits.{value_trait}
use Rattle.sm_idl.specs.Members.{IsNameOf, HasMembers, arranged, enum_member, member, field}
use Rattle.sm_idl.specs.declared.members.MemberKind.{MemberKind}
use Rattle.sm_idl.specs.declared.members.MemberKind.TheVariants.{Value, Item, Pair, Choice, Field}
use Rattle.sm_idl.specs.declared.reader.ReadStop.{ReadStop}
use Rattle.sm_idl.specs.steps.Names.{Remembers}

-- which members a shape with members of this kind has
abbrev pub form_of : MemberKind → MemberForm
form_of Value = any
form_of Item = exactly (codes "member" ∷ [])
form_of Pair = exactly (codes "key" ∷ codes "value" ∷ [])
form_of Choice = any
form_of Field = any

abbrev pub entry : Home → MemberKind → List MemberSaid → Production MemberSaid
entry home Value = enum_member home
entry home Item = member home (form_of Item)
entry home Pair = member home (form_of Pair)
entry home Choice = member home any
entry home Field = field home

-- what an enum member and a field come to with the value behind `=`
abbrev pub enum_member_said : List ℕ → List TraitSaid → Option Raw → MemberSaid
enum_member_said name ts value =
    record { name = name; target = absolute unit_id false; traits = ts ++ value_trait (codes "enumValue") value }

abbrev pub field_said : MemberSaid → Option Raw → MemberSaid
field_said m value = record m { traits = m.traits ++ value_trait (codes "default") value }

-- each has a name that the form takes, and that none before it has
abbrev pub AreNamed : MemberForm → List MemberSaid → List MemberSaid → Type 0
AreNamed form before [] = Unit {0}
AreNamed form before (m ∷ ms) = IsNameOf form m.name × IsNew m.name (stated_names before) × AreNamed form (before ++ m ∷ []) ms

-- the members in the order of the type, where it has those that it must have
abbrev pub Arranges : MemberForm → List MemberSaid → Option (Vec MemberStatement Global) → Type 0
Arranges form ms None = HasMembers form ms → ⊥
Arranges form ms (Some members) = HasMembers form ms × (member_statements_view members.items ≡ arranged form ms)

-- the name of a member that is read has come then
abbrev pub RemembersMember : BTreeSet (String Global) → BTreeSet (String Global) → Result MemberStatement ReadStop → Type 0
RemembersMember old new result = (before : List MemberSaid) → Remembers old (stated_names before)
    → IfOk result (λ m. Remembers new (stated_names (before ++ member_view m ∷ [])))
