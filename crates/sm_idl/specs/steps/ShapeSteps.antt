-- Shapes and statements, as the reader holds them, and what its methods answer for them.
use Rattle.std.specs.Prelude.{◌≡◌, ℕ, List, ◌++◌, Result, Ok, Err}
use Rattle.std.specs.List.{flat_map}
use Rattle.sm_model.specs.RawView.{raw_view}
use Rattle.sm_model.specs.Said.{Said}
use Rattle.sm_model.specs.SaidView.{member_statements_view, statements_view}
use Rattle.sm_model.specs.declared.kind.Kind.{Kind}
use Rattle.sm_model.specs.declared.kind.Kind.TheVariants.{Blob, Boolean, Text, Enum, Byte, Short, Integer, IntEnum, Long, Float}
use Rattle.sm_model.specs.declared.kind.Kind.TheVariants.{Double, BigInteger}
use Rattle.sm_model.specs.declared.kind.Kind.TheVariants.{BigDecimal, Timestamp, Document, List as list_kind, Map, Structure, Union}
use Rattle.sm_model.specs.declared.kind.Kind.TheVariants.{Service, Operation, Resource}
use Rattle.sm_idl.specs.Productions.{Tokens, Production, many}
use Rattle.sm_idl.specs.Nodes.{Home}
use Rattle.sm_idl.specs.Bodies.{Suffixes}
use Rattle.sm_idl.specs.Shapes.{BodySaid, simple_body, members_body, operation_body, pairs_body, item}
use Rattle.sm_idl.specs.declared.members.MemberKind.TheVariants.{Value, Item, Pair, Choice, Field}
use Rattle.sm_idl.specs.declared.reader.ReadStop.{ReadStop}
use Rattle.sm_idl.specs.declared.shapes.Body.{Body}
use Rattle.sm_idl.specs.declared.shapes.BodyForm.{BodyForm}
use Rattle.sm_idl.specs.declared.shapes.BodyForm.TheVariants.{Simple, Members, Parts, Fields}
use Rattle.sm_idl.specs.steps.FileClasses.{ItemsGoOn}
use Rattle.sm_idl.specs.steps.Firm.{Class}
use Rattle.sm_idl.specs.steps.MemberSteps.{form_of, entry}
use Rattle.sm_idl.specs.steps.ReaderView.{StopsIn}
use Rattle.sm_idl.specs.steps.Reading.{IsRead}

-- what stands behind the name of a shape of this type
abbrev pub body_form : Kind → BodyForm
body_form Blob = Simple
body_form Boolean = Simple
body_form Text = Simple
body_form Byte = Simple
body_form Short = Simple
body_form Integer = Simple
body_form Long = Simple
body_form Float = Simple
body_form Double = Simple
body_form BigInteger = Simple
body_form BigDecimal = Simple
body_form Timestamp = Simple
body_form Document = Simple
body_form Enum = Members Value
body_form IntEnum = Members Value
body_form list_kind = Members Item
body_form Map = Members Pair
body_form Union = Members Choice
body_form Structure = Members Field
body_form Operation = Parts
body_form Service = Fields
body_form Resource = Fields

abbrev pub body_by : Home → Suffixes → Kind → List ℕ → BodyForm → Production BodySaid
body_by home endings kind name Simple = simple_body home
body_by home endings kind name (Members m) = members_body home (form_of m) (entry home m)
body_by home endings kind name Parts = operation_body home endings name
body_by home endings kind name Fields = pairs_body home kind

abbrev pub body_view : Body → BodySaid
body_view b = record {
  members = member_statements_view b.members.items;
  mixins = b.mixins.items;
  properties = raw_view b.properties;
  defined = statements_view b.defined.items;
}

-- statements are read, and stand behind those that there were
abbrev pub AddsSaid : Class → Production (List Said) → List Said → List Said → Tokens → Tokens → Result Unit ReadStop → Type 0
AddsSaid G P old new s r (Ok x) = (ss : List Said) × (new ≡ old ++ ss) × IsRead G P ss s r
AddsSaid G P old new s r (Err stop) = StopsIn G P s r stop

-- shapes and apply statements are read, and stand behind the statements that there were
abbrev pub ReadsItems : Home → Suffixes → List Said → List Said → Tokens → Tokens → Result Unit ReadStop → Type 0
ReadsItems home endings old new s r (Ok x) =
    (sss : List (List Said)) × (new ≡ old ++ flat_map (λ ss. ss) sss) × IsRead ItemsGoOn (many (item home endings)) sss s r
ReadsItems home endings old new s r (Err stop) = StopsIn ItemsGoOn (many (item home endings)) s r stop
