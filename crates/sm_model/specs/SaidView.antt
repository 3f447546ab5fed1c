-- What statements of the code stand for.
use Rattle.std.specs.Prelude.{List, map}
use Rattle.sm_model.specs.RawView.{raw_view}
use Rattle.sm_model.specs.Said.{TraitSaid, MemberSaid, ShapeSaid, Said, metadata_said, shape_said, apply_said}
use Rattle.sm_model.specs.declared.statement.TraitUse.{TraitUse}
use Rattle.sm_model.specs.declared.statement.TraitUses.{TraitUses}
use Rattle.sm_model.specs.declared.statement.MemberStatement.{MemberStatement}
use Rattle.sm_model.specs.declared.statement.MemberStatements.{MemberStatements}
use Rattle.sm_model.specs.declared.statement.ShapeStatement.{ShapeStatement}
use Rattle.sm_model.specs.declared.statement.Statement.{Statement}
use Rattle.sm_model.specs.declared.statement.Statement.TheVariants.{Metadata, Shape, Apply}

abbrev pub trait_view : TraitUse → TraitSaid
trait_view t = record { id = t.id; value = raw_view t.value }

abbrev pub traits_view : List TraitUse → List TraitSaid
traits_view ts = map trait_view ts

abbrev pub traits_of : TraitUses → List TraitSaid
traits_of ts = traits_view ts.uses.items

abbrev pub member_view : MemberStatement → MemberSaid
member_view m = record { name = m.name; target = m.target; traits = traits_of m.traits }

abbrev pub member_statements_view : List MemberStatement → List MemberSaid
member_statements_view ms = map member_view ms

abbrev pub member_statements_of : MemberStatements → List MemberSaid
member_statements_of ms = member_statements_view ms.members.items

abbrev pub shape_view : ShapeStatement → ShapeSaid
shape_view s = record {
  id = s.id;
  kind = s.kind;
  members = member_statements_of s.members;
  mixins = s.mixins;
  properties = raw_view s.properties;
  traits = traits_of s.traits;
}

abbrev pub statement_view : Statement → Said
statement_view (Metadata key value) = metadata_said key (raw_view value)
statement_view (Shape s) = shape_said (shape_view s)
statement_view (Apply id traits) = apply_said id (traits_of traits)

abbrev pub statements_view : List Statement → List Said
statements_view ss = map statement_view ss
