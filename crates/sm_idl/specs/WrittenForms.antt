-- How a shape of each type is written: by its line alone, or with what stands in its braces.
use Rattle.sm_model.specs.declared.kind.Kind.{Kind}
use Rattle.sm_model.specs.declared.kind.Kind.TheVariants.{Blob, Boolean, Text, Enum, Byte, Short, Integer, IntEnum, Long, Float}
use Rattle.sm_model.specs.declared.kind.Kind.TheVariants.{Double, BigInteger}
use Rattle.sm_model.specs.declared.kind.Kind.TheVariants.{BigDecimal, Timestamp, Document, List as list_kind, Map, Structure, Union}
use Rattle.sm_model.specs.declared.kind.Kind.TheVariants.{Service, Operation, Resource}
use Rattle.sm_idl.specs.declared.write.form.WrittenForm.{WrittenForm}
use Rattle.sm_idl.specs.declared.write.form.WrittenForm.TheVariants.{Alone, Names, Targets, Fields}

abbrev pub written_form : Kind → WrittenForm
written_form Blob = Alone
written_form Boolean = Alone
written_form Text = Alone
written_form Byte = Alone
written_form Short = Alone
written_form Integer = Alone
written_form Long = Alone
written_form Float = Alone
written_form Double = Alone
written_form BigInteger = Alone
written_form BigDecimal = Alone
written_form Timestamp = Alone
written_form Document = Alone
written_form Enum = Names
written_form IntEnum = Names
written_form list_kind = Targets
written_form Map = Targets
written_form Structure = Targets
written_form Union = Targets
written_form Operation = Fields
written_form Service = Fields
written_form Resource = Fields
