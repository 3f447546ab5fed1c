-- Each field of a type has its form under its name.
use Rattle.std.proofs.Common.{◌≡◌, [], ◌∷◌, Some, refl}
use Rattle.sm_model.specs.Properties.{TypeFields, form_named, property_forms}
use Rattle.sm_model.specs.declared.kind.Kind.{Kind}
use Rattle.sm_model.specs.declared.kind.Kind.TheVariants.{Blob, Boolean, Text as text_kind, Enum, Byte, Short, Integer, IntEnum, Long}
use Rattle.sm_model.specs.declared.kind.Kind.TheVariants.{Float, Double, BigInteger}
use Rattle.sm_model.specs.declared.kind.Kind.TheVariants.{BigDecimal, Timestamp, Document, List as list_kind, Map, Structure, Union}
use Rattle.sm_model.specs.declared.kind.Kind.TheVariants.{Service, Operation, Resource}

abbrev pub AreAmong : TypeFields → TypeFields → Type 0
AreAmong all [] = Unit {0}
AreAmong all (f ∷ fs) = (form_named f.0 all ≡ Some f.1) × AreAmong all fs

pub fields_among : (kind : Kind) → AreAmong (property_forms kind) (property_forms kind)
fields_among Operation = (refl, (refl, (refl, tt)))
fields_among Service = (refl, (refl, (refl, (refl, (refl, tt)))))
fields_among Resource = (refl, (refl, (refl, (refl, (refl, (refl, (refl, (refl, (refl, (refl, (refl, tt)))))))))))
fields_among list_kind = tt
fields_among Map = tt
fields_among Structure = tt
fields_among Union = tt
fields_among Enum = tt
fields_among IntEnum = tt
fields_among Blob = tt
fields_among Boolean = tt
fields_among text_kind = tt
fields_among Byte = tt
fields_among Short = tt
fields_among Integer = tt
fields_among Long = tt
fields_among Float = tt
fields_among Double = tt
fields_among BigInteger = tt
fields_among BigDecimal = tt
fields_among Timestamp = tt
fields_among Document = tt
