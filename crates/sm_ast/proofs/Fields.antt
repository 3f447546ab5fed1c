-- The field of a name, where fields stand behind others; and the type of a name.
use Rattle.std.proofs.Common.{◌≡◌, ℕ, Bool, true, false, List, [], ◌∷◌, Option, Some, None, sym, refl, if◌then◌else◌, codes}
use Rattle.std.proofs.lemmas.Slice.Eq.{bytes_eq-Decides}
use Rattle.std.specs.Str.{bytes_eq}
use Rattle.sm_model.specs.Kinds.{kind_name}
use Rattle.sm_model.specs.declared.kind.Kind.{Kind}
use Rattle.sm_model.specs.declared.kind.Kind.TheVariants.{Blob, Boolean, Text, Enum, Byte, Short, Integer, IntEnum, Long, Float, Double}
use Rattle.sm_model.specs.declared.kind.Kind.TheVariants.{BigInteger}
use Rattle.sm_model.specs.declared.kind.Kind.TheVariants.{BigDecimal, Timestamp, Document, List as list_kind, Map, Structure, Union}
use Rattle.sm_model.specs.declared.kind.Kind.TheVariants.{Service, Operation, Resource}
use Rattle.sm_ast.specs.declared.layout.ShapeType.{ShapeType}
use Rattle.sm_ast.specs.declared.layout.ShapeType.TheVariants.{Defined, Applied}
use Rattle.sm_ast.specs.Layout.{type_named, kind_among, all_kinds}

-- the name of a type names it
pub named_kind : (k : Kind) → type_named (kind_name k) ≡ Some (Defined k)
named_kind Blob = refl
named_kind Boolean = refl
named_kind Text = refl
named_kind Enum = refl
named_kind Byte = refl
named_kind Short = refl
named_kind Integer = refl
named_kind IntEnum = refl
named_kind Long = refl
named_kind Float = refl
named_kind Double = refl
named_kind BigInteger = refl
named_kind BigDecimal = refl
named_kind Timestamp = refl
named_kind Document = refl
named_kind list_kind = refl
named_kind Map = refl
named_kind Structure = refl
named_kind Union = refl
named_kind Service = refl
named_kind Operation = refl
named_kind Resource = refl

-- and a text that is the name of no type names none
found_not : (b : Bool) (k : ShapeType) (more : Option ShapeType) → (b ≡ true → ⊥) → more ≡ None → (if b then Some k else more) ≡ None
found_not true k more unnamed e = absurd (unnamed refl)
found_not false k more unnamed e = e

none_among : (name : List ℕ) → ((k : Kind) → name ≡ kind_name k → ⊥) → (ks : List Kind) → kind_among name ks ≡ None
none_among name unnamed [] = refl
none_among name unnamed (k ∷ ks) =
    found_not (bytes_eq name (kind_name k)) (Defined k) (kind_among name ks)
    (λ e. unnamed k ((bytes_eq-Decides name (kind_name k)).0 e)) (none_among name unnamed ks)

pub named_none : (name : List ℕ) → (name ≡ codes "apply" → ⊥) → ((k : Kind) → name ≡ kind_name k → ⊥) → None ≡ type_named name
named_none name other unnamed =
    sym (found_not (bytes_eq name (codes "apply")) Applied (kind_among name all_kinds)
    (λ e. other ((bytes_eq-Decides name (codes "apply")).0 e))
    (none_among name unnamed all_kinds))
