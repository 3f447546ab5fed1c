-- The types by their names: each has one, and other words have none.
use Rattle.std.proofs.Common.{◌≡◌, ℕ, List, [], ◌∷◌, Option, Some, None, if◌then◌else◌, bytes_eq, refl, sym, ap, ◌∙◌}
use Rattle.sm_model.specs.Kinds.{kind_name}
use Rattle.sm_model.specs.declared.kind.Kind.{Kind}
use Rattle.sm_model.specs.declared.kind.Kind.TheVariants.{Blob, Boolean, Text, Enum, Byte, Short, Integer, IntEnum, Long, Float}
use Rattle.sm_model.specs.declared.kind.Kind.TheVariants.{Double, BigInteger}
use Rattle.sm_model.specs.declared.kind.Kind.TheVariants.{BigDecimal, Timestamp, Document, List as list_kind, Map, Structure, Union}
use Rattle.sm_model.specs.declared.kind.Kind.TheVariants.{Service, Operation, Resource}
use Rattle.sm_idl.specs.steps.Classes.{AWord}
use Rattle.sm_idl.specs.steps.Firm.{AreApart}
use Rattle.sm_idl.specs.steps.FileClasses.{TypeWord}

abbrev named_among : List ℕ → List Kind → Option Kind
named_among w [] = None
named_among w (k ∷ ks) = if bytes_eq w (kind_name k) then Some k else named_among w ks

abbrev all_kinds : List Kind
all_kinds = Blob ∷ Boolean ∷ Text ∷ Enum ∷ Byte ∷ Short ∷ Integer ∷ IntEnum ∷ Long ∷ Float ∷ Double ∷ BigInteger ∷ BigDecimal ∷ Timestamp
    ∷ Document ∷ list_kind ∷ Map ∷ Structure ∷ Union ∷ Service ∷ Operation ∷ Resource ∷ []

-- the type of this name
abbrev pub kind_named : List ℕ → Option Kind
kind_named w = named_among w all_kinds

pub named_back : (k : Kind) → kind_named (kind_name k) ≡ Some k
named_back Blob = refl
named_back Boolean = refl
named_back Text = refl
named_back Enum = refl
named_back Byte = refl
named_back Short = refl
named_back Integer = refl
named_back IntEnum = refl
named_back Long = refl
named_back Float = refl
named_back Double = refl
named_back BigInteger = refl
named_back BigDecimal = refl
named_back Timestamp = refl
named_back Document = refl
named_back list_kind = refl
named_back Map = refl
named_back Structure = refl
named_back Union = refl
named_back Service = refl
named_back Operation = refl
named_back Resource = refl

abbrev kind_or_blob : Option Kind → Kind
kind_or_blob None = Blob
kind_or_blob (Some k) = k

pub one_kind : (j k : Kind) → kind_name j ≡ kind_name k → j ≡ k
one_kind j k e = ap kind_or_blob (sym (named_back j) ∙ ap kind_named e ∙ named_back k)

nothing_named : (k : Kind) → None ≡ Some k → ⊥
nothing_named k e = cc

pub no_type_word : (w : List ℕ) → kind_named w ≡ None → AreApart (AWord w) TypeWord
no_type_word w none t h k = nothing_named k.0 (sym none ∙ ap kind_named (sym h.1 ∙ k.1.1) ∙ named_back k.0)
