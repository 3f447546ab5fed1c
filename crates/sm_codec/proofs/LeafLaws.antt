-- What all conventions read alike: each leaf that is read is of its simple type.
use Rattle.std.proofs.Common.{◌≡◌, ℕ, ℤ, Bool, true, false, ◌&&◌, cond, List, refl, subst}
use Rattle.std.specs.Prelude.{pos, ◌*ℤ◌, Option, Some, None, Result, Ok, Err}
use Rattle.std.specs.Str.{is_utf8, bytes_eq}
use Rattle.sm_time.specs.declared.format.Format.{Format}
use Rattle.sm_time.specs.declared.format.Format.TheVariants.{EpochSeconds}
use Rattle.sm_time.specs.TimeText.{Form, form_text, digits_of, moment}
use Rattle.sm_time.proofs.StampForms.{and_second}
use Rattle.sm_tree.specs.Node.{Node, bool, int, number, text}
use Rattle.sm_shapes.specs.Values.{Val, bool_val, int_val, text_val, time_val}
use Rattle.sm_shapes.specs.declared.fault.FaultKind.{FaultKind}
use Rattle.sm_shapes.specs.declared.fault.FaultKind.TheVariants.{WrongType, Width, Time, Repeated}
use Rattle.sm_codec.specs.declared.simple.Simple.{Simple}
use Rattle.sm_codec.specs.declared.simple.Simple.TheVariants as the
use Rattle.sm_time.specs.StampTexts.{is_stamp, stamp_of, stamp_of_form, supposed, is_form, is_whole_millis}
use Rattle.sm_codec.specs.Convention.{is_of, fits_bits}
use Rattle.sm_codec.specs.Conventions.{read_boolean, read_text, read_number, read_seconds, read_time_text, or_fault, stamp_val}
use Rattle.sm_codec.specs.Conventions.{stamp_of_seconds, has_fraction_mark}

abbrev pub ok_val : Val → Result Val FaultKind
ok_val v = Ok v

abbrev wrong : FaultKind → Result Val FaultKind
wrong kind = Err kind

pub ok_same : (x y : Val) → ok_val x ≡ Ok y → x ≡ y
ok_same x y h = cc

-- what is read behind a test is of the type that the test says
pub guarded : (x : Simple) (w v : Val) (kind : FaultKind) (b : Bool) → is_of x w ≡ b → cond b (Ok w) (Err kind) ≡ Ok v → is_of x v ≡ true
guarded x w v kind true e h = subst (λ u. is_of x u ≡ true) (ok_same w v h) e
guarded x w v kind false e h = absurd cc

pub boolean_of : (n : Node) (v : Val) → read_boolean n ≡ Ok v → is_of the.Boolean v ≡ true
boolean_of (bool b) v h = subst (λ u. is_of the.Boolean u ≡ true) (ok_same (bool_val b) v h) refl
boolean_of n v h = absurd cc

pub text_of : (n : Node) (v : Val) → read_text n ≡ Ok v → is_of the.Text v ≡ true
text_of (text u) v h = guarded the.Text (text_val u) v WrongType (is_utf8 u) refl h
text_of n v h = absurd cc

pub number_of : (bits : ℕ) (n : Node) (v : Val) → read_number bits n ≡ Ok v → is_of (the.Number bits) v ≡ true
number_of bits (int z) v h = guarded (the.Number bits) (int_val z) v Width (fits_bits bits z) refl h
number_of bits n v h = absurd cc

-- a stamp that is read is one
pub stamped : (format : Format) (o : Option ℤ) (v : Val) → ((ms : ℤ) → o ≡ Some ms → is_stamp ms ≡ true)
    → or_fault Time (stamp_val o) ≡ Ok v → is_of (the.Time format) v ≡ true
stamped format (Some ms) v is h = subst (λ u. is_of (the.Time format) u ≡ true) (ok_same (time_val ms) v h) (is ms refl)
stamped format None v is h = absurd cc

abbrev some_number : ℤ → Option ℤ
some_number z = Some z

some_same : (y z : ℤ) → some_number y ≡ Some z → y ≡ z
some_same y z h = cc

where_some : (b : Bool) (m ms : ℤ) → cond b (Some m) None ≡ some_number ms → (b ≡ true) × (m ≡ ms)
where_some true m ms h = (refl, some_same m ms h)
where_some false m ms h = absurd cc

pub seconds_stamp : (z ms : ℤ) → stamp_of_seconds z ≡ Some ms → is_stamp ms ≡ true
seconds_stamp z ms h =
    let w = where_some (is_stamp (z *ℤ pos 1000)) (z *ℤ pos 1000) ms h in subst (λ y. is_stamp y ≡ true) w.1 w.0

form_stamp : (format : Format) (t : List ℕ) (form : Form) (ms : ℤ) → stamp_of_form format t form ≡ Some ms → is_stamp ms ≡ true
form_stamp format t form ms h =
    let shown = is_form format form && bytes_eq t (form_text form) in
    let last = is_whole_millis (digits_of form) && is_stamp (moment form) in
    let w = where_some (shown && last) (moment form) ms h in
    subst (λ y. is_stamp y ≡ true) w.1 (and_second (is_whole_millis (digits_of form)) (is_stamp (moment form)) (and_second shown last w.0))

pub text_stamp : (format : Format) (t : List ℕ) (ms : ℤ) → stamp_of format t ≡ Some ms → is_stamp ms ≡ true
text_stamp format t ms h = form_stamp format t (supposed format t) ms h

pub seconds_of : (format : Format) (n : Node) (v : Val) → read_seconds n ≡ Ok v → is_of (the.Time format) v ≡ true
seconds_of format (int z) v h = stamped format (stamp_of_seconds z) v (seconds_stamp z) h
seconds_of format (number u) v h = stamped format (stamp_of EpochSeconds u) v (text_stamp EpochSeconds u) h
seconds_of format n v h = absurd cc

pub time_text_of : (format like : Format) (n : Node) (v : Val) → read_time_text like n ≡ Ok v → is_of (the.Time format) v ≡ true
time_text_of format like (text u) v h = stamped format (stamp_of like u) v (text_stamp like u) h
time_text_of format like n v h = absurd cc

-- no fault of a leaf is that a name is repeated
pub no_fault_where : (v : Val) (kind : FaultKind) (b : Bool) → (kind ≡ Repeated → ⊥) → cond b (Ok v) (Err kind) ≡ Err Repeated → ⊥
no_fault_where v kind true never h = cc
no_fault_where v kind false never h = let same : kind ≡ Repeated = cc in never same

pub type_never : WrongType ≡ Repeated → ⊥
type_never h = cc

width_never : Width ≡ Repeated → ⊥
width_never h = cc

pub boolean_never : (n : Node) → read_boolean n ≡ Err Repeated → ⊥
boolean_never (bool b) h = cc
boolean_never n h = cc

pub text_never : (n : Node) → read_text n ≡ Err Repeated → ⊥
text_never (text u) h = no_fault_where (text_val u) WrongType (is_utf8 u) type_never h
text_never n h = cc

fraction_never : (b : Bool) → wrong (cond b WrongType Width) ≡ Err Repeated → ⊥
fraction_never true h = cc
fraction_never false h = cc

pub number_never : (bits : ℕ) (n : Node) → read_number bits n ≡ Err Repeated → ⊥
number_never bits (int z) h = no_fault_where (int_val z) Width (fits_bits bits z) width_never h
number_never bits (number u) h = fraction_never (has_fraction_mark u) h
number_never bits n h = cc

pub stamp_never : (o : Option ℤ) → or_fault Time (stamp_val o) ≡ Err Repeated → ⊥
stamp_never (Some ms) h = cc
stamp_never None h = cc

pub seconds_never : (n : Node) → read_seconds n ≡ Err Repeated → ⊥
seconds_never (int z) h = stamp_never (stamp_of_seconds z) h
seconds_never (number u) h = stamp_never (stamp_of EpochSeconds u) h
seconds_never n h = cc

pub time_text_never : (format : Format) (n : Node) → read_time_text format n ≡ Err Repeated → ⊥
time_text_never format (text u) h = stamp_never (stamp_of format u) h
time_text_never format n h = cc
