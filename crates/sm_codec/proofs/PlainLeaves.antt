-- What the calls that read and write leaves come to, beside the conventions' words.
use Rattle.std.proofs.Common.{◌≡◌, ℕ, zero, suc, ◌<◌, ◌≤◌, ◌^◌, ◌-◌, ◌/◌, ℤ, Bool, true, false, ◌&&◌, cond, List, [], ◌∷◌, refl, sym, ap}
use Rattle.std.proofs.Common.{◌∙◌, subst, arith}
use Rattle.std.specs.Prelude.{nat_lt, nat_eq, Option, Some, None, Result, Ok, Err, IsUtf8, slice_index}
use Rattle.std.specs.Str.{is_utf8}
use Rattle.std.proofs.lemmas.Bool.{false_from_ne_true}
use Rattle.std.proofs.lemmas.Bool.Decides.{Decides-ltb, Decides-eqb}
use Rattle.std.proofs.lemmas.Nat.{pow_pos}
use Rattle.std.proofs.Math.Nat.{div-eq_of_lt, div-lt_iff_lt-mul}
use Rattle.std.proofs.Math.Pow.{pow_mono}
use Rattle.std.proofs.lemmas.Str.{is_utf8-from_IsUtf8, IsUtf8-from_is_utf8}
use Rattle.base64.specs.Engines.{standard}
use Rattle.base64.specs.GeneralPurpose.{IsBytes, decode_of}
use Rattle.sm_tree.specs.Node.{text}
use Rattle.sm_time.specs.declared.format.Format.{Format}
use Rattle.sm_time.specs.declared.format.TimeRefusal.{TimeRefusal}
use Rattle.sm_time.specs.TimeText.{TimeText}
use Rattle.sm_time.specs.Answers.{ReadsStamp}
use Rattle.sm_time.specs.StampTexts.{stamp_of, TellsStamp}
use Rattle.sm_time.proofs.OneAnswer.{one_answer}
use Rattle.sm_time.proofs.StampForms.{and_second}
use Rattle.sm_time.proofs.StampTold.{stamp_told}
use Rattle.sm_shapes.specs.Values.{text_val, blob_val}
use Rattle.sm_shapes.specs.declared.fault.FaultKind.TheVariants.{WrongType, Base64}
use Rattle.sm_codec.specs.declared.simple.Simple.{Simple}
use Rattle.sm_codec.specs.declared.simple.Simple.TheVariants as the
use Rattle.sm_codec.specs.Convention.{are_bytes, is_of}
use Rattle.sm_codec.specs.Conventions.{read_text, read_base64, decoded_blob, node_carries}

-- the stamp that is read is the one that is told, and where none is read none is told
abbrev ok_stamp : ℤ → Result ℤ TimeRefusal
ok_stamp ms = Ok ms

same_ok : (y z : ℤ) → ok_stamp y ≡ Ok z → y ≡ z
same_ok y z h = cc

no_ok : (y : ℤ) (e : TimeRefusal) → ok_stamp y ≡ Err e → ⊥
no_ok y e h = cc

read_told : (format : Format) (t : List ℕ) (ms : ℤ) (o : Option ℤ) → TimeText format ms t → TellsStamp format t o → o ≡ Some ms
read_told format t ms (Some y) h told = ap (λ z. Some z) (same_ok y ms (one_answer format t (Ok y) (Ok ms) told h))
read_told format t ms None h told = absurd (told ms h)

pub read_is_told : (format : Format) (t : List ℕ) (ms : ℤ) → ReadsStamp format t (Ok ms) → stamp_of format t ≡ Some ms
read_is_told format t ms h = read_told format t ms (stamp_of format t) h (stamp_told format t)

none_told : (format : Format) (t : List ℕ) (e : TimeRefusal) (o : Option ℤ) → ReadsStamp format t (Err e) → TellsStamp format t o → o ≡ None
none_told format t e (Some y) h told = absurd (no_ok y e (one_answer format t (Ok y) (Err e) told h))
none_told format t e None h told = refl

pub none_is_told : (format : Format) (t : List ℕ) (e : TimeRefusal) → ReadsStamp format t (Err e) → stamp_of format t ≡ None
none_is_told format t e h = none_told format t e (stamp_of format t) h (stamp_told format t)

-- texts of the code are UTF-8
pub text_is_read : (u : List ℕ) → IsUtf8 u → read_text (text u) ≡ Ok (text_val u)
text_is_read u h = ap (λ b. cond b (Ok (text_val u)) (Err WrongType)) (is_utf8-from_IsUtf8 u h)

-- what are bytes by their type
pub bytes_are : (u : List ℕ) → ((i : ℕ) → slice_index u i < 256) → are_bytes u ≡ true
bytes_are [] h = refl
bytes_are (b ∷ u) h =
    ap (λ c. c && are_bytes u) ((Decides-ltb b 256).1 (h 0)) ∙ bytes_are u (λ i. h (suc i))

pub base64_is_read : (u b : List ℕ) → decode_of standard u ≡ Ok b → IsBytes b → read_base64 (text u) ≡ Ok (blob_val b)
base64_is_read u b h bytes = ap decoded_blob h ∙ ap (λ c. cond c (Ok (blob_val b)) (Err Base64)) (bytes_are b bytes)

-- bytes that nodes carry as a text are one
pub carried_raw : (x : Simple) (u : List ℕ) → node_carries true x (blob_val u) ≡ true → IsUtf8 u
carried_raw x u h = IsUtf8-from_is_utf8 u (and_second (is_of x (blob_val u)) (is_utf8 u) h)

-- words of so many places
pub far_places : (n bits places : ℕ) → places ≡ bits - 1 → n < 2 ^ 64 → 64 ≤ places → true ≡ nat_lt n (2 ^ (bits - 1))
far_places n bits places e small far =
    let reach : 2 ^ 64 ≤ 2 ^ places = pow_mono far in
    sym (subst (λ p. nat_lt n (2 ^ p) ≡ true) e ((Decides-ltb n (2 ^ places)).1 (omega (arith, small, reach))))

no_clash : (b : Bool) → b ≡ true → b ≡ false → ⊥
no_clash b h g = cc

quotient_zero : (n d q : ℕ) → q ≡ n / d → q ≡ 0 → zero < d → n < d
quotient_zero n d q e z h =
    let little : n / d < 1 = subst (λ x. x < 1) e (omega (arith, z)) in
    let less = (div-lt_iff_lt-mul h).0 little in omega (arith, less)

far_quotient : (n d : ℕ) → zero < d → (n < d → ⊥) → nat_eq (n / d) 0 ≡ false
far_quotient n d h far =
    false_from_ne_true (nat_eq (n / d) 0) (λ e. far (quotient_zero n d (n / d) refl ((Decides-eqb (n / d) 0).0 e) h))

below_or_not : (n d : ℕ) (b : Bool) → zero < d → nat_lt n d ≡ b → nat_eq (n / d) 0 ≡ b
below_or_not n d true h e = ap (λ q. nat_eq q 0) (div-eq_of_lt ((Decides-ltb n d).0 e))
below_or_not n d false h e = far_quotient n d h (λ g. no_clash (nat_lt n d) ((Decides-ltb n d).1 g) e)

pub few_places : (n places : ℕ) → nat_eq (n / 2 ^ places) 0 ≡ nat_lt n (2 ^ places)
few_places n places = below_or_not n (2 ^ places) (nat_lt n (2 ^ places)) (pow_pos places) refl

pub not_utf8 : (u : List ℕ) → (IsUtf8 u → ⊥) → is_utf8 u ≡ false
not_utf8 u h = false_from_ne_true (is_utf8 u) (λ e. h (IsUtf8-from_is_utf8 u e))
