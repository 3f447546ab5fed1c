-- Whether a body is the text of `null`, as its reader tells.
use Rattle.std.proofs.Common.{arith, ◌≡◌, ◌↔◌, ℕ, Bool, true, false, List, [], ◌∷◌, None, Some, length, append-nil, refl, sym, ap, ◌∙◌, subst}
use Rattle.std.specs.Prelude.{Err, IsTrue, Ok, Option, Result}
use Rattle.sm_tree.specs.Events.{NodeEvent, bool_event, int_event, null_event, number_event, start_list, start_object, text_event}
use Rattle.sm_tree.specs.Node.{Node, null, bool, int, number, text, bytes, tag, opaque, list, object}
use Rattle.sm_tree.specs.Sources.{RefusedSo}
use Rattle.sm_tree.specs.Syntax.{IsRead, IsRefused}
use Rattle.sm_tree.specs.Timing.{Completes, TimedEvent, by_byte, complete_with}
use Rattle.sm_tree.specs.declared.refusal.SyntaxRefusal.{SyntaxRefusal}
use Rattle.sm_tree.specs.declared.refusal.SyntaxRefusal.TheVariants.{Bad, Ended, KeyKind, NoMemory, TooDeep}
use Rattle.sm_tree.proofs.Handing.{handed_before}
use Rattle.sm_tree.proofs.OneAnswer.{one_answer}
use Rattle.sm_tree.proofs.Sources.{come_refused}
use Rattle.sm_json.specs.JsonText.{JsonText, json_syntax}
use Rattle.sm_json.specs.Stands.{JsonHasCome, json_source, refusal_of}
use Rattle.sm_json.specs.Timing.{ValueTimed, by_next, json_timing}
use Rattle.sm_json.specs.declared.pieces.JsonReader.{JsonReader}
use Rattle.sm_json.proofs.NullTexts.{null_completes}
use Rattle.sm_json.proofs.OneTree.{one_tree}
use Rattle.sm_json.proofs.PrefixRuns.{has_one_completion}
use Rattle.sm_json.proofs.Timed.{text_timed}
use Rattle.sm_codec.specs.Named.{is_null}

first_complete : (e : NodeEvent) (k : ℕ) (ts : List TimedEvent) → complete_with 0 (by_byte e k ∷ ts) ≡ e ∷ complete_with 0 ts
first_complete e k ts = handed_before 0 (by_byte e k ∷ []) ts (e ∷ []) (refl, omega arith, tt)

-- a text whose bytes complete the event of `null` alone has it first
first_is : (e : NodeEvent) (k : ℕ) (ts us : List TimedEvent) → ts ≡ by_byte e k ∷ us → null_event ∷ [] ≡ complete_with 0 ts → e ≡ null_event
first_is e k ts us is all =
    let same : null_event ∷ [] ≡ e ∷ complete_with 0 us = all ∙ ap (complete_with 0) is ∙ first_complete e k us in
    cc

next_is : (e : NodeEvent) (r : List ℕ) (ts : List TimedEvent) → ts ≡ by_next e r ∷ [] → null_event ∷ [] ≡ complete_with 0 ts
    → e ≡ null_event
next_is e [] ts is all = let none : null_event ∷ [] ≡ [] = all ∙ ap (complete_with 0) is in cc
next_is e (c ∷ r) ts is all = first_is e (length r) ts [] is all

alone : (n : Node) (s r : List ℕ) (ts : List TimedEvent) → ValueTimed n s r ts [] → null_event ∷ [] ≡ complete_with 0 ts → n ≡ null
alone null s r ts h all = refl
alone (bool b) s r ts (spelt, is) all = let same : bool_event b ≡ null_event = first_is (bool_event b) (length r) ts [] is all in cc
alone (int z) s r ts (spelt, is) all = let same : int_event z ≡ null_event = next_is (int_event z) r ts is all in cc
alone (number t) s r ts (spelt, is) all = let same : number_event t ≡ null_event = next_is (number_event t) r ts is all in cc
alone (text t) s r ts (spelt, is) all = let same : text_event t ≡ null_event = first_is (text_event t) (length r) ts [] is all in cc
alone (bytes t) s r ts h all = absurd h
alone (tag k n) s r ts h all = absurd h
alone (opaque b) s r ts h all = absurd h
alone (list ns) s r ts (s1, vs, begins, is, rest) all =
    let same : start_list None ≡ null_event = first_is (start_list None) (length s1) ts vs is all in cc
alone (object ms) s r ts (s1, vs, begins, is, rest) all =
    let same : start_object None ≡ null_event = first_is (start_object None) (length s1) ts vs is all in cc

null_read : (n : Node) (bs : List ℕ) → IsRead JsonText n bs → Completes json_timing bs (null_event ∷ []) → n ≡ null
null_read n bs (spelt, room) done =
    let (ts, timed) = text_timed n bs spelt in
    let here : Completes json_timing bs (complete_with 0 ts) =
    ([], n, ts, subst (λ b. json_timing n b ts) (sym (append-nil bs)) timed, room, refl) in
    let (s, r, skips, value, white) = timed in
    alone n s r ts value (has_one_completion bs (null_event ∷ []) (complete_with 0 ts) done here)

null_is : (n : Node) → is_null n ≡ true → n ≡ null
null_is null h = refl
null_is (bool b) h = absurd cc
null_is (int z) h = absurd cc
null_is (number t) h = absurd cc
null_is (text t) h = absurd cc
null_is (bytes t) h = absurd cc
null_is (tag k n) h = absurd cc
null_is (opaque b) h = absurd cc
null_is (list ns) h = absurd cc
null_is (object ms) h = absurd cc

-- bytes that are read aren't refused
read_or_refused : (n : Node) (bs : List ℕ) (r : SyntaxRefusal) → IsRead JsonText n bs → IsRefused json_syntax bs r → ⊥
read_or_refused n bs r read refused =
    let never : Path (Result Node SyntaxRefusal) (Ok n) (Err r) = one_answer json_syntax one_tree bs (Ok n) (Err r) read refused in cc

not_refused : (n : Node) (bs : List ℕ) (r : SyntaxRefusal) → (r ≡ NoMemory → ⊥) → IsRead JsonText n bs → RefusedSo json_syntax bs r → ⊥
not_refused n bs (Bad at) memory read h = read_or_refused n bs (Bad at) read h
not_refused n bs Ended memory read h = read_or_refused n bs Ended read h
not_refused n bs (TooDeep at) memory read h = read_or_refused n bs (TooDeep at) read h
not_refused n bs (KeyKind at) memory read h = read_or_refused n bs (KeyKind at) read h
not_refused n bs NoMemory memory read h = memory refl

none_refused : (j : JsonReader) (n : Node) (bs : List ℕ) → (json_source.refusal j ≡ Some NoMemory → ⊥) → JsonHasCome j bs
    → IsRead JsonText n bs → refusal_of j ≡ None
none_refused j n bs memory come read = by (refusal_of j) refl
  where
    by : (o : Option SyntaxRefusal) → refusal_of j ≡ o → refusal_of j ≡ None
    by None is = is
    by (Some r) is = absurd (not_refused n bs r (λ e. memory (is ∙ ap Some e)) read (come_refused json_source j bs r is come))

pub absent_is : (j : JsonReader) (n : Node) (bs : List ℕ) (absent : Bool) → (json_source.refusal j ≡ Some NoMemory → ⊥)
    → JsonHasCome j bs → IsRead JsonText n bs
    → (IsTrue absent ↔ (refusal_of j ≡ None) × Completes json_timing bs (null_event ∷ [])) → absent ≡ is_null n
absent_is j n bs true memory come read told = sym (ap is_null (null_read n bs read (told.0 refl).1))
absent_is j n bs false memory come read told = by (is_null n) refl
  where
    by : (z : Bool) → is_null n ≡ z → false ≡ is_null n
    by false is = sym is
    by true is =
        let whole : JsonText null bs = subst (λ m. JsonText m bs) (null_is n is) read.0 in
        let never : false ≡ true = told.1 (none_refused j n bs memory come read, null_completes bs whole) in
        absurd cc
