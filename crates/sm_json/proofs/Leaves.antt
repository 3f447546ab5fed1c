-- What a byte does where a leaf must come: a string, a literal name or a number begins, or nothing does.
use Rattle.std.proofs.Common.{◌≡◌, ◌≢◌, ℕ, ◌≤◌, inl, inr, true, false, List, [], ◌∷◌, ◌++◌, refl, sym, ap, subst, ◌∙◌, arith, lit<}
use Rattle.std.proofs.Common.{length, drop, codes}
use Rattle.sm_tree.specs.Node.{Node, null, bool, int, number, text, bytes, tag, opaque, list, object}
use Rattle.sm_tree.specs.Levels.{levels}
use Rattle.sm_tree.specs.Events.{NodeEvent, int_event, number_event, events}
use Rattle.sm_tree.specs.Timing.{TimedEvent, by_byte}
use Rattle.sm_tree.specs.Numbers.{IsNumber, NumberText}
use Rattle.sm_tree.specs.declared.build.OpenKind.{OpenKind}
use Rattle.sm_json.specs.Strings.{is_whitespace, SpellsText, Characters}
use Rattle.sm_json.specs.JsonText.{SpellsNumber, SpellsValue}
use Rattle.sm_json.specs.Timing.{by_next, ValueTimed}
use Rattle.sm_json.specs.steps.TextRest.{TextRest}
use Rattle.sm_json.specs.steps.Rest.{value, word, numeral, in_text, letters, literal_node, literal_event, NumberTimed, ValueNow}
use Rattle.sm_json.specs.steps.Rest.{ValueComes, QuotedComes, JsonRestAt, JsonLeads, JsonStops}
use Rattle.sm_json.specs.steps.Machine.{first_letter}
use Rattle.sm_json.specs.declared.spot.Spot.TheVariants.{Plain}
use Rattle.sm_json.specs.declared.place.Literal.{Literal}
use Rattle.sm_json.specs.declared.place.Literal.TheVariants.{Null, True, False}
use Rattle.sm_json.specs.declared.place.Role.TheVariants.{Value}
use Rattle.sm_json.proofs.Starts.{below, above, heads, tails, StartsNumber, FirstByte, spells_first, number_start}
use Rattle.sm_json.proofs.Timed.{value_spelt, timed_first}
use Rattle.sm_json.proofs.Whole.{silent_leads}
use Rattle.sm_json.proofs.Opening.{at, digit_is_not, kind_of_text, value_here, value_now}

-- `"`: the rest of a string comes
pub text_onward : (t s r : List ℕ) → SpellsText t (34 ∷ s) r → TextRest Plain [] s t r
text_onward t s r (cs, s1, e, o, h) = (cs, e, subst (λ x. Characters cs x r) (sym (tails 34 34 s s1 o)) h)

pub text_back : (t s r : List ℕ) → TextRest Plain [] s t r → SpellsText t (34 ∷ s) r
text_back t s r (cs, e, h) = (cs, s, e, refl, h)

string_onward : (limit : ℕ) (ks : List OpenKind) (s : List ℕ) (ts : List TimedEvent) → ValueNow limit ks (34 ∷ s) ts
    → QuotedComes limit Value Plain [] ks s ts
string_onward limit ks s ts (n, r, us, h, room, en) =
    let k = kind_of_text n (timed_first n 34 s r ts us h) in
    let (spelt, timed) = subst (λ x. ValueTimed x (34 ∷ s) r ts us) k.1 h in (k.0, r, us, text_onward k.0 s r spelt, en, timed)

string_back : (limit : ℕ) (ks : List OpenKind) (s : List ℕ) (ts : List TimedEvent) → length ks ≤ limit
    → QuotedComes limit Value Plain [] ks s ts → ValueComes limit ks (34 ∷ s) ts
string_back limit ks s ts room (t, r, us, h, en, timed) =
    value_now limit ks (34 ∷ s) ts (text t, r, us, (text_back t s r h, timed), omega arith, en)

pub string_begins : (limit : ℕ) (ks : List OpenKind) → length ks ≤ limit
    → JsonLeads limit (at value ks) (34 ∷ []) [] (at (in_text Value Plain []) ks)
string_begins limit ks room =
    silent_leads limit (at value ks) (34 ∷ []) (at (in_text Value Plain []) ks)
    (λ s ts h. string_onward limit ks s ts (value_here limit ks 34 s ts refl h))
    (λ s ts h. string_back limit ks s ts room h)

-- `n`, `t` and `f`: the rest of a literal name comes
kind_of_null : (n : Node) → FirstByte n 110 → n ≡ null
kind_of_null null e = refl
kind_of_null (bool true) e = absurd (below 110 116 (lit< tt) e)
kind_of_null (bool false) e = absurd (above 110 102 (lit< tt) e)
kind_of_null (int z) h = absurd (digit_is_not 110 110 h refl (inr (omega arith)))
kind_of_null (number t) h = absurd (digit_is_not 110 110 h refl (inr (omega arith)))
kind_of_null (text t) e = absurd (above 110 34 (lit< tt) e)
kind_of_null (bytes t) h = absurd h
kind_of_null (tag k n) h = absurd h
kind_of_null (opaque b) h = absurd h
kind_of_null (list ns) e = absurd (above 110 91 (lit< tt) e)
kind_of_null (object ms) e = absurd (below 110 123 (lit< tt) e)

kind_of_true : (n : Node) → FirstByte n 116 → n ≡ bool true
kind_of_true null e = absurd (above 116 110 (lit< tt) e)
kind_of_true (bool true) e = refl
kind_of_true (bool false) e = absurd (above 116 102 (lit< tt) e)
kind_of_true (int z) h = absurd (digit_is_not 116 116 h refl (inr (omega arith)))
kind_of_true (number t) h = absurd (digit_is_not 116 116 h refl (inr (omega arith)))
kind_of_true (text t) e = absurd (above 116 34 (lit< tt) e)
kind_of_true (bytes t) h = absurd h
kind_of_true (tag k n) h = absurd h
kind_of_true (opaque b) h = absurd h
kind_of_true (list ns) e = absurd (above 116 91 (lit< tt) e)
kind_of_true (object ms) e = absurd (below 116 123 (lit< tt) e)

kind_of_false : (n : Node) → FirstByte n 102 → n ≡ bool false
kind_of_false null e = absurd (below 102 110 (lit< tt) e)
kind_of_false (bool true) e = absurd (below 102 116 (lit< tt) e)
kind_of_false (bool false) e = refl
kind_of_false (int z) h = absurd (digit_is_not 102 102 h refl (inr (omega arith)))
kind_of_false (number t) h = absurd (digit_is_not 102 102 h refl (inr (omega arith)))
kind_of_false (text t) e = absurd (above 102 34 (lit< tt) e)
kind_of_false (bytes t) h = absurd h
kind_of_false (tag k n) h = absurd h
kind_of_false (opaque b) h = absurd h
kind_of_false (list ns) e = absurd (above 102 91 (lit< tt) e)
kind_of_false (object ms) e = absurd (below 102 123 (lit< tt) e)

letter_not_white : (w : Literal) → is_whitespace (first_letter w) ≡ false
letter_not_white Null = refl
letter_not_white True = refl
letter_not_white False = refl

spells_word : (w : Literal) (n : Node) (s r : List ℕ) (ts us : List TimedEvent) → ValueTimed n (first_letter w ∷ s) r ts us
    → (s ≡ drop 1 (letters w) ++ r) × (ts ≡ by_byte (literal_event w) (length r) ∷ us)
spells_word Null n s r ts us h =
    let k = kind_of_null n (timed_first n 110 s r ts us h) in
    let (spelt, timed) = subst (λ x. ValueTimed x (110 ∷ s) r ts us) k h in (tails 110 110 s (codes "ull" ++ r) spelt, timed)
spells_word True n s r ts us h =
    let k = kind_of_true n (timed_first n 116 s r ts us h) in
    let (spelt, timed) = subst (λ x. ValueTimed x (116 ∷ s) r ts us) k h in (tails 116 116 s (codes "rue" ++ r) spelt, timed)
spells_word False n s r ts us h =
    let k = kind_of_false n (timed_first n 102 s r ts us h) in
    let (spelt, timed) = subst (λ x. ValueTimed x (102 ∷ s) r ts us) k h in (tails 102 102 s (codes "alse" ++ r) spelt, timed)

word_onward : (limit : ℕ) (w : Literal) (ks : List OpenKind) (s : List ℕ) (ts : List TimedEvent) → ValueNow limit ks (first_letter w ∷ s) ts
    → JsonRestAt limit (word w 1) ks s ts
word_onward limit w ks s ts (n, r, us, h, room, en) = let (rest, timed) = spells_word w n s r ts us h in (r, us, rest, en, timed)

word_spells : (w : Literal) (s r : List ℕ) (ts us : List TimedEvent) → s ≡ drop 1 (letters w) ++ r
    → ts ≡ by_byte (literal_event w) (length r) ∷ us → ValueTimed (literal_node w) (first_letter w ∷ s) r ts us
word_spells Null s r ts us e timed = (ap (λ x. 110 ∷ x) e, timed)
word_spells True s r ts us e timed = (ap (λ x. 116 ∷ x) e, timed)
word_spells False s r ts us e timed = (ap (λ x. 102 ∷ x) e, timed)

word_levels : (w : Literal) → levels (literal_node w) ≡ 0
word_levels Null = refl
word_levels True = refl
word_levels False = refl

word_back : (limit : ℕ) (w : Literal) (ks : List OpenKind) (s : List ℕ) (ts : List TimedEvent) → length ks ≤ limit
    → JsonRestAt limit (word w 1) ks s ts → ValueComes limit ks (first_letter w ∷ s) ts
word_back limit w ks s ts room (r, us, e, en, timed) =
    value_now limit ks (first_letter w ∷ s) ts (literal_node w, r, us, word_spells w s r ts us e timed, omega (arith, word_levels w), en)

pub word_begins : (limit : ℕ) (w : Literal) (ks : List OpenKind) → length ks ≤ limit
    → JsonLeads limit (at value ks) (first_letter w ∷ []) [] (at (word w 1) ks)
word_begins limit w ks room =
    silent_leads limit (at value ks) (first_letter w ∷ []) (at (word w 1) ks)
    (λ s ts h. word_onward limit w ks s ts (value_here limit ks (first_letter w) s ts (letter_not_white w) h))
    (λ s ts h. word_back limit w ks s ts room h)

-- a digit or `-`: the rest of a number comes
numeral_of : (n : Node) (c : ℕ) (s r : List ℕ) (ts us : List TimedEvent) → StartsNumber c → ValueTimed n (c ∷ s) r ts us
    → SpellsNumber n (c ∷ s) r × NumberTimed n r ts us
numeral_of null c s r ts us d h = absurd (digit_is_not c 110 d (timed_first null c s r ts us h) (inr (omega arith)))
numeral_of (bool true) c s r ts us d h = absurd (digit_is_not c 116 d (timed_first (bool true) c s r ts us h) (inr (omega arith)))
numeral_of (bool false) c s r ts us d h = absurd (digit_is_not c 102 d (timed_first (bool false) c s r ts us h) (inr (omega arith)))
numeral_of (int z) c s r ts us d h = (h.0, (int_event z, refl, h.1))
numeral_of (number t) c s r ts us d h = (h.0, (number_event t, refl, h.1))
numeral_of (text t) c s r ts us d h = absurd (digit_is_not c 34 d (timed_first (text t) c s r ts us h) (inl (omega arith)))
numeral_of (bytes t) c s r ts us d h = absurd h
numeral_of (tag k n) c s r ts us d h = absurd h
numeral_of (opaque b) c s r ts us d h = absurd h
numeral_of (list ns) c s r ts us d h = absurd (digit_is_not c 91 d (timed_first (list ns) c s r ts us h) (inr (omega arith)))
numeral_of (object ms) c s r ts us d h = absurd (digit_is_not c 123 d (timed_first (object ms) c s r ts us h) (inr (omega arith)))

-- what a number's text says of its node: it is a leaf, and spells itself
pub number_is : (n : Node) (t : List ℕ) → NumberText n t → IsNumber t
number_is null t h = absurd h
number_is (bool b) t h = absurd h
number_is (int z) t h = h.0
number_is (number u) t h = h.0
number_is (text u) t h = absurd h
number_is (bytes u) t h = absurd h
number_is (tag k n) t h = absurd h
number_is (opaque b) t h = absurd h
number_is (list ns) t h = absurd h
number_is (object ms) t h = absurd h

number_levels : (n : Node) (t : List ℕ) → NumberText n t → levels n ≡ 0
number_levels null t h = absurd h
number_levels (bool b) t h = absurd h
number_levels (int z) t h = refl
number_levels (number u) t h = refl
number_levels (text u) t h = absurd h
number_levels (bytes u) t h = absurd h
number_levels (tag k n) t h = absurd h
number_levels (opaque b) t h = absurd h
number_levels (list ns) t h = absurd h
number_levels (object ms) t h = absurd h

-- it is one event
pub number_one : (n : Node) (t : List ℕ) → NumberText n t → (e : NodeEvent) × (events n [] ≡ e ∷ [])
number_one null t h = absurd h
number_one (bool b) t h = absurd h
number_one (int z) t h = (int_event z, refl)
number_one (number u) t h = (number_event u, refl)
number_one (text u) t h = absurd h
number_one (bytes u) t h = absurd h
number_one (tag k n) t h = absurd h
number_one (opaque b) t h = absurd h
number_one (list ns) t h = absurd h
number_one (object ms) t h = absurd h

same_event : (e f : NodeEvent) (r : List ℕ) (ts us : List TimedEvent) → e ∷ [] ≡ f ∷ [] → ts ≡ by_next f r ∷ us → ts ≡ by_next e r ∷ us
same_event e f r ts us same timed = let is : f ≡ e = cc in timed ∙ ap (λ x. by_next x r ∷ us) is

number_spells : (n : Node) (t s r : List ℕ) (ts us : List TimedEvent) → NumberText n t → s ≡ t ++ r → NumberTimed n r ts us
    → ValueTimed n s r ts us
number_spells null t s r ts us h e timed = absurd h
number_spells (bool b) t s r ts us h e timed = absurd h
number_spells (int z) t s r ts us h e (f, same, timed) = ((t, e, h), same_event (int_event z) f r ts us same timed)
number_spells (number u) t s r ts us h e (f, same, timed) = ((t, e, h), same_event (number_event u) f r ts us same timed)
number_spells (text u) t s r ts us h e timed = absurd h
number_spells (bytes u) t s r ts us h e timed = absurd h
number_spells (tag k n) t s r ts us h e timed = absurd h
number_spells (opaque b) t s r ts us h e timed = absurd h
number_spells (list ns) t s r ts us h e timed = absurd h
number_spells (object ms) t s r ts us h e timed = absurd h

-- the text of a number at a known byte begins with it
number_cut : (n : Node) (c : ℕ) (s r t : List ℕ) → NumberText n t → c ∷ s ≡ t ++ r → (u : List ℕ) × (s ≡ u ++ r) × NumberText n (c ∷ u)
number_cut n c s r t h e =
    let o = number_start t (number_is n t h) in
    let e1 : c ∷ s ≡ o.0 ∷ (o.1 ++ r) = e ∙ ap (λ x. x ++ r) o.2 in
    let e2 = heads c o.0 s (o.1 ++ r) e1 in
    (o.1, tails c o.0 s (o.1 ++ r) e1, subst (NumberText n) (o.2 ∙ ap (λ x. x ∷ o.1) (sym e2)) h)

number_onward : (limit : ℕ) (c : ℕ) (ks : List OpenKind) (s : List ℕ) (ts : List TimedEvent) → StartsNumber c → ValueNow limit ks (c ∷ s) ts
    → JsonRestAt limit (numeral (c ∷ [])) ks s ts
number_onward limit c ks s ts d (n, r, us, h, room, en) =
    let ((t, e, x), timed) = numeral_of n c s r ts us d h in
    let (u, e1, y) = number_cut n c s r t x e in (n, u, r, us, e1, y, en, timed)

number_back : (limit : ℕ) (c : ℕ) (ks : List OpenKind) (s : List ℕ) (ts : List TimedEvent) → length ks ≤ limit
    → JsonRestAt limit (numeral (c ∷ [])) ks s ts → ValueComes limit ks (c ∷ s) ts
number_back limit c ks s ts room (n, u, r, us, e, h, en, timed) =
    value_now limit ks (c ∷ s) ts (
      n,
      r,
      us,
      number_spells n (c ∷ u) (c ∷ s) r ts us h (ap (λ x. c ∷ x) e) timed,
      omega (arith, number_levels n (c ∷ u) h),
      en,
    )

pub number_begins : (limit : ℕ) (c : ℕ) (ks : List OpenKind) → length ks ≤ limit → is_whitespace c ≡ false → StartsNumber c
    → JsonLeads limit (at value ks) (c ∷ []) [] (at (numeral (c ∷ [])) ks)
number_begins limit c ks room f d =
    silent_leads limit (at value ks) (c ∷ []) (at (numeral (c ∷ [])) ks)
    (λ s ts h. number_onward limit c ks s ts d (value_here limit ks c s ts f h))
    (λ s ts h. number_back limit c ks s ts room h)

-- any other byte
no_number : (n : Node) (c : ℕ) (s r : List ℕ) → ((u : List ℕ) → IsNumber (c ∷ u) → ⊥) → SpellsNumber n (c ∷ s) r → ⊥
no_number n c s r stop (t, e, x) =
    let (u, e1, y) = number_cut n c s r t x e in stop u (number_is n (c ∷ u) y)

other_byte : (n : Node) (c : ℕ) (s r : List ℕ) → SpellsValue n (c ∷ s) r → c ≢ 34 → c ≢ 91 → c ≢ 123 → c ≢ 110 → c ≢ 116 → c ≢ 102
    → ((u : List ℕ) → IsNumber (c ∷ u) → ⊥) → ⊥
other_byte null c s r h q b o n t f stop = n (spells_first null c s r h)
other_byte (bool true) c s r h q b o n t f stop = t (spells_first (bool true) c s r h)
other_byte (bool false) c s r h q b o n t f stop = f (spells_first (bool false) c s r h)
other_byte (int z) c s r h q b o n t f stop = no_number (int z) c s r stop h
other_byte (number u) c s r h q b o n t f stop = no_number (number u) c s r stop h
other_byte (text u) c s r h q b o n t f stop = q (spells_first (text u) c s r h)
other_byte (bytes u) c s r h q b o n t f stop = absurd h
other_byte (tag k m) c s r h q b o n t f stop = absurd h
other_byte (opaque x) c s r h q b o n t f stop = absurd h
other_byte (list ns) c s r h q b o n t f stop = b (spells_first (list ns) c s r h)
other_byte (object ms) c s r h q b o n t f stop = o (spells_first (object ms) c s r h)

pub value_stops : (limit : ℕ) (c : ℕ) (ks : List OpenKind) → is_whitespace c ≡ false → c ≢ 34 → c ≢ 91 → c ≢ 123 → c ≢ 110 → c ≢ 116
    → c ≢ 102 → ((u : List ℕ) → IsNumber (c ∷ u) → ⊥) → JsonStops limit (at value ks) c
value_stops limit c ks w q b o n t f stop s ts h =
    let (x, r, us, timed, room, en) = value_here limit ks c s ts w h in
    other_byte x c s r (value_spelt x (c ∷ s) r ts us timed) q b o n t f stop
