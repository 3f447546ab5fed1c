-- What bytes do within a literal name, a number and a string, and where the bytes end: the laws of `JsonLeads`
-- and `JsonStops` there. And the laws that carry them to a whole text.
use Rattle.std.proofs.Common.{◌≡◌, ◌≢◌, ℕ, ◌+◌, ◌<◌, ◌⊎◌, inl, inr, true, false, List, [], ◌∷◌, ◌++◌, refl, sym, ap, subst, ◌∙◌, arith}
use Rattle.std.proofs.Common.{length, drop, append_assoc, append-nil, get_or}
use Rattle.std.proofs.lemmas.Bool.Decides.{nat_tests}
use Rattle.std.proofs.lemmas.List.{drop_more}
use Rattle.sm_tree.specs.Node.{Node, no_nodes, node, no_members, member}
use Rattle.sm_tree.specs.Events.{NodeEvent, events, key_event, text_event}
use Rattle.sm_tree.specs.Timing.{TimedEvent, by_byte, by_end, untimed}
use Rattle.sm_tree.specs.Timing.{HandsOn}
use Rattle.sm_tree.specs.Numbers.{IsNumber, NumberText}
use Rattle.sm_tree.specs.declared.build.OpenKind.{OpenKind}
use Rattle.sm_tree.specs.declared.build.OpenKind.TheVariants.{List as a_list, Object as an_object}
use Rattle.sm_json.specs.Strings.{is_whitespace, Whitespace}
use Rattle.sm_json.specs.Timing.{ValueTimed}
use Rattle.sm_json.specs.steps.TextRest.{TextRest}
use Rattle.sm_tree.specs.NumberTail.{IsNumberByte, AreNumberBytes}
use Rattle.sm_json.specs.steps.Rest.{Where, value, first_entry, first_key, next_key, colon, after, word, numeral, in_text, JsonState}
use Rattle.sm_json.specs.steps.Rest.{letters, literal_event, NumberTimed, JsonEnds, ValueComes, ColonComes, NameComes, FirstEntryComes}
use Rattle.sm_json.specs.steps.Rest.{FirstKeyComes, JsonRestAt, JsonRest, JsonLeads, JsonStops}
use Rattle.sm_json.specs.declared.spot.Spot.{Spot}
use Rattle.sm_json.specs.declared.place.Literal.{Literal}
use Rattle.sm_json.specs.declared.place.Role.{Role}
use Rattle.sm_json.specs.declared.place.Role.TheVariants.{Key, Value}
use Rattle.sm_json.proofs.Starts.{not_white, heads, tails}
use Rattle.sm_json.proofs.Timed.{timed_none}
use Rattle.sm_json.proofs.Whole.{silent_leads, spoken_leads, leads_none, leads_joined}
use Rattle.sm_json.proofs.Opening.{at}
use Rattle.sm_json.proofs.Between.{ended}
use Rattle.sm_json.proofs.Leaves.{number_is, number_one}

-- one more letter of a literal name, its last letter, and another byte
pub letter_leads : (limit : ℕ) (w : Literal) (taken c : ℕ) (ks : List OpenKind) → drop taken (letters w) ≡ c ∷ drop (taken + 1) (letters w)
    → JsonLeads limit (at (word w taken) ks) (c ∷ []) [] (at (word w (taken + 1)) ks)
letter_leads limit w taken c ks d =
    silent_leads limit (at (word w taken) ks) (c ∷ []) (at (word w (taken + 1)) ks)
    (λ s ts (r, us, e, en, timed). (r, us, tails c c s (drop (taken + 1) (letters w) ++ r) (e ∙ ap (λ x. x ++ r) d), en, timed))
    (λ s ts (r, us, e, en, timed). (r, us, ap (λ x. c ∷ x) e ∙ ap (λ x. x ++ r) (sym d), en, timed))

pub word_ends : (limit : ℕ) (w : Literal) (taken c : ℕ) (ks : List OpenKind) → drop taken (letters w) ≡ c ∷ []
    → JsonLeads limit (at (word w taken) ks) (c ∷ []) (literal_event w ∷ []) (at after ks)
word_ends limit w taken c ks d =
    spoken_leads limit (at (word w taken) ks) (c ∷ []) (literal_event w) (at after ks)
    (λ s ts (r, us, e, en, timed). ended limit ks s ts r us (literal_event w) (sym (tails c c s r (e ∙ ap (λ x. x ++ r) d))) timed en)
    (λ s us en. (s, us, ap (λ x. x ++ s) (sym d), en, refl))

pub word_stops : (limit : ℕ) (w : Literal) (taken c d : ℕ) (ks : List OpenKind) → drop taken (letters w) ≡ d ∷ drop (taken + 1) (letters w)
    → c ≢ d
    → JsonStops limit (at (word w taken) ks) c
word_stops limit w taken c d ks e f s ts (r, us, e1, en, timed) = f
    (heads c d s (drop (taken + 1) (letters w) ++ r) (e1 ∙ ap (λ x. x ++ r) e))

-- behind a value no byte of a number comes
number_byte_not_white : (c : ℕ) → IsNumberByte c → is_whitespace c ≡ true → ⊥
number_byte_not_white c (inl (low, high)) w = let f : is_whitespace c ≡ false = grind (arith, nat_tests) in cc
number_byte_not_white c (inr (inl e)) w = not_white c 45 refl e w
number_byte_not_white c (inr (inr (inl e))) w = not_white c 43 refl e w
number_byte_not_white c (inr (inr (inr (inl e)))) w = not_white c 46 refl e w
number_byte_not_white c (inr (inr (inr (inr (inl e))))) w = not_white c 101 refl e w
number_byte_not_white c (inr (inr (inr (inr (inr e))))) w = not_white c 69 refl e w

-- a comma, a closing bracket and a closing brace are no bytes of numbers
not_number_byte : (c d : ℕ) → IsNumberByte c → c ≡ d → (d ≡ 44) ⊎ ((d ≡ 93) ⊎ (d ≡ 125)) → ⊥
not_number_byte c d (inl (low, high)) e k = grind arith
not_number_byte c d (inr (inl f)) e k = grind arith
not_number_byte c d (inr (inr (inl f))) e k = grind arith
not_number_byte c d (inr (inr (inr (inl f)))) e k = grind arith
not_number_byte c d (inr (inr (inr (inr (inl f))))) e k = grind arith
not_number_byte c d (inr (inr (inr (inr (inr f))))) e k = grind arith

follows_not : (c d : ℕ) (s r : List ℕ) → IsNumberByte c → (d ≡ 44) ⊎ ((d ≡ 93) ⊎ (d ≡ 125)) → Whitespace (c ∷ s) (d ∷ r) → ⊥
follows_not c d s r n k (inl e) = not_number_byte c d n (sym (heads d c r s e)) k
follows_not c d s r n k (inr h) = number_byte_not_white c n h.0

pub number_ends_before : (limit : ℕ) (c : ℕ) (ks : List OpenKind) (s : List ℕ) (ts : List TimedEvent) → IsNumberByte c
    → JsonEnds limit ks (c ∷ s) ts → ⊥
number_ends_before limit c [] s ts n (inl e, e1) = let e2 : [] ≡ c ∷ s = e in cc
number_ends_before limit c [] s ts n (inr h, e1) = number_byte_not_white c n h.0
number_ends_before limit c (a_list ∷ ks) s ts n (no_nodes, r, us, (k, timed), room, en) = follows_not c 93 s r n (inr (inl refl)) k
number_ends_before limit c (a_list ∷ ks) s ts n (node x ns, r, us, (s1, s2, vs, (y, k, k1), v, m), room, en) =
    follows_not c 44 s y n (inl refl) k
number_ends_before limit c (an_object ∷ ks) s ts n (no_members, r, us, (k, timed), room, en) = follows_not c 125 s r n (inr (inr refl)) k
number_ends_before limit c (an_object ∷ ks) s ts n (
  member name x ms,
  r,
  us,
  (s1, s2, s3, s4, vs, ws, (y, k, k0), sp, timed, sep, v, m),
  room,
  en,
) =
    follows_not c 44 s y n (inl refl) k

-- one more byte of a number
number_goes_onward : (limit : ℕ) (b : List ℕ) (c : ℕ) (ks : List OpenKind) (s : List ℕ) (ts : List TimedEvent) → IsNumberByte c
    → JsonRestAt limit (numeral b) ks (c ∷ s) ts → JsonRestAt limit (numeral (b ++ c ∷ [])) ks s ts
number_goes_onward limit b c ks s ts i (n, [], r, us, e, h, en, timed) =
    absurd (number_ends_before limit c ks s us i (subst (λ x. JsonEnds limit ks x us) (sym e) en))
number_goes_onward limit b c ks s ts i (n, d ∷ u, r, us, e, h, en, timed) =
    let same = heads c d s (u ++ r) e in
    let joined : b ++ d ∷ u ≡ (b ++ c ∷ []) ++ u = ap (λ x. b ++ x ∷ u) (sym same) ∙ sym (append_assoc b (c ∷ []) u) in
    (n, u, r, us, tails c d s (u ++ r) e, subst (NumberText n) joined h, en, timed)

number_goes_back : (limit : ℕ) (b : List ℕ) (c : ℕ) (ks : List OpenKind) (s : List ℕ) (ts : List TimedEvent)
    → JsonRestAt limit (numeral (b ++ c ∷ [])) ks s ts → JsonRestAt limit (numeral b) ks (c ∷ s) ts
number_goes_back limit b c ks s ts (n, u, r, us, e, h, en, timed) =
    (n, c ∷ u, r, us, ap (λ x. c ∷ x) e, subst (NumberText n) (append_assoc b (c ∷ []) u) h, en, timed)

pub number_byte_leads : (limit : ℕ) (b : List ℕ) (c : ℕ) (ks : List OpenKind) → IsNumberByte c
    → JsonLeads limit (at (numeral b) ks) (c ∷ []) [] (at (numeral (b ++ c ∷ [])) ks)
number_byte_leads limit b c ks i =
    silent_leads limit (at (numeral b) ks) (c ∷ []) (at (numeral (b ++ c ∷ [])) ks)
    (λ s ts h. number_goes_onward limit b c ks s ts i h)
    (λ s ts h. number_goes_back limit b c ks s ts h)

-- a number that has ended: what a byte does behind a value, it does behind the number
pub number_over : (limit : ℕ) (b : List ℕ) (m : Node) (c : ℕ) (ks : List OpenKind) (s : List ℕ) (ts : List TimedEvent)
    → ((u : List ℕ) → IsNumber (b ++ c ∷ u) → ⊥) → ((n : Node) → NumberText n b → n ≡ m)
    → JsonRestAt limit (numeral b) ks (c ∷ s) ts → (us : List TimedEvent) × NumberTimed m (c ∷ s) ts us × JsonEnds limit ks (c ∷ s) us
number_over limit b m c ks s ts stop one (n, [], r, us, e, h, en, timed) = (
  us,
  subst (λ x. NumberTimed x (c ∷ s) ts us) (one n (subst (NumberText n) (append-nil b) h))
      (subst (λ x. NumberTimed n x ts us) (sym e) timed),
  subst (λ x. JsonEnds limit ks x us) (sym e) en,
)
number_over limit b m c ks s ts stop one (n, d ∷ u, r, us, e, h, en, timed) =
    absurd (stop u (subst (λ x. IsNumber (b ++ x ∷ u)) (sym (heads c d s (u ++ r) e)) (number_is n (b ++ d ∷ u) h)))

-- the number's event before those of the byte behind it
number_hands : (left : ℕ) (m : Node) (e : NodeEvent) (os : List TimedEvent) (out : List NodeEvent) → events m [] ≡ e ∷ []
    → HandsOn left os out → HandsOn left (by_byte e left ∷ os) (events m [] ++ out)
number_hands left m e os out is hands = subst (λ x. HandsOn left (by_byte e left ∷ os) (x ++ out)) (sym is) (refl, omega arith, hands)

pub number_ends : (limit : ℕ) (b : List ℕ) (m : Node) (c : ℕ) (ks : List OpenKind) (out : List NodeEvent) (x : JsonState)
    → ((u : List ℕ) → IsNumber (b ++ c ∷ u) → ⊥) → ((n : Node) → NumberText n b → n ≡ m) → NumberText m b
    → JsonLeads limit (at after ks) (c ∷ []) out x → JsonLeads limit (at (numeral b) ks) (c ∷ []) (events m [] ++ out) x
number_ends limit b m c ks out x stop one is h = record {
  onward = λ s ts g.
      let (us, (e, single, timed), en) = number_over limit b m c ks s ts stop one g in
      let (os, vs, parts, hands, rest) = h.onward s us en in (
        by_byte e (length s) ∷ os,
        vs,
        timed ∙ ap (λ y. by_byte e (length s) ∷ y) parts,
        number_hands (length s) m e os out single hands,
        rest,
      );
  back = λ s us g.
      let (os, hands, rest) = h.back s us g in
      let (e, single) = number_one m b is in (
        by_byte e (length s) ∷ os,
        number_hands (length s) m e os out single hands,
        (m, [], c ∷ s, os ++ us, refl, subst (NumberText m) (sym (append-nil b)) is, rest, (e, single, refl)),
      );
}

-- a number that has not ended, and a byte that it doesn't go on with
pub number_stops : (limit : ℕ) (b : List ℕ) (c : ℕ) (ks : List OpenKind) → (IsNumber b → ⊥) → ((u : List ℕ) → IsNumber (b ++ c ∷ u) → ⊥)
    → JsonStops limit (at (numeral b) ks) c
number_stops limit b c ks open_ stop s ts (n, [], r, us, e, h, en, timed) = open_ (number_is n b (subst (NumberText n) (append-nil b) h))
number_stops limit b c ks open_ stop s ts (n, d ∷ u, r, us, e, h, en, timed) =
    stop u (subst (λ x. IsNumber (b ++ x ∷ u)) (sym (heads c d s (u ++ r) e)) (number_is n (b ++ d ∷ u) h))

-- the bytes end behind a value only where nothing is open
skips_nothing : (d : ℕ) (r : List ℕ) → Whitespace [] (d ∷ r) → ⊥
skips_nothing d r e = let e1 : d ∷ r ≡ [] = e in cc

pub nothing_ends : (limit : ℕ) (ks : List OpenKind) (ts : List TimedEvent) → JsonEnds limit ks [] ts → (ks ≡ []) × (ts ≡ [])
nothing_ends limit [] ts (k, e) = (refl, e)
nothing_ends limit (a_list ∷ ks) ts (no_nodes, r, us, (k, timed), room, en) = absurd (skips_nothing 93 r k)
nothing_ends limit (a_list ∷ ks) ts (node x ns, r, us, (s1, s2, vs, (y, k, k1), v, m), room, en) = absurd (skips_nothing 44 y k)
nothing_ends limit (an_object ∷ ks) ts (no_members, r, us, (k, timed), room, en) = absurd (skips_nothing 125 r k)
nothing_ends limit (an_object ∷ ks) ts (member name x ms, r, us, (s1, s2, s3, s4, vs, ws, (y, k, k0), sp, timed, sep, v, m), room, en) =
    absurd (skips_nothing 44 y k)

-- a number at the end of the bytes
pub number_last : (limit : ℕ) (b : List ℕ) (m : Node) → NumberText m b
    → (ts : List TimedEvent) × JsonRest limit (at (numeral b) []) [] ts × (untimed ts ≡ events m [])
number_last limit b m is =
    let (e, single) = number_one m b is in (
      by_end e ∷ [],
      (m, [], [], [], refl, subst (NumberText m) (sym (append-nil b)) is, (refl, refl), (e, single, refl)),
      sym single,
    )

pub number_last_is : (limit : ℕ) (b : List ℕ) (ks : List OpenKind) (ts : List TimedEvent) → JsonRest limit (at (numeral b) ks) [] ts
    → (n : Node) × NumberText n b × (ks ≡ [])
number_last_is limit b ks ts (n, [], r, us, e, h, en, timed) =
    let (none, last) = nothing_ends limit ks us (subst (λ x. JsonEnds limit ks x us) (sym e) en) in
    (n, subst (NumberText n) (append-nil b) h, none)
number_last_is limit b ks ts (n, d ∷ u, r, us, e, h, en, timed) = let e2 : [] ≡ d ∷ (u ++ r) = e in absurd cc

-- bytes of a string, given what they do to the string by itself
pub string_goes : (limit : ℕ) (role : Role) (old new : Spot) (b b1 w : List ℕ) (ks : List OpenKind)
    → ((s t r : List ℕ) → TextRest old b (w ++ s) t r → TextRest new b1 s t r)
    → ((s t r : List ℕ) → TextRest new b1 s t r → TextRest old b (w ++ s) t r)
    → JsonLeads limit (at (in_text role old b) ks) w [] (at (in_text role new b1) ks)
string_goes limit Key old new b b1 w ks onward back =
    silent_leads limit (at (in_text Key old b) ks) w (at (in_text Key new b1) ks)
    (λ s ts (t, r, us, h, rest, timed). (t, r, us, onward s t r h, rest, timed))
    (λ s ts (t, r, us, h, rest, timed). (t, r, us, back s t r h, rest, timed))
string_goes limit Value old new b b1 w ks onward back =
    silent_leads limit (at (in_text Value old b) ks) w (at (in_text Value new b1) ks)
    (λ s ts (t, r, us, h, en, timed). (t, r, us, onward s t r h, en, timed))
    (λ s ts (t, r, us, h, en, timed). (t, r, us, back s t r h, en, timed))

-- bytes that close a string whose text is then `text`
pub key_closes : (limit : ℕ) (old : Spot) (b w name : List ℕ) (ks : List OpenKind)
    → ((s t r : List ℕ) → TextRest old b (w ++ s) t r → (t ≡ name) × (s ≡ r))
    → ((s : List ℕ) → TextRest old b (w ++ s) name s)
    → JsonLeads limit (at (in_text Key old b) ks) w (key_event name ∷ []) (at colon ks)
key_closes limit old b w name ks onward back =
    spoken_leads limit (at (in_text Key old b) ks) w (key_event name) (at colon ks)
    (λ s ts (t, r, us, h, co, timed). let (same, rest) = onward s t r h in (
      us,
      timed ∙ ap (λ x. by_byte (key_event x) (length r) ∷ us) same ∙ ap (λ x. by_byte (key_event name) (length x) ∷ us) (sym rest),
      subst (λ x. ColonComes limit ks x us) (sym rest) co,
    ))
    (λ s us co. (name, s, us, back s, co, refl))

pub text_closes : (limit : ℕ) (old : Spot) (b w t1 : List ℕ) (ks : List OpenKind)
    → ((s t r : List ℕ) → TextRest old b (w ++ s) t r → (t ≡ t1) × (s ≡ r))
    → ((s : List ℕ) → TextRest old b (w ++ s) t1 s)
    → JsonLeads limit (at (in_text Value old b) ks) w (text_event t1 ∷ []) (at after ks)
text_closes limit old b w t1 ks onward back =
    spoken_leads limit (at (in_text Value old b) ks) w (text_event t1) (at after ks)
    (λ s ts (t, r, us, h, en, timed). let (same, rest) = onward s t r h in (
      us,
      timed ∙ ap (λ x. by_byte (text_event x) (length r) ∷ us) same ∙ ap (λ x. by_byte (text_event t1) (length x) ∷ us) (sym rest),
      subst (λ x. JsonEnds limit ks x us) (sym rest) en,
    ))
    (λ s us en. (t1, s, us, back s, en, refl))

-- a run of bytes of a number
pub number_bytes_lead : (limit : ℕ) (b w : List ℕ) (ks : List OpenKind) → AreNumberBytes w
    → JsonLeads limit (at (numeral b) ks) w [] (at (numeral (b ++ w)) ks)
number_bytes_lead limit b [] ks h =
    subst (λ x. JsonLeads limit (at (numeral b) ks) [] [] (at (numeral x) ks)) (sym (append-nil b)) (leads_none limit (at (numeral b) ks))
number_bytes_lead limit b (c ∷ w) ks h =
    subst (λ x. JsonLeads limit (at (numeral b) ks) (c ∷ w) [] (at (numeral x) ks)) (append_assoc b (c ∷ []) w)
    (leads_joined limit (at (numeral b) ks) (at (numeral (b ++ c ∷ [])) ks) (at (numeral ((b ++ c ∷ []) ++ w)) ks) (c ∷ []) w [] []
    (number_byte_leads limit b c ks h.0) (number_bytes_lead limit (b ++ c ∷ []) w ks h.1))

-- a string that no bytes close
pub string_no_rest : (limit : ℕ) (role : Role) (spot : Spot) (b : List ℕ) (ks : List OpenKind) (s : List ℕ) (ts : List TimedEvent)
    → ((t r : List ℕ) → TextRest spot b s t r → ⊥) → JsonRestAt limit (in_text role spot b) ks s ts → ⊥
string_no_rest limit Key spot b ks s ts none (t, r, us, h, rest, timed) = none t r h
string_no_rest limit Value spot b ks s ts none (t, r, us, h, rest, timed) = none t r h

-- something must come
abbrev pub IsOwed : Where → Type 0
IsOwed value = Unit {0}
IsOwed first_entry = Unit {0}
IsOwed first_key = Unit {0}
IsOwed next_key = Unit {0}
IsOwed colon = Unit {0}
IsOwed after = ⊥
IsOwed (word w taken) = ⊥
IsOwed (numeral b) = ⊥
IsOwed (in_text role spot b) = ⊥

-- the bytes don't end where something must come
value_owed : (limit : ℕ) (ks : List OpenKind) (ts : List TimedEvent) → ValueComes limit ks [] ts → ⊥
value_owed limit ks ts (s, k, (n, r, us, h, rest, en)) = timed_none n r ts us (subst (λ x. ValueTimed n x r ts us) k h)

key_owed : (limit : ℕ) (ks : List OpenKind) (ts : List TimedEvent) → NameComes limit ks [] ts → ⊥
key_owed limit ks ts (s, k, (name, r, us, (cs, u, e1, e2, h), rest, timed)) = skips_nothing 34 u (sym e2 ∙ k)

first_entry_owed : (limit : ℕ) (ks : List OpenKind) (ts : List TimedEvent) → FirstEntryComes limit ks [] ts → ⊥
first_entry_owed limit [] ts h = h
first_entry_owed limit (a_list ∷ ks) ts (no_nodes, r, us, (k, timed), room, en) = skips_nothing 93 r k
first_entry_owed limit (a_list ∷ ks) ts (node n ns, r, us, (s1, s2, vs, k, v, m), room, en) =
    timed_none n s2 ts vs (subst (λ x. ValueTimed n x s2 ts vs) k v)
first_entry_owed limit (an_object ∷ ks) ts h = h

first_key_owed : (limit : ℕ) (ks : List OpenKind) (ts : List TimedEvent) → FirstKeyComes limit ks [] ts → ⊥
first_key_owed limit [] ts h = h
first_key_owed limit (a_list ∷ ks) ts h = h
first_key_owed limit (an_object ∷ ks) ts (no_members, r, us, (k, timed), room, en) = skips_nothing 125 r k
first_key_owed limit (an_object ∷ ks) ts (
  member name n ms,
  r,
  us,
  (s1, s2, s3, s4, vs, ws, k, (cs, u, e1, e2, h), timed, sep, v, m),
  room,
  en,
) =
    skips_nothing 34 u (sym e2 ∙ k)

pub word_owed : (limit : ℕ) (w : Literal) (taken : ℕ) (ks : List OpenKind) (ts : List TimedEvent) → taken < length (letters w)
    → JsonRestAt limit (word w taken) ks [] ts → ⊥
word_owed limit w taken ks ts inside (r, us, e, en, timed) =
    let cut : [] ≡ get_or (letters w) taken 0 ∷ (drop (taken + 1) (letters w) ++ r) = e
    ∙ ap (λ x. x ++ r) (drop_more (letters w) taken 0 inside) in cc

-- between two tokens the bytes end only behind the one value
pub token_owed : (limit : ℕ) (p : Where) (ks : List OpenKind) (ts : List TimedEvent) → IsOwed p → JsonRestAt limit p ks [] ts → ⊥
token_owed limit value ks ts o h = value_owed limit ks ts h
token_owed limit first_entry ks ts o h = first_entry_owed limit ks ts h
token_owed limit first_key ks ts o h = first_key_owed limit ks ts h
token_owed limit next_key ks ts o h = key_owed limit ks ts h
token_owed limit colon ks ts o (s, k, h) = skips_nothing 58 s k
token_owed limit after ks ts o h = absurd o
token_owed limit (word w taken) ks ts o h = absurd o
token_owed limit (numeral b) ks ts o h = absurd o
token_owed limit (in_text role spot b) ks ts o h = absurd o
