-- What is written for a tree of JSON is UTF-8.
use Rattle.std.proofs.Common.{◌≡◌, ◌⊎◌, ◌<◌, ◌≤◌, inl, inr, ℕ, suc, Bool, true, false, List, [], ◌∷◌, ◌++◌, length, get_or, refl, sym, ap, ap₂}
use Rattle.std.proofs.Common.{subst, ◌∙◌, arith, append-nil, IsUtf8, codes}
use Rattle.std.specs.Char.{is_ascii}
use Rattle.std.specs.List.{list_all}
use Rattle.std.proofs.lemmas.Bool.{agree_below_at, and_parts, cases_lt}
use Rattle.std.proofs.lemmas.Bool.Decides.{nat_tests}
use Rattle.std.proofs.lemmas.List.Folds.{list_all-append}
use Rattle.std.proofs.lemmas.Str.{IsUtf8-append, IsUtf8-encode, IsUtf8-from_ascii, IsUtf8-nil, encode_ascii, inside_one}
use lib.Utf8.{scalar, scalars, encode, encodes}
use Rattle.itoa.proofs.Decimal.{IsAscii-signed_decimal}
use Rattle.sm_ids.proofs.Cutting.{and_also}
use Rattle.sm_tree.specs.Json.{AreJson, AreJsonMembers, IsJson}
use Rattle.sm_tree.specs.Node.{Node, Nodes, Members, null, bool, int, number, text, bytes, tag, opaque, list, object, no_nodes, node}
use Rattle.sm_tree.specs.Node.{no_members, member}
use Rattle.sm_tree.specs.Numbers.{AreDigits, IsDigits, IsExponent, IsFraction, IsInt, IsMinus, IsNumber, IsSign}
use Rattle.sm_json.specs.Written.{more_written_entries, more_written_pairs, written, written_bytes, written_entries}
use Rattle.sm_json.specs.Written.{written_pairs, written_text}
use Rattle.sm_json.proofs.WrittenStrings.{plain_byte, written_bytes_append}
use Rattle.sm_ast.proofs.JsonWritten.{utf8}

-- texts of ASCII
abbrev IsPlain : List ℕ → Type 0
IsPlain t = list_all is_ascii t ≡ true

plain_joined : (s t : List ℕ) → IsPlain s → IsPlain t → IsPlain (s ++ t)
plain_joined s t h k = list_all-append is_ascii s t ∙ and_also (list_all is_ascii s) (list_all is_ascii t) h k

plain_cons : (c : ℕ) (t : List ℕ) → is_ascii c ≡ true → IsPlain t → IsPlain (c ∷ t)
plain_cons c t h k = and_also (is_ascii c) (list_all is_ascii t) h k

-- numbers
low_plain : (c : ℕ) → c ≤ 57 → is_ascii c ≡ true
low_plain c h = grind (arith, nat_tests)

digits_plain : (t : List ℕ) → AreDigits t → IsPlain t
digits_plain [] h = refl
digits_plain (c ∷ cs) h = plain_cons c cs (low_plain c h.0.1) (digits_plain cs h.1)

some_plain : (t : List ℕ) → IsDigits t → IsPlain t
some_plain t (c, ds, is, first, more) = subst IsPlain (sym is) (plain_cons c ds (low_plain c first.1) (digits_plain ds more))

minus_plain : (t : List ℕ) → IsMinus t → IsPlain t
minus_plain t (inl is) = subst IsPlain (sym is) refl
minus_plain t (inr is) = subst IsPlain (sym is) refl

whole_plain : (t : List ℕ) → IsInt t → IsPlain t
whole_plain t (inl is) = subst IsPlain (sym is) refl
whole_plain t (inr (c, ds, is, low, high, more)) = subst IsPlain (sym is) (plain_cons c ds (low_plain c high) (digits_plain ds more))

fraction_plain : (t : List ℕ) → IsFraction t → IsPlain t
fraction_plain t (inl is) = subst IsPlain (sym is) refl
fraction_plain t (inr (ds, is, digits)) = subst IsPlain (sym is) (plain_cons 46 ds refl (some_plain ds digits))

sign_plain : (t : List ℕ) → IsSign t → IsPlain t
sign_plain t (inl is) = subst IsPlain (sym is) refl
sign_plain t (inr (inl is)) = subst IsPlain (sym is) refl
sign_plain t (inr (inr is)) = subst IsPlain (sym is) refl

exponent_plain : (t : List ℕ) → IsExponent t → IsPlain t
exponent_plain t (inl is) = subst IsPlain (sym is) refl
exponent_plain t (inr (e, sign, ds, is, which, signed, digits)) =
    subst IsPlain (sym is) (plain_cons e (sign ++ ds) (letter which) (plain_joined sign ds (sign_plain sign signed) (some_plain ds digits)))
  where
    letter : ((e ≡ 101) ⊎ (e ≡ 69)) → is_ascii e ≡ true
    letter (inl small) = ap is_ascii small
    letter (inr capital) = ap is_ascii capital

number_plain : (t : List ℕ) → IsNumber t → IsPlain t
number_plain t n =
    subst IsPlain (sym n.parts)
    (plain_joined n.minus (n.whole ++ (n.fraction ++ n.exponent)) (minus_plain n.minus n.is_minus)
    (plain_joined n.whole (n.fraction ++ n.exponent) (whole_plain n.whole n.is_int)
    (plain_joined n.fraction n.exponent (fraction_plain n.fraction n.is_fraction) (exponent_plain n.exponent n.is_exponent))))

-- texts: a character that isn't ASCII stands for itself
high_bytes : (bs : List ℕ) → ((k : ℕ) → k < length bs → 128 ≤ get_or bs k 0) → written_bytes bs ≡ bs
high_bytes [] high = refl
high_bytes (b ∷ bs) high =
    ap₂ (λ (x y : List ℕ). x ++ y) (plain_byte b (omega (arith, high 0 (omega arith))) (λ e. omega (arith, high 0 (omega arith)))
    (λ e. omega (arith, high 0 (omega arith)))) (high_bytes bs (λ k below. high (suc k) (omega arith)))

long_character : (c : ℕ) → 128 ≤ c → written_bytes (encode c) ≡ encode c
long_character c long_one = high_bytes (encode c) (λ k below. elim (cases_lt (get_or (encode c) k 0) 128) [
  | inl low ↦ absurd (omega (arith, inside_one c [] (encode c) k (sym (append-nil _)) below low))
  | inr high ↦ high
])

abbrev plain_written : ℕ → Bool
plain_written c = list_all is_ascii (written_bytes (c ∷ []))

abbrev always : ℕ → Bool
always c = true

character_utf8 : (c : ℕ) → scalar c ≡ true → IsUtf8 (written_bytes (encode c))
character_utf8 c is = elim (cases_lt c 128) [
  | inl low ↦
      subst (λ bs. IsUtf8 (written_bytes bs)) (sym (encode_ascii c low))
      (utf8 (written_bytes (c ∷ [])) (agree_below_at plain_written always 128 c refl low))
  | inr high ↦ subst IsUtf8 (sym (long_character c high)) (IsUtf8-encode c is)
]

characters_utf8 : (cs : List ℕ) → scalars cs ≡ true → IsUtf8 (written_bytes (encodes cs))
characters_utf8 [] are = IsUtf8-nil
characters_utf8 (c ∷ cs) are =
    let each = and_parts _ _ are in
    subst IsUtf8 (sym (written_bytes_append (encode c) (encodes cs)))
    (IsUtf8-append (written_bytes (encode c)) (written_bytes (encodes cs)) (character_utf8 c each.0) (characters_utf8 cs each.1))

pub text_utf8 : (t : List ℕ) → IsUtf8 t → IsUtf8 (written_text t)
text_utf8 t h =
    let inside : IsUtf8 (written_bytes t) = subst (λ u. IsUtf8 (written_bytes u)) h.1.1 (characters_utf8 h.0 h.1.0) in
    IsUtf8-append (34 ∷ []) (written_bytes t ++ 34 ∷ []) (utf8 (34 ∷ []) refl)
    (IsUtf8-append (written_bytes t) (34 ∷ []) inside (utf8 (34 ∷ []) refl))

-- a byte of ASCII before more
pub behind_ascii : (c : ℕ) (t : List ℕ) → is_ascii c ≡ true → IsUtf8 t → IsUtf8 (c ∷ t)
behind_ascii c t h k = IsUtf8-append (c ∷ []) t (utf8 (c ∷ []) (plain_cons c [] h refl)) k

pair_utf8 : (k value more : List ℕ) → IsUtf8 k → IsUtf8 value → IsUtf8 more → IsUtf8 (written_text k ++ 58 ∷ (value ++ more))
pair_utf8 k value more u v rest =
    IsUtf8-append (written_text k) (58 ∷ (value ++ more)) (text_utf8 k u)
    (behind_ascii 58 (value ++ more) refl (IsUtf8-append value more v rest))

mutual
  pub node_utf8 : (n : Node) → IsJson n → IsUtf8 (written n)
  node_utf8 null h = utf8 (codes "null") refl
  node_utf8 (bool true) h = utf8 (codes "true") refl
  node_utf8 (bool false) h = utf8 (codes "false") refl
  node_utf8 (int z) h = IsUtf8-from_ascii (written (int z)) (IsAscii-signed_decimal z h)
  node_utf8 (number t) h = utf8 t (number_plain t h.0)
  node_utf8 (text t) h = text_utf8 t h
  node_utf8 (bytes t) h = absurd h
  node_utf8 (tag k n) h = absurd h
  node_utf8 (opaque b) h = absurd h
  node_utf8 (list ns) h = behind_ascii 91 (written_entries ns) refl (entries_utf8 ns h)
  node_utf8 (object ms) h = behind_ascii 123 (written_pairs ms) refl (pairs_utf8 ms h)

  entries_utf8 : (ns : Nodes) → AreJson ns → IsUtf8 (written_entries ns)
  entries_utf8 no_nodes h = utf8 (93 ∷ []) refl
  entries_utf8 (node n ns) h = IsUtf8-append (written n) (more_written_entries ns) (node_utf8 n h.0) (more_entries_utf8 ns h.1)

  more_entries_utf8 : (ns : Nodes) → AreJson ns → IsUtf8 (more_written_entries ns)
  more_entries_utf8 no_nodes h = utf8 (93 ∷ []) refl
  more_entries_utf8 (node n ns) h =
      behind_ascii 44 (written n ++ more_written_entries ns) refl
      (IsUtf8-append (written n) (more_written_entries ns) (node_utf8 n h.0) (more_entries_utf8 ns h.1))

  pairs_utf8 : (ms : Members) → AreJsonMembers ms → IsUtf8 (written_pairs ms)
  pairs_utf8 no_members h = utf8 (125 ∷ []) refl
  pairs_utf8 (member k n ms) h = pair_utf8 k (written n) (more_written_pairs ms) h.0 (node_utf8 n h.1) (more_pairs_utf8 ms h.2)

  more_pairs_utf8 : (ms : Members) → AreJsonMembers ms → IsUtf8 (more_written_pairs ms)
  more_pairs_utf8 no_members h = utf8 (125 ∷ []) refl
  more_pairs_utf8 (member k n ms) h =
      behind_ascii 44 (written_text k ++ 58 ∷ (written n ++ more_written_pairs ms)) refl
      (pair_utf8 k (written n) (more_written_pairs ms) h.0 (node_utf8 n h.1) (more_pairs_utf8 ms h.2))
