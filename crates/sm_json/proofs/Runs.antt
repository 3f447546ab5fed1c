-- Runs of characters that stand for themselves, and readings one after another.
use Rattle.std.proofs.Common.{◌≡◌, ◌≢◌, ◌≤◌, ◌<◌, ◌+◌, ℕ, true, List, [], ◌∷◌, ◌++◌, append_assoc, append-nil, encode_utf8_all, take}
use Rattle.std.proofs.Common.{drop, length, ◌-◌, ◌*◌, inl, inr, refl, sym, ap, ◌∙◌, subst, arith, IsUtf8}
use Rattle.std.specs.Char.{IsScalar}
use Rattle.std.specs.List.{prefix_len}
use Rattle.std.proofs.lemmas.Bool.{and_from}
use Rattle.std.proofs.lemmas.List.{take_rest, length-drop}
use Rattle.std.proofs.Math.Seq.{take-add}
use Rattle.std.proofs.lemmas.Str.{encode_same, encodes-append, encode_ascii}
use Rattle.sm_json.specs.declared.spot.Spot.{Spot}
use Rattle.sm_json.specs.declared.spot.Spot.TheVariants.{Plain}
use Rattle.sm_json.specs.Strings.{IsUnescaped, Character, Characters}
use Rattle.sm_json.specs.steps.TextRest.{PlainRest, TextRest}
use Rattle.sm_json.specs.steps.StringRuns.{AreUnescaped, IsPlainRun, StringTakes, is_unescaped_ascii}
use Rattle.sm_bytes.specs.Utf8.{IsTail, IsSecond}
use Rattle.sm_bytes.proofs.Runs.{of_run}
use Rattle.sm_bytes.proofs.Characters.{three_scalar, four_scalar}
use Rattle.sm_bytes.proofs.CharacterBytes.{low_three, low_four, two_encode, three_encode, four_encode}
use Rattle.sm_json.proofs.Utf8Tests.{ascii_said}
use Rattle.sm_json.proofs.Utf8Parts.{lead, unescaped_high}
use lib.Utf8.{scalar, scalars, encode, encodes, low_scalar}

pub run_none : IsPlainRun []
run_none = ([], tt, refl)

pub run_one : (c : ℕ) (p : List ℕ) → IsScalar c → IsUnescaped c → encode c ≡ p → IsPlainRun p
run_one c p k u e = (c ∷ [], (k, u, tt), append-nil (encode c) ∙ e)

pub run_ascii : (x : ℕ) → 32 ≤ x → x < 128 → x ≢ 34 → x ≢ 92 → IsPlainRun (x ∷ [])
run_ascii x a b q w = run_one x (x ∷ []) (low_scalar x (omega arith)) (a, q, w) (encode_ascii x b)

unescaped-append : (cs ds : List ℕ) → AreUnescaped cs → AreUnescaped ds → AreUnescaped (cs ++ ds)
unescaped-append [] ds h k = k
unescaped-append (c ∷ cs) ds h k = (h.0, h.1, unescaped-append cs ds h.2 k)

pub run-append : (p q : List ℕ) → IsPlainRun p → IsPlainRun q → IsPlainRun (p ++ q)
run-append p q h k =
    (h.0 ++ k.0, unescaped-append h.0 k.0 h.1 k.1, encodes-append h.0 k.0 ∙ (ap (λ l. l ++ encodes k.0) h.2 ∙ ap (λ l. p ++ l) k.2))

scalars_of : (cs : List ℕ) → AreUnescaped cs → scalars cs ≡ true
scalars_of [] h = refl
scalars_of (c ∷ cs) h = and_from (scalar c) (scalars cs) h.0 (scalars_of cs h.2)

pub run_utf8 : (p : List ℕ) → IsPlainRun p → IsUtf8 p
run_utf8 p h = (h.0, (scalars_of h.0 h.1, h.2))

-- a character that stands for itself, at the start
at_start : (c d : ℕ) (s r : List ℕ) → IsScalar c → IsUnescaped c → Character d (encode c ++ s) r → (d ≡ c) × (r ≡ s)
at_start c d s r k u (j, inl y) = let same = encode_same c d s r y.1 in (sym same.0, sym same.1)
at_start c d s r k u (j, inr y) = elim (lead c 92 y.0 s k (sym y.1)) [ inl z ↦ absurd (u.2 z.1) | inr z ↦ absurd (omega arith) ]

no_quote : (c : ℕ) (s r : List ℕ) → IsScalar c → IsUnescaped c → encode c ++ s ≡ 34 ∷ r → ⊥
no_quote c s r k u e = elim (lead c 34 r s k (sym e)) [ inl z ↦ u.1 z.1 | inr z ↦ omega arith ]

one_there : (c : ℕ) (b s t r ds : List ℕ) → IsScalar c → IsUnescaped c → t ≡ b ++ encode_utf8_all ds → Characters ds (encode c ++ s) r
    → PlainRest (b ++ encode c) s t r
one_there c b s t r [] k u e h = absurd (no_quote c s r k u h)
one_there c b s t r (d ∷ ds) k u e h =
    let same = at_start c d s h.0 k u h.1 in (
      ds,
      e ∙ (ap (λ n. b ++ (encode n ++ encode_utf8_all ds)) same.0 ∙ sym (append_assoc b (encode c) (encode_utf8_all ds))),
      subst
          (λ l. Characters ds l r) same.1 h.2,
    )

one_back : (c : ℕ) (b s t r : List ℕ) → IsScalar c → IsUnescaped c → PlainRest (b ++ encode c) s t r → PlainRest b (encode c ++ s) t r
one_back c b s t r k u h = (c ∷ h.0, h.1 ∙ append_assoc b (encode c) (encode_utf8_all h.0), (s, (k, inl (u, refl)), h.2))

run_there : (cs b s t r : List ℕ) → AreUnescaped cs → PlainRest b (encode_utf8_all cs ++ s) t r → PlainRest (b ++ encode_utf8_all cs) s t r
run_there [] b s t r k h = subst (λ l. PlainRest l s t r) (sym (append-nil b)) h
run_there (c ∷ cs) b s t r k h =
    let g = subst (λ l. PlainRest b l t r) (append_assoc (encode c) (encode_utf8_all cs) s) h in
    let one = one_there c b (encode_utf8_all cs ++ s) t r g.0 k.0 k.1 g.1 g.2 in
    subst (λ l. PlainRest l s t r) (append_assoc b (encode c) (encode_utf8_all cs)) (run_there cs (b ++ encode c) s t r k.2 one)

run_back : (cs b s t r : List ℕ) → AreUnescaped cs → PlainRest (b ++ encode_utf8_all cs) s t r → PlainRest b (encode_utf8_all cs ++ s) t r
run_back [] b s t r k h = subst (λ l. PlainRest l s t r) (append-nil b) h
run_back (c ∷ cs) b s t r k h =
    let g = run_back cs (b ++ encode c) s t r k.2
    (subst (λ l. PlainRest l s t r) (sym (append_assoc b (encode c) (encode_utf8_all cs))) h) in
    subst (λ l. PlainRest b l t r) (sym (append_assoc (encode c) (encode_utf8_all cs) s))
    (one_back c b (encode_utf8_all cs ++ s) t r k.0 k.1 g)

pub run_taken : (p b : List ℕ) → IsPlainRun p → StringTakes Plain b Plain (b ++ p) p
run_taken p b h = λ s t r. (
  λ x. subst (λ l. PlainRest (b ++ l) s t r) h.2 (run_there h.0 b s t r h.1 (subst (λ l. PlainRest b (l ++ s) t r) (sym h.2) x)),
  λ x. subst (λ l. PlainRest b (l ++ s) t r) h.2 (run_back h.0 b s t r h.1 (subst (λ l. PlainRest (b ++ l) s t r) (sym h.2) x)),
)

-- readings one after another
pub takes_none : (spot : Spot) (b : List ℕ) → StringTakes spot b spot b []
takes_none spot b = λ s t r. (λ x. x, λ x. x)

pub takes_then : (p q r : Spot) (b d e xs ys : List ℕ) → StringTakes p b q d xs → StringTakes q d r e ys → StringTakes p b r e (xs ++ ys)
takes_then p q o b d e xs ys h k = λ s t r. (
  λ x. (k s t r).0 ((h (ys ++ s) t r).0 (subst (λ l. TextRest p b l t r) (append_assoc xs ys s) x)),
  λ x. subst (λ l. TextRest p b l t r) (sym (append_assoc xs ys s)) ((h (ys ++ s) t r).1 ((k s t r).1 x)),
)

-- whole characters of more than one byte
pub run_two : (x y : ℕ) → 194 ≤ x → x < 224 → IsTail y → IsPlainRun (x ∷ y ∷ [])
run_two x y a b t =
    let c = (x - 192) * 64 + (y - 128) in
    run_one c (x ∷ y ∷ []) (low_scalar c (omega arith)) (unescaped_high c (omega arith)) (two_encode x y a b t.0 t.1)

pub run_three : (x y z : ℕ) → 224 ≤ x → x < 240 → IsSecond x y → IsTail z → IsPlainRun (x ∷ y ∷ z ∷ [])
run_three x y z a b h t =
    let low = low_three x y a h in
    let c = ((x - 224) * 64 + (y - 128)) * 64 + (z - 128) in
    run_one c (x ∷ y ∷ z ∷ []) (three_scalar x y z a b h t c refl) (unescaped_high c (omega arith)) (three_encode x y z a b h t)

pub run_four : (x y z w : ℕ) → 240 ≤ x → x < 245 → IsSecond x y → IsTail z → IsTail w → IsPlainRun (x ∷ y ∷ z ∷ w ∷ [])
run_four x y z w a b h t u =
    let low = low_four x y a h in
    let c = (((x - 240) * 64 + (y - 128)) * 64 + (z - 128)) * 64 + (w - 128) in
    run_one c (x ∷ y ∷ z ∷ w ∷ []) (four_scalar x y z w a b h t u c refl) (unescaped_high c (omega arith)) (four_encode x y z w a b h t u)

-- a run with a run behind it
pub run_more : (n m : ℕ) (bs : List ℕ) → IsPlainRun (take n bs) → IsPlainRun (take m (drop n bs)) → IsPlainRun (take (n + m) bs)
run_more n m bs h k = subst IsPlainRun (sym (take-add n m bs)) (run-append (take n bs) (take m (drop n bs)) h k)

-- the run of bytes that are characters by themselves
pub ascii_run : (bs : List ℕ) (k : ℕ) → k ≡ prefix_len is_unescaped_ascii bs → IsPlainRun (take k bs)
ascii_run bs k e = subst (λ n. IsPlainRun (take n bs)) (sym e) (of_run is_unescaped_ascii IsPlainRun run_none one_more bs)
  where
    one_more : (c : ℕ) (s : List ℕ) → is_unescaped_ascii c ≡ true → IsPlainRun s → IsPlainRun (c ∷ s)
    one_more c s here run = let (u, small) = ascii_said c here in run-append (c ∷ []) s (run_ascii c u.0 small u.1 u.2) run

-- a run from between two characters
pub run_at : (p : Spot) (b d bs : List ℕ) → p ≡ Plain → IsPlainRun bs → d ≡ b ++ bs → StringTakes p b p d bs
run_at p b d bs plain h e =
    subst (λ q. StringTakes q b q d bs) (sym plain) (subst (λ l. StringTakes Plain b Plain l bs) (sym e) (run_taken bs b h))

-- a run in the rest of a slice
pub run_on : (at n : ℕ) (bs : List ℕ) → at ≤ length bs → IsPlainRun (take at bs) → n ≤ length (take (length bs - at) (drop at bs))
    → IsPlainRun (take n (take (length bs - at) (drop at bs))) → (at + n ≤ length bs) × IsPlainRun (take (at + n) bs)
run_on at n bs inside h few k =
    let short = subst (λ l. n ≤ length l) (take_rest bs at) few in
    (omega (arith, length-drop at bs), run_more at n bs h (subst (λ l. IsPlainRun (take n l)) (take_rest bs at) k))
