-- Heads: what an initial byte tells of the argument behind it, and of what it is the argument.
use Rattle.std.proofs.Common.{◌≡◌, ◌≢◌, ℕ, zero, suc, ◌+◌, ◌-◌, ◌*◌, ◌/◌, ◌%◌, ◌≤◌, ◌<◌, ◌==◌, inl, inr, true, false, cond, nat_lt}
use Rattle.std.proofs.Common.{nat_le, List, [], ◌∷◌, refl, sym, ap, subst, ◌∙◌, arith}
use Rattle.std.proofs.lemmas.Bool.{cond-true, cond-false, lt-ltb, le-ltb, le-leb, lt-leb}
use Rattle.std.proofs.lemmas.Bool.Decides.{nat_tests}
use Rattle.sm_cbor.specs.Heads.{Number, HasWidth, Argument}
use Rattle.sm_cbor.specs.steps.Reading.{StartsNumber, SubjectIs, HeadIs}
use Rattle.sm_cbor.specs.declared.head.Head.{Head}
use Rattle.sm_cbor.specs.declared.head.Head.TheVariants.{Argument as ArgumentHead, Chunks as ChunksHead, List as EntriesHead}
use Rattle.sm_cbor.specs.declared.head.Head.TheVariants.{Map as PairsHead, Null as NullHead, Bool as BoolHead, NoItem}
use Rattle.sm_cbor.specs.declared.place.StringKind.TheVariants.{Bytes, Text, Key}
use Rattle.sm_cbor.specs.declared.place.Span.TheVariants.{Whole, Chunk}
use Rattle.sm_cbor.specs.declared.place.Subject.{Subject}
use Rattle.sm_cbor.specs.declared.place.Subject.TheVariants.{Unsigned, Negative, String, List as AList, Map, Tag, Opaque}

-- a width is told by 24 to 27, and one by each
pub wide_from : (info k : ℕ) → HasWidth info k → 24 ≤ info
wide_from info k (inl h) = omega arith
wide_from info k (inr (inl h)) = omega arith
wide_from info k (inr (inr (inl h))) = omega arith
wide_from info k (inr (inr (inr h))) = omega arith

pub wide_below : (info k : ℕ) → HasWidth info k → info < 28
wide_below info k (inl h) = omega arith
wide_below info k (inr (inl h)) = omega arith
wide_below info k (inr (inr (inl h))) = omega arith
wide_below info k (inr (inr (inr h))) = omega arith

abbrev width_at : ℕ → ℕ
width_at info = cond (info == 24) 1 (cond (info == 25) 2 (cond (info == 26) 4 8))

width_is : (info k : ℕ) → HasWidth info k → k ≡ width_at info
width_is info k (inl h) = h.1 ∙ ap width_at (sym h.0)
width_is info k (inr (inl h)) = h.1 ∙ ap width_at (sym h.0)
width_is info k (inr (inr (inl h))) = h.1 ∙ ap width_at (sym h.0)
width_is info k (inr (inr (inr h))) = h.1 ∙ ap width_at (sym h.0)

-- so are how many bytes follow, and the value so far
abbrev left_at : ℕ → ℕ
left_at info = cond (nat_lt info 24) 0 (width_at info)

abbrev value_at : ℕ → ℕ
value_at info = cond (nat_lt info 24) info 0

left_is : (info k v : ℕ) → StartsNumber info k v → k ≡ left_at info
left_is info k v (inl (small, e, f)) = e ∙ sym (cond-true _ _ _ (lt-ltb info 24 small))
left_is info k v (inr (wide, f)) = width_is info k wide ∙ sym (cond-false _ _ _ (le-ltb info 24 (wide_from info k wide)))

value_is : (info k v : ℕ) → StartsNumber info k v → v ≡ value_at info
value_is info k v (inl (small, e, f)) = f ∙ sym (cond-true _ _ _ (lt-ltb info 24 small))
value_is info k v (inr (wide, f)) = f ∙ sym (cond-false _ _ _ (le-ltb info 24 (wide_from info k wide)))

start_below : (info k v : ℕ) → StartsNumber info k v → info < 28
start_below info k v (inl (small, e, f)) = omega arith
start_below info k v (inr (wide, f)) = wide_below info k wide

-- no argument behind 28 to 31
pub no_argument : (info n : ℕ) (s r : List ℕ) → 28 ≤ info → Argument info n s r → ⊥
no_argument info n s r none (inl h) = omega arith
no_argument info n s r none (inr (k, wide, h)) = let below = wide_below info k wide in omega arith

pub no_start : (info k v : ℕ) → 28 ≤ info → StartsNumber info k v → ⊥
no_start info k v none (inl h) = omega arith
no_start info k v none (inr h) = let below = wide_below info k h.0 in omega arith

-- the argument as a number that has begun
pub argument_starts : (info n : ℕ) (s r : List ℕ) → Argument info n s r → (k v : ℕ) × StartsNumber info k v × Number k v n s r
argument_starts info n s r (inl (small, h)) = (0, info, inl (small, refl, refl), h)
argument_starts info n s r (inr (k, wide, h)) = (k, 0, inr (wide, refl), h)

number_as : (k j v u n : ℕ) (s r : List ℕ) → k ≡ j → v ≡ u → Number j u n s r → Number k v n s r
number_as k j v u n s r e f h = subst (λ x. Number x v n s r) (sym e) (subst (λ x. Number j x n s r) (sym f) h)

pub argument_back : (info k v n : ℕ) (s r : List ℕ) → StartsNumber info k v → Number k v n s r → Argument info n s r
argument_back info k v n s r (inl (small, e, f)) h = inl (small, number_as 0 k info v n s r (sym e) (sym f) h)
argument_back info k v n s r (inr (wide, f)) h = inr (k, wide, number_as k k 0 v n s r refl (sym f) h)

pub argument_onward : (info k v n : ℕ) (s r : List ℕ) → StartsNumber info k v → Argument info n s r → Number k v n s r
argument_onward info k v n s r starts a =
    let (j, u, other, h) = argument_starts info n s r a in
    number_as k j v u n s r (left_is info k v starts ∙ sym (left_is info j u other))
    (value_is info k v starts ∙ sym (value_is info j u other)) h

-- the initial byte tells of what the argument is
abbrev subject_at : ℕ → ℕ → Subject
subject_at m c =
    cond (m == 0) Unsigned (cond (m == 1) Negative (cond (m == 2) (String Bytes Whole) (cond (m == 3) (String Text Whole)
    (cond (m == 4) AList (cond (m == 5) Map (cond (m == 6) Tag (Opaque c)))))))

subject_told : (c : ℕ) (j : Subject) → SubjectIs c j → j ≡ subject_at (c / 32) c
subject_told c Unsigned e = ap (λ m. subject_at m c) (sym e)
subject_told c Negative e = ap (λ m. subject_at m c) (sym e)
subject_told c (String Bytes Whole) e = ap (λ m. subject_at m c) (sym e)
subject_told c (String Text Whole) e = ap (λ m. subject_at m c) (sym e)
subject_told c (String Key Whole) e = absurd e
subject_told c (String Bytes Chunk) e = absurd e
subject_told c (String Text Chunk) e = absurd e
subject_told c (String Key Chunk) e = absurd e
subject_told c AList e = ap (λ m. subject_at m c) (sym e)
subject_told c Map e = ap (λ m. subject_at m c) (sym e)
subject_told c Tag e = ap (λ m. subject_at m c) (sym e)
subject_told c (Opaque b) h = ap Opaque (sym h.0) ∙ ap (λ m. subject_at m c) (sym h.1)

-- and with its argument it tells what the whole head says
abbrev without_argument_at : ℕ → Head
without_argument_at c = cond (c == 0x5F) (ChunksHead Bytes)
    (cond (c == 0x7F) (ChunksHead Text) (cond (c == 0x9F) EntriesHead (cond (c == 0xBF) PairsHead NoItem)))

abbrev with_argument_at : ℕ → Head
with_argument_at c =
    cond (c == 0xF4) (BoolHead false) (cond (c == 0xF5) (BoolHead true) (cond (c == 0xF6) NullHead (cond (c == 0xF7) NullHead
    (ArgumentHead (subject_at (c / 32) c) (left_at (c % 32)) (value_at (c % 32))))))

abbrev head_at : ℕ → Head
head_at c = cond (nat_le 28 (c % 32)) (without_argument_at c) (with_argument_at c)

pub other_byte : (c m : ℕ) → c ≢ m → (c == m) ≡ false
other_byte c m other = grind (arith, nat_tests)

simple_apart : (c : ℕ) (j : Subject) → SubjectIs c j → c / 32 ≡ 7 → 20 ≤ c % 32 → c % 32 < 24 → ⊥
simple_apart c Unsigned is seven low high = omega arith
simple_apart c Negative is seven low high = omega arith
simple_apart c (String Bytes Whole) is seven low high = omega arith
simple_apart c (String Text Whole) is seven low high = omega arith
simple_apart c (String Key Whole) is seven low high = is
simple_apart c (String Bytes Chunk) is seven low high = is
simple_apart c (String Text Chunk) is seven low high = is
simple_apart c (String Key Chunk) is seven low high = is
simple_apart c AList is seven low high = omega arith
simple_apart c Map is seven low high = omega arith
simple_apart c Tag is seven low high = omega arith
simple_apart c (Opaque b) (e, f, inl g) seven low high = omega arith
simple_apart c (Opaque b) (e, f, inr g) seven low high = omega arith

same_argument : (i j : Subject) (k l v u : ℕ) → i ≡ j → k ≡ l → v ≡ u → ArgumentHead i k v ≡ ArgumentHead j l u
same_argument i j k l v u e f g = cc

head_told : (c : ℕ) (h : Head) → HeadIs c h → h ≡ head_at c
head_told c (ArgumentHead j k v) (is, starts) =
    same_argument j (subject_at (c / 32) c) k (left_at (c % 32)) v (value_at (c % 32)) (subject_told c j is) (left_is (c % 32) k v starts)
    (value_is (c % 32) k v starts)
    ∙ sym (cond-false _ _ _ (other_byte c 0xF7 (λ e. simple_apart c j is (omega arith) (omega arith) (omega arith))))
    ∙ sym (cond-false _ _ _ (other_byte c 0xF6 (λ e. simple_apart c j is (omega arith) (omega arith) (omega arith))))
    ∙ sym (cond-false _ _ _ (other_byte c 0xF5 (λ e. simple_apart c j is (omega arith) (omega arith) (omega arith))))
    ∙ sym (cond-false _ _ _ (other_byte c 0xF4 (λ e. simple_apart c j is (omega arith) (omega arith) (omega arith))))
    ∙ sym (cond-false _ _ _ (lt-leb 28 (c % 32) (start_below (c % 32) k v starts)))
head_told c (ChunksHead Bytes) e = sym (ap head_at e)
head_told c (ChunksHead Text) e = sym (ap head_at e)
head_told c (ChunksHead Key) e = absurd e
head_told c EntriesHead e = sym (ap head_at e)
head_told c PairsHead e = sym (ap head_at e)
head_told c NullHead (inl e) = sym (ap head_at e)
head_told c NullHead (inr e) = sym (ap head_at e)
head_told c (BoolHead false) e = sym (ap head_at e)
head_told c (BoolHead true) e = sym (ap head_at e)
head_told c NoItem (none, b, t, l, m) =
    sym (cond-false _ _ _ (other_byte c 0xBF m)) ∙ sym (cond-false _ _ _ (other_byte c 0x9F l))
    ∙ sym (cond-false _ _ _ (other_byte c 0x7F t))
    ∙ sym (cond-false _ _ _ (other_byte c 0x5F b)) ∙ sym (cond-true _ _ _ (le-leb 28 (c % 32) none))

pub one_head : (c : ℕ) (g h : Head) → HeadIs c g → HeadIs c h → g ≡ h
one_head c g h is_g is_h = head_told c g is_g ∙ sym (head_told c h is_h)

-- one byte more
pub number_byte : (k v n b : ℕ) (s r : List ℕ) → 0 < k → Number k v n (b ∷ s) r → (b < 256) × Number (k - 1) (v * 256 + b) n s r
number_byte zero v n b s r some h = absurd (omega arith)
number_byte (suc k) v n b s r some h = let e : k ≡ suc k - 1 = omega arith in (h.0, subst (λ j. Number j (v * 256 + b) n s r) e h.1)

pub number_more : (k v n b : ℕ) (s r : List ℕ) → 0 < k → b < 256 → Number (k - 1) (v * 256 + b) n s r → Number k v n (b ∷ s) r
number_more zero v n b s r some small h = absurd (omega arith)
number_more (suc k) v n b s r some small h = let e : suc k - 1 ≡ k = omega arith in (small, subst (λ j. Number j (v * 256 + b) n s r) e h)

pub number_owed : (k v n : ℕ) (r : List ℕ) → 0 < k → Number k v n [] r → ⊥
number_owed zero v n r some h = omega arith
number_owed (suc k) v n r some h = h
