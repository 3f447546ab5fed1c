-- Bytes have one answer at most, whatever the syntax: each refusal says that up to its place texts of at most
-- 100 levels go on, so no earlier place is bad.
use Rattle.std.proofs.Common.{◌≡◌, ℕ, ◌+◌, ◌<◌, ◌⊎◌, inl, inr, List, ◌++◌, take, drop, Ok, Err, refl, sym, ap, subst, ◌∙◌, arith}
use Rattle.std.proofs.Common.{append_assoc, append-nil, take-append-drop}
use Rattle.std.proofs.lemmas.Bool.{cases_order}
use Rattle.std.proofs.lemmas.List.{take-take}
use Rattle.sm_tree.specs.Node.{Node}
use Rattle.sm_tree.specs.Syntax.{TreeFormat, Syntax, IsRead, Begins, BeginsRead, IsUnread, IsBadAt, IsKeyKindAt, IsBadByteAt, IsTooDeepAt}
use Rattle.sm_tree.specs.Syntax.{IsRefused}
use Rattle.sm_tree.specs.SyntaxLaws.{HasOneReading, HasOneAnswer}
use Rattle.sm_tree.specs.declared.refusal.SyntaxRefusal.{SyntaxRefusal}
use Rattle.sm_tree.specs.declared.refusal.SyntaxRefusal.TheVariants.{Bad, Ended, TooDeep, KeyKind, NoMemory}

-- what begins with some bytes begins with the first of them
prefix_begins : (F : TreeFormat) (bs : List ℕ) (i : ℕ) → BeginsRead F bs → BeginsRead F (take i bs)
prefix_begins F bs i (more, n, text) = (
  drop i bs ++ more,
  n,
  subst (λ s. IsRead F n s) (ap (λ s. s ++ more) (sym (take-append-drop i bs))
      ∙ append_assoc (take i bs) (drop i bs) more) text,
)

-- a text begins with all its bytes
read_begins : (F : TreeFormat) (bs : List ℕ) (n : Node) → IsRead F n bs → BeginsRead F bs
read_begins F bs n text = (_, n, subst (λ s. IsRead F n s) (sym (append-nil bs)) text)

-- up to a place that is no later than the end of what begins a text
earlier_begins : (F : TreeFormat) (bs : List ℕ) (i j : ℕ) → i < j → BeginsRead F (take j bs) → BeginsRead F (take (i + 1) bs)
earlier_begins F bs i j before h = subst (BeginsRead F) (take-take (i + 1) j bs (omega arith)) (prefix_begins F (take j bs) (i + 1) h)

begins_at_all : (F : TreeFormat) (bs : List ℕ) → BeginsRead F bs → Begins F bs
begins_at_all F bs (more, n, text) = (more, n, text.0)

-- with the byte at a refused place no text of at most 100 levels goes on
none_goes_on : (F : TreeFormat) (bs : List ℕ) (i : ℕ) → IsBadAt F bs i ⊎ IsTooDeepAt F bs i → BeginsRead F (take (i + 1) bs) → ⊥
none_goes_on F bs i (inl bad) h = bad.behind (begins_at_all F (take (i + 1) bs) h)
none_goes_on F bs i (inr deep) h = deep.too_deep h

-- so bytes with such a place begin none
pub none_begins : (F : TreeFormat) (bs : List ℕ) (i : ℕ) → IsBadAt F bs i ⊎ IsTooDeepAt F bs i → BeginsRead F bs → ⊥
none_begins F bs i refused h = none_goes_on F bs i refused (prefix_begins F bs (i + 1) h)

goes_on_before : (F : TreeFormat) (bs : List ℕ) (i : ℕ) → IsBadAt F bs i ⊎ IsTooDeepAt F bs i → BeginsRead F (take i bs)
goes_on_before F bs i (inl bad) = bad.before
goes_on_before F bs i (inr deep) = deep.before

-- and there is one such place
one_place : (F : TreeFormat) (bs : List ℕ) (i j : ℕ) → IsBadAt F bs i ⊎ IsTooDeepAt F bs i → IsBadAt F bs j ⊎ IsTooDeepAt F bs j → i ≡ j
one_place F bs i j first second = elim (cases_order i j) [
  | inl same ↦ same
  | inr other ↦ elim other [
    | inl below ↦ absurd (none_goes_on F bs i first (earlier_begins F bs i j below (goes_on_before F bs j second)))
    | inr above ↦ absurd (none_goes_on F bs j second (earlier_begins F bs j i above (goes_on_before F bs i first)))
  ]
]

-- at which the word is one
one_word : (F : TreeFormat) (bs : List ℕ) (i j : ℕ) → IsBadAt F bs i → IsTooDeepAt F bs j → ⊥
one_word F bs i j bad deep =
    let same = one_place F bs i j (inl bad) (inr deep) in
    bad.behind (subst (λ k. Begins F (take (k + 1) bs)) (sym same) deep.goes_on)

no_key_kind : (S : Syntax) (bs : List ℕ) (i j : ℕ) → IsBadByteAt S bs i → IsKeyKindAt S bs j → ⊥
no_key_kind S bs i j bad key =
    let same = one_place S.text bs i j (inl bad.bad) (inl key.bad) in
    bad.no_key_kind (subst (IsKeyKindAt S bs) (sym same) key)

-- bytes that are refused are no text
pub refused_no_text : (S : Syntax) (bs : List ℕ) (refusal : SyntaxRefusal) → IsRefused S bs refusal → IsUnread S.text bs
refused_no_text S bs (Bad i) h n text = none_begins S.text bs i (inl h.bad) (read_begins S.text bs n text)
refused_no_text S bs Ended h n text = h.no_text n text
refused_no_text S bs (TooDeep i) h n text = none_begins S.text bs i (inr h) (read_begins S.text bs n text)
refused_no_text S bs (KeyKind i) h n text = none_begins S.text bs i (inl h.bad) (read_begins S.text bs n text)
refused_no_text S bs NoMemory h n text = h

-- and are refused in one way
one_refusal : (S : Syntax) (bs : List ℕ) (a b : SyntaxRefusal) → IsRefused S bs a → IsRefused S bs b → a ≡ b
one_refusal S bs (Bad i) (Bad j) h k = ap Bad (one_place S.text bs i j (inl h.bad) (inl k.bad))
one_refusal S bs (Bad i) Ended h k = absurd (none_begins S.text bs i (inl h.bad) k.begun)
one_refusal S bs (Bad i) (TooDeep j) h k = absurd (one_word S.text bs i j h.bad k)
one_refusal S bs (Bad i) (KeyKind j) h k = absurd (no_key_kind S bs i j h k)
one_refusal S bs Ended (Bad j) h k = absurd (none_begins S.text bs j (inl k.bad) h.begun)
one_refusal S bs Ended Ended h k = refl
one_refusal S bs Ended (TooDeep j) h k = absurd (none_begins S.text bs j (inr k) h.begun)
one_refusal S bs Ended (KeyKind j) h k = absurd (none_begins S.text bs j (inl k.bad) h.begun)
one_refusal S bs (TooDeep i) (Bad j) h k = absurd (one_word S.text bs j i k.bad h)
one_refusal S bs (TooDeep i) Ended h k = absurd (none_begins S.text bs i (inr h) k.begun)
one_refusal S bs (TooDeep i) (TooDeep j) h k = ap TooDeep (one_place S.text bs i j (inr h) (inr k))
one_refusal S bs (TooDeep i) (KeyKind j) h k = absurd (one_word S.text bs j i k.bad h)
one_refusal S bs (KeyKind i) (Bad j) h k = absurd (no_key_kind S bs j i k h)
one_refusal S bs (KeyKind i) Ended h k = absurd (none_begins S.text bs i (inl h.bad) k.begun)
one_refusal S bs (KeyKind i) (TooDeep j) h k = absurd (one_word S.text bs i j h.bad k)
one_refusal S bs (KeyKind i) (KeyKind j) h k = ap KeyKind (one_place S.text bs i j (inl h.bad) (inl k.bad))
one_refusal S bs NoMemory b h k = absurd h
one_refusal S bs a NoMemory h k = absurd k

-- a syntax whose bytes have one reading has one answer for them
pub one_answer : (S : Syntax) → HasOneReading S → HasOneAnswer S
one_answer S one bs (Ok n) (Ok m) h k = ap Ok (one n m bs h.0 k.0)
one_answer S one bs (Ok n) (Err b) h k = absurd (refused_no_text S bs b k n h)
one_answer S one bs (Err a) (Ok m) h k = absurd (refused_no_text S bs a h m k)
one_answer S one bs (Err a) (Err b) h k = ap Err (one_refusal S bs a b h k)
