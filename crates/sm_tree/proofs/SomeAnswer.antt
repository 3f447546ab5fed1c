-- No bytes are without an answer, whatever the syntax: where none is refused, one byte more of them begins a text, until
-- they all do. Where a case can't be decided, each of its two sides is denied in turn.
use Rattle.std.proofs.Common.{◌≡◌, ℕ, zero, suc, ◌+◌, ◌<◌, ◌≤◌, List, [], Ok, Err, length, take, subst, arith}
use Rattle.std.proofs.lemmas.List.{take_all}
use Rattle.sm_tree.specs.Syntax.{Syntax, BeginsRead, IsUnread, IsBadAt, IsRefused}
use Rattle.sm_tree.specs.SyntaxLaws.{HasSomeAnswer}
use Rattle.sm_tree.specs.declared.refusal.SyntaxRefusal.{SyntaxRefusal}
use Rattle.sm_tree.specs.declared.refusal.SyntaxRefusal.TheVariants.{Bad, Ended, TooDeep, KeyKind}

-- bytes that are refused by no word
module _ (S : Syntax) (bs : List ℕ) (none : (refusal : SyntaxRefusal) → IsRefused S bs refusal → ⊥) where
  -- have no bad place, be there a key or not
  none_bad : (i : ℕ) → IsBadAt S.text bs i → ⊥
  none_bad i bad = none (Bad i) (record { bad = bad; no_key_kind = λ key. none (KeyKind i) key })

  -- so with one byte more of them some text still goes on
  one_more : (i : ℕ) → i < length bs → BeginsRead S.text (take i bs) → (BeginsRead S.text (take (i + 1) bs) → ⊥) → ⊥
  one_more i inside before stops =
      none_bad i (record {
        inside = inside;
        before = before;
        behind = λ goes_on.
            none (TooDeep i) (record { inside = inside; before = before; goes_on = goes_on; too_deep = stops });
      })

  -- and so it does with all
  all_begin : BeginsRead S.text [] → (i : ℕ) → i ≤ length bs → (BeginsRead S.text (take i bs) → ⊥) → ⊥
  all_begin begins zero within stops = stops begins
  all_begin begins (suc i) within stops =
      all_begin begins i (omega (arith, within)) (λ before.
      one_more i (omega (arith, within)) before (λ more. stops (subst (λ j. BeginsRead S.text (take j bs)) (next i) more)))
    where
      next : (i : ℕ) → i + 1 ≡ suc i
      next i = omega arith

  -- which then are a text
  some_refusal : BeginsRead S.text [] → IsUnread S.text bs → ⊥
  some_refusal begins unread =
      all_begin begins (length bs) (omega arith) (λ all.
      none Ended (record { begun = subst (BeginsRead S.text) (take_all (length bs) bs (omega arith)) all; no_text = unread }))

-- a syntax of which some text is read has an answer for any bytes
pub some_answer : (S : Syntax) → BeginsRead S.text [] → HasSomeAnswer S
some_answer S begins bs none = some_refusal S bs (λ refusal is. none (Err refusal) is) begins (λ n read. none (Ok n) read)
