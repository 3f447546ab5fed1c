-- Bytes that are refused at a place are refused there with more bytes behind them.
use Rattle.std.proofs.Common.{◌≡◌, ℕ, ◌+◌, ◌≤◌, ◌<◌, List, ◌++◌, refl, sym, subst, arith, length, take, get_or, length-append}
use Rattle.std.proofs.lemmas.List.{take-append-le, get_or_append_left}
use Rattle.sm_tree.specs.Syntax.{TreeFormat, Syntax, Begins, BeginsRead, IsBadAt, IsKeyKindAt, IsRefused}
use Rattle.sm_tree.specs.declared.refusal.SyntaxRefusal.{SyntaxRefusal}
use Rattle.sm_tree.specs.declared.refusal.SyntaxRefusal.TheVariants.{Bad, Ended, TooDeep, KeyKind, NoMemory}

pub same_prefix : (bs more : List ℕ) (n : ℕ) → n ≤ length bs → take n (bs ++ more) ≡ take n bs
same_prefix bs more n inside = take-append-le n bs more inside

bad_longer : (F : TreeFormat) (bs more : List ℕ) (i : ℕ) → IsBadAt F bs i → IsBadAt F (bs ++ more) i
bad_longer F bs more i h =
    let inside = h.inside in record {
      inside = omega (arith, inside, length-append bs more);
      before = subst (BeginsRead F) (sym (same_prefix bs more i (omega (arith, inside)))) h.before;
      behind = λ g. h.behind (subst (Begins F) (same_prefix bs more (i + 1) (omega (arith, inside))) g);
    }

key_longer : (S : Syntax) (bs more : List ℕ) (i : ℕ) → IsKeyKindAt S bs i → IsKeyKindAt S (bs ++ more) i
key_longer S bs more i h =
    let inside = h.bad.inside in record {
      bad = bad_longer S.text bs more i h.bad;
      key = subst (λ v. S.wrong_key v (get_or (bs ++ more) i 0)) (sym (same_prefix bs more i (omega (arith, inside))))
          (subst (S.wrong_key (take i bs)) (sym (get_or_append_left bs more 0 i inside)) h.key);
    }

-- and the other way round, where the place is among the first bytes
key_shorter : (S : Syntax) (bs more : List ℕ) (i : ℕ) → i < length bs → IsKeyKindAt S (bs ++ more) i → IsKeyKindAt S bs i
key_shorter S bs more i inside h = record {
  bad = record {
    inside = inside;
    before = subst (BeginsRead S.text) (same_prefix bs more i (omega (arith, inside))) h.bad.before;
    behind =
        λ g. h.bad.behind (subst (Begins S.text) (sym (same_prefix bs more (i + 1) (omega (arith, inside)))) g);
  };
  key =
      subst (λ v. S.wrong_key v (get_or bs i 0)) (same_prefix bs more i (omega (arith, inside)))
      (subst (S.wrong_key (take i (bs ++ more))) (get_or_append_left bs more 0 i inside) h.key);
}

pub refused_longer : (S : Syntax) (bs more : List ℕ) (refusal : SyntaxRefusal) → (refusal ≡ Ended → ⊥) → IsRefused S bs refusal
    → IsRefused S (bs ++ more) refusal
refused_longer S bs more (Bad i) no_end h = record {
  bad = bad_longer S.text bs more i h.bad;
  no_key_kind = λ key. h.no_key_kind (key_shorter S bs more i h.bad.inside key);
}
refused_longer S bs more Ended no_end h = absurd (no_end refl)
refused_longer S bs more (TooDeep i) no_end h =
    let inside = h.inside in record {
      inside = omega (arith, inside, length-append bs more);
      before = subst (BeginsRead S.text) (sym (same_prefix bs more i (omega (arith, inside)))) h.before;
      goes_on = subst (Begins S.text) (sym (same_prefix bs more (i + 1) (omega (arith, inside)))) h.goes_on;
      too_deep = λ g. h.too_deep (subst (BeginsRead S.text) (same_prefix bs more (i + 1) (omega (arith, inside))) g);
    }
refused_longer S bs more (KeyKind i) no_end h = key_longer S bs more i h
refused_longer S bs more NoMemory no_end h = h
