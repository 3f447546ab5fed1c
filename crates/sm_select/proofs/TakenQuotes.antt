-- Quoted text at the start of a text, and numbers: what stands there, or that none does.
use Rattle.std.proofs.Common.{◌≡◌, ◌≢◌, ◌⊎◌, inl, inr, ℕ, zero, suc, get_or, ◌<◌, true, List, [], ◌∷◌, ◌++◌, length, take, drop}
use Rattle.std.proofs.Common.{Option, Some, None, refl, sym, ap, ◌∙◌, subst, append_assoc, arith, length-append}
use Rattle.std.specs.Prelude.{IsUtf8}
use Rattle.std.specs.Str.{IsCharBoundary}
use Rattle.std.proofs.Math.Seq.{get_or-append_seam}
use Rattle.std.proofs.lemmas.Bool.Decides.{nat_tests}
use Rattle.std.proofs.lemmas.List.{length-drop, take-append-drop}
use Rattle.sm_ids.proofs.Cutting.{heads}
use Rattle.sm_select.specs.Tokens.{quoted, numeral, BeginsOther, IsFree, TokenThen}
use Rattle.sm_select.specs.declared.parser_taken.Taken.{Taken}
use Rattle.sm_select.specs.steps.Taking.{IsQuotedAt, IsQuotedToken, IsNumeralToken, IsTaken, NoneAs, TakenAs, IsLongestNumber}
use Rattle.sm_select.proofs.NumberBytes.{begins_number, is_number_byte, number_bytes, number_head}
use Rattle.sm_select.proofs.SignPairs.{unlike}
use Rattle.sm_select.proofs.TwoTokens.{quoted_same}
use Rattle.sm_select.proofs.Boundaries.{boundary}
use Rattle.sm_select.proofs.LongestNumbers.{number_within}

-- where a byte is nowhere among others, these are free of it
pub free_from : (mark : ℕ) (t : List ℕ) → ((i : ℕ) → i < length t → get_or t i 0 ≢ mark) → IsFree mark t
free_from mark [] lacks (k, less, e) = omega (arith, less)
free_from mark (c ∷ t) lacks (zero, less, e) = lacks 0 (omega arith) e
free_from mark (c ∷ t) lacks (suc k, less, e) = free_from mark t (λ i l. lacks (suc i) (omega (arith, l))) (k, omega (arith, less), e)

-- where no mark stands, none closes
pub never_closed : (mark : ℕ) (t v c : List ℕ) → ((i : ℕ) → i < length t → get_or t i 0 ≢ mark) → t ≡ v ++ mark ∷ c → ⊥
never_closed mark t v c lacks e =
    let size = ap length e in
    let sum = length-append v (mark ∷ c) in
    lacks (length v) (omega arith) (ap (λ x. get_or x (length v) 0) e ∙ get_or-append_seam v mark c 0)

no_quote_other : (s r : List ℕ) → s ≡ 34 ∷ r → BeginsOther s → ⊥
no_quote_other s r e (inl (more, f)) = unlike 34 60 refl (heads 34 60 r (45 ∷ 91 ∷ more) (sym e ∙ f))
no_quote_other s r e (inr (more, f)) = unlike 34 91 refl (heads 34 91 r (64 ∷ more) (sym e ∙ f))

no_apostrophe_other : (s r : List ℕ) → s ≡ 39 ∷ r → BeginsOther s → ⊥
no_apostrophe_other s r e (inl (more, f)) = unlike 39 60 refl (heads 39 60 r (45 ∷ 91 ∷ more) (sym e ∙ f))
no_apostrophe_other s r e (inr (more, f)) = unlike 39 91 refl (heads 39 91 r (64 ∷ more) (sym e ∙ f))

of_then : (v s b : List ℕ) → TokenThen (quoted v) s b → TakenAs IsQuotedToken v s b
of_then v s b t = record {
  token = quoted v;
  kind = refl;
  then = t;
  longest = λ w u c k h. let same = quoted_same v w s b c t (subst (λ x. TokenThen x s c) k h) in
      let size = ap length same.1 in omega arith;
}

joined : (mark : ℕ) (s v b : List ℕ) → s ≡ mark ∷ (v ++ mark ∷ b) → s ≡ (mark ∷ v ++ mark ∷ []) ++ b
joined mark s v b e = e ∙ ap (λ x. mark ∷ x) (sym (append_assoc v (mark ∷ []) b))

pub by_quotes : (s : List ℕ) (taken : Taken) → IsQuotedAt 34 s (Some taken) → IsTaken IsQuotedToken s (Some taken)
by_quotes s taken (e, free) = of_then taken.text.now s taken.behind.now (record {
  bytes = 34 ∷ taken.text.now ++ 34 ∷ [];
  is_token = inl (refl, free);
  spelled = joined 34 s taken.text.now taken.behind.now e;
  may_end = tt;
  not_other = no_quote_other s (taken.text.now ++ 34 ∷ taken.behind.now) e;
})

by_apostrophes : (s : List ℕ) (taken : Taken) → IsQuotedAt 39 s (Some taken) → IsTaken IsQuotedToken s (Some taken)
by_apostrophes s taken (e, free) = of_then taken.text.now s taken.behind.now (record {
  bytes = 39 ∷ taken.text.now ++ 39 ∷ [];
  is_token = inr (refl, free);
  spelled = joined 39 s taken.text.now taken.behind.now e;
  may_end = tt;
  not_other = no_apostrophe_other s (taken.text.now ++ 39 ∷ taken.behind.now) e;
})

spelled_back : (mark : ℕ) (s w c bytes : List ℕ) → s ≡ bytes ++ c → bytes ≡ mark ∷ w ++ mark ∷ [] → s ≡ mark ∷ (w ++ mark ∷ c)
spelled_back mark s w c bytes e f = e ∙ ap (λ x. x ++ c) f ∙ ap (λ x. mark ∷ x) (append_assoc w (mark ∷ []) c)

no_quotes : (s : List ℕ) → IsQuotedAt 34 s None → IsQuotedAt 39 s None → NoneAs IsQuotedToken s
no_quotes s none other w u c k t = by_token (subst (λ x. TokenThen x s c) k t)
  where
    by_token : TokenThen (quoted w) s c → ⊥
    by_token h = elim h.is_token [
      | inl (e, free) ↦ none w c (spelled_back 34 s w c h.bytes h.spelled e) free
      | inr (e, free) ↦ other w c (spelled_back 39 s w c h.bytes h.spelled e) free
    ]

pub quotes_or_none : (s : List ℕ) (r : Option Taken) → IsQuotedAt 34 s None → IsQuotedAt 39 s r → IsTaken IsQuotedToken s r
quotes_or_none s (Some taken) none h = by_apostrophes s taken h
quotes_or_none s None none h = no_quotes s none h

-- the longest number, cut off
pub number_taken : (s : List ℕ) (n : ℕ) → IsLongestNumber s n → (n ≡ 0 → ⊥) → TakenAs IsNumeralToken (take n s) s (drop n s)
number_taken s n l some = record {
  token = numeral (take n s);
  kind = refl;
  then = there l.found;
  longest = λ w u c k t.
      let h = subst (λ x. TokenThen x s c) k t in
      let size = number_within s w c h in let short = l.longest w c h in let rest = length-drop n s in let few = l.within in omega arith;
}
  where
    there : (n ≡ 0) ⊎ TokenThen (numeral (take n s)) s (drop n s) → TokenThen (numeral (take n s)) s (drop n s)
    there (inl e) = absurd (some e)
    there (inr t) = t

pub no_number : (s : List ℕ) (n : ℕ) → IsLongestNumber s n → n ≡ 0 → NoneAs IsNumeralToken s
no_number s n l e w u c k t = by_head (number_head w h.is_token.1)
  where
    h : TokenThen (numeral w) s c
    h = subst (λ x. TokenThen x s c) k t

    by_head : (d : ℕ) × (ds : List ℕ) × (w ≡ d ∷ ds) × (begins_number d ≡ true) → ⊥
    by_head (d, ds, f, g) = let short = l.longest w c h in let size = ap length f in omega (arith, e)

pub number_boundary : (s : List ℕ) (n : ℕ) → IsLongestNumber s n → (n ≡ 0 → ⊥) → IsUtf8 s → IsCharBoundary s n
number_boundary s n l some u = by_found l.found
  where
    small : (c : ℕ) → is_number_byte c ≡ true → c < 128
    small c h = grind (arith, nat_tests)

    by_found : (n ≡ 0) ⊎ TokenThen (numeral (take n s)) s (drop n s) → IsCharBoundary s n
    by_found (inl e) = absurd (some e)
    by_found (inr t) =
        let b : IsCharBoundary s (length (take n s)) =
        boundary is_number_byte small s (take n s) (drop n s) (sym (take-append-drop n s)) (number_bytes (take n s) t.is_token.1) u in
        let within = number_within s (take n s) (drop n s) t in
        let rest = length-drop n s in
        let few = l.within in
        let same : length (take n s) ≡ n = omega arith in
        subst (IsCharBoundary s) same b
