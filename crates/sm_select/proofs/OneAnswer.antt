-- A text has one cut that leads furthest, so it has one selector at most, and one answer.
use Rattle.std.proofs.Common.{◌≡◌, ◌⊎◌, inl, inr, ℕ, ◌+◌, ◌<◌, ◌≤◌, List, [], ◌∷◌, ◌++◌, length, refl, sym, ap, ◌∙◌, subst, append_assoc}
use Rattle.std.proofs.Common.{append-nil, arith, length-append}
use Rattle.sm_select.specs.Selectors.{Steps}
use Rattle.sm_select.specs.Tokens.{Token, EndsWhite, SkipsWhite, TokenThen, TokensThen}
use Rattle.sm_select.specs.Grammar.{SpellsSteps}
use Rattle.sm_select.specs.SelectorText.{SelectorText, Comes, Furthest, LeavesProfile, StepMayCome}
use Rattle.sm_select.specs.SelectorText.{OtherForm, variable, scoped_or_back, function, category, IsUnclosed}
use Rattle.sm_select.specs.Laws.{OneSelector, PrefixesAreBegun, OneAnswer}
use Rattle.sm_select.specs.steps.Places.{Place, stepping, Leads, Runs, IsWhole}
use Rattle.sm_select.proofs.SpelledRuns.{spelled_runs}
use Rattle.sm_select.proofs.OneMove.{one_move, one_run}
use Rattle.sm_select.proofs.Closings.{begun_run}
use Rattle.sm_select.proofs.Passing.{one_white, white_shorter, begun_dark, begun_shorter, lead_begins, tokens_shorter, dead_ends}
use Rattle.sm_select.proofs.SignPairs.{TwoTokens, one_token, first_dead, second_dead}
use Rattle.sm_select.proofs.TwoTokens.{two_tokens}

-- tokens that lead on from a place through a text, with white space behind them
record Goes (p : Place) (ts : List Token) (s rest : List ℕ) : Type 0 where
  end : Place
  behind : List ℕ
  cut : TokensThen ts s behind
  run : Runs p ts end
  white : SkipsWhite behind rest
  dark : EndsWhite rest

goes_shorter : (p : Place) (ts : List Token) (s rest : List ℕ) → Goes p ts s rest → length rest ≤ length s
goes_shorter p ts s rest g =
    let a = tokens_shorter ts p g.end s g.behind g.cut g.run in let b = white_shorter g.behind rest g.white in omega arith

-- one that has a token more leads further
further : (p : Place) (t : Token) (ts : List Token) (s rest other : List ℕ) → Goes p [] s rest → Goes p (t ∷ ts) s other → length other <
    length rest
further p t ts s rest other g h = by_cut h.cut h.run
  where
    by_cut : TokensThen (t ∷ ts) s h.behind → Runs p (t ∷ ts) h.end → length other < length rest
    by_cut (first, b, to, stands, more) (n, lead, run) =
        let begins = lead_begins p n t first b lead stands in
        let same = one_white s rest first (subst (λ x. SkipsWhite x rest) (sym g.cut) g.white) to g.dark (begun_dark first b begins) in
        let size = ap length same in
        let shorter = begun_shorter first b begins in
        let rests = goes_shorter n ts b other (record {
          end = h.end;
          behind = h.behind;
          cut = more;
          run = run;
          white = h.white;
          dark =
              h.dark;
        }) in
        omega arith

-- two cuts that lead as far as each other are one
abbrev OneCut : List Token → List Token → Type 0
OneCut ts us = (q : Place) (r rest other : List ℕ) → Goes q ts r rest → Goes q us r other → length rest ≡ length other → ts ≡ us

cut_by_two : (t u : Token) (ts us : List Token) (p q n : Place) (r b rest other : List ℕ) → OneCut ts us → Leads p t q → Leads p u n
    → Goes q ts r rest
    → Goes n us b other
    → length rest ≡ length other
    → TwoTokens t u q n r b
    → t ∷ ts ≡ u ∷ us
cut_by_two t u ts us p q n r b rest other later lead leads a c e (one_token same behind) =
    let moved : q ≡ n = one_move p q n t lead (subst (λ x. Leads p x n) (sym same) leads) in
    let one = later q r rest other a (subst (λ x. Goes x us r other) (sym moved) (subst (λ x. Goes n us x other) (sym behind) c)) e in
    ap (λ x. x ∷ ts) same ∙ ap (λ x. u ∷ x) one
cut_by_two t u ts us p q n r b rest other later lead leads a c e (first_dead d short) =
    let size = ap length (dead_ends ts q a.end r a.behind rest d a.cut a.white a.dark a.run) in
    let less = goes_shorter n us b other c in absurd (omega arith)
cut_by_two t u ts us p q n r b rest other later lead leads a c e (second_dead d short) =
    let size = ap length (dead_ends us n c.end b c.behind other d c.cut c.white c.dark c.run) in
    let less = goes_shorter q ts r rest a in absurd (omega arith)

cut_step : (t u : Token) (ts us : List Token) (p : Place) (s rest other : List ℕ) → OneCut ts us → Goes p (t ∷ ts) s rest
    → Goes p (u ∷ us) s other
    → length rest ≡ length other
    → t ∷ ts ≡ u ∷ us
cut_step t u ts us p s rest other later g h e = by_cuts g.cut g.run h.cut h.run
  where
    by_cuts : TokensThen (t ∷ ts) s g.behind → Runs p (t ∷ ts) g.end → TokensThen (u ∷ us) s h.behind → Runs p (u ∷ us) h.end → t ∷ ts ≡
        u ∷ us
    by_cuts (first, r, to, stands, more) (q, lead, run) (start, b, white, then, others) (n, leads, goes) =
        let same = one_white s start first white to (begun_dark start b (lead_begins p n u start b leads then))
        (begun_dark first r (lead_begins p q t first r lead stands)) in
        cut_by_two t u ts us p q n r b rest other later lead leads
        (record { end = g.end; behind = g.behind; cut = more; run = run; white = g.white; dark = g.dark })
        (record { end = h.end; behind = h.behind; cut = others; run = goes; white = h.white; dark = h.dark })
        e
        (two_tokens p q n t u first r b lead leads stands (subst (λ x. TokenThen u x b) same then))

same_cut : (ts us : List Token) → OneCut ts us
same_cut [] [] p s rest other g h e = refl
same_cut [] (u ∷ us) p s rest other g h e = let less = further p u us s rest other g h in absurd (omega arith)
same_cut (t ∷ ts) [] p s rest other g h e = let less = further p t ts s other rest h g in absurd (omega arith)
same_cut (t ∷ ts) (u ∷ us) p s rest other g h e = cut_step t u ts us p s rest other (same_cut ts us) g h e

start_goes : (ts : List Token) (text rest : List ℕ) → Comes ts text rest → Goes (stepping [] []) ts text rest
start_goes ts text rest c =
    let run = begun_run ts c.begun in
    record { end = run.0; behind = c.behind; cut = c.cut; run = run.1; white = c.white; dark = c.ends }

selector_comes : (steps : Steps) (text : List ℕ) (t : SelectorText steps text) → Comes t.tokens text []
selector_comes steps text t = record {
  behind = t.behind;
  cut = t.cut;
  white = t.whole;
  ends = tt;
  begun = ([], steps, subst (λ x. SpellsSteps steps x []) (sym (append-nil t.tokens)) t.spelled);
}

whole_steps : (p : Place) (steps others : Steps) → IsWhole p steps → IsWhole p others → steps ≡ others
whole_steps (stepping [] fs) steps others h k = absurd h
whole_steps (stepping (s ∷ ss) []) steps others h k = h ∙ sym k
whole_steps (stepping (s ∷ ss) (f ∷ fs)) steps others h k = absurd h
whole_steps p steps others h k = absurd h

one_spelled : (ts : List Token) (steps others : Steps) → SpellsSteps steps ts [] → SpellsSteps others ts [] → steps ≡ others
one_spelled ts steps others a b =
    let x = spelled_runs steps ts a in
    let y = spelled_runs others ts b in
    whole_steps x.0 steps others x.2 (subst (λ p. IsWhole p others) (one_run (stepping [] []) y.0 x.0 ts y.1 x.1) y.2)

pub one_selector : OneSelector
one_selector text steps others a b =
    let same = same_cut a.tokens b.tokens (stepping [] []) text [] [] (start_goes a.tokens text [] (selector_comes steps text a))
    (start_goes b.tokens text [] (selector_comes others text b)) refl in
    one_spelled b.tokens steps others (subst (λ x. SpellsSteps steps x []) same a.spelled) b.spelled

pub prefixes_are_begun : PrefixesAreBegun
prefixes_are_begun steps ts us spelled = (us, steps, spelled)

-- what leads furthest is one
same_length : (ts us : List Token) (text rest other : List ℕ) → Furthest ts text rest → Furthest us text other → length rest ≡ length other
same_length ts us text rest other f g =
    let a = f.furthest us other g.comes in let b = g.furthest ts rest f.comes in omega arith

same_tokens : (ts us : List Token) (text rest other : List ℕ) → Furthest ts text rest → Furthest us text other → ts ≡ us
same_tokens ts us text rest other f g =
    same_cut ts us (stepping [] []) text rest other (start_goes ts text rest f.comes) (start_goes us text other g.comes)
    (same_length ts us text rest other f g)

-- what stands behind them is one
ends_of : (v w x y : List ℕ) → v ++ x ≡ w ++ y → length x ≡ length y → x ≡ y
ends_of [] [] x y h k = h
ends_of [] (d ∷ w) x y h k = let l = ap length h in let m = length-append w y in absurd (omega arith)
ends_of (c ∷ v) [] x y h k = let l = ap length h in let m = length-append v x in absurd (omega arith)
ends_of (c ∷ v) (d ∷ w) x y h k = ends_of v w x y (let g : c ∷ (v ++ x) ≡ d ∷ (w ++ y) = h in cc) k

tokens_before : (us : List Token) (x y : List ℕ) → TokensThen us x y → (w : List ℕ) × (x ≡ w ++ y)
tokens_before [] x y h = ([], h)
tokens_before (u ∷ us) x y (first, behind, (w, to, all), then, rest) =
    let more = tokens_before us behind y rest in (
      w ++ (then.bytes ++ more.0),
      to ∙ ap (λ z. w ++ z) (then.spelled ∙ ap (λ z. then.bytes ++ z) more.1 ∙ sym (append_assoc then.bytes more.0 y))
          ∙ sym (append_assoc w (then.bytes ++ more.0) y),
    )

comes_before : (ts : List Token) (text rest : List ℕ) → Comes ts text rest → (w : List ℕ) × (text ≡ w ++ rest)
comes_before ts text rest c =
    let a = tokens_before ts text c.behind c.cut in
    (a.0 ++ c.white.0, a.1 ∙ ap (λ z. a.0 ++ z) c.white.1 ∙ sym (append_assoc a.0 c.white.0 rest))

same_rest : (ts us : List Token) (text rest other : List ℕ) → Furthest ts text rest → Furthest us text other → rest ≡ other
same_rest ts us text rest other f g =
    let a = comes_before ts text rest f.comes in
    let b = comes_before us text other g.comes in
    ends_of a.0 b.0 rest other (sym a.1 ∙ b.1) (same_length ts us text rest other f g)

some_bytes : (s : List ℕ) → OtherForm s → 0 < length s
some_bytes s (variable more e) = let l = ap length e in omega arith
some_bytes s (scoped_or_back (inl (more, e))) = let l = ap length e in omega arith
some_bytes s (scoped_or_back (inr (more, e))) = let l = ap length e in omega arith
some_bytes s (function name more behind e run other) = let l = ap length e in omega arith
some_bytes s (category name behind run is) =
    let l = ap length (run.spelled ∙ ap (λ x. x ++ behind) run.is) in omega arith

pub one_answer : OneAnswer
one_answer = record {
  selector_or_break = λ text at is b. b.no_selector is;
  selector_or_other = λ text at is l. by_selector text at is.0 is.1 l;
  break_or_other = λ text at other b l. b.in_profile
      (subst StepMayCome (sym (same_tokens b.tokens l.tokens text b.rest l.rest b.comes l.comes)) l.step)
      (subst OtherForm (sym (same_rest b.tokens l.tokens text b.rest l.rest b.comes l.comes)) l.other);
  one_break = λ text at other a b. by_rest text at other a.rest a.place
      (subst (λ r. (IsUnclosed r × (other ≡ length text)) ⊎ ((IsUnclosed r → ⊥) × (other + length r ≡ length text)))
      (sym (same_rest a.tokens b.tokens text a.rest b.rest a.comes b.comes)) b.place);
  one_other = λ text at other a b.
      let size = same_length a.tokens b.tokens text a.rest b.rest a.comes b.comes in
      let here = a.place in let there = b.place in omega arith;
}
  where
    by_selector : (text : List ℕ) (at : ℕ) (steps : Steps) → SelectorText steps text → LeavesProfile text at → ⊥
    by_selector text at steps t l =
        let less = l.comes.furthest t.tokens [] (selector_comes steps text t) in let some = some_bytes l.rest l.other in omega arith

    by_rest : (text : List ℕ) (at other : ℕ) (r : List ℕ) → (IsUnclosed r × (at ≡ length text)) ⊎ ((IsUnclosed r → ⊥) × (at + length r ≡
        length text))
        → (IsUnclosed r × (other ≡ length text)) ⊎ ((IsUnclosed r → ⊥) × (other + length r ≡ length text))
        → at ≡ other
    by_rest text at other r (inl (u, e)) (inl (v, f)) = e ∙ sym f
    by_rest text at other r (inl (u, e)) (inr (v, f)) = absurd (v u)
    by_rest text at other r (inr (u, e)) (inl (v, f)) = absurd (u v)
    by_rest text at other r (inr (u, e)) (inr (v, f)) = omega arith
