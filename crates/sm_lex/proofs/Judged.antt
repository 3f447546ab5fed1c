-- The escapes of lines, one line after another.
use Rattle.std.proofs.Common.{◌≡◌, ℕ, Bool, true, false, cond, List, [], ◌∷◌, ◌++◌, refl, sym, ap, subst, ◌∙◌}
use Rattle.std.specs.Prelude.{Option, Some, None, Result, Ok, Err, IsOk, map}
use Rattle.sm_lex.specs.Lines.{Line, lines_at, lines_text, put_before}
use Rattle.sm_lex.specs.steps.LexSteps.{line_kept, JudgesLine}
use Rattle.sm_lex.proofs.LineCuts.{lines_some}
use Rattle.sm_lex.proofs.LineParts.{put_nothing, put_put}

-- the lines so far have no bad escape, and then come these, which are the last
abbrev pub Judged : Result (List ℕ) ℕ → List Line → Type 0
Judged all [] = IsOk all
Judged all (l ∷ ls) = (t : List ℕ) × (all ≡ put_before t (lines_text (l ∷ ls)))

pub judged_none : (ls : List Line) → Judged (lines_text ls) ls
judged_none [] = refl
judged_none (l ∷ ls) = ([], sym (put_nothing (lines_text (l ∷ ls))))

put_ok : (t u : List ℕ) (all : Result (List ℕ) ℕ) → all ≡ put_before t (put_before u (Ok [])) → IsOk all
put_ok t u all e = subst (λ r. IsOk r) (sym e) refl

judged_last : (all : Result (List ℕ) ℕ) (l : Line) → Judged all (l ∷ []) → JudgesLine true l None → Judged all []
judged_last all l (t, e) (u, gives) = put_ok t u all (e ∙ ap (put_before t) (gives None tt))

judged_more : (all : Result (List ℕ) ℕ) (l m : Line) (ls : List Line) → Judged all (l ∷ (m ∷ ls)) → JudgesLine false l None
    → Judged all (m ∷ ls)
judged_more all l m ls (t, e) (u, gives) = (
  t ++ u,
  e ∙ ap (put_before t) (gives (Some (lines_text (m ∷ ls))) tt)
      ∙ put_put t u (lines_text (m ∷ ls)),
)

bad_last : (all : Result (List ℕ) ℕ) (l : Line) (p : ℕ) → Judged all (l ∷ []) → JudgesLine true l (Some p) → all ≡ Err p
bad_last all l p (t, e) fails = e ∙ ap (put_before t) (fails None tt)

bad_more : (all : Result (List ℕ) ℕ) (l m : Line) (ls : List Line) (p : ℕ) → Judged all (l ∷ (m ∷ ls)) → JudgesLine false l (Some p)
    → all ≡ Err p
bad_more all l m ls p (t, e) fails = e ∙ ap (put_before t) (fails (Some (lines_text (m ∷ ls))) tt)

-- a line without a bad escape
pub judged_line : (all : Result (List ℕ) ℕ) (indent : Option ℕ) (old : List Line) (l : Line) (at : ℕ) (s : List ℕ) (done : Bool) →
    old ≡ l ∷ cond done [] (lines_at at s) → Judged all (map (line_kept indent) old) → JudgesLine done (line_kept indent l) None
    → Judged all (map (line_kept indent) (cond done [] (lines_at at s)))
judged_line all indent old l at s true e before here = judged_last all (line_kept indent l)
    (subst (λ ls. Judged all (map (line_kept indent) ls)) e before) here
judged_line all indent old l at s false e before here =
    let some = lines_some at s in
    subst (λ ls. Judged all (map (line_kept indent) ls)) (sym some.2)
    (judged_more all (line_kept indent l) (line_kept indent some.0) (map (line_kept indent) some.1)
    (subst (λ ls. Judged all (map (line_kept indent) ls)) (e ∙ ap (λ t. l ∷ t) some.2) before) here)

-- a line with one
pub bad_line : (all : Result (List ℕ) ℕ) (indent : Option ℕ) (old : List Line) (l : Line) (at p : ℕ) (s : List ℕ) (done : Bool) →
    old ≡ l ∷ cond done [] (lines_at at s) → Judged all (map (line_kept indent) old) → JudgesLine done (line_kept indent l) (Some p)
    → all ≡ Err p
bad_line all indent old l at p s true e before here = bad_last all (line_kept indent l) p
    (subst (λ ls. Judged all (map (line_kept indent) ls)) e before) here
bad_line all indent old l at p s false e before here =
    let some = lines_some at s in
    bad_more all (line_kept indent l) (line_kept indent some.0) (map (line_kept indent) some.1) p
    (subst (λ ls. Judged all (map (line_kept indent) ls)) (e ∙ ap (λ t. l ∷ t) some.2) before) here

-- of a string nothing is taken off
pub kept_none : (ls : List Line) → map (line_kept None) ls ≡ ls
kept_none [] = refl
kept_none (l ∷ ls) = ap (λ t. l ∷ t) (kept_none ls)
