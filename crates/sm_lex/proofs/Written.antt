-- The text of lines, one line after another.
use Rattle.std.proofs.Common.{◌≡◌, ℕ, Bool, true, false, cond, List, [], ◌∷◌, ◌++◌, refl, sym, ap, subst, ◌∙◌}
use Rattle.std.specs.Prelude.{Option, Some, None, Result, Ok, Err, IsOk, map}
use Rattle.std.proofs.lemmas.List.{append-nil}
use Rattle.sm_lex.specs.Lines.{Line, lines_at, lines_text, put_before}
use Rattle.sm_lex.specs.steps.LexSteps.{line_kept, LineGives, LineFails, IsFine}
use Rattle.sm_lex.proofs.LineCuts.{lines_some}
use Rattle.sm_lex.proofs.LineParts.{put_nothing, put_put}
use Rattle.sm_lex.proofs.Judged.{Judged, bad_line}

-- the lines so far give these bytes, and then come these lines, which are the last
abbrev pub Written : Result (List ℕ) ℕ → List ℕ → List Line → Type 0
Written all out [] = all ≡ Ok out
Written all out (l ∷ ls) = all ≡ put_before out (lines_text (l ∷ ls))

pub written_none : (out : List ℕ) (ls : List Line) → out ≡ [] → Written (lines_text ls) out ls
written_none out [] e = ap Ok (sym e)
written_none out (l ∷ ls) e = sym (put_nothing (lines_text (l ∷ ls))) ∙ ap (λ t. put_before t (lines_text (l ∷ ls))) (sym e)

written_last : (all : Result (List ℕ) ℕ) (l : Line) (out t : List ℕ) → Written all out (l ∷ []) → LineGives true l.at l.bytes t
    → Written all (out ++ t) []
written_last all l out t e gives = e ∙ ap (put_before out) (gives None tt) ∙ put_put out t (Ok []) ∙ ap Ok (append-nil (out ++ t))

written_more : (all : Result (List ℕ) ℕ) (l m : Line) (ls : List Line) (out t : List ℕ) → Written all out (l ∷ (m ∷ ls))
    → LineGives false l.at l.bytes t → Written all (out ++ t) (m ∷ ls)
written_more all l m ls out t e gives = e ∙ ap (put_before out) (gives (Some (lines_text (m ∷ ls))) tt)
    ∙ put_put out t (lines_text (m ∷ ls))

-- a line that gives the text t
pub written_line : (all : Result (List ℕ) ℕ) (indent : Option ℕ) (old : List Line) (l k : Line) (at : ℕ) (s out new t : List ℕ)
    (done : Bool) →
    old ≡ l ∷ cond done [] (lines_at at s) → k ≡ line_kept indent l → new ≡ out ++ t → Written all out (map (line_kept indent) old)
    → LineGives done k.at k.bytes t → Written all new (map (line_kept indent) (cond done [] (lines_at at s)))
written_line all indent old l k at s out new t true e same new_is before gives =
    subst (λ b. Written all b []) (sym new_is) (written_last all k out t
    (subst (λ x. Written all out (x ∷ [])) (sym same) (subst (λ ls. Written all out (map (line_kept indent) ls)) e before)) gives)
written_line all indent old l k at s out new t false e same new_is before gives =
    let some = lines_some at s in
    subst (λ ls. Written all new (map (line_kept indent) ls)) (sym some.2)
    (subst (λ b. Written all b (line_kept indent some.0 ∷ map (line_kept indent) some.1)) (sym new_is)
    (written_more all k (line_kept indent some.0) (map (line_kept indent) some.1) out t
    (subst (λ x. Written all out (x ∷ (line_kept indent some.0 ∷ map (line_kept indent) some.1))) (sym same)
    (subst (λ ls. Written all out (map (line_kept indent) ls)) (e ∙ ap (λ u. l ∷ u) some.2) before)) gives))

judged_too : (all : Result (List ℕ) ℕ) (out : List ℕ) (ls : List Line) → Written all out ls → Judged all ls
judged_too all out [] e = subst (λ r. Judged r []) (sym e) refl
judged_too all out (l ∷ ls) e = (out, e)

-- a line with a bad escape
pub unwritten_line : (all : Result (List ℕ) ℕ) (indent : Option ℕ) (old : List Line) (l k : Line) (at p : ℕ) (s out : List ℕ)
    (done : Bool) →
    old ≡ l ∷ cond done [] (lines_at at s) → k ≡ line_kept indent l → Written all out (map (line_kept indent) old)
    → LineFails done k.at k.bytes p → all ≡ Err p
unwritten_line all indent old l k at p s out done e same before fails =
    bad_line all indent old l at p s done e (judged_too all out (map (line_kept indent) old) before)
    (subst (λ x. LineFails done x.at x.bytes p) same fails)

-- so no line has one, where the lines give a text
pub fine_line : (all : Result (List ℕ) ℕ) (indent : Option ℕ) (old : List Line) (l k : Line) (at : ℕ) (s out : List ℕ) (done : Bool) →
    old ≡ l ∷ cond done [] (lines_at at s) → k ≡ line_kept indent l → Written all out (map (line_kept indent) old) → IsOk all
    → IsFine done k
fine_line all indent old l k at s out done e same before ok p fails =
    let wrong : false ≡ true = subst (λ r. IsOk r) (unwritten_line all indent old l k at p s out done e same before fails) ok in absurd cc
