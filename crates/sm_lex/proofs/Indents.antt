-- The indent of lines, one after another.
use Rattle.std.proofs.Common.{◌≡◌, ℕ, Bool, true, false, cond, List, [], ◌∷◌, min, sym, ap, subst, ◌∙◌, arith}
use Rattle.std.specs.Prelude.{Option, Some, None}
use Rattle.std.specs.List.{list_all}
use Rattle.sm_lex.specs.Lines.{Line, lines_at, indent, is_blank, leading_spaces}
use Rattle.sm_lex.specs.steps.LexSteps.{smaller, indent_with}
use Rattle.sm_lex.proofs.LineCuts.{lines_some}

-- the least number of leading spaces so far, and the lines that are left, come to this indent
abbrev pub IndentOf : ℕ → Option ℕ → List Line → Type 0
IndentOf all None ls = indent ls ≡ all
IndentOf all (Some n) [] = n ≡ all
IndentOf all (Some n) (l ∷ ls) = min n (indent (l ∷ ls)) ≡ all

-- the last line
counts_last : (all : ℕ) (least : Option ℕ) (l : Line) → IndentOf all least (l ∷ []) → IndentOf all (indent_with least l.bytes true) []
counts_last all None l h = h
counts_last all (Some n) l h = h

-- what is to be shown of a line above others that come to the indent `rest`, and is blank or not
abbrev WithLine : ℕ → Option ℕ → ℕ → ℕ → Bool → Type 0
WithLine all None spaces rest blank = cond blank rest (min spaces rest) ≡ all
WithLine all (Some n) spaces rest blank = min n (cond blank rest (min spaces rest)) ≡ all

abbrev WithoutLine : ℕ → Option ℕ → ℕ → Type 0
WithoutLine all None rest = rest ≡ all
WithoutLine all (Some n) rest = min n rest ≡ all

line_counted : (all : ℕ) (least : Option ℕ) (spaces rest : ℕ) (blank : Bool) → WithLine all least spaces rest blank
    → WithoutLine all (cond blank least (Some (smaller least spaces))) rest
line_counted all None spaces rest true h = h
line_counted all (Some n) spaces rest true h = h
line_counted all None spaces rest false h = h
line_counted all (Some n) spaces rest false h = let same : min (min n spaces) rest ≡ min n (min spaces rest) = omega arith in same ∙ h

opened : (all : ℕ) (least : Option ℕ) (m : Line) (ls : List Line) → WithoutLine all least (indent (m ∷ ls)) → IndentOf all least (m ∷ ls)
opened all None m ls h = h
opened all (Some n) m ls h = h

closed : (all : ℕ) (least : Option ℕ) (l m : Line) (ls : List Line) → IndentOf all least (l ∷ (m ∷ ls))
    → WithLine all least (leading_spaces l.bytes) (indent (m ∷ ls)) (list_all is_blank l.bytes)
closed all None l m ls h = h
closed all (Some n) l m ls h = h

-- a line above another
counts_more : (all : ℕ) (least : Option ℕ) (l m : Line) (ls : List Line) → IndentOf all least (l ∷ (m ∷ ls))
    → IndentOf all (indent_with least l.bytes false) (m ∷ ls)
counts_more all least l m ls h = opened all (indent_with least l.bytes false) m ls
    (line_counted all least (leading_spaces l.bytes) (indent (m ∷ ls)) (list_all is_blank l.bytes) (closed all least l m ls h))

pub counts : (all at : ℕ) (least : Option ℕ) (all_lines : List Line) (l : Line) (s : List ℕ) (done : Bool)
    → all_lines ≡ l ∷ cond done [] (lines_at at s) → IndentOf all least all_lines
    → IndentOf all (indent_with least l.bytes done) (cond done [] (lines_at at s))
counts all at least all_lines l s true e h = counts_last all least l (subst (IndentOf all least) e h)
counts all at least all_lines l s false e h =
    let some = lines_some at s in
    subst (IndentOf all (indent_with least l.bytes false)) (sym some.2)
    (counts_more all least l some.0 some.1 (subst (IndentOf all least) (e ∙ ap (λ t. l ∷ t) some.2) h))
