-- Whitespace and comments: one piece more, and where they end.
use Rattle.std.proofs.Common.{◌≡◌, ℕ, List, ◌∷◌, length, drop, refl, sym, ap, subst, ◌∙◌}
use Rattle.std.specs.Prelude.{Some}
use Rattle.std.specs.List.{position_or_len, before_first}
use Rattle.std.proofs.lemmas.List.{drop-drop}
use Rattle.std.proofs.lemmas.List.Folds.{length-prefix_len}
use Rattle.sm_lex.specs.Space.{white, comment, SpacePieces, SkipsSpace, is_line_feed}
use Rattle.sm_lex.specs.declared.space.SpacePart.{SpacePart}
use Rattle.sm_lex.specs.declared.space.SpacePart.TheVariants.{White, Comment}
use Rattle.sm_lex.specs.steps.LexSteps.{PartOfSpace, part_len}

-- behind one piece come more
pub skips_part : (s r : List ℕ) (part : SpacePart) → PartOfSpace s (Some part) → SkipsSpace (drop (part_len part) s) r → SkipsSpace s r
skips_part s r White (c, s1, e, w) (ps, h) = (white c ∷ ps, (s1, e, w, subst (λ t. SpacePieces ps t r) (ap (drop 1) e) h))
skips_part s r (Comment n) (s1, e, n_is) (ps, h) =
    let t = before_first is_line_feed s1 in
    let len : length t ≡ position_or_len is_line_feed s1 = length-prefix_len _ s1 in
    let moved : drop n s ≡ drop (length t) s1 =
    ap (λ k. drop k s) n_is ∙ sym (drop-drop (position_or_len is_line_feed s1) 2 s)
    ∙ ap (λ u. drop (position_or_len is_line_feed s1) (drop 2 u)) e ∙ ap (λ k. drop k s1) (sym len)
    in
    (comment t ∷ ps, (s1, e, refl, subst (λ u. SpacePieces ps u r) moved h))
