-- Whitespace and comments end at one place, and are the same pieces.
use Rattle.std.proofs.Common.{◌≡◌, ℕ, true, false, List, [], ◌∷◌, length, drop, refl, sym, ap, subst, ◌∙◌}
use Rattle.std.specs.List.{before_first}
use Rattle.sm_tree.proofs.ListEnds.{tails}
use Rattle.sm_lex.specs.Bytes.{is_idl_white}
use Rattle.sm_lex.specs.Space.{Piece, white, comment, SpacePieces, EndsSpace, is_line_feed}

-- where whitespace ends, none begins
none_white : (c : ℕ) (r s : List ℕ) → EndsSpace r → r ≡ c ∷ s → is_idl_white c ≡ true → ⊥
none_white c r s ends e w = let h : is_idl_white c ≡ false = (subst EndsSpace e ends).0 in let wrong : false ≡ true = sym h ∙ w in absurd cc

none_comment : (r s : List ℕ) → EndsSpace r → r ≡ 47 ∷ (47 ∷ s) → ⊥
none_comment r s ends e = let wrong : true ≡ false = (subst EndsSpace e ends).1 in absurd cc

slash_not_white : (c : ℕ) (s t : List ℕ) → is_idl_white c ≡ true → c ∷ s ≡ 47 ∷ t → ⊥
slash_not_white c s t w e = let h : c ≡ 47 = cc in let wrong : false ≡ true = subst (λ x. is_idl_white x ≡ true) h w in absurd cc

pub one_space : (ps qs : List Piece) (s r t : List ℕ) → SpacePieces ps s r → SpacePieces qs s t → EndsSpace r → EndsSpace t
    → (ps ≡ qs) × (r ≡ t)
one_space [] [] s r t e f u v = (refl, sym e ∙ f)
one_space [] (white d ∷ qs) s r t e (s2, f, w, more) u v = absurd (none_white d r s2 u (sym e ∙ f) w)
one_space [] (comment d ∷ qs) s r t e (s2, f, d_is, more) u v = absurd (none_comment r s2 u (sym e ∙ f))
one_space (white c ∷ ps) [] s r t (s1, e, w, more) f u v = absurd (none_white c t s1 v (sym f ∙ e) w)
one_space (comment c ∷ ps) [] s r t (s1, e, c_is, more) f u v = absurd (none_comment t s1 v (sym f ∙ e))
one_space (white c ∷ ps) (white d ∷ qs) s r t (s1, e, w, more) (s2, f, x, others) u v =
    let both : c ∷ s1 ≡ d ∷ s2 = sym e ∙ f in
    let same : c ≡ d = cc in
    let rest = one_space ps qs s1 r t more (subst (λ z. SpacePieces qs z t) (sym (tails c d s1 s2 both)) others) u v in
    ((λ i. white (same i) ∷ rest.0 i), rest.1)
one_space (white c ∷ ps) (comment d ∷ qs) s r t (s1, e, w, more) (s2, f, d_is, others) u v = absurd
    (slash_not_white c s1 (47 ∷ s2) w (sym e ∙ f))
one_space (comment c ∷ ps) (white d ∷ qs) s r t (s1, e, c_is, more) (s2, f, w, others) u v = absurd
    (slash_not_white d s2 (47 ∷ s1) w (sym f ∙ e))
one_space (comment c ∷ ps) (comment d ∷ qs) s r t (s1, e, c_is, more) (s2, f, d_is, others) u v =
    let both : 47 ∷ (47 ∷ s1) ≡ 47 ∷ (47 ∷ s2) = sym e ∙ f in
    let same : s1 ≡ s2 = tails 47 47 s1 s2 (tails 47 47 (47 ∷ s1) (47 ∷ s2) both) in
    let texts : c ≡ d = c_is ∙ ap (before_first is_line_feed) same ∙ sym d_is in
    let moved : drop (length c) s1 ≡ drop (length d) s2 = λ i. drop (length (texts i)) (same i) in
    let rest = one_space ps qs (drop (length c) s1) r t more (subst (λ z. SpacePieces qs z t) (sym moved) others) u v in
    ((λ i. comment (texts i) ∷ rest.0 i), rest.1)
