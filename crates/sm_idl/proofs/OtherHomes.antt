-- Where a node, a control or metadata ends is the same whatever its words are relative to.
use Rattle.std.proofs.Common.{◌≡◌, inl, inr, ℕ, zero, suc, List, [], ◌∷◌, ◌++◌, Option, refl, sym, ap, ◌∙◌, subst}
use Rattle.std.proofs.lemmas.List.{map-append}
use Rattle.sm_lex.specs.Tokens.{Lexeme}
use Rattle.sm_lex.specs.declared.token.TokenKind.{TokenKind}
use Rattle.sm_lex.specs.declared.token.TokenKind.TheVariants.{Word, Number, Text, Block, Mark}
use Rattle.sm_tree.specs.Limits.{most_levels}
use Rattle.sm_model.specs.Raw.{Raw}
use Rattle.sm_idl.specs.Productions.{Tokens, Production, EachSpells}
use Rattle.sm_idl.specs.Nodes.{Home, word_meant, WordSays, LeafSaid, Pair, pair_names, pair_of, node}
use Rattle.sm_idl.specs.Idl.{control, metadata}
use Rattle.sm_idl.specs.Words.{IsNew}

-- what one spells, the other spells too
abbrev pub AreAlike : Production Raw → Production Raw → Type 0
AreAlike P Q = (n : Raw) (s r : Tokens) → P.whole n s r → (m : Raw) × Q.whole m s r

word_alike : (g h : Option Home) (w : List ℕ) (n : Raw) → WordSays g w n → (m : Raw) × WordSays h w m
word_alike g h w n (inl e) = (n, inl e)
word_alike g h w n (inr (inl e)) = (n, inr (inl e))
word_alike g h w n (inr (inr (inl e))) = (n, inr (inr (inl e)))
word_alike g h w n (inr (inr (inr e))) = (word_meant h w, inr (inr (inr (e.0, refl))))

leaf_alike : (g h : Option Home) (kind : TokenKind) (t : Lexeme) (n : Raw) → LeafSaid g kind t n → (m : Raw) × LeafSaid h kind t m
leaf_alike g h Text t n e = (n, e)
leaf_alike g h Block t n e = (n, e)
leaf_alike g h Number t n e = (n, e)
leaf_alike g h Word t n e = word_alike g h t.text n e
leaf_alike g h Mark t n e = absurd e

pub names_more : (a b : List Pair) (k : List ℕ) (n m : Raw) → pair_names a ≡ pair_names b
    → pair_names (a ++ (k, n) ∷ []) ≡ pair_names (b ++ (k, m) ∷ [])
names_more a b k n m e = map-append (λ p. p.0) a ((k, n) ∷ []) ∙ ap (λ ks. ks ++ k ∷ []) e ∙ sym (map-append (λ p. p.0) b ((k, m) ∷ []))

-- what one production of pairs spells, the other spells too, under the same name
abbrev pub RowsAlike : (List Pair → Production Pair) → (List Pair → Production Pair) → Type 0
RowsAlike P Q = (a b : List Pair) (x : Pair) (s r : Tokens) → pair_names a ≡ pair_names b → (P a).whole x s r
    → (m : Raw) × (Q b).whole (x.0, m) s r

module _ (P Q : List Pair → Production Pair) (alike : RowsAlike P Q) where
  rows_alike : (a b xs : List Pair) (s r : Tokens) → pair_names a ≡ pair_names b → EachSpells P a xs s r
      → (ys : List Pair) × EachSpells Q b ys s r
  rows_alike a b [] s r e h = ([], h)
  rows_alike a b (x ∷ xs) s r e (t, h, k) =
      let first = alike a b x s t e h in
      let rest = rows_alike (a ++ x ∷ []) (b ++ (x.0, first.0) ∷ []) xs t r (names_more a b x.0 x.1 first.0 e) k in
      ((x.0, first.0) ∷ rest.0, (t, first.1, rest.1))

module _ (P Q : Production Raw) (alike : AreAlike P Q) where
  pub pair_alike : RowsAlike (pair_of P) (pair_of Q)
  pair_alike a b x s r e (k, s1, (t, f, (is_key, new)), (_, s2, colon, (n, s3, h, (g, last)))) =
      let other = alike n s2 s3 h in (
        other.0,
        (
          k,
          s1,
          (t, f, (is_key, subst (IsNew k) e new)),
          (
            tt,
            s2,
            colon,
            (
              other.0,
              s3,
              other.1,
              (
                ap (λ p. (p.0, other.0)) g,
                last,
              ),
            ),
          ),
        ),
      )

  pub pairs_alike : (a b xs : List Pair) (s r : Tokens) → pair_names a ≡ pair_names b → EachSpells (pair_of P) a xs s r
      → (ys : List Pair) × EachSpells (pair_of Q) b ys s r
  pairs_alike = rows_alike (pair_of P) (pair_of Q) pair_alike

  pub nodes_alike : (before other xs : List Raw) (s r : Tokens) → EachSpells (λ _. P) before xs s r
      → (ys : List Raw) × EachSpells (λ _. Q) other ys s r
  nodes_alike before other [] s r h = ([], h)
  nodes_alike before other (x ∷ xs) s r (t, h, k) =
      let first = alike x s t h in
      let rest = nodes_alike (before ++ x ∷ []) (other ++ first.0 ∷ []) xs t r k in
      (first.0 ∷ rest.0, (t, first.1, rest.1))

pub node_alike : (g h : Option Home) (levels : ℕ) → AreAlike (node g levels) (node h levels)
unfolding node
node_alike g h zero n s r (t, e, k) = let m = leaf_alike g h t.token.kind t.token n k in (m.0, (t, e, m.1))
node_alike g h (suc levels) n s r (inl (t, e, k)) = let m = leaf_alike g h t.token.kind t.token n k in (m.0, inl (t, e, m.1))
node_alike g h (suc levels) n s r (inr (inl (_, s1, open_mark, (ps, s2, k, (_, s3, close, (e, last)))))) =
    let other = pairs_alike (node g levels) (node h levels) (node_alike g h levels) [] [] ps s1 s2 refl k in
    (_, inr (inl (tt, s1, open_mark, (other.0, s2, other.1, (tt, s3, close, (refl, last))))))
node_alike g h (suc levels) n s r (inr (inr (_, s1, open_mark, (ns, s2, k, (_, s3, close, (e, last)))))) =
    let other = nodes_alike (node g levels) (node h levels) (node_alike g h levels) [] [] ns s1 s2 k in
    (_, inr (inr (tt, s1, open_mark, (other.0, s2, other.1, (tt, s3, close, (refl, last))))))

-- controls and metadata
pub control_alike : (g h : Option Home) → RowsAlike (control g) (control h)
control_alike g h a b x s r e (_, s1, dollar, k) =
    let m = pair_alike (node g most_levels) (node h most_levels) (node_alike g h most_levels) a b x s1 r e k in
    (m.0, (tt, s1, dollar, m.1))

pub controls_alike : (g h : Option Home) (a b xs : List Pair) (s r : Tokens) → pair_names a ≡ pair_names b → EachSpells (control g) a xs s r
    → (ys : List Pair) × EachSpells (control h) b ys s r
controls_alike g h = rows_alike (control g) (control h) (control_alike g h)

pub entry_alike : (g h : Option Home) → RowsAlike (metadata g) (metadata h)
entry_alike g h a b x s r e (_, s0, word, (k, s1, (u, f, (is_key, new)), (_, s2, equals, (n, s3, m, (same, last))))) =
    let other = node_alike g h most_levels n s2 s3 m in (
      other.0,
      (
        tt,
        s0,
        word,
        (
          k,
          s1,
          (u, f, (is_key, subst (IsNew k) e new)),
          (tt, s2, equals, (other.0, s3, other.1, (ap (λ p. (p.0, other.0)) same, last))),
        ),
      ),
    )

pub metadata_alike : (g h : Option Home) (a b xs : List Pair) (s r : Tokens) → pair_names a ≡ pair_names b
    → EachSpells (metadata g) a xs s r
    → (ys : List Pair) × EachSpells (metadata h) b ys s r
metadata_alike g h = rows_alike (metadata g) (metadata h) (entry_alike g h)
