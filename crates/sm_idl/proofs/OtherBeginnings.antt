-- What begins a file does whatever its words are relative to, and so does what spells one.
use Rattle.std.proofs.Common.{◌≡◌, ◌⊎◌, inl, inr, ℕ, zero, suc, if◌then◌else◌, List, []}
use Rattle.std.proofs.Common.{◌∷◌, ◌++◌, Option, Some, refl, sym, ap, ◌∙◌, subst, bytes_eq}
use Rattle.std.proofs.Common.{append_assoc, append-nil}
use Rattle.sm_lex.specs.Tokens.{Lexeme}
use Rattle.sm_lex.specs.declared.token.TokenKind.{TokenKind}
use Rattle.sm_lex.specs.declared.token.TokenKind.TheVariants.{Word, Number, Text, Block, Mark}
use Rattle.sm_tree.specs.Limits.{most_levels}
use Rattle.sm_model.specs.Raw.{Raw}
use Rattle.sm_idl.specs.Productions.{Tokens, Production, EachSpells, each_behind, each, maybe, OptionSpells}
use Rattle.sm_idl.specs.Words.{IsNew}
use Rattle.sm_idl.specs.Nodes.{Home, word_meant, WordSays, LeafSaid, Pair, pair_names, pair_of, node}
use Rattle.sm_idl.specs.Bodies.{Controls, suffix_said, suffix_under, Suffixes, suffixes}
use Rattle.sm_idl.specs.Idl.{control, metadata, section, section_home, section_said, metadata_statements, FileSaid, file}
use Rattle.sm_idl.proofs.OtherHomes.{AreAlike, RowsAlike, names_more, pair_alike, pairs_alike, nodes_alike, node_alike, control_alike}
use Rattle.sm_idl.proofs.OtherHomes.{entry_alike, metadata_alike}

-- what begins one production of pairs begins the other too
abbrev RowsBegin : (List Pair → Production Pair) → (List Pair → Production Pair) → Type 0
RowsBegin P Q = (a b : List Pair) (s : Tokens) → pair_names a ≡ pair_names b → (P a).begun s → (Q b).begun s

same_ended : (a b : List Pair) → pair_names a ≡ pair_names b → pair_names (a ++ []) ≡ pair_names (b ++ [])
same_ended a b e = ap pair_names (append-nil a) ∙ e ∙ sym (ap pair_names (append-nil b))

module _ (P Q : List Pair → Production Pair) (alike : RowsAlike P Q) (begin : RowsBegin P Q) where
  row_begun : (a b xs : List Pair) (s t : Tokens) → pair_names a ≡ pair_names b → EachSpells P a xs s t
      → (t ≡ []) ⊎ (P (a ++ xs)).begun t → (each_behind Q b).begun s
  row_begun a b [] s t e h (inl f) = ([], t, h, inl f)
  row_begun a b [] s t e h (inr f) = ([], t, h, inr (begin (a ++ []) (b ++ []) t (same_ended a b e) f))
  row_begun a b (x ∷ xs) s t e (u, h, k) c =
      let first = alike a b x s u e h in
      let rest = row_begun (a ++ x ∷ []) (b ++ (x.0, first.0) ∷ []) xs u t (names_more a b x.0 x.1 first.0 e) k
      (elim c [ inl f ↦ inl f | inr f ↦ inr (subst (λ z. (P z).begun t) (sym (append_assoc a (x ∷ []) xs)) f) ]) in (
        (x.0, first.0) ∷ rest.0,
        rest.1,
        (u, first.1, rest.2),
        elim rest.3 [
          | inl g ↦ inl g
          | inr g ↦ inr (subst (λ z. (Q z).begun rest.1) (append_assoc b ((x.0, first.0) ∷ []) rest.0) g)
        ],
      )

abbrev BeginAlike : Production Raw → Production Raw → Type 0
BeginAlike P Q = (s : Tokens) → P.begun s → Q.begun s

module _ (P Q : Production Raw) (alike : AreAlike P Q) (begin : BeginAlike P Q) where
  pair_begun : RowsBegin (pair_of P) (pair_of Q)
  pair_begun a b s e (inl f) = inl f
  pair_begun a b s e (inr (k, s1, (t, f, (is_key, new)), inl g)) = inr (k, s1, (t, f, (is_key, subst (IsNew k) e new)), inl g)
  pair_begun a b s e (inr (k, s1, (t, f, (is_key, new)), inr (_, s2, colon, inl g))) =
      inr (k, s1, (t, f, (is_key, subst (IsNew k) e new)), inr (tt, s2, colon, inl (begin s2 g)))
  pair_begun a b s e (inr (k, s1, (t, f, (is_key, new)), inr (_, s2, colon, inr (n, s3, h, g)))) =
      let m = alike n s2 s3 h in
      inr (k, s1, (t, f, (is_key, subst (IsNew k) e new)), inr (tt, s2, colon, inr (m.0, s3, m.1, g)))

  nodes_begun : (before other xs : List Raw) (s t : Tokens) → EachSpells (λ _. P) before xs s t → (t ≡ []) ⊎ P.begun t
      → (each_behind (λ _. Q) other).begun s
  nodes_begun before other [] s t h c = ([], t, h, elim c [ inl f ↦ inl f | inr f ↦ inr (begin t f) ])
  nodes_begun before other (x ∷ xs) s t (u, h, k) c =
      let first = alike x s u h in
      let rest = nodes_begun (before ++ x ∷ []) (other ++ first.0 ∷ []) xs u t k c in
      (first.0 ∷ rest.0, rest.1, (u, first.1, rest.2), rest.3)

pub node_begun : (g h : Option Home) (levels : ℕ) → BeginAlike (node g levels) (node h levels)
unfolding node
node_begun g h zero s e = e
node_begun g h (suc levels) s (inl e) = inl e
node_begun g h (suc levels) s (inr (inl (inl f))) = inr (inl (inl f))
node_begun g h (suc levels) s (inr (inl (inr (_, s1, opens, inl (xs, t, k, c))))) =
    inr (inl (inr (
      tt,
      s1,
      opens,
      inl (row_begun (pair_of (node g levels)) (pair_of (node h levels))
          (pair_alike (node g levels) (node h levels) (node_alike g h levels))
          (pair_begun (node g levels) (node h levels) (node_alike g h levels) (node_begun g h levels)) [] [] xs s1 t refl k c),
    )))
node_begun g h (suc levels) s (inr (inl (inr (_, s1, opens, inr (ps, s2, k, c))))) =
    let other = pairs_alike (node g levels) (node h levels) (node_alike g h levels) [] [] ps s1 s2 refl k in
    inr (inl (inr (tt, s1, opens, inr (other.0, s2, other.1, c))))
node_begun g h (suc levels) s (inr (inr (inl f))) = inr (inr (inl f))
node_begun g h (suc levels) s (inr (inr (inr (_, s1, opens, inl (xs, t, k, c))))) =
    inr (inr (inr (
      tt,
      s1,
      opens,
      inl (nodes_begun (node g levels) (node h levels) (node_alike g h levels) (node_begun g h levels) [] [] xs s1 t
          k c),
    )))
node_begun g h (suc levels) s (inr (inr (inr (_, s1, opens, inr (ns, s2, k, c))))) =
    let other = nodes_alike (node g levels) (node h levels) (node_alike g h levels) [] [] ns s1 s2 k in
    inr (inr (inr (tt, s1, opens, inr (other.0, s2, other.1, c))))

-- controls and metadata
control_begun : (g h : Option Home) → RowsBegin (control g) (control h)
control_begun g h a b s e (inl f) = inl f
control_begun g h a b s e (inr (_, s1, dollar, k)) =
    inr (
      tt,
      s1,
      dollar,
      pair_begun (node g most_levels) (node h most_levels) (node_alike g h most_levels) (node_begun g h most_levels)
          a b s1 e k,
    )

entry_begun : (g h : Option Home) → RowsBegin (metadata g) (metadata h)
entry_begun g h a b s e (inl f) = inl f
entry_begun g h a b s e (inr (_, s0, word, inl f)) = inr (tt, s0, word, inl f)
entry_begun g h a b s e (inr (_, s0, word, inr (k, s1, (u, f, (is_key, new)), inl c))) =
    inr (tt, s0, word, inr (k, s1, (u, f, (is_key, subst (IsNew k) e new)), inl c))
entry_begun g h a b s e (inr (_, s0, word, inr (k, s1, (u, f, (is_key, new)), inr (_, s2, equals, inl c)))) =
    inr (tt, s0, word, inr (k, s1, (u, f, (is_key, subst (IsNew k) e new)), inr (tt, s2, equals, inl (node_begun g h most_levels s2 c))))
entry_begun g h a b s e (inr (_, s0, word, inr (k, s1, (u, f, (is_key, new)), inr (_, s2, equals, inr (n, s3, m, c))))) =
    let other = node_alike g h most_levels n s2 s3 m in
    inr (tt, s0, word, inr (k, s1, (u, f, (is_key, subst (IsNew k) e new)), inr (tt, s2, equals, inr (other.0, s3, other.1, c))))

pub controls_begun : (g h : Option Home) (s : Tokens) → (each (control g)).begun s → (each (control h)).begun s
controls_begun g h s (xs, t, k, c) = row_begun (control g) (control h) (control_alike g h) (control_begun g h) [] [] xs s t refl k c

pub metadata_begun : (g h : Option Home) (s : Tokens) → (each (metadata g)).begun s → (each (metadata h)).begun s
metadata_begun g h s (xs, t, k, c) = row_begun (metadata g) (metadata h) (entry_alike g h) (entry_begun g h) [] [] xs s t refl k c

-- Where words are ids, what a control says of a suffix is the same
abbrev SameSuffix : Raw → Raw → Type 0
SameSuffix m n = (otherwise : List ℕ) → suffix_said otherwise m ≡ suffix_said otherwise n

word_same : (g h : Home) (w : List ℕ) (n : Raw) → WordSays (Some g) w n → (m : Raw) × WordSays (Some h) w m × SameSuffix n m
word_same g h w n (inl e) = (n, inl e, λ o. refl)
word_same g h w n (inr (inl e)) = (n, inr (inl e), λ o. refl)
word_same g h w n (inr (inr (inl e))) = (n, inr (inr (inl e)), λ o. refl)
word_same g h w n (inr (inr (inr e))) = (word_meant (Some h) w, inr (inr (inr (e.0, refl))), λ o. ap (suffix_said o) e.1)

leaf_same : (g h : Home) (kind : TokenKind) (t : Lexeme) (n : Raw) → LeafSaid (Some g) kind t n
    → (m : Raw) × LeafSaid (Some h) kind t m × SameSuffix n m
leaf_same g h Text t n e = (n, e, λ o. refl)
leaf_same g h Block t n e = (n, e, λ o. refl)
leaf_same g h Number t n e = (n, e, λ o. refl)
leaf_same g h Word t n e = word_same g h t.text n e
leaf_same g h Mark t n e = absurd e

node_same : (g h : Home) (levels : ℕ) (n : Raw) (s r : Tokens) → (node (Some g) levels).whole n s r
    → (m : Raw) × (node (Some h) levels).whole m s r × SameSuffix n m
unfolding node
node_same g h zero n s r (t, e, k) = let m = leaf_same g h t.token.kind t.token n k in (m.0, (t, e, m.1), m.2)
node_same g h (suc levels) n s r (inl (t, e, k)) = let m = leaf_same g h t.token.kind t.token n k in (m.0, inl (t, e, m.1), m.2)
node_same g h (suc levels) n s r (inr (inl (_, s1, opens, (ps, s2, k, (_, s3, close, (e, last)))))) =
    let other = pairs_alike (node (Some g) levels) (node (Some h) levels) (node_alike (Some g) (Some h) levels) [] [] ps s1 s2 refl k in
    (_, inr (inl (tt, s1, opens, (other.0, s2, other.1, (tt, s3, close, (refl, last))))), λ o. ap (suffix_said o) e)
node_same g h (suc levels) n s r (inr (inr (_, s1, opens, (ns, s2, k, (_, s3, close, (e, last)))))) =
    let other = nodes_alike (node (Some g) levels) (node (Some h) levels) (node_alike (Some g) (Some h) levels) [] [] ns s1 s2 k in
    (_, inr (inr (tt, s1, opens, (other.0, s2, other.1, (tt, s3, close, (refl, last))))), λ o. ap (suffix_said o) e)

abbrev SameSuffixes : Controls → Controls → Type 0
SameSuffixes cs ds = (name otherwise : List ℕ) → suffix_under name otherwise cs ≡ suffix_under name otherwise ds

control_same : (g h : Home) (a b : List Pair) (x : Pair) (s r : Tokens) → pair_names a ≡ pair_names b → (control (Some g) a).whole x s r
    → (m : Raw) × (control (Some h) b).whole (x.0, m) s r × SameSuffix x.1 m
control_same g h a b x s r e (_, s1, dollar, (k, s2, (t, f, (is_key, new)), (_, s3, colon, (n, s4, i, (same, last))))) =
    let m = node_same g h most_levels n s3 s4 i in (
      m.0,
      (
        tt,
        s1,
        dollar,
        (k, s2, (t, f, (is_key, subst (IsNew k) e new)), (tt, s3, colon, (m.0, s4, m.1, (ap (λ p. (p.0, m.0)) same, last)))),
      ),
      λ o. ap (λ p. suffix_said o p.1) same ∙ m.2 o,
    )

controls_same : (g h : Home) (a b xs : List Pair) (s r : Tokens) → pair_names a ≡ pair_names b → EachSpells (control (Some g)) a xs s r
    → (ys : List Pair) × EachSpells (control (Some h)) b ys s r × SameSuffixes xs ys
controls_same g h a b [] s r e k = ([], k, λ name o. refl)
controls_same g h a b (x ∷ xs) s r e (t, k, more) =
    let first = control_same g h a b x s t e k in
    let rest = controls_same g h (a ++ x ∷ []) (b ++ (x.0, first.0) ∷ []) xs t r (names_more a b x.0 x.1 first.0 e) more in (
      (x.0, first.0) ∷ rest.0,
      (t, first.1, rest.1),
      λ name o. ap (λ z. if bytes_eq x.0 name then z else suffix_under name o xs) (first.2 o)
          ∙ ap (λ z. if bytes_eq x.0 name then suffix_said o first.0 else z) (rest.2 name o),
    )

suffixes_of : Option (List ℕ) → Option (List ℕ) → Suffixes
suffixes_of i o = record { input = i; output = o }

pub same_suffixes : (cs ds : Controls) → SameSuffixes cs ds → suffixes cs ≡ suffixes ds
unfolding suffixes_of
same_suffixes cs ds e = ap (λ i. suffixes_of i (suffixes cs).output) (e _ _) ∙ ap (λ o. suffixes_of (suffixes ds).input o) (e _ _)

-- a file
module _ (g h : Home) where
  pub file_other : (f : FileSaid) (s r : Tokens) → (file (Some g)).whole f s r → (other : FileSaid) × (file (Some h)).whole other s r
  file_other f s r (cs, s1, c, (ms, s2, m, (x, s3, n, (e, last)))) =
      let ds = controls_same g h [] [] cs s s1 refl c in
      let ns = metadata_alike (Some g) (Some h) [] [] ms s1 s2 refl m in (
        record { home = section_home x; controls = ds.0; said = metadata_statements ns.0 ++ section_said x },
        (
          ds.0,
          s1,
          ds.1,
          (ns.0, s2, ns.1, (x, s3, subst (λ z. OptionSpells (section z) x s2 s3) (same_suffixes cs ds.0 ds.2) n, (refl, last))),
        ),
      )

  pub file_begun : (s : Tokens) → (file (Some g)).begun s → (file (Some h)).begun s
  file_begun s (inl k) = inl (controls_begun (Some g) (Some h) s k)
  file_begun s (inr (cs, s1, c, inl k)) =
      let ds = controls_same g h [] [] cs s s1 refl c in inr (ds.0, s1, ds.1, inl (metadata_begun (Some g) (Some h) s1 k))
  file_begun s (inr (cs, s1, c, inr (ms, s2, m, inl k))) =
      let ds = controls_same g h [] [] cs s s1 refl c in
      let ns = metadata_alike (Some g) (Some h) [] [] ms s1 s2 refl m in
      inr (ds.0, s1, ds.1, inr (ns.0, s2, ns.1, inl (subst (λ z. (maybe (section z)).begun s2) (same_suffixes cs ds.0 ds.2) k)))
  file_begun s (inr (cs, s1, c, inr (ms, s2, m, inr (x, s3, n, last)))) =
      let ds = controls_same g h [] [] cs s s1 refl c in
      let ns = metadata_alike (Some g) (Some h) [] [] ms s1 s2 refl m in
      inr (
        ds.0,
        s1,
        ds.1,
        inr (
          ns.0,
          s2,
          ns.1,
          inr (
            x,
            s3,
            subst (λ z. OptionSpells (section z) x s2 s3) (same_suffixes cs ds.0 ds.2)
                n,
            last,
          ),
        ),
      )
