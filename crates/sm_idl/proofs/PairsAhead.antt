-- Whether a pair stands ahead, by the kind of the next token.
use Rattle.std.proofs.Common.{◌≡◌, ◌↔◌, inl, inr, ℕ, Bool, true, false, List, [], ◌∷◌}
use Rattle.std.proofs.Common.{Option, Ok, Err, not, IsTrue, codes, refl, sym, ap}
use Rattle.std.proofs.Common.{subst, ◌∙◌, true≢false, bytes_eq}
use Rattle.std.specs.Prelude.{◌||◌}
use Rattle.std.specs.Prelude.{IsOk}
use Rattle.sm_lex.specs.Values.{string_value}
use Rattle.sm_lex.specs.declared.token.TokenKind.TheVariants.{Word, Text}
use Rattle.sm_tree.specs.Node.{null, bool, text}
use Rattle.sm_tree.proofs.Equal.{bytes_equal_is}
use Rattle.sm_model.specs.Raw.{Raw, raw_leaf}
use Rattle.sm_idl.specs.Productions.{Spaced, Tokens}
use Rattle.sm_idl.specs.Words.{IsWordId}
use Rattle.sm_idl.specs.Nodes.{Home, word_meant, WordSays, LeafSaid, LeafSays}
use Rattle.sm_idl.specs.steps.Firm.{HeadIs}
use Rattle.sm_idl.specs.steps.Classes.{AMark, NodeStart, PairAhead}
use Rattle.sm_idl.proofs.FirmNodes.{key_no_mark}

not_true : (b : Bool) → (IsTrue b → ⊥) → IsTrue (not b)
not_true true n = absurd (n refl)
not_true false n = refl

true_not : (b : Bool) → IsTrue (not b) → IsTrue b → ⊥
true_not b h e = true≢false (sym h ∙ ap not e)

module _ (home : Option Home) (x : Spaced) (r : Tokens) where
  as_word : x.token.kind ≡ Word → (n : Raw) → LeafSays home x.token n → WordSays home x.token.text n
  as_word e n h = subst (λ kind. LeafSaid home kind x.token n) e h

  of_word : x.token.kind ≡ Word → (n : Raw) → WordSays home x.token.text n → LeafSays home x.token n
  of_word e n h = subst (λ kind. LeafSaid home kind x.token n) (sym e) h

  -- a word
  pub word_before_colon : x.token.kind ≡ Word → HeadIs (AMark (codes ":")) r → PairAhead home (x ∷ r)
  word_before_colon e h = (x.token.text, inl (e, refl), inl h)

  pub word_pair : x.token.kind ≡ Word → (HeadIs (AMark (codes ":")) r → ⊥) → (b : Bool)
      → IsTrue b ↔ ((n : Raw) × WordSays home x.token.text n)
      → IsTrue (not b) ↔ PairAhead home (x ∷ r)
  word_pair e none b h = (
    (λ m. (x.token.text, inl (e, refl), inr (λ n k. true_not b m (h.1 (n, as_word e n k))))),
    (λ m. elim m.2 [
      | inl colon ↦ absurd (none colon)
      | inr nothing ↦ not_true b (λ k. (let n = h.0 k in nothing n.0 (of_word e n.0 n.1)))
    ]),
  )

  -- a string
  pub text_pair : x.token.kind ≡ Text → IsOk (string_value x.token.start x.token.text) → (b : Bool)
      → IsTrue b ↔ HeadIs (AMark (codes ":")) r
      → IsTrue b ↔ PairAhead home (x ∷ r)
  text_pair e ok b h = of_value (string_value x.token.start x.token.text) refl ok
    where
      of_value : (v : _) → string_value x.token.start x.token.text ≡ v → IsOk v → IsTrue b ↔ PairAhead home (x ∷ r)
      of_value (Ok v) f k = (
        (λ m. (v, inr (e, f), inl (h.0 m))),
        (λ m. elim m.2 [
          | inl colon ↦ h.1 colon
          | inr nothing ↦ absurd (nothing (raw_leaf (text v)) (subst (λ kind. LeafSaid home kind x.token (raw_leaf (text v))) (sym e)
              (v, f, refl)))
        ]),
      )
      of_value (Err v) f k = absurd (true≢false (sym k))

  -- anything else
  pub no_pair : (x.token.kind ≡ Word → ⊥) → (x.token.kind ≡ Text → ⊥) → PairAhead home (x ∷ r) → ⊥
  no_pair w t (k, inl h, m) = w h.0
  no_pair w t (k, inr h, m) = t h.0

-- a word is a node where it is a literal or an id
pub differ : (a b : List ℕ) → (a ≡ b → ⊥) → bytes_eq a b ≡ false
differ a b n = of_test (bytes_eq a b) refl
  where
    of_test : (c : Bool) → bytes_eq a b ≡ c → bytes_eq a b ≡ false
    of_test true e = absurd (n ((bytes_equal_is a b).0 e))
    of_test false e = e

all_false : (a b c : Bool) → a ≡ false → b ≡ false → c ≡ false → (a || (b || c)) ≡ false
all_false false false false e f g = refl
all_false true b c e f g = absurd (true≢false e)
all_false false true c e f g = absurd (true≢false f)
all_false false false true e f g = absurd (true≢false g)

module _ (home : Option Home) (w : List ℕ) where
  pub says_true : w ≡ codes "true" → (n : Raw) × WordSays home w n
  says_true e = (raw_leaf (bool true), inl (e, refl))

  pub says_false : w ≡ codes "false" → (n : Raw) × WordSays home w n
  says_false e = (raw_leaf (bool false), inr (inl (e, refl)))

  pub says_null : w ≡ codes "null" → (n : Raw) × WordSays home w n
  says_null e = (raw_leaf null, inr (inr (inl (e, refl))))

  pub says_id : (w ≡ codes "true" → ⊥) → (w ≡ codes "false" → ⊥) → (w ≡ codes "null" → ⊥) → (b : Bool) → IsTrue b ↔ IsWordId w
      → IsTrue b ↔ ((n : Raw) × WordSays home w n)
  says_id t f z b h = (
    (λ m. (
      word_meant home w,
      inr (inr (inr (
        (
          all_false _ _ _ (differ w (codes "true") t) (differ w (codes "false") f)
              (differ w (codes "null") z),
          h.0 m,
        ),
        refl,
      ))),
    )),
    (λ n. only_id n.0 n.1),
  )
    where
      only_id : (n : Raw) → WordSays home w n → IsTrue b
      only_id n (inl e) = absurd (t e.0)
      only_id n (inr (inl e)) = absurd (f e.0)
      only_id n (inr (inr (inl e))) = absurd (z e.0)
      only_id n (inr (inr (inr e))) = h.1 e.0.1

-- what `==` tells of two texts
pub same_word : (a b : List ℕ) (c : Bool) → c ≡ bytes_eq a b → c ≡ true → a ≡ b
same_word a b c e t = (bytes_equal_is a b).0 (sym e ∙ t)

pub other_word : (a b : List ℕ) (c : Bool) → c ≡ bytes_eq a b → c ≡ false → a ≡ b → ⊥
other_word a b c e f same = true≢false (sym ((bytes_equal_is a b).1 same) ∙ sym e ∙ f)

-- the same of the tokens as they are left
pub at_tokens : (home : Option Home) (s : Tokens) (x : Spaced) (r : Tokens) (b : Bool) → s ≡ x ∷ r → IsTrue b ↔ PairAhead home (x ∷ r)
    → IsTrue b ↔ PairAhead home s
at_tokens home s x r b e h =
    ((λ m. subst (λ z. PairAhead home z) (sym e) (h.0 m)), (λ m. h.1 (subst (λ z. PairAhead home z) e m)))

-- a pair that stands ahead begins a node too
pub pair_starts : (home : Option Home) (s : Tokens) → PairAhead home s → HeadIs NodeStart s
pair_starts home [] h = h
pair_starts home (t ∷ s) h = inl (key_no_mark t h.0 h.1)
