-- A token says one thing at each of its places.
use Rattle.std.proofs.Common.{◌≡◌, inl, inr, ℕ, true, false, true≢false, List, [], Option, Result, Ok, Err, codes, refl, sym, ap}
use Rattle.std.proofs.Common.{subst, ◌∙◌}
use Rattle.sm_lex.specs.Tokens.{Lexeme}
use Rattle.sm_lex.specs.declared.token.TokenKind.{TokenKind}
use Rattle.sm_lex.specs.declared.token.TokenKind.TheVariants.{Word, Number, Text, Block, Mark}
use Rattle.sm_tree.specs.Node.{text}
use Rattle.sm_tree.proofs.Numbers.{one_node}
use Rattle.sm_model.specs.Raw.{Raw, raw_leaf}
use Rattle.sm_idl.specs.Words.{IsWord, IsString, IsBlock, IsKey}
use Rattle.sm_idl.proofs.TokenClasses.{unlike}
use Rattle.sm_idl.specs.Nodes.{Home, is_literal, WordSays, LeafSaid, LeafSays}

abbrev value_of : Result (List ℕ) ℕ → List ℕ
value_of (Ok v) = v
value_of (Err e) = []

one_ok : (r : Result (List ℕ) ℕ) (v w : List ℕ) → r ≡ Ok v → r ≡ Ok w → v ≡ w
one_ok r v w e f = ap value_of (sym e ∙ f)

pub one_string : (t : Lexeme) (v w : List ℕ) → IsString v t → IsString w t → v ≡ w
one_string t v w h k = one_ok _ v w h.1 k.1

pub one_block : (t : Lexeme) (v w : List ℕ) → IsBlock v t → IsBlock w t → v ≡ w
one_block t v w h k = one_ok _ v w h.1 k.1

pub one_word : (t : Lexeme) (v w : List ℕ) → IsWord v t → IsWord w t → v ≡ w
one_word t v w h k = sym h.1 ∙ k.1

pub word_no_text : (t : Lexeme) → t.kind ≡ Word → t.kind ≡ Text → ⊥
word_no_text t e f = let g : Word ≡ Text = sym e ∙ f in cc

pub word_no_block : (t : Lexeme) → t.kind ≡ Word → t.kind ≡ Block → ⊥
word_no_block t e f = let g : Word ≡ Block = sym e ∙ f in cc

pub text_no_block : (t : Lexeme) → t.kind ≡ Text → t.kind ≡ Block → ⊥
text_no_block t e f = let g : Text ≡ Block = sym e ∙ f in cc

pub one_key : (t : Lexeme) (j k : List ℕ) → IsKey j t → IsKey k t → j ≡ k
one_key t j k (inl h) (inl m) = one_word t j k h m
one_key t j k (inr h) (inr m) = one_string t j k h m
one_key t j k (inl h) (inr m) = absurd (word_no_text t h.0 m.0)
one_key t j k (inr h) (inl m) = absurd (word_no_text t m.0 h.0)

-- the literals, and words that are none
not_literal : (w v : List ℕ) → w ≡ v → is_literal v ≡ true → is_literal w ≡ false → ⊥
not_literal w v e f g = true≢false (sym f ∙ ap is_literal (sym e) ∙ g)

pub one_word_says : (home : Option Home) (w : List ℕ) (m n : Raw) → WordSays home w m → WordSays home w n → m ≡ n
one_word_says home w m n (inl h) (inl k) = h.1 ∙ sym k.1
one_word_says home w m n (inr (inl h)) (inr (inl k)) = h.1 ∙ sym k.1
one_word_says home w m n (inr (inr (inl h))) (inr (inr (inl k))) = h.1 ∙ sym k.1
one_word_says home w m n (inr (inr (inr h))) (inr (inr (inr k))) = h.1 ∙ sym k.1
one_word_says home w m n (inl h) (inr (inl k)) = absurd (unlike (codes "true") (codes "false") refl (sym h.0 ∙ k.0))
one_word_says home w m n (inl h) (inr (inr (inl k))) = absurd (unlike (codes "true") (codes "null") refl (sym h.0 ∙ k.0))
one_word_says home w m n (inl h) (inr (inr (inr k))) = absurd (not_literal w (codes "true") h.0 refl k.0.0)
one_word_says home w m n (inr (inl h)) (inl k) = absurd (unlike (codes "true") (codes "false") refl (sym k.0 ∙ h.0))
one_word_says home w m n (inr (inl h)) (inr (inr (inl k))) = absurd (unlike (codes "false") (codes "null") refl (sym h.0 ∙ k.0))
one_word_says home w m n (inr (inl h)) (inr (inr (inr k))) = absurd (not_literal w (codes "false") h.0 refl k.0.0)
one_word_says home w m n (inr (inr (inl h))) (inl k) = absurd (unlike (codes "true") (codes "null") refl (sym k.0 ∙ h.0))
one_word_says home w m n (inr (inr (inl h))) (inr (inl k)) = absurd (unlike (codes "false") (codes "null") refl (sym k.0 ∙ h.0))
one_word_says home w m n (inr (inr (inl h))) (inr (inr (inr k))) = absurd (not_literal w (codes "null") h.0 refl k.0.0)
one_word_says home w m n (inr (inr (inr h))) (inl k) = absurd (not_literal w (codes "true") k.0 refl h.0.0)
one_word_says home w m n (inr (inr (inr h))) (inr (inl k)) = absurd (not_literal w (codes "false") k.0 refl h.0.0)
one_word_says home w m n (inr (inr (inr h))) (inr (inr (inl k))) = absurd (not_literal w (codes "null") k.0 refl h.0.0)

one_said : (home : Option Home) (kind : TokenKind) (t : Lexeme) (m n : Raw) → LeafSaid home kind t m → LeafSaid home kind t n → m ≡ n
one_said home Text t m n h k = h.2 ∙ ap (λ v. raw_leaf (text v)) (one_ok _ h.0 k.0 h.1 k.1) ∙ sym k.2
one_said home Block t m n h k = h.2 ∙ ap (λ v. raw_leaf (text v)) (one_ok _ h.0 k.0 h.1 k.1) ∙ sym k.2
one_said home Number t m n h k = h.2 ∙ ap raw_leaf (one_node h.0 k.0 t.text h.1 k.1) ∙ sym k.2
one_said home Word t m n h k = one_word_says home t.text m n h k
one_said home Mark t m n h k = absurd h

pub one_leaf : (home : Option Home) (t : Lexeme) (m n : Raw) → LeafSays home t m → LeafSays home t n → m ≡ n
one_leaf home t m n h k = one_said home t.kind t m n h k

-- a leaf is no mark
pub leaf_no_mark : (home : Option Home) (t : Lexeme) (n : Raw) → LeafSays home t n → t.kind ≡ Mark → ⊥
leaf_no_mark home t n h e = subst (λ kind. LeafSaid home kind t n) e h
