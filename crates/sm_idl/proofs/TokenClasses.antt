-- Classes of tokens, and which are apart.
use Rattle.std.proofs.Common.{◌≡◌, inl, inr, ℕ, Bool, true, false, List, sym, ◌∙◌, bytes_eq, IsTrue, true≢false}
use Rattle.sm_tree.proofs.Equal.{bytes_equal_is}
use Rattle.sm_lex.specs.declared.token.TokenKind.TheVariants.{Word, Text, Mark}
use Rattle.sm_idl.specs.Productions.{Spaced}
use Rattle.sm_idl.specs.steps.Classes.{Either, AMark, AWord, AnyWord, NoMark}
use Rattle.sm_idl.specs.steps.Firm.{Class, AreApart}

is_true : (b : Bool) → IsTrue b → b ≡ true
is_true b h = h

-- two marks, or two words, that differ
pub marks_apart : (a b : List ℕ) → (a ≡ b → ⊥) → AreApart (AMark a) (AMark b)
marks_apart a b differ t h k = differ (sym h.1 ∙ k.1)

pub words_apart : (a b : List ℕ) → (a ≡ b → ⊥) → AreApart (AWord a) (AWord b)
words_apart a b differ t h k = differ (sym h.1 ∙ k.1)

word_is_no_mark : Word ≡ Mark → ⊥
word_is_no_mark e = cc

pub word_no_mark : (t : Spaced) → t.token.kind ≡ Word → t.token.kind ≡ Mark → ⊥
word_no_mark t e f = word_is_no_mark (sym e ∙ f)

pub text_no_mark : (t : Spaced) → t.token.kind ≡ Text → t.token.kind ≡ Mark → ⊥
text_no_mark t e f = let g : Text ≡ Mark = sym e ∙ f in cc

pub mark_no_word : (text : List ℕ) → AreApart (AMark text) AnyWord
mark_no_word text t h k = word_no_mark t k h.0

pub mark_no_leaf : (text : List ℕ) → AreApart (AMark text) NoMark
mark_no_leaf text t h k = k h.0

pub turned : (A B : Class) → AreApart A B → AreApart B A
turned A B apart t b a = apart t a b

pub apart_either : (A B C : Class) → AreApart A B → AreApart A C → AreApart A (Either B C)
apart_either A B C h k t a (inl b) = h t a b
apart_either A B C h k t a (inr c) = k t a c

pub either_apart : (A B C : Class) → AreApart A C → AreApart B C → AreApart (Either A B) C
either_apart A B C h k t (inl a) c = h t a c
either_apart A B C h k t (inr b) c = k t b c

-- texts that a test tells apart
pub unlike : (a b : List ℕ) → bytes_eq a b ≡ false → a ≡ b → ⊥
unlike a b f e = true≢false (sym (is_true (bytes_eq a b) ((bytes_equal_is a b).1 e)) ∙ f)

pub marks_unlike : (a b : List ℕ) → bytes_eq a b ≡ false → AreApart (AMark a) (AMark b)
marks_unlike a b f = marks_apart a b (unlike a b f)

pub words_unlike : (a b : List ℕ) → bytes_eq a b ≡ false → AreApart (AWord a) (AWord b)
words_unlike a b f = words_apart a b (unlike a b f)
