-- Two tokens at one place of a text that both lead on from a place are one; or one of them is shorter, and nothing leads on behind it.
use Rattle.std.proofs.Common.{◌≡◌, inl, inr, ℕ, suc, ◌<◌, Bool, true, false, ◌==◌, List, [], ◌∷◌, ◌++◌, length, refl, sym, ap, ◌∙◌, subst}
use Rattle.std.proofs.Common.{append_assoc, codes, arith, length-append}
use Rattle.std.specs.Prelude.{not}
use Rattle.std.specs.List.{list_all}
use Rattle.std.proofs.lemmas.Bool.Decides.{nat_tests}
use Rattle.std.proofs.lemmas.List.Folds.{list_all-append}
use Rattle.sm_ids.specs.IdText.{member_text}
use Rattle.sm_ids.specs.steps.Ahead.{EndsRun}
use Rattle.sm_ids.proofs.Cutting.{both, and_also, clash, heads, tails, one_cut}
use Rattle.sm_model.specs.Relations.{relation_name}
use Rattle.sm_tree.specs.Numbers.{IsNumber}
use Rattle.sm_select.specs.declared.tokens.Sign.{Sign}
use Rattle.sm_select.specs.Tokens.{Token, word, quoted, numeral, TokenIs, TokenThen, IsFree, begins_run}
use Rattle.sm_select.specs.Grammar.{type_word}
use Rattle.sm_select.specs.steps.Places.{Piece, sign, id_word, key, value, ReadAs}
use Rattle.sm_select.specs.steps.Places.{Place}
use Rattle.sm_select.specs.steps.Places.{Moves}
use Rattle.sm_select.specs.steps.Places.{Leads}
use Rattle.sm_select.specs.steps.Standing.{IsDead}
use Rattle.sm_select.proofs.WordBytes.{WordThen}
use Rattle.sm_select.proofs.NumberBytes.{is_number_byte, begins_number, number_bytes, number_head}
use Rattle.sm_select.proofs.SignTexts.{sign_spelled, not_of, eq_of}
use Rattle.sm_select.proofs.OneMove.{Want, a_step, a_path, a_sign_or_fold, wanted, fits, Fits, step_sign, step_kind, path_sign, path_id}
use Rattle.sm_select.proofs.OneMove.{a_trait_id, key_text, only_sign, value_text, fold_sign, the_fold, a_relation, end_sign}
use Rattle.sm_select.proofs.SignPairs.{sign_then, then_word, quoted_head, numeral_head, unlike, number_dead, TwoTokens, one_token}
use Rattle.sm_select.proofs.SignPairs.{first_dead, second_dead, word_pair, sign_pair, sign_no_word, id_pair}

-- quoted texts
pub free_all : (mark : ℕ) (t : List ℕ) → IsFree mark t → list_all (λ c. not (c == mark)) t ≡ true
free_all mark [] free = refl
free_all mark (c ∷ t) free =
    and_also (not (c == mark)) (list_all (λ x. not (x == mark)) t) (not_of (c == mark) (λ e. free (0, omega arith, eq_of c mark e)))
    (free_all mark t (λ h. free (suc h.0, omega (arith, h.1), h.2)))

mark_ends : (mark : ℕ) (r : List ℕ) → EndsRun (λ c. not (c == mark)) (mark ∷ r)
mark_ends mark r = let e : (mark == mark) ≡ true = grind (arith, nat_tests) in ap not e

one_quoted : (mark : ℕ) (v w r b : List ℕ) → IsFree mark v → IsFree mark w → (mark ∷ v ++ mark ∷ []) ++ r ≡ (mark ∷ w ++ mark ∷ []) ++ b
    → (v ≡ w) × (r ≡ b)
one_quoted mark v w r b fv fw e =
    let inner : v ++ mark ∷ r ≡ w ++ mark ∷ b =
    sym (append_assoc v (mark ∷ []) r) ∙ tails mark mark ((v ++ mark ∷ []) ++ r) ((w ++ mark ∷ []) ++ b) e ∙ append_assoc w (mark ∷ []) b in
    let k = one_cut (λ c. not (c == mark)) v w (mark ∷ r) (mark ∷ b) (free_all mark v fv) (free_all mark w fw) (mark_ends mark r)
    (mark_ends mark b)
    inner in
    (k.0, tails mark mark r b k.1)

pub quoted_same : (v w s r b : List ℕ) → TokenThen (quoted v) s r → TokenThen (quoted w) s b → (v ≡ w) × (r ≡ b)
quoted_same v w s r b h k = by_marks h.is_token k.is_token
  where
    whole : h.bytes ++ r ≡ k.bytes ++ b
    whole = sym h.spelled ∙ k.spelled

    by_marks : TokenIs (quoted v) h.bytes → TokenIs (quoted w) k.bytes → (v ≡ w) × (r ≡ b)
    by_marks (inl (e, free)) (inl (f, other)) = one_quoted 34 v w r b free other (ap (λ x. x ++ r) (sym e) ∙ whole ∙ ap (λ x. x ++ b) f)
    by_marks (inr (e, free)) (inr (f, other)) = one_quoted 39 v w r b free other (ap (λ x. x ++ r) (sym e) ∙ whole ∙ ap (λ x. x ++ b) f)
    by_marks (inl (e, free)) (inr (f, other)) = absurd (unlike 34 39 refl (heads 34 39 ((v ++ 34 ∷ []) ++ r) ((w ++ 39 ∷ []) ++ b)
        (ap (λ x. x ++ r) (sym e) ∙ whole ∙ ap (λ x. x ++ b) f)))
    by_marks (inr (e, free)) (inl (f, other)) = absurd (unlike 39 34 refl (heads 39 34 ((v ++ 39 ∷ []) ++ r) ((w ++ 34 ∷ []) ++ b)
        (ap (λ x. x ++ r) (sym e) ∙ whole ∙ ap (λ x. x ++ b) f)))

quoted_pair : (t u : Token) (q n : Place) (s r b v w : List ℕ) → t ≡ quoted v → u ≡ quoted w → TokenThen t s r → TokenThen u s b
    → TwoTokens t u q n r b
quoted_pair t u q n s r b v w e f h k =
    let same = quoted_same v w s r b (subst (λ x. TokenThen x s r) e h) (subst (λ x. TokenThen x s b) f k) in
    one_token (e ∙ ap quoted same.0 ∙ sym f) same.1

-- a word, quoted text and a number begin otherwise
split_head : (w s r : List ℕ) → WordThen w s r → (c : ℕ) × (more : List ℕ) × (s ≡ c ∷ more) × (begins_run c ≡ true)
split_head w s r t = (
  t.shape.of_run.first,
  (t.shape.of_run.more ++ member_text t.shape.member) ++ r,
  t.spelled ∙ ap (λ x. x ++ r) t.shape.is ∙ ap (λ x. (x ++ member_text t.shape.member) ++ r) t.shape.of_run.is,
  t.shape.of_run.begins,
)

pub word_no_quoted : (t u : Token) (s r b w v : List ℕ) → t ≡ word w → u ≡ quoted v → TokenThen t s r → TokenThen u s b → ⊥
word_no_quoted t u s r b w v e f h k = by_head (split_head w s r (then_word t w s r e h))
  where
    by_head : (c : ℕ) × (more : List ℕ) × (s ≡ c ∷ more) × (begins_run c ≡ true) → ⊥
    by_head (c, more, g, l) = elim (quoted_head v s b c more (subst (λ x. TokenThen x s b) f k) g) [
      | inl i ↦ absurd (let o : false ≡ true = subst (λ x. begins_run x ≡ true) i l in cc)
      | inr i ↦ absurd (let o : false ≡ true = subst (λ x. begins_run x ≡ true) i l in cc)
    ]

letter_no_number : (c : ℕ) → begins_run c ≡ true → begins_number c ≡ false
letter_no_number c h = grind (arith, nat_tests)

pub word_no_numeral : (t u : Token) (s r b w v : List ℕ) → t ≡ word w → u ≡ numeral v → TokenThen t s r → TokenThen u s b → ⊥
word_no_numeral t u s r b w v e f h k = by_head (split_head w s r (then_word t w s r e h))
  where
    by_head : (c : ℕ) × (more : List ℕ) × (s ≡ c ∷ more) × (begins_run c ≡ true) → ⊥
    by_head (c, more, g, l) = clash (begins_number c) (numeral_head v s b c more (subst (λ x. TokenThen x s b) f k) g) (letter_no_number
        c l)

pub numeral_no_quoted : (t u : Token) (s r b w v : List ℕ) → t ≡ numeral w → u ≡ quoted v → TokenThen t s r → TokenThen u s b → ⊥
numeral_no_quoted t u s r b w v e f h k = by_token (subst (λ x. TokenThen x s r) e h)
  where
    by_token : TokenThen (numeral w) s r → ⊥
    by_token n = by_head (number_head w n.is_token.1)
      where
        by_head : (c : ℕ) × (cs : List ℕ) × (w ≡ c ∷ cs) × (begins_number c ≡ true) → ⊥
        by_head (c, cs, g, l) = elim (quoted_head v s b c (cs ++ r) (subst (λ x. TokenThen x s b) f k)
            (n.spelled ∙ ap (λ x. x ++ r) (n.is_token.0 ∙ g))) [
              | inl i ↦ absurd (let o : false ≡ true = subst (λ x. begins_number x ≡ true) i l in cc)
              | inr i ↦ absurd (let o : false ≡ true = subst (λ x. begins_number x ≡ true) i l in cc)
            ]

-- numbers at one place: one, or the bytes of the longer go on behind the shorter
pub data TwoPrefixes (v w r b : List ℕ) : Type 0 where
  same_prefix : v ≡ w → r ≡ b → TwoPrefixes v w r b
  first_shorter : (c : ℕ) (m : List ℕ) → w ≡ v ++ c ∷ m → r ≡ c ∷ (m ++ b) → TwoPrefixes v w r b
  second_shorter : (c : ℕ) (m : List ℕ) → v ≡ w ++ c ∷ m → b ≡ c ∷ (m ++ r) → TwoPrefixes v w r b

prefix_more : (c : ℕ) (v w r b : List ℕ) → TwoPrefixes v w r b → TwoPrefixes (c ∷ v) (c ∷ w) r b
prefix_more c v w r b (same_prefix e f) = same_prefix (ap (λ x. c ∷ x) e) f
prefix_more c v w r b (first_shorter d m e f) = first_shorter d m (ap (λ x. c ∷ x) e) f
prefix_more c v w r b (second_shorter d m e f) = second_shorter d m (ap (λ x. c ∷ x) e) f

two_prefixes : (v w r b : List ℕ) → v ++ r ≡ w ++ b → TwoPrefixes v w r b
two_prefixes [] [] r b e = same_prefix refl e
two_prefixes [] (c ∷ w) r b e = first_shorter c w refl e
two_prefixes (c ∷ v) [] r b e = second_shorter c v refl (sym e)
two_prefixes (c ∷ v) (d ∷ w) r b e =
    subst (λ x. TwoPrefixes (c ∷ v) (x ∷ w) r b) (heads c d (v ++ r) (w ++ b) e) (prefix_more c v w r b (two_prefixes v w r b (tails c d
    (v ++ r) (w ++ b) e)))

pub byte_within : (p : ℕ → Bool) (xs ys : List ℕ) (c : ℕ) → list_all p (xs ++ c ∷ ys) ≡ true → p c ≡ true
byte_within p xs ys c h =
    (both (p c) (list_all p ys) (both (list_all p xs) (list_all p (c ∷ ys)) (sym (list_all-append p xs (c ∷ ys)) ∙ h)).1).0

numeral_pair : (p q n : Place) (x y v w : List ℕ) (t u : Token) (s r b : List ℕ) → Moves p (value x) q → Moves p (value y) n → t ≡ numeral v
    → u ≡ numeral w
    → TokenThen t s r
    → TokenThen u s b
    → TwoTokens t u q n r b
numeral_pair p q n x y v w t u s r b m o e f h k = by_tokens (subst (λ z. TokenThen z s r) e h) (subst (λ z. TokenThen z s b) f k)
  where
    by_prefixes : IsNumber v → IsNumber w → TwoPrefixes v w r b → TwoTokens t u q n r b
    by_prefixes iv iw (same_prefix g i) = one_token (e ∙ ap numeral g ∙ sym f) i
    by_prefixes iv iw (first_shorter c l g i) = first_dead
        (number_dead m r c (l ++ b) i (byte_within is_number_byte v l c (subst (λ z. list_all is_number_byte z ≡ true) g (number_bytes w
        iw))))
        (let size = ap length i in let sum = length-append l b in omega arith)
    by_prefixes iv iw (second_shorter c l g i) = second_dead
        (number_dead o b c (l ++ r) i (byte_within is_number_byte w l c (subst (λ z. list_all is_number_byte z ≡ true) g (number_bytes v
        iv))))
        (let size = ap length i in let sum = length-append l r in omega arith)

    by_tokens : TokenThen (numeral v) s r → TokenThen (numeral w) s b → TwoTokens t u q n r b
    by_tokens a c = by_prefixes a.is_token.1 c.is_token.1
        (two_prefixes v w r b (ap (λ z. z ++ r) (sym a.is_token.0) ∙ sym a.spelled ∙ c.spelled ∙ ap (λ z. z ++ b) c.is_token.0))

pub no_step_path : a_step ≡ a_path → ⊥
no_step_path e = cc

pub no_fold_path : a_sign_or_fold ≡ a_path → ⊥
no_fold_path e = cc

value_pair : (p q n : Place) (x y : List ℕ) (t u : Token) (s r b : List ℕ) → Moves p (value x) q → Moves p (value y) n → ReadAs (value x) t
    → ReadAs (value y) u
    → TokenThen t s r
    → TokenThen u s b
    → TwoTokens t u q n r b
value_pair p q n x y t u s r b m o (inl e) (inl f) h k = quoted_pair t u q n s r b x y e f h k
value_pair p q n x y t u s r b m o (inl e) (inr (inl f)) h k = absurd (numeral_no_quoted u t s b r y x f e k h)
value_pair p q n x y t u s r b m o (inl e) (inr (inr (is, f))) h k = absurd (word_no_quoted u t s b r y x f e k h)
value_pair p q n x y t u s r b m o (inr (inl e)) (inl f) h k = absurd (numeral_no_quoted t u s r b x y e f h k)
value_pair p q n x y t u s r b m o (inr (inl e)) (inr (inl f)) h k = numeral_pair p q n x y x y t u s r b m o e f h k
value_pair p q n x y t u s r b m o (inr (inl e)) (inr (inr (is, f))) h k = absurd (word_no_numeral u t s b r y x f e k h)
value_pair p q n x y t u s r b m o (inr (inr (is, e))) (inl f) h k = absurd (word_no_quoted t u s r b x y e f h k)
value_pair p q n x y t u s r b m o (inr (inr (is, e))) (inr (inl f)) h k = absurd (word_no_numeral t u s r b x y e f h k)
value_pair p q n x y t u s r b m o (inr (inr (is, e))) (inr (inr (is', f))) h k = word_pair t u q n s r b x y e f h k

key_pair : (q n : Place) (x y : List ℕ) (t u : Token) (s r b : List ℕ) → ReadAs (key x) t → ReadAs (key y) u → TokenThen t s r
    → TokenThen u s b
    → TwoTokens t u q n r b
key_pair q n x y t u s r b (inl (is, e)) (inl (is', f)) h k = word_pair t u q n s r b x y e f h k
key_pair q n x y t u s r b (inl (is, e)) (inr f) h k = absurd (word_no_quoted t u s r b x y e f h k)
key_pair q n x y t u s r b (inr e) (inl (is, f)) h k = absurd (word_no_quoted u t s b r y x f e k h)
key_pair q n x y t u s r b (inr e) (inr f) h k = quoted_pair t u q n s r b x y e f h k

pub id_signs : (p q n : Place) (a : Sign) (t u : Token) (s r b : List ℕ) → Moves p (sign a) q → Moves p id_word n → ReadAs (sign a) t
    → ReadAs id_word u
    → TokenThen t s r
    → TokenThen u s b
    → IsDead n b × (length r < length b)
id_signs p q n a t u s r b m o e f h k = id_pair o m s r b (sign_spelled a s r (sign_then a t s r e h)) (then_word u (codes "id") s b f
    k).spelled

by_fits : {w : Want} {x y : Piece} → Fits w x → Fits w y → (p q n : Place) (t u : Token) (s r b : List ℕ) → wanted p ≡ w → Moves p x q
    → Moves p y n
    → ReadAs x t
    → ReadAs y u
    → TokenThen t s r
    → TokenThen u s b
    → TwoTokens t u q n r b
by_fits (step_sign {s = a}) (step_sign {s = c}) p q n t u s r b at m o e f h k = sign_pair p q n a c t u s r b m o e f h k
by_fits (step_sign {s = a}) (step_kind {k = j}) p q n t u s r b at m o e f h k =
    absurd (sign_no_word p q a t u s r b (type_word j) m (λ g. no_step_path (sym at ∙ g)) e f h k)
by_fits (step_kind {k = j}) (step_sign {s = c}) p q n t u s r b at m o e f h k =
    absurd (sign_no_word p n c u t s b r (type_word j) o (λ g. no_step_path (sym at ∙ g)) f e k h)
by_fits (step_kind {k = i}) (step_kind {k = j}) p q n t u s r b at m o e f h k = word_pair t u q n s r b (type_word i) (type_word j) e f h k
by_fits (path_sign {s = a}) (path_sign {s = c}) p q n t u s r b at m o e f h k = sign_pair p q n a c t u s r b m o e f h k
by_fits (path_sign {s = a}) path_id p q n t u s r b at m o e f h k =
    let d = id_signs p q n a t u s r b m o e f h k in second_dead d.0 d.1
by_fits path_id (path_sign {s = c}) p q n t u s r b at m o e f h k =
    let d = id_signs p n q c u t s b r o m f e k h in first_dead d.0 d.1
by_fits path_id path_id p q n t u s r b at m o e f h k = word_pair t u q n s r b (codes "id") (codes "id") e f h k
by_fits (a_trait_id {u = x}) (a_trait_id {u = y}) p q n t u s r b at m o (v, e, means) (w, f, means') h k = word_pair t u q n s r b v w e
    f h k
by_fits (key_text {k = x}) (key_text {k = y}) p q n t u s r b at m o e f h k = key_pair q n x y t u s r b e f h k
by_fits (only_sign {s = a}) (only_sign {s = c}) p q n t u s r b at m o e f h k = sign_pair p q n a c t u s r b m o e f h k
by_fits (value_text {v = x}) (value_text {v = y}) p q n t u s r b at m o e f h k = value_pair p q n x y t u s r b m o e f h k
by_fits (fold_sign {s = a}) (fold_sign {s = c}) p q n t u s r b at m o e f h k = sign_pair p q n a c t u s r b m o e f h k
by_fits (fold_sign {s = a}) the_fold p q n t u s r b at m o e f h k =
    absurd (sign_no_word p q a t u s r b (codes "i") m (λ g. no_fold_path (sym at ∙ g)) e f h k)
by_fits the_fold (fold_sign {s = c}) p q n t u s r b at m o e f h k =
    absurd (sign_no_word p n c u t s b r (codes "i") o (λ g. no_fold_path (sym at ∙ g)) f e k h)
by_fits the_fold the_fold p q n t u s r b at m o e f h k = word_pair t u q n s r b (codes "i") (codes "i") e f h k
by_fits (a_relation {r = i}) (a_relation {r = j}) p q n t u s r b at m o e f h k =
    word_pair t u q n s r b (relation_name i) (relation_name j) e f h k
by_fits (end_sign {s = a}) (end_sign {s = c}) p q n t u s r b at m o e f h k = sign_pair p q n a c t u s r b m o e f h k

pub two_tokens : (p q n : Place) (t u : Token) (s r b : List ℕ) → Leads p t q → Leads p u n → TokenThen t s r → TokenThen u s b
    → TwoTokens t u q n r b
two_tokens p q n t u s r b l k h j =
    by_fits (fits l.moves) (fits k.moves) p q n t u s r b refl l.moves k.moves l.read k.read h j
