-- What spells a string does so whatever stands behind it: with other bytes there it spells the same string, and those follow.
use Rattle.std.proofs.Common.{◌≡◌, ℕ, ◌+◌, ◌*◌, zero, suc, inl, inr, List, [], ◌∷◌, ◌++◌, refl, sym, ap, ◌∙◌, subst}
use Rattle.std.proofs.Common.{append_assoc}
use Rattle.std.specs.Char.{encode_utf8}
use Rattle.std.specs.Prelude.{encode_utf8_all}
use Rattle.sm_json.specs.Strings.{HexDigits, CodeUnit, LowHalf, Escape, Character, Characters}
use Rattle.sm_json.specs.steps.TextRest.{TextRest}
use Rattle.sm_json.specs.declared.spot.Spot.TheVariants.{Plain}
use Rattle.sm_json.proofs.OneString.{one_run}

-- s is these bytes and then r, and the relation holds of them before whatever follows
abbrev pub IsCut : (List ℕ → List ℕ → Type 0) → List ℕ → List ℕ → Type 0
IsCut R s r = (w : List ℕ) × (s ≡ w ++ r) × ((q : List ℕ) → R (w ++ q) q)

-- one part behind another
both_cut : (R Q P : List ℕ → List ℕ → Type 0) → ((s t r : List ℕ) → R s t → Q t r → P s r) → (s t r : List ℕ) → IsCut R s t → IsCut Q t r
    → IsCut P s r
both_cut R Q P join s t r (v, is, first) (w, same, then) = (
  v ++ w,
  is ∙ ap (λ x. v ++ x) same ∙ sym (append_assoc v w r),
  λ q. subst (λ x. P x q) (sym (append_assoc v w q)) (join (v ++ (w ++ q)) (w ++ q) q (first (w ++ q)) (then q)),
)

digits_cut : (k n v : ℕ) (s r : List ℕ) → HexDigits k n v s r → IsCut (HexDigits k n v) s r
digits_cut zero n v s r h = ([], h.1, λ q. (h.0, refl))
digits_cut (suc k) n v [] r h = absurd h
digits_cut (suc k) n v (c ∷ s) r (d, value, h) =
    let (w, is, cut) = digits_cut k (n * 16 + d) v s r h in (c ∷ w, ap (λ x. c ∷ x) is, λ q. (d, value, cut q))

unit_cut : (v : ℕ) (s r : List ℕ) → CodeUnit v s r → IsCut (CodeUnit v) s r
unit_cut v s r (s1, e, h) =
    let (w, is, cut) = digits_cut 4 0 v s1 r h in (117 ∷ w, e ∙ ap (λ x. 117 ∷ x) is, λ q. (w ++ q, refl, cut q))

low_cut : (high c : ℕ) (s r : List ℕ) → LowHalf high c s r → IsCut (LowHalf high c) s r
low_cut high c s r (low, s1, e, h, is_low, is) =
    let (w, same, cut) = unit_cut low s1 r h in (92 ∷ w, e ∙ ap (λ x. 92 ∷ x) same, λ q. (low, w ++ q, refl, cut q, is_low, is))

escape_cut : (c : ℕ) (s r : List ℕ) → Escape c s r → IsCut (Escape c) s r
escape_cut c s r (inl (x, e, f)) = (x ∷ [], e, λ q. inl (x, refl, f))
escape_cut c s r (inr (inl h)) = let (w, is, cut) = unit_cut c s r h in (w, is, λ q. inr (inl (cut q)))
escape_cut c s r (inr (inr (high, s1, h, is, low))) =
    both_cut (CodeUnit high) (LowHalf high c) (Escape c) (λ x y z u l. inr (inr (high, y, u, is, l))) s s1 r (unit_cut high s s1 h)
    (low_cut high c s1 r low)

character_cut : (c : ℕ) (s r : List ℕ) → Character c s r → IsCut (Character c) s r
character_cut c s r (scalar, inl (plain, e)) = (encode_utf8 c, e, λ q. (scalar, inl (plain, refl)))
character_cut c s r (scalar, inr (s1, e, h)) =
    let (w, is, cut) = escape_cut c s1 r h in (92 ∷ w, e ∙ ap (λ x. 92 ∷ x) is, λ q. (scalar, inr (w ++ q, refl, cut q)))

characters_cut : (cs s r : List ℕ) → Characters cs s r → IsCut (Characters cs) s r
characters_cut [] s r e = (34 ∷ [], e, λ q. refl)
characters_cut (c ∷ cs) s r (s1, h, hs) =
    both_cut (Character c) (Characters cs) (Characters (c ∷ cs)) (λ x y z u l. (y, u, l)) s s1 r (character_cut c s s1 h)
    (characters_cut cs s1 r hs)

-- the rest of a string from its quotation mark on
pub text_cut : (t s r : List ℕ) → TextRest Plain [] s t r → IsCut (λ x y. TextRest Plain [] x t y) s r
text_cut t s r (cs, is, h) = let (w, same, cut) = characters_cut cs s r h in (w, same, λ q. (cs, is, cut q))

-- there is one
pub one_rest : (t u s r q : List ℕ) → TextRest Plain [] s t r → TextRest Plain [] s u q → (u ≡ t) × (q ≡ r)
one_rest t u s r q (cs, is, h) (ds, same, k) =
    let (one, rest) = one_run cs ds s r q h k in (same ∙ ap (λ x. encode_utf8_all x) (sym one) ∙ sym is, sym rest)
