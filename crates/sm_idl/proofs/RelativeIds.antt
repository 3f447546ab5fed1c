-- An id without its namespace, before and behind its first dollar sign.
use Rattle.std.proofs.Common.{◌≡◌, ◌<◌, ◌⊎◌, inl, inr, ℕ, suc, ◌+◌, cond, Bool, true, false, not, List, [], ◌∷◌, ◌++◌, take}
use Rattle.std.proofs.Common.{length, Some, None, refl, sym, ap, subst, ◌∙◌, append-nil, arith, ◌==◌}
use Rattle.std.proofs.Math.Seq.{take-length}
use Rattle.std.proofs.lemmas.Bool.Decides.{nat_tests}
use Rattle.std.proofs.lemmas.List.Sums.{split_at_first, passes_at_first}
use Rattle.std.specs.List.{list_all, position_or_len, before_first, after_first}
use Rattle.sm_ids.specs.Identifier.{is_identifier_byte, IsIdentifier}
use Rattle.sm_ids.proofs.Cutting.{list_all_weaker, one_cut, and_also}
use Rattle.sm_ids.proofs.Identifiers.{made_of_bytes}
use Rattle.sm_model.specs.References.{IsRelativeId}

abbrev pub no_dollar : ℕ → Bool
no_dollar c = not (c == 36)

identifier_has_none : (c : ℕ) → is_identifier_byte c ≡ true → no_dollar c ≡ true
identifier_has_none c h = grind (arith, nat_tests)

none_in : (name : List ℕ) → IsIdentifier name → list_all no_dollar name ≡ true
none_in name h = list_all_weaker is_identifier_byte no_dollar identifier_has_none name (made_of_bytes name h)

nothing_more : (c : ℕ) (cs : List ℕ) → [] ≡ c ∷ cs → ⊥
nothing_more c cs e = cc

second : (a b : ℕ) (cs ds : List ℕ) → a ∷ cs ≡ b ∷ ds → cs ≡ ds
second a b cs ds e = cc

module _ (text name member : List ℕ) (cut : text ≡ name ++ 36 ∷ member) (plain : list_all no_dollar name ≡ true) where
  pub relative_parts : IsRelativeId text → IsIdentifier name × IsIdentifier member
  relative_parts (n, None, h, k, e) =
      absurd (nothing_more 36 member (one_cut no_dollar n name [] (36 ∷ member) (none_in n h) plain tt refl (sym e ∙ cut)).1)
  relative_parts (n, Some m, h, k, e) =
      let parts = one_cut no_dollar n name (36 ∷ m) (36 ∷ member) (none_in n h) plain refl refl (sym e ∙ cut) in
      (subst IsIdentifier parts.0 h, subst IsIdentifier (second 36 36 m member parts.1) (k m refl))

  pub parts_relative : IsIdentifier name → IsIdentifier member → IsRelativeId text
  parts_relative h k = (name, Some member, h, (λ m e. subst IsIdentifier (same member m e) k), cut)
    where
      same : (a b : List ℕ) → Some a ≡ Some b → a ≡ b
      same a b e = cc

-- where none stands, the whole is the name
pub plain_relative : (text : List ℕ) → list_all no_dollar text ≡ true → IsRelativeId text → IsIdentifier text
plain_relative text plain (n, None, h, k, e) = subst IsIdentifier (sym (append-nil n) ∙ sym e) h
plain_relative text plain (n, Some m, h, k, e) =
    absurd (nothing_more 36 m (one_cut no_dollar text n [] (36 ∷ m) plain (none_in n h) tt refl (append-nil text ∙ e)).1)

pub name_relative : (text : List ℕ) → IsIdentifier text → IsRelativeId text
name_relative text h = (text, None, h, (λ m e. absurd (none_some m e)), sym (append-nil text))
  where
    none_some : (m : List ℕ) → None ≡ Some m → ⊥
    none_some m e = cc

abbrev pub is_dollar : ℕ → Bool
is_dollar c = c == 36

is_thirty_six : (c : ℕ) → (c == 36) ≡ true → c ≡ 36
is_thirty_six c h = grind (arith, nat_tests)

either_way : (b : Bool) → (b ≡ true) ⊎ (b ≡ false)
either_way true = inl refl
either_way false = inr refl

-- what `split_once` tells of the text
before_plain : (text : List ℕ) → list_all no_dollar (before_first is_dollar text) ≡ true
before_plain [] = refl
before_plain (c ∷ cs) =
    let n = position_or_len is_dollar cs in
    elim (either_way (is_dollar c)) [
      | inl here ↦ (let at : position_or_len is_dollar (c ∷ cs) ≡ 0 = ap (λ b. cond (not b) (1 + n) 0) here in
          ap (λ k. list_all no_dollar (take k (c ∷ cs))) at)
      | inr later ↦ (let next : 1 + n ≡ suc n = omega arith in
          let at : position_or_len is_dollar (c ∷ cs) ≡ suc n = ap (λ b. cond (not b) (1 + n) 0) later ∙ next in
          ap (λ k. list_all no_dollar (take k (c ∷ cs))) at
          ∙ and_also (no_dollar c) (list_all no_dollar (take n cs)) (ap not later) (before_plain cs))
    ]

pub all_plain : (text : List ℕ) → position_or_len is_dollar text ≡ length text → list_all no_dollar text ≡ true
all_plain text e = ap (list_all no_dollar) (sym (take-length text) ∙ ap (λ n. take n text) (sym e)) ∙ before_plain text

-- a text with a dollar sign, cut at the first
pub record IsCutAtDollar (text name member : List ℕ) : Type 0 where
  pub cut : text ≡ name ++ 36 ∷ member
  pub plain : list_all no_dollar name ≡ true

pub cut_at_dollar : (text name member : List ℕ) → name ≡ before_first is_dollar text → member ≡ after_first is_dollar text
    → position_or_len is_dollar text < length text → IsCutAtDollar text name member
cut_at_dollar text name member front behind inside =
    let whole : text ≡ before_first is_dollar text ++ 36 ∷ after_first is_dollar text =
    split_at_first is_dollar text 0 inside
    ∙ ap (λ b. before_first is_dollar text ++ b ∷ after_first is_dollar text) (is_thirty_six _ (passes_at_first is_dollar text 0 inside)) in
    record {
      cut = whole ∙ ap (λ t. t ++ 36 ∷ after_first is_dollar text) (sym front) ∙ ap (λ t. name ++ 36 ∷ t) (sym behind);
      plain = ap (list_all no_dollar) front ∙ before_plain text;
    }
