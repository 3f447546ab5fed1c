-- The texts of documentation comments, one piece of whitespace after another.
use Rattle.std.proofs.Common.{◌≡◌, ℕ, suc, ◌+◌, Bool, true, false, cond, List, [], ◌∷◌, length, take, drop, refl, sym, ap, subst, ◌∙◌}
use Rattle.std.proofs.Common.{arith, eqb}
use Rattle.std.specs.Prelude.{Option, Some, None}
use Rattle.std.specs.Option.{option_to_list}
use Rattle.std.specs.List.{position_or_len, before_first}
use Rattle.std.proofs.lemmas.List.{drop-drop}
use Rattle.std.proofs.lemmas.List.Folds.{length-prefix_len}
use Rattle.sm_lex.specs.declared.space.SpacePart.{SpacePart}
use Rattle.sm_lex.specs.declared.space.SpacePart.TheVariants.{White, Comment}
use Rattle.sm_lex.specs.Space.{Piece, white, comment, SpacePieces, is_line_feed, without_space, doc_texts, docs_joined}
use Rattle.sm_lex.specs.Laws.{OneDocumentation}
use Rattle.sm_lex.specs.steps.LexSteps.{PartOfSpace, part_len, doc_of}
use Rattle.sm_lex.proofs.OneSpace.{one_space}

-- behind the documentation d come pieces up to r, which make it `all`
abbrev pub Docs : Option (List ℕ) → List ℕ → List ℕ → Option (List ℕ) → Type 0
Docs d s r all = (ps : List Piece) × SpacePieces ps s r × (all ≡ docs_joined d (doc_texts ps))

pub docs_end : (d : Option (List ℕ)) (s : List ℕ) → Docs d s s d
docs_end d s = ([], refl, refl)

joined_one : (d : Option (List ℕ)) (t : List ℕ) (ts : List (List ℕ)) → docs_joined d (t ∷ ts) ≡ docs_joined (docs_joined d (t ∷ [])) ts
joined_one None t ts = refl
joined_one (Some d) t ts = refl

-- the text of a comment
comment_doc : (d : Option (List ℕ)) (t : List ℕ) (ps : List Piece)
    → docs_joined (docs_joined d (option_to_list (doc_of (47 ∷ (47 ∷ t))))) (doc_texts ps) ≡ docs_joined d (doc_texts (comment t ∷ ps))
comment_doc d [] ps = refl
comment_doc d (c ∷ t) ps = by_byte (eqb c 47)
  where
    by_byte : (b : Bool)
        → docs_joined (docs_joined d (option_to_list (cond b (Some (without_space t)) None))) (doc_texts ps) ≡ docs_joined d
        (cond b (without_space t ∷ doc_texts ps) (doc_texts ps))
    by_byte true = sym (joined_one d (without_space t) (doc_texts ps))
    by_byte false = refl

pub docs_part : (d all : Option (List ℕ)) (s r piece behind : List ℕ) (part : SpacePart) → PartOfSpace s (Some part)
    → piece ≡ take (part_len part) s → behind ≡ drop (part_len part) s
    → Docs (docs_joined d (option_to_list (doc_of piece))) behind r all → Docs d s r all
docs_part d all s r piece behind White (c, s1, e, w) piece_is behind_is (ps, h, all_is) =
    let one : piece ≡ c ∷ [] = piece_is ∙ ap (take 1) e in (
      white c ∷ ps,
      (s1, e, w, subst (λ t. SpacePieces ps t r) (behind_is ∙ ap (drop 1) e) h),
      all_is
          ∙ ap (λ p. docs_joined (docs_joined d (option_to_list (doc_of p))) (doc_texts ps)) one,
    )
docs_part d all s r piece behind (Comment n) (s1, e, n_is) piece_is behind_is (ps, h, all_is) =
    let t = before_first is_line_feed s1 in
    let k = position_or_len is_line_feed s1 in
    let len : length t ≡ k = length-prefix_len _ s1 in
    let moved : behind ≡ drop (length t) s1 = behind_is ∙ ap (λ j. drop j s) n_is ∙ sym (drop-drop k 2 s)
    ∙ ap (λ u. drop k (drop 2 u)) e ∙ ap (λ j. drop j s1) (sym len) in
    let two : 2 + k ≡ suc (suc k) = omega arith in
    let text : piece ≡ 47 ∷ (47 ∷ t) = piece_is ∙ ap (λ j. take j s) (n_is ∙ two) ∙ ap (take (suc (suc k))) e in (
      comment t ∷ ps,
      (s1, e, refl, subst (λ u. SpacePieces ps u r) moved h),
      all_is
          ∙ ap (λ p. docs_joined (docs_joined d (option_to_list (doc_of p))) (doc_texts ps)) text ∙ comment_doc d t ps,
    )

-- the pieces of whitespace before a token are determined, and so is what they say
pub one_documentation : OneDocumentation
one_documentation text a b (ps, r, h, ends, a_is) (qs, t, k, stops, b_is) =
    let same : ps ≡ qs = (one_space ps qs text r t h k ends stops).0 in
    a_is ∙ ap (λ all. docs_joined None (doc_texts all)) same ∙ sym b_is
