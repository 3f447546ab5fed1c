-- What an automaton tells of a text, as whether the pattern finds the text.
use Rattle.std.proofs.Common.{◌≡◌, ◌∙◌, ℕ, ◌+◌, ◌<◌, ◌≤◌, Bool, true, false, List, length, All, Option, Some, None, IsSome, is_some}
use Rattle.std.proofs.Common.{option_map, IsUtf8, IsCharBoundary, refl, sym, ap, subst, inl, inr, ⊎_elim, arith}
use Rattle.std.proofs.lemmas.Bool.{cases_Bool, cases_lt}
use Rattle.std.proofs.lemmas.Str.{IsCharBoundary-start}
use Rattle.regex_hir.specs.Re.{Re, Trace, accept, attempt}
use Rattle.regex_hir.specs.Find.{Match, find}
use Rattle.regex_hir.specs.Text.{is_boundary}
use Rattle.regex_hir.proofs.OptionLemmas.{option_cases}
use Rattle.regex_dfa.specs.Search.{end_from, entry, IsEnd}
use Rattle.regex_dfa.specs.declared.forward.End.{End}
use Rattle.regex_meta.specs.Programs.{pattern_of}
use Rattle.regex_meta.specs.declared.program.Program.{Program}
use Rattle.regex_meta.proofs.LeftmostLemmas.{Matches-of_attempt}
use Rattle.regex_meta.proofs.ProgramLemmas.{run-attempt, unanchored_end, none_of_option_map, value_of_option_map, no_shorter_lem}
use Rattle.regex.specs.Patterns.{find_str, span}
use Rattle.regex.specs.Utf8.{MatchesText}
use Rattle.regex.proofs.ForCallers.{find_str_complete}
use Rattle.regex.proofs.SearchLemmas.{leftmost_none, leftmost_here, leftmost_retry, leftmost_attempt, inside_char}
use Rattle.regex.proofs.Utf8Lemmas.{IsCharBoundary-of_test, test_of_IsCharBoundary, find_str_of_filled}

some_of_map : {A B : Type 0} (f : A → B) (o : Option A) → IsSome (option_map f o) → IsSome o
some_of_map f None is = is
some_of_map f (Some x) is = is

-- what an automaton says of a search from a text's start
abbrev pub Ended : Program → List ℕ → Bool → End → Type 0
Ended p text anchored end =
    IsEnd p.dfa.nfa text 0 (length text) anchored true (end_from p.dfa.nfa text (length text) (entry p.dfa.nfa anchored) 0) end

module _ (p : Program) (text : List ℕ) where
  -- a match begins where the text does
  pub found_at_start : IsUtf8 text → IsSome (end_from p.dfa.nfa text (length text) p.dfa.nfa.start 0)
      → is_some (find_str (pattern_of p) text 0) ≡ true
  found_at_start utf8 some = ⊎_elim
      (λ none. absurd (cc (ap (λ o. is_some (option_map (λ (t : Trace). t.end) o)) (run-attempt p text 0 ∙ none))))
      (λ found. find_str_complete (pattern_of p) text 0 0 found.0.end (omega arith) (IsCharBoundary-start text utf8)
      (Matches-of_attempt (pattern_of p) text 0 found.0 found.1))
      (option_cases (attempt text (pattern_of p) accept 0))

  -- no match is anywhere
  pub found_nowhere : All (λ b. b < 256) text → end_from p.dfa.nfa text (length text) p.dfa.nfa.unanchored 0 ≡ None
      → is_some (find_str (pattern_of p) text 0) ≡ false
  found_nowhere bytes none =
      ap is_some (leftmost_none (pattern_of p) text true 0
      (none_of_option_map (λ (m : Match). m.trace.end) _ (sym (unanchored_end p text bytes 0 (omega arith)) ∙ none)))

  -- where no match is empty, each begins with a whole character
  pub found_filled : All (λ b. b < 256) text → MatchesText (pattern_of p) → 0 < p.min_len
      → IsSome (end_from p.dfa.nfa text (length text) p.dfa.nfa.unanchored 0) → is_some (find_str (pattern_of p) text 0) ≡ true
  found_filled bytes whole filled some =
      subst IsSome (find_str_of_filled (pattern_of p) text bytes whole longer 0)
      (some_of_map (λ (m : Match). m.trace.end) _ (subst IsSome (unanchored_end p text bytes 0 (omega arith)) some))
    where
      longer : (i : ℕ) (t : Trace) → attempt text (pattern_of p) accept i ≡ Some t → i < t.end
      longer i t e = elim (cases_lt i t.end) [
        | inl lt ↦ lt
        | inr ge ↦ absurd (no_shorter_lem p text i t e (omega (arith, ge, filled)))
      ]

-- a search goes on behind each match that begins within a character
module _ (re : Re) (text : List ℕ) (at : ℕ) (same : find_str re text 0 ≡ find_str re text at) where
  pub nowhere_from : (r : Option (ℕ × ℕ)) → r ≡ option_map span (find re text at) → r ≡ None → false ≡ is_some (find_str re text 0)
  nowhere_from r is none = sym (ap is_some (same ∙ leftmost_none re text true at (none_of_option_map span _ (sym is ∙ none))))

  module _ (from end : ℕ) (is : Some (from, end) ≡ option_map span (find re text at)) where
    pub found_from : IsCharBoundary text from → true ≡ is_some (find_str re text 0)
    found_from cut =
        let m = value_of_option_map span (find re text at) (from, end) (sym is) in
        let starts : m.0.start ≡ from = ap (λ s. s.0) m.2 in
        sym (ap is_some (same ∙ leftmost_here re text true at m.0 m.1
        (λ _. subst (λ i. is_boundary text i ≡ true) (sym starts) (test_of_IsCharBoundary text from cut))))

    pub passed_over : (IsCharBoundary text from → ⊥)
        → (at ≤ from) × (from < length text) × (find_str re text 0 ≡ find_str re text (from + 1))
    passed_over uncut =
        let m = value_of_option_map span (find re text at) (from, end) (sym is) in
        let starts : m.0.start ≡ from = ap (λ s. s.0) m.2 in
        let found = leftmost_attempt re text false at m.0 m.1 in
        let inside : is_boundary text m.0.start ≡ false = elim (cases_Bool (is_boundary text m.0.start)) [
          | inl t ↦ absurd (uncut (subst (λ i. IsCharBoundary text i) starts (IsCharBoundary-of_test text m.0.start found.1 t)))
          | inr f ↦ f
        ] in (
          subst (λ i. at ≤ i) starts found.0,
          subst (λ i. i < length text) starts (inside_char re text m.0.start inside),
          same ∙ leftmost_retry re text true at m.0 refl m.1 inside ∙ ap (λ i. find_str re text (i + 1)) starts,
        )
