-- What is compiled from a text finds what the text's own reading finds, and what isn't compiled the crate refuses; and the test holds
-- exactly of the texts of which some part matches.
use Rattle.std.proofs.Common.{◌≡◌, ◌≢◌, ◌↔◌, ℕ, ◌≤◌, ◌<◌, Bool, true, false, List, length, get_or, Some, None, IsSomeAnd}
use Rattle.std.proofs.Common.{is_some, IsCharBoundary, sym, subst, arith}
use Rattle.std.specs.Prelude.{Result, Ok, Err, IfOk, IsTrue}
use Rattle.std.proofs.lemmas.Bool.{false≢true}
use Rattle.regex_hir.specs.Re.{Re}
use Rattle.regex_hir.specs.Find.{Match}
use Rattle.regex_hir.specs.Matches.{Matches}
use Rattle.regex_hir.specs.Text.{is_boundary}
use Rattle.regex_hir.specs.Meaning.{meaning}
use Rattle.regex_hir.proofs.FindLemmas.{IsFirst-of_first_between}
use Rattle.regex_hir.proofs.AttemptLemmas.{cond_some}
use Rattle.regex_hir.proofs.OptionLemmas.{value_of_IsSome}
use Rattle.regex_hir.specs.declared.hir.Hir.{Hir}
use Rattle.regex_syntax.specs.Verdict.{Reads, Refuses}
use Rattle.regex_syntax.specs.Captures.{SameCaptures}
use Rattle.regex_syntax.specs.Grammar.{Names, group_count}
use Rattle.regex.specs.Patterns.{find_str, default_config}
use Rattle.regex_syntax.specs.declared.error.Error as parser
use Rattle.regex_syntax.specs.declared.error.ErrorKind.TheVariants.{OutOfMemory}
use Rattle.regex.specs.declared.error.Error.TheVariants.{Syntax}
use Rattle.regex.proofs.ForCallers.{is_match_alike, find_str_sound, find_str_complete}
use Rattle.regex.proofs.Utf8Lemmas.{IsCharBoundary-of_test}
use Rattle.sm_shapes.specs.Regexes.{Reading, reading, IsRegex, found_in, regex_finds, FindsAsWritten, MatchesPart, IsRefusedByCrate}

-- the crate's clause on what was read, at a depth of at most `most`
abbrev IsReadAs : Reading → ℕ → Re → Names → Type 0
IsReadAs o most re names = IsSomeAnd o (λ (read, found). (read.depth ≤ most) × SameCaptures re read.value × (names ≡ found)
    × (group_count re ≤ length names))

found_alike : (o : Reading) (most : ℕ) (re : Re) (names : Names) → IsReadAs o most re names
    → (text : List ℕ) → ((k : ℕ) → get_or text k 0 < 256) → is_some (find_str re text 0) ≡ found_in o text
found_alike None most re names is text bytes = absurd is
found_alike (Some read) most re names is text bytes = is_match_alike is.1 text bytes true 0

depth_is : (o : Reading) (most : ℕ) (re : Re) (names : Names) → IsReadAs o most re names → IsSomeAnd o (λ (read, found). read.depth ≤ most)
depth_is None most re names is = absurd is
depth_is (Some read) most re names is = is.0

-- what the parser reads in a text finds what the text does
pub finds_as_written : (hir : Hir) (names : Names) (pattern : List ℕ) → Reads default_config pattern hir names
    → FindsAsWritten (meaning hir) pattern
unfolding Reads
finds_as_written hir names pattern is text bytes = found_alike _ _ _ _ is text bytes

-- and the text is a pattern
pub is_regex : (hir : Hir) (names : Names) (pattern : List ℕ) → Reads default_config pattern hir names → IsRegex pattern
unfolding Reads
is_regex hir names pattern is = depth_is _ _ _ _ is

-- what the parser refuses, the crate refuses
pub refused_by_parser : (pattern : List ℕ) (e : parser.Error) → e.kind ≢ OutOfMemory → Refuses default_config pattern e.kind
    → (e.span.start ≤ e.span.end) × IsCharBoundary pattern e.span.start × IsCharBoundary pattern e.span.end → IsRefusedByCrate pattern
refused_by_parser pattern e other refuses span = (
  Syntax e,
  (λ is. cc),
  (
    (λ d is. subst (λ x. Refuses default_config pattern x.kind) (same_error e d is) refuses),
    other,
    λ d is. subst (λ x. (x.span.start ≤ x.span.end) × IsCharBoundary pattern x.span.start × IsCharBoundary pattern x.span.end)
        (same_error e d is) span,
  ),
)
  where
    same_error : (e d : parser.Error) → Syntax e ≡ Syntax d → e ≡ d
    same_error e d is = cc

found_part : (re : Re) (text : List ℕ) (m : Match) → find_str re text 0 ≡ Some m
    → (from to : ℕ) × IsCharBoundary text from × Matches text re from to
unfolding find_str
found_part re text m is =
    let first = IsFirst-of_first_between _ 0 (length text) m is in (
      m.start,
      m.trace.end,
      IsCharBoundary-of_test text m.start first.to (cond_some (is_boundary text m.start) _ m.trace first.here).0,
      (find_str_sound re text 0 m is).1,
    )

parts_of : (o : Reading) (text : List ℕ) → (found_in o text ≡ true) ↔ MatchesPart o text
parts_of None text = (λ is. false≢true is, λ part. absurd part)
parts_of (Some read) text = (
  λ is. let v = value_of_IsSome _ is in found_part read.0.value text v.0 v.1,
  λ part. find_str_complete read.0.value text 0 part.0 part.1 (omega arith) part.2 part.3,
)

-- the test finds exactly the texts of which some part matches
pub finds_parts : (pattern text : List ℕ) → (regex_finds pattern text ≡ true) ↔ MatchesPart (reading pattern) text
finds_parts pattern text = parts_of (reading pattern) text

-- so does an answer by the test
pub part_answered : {E : Type 0} (result : Result Bool E) (pattern text : List ℕ) → IfOk result (λ found. found ≡ regex_finds pattern text)
    → IfOk result (λ found. IsTrue found ↔ MatchesPart (reading pattern) text)
part_answered (Ok found) pattern text is = subst (λ b. IsTrue b ↔ MatchesPart (reading pattern) text) (sym is) (finds_parts pattern text)
part_answered (Err refusal) pattern text is = is
