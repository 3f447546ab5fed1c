-- A text says one list of statements or is refused for one reason, and it can't be that there is neither.
use Rattle.std.proofs.Common.{◌≡◌, inl, inr, ℕ, List, [], ◌∷◌, ◌++◌, length, refl, sym, ap, subst, ◌∙◌, append-nil, append_assoc}
use Rattle.std.proofs.Common.{Some, Err}
use Rattle.sm_lex.specs.Tokens.{Lexeme, TokensSpell}
use Rattle.sm_lex.proofs.OneReading.{one_reading as one_lexing, one_refusal as one_lex_refusal, spelled_or_refused}
use Rattle.sm_idl.specs.Productions.{Tokens, spaced}
use Rattle.sm_idl.specs.Idl.{FileSaid, FileSpelled, Begun, Idl, HaveVersion}
use Rattle.sm_idl.specs.Answers.{StopsAt, IsStopped, IdlRefused, ReadsIdl}
use Rattle.sm_idl.specs.Laws.{OneRefusal, SaidOrRefused, SomeAnswer}
use Rattle.sm_idl.specs.declared.refusal.IdlRefusal.{IdlRefusal}
use Rattle.sm_idl.specs.declared.refusal.IdlRefusal.TheVariants.{Lex, Syntax, Version, NoMemory}
use Rattle.sm_idl.proofs.OneFile.{one_reading}
use Rattle.sm_idl.proofs.OnePlace.{one_place}
use Rattle.sm_idl.proofs.FirmFiles.{file_firm}
use Rattle.sm_idl.specs.Nodes.{Home}
use Rattle.sm_idl.proofs.SomeLexing.{some_lexing}

-- tokens that are a file's don't stop
not_stopped : (bytes : List ℕ) (f : FileSaid) (xs : List Lexeme) (at : ℕ) → TokensSpell xs bytes → IsStopped bytes (spaced bytes xs) at
    → Idl f bytes → ⊥
not_stopped bytes f xs at spelled stopped (ys, again, h) =
    stopped.none f (subst (λ zs. FileSpelled f (spaced bytes zs)) (one_lexing bytes ys xs again spelled) h)

pub one_refusal : OneRefusal
one_refusal bytes (Lex e) (Lex f) h k = ap Lex (one_lex_refusal bytes e f h k)
one_refusal bytes (Lex e) (Syntax at) h k = absurd (spelled_or_refused bytes k.0 e k.1 h)
one_refusal bytes (Lex e) Version h k = absurd (spelled_or_refused bytes k.2.0 e k.2.1 h)
one_refusal bytes (Lex e) NoMemory h k = absurd k
one_refusal bytes (Syntax at) (Lex f) h k = absurd (spelled_or_refused bytes h.0 f h.1 k)
one_refusal bytes (Syntax a) (Syntax b) (xs, spelled, h) (ys, again, k) =
    ap Syntax (one_place bytes (spaced bytes xs) a b h
    (subst (λ zs. IsStopped bytes (spaced bytes zs) b) (one_lexing bytes ys xs again spelled) k))
one_refusal bytes (Syntax at) Version h k = absurd (not_stopped bytes k.0 h.0 at h.1 h.2 k.2)
one_refusal bytes (Syntax at) NoMemory h k = absurd k
one_refusal bytes Version (Lex f) h k = absurd (spelled_or_refused bytes h.2.0 f h.2.1 k)
one_refusal bytes Version (Syntax at) h k = absurd (not_stopped bytes h.0 k.0 at k.1 k.2 h.2)
one_refusal bytes Version Version h k = refl
one_refusal bytes Version NoMemory h k = absurd k
one_refusal bytes NoMemory r h k = absurd h

pub said_or_refused : SaidOrRefused
said_or_refused bytes f (Lex e) h version k = spelled_or_refused bytes h.0 e h.1 k
said_or_refused bytes f (Syntax at) h version k = not_stopped bytes f k.0 at k.1 k.2 h
said_or_refused bytes f Version h version k = k.1 (subst (λ g. HaveVersion g.controls) (one_reading bytes f k.0 h k.2) version)
said_or_refused bytes f NoMemory h version k = k

-- what is read of a text that is refused
pub refused_by : (bytes : List ℕ) (r : IdlRefusal) → ReadsIdl bytes (Err r) → (r ≡ NoMemory → ⊥) → IdlRefused r bytes
refused_by bytes (Lex e) h other = h
refused_by bytes (Syntax at) h other = h
refused_by bytes Version h other = h
refused_by bytes NoMemory h other = absurd (other refl)

-- tokens that aren't begun stop somewhere
stops_somewhere : (ts before rest : Tokens) → ts ≡ before ++ rest → Begun before → ((at : ℕ) → StopsAt ts at → ⊥) → (Begun ts → ⊥) → ⊥
stops_somewhere ts before [] e b none whole = whole (subst Begun (sym (e ∙ append-nil before)) b)
stops_somewhere ts before (t ∷ rest) e b none whole =
    none t.token.start (record {
      before = before;
      token = t;
      behind = rest;
      cut = e;
      begun = b;
      stops = λ more. stops_somewhere ts (before ++ t ∷ []) rest (e ∙ sym (append_assoc before (t ∷ []) rest)) more none whole;
      place = refl;
    })

empty_begun : Begun []
empty_begun = let home : Home = record { namespace = []; uses = [] } in (home, (file_firm (Some home)).empty)

some_stop : (bytes : List ℕ) (xs : List Lexeme) → ((f : FileSaid) → FileSpelled f (spaced bytes xs) → ⊥)
    → ((at : ℕ) → IsStopped bytes (spaced bytes xs) at → ⊥) → ⊥
some_stop bytes xs none no_stop =
    let ts = spaced bytes xs in
    stops_somewhere ts [] ts refl empty_begun (λ at stops. no_stop at (record { none = none; place = inl stops }))
    (λ begun. no_stop (length bytes) (record { none = none; place = inr (begun, refl) }))

pub some_answer : SomeAnswer
some_answer bytes u no_file no_refusal =
    some_lexing bytes u (λ xs spelled.
    some_stop bytes xs (λ f h. no_refusal Version (f, no_file f (xs, spelled, h), (xs, spelled, h)))
    (λ at stopped. no_refusal (Syntax at) (xs, spelled, stopped)))
    (λ e refused. no_refusal (Lex e) refused)
