-- What `read_idl` answers for a text: its statements; or why it has none, where a reason about tokens goes before one about
-- the grammar, and this one before the version.
use Rattle.std.specs.Prelude.{◌≡◌, ◌⊎◌, ℕ, List, [], ◌∷◌, ◌++◌, length, Result, Ok, Err, Vec}
use Rattle.std.specs.declared.alloc.Global.{Global}
use Rattle.sm_lex.specs.Tokens.{Lexeme, TokensSpell, LexRefused}
use Rattle.sm_model.specs.SaidView.{statements_view}
use Rattle.sm_model.specs.declared.statement.Statement.{Statement}
use Rattle.sm_idl.specs.Productions.{Spaced, Tokens, spaced}
use Rattle.sm_idl.specs.Idl.{FileSaid, FileSpelled, Begun, Idl, HaveVersion}
use Rattle.sm_idl.specs.declared.refusal.IdlRefusal.{IdlRefusal}
use Rattle.sm_idl.specs.declared.refusal.IdlRefusal.TheVariants.{Lex, Syntax, Version, NoMemory}

-- the first token through which the tokens aren't begun stands at this place
pub record StopsAt (ts : Tokens) (at : ℕ) : Type 0 where
  pub before : Tokens
  pub token : Spaced
  pub behind : Tokens
  pub cut : ts ≡ before ++ token ∷ behind
  pub begun : Begun before
  pub stops : Begun (before ++ token ∷ []) → ⊥
  pub place : at ≡ token.token.start

-- these tokens of a text are no file's, and this is the place where they stop; the length where all of them are begun
pub record IsStopped (bytes : List ℕ) (ts : Tokens) (at : ℕ) : Type 0 where
  pub none : (f : FileSaid) → FileSpelled f ts → ⊥
  pub place : StopsAt ts at ⊎ (Begun ts × (at ≡ length bytes))

-- the text says no statements, for this reason
abbrev pub IdlRefused : IdlRefusal → List ℕ → Type 0
IdlRefused (Lex refusal) bytes = LexRefused refusal bytes
IdlRefused (Syntax at) bytes = (xs : List Lexeme) × TokensSpell xs bytes × IsStopped bytes (spaced bytes xs) at
IdlRefused Version bytes = (f : FileSaid) × (HaveVersion f.controls → ⊥) × Idl f bytes
IdlRefused NoMemory bytes = ⊥

abbrev pub ReadsIdl : List ℕ → Result (Vec Statement Global) IdlRefusal → Type 0
ReadsIdl bytes (Ok statements) = (f : FileSaid) × (f.said ≡ statements_view statements.items) × HaveVersion f.controls × Idl f bytes
ReadsIdl bytes (Err (Lex refusal)) = IdlRefused (Lex refusal) bytes
ReadsIdl bytes (Err (Syntax at)) = IdlRefused (Syntax at) bytes
ReadsIdl bytes (Err Version) = IdlRefused Version bytes
ReadsIdl bytes (Err NoMemory) = Unit {0}
