-- The laws of the crate as statements, each the contract of a function in `laws`.
use Rattle.std.specs.Prelude.{◌≡◌, ℕ, List, ◌++◌, IsUtf8}
use Rattle.sm_model.specs.Formed.{AreFormed}
use Rattle.sm_idl.specs.Productions.{Tokens}
use Rattle.sm_idl.specs.Idl.{FileSaid, FileSpelled, Begun, Idl, HaveVersion}
use Rattle.sm_idl.specs.Answers.{IsStopped, IdlRefused}
use Rattle.sm_idl.specs.declared.refusal.IdlRefusal.{IdlRefusal}

-- a text is that of one file at most, so it has one list of statements
abbrev pub OneReading : Type 0
OneReading = (bytes : List ℕ) (f g : FileSaid) → Idl f bytes → Idl g bytes → Path FileSaid f g

-- what a file's tokens begin with is begun
abbrev pub PrefixesAreBegun : Type 0
PrefixesAreBegun = (f : FileSaid) (ts us : Tokens) → FileSpelled f (ts ++ us) → Begun ts

-- what is begun is begun cut behind any of its tokens
abbrev pub BegunIsClosed : Type 0
BegunIsClosed = (ts us : Tokens) → Begun (ts ++ us) → Begun ts

-- tokens stop at one place at most
abbrev pub OnePlace : Type 0
OnePlace = (bytes : List ℕ) (ts : Tokens) (a b : ℕ) → IsStopped bytes ts a → IsStopped bytes ts b → a ≡ b

-- what a text says is formed as merging asks
abbrev pub FormedStatements : Type 0
FormedStatements = (bytes : List ℕ) (f : FileSaid) → IsUtf8 bytes → Idl f bytes → AreFormed f.said

-- a text is refused for one reason at most
abbrev pub OneRefusal : Type 0
OneRefusal = (bytes : List ℕ) (q r : IdlRefusal) → IdlRefused q bytes → IdlRefused r bytes → q ≡ r

-- a text that is a file's, of a version that is read, isn't refused
abbrev pub SaidOrRefused : Type 0
SaidOrRefused = (bytes : List ℕ) (f : FileSaid) (r : IdlRefusal) → Idl f bytes → HaveVersion f.controls → IdlRefused r bytes → ⊥

-- it can't be that a text that is UTF-8 is neither
abbrev pub SomeAnswer : Type 0
SomeAnswer = (bytes : List ℕ) → IsUtf8 bytes → ((f : FileSaid) → Idl f bytes → HaveVersion f.controls → ⊥)
    → ((r : IdlRefusal) → IdlRefused r bytes → ⊥) → ⊥
