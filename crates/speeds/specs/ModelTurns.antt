-- What is told of a text that is read many times over.
use Rattle.std.specs.Prelude.{◌≡◌, ℕ, List, length, Result, Ok, Err}
use Rattle.sm_idl.specs.Answers.{IdlRefused}
use Rattle.sm_idl.specs.Idl.{FileSaid, Idl}
use Rattle.sm_idl.specs.declared.refusal.IdlRefusal.{IdlRefusal}
use Rattle.sm_idl.specs.declared.refusal.IdlRefusal.TheVariants.{NoMemory, Lex, Syntax, Version}

-- the text says so many statements
abbrev pub CountsStatements : List ℕ → Result ℕ IdlRefusal → Type 0
CountsStatements text (Ok n) = (f : FileSaid) × Idl f text × (length f.said ≡ n)
CountsStatements text (Err NoMemory) = Unit {0}
CountsStatements text (Err (Lex refusal)) = IdlRefused (Lex refusal) text
CountsStatements text (Err (Syntax at)) = IdlRefused (Syntax at) text
CountsStatements text (Err Version) = IdlRefused Version text
