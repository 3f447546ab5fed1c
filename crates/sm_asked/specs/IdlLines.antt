-- The lines of model files that are IDL texts and say no model, and that of any file that says none. Each ends with a line feed.
use Rattle.std.specs.Prelude.{ℕ, List, ◌++◌, codes}
use Rattle.std.specs.Fmt.{decimal}
use Rattle.sm_lex.specs.declared.token.LexRefusal.{LexRefusal}
use Rattle.sm_lex.specs.declared.token.LexRefusal.TheVariants.{Bad, UnclosedString, UnclosedBlock, BadEscape, NoMemory as lexed_short}
use Rattle.sm_idl.specs.declared.refusal.IdlRefusal.{IdlRefusal}
use Rattle.sm_idl.specs.declared.refusal.IdlRefusal.TheVariants.{Lex, Syntax, Version, NoMemory}
use Rattle.sm_load.specs.declared.model.TextPlace.{TextPlace}
use Rattle.sm_load.specs.declared.model.TextPlace.TheVariants.{Utf8, Json, Ast, Idl}
use Rattle.sm_asked.specs.Lines.{ast_line, json_line}
use Rattle.sm_lines.specs.Lines.{line}

-- why a text has no tokens: the word and the place. `NoMemory` is no refusal of a text
abbrev pub lex_text : LexRefusal → List ℕ
lex_text (Bad at) = codes "Bad " ++ decimal at
lex_text (UnclosedString at) = codes "UnclosedString " ++ decimal at
lex_text (UnclosedBlock at) = codes "UnclosedBlock " ++ decimal at
lex_text (BadEscape at) = codes "BadEscape " ++ decimal at
lex_text lexed_short = codes "NoMemory"

-- why it is no model
abbrev pub idl_text : IdlRefusal → List ℕ
idl_text (Lex refusal) = codes "Lex " ++ lex_text refusal
idl_text (Syntax at) = codes "Syntax " ++ decimal at
idl_text Version = codes "Version"
idl_text NoMemory = codes "NoMemory"

abbrev pub idl_line : List ℕ → IdlRefusal → List ℕ
idl_line file refusal = line file (codes "Idl " ++ idl_text refusal)

-- a file that isn't UTF-8: the length of its longest prefix that is
abbrev pub utf8_line : List ℕ → ℕ → List ℕ
utf8_line file at = line file (codes "Utf8 " ++ decimal at)

-- a file that says no statements, and why
abbrev pub text_line : List ℕ → TextPlace → List ℕ
text_line file (Utf8 at) = utf8_line file at
text_line file (Json refusal) = json_line file refusal
text_line file (Ast refusal) = ast_line file refusal
text_line file (Idl refusal) = idl_line file refusal
