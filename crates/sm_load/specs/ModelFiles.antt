-- Model files, the statements that each says, and the place where one says none. A file whose name ends in `.json` is in the JSON AST
-- (Smithy 2.0, "JSON AST"), any other an IDL text ("Smithy IDL").
use Rattle.std.specs.Prelude.{◌≡◌, ◌++◌, ◌∷◌, ℕ, IsUtf8, List, [], length, map, codes}
use Rattle.std.specs.Str.{IsValidUpTo}
use Rattle.sm_tree.specs.Node.{Node}
use Rattle.sm_tree.specs.Syntax.{IsRead, IsRefused}
use Rattle.sm_json.specs.JsonText.{JsonText, json_syntax}
use Rattle.sm_model.specs.Said.{Said}
use Rattle.sm_ast.specs.Answers.{Tells}
use Rattle.sm_ast.specs.Ast.{Ast}
use Rattle.sm_ast.specs.Faults.{ast_fault}
use Rattle.sm_ast.specs.declared.refusal.AstRefusal.{AstRefusal}
use Rattle.sm_ast.specs.declared.refusal.AstRefusal.TheVariants.{NoMemory as ast_short}
use Rattle.sm_idl.specs.Answers.{IdlRefused}
use Rattle.sm_idl.specs.Idl.{FileSaid, Idl, HaveVersion}
use Rattle.sm_load.specs.declared.model.ModelFile.{ModelFile}
use Rattle.sm_load.specs.declared.model.TextPlace.{TextPlace}
use Rattle.sm_load.specs.declared.model.TextPlace.TheVariants.{Utf8, Json, Ast as InAst, Idl as InIdl}

-- a file, as it is given
pub record FileGiven : Type 0 where
  pub name : List ℕ
  pub bytes : List ℕ

abbrev pub file_given : List ℕ → List ℕ → FileGiven
file_given name bytes = record { name = name; bytes = bytes }

abbrev pub file_view : ModelFile → FileGiven
file_view f = file_given f.name f.bytes.items

abbrev pub given_files : List ModelFile → List FileGiven
given_files fs = map file_view fs

-- the name of a file in the JSON AST
abbrev pub EndsInJson : List ℕ → Type 0
EndsInJson name = (stem : List ℕ) × (name ≡ stem ++ codes ".json")

-- a JSON text of at most 100 levels, of a tree that says the statements
pub record IsAstFile (f : FileGiven) (said : List Said) : Type 0 where
  pub is_json : EndsInJson f.name
  pub tree : Node
  pub is_text : IsRead JsonText tree f.bytes
  pub says : Ast said tree

-- or a text of the IDL, of a version that is read
pub record IsIdlFile (f : FileGiven) (said : List Said) : Type 0 where
  pub other_name : EndsInJson f.name → ⊥
  pub is_utf8 : IsUtf8 f.bytes
  pub file : FileSaid
  pub is_text : Idl file f.bytes
  pub version : HaveVersion file.controls
  pub says : file.said ≡ said

pub data HasStatements (f : FileGiven) (said : List Said) : Type 0 where
  in_ast : IsAstFile f said → HasStatements f said
  in_idl : IsIdlFile f said → HasStatements f said

-- each file has these
abbrev pub HaveStatements : List FileGiven → List (List Said) → Type 0
HaveStatements [] said = said ≡ []
HaveStatements (f ∷ fs) said = (s : List Said) × (more : List (List Said)) × (said ≡ s ∷ more) × HasStatements f s × HaveStatements fs more

-- the tree of a JSON text is no model, for this reason
pub record IsNoModel (bytes : List ℕ) (refusal : AstRefusal) : Type 0 where
  pub tree : Node
  pub is_text : IsRead JsonText tree bytes
  pub tells : Tells (ast_fault tree) refusal
  pub is_told : refusal ≡ ast_short → ⊥

-- why a file has no statements, and where. That memory ran out is none of these reasons
abbrev pub IsRefusedAt : FileGiven → TextPlace → Type 0
IsRefusedAt f (Utf8 at) = (EndsInJson f.name → ⊥) × IsValidUpTo f.bytes at
IsRefusedAt f (Json refusal) = EndsInJson f.name × IsRefused json_syntax f.bytes refusal
IsRefusedAt f (InAst refusal) = EndsInJson f.name × IsNoModel f.bytes refusal
IsRefusedAt f (InIdl refusal) = (EndsInJson f.name → ⊥) × IsUtf8 f.bytes × IdlRefused refusal f.bytes

-- the first file that has none, by its number
pub record IsFirstRefused (files : List FileGiven) (number : ℕ) (place : TextPlace) : Type 0 where
  pub before : List FileGiven
  pub file : FileGiven
  pub behind : List FileGiven
  pub cut : files ≡ before ++ file ∷ behind
  pub number_is : number ≡ length before
  pub said : List (List Said)
  pub earlier : HaveStatements before said
  pub refused : IsRefusedAt file place
