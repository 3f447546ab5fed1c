-- The forms of the words of `check`, `convert` and `select`.
use Rattle.std.specs.Prelude.{◌≡◌, ℕ, List, ◌++◌, codes}
use Rattle.sm_ids.specs.Identifier.{IsNamespace}
use Rattle.sm_asked.specs.Words.{AreModelsAlone, AreOverModels}
use Rattle.sm_model_commands.specs.declared.words.ConvertForm.{ConvertForm}
use Rattle.sm_model_commands.specs.declared.words.ConvertForm.TheVariants.{Ast, Idl}

-- check MODEL+
abbrev pub IsCheckForm : List (List ℕ) → List (List ℕ) → Type 0
IsCheckForm words models = AreModelsAlone words (codes "check") models

-- select MODEL+ SELECTOR
abbrev pub IsSelectForm : List (List ℕ) → List (List ℕ) → List ℕ → Type 0
IsSelectForm words models selector = AreOverModels words (codes "select") models selector

-- the forms in which a graph is written: the JSON AST, or a namespace of it in the IDL
pub data GraphForm : Type 0 where
  -- ast
  as_ast : GraphForm
  -- idl:NAMESPACE
  as_idl : (namespace : List ℕ) → GraphForm

-- the form that the code holds
abbrev pub graph_form : ConvertForm → GraphForm
graph_form Ast = as_ast
graph_form (Idl namespace) = as_idl namespace.now

-- the word for the form of a graph
abbrev pub graph_word : GraphForm → List ℕ
graph_word as_ast = codes "ast"
graph_word (as_idl namespace) = codes "idl:" ++ namespace

-- the word says the form: of a namespace (Smithy 2.0, "Shape ID") where it is to be written in the IDL
abbrev pub IsGraphForm : GraphForm → Type 0
IsGraphForm as_ast = Unit {0}
IsGraphForm (as_idl namespace) = IsNamespace namespace

pub record SaysGraphForm (word : List ℕ) (form : GraphForm) : Type 0 where
  pub is : word ≡ graph_word form
  pub named : IsGraphForm form

-- convert MODEL+ FORM
pub record IsConvertForm (words models : List (List ℕ)) (form : GraphForm) : Type 0 where
  pub last : List ℕ
  pub over : AreOverModels words (codes "convert") models last
  pub says : SaysGraphForm last form
