-- The forms that words have at their places.
use Rattle.std.specs.Prelude.{ℕ, List}
use Rattle.sm_ids.specs.Identifier.{IsIdentifier, IsNamespace}
use Rattle.sm_idl.specs.Words.{IsWordId}
use Rattle.sm_idl.specs.Nodes.{IsNodeId}
use Rattle.sm_idl.specs.declared.word.WordForm.{WordForm}
use Rattle.sm_idl.specs.declared.word.WordForm.TheVariants.{Identifier, Id, NodeId, Namespace}

abbrev pub HasForm : WordForm → List ℕ → Type 0
HasForm Identifier w = IsIdentifier w
HasForm Id w = IsWordId w
HasForm NodeId w = IsNodeId w
HasForm Namespace w = IsNamespace w
