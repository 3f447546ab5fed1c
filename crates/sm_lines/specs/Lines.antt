-- The lines of refusals that the program prints and a gateway answers. Each ends with a line feed.
use Rattle.std.specs.Prelude.{ℕ, List, [], ◌∷◌, ◌++◌, codes}
use Rattle.std.specs.Fmt.{decimal}
use Rattle.sm_bytes.specs.Ascii.{space, line_feed}
use Rattle.sm_tree.specs.Pointer.{pointer}
use Rattle.sm_tree.specs.declared.path.Step.{Step}
use Rattle.sm_tree.specs.declared.refusal.SyntaxRefusal.{SyntaxRefusal}
use Rattle.sm_tree.specs.declared.refusal.SyntaxRefusal.TheVariants.{Bad, Ended, TooDeep, KeyKind, NoMemory}
use Rattle.sm_shapes.specs.FaultWords.{fault_word}
use Rattle.sm_shapes.specs.declared.fault.FaultKind.{FaultKind}

-- a word, a blank and a text
abbrev pub line : List ℕ → List ℕ → List ℕ
line word text = word ++ (space ∷ (text ++ line_feed ∷ []))

-- values of the shape can't be carried: the member path to one that can't
abbrev pub unserved_line : List ℕ → List ℕ
unserved_line path = line (codes "Unserved") path

-- a fault of the body: its path as a JSON Pointer, and its kind
abbrev pub fault_line : List Step → FaultKind → List ℕ
fault_line path kind = line (codes "Fault") (pointer path ++ (space ∷ fault_word kind))

-- why bytes are no text; of JSON no `KeyKind` comes, and `NoMemory` is no refusal of a body
abbrev pub syntax_text : SyntaxRefusal → List ℕ
syntax_text (Bad at) = codes "Bad " ++ decimal at
syntax_text Ended = codes "Ended"
syntax_text (TooDeep at) = codes "TooDeep " ++ decimal at
syntax_text (KeyKind at) = codes "KeyKind " ++ decimal at
syntax_text NoMemory = codes "NoMemory"

-- that of a body
abbrev pub syntax_line : SyntaxRefusal → List ℕ
syntax_line refusal = line (codes "Syntax") (syntax_text refusal)
