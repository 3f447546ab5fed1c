-- What the methods that read rows of ids answer.
use Rattle.std.specs.Prelude.{◌≡◌, ℕ, false, List, map, codes, Vec, Result, Ok, Err}
use Rattle.std.specs.declared.alloc.Global.{Global}
use Rattle.sm_model.specs.declared.reference.Ref.{Ref}
use Rattle.sm_idl.specs.Productions.{Tokens, Production, gives, ◌>>=◌, ◌>>◌, many}
use Rattle.sm_idl.specs.Words.{mark, id}
use Rattle.sm_idl.specs.Nodes.{Home, written}
use Rattle.sm_idl.specs.declared.reader.ReadStop.{ReadStop}
use Rattle.sm_idl.specs.steps.Classes.{AnyWord}
use Rattle.sm_idl.specs.steps.Reading.{IsRead}
use Rattle.sm_idl.specs.steps.ReaderView.{StopsIn}

-- "[" word* "]", the ids of mixins and of errors
abbrev pub listed_ids : Home → Production (List Ref)
listed_ids home = do
  mark (codes "[")
  ws ← many id
  mark (codes "]")
  gives (map (λ w. written home w false) ws)

-- words are read, and these are the references that they are
abbrev pub ReadsIds : Home → Tokens → Tokens → Result (Vec Ref Global) ReadStop → Type 0
ReadsIds home s r (Ok refs) =
    (ws : List (List ℕ)) × (refs.items ≡ map (λ w. written home w false) ws) × IsRead AnyWord (many id) ws s r
ReadsIds home s r (Err stop) = StopsIn AnyWord (many id) s r stop
