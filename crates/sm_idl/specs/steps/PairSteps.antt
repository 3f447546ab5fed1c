-- What the reader's methods answer for a pair whose name didn't come before.
use Rattle.std.specs.Prelude.{ℕ, List, [], ◌∷◌, ◌++◌, IfOk, Result}
use Rattle.std.specs.BTreeSet.{BTreeSet}
use Rattle.std.specs.declared.alloc.Global.{Global}
use Rattle.std.specs.declared.string.String.{String}
use Rattle.sm_model.specs.declared.raw.RawNode.{RawNode}
use Rattle.sm_idl.specs.Productions.{Tokens, Production}
use Rattle.sm_idl.specs.Nodes.{Pair, pair_names}
use Rattle.sm_idl.specs.declared.reader.ReadStop.{ReadStop}
use Rattle.sm_idl.specs.steps.Names.{Remembers}
use Rattle.sm_idl.specs.steps.ReaderView.{raw_pair, ReadsAs}

-- a pair is read behind any pairs whose names are those that came so far
abbrev pub ReadsNewPair : BTreeSet (String Global) → (List Pair → Production Pair) → Tokens → Tokens
    → Result (List ℕ × RawNode) ReadStop → Type 0
ReadsNewPair seen P s r result = (before : List Pair) → Remembers seen (pair_names before) → ReadsAs raw_pair (P before) s r result

-- the name of a pair that is read has come then
abbrev pub RemembersPair : BTreeSet (String Global) → BTreeSet (String Global) → Result (List ℕ × RawNode) ReadStop → Type 0
RemembersPair old new result = (before : List Pair) → Remembers old (pair_names before)
    → IfOk result (λ pair. Remembers new (pair_names (before ++ raw_pair pair ∷ [])))
