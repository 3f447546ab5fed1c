-- Parts of operations, as the reader holds them, and what its methods answer for them.
use Rattle.std.specs.Prelude.{◌≡◌, ℕ, false, List, [], ◌∷◌, ◌++◌, map, codes, IfOk, Result, Ok, Err}
use Rattle.std.specs.BTreeSet.{BTreeSet}
use Rattle.std.specs.List.{flat_map}
use Rattle.std.specs.Option.{option_to_list}
use Rattle.std.specs.declared.alloc.Global.{Global}
use Rattle.std.specs.declared.string.String.{String}
use Rattle.sm_model.specs.Raw.{raw_id, raw_list, raws_of}
use Rattle.sm_model.specs.RawView.{raw_view, raw_members_view}
use Rattle.sm_model.specs.SaidView.{statements_view}
use Rattle.sm_model.specs.declared.reference.Ref.{Ref}
use Rattle.sm_idl.specs.Productions.{Tokens, each}
use Rattle.sm_idl.specs.Nodes.{Home, written}
use Rattle.sm_idl.specs.Bodies.{Suffixes, PartSaid, part_names, part}
use Rattle.sm_idl.specs.Shapes.{part_pairs}
use Rattle.sm_idl.specs.declared.operations.OperationSide.{OperationSide}
use Rattle.sm_idl.specs.declared.operations.OperationSide.TheVariants.{Input, Output}
use Rattle.sm_idl.specs.declared.operations.Part.{Part}
use Rattle.sm_idl.specs.declared.operations.Parts.{Parts}
use Rattle.sm_idl.specs.declared.operations.Suffixes.{Suffixes as HeldSuffixes}
use Rattle.sm_idl.specs.declared.reader.ReadStop.{ReadStop}
use Rattle.sm_idl.specs.steps.Classes.{AnyWord}
use Rattle.sm_idl.specs.steps.Names.{Remembers}
use Rattle.sm_idl.specs.steps.ReaderView.{StopsIn}
use Rattle.sm_idl.specs.steps.Reading.{IsRead}

abbrev pub side_word : OperationSide → List ℕ
side_word Input = codes "input"
side_word Output = codes "output"

abbrev pub part_view : Part → PartSaid
part_view p = record { name = p.name; value = raw_view p.value; defined = statements_view (option_to_list p.defined) }

abbrev pub suffixes_view : HeldSuffixes → Suffixes
suffixes_view s = record { input = s.input; output = s.output }

abbrev pub target_said : Home → List ℕ → List ℕ → PartSaid
target_said home name w = record { name = name; value = raw_id (written home w false); defined = [] }

abbrev pub errors_said : List Ref → PartSaid
errors_said refs = record { name = codes "errors"; value = raw_list (raws_of (map raw_id refs)); defined = [] }

-- parts are read, and these are their nodes and what they define
abbrev pub ReadsParts : Home → Suffixes → List ℕ → Tokens → Tokens → Result Parts ReadStop → Type 0
ReadsParts home endings name s r (Ok parts) =
    (ps : List PartSaid)
    × (raw_members_view parts.pairs.items ≡ part_pairs ps)
    × (statements_view parts.defined.items ≡ flat_map (λ p. p.defined) ps)
    × IsRead AnyWord (each (part home endings name)) ps s r
ReadsParts home endings name s r (Err stop) = StopsIn AnyWord (each (part home endings name)) s r stop

-- the name of a part that is read has come then
abbrev pub RemembersPart : BTreeSet (String Global) → BTreeSet (String Global) → Result Part ReadStop → Type 0
RemembersPart old new result = (before : List PartSaid) → Remembers old (part_names before)
    → IfOk result (λ part. Remembers new (part_names (before ++ part_view part ∷ [])))
