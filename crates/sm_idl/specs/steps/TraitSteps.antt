-- What the methods that read traits answer.
use Rattle.std.specs.Prelude.{◌≡◌, ◌++◌, List, Result, Ok, Err}
use Rattle.sm_model.specs.Said.{TraitSaid}
use Rattle.sm_idl.specs.Productions.{Tokens}
use Rattle.sm_idl.specs.Nodes.{Home}
use Rattle.sm_idl.specs.Traits.{traits}
use Rattle.sm_idl.specs.declared.reader.ReadStop.{ReadStop}
use Rattle.sm_idl.specs.steps.Classes.{TraitGoesOn}
use Rattle.sm_idl.specs.steps.Reading.{IsRead}
use Rattle.sm_idl.specs.steps.ReaderView.{StopsIn}

-- traits are read, and stand behind those that there were
abbrev pub AddsTraits : Home → List TraitSaid → List TraitSaid → Tokens → Tokens → Result Unit ReadStop → Type 0
AddsTraits home old new s r (Ok x) = (ts : List TraitSaid) × (new ≡ old ++ ts) × IsRead TraitGoesOn (traits home) ts s r
AddsTraits home old new s r (Err stop) = StopsIn TraitGoesOn (traits home) s r stop
