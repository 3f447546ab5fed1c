-- What the method that reads documentation answers.
use Rattle.std.specs.Prelude.{◌≡◌, ℕ, List, Option, Vec, Result, Ok, Err}
use Rattle.std.specs.declared.alloc.Global.{Global}
use Rattle.sm_lex.specs.Space.{Documents}
use Rattle.sm_bytes.specs.declared.no_memory.NoMemory.{NoMemory}
use Rattle.sm_model.specs.SaidView.{traits_view}
use Rattle.sm_model.specs.declared.statement.TraitUse.{TraitUse}
use Rattle.sm_idl.specs.Productions.{Tokens}
use Rattle.sm_idl.specs.Traits.{DocsBefore, docs_trait}

-- the documentation of whitespace, as a trait
abbrev pub DocumentsTrait : List ℕ → Result (Vec TraitUse Global) NoMemory → Type 0
DocumentsTrait space (Ok traits) = (docs : Option (List ℕ)) × Documents space docs × (traits_view traits.items ≡ docs_trait docs)
DocumentsTrait space (Err refusal) = Unit {0}

-- the documentation before these tokens, as a trait
abbrev pub ReadsDocs : Tokens → Result (Vec TraitUse Global) NoMemory → Type 0
ReadsDocs s (Ok traits) = (docs : Option (List ℕ)) × DocsBefore s docs × (traits_view traits.items ≡ docs_trait docs)
ReadsDocs s (Err refusal) = Unit {0}
