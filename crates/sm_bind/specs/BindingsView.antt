-- What bindings and parts of the code stand for.
use Rattle.std.specs.Prelude.{ℕ, List, Option, None, Some, slice_get}
use Rattle.sm_rules.specs.Bindings.{BoundSide, an_error, an_input, an_output}
use Rattle.sm_shapes.specs.TableData.{TableData}
use Rattle.sm_shapes.specs.TableView.{table_data}
use Rattle.sm_bind.specs.Documents.{AreDocumentsOf}
use Rattle.sm_bind.specs.PartsData.{PartsData}
use Rattle.sm_bind.specs.declared.bindings.Bindings.{Bindings}
use Rattle.sm_bind.specs.declared.parts.Parts.{Parts}
use Rattle.sm_bind.specs.declared.side.PartSide.{PartSide}
use Rattle.sm_bind.specs.declared.side.PartSide.TheVariants.{Input, Output, Error}

abbrev pub parts_data : Parts → PartsData
parts_data p = record { labels = p.labels.items; query = p.query.items; fields = p.fields.items; status = p.status }

abbrev pub bound_side : PartSide → BoundSide
bound_side Input = an_input
bound_side Output = an_output
bound_side Error = an_error

-- The table of documents, and for each shape of the service the one by which a body is read that goes to it as an input, an output or an
-- error
pub record BindingsData : Type 0 where
  pub documents : TableData
  pub inputs : List (Option ℕ)
  pub outputs : List (Option ℕ)
  pub errors : List (Option ℕ)

abbrev pub bindings_data : Bindings → BindingsData
bindings_data b = record {
  documents = table_data b.documents;
  inputs = b.inputs.items;
  outputs = b.outputs.items;
  errors = b.errors.items;
}

abbrev pub bodies_on : BindingsData → BoundSide → List (Option ℕ)
bodies_on b an_input = b.inputs
bodies_on b an_output = b.outputs
bodies_on b an_error = b.errors

abbrev pub body_in : Option (Option ℕ) → Option ℕ
body_in None = None
body_in (Some body) = body

-- the shape by which a body is read that goes to a shape on a side
abbrev pub body_at : BindingsData → BoundSide → ℕ → Option ℕ
body_at b side s = body_in (slice_get (bodies_on b side) s)

-- these are the bindings of a table
abbrev pub AreBindingsOf : TableData → BindingsData → Type 0
AreBindingsOf t b = AreDocumentsOf t b.documents (body_at b)
