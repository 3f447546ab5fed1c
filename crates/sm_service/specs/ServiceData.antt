-- A service as data, without memory: its table, and its operations, each by its place. Contracts compare services by these words. What has
-- no memory in the code is the same here: `ErrorShape` (an id, the structure's number in the table, whether the client is at fault, the
-- status of `httpError`) and `Served`.
use Rattle.std.specs.Prelude.{ℕ, List, Option}
use Rattle.sm_ids.specs.TextParts.{name_part}
use Rattle.sm_uri.specs.UriPattern.{UriSaid}
use Rattle.sm_shapes.specs.TableData.{TableData}
use Rattle.sm_compile.specs.declared.compiled.Served.{Served}
use Rattle.sm_service.specs.declared.error.ErrorShape.{ErrorShape}

-- what `http` says
pub record HttpData : Type 0 where
  pub method : List ℕ
  pub uri : UriSaid
  pub code : ℕ

-- input and output are numbers of the table's shapes
pub record OperationData : Type 0 where
  pub id : List ℕ
  pub name : List ℕ
  pub input : ℕ
  pub output : ℕ
  pub errors : List ErrorShape
  pub http : Option HttpData
  pub served : Served

pub record ServiceData : Type 0 where
  pub table : TableData
  pub name : List ℕ
  pub operations : List OperationData

-- the name by which messages tell an error: that of its shape, without a namespace
abbrev pub name_of_error : ErrorShape → List ℕ
name_of_error e = name_part e.id
