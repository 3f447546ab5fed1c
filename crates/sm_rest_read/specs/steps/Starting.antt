-- A body that is begun: that is fed from now on, or held.
use Rattle.std.specs.Prelude.{◌≡◌, Bool, ℕ, Result, []}
use Rattle.sm_json.specs.Stands.{json_source}
use Rattle.sm_shapes.specs.Fitting.{Test}
use Rattle.sm_bodies.specs.Fed.{BodyFed}
use Rattle.sm_http.specs.declared.message.Head.{Head}
use Rattle.sm_rest.specs.service.ServiceData.{ServiceData}
use Rattle.sm_rest.specs.messages.Goals.{Asked}
use Rattle.sm_rest.specs.messages.Pieces.{IsLive, UnlessMemory}
use Rattle.sm_rest.specs.messages.declared.refusal.MessageRefusal.{MessageRefusal}
use Rattle.sm_rest.specs.bind.BindingsView.{BindingsData, parts_data}
use Rattle.sm_rest.specs.bind.PartsData.{PartsData}
use Rattle.sm_rest.specs.declared.context.Rest.{Rest}
use Rattle.sm_rest_read.specs.Begun.{FoundMemory, RestBegun, bindings_codec, rest_state}
use Rattle.sm_rest_read.specs.declared.body.RestBody.{RestBody}
use Rattle.sm_rest_read.specs.declared.body.RestBody.TheVariants.{Failed, Fed, Held}

-- of this operation, for this shape of the table of documents, with these parts
abbrev pub StartsRest : BindingsData → ℕ → ℕ → PartsData → RestBody → Type 0
StartsRest b o shape parts Failed = ⊥
StartsRest b o shape parts (Held p m dropped) = ⊥
StartsRest b o shape parts (Fed p q r d) =
    (p ≡ o) × (parts_data q ≡ parts) × FoundMemory r
    × ((test : Test) → BodyFed json_source (bindings_codec b test) shape r d [])

-- a body is begun, unless memory runs out
abbrev pub Begins : Rest → ServiceData → Test → Asked → Head → Bool → Result RestBody MessageRefusal → Type 0
Begins rest s test asked head empty r =
    UnlessMemory (λ body. IsLive (rest_state body) × RestBegun rest s test asked body head empty []) r
