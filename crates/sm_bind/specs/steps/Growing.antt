-- How the table of documents grows, shape by shape.
use Rattle.std.specs.Prelude.{◌≡◌, ◌<◌, ℕ, Bool, true, false, cond, List, [], ◌∷◌, Option, None, Some, length, slice_get}
use Rattle.sm_rules.specs.Bindings.{BoundSide, an_error, an_input, an_output}
use Rattle.sm_shapes.specs.Fitting.{Test}
use Rattle.sm_shapes.specs.InOrder.{Built, Shaped}
use Rattle.sm_shapes.specs.TableData.{BindingData, TableData, binding_at, kind_at, label, query, query_params, header, prefix_headers, payload}
use Rattle.sm_shapes.specs.TableData.{response_code, target_at}
use Rattle.sm_shapes.specs.Places.{kind_of, member_place}
use Rattle.sm_shapes.specs.TableView.{table_data}
use Rattle.sm_shapes.specs.declared.kinds.ShapeKind.TheVariants.{Structure}
use Rattle.sm_excerpts.specs.Excerpts.{Extends, IsExcerpt}
use Rattle.sm_bind.specs.BindingsView.{body_in}
use Rattle.sm_bind.specs.Documents.{IsBodyShape, is_tree_kind}
use Rattle.sm_bind.specs.Roles.{bound_on, is_bound_payload}
use Rattle.sm_bind.specs.declared.documents.Body.{Body}
use Rattle.sm_bind.specs.declared.documents.Growing.{Growing}

-- whether a binding counts on a side
abbrev pub counts_on : BoundSide → Option BindingData → Bool
counts_on side None = false
counts_on an_input (Some label) = true
counts_on an_output (Some label) = false
counts_on an_error (Some label) = false
counts_on an_input (Some (query name)) = true
counts_on an_output (Some (query name)) = false
counts_on an_error (Some (query name)) = false
counts_on an_input (Some query_params) = true
counts_on an_output (Some query_params) = false
counts_on an_error (Some query_params) = false
counts_on an_input (Some (header name)) = true
counts_on an_output (Some (header name)) = true
counts_on an_error (Some (header name)) = true
counts_on an_input (Some (prefix_headers prefix)) = true
counts_on an_output (Some (prefix_headers prefix)) = true
counts_on an_error (Some (prefix_headers prefix)) = true
counts_on an_input (Some payload) = true
counts_on an_output (Some payload) = true
counts_on an_error (Some payload) = true
counts_on an_input (Some response_code) = false
counts_on an_output (Some response_code) = true
counts_on an_error (Some response_code) = false

-- the first payload among members, whatever the side: a payload counts on each
abbrev pub payload_among : TableData → List ℕ → Option ℕ
payload_among t [] = None
payload_among t (k ∷ ks) =
    cond (is_bound_payload (binding_at t k))
    (cond (is_tree_kind (kind_of t (member_place k))) (Some (target_at t k)) None) (payload_among t ks)

-- the table of documents so far
pub record IsGrown (t d : TableData) : Type 0 where
  pub extends : Extends d t
  pub shaped : Shaped d
  pub built : (added : List (List ℕ)) (test : Test) → Built t added test → Built d added test

-- bodies of structures by their numbers
abbrev pub AreBodies : TableData → TableData → BoundSide → List (Option ℕ) → Type 0
AreBodies t d side bodies =
    (s : ℕ) → s < length bodies → kind_at t s ≡ Structure → IsBodyShape d (bound_on t side s) (body_in (slice_get bodies s))

-- the body is an excerpt of some members
abbrev pub IsExcerptBody : TableData → TableData → Option ℕ → List ℕ → Type 0
IsExcerptBody e d None ks = ⊥
IsExcerptBody e d (Some s) ks = IsExcerpt e d s ks

pub record AddsBody (d : TableData) (ks : List ℕ) (b : Body) : Type 0 where
  pub shaped : Shaped (table_data b.table)
  pub extends : Extends (table_data b.table) d
  pub built : (added : List (List ℕ)) (test : Test) → Built d added test → Built (table_data b.table) added test
  pub excerpt : IsExcerptBody (table_data b.table) d b.body ks

-- a table that grew from another, and the body of a shape in it
pub record HasBody (t : TableData) (side : BoundSide) (d : TableData) (s : ℕ) (b : Body) : Type 0 where
  pub grown : IsGrown t (table_data b.table)
  pub extends : Extends (table_data b.table) d
  pub body : kind_at t s ≡ Structure → IsBodyShape (table_data b.table) (bound_on t side s) b.body

-- and the bodies of so many shapes
pub record Grows (t : TableData) (side : BoundSide) (d : TableData) (count : ℕ) (g : Growing) : Type 0 where
  pub grown : IsGrown t (table_data g.table)
  pub extends : Extends (table_data g.table) d
  pub bodies : AreBodies t (table_data g.table) side g.bodies.items
  pub long : length g.bodies.items ≡ count
