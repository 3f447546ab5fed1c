-- Which targets the bindings of HTTP allow, by cases on what stands there.
use Rattle.std.proofs.Common.{◌≡◌, ℕ, Bool, true, false, Option, Some, None, refl, ap, ◌∙◌}
use Rattle.std.specs.FinMap as fin
use Rattle.std.proofs.lemmas.Option.{none-some}
use Rattle.sm_model.specs.Graphs.{Entry, shape_entry, member_entry, GraphMaps}
use Rattle.sm_model.specs.GraphView.{IsShapeNumber, maps_of}
use Rattle.sm_model.specs.Reaching.{id_of_number}
use Rattle.sm_model.specs.declared.graph.Graph.{Graph}
use Rattle.sm_model.specs.declared.kind.Kind.{Kind}
use Rattle.sm_model.specs.declared.kind.Kind.TheVariants as model
use Rattle.sm_compile.specs.Looked.{kind_in, kind_under}
use Rattle.sm_rules.specs.Bindings.{BindingTrait, a_header, a_label, a_payload, a_query, a_response_code, allows_target, is_list_of}
use Rattle.sm_rules.specs.Bindings.{is_map_to, is_one_text, is_payload, some_prefix_headers, some_query_params}
use Rattle.sm_http_rules.specs.declared.allows.MapValues.{MapValues}
use Rattle.sm_http_rules.specs.declared.allows.MapValues.TheVariants.{Texts, TextsOrLists}
use Rattle.sm_http_rules.specs.steps.Allowing.{is_payload_kind, is_spelled_kind, map_test}
use Rattle.sm_http_rules.proofs.TargetTested.{entry_at}

-- types by their names
pub spelled_same : (kind : Kind) → is_spelled_kind kind ≡ is_one_text kind
spelled_same model.Blob = refl
spelled_same model.Boolean = refl
spelled_same model.Text = refl
spelled_same model.Byte = refl
spelled_same model.Short = refl
spelled_same model.Integer = refl
spelled_same model.Long = refl
spelled_same model.Float = refl
spelled_same model.Double = refl
spelled_same model.BigInteger = refl
spelled_same model.BigDecimal = refl
spelled_same model.Timestamp = refl
spelled_same model.Document = refl
spelled_same model.Enum = refl
spelled_same model.IntEnum = refl
spelled_same model.List = refl
spelled_same model.Map = refl
spelled_same model.Structure = refl
spelled_same model.Union = refl
spelled_same model.Service = refl
spelled_same model.Operation = refl
spelled_same model.Resource = refl

pub payload_same : (kind : Kind) → is_payload_kind kind ≡ is_payload kind
payload_same model.Blob = refl
payload_same model.Boolean = refl
payload_same model.Text = refl
payload_same model.Byte = refl
payload_same model.Short = refl
payload_same model.Integer = refl
payload_same model.Long = refl
payload_same model.Float = refl
payload_same model.Double = refl
payload_same model.BigInteger = refl
payload_same model.BigDecimal = refl
payload_same model.Timestamp = refl
payload_same model.Document = refl
payload_same model.Enum = refl
payload_same model.IntEnum = refl
payload_same model.List = refl
payload_same model.Map = refl
payload_same model.Structure = refl
payload_same model.Union = refl
payload_same model.Service = refl
payload_same model.Operation = refl
payload_same model.Resource = refl

-- what isn't there is allowed
pub map_free : (g : GraphMaps) (values : MapValues) → map_test g values None ≡ true
map_free g TextsOrLists = refl
map_free g Texts = refl

pub all_free : (g : GraphMaps) (binding : BindingTrait) → allows_target g binding None ≡ true
all_free g a_label = refl
all_free g a_query = refl
all_free g some_query_params = refl
all_free g a_header = refl
all_free g some_prefix_headers = refl
all_free g a_payload = refl
all_free g a_response_code = refl

-- a member is neither
module _ (g : Graph) (k : ℕ) (small : IsShapeNumber g k) (is : None ≡ kind_under (maps_of g) (id_of_number g k)) where
  pub no_list : (test : Kind → Bool) → is_list_of (maps_of g) test (fin.get (maps_of g).shapes (id_of_number g k)) ≡ false
  no_list test = let x = entry_at g k small in ap (is_list_of (maps_of g) test) x.1 ∙ by x.0 (is ∙ ap kind_in x.1)
    where
      by : (e : Entry) → None ≡ kind_in (Some e) → is_list_of (maps_of g) test (Some e) ≡ false
      by (shape_entry s) none = absurd (none-some s.kind none)
      by (member_entry m) none = refl

  pub no_map : (test : Option Entry → Bool) → is_map_to (maps_of g) test (fin.get (maps_of g).shapes (id_of_number g k)) ≡ false
  no_map test = let x = entry_at g k small in ap (is_map_to (maps_of g) test) x.1 ∙ by x.0 (is ∙ ap kind_in x.1)
    where
      by : (e : Entry) → None ≡ kind_in (Some e) → is_map_to (maps_of g) test (Some e) ≡ false
      by (shape_entry s) none = absurd (none-some s.kind none)
      by (member_entry m) none = refl
