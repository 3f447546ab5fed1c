-- Where HTTP carries members, and the media types of values, as a table has them (Smithy 2.0, "HTTP binding traits", "mediaType trait"). A
-- member's row has its binding whatever shape it stands in: on which side one counts is `counted_binding`.
use Rattle.std.specs.Prelude.{◌≡◌, ℕ, true, false, List, Option, Some, None}
use Rattle.std.specs.FinMap as fin
use Rattle.sm_model.specs.Graphs.{GraphMaps, MemberEntry, NodeMap, ShapeEntry, member_entry, shape_entry}
use Rattle.sm_model.specs.Relations.{HasEntry}
use Rattle.sm_shapes.specs.TableData.{BindingData, MemberData, ShapeData, TableData, label, query, query_params, header, prefix_headers}
use Rattle.sm_shapes.specs.TableData.{payload, response_code}
use Rattle.sm_compile.specs.Compiled.{EachSays, Numbering}
use Rattle.sm_compile.specs.Said.{is_bound}
use Rattle.sm_compile.specs.TraitIds.{http_header_id, http_label_id, http_payload_id, http_prefix_headers_id, http_query_id}
use Rattle.sm_compile.specs.TraitIds.{http_query_params_id, http_response_code_id, media_type_id}
use Rattle.sm_compile.specs.TraitNodes.{effective_traits, own_traits, text_of}
use Rattle.sm_rules.specs.Words.{has_trait}

-- a member with these traits has this binding: that of the one of the seven traits that it carries, or none. In a graph that is ready no
-- member carries two of them, and their values read
abbrev pub SaysBinding : NodeMap → Option BindingData → Type 0
SaysBinding traits None = is_bound traits ≡ false
SaysBinding traits (Some label) = has_trait http_label_id traits ≡ true
SaysBinding traits (Some (query name)) = text_of (fin.get traits http_query_id) ≡ Some name
SaysBinding traits (Some query_params) = has_trait http_query_params_id traits ≡ true
SaysBinding traits (Some (header name)) = text_of (fin.get traits http_header_id) ≡ Some name
SaysBinding traits (Some (prefix_headers prefix)) = text_of (fin.get traits http_prefix_headers_id) ≡ Some prefix
SaysBinding traits (Some payload) = has_trait http_payload_id traits ≡ true
SaysBinding traits (Some response_code) = has_trait http_response_code_id traits ≡ true

-- a row of a member says the binding of the member with this id, and the media type of its values: its own, else its target's
pub record BindsMember (g : GraphMaps) (id : List ℕ) (d : MemberData) : Type 0 where
  pub m : MemberEntry
  pub there : HasEntry g id (member_entry m)
  pub target : ShapeEntry
  pub target_there : HasEntry g m.target (shape_entry target)
  pub binding : SaysBinding m.traits d.binding
  pub media_type : d.media_type ≡ text_of (effective_traits m.traits target.traits media_type_id)

-- a row of a shape says the media type of its values
pub record BindsShape (g : GraphMaps) (id : List ℕ) (d : ShapeData) : Type 0 where
  pub s : ShapeEntry
  pub there : HasEntry g id (shape_entry s)
  pub media_type : d.media_type ≡ text_of (own_traits s.traits media_type_id)

-- and so does each row of a table
pub record Binds (g : GraphMaps) (n : Numbering) (t : TableData) : Type 0 where
  pub shapes : EachSays (BindsShape g) n.shapes t.shapes
  pub members : EachSays (BindsMember g) n.members t.members
