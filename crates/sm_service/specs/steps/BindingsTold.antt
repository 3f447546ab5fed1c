-- What is told of each row of a table before it is put there: the binding of a member, and the media types of values.
use Rattle.std.specs.Prelude.{◌≡◌, ℕ, true, false, List, [], ◌∷◌, Option, Some, None, is_some}
use Rattle.std.specs.List.{list_any}
use Rattle.std.specs.Option.{option_or}
use Rattle.sm_tree.specs.Node.{Node}
use Rattle.sm_model.specs.Graphs.{GraphMaps}
use Rattle.sm_model.specs.Relations.{IsInGraph}
use Rattle.sm_shapes.specs.BindingPuts.{with_bindings}
use Rattle.sm_shapes.specs.TableData.{BindingData, MemberData, ShapeData, TableData, label, query, query_params, header, prefix_headers}
use Rattle.sm_shapes.specs.TableData.{payload, response_code}
use Rattle.sm_compile.specs.Looked.{target_under}
use Rattle.sm_compile.specs.Sound.{trait_of}
use Rattle.sm_compile.specs.TraitIds.{binding_ids, http_header_id, http_label_id, http_payload_id, http_prefix_headers_id, http_query_id}
use Rattle.sm_compile.specs.TraitIds.{http_query_params_id, http_response_code_id, media_type_id}
use Rattle.sm_compile.specs.TraitNodes.{TraitsSeen, is_text, text_of, where_there}

-- the binding that one of these traits says
abbrev pub SaysBindingBy : TraitsSeen → Option BindingData → Type 0
SaysBindingBy seen None = list_any (λ id. is_some (seen id)) binding_ids ≡ false
SaysBindingBy seen (Some label) = is_some (seen http_label_id) ≡ true
SaysBindingBy seen (Some (query name)) = text_of (seen http_query_id) ≡ Some name
SaysBindingBy seen (Some query_params) = is_some (seen http_query_params_id) ≡ true
SaysBindingBy seen (Some (header name)) = text_of (seen http_header_id) ≡ Some name
SaysBindingBy seen (Some (prefix_headers prefix)) = text_of (seen http_prefix_headers_id) ≡ Some prefix
SaysBindingBy seen (Some payload) = is_some (seen http_payload_id) ≡ true
SaysBindingBy seen (Some response_code) = is_some (seen http_response_code_id) ≡ true

-- the values that name a part of a message are texts
pub record AreBindingTexts (seen : TraitsSeen) : Type 0 where
  pub query : where_there is_text (seen http_query_id) ≡ true
  pub header : where_there is_text (seen http_header_id) ≡ true
  pub prefix : where_there is_text (seen http_prefix_headers_id) ≡ true

-- of a member: its binding, where its values read
abbrev pub TellsBinding : GraphMaps → List ℕ → Option BindingData → Type 0
TellsBinding g id b = AreBindingTexts (trait_of g id) → SaysBindingBy (trait_of g id) b

-- what stands under `mediaType` of a member, or else of its target, where that is there
abbrev pub SeesMedia : GraphMaps → List ℕ → Option Node → Type 0
SeesMedia g id n =
    (target : List ℕ) → target_under g id ≡ Some target → IsInGraph g target
    → n ≡ option_or (trait_of g id media_type_id) (trait_of g target media_type_id)

-- the text of it
abbrev pub TellsMedia : GraphMaps → List ℕ → Option (List ℕ) → Type 0
TellsMedia g id t =
    (target : List ℕ) → target_under g id ≡ Some target → IsInGraph g target
    → t ≡ text_of (option_or (trait_of g id media_type_id) (trait_of g target media_type_id))

-- and of a shape
abbrev pub TellsShapeMedia : GraphMaps → List ℕ → Option (List ℕ) → Type 0
TellsShapeMedia g id t = t ≡ text_of (trait_of g id media_type_id)

-- something put at each row, in order: rows behind the last that is told stay as they are
abbrev pub put_rows : {D X : Type 0} → (D → X → D) → List D → List X → List D
put_rows put [] xs = []
put_rows put (d ∷ ds) [] = d ∷ ds
put_rows put (d ∷ ds) (x ∷ xs) = put d x ∷ put_rows put ds xs

abbrev pub with_media : MemberData → Option (List ℕ) → MemberData
with_media d t = record d { media_type = t }

abbrev pub with_shape_media : ShapeData → Option (List ℕ) → ShapeData
with_shape_media d t = record d { media_type = t }

-- a table with these bindings, and these media types of its members and shapes
abbrev pub table_bound : TableData → List (Option BindingData) → List (Option (List ℕ)) → List (Option (List ℕ)) → TableData
table_bound t bindings media shape_media = record t {
  shapes = put_rows with_shape_media t.shapes shape_media;
  members = put_rows with_media (with_bindings t.members bindings) media;
}
