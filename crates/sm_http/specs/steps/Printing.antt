-- The written text by its parts, as they are placed.
use Rattle.std.specs.Prelude.{ℕ, List, [], ◌∷◌, ◌++◌, codes, decimal}
use Rattle.sm_http.specs.declared.message.Field.{Field}
use Rattle.sm_http.specs.declared.message.Message.{Message}
use Rattle.sm_http.specs.declared.message.Start.{Start}
use Rattle.sm_http.specs.declared.message.Start.TheVariants.{Request, Response}
use Rattle.sm_http.specs.Written.{phrase}

abbrev pub field_text : Field → List ℕ
field_text field = field.name ++ 58 ∷ 32 ∷ (field.value ++ 13 ∷ 10 ∷ [])

abbrev pub fields_text : List Field → List ℕ
fields_text [] = []
fields_text (f ∷ fs) = field_text f ++ fields_text fs

abbrev pub start_text : Start → List ℕ
start_text (Request method target) = method ++ 32 ∷ (target ++ (codes " HTTP/1.1" ++ 13 ∷ 10 ∷ []))
start_text (Response status) = codes "HTTP/1.1 " ++ (decimal status ++ 32 ∷ (phrase status ++ 13 ∷ 10 ∷ []))

abbrev pub message_text : Message → List ℕ
message_text message = start_text message.head.start ++ (fields_text message.head.fields ++ 13 ∷ 10 ∷ message.body)
