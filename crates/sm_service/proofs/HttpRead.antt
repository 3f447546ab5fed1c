-- What is read of `http` of an operation is what rules speak of.
use Rattle.std.proofs.Common.{◌≡◌, ℕ, ℤ, List, Option, Some, None, refl, sym, ap, ◌∙◌}
use Rattle.std.specs.Prelude.{codes, pos}
use Rattle.std.specs.Option.{unwrap_or}
use Rattle.std.proofs.lemmas.Option.{none-some}
use Rattle.sm_tree.specs.Node.{Node}
use Rattle.sm_model.specs.Graphs.{GraphMaps}
use Rattle.sm_compile.specs.TraitNodes.{number_of, text_of}
use Rattle.sm_rules.specs.Http.{success_code_of}
use Rattle.sm_rules.specs.Words.{IsOperation, field_in}
use Rattle.sm_http_traits.specs.Http.{code_seen, method_seen}
use Rattle.sm_http_traits.proofs.HttpSaid.{said_seen, seen_said}
use Rattle.sm_service.specs.Compiled.{SaysHttpRule}
use Rattle.sm_service.specs.ServiceData.{HttpData}
use Rattle.sm_service.specs.steps.HttpReads.{IsUriSeen}

-- the text of a field, and the number of `code`
abbrev field_text : List ℕ → Option Node → Option (List ℕ)
field_text name o = text_of (field_in name o)

abbrev code_in : Option Node → Option ℤ
code_in o = number_of (field_in (codes "code") o)

module _ (g : GraphMaps) (id : List ℕ) (own : IsOperation g id) where
  codes_same : (o p : Option ℤ) → code_seen g id ≡ o → success_code_of g id ≡ p → o ≡ p
  codes_same None None seen said = refl
  codes_same None (Some z) seen said = absurd (none-some z (sym seen ∙ said_seen g id code_in refl z own said))
  codes_same (Some z) p seen said = sym (seen_said g id code_in refl z seen).1 ∙ said

  pub rule_said : (h : HttpData) → method_seen g id ≡ Some h.method → IsUriSeen g id h.uri
      → pos h.code ≡ unwrap_or (code_seen g id) (pos 200) → SaysHttpRule g id h
  rule_said h method uri code = record {
    method = (seen_said g id (field_text (codes "method")) refl h.method method).1;
    uri = record {
      is_operation = own;
      t = uri.0;
      said = (seen_said g id (field_text (codes "uri")) refl uri.0 uri.1).1;
      spells = uri.2;
    };
    code = code ∙ ap (λ o. unwrap_or o (pos 200)) (codes_same (code_seen g id) (success_code_of g id) refl refl);
  }

-- an operation, by its method
pub is_operation : (g : GraphMaps) (id method : List ℕ) → method_seen g id ≡ Some method → IsOperation g id
is_operation g id method h = (seen_said g id (field_text (codes "method")) refl method h).0
