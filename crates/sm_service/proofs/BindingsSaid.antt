-- What is told of a member's traits by its id is what a row of a table says of them; and a member with a binding has no node of a default.
use Rattle.std.proofs.Common.{◌≡◌, ℕ, Bool, true, false, ◌||◌, List, Option, Some, None, refl, sym, ◌∙◌, subst}
use Rattle.std.specs.Prelude.{cond, is_some}
use Rattle.std.specs.FinMap as fin
use Rattle.std.proofs.lemmas.Option.{none-some}
use Rattle.sm_tree.specs.Node.{Node, text}
use Rattle.sm_model.specs.Graphs.{Entry, GraphMaps, MemberEntry, NodeMap, member_entry}
use Rattle.sm_model.specs.Relations.{HasEntry}
use Rattle.sm_model.specs.declared.kind.Kind.{Kind}
use Rattle.sm_model.specs.declared.kind.Kind.TheVariants as model
use Rattle.sm_model.proofs.Worklist.{apart}
use Rattle.sm_shapes.specs.TableData.{BindingData, label, query, query_params, header, prefix_headers, payload, response_code}
use Rattle.sm_compile.specs.Said.{default_said, is_bound}
use Rattle.sm_compile.specs.Sound.{trait_in, trait_of}
use Rattle.sm_compile.specs.TraitIds.{http_header_id, http_label_id, http_payload_id, http_prefix_headers_id, http_query_id}
use Rattle.sm_compile.specs.TraitIds.{http_query_params_id, http_response_code_id}
use Rattle.sm_compile.specs.TraitNodes.{is_text, text_of, where_there}
use Rattle.sm_service.specs.Bound.{SaysBinding}
use Rattle.sm_service.specs.steps.BindingsTold.{SaysBindingBy}

-- the traits of the member with an id
pub binding_said : (g : GraphMaps) (id : List ℕ) (m : MemberEntry) → HasEntry g id (member_entry m) → (b : Option BindingData)
    → SaysBindingBy (trait_of g id) b → SaysBinding m.traits b
binding_said g id m there b h = by b (subst (λ (o : Option Entry). SaysBindingBy (λ name. trait_in name o) b) there h)
  where
    by : (b : Option BindingData) → SaysBindingBy (λ name. fin.get m.traits name) b → SaysBinding m.traits b
    by None h = h
    by (Some label) h = h
    by (Some (query name)) h = h
    by (Some query_params) h = h
    by (Some (header name)) h = h
    by (Some (prefix_headers prefix)) h = h
    by (Some payload) h = h
    by (Some response_code) h = h

-- a text that is there
pub text_is_there : (o : Option Node) (t : List ℕ) → text_of o ≡ Some t → is_some o ≡ true
text_is_there None t h = absurd (none-some t h)
text_is_there (Some n) t h = refl

-- what carries one of the traits is bound
first_not : (a b : Bool) → (a || b) ≡ false → a ≡ false
first_not true b h = h
first_not false b h = refl

rest_not : (a b : Bool) → (a || b) ≡ false → b ≡ false
rest_not true b h = absurd (apart (sym h))
rest_not false b h = h

module _ (traits : NodeMap) where
  abbrev has : List ℕ → Bool
  has id = is_some (fin.get traits id)

  no_label : is_bound traits ≡ false → has http_label_id ≡ false
  no_label h = first_not (has http_label_id) _ h

  no_query : is_bound traits ≡ false → has http_query_id ≡ false
  no_query h = first_not (has http_query_id) _ (rest_not (has http_label_id) _ h)

  no_query_params : is_bound traits ≡ false → has http_query_params_id ≡ false
  no_query_params h =
      first_not (has http_query_params_id) _ (rest_not (has http_query_id) _ (rest_not (has http_label_id) _ h))

  from_header : is_bound traits ≡ false
      → (has http_header_id || (has http_prefix_headers_id || (has http_payload_id || (has http_response_code_id || false)))) ≡ false
  from_header h =
      rest_not (has http_query_params_id) _ (rest_not (has http_query_id) _ (rest_not (has http_label_id) _ h))

  no_header : is_bound traits ≡ false → has http_header_id ≡ false
  no_header h = first_not (has http_header_id) _ (from_header h)

  no_prefix : is_bound traits ≡ false → has http_prefix_headers_id ≡ false
  no_prefix h = first_not (has http_prefix_headers_id) _ (rest_not (has http_header_id) _ (from_header h))

  no_payload : is_bound traits ≡ false → has http_payload_id ≡ false
  no_payload h =
      first_not (has http_payload_id) _ (rest_not (has http_prefix_headers_id) _ (rest_not (has http_header_id) _ (from_header h)))

  no_code : is_bound traits ≡ false → has http_response_code_id ≡ false
  no_code h =
      first_not (has http_response_code_id) _
      (rest_not (has http_payload_id) _ (rest_not (has http_prefix_headers_id) _ (rest_not (has http_header_id) _ (from_header h))))

  never : (b : Bool) → b ≡ false → b ≡ true → ⊥
  never b off on = apart (sym off ∙ on)

  pub unbound_said : is_bound traits ≡ false → (b : Option BindingData) → SaysBinding traits b → b ≡ None
  unbound_said none None h = refl
  unbound_said none (Some label) h = absurd (never _ (no_label none) h)
  unbound_said none (Some (query name)) h = absurd (never _ (no_query none) (text_is_there (fin.get traits http_query_id) name h))
  unbound_said none (Some query_params) h = absurd (never _ (no_query_params none) h)
  unbound_said none (Some (header name)) h = absurd (never _ (no_header none) (text_is_there (fin.get traits http_header_id) name h))
  unbound_said none (Some (prefix_headers prefix)) h =
      absurd (never _ (no_prefix none) (text_is_there (fin.get traits http_prefix_headers_id) prefix h))
  unbound_said none (Some payload) h = absurd (never _ (no_payload none) h)
  unbound_said none (Some response_code) h = absurd (never _ (no_code none) h)

-- the node of a default stands where nothing is bound
pub node_unbound : (home : Kind) (m : MemberEntry) (target : Kind) (n : Node) → default_said home m target ≡ Some n
    → is_bound m.traits ≡ false
node_unbound model.Structure m target n h = by (is_bound m.traits) _ h
  where
    by : (b : Bool) (o : Option Node) → cond b None o ≡ Some n → b ≡ false
    by true o is = absurd (none-some n is)
    by false o is = refl
node_unbound kind m target n h = absurd (none-some n h)

-- a trait that is there and reads has a text
pub no_text : (o : Option Node) → is_some o ≡ true → where_there is_text o ≡ true → text_of o ≡ None → ⊥
no_text None is reads none = apart is
no_text (Some (text t)) is reads none = none-some t (sym none)
no_text (Some n) is reads none = apart reads
