-- A member of a service that is ready has one binding: no member carries two of the seven traits.
use Rattle.std.proofs.Common.{◌≡◌, ℕ, true, List, Option, Some, None, refl, sym, ap, ◌∙◌}
use Rattle.std.specs.Cmp.Lexicographic.{nat_list_cmp_total}
use Rattle.std.specs.FinMap as fin
use Rattle.std.specs.FinMap.{nat_cmp-IsAntisymmetric, slice_cmp-IsAntisymmetric}
use Rattle.std.specs.List.{Contains}
use Rattle.std.specs.Ordering.{ordering_reverse}
use Rattle.std.specs.Str.{bytes_eq}
use Rattle.std.specs.declared.cmp.Ordering.{Ordering}
use Rattle.std.specs.declared.cmp.Ordering.TheVariants.{Less, Equal, Greater}
use Rattle.std.proofs.lemmas.Option.{same_Some}
use Rattle.sm_model.specs.Graphs.{GraphMaps, NodeMap, member_entry, text_cmp}
use Rattle.sm_model.proofs.Worklist.{apart}
use Rattle.sm_shapes.specs.TableData.{BindingData, label, query, query_params, header, prefix_headers, payload, response_code}
use Rattle.sm_compile.specs.TraitIds.{binding_ids, http_header_id, http_label_id, http_payload_id, http_prefix_headers_id, http_query_id}
use Rattle.sm_compile.specs.TraitIds.{http_query_params_id, http_response_code_id}
use Rattle.sm_rules.specs.Ready.{IsOfService, Ready}
use Rattle.sm_rules.specs.Traits.{exclusive_traits}
use Rattle.sm_rules.specs.Words.{IsService, has_trait}
use Rattle.sm_accepted.proofs.FormedShapes.{member_own}
use Rattle.sm_service.specs.Bound.{SaysBinding}
use Rattle.sm_service.proofs.BindingsRead.{inside}
use Rattle.sm_service.proofs.BindingsSaid.{text_is_there, unbound_said}
use Rattle.sm_service.proofs.OneTables.{OneBinding}
use Rattle.sm_service.proofs.ServableRows.{contains_at}

-- the trait by which a member has a binding
abbrev trait_of_binding : BindingData → List ℕ
trait_of_binding label = http_label_id
trait_of_binding (query name) = http_query_id
trait_of_binding query_params = http_query_params_id
trait_of_binding (header name) = http_header_id
trait_of_binding (prefix_headers prefix) = http_prefix_headers_id
trait_of_binding payload = http_payload_id
trait_of_binding response_code = http_response_code_id

among_bindings : (b : BindingData) → Contains binding_ids (trait_of_binding b)
among_bindings label = contains_at binding_ids 0 http_label_id refl
among_bindings (query name) = contains_at binding_ids 1 http_query_id refl
among_bindings query_params = contains_at binding_ids 2 http_query_params_id refl
among_bindings (header name) = contains_at binding_ids 3 http_header_id refl
among_bindings (prefix_headers prefix) = contains_at binding_ids 4 http_prefix_headers_id refl
among_bindings payload = contains_at binding_ids 5 http_payload_id refl
among_bindings response_code = contains_at binding_ids 6 http_response_code_id refl

module _ (traits : NodeMap) where
  trait_there : (b : BindingData) → SaysBinding traits (Some b) → has_trait (trait_of_binding b) traits ≡ true
  trait_there label h = h
  trait_there (query name) h = text_is_there (fin.get traits http_query_id) name h
  trait_there query_params h = h
  trait_there (header name) h = text_is_there (fin.get traits http_header_id) name h
  trait_there (prefix_headers prefix) h = text_is_there (fin.get traits http_prefix_headers_id) prefix h
  trait_there payload h = h
  trait_there response_code h = h

  -- two bindings by one trait are one
  by_one_trait : (a b : BindingData) → trait_of_binding a ≡ trait_of_binding b → SaysBinding traits (Some a) → SaysBinding traits (Some b)
      → Path (Option BindingData) (Some a) (Some b)
  by_one_trait label label e h k = refl
  by_one_trait label b e h k = absurd (apart (ap (bytes_eq http_label_id) (sym e)))
  by_one_trait (query name) (query other) e h k = ap (λ n. Some (query n)) (same_Some name other (sym h ∙ k))
  by_one_trait (query name) b e h k = absurd (apart (ap (bytes_eq http_query_id) (sym e)))
  by_one_trait query_params query_params e h k = refl
  by_one_trait query_params b e h k = absurd (apart (ap (bytes_eq http_query_params_id) (sym e)))
  by_one_trait (header name) (header other) e h k = ap (λ n. Some (header n)) (same_Some name other (sym h ∙ k))
  by_one_trait (header name) b e h k = absurd (apart (ap (bytes_eq http_header_id) (sym e)))
  by_one_trait (prefix_headers name) (prefix_headers other) e h k = ap (λ n. Some (prefix_headers n)) (same_Some name other (sym h ∙ k))
  by_one_trait (prefix_headers name) b e h k = absurd (apart (ap (bytes_eq http_prefix_headers_id) (sym e)))
  by_one_trait payload payload e h k = refl
  by_one_trait payload b e h k = absurd (apart (ap (bytes_eq http_payload_id) (sym e)))
  by_one_trait response_code response_code e h k = refl
  by_one_trait response_code b e h k = absurd (apart (ap (bytes_eq http_response_code_id) (sym e)))

  module _ (never : (a b : BindingData) → has_trait (trait_of_binding a) traits ≡ true → has_trait (trait_of_binding b) traits ≡ true
      → text_cmp (trait_of_binding a) (trait_of_binding b) ≡ Less → ⊥) where
    both_said : (a b : BindingData) → SaysBinding traits (Some a) → SaysBinding traits (Some b) → (r : Ordering)
        → text_cmp (trait_of_binding a) (trait_of_binding b) ≡ r → Path (Option BindingData) (Some a) (Some b)
    both_said a b h k Less is = absurd (never a b (trait_there a h) (trait_there b k) is)
    both_said a b h k Equal is =
        by_one_trait a b (slice_cmp-IsAntisymmetric nat_cmp-IsAntisymmetric (trait_of_binding a) (trait_of_binding b) is) h k
    both_said a b h k Greater is =
        absurd (never b a (trait_there b k) (trait_there a h)
        (nat_list_cmp_total.antisymm (trait_of_binding b) (trait_of_binding a) ∙ ap ordering_reverse is))

    one_said : (a b : Option BindingData) → SaysBinding traits a → SaysBinding traits b → Path (Option BindingData) a b
    one_said None b h k = sym (unbound_said traits h b k)
    one_said (Some a) None h k = unbound_said traits k (Some a) h
    one_said (Some a) (Some b) h k = both_said a b h k (text_cmp (trait_of_binding a) (trait_of_binding b)) refl

pub one_binding : (g : GraphMaps) (service : List ℕ) → IsService g service → Ready g service → OneBinding g (IsOfService g service)
one_binding g service is ready id m a b tabled there h k =
    one_said m.traits (λ x y carries also order.
    (ready is).none.exclusive id (trait_of_binding y) (inside g service is ready id tabled) (record {
      e = member_entry m;
      own = (there, member_own g (ready is).formed id m there);
      group = binding_ids;
      is_group = contains_at exclusive_traits 2 binding_ids refl;
      smaller = trait_of_binding x;
      both = (among_bindings x, among_bindings y);
      smaller_there = carries;
      greater_there = also;
      order = order;
    })) a b h k
