-- A service stays servable with its defaults: they change no kind, no name, no target and no binding.
use Rattle.std.proofs.Common.{◌≡◌, inl, inr, ℕ, zero, suc, Bool, List, [], ◌∷◌, Option, Some, map, refl, sym, ap, ◌∙◌, subst}
use Rattle.std.specs.Prelude.{IsTrue, slice_get}
use Rattle.httparse.specs.Grammar.{is_token}
use Rattle.sm_model.specs.Reaching.{LeadsOn}
use Rattle.sm_shapes.specs.Fitting.{Test}
use Rattle.sm_shapes.specs.TableData.{BindingData, MemberData, TableData, binding_at, binding_in, header, json_name_at, json_name_in, kind_at}
use Rattle.sm_shapes.specs.TableData.{members_at, name_at, name_in, required_at, required_in, sparse_at, target_at, target_in}
use Rattle.sm_shapes.specs.declared.kinds.ShapeKind.{ShapeKind}
use Rattle.sm_codec.specs.Codec.{Codec}
use Rattle.sm_codec.specs.Defaults.{filled, filled_members, node_codec}
use Rattle.sm_rules.specs.Bindings.{an_error, an_input, an_output}
use Rattle.sm_service.specs.HttpServable.{AreLabelled, HaveOwnParts, HaveOwnQueries, HaveTargets, IsHttpServable, IsSuccessCode}
use Rattle.sm_service.specs.Laws.{StaysServable}
use Rattle.sm_service.specs.Servable.{IsCarriedIn, IsServableOperation, LeadsIn}
use Rattle.sm_service.specs.ServiceData.{HttpData, OperationData}
use Rattle.sm_service.specs.WireMembers.{InnerSeen, TargetSeen, WireMember, inner_at, target_seen_at, wire_member_at, wire_members}

-- what doesn't look at the default
module _ {Y : Type 0} (look : Option MemberData → Y)
    (same : (m : MemberData) (d : _) → look (Some (record m { default = d })) ≡ look (Some m)) where
  unchanged : (c : Codec) (k : ℕ) (ms : List MemberData) (j : ℕ) → look (slice_get (filled_members c k ms) j) ≡ look (slice_get ms j)
  unchanged c k [] j = refl
  unchanged c k (m ∷ ms) zero = same m _
  unchanged c k (m ∷ ms) (suc j) = unchanged c (suc k) ms j

-- lists that are made alike
alike : {X Y : Type 0} (f h : X → Y) → ((x : X) → f x ≡ h x) → (xs : List X) → map f xs ≡ map h xs
alike f h same [] = refl
alike f h same (x ∷ xs) = ap (λ y. y ∷ map f xs) (same x) ∙ ap (λ ys. h x ∷ ys) (alike f h same xs)

module _ (t : TableData) (test : Test) where
  abbrev u : TableData
  u = filled t test

  names : (k : ℕ) → name_at u k ≡ name_at t k
  names k = unchanged name_in (λ m d. refl) (node_codec t test) 0 t.members k

  json_names : (k : ℕ) → json_name_at u k ≡ json_name_at t k
  json_names k = unchanged json_name_in (λ m d. refl) (node_codec t test) 0 t.members k

  targets : (k : ℕ) → target_at u k ≡ target_at t k
  targets k = unchanged target_in (λ m d. refl) (node_codec t test) 0 t.members k

  bindings : (k : ℕ) → binding_at u k ≡ binding_at t k
  bindings k = unchanged binding_in (λ m d. refl) (node_codec t test) 0 t.members k

  needs : (k : ℕ) → required_at u k ≡ required_at t k
  needs k = unchanged required_in (λ m d. refl) (node_codec t test) 0 t.members k

  -- what is reached
  led : (a b : ℕ) → LeadsIn u a b → LeadsIn t a b
  led a b h = (h.0, h.1, sym (targets h.0) ∙ h.2)

  led_on : (a : ℕ) (steps : List ℕ) (b : ℕ) → LeadsOn (LeadsIn u) a steps b → LeadsOn (LeadsIn t) a steps b
  led_on a [] b h = h
  led_on a (next ∷ more) b h = (led a next h.0, led_on next more b h.1)

  carried : (root : ℕ) → IsCarriedIn t root → IsCarriedIn u root
  carried root h = record {
    kinds = λ s way left. h.kinds s (way.0, led_on root way.0 s way.1) left;
    names = λ s way kind k among. λ is. h.names s (way.0, led_on root way.0 s way.1) kind k among (elim is [
      | inl name ↦ inl (sym (names k) ∙ name)
      | inr name ↦ inr (sym (json_names k) ∙ name)
    ]);
  }

  pub operation_stays : (o : OperationData) → IsServableOperation t o → IsServableOperation u o
  operation_stays o h = record {
    name = h.name;
    input = h.input;
    output = h.output;
    errors = h.errors;
    few = h.few;
    error_names = h.error_names;
    error_shapes = h.error_shapes;
    no_output = h.no_output;
    input_carried = λ yes. carried o.input (h.input_carried yes);
    output_carried = λ yes. carried o.output (h.output_carried yes);
    errors_carried = λ yes e among. carried e.shape (h.errors_carried yes e among);
  }

  pub token_stays : ((k : ℕ) (name : List ℕ) → binding_at t k ≡ Some (header name) → IsTrue (is_token name)) → (k : ℕ) (name : List ℕ)
      → binding_at u k ≡ Some (header name) → IsTrue (is_token name)
  token_stays h k name is = h k name (sym (bindings k) ∙ is)

  -- the members that HTTP bindings see
  inners : (s : ℕ) → Path InnerSeen (inner_at u s) (inner_at t s)
  inners s =
      ap (λ (xs : List ShapeKind). record { kind = kind_at t s; sparse = sparse_at t s; inner = xs })
      (alike (λ k. kind_at u (target_at u k)) (λ k. kind_at t (target_at t k)) (λ k. ap (kind_at t) (targets k)) (members_at t s))

  seen : (s : ℕ) → Path TargetSeen (target_seen_at u s) (target_seen_at t s)
  seen s =
      ap (λ (xs : List InnerSeen). record { kind = kind_at t s; sparse = sparse_at t s; inner = xs })
      (alike (λ k. inner_at u (target_at u k)) (λ k. inner_at t (target_at t k))
      (λ k. inners (target_at u k) ∙ ap (inner_at t) (targets k)) (members_at t s))

  wire_made : List ℕ → Option BindingData → Bool → TargetSeen → WireMember
  wire_made name binding required target = record { name = name; binding = binding; required = required; target = target }

  wire : (k : ℕ) → Path WireMember (wire_member_at u k) (wire_member_at t k)
  unfolding wire_made
  wire k =
      ap (λ x. wire_made x (binding_at u k) (required_at u k) (target_seen_at u (target_at u k))) (names k)
      ∙ ap (λ x. wire_made (name_at t k) x (required_at u k) (target_seen_at u (target_at u k))) (bindings k)
      ∙ ap (λ x. wire_made (name_at t k) (binding_at t k) x (target_seen_at u (target_at u k))) (needs k)
      ∙ ap (wire_made (name_at t k) (binding_at t k) (required_at t k)) (seen (target_at u k) ∙ ap (target_seen_at t) (targets k))

  wires : (s : ℕ) → wire_members t s ≡ wire_members u s
  wires s = sym (alike (wire_member_at u) (wire_member_at t) wire (members_at t s))

  pub http_stays : (o : OperationData) (h : HttpData) → IsHttpServable t o h → IsHttpServable u o h
  http_stays o h x = record {
    uri = x.uri;
    labels = subst (AreLabelled h.uri) (wires o.input) x.labels;
    code = subst (λ ms. IsSuccessCode ms h.code) (wires o.output) x.code;
    queries = subst HaveOwnQueries (wires o.input) x.queries;
    input = subst (HaveOwnParts an_input) (wires o.input) x.input;
    output = subst (HaveOwnParts an_output) (wires o.output) x.output;
    errors = λ e among. subst (HaveOwnParts an_error) (wires e.shape) (x.errors e among);
    statuses = x.statuses;
    targets = λ yes. record {
      input = subst (HaveTargets an_input) (wires o.input) (x.targets yes).input;
      output = subst (HaveTargets an_output) (wires o.output) (x.targets yes).output;
      errors = λ e among. subst (HaveTargets an_error) (wires e.shape) ((x.targets yes).errors e among);
    };
  }

pub services_stay : StaysServable
services_stay = record {
  stays = λ s test h shaped. record {
    shaped = shaped;
    tokens = token_stays s.table test h.tokens;
    name = h.name;
    few = h.few;
    order = h.order;
    each = λ o among. operation_stays s.table test o (h.each o among);
  };
  http_stays = λ s test x o h among is. http_stays s.table test o h (x o h among is);
}
