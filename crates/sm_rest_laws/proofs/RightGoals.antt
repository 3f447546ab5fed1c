-- The goals of an operation that restJson1 serves are structures that are bound right: by what HTTP bindings ask of a service, and by what
-- isn't restricted.
use Rattle.std.proofs.Common.{◌≡◌, inl, inr, ℕ, zero, suc, ◌<◌, Bool, true, false, ◌||◌, cond, List, [], ◌∷◌, None, Some, length, refl}
use Rattle.std.proofs.Common.{sym, ap, ◌∙◌, arith, subst}
use Rattle.std.specs.Prelude.{Option, codes, get_or}
use Rattle.std.specs.List.{Contains}
use Rattle.std.specs.Str.{str_to_ascii_lowercase}
use Rattle.sm_rules.specs.Bindings.{BoundSide, an_error, an_input, an_output}
use Rattle.sm_shapes.specs.Fitting.{Test}
use Rattle.sm_shapes.specs.Names.{AllDiffer}
use Rattle.sm_shapes.specs.Places.{kind_of, member_place}
use Rattle.sm_shapes.specs.TableData.{BindingData, TableData, binding_at, header, label, members_at, payload, response_code}
use Rattle.sm_shapes.proofs.NamedMembers.{IsAmong, contains_among}
use Rattle.sm_bind_laws.specs.service.HttpServable.{HaveOwnQueries, IsHttpServable}
use Rattle.sm_bind_laws.specs.service.ServiceData.{HttpData, OperationData, ServiceData}
use Rattle.sm_bind_laws.specs.service.WireMembers.{counted_binding, wire_member_at, wire_members}
use Rattle.sm_bind_laws.specs.service.declared.error.ErrorShape.{ErrorShape}
use Rattle.sm_uri.specs.UriPattern.{label_names}
use Rattle.sm_bind_laws.specs.messages.Goals.{Goal, HasRole, Role, goal_shape, no_error, operation_at, role_shape, the_error, the_input}
use Rattle.sm_bind_laws.specs.messages.Goals.{the_output}
use Rattle.sm_bind_laws.specs.messages.IsForm.{Serves, ServesGoal}
use Rattle.sm_bind_laws.proofs.messages.TreeBodies.{goal_structure}
use Rattle.sm_routes.specs.Routes.{is_routed}
use Rattle.sm_bind_laws.specs.bind.Roles.{Bound, binding_on, bound_members, is_among, reserved_names}
use Rattle.sm_bind_laws.proofs.bind.Counted.{kept_is, kept_on}
use Rattle.sm_bind_laws.specs.bind_read.BoundGoals.{bound_at, side_of}
use Rattle.sm_bind_laws.specs.bind_write.Restrictions.{error_root, first_refused, is_collection, is_refused, is_refused_on, is_status}
use Rattle.sm_bind_laws.specs.bind_write.Restrictions.{path_or, refused_in, refused_in_errors, refused_on, restriction_by}
use Rattle.sm_bind_laws.specs.BoundRight.{IsBoundRight}
use Rattle.sm_bind_laws.proofs.OwnParts.{own_binding, there_of}
use Rattle.sm_rest.specs.RestForm.{rest_form}
use Rattle.sm_rest.proofs.GoalsServed.{goal_parts, goal_targets}

-- an operation that isn't restricted: its method is routed, and no member is refused
pub record IsFree (t : TableData) (o : OperationData) (h : HttpData) : Type 0 where
  pub routed : is_routed h.method ≡ true
  pub members : refused_in t o ≡ None

some_path : (path : List ℕ) → Some path ≡ None → ⊥
some_path path e = cc

free_by : (t : TableData) (o : OperationData) (h : HttpData) (z : Bool) → is_routed h.method ≡ z
    → cond z (refused_in t o) (Some (codes "http")) ≡ None → IsFree t o h
free_by t o h true e none = record { routed = e; members = none }
free_by t o h false e none = absurd (some_path (codes "http") none)

pub is_free : (t : TableData) (o : OperationData) (h : HttpData) → o.http ≡ Some h → restriction_by o.http t o ≡ None → IsFree t o h
is_free t o h e none = free_by t o h (is_routed h.method) refl (subst (λ http. restriction_by http t o ≡ None) e none)

first_none : (root : List ℕ) (t : TableData) (found : Option ℕ) (other : Option (List ℕ)) → path_or root t found other ≡ None → found ≡ None
first_none root t None other h = refl
first_none root t (Some k) other h = absurd (some_path _ h)

other_none : (root : List ℕ) (t : TableData) (found : Option ℕ) (other : Option (List ℕ)) → path_or root t found other ≡ None → other ≡ None
other_none root t None other h = h
other_none root t (Some k) other h = absurd (some_path _ h)

errors_free : (t : TableData) (es : List ErrorShape) (e : ℕ) → refused_in_errors t es ≡ None → e < length es
    → refused_on t an_error (get_or es e no_error).shape ≡ None
errors_free t [] e h lt = absurd (omega (arith, lt))
errors_free t (x ∷ es) zero h lt = first_none (error_root x) t (refused_on t an_error x.shape) (refused_in_errors t es) h
errors_free t (x ∷ es) (suc e) h lt =
    errors_free t es e (other_none (error_root x) t (refused_on t an_error x.shape) (refused_in_errors t es) h) (omega (arith, lt))

role_free : (t : TableData) (o : OperationData) (r : Role) → refused_in t o ≡ None → HasRole o r
    → refused_on t (side_of r) (role_shape o r) ≡ None
role_free t o the_input h has =
    first_none (codes "input") t (refused_on t an_input o.input)
    (path_or (codes "output") t (refused_on t an_output o.output) (refused_in_errors t o.errors)) h
role_free t o the_output h has =
    first_none (codes "output") t (refused_on t an_output o.output) (refused_in_errors t o.errors)
    (other_none (codes "input") t (refused_on t an_input o.input)
    (path_or (codes "output") t (refused_on t an_output o.output) (refused_in_errors t o.errors)) h)
role_free t o (the_error e) h has =
    errors_free t o.errors e
    (other_none (codes "output") t (refused_on t an_output o.output) (refused_in_errors t o.errors)
    (other_none (codes "input") t (refused_on t an_input o.input)
    (path_or (codes "output") t (refused_on t an_output o.output) (refused_in_errors t o.errors)) h)) has

-- no member of such a shape is refused
some_number : (k : ℕ) → Some k ≡ None → ⊥
some_number k e = cc

first_free : (j : ℕ) (rest : Option ℕ) (x : Bool) → cond x (Some j) rest ≡ None → (x ≡ false) × (rest ≡ None)
first_free j rest true h = absurd (some_number j h)
first_free j rest false h = (refl, h)

each_free : (test : ℕ → Bool) (ks : List ℕ) → first_refused test ks ≡ None → (k : ℕ) → IsAmong k ks → test k ≡ false
each_free test [] h k i = absurd i
each_free test (j ∷ ks) h k (inl same) = subst (λ n. test n ≡ false) (sym same) (first_free j (first_refused test ks) (test j) h).0
each_free test (j ∷ ks) h k (inr more) = each_free test ks (first_free j (first_refused test ks) (test j) h).1 k more

second_false : (a b : Bool) → (a || b) ≡ false → b ≡ false
second_false true b h = absurd cc
second_false false b h = h

first_false : (a b : Bool) → (a || b) ≡ false → a ≡ false
first_false true b h = absurd cc
first_false false b h = refl

not_refused : (t : TableData) (side : BoundSide) (k : ℕ) → is_refused_on t side k ≡ false
    → is_refused (counted_binding side (binding_at t k)) t k ≡ false
not_refused t an_input k h = h
not_refused t an_output k h = h
not_refused t an_error k h = second_false (is_status (binding_at t k)) (is_refused (counted_binding an_error (binding_at t k)) t k) h

-- a label counts on inputs alone
label_on : (side : BoundSide) → kept_on side (Some label) ≡ Some label → side ≡ an_input
label_on an_input h = refl
label_on an_output h = absurd cc
label_on an_error h = absurd cc

pub label_side : (side : BoundSide) (o : Option BindingData) → counted_binding side o ≡ Some label → side ≡ an_input
label_side side o h =
    let own = own_binding side o label h in
    label_on side (subst (λ x. kept_on side x ≡ Some label) own (sym (kept_is side o) ∙ h))

-- a status counts on outputs alone
status_on : (side : BoundSide) → kept_on side (Some response_code) ≡ Some response_code → side ≡ an_output
status_on an_input h = absurd cc
status_on an_output h = refl
status_on an_error h = absurd cc

pub status_side : (side : BoundSide) (o : Option BindingData) → counted_binding side o ≡ Some response_code → side ≡ an_output
status_side side o h =
    let own = own_binding side o response_code h in
    status_on side (subst (λ x. kept_on side x ≡ Some response_code) own (sym (kept_is side o) ∙ h))

-- the labels of a goal
abbrev pub labels_on : Role → HttpData → List (List ℕ)
labels_on the_input h = label_names h.uri.segments
labels_on the_output h = []
labels_on (the_error e) h = []

other_side : (side : BoundSide) → side ≡ an_output → side ≡ an_input → ⊥
other_side side x y = no (sym x ∙ y)
  where
    no : an_output ≡ an_input → ⊥
    no e = cc

error_side : (side : BoundSide) → side ≡ an_error → side ≡ an_input → ⊥
error_side side x y = no (sym x ∙ y)
  where
    no : an_error ≡ an_input → ⊥
    no e = cc

module _ (s : ServiceData) (test : Test) (g : Goal) (serves : Serves rest_form s test) (served : ServesGoal rest_form s g)
    (h : HttpData) (http : (operation_at s g.operation).http ≡ Some h)
    (is : IsHttpServable s.table (operation_at s g.operation) h) (free : IsFree s.table (operation_at s g.operation) h) where
  abbrev b : Bound
  b = bound_at s g

  unrefused : (k : ℕ) → IsAmong k (bound_members b) → is_refused (binding_on b k) s.table k ≡ false
  unrefused k i =
      not_refused s.table (side_of g.role) k
      (each_free (is_refused_on s.table (side_of g.role)) (members_at s.table (goal_shape s g))
      (role_free s.table (operation_at s g.operation) g.role free.members served.goal.1) k i)

  right_header : (k : ℕ) (name : List ℕ) → Contains (bound_members b) k → binding_on b k ≡ Some (header name)
      → is_among reserved_names (str_to_ascii_lowercase name) ≡ false
  right_header k name there e =
      first_false (is_among reserved_names (str_to_ascii_lowercase name)) _
      (subst (λ o. is_refused o s.table k ≡ false) e (unrefused k (contains_among k (bound_members b) there)))

  -- a payload that is read is no list and no map
  pub single_payload : (k : ℕ) → IsAmong k (bound_members b) → binding_on b k ≡ Some payload
      → is_collection (kind_of s.table (member_place k)) ≡ false
  single_payload k i e = subst (λ o. is_refused o s.table k ≡ false) e (unrefused k i)

  abbrev IsLabelledIn : List (List ℕ) → ℕ → Type 0
  IsLabelledIn labels k = Contains labels (wire_member_at s.table k).name × ((wire_member_at s.table k).required ≡ true)

  right_labels : (r : Role) → g.role ≡ r → (k : ℕ) → Contains (bound_members b) k → binding_on b k ≡ Some label
      → IsLabelledIn (labels_on r h) k
  right_labels the_input e k there bound =
      let i = contains_among k (bound_members b) there in
      let shape = ap (λ r. role_shape (operation_at s g.operation) r) e in
      let m = subst (λ n. Contains (wire_members s.table n) (wire_member_at s.table k)) shape
      (there_of (wire_member_at s.table) k (bound_members b) i) in
      let own = own_binding (side_of g.role) (binding_at s.table k) label bound in
      (is.labels.labels (wire_member_at s.table k) m own, is.labels.required (wire_member_at s.table k) m own)
  right_labels the_output e k there bound =
      absurd (other_side (side_of g.role) (ap side_of e) (label_side (side_of g.role) (binding_at s.table k) bound))
  right_labels (the_error n) e k there bound =
      absurd (error_side (side_of g.role) (ap side_of e) (label_side (side_of g.role) (binding_at s.table k) bound))

  right_queries : (r : Role) → g.role ≡ r → side_of r ≡ an_input → HaveOwnQueries (wire_members s.table (goal_shape s g))
  right_queries the_input e side =
      subst (λ r. HaveOwnQueries (wire_members s.table (role_shape (operation_at s g.operation) r))) (sym e) is.queries
  right_queries the_output e side = absurd cc
  right_queries (the_error n) e side = absurd cc

  right_names : (r : Role) → AllDiffer (labels_on r h)
  right_names the_input = is.uri.names
  right_names the_output = tt
  right_names (the_error n) = tt

  pub bound_right : IsBoundRight b test (labels_on g.role h)
  bound_right =
      let at = goal_structure s g serves.servable served.goal in
      record {
        shaped = serves.servable.shaped;
        defaults = serves.defaults;
        within = at.0;
        kind = at.1;
        parts = goal_parts s g serves.asks.http served;
        queries = right_queries g.role refl;
        targets = goal_targets s g serves.asks.http served;
        names = right_names g.role;
        labelled = right_labels g.role refl;
        headers = right_header;
      }
