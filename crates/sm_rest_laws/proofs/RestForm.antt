-- What restJson1 writes for a value that is carried is a message that spells it. The laws of parts are handed in by who calls it.
use Rattle.std.proofs.Common.{◌≡◌, ℕ, ◌≤◌, Bool, true, ◌&&◌, List, [], ◌∷◌, None, Some, refl, sym, ap, ◌∙◌, arith, subst}
use Rattle.std.specs.Prelude.{Option, nat_le}
use Rattle.std.specs.List.{AllByRecursion, Contains}
use Rattle.std.proofs.lemmas.Bool.Decides.{nat_tests}
use Rattle.std.proofs.lemmas.List.Elements.{Contains-get_or}
use Rattle.std.proofs.lemmas.Slice.Eq.{bytes_eq-Decides}
use Rattle.sm_rules.specs.Bindings.{an_error, an_input, an_output}
use Rattle.sm_compile.specs.declared.compiled.Served.{Served}
use Rattle.sm_compile.specs.declared.compiled.Served.TheVariants.{Yes, Unserved}
use Rattle.sm_model.proofs.OneRising.{contains_behind, contains_head}
use Rattle.sm_shapes.specs.Fitting.{Fits, Test}
use Rattle.sm_shapes.specs.Places.{member_place, root_place}
use Rattle.sm_shapes.specs.Values.{FieldVals, Val, structure_val}
use Rattle.sm_shapes.proofs.NamedMembers.{IsAmong}
use Rattle.sm_http.specs.declared.message.Start.TheVariants.{Response}
use Rattle.sm_bind_laws.specs.service.HttpServable.{IsHttpServable}
use Rattle.sm_bind_laws.specs.service.ServiceData.{HttpData, ServiceData, name_of_error}
use Rattle.sm_bind_laws.specs.messages.Goals.{Goal, Role, error_at, goal_of, goal_shape, no_error, no_operation, operation_at, the_error, the_input}
use Rattle.sm_bind_laws.specs.messages.Goals.{the_output}
use Rattle.sm_bind_laws.specs.messages.HeadAnswers.{path_unserved, to_goal}
use Rattle.sm_bind_laws.specs.messages.Heads.{is_success}
use Rattle.sm_bind_laws.specs.messages.IsForm.{IsForm, Serves, ServesGoal}
use Rattle.sm_bind_laws.specs.messages.Messages.{Msg, request_head, response_head}
use Rattle.sm_bind_laws.specs.messages.TreeBodies.{fields_in, goal_place}
use Rattle.sm_bind_laws.specs.messages.Names.{error_field_name}
use Rattle.sm_bind_laws.specs.messages.WrittenHeads.{field_of, written_request, written_response}
use Rattle.sm_bind_laws.proofs.messages.TreeBodies.{fields_back, goal_structure, operation_servable}
use Rattle.sm_uri.specs.UriPattern.{QueryLiteral, label_names}
use Rattle.sm_parts.specs.Laws.{AreBytesOf}
use Rattle.sm_routes.specs.Routes.{literal_pair, route_matches}
use Rattle.sm_part_texts.specs.Laws.{CarriedTextsPass}
use Rattle.sm_bind_laws.specs.bind.Roles.{binding_on, bound_members}
use Rattle.sm_bind_laws.specs.bind_read.BoundGoals.{bound_at}
use Rattle.sm_bind_laws.specs.bind_read.PartFaults.{parts_reading}
use Rattle.sm_bind_laws.specs.bind_write.CarriedParts.{uncarried_bound, uncarried_parts}
use Rattle.sm_bind_laws.specs.bind_write.Restrictions.{restriction}
use Rattle.sm_bind_laws.specs.bind_write.WrittenParts.{request_target, written_content}
use Rattle.sm_bind_laws.specs.BoundRight.{IsBoundRight}
use Rattle.sm_bind_laws.specs.Laws.{WrittenPartsRead}
use Rattle.sm_bind_laws.specs.WrittenLabels.{IsLiteralOfBytes}
use Rattle.sm_bind_laws.proofs.EachCarried.{CanBeRead, IsReady, can_be_read}
use Rattle.sm_bind_laws.proofs.FieldsEach.{each_map}
use Rattle.sm_bind_laws.proofs.TargetsRead.{target_again}
use Rattle.sm_bind_laws.proofs.WrittenMatches.{AreSegmentBytes, target_matches}
use Rattle.sm_rest.specs.rest_heads.RestParts.{request_parts, response_parts}
use Rattle.sm_rest.specs.rest_heads.RestRoutes.{IsForOperation, route_of}
use Rattle.sm_rest.specs.RestForm.{rest_form}
use Rattle.sm_rest.specs.RestGoals.{code_of, usual_status, written_type}
use Rattle.sm_rest.specs.RestServable.{HasByteLiterals}
use Rattle.sm_rest.specs.WrittenRest.{goal_bytes, goal_parts, request_by, rest_written}
use Rattle.sm_rest.proofs.GoalsServed.{bound_operation}
use Rattle.sm_rest.proofs.RestReads.{rest_reads}
use Rattle.sm_rest_laws.proofs.BodiesWritten.{IsBodyRead, body_read}
use Rattle.sm_rest_laws.proofs.FoundHeads.{error_found, output_found, request_found}
use Rattle.sm_rest_laws.proofs.HeadsWritten.{error_right, error_status_fails, output_right, request_right}
use Rattle.sm_rest_laws.proofs.NoReserved.{NoneReserved, none_reserved}
use Rattle.sm_rest_laws.proofs.RightGoals.{IsFree, bound_right, is_free, labels_on, single_payload}
use Rattle.sm_rest_laws.proofs.StatusesWritten.{no_pairs, status_right, usual_alone}
use Rattle.sm_rest_laws.proofs.TargetsWritten.{can_be_written}

unrestricted : (o : Served) (path : Option (List ℕ)) → path_unserved o path ≡ None → path ≡ None
unrestricted Yes path e = e
unrestricted (Unserved told) path e = absurd cc

both_true : (a b : Bool) → a ≡ true → b ≡ true → (a && b) ≡ true
both_true a b x y = ap (λ t. t && b) x ∙ y

all_from : {X : Type 0} (P : X → Type 0) (xs : List X) → ((x : X) → Contains xs x → P x) → AllByRecursion P xs
all_from P [] f = tt
all_from P (x ∷ xs) f = (f x (contains_head x xs), all_from P xs (λ y i. f y (contains_behind x y xs i)))

literal_of_bytes : (l : QueryLiteral) → AreBytesOf (literal_pair l) → IsLiteralOfBytes l
literal_of_bytes (key, None) h = (h.0, tt)
literal_of_bytes (key, Some value) h = (h.0, h.1)

success_right : (n : ℕ) → 200 ≤ n → n ≤ 299 → (nat_le 200 n && nat_le n 299) ≡ true
success_right n least most = grind (arith, nat_tests)

other_output : an_output ≡ an_input → ⊥
other_output e = cc

other_error : an_error ≡ an_input → ⊥
other_error e = cc

no_output : an_input ≡ an_output → ⊥
no_output e = cc

no_error_output : an_error ≡ an_output → ⊥
no_error_output e = cc

module _ (parts_read : WrittenPartsRead) (pass : CarriedTextsPass) (s : ServiceData) (test : Test) (serves : Serves rest_form s test)
    (host : List ℕ) (fs : FieldVals) where
  abbrev v : Val
  v = structure_val fs

  -- what is known of a goal
  pub record IsGoal (g : Goal) : Type 0 where
    pub served : ServesGoal rest_form s g
    pub fits : Fits s.table test (goal_place s g) v
    pub carried : uncarried_parts (bound_at s g) v ≡ []
    pub rule : HttpData
    pub has_rule : (operation_at s g.operation).http ≡ Some rule
    pub http : IsHttpServable s.table (operation_at s g.operation) rule
    pub free : IsFree s.table (operation_at s g.operation) rule
    pub right : IsBoundRight (bound_at s g) test (labels_on g.role rule)
    pub ready : CanBeRead (bound_at s g) test (labels_on g.role rule) fs
    pub reserved : NoneReserved (goal_parts s g v).fields
    pub body : IsBodyRead (bound_at s g) (written_content (bound_at s g) v) (goal_bytes s g v)

  goal_known : (g : Goal) → ServesGoal rest_form s g → Fits s.table test (goal_place s g) v → uncarried_parts (bound_at s g) v ≡ []
      → IsGoal g
  goal_known g served fits carried =
      let b = bound_at s g in
      let op = bound_operation s g.operation serves.asks.http served.operation in
      let none = unrestricted (operation_at s g.operation).served (restriction s g.operation) served.operation.served in
      let free = is_free s.table (operation_at s g.operation) op.rule op.has_rule none in
      let right = bound_right s test g serves served op.rule op.has_rule op.http free in
      let single = single_payload s test g serves served op.rule op.has_rule op.http free in
      let labels = labels_on g.role op.rule in
      let ready = can_be_read b test labels fs right fits.1 carried in
      record {
        served = served;
        fits = fits;
        carried = carried;
        rule = op.rule;
        has_rule = op.has_rule;
        http = op.http;
        free = free;
        right = right;
        ready = ready;
        reserved = none_reserved b test labels right fs
            (each_map (IsReady b test) (λ k w. IsAmong k (bound_members b)) (λ k w r. r.among) fs ready.each)
            (each_map (IsReady b test) (λ k w. uncarried_bound (binding_on b k) b k w ≡ []) (λ k w r. r.carried) fs ready.each);
        body = body_read b test labels right single fs
            (each_map (IsReady b test)
            (λ k w. IsAmong k (bound_members b) × Fits b.table test (member_place k) w × (uncarried_bound (binding_on b k) b k w ≡ []))
            (λ k w r. (r.among, r.fits, r.carried)) fs ready.each);
      }

  texts_of : (o : ℕ) (k : IsGoal (goal_of o the_input)) → HasByteLiterals k.rule.uri
  texts_of o k =
      let there = Contains-get_or s.operations o no_operation k.served.operation.within in
      serves.asks.texts.patterns (operation_at s o) k.rule there k.has_rule

  input_is : (o : ℕ) → IsGoal (goal_of o the_input)
      → Msg rest_form s test (goal_of o the_input) v (rest_written s (goal_of o the_input) host v)
  input_is o k =
      let g = goal_of o the_input in
      let b = bound_at s g in
      let h = k.rule in
      let parts = goal_parts s g v in
      let target = request_target h.uri parts in
      let body = goal_bytes s g v in
      let message = written_request h.method target host (written_type b) parts.fields body in
      let texts = texts_of o k in
      let literals = all_from IsLiteralOfBytes h.uri.literals (λ l i. literal_of_bytes l (texts.literals l i)) in
      let segments : AreSegmentBytes h.uri.segments = all_from _ h.uri.segments (λ z i. texts.segments z i) in
      let can = can_be_written pass b test h.uri fs k.ready (record {
        side = refl;
        labels = k.http.labels;
        literals = literals;
        keys = λ j name e. serves.asks.texts.queries j name e;
      }) (usual_status s g) in
      let again = target_again h.uri parts k.http.uri can in
      let matches : route_matches h.method target (route_of o (operation_at s o).name h) ≡ true =
      both_true _ _ k.free.routed
      (both_true _ _ ((bytes_eq-Decides h.method h.method).1 refl)
      (target_matches h.uri parts.labels parts.query k.http.uri can segments))
      in
      let asks : IsForOperation s o message.head =
      record { method = h.method; target = target; start = refl; rule = h; has_rule = k.has_rule; matches = matches }
      in
      let found = request_found h (label_names h.uri.segments) parts host (written_type b) body
      again.0 again.1 (usual_alone b 200 fs no_output) in
      let msg : Msg rest_form s test g v message =
      record {
        there = to_goal g;
        head = request_head o refl asks (request_right s o h.method target host parts.fields body k.reserved) refl;
        goal = refl;
        content = k.body.content;
        has = k.body.has;
        spells = ap (λ rule. parts_reading b test (request_parts rule message.head) k.body.content) k.has_rule
            ∙ parts_read b test (label_names h.uri.segments) (usual_status s g) v (request_parts (Some h) message.head) k.body.content
            k.right k.fits k.carried found k.body.same;
      }
      in
      subst (λ rule. Msg rest_form s test g v (request_by rule host (written_type b) parts body)) (sym k.has_rule) msg

  output_is : (o : ℕ) → IsGoal (goal_of o the_output)
      → Msg rest_form s test (goal_of o the_output) v (rest_written s (goal_of o the_output) host v)
  output_is o k =
      let g = goal_of o the_output in
      let b = bound_at s g in
      let parts = goal_parts s g v in
      let body = goal_bytes s g v in
      let message = written_response parts.status (written_type b) parts.fields body in
      let code : is_success (Response (usual_status s g)) ≡ true =
      ap (λ rule. is_success (Response (code_of rule))) k.has_rule ∙ success_right k.rule.code k.http.code.least k.http.code.most
      in
      let ok = status_right b (usual_status s g) fs
      (each_map (IsReady b test) (λ j w. uncarried_bound (binding_on b j) b j w ≡ []) (λ j w r. r.carried) fs k.ready.each) code in
      record {
        there = to_goal g;
        head = response_head o refl (output_right s o parts.status (written_type b) parts.fields body k.reserved ok);
        goal = refl;
        content = k.body.content;
        has = k.body.has;
        spells = parts_read b test [] (usual_status s g) v (response_parts message.head) k.body.content k.right k.fits k.carried
            (output_found parts (written_type b) body (no_pairs b fs other_output)) k.body.same;
      }

  error_is : (o e : ℕ) → IsGoal (goal_of o (the_error e))
      → Msg rest_form s test (goal_of o (the_error e)) v (rest_written s (goal_of o (the_error e)) host v)
  error_is o e k =
      let g = goal_of o (the_error e) in
      let b = bound_at s g in
      let parts = goal_parts s g v in
      let body = goal_bytes s g v in
      let error = error_at (operation_at s o) e in
      let name = name_of_error error in
      let message = written_response parts.status (written_type b) (field_of error_field_name name ∷ parts.fields) body in
      let there = Contains-get_or (operation_at s o).errors e no_error k.served.goal.1 in
      let fails = ap (λ n. is_success (Response n)) (usual_alone b (usual_status s g) fs no_error_output)
      ∙ error_status_fails error (k.http.statuses error there) in
      let is = operation_servable s o serves.servable k.served.operation.within in
      record {
        there = to_goal g;
        head = response_head o refl
            (error_right s o e parts.status (written_type b) parts.fields body k.reserved is k.served.goal.1 fails);
        goal = refl;
        content = k.body.content;
        has = k.body.has;
        spells = parts_read b test [] (usual_status s g) v (response_parts message.head) k.body.content k.right k.fits k.carried
            (error_found parts (written_type b) name body (no_pairs b fs other_error)) k.body.same;
      }

  role_is : (o : ℕ) (r : Role) → IsGoal (goal_of o r) → Msg rest_form s test (goal_of o r) v (rest_written s (goal_of o r) host v)
  role_is o the_input k = input_is o k
  role_is o the_output k = output_is o k
  role_is o (the_error e) k = error_is o e k

  pub goal_is : (g : Goal) → ServesGoal rest_form s g → Fits s.table test (goal_place s g) v → uncarried_parts (bound_at s g) v ≡ []
      → Msg rest_form s test g v (rest_written s g host v)
  goal_is g served fits carried = role_is g.operation g.role (goal_known g served fits carried)

pub rest_written_is : WrittenPartsRead → CarriedTextsPass → (s : ServiceData) (test : Test) (g : Goal) (host : List ℕ) (v : Val)
    → Serves rest_form s test → ServesGoal rest_form s g → Fits s.table test (root_place (goal_shape s g)) v
    → uncarried_parts (bound_at s g) v ≡ [] → Msg rest_form s test g v (rest_written s g host v)
rest_written_is parts pass s test g host v serves served fits carried =
    let at = goal_structure s g serves.servable served.goal in
    let back = fields_back s.table test (goal_place s g) v at.1 fits in
    subst (λ w. Msg rest_form s test g w (rest_written s g host w)) back
    (goal_is parts pass s test serves host (fields_in v) g served
    (subst (λ w. Fits s.table test (goal_place s g) w) (sym back) fits)
    (subst (λ w. uncarried_parts (bound_at s g) w ≡ []) (sym back) carried))

pub rest_is_form : WrittenPartsRead → CarriedTextsPass → IsForm rest_form
rest_is_form parts pass = record {
  reads = rest_reads;
  written_is = λ s test g host v serves served fits carried small. rest_written_is parts pass s test g host v serves served fits carried;
}
