-- What restJson1 writes is framed as itself. The law of texts is handed in by who calls it.
use Rattle.std.proofs.Common.{◌≡◌, ℕ, ◌≤◌, Bool, true, false, ◌||◌, cond, List, [], ◌∷◌, None, Some, refl, sym, ap}
use Rattle.std.proofs.Common.{arith, subst}
use Rattle.std.specs.Prelude.{◌==◌, All, Option, codes, unwrap_or}
use Rattle.std.specs.List.{AllByRecursion, list_all, list_any}
use Rattle.std.specs.Str.{bytes_eq}
use Rattle.std.proofs.lemmas.Bool.Decides.{nat_tests}
use Rattle.std.proofs.lemmas.List.Elements.{All-cons, Contains-get_or}
use Rattle.std.proofs.lemmas.Slice.Eq.{bytes_eq-Decides}
use Rattle.httparse.specs.Grammar.{IsToken, is_token_byte, trim_ows}
use Rattle.sm_rules.specs.Bindings.{an_error, an_output}
use Rattle.sm_compile.specs.declared.compiled.Served.{Served}
use Rattle.sm_compile.specs.declared.compiled.Served.TheVariants.{Yes, Unserved}
use Rattle.sm_shapes.specs.Fitting.{Fits, Test}
use Rattle.sm_shapes.specs.Places.{kind_of, member_place}
use Rattle.sm_shapes.specs.TableData.{TableData, media_type_at}
use Rattle.sm_shapes.specs.Values.{FieldVals, Val, structure_val}
use Rattle.sm_shapes.specs.declared.kinds.ShapeKind.{ShapeKind}
use Rattle.sm_shapes.specs.declared.kinds.ShapeKind.TheVariants as table
use Rattle.sm_shapes.proofs.NamedMembers.{IsAmong}
use Rattle.sm_http.specs.declared.message.Field.{Field}
use Rattle.sm_http.specs.declared.message.Start.TheVariants.{Response}
use Rattle.sm_http.specs.declared.message.MessageSide.TheVariants.{Request as of_requests, Response as of_responses}
use Rattle.sm_http.specs.Laws.{WrittenIsRead}
use Rattle.sm_http.specs.Written.{IsWritableField, IsWritableMessage}
use Rattle.sm_parts.specs.HeaderLists.{is_filled}
use Rattle.sm_parts.specs.Texts.{is_field_byte}
use Rattle.sm_part_texts.specs.CarriedTexts.{is_field_text}
use Rattle.sm_part_texts.specs.Laws.{CarriedTextsPass}
use Rattle.sm_routes.specs.Routes.{is_routed, routed_methods}
use Rattle.sm_bind_laws.specs.service.HttpServable.{IsHttpServable, IsStatusOf}
use Rattle.sm_bind_laws.specs.service.ServiceData.{HttpData, ServiceData, name_of_error}
use Rattle.sm_bind_laws.specs.service.declared.error.ErrorShape.{ErrorShape}
use Rattle.sm_bind_laws.proofs.service.ServableIds.{name_is_identifier}
use Rattle.sm_bind_laws.specs.messages.Goals.{Goal, Role, error_at, goal_of, is_input, no_error, operation_at, the_error}
use Rattle.sm_bind_laws.specs.messages.Goals.{the_input, the_output}
use Rattle.sm_bind_laws.specs.messages.HeadAnswers.{path_unserved}
use Rattle.sm_bind_laws.specs.messages.Heads as heads
use Rattle.sm_bind_laws.specs.messages.IsForm.{Serves, ServesGoal}
use Rattle.sm_bind_laws.specs.messages.TreeBodies.{fields_in, goal_place}
use Rattle.sm_bind_laws.specs.messages.Names.{error_field_name}
use Rattle.sm_bind_laws.specs.messages.WrittenHeads.{fault_status, field_of, written_response}
use Rattle.sm_bind_laws.proofs.messages.TreeBodies.{fields_back, goal_structure, operation_servable}
use Rattle.sm_bind_laws.specs.bind.Roles.{binding_on, bound_members}
use Rattle.sm_bind_laws.specs.bind_read.BoundGoals.{bound_at}
use Rattle.sm_bind_laws.specs.bind_write.CarriedParts.{has_body, uncarried_bound, uncarried_parts}
use Rattle.sm_bind_laws.specs.bind_write.Restrictions.{is_media_type, restriction}
use Rattle.sm_bind_laws.specs.bind_write.WrittenParts.{request_target, written_headers}
use Rattle.sm_bind_laws.proofs.EachCarried.{IsReady, can_be_read}
use Rattle.sm_bind_laws.proofs.FieldsEach.{EachField, each_map}
use Rattle.sm_rest.specs.rest_heads.BodyParts.{part_of}
use Rattle.sm_rest.specs.rest_heads.declared.bodies.BodyPart.{BodyPart}
use Rattle.sm_rest.specs.rest_heads.declared.bodies.BodyPart.TheVariants.{Document, Nothing, Raw, Tree}
use Rattle.sm_bind_bodies.specs.WrittenBodies.{content_bytes}
use Rattle.sm_rest.specs.RestForm.{rest_form}
use Rattle.sm_rest.specs.RestGoals.{code_of, error_status, type_by, type_or, usual_status, usual_type, written_type}
use Rattle.sm_rest.specs.WrittenRest.{goal_bytes, goal_parts, request_by, rest_written}
use Rattle.sm_rest.proofs.GoalsServed.{bound_operation}
use Rattle.sm_rest_laws.proofs.NoReserved.{none_named, none_reserved}
use Rattle.sm_rest_laws.proofs.RightGoals.{IsFree, bound_right, is_free, labels_on}
use Rattle.sm_rest_laws.proofs.StatusesWritten.{status_right, usual_alone}
use Rattle.sm_framed_laws.specs.Framing.{IsWithinLimits, WrittenIsFramed, side_by}
use Rattle.sm_framed_laws.proofs.HeadersWritable.{headers_writable, text_field}
use Rattle.sm_gateway.specs.GatewayData.{is_visible}
use Rattle.sm_framed_laws.proofs.PlainTexts.{and_left, and_right, ascii_utf8, identifier_visible, token_is, visible_uris}
use Rattle.sm_framed_laws.proofs.RestBodies.{code_meets, no_content, status_meets}
use Rattle.sm_framed_laws.proofs.TargetsVisible.{target_filled, target_visible}
use Rattle.sm_framed_laws.proofs.WrittenHeads.{IsFinalStatus, SayNothing, empty_writable, framed_by, request_writable, response_writable, type_token}
use Rattle.sm_framed_laws.proofs.WrittenHeads.{visible_field}

unrestricted : (o : Served) (path : Option (List ℕ)) → path_unserved o path ≡ None → path ≡ None
unrestricted Yes path e = e
unrestricted (Unserved told) path e = absurd cc

-- a method by which an operation is routed is a token
get_token : IsToken (codes "GET")
unfolding is_token_byte
get_token = token_is (codes "GET") refl

put_token : IsToken (codes "PUT")
unfolding is_token_byte
put_token = token_is (codes "PUT") refl

post_token : IsToken (codes "POST")
unfolding is_token_byte
post_token = token_is (codes "POST") refl

patch_token : IsToken (codes "PATCH")
unfolding is_token_byte
patch_token = token_is (codes "PATCH") refl

delete_token : IsToken (codes "DELETE")
unfolding is_token_byte
delete_token = token_is (codes "DELETE") refl

one_of : (P : List ℕ → Type 0) (m : List ℕ) (names : List (List ℕ)) → AllByRecursion P names → list_any (bytes_eq m) names ≡ true → P m
one_of P m [] h e = absurd cc
one_of P m (name ∷ names) h e = by (bytes_eq m name) refl e (λ g. one_of P m names h.1 g)
  where
    by : (t : Bool) → bytes_eq m name ≡ t → (t || list_any (bytes_eq m) names) ≡ true → (list_any (bytes_eq m) names ≡ true → P m) → P m
    by true same e rest = subst P (sym ((bytes_eq-Decides m name).0 same)) h.0
    by false same e rest = rest e

method_token : (m : List ℕ) → is_routed m ≡ true → IsToken m
method_token m h = one_of IsToken m routed_methods (get_token, (put_token, (post_token, (patch_token, (delete_token, tt))))) h

-- the type of a body
json_writable : IsWritableField (field_of (codes "content-type") (codes "application/json"))
json_writable = visible_field (codes "content-type") (codes "application/json") type_token refl

usual_writable : (k : ShapeKind) → IsWritableField (field_of (codes "content-type") (usual_type k))
usual_writable table.Blob = visible_field (codes "content-type") (codes "application/octet-stream") type_token refl
usual_writable k = visible_field (codes "content-type") (codes "text/plain") type_token refl

told_writable : (u usual : List ℕ) → IsWritableField (field_of (codes "content-type") usual)
    → IsWritableField (field_of (codes "content-type") (type_or (Some u) usual))
told_writable u usual h = by (is_media_type u) refl
  where
    by : (t : Bool) → is_media_type u ≡ t → IsWritableField (field_of (codes "content-type") (cond t u usual))
    by true e =
        let text = and_right (is_filled u) (is_field_text u) e in
        text_field (codes "content-type") u type_token (record {
          bytes = and_left (list_all is_field_byte u) (bytes_eq (trim_ows u) u) text;
          trim = (bytes_eq-Decides (trim_ows u) u).0 (and_right (list_all is_field_byte u) (bytes_eq (trim_ows u) u) text);
        })
    by false e = h

or_writable : (o : Option (List ℕ)) (usual : List ℕ) → IsWritableField (field_of (codes "content-type") usual)
    → IsWritableField (field_of (codes "content-type") (type_or o usual))
or_writable None usual h = h
or_writable (Some u) usual h = told_writable u usual h

type_writable : (t : TableData) (p : BodyPart) → IsWritableField (field_of (codes "content-type") (type_by t p))
type_writable t Document = json_writable
type_writable t Tree = json_writable
type_writable t (Raw k) =
    or_writable (media_type_at t k) (usual_type (kind_of t (member_place k))) (usual_writable (kind_of t (member_place k)))
type_writable t Nothing = json_writable

-- statuses
success_final : (n : ℕ) → heads.is_success (Response n) ≡ true → IsFinalStatus n × ((n == 304) ≡ false)
success_final n h = (record { low = grind (arith, nat_tests); high = grind (arith, nat_tests) }, grind (arith, nat_tests))

success_right : (n : ℕ) → 200 ≤ n → n ≤ 299 → heads.is_success (Response n) ≡ true
success_right n least most = grind (arith, nat_tests)

failing_final : (n : ℕ) → 400 ≤ n → n ≤ 599 → IsFinalStatus n × ((n == 204) ≡ false) × ((n == 304) ≡ false)
failing_final n low high = (record { low = omega (arith, low); high = omega (arith, high) }, grind (arith, nat_tests), grind (arith, nat_tests))

error_final : (e : ErrorShape) → IsStatusOf e.client e.status
    → IsFinalStatus (error_status e) × ((error_status e == 204) ≡ false) × ((error_status e == 304) ≡ false)
error_final e is = by e.client e.status is
  where
    by : (client : Bool) (status : Option ℕ) → IsStatusOf client status
        → IsFinalStatus (unwrap_or status (fault_status client)) × ((unwrap_or status (fault_status client) == 204) ≡ false)
        × ((unwrap_or status (fault_status client) == 304) ≡ false)
    by true None h = failing_final 400 (omega arith) (omega arith)
    by false None h = failing_final 500 (omega arith) (omega arith)
    by true (Some status) h = failing_final status h.0 (omega (arith, h.1))
    by false (Some status) h = failing_final status (omega (arith, h.0)) h.1

other_error : an_error ≡ an_output → ⊥
other_error e = cc

error_token : IsToken error_field_name
unfolding is_token_byte
error_token = token_is error_field_name refl

module _ (pass : CarriedTextsPass) (s : ServiceData) (test : Test) (serves : Serves rest_form s test) (host : List ℕ)
    (shown : list_all is_visible host ≡ true) (fs : FieldVals) where
  abbrev v : Val
  v = structure_val fs

  -- what is known of a goal
  pub record IsGoal (g : Goal) : Type 0 where
    pub served : ServesGoal rest_form s g
    pub rule : HttpData
    pub has_rule : (operation_at s g.operation).http ≡ Some rule
    pub http : IsHttpServable s.table (operation_at s g.operation) rule
    pub free : IsFree s.table (operation_at s g.operation) rule
    pub inside : EachField (λ k w. IsAmong k (bound_members (bound_at s g))) fs
    pub carried : EachField (λ k w. uncarried_bound (binding_on (bound_at s g) k) (bound_at s g) k w ≡ []) fs
    pub say : SayNothing (goal_parts s g v).fields
    pub each : All IsWritableField (goal_parts s g v).fields

  pub goal_known : (g : Goal) → ServesGoal rest_form s g → Fits s.table test (goal_place s g) v → uncarried_parts (bound_at s g) v ≡ []
      → IsGoal g
  goal_known g served fits carried =
      let b = bound_at s g in
      let op = bound_operation s g.operation serves.asks.http served.operation in
      let none = unrestricted (operation_at s g.operation).served (restriction s g.operation) served.operation.served in
      let free = is_free s.table (operation_at s g.operation) op.rule op.has_rule none in
      let right = bound_right s test g serves served op.rule op.has_rule op.http free in
      let labels = labels_on g.role op.rule in
      let ready = can_be_read b test labels fs right fits.1 carried in
      let inside = each_map (IsReady b test) (λ k w. IsAmong k (bound_members b)) (λ k w r. r.among) fs ready.each in
      let whole = each_map (IsReady b test) (λ k w. uncarried_bound (binding_on b k) b k w ≡ []) (λ k w r. r.carried) fs ready.each in
      let reserved = none_reserved b test labels right fs inside whole in
      record {
        served = served;
        rule = op.rule;
        has_rule = op.has_rule;
        http = op.http;
        free = free;
        inside = inside;
        carried = whole;
        say = record {
          coding = none_named (codes "transfer-encoding") (written_headers b fs) refl reserved;
          length = none_named (codes "content-length") (written_headers b fs) refl reserved;
          connection = none_named (codes "connection") (written_headers b fs) refl reserved;
        };
        each = headers_writable pass b test serves.servable.tokens fs ready.each;
      }

  input_writable : (o : ℕ) → IsGoal (goal_of o the_input) → IsWithinLimits (rest_written s (goal_of o the_input) host v)
      → IsWritableMessage of_requests (rest_written s (goal_of o the_input) host v)
  input_writable o k within =
      let g = goal_of o the_input in
      let b = bound_at s g in
      let h = k.rule in
      let parts = goal_parts s g v in
      let target = request_target h.uri parts in
      let body = goal_bytes s g v in
      let seen = target_visible h.uri parts.labels parts.query in
      subst (λ rule. IsWithinLimits (request_by rule host (written_type b) parts body)
      → IsWritableMessage of_requests (request_by rule host (written_type b) parts body)) (sym k.has_rule)
      (λ short. request_writable h.method target host (written_type b) parts.fields body (method_token h.method k.free.routed)
      (target_filled h.uri parts.labels parts.query) (visible_uris target seen) (ascii_utf8 target seen) shown
      (type_writable b.table (part_of b)) k.each k.say short) within

  response_by : (g : Goal) (status : ℕ) (more : List Field) (empty : Bool) → status == 204 ≡ empty → IsFinalStatus status
      → status == 304 ≡ false → (status == 204 ≡ true → goal_bytes s g v ≡ []) → All IsWritableField more → SayNothing more
      → IsWithinLimits (written_response status (written_type (bound_at s g)) more (goal_bytes s g v))
      → IsWritableMessage of_responses (written_response status (written_type (bound_at s g)) more (goal_bytes s g v))
  response_by g status more false e final kept none each say within =
      response_writable status (written_type (bound_at s g)) more (goal_bytes s g v) final e kept
      (type_writable s.table (part_of (bound_at s g))) each say within
  response_by g status more true e final kept none each say within =
      let type = written_type (bound_at s g) in
      let is : status ≡ 204 = same status e in
      let bytes = none e in
      subst (λ n. IsWritableMessage of_responses (written_response n type more (goal_bytes s g v))) (sym is)
      (subst (λ u. IsWritableMessage of_responses (written_response 204 type more u)) (sym bytes)
      (empty_writable type more each say (subst (λ u. IsWithinLimits (written_response 204 type more u)) bytes
      (subst (λ n. IsWithinLimits (written_response n type more (goal_bytes s g v))) is within))))
    where
      same : (n : ℕ) → n == 204 ≡ true → n ≡ 204
      same n e = grind (arith, nat_tests)

  no_bytes : (g : Goal) (k : IsGoal g) → has_body (bound_at s g) ≡ false → goal_bytes s g v ≡ []
  no_bytes g k h = ap content_bytes (no_content (bound_at s g) fs h k.inside)

  output_writable : (o : ℕ) → IsGoal (goal_of o the_output) → IsWithinLimits (rest_written s (goal_of o the_output) host v)
      → IsWritableMessage of_responses (rest_written s (goal_of o the_output) host v)
  output_writable o k within =
      let g = goal_of o the_output in
      let b = bound_at s g in
      let status = (goal_parts s g v).status in
      let code = ap code_of k.has_rule in
      let usual = subst (λ n. heads.is_success (Response n) ≡ true) (sym code) (success_right k.rule.code k.http.code.least k.http.code.most) in
      let right = success_final status (status_right b (usual_status s g) fs k.carried usual) in
      let meets = status_meets b (usual_status s g) fs k.carried
      (subst (λ n. n == 204 ≡ true → has_body b ≡ false) (sym code) (code_meets b k.rule.code refl k.http.code)) in
      response_by g status (goal_parts s g v).fields (status == 204) refl right.0 right.1 (λ e. no_bytes g k (meets e)) k.each k.say within

  error_writable : (o e : ℕ) → IsGoal (goal_of o (the_error e)) → IsWithinLimits (rest_written s (goal_of o (the_error e)) host v)
      → IsWritableMessage of_responses (rest_written s (goal_of o (the_error e)) host v)
  error_writable o e k within =
      let g = goal_of o (the_error e) in
      let b = bound_at s g in
      let error = error_at (operation_at s o) e in
      let name = name_of_error error in
      let status = (goal_parts s g v).status in
      let there = Contains-get_or (operation_at s o).errors e no_error k.served.goal.1 in
      let alone = usual_alone b (usual_status s g) fs other_error in
      let final = subst (λ n. IsFinalStatus n × ((n == 204) ≡ false) × ((n == 304) ≡ false)) (sym alone)
      (error_final error (k.http.statuses error there)) in
      let is = operation_servable s o serves.servable k.served.operation.within in
      let told = visible_field error_field_name name error_token (identifier_visible name (name_is_identifier error.id (is.errors error there).1)) in
      response_writable status (written_type b) (field_of error_field_name name ∷ (goal_parts s g v).fields) (goal_bytes s g v)
      final.0 final.1 final.2 (type_writable s.table (part_of b))
      (All-cons IsWritableField (field_of error_field_name name) (goal_parts s g v).fields told k.each)
      (record { coding = k.say.coding; length = k.say.length; connection = k.say.connection }) within

  role_writable : (o : ℕ) (r : Role) → IsGoal (goal_of o r) → IsWithinLimits (rest_written s (goal_of o r) host v)
      → IsWritableMessage (side_by (is_input r)) (rest_written s (goal_of o r) host v)
  role_writable o the_input k within = input_writable o k within
  role_writable o the_output k within = output_writable o k within
  role_writable o (the_error e) k within = error_writable o e k within

  pub goal_writable : (g : Goal) → ServesGoal rest_form s g → Fits s.table test (goal_place s g) v → uncarried_parts (bound_at s g) v ≡ []
      → IsWithinLimits (rest_written s g host v) → IsWritableMessage (side_by (is_input g.role)) (rest_written s g host v)
  goal_writable g served fits carried within = role_writable g.operation g.role (goal_known g served fits carried) within

pub rest_framed : CarriedTextsPass
    → WrittenIsRead of_requests → WrittenIsRead of_responses → WrittenIsFramed rest_form
rest_framed pass asked answered s test g host v serves served fits carried is short = λ rest.
    let at = goal_structure s g serves.servable served.goal in
    let back = fields_back s.table test (goal_place s g) v at.1 fits in
    framed_by asked answered g.role (rest_written s g host v) rest
    (subst (λ w. IsWithinLimits (rest_written s g host w) → IsWritableMessage (side_by (is_input g.role)) (rest_written s g host w)) back
    (goal_writable pass s test serves host (is.2) (fields_in v) g served
    (subst (λ w. Fits s.table test (goal_place s g) w) (sym back) fits)
    (subst (λ w. uncarried_parts (bound_at s g) w ≡ []) (sym back) carried)) short)
