-- Smithy RPC v2 CBOR is a form of messages: how its messages are read, and that what is written is a message. The laws of CBOR's texts are
-- handed in by who calls them.
use Rattle.std.proofs.Common.{◌≡◌, ℕ, ◌<◌, ◌+◌, ◌*◌, Bool, true, false, cond, List, [], ◌∷◌, ◌++◌, None, Some, length, nat_lt, refl, sym, ap, ◌∙◌}
use Rattle.std.proofs.Common.{arith, subst}
use Rattle.std.specs.Prelude.{◌&&◌, ◌^◌, IsUtf8, codes, if◌then◌else◌}
use Rattle.std.proofs.lemmas.Bool.Decides.{nat_tests}
use Rattle.std.proofs.lemmas.List.Elements.{Contains-get_or}
use Rattle.std.proofs.lemmas.List.Sums.{AllPass-from_list_all}
use Rattle.std.proofs.lemmas.Str.{IsUtf8-from_ascii}
use Rattle.std.proofs.lemmas.Str.Ascii.{IsAscii-from_all}
use Rattle.httparse.specs.Grammar.{trim_ows}
use Rattle.sm_ids.specs.Identifier.{is_identifier_byte}
use Rattle.sm_tree.specs.Json.{IsCbor}
use Rattle.sm_tree.specs.Node.{Members, Node, member, no_members, object, text}
use Rattle.sm_tree.specs.Syntax.{TreeFormat}
use Rattle.sm_tree.specs.SyntaxLaws.{HasOneAnswer, HasOneReading, HasSomeAnswer}
use Rattle.sm_cbor.specs.Refusals.{cbor_syntax}
use Rattle.sm_cbor.specs.Laws.{WrittenIsItem}
use Rattle.sm_cbor.specs.Written.{eight_bytes, four_bytes, two_bytes, written_head, written_item, written_item_pairs}
use Rattle.sm_tree.specs.Streams.{pair_count}
use Rattle.sm_ast.proofs.JsonGiven.{id_utf8}
use Rattle.sm_shapes.specs.Fitting.{Fits, Test}
use Rattle.sm_shapes.specs.Places.{root_place}
use Rattle.sm_shapes.specs.TableData.{shape_count}
use Rattle.sm_shapes.specs.Values.{FieldVals, Val, field, no_fields, structure_val}
use Rattle.sm_compile.specs.Served.{type_name}
use Rattle.sm_compile.specs.declared.compiled.Served.{Served}
use Rattle.sm_compile.specs.declared.compiled.Served.TheVariants.{Yes, Unserved}
use Rattle.sm_codec.specs.Conventions.{cbor_convention}
use Rattle.sm_codec.specs.Written.{uncarried, written_fields}
use Rattle.sm_codec.proofs.CborLaws.{cbor_laws}
use Rattle.sm_codec.proofs.CborWrites.{cbor_writes}
use Rattle.sm_codec.proofs.WrittenForms.{written_is_cbor}
use Rattle.sm_http.specs.declared.message.Head.{Head}
use Rattle.sm_http.specs.declared.message.Start.{Start}
use Rattle.sm_http.specs.declared.message.Start.TheVariants.{Request}
use Rattle.sm_service.specs.ErrorOrder.{place_named}
use Rattle.sm_service.specs.Servable.{IsServableOperation, Servable}
use Rattle.sm_service.specs.ServiceData.{ServiceData}
use Rattle.sm_messages.specs.Goals.{Goal, Role, error_at, goal_of, goal_shape, no_error, no_operation, operation_at, the_error, the_input}
use Rattle.sm_messages.specs.Goals.{the_output}
use Rattle.sm_messages.specs.HeadAnswers.{addressed, is_request_type, path_unserved, response_answer, to_goal, to_named_error}
use Rattle.sm_messages.specs.Heads.{is_empty}
use Rattle.sm_messages.specs.IsForm.{IsForm, ReadsMessages, Serves, ServesGoal}
use Rattle.sm_messages.specs.MessageForm.{HasContent, a_tree, as_empty_object, as_text}
use Rattle.sm_messages.specs.Messages.{Msg, error_of_tree, request_head, response_head}
use Rattle.sm_messages.specs.TreeBodies.{fields_in, goal_place, is_unit, tree_uncarried}
use Rattle.sm_messages.specs.WrittenHeads.{fault_status, written_request, written_response}
use Rattle.sm_messages.proofs.ErrorsTold.{id_told, place_of_error}
use Rattle.sm_messages.proofs.OperationsNamed.{one_number, same_behind}
use Rattle.sm_messages.proofs.TreeBodies.{fields_back, goal_structure, operation_servable, tree_no_fault, tree_one_value, tree_spelled_fits}
use Rattle.sm_messages.proofs.TreeBodies.{tree_written_spells}
use Rattle.sm_rpc.specs.Heads.{IsForOperation, accept_field, cbor_type, path_of, protocol_field}
use Rattle.sm_rpc.specs.Messages.{body_of, has_nothing, rpc_form, rpc_written}

same_target : (m a b : List ℕ) → Path Start (Request m a) (Request m b) → a ≡ b
same_target m a b e = cc

one_path : (s : ServiceData) (head : Head) (o p : ℕ) → Servable s → IsForOperation s o head → IsForOperation s p head → o ≡ p
one_path s head o p servable x y =
    let paths = same_target (codes "POST") (path_of s o) (path_of s p) (sym x.start ∙ y.start) in
    let front = codes "/service/" ++ s.name ++ codes "/operation/" in
    let names = same_behind front (operation_at s o).name (operation_at s p).name paths in
    one_number (λ k. k.name) s.operations no_operation o p servable.order x.within y.within names

pub rpc_reads : HasOneReading cbor_syntax → HasOneAnswer cbor_syntax → HasSomeAnswer cbor_syntax → ReadsMessages rpc_form
rpc_reads reading one some = record {
  one_operation = λ s test head o p serves x y. one_path s head o p serves.servable x y;
  asked_for = λ s head o x. x;
  within = λ s head o x. x.within;
  one_reading = reading;
  one_answer = one;
  some_answer = some;
  empty_tells_none = refl;
  no_fault = λ s test g head c serves served.
      tree_no_fault cbor_convention cbor_laws s test g c serves.servable serves.defaults served.goal;
  one_value = λ s test g head c v w serves served x y.
      tree_one_value cbor_convention cbor_laws s test g c v w serves.servable serves.defaults served.goal x y;
  spelled_fits = λ s test g head c v serves served x. tree_spelled_fits cbor_convention s test g c v x;
}

-- an operation that is served is served by its model
yes_served : (o : Served) → path_unserved o None ≡ None → o ≡ Yes
yes_served Yes e = refl
yes_served (Unserved path) e = absurd cc

plain_byte : (c : ℕ) → is_identifier_byte c ≡ true → c < 128
plain_byte c h = grind (arith, nat_tests)

type_utf8 : IsUtf8 type_name
type_utf8 =
    IsUtf8-from_ascii type_name (IsAscii-from_all type_name
    (λ k d lt. plain_byte _ (AllPass-from_list_all is_identifier_byte type_name refl k d lt)))

-- the heads that are written, whether their bodies are empty or not
right_type : (s : ServiceData) (o : ℕ) (host : List ℕ) (body : List ℕ)
    → is_request_type rpc_form s o
    (written_request (codes "POST") (path_of s o) host cbor_type (protocol_field ∷ accept_field ∷ []) body).head (is_empty body)
    ≡ true
unfolding trim_ows
right_type s o host [] = refl
right_type s o host (b ∷ bs) = refl

marked_request : (s : ServiceData) (o : ℕ) (host : List ℕ) (body : List ℕ)
    → rpc_form.is_marked (written_request (codes "POST") (path_of s o) host cbor_type (protocol_field ∷ accept_field ∷ []) body).head ≡ true
marked_request s o host [] = refl
marked_request s o host (b ∷ bs) = refl

output_answer : (s : ServiceData) (o : ℕ) (body : List ℕ)
    → response_answer rpc_form s (written_response 200 cbor_type (protocol_field ∷ []) body).head o ≡ addressed (to_goal (goal_of o the_output))
output_answer s o [] = refl
output_answer s o (b ∷ bs) = refl

marked_output : (body : List ℕ) → rpc_form.is_marked (written_response 200 cbor_type (protocol_field ∷ []) body).head ≡ true
marked_output [] = refl
marked_output (b ∷ bs) = refl

error_answer : (s : ServiceData) (o : ℕ) (client : Bool) (body : List ℕ)
    → response_answer rpc_form s (written_response (fault_status client) cbor_type (protocol_field ∷ []) body).head o
    ≡ addressed (to_named_error o)
error_answer s o true [] = refl
error_answer s o true (b ∷ bs) = refl
error_answer s o false [] = refl
error_answer s o false (b ∷ bs) = refl

marked_error : (client : Bool) (body : List ℕ)
    → rpc_form.is_marked (written_response (fault_status client) cbor_type (protocol_field ∷ []) body).head ≡ true
marked_error true [] = refl
marked_error true (b ∷ bs) = refl
marked_error false [] = refl
marked_error false (b ∷ bs) = refl

-- an item isn't empty
head_filled : (major n : ℕ) (rest : List ℕ) → is_empty (written_head major n ++ rest) ≡ false
head_filled major n rest = by (nat_lt n 24) (nat_lt n 256) (nat_lt n 65536) (nat_lt n 4294967296)
  where
    by : (a b c d : Bool)
        → is_empty ((if a then (major * 32 + n) ∷ []
        else (if b then (major * 32 + 24) ∷ n ∷ []
        else (if c then (major * 32 + 25) ∷ two_bytes n
        else (if d then (major * 32 + 26) ∷ four_bytes n else (major * 32 + 27) ∷ eight_bytes n)))) ++ rest)
        ≡ false
    by true b c d = refl
    by false true c d = refl
    by false false true d = refl
    by false false false true = refl
    by false false false false = refl

-- the content of the body that is written for fields: no bytes, where these are none of the prelude's `Unit`; else the item
written_content : (F : TreeFormat) (unit : Bool) (fs : FieldVals) (item : List ℕ) (n : Node) → is_empty item ≡ false → F n item
    → (has_nothing fs ≡ true → unit ≡ true → n ≡ object no_members)
    → HasContent F (cond (is_empty (cond (unit && has_nothing fs) [] item) && unit) as_empty_object as_text)
    (cond (unit && has_nothing fs) [] item) (a_tree n)
written_content F true no_fields item n filled has none = ap a_tree (none refl refl)
written_content F true (field k v fs) item n filled has none =
    subst (λ e. HasContent F (cond (e && true) as_empty_object as_text) item (a_tree n)) (sym filled) has
written_content F false fs item n filled has none =
    subst (λ e. HasContent F (cond (e && false) as_empty_object as_text) item (a_tree n)) (sym filled) has

-- the name that is told is that of the error
error_named : (s : ServiceData) (o e : ℕ) (ms : Members) → IsServableOperation s.table (operation_at s o)
    → e < length (operation_at s o).errors
    → error_of_tree rpc_form s o (object (member type_name (text (error_at (operation_at s o) e).id) ms)) ≡ Some e
error_named s o e ms is lt =
    let es = (operation_at s o).errors in
    let error = error_at (operation_at s o) e in
    ap (place_named es) (id_told error.id (is.errors error (Contains-get_or es e no_error lt)).1) ∙ place_of_error es e no_error is.error_names lt

module _ (items : WrittenIsItem) (s : ServiceData) (test : Test) (serves : Serves rpc_form s test) where
  is_cbor : (shape : ℕ) (fs : FieldVals) → shape < shape_count s.table → Fits s.table test (root_place shape) (structure_val fs)
      → uncarried s.table cbor_convention (root_place shape) (structure_val fs) ≡ []
      → IsCbor (object (written_fields s.table cbor_convention (root_place shape) fs))
  is_cbor shape fs inside fits carried =
      written_is_cbor s.table cbor_convention test (root_place shape) (structure_val fs) serves.servable.shaped cbor_writes inside fits carried

  -- the tree of the fields, its item and what it spells
  nothing_written : (g : Goal) (fs : FieldVals) → has_nothing fs ≡ true
      → object (written_fields s.table cbor_convention (goal_place s g) fs) ≡ object no_members
  nothing_written g no_fields e = refl
  nothing_written g (field k v fs) e = absurd cc

  short_item : (unit : Bool) (fs : FieldVals) (item : List ℕ) → (has_nothing fs ≡ true → length item < 2 ^ 64)
      → length (cond (unit && has_nothing fs) [] item) < 2 ^ 64 → length item < 2 ^ 64
  short_item true no_fields item none h = none refl
  short_item true (field k v fs) item none h = h
  short_item false fs item none h = h

  short_none : (g : Goal) (fs : FieldVals) → has_nothing fs ≡ true
      → length (written_item (object (written_fields s.table cbor_convention (goal_place s g) fs))) < 2 ^ 64
  short_none g no_fields e = omega arith
  short_none g (field k v fs) e = absurd cc

  written_role : (o : ℕ) (r : Role) (host : List ℕ) (fs : FieldVals) → ServesGoal rpc_form s (goal_of o r)
      → Fits s.table test (goal_place s (goal_of o r)) (structure_val fs)
      → tree_uncarried cbor_convention s (goal_of o r) (structure_val fs) ≡ []
      → length (rpc_written s (goal_of o r) host (structure_val fs)).body < 2 ^ 64
      → Msg rpc_form s test (goal_of o r) (structure_val fs) (rpc_written s (goal_of o r) host (structure_val fs))
  written_role o the_input host fs served fits carried small =
      let g = goal_of o the_input in
      let at = goal_structure s g serves.servable served.goal in
      let free = yes_served (operation_at s o).served served.operation.served in
      let n = object (written_fields s.table cbor_convention (goal_place s g) fs) in
      let unit = is_unit s (goal_shape s g) the_input in
      let body = body_of s g (structure_val fs) in
      let item = items n (is_cbor (goal_shape s g) fs at.0 fits carried) (short_item unit fs (written_item n) (short_none g fs) small) in
      record {
        there = to_goal g;
        head = request_head o (marked_request s o host body) (record { within = served.operation.within; start = refl })
            (right_type s o host body) refl;
        goal = refl;
        content = a_tree n;
        has = written_content cbor_syntax.text unit fs (written_item n) n (head_filled 5 (pair_count (written_fields s.table cbor_convention (goal_place s g) fs))
            (written_item_pairs (written_fields s.table cbor_convention (goal_place s g) fs))) item (λ none is. nothing_written g fs none);
        spells = tree_written_spells cbor_convention cbor_laws (λ t k j. refl) s test g [] (structure_val fs) serves.servable served.goal free
            fits carried;
      }
  written_role o the_output host fs served fits carried small =
      let g = goal_of o the_output in
      let at = goal_structure s g serves.servable served.goal in
      let free = yes_served (operation_at s o).served served.operation.served in
      let n = object (written_fields s.table cbor_convention (goal_place s g) fs) in
      let unit = is_unit s (goal_shape s g) the_output in
      let body = body_of s g (structure_val fs) in
      let item = items n (is_cbor (goal_shape s g) fs at.0 fits carried) (short_item unit fs (written_item n) (short_none g fs) small) in
      record {
        there = to_goal g;
        head = response_head o (marked_output body) (output_answer s o body);
        goal = refl;
        content = a_tree n;
        has = written_content cbor_syntax.text unit fs (written_item n) n (head_filled 5 (pair_count (written_fields s.table cbor_convention (goal_place s g) fs))
            (written_item_pairs (written_fields s.table cbor_convention (goal_place s g) fs))) item (λ none is. nothing_written g fs none);
        spells = tree_written_spells cbor_convention cbor_laws (λ t k j. refl) s test g [] (structure_val fs) serves.servable served.goal free
            fits carried;
      }
  written_role o (the_error e) host fs served fits carried small =
      let g = goal_of o (the_error e) in
      let at = goal_structure s g serves.servable served.goal in
      let free = yes_served (operation_at s o).served served.operation.served in
      let is = operation_servable s o serves.servable served.operation.within in
      let error = error_at (operation_at s o) e in
      let own = (is.errors error (Contains-get_or (operation_at s o).errors e no_error served.goal.1)).1 in
      let ms = written_fields s.table cbor_convention (goal_place s g) fs in
      let n = object (member type_name (text error.id) ms) in
      let body = body_of s g (structure_val fs) in
      let item = items n (type_utf8, id_utf8 error.id (own.0, own.1), is_cbor (goal_shape s g) fs at.0 fits carried) small in
      record {
        there = to_named_error o;
        head = response_head o (marked_error error.client body) (error_answer s o error.client body);
        goal = (e, record { tree = n; has = item; names = error_named s o e ms is served.goal.1 }, refl);
        content = a_tree n;
        has = written_content cbor_syntax.text false fs (written_item n) n (head_filled 5 (pair_count (member type_name (text error.id) ms))
            (written_item_pairs (member type_name (text error.id) ms))) item (λ none bad. absurd cc);
        spells = tree_written_spells cbor_convention cbor_laws (λ t k j. refl) s test g error.id (structure_val fs) serves.servable
            served.goal free fits carried;
      }

pub rpc_written_is : WrittenIsItem → (s : ServiceData) (test : Test) (g : Goal) (host : List ℕ) (v : Val) → Serves rpc_form s test
    → ServesGoal rpc_form s g → Fits s.table test (root_place (goal_shape s g)) v → tree_uncarried cbor_convention s g v ≡ []
    → length (rpc_written s g host v).body < 2 ^ 64 → Msg rpc_form s test g v (rpc_written s g host v)
rpc_written_is items s test g host v serves served fits carried small =
    let at = goal_structure s g serves.servable served.goal in
    let back = fields_back s.table test (goal_place s g) v at.1 fits in
    subst (λ w. Msg rpc_form s test g w (rpc_written s g host w)) back
    (written_role items s test serves g.operation g.role host (fields_in v) served
    (subst (λ w. Fits s.table test (goal_place s g) w) (sym back) fits)
    (subst (λ w. tree_uncarried cbor_convention s g w ≡ []) (sym back) carried)
    (subst (λ w. length (rpc_written s g host w).body < 2 ^ 64) (sym back) small))

pub rpc_is_form : HasOneReading cbor_syntax → HasOneAnswer cbor_syntax → HasSomeAnswer cbor_syntax → WrittenIsItem → IsForm rpc_form
rpc_is_form reading one some items = record {
  reads = rpc_reads reading one some;
  written_is = λ s test g host v serves served fits carried small. rpc_written_is items s test g host v serves served fits carried small;
}
