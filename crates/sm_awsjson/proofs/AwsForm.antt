-- AWS JSON is a form of messages: how its messages are read, and that what is written is a message.
use Rattle.std.proofs.Common.{◌≡◌, ℕ, ◌<◌, Bool, true, false, List, [], ◌∷◌, None, Some, length, refl, sym, ap, ◌∙◌, subst, arith}
use Rattle.std.specs.Prelude.{IsUtf8, codes}
use Rattle.std.proofs.lemmas.Bool.Decides.{nat_tests}
use Rattle.std.proofs.lemmas.List.Sums.{AllPass-from_list_all}
use Rattle.std.proofs.lemmas.Str.{IsUtf8-from_ascii}
use Rattle.std.proofs.lemmas.Str.Ascii.{IsAscii-from_all}
use Rattle.std.proofs.lemmas.Option.{same_Some}
use Rattle.std.proofs.lemmas.List.Elements.{Contains-get_or}
use Rattle.httparse.specs.Grammar.{trim_ows}
use Rattle.sm_bytes.specs.Ascii.{left_brace}
use Rattle.sm_ids.specs.Identifier.{is_identifier_byte}
use Rattle.sm_ids.specs.IdText.{IsShapeId}
use Rattle.sm_ids.specs.TextParts.{name_part}
use Rattle.sm_tree.specs.Json.{IsJson}
use Rattle.sm_tree.specs.Node.{Members, member, object, text}
use Rattle.sm_tree.proofs.OneAnswer.{one_answer}
use Rattle.sm_tree.proofs.SomeAnswer.{some_answer}
use Rattle.sm_json.specs.JsonText.{json_syntax}
use Rattle.sm_json.specs.Written.{written_pairs}
use Rattle.sm_json.proofs.OneTree.{one_tree}
use Rattle.sm_json.proofs.WrittenTrees.{null_begins, text_of_tree}
use Rattle.sm_ast.proofs.JsonGiven.{id_utf8, identifier_utf8}
use Rattle.sm_shapes.specs.Fitting.{Fits, Test}
use Rattle.sm_shapes.specs.InOrder.{Shaped}
use Rattle.sm_shapes.specs.Places.{root_place}
use Rattle.sm_shapes.specs.TableData.{shape_count}
use Rattle.sm_shapes.specs.Values.{FieldVals, Val, structure_val}
use Rattle.sm_compile.specs.Served.{type_name}
use Rattle.sm_compile.specs.declared.compiled.Served.{Served}
use Rattle.sm_compile.specs.declared.compiled.Served.TheVariants.{Yes, Unserved}
use Rattle.sm_codec.specs.Convention.{Convention}
use Rattle.sm_codec.specs.Written.{uncarried, written_fields}
use Rattle.sm_codec.specs.WrittenLaws.{WritesJson}
use Rattle.sm_codec.proofs.JsonLaws.{json_laws}
use Rattle.sm_codec.proofs.JsonWrites.{json_writes}
use Rattle.sm_codec.proofs.WrittenForms.{written_is_json}
use Rattle.sm_http.specs.declared.message.Head.{Head}
use Rattle.sm_service.specs.Servable.{IsServableOperation, Servable}
use Rattle.sm_service.specs.ServiceData.{ServiceData}
use Rattle.sm_service.specs.ErrorOrder.{place_named}
use Rattle.sm_service.proofs.ServableIds.{name_is_identifier}
use Rattle.sm_messages.specs.Goals.{Goal, Role, error_at, goal_of, goal_shape, no_error, no_operation, operation_at, the_error, the_input}
use Rattle.sm_messages.specs.Goals.{the_output}
use Rattle.sm_messages.specs.HeadAnswers.{addressed, is_request_type, path_unserved, response_answer, to_goal, to_named_error}
use Rattle.sm_messages.specs.IsForm.{IsForm, ReadsMessages, Serves, ServesGoal}
use Rattle.sm_messages.specs.MessageForm.{a_tree}
use Rattle.sm_messages.specs.Messages.{Msg, error_of_tree, request_head, response_head}
use Rattle.sm_messages.specs.Names.{error_name}
use Rattle.sm_messages.specs.TreeBodies.{fields_in, goal_place, tree_uncarried}
use Rattle.sm_messages.specs.WrittenHeads.{fault_status, written_request, written_response}
use Rattle.sm_messages.proofs.ErrorsTold.{id_told, name_told, place_of_error}
use Rattle.sm_messages.proofs.OperationsNamed.{one_number, same_behind}
use Rattle.sm_messages.proofs.TreeBodies.{fields_back, goal_structure, operation_servable, tree_no_fault, tree_one_value, tree_spelled_fits}
use Rattle.sm_messages.proofs.TreeBodies.{tree_written_spells}
use Rattle.sm_awsjson.specs.Heads.{IsForOperation, json_type, target_field, target_of, type_told}
use Rattle.sm_awsjson.specs.Messages.{aws_convention, aws_form, aws_written}
use Rattle.sm_awsjson.specs.declared.version.AwsVersion.{AwsVersion}
use Rattle.sm_awsjson.specs.declared.version.AwsVersion.TheVariants.{V10, V11}

same_rest : (a b : List ℕ) → 46 ∷ a ≡ 46 ∷ b → a ≡ b
same_rest a b e = cc

one_target : (s : ServiceData) (head : Head) (o p : ℕ) → Servable s → IsForOperation s o head → IsForOperation s p head → o ≡ p
one_target s head o p servable x y =
    let targets = same_Some (target_of s o) (target_of s p) (sym x.target ∙ y.target) in
    let names = same_rest (operation_at s o).name (operation_at s p).name (same_behind s.name (46 ∷ (operation_at s o).name)
    (46 ∷ (operation_at s p).name) targets) in
    one_number (λ k. k.name) s.operations no_operation o p servable.order x.within y.within names

pub aws_reads : (version : AwsVersion) → ReadsMessages (aws_form version)
aws_reads version = record {
  one_operation = λ s test head o p serves x y. one_target s head o p serves.servable x y;
  asked_for = λ s head o x. x;
  within = λ s head o x. x.within;
  one_reading = one_tree;
  one_answer = one_answer json_syntax one_tree;
  some_answer = some_answer json_syntax null_begins;
  empty_tells_none = refl;
  no_fault = λ s test g head c serves served.
      tree_no_fault aws_convention (json_laws false) s test g c serves.servable serves.defaults served.goal;
  one_value = λ s test g head c v w serves served x y.
      tree_one_value aws_convention (json_laws false) s test g c v w serves.servable serves.defaults served.goal x y;
  spelled_fits = λ s test g head c v serves served x. tree_spelled_fits aws_convention s test g c v x;
}

-- an operation that is served is served by its model
yes_served : (o : Served) → path_unserved o None ≡ None → o ≡ Yes
yes_served Yes e = refl
yes_served (Unserved path) e = absurd cc

-- the texts that tell errors
told_utf8 : (version : AwsVersion) (id : List ℕ) → IsShapeId id → IsUtf8 (type_told version id)
told_utf8 V10 id is = id_utf8 id (is.0, is.1)
told_utf8 V11 id is = identifier_utf8 (name_part id) (name_is_identifier id is)

told_name : (version : AwsVersion) (id : List ℕ) → IsShapeId id → error_name (type_told version id) ≡ name_part id
told_name V10 id is = id_told id is
told_name V11 id is = name_told (name_part id) (name_is_identifier id is)

plain_byte : (c : ℕ) → is_identifier_byte c ≡ true → c < 128
plain_byte c h = grind (arith, nat_tests)

type_utf8 : IsUtf8 type_name
type_utf8 =
    IsUtf8-from_ascii type_name (IsAscii-from_all type_name
    (λ k d lt. plain_byte _ (AllPass-from_list_all is_identifier_byte type_name refl k d lt)))

-- what comes of the heads that are written, whose bodies aren't empty
right_type : (version : AwsVersion) (s : ServiceData) (o : ℕ) (host : List ℕ) (b : ℕ) (bs : List ℕ)
    → is_request_type (aws_form version) s o
    (written_request (codes "POST") (codes "/") host (json_type version) (target_field s o ∷ []) (b ∷ bs)).head false
    ≡ true
unfolding trim_ows
right_type V10 s o host b bs = refl
right_type V11 s o host b bs = refl

named_target : (version : AwsVersion) (s : ServiceData) (o : ℕ) (host : List ℕ) (b : ℕ) (bs : List ℕ) → o < length s.operations
    → IsForOperation s o (written_request (codes "POST") (codes "/") host (json_type version) (target_field s o ∷ []) (b ∷ bs)).head
named_target version s o host b bs lt = record { within = lt; start = refl; target = refl }

output_answer : (version : AwsVersion) (s : ServiceData) (o : ℕ) (b : ℕ) (bs : List ℕ)
    → response_answer (aws_form version) s (written_response 200 (json_type version) [] (b ∷ bs)).head o
    ≡ addressed (to_goal (goal_of o the_output))
output_answer version s o b bs = refl

error_answer : (version : AwsVersion) (s : ServiceData) (o : ℕ) (client : Bool) (b : ℕ) (bs : List ℕ)
    → response_answer (aws_form version) s (written_response (fault_status client) (json_type version) [] (b ∷ bs)).head o
    ≡ addressed (to_named_error o)
error_answer version s o true b bs = refl
error_answer version s o false b bs = refl

-- the text of the tree that is written for fields
is_json : (l : Convention) → WritesJson l → (s : ServiceData) (shape : ℕ) (fs : FieldVals) → Shaped s.table → shape < shape_count s.table
    → (test : Test) → Fits s.table test (root_place shape) (structure_val fs) → uncarried s.table l (root_place shape) (structure_val fs) ≡ []
    → IsJson (object (written_fields s.table l (root_place shape) fs))
is_json l writes s shape fs shaped inside test fits carried =
    written_is_json s.table l test (root_place shape) (structure_val fs) shaped writes inside fits carried

-- the name that is told is that of the error
error_named : (version : AwsVersion) (s : ServiceData) (o e : ℕ) (ms : Members) → IsServableOperation s.table (operation_at s o)
    → e < length (operation_at s o).errors
    → error_of_tree (aws_form version) s o
    (object (member type_name (text (type_told version (error_at (operation_at s o) e).id)) ms))
    ≡ Some e
error_named version s o e ms is lt =
    let es = (operation_at s o).errors in
    let id = (error_at (operation_at s o) e).id in
    ap (place_named es) (told_name version id (is.errors (error_at (operation_at s o) e) (Contains-get_or es e no_error lt)).1)
    ∙ place_of_error es e no_error is.error_names lt

-- of a value with these fields
written_role : (version : AwsVersion) (s : ServiceData) (test : Test) (o : ℕ) (r : Role) (host : List ℕ) (fs : FieldVals)
    → Serves (aws_form version) s test → ServesGoal (aws_form version) s (goal_of o r)
    → Fits s.table test (goal_place s (goal_of o r)) (structure_val fs)
    → tree_uncarried aws_convention s (goal_of o r) (structure_val fs) ≡ []
    → Msg (aws_form version) s test (goal_of o r) (structure_val fs) (aws_written version s (goal_of o r) host (structure_val fs))
written_role version s test o the_input host fs serves served fits carried =
    let g = goal_of o the_input in
    let at = goal_structure s g serves.servable served.goal in
    let free = yes_served (operation_at s o).served served.operation.served in
    let n = object (written_fields s.table aws_convention (goal_place s g) fs) in
    record {
      there = to_goal g;
      head = request_head o refl (named_target version s o host left_brace (written_pairs (written_fields s.table aws_convention (goal_place s g) fs))
          served.operation.within) (right_type version s o host left_brace (written_pairs (written_fields s.table aws_convention (goal_place s g) fs))) refl;
      goal = refl;
      content = a_tree n;
      has = text_of_tree n (is_json aws_convention (json_writes false) s (goal_shape s g) fs serves.servable.shaped at.0 test fits carried);
      spells = tree_written_spells aws_convention (json_laws false) (λ t k j. refl) s test g [] (structure_val fs) serves.servable
          served.goal free fits carried;
    }
written_role version s test o the_output host fs serves served fits carried =
    let g = goal_of o the_output in
    let at = goal_structure s g serves.servable served.goal in
    let free = yes_served (operation_at s o).served served.operation.served in
    let n = object (written_fields s.table aws_convention (goal_place s g) fs) in
    record {
      there = to_goal g;
      head = response_head o refl (output_answer version s o left_brace (written_pairs (written_fields s.table aws_convention (goal_place s g) fs)));
      goal = refl;
      content = a_tree n;
      has = text_of_tree n (is_json aws_convention (json_writes false) s (goal_shape s g) fs serves.servable.shaped at.0 test fits carried);
      spells = tree_written_spells aws_convention (json_laws false) (λ t k j. refl) s test g [] (structure_val fs) serves.servable
          served.goal free fits carried;
    }
written_role version s test o (the_error e) host fs serves served fits carried =
    let g = goal_of o (the_error e) in
    let at = goal_structure s g serves.servable served.goal in
    let free = yes_served (operation_at s o).served served.operation.served in
    let is = operation_servable s o serves.servable served.operation.within in
    let error = error_at (operation_at s o) e in
    let told = type_told version error.id in
    let own = (is.errors error (Contains-get_or (operation_at s o).errors e no_error served.goal.1)).1 in
    let ms = written_fields s.table aws_convention (goal_place s g) fs in
    let n = object (member type_name (text told) ms) in
    let json_of = text_of_tree n (
      type_utf8,
      told_utf8 version error.id own,
      is_json aws_convention (json_writes false) s (goal_shape s g) fs serves.servable.shaped at.0 test fits carried,
    ) in
    record {
      there = to_named_error o;
      head = response_head o refl (error_answer version s o error.client left_brace (written_pairs (member type_name (text told) ms)));
      goal = (e, record { tree = n; has = json_of; names = error_named version s o e ms is served.goal.1 }, refl);
      content = a_tree n;
      has = json_of;
      spells = tree_written_spells aws_convention (json_laws false) (λ t k j. refl) s test g told (structure_val fs) serves.servable
          served.goal free fits carried;
    }

pub aws_written_is : (version : AwsVersion) (s : ServiceData) (test : Test) (g : Goal) (host : List ℕ) (v : Val)
    → Serves (aws_form version) s test → ServesGoal (aws_form version) s g → Fits s.table test (root_place (goal_shape s g)) v
    → tree_uncarried aws_convention s g v ≡ [] → Msg (aws_form version) s test g v (aws_written version s g host v)
aws_written_is version s test g host v serves served fits carried =
    let at = goal_structure s g serves.servable served.goal in
    let back = fields_back s.table test (goal_place s g) v at.1 fits in
    subst (λ w. Msg (aws_form version) s test g w (aws_written version s g host w)) back
    (written_role version s test g.operation g.role host (fields_in v) serves served
    (subst (λ w. Fits s.table test (goal_place s g) w) (sym back) fits)
    (subst (λ w. tree_uncarried aws_convention s g w ≡ []) (sym back) carried))

pub aws_is_form : (version : AwsVersion) → IsForm (aws_form version)
aws_is_form version = record {
  reads = aws_reads version;
  written_is = λ s test g host v serves served fits carried small. aws_written_is version s test g host v serves served fits carried;
}
