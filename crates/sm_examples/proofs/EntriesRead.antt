-- What an entry says: the values that its fields spell, by the law that a node without faults spells the one value that it comes to.
use Rattle.std.proofs.Common.{◌≡◌, ℕ, ◌<◌, Bool, true, false, cond, List, ◌∷◌, Option, None, Some, Ok, Err, length, refl, sym, ap, ◌∙◌, subst}
use Rattle.std.specs.Prelude.{codes}
use Rattle.std.specs.Option.{unwrap_or}
use Rattle.std.proofs.lemmas.Option.{same_Some}
use Rattle.sm_tree.specs.Node.{Node, no_members, object}
use Rattle.sm_shapes.specs.Fitting.{Fits, Test}
use Rattle.sm_shapes.specs.InOrder.{DefaultsPass}
use Rattle.sm_shapes.specs.Places.{root_place}
use Rattle.sm_shapes.specs.TableData.{shape_count}
use Rattle.sm_shapes.specs.Values.{Val}
use Rattle.sm_shapes.specs.declared.fault.Fault.{Fault}
use Rattle.sm_codec.specs.Answers.{Decodes}
use Rattle.sm_codec.specs.CodecLaws.{IsCodec}
use Rattle.sm_codec.specs.DecodingView.{DecodesTree}
use Rattle.sm_codec.specs.Defaults.{node_codec, read_value}
use Rattle.sm_codec.specs.FaultLists.{FaultAt, Reading, faults_in}
use Rattle.sm_codec.specs.FrameView.{fault_at}
use Rattle.sm_codec.specs.Readings.{reading}
use Rattle.sm_codec.specs.declared.decoder.Refusal.{Refusal}
use Rattle.sm_codec.specs.declared.decoder.Refusal.TheVariants.{Fault as a_fault}
use Rattle.sm_codec.proofs.NodeLaws.{node_laws}
use Rattle.sm_codec.proofs.ReadValues.{one_value}
use Rattle.sm_bodies.proofs.FitsAny.{fits_any}
use Rattle.sm_compile.specs.TraitNodes.{field_of, is_object, text_of}
use Rattle.sm_messages.specs.service.Servable.{Servable}
use Rattle.sm_messages.specs.service.ServiceData.{ServiceData}
use Rattle.sm_messages.specs.Goals.{HasGoal, Role, goal_of, goal_shape, operation_at, the_error, the_input, the_output}
use Rattle.sm_messages.proofs.TreeBodies.{goal_structure}
use Rattle.sm_examples.specs.Entries.{content_said, error_told, example_said, example_with, field_value, node_value}
use Rattle.sm_examples.specs.Entries.{reply_said, reply_with}
use Rattle.sm_examples.specs.ExampleData.{ExampleData, ReplyData, reply_goal}
use Rattle.sm_examples.specs.ExampleLaws.{EntriesFit, IsExampleOf}
use Rattle.sm_examples.proofs.ErrorsById.{error_within}

node_laws_of : (s : ServiceData) (test : Test) → Servable s → DefaultsPass s.table test → IsCodec (node_codec s.table test)
node_laws_of s test servable pass = record { convention = node_laws false; table = servable.shaped; defaults = pass }

-- a node that spells a value comes to it
pub value_read : (s : ServiceData) (test : Test) → Servable s → DefaultsPass s.table test → (shape : ℕ) → shape < shape_count s.table
    → (n : Node) (v : Val) → Decodes (node_codec s.table test) (root_place shape) n (Ok v) → Some v ≡ node_value s test shape n
value_read s test servable pass shape inside n v decoded =
    sym (ap read_value ((one_value (node_codec s.table test) (root_place shape) v n (node_laws_of s test servable pass) inside).0 decoded.0))

-- one with a fault comes to none
pub none_read : (s : ServiceData) (test : Test) (shape : ℕ) (n : Node) (f : FaultAt)
    → Decodes (node_codec s.table test) (root_place shape) n (Err f) → None ≡ node_value s test shape n
none_read s test shape n f decoded = by (reading (node_codec s.table test) n (root_place shape)) decoded.1
  where
    by : (r : Reading) → faults_in r ≡ f ∷ decoded.0 → None ≡ read_value r
    by (Ok v) h = absurd cc
    by (Err fs) h = refl

pub none_told : (s : ServiceData) (test : Test) (shape : ℕ) (n : Node) (refusal : Refusal) (f : Fault) → refusal ≡ a_fault f
    → DecodesTree (node_codec s.table test) (root_place shape) n (Err refusal) → None ≡ node_value s test shape n
none_told s test shape n refusal f is decoded =
    none_read s test shape n (fault_at f) (subst (λ r. DecodesTree (node_codec s.table test) (root_place shape) n (Err r)) is decoded)

-- what a field says is a value of the structure
pub value_fits : (s : ServiceData) (test : Test) → Servable s → DefaultsPass s.table test → (shape : ℕ) → shape < shape_count s.table
    → (n : Node) (v : Val) → node_value s test shape n ≡ Some v → Fits s.table test (root_place shape) v
value_fits s test servable pass shape inside n v h =
    by (reading (node_codec s.table test) n (root_place shape)) refl h
  where
    by : (r : Reading) → reading (node_codec s.table test) n (root_place shape) ≡ r → read_value r ≡ Some v
        → Fits s.table test (root_place shape) v
    by (Err fs) is e = absurd cc
    by (Ok w) is e =
        let read : reading (node_codec s.table test) n (root_place shape) ≡ Ok v = is ∙ ap Ok (same_Some w v e) in
        ((one_value (node_codec s.table test) (root_place shape) v n (node_laws_of s test servable pass) inside).1 read).0

-- a field is read as one of an operation's structures
pub field_read : (s : ServiceData) (test : Test) (o : ℕ) (role : Role) (shape : ℕ) (here field : Option Node) (x : Option Val)
    → shape ≡ goal_shape s (goal_of o role) → here ≡ field → x ≡ node_value s test shape (unwrap_or here (object no_members))
    → x ≡ field_value s test o role field
field_read s test o role shape here field x at is so =
    so ∙ ap (λ k. node_value s test k (unwrap_or here (object no_members))) at ∙ ap (field_value s test o role) is

-- an entry that says an example says its parts
pub record Says (s : ServiceData) (test : Test) (o : ℕ) (entry : Node) (e : ExampleData) : Type 0 where
  pub operation : e.operation ≡ o
  pub input : field_value s test o the_input (field_of (codes "input") entry) ≡ Some e.input
  pub reply : reply_said s test o entry (field_of (codes "error") entry) ≡ Some e.reply

with_parts : (o : ℕ) (x : Option Val) (y : Option ReplyData) (e : ExampleData) → example_with o x y ≡ Some e
    → (e.operation ≡ o) × (x ≡ Some e.input) × (y ≡ Some e.reply)
with_parts o None y e h = absurd cc
with_parts o (Some v) None e h = absurd cc
with_parts o (Some v) (Some r) e h =
    let same = same_Some (record { operation = o; input = v; reply = r }) e h in
    (sym (ap (λ x. x.operation) same), ap (λ x. Some x.input) same, ap (λ x. Some x.reply) same)

pub entry_says : (s : ServiceData) (test : Test) (o : ℕ) (entry : Node) (e : ExampleData) → example_said s test o entry ≡ Some e
    → Says s test o entry e
entry_says s test o entry e h = by (is_object entry) h
  where
    by : (b : Bool) → cond b (example_with o (field_value s test o the_input (field_of (codes "input") entry))
        (reply_said s test o entry (field_of (codes "error") entry))) None ≡ Some e → Says s test o entry e
    by true x =
        let (at, input, reply) = with_parts o (field_value s test o the_input (field_of (codes "input") entry))
        (reply_said s test o entry (field_of (codes "error") entry)) e x in
        record { operation = at; input = input; reply = reply }
    by false x = absurd cc

-- a reply is a value of a goal of the operation
pub record SaysReply (s : ServiceData) (test : Test) (o : ℕ) (r : ReplyData) : Type 0 where
  pub goal : HasGoal s (goal_of o r.role)
  pub fits : Fits s.table test (root_place (goal_shape s (goal_of o r.role))) r.value

module _ (s : ServiceData) (test : Test) (servable : Servable s) (pass : DefaultsPass s.table test) (o : ℕ)
    (within : o < length s.operations) where
  field_fits : (role : Role) (field : Option Node) (v : Val) → HasGoal s (goal_of o role) → field_value s test o role field ≡ Some v
      → Fits s.table test (root_place (goal_shape s (goal_of o role))) v
  field_fits role field v goal h =
      value_fits s test servable pass (goal_shape s (goal_of o role)) (goal_structure s (goal_of o role) servable goal).0
      (unwrap_or field (object no_members)) v h

  with_role : (role : Role) (field : Option Node) (r : ReplyData) → HasGoal s (goal_of o role)
      → reply_with role (field_value s test o role field) ≡ Some r → SaysReply s test o r
  with_role role field r goal h = by (field_value s test o role field) refl h
    where
      by : (x : Option Val) → field_value s test o role field ≡ x → reply_with role x ≡ Some r → SaysReply s test o r
      by None is e = absurd cc
      by (Some v) is e =
          subst (SaysReply s test o) (same_Some (record { role = role; value = v }) r e)
          (record { goal = goal; fits = field_fits role field v goal is })

  with_content : (error : Node) (place : Option ℕ) (r : ReplyData)
      → ((k : ℕ) → place ≡ Some k → k < length (operation_at s o).errors) → content_said s test o error place ≡ Some r
      → SaysReply s test o r
  with_content error None r inside h = absurd cc
  with_content error (Some k) r inside h =
      with_role (the_error k) (field_of (codes "content") error) r (within, inside k refl) h

  pub told_within : (told : Option (List ℕ)) (k : ℕ) → error_told s o told ≡ Some k → k < length (operation_at s o).errors
  told_within None k h = absurd cc
  told_within (Some id) k h = error_within (operation_at s o).errors id k h

  reply_fits : (entry : Node) (error : Option Node) (r : ReplyData) → reply_said s test o entry error ≡ Some r → SaysReply s test o r
  reply_fits entry None r h = with_role the_output (field_of (codes "output") entry) r (within, tt) h
  reply_fits entry (Some error) r h =
      let told = text_of (field_of (codes "shapeId") error) in
      with_content error (error_told s o told) r (told_within told) h

  pub example_fits : (entry : Node) (e : ExampleData) → example_said s test o entry ≡ Some e → IsExampleOf s test e
  example_fits entry e h =
      let says = entry_says s test o entry e h in
      let reply = reply_fits entry (field_of (codes "error") entry) e.reply says.reply in
      let goal : HasGoal s (reply_goal e) = subst (λ k. HasGoal s (goal_of k e.reply.role)) (sym says.operation) reply.goal in
      let fits : Fits s.table test (root_place (goal_shape s (reply_goal e))) e.reply.value =
      subst (λ k. Fits s.table test (root_place (goal_shape s (goal_of k e.reply.role))) e.reply.value) (sym says.operation) reply.fits in
      record {
        goal = goal;
        input = subst (λ k. Fits s.table test (root_place (goal_shape s (goal_of k the_input))) e.input) (sym says.operation)
            (field_fits the_input (field_of (codes "input") entry) e.input (within, tt) says.input);
        reply = fits;
        reply_any = fits_any s.table test (root_place (goal_shape s (reply_goal e))) e.reply.value fits;
      }

pub entries_fit : EntriesFit
entries_fit s test o entry e servable pass within h = example_fits s test servable pass o within entry e h
