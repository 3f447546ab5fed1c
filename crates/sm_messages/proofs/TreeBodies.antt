-- Bodies that are one tree of the whole value: they have no fault exactly where they spell a value, and then they spell one; and what is
-- written for a value spells it, also behind the name of an error.
use Rattle.std.proofs.Common.{◌≡◌, ◌⊎◌, inl, ◌↔◌, ℕ, ◌<◌, true, false, List, [], ◌∷◌, ◌++◌, length, map, refl, sym, ap, ◌∙◌, subst, arith}
use Rattle.std.specs.Prelude.{Result, Ok, Err}
use Rattle.std.specs.List.{Contains}
use Rattle.std.proofs.lemmas.List.Elements.{Contains-append_right, Contains-get_or}
use Rattle.sm_tree.specs.Node.{Node, Members, member, members_of, object, text}
use Rattle.sm_shapes.specs.Fitting.{Fits, IsOfKind, Test}
use Rattle.sm_shapes.specs.InOrder.{DefaultsPass, Shaped}
use Rattle.sm_shapes.specs.Names.{NoneIs}
use Rattle.sm_shapes.specs.Places.{Place, kind_of, member_place, members_of_place, root_place}
use Rattle.sm_shapes.specs.TableData.{TableData, default_at, kind_at, members_at, name_at}
use Rattle.sm_shapes.specs.Values.{FieldVals, Val, blob_val, bool_val, int_val, list_val, map_val, null_val, structure_val}
use Rattle.sm_shapes.specs.Values.{text_val, time_val, union_val}
use Rattle.sm_shapes.specs.declared.fault.FaultKind.{FaultKind}
use Rattle.sm_shapes.specs.declared.fault.FaultKind.TheVariants.{WrongType}
use Rattle.sm_shapes.specs.declared.kinds.ShapeKind.{ShapeKind}
use Rattle.sm_shapes.specs.declared.kinds.ShapeKind.TheVariants.{List as a_list, Map as a_map, Structure, Union}
use Rattle.sm_compile.specs.Served.{type_name}
use Rattle.sm_compile.specs.declared.compiled.Served.TheVariants.{Yes}
use Rattle.sm_codec.specs.Codec.{Codec, codec_of, wire_name}
use Rattle.sm_codec.specs.CodecLaws.{IsCodec}
use Rattle.sm_codec.specs.Convention.{Convention, IsConvention}
use Rattle.sm_codec.specs.FaultLists.{FaultAt, Reading}
use Rattle.sm_codec.specs.Named.{named}
use Rattle.sm_codec.specs.Readings.{one_here, reading}
use Rattle.sm_codec.specs.Spelling.{Spelled, Spells, Stands}
use Rattle.sm_codec.specs.Written.{uncarried, written, written_fields}
use Rattle.sm_codec.proofs.ReadValues.{one_value, value_or_fault}
use Rattle.sm_codec.proofs.WrittenValues.{fields_beside, written_spells}
use Rattle.sm_service.specs.Servable.{HasNoTypeMember, IsCarriedIn, IsReachedIn, IsServableOperation, IsStructureIn, Servable}
use Rattle.sm_service.specs.ServiceData.{OperationData, ServiceData}
use Rattle.sm_messages.specs.Goals.{Goal, HasGoal, HasRole, Role, error_at, goal_shape, no_error, no_operation, operation_at, role_shape}
use Rattle.sm_messages.specs.Goals.{the_error, the_input, the_output}
use Rattle.sm_messages.specs.MessageForm.{Content, a_tree, nothing, raw_bytes}
use Rattle.sm_messages.specs.TreeBodies.{fields_in, goal_place, role_tree, tree_codec, tree_faults, tree_spells, tree_uncarried, tree_written}

-- each goal is a structure of the table
role_structure : (s : ServiceData) (o : OperationData) (r : Role) → IsServableOperation s.table o → HasRole o r
    → IsStructureIn s.table (role_shape o r)
role_structure s o the_input is h = is.input
role_structure s o the_output is h = is.output
role_structure s o (the_error e) is h = (is.errors (error_at o e) (Contains-get_or o.errors e no_error h)).0

pub operation_servable : (s : ServiceData) (o : ℕ) → Servable s → o < length s.operations → IsServableOperation s.table (operation_at s o)
operation_servable s o servable lt = servable.each (operation_at s o) (Contains-get_or s.operations o no_operation lt)

pub goal_structure : (s : ServiceData) (g : Goal) → Servable s → HasGoal s g → IsStructureIn s.table (goal_shape s g)
goal_structure s g servable h =
    role_structure s (operation_at s g.operation) g.role (operation_servable s g.operation servable h.0) h.1

tree_laws : (l : Convention) → IsConvention l → (s : ServiceData) (test : Test) → Servable s → DefaultsPass s.table test
    → IsCodec (tree_codec l s test)
tree_laws l is s test servable pass = record { convention = is; table = servable.shaped; defaults = pass }

wrong_or_none : (c : FaultKind) → one_here c ≡ [] → ⊥
wrong_or_none c e = cc

pub tree_no_fault : (l : Convention) → IsConvention l → (s : ServiceData) (test : Test) (g : Goal) (c : Content) → Servable s
    → DefaultsPass s.table test → HasGoal s g → (tree_faults l s test g c ≡ []) ↔ ((v : Val) × tree_spells l s test g c v)
tree_no_fault l is s test g (a_tree n) servable pass h =
    value_or_fault (tree_codec l s test) (goal_place s g) n (tree_laws l is s test servable pass) (goal_structure s g servable h).0
tree_no_fault l is s test g (raw_bytes b) servable pass h = (λ e. absurd (wrong_or_none WrongType e), λ x. absurd x.1)
tree_no_fault l is s test g nothing servable pass h = (λ e. absurd (wrong_or_none WrongType e), λ x. absurd x.1)

same_ok : (v w : Val) → Path Reading (Ok v) (Ok w) → v ≡ w
same_ok v w e = cc

pub tree_one_value : (l : Convention) → IsConvention l → (s : ServiceData) (test : Test) (g : Goal) (c : Content) (v w : Val) → Servable s
    → DefaultsPass s.table test → HasGoal s g → tree_spells l s test g c v → tree_spells l s test g c w → v ≡ w
tree_one_value l is s test g (a_tree n) v w servable pass h x y =
    let c = tree_codec l s test in
    let p = goal_place s g in
    let laws = tree_laws l is s test servable pass in
    let inside = (goal_structure s g servable h).0 in
    same_ok v w (sym ((one_value c p v n laws inside).0 x) ∙ (one_value c p w n laws inside).0 y)
tree_one_value l is s test g (raw_bytes b) v w servable pass h x y = absurd x
tree_one_value l is s test g nothing v w servable pass h x y = absurd x

-- a value that is spelled is one of its goal
pub tree_spelled_fits : (l : Convention) (s : ServiceData) (test : Test) (g : Goal) (c : Content) (v : Val) → tree_spells l s test g c v
    → Fits s.table test (goal_place s g) v
tree_spelled_fits l s test g (a_tree n) v x = x.0
tree_spelled_fits l s test g (raw_bytes b) v x = absurd x
tree_spelled_fits l s test g nothing v x = absurd x

-- the goals of an operation that is served have no member under the name of a message's type
reached_itself : (s : ServiceData) (shape : ℕ) → IsReachedIn s.table shape shape
reached_itself s shape = ([], refl)

carried_names : (s : ServiceData) (shape : ℕ) → IsStructureIn s.table shape → IsCarriedIn s.table shape → HasNoTypeMember s.table shape
carried_names s shape at is = is.names shape (reached_itself s shape) (inl at.1)

role_carried : (s : ServiceData) (o : OperationData) (r : Role) → IsServableOperation s.table o → HasRole o r → o.served ≡ Yes
    → HasNoTypeMember s.table (role_shape o r)
role_carried s o the_input is h served = carried_names s o.input is.input (is.input_carried served)
role_carried s o the_output is h served = carried_names s o.output is.output (is.output_carried served)
role_carried s o (the_error e) is h served =
    let there = Contains-get_or o.errors e no_error h in
    carried_names s (error_at o e).shape (is.errors (error_at o e) there).0 (is.errors_carried served (error_at o e) there)

goal_carried : (s : ServiceData) (g : Goal) → Servable s → HasGoal s g → (operation_at s g.operation).served ≡ Yes
    → HasNoTypeMember s.table (goal_shape s g)
goal_carried s g servable h served =
    role_carried s (operation_at s g.operation) g.role (operation_servable s g.operation servable h.0) h.1 served

no_leaf : (kind : ShapeKind) (v : Val) → kind ≡ Structure → IsOfKind kind v → ⊥
no_leaf kind v is h = subst (λ k. IsOfKind k v) is h

-- a pair of a name that no member has changes nothing of what an object spells
module _ (c : Codec) (p : Place) (name : List ℕ) (n : Node) where
  abbrev Apart : List ℕ → Type 0
  Apart ks = (k : ℕ) → Contains ks k → name ≡ wire_name c p k → ⊥

  contains_first : (k : ℕ) (ks : List ℕ) → Contains (k ∷ ks) k
  contains_first k ks = (0, omega arith, refl)

  none_apart : (ks : List ℕ) → Apart ks → NoneIs name (map (wire_name c p) ks)
  none_apart [] apart = tt
  none_apart (k ∷ ks) apart = (
    λ e. apart k (contains_first k ks) (sym e),
    none_apart ks (λ j there. apart j (Contains-append_right (k ∷ []) ks j there)),
  )

  pair_passed : (ms : Members) (fs : FieldVals) → Apart (members_of_place c.table p) → Spelled c p (structure_val fs) (object ms)
      → Spelled c p (structure_val fs) (object (member name n ms))
  pair_passed ms fs apart h = (
    h.0,
    (
      (name, n) ∷ h.1.0,
      ap (λ q. object (member name n q)) (same_members ms (members_of h.1.0) h.1.1),
      fields_beside c p name n (members_of_place c.table p) fs h.1.0 (none_apart (members_of_place c.table p) apart) h.1.2,
    ),
  )
    where
      same_members : (q r : Members) → object q ≡ object r → q ≡ r
      same_members q r e = cc

-- a value of a structure has fields
pub fields_back : (t : TableData) (test : Test) (p : Place) (v : Val) → kind_of t p ≡ Structure → Fits t test p v
    → structure_val (fields_in v) ≡ v
fields_back t test p null_val is h = absurd h
fields_back t test p (bool_val b) is h = absurd (no_leaf (kind_of t p) (bool_val b) is h.0)
fields_back t test p (int_val z) is h = absurd (no_leaf (kind_of t p) (int_val z) is h.0)
fields_back t test p (text_val u) is h = absurd (no_leaf (kind_of t p) (text_val u) is h.0)
fields_back t test p (blob_val u) is h = absurd (no_leaf (kind_of t p) (blob_val u) is h.0)
fields_back t test p (time_val ms) is h = absurd (no_leaf (kind_of t p) (time_val ms) is h.0)
fields_back t test p (list_val vs) is h = let bad : a_list ≡ Structure = sym h.0 ∙ is in absurd cc
fields_back t test p (map_val es) is h = let bad : a_map ≡ Structure = sym h.0 ∙ is in absurd cc
fields_back t test p (structure_val fs) is h = refl
fields_back t test p (union_val k v) is h = let bad : Union ≡ Structure = sym h.0 ∙ is in absurd cc

-- what is written for a value of a goal spells it, by each test by which it fits
pub tree_written_spells : (l : Convention) → IsConvention l → ((t : TableData) (s k : ℕ) → l.name t s k ≡ name_at t k) → (s : ServiceData)
    (test : Test) (g : Goal) (told : List ℕ) (v : Val) → Servable s → HasGoal s g → (operation_at s g.operation).served ≡ Yes
    → Fits s.table test (goal_place s g) v → tree_uncarried l s g v ≡ []
    → Spells (tree_codec l s test) (goal_place s g) v (tree_written l s g told v)
tree_written_spells l is names s test g told v servable h served fits carried =
    by_role g.role (goal_shape s g) (goal_structure s g servable h)
    (goal_carried s g servable h served) fits carried
  where
    by_role : (r : Role) (shape : ℕ) → IsStructureIn s.table shape → HasNoTypeMember s.table shape → Fits s.table test (root_place shape) v
        → uncarried s.table l (root_place shape) v ≡ []
        → Spells (tree_codec l s test) (root_place shape) v (role_tree l s.table (root_place shape) r told v)
    by_role the_input shape at none fit all = written_spells (tree_codec l s test) (root_place shape) v is servable.shaped at.0 fit all
    by_role the_output shape at none fit all = written_spells (tree_codec l s test) (root_place shape) v is servable.shaped at.0 fit all
    by_role (the_error e) shape at none fit all =
        let c = tree_codec l s test in
        let p = root_place shape in
        let back = fields_back s.table test p v at.1 fit in
        let plain = written_spells c p v is servable.shaped at.0 fit all in
        let own : Spelled c p (structure_val (fields_in v)) (object (written_fields s.table l p (fields_in v))) =
        subst (λ w. Spelled c p w (written s.table l p w)) (sym back) plain.1 in
        let passed = pair_passed c p type_name (text told) (written_fields s.table l p (fields_in v)) (fields_in v)
        (λ k there same. none k there (inl (sym (names s.table shape k) ∙ sym same))) own in
        (fit, subst (λ w. Spelled c p w (role_tree l s.table p (the_error e) told v)) back passed)
