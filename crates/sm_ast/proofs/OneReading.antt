-- A tree says one list of statements: what is read of it.
use Rattle.std.proofs.Common.{◌≡◌, ℕ, inl, inr, true, false, List, ◌∷◌, ◌++◌, Some, refl, sym, ap, subst, ◌∙◌, if◌then◌else◌, codes}
use Rattle.sm_tree.specs.Node.{Node, Members, text, no_members, member}
use Rattle.sm_tree.specs.Same.{HasPair, HasDistinctNames, AreDistinct}
use Rattle.sm_model.specs.Kinds.{member_form, kind_name}
use Rattle.sm_model.specs.Properties.{property_forms}
use Rattle.sm_model.specs.References.{absolute}
use Rattle.sm_model.specs.Raw.{Raw, raw_object, raw_members_of, raw_of}
use Rattle.sm_model.specs.Said.{TraitSaid, MemberSaid, ShapeSaid, Said, metadata_said, shape_said, apply_said}
use Rattle.sm_model.specs.declared.reference.Ref.{Ref}
use Rattle.sm_model.specs.declared.kind.Kind.{Kind}
use Rattle.sm_ast.specs.declared.layout.ShapeType.{ShapeType}
use Rattle.sm_ast.specs.declared.layout.ShapeType.TheVariants.{Defined, Applied}
use Rattle.sm_ast.specs.Ids.{is_id}
use Rattle.sm_ast.specs.Layout.{type_name, mixins_name, traits_name, metadata_name, shapes_name}
use Rattle.sm_ast.specs.Ast.{ReferencesSay, ShapeParts, AstShape, ShapePairsSay, MetadataPairsSay, TopPairSays, TopPairsSay, Ast}
use Rattle.sm_tree.specs.Parts.{tree_named}
use Rattle.sm_ast.specs.Faults.{type_said}
use Rattle.sm_ast.specs.steps.Saying.{references_there, traits_there, members_by_form, property_pairs, shape_by_kind, type_there}
use Rattle.sm_ast.specs.steps.Saying.{applied_said, statement_by_type, statement_by_pairs, statement_said, shape_statements}
use Rattle.sm_ast.specs.steps.Saying.{metadata_statements, top_said, top_statements, ast_said}
use Rattle.sm_ast.proofs.IdTests.{id_passes, plain_id}
use Rattle.sm_ast.proofs.Fields.{named_kind}
use Rattle.sm_ast.proofs.FaultlessParts.{pair_named}
use Rattle.sm_ast.proofs.OneParts.{one_or_nothing, one_references, one_traits, one_traits_there, one_members, one_properties}

-- a shape
abbrev shape_made : List ℕ → Kind → List MemberSaid → List Ref → Raw → List TraitSaid → ShapeSaid
shape_made id kind members mixins properties traits =
    record { id = id; kind = kind; members = members; mixins = mixins; properties = properties; traits = traits }

shape_by : (k : List ℕ) (ms : Members) (s : ShapeSaid) → AreDistinct ms → ShapeParts k ms s → s ≡ shape_by_kind k s.kind ms
shape_by k ms s d parts =
    let members = one_members (member_form s.kind) ms s.members d parts.members in
    let mixins = one_or_nothing mixins_name ms ReferencesSay references_there s.mixins d refl
    (λ n e f. one_references n s.mixins f) parts.mixins in
    let properties = parts.properties.1 ∙ ap raw_object (one_properties (property_forms s.kind) ms parts.properties.0 parts.properties.2) in
    let traits = one_traits_there ms s.traits d parts.traits in
    ap (λ x. shape_made x s.kind s.members s.mixins s.properties s.traits) parts.id
    ∙ ap (λ x. shape_made k s.kind x s.mixins s.properties s.traits) members
    ∙ ap (λ x. shape_made k s.kind (members_by_form (member_form s.kind) ms) x s.properties s.traits) mixins
    ∙ ap (λ x. shape_made k s.kind (members_by_form (member_form s.kind) ms)
    (references_there (tree_named mixins_name ms)) x s.traits) properties
    ∙ ap (λ x. shape_made k s.kind (members_by_form (member_form s.kind) ms) (references_there (tree_named mixins_name ms))
    (raw_object (raw_members_of (property_pairs (property_forms s.kind) ms))) x) traits

-- the statement under an id, by the type of its pairs
by_type : (k : List ℕ) (ms : Members) (t : List ℕ) (type : ShapeType) → AreDistinct ms → is_id k ≡ true → HasPair type_name (text t) ms
    → type_said (text t) ≡ Some type → statement_by_type (Some type) k ms ≡ statement_by_pairs k ms
by_type k ms t type d id has is =
    ap (λ o. statement_by_type o k ms) (sym is)
    ∙ ap (λ o. statement_by_type (type_there o) k ms) (sym (pair_named type_name (text t) ms d has))
    ∙ ap (λ b. if b then statement_by_type (type_there (tree_named type_name ms)) k ms else applied_said k ms) (sym id)

one_statement : (k : List ℕ) (n : Node) (said : Said) → HasDistinctNames n → AstShape k n said → said ≡ statement_said k n
one_statement k n (metadata_said key value) d says = absurd says
one_statement k n (shape_said s) d (ms, is, parts) =
    let distinct : AreDistinct ms = subst HasDistinctNames is d in
    ap shape_said (shape_by k ms s distinct parts)
    ∙ by_type k ms (kind_name s.kind) (Defined s.kind) distinct (plain_id k parts.is_shape).0 parts.type (named_kind s.kind)
    ∙ ap (statement_said k) (sym is)
one_statement k n (apply_said r ts) d (ms, is, same, parts) =
    let distinct : AreDistinct ms = subst HasDistinctNames is d in
    ap (λ x. apply_said x ts) same
    ∙ ap (apply_said (absolute k false)) (one_traits parts.node ts parts.says
    ∙ ap traits_there (sym (pair_named traits_name parts.node ms distinct parts.traits)))
    ∙ by_type k ms (codes "apply") Applied distinct (id_passes k parts.is_id) parts.type refl ∙ ap (statement_said k) (sym is)

one_shapes : (ms : Members) (said : List Said) → AreDistinct ms → ShapePairsSay ms said → said ≡ shape_statements ms
one_shapes no_members said d says = says
one_shapes (member k n ms) said d (s, more, is, says, rest) =
    is ∙ ap (λ x. x ∷ more) (one_statement k n s d.1 says) ∙ ap (λ xs. statement_said k n ∷ xs) (one_shapes ms more d.2 rest)

one_metadata : (ms : Members) (said : List Said) → MetadataPairsSay ms said → said ≡ metadata_statements ms
one_metadata no_members said says = says
one_metadata (member k n ms) said (more, is, rest) = is ∙ ap (λ xs. metadata_said k (raw_of n) ∷ xs) (one_metadata ms more rest)

-- a whole tree
one_top_pair : (k : List ℕ) (n : Node) (said : List Said) → HasDistinctNames n → TopPairSays k n said → said ≡ top_said k n
one_top_pair k n said d (inl (is, known, nothing)) = nothing ∙ ap (λ j. top_said j n) (sym is)
one_top_pair k n said d (inr (inl (is, ms, is_object, says))) =
    one_metadata ms said says ∙ ap (top_said metadata_name) (sym is_object) ∙ ap (λ j. top_said j n) (sym is)
one_top_pair k n said d (inr (inr (is, ms, is_object, says))) =
    one_shapes ms said (subst HasDistinctNames is_object d) says ∙ ap (top_said shapes_name) (sym is_object)
    ∙ ap (λ j. top_said j n) (sym is)

one_top : (ms : Members) (said : List Said) → AreDistinct ms → TopPairsSay ms said → said ≡ top_statements ms
one_top no_members said d says = says
one_top (member k n ms) said d (first, more, is, says, rest) =
    is ∙ ap (λ x. x ++ more) (one_top_pair k n first d.1 says) ∙ ap (λ xs. top_said k n ++ xs) (one_top ms more d.2 rest)

pub one_said : (said : List Said) (n : Node) → Ast said n → said ≡ ast_said n
one_said said n ast =
    one_top ast.pairs said (subst HasDistinctNames ast.is_object ast.distinct) ast.says ∙ ap ast_said (sym ast.is_object)

pub one_reading : (one other : List Said) (n : Node) → Ast one n → Ast other n → one ≡ other
one_reading one other n says also = one_said one n says ∙ sym (one_said other n also)
