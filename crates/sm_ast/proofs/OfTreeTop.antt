-- The statements of a whole tree: no id of a shape and no key of metadata is said twice.
use Rattle.std.proofs.Common.{◌≡◌, ℕ, inl, inr, List, [], ◌∷◌, ◌++◌, refl, sym, ap, subst, ◌∙◌, append-nil, append_assoc, bytes_eq}
use Rattle.sm_tree.specs.Node.{Node, Members, no_members, member}
use Rattle.sm_tree.specs.Same.{HasName, HasDistinctNames, AreDistinct}
use Rattle.sm_model.specs.Formed.{StandsAmong, DifferInNames}
use Rattle.sm_model.specs.Said.{Said, metadata_said, shape_said, apply_said}
use Rattle.sm_ast.specs.Layout.{metadata_name, shapes_name}
use Rattle.sm_ast.specs.Ast.{AstShape, ShapePairsSay, MetadataPairsSay, TopPairSays, TopPairsSay, Ast}
use Rattle.sm_ast.specs.Distinct.{EachIsOfTree, AreOfTree, id_of_shape, key_of_metadata, names_among}
use Rattle.sm_ast.proofs.Judged.{either_way, same_text, test_same, true_is_false}
use Rattle.sm_ast.proofs.OfTree.{node_absolute, statement_of_tree}

names_joined : (name : Said → List (List ℕ)) (xs ys : List Said) → names_among name (xs ++ ys) ≡ names_among name xs ++ names_among name ys
names_joined name [] ys = refl
names_joined name (x ∷ xs) ys =
    ap (λ ks. name x ++ ks) (names_joined name xs ys) ∙ sym (append_assoc (name x) (names_among name xs) (names_among name ys))

-- names that are said in one field of the top object alone
module _ (name : Said → List (List ℕ)) (field : List ℕ)
    (here : (k : List ℕ) (n : Node) (said : List Said) → HasDistinctNames n → TopPairSays k n said → DifferInNames (names_among name said))
    (elsewhere : (k : List ℕ) (n : Node) (said : List Said) → (k ≡ field → ⊥) → TopPairSays k n said → names_among name said ≡ []) where
  nowhere : (ms : Members) (said : List Said) → (HasName field ms → ⊥) → TopPairsSay ms said → names_among name said ≡ []
  nowhere no_members said gone says = ap (names_among name) says
  nowhere (member k n ms) said gone (first, more, is, says, rest) =
      ap (names_among name) is ∙ names_joined name first more
      ∙ ap (λ ks. ks ++ names_among name more) (elsewhere k n first (λ same. gone (inl (sym same))) says)
      ∙ nowhere ms more (λ has. gone (inr has)) rest

  names_differ : (ms : Members) (said : List Said) → AreDistinct ms → TopPairsSay ms said → DifferInNames (names_among name said)
  names_differ no_members said d says = subst (λ xs. DifferInNames (names_among name xs)) (sym says) tt
  names_differ (member k n ms) said d (first, more, is, says, rest) = elim (either_way (bytes_eq k field)) [
    | inl same ↦
        let gone : HasName field ms → ⊥ = subst (λ j. HasName j ms → ⊥) (same_text k field same) d.0 in
        subst DifferInNames
        (sym (ap (names_among name) is ∙ names_joined name first more ∙ ap (λ ks. names_among name first ++ ks) (nowhere ms more gone rest)
        ∙ append-nil (names_among name first)))
        (here k n first d.1 says)
    | inr apart ↦
        let other : k ≡ field → ⊥ = λ e. true_is_false (sym (test_same k field e) ∙ apart) in
        subst DifferInNames
        (sym (ap (names_among name) is ∙ names_joined name first more
        ∙ ap (λ ks. ks ++ names_among name more) (elsewhere k n first other says)))
        (names_differ ms more d.2 rest)
  ]

-- ids
record AreShapeIds (ms : Members) (ids : List (List ℕ)) : Type 0 where
  differ : DifferInNames ids
  stand : (k : List ℕ) → StandsAmong k ids → HasName k ms

one_id : (k id : List ℕ) (n : Node) (ms : Members) (ids : List (List ℕ)) → id ≡ k → (HasName k ms → ⊥) → AreShapeIds ms ids
    → AreShapeIds (member k n ms) (id ∷ ids)
one_id k id n ms ids same once later = record {
  differ = ((λ among. once (subst (λ j. HasName j ms) same (later.stand id among))), later.differ);
  stand = λ j among. by_place j among;
}
  where
    by_place : (j : List ℕ) → StandsAmong j (id ∷ ids) → HasName j (member k n ms)
    by_place j (inl here) = inl (here ∙ same)
    by_place j (inr among) = inr (later.stand j among)

no_id : (k : List ℕ) (n : Node) (ms : Members) (ids : List (List ℕ)) → AreShapeIds ms ids → AreShapeIds (member k n ms) ids
no_id k n ms ids later = record { differ = later.differ; stand = λ j among. inr (later.stand j among) }

id_and_more : (k : List ℕ) (n : Node) (ms : Members) (s : Said) (ids : List (List ℕ)) → (HasName k ms → ⊥) → AstShape k n s
    → AreShapeIds ms ids → AreShapeIds (member k n ms) (id_of_shape s ++ ids)
id_and_more k n ms (metadata_said key value) ids once says later = absurd says
id_and_more k n ms (shape_said said) ids once (pairs, is, parts) later = one_id k said.id n ms ids parts.id once later
id_and_more k n ms (apply_said r ts) ids once says later = no_id k n ms ids later

shape_ids : (ms : Members) (said : List Said) → AreDistinct ms → ShapePairsSay ms said → AreShapeIds ms (names_among id_of_shape said)
shape_ids no_members said d says =
    subst (λ xs. AreShapeIds no_members (names_among id_of_shape xs)) (sym says) (record { differ = tt; stand = λ k among. absurd among })
shape_ids (member k n ms) said d (s, more, is, says, rest) =
    subst (λ xs. AreShapeIds (member k n ms) (names_among id_of_shape xs)) (sym is)
    (id_and_more k n ms s (names_among id_of_shape more) d.0 says (shape_ids ms more d.2 rest))

no_shapes : (ms : Members) (said : List Said) → MetadataPairsSay ms said → names_among id_of_shape said ≡ []
no_shapes no_members said says = ap (names_among id_of_shape) says
no_shapes (member k n ms) said (more, is, rest) = ap (names_among id_of_shape) is ∙ no_shapes ms more rest

ids_here : (k : List ℕ) (n : Node) (said : List Said) → HasDistinctNames n → TopPairSays k n said
    → DifferInNames (names_among id_of_shape said)
ids_here k n said d (inl (is, known, nothing)) = subst (λ xs. DifferInNames (names_among id_of_shape xs)) (sym nothing) tt
ids_here k n said d (inr (inl (is, ms, is_object, says))) = subst DifferInNames (sym (no_shapes ms said says)) tt
ids_here k n said d (inr (inr (is, ms, is_object, says))) = (shape_ids ms said (subst HasDistinctNames is_object d) says).differ

ids_elsewhere : (k : List ℕ) (n : Node) (said : List Said) → (k ≡ shapes_name → ⊥) → TopPairSays k n said
    → names_among id_of_shape said ≡ []
ids_elsewhere k n said other (inl (is, known, nothing)) = ap (names_among id_of_shape) nothing
ids_elsewhere k n said other (inr (inl (is, ms, is_object, says))) = no_shapes ms said says
ids_elsewhere k n said other (inr (inr (is, ms, is_object, says))) = absurd (other is)

-- keys
metadata_keys : (ms : Members) (said : List Said) → AreDistinct ms → MetadataPairsSay ms said
    → AreShapeIds ms (names_among key_of_metadata said)
metadata_keys no_members said d says =
    subst (λ xs. AreShapeIds no_members (names_among key_of_metadata xs)) (sym says)
    (record { differ = tt; stand = λ k among. absurd among })
metadata_keys (member k n ms) said d (more, is, rest) =
    subst (λ xs. AreShapeIds (member k n ms) (names_among key_of_metadata xs)) (sym is)
    (one_id k k n ms (names_among key_of_metadata more) refl d.0 (metadata_keys ms more d.2 rest))

no_metadata : (ms : Members) (said : List Said) → ShapePairsSay ms said → names_among key_of_metadata said ≡ []
no_metadata no_members said says = ap (names_among key_of_metadata) says
no_metadata (member k n ms) said (s, more, is, says, rest) =
    ap (names_among key_of_metadata) is ∙ ap (λ ks. ks ++ names_among key_of_metadata more) (none_of s says) ∙ no_metadata ms more rest
  where
    none_of : (x : Said) → AstShape k n x → key_of_metadata x ≡ []
    none_of (metadata_said key value) bad = absurd bad
    none_of (shape_said x) bad = refl
    none_of (apply_said r ts) bad = refl

keys_here : (k : List ℕ) (n : Node) (said : List Said) → HasDistinctNames n → TopPairSays k n said
    → DifferInNames (names_among key_of_metadata said)
keys_here k n said d (inl (is, known, nothing)) = subst (λ xs. DifferInNames (names_among key_of_metadata xs)) (sym nothing) tt
keys_here k n said d (inr (inl (is, ms, is_object, says))) = (metadata_keys ms said (subst HasDistinctNames is_object d) says).differ
keys_here k n said d (inr (inr (is, ms, is_object, says))) = subst DifferInNames (sym (no_metadata ms said says)) tt

keys_elsewhere : (k : List ℕ) (n : Node) (said : List Said) → (k ≡ metadata_name → ⊥) → TopPairSays k n said
    → names_among key_of_metadata said ≡ []
keys_elsewhere k n said other (inl (is, known, nothing)) = ap (names_among key_of_metadata) nothing
keys_elsewhere k n said other (inr (inl (is, ms, is_object, says))) = absurd (other is)
keys_elsewhere k n said other (inr (inr (is, ms, is_object, says))) = no_metadata ms said says

-- each statement
each_joined : (xs ys : List Said) → EachIsOfTree xs → EachIsOfTree ys → EachIsOfTree (xs ++ ys)
each_joined [] ys h more = more
each_joined (x ∷ xs) ys h more = (h.0, each_joined xs ys h.1 more)

each_of_shapes : (ms : Members) (said : List Said) → AreDistinct ms → ShapePairsSay ms said → EachIsOfTree said
each_of_shapes no_members said d says = subst EachIsOfTree (sym says) tt
each_of_shapes (member k n ms) said d (s, more, is, says, rest) =
    subst EachIsOfTree (sym is) (statement_of_tree k n s d.1 says, each_of_shapes ms more d.2 rest)

each_of_metadata : (ms : Members) (said : List Said) → MetadataPairsSay ms said → EachIsOfTree said
each_of_metadata no_members said says = subst EachIsOfTree (sym says) tt
each_of_metadata (member k n ms) said (more, is, rest) = subst EachIsOfTree (sym is) (node_absolute n, each_of_metadata ms more rest)

each_of_pair : (k : List ℕ) (n : Node) (said : List Said) → HasDistinctNames n → TopPairSays k n said → EachIsOfTree said
each_of_pair k n said d (inl (is, known, nothing)) = subst EachIsOfTree (sym nothing) tt
each_of_pair k n said d (inr (inl (is, ms, is_object, says))) = each_of_metadata ms said says
each_of_pair k n said d (inr (inr (is, ms, is_object, says))) = each_of_shapes ms said (subst HasDistinctNames is_object d) says

each_of_top : (ms : Members) (said : List Said) → AreDistinct ms → TopPairsSay ms said → EachIsOfTree said
each_of_top no_members said d says = subst EachIsOfTree (sym says) tt
each_of_top (member k n ms) said d (first, more, is, says, rest) =
    subst EachIsOfTree (sym is) (each_joined first more (each_of_pair k n first d.1 says) (each_of_top ms more d.2 rest))

pub ast_of_tree : (said : List Said) (n : Node) → Ast said n → AreOfTree said
ast_of_tree said n ast =
    let d : AreDistinct ast.pairs = subst HasDistinctNames ast.is_object ast.distinct in record {
      each = each_of_top ast.pairs said d ast.says;
      ids = names_differ id_of_shape shapes_name ids_here ids_elsewhere ast.pairs said d ast.says;
      keys = names_differ key_of_metadata metadata_name keys_here keys_elsewhere ast.pairs said d ast.says;
    }
