-- What is written for a whole graph says the statements of the graph.
use Rattle.std.proofs.Common.{inl, inr, ℕ, Bool, true, false, List, [], ◌∷◌, ◌++◌, map, Option, Some, None, refl, sym, subst, append-nil}
use Rattle.std.proofs.Common.{if◌then◌else◌, codes}
use Rattle.std.specs.FinMap as fin
use Rattle.sm_tree.specs.Node.{Node, text, members_of}
use Rattle.sm_tree.specs.Same.{HasDistinctNames, AreDistinct}
use Rattle.sm_model.specs.Given.{are_under}
use Rattle.sm_model.specs.Graphs.{Entry, ShapeEntry, ShapeMap, graph_of, member_entry, shape_entry}
use Rattle.sm_model.specs.Properties.{property_forms}
use Rattle.sm_model.specs.Raw.{raw_object, raw_members_of, raw_of}
use Rattle.sm_model.specs.Said.{MemberSaid, Said, metadata_said, shape_said}
use Rattle.sm_model.proofs.MapFacts.{Each, keys, keys_differ}
use Rattle.sm_ast.specs.Layout.{metadata_name, shapes_name, smithy_name}
use Rattle.sm_ast.specs.Ast.{AstShape, MetadataPairsSay, ShapePairsSay, TopPairsSay}
use Rattle.sm_ast.specs.GraphSaid.{body_said, entry_said, entry_statements, graph_statements, map_said, shape_members_said}
use Rattle.sm_ast.specs.Laws.{WrittenSays}
use Rattle.sm_model.specs.PreludeShapes.{is_prelude_id}
use Rattle.sm_ast.specs.Written.{WrittenPairs, field_there, filled_object, shape_object, written_shape, written_shapes}
use Rattle.sm_ast.specs.Written.{written_statement}
use Rattle.sm_ast.specs.PartsSaid.{pairs_said}
use Rattle.sm_ast.proofs.GivenGraph.{EntryIsSound, IsSoundShape, graph_sound, nodes_in_map}
use Rattle.sm_ast.proofs.WrittenFields.{object_distinct}
use Rattle.sm_ast.proofs.WrittenMembers.{found_pairs, nodes_distinct}
use Rattle.sm_ast.proofs.WrittenNames.{EachDistinct, PairsWithin, differ_by_test, differ_within, distinct_joined, distinct_pairs}
use Rattle.sm_ast.proofs.WrittenNames.{field_within}
use Rattle.sm_ast.proofs.WrittenNames.{pairs_joined}
use Rattle.sm_ast.proofs.WrittenShape.{shape_distinct, shape_says}

-- a shape
module _ (shapes : ShapeMap) (id : List ℕ) (s : ShapeEntry) (h : IsSoundShape shapes id s) where
  abbrev written_with : WrittenPairs → Node
  written_with members = shape_object s.kind members (pairs_said s.properties) (fin.entries s.traits)

  abbrev said_with : List MemberSaid → Said
  said_with members = shape_said (record {
    id = id;
    kind = s.kind;
    members = members;
    mixins = [];
    properties = raw_object (raw_members_of (body_said (property_forms s.kind) (pairs_said s.properties)));
    traits = map_said s.traits;
  })

  one_says : AstShape id (written_shape shapes s) (shape_said (entry_said shapes id s))
  one_says =
      subst (λ ms. AstShape id (written_with ms) (said_with (shape_members_said shapes s.members))) (sym h.written)
      (subst (λ ms. AstShape id (written_with (found_pairs h.found)) (said_with ms)) (sym h.said)
      (shape_says id s.kind h.found (pairs_said s.properties) (fin.entries s.traits) h.is))

  one_distinct : HasDistinctNames (written_shape shapes s)
  one_distinct =
      subst (λ ms. HasDistinctNames (written_with ms)) (sym h.written)
      (shape_distinct id s.kind h.found (pairs_said s.properties) (fin.entries s.traits) h.is)

-- what is put at an id
abbrev put_shape : Bool → ShapeMap → ShapeEntry → Option Node
put_shape known shapes s = if known then None else Some (written_shape shapes s)

abbrev said_shape : Bool → ShapeMap → List ℕ → ShapeEntry → List Said
said_shape known shapes id s = if known then [] else shape_said (entry_said shapes id s) ∷ []

put_says : (shapes : ShapeMap) (id : List ℕ) (s : ShapeEntry) → IsSoundShape shapes id s
    → (known : Bool) (ps : WrittenPairs) (said : List Said)
    → ShapePairsSay (members_of ps) said
    → ShapePairsSay (members_of (field_there id (put_shape known shapes s) ++ ps)) (said_shape known shapes id s ++ said)
put_says shapes id s h true ps said rest = rest
put_says shapes id s h false ps said rest = (shape_said (entry_said shapes id s), said, refl, one_says shapes id s h, rest)

entry_says : (shapes : ShapeMap) (id : List ℕ) (x : Entry) → EntryIsSound shapes id x → (ps : WrittenPairs) (said : List Said)
    → ShapePairsSay (members_of ps) said
    → ShapePairsSay (members_of (field_there id (written_statement shapes id x) ++ ps)) (entry_statements shapes id x ++ said)
entry_says shapes id (member_entry m) h ps said rest = rest
entry_says shapes id (shape_entry s) h ps said rest = put_says shapes id s h (is_prelude_id id) ps said rest

shapes_say : (shapes : ShapeMap) (es : List (List ℕ × Entry)) → Each (EntryIsSound shapes) es
    → ShapePairsSay (members_of (written_shapes shapes es)) (graph_statements shapes es)
shapes_say shapes [] h = refl
shapes_say shapes (e ∷ es) h =
    entry_says shapes e.0 e.1 h.0 (written_shapes shapes es) (graph_statements shapes es) (shapes_say shapes es h.1)

put_distinct : (shapes : ShapeMap) (id : List ℕ) (s : ShapeEntry) → IsSoundShape shapes id s → (known : Bool)
    → EachDistinct (field_there id (put_shape known shapes s))
put_distinct shapes id s h true = tt
put_distinct shapes id s h false = (one_distinct shapes id s h, tt)

entry_distinct : (shapes : ShapeMap) (id : List ℕ) (x : Entry) → EntryIsSound shapes id x
    → EachDistinct (field_there id (written_statement shapes id x))
entry_distinct shapes id (member_entry m) h = tt
entry_distinct shapes id (shape_entry s) h = put_distinct shapes id s h (is_prelude_id id)

each_distinct : (shapes : ShapeMap) (es : List (List ℕ × Entry)) → Each (EntryIsSound shapes) es → EachDistinct (written_shapes shapes es)
each_distinct shapes [] h = tt
each_distinct shapes (e ∷ es) h =
    distinct_joined (field_there e.0 (written_statement shapes e.0 e.1)) (written_shapes shapes es) (entry_distinct shapes e.0 e.1 h.0)
    (each_distinct shapes es h.1)

shapes_within : (shapes : ShapeMap) (es : List (List ℕ × Entry)) → PairsWithin (written_shapes shapes es) (keys es)
shapes_within shapes [] = tt
shapes_within shapes (e ∷ es) =
    pairs_joined (field_there e.0 (written_statement shapes e.0 e.1)) (written_shapes shapes es) (e.0 ∷ []) (keys es)
    (field_within e.0 (written_statement shapes e.0 e.1)) (shapes_within shapes es)

shapes_distinct : (shapes : ShapeMap) → Each (EntryIsSound shapes) (fin.entries shapes)
    → AreDistinct (members_of (written_shapes shapes (fin.entries shapes)))
shapes_distinct shapes h =
    let es = fin.entries shapes in
    distinct_pairs (written_shapes shapes es)
    (differ_within (are_under (written_shapes shapes es)) (keys es) (shapes_within shapes es) (keys_differ shapes))
    (each_distinct shapes es h)

-- metadata
abbrev metadata_of : WrittenPairs → List Said
metadata_of ms = map (λ m. metadata_said m.0 (raw_of m.1)) ms

metadata_says : (ms : WrittenPairs) → MetadataPairsSay (members_of ms) (metadata_of ms)
metadata_says [] = refl
metadata_says (m ∷ ms) = (metadata_of ms, refl, metadata_says ms)

-- the top object
abbrev shapes_part : WrittenPairs → WrittenPairs
shapes_part ps = field_there shapes_name (filled_object (members_of ps))

abbrev metadata_part : WrittenPairs → WrittenPairs
metadata_part ps = field_there metadata_name (filled_object (members_of ps))

shapes_part_says : (ps : WrittenPairs) (said : List Said) → ShapePairsSay (members_of ps) said
    → TopPairsSay (members_of (shapes_part ps)) said
shapes_part_says [] said h = h
shapes_part_says (p ∷ ps) said h = (said, [], sym (append-nil said), inr (inr (refl, members_of (p ∷ ps), refl, h)), refl)

metadata_part_says : (ms after : WrittenPairs) (first more : List Said) → MetadataPairsSay (members_of ms) first
    → TopPairsSay (members_of after) more → TopPairsSay (members_of (metadata_part ms ++ after)) (first ++ more)
metadata_part_says [] after first more h rest = subst (λ xs. TopPairsSay (members_of after) (xs ++ more)) (sym h) rest
metadata_part_says (m ∷ ms) after first more h rest = (first, more, refl, inr (inl (refl, members_of (m ∷ ms), refl, h)), rest)

abbrev version : WrittenPairs
version = (smithy_name, text (codes "2.0")) ∷ []

top_distinct : (ms ss : WrittenPairs) → AreDistinct (members_of ms) → AreDistinct (members_of ss)
    → AreDistinct (members_of (version ++ metadata_part ms ++ shapes_part ss))
top_distinct ms ss d e =
    distinct_pairs (version ++ metadata_part ms ++ shapes_part ss)
    (differ_within (are_under (version ++ metadata_part ms ++ shapes_part ss)) (smithy_name ∷ metadata_name ∷ shapes_name ∷ [])
    (pairs_joined (version ++ metadata_part ms) (shapes_part ss) (smithy_name ∷ metadata_name ∷ []) (shapes_name ∷ [])
    (pairs_joined version (metadata_part ms) (smithy_name ∷ []) (metadata_name ∷ []) (inl (refl, tt))
    (field_within metadata_name (filled_object (members_of ms))))
    (field_within shapes_name (filled_object (members_of ss))))
    (differ_by_test (smithy_name ∷ metadata_name ∷ shapes_name ∷ []) refl))
    (distinct_joined (version ++ metadata_part ms) (shapes_part ss)
    (distinct_joined version (metadata_part ms) (tt, tt) (object_distinct metadata_name (members_of ms) d))
    (object_distinct shapes_name (members_of ss) e))

pub written_says : WrittenSays
written_says shapes metadata h named =
    let g = graph_of shapes metadata in
    let ms = fin.entries g.metadata in
    let ss = written_shapes g.shapes (fin.entries g.shapes) in
    let sound = graph_sound shapes metadata h named in record {
      distinct = top_distinct ms ss
          (distinct_pairs ms (keys_differ g.metadata) (nodes_distinct ms (nodes_in_map metadata h.metadata_is.nodes)))
          (shapes_distinct g.shapes sound);
      pairs = members_of (version ++ metadata_part ms ++ shapes_part ss);
      is_object = refl;
      has_version = inl refl;
      says = (
        [],
        metadata_of ms ++ graph_statements g.shapes (fin.entries g.shapes),
        refl,
        inl (refl, inl refl, refl),
        metadata_part_says ms (shapes_part ss) (metadata_of ms) (graph_statements g.shapes (fin.entries g.shapes)) (metadata_says ms)
            (shapes_part_says ss (graph_statements g.shapes (fin.entries g.shapes)) (shapes_say g.shapes (fin.entries g.shapes) sound)),
      );
    }
