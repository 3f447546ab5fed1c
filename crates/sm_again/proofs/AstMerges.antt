-- What the tree of a merged graph says of a shape is the shape as the graph has it, so what it says merges to the graph.
use Rattle.std.proofs.Common.{◌≡◌, ℕ, Bool, true, false, List, [], ◌∷◌, ◌++◌, map, Option, Some, None, refl, sym, ap}
use Rattle.std.proofs.Common.{subst, ◌∙◌, append-nil}
use Rattle.std.specs.Prelude.{◌||◌, cond, not, if◌then◌else◌}
use Rattle.std.specs.FinMap as fin
use Rattle.sm_tree.specs.Node.{Node, Nodes, Members, list, object, no_nodes, node, no_members, member}
use Rattle.sm_tree.specs.Parts.{tree_named}
use Rattle.sm_model.specs.Given.{AreIdNodes, AreNamedIds, IsIdNode, NodeHasForm}
use Rattle.sm_model.specs.GraphView.{maps_of}
use Rattle.sm_model.specs.Graphs.{Entry, GraphMaps, MemberEntry, MemberGiven, ShapeEntry, ShapeMap, member_entry, member_id, shape_entry}
use Rattle.sm_model.specs.PreludeShapes.{is_prelude_id}
use Rattle.sm_model.specs.Properties.{TypeFields, property_forms}
use Rattle.sm_model.specs.Raw.{Raw, raw_leaf, raw_list, raw_object, raw_members_of, raw_of}
use Rattle.sm_model.specs.References.{IsShapeId}
use Rattle.sm_model.specs.Said.{metadata_said}
use Rattle.sm_model.specs.declared.property.PropertyForm.{PropertyForm}
use Rattle.sm_model.specs.declared.property.PropertyForm.TheVariants.{Reference, References, NamedReferences, Text, Rename}
use Rattle.sm_ast.specs.GraphSaid.{body_said, entry_said, entry_statements, form_said, form_there_said, graph_said, graph_statements}
use Rattle.sm_ast.specs.GraphSaid.{id_said, ids_said}
use Rattle.sm_ast.specs.GraphSaid.{map_said, member_under_said, named_ids_said, names_said, raw_field, shape_members_said}
use Rattle.sm_ast.specs.GraphSaid.{traits_of_pairs}
use Rattle.sm_ids.specs.TextParts.{member_name}
use Rattle.sm_ast.specs.PartsSaid.{pairs_said}
use Rattle.sm_ids.proofs.TextCuts.{member_named}
use Rattle.sm_merge.specs.Meaning.{Defined, members_meant, node_meant, nodes_meant}
use Rattle.sm_model.specs.Used.{shape_part}
use Rattle.sm_merge.specs.Restated.{ComesTo, IsMemberIn, IsShapeIn, StatesPart}
use Rattle.sm_merge.specs.Stated.{all_said, body_of, defined_among, is_empty, member_stated, shape_with_ids, stated_by, traits_stated}
use Rattle.sm_merge.proofs.BodiesAgain.{SaysForms, body_again, forms_said, one_said, pairs_or_none}
use Rattle.sm_merge.proofs.RegularGraphs.{IsRegular, IsRegularShape, merged_regular}
use Rattle.sm_merge.proofs.RestatedEvents.{part_again}
use Rattle.sm_merge.proofs.RestatedFiles.{AllStated, file_if, file_states, meant_itself, metadata_there, one_in_file}
use Rattle.sm_merge.proofs.RestatedFiles.{shape_if, shapes_if, stated_under, stated_values}
use Rattle.sm_again.specs.AstMerges.{AstMerges}
use Rattle.sm_again.proofs.MembersAgain.{AreSaidMembers, IsSaidMember, members_again, shape_in}

module _ (defined : Defined) where
  -- traits
  traits_meant : (ts : List (List ℕ × Node)) → traits_stated defined (traits_of_pairs ts) ≡ ts
  traits_meant [] = refl
  traits_meant (t ∷ ts) =
      let value : node_meant defined (raw_of t.1) ≡ t.1 = meant_itself defined t.1 in
      let rest = traits_meant ts in
      λ i. (t.0, value i) ∷ rest i

  -- the fields of bodies
  id_meant : (n : Node) → IsIdNode n → node_meant defined (id_said n) ≡ n
  id_meant n (t, is, id) = ap (λ m. node_meant defined (id_said m)) is ∙ sym is

  ids_meant : (ns : Nodes) → AreIdNodes ns → nodes_meant defined (ids_said ns) ≡ ns
  ids_meant no_nodes h = refl
  ids_meant (node n ns) h =
      let first = id_meant n h.0 in
      let rest = ids_meant ns h.1 in
      λ i. node (first i) (rest i)

  named_meant : (ms : Members) → AreNamedIds ms → members_meant defined (named_ids_said ms) ≡ ms
  named_meant no_members h = refl
  named_meant (member k n ms) h =
      let first = id_meant n h.0 in
      let rest = named_meant ms h.1 in
      λ i. member k (first i) (rest i)

  names_meant : (ms : Members) → members_meant defined (names_said ms) ≡ ms
  names_meant no_members = refl
  names_meant (member k n ms) = ap (λ rest. member k n rest) (names_meant ms)

  abbrev Comes : Node → Option Raw → Type 0
  Comes n o = (r : Raw) × (o ≡ Some r) × (node_meant defined r ≡ n)

  no_empty : {A : Type 0} → true ≡ false → A
  no_empty e = absurd (subst (λ c. cond c (Unit {0}) ⊥) e tt)

  list_comes : (ns : Nodes) → AreIdNodes ns → is_empty (list ns) ≡ false → Comes (list ns) (form_said References (list ns))
  list_comes no_nodes h full = no_empty full
  list_comes (node n ns) h full = (raw_list (ids_said (node n ns)), refl, ap list (ids_meant (node n ns) h))

  named_comes : (ms : Members) → AreNamedIds ms → is_empty (object ms) ≡ false → Comes (object ms) (form_said NamedReferences (object ms))
  named_comes no_members h full = no_empty full
  named_comes (member k n ms) h full =
      (raw_object (named_ids_said (member k n ms)), refl, ap object (named_meant (member k n ms) h))

  renamed_comes : (ms : Members) → is_empty (object ms) ≡ false → Comes (object ms) (form_said Rename (object ms))
  renamed_comes no_members full = no_empty full
  renamed_comes (member k n ms) full =
      (raw_object (names_said (member k n ms)), refl, ap object (names_meant (member k n ms)))

  form_comes : (form : PropertyForm) (n : Node) → NodeHasForm form n → is_empty n ≡ false → Comes n (form_said form n)
  form_comes Reference n h full = (id_said n, refl, id_meant n h)
  form_comes References n (ns, is, each) full =
      subst (λ m. Comes m (form_said References m)) (sym is) (list_comes ns each (sym (ap is_empty is) ∙ full))
  form_comes NamedReferences n (ms, is, each) full =
      subst (λ m. Comes m (form_said NamedReferences m)) (sym is) (named_comes ms each (sym (ap is_empty is) ∙ full))
  form_comes Text n h full = (raw_leaf n, refl, refl)
  form_comes Rename n (ms, is, each) full =
      subst (λ m. Comes m (form_said Rename m)) (sym is) (renamed_comes ms (sym (ap is_empty is) ∙ full))

  says_forms : SaysForms defined form_there_said
  says_forms = record {
    none = λ form. refl;
    some = λ form n h full. form_comes form n h full;
  }

  field_is : (name : List ℕ) (o : Option Raw) → raw_field name o ≡ one_said name o
  field_is name None = refl
  field_is name (Some r) = refl

  fields_are : (fs : TypeFields) (ms : Members) → body_said fs ms ≡ forms_said form_there_said fs ms
  fields_are [] ms = refl
  fields_are (f ∷ fs) ms =
      let first = field_is f.0 (form_there_said f.1 (tree_named f.0 ms)) in
      let rest = fields_are fs ms in
      λ i. first i ++ rest i

  -- members
  module _ (shapes : ShapeMap) (id : List ℕ) (is : IsShapeId id) where
    abbrev member_again : List ℕ → MemberEntry → MemberGiven
    member_again q e = record { name = member_name q; target = e.target; traits = traits_stated defined (map_said e.traits) }

    abbrev members_said : List (List ℕ) → List MemberGiven
    members_said ids = map (member_stated defined) (shape_members_said shapes ids)

    member_is_in : (name : List ℕ) (e : MemberEntry) → fin.get shapes (member_id id name) ≡ Some (member_entry e)
        → IsMemberIn shapes id (member_again (member_id id name) e)
    member_is_in name e found = record {
      traits = e.traits;
      found = ap (λ k. fin.get shapes (member_id id k)) (member_named id is name) ∙ found;
      same = traits_meant (fin.entries e.traits);
    }

    one_again : (name : List ℕ) (e : MemberEntry) → fin.get shapes (member_id id name) ≡ Some (member_entry e)
        → IsSaidMember shapes id members_said name
    one_again name e found = record {
      member = member_again (member_id id name) e;
      same = ap (member_id id) (member_named id is name);
      is_in = member_is_in name e found;
      first = λ ids. ap (λ o. map (member_stated defined) (member_under_said (member_id id name) o ++ shape_members_said shapes ids)) found;
    }

  shape_again : (g : GraphMaps) (id : List ℕ) (s : ShapeEntry) → fin.get g.shapes id ≡ Some (shape_entry s) → (r : IsRegularShape g id s)
      → IsShapeIn g.shapes (shape_with_ids defined (entry_said g.shapes id s)).shape
  shape_again g id s found r =
      let said = members_said g.shapes id r.is in
      let members : AreSaidMembers g.shapes id said s.members =
      subst (AreSaidMembers g.shapes id said) (sym r.members)
      (members_again g.shapes id said refl r.names
      (λ name among. let held = r.each name among in one_again g.shapes id r.is name held.0 held.1)) in
      let pairs : pairs_said s.properties ≡ pairs_or_none s.properties =
      subst (λ n. pairs_said n ≡ pairs_or_none n) (sym r.body.is_object) refl in
      let fields = ap (λ ps. body_of s.kind (node_meant defined (raw_object (raw_members_of ps))))
      (ap (body_said (property_forms s.kind)) pairs ∙ fields_are (property_forms s.kind) (pairs_or_none s.properties)) in
      let body = fields ∙ body_again s.kind s.properties r.given r.comes r.body defined form_there_said says_forms in
      shape_in g.shapes id said s _ _ found members body (traits_meant (fin.entries s.traits))

-- the statements are those of such a file
abbrev is_own : List ℕ → Bool
is_own id = not (is_prelude_id id)

turned : {A : Type 0} (b : Bool) (xs : List A) → (if b then [] else xs) ≡ (if not b then xs else [])
turned true xs = refl
turned false xs = refl

entry_statements_are : (shapes : ShapeMap) (id : List ℕ) (e : Entry)
    → entry_statements shapes id e ≡ shape_if is_own (entry_said shapes) id e
entry_statements_are shapes id (shape_entry s) = turned (is_prelude_id id) _
entry_statements_are shapes id (member_entry m) = refl

statements_are : (shapes : ShapeMap) (es : List (List ℕ × Entry)) → graph_statements shapes es ≡ shapes_if is_own (entry_said shapes) es
statements_are shapes [] = refl
statements_are shapes (e ∷ es) =
    let first = entry_statements_are shapes e.0 e.1 in
    let rest = statements_are shapes es in
    λ i. first i ++ rest i

file_is : (g : GraphMaps) → all_said (graph_said g ∷ []) ≡ file_if is_own (entry_said g.shapes) g
file_is g =
    append-nil (graph_said g)
    ∙ ap (λ ss. map (λ (m : List ℕ × Node). metadata_said m.0 (raw_of m.1)) (fin.entries g.metadata) ++ ss)
    (statements_are g.shapes (fin.entries g.shapes))

not_it : (b : Bool) → not b ≡ true → b ≡ false
not_it false h = refl
not_it true h = sym h

abbrev all : List ℕ → Bool
all id = true

state_part : (g : GraphMaps) → IsRegular g → StatesPart all g (stated_by (graph_said g ∷ []))
state_part g regular =
    let defined = defined_among (all_said (graph_said g ∷ [])) in record {
      each = subst (AllStated g regular defined all) (sym (file_is g))
          (file_states g regular defined all is_own (entry_said g.shapes) (λ id own. (not_it (is_prelude_id id) own, refl))
          (λ k t. refl) (λ k t. refl) (λ id s found r. shape_again defined g id s found r));
      shapes = λ id s found own kept.
          let one = one_in_file defined id is_own (entry_said g.shapes) (λ k t. refl) g s found (ap not own) own in
          (one.0, ap (stated_under defined id) (file_is g) ∙ one.1);
      metadata = λ key n found none.
          metadata_there defined key n is_own (entry_said g.shapes) g [] found
          (ap (stated_values defined key n) (append-nil (file_if is_own (entry_said g.shapes) g) ∙ sym (file_is g)) ∙ none);
    }

or_true : (b : Bool) → (b || true) ≡ true
or_true true = refl
or_true false = refl

pub said_again : (g : GraphMaps) → IsRegular g → ComesTo (stated_by (graph_said g ∷ [])) g
said_again g regular =
    part_again g g all (stated_by (graph_said g ∷ [])) regular (state_part g regular) (record {
      shapes = λ id e. (λ found. (found, or_true (is_prelude_id (shape_part id))), λ there. there.0);
      metadata = λ key n. (λ found. found, λ found. found);
    })

pub ast_merges : AstMerges
ast_merges files graph formed merged =
    let g = maps_of graph in
    let comes = said_again g (merged_regular files formed g merged.0) in (comes.graph, merged.1, comes.nothing_wrong)
