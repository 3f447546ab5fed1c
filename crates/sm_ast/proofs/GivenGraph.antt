-- What stands in the graph of given shapes: each shape with its members, as they are written and said.
use Rattle.std.proofs.Common.{◌≡◌, ℕ, false, List, [], ◌∷◌, ◌++◌, map, refl, sym, ap, subst, ◌∙◌}
use Rattle.std.specs.FinMap as fin
use Rattle.sm_ids.specs.IdText.{IsIdText, IsShapeId}
use Rattle.sm_ids.specs.TextParts.{member_id, member_name}
use Rattle.sm_ids.proofs.TextCuts.{member_named}
use Rattle.sm_tree.specs.Node.{Node}
use Rattle.sm_tree.specs.Same.{IsNode}
use Rattle.sm_model.specs.Formed.{HaveForm}
use Rattle.sm_model.specs.Given.{AreNodes, AreGiven, AreGivenMembers, AreGivenShapes, AreNodeFields}
use Rattle.sm_model.specs.Graphs.{Entry, MemberGiven, ShapeEntry, ShapeGiven, ShapeMap, graph_of, member_entry, shape_entry, text_cmp}
use Rattle.sm_model.specs.Kinds.{member_form}
use Rattle.sm_model.specs.Named.{AreUnderIds, MembersAreUnderIds, HaveTraitIds, AreNamed}
use Rattle.sm_model.specs.Properties.{property_forms}
use Rattle.sm_model.specs.References.{absolute}
use Rattle.sm_model.proofs.GivenEntries.{AreKnown, AreThere, EntryIsWhole, IsWholeShape, MembersKnown, MemberThere, graph_whole, ids_there}
use Rattle.sm_model.proofs.GivenEntries.{names_there}
use Rattle.sm_model.proofs.MapFacts.{Each, each_entry, each_so, keys_differ}
use Rattle.sm_ast.specs.GraphSaid.{map_said, member_under_said, shape_members_said}
use Rattle.sm_ast.specs.Written.{field_there, member_object, member_there, written_entry, written_members}
use Rattle.sm_ast.specs.PartsSaid.{pairs_said}
use Rattle.sm_ast.proofs.WrittenFields.{pairs_said_distinct}
use Rattle.sm_ast.proofs.WrittenMembers.{AreFoundMembers, AreSoundTraits, FoundMember, found_names, found_pairs, found_said}
use Rattle.sm_ast.proofs.WrittenShape.{IsFoundShape}

-- traits in their map
each_id : (ts : List (List ℕ × Node)) → AreUnderIds ts → Each (λ k n. IsIdText k) ts
each_id [] h = tt
each_id (t ∷ ts) h = (h.0, each_id ts h.1)

ids_each : (ts : List (List ℕ × Node)) → Each (λ k n. IsIdText k) ts → AreUnderIds ts
ids_each [] h = tt
ids_each (t ∷ ts) h = (h.0, ids_each ts h.1)

each_node : (ts : List (List ℕ × Node)) → AreNodes ts → Each (λ k n. IsNode n) ts
each_node [] h = tt
each_node (t ∷ ts) h = (h.0, each_node ts h.1)

nodes_each : (ts : List (List ℕ × Node)) → Each (λ k n. IsNode n) ts → AreNodes ts
nodes_each [] h = tt
nodes_each (t ∷ ts) h = (h.0, nodes_each ts h.1)

pub nodes_in_map : (ts : List (List ℕ × Node)) → AreNodes ts → AreNodes (fin.entries (fin.from_entries {R = text_cmp} ts))
nodes_in_map ts h = nodes_each _ (each_entry (λ k n. IsNode n) ts (each_node ts h))

traits_in_map : (ts : List (List ℕ × Node)) → AreUnderIds ts → AreNodes ts
    → AreSoundTraits (fin.entries (fin.from_entries {R = text_cmp} ts))
traits_in_map ts ids nodes = record {
  ids = ids_each _ (each_entry (λ k n. IsIdText k) ts (each_id ts ids));
  differ = keys_differ (fin.from_entries ts);
  nodes = nodes_in_map ts nodes;
}

members_known : (ms : List MemberGiven) → AreGivenMembers ms → MembersAreUnderIds ms → MembersKnown AreSoundTraits ms
members_known [] h named = tt
members_known (m ∷ ms) h named = (traits_in_map m.traits named.0 h.2.nodes, members_known ms h.3 named.1)

all_known : (ss : List ShapeGiven) → AreGivenShapes ss → HaveTraitIds ss → AreKnown AreSoundTraits ss
all_known [] h named = tt
all_known (s ∷ ss) h named =
    (traits_in_map s.traits named.0 h.0.traits.nodes, members_known s.members h.0.members named.1, all_known ss h.1 named.2)

-- the members of a shape
abbrev found_of : MemberThere → FoundMember
found_of m = record { name = m.name; target = m.entry.target; traits = fin.entries m.entry.traits }

abbrev all_found : List MemberThere → List FoundMember
all_found ms = map found_of ms

names_found : (ms : List MemberThere) → found_names (all_found ms) ≡ names_there ms
names_found [] = refl
names_found (m ∷ ms) = ap (λ ks. m.name ∷ ks) (names_found ms)

module _ (shapes : ShapeMap) (id : List ℕ) (is : IsShapeId id) where
  written_found : (ms : List MemberThere) → AreThere AreSoundTraits shapes id ms
      → written_members shapes (ids_there id ms) ≡ found_pairs (all_found ms)
  written_found [] h = refl
  written_found (m ∷ ms) h =
      let q = member_id id m.name in
      ap (λ ps. member_there shapes q ++ ps) (written_found ms h.1)
      ∙ ap (λ o. field_there (member_name q) (written_entry o) ++ found_pairs (all_found ms)) h.0.found
      ∙ ap (λ k. (k, member_object m.entry.target (fin.entries m.entry.traits)) ∷ found_pairs (all_found ms)) (member_named id is m.name)

  said_found : (ms : List MemberThere) → AreThere AreSoundTraits shapes id ms
      → shape_members_said shapes (ids_there id ms) ≡ found_said (all_found ms)
  said_found [] h = refl
  said_found (m ∷ ms) h =
      let q = member_id id m.name in
      ap (λ ps. member_under_said q (fin.get shapes q) ++ ps) (said_found ms h.1)
      ∙ ap (λ o. member_under_said q o ++ found_said (all_found ms)) h.0.found
      ∙ ap (λ k. record { name = k; target = absolute m.entry.target false; traits = map_said m.entry.traits }
      ∷ found_said (all_found ms)) (member_named id is m.name)

  each_found : (ms : List MemberThere) → AreThere AreSoundTraits shapes id ms → AreFoundMembers (all_found ms)
  each_found [] h = tt
  each_found (m ∷ ms) h = (record { identifier = h.0.name; target = h.0.target; traits = h.0.traits }, each_found ms h.1)

-- a shape, with the members that are found
pub record IsSoundShape (shapes : ShapeMap) (id : List ℕ) (s : ShapeEntry) : Type 0 where
  pub found : List FoundMember
  pub written : written_members shapes s.members ≡ found_pairs found
  pub said : shape_members_said shapes s.members ≡ found_said found
  pub is : IsFoundShape id s.kind found (pairs_said s.properties) (fin.entries s.traits)

abbrev pub EntryIsSound : ShapeMap → List ℕ → Entry → Type 0
EntryIsSound shapes id (shape_entry s) = IsSoundShape shapes id s
EntryIsSound shapes id (member_entry m) = Unit {0}

sound_shape : (shapes : ShapeMap) (id : List ℕ) (s : ShapeEntry) → IsWholeShape AreSoundTraits shapes id s → IsSoundShape shapes id s
sound_shape shapes id s h = record {
  found = all_found h.members;
  written = ap (written_members shapes) h.ids ∙ written_found shapes id h.is_shape h.members h.there;
  said = ap (shape_members_said shapes) h.ids ∙ said_found shapes id h.is_shape h.members h.there;
  is = record {
    is_shape = h.is_shape;
    form = subst (HaveForm (member_form s.kind)) (sym (names_found h.members)) h.form;
    members = each_found shapes id h.is_shape h.members h.there;
    fields = subst (AreNodeFields (property_forms s.kind)) (sym (ap pairs_said h.body.is_object)) h.body.fields;
    distinct = pairs_said_distinct s.properties h.body.is_node.1;
    traits = h.traits;
  };
}

entry_sound : (shapes : ShapeMap) (id : List ℕ) (e : Entry) → EntryIsWhole AreSoundTraits shapes id e → EntryIsSound shapes id e
entry_sound shapes id (shape_entry s) h = sound_shape shapes id s h
entry_sound shapes id (member_entry m) h = tt

pub graph_sound : (ss : List ShapeGiven) (metadata : List (List ℕ × Node)) → AreGiven ss metadata → AreNamed ss metadata
    → Each (EntryIsSound (graph_of ss metadata).shapes) (fin.entries (graph_of ss metadata).shapes)
graph_sound ss metadata h named =
    let shapes = (graph_of ss metadata).shapes in
    each_so (EntryIsWhole AreSoundTraits shapes) (EntryIsSound shapes) (entry_sound shapes) (fin.entries shapes)
    (graph_whole AreSoundTraits ss metadata h (all_known ss h.each named.traits))
