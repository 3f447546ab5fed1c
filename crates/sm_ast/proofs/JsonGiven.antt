-- The graph of given shapes has values that are JSON, and names and ids that are UTF-8.
use Rattle.std.proofs.Common.{◌≡◌, ℕ, ◌<◌, true, List, [], ◌∷◌, sym, subst, arith, IsUtf8}
use Rattle.std.specs.FinMap as fin
use Rattle.std.proofs.lemmas.Bool.Decides.{nat_tests}
use Rattle.std.proofs.lemmas.List.Sums.{AllPass-from_list_all}
use Rattle.std.proofs.lemmas.Str.{IsUtf8-from_ascii}
use Rattle.std.proofs.lemmas.Str.Ascii.{IsAscii-from_all}
use Rattle.sm_ids.specs.Identifier.{is_identifier_byte, IsIdentifier}
use Rattle.sm_ids.specs.IdText.{IsIdText}
use Rattle.sm_ids.proofs.Parting.{id_ascii}
use Rattle.sm_tree.specs.Node.{Node}
use Rattle.sm_tree.specs.Json.{IsJson}
use Rattle.sm_model.specs.References.{IsShapeId}
use Rattle.sm_model.specs.Given.{AreNodes, AreGivenMembers, AreGivenShapes, IsGivenShape}
use Rattle.sm_model.specs.Graphs.{MemberGiven, ShapeGiven, given_entries, given_members, given_shape, graph_of, text_cmp}
use Rattle.sm_model.proofs.MapFacts.{Each, each_entry, each_joined}
use Rattle.sm_model.specs.Named.{AreUnderIds, MembersAreUnderIds, HaveTraitIds, AreUnderTexts}
use Rattle.sm_ast.specs.Laws.{WrittenIsJson}
use Rattle.sm_ids.proofs.TextCuts.{member_named}
use Rattle.sm_ids.proofs.Identifiers.{made_of_bytes}
use Rattle.sm_ast.proofs.JsonWritten.{AreJsonPairs, EntryIsJson, AreJsonEntries, written_json}

pub id_utf8 : (t : List ℕ) → IsIdText t → IsUtf8 t
id_utf8 t (id, is) = IsUtf8-from_ascii t (id_ascii id t is)

ascii_byte : (c : ℕ) → is_identifier_byte c ≡ true → c < 128
ascii_byte c h = grind (arith, nat_tests)

pub identifier_utf8 : (t : List ℕ) → IsIdentifier t → IsUtf8 t
identifier_utf8 t h =
    IsUtf8-from_ascii t (IsAscii-from_all t
    (λ k d lt. ascii_byte _ (AllPass-from_list_all is_identifier_byte t (made_of_bytes t h) k d lt)))

-- pairs of a name and a value
record IsJsonPair (k : List ℕ) (n : Node) : Type 0 where
  utf8 : IsUtf8 k
  json : IsJson n

json_each : (ps : List (List ℕ × Node)) → Each IsJsonPair ps → AreJsonPairs ps
json_each [] h = tt
json_each (p ∷ ps) h = (h.0.utf8, h.0.json, json_each ps h.1)

each_named : (ps : List (List ℕ × Node)) → AreUnderTexts ps → AreNodes ps → Each IsJsonPair ps
each_named [] named nodes = tt
each_named (p ∷ ps) named nodes = (record { utf8 = named.0; json = nodes.0.0 }, each_named ps named.1 nodes.1)

under_texts : (ps : List (List ℕ × Node)) → AreUnderIds ps → AreUnderTexts ps
under_texts [] h = tt
under_texts (p ∷ ps) h = (id_utf8 p.0 h.0, under_texts ps h.1)

-- so in a map of them
json_map : (ps : List (List ℕ × Node)) → AreUnderTexts ps → AreNodes ps → AreJsonPairs (fin.entries (fin.from_entries {R = text_cmp} ps))
json_map ps named nodes = json_each _ (each_entry IsJsonPair ps (each_named ps named nodes))

-- members and shapes
json_given_members : (shape : List ℕ) → IsShapeId shape → (ms : List MemberGiven) → AreGivenMembers ms → MembersAreUnderIds ms
    → AreJsonEntries (given_members shape ms)
json_given_members shape id [] h named = tt
json_given_members shape id (m ∷ ms) h named = (
  (
    subst IsUtf8 (sym (member_named shape id m.name)) (identifier_utf8 m.name h.0),
    id_utf8 m.target h.1,
    json_map m.traits (under_texts m.traits named.0) h.2.nodes,
  ),
  json_given_members shape id ms h.3 named.1,
)

json_given_shape : (s : ShapeGiven) → IsGivenShape s → AreUnderIds s.traits → MembersAreUnderIds s.members → AreJsonEntries (given_shape s)
json_given_shape s h traits members = (
  (
    id_utf8 s.id (h.id.0, h.id.1),
    h.body.is_node.0,
    json_map s.traits (under_texts s.traits traits) h.traits.nodes,
  ),
  json_given_members s.id h.id s.members h.members members,
)

json_given : (ss : List ShapeGiven) → AreGivenShapes ss → HaveTraitIds ss → AreJsonEntries (given_entries ss)
json_given [] h named = tt
json_given (s ∷ ss) h named =
    each_joined EntryIsJson (given_shape s) (given_entries ss) (json_given_shape s h.0 named.0 named.1) (json_given ss h.1 named.2)

pub written_is_json : WrittenIsJson
written_is_json shapes metadata h named = written_json (graph_of shapes metadata) (record {
  shapes = each_entry EntryIsJson (given_entries shapes) (json_given shapes h.each named.traits);
  metadata = json_map metadata named.keys h.metadata_is.nodes;
})
