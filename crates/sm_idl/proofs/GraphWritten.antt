-- What stands in the graph of given shapes, as it is written and as it is said.
use Rattle.std.proofs.Common.{◌≡◌, ℕ, Bool, true, false, List, [], ◌∷◌, ◌++◌, map, refl, sym, ap, ap₂, subst, ◌∙◌}
use Rattle.std.specs.FinMap as fin
use Rattle.sm_ids.specs.IdText.{IsShapeId}
use Rattle.sm_ids.specs.TextParts.{member_id}
use Rattle.sm_ids.proofs.TextCuts.{member_named}
use Rattle.sm_tree.specs.Node.{Members, object}
use Rattle.sm_tree.specs.Same.{HasDistinctNames}
use Rattle.sm_model.specs.Formed.{HaveForm}
use Rattle.sm_model.specs.Given.{AreNodes, AreGiven, AreGivenMembers, AreGivenShapes}
use Rattle.sm_model.specs.Graphs.{Entry, MemberGiven, ShapeEntry, ShapeGiven, ShapeMap, graph_of, member_entry, shape_entry, text_cmp}
use Rattle.sm_model.specs.Kinds.{member_form}
use Rattle.sm_model.specs.Named.{AreUnderIds, MembersAreUnderIds, HaveTraitIds, AreNamed}
use Rattle.sm_model.proofs.GivenEntries.{AreKnown, AreThere, EntryIsWhole, IsWholeShape, MembersKnown, MemberThere, graph_whole, ids_there}
use Rattle.sm_model.proofs.GivenEntries.{names_there}
use Rattle.sm_model.proofs.MapFacts.{Each, each_entry, each_so}
use Rattle.sm_idl.specs.Nodes.{Home}
use Rattle.sm_idl.specs.Written.{NodePairs, member_text as member_line, member_there, member_lines}
use Rattle.sm_idl.specs.WrittenFile.{member_said, members_said, target_said, traits_said}
use Rattle.sm_idl.specs.WrittenNames.{AreFew, NestFew, MembersNestFew, ShapesNestFew}
use Rattle.sm_idl.specs.declared.write.form.WrittenForm.{WrittenForm}
use Rattle.sm_idl.proofs.TraitsWritten.{IsTraitValue}
use Rattle.sm_idl.proofs.MembersWritten.{FoundMember, AreFound, found_lines, found_said, found_names, said_with}
use Rattle.sm_idl.proofs.ShapesWritten.{IsFoundBody}

-- values under names
abbrev AreTraitValues : NodePairs → Type 0
AreTraitValues ts = Each IsTraitValue ts

each_value : (ts : NodePairs) → AreUnderIds ts → AreNodes ts → NestFew ts → AreTraitValues ts
each_value [] ids nodes few = tt
each_value (t ∷ ts) ids nodes few = ((ids.0, (nodes.0, few.0)), each_value ts ids.1 nodes.1 few.1)

values_in_map : (ts : NodePairs) → AreUnderIds ts → AreNodes ts → NestFew ts
    → AreTraitValues (fin.entries (fin.from_entries {R = text_cmp} ts))
values_in_map ts ids nodes few = each_entry IsTraitValue ts (each_value ts ids nodes few)

members_known : (ms : List MemberGiven) → AreGivenMembers ms → MembersAreUnderIds ms → MembersNestFew ms → MembersKnown AreTraitValues ms
members_known [] h named few = tt
members_known (m ∷ ms) h named few =
    (values_in_map m.traits named.0 h.2.nodes few.0, members_known ms h.3 named.1 few.1)

all_known : (ss : List ShapeGiven) → AreGivenShapes ss → HaveTraitIds ss → ShapesNestFew ss → AreKnown AreTraitValues ss
all_known [] h named few = tt
all_known (s ∷ ss) h named few = (
  values_in_map s.traits named.0 h.0.traits.nodes few.0,
  members_known s.members h.0.members named.1 few.1,
  all_known ss h.1 named.2 few.2,
)

-- the members of a shape
pub record FoundAll (shapes : ShapeMap) (ids : List (List ℕ)) (found : List FoundMember) : Type 0 where
  pub alone : member_lines false shapes ids ≡ found_lines false found
  pub targeted : member_lines true shapes ids ≡ found_lines true found
  pub said : (home : Home) (form : WrittenForm) → members_said home form shapes ids ≡ found_said home form found

abbrev found_of : MemberThere → FoundMember
found_of m = record { name = m.name; target = m.entry.target; traits = fin.entries m.entry.traits }

abbrev all_found : List MemberThere → List FoundMember
all_found ms = map found_of ms

names_found : (ms : List MemberThere) → found_names (all_found ms) ≡ names_there ms
names_found [] = refl
names_found (m ∷ ms) = ap (λ ks. m.name ∷ ks) (names_found ms)

module _ (shapes : ShapeMap) (id : List ℕ) (is : IsShapeId id) where
  lines_found : (targets : Bool) (ms : List MemberThere) → AreThere AreTraitValues shapes id ms
      → member_lines targets shapes (ids_there id ms) ≡ found_lines targets (all_found ms)
  lines_found targets [] h = refl
  lines_found targets (m ∷ ms) h =
      ap₂ (λ (a b : List ℕ). a ++ b)
      (ap (member_there targets (member_id id m.name)) h.0.found
      ∙ ap (λ k. member_line targets k m.entry.target (fin.entries m.entry.traits)) (member_named id is m.name))
      (lines_found targets ms h.1)

  said_as : (home : Home) (form : WrittenForm) (ms : List MemberThere) → AreThere AreTraitValues shapes id ms
      → members_said home form shapes (ids_there id ms) ≡ found_said home form (all_found ms)
  said_as home form [] h = refl
  said_as home form (m ∷ ms) h =
      ap (λ o. member_said home form (member_id id m.name) o ++ members_said home form shapes (ids_there id ms)) h.0.found
      ∙ ap (λ k. said_with k (target_said home form m.entry.target) (traits_said home (fin.entries m.entry.traits))
      ∷ members_said home form shapes (ids_there id ms)) (member_named id is m.name)
      ∙ ap (λ xs. said_with m.name (target_said home form m.entry.target) (traits_said home (fin.entries m.entry.traits)) ∷ xs)
      (said_as home form ms h.1)

  each_found : (ms : List MemberThere) → AreThere AreTraitValues shapes id ms → AreFound (all_found ms)
  each_found [] h = tt
  each_found (m ∷ ms) h = (record { name = h.0.name; target = h.0.target; traits = h.0.traits }, each_found ms h.1)

-- a shape, with the members that are found
pub record IsSoundShape (shapes : ShapeMap) (id : List ℕ) (s : ShapeEntry) : Type 0 where
  pub found : List FoundMember
  pub all : FoundAll shapes s.members found
  pub is_shape : IsShapeId id
  pub pairs : Members
  pub is_object : s.properties ≡ object pairs
  pub body : IsFoundBody s.kind found pairs
  pub traits : Each IsTraitValue (fin.entries s.traits)

abbrev pub EntryIsSound : ShapeMap → List ℕ → Entry → Type 0
EntryIsSound shapes id (shape_entry s) = IsSoundShape shapes id s
EntryIsSound shapes id (member_entry m) = Unit {0}

sound_shape : (shapes : ShapeMap) (id : List ℕ) (s : ShapeEntry) → IsWholeShape AreTraitValues shapes id s → IsSoundShape shapes id s
sound_shape shapes id s h = record {
  found = all_found h.members;
  all = record {
    alone = ap (member_lines false shapes) h.ids ∙ lines_found shapes id h.is_shape false h.members h.there;
    targeted = ap (member_lines true shapes) h.ids ∙ lines_found shapes id h.is_shape true h.members h.there;
    said = λ home form. ap (members_said home form shapes) h.ids ∙ said_as shapes id h.is_shape home form h.members h.there;
  };
  is_shape = h.is_shape;
  pairs = h.body.pairs;
  is_object = h.body.is_object;
  body = record {
    form = subst (HaveForm (member_form s.kind)) (sym (names_found h.members)) h.form;
    members = each_found shapes id h.is_shape h.members h.there;
    fields = h.body.fields;
    distinct = subst HasDistinctNames h.body.is_object h.body.is_node.1;
  };
  traits = h.traits;
}

entry_sound : (shapes : ShapeMap) (id : List ℕ) (e : Entry) → EntryIsWhole AreTraitValues shapes id e → EntryIsSound shapes id e
entry_sound shapes id (shape_entry s) h = sound_shape shapes id s h
entry_sound shapes id (member_entry m) h = tt

pub graph_sound : (ss : List ShapeGiven) (metadata : NodePairs) → AreGiven ss metadata → AreNamed ss metadata → AreFew ss metadata
    → Each (EntryIsSound (graph_of ss metadata).shapes) (fin.entries (graph_of ss metadata).shapes)
graph_sound ss metadata h named few =
    let shapes = (graph_of ss metadata).shapes in
    each_so (EntryIsWhole AreTraitValues shapes) (EntryIsSound shapes) (entry_sound shapes) (fin.entries shapes)
    (graph_whole AreTraitValues ss metadata h (all_known ss h.each named.traits few.traits))
