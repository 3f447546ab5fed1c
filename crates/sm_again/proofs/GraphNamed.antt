-- A graph that has the form of one is made of shapes whose traits stand under ids, where its own do.
use Rattle.std.proofs.Common.{◌≡◌, inl, inr, ℕ, List, [], ◌∷◌, Some, refl, ap, ◌∙◌, IsUtf8}
use Rattle.std.specs.FinMap as fin
use Rattle.sm_ids.specs.IdText.{IsIdText}
use Rattle.sm_tree.specs.Node.{Node}
use Rattle.sm_model.specs.Formed.{DifferInNames}
use Rattle.sm_model.specs.FormedGraph.{IsFormedGraph}
use Rattle.sm_model.specs.Given.{AreGivenMembers, AreGivenShapes, are_under}
use Rattle.sm_model.specs.Graphs.{Entry, GraphMaps, MemberGiven, ShapeGiven, given_entries, given_members, given_shape, traits_in}
use Rattle.sm_model.specs.Named.{AreNamed, AreUnderIds, AreUnderTexts, HaveTraitIds, MembersAreUnderIds}
use Rattle.sm_model.proofs.MapFacts.{Each}
use Rattle.sm_merge.proofs.EntriesFound.{Has, each_has, has_before, has_behind, has_made}
use Rattle.sm_merge.proofs.EntryKeys.{entries_differ}
use Rattle.sm_merge.proofs.GraphSound.{HoldsNamed}

-- names of what is found among pairs
abbrev IsUnder : List ℕ → Node → Type 0
IsUnder k n = IsIdText k

abbrev IsUnderText : List ℕ → Node → Type 0
IsUnderText k n = IsUtf8 k

ids_under : (ps : List (List ℕ × Node)) → Each IsUnder ps → AreUnderIds ps
ids_under [] h = tt
ids_under (p ∷ ps) h = (h.0, ids_under ps h.1)

texts_under : (ps : List (List ℕ × Node)) → Each IsUnderText ps → AreUnderTexts ps
texts_under [] h = tt
texts_under (p ∷ ps) h = (h.0, texts_under ps h.1)

found_ids : (ps : List (List ℕ × Node)) → DifferInNames (are_under ps) → HoldsNamed (fin.from_entries ps) → AreUnderIds ps
found_ids ps differ h = ids_under ps (each_has IsUnder ps (λ k n there. (h k n (has_made ps k n differ there)).0))

-- of given shapes
abbrev EntryNamed : Entry → Type 0
EntryNamed e = HoldsNamed (traits_in e)

members_named : (shape : List ℕ) (ms : List MemberGiven) → AreGivenMembers ms
    → ((k : List ℕ) (e : Entry) → Has k e (given_members shape ms) → EntryNamed e) → MembersAreUnderIds ms
members_named shape [] given all = tt
members_named shape (m ∷ ms) given all = (
  found_ids m.traits given.2.differ (all _ _ (inl (refl, refl))),
  members_named shape ms given.3 (λ k e there. all k e (inr there)),
)

shapes_named : (ss : List ShapeGiven) → AreGivenShapes ss → ((k : List ℕ) (e : Entry) → Has k e (given_entries ss) → EntryNamed e)
    → HaveTraitIds ss
shapes_named [] given all = tt
shapes_named (s ∷ ss) given all = (
  found_ids s.traits given.0.traits.differ (all _ _ (inl (refl, refl))),
  members_named s.id s.members given.0.members
      (λ k e there. all k e (has_before k e (given_shape s) (given_entries ss) (inr there))),
  shapes_named ss given.1 (λ k e there. all k e (has_behind k e (given_shape s) (given_entries ss) there)),
)

pub formed_named : (g : GraphMaps) (f : IsFormedGraph g) → ((k : List ℕ) (e : Entry) → fin.get g.shapes k ≡ Some e → HoldsNamed (traits_in e))
    → ((k : List ℕ) (n : Node) → fin.get g.metadata k ≡ Some n → IsUtf8 k) → AreNamed f.shapes f.metadata
formed_named g f traits keys = record {
  traits = shapes_named f.shapes f.given.each (λ k e there.
      traits k e (ap (λ (x : GraphMaps). fin.get x.shapes k) f.is
      ∙ has_made (given_entries f.shapes) k e (entries_differ f.shapes f.given.each f.given.differ) there));
  keys = texts_under f.metadata (each_has IsUnderText f.metadata (λ k n there.
      keys k n (ap (λ (x : GraphMaps). fin.get x.metadata k) f.is ∙ has_made f.metadata k n f.given.metadata_is.differ there)));
}
