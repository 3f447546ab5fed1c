-- What stands in a graph of the form of one: each shape whole, each member at home in a shape that lists it.
use Rattle.std.proofs.Common.{◌≡◌, inl, inr, ℕ, List, [], ◌∷◌, ◌++◌, map, Some, refl, sym, ap, subst, ◌∙◌, arith}
use Rattle.std.specs.Cmp.Lexicographic.{nat_list_cmp_total}
use Rattle.std.specs.FinMap as fin
use Rattle.std.specs.FinMap.{get-entries, get-from_entries}
use Rattle.std.specs.FinMap.Entries.{find}
use Rattle.std.specs.List.{Contains}
use Rattle.sm_ids.specs.IdText.{IsShapeId}
use Rattle.sm_ids.proofs.TextCuts.{member_is_no_shape}
use Rattle.sm_tree.specs.Node.{Node}
use Rattle.sm_tree.specs.Same.{IsNode}
use Rattle.sm_model.specs.Formed.{StandsAmong, DifferInNames}
use Rattle.sm_model.specs.FormedGraph.{IsFormedGraph}
use Rattle.sm_model.specs.Given.{AreGivenMembers, AreGivenShapes, AreNodes, IsGivenShape, IsNodeMap, given_ids, given_names}
use Rattle.sm_model.specs.Graphs.{Entry, GraphMaps, MemberEntry, MemberGiven, NodeMap, ShapeEntry, ShapeGiven, text_cmp}
use Rattle.sm_model.specs.Graphs.{given_entries, given_members, given_shape, member_entry, member_id, shape_entry}
use Rattle.sm_model.specs.Relations.{HasEntry}
use Rattle.sm_model.proofs.GivenEntries.{AreKnown, EntryIsWhole, IsWholeShape, KnownInMap, MembersKnown, graph_whole}
use Rattle.sm_model.proofs.LinkedEntries.{cons_cases, cons_here}
use Rattle.sm_model.proofs.MapFacts.{Each, each_entry, each_joined, found_among, keys, keys_differ}
use Rattle.sm_transform.proofs.FoundEntries.{found_each}
use Rattle.sm_transform.proofs.StepsNeeded.{behind_head}

-- nodes under texts, as their map has them
each_node : (ts : List (List ℕ × Node)) → AreNodes ts → Each (λ k n. IsNode n) ts
each_node [] h = tt
each_node (t ∷ ts) h = (h.0, each_node ts h.1)

node_each : (ts : List (List ℕ × Node)) → Each (λ k n. IsNode n) ts → AreNodes ts
node_each [] h = tt
node_each (t ∷ ts) h = (h.0, node_each ts h.1)

pub known_map : (ts : List (List ℕ × Node)) → IsNodeMap ts → KnownInMap IsNodeMap ts
known_map ts h =
    let m : NodeMap = fin.from_entries ts in record {
      differ = keys_differ m;
      nodes = node_each (fin.entries m) (each_entry (λ k n. IsNode n) ts (each_node ts h.nodes));
    }

known_members : (ms : List MemberGiven) → AreGivenMembers ms → MembersKnown IsNodeMap ms
known_members [] h = tt
known_members (m ∷ ms) h = (known_map m.traits h.2, known_members ms h.3)

known_all : (ss : List ShapeGiven) → AreGivenShapes ss → AreKnown IsNodeMap ss
known_all [] h = tt
known_all (s ∷ ss) h = (known_map s.traits h.0.traits, known_members s.members h.0.members, known_all ss h.1)

-- given shapes and their members, by what stands under an id
abbrev pub entry_given : ShapeGiven → ShapeEntry
entry_given s = record {
  kind = s.kind;
  members = map (λ m. member_id s.id m.name) s.members;
  properties = s.properties;
  traits = fin.from_entries s.traits;
}

pub record IsGivenAs (ss : List ShapeGiven) (id : List ℕ) (s : ShapeEntry) : Type 0 where
  pub given : ShapeGiven
  pub among : Contains ss given
  pub id_is : id ≡ given.id
  pub is : Path ShapeEntry s (entry_given given)

pub record IsMemberOf (ss : List ShapeGiven) (id : List ℕ) : Type 0 where
  pub given : ShapeGiven
  pub among : Contains ss given
  pub name : List ℕ
  pub named : StandsAmong name (given_names given.members)
  pub id_is : id ≡ member_id given.id name

abbrev pub IsOneOf : List ShapeGiven → List ℕ → Entry → Type 0
IsOneOf ss id (shape_entry s) = IsGivenAs ss id s
IsOneOf ss id (member_entry m) = IsMemberOf ss id

module _ (all : List ShapeGiven) where
  each_member : (s : ShapeGiven) → Contains all s → (ms : List MemberGiven)
      → ((name : List ℕ) → StandsAmong name (given_names ms) → StandsAmong name (given_names s.members))
      → Each (IsOneOf all) (given_members s.id ms)
  each_member s among [] inside = tt
  each_member s among (m ∷ ms) inside = (
    record { given = s; among = among; name = m.name; named = inside m.name (inl refl); id_is = refl },
    each_member s among ms (λ name h. inside name (inr h)),
  )

  each_one : (ss : List ShapeGiven) → ((s : ShapeGiven) → Contains ss s → Contains all s) → Each (IsOneOf all) (given_entries ss)
  each_one [] inside = tt
  each_one (s ∷ ss) inside =
      each_joined (IsOneOf all) (given_shape s) (given_entries ss) (
        record { given = s; among = inside s (cons_here s ss); id_is = refl; is = refl },
        each_member s (inside s (cons_here s ss)) s.members (λ name h. h),
      )
      (each_one ss (λ t among. inside t (behind_head s ss t among)))

pub given_is : (ss : List ShapeGiven) → AreGivenShapes ss → (s : ShapeGiven) → Contains ss s → IsGivenShape s
given_is [] given s among = absurd (omega (arith, among.1))
given_is (t ∷ ss) given s among = elim (cons_cases t ss s among) [
  | inl is ↦ subst IsGivenShape is given.0
  | inr later ↦ given_is ss given.1 s later
]

-- two of one id are one
id_among : (ss : List ShapeGiven) (s : ShapeGiven) → Contains ss s → StandsAmong s.id (given_ids ss)
id_among [] s among = absurd (omega (arith, among.1))
id_among (t ∷ ss) s among = elim (cons_cases t ss s among) [
  | inl is ↦ inl (ap (λ (x : ShapeGiven). x.id) (sym is))
  | inr later ↦ inr (id_among ss s later)
]

one_given : (ss : List ShapeGiven) → DifferInNames (given_ids ss) → (s t : ShapeGiven) → Contains ss s → Contains ss t → s.id ≡ t.id → s ≡ t
one_given [] differ s t h k same = absurd (omega (arith, h.1))
one_given (x ∷ ss) differ s t h k same = elim (cons_cases x ss s h) [
  | inl here ↦ elim (cons_cases x ss t k) [
    | inl there ↦ sym here ∙ there
    | inr later ↦ absurd (differ.0 (subst (λ i. StandsAmong i (given_ids ss)) (sym same ∙ ap (λ (y : ShapeGiven). y.id) (sym here))
        (id_among ss t later)))
  ]
  | inr rest ↦ elim (cons_cases x ss t k) [
    | inl there ↦ absurd (differ.0 (subst (λ i. StandsAmong i (given_ids ss)) (same ∙ ap (λ (y : ShapeGiven). y.id) (sym there))
        (id_among ss s rest)))
    | inr later ↦ one_given ss differ.1 s t rest later same
  ]
]

-- the key of a given shape is a key of all entries
key_before : (k : List ℕ) (es fs : List (List ℕ × Entry)) → StandsAmong k (keys es) → StandsAmong k (keys (es ++ fs))
key_before k [] fs h = absurd h
key_before k (e ∷ es) fs (inl is) = inl is
key_before k (e ∷ es) fs (inr h) = inr (key_before k es fs h)

key_behind : (k : List ℕ) (es fs : List (List ℕ × Entry)) → StandsAmong k (keys fs) → StandsAmong k (keys (es ++ fs))
key_behind k [] fs h = h
key_behind k (e ∷ es) fs h = inr (key_behind k es fs h)

pub keys_among : (ss : List ShapeGiven) (s : ShapeGiven) → Contains ss s → (k : List ℕ) → StandsAmong k (keys (given_shape s))
    → StandsAmong k (keys (given_entries ss))
keys_among [] s among k h = absurd (omega (arith, among.1))
keys_among (t ∷ ss) s among k h = elim (cons_cases t ss s among) [
  | inl is ↦ key_before k (given_shape t) (given_entries ss) (subst (λ x. StandsAmong k (keys (given_shape x))) (sym is) h)
  | inr later ↦ key_behind k (given_shape t) (given_entries ss) (keys_among ss s later k h)
]

-- the name of a member gives its id
name_listed : (id name : List ℕ) (ms : List MemberGiven) → StandsAmong name (given_names ms)
    → StandsAmong (member_id id name) (map (λ m. member_id id m.name) ms)
name_listed id name [] h = h
name_listed id name (m ∷ ms) (inl same) = inl (ap (member_id id) same)
name_listed id name (m ∷ ms) (inr h) = inr (name_listed id name ms h)

-- a member's shape, which lists it
pub record IsAtHome (g : GraphMaps) (id : List ℕ) : Type 0 where
  pub shape : List ℕ
  pub s : ShapeEntry
  pub there : HasEntry g shape (shape_entry s)
  pub is : IsShapeId shape
  pub name : List ℕ
  pub id_is : id ≡ member_id shape name
  pub listed : StandsAmong id s.members

module _ (g : GraphMaps) (f : IsFormedGraph g) where
  found_as : (q : List ℕ) → fin.get g.shapes q ≡ find text_cmp q (given_entries f.shapes)
  found_as q = ap (λ (x : GraphMaps). fin.get x.shapes q) f.is ∙ get-from_entries nat_list_cmp_total (given_entries f.shapes) q

  pub one_of : (q : List ℕ) (e : Entry) → HasEntry g q e → IsOneOf f.shapes q e
  one_of q e h =
      found_each (IsOneOf f.shapes) q e (given_entries f.shapes) (each_one f.shapes f.shapes (λ s among. among)) (sym (found_as q) ∙ h)

  -- each shape is whole
  all_whole : Each (EntryIsWhole IsNodeMap g.shapes) (fin.entries g.shapes)
  all_whole =
      subst (λ (x : GraphMaps). Each (EntryIsWhole IsNodeMap x.shapes) (fin.entries x.shapes)) (sym f.is)
      (graph_whole IsNodeMap f.shapes f.metadata f.given (known_all f.shapes f.given.each))

  pub whole_at : (id : List ℕ) (s : ShapeEntry) → HasEntry g id (shape_entry s) → IsWholeShape IsNodeMap g.shapes id s
  whole_at id s h =
      found_each (EntryIsWhole IsNodeMap g.shapes) id (shape_entry s) (fin.entries g.shapes) all_whole (sym (get-entries g.shapes id) ∙ h)

  -- each member is at home
  at_home : (id : List ℕ) (m : IsMemberOf f.shapes id) (x : Entry) → find text_cmp m.given.id (given_entries f.shapes) ≡ Some x
      → IsOneOf f.shapes m.given.id x → IsAtHome g id
  at_home id m (shape_entry s) found one =
      let same = one_given f.shapes f.given.differ m.given one.given m.among one.among one.id_is in
      let listed : StandsAmong id (entry_given m.given).members =
      subst (λ i. StandsAmong i (entry_given m.given).members) (sym m.id_is)
      (name_listed m.given.id m.name m.given.members m.named) in record {
        shape = m.given.id;
        s = s;
        there = found_as m.given.id ∙ found;
        is = (given_is f.shapes f.given.each m.given m.among).id;
        name = m.name;
        id_is = m.id_is;
        listed = subst (λ (y : ShapeEntry). StandsAmong id y.members) (sym one.is)
            (subst (λ (y : ShapeGiven). StandsAmong id (entry_given y).members) same listed);
      }
  at_home id m (member_entry e) found one =
      absurd (member_is_no_shape one.given.id one.name
      (subst IsShapeId one.id_is (given_is f.shapes f.given.each m.given m.among).id))

  pub home_of : (id : List ℕ) (m : MemberEntry) → HasEntry g id (member_entry m) → IsAtHome g id
  home_of id m h =
      let of : IsMemberOf f.shapes id = one_of id (member_entry m) h in
      let key = keys_among f.shapes of.given of.among of.given.id (inl refl) in
      let r = found_among (IsOneOf f.shapes) of.given.id (given_entries f.shapes) (each_one f.shapes f.shapes (λ s among. among)) key in
      at_home id of r.0 r.1 r.2

  -- and so is the metadata a map of nodes
  pub metadata_known : IsNodeMap (fin.entries g.metadata)
  metadata_known =
      subst (λ (x : GraphMaps). IsNodeMap (fin.entries x.metadata)) (sym f.is) (known_map f.metadata f.given.metadata_is)
