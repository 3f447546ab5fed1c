-- What stands in the graph of given shapes: each shape with its members, whatever is known of the traits. Who writes graphs cites it.
use Rattle.std.proofs.Common.{◌≡◌, inl, inr, ℕ, List, [], ◌∷◌, ◌++◌, map, Some, refl, sym, ap, subst, ◌∙◌}
use Rattle.std.specs.Cmp.Lexicographic.{nat_list_cmp_total}
use Rattle.std.specs.FinMap as fin
use Rattle.std.specs.FinMap.{get-from_entries}
use Rattle.sm_ids.specs.IdText.{IsIdText, IsShapeId}
use Rattle.sm_ids.specs.Identifier.{IsIdentifier}
use Rattle.sm_ids.specs.TextParts.{member_id}
use Rattle.sm_ids.proofs.TextCuts.{member_is_no_shape}
use Rattle.sm_tree.specs.Node.{Node}
use Rattle.sm_model.specs.Formed.{StandsAmong, HaveForm}
use Rattle.sm_model.specs.Given.{AreGiven, AreGivenMembers, AreGivenShapes, HasShapeBody, IsGivenShape, given_names}
use Rattle.sm_model.specs.Graphs.{Entry, MemberEntry, MemberGiven, ShapeEntry, ShapeGiven, ShapeMap, given_entries, given_members}
use Rattle.sm_model.specs.Graphs.{given_shape, graph_of, member_entry, shape_entry, text_cmp}
use Rattle.sm_model.specs.Kinds.{member_form}
use Rattle.sm_model.proofs.MapFacts.{Each, each_entry, each_joined, found_among, keys}

-- what may be known of traits
abbrev pub OfTraits : Type 1
OfTraits = List (List ℕ × Node) → Type 0

-- a member that is found under its id
pub record MemberThere : Type 0 where
  pub name : List ℕ
  pub entry : MemberEntry

pub record IsThere (Known : OfTraits) (shapes : ShapeMap) (id : List ℕ) (m : MemberThere) : Type 0 where
  pub found : fin.get shapes (member_id id m.name) ≡ Some (member_entry m.entry)
  pub name : IsIdentifier m.name
  pub target : IsIdText m.entry.target
  pub traits : Known (fin.entries m.entry.traits)

abbrev pub AreThere : OfTraits → ShapeMap → List ℕ → List MemberThere → Type 0
AreThere Known shapes id [] = Unit {0}
AreThere Known shapes id (m ∷ ms) = IsThere Known shapes id m × AreThere Known shapes id ms

abbrev pub names_there : List MemberThere → List (List ℕ)
names_there ms = map (λ m. m.name) ms

abbrev pub ids_there : List ℕ → List MemberThere → List (List ℕ)
ids_there id ms = map (λ m. member_id id m.name) ms

-- a shape with the members that are found
pub record IsWholeShape (Known : OfTraits) (shapes : ShapeMap) (id : List ℕ) (s : ShapeEntry) : Type 0 where
  pub is_shape : IsShapeId id
  pub members : List MemberThere
  pub ids : s.members ≡ ids_there id members
  pub there : AreThere Known shapes id members
  pub form : HaveForm (member_form s.kind) (names_there members)
  pub body : HasShapeBody s.kind s.properties
  pub traits : Known (fin.entries s.traits)

abbrev pub EntryIsWhole : OfTraits → ShapeMap → List ℕ → Entry → Type 0
EntryIsWhole Known shapes id (shape_entry s) = IsWholeShape Known shapes id s
EntryIsWhole Known shapes id (member_entry m) = Unit {0}

-- traits as their maps have them
abbrev pub KnownInMap : OfTraits → List (List ℕ × Node) → Type 0
KnownInMap Known ts = Known (fin.entries (fin.from_entries {R = text_cmp} ts))

abbrev pub MembersKnown : OfTraits → List MemberGiven → Type 0
MembersKnown Known [] = Unit {0}
MembersKnown Known (m ∷ ms) = KnownInMap Known m.traits × MembersKnown Known ms

abbrev pub AreKnown : OfTraits → List ShapeGiven → Type 0
AreKnown Known [] = Unit {0}
AreKnown Known (s ∷ ss) = KnownInMap Known s.traits × MembersKnown Known s.members × AreKnown Known ss

-- what stands under each id
record IsKnownMember (Known : OfTraits) (m : MemberEntry) : Type 0 where
  target : IsIdText m.target
  traits : Known (fin.entries m.traits)

abbrev GivenIs : OfTraits → List ℕ → Entry → Type 0
GivenIs Known id (shape_entry s) = IsShapeId id
GivenIs Known id (member_entry m) = IsKnownMember Known m

members_are : (Known : OfTraits) (shape : List ℕ) (ms : List MemberGiven) → AreGivenMembers ms → MembersKnown Known ms
    → Each (GivenIs Known) (given_members shape ms)
members_are Known shape [] h known = tt
members_are Known shape (m ∷ ms) h known =
    (record { target = h.1; traits = known.0 }, members_are Known shape ms h.3 known.1)

given_are : (Known : OfTraits) (ss : List ShapeGiven) → AreGivenShapes ss → AreKnown Known ss → Each (GivenIs Known) (given_entries ss)
given_are Known [] h known = tt
given_are Known (s ∷ ss) h known =
    each_joined (GivenIs Known) (given_shape s) (given_entries ss) (h.0.id, members_are Known s.id s.members h.0.members known.1)
    (given_are Known ss h.1 known.2)

-- the members of a shape
record FindsAll (Known : OfTraits) (shapes : ShapeMap) (id : List ℕ) (ms : List MemberGiven) : Type 0 where
  members : List MemberThere
  names : names_there members ≡ given_names ms
  ids : map (λ m. member_id id m.name) ms ≡ ids_there id members
  there : AreThere Known shapes id members

abbrev FindsIn : OfTraits → ShapeMap → List ℕ → Type 0
FindsIn Known shapes q = (x : Entry) × (fin.get shapes q ≡ Some x) × GivenIs Known q x

one_more : (Known : OfTraits) (shapes : ShapeMap) (id : List ℕ) (m : MemberGiven) (ms : List MemberGiven) → IsIdentifier m.name
    → (x : Entry) → fin.get shapes (member_id id m.name) ≡ Some x → GivenIs Known (member_id id m.name) x → FindsAll Known shapes id ms
    → FindsAll Known shapes id (m ∷ ms)
one_more Known shapes id m ms identifier (shape_entry s) got bad later = absurd (member_is_no_shape id m.name bad)
one_more Known shapes id m ms identifier (member_entry e) got known later = record {
  members = record { name = m.name; entry = e } ∷ later.members;
  names = ap (λ ks. m.name ∷ ks) later.names;
  ids = ap (λ ks. member_id id m.name ∷ ks) later.ids;
  there = (record { found = got; name = identifier; target = known.target; traits = known.traits }, later.there);
}

find_all : (Known : OfTraits) (shapes : ShapeMap) (id : List ℕ) (ms : List MemberGiven) → AreGivenMembers ms
    → ((name : List ℕ) → StandsAmong name (given_names ms) → FindsIn Known shapes (member_id id name)) → FindsAll Known shapes id ms
find_all Known shapes id [] h look = record { members = []; names = refl; ids = refl; there = tt }
find_all Known shapes id (m ∷ ms) h look =
    let here = look m.name (inl refl) in
    one_more Known shapes id m ms h.0 here.0 here.1 here.2 (find_all Known shapes id ms h.3 (λ name among. look name (inr among)))

abbrev entry_of : ShapeGiven → ShapeEntry
entry_of s = record {
  kind = s.kind;
  members = map (λ m. member_id s.id m.name) s.members;
  properties = s.properties;
  traits = fin.from_entries s.traits;
}

whole_shape : (Known : OfTraits) (shapes : ShapeMap) (s : ShapeGiven) → IsGivenShape s → KnownInMap Known s.traits
    → ((name : List ℕ) → StandsAmong name (given_names s.members) → FindsIn Known shapes (member_id s.id name))
    → IsWholeShape Known shapes s.id (entry_of s)
whole_shape Known shapes s h known look =
    let all = find_all Known shapes s.id s.members h.members look in record {
      is_shape = h.id;
      members = all.members;
      ids = all.ids;
      there = all.there;
      form = subst (HaveForm (member_form s.kind)) (sym all.names) h.names;
      body = h.body;
      traits = known;
    }

-- all of them
member_stands : (shape : List ℕ) (ms : List MemberGiven) (name : List ℕ) → StandsAmong name (given_names ms)
    → StandsAmong (member_id shape name) (keys (given_members shape ms))
member_stands shape [] name among = among
member_stands shape (m ∷ ms) name (inl same) = inl (ap (member_id shape) same)
member_stands shape (m ∷ ms) name (inr among) = inr (member_stands shape ms name among)

stands_before : (es fs : List (List ℕ × Entry)) (q : List ℕ) → StandsAmong q (keys es) → StandsAmong q (keys (es ++ fs))
stands_before [] fs q among = absurd among
stands_before (e ∷ es) fs q (inl same) = inl same
stands_before (e ∷ es) fs q (inr among) = inr (stands_before es fs q among)

stands_behind : (es fs : List (List ℕ × Entry)) (q : List ℕ) → StandsAmong q (keys fs) → StandsAmong q (keys (es ++ fs))
stands_behind [] fs q among = among
stands_behind (e ∷ es) fs q among = inr (stands_behind es fs q among)

members_whole : (Known : OfTraits) (shapes : ShapeMap) (shape : List ℕ) (ms : List MemberGiven)
    → Each (EntryIsWhole Known shapes) (given_members shape ms)
members_whole Known shapes shape [] = tt
members_whole Known shapes shape (m ∷ ms) = (tt, members_whole Known shapes shape ms)

all_whole : (Known : OfTraits) (shapes : ShapeMap) (ss : List ShapeGiven) → AreGivenShapes ss → AreKnown Known ss
    → ((q : List ℕ) → StandsAmong q (keys (given_entries ss)) → FindsIn Known shapes q)
    → Each (EntryIsWhole Known shapes) (given_entries ss)
all_whole Known shapes [] h known look = tt
all_whole Known shapes (s ∷ ss) h known look =
    each_joined (EntryIsWhole Known shapes) (given_shape s) (given_entries ss) (
      whole_shape Known shapes s h.0 known.0
          (λ name among. look (member_id s.id name) (stands_before (given_shape s) (given_entries ss) (member_id s.id name)
          (inr (member_stands s.id s.members name among)))),
      members_whole Known shapes s.id s.members,
    )
    (all_whole Known shapes ss h.1 known.2 (λ q among. look q (stands_behind (given_shape s) (given_entries ss) q among)))

pub graph_whole : (Known : OfTraits) (ss : List ShapeGiven) (metadata : List (List ℕ × Node)) → AreGiven ss metadata → AreKnown Known ss
    → Each (EntryIsWhole Known (graph_of ss metadata).shapes) (fin.entries (graph_of ss metadata).shapes)
graph_whole Known ss metadata h known =
    let es = given_entries ss in
    each_entry (EntryIsWhole Known (graph_of ss metadata).shapes) es
    (all_whole Known (graph_of ss metadata).shapes ss h.each known
    (λ q among. let found = found_among (GivenIs Known) q es (given_are Known ss h.each known) among in
    (found.0, get-from_entries nat_list_cmp_total es q ∙ found.1, found.2)))
