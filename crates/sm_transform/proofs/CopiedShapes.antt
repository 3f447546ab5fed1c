-- Copies of the shapes of a graph are the shapes that it is made of.
use Rattle.std.proofs.Common.{◌≡◌, ◌⊎◌, inl, inr, ℕ, ◌+◌, ◌<◌, zero, suc, Bool, true, false, List, [], ◌∷◌, ◌++◌}
use Rattle.std.proofs.Common.{map, length, get_or, Some, refl, sym, ap, subst}
use Rattle.std.proofs.Common.{◌∙◌, arith}
use Rattle.std.specs.FinMap as fin
use Rattle.std.specs.List.{Contains}
use Rattle.std.proofs.lemmas.Bool.{cases_lt}
use Rattle.std.proofs.lemmas.List.{map-append}
use Rattle.std.proofs.lemmas.List.Elements.{Contains-append_left, Contains-push, Contains-push_cases}
use Rattle.sm_ids.specs.IdText.{IsShapeId}
use Rattle.sm_ids.specs.TextParts.{member_id, member_name}
use Rattle.sm_ids.proofs.TextCuts.{member_named}
use Rattle.sm_model.specs.Formed.{StandsAmong, DifferInNames, HaveForm}
use Rattle.sm_model.specs.FormedGraph.{IsFormedGraph}
use Rattle.sm_model.specs.Given.{AreGivenMembers, IsGivenShape, IsNodeMap, given_ids}
use Rattle.sm_model.specs.Graphs.{Entry, GraphMaps, MemberGiven, ShapeEntry, ShapeGiven, ShapeMap, given_members, member_entry}
use Rattle.sm_model.specs.Graphs.{shape_entry}
use Rattle.sm_model.specs.GraphView.{At, AreShapeNumbers, HasBodyNode, HasKind, HasMembers, IsMemberAt, IsMemberEntry, IsShapeAt}
use Rattle.sm_model.specs.GraphView.{IsShapeEntry, IsShapeNumber, is_member_entry, maps_of}
use Rattle.sm_model.specs.Kinds.{member_form}
use Rattle.sm_model.specs.Reaching.{IsMarked, id_of_number}
use Rattle.sm_model.specs.Relations.{HasEntry}
use Rattle.sm_model.specs.declared.graph.Graph.{Graph}
use Rattle.sm_model.proofs.GivenEntries.{AreThere, IsThere, IsWholeShape, MemberThere, ids_there}
use Rattle.sm_model.proofs.GraphFacts.{entry_under, id_at}
use Rattle.sm_model.proofs.LinkNumbers.{at_from, at_opened, stands_at}
use Rattle.sm_model.proofs.LinkedEntries.{cons_cases, cons_here}
use Rattle.sm_model.proofs.MapFacts.{keys}
use Rattle.sm_model.proofs.NumberedIds.{entry_here, of_entry, one_entry}
use Rattle.sm_model.proofs.Sorting.{map_twice}
use Rattle.sm_model.proofs.Worklist.{apart}
use Rattle.sm_transform.specs.steps.Copies.{AreCopiesBelow, AreMemberCopies, IsMemberCopy, IsShapeCopy}
use Rattle.sm_transform.proofs.FormedHomes.{whole_at}
use Rattle.sm_transform.proofs.FoundEntries.{map_again}
use Rattle.sm_transform.proofs.IncludedNumbers.{same_number}
use Rattle.sm_transform.proofs.StepsNeeded.{behind_head, id_told}

-- a whole shape, as it is given
abbrev pub member_whole : MemberThere → MemberGiven
member_whole m = record { name = m.name; target = m.entry.target; traits = fin.entries m.entry.traits }

abbrev pub members_whole : List MemberThere → List MemberGiven
members_whole ms = map member_whole ms

abbrev pub shape_whole : (shapes : ShapeMap) (id : List ℕ) (s : ShapeEntry) → IsWholeShape IsNodeMap shapes id s → ShapeGiven
shape_whole shapes id s w = record {
  id = id;
  kind = s.kind;
  members = members_whole w.members;
  properties = s.properties;
  traits = fin.entries s.traits;
}

-- it is one of which a graph may be made
members_given : (shapes : ShapeMap) (id : List ℕ) (ms : List MemberThere) → AreThere IsNodeMap shapes id ms
    → AreGivenMembers (members_whole ms)
members_given shapes id [] h = tt
members_given shapes id (m ∷ ms) h = (h.0.name, h.0.target, h.0.traits, members_given shapes id ms h.1)

pub whole_given : (shapes : ShapeMap) (id : List ℕ) (s : ShapeEntry) (w : IsWholeShape IsNodeMap shapes id s)
    → IsGivenShape (shape_whole shapes id s w)
whole_given shapes id s w = record {
  id = w.is_shape;
  names = subst (HaveForm (member_form s.kind)) (sym (map_twice member_whole (λ (m : MemberGiven). m.name) w.members)) w.form;
  members = members_given shapes id w.members w.there;
  body = w.body;
  traits = w.traits;
}

-- and stands in the graph
module _ (g : GraphMaps) (id : List ℕ) where
  pub whole_stands : (s : ShapeEntry) (w : IsWholeShape IsNodeMap g.shapes id s) → HasEntry g id (shape_entry s)
      → HasEntry g id (shape_entry (record {
        kind = s.kind;
        members = map (λ (m : MemberGiven). member_id id m.name) (members_whole w.members);
        properties = s.properties;
        traits = fin.from_entries (fin.entries s.traits);
      }))
  whole_stands s w has =
      let ids : s.members ≡ map (λ (m : MemberGiven). member_id id m.name) (members_whole w.members) =
      w.ids ∙ sym (map_twice member_whole (λ (m : MemberGiven). member_id id m.name) w.members) in
      has ∙ (λ i. Some (shape_entry (record {
        kind = s.kind;
        members = ids i;
        properties = s.properties;
        traits = sym (map_again s.traits) i;
      })))

  pub member_stands : (m : MemberThere) → IsThere IsNodeMap g.shapes id m
      → HasEntry g (member_id id m.name)
      (member_entry (record { target = m.entry.target; traits = fin.from_entries (fin.entries m.entry.traits) }))
  member_stands m h = h.found ∙ (λ i. Some (member_entry (record { target = m.entry.target; traits = sym (map_again m.entry.traits) i })))

  pub keys_whole : (ms : List MemberThere) → keys (given_members id (members_whole ms)) ≡ ids_there id ms
  keys_whole [] = refl
  keys_whole (m ∷ ms) = ap (λ ks. member_id id m.name ∷ ks) (keys_whole ms)

-- members by their numbers
abbrev pub head_of : List ℕ → List (List ℕ) → List ℕ
head_of d [] = d
head_of d (k ∷ ks) = k

abbrev pub tail_of : List (List ℕ) → List (List ℕ)
tail_of [] = []
tail_of (k ∷ ks) = ks

module _ (g : Graph) (f : IsFormedGraph (maps_of g)) where
  abbrev shapes : ShapeMap
  shapes = (maps_of g).shapes

  one_member : (id : List ℕ) → IsShapeId id → (k : ℕ) (m : MemberGiven) (w : MemberThere) → At g k (λ i e. IsMemberCopy m i e)
      → id_of_number g k ≡ member_id id w.name → IsThere IsNodeMap shapes id w → m ≡ member_whole w
  one_member id is k m w copy same there =
      let found : HasEntry (maps_of g) (id_of_number g k) (member_entry w.entry) = ap (fin.get shapes) same ∙ there.found in
      let h = of_entry g k (λ i e. IsMemberCopy m i e) copy (member_entry w.entry) found in
      let name : m.name ≡ w.name = h.0 ∙ ap member_name same ∙ member_named id is w.name in
      λ i. record { name = name i; target = h.1 i; traits = h.2 i }

  same_members : (id : List ℕ) → IsShapeId id → (ks : List ℕ) (ms : List MemberGiven) (ws : List MemberThere) → AreMemberCopies g ks ms
      → map (id_of_number g) ks ≡ ids_there id ws → AreThere IsNodeMap shapes id ws → ms ≡ members_whole ws
  same_members id is [] [] [] copies same there = refl
  same_members id is [] [] (w ∷ ws) copies same there = absurd (let n = ap length same in omega (arith, n))
  same_members id is [] (m ∷ ms) ws copies same there = absurd copies
  same_members id is (k ∷ ks) [] ws copies same there = absurd copies
  same_members id is (k ∷ ks) (m ∷ ms) [] copies same there = absurd (let n = ap length same in omega (arith, n))
  same_members id is (k ∷ ks) (m ∷ ms) (w ∷ ws) copies same there =
      let first = one_member id is k m w copies.0 (ap (head_of []) same) there.0 in
      let rest = same_members id is ks ms ws copies.1 (ap tail_of same) there.1 in
      λ i. first i ∷ rest i

  -- a copy of a shape is the whole shape
  pub record IsCopied (k : ℕ) (s : ShapeGiven) : Type 0 where
    pub entry : ShapeEntry
    pub there : HasEntry (maps_of g) (id_of_number g k) (shape_entry entry)
    pub same : s ≡ shape_whole shapes (id_of_number g k) entry (whole_at (maps_of g) f (id_of_number g k) entry there)

  copied_as : (k : ℕ) (s : ShapeGiven) → IsShapeCopy g k s → (e : Entry) → HasEntry (maps_of g) (id_of_number g k) e → IsShapeEntry e
      → IsCopied k s
  copied_as k s c (member_entry m) has is = absurd is
  copied_as k s c (shape_entry x) has is =
      let id = id_of_number g k in
      let w = whole_at (maps_of g) f id x has in
      let name = id_told g k s.id c.id in
      let kind = of_entry g k (λ i e. HasKind s.kind e) c.kind (shape_entry x) has in
      let body = of_entry g k (λ i e. HasBodyNode s.properties e) c.body (shape_entry x) has in
      let traits = of_entry g k _ c.traits (shape_entry x) has in
      let listed = of_entry g k (λ i e. HasMembers (map (id_of_number g) c.numbers) e) c.listed (shape_entry x) has in
      let members = same_members id w.is_shape c.numbers s.members w.members c.members (sym listed ∙ w.ids) w.there in record {
        entry = x;
        there = has;
        same = λ i. record { id = name i; kind = sym kind i; members = members i; properties = sym body i; traits = sym traits i };
      }

  pub copied : (k : ℕ) (s : ShapeGiven) → IsShapeAt g k → IsShapeCopy g k s → IsCopied k s
  copied k s is c =
      let e = entry_here g k (λ i e. IsShapeEntry e) is in
      copied_as k s c e.0 e.1 e.2

  -- the members of a shape are members
  listed_member : (id : List ℕ) (ks : List ℕ) (ws : List MemberThere) → map (id_of_number g) ks ≡ ids_there id ws
      → AreThere IsNodeMap shapes id ws → (k : ℕ) → Contains ks k
      → (w : MemberThere) × HasEntry (maps_of g) (id_of_number g k) (member_entry w.entry)
  listed_member id [] ws same there k among = absurd (omega (arith, among.1))
  listed_member id (j ∷ ks) [] same there k among = absurd (let n = ap length same in omega (arith, n))
  listed_member id (j ∷ ks) (w ∷ ws) same there k among = elim (cons_cases j ks k among) [
    | inl is ↦ (w, ap (λ n. fin.get shapes (id_of_number g n)) (sym is) ∙ ap (λ ids. fin.get shapes (head_of [] ids)) same ∙ there.0.found)
    | inr later ↦ listed_member id ks ws (ap tail_of same) there.1 k later
  ]

  pub are_members : (number : ℕ) (ks : List ℕ) → IsShapeAt g number → At g number (λ i e. HasMembers (map (id_of_number g) ks) e)
      → AreShapeNumbers g ks → (k : ℕ) → Contains ks k → IsMemberAt g k
  are_members number ks is listed within k among =
      let e = entry_here g number (λ i e. IsShapeEntry e) is in
      by e.0 e.1 e.2
    where
      number_in : (ks : List ℕ) → AreShapeNumbers g ks → Contains ks k → IsShapeNumber g k
      number_in [] h there = absurd (omega (arith, there.1))
      number_in (j ∷ js) h there = elim (cons_cases j js k there) [
        | inl is ↦ subst (IsShapeNumber g) is h.0
        | inr later ↦ number_in js h.1 later
      ]

      by : (x : Entry) → HasEntry (maps_of g) (id_of_number g number) x → IsShapeEntry x → IsMemberAt g k
      by (member_entry m) has shape = absurd shape
      by (shape_entry x) has shape =
          let w = whole_at (maps_of g) f (id_of_number g number) x has in
          let ids = of_entry g number (λ i e. HasMembers (map (id_of_number g) ks) e) listed (shape_entry x) has in
          let m = listed_member (id_of_number g number) ks w.members (sym ids ∙ w.ids) w.there k among in
          let s = stands_at g k (number_in ks within among) in
          let found = entry_under g k s.0 s.1 s.2 in
          let same : s.1 ≡ member_entry m.0.entry =
          one_entry (maps_of g) s.0 s.1 (member_entry m.0.entry) found
          (ap (fin.get shapes) (sym (id_at g k s.0 s.1 s.2)) ∙ m.1) in
          at_from g k (λ i e. IsMemberEntry e) s.0 s.1 s.2 (subst IsMemberEntry (sym same) tt)

pub numbers_in : (g : Graph) (ks : List ℕ) → AreShapeNumbers g ks → (k : ℕ) → Contains ks k → IsShapeNumber g k
numbers_in g [] h k there = absurd (omega (arith, there.1))
numbers_in g (j ∷ js) h k there = elim (cons_cases j js k there) [
  | inl is ↦ subst (IsShapeNumber g) is h.0
  | inr later ↦ numbers_in g js h.1 k later
]

-- one member more
pub copies_more : (g : Graph) (ks : List ℕ) (ms : List MemberGiven) (k : ℕ) (m : MemberGiven) → AreMemberCopies g ks ms
    → At g k (λ i e. IsMemberCopy m i e) → AreMemberCopies g (ks ++ k ∷ []) (ms ++ m ∷ [])
copies_more g [] [] k m copies here = (here, tt)
copies_more g [] (n ∷ ms) k m copies here = absurd copies
copies_more g (j ∷ ks) [] k m copies here = absurd copies
copies_more g (j ∷ ks) (n ∷ ms) k m copies here = (copies.0, copies_more g ks ms k m copies.1 here)

-- one shape more
stands_pushed : (j : List ℕ) (ks : List (List ℕ)) (k : List ℕ) → StandsAmong j (ks ++ k ∷ []) → StandsAmong j ks ⊎ (j ≡ k)
stands_pushed j [] k (inl same) = inr same
stands_pushed j [] k (inr none) = absurd none
stands_pushed j (i ∷ ks) k (inl same) = inl (inl same)
stands_pushed j (i ∷ ks) k (inr h) = elim (stands_pushed j ks k h) [ inl old ↦ inl (inr old) | inr same ↦ inr same ]

pub differ_pushed : (ks : List (List ℕ)) (k : List ℕ) → DifferInNames ks → (StandsAmong k ks → ⊥) → DifferInNames (ks ++ k ∷ [])
differ_pushed [] k d new = ((λ h. h), tt)
differ_pushed (j ∷ ks) k d new = (
  λ h. elim (stands_pushed j ks k h) [ inl old ↦ d.0 old | inr same ↦ new (inl (sym same)) ],
  differ_pushed ks k d.1 (λ h. new (inr h)),
)

pub id_given : (ss : List ShapeGiven) (id : List ℕ) → StandsAmong id (given_ids ss) → (s : ShapeGiven) × Contains ss s × (id ≡ s.id)
id_given [] id h = absurd h
id_given (s ∷ ss) id (inl same) = (s, (0, omega arith, refl), same)
id_given (s ∷ ss) id (inr h) =
    let later = id_given ss id h in
    let at = later.1 in (later.0, (suc at.0, omega (arith, at.1), at.2), later.2)

module _ (g : Graph) (marks : List Bool) (n : ℕ) (ss : List ShapeGiven) (below : AreCopiesBelow g marks n ss) where
  less : (k : ℕ) → k < n → k < n + 1
  less k lt = omega (arith, lt)

  pub copies_none : (IsMarked marks n → IsShapeAt g n → ⊥) → AreCopiesBelow g marks (n + 1) ss
  copies_none none = record {
    each = λ s among. let h = below.each s among in (h.0, less h.0 h.1, h.2, h.3, h.4);
    all = λ k lt marked shape. elim (cases_lt k n) [
      | inl before ↦ below.all k before marked shape
      | inr ge ↦
          let is : k ≡ n = omega (arith, ge, lt) in
          absurd (none (subst (IsMarked marks) is marked) (subst (IsShapeAt g) is shape))
    ];
    differ = below.differ;
  }

  pub copies_put : (s : ShapeGiven) → IsShapeNumber g n → IsMarked marks n → IsShapeAt g n → IsShapeCopy g n s
      → AreCopiesBelow g marks (n + 1) (ss ++ s ∷ [])
  copies_put s within marked shape copy = record {
    each = λ t among. elim (Contains-push_cases ss s t among) [
      | inl old ↦ let h = below.each t old in (h.0, less h.0 h.1, h.2, h.3, h.4)
      | inr is ↦ let lt : n < n + 1 = omega arith in (n, lt, marked, shape, subst (IsShapeCopy g n) is copy)
    ];
    all = λ k lt m sh. elim (cases_lt k n) [
      | inl before ↦ let h = below.all k before m sh in (h.0, Contains-append_left ss (s ∷ []) h.0 h.1, h.2)
      | inr ge ↦
          let is : n ≡ k = omega (arith, ge, lt) in
          (s, Contains-push ss s, subst (λ j. IsShapeCopy g j s) is copy)
    ];
    differ = subst DifferInNames (sym (map-append (λ (t : ShapeGiven). t.id) ss (s ∷ [])))
        (differ_pushed (given_ids ss) s.id below.differ new);
  }
    where
      new : StandsAmong s.id (given_ids ss) → ⊥
      new h =
          let t = id_given ss s.id h in
          let at = below.each t.0 t.1 in
          let here = id_told g n s.id copy.id in
          let there = id_told g at.0 t.0.id at.4.id in
          let lt : IsShapeNumber g at.0 = omega (arith, at.1, within) in
          let same = same_number g at.0 n lt within (sym there ∙ sym t.2 ∙ here) in
          omega (arith, same, at.1)

-- what stands at a place is among a list
pub contains_nth : {X : Type 0} (xs : List X) (i : ℕ) (d : X) → i < length xs → Contains xs (get_or xs i d)
contains_nth [] i d lt = absurd (omega (arith, lt))
contains_nth (x ∷ xs) zero d lt = cons_here x xs
contains_nth (x ∷ xs) (suc i) d lt = behind_head x xs (get_or xs i d) (contains_nth xs i d (omega (arith, lt)))

-- what a number's entry says of it
module _ (g : Graph) (n : ℕ) (b : Bool) (told : At g n (λ i e. is_member_entry e ≡ b)) where
  pub member_no_shape : b ≡ true → IsShapeAt g n → ⊥
  member_no_shape is shape =
      let e = entry_here g n (λ i e. IsShapeEntry e) shape in
      by e.0 e.2 (of_entry g n (λ i e. is_member_entry e ≡ b) told e.0 e.1)
    where
      by : (x : Entry) → IsShapeEntry x → is_member_entry x ≡ b → ⊥
      by (shape_entry s) here said = apart (said ∙ is)
      by (member_entry m) here said = here

  pub shape_at : b ≡ false → IsShapeAt g n
  shape_at is =
      let o = at_opened g n (λ i e. is_member_entry e ≡ b) told in
      at_from g n (λ i e. IsShapeEntry e) o.id o.entry o.there (by o.entry o.is)
    where
      by : (x : Entry) → is_member_entry x ≡ b → IsShapeEntry x
      by (shape_entry s) said = tt
      by (member_entry m) said = absurd (apart (sym is ∙ sym said))
