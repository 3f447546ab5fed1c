-- The graph of copies of what stays is what `include` makes of a graph.
use Rattle.std.proofs.Common.{◌≡◌, ◌≤◌, inl, inr, ℕ, Bool, true, List, [], ◌∷◌, length, refl, sym, ap, subst, ◌∙◌}
use Rattle.std.proofs.Common.{arith}
use Rattle.std.specs.FinMap as fin
use Rattle.std.specs.List.{Contains}
use Rattle.std.proofs.lemmas.List.{length-map}
use Rattle.sm_ids.specs.IdText.{IsShapeId}
use Rattle.sm_ids.specs.TextParts.{member_id}
use Rattle.sm_tree.specs.Node.{Node}
use Rattle.sm_model.specs.Formed.{StandsAmong}
use Rattle.sm_model.specs.FormedGraph.{IsFormedGraph}
use Rattle.sm_model.specs.Given.{AreGiven, AreGivenShapes, IsGivenShape, IsNodeMap}
use Rattle.sm_model.specs.Graphs.{Entry, GraphMaps, MemberGiven, ShapeEntry, ShapeGiven, given_entries}
use Rattle.sm_model.specs.Graphs.{given_member, given_members, given_shape}
use Rattle.sm_model.specs.Graphs.{graph_of, member_entry, shape_entry}
use Rattle.sm_model.specs.GraphView.{IsShapeAt, IsShapeEntry, entries_of, maps_of}
use Rattle.sm_model.specs.Reaching.{AreMarks, id_of_number}
use Rattle.sm_model.specs.Relations.{HasEntry, IsInGraph, IsRelated}
use Rattle.sm_model.specs.declared.graph.Graph.{Graph}
use Rattle.sm_model.specs.declared.relation.Relation.TheVariants.{Container, Member}
use Rattle.sm_model.proofs.GivenEntries.{AreThere, IsWholeShape, MemberThere, ids_there}
use Rattle.sm_model.proofs.GraphFacts.{entry_under, id_at}
use Rattle.sm_model.proofs.LinkNumbers.{at_from, stands_at}
use Rattle.sm_model.proofs.LinkedEntries.{cons_here}
use Rattle.sm_model.proofs.MapFacts.{Each, each_joined, keys}
use Rattle.sm_model.proofs.NumberedIds.{number_of, one_entry}
use Rattle.sm_select.specs.Selectors.{Steps}
use Rattle.sm_transform.specs.Changed.{Changed, include}
use Rattle.sm_transform.specs.Included.{StaysIncluded, related}
use Rattle.sm_transform.specs.Namespaces.{api_namespace, is_of_api}
use Rattle.sm_transform.specs.steps.Copies.{AreCopiesBelow}
use Rattle.sm_transform.proofs.CopiedShapes.{IsCopied, copied, keys_whole, member_stands, member_whole}
use Rattle.sm_transform.proofs.CopiedShapes.{members_whole, shape_whole, whole_given}
use Rattle.sm_transform.proofs.CopiedShapes.{whole_stands}
use Rattle.sm_transform.proofs.FewGiven.{IsLike, no_more}
use Rattle.sm_transform.proofs.FormedHomes.{IsAtHome, IsGivenAs, home_of, keys_among, metadata_known, one_of, whole_at}
use Rattle.sm_transform.proofs.IdNamespaces.{member_namespace}
use Rattle.sm_transform.proofs.MadeOfGiven.{Comes, made_of}
use Rattle.sm_transform.proofs.StepsNeeded.{behind_head}
use Rattle.std.specs.Str.{bytes_eq}

-- what holds of given shapes, one after the other
pub all_given : (ss : List ShapeGiven) → ((s : ShapeGiven) → Contains ss s → IsGivenShape s) → AreGivenShapes ss
all_given [] h = tt
all_given (s ∷ ss) h = (h s (cons_here s ss), all_given ss (λ t among. h t (behind_head s ss t among)))

pub each_given : (P : List ℕ → Entry → Type 0) (ss : List ShapeGiven) → ((s : ShapeGiven) → Contains ss s → Each P (given_shape s))
    → Each P (given_entries ss)
each_given P [] h = tt
each_given P (s ∷ ss) h =
    each_joined P (given_shape s) (given_entries ss) (h s (cons_here s ss)) (each_given P ss (λ t among. h t (behind_head s ss t among)))

stands_contains : (k : List ℕ) (ks : List (List ℕ)) → StandsAmong k ks → Contains ks k
stands_contains k [] h = absurd h
stands_contains k (j ∷ ks) (inl same) = subst (Contains (j ∷ ks)) (sym same) (cons_here j ks)
stands_contains k (j ∷ ks) (inr h) = behind_head j ks k (stands_contains k ks h)

-- a member stays with its shape, and a shape with its members
module _ (m : GraphMaps) (steps : Steps) where
  abbrev Stays : List ℕ → Type 0
  Stays id = StaysIncluded m steps id

  pub to_member : (shape : List ℕ) (s : ShapeEntry) (id : List ℕ) → HasEntry m shape (shape_entry s) → StandsAmong id s.members
      → IsInGraph m id → IsRelated Member m shape id
  to_member shape s id there listed has = (shape_entry s, there, inl (refl, stands_contains id s.members listed), has)

  pub same_api : (shape name : List ℕ) → IsShapeId shape → is_of_api (member_id shape name) ≡ is_of_api shape
  same_api shape name is = ap (λ n. bytes_eq n api_namespace) (member_namespace shape name is)

  member_stays : (shape : List ℕ) (s : ShapeEntry) (name : List ℕ) → IsShapeId shape → HasEntry m shape (shape_entry s)
      → StandsAmong (member_id shape name) s.members → IsInGraph m (member_id shape name) → Stays shape → Stays (member_id shape name)
  member_stays shape s name is there listed has (inl in_set) =
      inl (related Member in_set (to_member shape s (member_id shape name) there listed has))
  member_stays shape s name is there listed has (inr api) = inr (same_api shape name is ∙ api)

  shape_stays : (id : List ℕ) → IsInGraph m id → (h : IsAtHome m id) → Stays id → Stays h.shape
  shape_stays id has h (inl in_set) = inl (related Container in_set (to_member h.shape h.s id h.there h.listed has))
  shape_stays id has h (inr api) = inr (sym (same_api h.shape h.name h.is) ∙ subst (λ i. is_of_api i ≡ true) h.id_is api)

module _ (g : Graph) (f : IsFormedGraph (maps_of g)) (steps : Steps) (marks : List Bool)
    (are : AreMarks (length (entries_of g)) (λ k. StaysIncluded (maps_of g) steps (id_of_number g k)) marks) (ss : List ShapeGiven)
    (copies : AreCopiesBelow g marks (length (entries_of g)) ss) where
  abbrev m : GraphMaps
  m = maps_of g

  abbrev ComesHere : List ℕ → Entry → Type 0
  ComesHere = Comes (StaysIncluded m steps) (λ id. id) (λ e. e) m

  -- each entry of a copy comes of what stays
  members_come : (id : List ℕ) (ws : List MemberThere) → AreThere IsNodeMap m.shapes id ws
      → ((w : List ℕ) → StandsAmong (member_id id w) (ids_there id ws) → IsInGraph m (member_id id w)
      → StaysIncluded m steps (member_id id w))
      → Each ComesHere (given_members id (members_whole ws))
  members_come id [] there stays = tt
  members_come id (w ∷ ws) there stays =
      let stands = member_stands m id w there.0 in (
        (member_id id w.name, _, stands, stays w.name (inl refl) (_, stands), refl, refl),
        members_come id ws there.1 (λ name among has. stays name (inr among) has),
      )

  shape_comes : (id : List ℕ) (x : ShapeEntry) (w : IsWholeShape IsNodeMap m.shapes id x) → HasEntry m id (shape_entry x)
      → StaysIncluded m steps id → Each ComesHere (given_shape (shape_whole m.shapes id x w))
  shape_comes id x w has stays = (
    (id, _, whole_stands m id x w has, stays, refl, refl),
    members_come id w.members w.there
        (λ name among there. member_stays m steps id x name w.is_shape has
        (subst (StandsAmong (member_id id name)) (sym w.ids) among) there stays),
  )

  copy_comes : (s : ShapeGiven) → Contains ss s → Each ComesHere (given_shape s)
  copy_comes s among =
      let h = copies.each s among in
      let c = copied g f h.0 s h.3 h.4 in
      let stays = ((are.marked h.0).0 h.2).1 in
      let id = id_of_number g h.0 in
      subst (λ t. Each ComesHere (given_shape t)) (sym c.same) (shape_comes id c.entry (whole_at m f id c.entry c.there) c.there stays)

  copy_given : (s : ShapeGiven) → Contains ss s → IsGivenShape s
  copy_given s among =
      let h = copies.each s among in
      let c = copied g f h.0 s h.3 h.4 in
      let id = id_of_number g h.0 in
      subst IsGivenShape (sym c.same) (whole_given m.shapes id c.entry (whole_at m f id c.entry c.there))

  -- each shape that stays is copied
  record HasCopy (id : List ℕ) (x : ShapeEntry) : Type 0 where
    k : ℕ
    name : id_of_number g k ≡ id
    s : ShapeGiven
    among : Contains ss s
    copy : IsCopied g f k s
    entry : shape_entry copy.entry ≡ shape_entry x

  has_copy : (id : List ℕ) (x : ShapeEntry) → HasEntry m id (shape_entry x) → StaysIncluded m steps id → HasCopy id x
  has_copy id x has stays =
      let n = number_of g id (shape_entry x, has) in
      let k = n.0 in
      let at = stands_at g k n.1 in
      let here : HasEntry m (id_of_number g k) (shape_entry x) = ap (fin.get m.shapes) n.2 ∙ has in
      let entry : at.1 ≡ shape_entry x =
      one_entry m at.0 at.1 (shape_entry x) (entry_under g k at.0 at.1 at.2)
      (ap (fin.get m.shapes) (sym (id_at g k at.0 at.1 at.2)) ∙ here) in
      let shape : IsShapeAt g k = at_from g k (λ i e. IsShapeEntry e) at.0 at.1 at.2 (subst IsShapeEntry (sym entry) tt) in
      let marked = (are.marked k).1 (n.1, subst (StaysIncluded m steps) (sym n.2) stays) in
      let c = copies.all k n.1 marked shape in
      let is = copied g f k c.0 shape c.2 in record {
        k = k;
        name = n.2;
        s = c.0;
        among = c.1;
        copy = is;
        entry = one_entry m (id_of_number g k) (shape_entry is.entry) (shape_entry x) is.there here;
      }

  abbrev listed_in : Entry → List (List ℕ)
  listed_in (shape_entry y) = y.members
  listed_in (member_entry y) = []

  shape_covered : (id : List ℕ) (x : ShapeEntry) → HasCopy id x → StandsAmong id (keys (given_entries ss))
  shape_covered id x h =
      let same : h.s.id ≡ id = ap (λ (t : ShapeGiven). t.id) h.copy.same ∙ h.name in
      subst (λ i. StandsAmong i (keys (given_entries ss))) same (keys_among ss h.s h.among h.s.id (inl refl))

  member_covered : (id : List ℕ) (x : ShapeEntry) (member : List ℕ) → HasCopy id x → StandsAmong member x.members
      → StandsAmong member (keys (given_entries ss))
  member_covered id x member h listed =
      let i = id_of_number g h.k in
      let w = whole_at m f i h.copy.entry h.copy.there in
      let among : StandsAmong member h.copy.entry.members =
      subst (λ ids. StandsAmong member ids) (sym (ap listed_in h.entry)) listed in
      let keyed : StandsAmong member (keys (given_members i (members_whole w.members))) =
      subst (StandsAmong member) (w.ids ∙ sym (keys_whole m i w.members)) among in
      keys_among ss h.s h.among member (subst (λ t. StandsAmong member (keys (given_shape t))) (sym h.copy.same) (inr keyed))

  covered : (old : List ℕ) (e : Entry) → HasEntry m old e → StaysIncluded m steps old → StandsAmong old (keys (given_entries ss))
  covered old (shape_entry x) has stays = shape_covered old x (has_copy old x has stays)
  covered old (member_entry x) has stays =
      let h = home_of m f old x has in
      let shape = shape_stays m steps old (member_entry x, has) h stays in
      member_covered h.shape h.s old (has_copy h.shape h.s h.there shape) h.listed

  pub included_made : (metadata : List (List ℕ × Node)) → metadata ≡ fin.entries m.metadata
      → Changed m (include steps) (graph_of ss metadata)
  included_made metadata same =
      made_of (StaysIncluded m steps) (λ id. id) (λ e. e) m ss metadata (λ old other e k a b is. is)
      (each_given ComesHere ss copy_comes) covered same

  -- and a graph may be made of the copies
  large_as : (s : ShapeGiven) → Contains ss s → IsLike (λ id. id) f.shapes s
  large_as s among =
      let h = copies.each s among in
      let c = copied g f h.0 s h.3 h.4 in
      let id = id_of_number g h.0 in
      let w = whole_at m f id c.entry c.there in
      let given : IsGivenAs f.shapes id c.entry = one_of m f id (shape_entry c.entry) c.there in
      let size : length s.members ≡ length given.given.members =
      ap (λ (t : ShapeGiven). length t.members) c.same ∙ length-map w.members member_whole
      ∙ sym (length-map w.members (λ (x : MemberThere). member_id id x.name)) ∙ ap length (sym w.ids)
      ∙ ap (λ (x : ShapeEntry). length x.members) given.is
      ∙ length-map given.given.members (λ (x : MemberGiven). member_id given.given.id x.name) in
      record {
        other = given.given;
        among = given.among;
        comes = ap (λ (t : ShapeGiven). t.id) c.same ∙ given.id_is;
        large = at_most s given.given size;
      }
    where
      at_most : (s t : ShapeGiven) → length s.members ≡ length t.members → length (given_shape s) ≤ length (given_shape t)
      at_most s t size =
          let a = length-map s.members (given_member s.id) in
          let b = length-map t.members (given_member t.id) in
          omega (arith, a, b, size)

  pub included_given : (metadata : List (List ℕ × Node)) → metadata ≡ fin.entries m.metadata → AreGiven ss metadata
  included_given metadata same = record {
    each = all_given ss copy_given;
    differ = copies.differ;
    few =
        let most = no_more (λ id. id) ss f.shapes copies.differ large_as in
        let few = f.given.few in
        omega (arith, most, few);
    metadata_is = subst IsNodeMap (sym same) (metadata_known m f);
  }
