-- The graph that is made of what becomes of shapes, where ids become others or are gone, is what becomes of the graph.
use Rattle.std.proofs.Common.{◌≡◌, ◌≤◌, ◌+◌, ◌<◌, ◌++◌, inl, inr, ℕ, List, [], ◌∷◌, map, length, Option, Some, None, refl}
use Rattle.std.proofs.Common.{sym, ap, subst, ◌∙◌, arith}
use Rattle.std.specs.FinMap as fin
use Rattle.std.specs.List.{Contains, cons_option, filter_map}
use Rattle.std.specs.Option.{option_map}
use Rattle.std.proofs.lemmas.Bool.{cases_lt}
use Rattle.std.proofs.lemmas.List.{length-map, map-append}
use Rattle.std.proofs.lemmas.List.Elements.{Contains-append_left, Contains-push, Contains-push_cases}
use Rattle.sm_ids.specs.IdText.{IsShapeId}
use Rattle.sm_ids.specs.TextParts.{member_id, member_name}
use Rattle.sm_ids.proofs.TextCuts.{member_named}
use Rattle.sm_tree.specs.Node.{Node}
use Rattle.sm_model.specs.Formed.{DifferInNames, StandsAmong}
use Rattle.sm_model.specs.FormedGraph.{IsFormedGraph}
use Rattle.sm_model.specs.Given.{AreGiven, IsGivenShape, IsNodeMap, given_ids}
use Rattle.sm_model.specs.Graphs.{Entry, GraphMaps, MemberGiven, ShapeEntry, ShapeGiven, ShapeMap, given_entries, given_member}
use Rattle.sm_model.specs.Graphs.{given_shape, graph_of, member_entry, shape_entry}
use Rattle.sm_model.specs.GraphView.{At, HasBodyNode, HasKind, HasMembers, IsShapeAt, IsShapeEntry, IsShapeNumber, entries_of, maps_of}
use Rattle.sm_model.specs.Reaching.{id_of_number}
use Rattle.sm_model.specs.Relations.{HasEntry}
use Rattle.sm_model.specs.declared.graph.Graph.{Graph}
use Rattle.sm_model.proofs.GivenEntries.{AreThere, IsThere, MemberThere, ids_there}
use Rattle.sm_model.proofs.GraphFacts.{entry_under, id_at}
use Rattle.sm_model.proofs.LinkNumbers.{at_from, at_opened, stands_at}
use Rattle.sm_model.proofs.MapFacts.{Each, keys}
use Rattle.sm_model.proofs.NumberedIds.{entry_here, number_of, of_entry, one_entry}
use Rattle.sm_transform.specs.Changed.{IsMadeOf}
use Rattle.sm_transform.specs.IdChanges.{IdChange, body_after, entry_after, id_after, trait_after}
use Rattle.sm_transform.specs.steps.Changing.{AreMembersAfter, AreShapesAfter, IsLeft, IsMemberAfter, IsSafeFor, IsShapeAfter}
use Rattle.sm_transform.proofs.ChangedGiven.{ComesOf, few_left, left_comes, left_given, member_left, member_stands_left, members_left}
use Rattle.sm_transform.proofs.ChangedGiven.{shape_left}
use Rattle.sm_transform.proofs.CopiedShapes.{differ_pushed, head_of, id_given, tail_of}
use Rattle.sm_transform.proofs.FewGiven.{IsLike, no_more}
use Rattle.sm_transform.proofs.FormedHomes.{IsGivenAs, home_of, keys_among, metadata_known, one_of, whole_at}
use Rattle.sm_transform.proofs.IncludedGraph.{all_given, each_given}
use Rattle.sm_transform.proofs.IncludedNumbers.{same_number}
use Rattle.sm_transform.proofs.MadeOfGiven.{made_of}
use Rattle.sm_transform.proofs.StepsNeeded.{in_graph}

-- one member more
pub after_more : (change : IdChange) (g : Graph) (ks : List ℕ) (ms : List MemberGiven) (k : ℕ) (o : Option MemberGiven)
    → AreMembersAfter change g ks ms → At g k (λ i e. IsMemberAfter change o i e)
    → AreMembersAfter change g (ks ++ k ∷ []) (ms ++ cons_option o [])
after_more change g [] ms k o is here =
    (o, [], here, ap (λ xs. xs ++ cons_option o []) is, refl)
after_more change g (j ∷ ks) ms k o (p, rest, first, is, more) here = (
  p,
  rest ++ cons_option o [],
  first,
  ap (λ xs. xs ++ cons_option o []) is ∙ put p,
  after_more change g ks rest k o more here,
)
  where
    put : (q : Option MemberGiven) → cons_option q rest ++ cons_option o [] ≡ cons_option q (rest ++ cons_option o [])
    put None = refl
    put (Some m) = refl

-- the id that is told of what becomes of a shape
pub after_told : (change : IdChange) (g : Graph) (k : ℕ) (id : List ℕ) → At g k (λ i e. id ≡ id_after change i)
    → id ≡ id_after change (id_of_number g k)
after_told change g k id h =
    let o = at_opened g k (λ i e. id ≡ id_after change i) h in o.is ∙ ap (id_after change) (sym (id_at g k o.id o.entry o.there))

module _ (g : Graph) (f : IsFormedGraph (maps_of g)) (change : IdChange) where
  abbrev shapes : ShapeMap
  shapes = (maps_of g).shapes

  one_member : (id : List ℕ) → IsShapeId id → (k : ℕ) (o : Option MemberGiven) (w : MemberThere)
      → At g k (λ i e. IsMemberAfter change o i e) → id_of_number g k ≡ member_id id w.name → IsThere IsNodeMap shapes id w
      → o ≡ member_left change id w
  one_member id is k o w after same there =
      let found : HasEntry (maps_of g) (id_of_number g k) (member_entry w.entry) = ap (fin.get shapes) same ∙ there.found in
      let h = of_entry g k (λ i e. IsMemberAfter change o i e) after (member_entry w.entry) found in
      let name : member_name (id_of_number g k) ≡ w.name = ap member_name same ∙ member_named id is w.name in
      h ∙ (λ i. option_map (λ (new : List ℕ). record {
        name = name i;
        target = id_after change w.entry.target;
        traits = filter_map (trait_after change) (fin.entries w.entry.traits);
      }) (change (same i)))

  same_members : (id : List ℕ) → IsShapeId id → (ks : List ℕ) (ms : List MemberGiven) (ws : List MemberThere)
      → AreMembersAfter change g ks ms
      → map (id_of_number g) ks ≡ ids_there id ws → AreThere IsNodeMap shapes id ws → ms ≡ members_left change id ws
  same_members id is [] ms [] after same there = after
  same_members id is [] ms (w ∷ ws) after same there = absurd (let n = ap length same in omega (arith, n))
  same_members id is (k ∷ ks) ms [] after same there = absurd (let n = ap length same in omega (arith, n))
  same_members id is (k ∷ ks) ms (w ∷ ws) (o, rest, first, cut, more) same there =
      let head = one_member id is k o w first (ap (head_of []) same) there.0 in
      let tail = same_members id is ks rest ws more (ap tail_of same) there.1 in
      cut ∙ (λ i. cons_option (head i) (tail i))

  pub record IsChanged (k : ℕ) (s : ShapeGiven) : Type 0 where
    pub entry : ShapeEntry
    pub there : HasEntry (maps_of g) (id_of_number g k) (shape_entry entry)
    pub same : s ≡ shape_left change (id_of_number g k) entry (whole_at (maps_of g) f (id_of_number g k) entry there).members

  changed_as : (k : ℕ) (s : ShapeGiven) → IsShapeAfter change g k s → (e : Entry) → HasEntry (maps_of g) (id_of_number g k) e
      → IsShapeEntry e
      → IsChanged k s
  changed_as k s c (member_entry m) has is = absurd is
  changed_as k s c (shape_entry x) has is =
      let id = id_of_number g k in
      let w = whole_at (maps_of g) f id x has in
      let name = after_told change g k s.id c.id in
      let kind = of_entry g k (λ i e. HasKind s.kind e) c.kind (shape_entry x) has in
      let body = of_entry g k (λ i e. HasBodyNode c.properties e) c.body (shape_entry x) has in
      let traits = of_entry g k _ c.traits (shape_entry x) has in
      let listed = of_entry g k (λ i e. HasMembers (map (id_of_number g) c.numbers) e) c.listed (shape_entry x) has in
      let members = same_members id w.is_shape c.numbers s.members w.members c.members (sym listed ∙ w.ids) w.there in
      let properties : s.properties ≡ body_after change x.kind x.properties =
      c.body_is ∙ (λ i. body_after change (sym kind i) (sym body i)) in record {
        entry = x;
        there = has;
        same = λ i. record { id = name i; kind = sym kind i; members = members i; properties = properties i; traits = sym traits i };
      }

  pub changed_at : (k : ℕ) (s : ShapeGiven) → IsShapeAt g k → IsShapeAfter change g k s → IsChanged k s
  changed_at k s is c =
      let e = entry_here g k (λ i e. IsShapeEntry e) is in
      changed_as k s c e.0 e.1 e.2

-- one shape more
module _ (g : Graph) (change : IdChange) (safe : IsSafeFor (maps_of g) change) (n : ℕ) (ss : List ShapeGiven)
    (below : AreShapesAfter change g n ss) where
  less : (k : ℕ) → k < n → k < n + 1
  less k lt = omega (arith, lt)

  pub after_none : (IsLeft change (id_of_number g n) → IsShapeAt g n → ⊥) → AreShapesAfter change g (n + 1) ss
  after_none none = record {
    each = λ s among. let h = below.each s among in (h.0, less h.0 h.1, h.2, h.3, h.4);
    all = λ k lt left shape. elim (cases_lt k n) [
      | inl before ↦ below.all k before left shape
      | inr ge ↦
          let is : k ≡ n = omega (arith, ge, lt) in
          absurd (none (subst (λ j. IsLeft change (id_of_number g j)) is left) (subst (IsShapeAt g) is shape))
    ];
    differ = below.differ;
  }

  pub after_put : (s : ShapeGiven) → IsShapeNumber g n → IsLeft change (id_of_number g n) → IsShapeAt g n → IsShapeAfter change g n s
      → AreShapesAfter change g (n + 1) (ss ++ s ∷ [])
  after_put s within left shape after = record {
    each = λ t among. elim (Contains-push_cases ss s t among) [
      | inl old ↦ let h = below.each t old in (h.0, less h.0 h.1, h.2, h.3, h.4)
      | inr is ↦ let lt : n < n + 1 = omega arith in (n, lt, left, shape, subst (IsShapeAfter change g n) is after)
    ];
    all = λ k lt l sh. elim (cases_lt k n) [
      | inl before ↦ let h = below.all k before l sh in (h.0, Contains-append_left ss (s ∷ []) h.0 h.1, h.2)
      | inr ge ↦
          let is : n ≡ k = omega (arith, ge, lt) in
          (s, Contains-push ss s, subst (λ j. IsShapeAfter change g j s) is after)
    ];
    differ = subst DifferInNames (sym (map-append (λ (t : ShapeGiven). t.id) ss (s ∷ [])))
        (differ_pushed (given_ids ss) s.id below.differ new);
  }
    where
      new : StandsAmong s.id (given_ids ss) → ⊥
      new h =
          let t = id_given ss s.id h in
          let at = below.each t.0 t.1 in
          let here = after_told change g n s.id after.id in
          let there = after_told change g at.0 t.0.id at.4.id in
          let lt : IsShapeNumber g at.0 = omega (arith, at.1, within) in
          let one = safe.apart (id_of_number g at.0) (id_of_number g n) (in_graph g at.0 lt) (in_graph g n within)
          (sym there ∙ sym t.2 ∙ here) in
          let same = same_number g at.0 n lt within one in
          omega (arith, same, at.1)

module _ (g : Graph) (f : IsFormedGraph (maps_of g)) (change : IdChange) (safe : IsSafeFor (maps_of g) change) (ss : List ShapeGiven)
    (after : AreShapesAfter change g (length (entries_of g)) ss) where
  abbrev m : GraphMaps
  m = maps_of g

  abbrev ComesHere : List ℕ → Entry → Type 0
  ComesHere = ComesOf m change safe

  all_come : (s : ShapeGiven) → Contains ss s → Each ComesHere (given_shape s)
  all_come s among =
      let h = after.each s among in
      let c = changed_at g f change h.0 s h.3 h.4 in
      let id = id_of_number g h.0 in
      subst (λ t. Each ComesHere (given_shape t)) (sym c.same)
      (left_comes m change safe id c.entry (whole_at m f id c.entry c.there) c.there h.2)

  all_are : (s : ShapeGiven) → Contains ss s → IsGivenShape s
  all_are s among =
      let h = after.each s among in
      let c = changed_at g f change h.0 s h.3 h.4 in
      let id = id_of_number g h.0 in
      subst IsGivenShape (sym c.same) (left_given m change safe id c.entry (whole_at m f id c.entry c.there) c.there h.2)

  record HasAfter (id : List ℕ) (x : ShapeEntry) : Type 0 where
    k : ℕ
    name : id_of_number g k ≡ id
    s : ShapeGiven
    among : Contains ss s
    changed : IsChanged g f change k s
    entry : shape_entry changed.entry ≡ shape_entry x

  has_after : (id : List ℕ) (x : ShapeEntry) → HasEntry m id (shape_entry x) → IsLeft change id → HasAfter id x
  has_after id x has left =
      let n = number_of g id (shape_entry x, has) in
      let k = n.0 in
      let at = stands_at g k n.1 in
      let here : HasEntry m (id_of_number g k) (shape_entry x) = ap (fin.get m.shapes) n.2 ∙ has in
      let entry : at.1 ≡ shape_entry x =
      one_entry m at.0 at.1 (shape_entry x) (entry_under g k at.0 at.1 at.2)
      (ap (fin.get m.shapes) (sym (id_at g k at.0 at.1 at.2)) ∙ here) in
      let shape : IsShapeAt g k = at_from g k (λ i e. IsShapeEntry e) at.0 at.1 at.2 (subst IsShapeEntry (sym entry) tt) in
      let c = after.all k n.1 (subst (IsLeft change) (sym n.2) left) shape in
      let is = changed_at g f change k c.0 shape c.2 in record {
        k = k;
        name = n.2;
        s = c.0;
        among = c.1;
        changed = is;
        entry = one_entry m (id_of_number g k) (shape_entry is.entry) (shape_entry x) is.there here;
      }

  abbrev listed_in : Entry → List (List ℕ)
  listed_in (shape_entry y) = y.members
  listed_in (member_entry y) = []

  shape_covered : (id : List ℕ) (x : ShapeEntry) → HasAfter id x → StandsAmong (id_after change id) (keys (given_entries ss))
  shape_covered id x h =
      let same : h.s.id ≡ id_after change id = ap (λ (t : ShapeGiven). t.id) h.changed.same ∙ ap (id_after change) h.name in
      subst (λ i. StandsAmong i (keys (given_entries ss))) same (keys_among ss h.s h.among h.s.id (inl refl))

  member_covered : (id : List ℕ) (x : ShapeEntry) (member : List ℕ) → HasAfter id x → StandsAmong member x.members → IsLeft change member
      → StandsAmong (id_after change member) (keys (given_entries ss))
  member_covered id x member h listed left =
      let i = id_of_number g h.k in
      let w = whole_at m f i h.changed.entry h.changed.there in
      let among : StandsAmong member h.changed.entry.members =
      subst (λ ids. StandsAmong member ids) (sym (ap listed_in h.entry)) listed in
      let keyed = member_stands_left m change safe i w.is_shape w.members w.there member (subst (StandsAmong member) w.ids among) left in
      keys_among ss h.s h.among (id_after change member)
      (subst (λ t. StandsAmong (id_after change member) (keys (given_shape t))) (sym h.changed.same) (inr keyed))

  covered : (old : List ℕ) (e : Entry) → HasEntry m old e → IsLeft change old → StandsAmong (id_after change old) (keys (given_entries ss))
  covered old (shape_entry x) has left = shape_covered old x (has_after old x has left)
  covered old (member_entry x) has left =
      let h = home_of m f old x has in
      let stays = subst (IsLeft change) h.id_is left in
      let listed = subst (λ i. StandsAmong i h.s.members) h.id_is h.listed in
      let shape = safe.homes h.shape h.name h.s h.is h.there listed stays in
      member_covered h.shape h.s old (has_after h.shape h.s h.there shape) h.listed left

  pub changed_made : (metadata : List (List ℕ × Node)) → metadata ≡ fin.entries m.metadata
      → IsMadeOf (IsLeft change) (id_after change) (entry_after change) m (graph_of ss metadata)
  changed_made metadata same =
      made_of (IsLeft change) (id_after change) (entry_after change) m ss metadata
      (λ old other e k a b is. safe.apart old other (e, a) (k, b) is) (each_given ComesHere ss all_come) covered same

  large_as : (s : ShapeGiven) → Contains ss s → IsLike (id_after change) f.shapes s
  large_as s among =
      let h = after.each s among in
      let c = changed_at g f change h.0 s h.3 h.4 in
      let id = id_of_number g h.0 in
      let w = whole_at m f id c.entry c.there in
      let given : IsGivenAs f.shapes id c.entry = one_of m f id (shape_entry c.entry) c.there in
      let mine : length s.members ≡ length (members_left change id w.members) = ap (λ (t : ShapeGiven). length t.members) c.same in
      let most = few_left change id w.members in
      let size : length w.members ≡ length given.given.members =
      sym (length-map w.members (λ (x : MemberThere). member_id id x.name)) ∙ ap length (sym w.ids)
      ∙ ap (λ (x : ShapeEntry). length x.members) given.is
      ∙ length-map given.given.members (λ (x : MemberGiven). member_id given.given.id x.name) in
      record {
        other = given.given;
        among = given.among;
        comes = ap (λ (t : ShapeGiven). t.id) c.same ∙ ap (id_after change) given.id_is;
        large = at_most s given.given (omega (arith, mine, most, size));
      }
    where
      at_most : (s t : ShapeGiven) → length s.members ≤ length t.members → length (given_shape s) ≤ length (given_shape t)
      at_most s t size =
          let a = length-map s.members (given_member s.id) in
          let b = length-map t.members (given_member t.id) in
          omega (arith, a, b, size)

  pub changed_given : (metadata : List (List ℕ × Node)) → metadata ≡ fin.entries m.metadata → AreGiven ss metadata
  changed_given metadata same = record {
    each = all_given ss all_are;
    differ = after.differ;
    few =
        let most = no_more (id_after change) ss f.shapes after.differ large_as in
        let few = f.given.few in
        omega (arith, most, few);
    metadata_is = subst IsNodeMap (sym same) (metadata_known m f);
  }
