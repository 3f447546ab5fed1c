-- The shapes of a merged graph, those of the prelude among them, are shapes that a graph may be made from; and the graph is that of
-- these shapes.
use Rattle.std.proofs.Common.{◌≡◌, ◌<◌, ◌+◌, ◌^◌, inl, inr, ℕ, Bool, true, false, cond, List, [], ◌∷◌, map, length, Option, Some, None}
use Rattle.std.proofs.Common.{refl, sym, ap, subst, ◌∙◌, arith}
use Rattle.std.specs.List.{list_all}
use Rattle.std.specs.Cmp.Lexicographic.{nat_list_cmp_total}
use Rattle.std.specs.FinMap as fin
use Rattle.std.specs.FinMap.{len-empty, len-entries, len-insert, nat_cmp-IsAntisymmetric, same_map, slice_cmp-IsAntisymmetric}
use Rattle.std.specs.Option.{is_some}
use Rattle.std.proofs.lemmas.Bool.{and_parts}
use Rattle.std.proofs.lemmas.List.{length-map}
use Rattle.std.proofs.lemmas.Option.{none-some, same_Some}
use Rattle.sm_ids.specs.Identifier.{IsIdentifier}
use Rattle.sm_ids.specs.IdText.{IsIdText}
use Rattle.sm_tree.specs.Node.{Node}
use Rattle.sm_model.specs.Formed.{DifferInNames, HaveForm, StandsAmong}
use Rattle.sm_model.specs.Given.{AreGivenMembers, AreGivenShapes, AreNodes, HasShapeBody, IsGivenShape, IsNodeMap, given_ids, given_names}
use Rattle.sm_model.specs.Graphs.{Entry, GraphMaps, MemberEntry, MemberGiven, NodeMap, ShapeEntry, ShapeGiven, ShapeMap, given_entries}
use Rattle.sm_model.specs.Graphs.{given_members, given_shape, member_entry, member_id, shape_entry, text_cmp}
use Rattle.sm_model.specs.GraphView.{HasKind, HasMembers, IsShapeEntry, maps_of}
use Rattle.sm_model.specs.GraphRows.{ids_of, row_entry}
use Rattle.sm_model.specs.Kinds.{member_form}
use Rattle.sm_model.specs.PreludeShapes.{is_prelude_id, prelude_shapes}
use Rattle.sm_model.specs.References.{IsShapeId}
use Rattle.sm_model.specs.Said.{Said}
use Rattle.sm_model.specs.Used.{shape_part}
use Rattle.sm_model.specs.declared.graph.Graph.{Graph}
use Rattle.sm_model.proofs.GraphFacts.{entries_are}
use Rattle.sm_model.proofs.MapFacts.{Each, each_joined, keys, keys_differ}
use Rattle.sm_merge.specs.Merged.{IsGraphOf, IsOfPrelude, StandsUnder}
use Rattle.sm_merge.specs.Mixins.{names_of}
use Rattle.sm_merge.specs.Stated.{AreFormedFiles, stated_by}
use Rattle.sm_merge.proofs.EntriesFound.{Has, each_has, get_has, has_before, has_behind, has_each, has_get, has_key, has_made}
use Rattle.sm_merge.proofs.EntriesFound.{made_has, map_again}
use Rattle.sm_ids.proofs.MadeIds.{one_name}
use Rattle.sm_ids.proofs.TextCuts.{of_member}
use Rattle.sm_merge.proofs.EntryKeys.{entries_differ}
use Rattle.sm_merge.proofs.GraphSound.{HoldsNamed, IsNamedNode, IsSoundEntry}
use Rattle.sm_merge.proofs.PreludeGiven.{clash, prelude_given}
use Rattle.sm_merge.proofs.RegularGraphs.{IsRegular, IsRegularMember, IsRegularShape, merged_regular}
use Rattle.sm_merge.proofs.RestatedShapes.{named_alike}
use Rattle.sm_merge.proofs.Restating.{prelude_id}
use Rattle.sm_again.proofs.NamesFormed.{AreOf, form_of, merged_names}

-- a shape of a graph, with its members
pub record IsWholeShape (g : GraphMaps) (id : List ℕ) (s : ShapeEntry) : Type 0 where
  pub is : IsShapeId id
  pub names : List (List ℕ)
  pub members : s.members ≡ map (member_id id) names
  pub form : HaveForm (member_form s.kind) names
  pub body : HasShapeBody s.kind s.properties
  pub each : (name : List ℕ) → StandsAmong name names
      → (e : MemberEntry) × (fin.get g.shapes (member_id id name) ≡ Some (member_entry e))

-- the shapes of the prelude have no members
abbrev none_inside : List MemberGiven → Bool
none_inside [] = true
none_inside (m ∷ ms) = false

no_members : (ms : List MemberGiven) → none_inside ms ≡ true → ms ≡ []
no_members [] h = refl
no_members (m ∷ ms) h = absurd (subst (λ c. cond c ⊥ (Unit {0})) h tt)

abbrev pub IsPlainEntry : List ℕ → Entry → Type 0
IsPlainEntry id (shape_entry s) =
    IsShapeId id × (s.members ≡ []) × HaveForm (member_form s.kind) [] × HasShapeBody s.kind s.properties
IsPlainEntry id (member_entry m) = ⊥

plain_shape : (s : ShapeGiven) → IsGivenShape s → none_inside s.members ≡ true → Each IsPlainEntry (given_shape s)
plain_shape s h test =
    let none = no_members s.members test in (
      (
        h.id,
        ap (map (λ (m : MemberGiven). member_id s.id m.name)) none,
        subst (λ ms. HaveForm (member_form s.kind) (given_names ms)) none h.names,
        h.body,
      ),
      subst (λ ms. Each IsPlainEntry (given_members s.id ms)) (sym none) tt,
    )

plain_shapes_are : (ss : List ShapeGiven) → AreGivenShapes ss → list_all (λ (s : ShapeGiven). none_inside s.members) ss ≡ true
    → Each IsPlainEntry (given_entries ss)
plain_shapes_are [] h test = tt
plain_shapes_are (s ∷ ss) h test =
    let parts = and_parts (none_inside s.members) (list_all (λ (t : ShapeGiven). none_inside t.members) ss) test in
    each_joined IsPlainEntry (given_shape s) (given_entries ss) (plain_shape s h.0 parts.0) (plain_shapes_are ss h.1 parts.1)

pub prelude_plain : (id : List ℕ) (e : Entry) → IsOfPrelude id e → IsPlainEntry id e
prelude_plain id e h =
    has_each IsPlainEntry id e (given_entries prelude_shapes) (plain_shapes_are prelude_shapes prelude_given.each refl)
    (made_has (given_entries prelude_shapes) id e h)

-- shapes of a merged graph are whole
module _ (files : List (List Said)) (formed : AreFormedFiles files) (g : GraphMaps) (of : IsGraphOf (stated_by files) g) where
  type_names : (id : List ℕ) (s : ShapeEntry) → StandsUnder (stated_by files) id (shape_entry s) → (r : IsRegularShape g id s)
      → HaveForm (member_form s.kind) r.names
  type_names id s (inl h) r =
      let kind : s.kind ≡ h.s.shape.kind = subst (HasKind h.s.shape.kind) (sym h.is) refl in
      let members : s.members ≡ map (member_id id) (names_of h.m.members) =
      subst (HasMembers (map (member_id id) (names_of h.m.members))) (sym h.is) refl in
      let names : r.names ≡ names_of h.m.members = named_alike id r.names (names_of h.m.members) (sym r.members ∙ members) in
      let are : AreOf (member_form h.s.shape.kind) (names_of h.m.members) = merged_names files formed id (shape_entry s) h in
      form_of (member_form s.kind) r.names
      (subst (λ k. AreOf (member_form k) r.names) (sym kind) (subst (AreOf (member_form h.s.shape.kind)) (sym names) are)) r.differ
  type_names id s (inr (inl h)) r = absurd (subst IsShapeEntry h.is tt)
  type_names id s (inr (inr h)) r = clash (is_prelude_id id) (prelude_id id (shape_entry s) h) r.own

  pub whole_shape : (id : List ℕ) (s : ShapeEntry) → fin.get g.shapes id ≡ Some (shape_entry s) → IsWholeShape g id s
  whole_shape id s found = elim ((merged_regular files formed g of).entries id (shape_entry s) found) [
    | inl h ↦
        let plain = prelude_plain id (shape_entry s) h in record {
          is = plain.0;
          names = [];
          members = plain.1;
          form = plain.2;
          body = plain.3;
          each = λ name never. absurd never;
        }
    | inr r ↦ record {
      is = r.is;
      names = r.names;
      members = r.members;
      form = type_names id s ((of.shapes id (shape_entry s)).0 found) r;
      body = r.body;
      each = λ name among. let held = r.each name among in (held.0, held.1);
    }
  ]

-- names and nodes of maps
pub named_each : (m : NodeMap) → HoldsNamed m → Each (IsNamedNode IsIdText) (fin.entries m)
named_each m h = each_has (IsNamedNode IsIdText) (fin.entries m) (λ t n there. h t n (has_get m t n there))

pub nodes_of : (Named : List ℕ → Type 0) (ps : List (List ℕ × Node)) → Each (IsNamedNode Named) ps → AreNodes ps
nodes_of Named [] h = tt
nodes_of Named (p ∷ ps) h = (h.0.1, nodes_of Named ps h.1)

node_map : (m : NodeMap) → HoldsNamed m → IsNodeMap (fin.entries m)
node_map m h = record { differ = keys_differ m; nodes = nodes_of IsIdText (fin.entries m) (named_each m h) }

-- members as they are given
module _ (g : GraphMaps) (id : List ℕ) where
  abbrev pub LooksUp : List (List ℕ) → Type 0
  LooksUp names = (name : List ℕ) → StandsAmong name names
      → (e : MemberEntry) × (fin.get g.shapes (member_id id name) ≡ Some (member_entry e))

  abbrev given_again : List ℕ → MemberEntry → MemberGiven
  given_again name e = record { name = name; target = e.target; traits = fin.entries e.traits }

  abbrev pub members_of : (names : List (List ℕ)) → LooksUp names → List MemberGiven
  members_of [] look = []
  members_of (k ∷ ks) look = given_again k (look k (inl refl)).0 ∷ members_of ks (λ name later. look name (inr later))

  names_again : (names : List (List ℕ)) (look : LooksUp names) → names ≡ given_names (members_of names look)
  names_again [] look = refl
  names_again (k ∷ ks) look = ap (λ names. k ∷ names) (names_again ks (λ name later. look name (inr later)))

  ids_again : (names : List (List ℕ)) (look : LooksUp names)
      → map (member_id id) names ≡ map (λ (m : MemberGiven). member_id id m.name) (members_of names look)
  ids_again [] look = refl
  ids_again (k ∷ ks) look = ap (λ ids. member_id id k ∷ ids) (ids_again ks (λ name later. look name (inr later)))

  abbrev Stands : List ℕ → Entry → Type 0
  Stands k e = fin.get g.shapes k ≡ Some e

  members_stand : (names : List (List ℕ)) (look : LooksUp names) → Each Stands (given_members id (members_of names look))
  members_stand [] look = tt
  members_stand (k ∷ ks) look =
      let here = look k (inl refl) in (
        here.1 ∙ (λ i. Some (member_entry (record { target = here.0.target; traits = sym (map_again here.0.traits) i }))),
        members_stand ks (λ name later. look name (inr later)),
      )

  member_has : (names : List (List ℕ)) (look : LooksUp names) (name : List ℕ) → StandsAmong name names
      → (e : Entry) × Has (member_id id name) e (given_members id (members_of names look))
  member_has [] look name among = absurd among
  member_has (k ∷ ks) look name (inl same) = (_, inl (ap (member_id id) same, refl))
  member_has (k ∷ ks) look name (inr among) =
      let later = member_has ks (λ n l. look n (inr l)) name among in
      (later.0, inr later.1)

  module _ (is : IsShapeId id) (sound : (k : List ℕ) (e : Entry) → fin.get g.shapes k ≡ Some e → IsSoundEntry k e) where
    is_named : (name : List ℕ) (e : MemberEntry) → IsSoundEntry (member_id id name) (member_entry e) → IsIdentifier name
    is_named name e h =
        let m = h.0 in
        let shape : id ≡ m.shape = sym (of_member id is name) ∙ ap shape_part m.is ∙ of_member m.shape m.of_shape m.name in
        let same : name ≡ m.name = one_name id name m.name (m.is ∙ ap (λ k. member_id k m.name) (sym shape)) in
        subst IsIdentifier (sym same) m.named

    members_given : (names : List (List ℕ)) (look : LooksUp names) → AreGivenMembers (members_of names look)
    members_given [] look = tt
    members_given (k ∷ ks) look =
        let here = look k (inl refl) in
        let held = sound (member_id id k) (member_entry here.0) here.1 in (
          is_named k here.0 held,
          held.1,
          node_map here.0.traits held.2,
          members_given ks (λ name later. look name (inr later)),
        )

-- shapes as they are given
abbrev pub shape_of : (g : GraphMaps) (id : List ℕ) (s : ShapeEntry) → IsWholeShape g id s → ShapeGiven
shape_of g id s w = record {
  id = id;
  kind = s.kind;
  members = members_of g id w.names w.each;
  properties = s.properties;
  traits = fin.entries s.traits;
}

module _ (g : GraphMaps) (whole : (id : List ℕ) (s : ShapeEntry) → fin.get g.shapes id ≡ Some (shape_entry s) → IsWholeShape g id s) where
  abbrev pub IsThere : List ℕ → Entry → Type 0
  IsThere k e = fin.get g.shapes k ≡ Some e

  abbrev pub shape_at : (id : List ℕ) (s : ShapeEntry) → IsThere id (shape_entry s) → ShapeGiven
  shape_at id s found = shape_of g id s (whole id s found)

  abbrev pub put_shape : (id : List ℕ) (e : Entry) → IsThere id e → List ShapeGiven → List ShapeGiven
  put_shape id (shape_entry s) found rest = shape_at id s found ∷ rest
  put_shape id (member_entry m) found rest = rest

  abbrev pub given_of : (es : List (List ℕ × Entry)) → Each IsThere es → List ShapeGiven
  given_of [] h = []
  given_of (e ∷ es) h = put_shape e.0 e.1 h.0 (given_of es h.1)

  -- what holds of all, shape by shape
  module _ (P : List ShapeGiven → Type 0) (none : P [])
      (one : (id : List ℕ) (s : ShapeEntry) (found : IsThere id (shape_entry s)) (rest : List ShapeGiven) → P rest
      → P (shape_at id s found ∷ rest)) where
    one_more : (id : List ℕ) (e : Entry) (found : IsThere id e) (rest : List ShapeGiven) → P rest → P (put_shape id e found rest)
    one_more id (shape_entry s) found rest h = one id s found rest h
    one_more id (member_entry m) found rest h = h

    pub all_given : (es : List (List ℕ × Entry)) (h : Each IsThere es) → P (given_of es h)
    all_given [] h = none
    all_given (e ∷ es) h = one_more e.0 e.1 h.0 (given_of es h.1) (all_given es h.1)

  -- their ids
  one_among : (id : List ℕ) (e : Entry) (found : IsThere id e) (rest : List ShapeGiven) (ks : List (List ℕ)) (k : List ℕ)
      → (StandsAmong k (given_ids rest) → StandsAmong k ks) → StandsAmong k (given_ids (put_shape id e found rest))
      → StandsAmong k (id ∷ ks)
  one_among id (shape_entry s) found rest ks k later (inl same) = inl same
  one_among id (shape_entry s) found rest ks k later (inr among) = inr (later among)
  one_among id (member_entry m) found rest ks k later among = inr (later among)

  ids_among : (es : List (List ℕ × Entry)) (h : Each IsThere es) (k : List ℕ) → StandsAmong k (given_ids (given_of es h))
      → StandsAmong k (keys es)
  ids_among [] h k among = among
  ids_among (e ∷ es) h k among = one_among e.0 e.1 h.0 (given_of es h.1) (keys es) k (ids_among es h.1 k) among

  one_differs : (id : List ℕ) (e : Entry) (found : IsThere id e) (rest : List ShapeGiven) → (StandsAmong id (given_ids rest) → ⊥)
      → DifferInNames (given_ids rest) → DifferInNames (given_ids (put_shape id e found rest))
  one_differs id (shape_entry s) found rest new d = (new, d)
  one_differs id (member_entry m) found rest new d = d

  ids_differ : (es : List (List ℕ × Entry)) (h : Each IsThere es) → DifferInNames (keys es) → DifferInNames (given_ids (given_of es h))
  ids_differ [] h d = tt
  ids_differ (e ∷ es) h d =
      one_differs e.0 e.1 h.0 (given_of es h.1) (λ among. d.0 (ids_among es h.1 e.0 among)) (ids_differ es h.1 d.1)

  -- what they give stands in the graph
  shape_stands : (id : List ℕ) (s : ShapeEntry) (found : IsThere id (shape_entry s)) → Each IsThere (given_shape (shape_at id s found))
  shape_stands id s found =
      let w = whole id s found in
      let ids : s.members ≡ map (λ (m : MemberGiven). member_id id m.name) (members_of g id w.names w.each) =
      w.members ∙ ids_again g id w.names w.each in (
        found ∙ (λ i. Some (shape_entry (record {
          kind = s.kind;
          members = ids i;
          properties = s.properties;
          traits = sym (map_again s.traits) i;
        }))),
        members_stand g id w.names w.each,
      )

  all_stand : (es : List (List ℕ × Entry)) (h : Each IsThere es) → Each IsThere (given_entries (given_of es h))
  all_stand es h = all_given (λ ss. Each IsThere (given_entries ss)) tt (λ id s found rest hs.
      each_joined IsThere (given_shape (shape_at id s found)) (given_entries rest) (shape_stands id s found) hs) es h

  -- and what stands in the graph is given
  record IsInside (id : List ℕ) (ss : List ShapeGiven) : Type 0 where
    s : ShapeEntry
    found : IsThere id (shape_entry s)
    inside : (k : List ℕ) (e : Entry) → Has k e (given_shape (shape_at id s found)) → Has k e (given_entries ss)

  inside_here : (id : List ℕ) (e : Entry) (found : IsThere id e) (rest : List ShapeGiven) → IsShapeEntry e
      → IsInside id (put_shape id e found rest)
  inside_here id (shape_entry s) found rest h = record {
    s = s;
    found = found;
    inside = λ k e has. has_before k e (given_shape (shape_at id s found)) (given_entries rest) has;
  }
  inside_here id (member_entry m) found rest h = absurd h

  inside_later : (id j : List ℕ) (e : Entry) (found : IsThere j e) (rest : List ShapeGiven) → IsInside id rest
      → IsInside id (put_shape j e found rest)
  inside_later id j (shape_entry s) found rest i = record {
    s = i.s;
    found = i.found;
    inside = λ k e has. has_behind k e (given_shape (shape_at j s found)) (given_entries rest) (i.inside k e has);
  }
  inside_later id j (member_entry m) found rest i = i

  inside_of : (es : List (List ℕ × Entry)) (h : Each IsThere es) (id : List ℕ) (e : Entry) → Has id e es → IsShapeEntry e
      → IsInside id (given_of es h)
  inside_of [] h id e there shape = absurd there
  inside_of (x ∷ es) h id e (inl (same, is)) shape =
      subst (λ k. IsInside k (given_of (x ∷ es) h)) (sym same)
      (inside_here x.0 x.1 h.0 (given_of es h.1) (subst IsShapeEntry is shape))
  inside_of (x ∷ es) h id e (inr there) shape =
      inside_later id x.0 x.1 h.0 (given_of es h.1) (inside_of es h.1 id e there shape)

  pub each_there : Each IsThere (fin.entries g.shapes)
  each_there = each_has IsThere (fin.entries g.shapes) (λ k e there. has_get g.shapes k e there)

  abbrev pub shapes_given : List ShapeGiven
  shapes_given = given_of (fin.entries g.shapes) each_there

  abbrev IsGivenIn : List ℕ → Type 0
  IsGivenIn k = (e : Entry) × Has k e (given_entries shapes_given)

  shape_inside : (id : List ℕ) (s : ShapeEntry) → IsThere id (shape_entry s) → IsInside id shapes_given
  shape_inside id s found =
      inside_of (fin.entries g.shapes) each_there id (shape_entry s) (get_has g.shapes id (shape_entry s) found) tt

  shape_there : (id : List ℕ) (s : ShapeEntry) → IsThere id (shape_entry s) → IsGivenIn id
  shape_there id s found = let i = shape_inside id s found in (_, i.inside id _ (inl (refl, refl)))

  member_there : (id : List ℕ) → IsRegularMember g id → IsGivenIn id
  member_there id r =
      let i = shape_inside r.shape r.s r.there in
      let w = whole r.shape i.s i.found in
      let same : shape_entry r.s ≡ shape_entry i.s = same_Some (shape_entry r.s) (shape_entry i.s) (sym r.there ∙ i.found) in
      let ids : r.s.members ≡ i.s.members = subst (HasMembers i.s.members) (sym same) refl in
      let names : r.is.names ≡ w.names = named_alike r.shape r.is.names w.names (sym r.is.members ∙ ids ∙ w.members) in
      let has = member_has g r.shape w.names w.each r.name (subst (StandsAmong r.name) names r.among) in (
        has.0,
        i.inside id has.0 (inr (subst (λ k. Has k has.0 (given_members r.shape (members_of g r.shape w.names w.each))) (sym r.under)
            has.1)),
      )

  module _ (regular : IsRegular g) (sound : (k : List ℕ) (e : Entry) → fin.get g.shapes k ≡ Some e → IsSoundEntry k e) where
    entry_there : (id : List ℕ) (e : Entry) → IsThere id e → IsGivenIn id
    entry_there id (shape_entry s) found = shape_there id s found
    entry_there id (member_entry m) found = elim (regular.entries id (member_entry m) found) [
      | inl of_prelude ↦ absurd (prelude_plain id (member_entry m) of_prelude)
      | inr r ↦ member_there id r
    ]

    pub are_given : AreGivenShapes shapes_given
    are_given = all_given AreGivenShapes tt (λ id s found rest hs.
        let w = whole id s found in (
          record {
            id = w.is;
            names = subst (HaveForm (member_form s.kind)) (names_again g id w.names w.each) w.form;
            members = members_given g id w.is sound w.names w.each;
            body = w.body;
            traits = node_map s.traits (sound id (shape_entry s) found).2;
          },
          hs,
        )) (fin.entries g.shapes) each_there

    pub all_differ : DifferInNames (given_ids shapes_given)
    all_differ = ids_differ (fin.entries g.shapes) each_there (keys_differ g.shapes)

    keys_are : DifferInNames (keys (given_entries shapes_given))
    keys_are = entries_differ shapes_given are_given all_differ

    abbrev made : ShapeMap
    made = fin.from_entries (given_entries shapes_given)

    made_stands : (k : List ℕ) (e : Entry) → fin.get made k ≡ Some e → IsThere k e
    made_stands k e h =
        has_each IsThere k e (given_entries shapes_given) (all_stand (fin.entries g.shapes) each_there)
        (made_has (given_entries shapes_given) k e h)

    same_at : (k : List ℕ) (o : Option Entry) → fin.get g.shapes k ≡ o → fin.get g.shapes k ≡ fin.get made k
    same_at k (Some e) is =
        let there = entry_there k e is in
        let found : fin.get made k ≡ Some there.0 = has_made (given_entries shapes_given) k there.0 keys_are there.1 in
        made_stands k there.0 found ∙ sym found
    same_at k None is = is ∙ sym (none_at (fin.get made k) refl)
      where
        none_at : (o : Option Entry) → fin.get made k ≡ o → fin.get made k ≡ None
        none_at None h = h
        none_at (Some e) h = absurd (none-some e (sym is ∙ made_stands k e h))

    pub shapes_again : Path ShapeMap g.shapes (fin.from_entries (given_entries shapes_given))
    shapes_again =
        same_map nat_list_cmp_total (slice_cmp-IsAntisymmetric nat_cmp-IsAntisymmetric) g.shapes made
        (λ k. same_at k (fin.get g.shapes k) refl)

    -- and as many
    counted : (es : List (List ℕ × Entry)) → DifferInNames (keys es)
        → length es ≡ length (fin.entries (fin.from_entries {R = text_cmp} es))
    counted [] d = sym (sym (len-entries {X = Entry} {R = text_cmp} fin.empty) ∙ len-empty text_cmp Entry)
    counted (e ∷ es) d =
        let m : ShapeMap = fin.from_entries es in
        let none = new_key e es d (fin.get m e.0) refl in
        let put : fin.len (fin.insert m e.0 e.1) ≡ fin.len m + 1 =
        len-insert nat_list_cmp_total m e.0 e.1 ∙ ap (λ o. cond (is_some o) (fin.len m) (fin.len m + 1)) none in
        let rest = counted es d.1 in
        let one = len-entries m in
        let more = len-entries (fin.insert m e.0 e.1) in
        omega (arith, put, rest, one, more)
      where
        new_key : (e : List ℕ × Entry) (es : List (List ℕ × Entry)) → DifferInNames (keys (e ∷ es)) → (o : Option Entry)
            → fin.get (fin.from_entries {R = text_cmp} es) e.0 ≡ o → fin.get (fin.from_entries {R = text_cmp} es) e.0 ≡ None
        new_key e es d None is = is
        new_key e es d (Some x) is = absurd (d.0 (has_key e.0 x es (made_has es e.0 x is)))

    pub as_many : length (given_entries shapes_given) ≡ length (fin.entries g.shapes)
    as_many = counted (given_entries shapes_given) keys_are ∙ sym (ap (λ m. length (fin.entries m)) shapes_again)

-- a graph of the code has few entries
pub few_entries : (graph : Graph) → length (fin.entries (maps_of graph).shapes) < 2 ^ 32
few_entries graph =
    let kept = length-map graph.rows.items (row_entry (ids_of graph.rows.items)) in
    subst (λ es. length es < 2 ^ 32) (sym (entries_are graph)) (omega (arith, kept, graph.few))
