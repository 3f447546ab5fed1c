-- A namespace that gets another name, and then its own again, leaves the graph as it was.
use Rattle.std.proofs.Common.{◌≡◌, inl, inr, ℕ, Bool, true, false, cond, List, [], ◌∷◌, Some}
use Rattle.std.proofs.Common.{refl, sym, ap, subst, ◌∙◌}
use Rattle.std.specs.Prelude.{◌↔◌, if◌then◌else◌, nat_eq}
use Rattle.std.specs.Cmp.{tied_itself as tied_order}
use Rattle.std.specs.Cmp.Lexicographic.{nat_list_cmp_total, pointwise}
use Rattle.std.specs.FinMap as fin
use Rattle.std.specs.FinMap.{get-entries, get-from_entries}
use Rattle.std.specs.FinMap.Entries.{find}
use Rattle.std.specs.List.{Contains, filter_map}
use Rattle.std.specs.Option.{unwrap_or}
use Rattle.std.specs.Ordering.{is_eq}
use Rattle.std.proofs.lemmas.Bool.{cases_Bool}
use Rattle.std.proofs.lemmas.Option.{none-some, same_Some}
use Rattle.std.proofs.lemmas.Slice.Eq.{bytes_eq-Decides}
use Rattle.sm_ids.specs.Identifier.{IsNamespace}
use Rattle.sm_ids.specs.IdText.{IsIdText}
use Rattle.sm_ids.specs.TextParts.{absolute_id, local_part, namespace_part}
use Rattle.sm_tree.specs.Node.{Node, Nodes, Members, text, list, object, no_nodes, node, no_members, member}
use Rattle.sm_tree.specs.Same.{HasName, HasPair}
use Rattle.sm_model.specs.Formed.{StandsAmong}
use Rattle.sm_model.specs.FormedGraph.{IsFormedGraph}
use Rattle.sm_model.specs.Given.{AreIdNodes, AreNamedIds, AreNodeFields, AreRenamed, IsIdNode, NodeHasForm}
use Rattle.sm_model.specs.Graphs.{Entry, GraphMaps, NodeMap, ShapeEntry, member_entry, shape_entry, traits_in}
use Rattle.sm_model.specs.Properties.{TypeFields, form_named, property_forms}
use Rattle.sm_model.specs.Relations.{HasBodyPair, HasEntry, IsEntryText, IsInGraph, IsValueText, Refers, RelationFields}
use Rattle.sm_model.specs.Relations.{field_relations, relation_under}
use Rattle.sm_model.specs.declared.kind.Kind.{Kind}
use Rattle.sm_model.specs.declared.kind.Kind.TheVariants.{Blob, Boolean, Text as text_kind, Enum, Byte, Short, Integer, IntEnum, Long}
use Rattle.sm_model.specs.declared.kind.Kind.TheVariants.{Float, Double}
use Rattle.sm_model.specs.declared.kind.Kind.TheVariants.{BigInteger, BigDecimal, Timestamp, Document, List as list_kind, Map, Structure}
use Rattle.sm_model.specs.declared.kind.Kind.TheVariants.{Union}
use Rattle.sm_model.specs.declared.kind.Kind.TheVariants.{Service, Operation, Resource}
use Rattle.sm_model.specs.declared.property.PropertyForm.{PropertyForm}
use Rattle.sm_model.specs.declared.property.PropertyForm.TheVariants.{Reference, References, NamedReferences, Text, Rename}
use Rattle.sm_model.specs.declared.relation.Relation.{Relation}
use Rattle.sm_model.specs.declared.relation.Relation.TheVariants.{Error, Identifier, Input, Member, Output, Property, Target}
use Rattle.sm_model.specs.declared.relation.Relation.TheVariants.{Operation as operation_of, Resource as resource_of}
use Rattle.sm_model.proofs.LinkedEntries.{cons_here}
use Rattle.sm_model.proofs.MapFacts.{Each, found_among, keys}
use Rattle.sm_transform.specs.Changed.{Changed, rename}
use Rattle.sm_transform.specs.IdChanges.{IdChange, body_after, entries_after, entry_after, field_after, fields_after, is_needed, keys_after}
use Rattle.sm_transform.specs.IdChanges.{list_left, object_left}
use Rattle.sm_transform.specs.IdChanges.{put_pair, trait_after}
use Rattle.sm_transform.specs.IdChanges.{traits_after, value_after, values_after}
use Rattle.sm_transform.specs.Included.{CarriesTrait}
use Rattle.sm_transform.specs.Laws.{NamesItself, RenamedBack}
use Rattle.sm_transform.specs.Namespaces.{is_of_namespace}
use Rattle.sm_transform.specs.Renamed.{HasTraitIds, IsKnownIn, key_known, renamed_id}
use Rattle.sm_transform.specs.Renamed.{renames, shape_known, trait_known}
use Rattle.sm_transform.proofs.FormedHomes.{whole_at}
use Rattle.sm_transform.proofs.FoundEntries.{each_there, get_stands, made_each, same_told}
use Rattle.sm_transform.proofs.IdNamespaces.{id_parts, local_of, namespace_of}
use Rattle.sm_transform.proofs.RenamedIds.{graph_id, moved_or_not, renamed_apart, renamed_else, renamed_here}
use Rattle.sm_transform.proofs.StepsNeeded.{behind_head}

-- traits whose ids are moved, and stay apart
module _ (move : List ℕ → List ℕ) (m : NodeMap)
    (inside : (a b : List ℕ) (x y : Node) → fin.get m a ≡ Some x → fin.get m b ≡ Some y → move a ≡ move b → a ≡ b) where
  abbrev moves : IdChange
  moves id = Some (move id)

  abbrev Comes : List ℕ → Node → Type 0
  Comes t v = (a : List ℕ) × (fin.get m a ≡ Some v) × (move a ≡ t)

  each_moved : (es : List (List ℕ × Node)) → Each (λ k x. fin.get m k ≡ Some x) es → Each Comes (filter_map (trait_after moves) es)
  each_moved [] h = tt
  each_moved (e ∷ es) h = ((e.0, h.0, refl), each_moved es h.1)

  moved_key : (es : List (List ℕ × Node)) (a : List ℕ) → StandsAmong a (keys es)
      → StandsAmong (move a) (keys (filter_map (trait_after moves) es))
  moved_key [] a h = h
  moved_key (e ∷ es) a (inl same) = inl (ap move same)
  moved_key (e ∷ es) a (inr h) = inr (moved_key es a h)

  all_come : Each Comes (filter_map (trait_after moves) (fin.entries m))
  all_come =
      each_moved (fin.entries m) (each_there m)

  traits_told : (t : List ℕ) (v : Node) → (fin.get (traits_after moves m) t ≡ Some v) ↔ Comes t v
  traits_told t v = (
    λ h. made_each Comes (filter_map (trait_after moves) (fin.entries m)) all_come t v h,
    λ h.
        let es = filter_map (trait_after moves) (fin.entries m) in
        let among = subst (λ k. StandsAmong k (keys es)) h.2 (moved_key (fin.entries m) h.0 (get_stands m h.0 v h.1)) in
        let r = found_among Comes t es all_come among in
        let c = r.2 in
        let one : c.0 ≡ h.0 = inside c.0 h.0 r.0 v c.1 h.1 (c.2 ∙ sym h.2) in
        let value : r.0 ≡ v = same_Some r.0 v (sym c.1 ∙ ap (fin.get m) one ∙ h.1) in
        get-from_entries nat_list_cmp_total es t ∙ r.1 ∙ ap (λ (x : Node). Some x) value,
  )

-- which fields say a relation
abbrev SaysIds : PropertyForm → Type 0
SaysIds Reference = Unit {0}
SaysIds References = Unit {0}
SaysIds NamedReferences = Unit {0}
SaysIds Text = ⊥
SaysIds Rename = ⊥

abbrev HasRelation : RelationFields → List ℕ → Type 0
HasRelation rs k = (r : Relation) × (relation_under k rs ≡ Some r)

abbrev AreCovered : RelationFields → TypeFields → Type 0
AreCovered rs [] = Unit {0}
AreCovered rs (f ∷ fs) = (SaysIds f.1 → HasRelation rs f.0) × AreCovered rs fs

related_field : (rs : RelationFields) (fs : TypeFields) → AreCovered rs fs → (k : List ℕ) (form : PropertyForm)
    → form_named k fs ≡ Some form
    → SaysIds form → HasRelation rs k
related_field rs [] all k form named says = absurd (none-some form named)
related_field rs (f ∷ fs) all k form named says = elim (cases_Bool (pointwise nat_eq k f.0)) [
  | inl same ↦
      let is : f.1 ≡ form = same_Some f.1 form (sym (ap (λ b. if b then Some f.1 else form_named k fs) same) ∙ named) in
      subst (HasRelation rs) (sym ((bytes_eq-Decides k f.0).0 same)) (all.0 (subst SaysIds (sym is) says))
  | inr other ↦
      related_field rs fs all.1 k form (sym (ap (λ b. if b then Some f.1 else form_named k fs) other) ∙ named) says
]

also : {A B : Type 0} → A → B → A × B
also a b = (a, b)

covered : (kind : Kind) → AreCovered (field_relations kind) (property_forms kind)
covered Operation = ((λ h. (Input, refl)), ((λ h. (Output, refl)), ((λ h. (Error, refl)), tt)))
covered Service =
    ((λ h. absurd h), ((λ h. (operation_of, refl)), ((λ h. (resource_of, refl)), ((λ h. (Error, refl)), ((λ h. absurd h), tt)))))
covered Resource =
    also (λ h. (Identifier, refl)) (also (λ h. (Property, refl)) (also (λ h. (operation_of, refl)) (also (λ h. (operation_of, refl))
    (also (λ h. (operation_of, refl)) (also (λ h. (operation_of, refl)) (also (λ h. (operation_of, refl)) (also (λ h. (operation_of, refl))
    (also (λ h. (operation_of, refl)) (also (λ h. (operation_of, refl)) (also (λ h. (resource_of, refl)) tt))))))))))
covered list_kind = tt
covered Map = tt
covered Structure = tt
covered Union = tt
covered Enum = tt
covered IntEnum = tt
covered Blob = tt
covered Boolean = tt
covered text_kind = tt
covered Byte = tt
covered Short = tt
covered Integer = tt
covered Long = tt
covered Float = tt
covered Double = tt
covered BigInteger = tt
covered BigDecimal = tt
covered Timestamp = tt
covered Document = tt

-- what has entries is left
list_there : (a : Nodes) (n : Node) (ns : Nodes) → list_left a (node n ns) ≡ Some (list (node n ns))
list_there no_nodes n ns = refl
list_there (node x a) n ns = refl

object_there : (a : Members) (k : List ℕ) (n : Node) (ms : Members) → object_left a (member k n ms) ≡ Some (object (member k n ms))
object_there no_members k n ms = refl
object_there (member j x a) k n ms = refl

field_is : (change : IdChange) (needed : Bool) (form : PropertyForm) (n m : Node) → value_after change form n ≡ Some m
    → field_after change needed (Some form) n ≡ Some m
field_is change true form n m is = ap (λ o. Some (unwrap_or o n)) is
field_is change false form n m is = is

module _ (from to : List ℕ) (is_from : IsNamespace from) (is_to : IsNamespace to) where
  abbrev on : List ℕ → List ℕ
  on = renamed_id from to

  abbrev back : List ℕ → List ℕ
  back = renamed_id to from

  abbrev on_all : IdChange
  on_all = renames from to

  abbrev back_all : IdChange
  back_all = renames to from

  -- an id that isn't of the other namespace comes back
  abbrev IsFresh : List ℕ → Type 0
  IsFresh id = IsIdText id × (namespace_part id ≡ to → ⊥)

  comes_back : (id : List ℕ) → IsFresh id → back (on id) ≡ id
  comes_back id h = elim (moved_or_not from to is_to id) [
    | inl m ↦
        ap back m.now ∙ renamed_here to from is_from (absolute_id to (local_part id)) (namespace_of to (local_part id) is_to)
        ∙ ap (absolute_id from) (local_of to (local_part id) is_to) ∙ ap (λ n. absolute_id n (local_part id)) (sym m.of)
        ∙ sym (id_parts id h.0).whole
    | inr same ↦ ap back same ∙ renamed_else to from is_from id (not_other id h.1)
  ]
    where
      not_other : (id : List ℕ) → (namespace_part id ≡ to → ⊥) → is_of_namespace to id ≡ false
      not_other id none = elim (cases_Bool (is_of_namespace to id)) [
        | inl same ↦ absurd (none ((bytes_eq-Decides (namespace_part id) to).0 same))
        | inr other ↦ other
      ]

  ids_back : (ids : List (List ℕ)) → ((id : List ℕ) → Contains ids id → IsFresh id) → filter_map back_all (filter_map on_all ids) ≡ ids
  ids_back [] h = refl
  ids_back (id ∷ ids) h =
      let first = comes_back id (h id (cons_here id ids)) in
      let rest = ids_back ids (λ j among. h j (behind_head id ids j among)) in
      λ i. first i ∷ rest i

  -- traits
  traits_back : (m : NodeMap) → ((t : List ℕ) (n : Node) → fin.get m t ≡ Some n → IsFresh t)
      → Path NodeMap (traits_after back_all (traits_after on_all m)) m
  traits_back m fresh =
      let inside : (a b : List ℕ) (x y : Node) → fin.get m a ≡ Some x → fin.get m b ≡ Some y → on a ≡ on b → a ≡ b =
      λ a b x y h k same.
      renamed_apart from to is_to a b (fresh a x h).0 (fresh b y k).0 (fresh a x h).1 (fresh b y k).1 same in
      let once = traits_told on m inside in
      let moved : NodeMap = traits_after on_all m in
      let again : (a b : List ℕ) (x y : Node) → fin.get moved a ≡ Some x → fin.get moved b ≡ Some y → back a ≡ back b → a ≡ b =
      λ a b x y h k same.
      let p = (once a x).0 h in
      let q = (once b y).0 k in
      let one : p.0 ≡ q.0 =
      sym (comes_back p.0 (fresh p.0 x p.1)) ∙ ap back p.2 ∙ same ∙ ap back (sym q.2) ∙ comes_back q.0 (fresh q.0 y q.1) in
      sym p.2 ∙ ap on one ∙ q.2 in
      let twice = traits_told back moved again in
      same_told (traits_after back_all moved) m (λ t v. (
        λ h.
            let p = (twice t v).0 h in
            let q = (once p.0 v).0 p.1 in
            let same : q.0 ≡ t = sym (comes_back q.0 (fresh q.0 v q.1)) ∙ ap back q.2 ∙ p.2 in
            ap (fin.get m) (sym same) ∙ q.1,
        λ h. (twice t v).1 (on t, (once (on t) v).1 (t, h, refl), comes_back t (fresh t v h)),
      ))

  -- references in a list, under names, and keys
  entries_back : (ns : Nodes) → AreIdNodes ns → ((t : List ℕ) → IsEntryText t ns → namespace_part t ≡ to → ⊥)
      → entries_after back_all (entries_after on_all ns) ≡ ns
  entries_back no_nodes h fresh = refl
  entries_back (node n ns) ((t, same, id), more) fresh =
      let rest = entries_back ns more (λ u among. fresh u (inr among)) in
      let first = comes_back t (id, fresh t (inl same)) in
      subst (λ x. entries_after back_all (entries_after on_all (node x ns)) ≡ node x ns) (sym same) (λ i. node (text (first i)) (rest i))

  values_back : (ms : Members) → AreNamedIds ms → ((t : List ℕ) → IsValueText t ms → namespace_part t ≡ to → ⊥)
      → values_after back_all (values_after on_all ms) ≡ ms
  values_back no_members h fresh = refl
  values_back (member k n ms) ((t, same, id), more) fresh =
      let rest = values_back ms more (λ u among. fresh u (inr among)) in
      let first = comes_back t (id, fresh t (inl same)) in
      subst (λ x. values_after back_all (values_after on_all (member k x ms)) ≡ member k x ms) (sym same)
      (λ i. member k (text (first i)) (rest i))

  keys_back : (ms : Members) → AreRenamed ms → ((k : List ℕ) → HasName k ms → namespace_part k ≡ to → ⊥)
      → keys_after back_all (keys_after on_all ms) ≡ ms
  keys_back no_members h fresh = refl
  keys_back (member k n ms) h fresh =
      let rest = keys_back ms h.2 (λ j among. fresh j (inr among)) in
      let first = comes_back k (h.0, fresh k (inl refl)) in
      λ i. member (first i) n (rest i)

  -- a field, by its form
  abbrev IsBack : PropertyForm → Node → Type 0
  IsBack form n = (m : Node) × (value_after on_all form n ≡ Some m) × (value_after back_all form m ≡ Some n)

  abbrev NoneThere : PropertyForm → Node → Type 0
  NoneThere form n =
      (SaysIds form → (t : List ℕ) → Refers t n → namespace_part t ≡ to → ⊥)
      × (form ≡ Rename → (rs : Members) → n ≡ object rs → (k : List ℕ) → HasName k rs → namespace_part k ≡ to → ⊥)

  list_back : (ns : Nodes) → AreIdNodes ns → ((t : List ℕ) → IsEntryText t ns → namespace_part t ≡ to → ⊥) → IsBack References (list ns)
  list_back no_nodes h fresh = (list no_nodes, refl, refl)
  list_back (node n ns) h fresh =
      let again = entries_back (node n ns) h fresh in
      let moved = entries_after on_all (node n ns) in (
        list moved,
        some_list ns h.0,
        ap (list_left moved) again ∙ list_there moved n ns,
      )
    where
      some_list : (more : Nodes) → IsIdNode n → list_left (node n more) (entries_after on_all (node n more)) ≡ Some (list
          (entries_after on_all (node n more)))
      some_list more (t, same, id) =
          subst (λ x. list_left (node x more) (entries_after on_all (node x more)) ≡ Some (list (entries_after on_all (node x more))))
          (sym same)
          refl

  named_back : (ms : Members) → AreNamedIds ms → ((t : List ℕ) → IsValueText t ms → namespace_part t ≡ to → ⊥)
      → IsBack NamedReferences (object ms)
  named_back no_members h fresh = (object no_members, refl, refl)
  named_back (member k n ms) h fresh =
      let again = values_back (member k n ms) h fresh in
      let moved = values_after on_all (member k n ms) in (
        object moved,
        some_object ms h.0,
        ap (object_left moved) again ∙ object_there moved k n ms,
      )
    where
      some_object : (more : Members) → IsIdNode n
          → object_left (member k n more) (values_after on_all (member k n more)) ≡ Some (object (values_after on_all (member k n more)))
      some_object more (t, same, id) =
          subst (λ x. object_left (member k x more) (values_after on_all (member k x more))
          ≡ Some (object (values_after on_all (member k x more)))) (sym same)
          refl

  renames_back : (ms : Members) → AreRenamed ms → ((k : List ℕ) → HasName k ms → namespace_part k ≡ to → ⊥) → IsBack Rename (object ms)
  renames_back no_members h fresh = (object no_members, refl, refl)
  renames_back (member k n ms) h fresh =
      let again = keys_back (member k n ms) h fresh in
      let moved = keys_after on_all (member k n ms) in
      (object moved, refl, ap (object_left moved) again ∙ object_there moved k n ms)

  value_back : (form : PropertyForm) (n : Node) → NodeHasForm form n → NoneThere form n → IsBack form n
  value_back Reference n (t, same, id) none =
      let first = comes_back t (id, none.0 tt t (subst (Refers t) (sym same) refl)) in
      subst (IsBack Reference) (sym same) (text (on t), refl, ap (λ u. Some (text u)) first)
  value_back References n (ns, same, all) none =
      subst (IsBack References) (sym same) (list_back ns all (λ t among. none.0 tt t (subst (Refers t) (sym same) among)))
  value_back NamedReferences n (ms, same, all) none =
      subst (IsBack NamedReferences) (sym same) (named_back ms all (λ t among. none.0 tt t (subst (Refers t) (sym same) among)))
  value_back Text n h none = (n, refl, refl)
  value_back Rename n (ms, same, all) none = subst (IsBack Rename) (sym same) (renames_back ms all (none.1 refl ms same))

  -- fields and bodies
  module _ (kind : Kind) where
    abbrev fs : TypeFields
    fs = property_forms kind

    one_back : (k : List ℕ) (n : Node) (ms : Members) (form : PropertyForm) → form_named k fs ≡ Some form → IsBack form n
        → fields_after back_all kind (fields_after on_all kind ms) ≡ ms
        → fields_after back_all kind (fields_after on_all kind (member k n ms)) ≡ member k n ms
    one_back k n ms form named (m, there, again) rest =
        let b = is_needed kind k in
        let left : field_after on_all b (form_named k fs) n ≡ Some m =
        ap (λ o. field_after on_all b o n) named ∙ field_is on_all b form n m there in
        let right : field_after back_all b (form_named k fs) m ≡ Some n =
        ap (λ o. field_after back_all b o m) named ∙ field_is back_all b form m n again in
        ap (λ o. fields_after back_all kind (put_pair k o (fields_after on_all kind ms))) left
        ∙ ap (λ o. put_pair k o (fields_after back_all kind (fields_after on_all kind ms))) right ∙ ap (member k n) rest

    fields_back : (ms : Members) → AreNodeFields fs ms
        → ((k : List ℕ) (n : Node) → HasPair k n ms → (form : PropertyForm) → form_named k fs ≡ Some form → NoneThere form n)
        → fields_after back_all kind (fields_after on_all kind ms) ≡ ms
    fields_back no_members h none = refl
    fields_back (member k n ms) h none =
        let f = h.0 in
        one_back k n ms f.0 f.1 (value_back f.0 n f.2 (none k n (inl (refl, refl)) f.0 f.1))
        (fields_back ms h.1 (λ j x pair. none j x (inr pair)))

  module _ (g : GraphMaps) (f : IsFormedGraph g) (names : NamesItself g) (traits : HasTraitIds g) (fresh : IsKnownIn g to → ⊥) where
    in_fresh : (id : List ℕ) → IsInGraph g id → IsFresh id
    in_fresh id has = (graph_id g f id has.0 has.1, λ n. fresh (shape_known id has n))

    traits_fresh : (id : List ℕ) (e : Entry) → HasEntry g id e → (t : List ℕ) (n : Node) → fin.get (traits_in e) t ≡ Some n → IsFresh t
    traits_fresh id e there t n found =
        let c : CarriesTrait g id t = record { entry = e; there = there; value = n; found = found } in
        (traits id t c, λ same. fresh (trait_known id t c same))

    body_back : (id : List ℕ) (s : ShapeEntry) → HasEntry g id (shape_entry s)
        → body_after back_all s.kind (body_after on_all s.kind s.properties) ≡ s.properties
    body_back id s there =
        let w = whole_at g f id s there in
        let ms = w.body.pairs in
        let none : (k : List ℕ) (n : Node) → HasPair k n ms → (form : PropertyForm) → form_named k (property_forms s.kind) ≡ Some form
        → NoneThere form n =
        λ k n pair form named. (
          λ says t refers same.
              let r = related_field (field_relations s.kind) (property_forms s.kind) (covered s.kind) k form named says in
              fresh (shape_known t (names r.0 id t (shape_entry s) there
              (inr (k, n, subst (HasBodyPair k n) (sym w.body.is_object) pair, r.1, refers))) same),
          λ is rs object_is a among same.
              fresh (key_known a (record {
                id = id;
                s = s;
                there = there;
                renames = record {
                  field = k;
                  pairs = rs;
                  body = subst (HasBodyPair k (object rs)) (sym w.body.is_object) (subst (λ x. HasPair k x ms) object_is pair);
                  form = named ∙ ap (λ y. Some y) is;
                  among = among;
                };
              }) same),
        ) in
        subst (λ x. body_after back_all s.kind (body_after on_all s.kind x) ≡ x) (sym w.body.is_object)
        (ap object (fields_back s.kind ms w.body.fields none))

    entry_back : (id : List ℕ) (e : Entry) → HasEntry g id e → Path Entry (entry_after back_all (entry_after on_all e)) e
    entry_back id (shape_entry s) there =
        let members = ids_back s.members (λ j among. in_fresh j (names Member id j (shape_entry s) there (inl (refl, among)))) in
        let body = body_back id s there in
        let held = traits_back s.traits (traits_fresh id (shape_entry s) there) in
        λ i. shape_entry (record { kind = s.kind; members = members i; properties = body i; traits = held i })
    entry_back id (member_entry m) there =
        let target = comes_back m.target (in_fresh m.target (names Target id m.target (member_entry m) there (refl, refl))) in
        let held = traits_back m.traits (traits_fresh id (member_entry m) there) in
        λ i. member_entry (record { target = target i; traits = held i })

    graph_back : (h k : GraphMaps) → Changed g (rename from to) h → Changed h (rename to from) k → Path GraphMaps k g
    graph_back h k there again =
        let shapes = same_told k.shapes g.shapes (λ id e. (
          λ x.
              let c = (again.shapes id e).0 x in
              let d = (there.shapes c.0 c.1).0 c.2 in
              let same : d.0 ≡ id = sym (comes_back d.0 (in_fresh d.0 (d.1, d.2))) ∙ ap back (sym d.4) ∙ sym c.4 in
              let entry : Path Entry d.1 e = sym (c.5 ∙ ap (entry_after back_all) d.5 ∙ entry_back d.0 d.1 d.2) in
              subst (λ i. HasEntry g i e) same (subst (HasEntry g d.0) entry d.2),
          λ x. (again.shapes id e).1 (
            on id,
            entry_after on_all e,
            (there.shapes (on id) (entry_after on_all e)).1 (id, e, x, tt, refl, refl),
            tt,
            sym (comes_back id (in_fresh id (e, x))),
            sym (entry_back id e x),
          ),
        )) in
        let metadata = again.metadata ∙ there.metadata in
        λ i. record { shapes = shapes i; metadata = metadata i }

pub renamed_back : RenamedBack
renamed_back g h k from to formed names traits is_from is_to allowed there again =
    graph_back from to is_from is_to g formed names traits (λ known. allowed (inr (inr known))) h k there again
