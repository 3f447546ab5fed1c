-- Shapes that are made from tables have the entries of the shapes with their mixins, and are what a graph may be made of.
use Rattle.std.proofs.Common.{◌≡◌, inl, inr, ℕ, Bool, true, false, List, [], ◌∷◌, ◌++◌, map, Option, Some, None, refl, sym, ap, subst, ◌∙◌}
use Rattle.std.specs.Prelude.{◌&&◌, not, is_some, if◌then◌else◌}
use Rattle.std.specs.Global.{Vec}
use Rattle.std.specs.FinMap as fin
use Rattle.std.specs.FinMap.{from_entries_push, get-from_entries, slice_cmp-IsAntisymmetric, nat_cmp-IsAntisymmetric}
use Rattle.std.specs.Cmp.Lexicographic.{nat_list_cmp_total}
use Rattle.std.proofs.lemmas.Bool.{and_parts, true≢false}
use Rattle.std.proofs.lemmas.List.{map-append}
use Rattle.std.proofs.lemmas.Option.{none-some}
use Rattle.sm_ids.specs.Identifier.{IsIdentifier}
use Rattle.sm_ids.specs.IdText.{IsIdText}
use Rattle.sm_tree.specs.Node.{Node, text}
use Rattle.sm_model.specs.Formed.{StandsAmong, DifferInNames, HaveForm}
use Rattle.sm_model.specs.Given.{AreGivenMembers, AreGivenShapes, AreNodes, IsGivenShape, IsNodeMap, are_under, given_names}
use Rattle.sm_model.specs.Graphs.{Entry, MemberEntry, given_entries, given_member, given_members, given_shape, member_entry, member_id}
use Rattle.sm_model.specs.Graphs.{shape_entry, text_cmp}
use Rattle.sm_model.specs.Kinds.{member_form}
use Rattle.sm_model.specs.declared.kind.Kind.{Kind}
use Rattle.sm_model.proofs.MapFacts.{keys}
use Rattle.sm_model.proofs.Rises.{differ_from_rise}
use Rattle.sm_merge.specs.Merged.{enum_value, is_enum, with_enum_value}
use Rattle.sm_merge.specs.steps.EffectiveTables.{AreRunning, AreSoundTraits, AreTraitRows, effective_member, effective_view, trait_names}
use Rattle.sm_merge.specs.steps.EffectiveTables.{trait_pairs, traits_of_member}
use Rattle.sm_merge.specs.steps.Firsts.{NamesAndTargets, targets_view}
use Rattle.sm_merge.specs.steps.Made.{AreAllSound, effective_views, lacks_value, made_member, made_members, made_shape, made_shapes, valued}
use Rattle.sm_merge.specs.steps.Placed.{Bare, bare_view}
use Rattle.sm_merge.specs.steps.Whole.{whole_member, whole_shape, whole_shapes}
use Rattle.sm_merge.specs.declared.effective.MemberTraits.{MemberTraits}
use Rattle.sm_merge.specs.declared.effective.NamedFolded.{NamedFolded}
use Rattle.sm_merge.specs.declared.effective.ShapeTraits.{ShapeTraits}
use Rattle.sm_merge.specs.declared.firsts.NamedTarget.{NamedTarget}
use Rattle.sm_merge.specs.declared.parts.BareShape.{BareShape}
use Rattle.sm_merge.proofs.EntriesFound.{has_found, key_has, map_again}
use Rattle.sm_merge.proofs.NamesOnce.{differ_joined}
use Rattle.sm_merge.proofs.WholeGiven.{name_node, target_kept}
use Rattle.sm_merge.proofs.WholeGraph.{member_same}

is_none : {X : Type 0} (o : Option X) → not (is_some o) ≡ true → o ≡ None
is_none None h = refl
is_none (Some x) h = absurd (true≢false (sym h))

-- a member with its value is the map with its value
module _ (kind : Kind) (name target : List ℕ) (ps : List (List ℕ × Node)) where
  abbrev plain : MemberEntry
  plain = record { target = target; traits = fin.from_entries ps }

  abbrev with_value : MemberEntry
  with_value = record { target = target; traits = fin.insert (fin.from_entries ps) enum_value (text name) }

  pushed : lacks_value kind ps ≡ true
      → Path MemberEntry (record { target = target; traits = fin.from_entries (ps ++ (enum_value, text name) ∷ []) }) with_value
  pushed lacks =
      let none = is_none (fin.find text_cmp enum_value ps)
      (and_parts (is_enum kind) (not (is_some (fin.find text_cmp enum_value ps))) lacks).1 in
      let push =
      from_entries_push nat_list_cmp_total (slice_cmp-IsAntisymmetric nat_cmp-IsAntisymmetric) ps enum_value (text name) none in
      λ i. record { target = target; traits = push i }

  by_test : (b : Bool) → lacks_value kind ps ≡ b
      → Path MemberEntry (record { target = target; traits = fin.from_entries (if b then ps ++ (enum_value, text name) ∷ [] else ps) })
      (if b then with_value else plain)
  by_test true lacks = pushed lacks
  by_test false has = refl

  same_test : lacks_value kind ps ≡ (is_enum kind && not (is_some (fin.get plain.traits enum_value)))
  same_test = ap (λ o. is_enum kind && not (is_some o)) (sym (get-from_entries nat_list_cmp_total ps enum_value))

  pub valued_map : Path MemberEntry (record { target = target; traits = fin.from_entries (valued kind name ps) })
      (with_enum_value kind name plain)
  valued_map = by_test (lacks_value kind ps) refl ∙ ap (λ b. if b then with_value else plain) same_test

-- the entries of one shape
module _ (kind : Kind) (ts : List MemberTraits) where
  member_made : (shape : List ℕ) (p : List ℕ × List ℕ)
      → Path (List ℕ × Entry) (given_member shape (made_member kind ts p)) (given_member shape (whole_member kind (effective_member ts p)))
  member_made shape p =
      let ps = trait_pairs (traits_of_member p.0 ts) in
      let same = ap (λ e. member_entry e) (valued_map kind p.0 p.1 ps)
      ∙ sym (member_same (with_enum_value kind p.0 (record { target = p.1; traits = fin.from_entries ps }))) in
      λ i. (member_id shape p.0, same i)

  members_made : (shape : List ℕ) (ps : NamesAndTargets)
      → Path (List (List ℕ × Entry)) (given_members shape (made_members kind ts ps))
      (given_members shape (map (whole_member kind) (map (effective_member ts) ps)))
  members_made shape [] = refl
  members_made shape (p ∷ ps) = λ i. member_made shape p i ∷ members_made shape ps i

  ids_made : (shape : List ℕ) (ps : NamesAndTargets)
      → map (λ m. member_id shape m.name) (made_members kind ts ps)
      ≡ map (λ m. member_id shape m.name) (map (whole_member kind) (map (effective_member ts) ps))
  ids_made shape [] = refl
  ids_made shape (p ∷ ps) = ap (λ ids. member_id shape p.0 ∷ ids) (ids_made shape ps)

  names_made : (ps : NamesAndTargets)
      → given_names (map (whole_member kind) (map (effective_member ts) ps)) ≡ given_names (made_members kind ts ps)
  names_made [] = refl
  names_made (p ∷ ps) = ap (λ names. p.0 ∷ names) (names_made ps)

shape_made : (b : Bare) (ms : List NamedTarget) (t : ShapeTraits)
    → Path (List (List ℕ × Entry)) (given_shape (made_shape b ms t)) (given_shape (whole_shape b (effective_view ms t)))
shape_made b ms t =
    let ids = ids_made b.kind t.members.items b.id (targets_view ms) in
    let own = sym (map_again (fin.from_entries (trait_pairs t.own.items))) in
    let members = members_made b.kind t.members.items b.id (targets_view ms) in
    λ i. (b.id, shape_entry (record { kind = b.kind; members = ids i; properties = b.properties; traits = own i })) ∷ members i

pub shapes_made : (rows : List BareShape) (mss : List (Vec NamedTarget)) (ts : List ShapeTraits)
    → given_entries (made_shapes rows mss ts) ≡ given_entries (whole_shapes rows (effective_views mss ts))
shapes_made [] mss ts = refl
shapes_made (r ∷ rows) [] ts = refl
shapes_made (r ∷ rows) (ms ∷ mss) [] = refl
shapes_made (r ∷ rows) (ms ∷ mss) (t ∷ ts) =
    λ i. shape_made (bare_view r) ms.items t i ++ shapes_made rows mss ts i

-- rows of traits
running_nodes : (ts : List NamedFolded) → AreRunning ts → AreNodes (trait_pairs ts)
running_nodes [] h = tt
running_nodes (t ∷ ts) h = (h.0.is_node, running_nodes ts h.1)

rows_given : (ts : List NamedFolded) → AreTraitRows ts → IsNodeMap (trait_pairs ts)
rows_given ts h = record { differ = differ_from_rise (trait_names ts) h.rise; nodes = running_nodes ts h.running }

nodes_joined : (ps qs : List (List ℕ × Node)) → AreNodes ps → AreNodes qs → AreNodes (ps ++ qs)
nodes_joined [] qs h k = k
nodes_joined (p ∷ ps) qs h k = (h.0, nodes_joined ps qs h.1 k)

not_among : (k : List ℕ) (ps : List (List ℕ × Node)) → DifferInNames (keys ps) → fin.find text_cmp k ps ≡ None → StandsAmong k (keys ps) → ⊥
not_among k ps differ none among =
    let there = key_has k ps among in none-some there.0 (sym none ∙ has_found k there.0 ps differ there.1)

valued_given : (kind : Kind) (name : List ℕ) (ps : List (List ℕ × Node)) → IsIdentifier name → IsNodeMap ps
    → IsNodeMap (valued kind name ps)
valued_given kind name ps named h = by_lack (lacks_value kind ps) refl
  where
    by_lack : (b : Bool) → lacks_value kind ps ≡ b → IsNodeMap (if b then ps ++ (enum_value, text name) ∷ [] else ps)
    by_lack false has = h
    by_lack true lacks =
        let none = is_none (fin.find text_cmp enum_value ps)
        (and_parts (is_enum kind) (not (is_some (fin.find text_cmp enum_value ps))) lacks).1 in
        record {
          differ =
              subst DifferInNames (sym (map-append (λ (p : List ℕ × Node). p.0) ps ((enum_value, text name) ∷ [])))
              (differ_joined (are_under ps) (enum_value ∷ []) h.differ ((λ never. never), tt) (λ k before behind. elim behind [
                | inl same ↦ not_among enum_value ps h.differ none (subst (λ j. StandsAmong j (keys ps)) same before)
                | inr never ↦ never
              ]));
          nodes = nodes_joined ps ((enum_value, text name) ∷ []) h.nodes (name_node name named, tt);
        }

members_given : (kind : Kind) (t : ShapeTraits) (ps : NamesAndTargets) → AreSoundTraits t
    → AreGivenMembers (map (whole_member kind) (map (effective_member t.members.items) ps))
    → AreGivenMembers (made_members kind t.members.items ps)
members_given kind t [] sound h = tt
members_given kind t (p ∷ ps) sound h =
    let rows = traits_of_member p.0 t.members.items in (
      h.0,
      subst IsIdText (target_kept kind p.0 (record { target = p.1; traits = fin.from_entries (trait_pairs rows) })) h.1,
      valued_given kind p.0 (trait_pairs rows) h.0 (rows_given rows (sound.members p.0)),
      members_given kind t ps sound h.3,
    )

shape_given : (b : Bare) (ms : List NamedTarget) (t : ShapeTraits) → AreSoundTraits t → IsGivenShape (whole_shape b (effective_view ms t))
    → IsGivenShape (made_shape b ms t)
shape_given b ms t sound h = record {
  id = h.id;
  names = subst (HaveForm (member_form b.kind)) (names_made b.kind t.members.items (targets_view ms)) h.names;
  members = members_given b.kind t (targets_view ms) sound h.members;
  body = h.body;
  traits = rows_given t.own.items sound.own;
}

pub made_given : (rows : List BareShape) (mss : List (Vec NamedTarget)) (ts : List ShapeTraits) → AreAllSound ts
    → AreGivenShapes (whole_shapes rows (effective_views mss ts)) → AreGivenShapes (made_shapes rows mss ts)
made_given [] mss ts sound h = tt
made_given (r ∷ rows) [] ts sound h = tt
made_given (r ∷ rows) (ms ∷ mss) [] sound h = tt
made_given (r ∷ rows) (ms ∷ mss) (t ∷ ts) sound h =
    (shape_given (bare_view r) ms.items t sound.0 h.0, made_given rows mss ts sound.1 h.1)
