-- What becomes of entries where ids become others or are gone: traits stand under ids, an enum's value stays, nothing grows, and what the
-- prelude has stays as it is.
use Rattle.std.proofs.Common.{◌≡◌, ◌≤◌, ◌+◌, inl, inr, ℕ, Bool, true, false, cond, not, List, [], ◌∷◌, map, length, Option, Some}
use Rattle.std.proofs.Common.{None, refl}
use Rattle.std.proofs.Common.{sym, ap, subst, ◌∙◌, arith}
use Rattle.std.specs.Prelude.{◌&&◌, is_some, if◌then◌else◌}
use Rattle.std.specs.FinMap as fin
use Rattle.std.specs.FinMap.{get-from_entries, get-insert}
use Rattle.std.specs.Cmp.Lexicographic.{nat_list_cmp_total}
use Rattle.std.specs.List.{cons_option, filter_map, list_all}
use Rattle.std.specs.Option.{option_map, unwrap_or}
use Rattle.std.proofs.lemmas.Bool.{and_parts, cases_Bool, true≢false}
use Rattle.std.proofs.lemmas.Option.{same_Some}
use Rattle.std.proofs.lemmas.Slice.Eq.{bytes_eq-Decides}
use Rattle.sm_ids.specs.IdText.{IsIdText}
use Rattle.sm_tree.specs.Node.{Node, null, bool, int, number, text, bytes, tag, opaque, list, object, no_members, member}
use Rattle.sm_tree.specs.Size.{node_size}
use Rattle.sm_model.specs.Formed.{StandsAmong}
use Rattle.sm_model.specs.Graphs.{Entry, MemberEntry, MemberGiven, NodeMap, ShapeGiven, given_entries, given_members, given_shape}
use Rattle.sm_model.specs.Graphs.{member_entry, member_id, shape_entry, text_cmp}
use Rattle.sm_model.specs.PreludeShapes.{no_node_pairs, prelude_shapes}
use Rattle.sm_model.specs.declared.kind.Kind.{Kind}
use Rattle.sm_model.proofs.MapFacts.{Each, each_joined, found_among, keys, keys_differ}
use Rattle.sm_groups.proofs.GroupsMade.{tests}
use Rattle.sm_merge.specs.Limits.{traits_size}
use Rattle.sm_merge.specs.Merged.{IsOfPrelude, enum_value, is_enum, with_enum_value}
use Rattle.sm_merge.proofs.EntriesFound.{Has, each_has, get_has, has_each, has_get, has_key, made_has, map_again}
use Rattle.sm_merge.proofs.GraphSound.{HoldsNamed}
use Rattle.sm_merge.proofs.PreludeGiven.{AreOfPrelude, shapes_are}
use Rattle.sm_transform.specs.IdChanges.{IdChange, body_after, entry_after, id_after, trait_after, traits_after}
use Rattle.sm_transform.specs.Namespaces.{is_of_api}
use Rattle.sm_changed_again.proofs.Faithful.{IsMemberKept, IsNoLarger}
use Rattle.sm_changed_again.proofs.FewerSums.{no_more}

each_any : {X : Type 0} (es : List (List ℕ × X)) → Each (λ k x. Unit {0}) es
each_any [] = tt
each_any (e ∷ es) = (tt, each_any es)

some_is : {X : Type 0} (o : Option X) → is_some o ≡ true → (x : X) × (o ≡ Some x)
some_is None h = absurd (true≢false (sym h))
some_is (Some x) h = (x, refl)

and_false : (b : Bool) → (b && false) ≡ false
and_false true = refl
and_false false = refl

not_false : (b : Bool) → not b ≡ false → b ≡ true
not_false true h = refl
not_false false h = sym h

module _ (change : IdChange) where
  -- traits that are left are those that were there
  left_has : (k : List ℕ) (n : Node) (ps : List (List ℕ × Node)) → Has k n (filter_map (trait_after change) ps)
      → (j : List ℕ) × Has j n ps × (change j ≡ Some k)
  left_has k n [] h = absurd h
  left_has k n (p ∷ ps) h = by (change p.0) refl (left_has k n ps) h
    where
      by : (o : Option (List ℕ)) → change p.0 ≡ o
          → (Has k n (filter_map (trait_after change) ps) → (j : List ℕ) × Has j n ps × (change j ≡ Some k))
          → Has k n (cons_option (option_map (λ id. (id, p.1)) o) (filter_map (trait_after change) ps))
          → (j : List ℕ) × Has j n (p ∷ ps) × (change j ≡ Some k)
      by None is rest h = let r = rest h in (r.0, inr r.1, r.2)
      by (Some u) is rest (inl same) = (p.0, inl (refl, same.1), is ∙ ap (λ x. Some x) (sym same.0))
      by (Some u) is rest (inr later) = let r = rest later in (r.0, inr r.1, r.2)

  left_stands : (j k : List ℕ) → change j ≡ Some k → (ps : List (List ℕ × Node)) → StandsAmong j (keys ps)
      → StandsAmong k (keys (filter_map (trait_after change) ps))
  left_stands j k is [] among = absurd among
  left_stands j k is (p ∷ ps) (inl same) =
      subst (λ o. StandsAmong k (keys (cons_option (option_map (λ id. (id, p.1)) o) (filter_map (trait_after change) ps))))
      (sym (ap change (sym same) ∙ is)) (inl refl)
  left_stands j k is (p ∷ ps) (inr later) = behind (change p.0) (left_stands j k is ps later)
    where
      behind : (o : Option (List ℕ)) → StandsAmong k (keys (filter_map (trait_after change) ps))
          → StandsAmong k (keys (cons_option (option_map (λ id. (id, p.1)) o) (filter_map (trait_after change) ps)))
      behind None h = h
      behind (Some u) h = inr h

  left_get : (m : NodeMap) (t : List ℕ) (n : Node) → fin.get (traits_after change m) t ≡ Some n
      → (j : List ℕ) × (fin.get m j ≡ Some n) × (change j ≡ Some t)
  left_get m t n found =
      let r = left_has t n (fin.entries m) (made_has (filter_map (trait_after change) (fin.entries m)) t n found) in
      (r.0, has_get m r.0 n r.1, r.2)

  still_there : (m : NodeMap) (t : List ℕ) (n : Node) → change t ≡ Some t → fin.get m t ≡ Some n
      → is_some (fin.get (traits_after change m) t) ≡ true
  still_there m t n is found =
      let ps = filter_map (trait_after change) (fin.entries m) in
      let among = left_stands t t is (fin.entries m) (has_key t n (fin.entries m) (get_has m t n found)) in
      let r = found_among (λ k x. Unit {0}) t ps (each_any ps) among in
      ap is_some (get-from_entries nat_list_cmp_total ps t ∙ r.1)

  pub traits_hold : ((id new : List ℕ) → IsIdText id → change id ≡ Some new → IsIdText new) → (m : NodeMap) → HoldsNamed m
      → HoldsNamed (traits_after change m)
  traits_hold ids m h t n found =
      let r = left_get m t n found in
      let held = h r.0 n r.1 in (ids r.0 t held.0 r.2, held.1)

  -- and no larger
  pub traits_no_larger : (m : NodeMap) → traits_size (traits_after change m) ≤ traits_size m
  traits_no_larger m =
      no_more node_size (λ k j. change j ≡ Some k) (λ k l j a b. same_Some k l (sym a ∙ b)) (fin.entries (traits_after change m))
      (fin.entries m) (keys_differ (traits_after change m)) (λ k n has.
      let r = left_get m k n (has_get (traits_after change m) k n has) in
      record { key = r.0; value = n; among = get_has m r.0 n r.1; comes = r.2; large = omega arith })

  few_put : {X : Type 0} (o : Option X) (xs : List X) (n : ℕ) → length xs ≤ n → length (cons_option o xs) ≤ n + 1
  few_put None xs n h = omega (arith, h)
  few_put (Some x) xs n h = omega (arith, h)

  few_left : (ids : List (List ℕ)) → length (filter_map change ids) ≤ length ids
  few_left [] = omega arith
  few_left (id ∷ ids) =
      let rest = few_left ids in
      let put = few_put (change id) (filter_map change ids) (length ids) rest in
      omega (arith, put)

  pub no_larger : (e : Entry) → IsNoLarger (entry_after change e) e
  no_larger (shape_entry s) = record { shapes = omega arith; members = few_left s.members; traits = traits_no_larger s.traits }
  no_larger (member_entry m) = record { shapes = omega arith; members = omega arith; traits = traits_no_larger m.traits }

  -- members
  abbrev lacks : Kind → MemberEntry → Bool
  lacks kind m = is_enum kind && not (is_some (fin.get m.traits enum_value))

  abbrev valued_if : List ℕ → MemberEntry → Bool → MemberEntry
  valued_if name m b = if b then record { target = m.target; traits = fin.insert m.traits enum_value (text name) } else m

  lacks_none : (kind : Kind) (name : List ℕ) (m : MemberEntry) → Path MemberEntry (with_enum_value kind name m) m → lacks kind m ≡ false
  lacks_none kind name m same = elim (cases_Bool (lacks kind m)) [
    | inl lacking ↦
        let now : MemberEntry = valued_if name m true in
        let step : Path MemberEntry now m = ap (valued_if name m) (sym lacking) ∙ same in
        let tied = tests enum_value enum_value ∙ (bytes_eq-Decides enum_value enum_value).1 refl in
        let found : fin.get now.traits enum_value ≡ Some (text name) =
        get-insert nat_list_cmp_total m.traits enum_value (text name) enum_value
        ∙ ap (λ b. cond b (Some (text name)) (fin.get m.traits enum_value)) tied in
        let there : fin.get m.traits enum_value ≡ Some (text name) =
        ap (λ (x : MemberEntry). fin.get x.traits enum_value) (sym step) ∙ found in
        ap (λ o. is_enum kind && not (is_some o)) there ∙ and_false (is_enum kind)
    | inr full ↦ full
  ]

  abbrev member_now : MemberEntry → MemberEntry
  member_now m = record { target = id_after change m.target; traits = traits_after change m.traits }

  still_valued : change enum_value ≡ Some enum_value → (kind : Kind) (name : List ℕ) (m : MemberEntry)
      → Path MemberEntry (with_enum_value kind name m) m → Path MemberEntry (with_enum_value kind name (member_now m)) (member_now m)
  still_valued kept kind name m same = ap (valued_if name (member_now m)) (by (is_enum kind) refl)
    where
      by : (b : Bool) → is_enum kind ≡ b → lacks kind (member_now m) ≡ false
      by false is = ap (λ c. c && not (is_some (fin.get (traits_after change m.traits) enum_value))) is
      by true is =
          let none : not (is_some (fin.get m.traits enum_value)) ≡ false =
          sym (ap (λ c. c && not (is_some (fin.get m.traits enum_value))) is) ∙ lacks_none kind name m same in
          let o = some_is (fin.get m.traits enum_value) (not_false (is_some (fin.get m.traits enum_value)) none) in
          let there = still_there m.traits enum_value o.0 kept o.1 in
          ap (λ c. is_enum kind && not c) there ∙ and_false (is_enum kind)

  target_left : ((id new : List ℕ) → IsIdText id → change id ≡ Some new → IsIdText new) → (t : List ℕ) (o : Option (List ℕ))
      → change t ≡ o → IsIdText t → IsIdText (unwrap_or o t)
  target_left ids t None is h = h
  target_left ids t (Some u) is h = ids t u h is

  pub member_kept : ((id new : List ℕ) → IsIdText id → change id ≡ Some new → IsIdText new) → change enum_value ≡ Some enum_value
      → (m : MemberEntry) → IsMemberKept (entry_after change) m
  member_kept ids kept m = record {
    now = member_now m;
    is = refl;
    target = target_left ids m.target (change m.target) refl;
    traits = traits_hold ids m.traits;
    valued = λ kind name same. still_valued kept kind name m same;
  }

  -- what the prelude has, whose ids stay
  abbrev IsStill : List ℕ → Entry → Type 0
  IsStill id e = Path Entry (entry_after change e) e

  module _ (api : (id : List ℕ) → is_of_api id ≡ true → change id ≡ Some id) where
    same_traits : (ps : List (List ℕ × Node)) → Each (λ k n. is_of_api k ≡ true) ps → filter_map (trait_after change) ps ≡ ps
    same_traits [] h = refl
    same_traits (p ∷ ps) h =
        ap (λ o. cons_option (option_map (λ id. (id, p.1)) o) (filter_map (trait_after change) ps)) (api p.0 h.0)
        ∙ ap (λ qs. p ∷ qs) (same_traits ps h.1)

    tested : (ps : List (List ℕ × Node)) → list_all (λ (p : List ℕ × Node). is_of_api p.0) ps ≡ true → Each (λ k n. is_of_api k ≡ true) ps
    tested [] h = tt
    tested (p ∷ ps) h =
        let parts = and_parts (is_of_api p.0) (list_all (λ (q : List ℕ × Node). is_of_api q.0) ps) h in (parts.0, tested ps parts.1)

    map_still : (ps : List (List ℕ × Node)) → Each (λ k n. is_of_api k ≡ true) ps
        → Path NodeMap (traits_after change (fin.from_entries ps)) (fin.from_entries ps)
    map_still ps h =
        let m : NodeMap = fin.from_entries ps in
        let each = each_has (λ k n. is_of_api k ≡ true) (fin.entries m)
        (λ k n has. has_each (λ j x. is_of_api j ≡ true) k n ps h (made_has ps k n (has_get m k n has))) in
        ap (λ (qs : List (List ℕ × Node)). fin.from_entries {R = text_cmp} qs) (same_traits (fin.entries m) each) ∙ map_again m

    abbrev is_bare : Node → Bool
    is_bare (object no_members) = true
    is_bare (object (member k n ms)) = false
    is_bare (list ns) = false
    is_bare null = false
    is_bare (bool b) = false
    is_bare (int z) = false
    is_bare (number t) = false
    is_bare (text t) = false
    is_bare (bytes t) = false
    is_bare (tag k n) = false
    is_bare (opaque b) = false

    bare_is : (n : Node) → is_bare n ≡ true → no_node_pairs ≡ n
    bare_is (object no_members) h = refl
    bare_is (object (member k n ms)) h = absurd (true≢false (sym h))
    bare_is (list ns) h = absurd (true≢false (sym h))
    bare_is null h = absurd (true≢false (sym h))
    bare_is (bool b) h = absurd (true≢false (sym h))
    bare_is (int z) h = absurd (true≢false (sym h))
    bare_is (number t) h = absurd (true≢false (sym h))
    bare_is (text t) h = absurd (true≢false (sym h))
    bare_is (bytes t) h = absurd (true≢false (sym h))
    bare_is (tag k n) h = absurd (true≢false (sym h))
    bare_is (opaque b) h = absurd (true≢false (sym h))

    none_moved : (id : List ℕ) (ms : List MemberGiven) → [] ≡ ms
        → filter_map change (map (λ (m : MemberGiven). member_id id m.name) ms) ≡ map (λ (m : MemberGiven). member_id id m.name) ms
    none_moved id ms none =
        subst (λ xs. filter_map change (map (λ (m : MemberGiven). member_id id m.name) xs)
        ≡ map (λ (m : MemberGiven). member_id id m.name) xs) none refl

    still_shape : (s : ShapeGiven) → s.members ≡ [] → no_node_pairs ≡ s.properties → Each (λ k n. is_of_api k ≡ true) s.traits
        → Each IsStill (given_shape s)
    still_shape s none bare traits =
        let members = none_moved s.id s.members (sym none) in
        let body : body_after change s.kind s.properties ≡ s.properties = subst (λ n. body_after change s.kind n ≡ n) bare refl in
        let held = map_still s.traits traits in (
          (λ i. shape_entry (record { kind = s.kind; members = members i; properties = body i; traits = held i })),
          subst (λ ms. Each IsStill (given_members s.id ms)) (sym none) tt,
        )

    abbrev is_plain : ShapeGiven → Bool
    is_plain s = is_bare s.properties && list_all (λ (p : List ℕ × Node). is_of_api p.0) s.traits

    all_still : (ss : List ShapeGiven) → AreOfPrelude ss → list_all is_plain ss ≡ true → Each IsStill (given_entries ss)
    all_still [] are test = tt
    all_still (s ∷ ss) are test =
        let parts = and_parts (is_plain s) (list_all is_plain ss) test in
        let two = and_parts (is_bare s.properties) (list_all (λ (p : List ℕ × Node). is_of_api p.0) s.traits) parts.0 in
        each_joined IsStill (given_shape s) (given_entries ss)
        (still_shape s are.0.bare (bare_is s.properties two.0) (tested s.traits two.1))
        (all_still ss are.1 parts.1)

    pub prelude_still : (id : List ℕ) (e : Entry) → IsOfPrelude id e → Path Entry (entry_after change e) e
    prelude_still id e is =
        has_each IsStill id e (given_entries prelude_shapes) (all_still prelude_shapes shapes_are refl)
        (made_has (given_entries prelude_shapes) id e is)
