-- It can't be that a shape comes to nothing with its mixins: so what holds of each graph of statements, and can be decided, holds.
use Rattle.std.proofs.Common.{◌≡◌, ◌⊎◌, inl, inr, ℕ, zero, suc, ◌<◌, ◌≤◌, Bool, true, false, cond, List, [], ◌∷◌, ◌++◌, map, length}
use Rattle.std.proofs.Common.{Option, Some, None, refl, sym, ap, subst, ◌∙◌, arith, bytes_eq}
use Rattle.std.specs.Prelude.{◌↔◌, if◌then◌else◌}
use Rattle.std.specs.List.{Contains, cons_option, flat_map}
use Rattle.std.specs.Global.{Vec}
use Rattle.std.specs.Option.{option_map, option_or}
use Rattle.std.specs.FinMap as fin
use Rattle.std.specs.FinMap.{get-empty, get-insert}
use Rattle.std.specs.Cmp.Lexicographic.{nat_list_cmp_total}
use Rattle.std.specs.Ordering.{eq_by_cmp}
use Rattle.std.proofs.lemmas.List.{length-map}
use Rattle.std.proofs.lemmas.Option.{none-some, same_Some}
use Rattle.std.proofs.lemmas.Slice.Eq.{bytes_eq-Decides}
use Rattle.sm_tree.specs.Node.{Node}
use Rattle.sm_model.specs.Formed.{StandsAmong}
use Rattle.sm_model.specs.Graphs.{MemberEntry, NodeMap, member_id, text_cmp}
use Rattle.sm_model.proofs.MapFacts.{found_among, keys}
use Rattle.sm_merge.specs.Mixins.{AreCopied, AreEffectiveMembers, Contributes, EffectiveMembers, EffectiveShape, IsEffective}
use Rattle.sm_merge.specs.Mixins.{IsEffectiveMember, IsEffectiveValue, IsMadeFrom, MixesIn, all_members, copy_of, each_once, effective}
use Rattle.sm_merge.specs.Mixins.{last_there}
use Rattle.sm_merge.specs.Mixins.{member_value, member_values, mixed_in, names_of, no_mixins, passed_over, shape_values}
use Rattle.sm_merge.specs.Places.{mixins_of, shape_under, trait_values, traits_at, values_under}
use Rattle.sm_merge.specs.Stated.{ShapeStated, Stated}
use Rattle.sm_merge.specs.Values.{IsValueOf}
use Rattle.sm_merge.specs.declared.firsts.NamedTarget.{NamedTarget}
use Rattle.sm_merge.specs.declared.parts.BareShape.{BareShape}
use Rattle.sm_merge.specs.declared.walk.Walk.{Walk}
use Rattle.sm_merge.specs.steps.EffectiveTables.{AreMembersOf, HasMembers}
use Rattle.sm_merge.specs.steps.Firsts.{target_view, targets_view}
use Rattle.sm_merge.specs.steps.Links.{At}
use Rattle.sm_merge.specs.steps.Numbered.{IsMixinWalk}
use Rattle.sm_merge.specs.steps.Placed.{Bare, bare_of}
use Rattle.sm_merge.specs.steps.ShapeTables.{AreShapesOf, ids_of, shapes_view}
use Rattle.sm_merge.specs.steps.Whole.{AreEffective}
use Rattle.sm_merge.proofs.Ats.{at_mapped, at_one, at_there, at_within, sides}
use Rattle.sm_merge.proofs.EntriesFound.{each_has, get_has, has_key}
use Rattle.sm_groups.proofs.GroupsMade.{tests}
use Rattle.sm_merge.proofs.NamesOnce.{once_among, stands_before, stands_behind}
use Rattle.sm_merge.proofs.OneValue.{one_value}
use Rattle.sm_merge.proofs.ShapeNumbers.{listed_found, shape_ids}
use Rattle.sm_merge.proofs.WholeCounts.{HaveLengths}

-- it can't be that there is none
abbrev pub Must : Type 0 → Type 0
Must X = (X → ⊥) → ⊥

pub must : {X : Type 0} → X → Must X
must x none = none x

pub thence : {X Y : Type 0} → Must X → (X → Must Y) → Must Y
thence h f none = h (λ x. f x none)

pub either_way : (X : Type 0) → Must (X ⊎ (X → ⊥))
either_way X none = none (inr (λ x. none (inl x)))

-- a map that is told by these words
module _ {V : Type 0} where
  abbrev pub Tells : (List ℕ → V → Type 0) → fin.FinMap text_cmp V → Type 0
  Tells P m = (k : List ℕ) (n : V) → (fin.get m k ≡ Some n) ↔ P k n

  abbrev pub Told : (List ℕ → V → Type 0) → Type 0
  Told P = (m : fin.FinMap text_cmp V) × Tells P m

module _ {V : Type 0} (P : List ℕ → V → Type 0) (one : (k : List ℕ) (n m : V) → P k n → P k m → n ≡ m) where
  abbrev Within : List (List ℕ) → List ℕ → V → Type 0
  Within names k n = P k n × StandsAmong k names

  no_names : Told (Within [])
  no_names = (
    fin.empty,
    λ k n. (
      λ found. absurd (none-some n (sym (get-empty text_cmp k) ∙ found)),
      λ h. absurd h.1,
    ),
  )

  tied : (k j : List ℕ) → eq_by_cmp text_cmp k j ≡ true → k ≡ j
  tied k j h = sym ((bytes_eq-Decides j k).0 (sym (tests k j) ∙ h))

  same_tied : (k j : List ℕ) → k ≡ j → eq_by_cmp text_cmp k j ≡ true
  same_tied k j h = tests k j ∙ (bytes_eq-Decides j k).1 (sym h)

  with_name : (name : List ℕ) (v : V) (names : List (List ℕ)) → P name v → Told (Within names) → Told (Within (name ∷ names))
  with_name name v names is (m, tells) = (
    fin.insert m name v,
    λ k n. (
      λ found. forth k n (eq_by_cmp text_cmp k name) refl (sym (get-insert nat_list_cmp_total m name v k) ∙ found),
      λ h. get-insert nat_list_cmp_total m name v k ∙ back k n h (eq_by_cmp text_cmp k name) refl,
    ),
  )
    where
      forth : (k : List ℕ) (n : V) (b : Bool) → eq_by_cmp text_cmp k name ≡ b → cond b (Some v) (fin.get m k) ≡ Some n
          → Within (name ∷ names) k n
      forth k n true same found =
          let key : k ≡ name = tied k name same in
          (subst (λ j. P j n) (sym key) (subst (P name) (same_Some v n found) is), inl key)
      forth k n false apart found = let rest = (tells k n).0 found in (rest.0, inr rest.1)

      back : (k : List ℕ) (n : V) → Within (name ∷ names) k n → (b : Bool) → eq_by_cmp text_cmp k name ≡ b
          → cond b (Some v) (fin.get m k) ≡ Some n
      back k n h true same = ap (λ x. Some x) (one name v n is (subst (λ j. P j n) (tied k name same) h.0))
      back k n (holds, inl key) false apart = absurd (subst (λ b. cond b (Unit {0}) ⊥) (sym (same_tied k name key) ∙ apart) tt)
      back k n (holds, inr later) false apart = (tells k n).1 (holds, later)

  without_name : (name : List ℕ) (names : List (List ℕ)) → ((n : V) × P name n → ⊥) → Told (Within names) → Told (Within (name ∷ names))
  without_name name names none (m, tells) = (
    m,
    λ k n. (
      λ found. let rest = (tells k n).0 found in (rest.0, inr rest.1),
      λ h. by_place k n h,
    ),
  )
    where
      by_place : (k : List ℕ) (n : V) → Within (name ∷ names) k n → fin.get m k ≡ Some n
      by_place k n (holds, inl key) = absurd (none (n, subst (λ j. P j n) key holds))
      by_place k n (holds, inr later) = (tells k n).1 (holds, later)

  some_within : (names : List (List ℕ)) → Must (Told (Within names))
  some_within [] = must no_names
  some_within (name ∷ names) =
      thence (some_within names) (λ rest. thence (either_way ((n : V) × P name n)) (λ known. elim known [
        | inl some ↦ must (with_name name some.0 names some.1 rest)
        | inr none ↦ must (without_name name names none rest)
      ]))

  pub some_map : (names : List (List ℕ)) → ((k : List ℕ) (n : V) → P k n → StandsAmong k names) → Must (Told P)
  some_map names covers =
      thence (some_within names) (λ told. must (
        told.0,
        λ k n. (
          λ found. ((told.1 k n).0 found).0,
          λ h. (told.1 k n).1 (h, covers k n h),
        ),
      ))

-- values of traits have names
pub filled_named : (Q : List Node → Type 0) → (Q [] → ⊥) → (name : List ℕ) (ps : List (List ℕ × Node)) → Q (values_under name ps)
    → StandsAmong name (keys ps)
filled_named Q empty name [] h = absurd (empty h)
filled_named Q empty name (p ∷ ps) h = by_test (λ rest. filled_named Q empty name ps rest) (bytes_eq p.0 name) refl h
  where
    by_test : (Q (values_under name ps) → StandsAmong name (keys ps)) → (b : Bool) → bytes_eq p.0 name ≡ b
        → Q (cons_option (if b then Some p.1 else None) (values_under name ps)) → StandsAmong name (keys (p ∷ ps))
    by_test later true same filled = inl (sym ((bytes_eq-Decides p.0 name).0 same))
    by_test later false apart filled = inr (later filled)

pub values_named : (name : List ℕ) (ps : List (List ℕ × Node)) (n : Node) → IsValueOf (values_under name ps) n → StandsAmong name (keys ps)
values_named name ps n h = filled_named (λ vs. IsValueOf vs n) (λ never. never) name ps h

-- values that copies have, from a list of maps, one a copy
abbrev map_values : List NodeMap → List ℕ → List (Option Node)
map_values ms t = map (λ m. fin.get m t) ms

abbrev map_names : List NodeMap → List (List ℕ)
map_names ms = flat_map (λ m. keys (fin.entries m)) ms

last_named : (ms : List NodeMap) (t : List ℕ) (n : Node) → last_there (map_values ms t) ≡ Some n → StandsAmong t (map_names ms)
last_named [] t n h = absurd (none-some n h)
last_named (m ∷ ms) t n h = by_rest (λ rest. last_named ms t n rest) (last_there (map_values ms t)) refl h
  where
    by_rest : (last_there (map_values ms t) ≡ Some n → StandsAmong t (map_names ms)) → (o : Option Node)
        → last_there (map_values ms t) ≡ o → option_or o (fin.get m t) ≡ Some n → StandsAmong t (keys (fin.entries m) ++ map_names ms)
    by_rest later None is found = stands_before t (keys (fin.entries m)) (map_names ms) (has_key t n (fin.entries m) (get_has m t n found))
    by_rest later (Some x) is found = stands_behind t (keys (fin.entries m)) (map_names ms) (later (is ∙ found))

module _ (ss : List Stated) (place : List ℕ) (ms : List NodeMap) where
  abbrev IsValue : List ℕ → Node → Type 0
  IsValue t n = IsEffectiveValue ss place (map_values ms t) t n

  one : (t : List ℕ) (n m : Node) → IsValue t n → IsValue t m → n ≡ m
  one t n m (inl a) (inl b) = one_value (trait_values ss place t) n m a b
  one t n m (inl a) (inr (none, b)) = absurd (subst (λ vs. IsValueOf vs n) none a)
  one t n m (inr (none, a)) (inl b) = absurd (subst (λ vs. IsValueOf vs m) none b)
  one t n m (inr (none, a)) (inr (also, b)) = same_Some n m (sym a ∙ b)

  abbrev names : List (List ℕ)
  names = keys (flat_map (traits_at place) ss) ++ map_names ms

  covers : (t : List ℕ) (n : Node) → IsValue t n → StandsAmong t names
  covers t n (inl given) =
      stands_before t (keys (flat_map (traits_at place) ss)) (map_names ms) (values_named t (flat_map (traits_at place) ss) n given)
  covers t n (inr (none, last)) = stands_behind t (keys (flat_map (traits_at place) ss)) (map_names ms) (last_named ms t n last)

  some_values : Must (Told IsValue)
  some_values = some_map IsValue one names covers

-- what copies have: of the shape, and of the member of a name
abbrev shape_maps : List EffectiveShape → List NodeMap
shape_maps copied = map (λ m. m.traits) copied

abbrev entry_traits : Option MemberEntry → NodeMap
entry_traits None = fin.empty
entry_traits (Some e) = e.traits

abbrev member_maps : List ℕ → List EffectiveShape → List NodeMap
member_maps name copied = map (λ m. entry_traits (fin.find text_cmp name m.members)) copied

shape_same : (copied : List EffectiveShape) (t : List ℕ) → map_values (shape_maps copied) t ≡ shape_values copied t
shape_same [] t = refl
shape_same (m ∷ copied) t = ap (λ os. fin.get m.traits t ∷ os) (shape_same copied t)

entry_value : (o : Option MemberEntry) (t : List ℕ) → fin.get (entry_traits o) t ≡ member_value t o
entry_value None t = get-empty text_cmp t
entry_value (Some e) t = refl

member_same : (name : List ℕ) (copied : List EffectiveShape) (t : List ℕ)
    → map_values (member_maps name copied) t ≡ member_values copied name t
member_same name [] t = refl
member_same name (m ∷ copied) t =
    λ i. entry_value (fin.find text_cmp name m.members) t i ∷ member_same name copied t i

module _ (ss : List Stated) (id : List ℕ) (copied : List EffectiveShape) where
  some_member : (all : EffectiveMembers) (name : List ℕ) → StandsAmong name (names_of all)
      → Must ((e : MemberEntry) × IsEffectiveMember ss id copied all name e)
  some_member all name among =
      let first = found_among (λ k x. Unit {0}) name all (each_has (λ k x. Unit {0}) all (λ k x there. tt)) among in
      thence (some_values ss (member_id id name) (member_maps name copied)) (λ told. must (
        record { target = first.0.target; traits = told.0 },
        record {
          first = first.0;
          found = first.1;
          target = refl;
          traits = λ t n.
              subst (λ os. (fin.get told.0 t ≡ Some n) ↔ IsEffectiveValue ss (member_id id name) os t n) (member_same name copied t)
              (told.1 t n);
        },
      ))

  abbrev SomeMembers : EffectiveMembers → List (List ℕ) → Type 0
  SomeMembers all names = (ms : EffectiveMembers) × (names_of ms ≡ names) × AreEffectiveMembers ss id copied all ms

  some_members : (all : EffectiveMembers) (names : List (List ℕ)) → ((k : List ℕ) → StandsAmong k names → StandsAmong k (names_of all))
      → Must (SomeMembers all names)
  some_members all [] within = must ([], refl, tt)
  some_members all (name ∷ names) within =
      thence (some_members all names (λ k s. within k (inr s))) (λ rest.
      thence (some_member all name (within name (inl refl))) (λ one. must (
        (name, one.0) ∷ rest.0,
        ap (λ ks. name ∷ ks) rest.1,
        (one.1, rest.2),
      )))

  some_made : (s : ShapeStated) → Must ((m : EffectiveShape) × IsMadeFrom ss id s copied m)
  some_made s =
      let all = all_members copied s.shape.members in
      thence (some_members all (each_once (names_of all)) (once_among (names_of all))) (λ ms.
      thence (some_values ss id (shape_maps copied)) (λ told. must (
        record { members = ms.0; traits = told.0 },
        record {
          names = ms.1;
          members = ms.2;
          traits = λ t n.
              subst (λ os. (fin.get told.0 t ≡ Some n) ↔ IsEffectiveValue ss id os t n) (shape_same copied t) (told.1 t n);
        },
      )))

-- a shape, if its mixins that contribute come to something
abbrev pub Comes : List Stated → List ℕ → Type 0
Comes ss id = (m : EffectiveShape) × IsEffective ss id m

module _ (ss : List Stated) (s : ShapeStated)
    (have : (mixin : List ℕ) → Contains s.mixins mixin → Contributes ss s mixin → Must (Comes ss mixin)) where
  abbrev SomeCopies : List (List ℕ) → Type 0
  SomeCopies mixins = (copied : List EffectiveShape) × AreCopied ss s mixins copied

  some_copied : (mixins : List (List ℕ)) → ((mixin : List ℕ) → Contains mixins mixin → Contains s.mixins mixin) → Must (SomeCopies mixins)
  some_copied [] within = must ([], no_mixins s)
  some_copied (mixin ∷ more) within =
      thence (some_copied more (λ x there. within x (later x there))) (λ rest.
      thence (either_way (Contributes ss s mixin)) (λ known. elim known [
        | inl c ↦ thence (have mixin (within mixin first) c) (λ e.
            must (copy_of c.mixin_value e.0 ∷ rest.0, mixed_in s mixin more c e.0 rest.0 e.1 rest.1))
        | inr never ↦ must (rest.0, passed_over s mixin more rest.0 never rest.1)
      ]))
    where
      first : Contains (mixin ∷ more) mixin
      first = let inside : 0 < length (mixin ∷ more) = omega arith in (0, inside, refl)

      later : (x : List ℕ) → Contains more x → Contains (mixin ∷ more) x
      later x (k, inside, at) = let longer : suc k < length (mixin ∷ more) = omega (arith, inside) in (suc k, longer, at)

  some_shape : (id : List ℕ) → shape_under id ss ≡ Some s → Must (Comes ss id)
  some_shape id there =
      thence (some_copied s.mixins (λ mixin among. among)) (λ copied.
      thence (some_made ss id copied.0 s) (λ made. must (made.0, effective id made.0 s copied.0 there copied.1 made.1)))

-- along an order in which each shape stands behind its mixins
module _ (ss : List Stated) (rows : List BareShape) (shapes : AreShapesOf ss rows) (walk : Walk)
    (walked : IsMixinWalk ss (ids_of rows) walk) where
  abbrev order : List ℕ
  order = walk.order.items

  stated_at : (v : ℕ) (id : List ℕ) → At (ids_of rows) v id → (s : ShapeStated) × (shape_under id ss ≡ Some s)
  stated_at v id there =
      let e = at_mapped (λ (x : List ℕ × Bare). x.0) (shapes_view rows) v id there in
      by_stated (shape_under id ss) refl
      (sym (shapes.each id) ∙ listed_found (shapes_view rows) shapes.rise v id e.0.1
      (e.1 ∙ ap (λ (k : List ℕ). Some (k, e.0.1)) e.2))
    where
      by_stated : {b : Bare} → (o : Option ShapeStated) → shape_under id ss ≡ o → option_map bare_of o ≡ Some b
          → (s : ShapeStated) × (shape_under id ss ≡ Some s)
      by_stated None is same = absurd (none-some _ same)
      by_stated (Some s) is same = (s, is)

  abbrev AllBefore : ℕ → Type 0
  AllBefore k = (i v : ℕ) (id : List ℕ) → i < k → At order i v → At (ids_of rows) v id → Comes ss id

  -- one more
  next_shape : (k v : ℕ) (id : List ℕ) → At order k v → At (ids_of rows) v id → AllBefore k → Must (Comes ss id)
  next_shape k v id at_k at_v before =
      let stated = stated_at v id at_v in
      some_shape ss stated.0 (λ mixin among c. mixed stated.0 stated.1 mixin among c) id stated.1
    where
      mixed : (s : ShapeStated) → shape_under id ss ≡ Some s → (mixin : List ℕ) → Contains s.mixins mixin → Contributes ss s mixin
          → Must (Comes ss mixin)
      mixed s there mixin among c =
          let number = (shape_ids ss rows shapes).all mixin c.found c.there in
          let mixes : MixesIn ss id mixin = subst (λ o. Contains (mixins_of o) mixin) (sym there) among in
          elim (walked.behind k v number.number id mixin at_k at_v number.there mixes) [
            | inl ring ↦ absurd (c.acyclic ring)
            | inr b ↦ must (before b.place number.number mixin b.before b.there number.there)
          ]

  join : (k v : ℕ) (id : List ℕ) → At order k v → At (ids_of rows) v id → AllBefore k → Comes ss id → AllBefore (suc k)
  join k v id at_k at_v before here i w other small at_i at_w = elim (sides i k) [
    | inl less ↦ before i w other less at_i at_w
    | inr more ↦
        let same_place : i ≡ k = omega (arith, small, more) in
        let same_number : w ≡ v = at_one order k w v (subst (λ j. At order j w) same_place at_i) at_k in
        let same_id : other ≡ id = at_one (ids_of rows) v other id (subst (λ n. At (ids_of rows) n other) same_number at_w) at_v in
        subst (Comes ss) (sym same_id) here
  ]

  all_before : (k : ℕ) → k ≤ length order → Must (AllBefore k)
  all_before zero h = must (λ i v id small at_i at_v. absurd (omega (arith, small)))
  all_before (suc k) h =
      let inside : k < length order = omega (arith, h) in
      let v = at_there order k inside in
      let id = at_there (ids_of rows) v.0 (walked.within k v.0 v.1) in
      thence (all_before k (omega (arith, h))) (λ before.
      thence (next_shape k v.0 id.0 v.1 id.1 before) (λ here. must (join k v.0 id.0 v.1 id.1 before here)))

  abbrev AllCome : Type 0
  AllCome = (v : ℕ) (id : List ℕ) → At (ids_of rows) v id → Comes ss id

  pub all_come : Must AllCome
  all_come =
      thence (all_before (length order) (omega arith)) (λ before. must (λ v id there.
      let stands = walked.all v (at_within (ids_of rows) v id there) in
      before stands.place v id stands.before stands.there there))

-- row by row
abbrev pub SomeRows : List Stated → List BareShape → Type 0
SomeRows ss rows = (es : List EffectiveShape) × AreEffective ss rows es

by_rows : (ss : List Stated) (rows : List BareShape) → ((v : ℕ) (id : List ℕ) → At (ids_of rows) v id → Comes ss id) → SomeRows ss rows
by_rows ss [] each = ([], tt)
by_rows ss (r ∷ rows) each =
    let here = each 0 r.id refl in
    let rest = by_rows ss rows (λ v id there. each (suc v) id there) in (here.0 ∷ rest.0, (here.1, rest.1))

pub some_effective : (ss : List Stated) (rows : List BareShape) (walk : Walk) → AreShapesOf ss rows
    → IsMixinWalk ss (ids_of rows) walk → Must (SomeRows ss rows)
some_effective ss rows walk shapes walked =
    thence (all_come ss rows shapes walk walked) (λ all. must (by_rows ss rows all))

-- as many members as names
named_lengths : (ss : List Stated) (rows : List BareShape) (mss : List (Vec NamedTarget)) (es : List EffectiveShape)
    → length mss ≡ length rows → AreEffective ss rows es
    → ((v : ℕ) (id : List ℕ) (ms : Vec NamedTarget) → At (ids_of rows) v id → At mss v ms → HasMembers ss id (targets_view ms.items))
    → HaveLengths es mss
named_lengths ss [] [] [] h are names = tt
named_lengths ss [] [] (e ∷ es) h are names = absurd are
named_lengths ss [] (ms ∷ mss) es h are names = absurd (omega (arith, h))
named_lengths ss (r ∷ rows) [] es h are names = absurd (omega (arith, h))
named_lengths ss (r ∷ rows) (ms ∷ mss) [] h are names = absurd are
named_lengths ss (r ∷ rows) (ms ∷ mss) (e ∷ es) h are names = (
  sym (length-map e.members (λ m. (m.0, m.1.target))) ∙ ap length (names 0 r.id ms refl refl e are.0) ∙ length-map ms.items target_view,
  named_lengths ss rows mss es (omega (arith, h)) are.1 (λ v id ns at_v at_ns. names (suc v) id ns at_v at_ns),
)

pub lengths_of : (ss : List Stated) (rows : List BareShape) (mss : List (Vec NamedTarget)) (es : List EffectiveShape)
    → AreMembersOf ss rows mss → AreEffective ss rows es → HaveLengths es mss
lengths_of ss rows mss es h are = named_lengths ss rows mss es h.size are h.each
