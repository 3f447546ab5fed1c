-- The values of traits where each shape is stated once: those of a map, of a shape, and of its members.
use Rattle.std.proofs.Common.{◌≡◌, inl, inr, ℕ, true, false, List, [], ◌∷◌, ◌++◌, Some, None, refl, sym, ap, subst, ◌∙◌}
use Rattle.std.proofs.Common.{bytes_eq}
use Rattle.std.proofs.Common.{append-nil, length-append, length, cond, arith, ◌⊎◌}
use Rattle.std.specs.Prelude.{◌↔◌, ◌&&◌, not, if◌then◌else◌}
use Rattle.std.specs.List.{cons_option, flat_map}
use Rattle.std.specs.FinMap as fin
use Rattle.std.proofs.lemmas.Bool.{cases_Bool}
use Rattle.std.proofs.lemmas.Slice.Eq.{bytes_eq-Decides}
use Rattle.sm_tree.specs.Node.{Node}
use Rattle.sm_model.specs.Formed.{StandsAmong, DifferInNames}
use Rattle.sm_model.specs.Given.{given_names}
use Rattle.sm_model.specs.Graphs.{MemberGiven, NodeMap, ShapeGiven, member_id}
use Rattle.sm_model.specs.PreludeShapes.{is_prelude_id}
use Rattle.sm_model.specs.References.{IsShapeId}
use Rattle.sm_model.proofs.MapFacts.{keys, keys_differ}
use Rattle.sm_model.specs.Used.{shape_part}
use Rattle.sm_merge.specs.Places.{member_traits_at, shape_traits_at, shapes_under, traits_at, values_under}
use Rattle.sm_merge.specs.Stated.{ShapeStated, Stated, apply_stated, metadata_stated, shape_stated}
use Rattle.sm_merge.specs.Values.{HaveConflict, IsValueOf}
use Rattle.sm_merge.proofs.EntriesFound.{Has, get_has, has_get, has_key, key_has}
use Rattle.sm_ids.proofs.MadeIds.{one_name}
use Rattle.sm_ids.proofs.TextCuts.{of_member, of_shape}
use Rattle.sm_merge.proofs.SomeEffective.{filled_named, values_named}

-- under a key that isn't there stands nothing, and one value where keys differ
none_under : (t : List ℕ) (ps : List (List ℕ × Node)) → (StandsAmong t (keys ps) → ⊥) → values_under t ps ≡ []
none_under t [] none = refl
none_under t (p ∷ ps) none = elim (cases_Bool (bytes_eq p.0 t)) [
  | inl same ↦ absurd (none (inl (sym ((bytes_eq-Decides p.0 t).0 same))))
  | inr apart ↦
      ap (λ b. cons_option (if b then Some p.1 else None) (values_under t ps)) apart ∙ none_under t ps (λ later. none (inr later))
]

one_under : (t : List ℕ) (n : Node) (ps : List (List ℕ × Node)) → DifferInNames (keys ps) → Has t n ps → values_under t ps ≡ n ∷ []
one_under t n [] d has = absurd has
one_under t n (p ∷ ps) d (inl (same, is)) =
    ap (λ b. cons_option (if b then Some p.1 else None) (values_under t ps)) ((bytes_eq-Decides p.0 t).1 (sym same))
    ∙ ap (λ vs. p.1 ∷ vs) (none_under t ps (λ later. d.0 (subst (λ k. StandsAmong k (keys ps)) same later)))
    ∙ ap (λ v. v ∷ []) (sym is)
one_under t n (p ∷ ps) d (inr later) = elim (cases_Bool (bytes_eq p.0 t)) [
  | inl same ↦
      absurd (d.0 (subst (λ k. StandsAmong k (keys ps)) (sym ((bytes_eq-Decides p.0 t).0 same)) (has_key t n ps later)))
  | inr apart ↦
      ap (λ b. cons_option (if b then Some p.1 else None) (values_under t ps)) apart ∙ one_under t n ps d.1 later
]

-- the values of a map's entries are those of the map, and none is in conflict
pub map_values : (m : NodeMap) (t : List ℕ) (n : Node) → (fin.get m t ≡ Some n) ↔ IsValueOf (values_under t (fin.entries m)) n
map_values m t n = (
  λ found. subst (λ vs. IsValueOf vs n) (sym (one_under t n (fin.entries m) (keys_differ m) (get_has m t n found))) refl,
  λ value.
      let there = key_has t (fin.entries m) (values_named t (fin.entries m) n value) in
      let one : n ≡ there.0 = subst (λ vs. IsValueOf vs n) (one_under t there.0 (fin.entries m) (keys_differ m) there.1) value in
      has_get m t n (subst (λ v. Has t v (fin.entries m)) (sym one) there.1),
)

pub map_calm : (m : NodeMap) (t : List ℕ) → HaveConflict (values_under t (fin.entries m)) → ⊥
map_calm m t conflict =
    let there = key_has t (fin.entries m) (filled_named HaveConflict (λ never. never) t (fin.entries m) conflict) in
    subst HaveConflict (one_under t there.0 (fin.entries m) (keys_differ m) there.1) conflict

-- what a shape gives itself and its members
pub own_traits : (s : ShapeGiven) → shape_traits_at s.id s ≡ s.traits
own_traits s =
    ap (λ b. if b then s.traits else flat_map (member_traits_at s.id s.id) s.members) ((bytes_eq-Decides s.id s.id).1 refl)

-- a member of the list
abbrev pub IsOneOf : MemberGiven → List MemberGiven → Type 0
IsOneOf m [] = ⊥
IsOneOf m (n ∷ ns) = (Path MemberGiven m n) ⊎ IsOneOf m ns

one_named : (m : MemberGiven) (ms : List MemberGiven) → IsOneOf m ms → StandsAmong m.name (given_names ms)
one_named m [] h = h
one_named m (n ∷ ns) (inl same) = inl (ap (λ (k : MemberGiven). k.name) same)
one_named m (n ∷ ns) (inr later) = inr (one_named m ns later)

module _ (shape name : List ℕ) where
  none_at : (ms : List MemberGiven) → (StandsAmong name (given_names ms) → ⊥)
      → flat_map (member_traits_at (member_id shape name) shape) ms ≡ []
  none_at [] none = refl
  none_at (m ∷ ms) none = elim (cases_Bool (bytes_eq (member_id shape m.name) (member_id shape name))) [
    | inl same ↦
        absurd (none (inl (sym (one_name shape m.name name ((bytes_eq-Decides (member_id shape m.name) (member_id shape name)).0 same)))))
    | inr apart ↦
        ap (λ b. (if b then m.traits else []) ++ flat_map (member_traits_at (member_id shape name) shape) ms) apart
        ∙ none_at ms (λ later. none (inr later))
  ]

one_at : (shape : List ℕ) (m : MemberGiven) (ms : List MemberGiven) → DifferInNames (given_names ms) → IsOneOf m ms
    → flat_map (member_traits_at (member_id shape m.name) shape) ms ≡ m.traits
one_at shape m [] d h = absurd h
one_at shape m (n ∷ ns) d (inl same) =
    let place = member_id shape m.name in
    let name : n.name ≡ m.name = sym (ap (λ (k : MemberGiven). k.name) same) in
    ap (λ b. (if b then n.traits else []) ++ flat_map (member_traits_at place shape) ns)
    ((bytes_eq-Decides (member_id shape n.name) place).1 (ap (member_id shape) name))
    ∙ ap (λ rest. n.traits ++ rest) (none_at shape m.name ns (λ later. d.0 (subst (λ k. StandsAmong k (given_names ns)) (sym name) later)))
    ∙ append-nil n.traits ∙ sym (ap (λ (k : MemberGiven). k.traits) same)
one_at shape m (n ∷ ns) d (inr later) =
    let place = member_id shape m.name in
    elim (cases_Bool (bytes_eq (member_id shape n.name) place)) [
      | inl same ↦
          let name : m.name ≡ n.name = sym (one_name shape n.name m.name ((bytes_eq-Decides (member_id shape n.name) place).0 same)) in
          absurd (d.0 (subst (λ k. StandsAmong k (given_names ns)) name (one_named m ns later)))
      | inr apart ↦
          ap (λ b. (if b then n.traits else []) ++ flat_map (member_traits_at place shape) ns) apart ∙ one_at shape m ns d.1 later
    ]

not_the_shape : (id name : List ℕ) → IsShapeId id → bytes_eq id (member_id id name) ≡ false
not_the_shape id name is = elim (cases_Bool (bytes_eq id (member_id id name))) [
  | inl same ↦ absurd (longer id name ((bytes_eq-Decides id (member_id id name)).0 same))
  | inr apart ↦ apart
]
  where
    longer : (shape name : List ℕ) → shape ≡ member_id shape name → ⊥
    longer shape name same =
        let more = ap length same in
        let counted = length-append shape (36 ∷ name) in
        omega (arith, more, counted)

pub member_traits : (s : ShapeGiven) → IsShapeId s.id → DifferInNames (given_names s.members) → (m : MemberGiven) → IsOneOf m s.members
    → shape_traits_at (member_id s.id m.name) s ≡ m.traits
member_traits s is d m h =
    ap (λ b. if b then s.traits else flat_map (member_traits_at (member_id s.id m.name) s.id) s.members) (not_the_shape s.id m.name is)
    ∙ one_at s.id m s.members d h

-- and another shape nothing
module _ (s : ShapeGiven) (is : IsShapeId s.id) (place : List ℕ) (other : s.id ≡ shape_part place → ⊥) where
  no_member : (ms : List MemberGiven) → flat_map (member_traits_at place s.id) ms ≡ []
  no_member [] = refl
  no_member (m ∷ ms) = elim (cases_Bool (bytes_eq (member_id s.id m.name) place)) [
    | inl same ↦
        absurd (other (sym (of_member s.id is m.name) ∙ ap shape_part ((bytes_eq-Decides (member_id s.id m.name) place).0 same)))
    | inr apart ↦ ap (λ b. (if b then m.traits else []) ++ flat_map (member_traits_at place s.id) ms) apart ∙ no_member ms
  ]

  nothing_at : shape_traits_at place s ≡ []
  nothing_at = elim (cases_Bool (bytes_eq s.id place)) [
    | inl same ↦ absurd (other (sym (of_shape s.id is) ∙ ap shape_part ((bytes_eq-Decides s.id place).0 same)))
    | inr apart ↦ ap (λ b. if b then s.traits else flat_map (member_traits_at place s.id) s.members) apart ∙ no_member s.members
  ]

-- statements for shapes outside the prelude, and none that applies traits
abbrev pub AreOwnShapes : List Stated → Type 0
AreOwnShapes [] = Unit {0}
AreOwnShapes (metadata_stated key value ∷ ss) = AreOwnShapes ss
AreOwnShapes (shape_stated s ∷ ss) = IsShapeId s.shape.id × (is_prelude_id s.shape.id ≡ false) × AreOwnShapes ss
AreOwnShapes (apply_stated id traits ∷ ss) = ⊥

abbrev pub given_by : List ℕ → List ShapeStated → List (List ℕ × Node)
given_by place ss = flat_map (λ (t : ShapeStated). shape_traits_at place t.shape) ss

-- what stands at a place is what the statements for its shape give it
pub from_shape : (place : List ℕ) (ss : List Stated) → AreOwnShapes ss
    → flat_map (traits_at place) ss ≡ given_by place (shapes_under (shape_part place) ss)
from_shape place [] h = refl
from_shape place (metadata_stated key value ∷ ss) h = from_shape place ss h
from_shape place (shape_stated s ∷ ss) h =
    let id = shape_part place in
    elim (cases_Bool (bytes_eq s.shape.id id)) [
      | inl same ↦
          let own : is_prelude_id id ≡ false = subst (λ k. is_prelude_id k ≡ false) ((bytes_eq-Decides s.shape.id id).0 same) h.1 in
          ap (λ ts. shape_traits_at place s.shape ++ ts) (from_shape place ss h.2)
          ∙ sym (ap (λ b. given_by place (cons_option (if b && not (is_prelude_id id) then Some s else None) (shapes_under id ss))) same
          ∙ ap (λ b. given_by place (cons_option (if not b then Some s else None) (shapes_under id ss))) own)
      | inr apart ↦
          ap (λ ts. ts ++ flat_map (traits_at place) ss)
          (nothing_at s.shape h.0 place (λ same. differs s.shape.id id ((bytes_eq-Decides s.shape.id id).1 same) apart))
          ∙ from_shape place ss h.2
          ∙ sym (ap (λ b. given_by place (cons_option (if b && not (is_prelude_id id) then Some s else None) (shapes_under id ss))) apart)
    ]
  where
    differs : (x y : List ℕ) → bytes_eq x y ≡ true → bytes_eq x y ≡ false → ⊥
    differs x y is isnt = absurd (subst (λ c. cond c (Unit {0}) ⊥) (sym is ∙ isnt) tt)
from_shape place (apply_stated id traits ∷ ss) h = absurd h
