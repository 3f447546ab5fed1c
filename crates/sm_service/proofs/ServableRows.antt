-- A table of a service by the ids of its graph: of what kind a shape is, and that what is served is carried.
use Rattle.std.proofs.Common.{◌≡◌, ◌⊎◌, inl, inr, ℕ, zero, suc, ◌<◌, Bool, true, false, cond, List, [], ◌∷◌, map, length, Some}
use Rattle.std.proofs.Common.{refl, sym, ap, ◌∙◌, subst, arith}
use Rattle.std.specs.Prelude.{get_or, slice_get, unwrap_or}
use Rattle.std.specs.FinMap as fin
use Rattle.std.specs.List.{Contains}
use Rattle.std.proofs.lemmas.Option.{none-some, same_Some}
use Rattle.sm_model.specs.Graphs.{GraphMaps, MemberEntry, ShapeEntry, member_entry, member_id, shape_entry}
use Rattle.sm_model.specs.Reaching.{LeadsOn}
use Rattle.sm_model.specs.Relations.{HasEntry}
use Rattle.sm_model.specs.declared.kind.Kind.{Kind}
use Rattle.sm_model.specs.declared.kind.Kind.TheVariants as model
use Rattle.sm_model.proofs.OneRising.{contains_behind, contains_either, contains_head, contains_none}
use Rattle.sm_model.proofs.Worklist.{apart}
use Rattle.sm_shapes.specs.InOrder.{AreMembersOf, Shaped}
use Rattle.sm_shapes.specs.TableData.{TableData, home_at, home_in, json_name_at, json_name_in, kind_at, kind_in}
use Rattle.sm_shapes.specs.TableData.{member_count, members_at, members_in, name_at, name_in, shape_count, target_at, target_in}
use Rattle.sm_shapes.specs.declared.kinds.ShapeKind.{ShapeKind}
use Rattle.sm_shapes.specs.declared.kinds.ShapeKind.TheVariants as table
use Rattle.sm_compile.specs.Compiled.{EachSays, IdSet, IsCompiled, Numbering, SaysMember, SaysShape}
use Rattle.sm_compile.specs.Kinds.{has_value_members, table_kind, value_members}
use Rattle.sm_compile.specs.Served.{IsServed, IsSpecial, IsStep, IsUnserved, IsWay, WayStep, type_name}
use Rattle.sm_compile.specs.Sound.{json_name_of, trait_in}
use Rattle.sm_compile.specs.TraitIds.{json_name_id}
use Rattle.sm_compile.specs.TraitNodes.{text_of}
use Rattle.sm_compile.proofs.TabledShapes.{mapped_to}
use Rattle.sm_service.specs.Servable.{HasNoTypeMember, IsCarriedIn, IsReachedIn, LeadsIn}

-- what stands at a place
pub contains_at : {X : Type 0} (xs : List X) (k : ℕ) (x : X) → slice_get xs k ≡ Some x → Contains xs x
contains_at [] k x e = absurd (none-some x e)
contains_at (y ∷ ys) zero x e = subst (Contains (y ∷ ys)) (same_Some y x e) (contains_head y ys)
contains_at (y ∷ ys) (suc k) x e = contains_behind y x ys (contains_at ys k x e)

pub place_of : {X : Type 0} (xs : List X) (x : X) → Contains xs x → (k : ℕ) × (slice_get xs k ≡ Some x)
place_of [] x h = absurd (contains_none x h)
place_of (y ∷ ys) x h = elim (contains_either y x ys h) [
  | inl same ↦ (zero, ap Some same)
  | inr later ↦ let r = place_of ys x later in (suc r.0, r.1)
]

pub within_at : {X : Type 0} (xs : List X) (k : ℕ) (x : X) → slice_get xs k ≡ Some x → k < length xs
within_at [] k x e = absurd (none-some x e)
within_at (y ∷ ys) zero x e = omega arith
within_at (y ∷ ys) (suc k) x e = let rest = within_at ys k x e in omega (arith, rest)

pub each_at : {D : Type 0} (Says : List ℕ → D → Type 0) (ids : List (List ℕ)) (ds : List D) (k : ℕ) (id : List ℕ)
    → slice_get ids k ≡ Some id → EachSays Says ids ds → (d : D) × (slice_get ds k ≡ Some d) × Says id d
each_at Says [] ds k id e h = absurd (none-some id e)
each_at Says (i ∷ ids) [] k id e h = absurd h
each_at Says (i ∷ ids) (d ∷ ds) zero id e h = (d, refl, subst (λ x. Says x d) (same_Some i id e) h.0)
each_at Says (i ∷ ids) (d ∷ ds) (suc k) id e h = each_at Says ids ds k id e h.1

-- and of which one something is said
pub said_at : {D : Type 0} (Says : List ℕ → D → Type 0) (ids : List (List ℕ)) (ds : List D) (k : ℕ) (d : D)
    → slice_get ds k ≡ Some d → EachSays Says ids ds → (id : List ℕ) × (slice_get ids k ≡ Some id) × Says id d
said_at Says ids [] k d e h = absurd (none-some d e)
said_at Says [] (x ∷ ds) k d e h = absurd h
said_at Says (i ∷ ids) (x ∷ ds) zero d e h = (i, refl, subst (Says i) (same_Some x d e) h.0)
said_at Says (i ∷ ids) (x ∷ ds) (suc k) d e h = said_at Says ids ds k d e h.1

got_is : (ids : List (List ℕ)) (k : ℕ) (id : List ℕ) → slice_get ids k ≡ Some id → get_or ids k [] ≡ id
got_is [] k id e = absurd (none-some id e)
got_is (i ∷ ids) zero id e = same_Some i id e
got_is (i ∷ ids) (suc k) id e = got_is ids k id e

mapped_at : {X Y : Type 0} (f : X → Y) (xs : List X) (k : ℕ) (x : X) → slice_get xs k ≡ Some x → slice_get (map f xs) k ≡ Some (f x)
mapped_at f [] k x e = absurd (none-some x e)
mapped_at f (y ∷ ys) zero x e = ap (λ z. Some (f z)) (same_Some y x e)
mapped_at f (y ∷ ys) (suc k) x e = mapped_at f ys k x e

thing_at : {X : Type 0} (xs : List X) (k : ℕ) → k < length xs → (x : X) × (slice_get xs k ≡ Some x)
thing_at [] k lt = absurd (omega (arith, lt))
thing_at (x ∷ xs) zero lt = (x, refl)
thing_at (x ∷ xs) (suc k) lt = thing_at xs k (omega (arith, lt))

one_of_them : (t : TableData) (s : ℕ) (ks : List ℕ) → AreMembersOf t s ks → (k : ℕ) → Contains ks k → (k < member_count t) × (home_at t k ≡ s)
one_of_them t s [] h k there = absurd (contains_none k there)
one_of_them t s (j ∷ ks) h k there = elim (contains_either j k ks there) [
  | inl same ↦ subst (λ i. (i < member_count t) × (home_at t i ≡ s)) same (h.0, h.1)
  | inr later ↦ one_of_them t s ks h.2 k later
]

-- kinds of a table that one kind of a graph has alone
abbrev is_structure : ShapeKind → Bool
is_structure table.Structure = true
is_structure kind = false

abbrev is_union : ShapeKind → Bool
is_union table.Union = true
is_union kind = false

structure_from : (kind : Kind) → is_structure (table_kind kind) ≡ true → kind ≡ model.Structure
structure_from model.Structure h = refl
structure_from kind h = absurd (apart h)

union_from : (kind : Kind) → is_union (table_kind kind) ≡ true → kind ≡ model.Union
union_from model.Union h = refl
union_from kind h = absurd (apart h)

pub listed : (s : ShapeEntry) (id : List ℕ) → Contains (value_members s) id → Contains s.members id
listed s id h = by (has_value_members s.kind) h
  where
    by : (b : Bool) → Contains (cond b s.members []) id → Contains s.members id
    by true there = there
    by false there = absurd (contains_none id there)

-- a row of a shape, and of a member
pub record IsRowOf (g : GraphMaps) (In : IdSet) (t : TableData) (n : Numbering) (id : List ℕ) (k : ℕ) : Type 0 where
  pub s : ShapeEntry
  pub there : HasEntry g id (shape_entry s)
  pub inside : In id
  pub within : k < shape_count t
  pub kind : kind_at t k ≡ table_kind s.kind
  pub members : map (λ j. get_or n.members j []) (members_at t k) ≡ value_members s

record IsMemberRow (g : GraphMaps) (t : TableData) (n : Numbering) (home : List ℕ) (k : ℕ) : Type 0 where
  pub m : MemberEntry
  pub there : HasEntry g (member_id home (name_at t k)) (member_entry m)
  pub named : get_or n.members k [] ≡ member_id home (name_at t k)
  pub json : json_name_at t k ≡ json_name_of g home (name_at t k)
  pub aimed : slice_get n.shapes (target_at t k) ≡ Some m.target

module _ (g : GraphMaps) (In : IdSet) (t : TableData) (n : Numbering) (c : IsCompiled g In t n) where
  pub row_of : (k : ℕ) (id : List ℕ) → slice_get n.shapes k ≡ Some id → IsRowOf g In t n id k
  row_of k id e =
      let r = each_at (SaysShape g t.patterns n) n.shapes t.shapes k id e c.says_shapes in
      record {
        s = r.2.s;
        there = r.2.there;
        inside = ((c.shapes id).0 (contains_at n.shapes k id e)).0;
        within = within_at t.shapes k r.0 r.1;
        kind = ap kind_in r.1 ∙ r.2.kind;
        members = ap (λ o. map (λ j. get_or n.members j []) (members_in o)) r.1 ∙ r.2.members;
      }

  module _ (shaped : Shaped t) where
    member_row : (home k : ℕ) (id : List ℕ) → slice_get n.shapes home ≡ Some id → Contains (members_at t home) k → IsMemberRow g t n id k
    member_row home k id e among =
        let o = one_of_them t home (members_at t home) (shaped.members home (row_of home id e).within) k among in
        let d = thing_at t.members k o.0 in
        let r = said_at (SaysMember g t.patterns n) n.members t.members k d.0 d.1 c.says_members in
        let homed : get_or n.shapes d.0.shape [] ≡ id =
        ap (λ i. get_or n.shapes i []) (sym (ap home_in d.1) ∙ o.1) ∙ got_is n.shapes home id e in
        let named : r.0 ≡ member_id id (name_at t k) =
        r.2.name ∙ ap (λ i. member_id i d.0.name) homed ∙ ap (member_id id) (sym (ap name_in d.1)) in
        let there : HasEntry g (member_id id (name_at t k)) (member_entry r.2.m) =
        subst (λ i. HasEntry g i (member_entry r.2.m)) named r.2.there in
        record {
          m = r.2.m;
          there = there;
          named = got_is n.members k r.0 r.1 ∙ named;
          json = ap json_name_in d.1 ∙ ap (λ o. unwrap_or o d.0.name) r.2.json_name
              ∙ ap (λ i. unwrap_or (text_of (fin.get r.2.m.traits json_name_id)) i) (sym (ap name_in d.1))
              ∙ ap (λ o. unwrap_or (text_of (trait_in json_name_id o)) (name_at t k)) (sym there);
          aimed = ap (λ o. slice_get n.shapes (target_in o)) d.1 ∙ r.2.target_number;
        }

    step_of : (from to : ℕ) (id : List ℕ) → slice_get n.shapes from ≡ Some id → LeadsIn t from to
        → (step : WayStep) × IsStep g id step × (slice_get n.shapes to ≡ Some step.to)
    step_of from to id e led =
        let row = row_of from id e in
        let m = member_row from led.0 id e led.1 in
        let at = place_of (members_at t from) led.0 led.1 in (
          record { at = at.0; name = name_at t led.0; to = m.m.target },
          record {
            s = row.s;
            there = row.there;
            at = ap (λ xs. slice_get xs at.0) (sym row.members)
                ∙ mapped_at (λ j. get_or n.members j []) (members_at t from) at.0 led.0 at.1 ∙ ap Some m.named;
            m = m.m;
            member_there = m.there;
            is = refl;
          },
          subst (λ k. slice_get n.shapes k ≡ Some m.m.target) led.2 m.aimed,
        )

    way_from : (steps : List ℕ) (from to : ℕ) (id : List ℕ) → slice_get n.shapes from ≡ Some id → LeadsOn (LeadsIn t) from steps to
        → ((last : List ℕ) → slice_get n.shapes to ≡ Some last → IsUnserved g last) → (way : List WayStep) × IsWay g id way
    way_from [] from to id e led ends = ([], ends id (subst (λ k. slice_get n.shapes k ≡ Some id) led e))
    way_from (next ∷ more) from to id e led ends =
        let s = step_of from next id e led.0 in
        let rest = way_from more next to s.0.to s.2 led.1 ends in (s.0 ∷ rest.0, (s.1, rest.1))

    module _ (root : ℕ) (id : List ℕ) (e : slice_get n.shapes root ≡ Some id) (served : IsServed g id) where
      none_left_out : (s : ℕ) → IsReachedIn t root s → kind_at t s ≡ table.LeftOut → ⊥
      none_left_out s reached left =
          let w = way_from reached.0 root s id e reached.1 (λ last at. let r = row_of s last at in inl (r.s, r.there, sym r.kind ∙ left)) in
          served w.0 w.1

      kind_of : (kind : Kind) (k : ShapeKind) → k ≡ table_kind kind → ((k ≡ table.Structure) ⊎ (k ≡ table.Union))
          → ((kind ≡ model.Structure) ⊎ (kind ≡ model.Union))
      kind_of kind k is (inl structure) = inl (structure_from kind (ap is_structure (sym is ∙ structure)))
      kind_of kind k is (inr union) = inr (union_from kind (ap is_union (sym is ∙ union)))

      no_type_member : (s : ℕ) → IsReachedIn t root s → ((kind_at t s ≡ table.Structure) ⊎ (kind_at t s ≡ table.Union)) → HasNoTypeMember t s
      no_type_member s reached kind k among named =
          let w = way_from reached.0 root s id e reached.1 (λ last at. inr (special last at)) in served w.0 w.1
        where
          special : (last : List ℕ) → slice_get n.shapes s ≡ Some last → IsSpecial g last
          special last at =
              let r = row_of s last at in
              let m = member_row s k last at among in
              let inside : Contains (value_members r.s) (member_id last (name_at t k)) =
              subst (λ xs. Contains xs (member_id last (name_at t k))) r.members
              (subst (Contains (map (λ j. get_or n.members j []) (members_at t s))) m.named
              (mapped_to (λ j. get_or n.members j []) (members_at t s) k among)) in
              let told : (name_at t k ≡ type_name) ⊎ (json_name_of g last (name_at t k) ≡ type_name) =
              elim named [ inl plain ↦ inl plain | inr json ↦ inr (sym m.json ∙ json) ] in
              (r.s, r.there, inr (kind_of r.s.kind (kind_at t s) r.kind kind, (name_at t k, listed r.s (member_id last (name_at t k)) inside, told)))

      pub carried : IsCarriedIn t root
      carried = record { kinds = none_left_out; names = no_type_member }
