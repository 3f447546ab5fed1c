-- What a faithful change makes of a graph as merging makes them is such a graph: regular, with sound entries and whole shapes.
use Rattle.std.proofs.Common.{◌≡◌, ◌⊎◌, inl, inr, ℕ, List, [], ◌∷◌, map, Some, refl, sym, ap, subst, ◌∙◌}
use Rattle.std.specs.FinMap as fin
use Rattle.sm_ids.specs.IdText.{IsShapeId}
use Rattle.sm_ids.specs.TextParts.{member_id}
use Rattle.sm_model.specs.Formed.{StandsAmong}
use Rattle.sm_model.specs.Graphs.{Entry, GraphMaps, MemberEntry, ShapeEntry, member_entry, shape_entry, traits_in}
use Rattle.sm_model.specs.Relations.{HasEntry, IsInGraph}
use Rattle.sm_merge.specs.Merged.{IsOfPrelude, with_enum_value}
use Rattle.sm_merge.proofs.GraphSound.{HoldsNamed, IsMemberId, IsSoundEntry}
use Rattle.sm_merge.proofs.RegularGraphs.{IsRegular, IsRegularEntry, IsRegularMember, IsRegularShape}
use Rattle.sm_merge.proofs.Restating.{prelude_id}
use Rattle.sm_transform.specs.Changed.{IsMadeOf}
use Rattle.sm_changed_again.proofs.Faithful.{IsFaithful, IsMemberKept, IsShapeKept}

-- the id of a name is among those of the names
pub named_listed : (id name : List ℕ) (names : List (List ℕ)) → StandsAmong name names
    → StandsAmong (member_id id name) (map (member_id id) names)
named_listed id name [] among = among
named_listed id name (k ∷ ks) (inl same) = inl (ap (member_id id) same)
named_listed id name (k ∷ ks) (inr later) = inr (named_listed id name ks later)

-- traits of what is sound
pub sound_traits : (id : List ℕ) (e : Entry) → IsSoundEntry id e → HoldsNamed (traits_in e)
sound_traits id (shape_entry s) h = h.2
sound_traits id (member_entry m) h = h.2

module _ (g h : GraphMaps) (Stays : List ℕ → Type 0) (moved : List ℕ → List ℕ) (after : Entry → Entry)
    (made : IsMadeOf Stays moved after g h) (f : IsFaithful g Stays moved after) (regular : IsRegular g)
    (sound : (k : List ℕ) (e : Entry) → HasEntry g k e → IsSoundEntry k e) where
  prelude_kept : (id : List ℕ) (e : Entry) → IsOfPrelude id e → moved id ≡ id
  prelude_kept id e is = f.kept_ids id (prelude_id id e is)

  -- what stays is there
  stays_in : (id : List ℕ) (e now : Entry) → HasEntry g id e → Stays id → Path Entry (after e) now → HasEntry h (moved id) now
  stays_in id e now has stays is = (made.shapes (moved id) now).1 (id, e, has, stays, refl, sym is)

  -- members
  record IsLeftMember (id name : List ℕ) (m : MemberEntry) : Type 0 where
    now : MemberEntry
    found : HasEntry h (member_id (moved id) name) (member_entry now)
    kept : IsMemberKept after m
    same : Path MemberEntry now kept.now

  member_left : (id name : List ℕ) (m : MemberEntry) → IsShapeId id → HasEntry g (member_id id name) (member_entry m)
      → Stays (member_id id name) → IsLeftMember id name m
  member_left id name m is has stays =
      let kept = f.member (member_id id name) m has stays in record {
        now = kept.now;
        found = ap (fin.get h.shapes) (sym (f.members id name is)) ∙ stays_in (member_id id name) (member_entry m) (member_entry kept.now)
            has stays kept.is;
        kept = kept;
        same = refl;
      }

  -- a regular shape
  abbrev pub Kept : (id : List ℕ) (s : ShapeEntry) → IsRegularShape g id s → Type 0
  Kept id s r = IsShapeKept Stays moved after id s r.names

  pub left_each : (id : List ℕ) (s : ShapeEntry) (r : IsRegularShape g id s) (k : Kept id s r) (name : List ℕ) → StandsAmong name k.left
      → (e : MemberEntry) × (fin.get h.shapes (member_id (moved id) name) ≡ Some (member_entry e))
      × Path MemberEntry (with_enum_value k.now.kind name e) e
  left_each id s r k name among =
      let stay = k.stay name among in
      let held = r.each name stay.0 in
      let m = member_left id name held.0 r.is held.1 stay.1 in (
        m.now,
        m.found,
        subst (λ x. Path MemberEntry (with_enum_value k.now.kind name x) x) (sym m.same)
            (m.kept.valued k.now.kind name
            (subst (λ kind. Path MemberEntry (with_enum_value kind name held.0) held.0) (sym k.kind) held.2)),
      )

  shape_regular : (id : List ℕ) (s : ShapeEntry) → HasEntry g id (shape_entry s) → (r : IsRegularShape g id s) → (k : Kept id s r)
      → IsRegularShape h (moved id) k.now
  shape_regular id s has r k = record {
    is = f.ids id r.is;
    own = f.own id (shape_entry s, has) r.own;
    names = k.left;
    differ = k.differ;
    members = k.members;
    given = k.given;
    comes = k.comes;
    body = k.body;
    each = left_each id s r k;
  }

  member_regular : (id : List ℕ) → Stays id → IsInGraph g id → IsRegularMember g id → IsRegularMember h (moved id)
  unfolding shape_regular
  member_regular id stays has m =
      let held = m.is.each m.name m.among in
      let there : IsInGraph g (member_id m.shape m.name) = (member_entry held.0, held.1) in
      let here : Stays (member_id m.shape m.name) = subst Stays m.under stays in
      let listed : StandsAmong (member_id m.shape m.name) m.s.members =
      subst (StandsAmong (member_id m.shape m.name)) (sym m.is.members) (named_listed m.shape m.name m.is.names m.among) in
      let shape = f.homes m.shape m.name m.s m.there m.is.is listed there here in
      let k = f.shape m.shape m.s m.there shape m.is in record {
        shape = moved m.shape;
        name = m.name;
        s = k.now;
        there = stays_in m.shape (shape_entry m.s) (shape_entry k.now) m.there shape k.is;
        is = shape_regular m.shape m.s m.there m.is k;
        among = k.all m.name m.among here;
        under = ap moved m.under ∙ f.members m.shape m.name m.is.is;
      }

  entry_regular : (id : List ℕ) (e : Entry) → HasEntry g id e → Stays id → IsRegularEntry g id e → (now : Entry) → Path Entry now (after e)
      → IsRegularEntry h (moved id) now
  entry_regular id (shape_entry s) has stays r now is =
      let k = f.shape id s has stays r in subst (IsRegularEntry h (moved id)) (sym (is ∙ k.is)) (shape_regular id s has r k)
  entry_regular id (member_entry m) has stays r now is =
      let k = f.member id m has stays in
      subst (IsRegularEntry h (moved id)) (sym (is ∙ k.is)) (member_regular id stays (member_entry m, has) r)

  -- each entry is the prelude's or such
  either : (id : List ℕ) (e : Entry) → HasEntry h id e → IsOfPrelude id e ⊎ IsRegularEntry h id e
  either id e found =
      let c = (made.shapes id e).0 found in
      elim (regular.entries c.0 c.1 c.2) [
        | inl of_prelude ↦
            let same = f.prelude c.0 c.1 of_prelude in
            inl (subst (λ k. IsOfPrelude k e) (sym (c.4 ∙ prelude_kept c.0 c.1 of_prelude))
            (subst (IsOfPrelude c.0) (sym (c.5 ∙ same.1)) of_prelude))
        | inr own ↦ inr (subst (λ k. IsRegularEntry h k e) (sym c.4) (entry_regular c.0 c.1 c.2 c.3 own e c.5))
      ]

  pub kept_regular : IsRegular h
  kept_regular = record {
    prelude = λ id e is.
        let same = f.prelude id e is in
        subst (λ k. HasEntry h k e) (prelude_kept id e is) (stays_in id e e (regular.prelude id e is) same.0 same.1);
    entries = either;
  }

  -- and sound
  entry_sound : (id : List ℕ) (e : Entry) → HasEntry g id e → Stays id → IsRegularEntry g id e → (now : Entry) → Path Entry now (after e)
      → IsSoundEntry (moved id) now
  entry_sound id (shape_entry s) has stays r now is =
      let k = f.shape id s has stays r in
      subst (IsSoundEntry (moved id)) (sym (is ∙ k.is)) (f.ids id r.is, k.body.is_node, k.traits (sound id (shape_entry s) has).2)
  entry_sound id (member_entry m) has stays r now is =
      let k = f.member id m has stays in
      let held = sound id (member_entry m) has in
      let i : IsMemberId id = held.0 in
      subst (IsSoundEntry (moved id)) (sym (is ∙ k.is)) (
        record {
          shape = moved i.shape;
          name = i.name;
          is = ap moved i.is ∙ f.members i.shape i.name i.of_shape;
          of_shape = f.ids i.shape i.of_shape;
          named = i.named;
        },
        k.target held.1,
        k.traits held.2,
      )

  pub kept_sound : (id : List ℕ) (e : Entry) → HasEntry h id e → IsSoundEntry id e
  kept_sound id e found =
      let c = (made.shapes id e).0 found in
      elim (regular.entries c.0 c.1 c.2) [
        | inl of_prelude ↦
            let same = f.prelude c.0 c.1 of_prelude in
            subst (λ k. IsSoundEntry k e) (sym (c.4 ∙ prelude_kept c.0 c.1 of_prelude))
            (subst (IsSoundEntry c.0) (sym (c.5 ∙ same.1)) (sound c.0 c.1 c.2))
        | inr own ↦ subst (λ k. IsSoundEntry k e) (sym c.4) (entry_sound c.0 c.1 c.2 c.3 own e c.5)
      ]
