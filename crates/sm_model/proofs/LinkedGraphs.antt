-- The links of all that stands in a graph are its relations, by numbers.
use Rattle.std.proofs.Common.{◌≡◌, ◌⊎◌, inl, inr, ℕ, ◌+◌, ◌≤◌, true, List, [], length, get_or, cond, Some, None, refl, sym, ap, ◌∙◌}
use Rattle.std.proofs.Common.{subst, arith}
use Rattle.std.specs.Prelude.{◌↔◌, slice_get}
use Rattle.std.specs.FinMap as fin
use Rattle.std.proofs.lemmas.Bool.{cases_lt}
use Rattle.std.proofs.lemmas.Option.{same_Some}
use Rattle.sm_tree.specs.Node.{Node, object, members_of}
use Rattle.sm_model.specs.Graphs.{Entry, shape_entry, member_entry, ShapeEntry, MemberEntry, GraphMaps}
use Rattle.sm_model.specs.GraphView.{At, HasKind, HasBodyNode, IsMemberEntry, IsShapeNumber, Stands, is_member_entry, entries_of, ids}
use Rattle.sm_model.specs.GraphView.{maps_of, target_of}
use Rattle.sm_model.specs.Relations.{HasBodyPair, IsRelated, RefersBy, SaysInBody, SaysRelated, field_relations, relation_under}
use Rattle.sm_model.specs.Links.{AreLinks, IsLinked}
use Rattle.sm_model.specs.declared.graph.Graph.{Graph}
use Rattle.sm_model.specs.declared.kind.Kind.{Kind}
use Rattle.sm_model.specs.declared.link.Link.{Link}
use Rattle.sm_model.specs.declared.relation.Relation.{Relation}
use Rattle.sm_model.specs.declared.relation.Relation.TheVariants.{Member, Container, Target, Input, Output, Error, Operation, Resource}
use Rattle.sm_model.specs.declared.relation.Relation.TheVariants.{Identifier, Property}
use Rattle.sm_model.specs.steps.Linking.{Adds, BodyLinks, BodySays, EntryLinks, FieldsLinks, LinksBelow, RunsTo, TargetLinks, TargetSays}
use Rattle.sm_model.proofs.GraphFacts.{entry_under, id_at}
use Rattle.sm_model.proofs.LinkNumbers.{at_opened, at_from, stands_at, within}
use Rattle.sm_model.proofs.LinkFacts.{SaysInPairs, fields_run, runs_fields, runs_to_none, runs_to_one}

-- a member by what stands at its number
pub member_at : (g : Graph) (number : ℕ) → At g number (λ id e. is_member_entry e ≡ true)
    → (id : List ℕ) × (m : MemberEntry) × (slice_get (entries_of g) number ≡ Some (id, member_entry m))
member_at g number h = let o = at_opened g number (λ id e. is_member_entry e ≡ true) h in by o.id o.entry o.there o.is
  where
    by : (id : List ℕ) (e : Entry) → slice_get (entries_of g) number ≡ Some (id, e) → is_member_entry e ≡ true
        → (i : List ℕ) × (m : MemberEntry) × (slice_get (entries_of g) number ≡ Some (i, member_entry m))
    by id (shape_entry s) there h = absurd (subst (λ c. cond c ⊥ (Unit {0})) h tt)
    by id (member_entry m) there h = (id, m, there)

pub target_runs : (g : Graph) (number : ℕ) (id : List ℕ) (m : MemberEntry) → slice_get (entries_of g) number ≡ Some (id, member_entry m)
    → (l : Link) → RunsTo g Target number (λ i. m.target ≡ i) l ↔ TargetLinks g number l
target_runs g number id m there l = (
  λ h. (h.0, h.1, at_from g number (λ i e. TargetSays g l e) id (member_entry m) there h.2),
  λ h.
      let o = at_opened g number (λ i e. TargetSays g l e) h.2 in
      let same : (o.id, o.entry) ≡ (id, member_entry m) = same_Some (o.id, o.entry) (id, member_entry m) (sym o.there ∙ there) in
      (h.0, h.1, subst (λ (x : List ℕ × Entry). TargetSays g l x.1) same o.is),
)

target_not_back : (r : Relation) → r ≡ Target → r ≡ Container → ⊥
target_not_back r e f = let bad : Target ≡ Container = sym e ∙ f in grind arith

pub member_links : (g : Graph) (number : ℕ) (id : List ℕ) (m : MemberEntry) → slice_get (entries_of g) number ≡ Some (id, member_entry m)
    → (l : Link) → TargetLinks g number l ↔ EntryLinks g number l
member_links g number id m there l = (
  λ h.
      let o = at_opened g number (λ i e. TargetSays g l e) h.2 in
      let same : (o.id, o.entry) ≡ (id, member_entry m) = same_Some (o.id, o.entry) (id, member_entry m) (sym o.there ∙ there) in
      let p = at_opened g l.to (λ i e. m.target ≡ i) (subst (λ (x : List ℕ × Entry). TargetSays g l x.1) same o.is) in
      inr (
        target_not_back l.relation h.0,
        h.1,
        at_from g number (λ i e. At g l.to (λ j f. SaysRelated l.relation e j)) id (member_entry m) there
            (at_from g l.to (λ j f. SaysRelated l.relation (member_entry m) j) p.id p.entry p.there (h.0, p.is)),
      ),
  λ h. elim h [
    | inl back ↦
        let o = at_opened g number (λ i e. At g l.from (λ j f. SaysRelated Member e j)) back.2 in
        let same : (o.id, o.entry) ≡ (id, member_entry m) = same_Some (o.id, o.entry) (id, member_entry m) (sym o.there ∙ there) in
        let p = at_opened g l.from (λ j f. SaysRelated Member (member_entry m) j)
        (subst (λ (x : List ℕ × Entry). At g l.from (λ j f. SaysRelated Member x.1 j)) same o.is) in
        let bad : Member ≡ Target = p.is.0 in absurd (grind arith)
    | inr on ↦
        let o = at_opened g number (λ i e. At g l.to (λ j f. SaysRelated l.relation e j)) on.2 in
        let same : (o.id, o.entry) ≡ (id, member_entry m) = same_Some (o.id, o.entry) (id, member_entry m) (sym o.there ∙ there) in
        let p = at_opened g l.to (λ j f. SaysRelated l.relation (member_entry m) j)
        (subst (λ (x : List ℕ × Entry). At g l.to (λ j f. SaysRelated l.relation x.1 j)) same o.is) in (
          p.is.0,
          on.1,
          at_from g number (λ i e. TargetSays g l e) id (member_entry m) there
              (at_from g l.to (λ i e. m.target ≡ i) p.id p.entry p.there p.is.1),
        )
  ],
)

-- a shape's body
shape_of_kind : (g : Graph) (number : ℕ) (kind : Kind) (n : Node) → At g number (λ id e. HasKind kind e)
    → At g number (λ id e. HasBodyNode n e)
    → (id : List ℕ) × (s : ShapeEntry) × (slice_get (entries_of g) number ≡ Some (id, shape_entry s)) × (s.kind ≡ kind) × (s.properties ≡ n)
shape_of_kind g number kind n k b =
    let o = at_opened g number (λ id e. HasKind kind e) k in
    let p = at_opened g number (λ id e. HasBodyNode n e) b in
    by o.id o.entry o.there o.is (subst (λ (x : List ℕ × Entry). HasBodyNode n x.1) (same_Some (p.id, p.entry) (o.id, o.entry)
    (sym p.there ∙ o.there)) p.is)
  where
    by : (id : List ℕ) (e : Entry) → slice_get (entries_of g) number ≡ Some (id, e) → HasKind kind e → HasBodyNode n e
        → (i : List ℕ) × (s : ShapeEntry) × (slice_get (entries_of g) number ≡ Some (i, shape_entry s)) × (s.kind ≡ kind)
        × (s.properties ≡ n)
    by id (shape_entry s) there k b = (id, s, there, k, b)
    by id (member_entry m) there k b = absurd k

pub body_links : (g : Graph) (number : ℕ) (kind : Kind) (ps : List (List ℕ × Node)) → At g number (λ id e. HasKind kind e)
    → At g number (λ id e. HasBodyNode (object (members_of ps)) e)
    → (l : Link) → FieldsLinks g kind number ps l ↔ BodyLinks g number l
body_links g number kind ps k b l =
    let s = shape_of_kind g number kind (object (members_of ps)) k b in (
      λ h.
          let r = fields_run g kind number ps l h in
          let o = at_opened g l.to (λ id e. SaysInPairs l.relation kind (members_of ps) id) r.1 in (
            r.0,
            at_from g number (λ i e. BodySays g l e) s.0 (shape_entry s.1) s.2
                (at_from g l.to (λ i e. SaysInBody l.relation s.1 i) o.id o.entry o.there (in_body s.1 s.3 s.4 o.id o.is)),
          ),
      λ h.
          let o = at_opened g number (λ i e. BodySays g l e) h.1 in
          let same : (o.id, o.entry) ≡ (s.0, shape_entry s.1) = same_Some (o.id, o.entry) (s.0, shape_entry s.1) (sym o.there ∙ s.2) in
          let p = at_opened g l.to (λ i e. SaysInBody l.relation s.1 i) (subst (λ (x : List ℕ × Entry). BodySays g l x.1) same o.is) in
          runs_fields g kind number ps l (
            h.0,
            at_from g l.to (λ id e. SaysInPairs l.relation kind (members_of ps) id) p.id p.entry p.there
                (in_pairs s.1 s.3 s.4 p.id p.is),
          ),
    )
  where
    in_body : (s : ShapeEntry) → s.kind ≡ kind → s.properties ≡ object (members_of ps) → (id : List ℕ)
        → SaysInPairs l.relation kind (members_of ps) id → SaysInBody l.relation s id
    in_body s k b id h =
        let pair : HasBodyPair h.0 h.1 s.properties = subst (λ n. HasBodyPair h.0 h.1 n) (sym b) h.2 in
        (h.0, h.1, pair, subst (λ x. relation_under h.0 (field_relations x) ≡ Some l.relation) (sym k) h.3, h.4)

    in_pairs : (s : ShapeEntry) → s.kind ≡ kind → s.properties ≡ object (members_of ps) → (id : List ℕ) → SaysInBody l.relation s id
        → SaysInPairs l.relation kind (members_of ps) id
    in_pairs s k b id h = (
      h.0,
      h.1,
      subst (λ n. HasBodyPair h.0 h.1 n) b h.2,
      subst (λ x. relation_under h.0
          (field_relations x) ≡ Some l.relation) k h.3,
      h.4,
    )

-- the relations but that to the shape of a member
either_back : (r : Relation) → (r ≡ Container) ⊎ (r ≡ Container → ⊥)
either_back Container = inl refl
either_back Member = inr (λ e. grind arith)
either_back Target = inr (λ e. grind arith)
either_back Input = inr (λ e. grind arith)
either_back Output = inr (λ e. grind arith)
either_back Error = inr (λ e. grind arith)
either_back Operation = inr (λ e. grind arith)
either_back Resource = inr (λ e. grind arith)
either_back Identifier = inr (λ e. grind arith)
either_back Property = inr (λ e. grind arith)

onward : (r : Relation) → (r ≡ Container → ⊥) → (g : GraphMaps) (a b : List ℕ) → IsRelated r g a b ↔ RefersBy r g a b
onward Container not g a b = absurd (not refl)
onward Member not g a b = (λ h. h, λ h. h)
onward Target not g a b = (λ h. h, λ h. h)
onward Input not g a b = (λ h. h, λ h. h)
onward Output not g a b = (λ h. h, λ h. h)
onward Error not g a b = (λ h. h, λ h. h)
onward Operation not g a b = (λ h. h, λ h. h)
onward Resource not g a b = (λ h. h, λ h. h)
onward Identifier not g a b = (λ h. h, λ h. h)
onward Property not g a b = (λ h. h, λ h. h)

-- by the ids at two numbers, and by what stands there
refers_at : (g : Graph) (r : Relation) (from to : ℕ) → At g from (λ i e. At g to (λ j f. SaysRelated r e j))
    → IsShapeNumber g from × IsShapeNumber g to × RefersBy r (maps_of g) (get_or (ids g) from []) (get_or (ids g) to [])
refers_at g r from to h =
    let o = at_opened g from (λ i e. At g to (λ j f. SaysRelated r e j)) h in
    let p = at_opened g to (λ j f. SaysRelated r o.entry j) o.is in
    let by_ids : RefersBy r (maps_of g) o.id p.id = (
      o.entry,
      entry_under g from o.id o.entry o.there,
      p.is,
      (p.entry, entry_under g to p.id p.entry p.there),
    ) in (
      within g from o.id o.entry o.there,
      within g to p.id p.entry p.there,
      subst (λ a. RefersBy r (maps_of g) a (get_or (ids g) to [])) (sym (id_at g from o.id o.entry o.there))
          (subst (λ b. RefersBy r (maps_of g) o.id b) (sym (id_at g to p.id p.entry p.there)) by_ids),
    )

at_refers : (g : Graph) (r : Relation) (from to : ℕ) → IsShapeNumber g from → IsShapeNumber g to
    → RefersBy r (maps_of g) (get_or (ids g) from []) (get_or (ids g) to []) → At g from (λ i e. At g to (λ j f. SaysRelated r e j))
at_refers g r from to lt gt h =
    let o = stands_at g from lt in
    let p = stands_at g to gt in
    let here : h.0 ≡ o.1 = same_Some h.0 o.1 (sym h.1 ∙ ap (fin.get (maps_of g).shapes) (id_at g from o.0 o.1 o.2)
    ∙ entry_under g from o.0 o.1 o.2) in
    at_from g from (λ i e. At g to (λ j f. SaysRelated r e j)) o.0 o.1 o.2
    (at_from g to (λ j f. SaysRelated r o.1 j) p.0 p.1 p.2
    (subst (λ e. SaysRelated r e p.0) here (subst (SaysRelated r h.0) (id_at g to p.0 p.1 p.2) h.2)))

pub linked : (g : Graph) (bound : ℕ) → length (entries_of g) ≤ bound → (l : Link) → LinksBelow g bound l ↔ IsLinked g l
linked g bound all l = (
  λ h. elim h.2 [
    | inl back ↦
        let r = refers_at g Member l.to l.from (subst (λ n. At g n (λ i e. At g l.from (λ j f. SaysRelated Member e j)))
        (sym back.1) back.2) in
        record {
          from = r.1;
          to = r.0;
          related = subst (λ x. IsRelated x (maps_of g) (get_or (ids g) l.from []) (get_or
              (ids g) l.to [])) (sym back.0) r.2;
        }
    | inr on ↦
        let r = refers_at g l.relation l.from l.to (subst (λ n. At g n (λ i e. At g l.to (λ j f. SaysRelated l.relation e j)))
        (sym on.1) on.2) in
        record { from = r.0; to = r.1; related = (onward l.relation on.0 (maps_of g) _ _).1 r.2 }
  ],
  λ h. elim (either_back l.relation) [
    | inl back ↦ (
      l.to,
      omega (arith, h.to, all),
      inl (
        back,
        refl,
        at_refers g Member l.to l.from h.to h.from
            (subst (λ x. IsRelated x (maps_of g) (get_or (ids g) l.from []) (get_or (ids g) l.to [])) back h.related),
      ),
    )
    | inr on ↦ (
      l.from,
      omega (arith, h.from, all),
      inr (
        on,
        refl,
        at_refers g l.relation l.from l.to h.from h.to ((onward l.relation on (maps_of g) _ _).0 h.related),
      ),
    )
  ],
)

-- what stands below a number, one number after the other
pub below_none : (g : Graph) (l : Link) → LinksBelow g 0 l → ⊥
below_none g l h = absurd (omega (arith, h.1))

pub below_more : (g : Graph) (k : ℕ) (l : Link) → (LinksBelow g k l ⊎ EntryLinks g k l) ↔ LinksBelow g (k + 1) l
below_more g k l = (
  λ h. elim h [ inl below ↦ (below.0, omega (arith, below.1), below.2) | inr here ↦ (k, omega arith, here) ],
  λ h. elim (cases_lt h.0 k) [
    | inl less ↦ inl (h.0, less, h.2)
    | inr ge ↦ let is : h.0 ≡ k = omega (arith, ge, h.1) in inr (subst (λ n. EntryLinks g n l) is h.2)
  ],
)

pub all_linked : (g : Graph) (bound : ℕ) → length (entries_of g) ≤ bound → (links : List Link) → Adds (LinksBelow g bound) [] links
    → AreLinks g links
all_linked g bound all links adds l = (
  λ h. elim ((adds l).0 h) [ inl none ↦ absurd (omega (arith, none.1)) | inr below ↦ (linked g bound all l).0 below ],
  λ h. (adds l).1 (inr ((linked g bound all l).1 h)),
)

-- a member's target as its definition says it, where the graph has it and where it doesn't
pub target_found : (g : Graph) (number to : ℕ) → At g number (λ id e. is_member_entry e ≡ true)
    → At g number (λ id e. Stands g to (target_of e))
    → (l : Link) → (l ≡ record { relation = Target; from = number; to = to }) ↔ TargetLinks g number l
target_found g number to member stands l =
    let at = member_at g number member in
    let o = at_opened g number (λ id e. Stands g to (target_of e)) stands in
    let same : (o.id, o.entry) ≡ (at.0, member_entry at.1) = same_Some (o.id, o.entry) (at.0, member_entry at.1) (sym o.there ∙ at.2) in
    let there : Stands g to at.1.target = subst (λ (x : List ℕ × Entry). Stands g to (target_of x.1)) same o.is in
    let one = runs_to_one g Target number to at.1.target there l in
    let two = target_runs g number at.0 at.1 at.2 l in
    (λ h. two.0 (one.0 h), λ h. one.1 (two.1 h))

pub target_missing : (g : Graph) (number : ℕ) → At g number (λ id e. is_member_entry e ≡ true)
    → At g number (λ id e. fin.get (maps_of g).shapes (target_of e) ≡ None) → (l : Link) → TargetLinks g number l → ⊥
target_missing g number member none l h =
    let at = member_at g number member in
    let o = at_opened g number (λ id e. fin.get (maps_of g).shapes (target_of e) ≡ None) none in
    let same : (o.id, o.entry) ≡ (at.0, member_entry at.1) = same_Some (o.id, o.entry) (at.0, member_entry at.1) (sym o.there ∙ at.2) in
    runs_to_none g Target number at.1.target
    (subst (λ (x : List ℕ × Entry). fin.get (maps_of g).shapes (target_of x.1) ≡ None) same o.is) l
    ((target_runs g number at.0 at.1 at.2 l).1 h)

pub member_entry_is : (g : Graph) (number : ℕ) → At g number (λ id e. IsMemberEntry e) → At g number (λ id e. is_member_entry e ≡ true)
member_entry_is g number h = let o = at_opened g number (λ id e. IsMemberEntry e) h in
    at_from g number (λ id e. is_member_entry e ≡ true) o.id o.entry o.there (by o.entry o.is)
  where
    by : (e : Entry) → IsMemberEntry e → is_member_entry e ≡ true
    by (shape_entry s) h = absurd h
    by (member_entry m) h = refl

pub member_number_links : (g : Graph) (number : ℕ) → At g number (λ id e. is_member_entry e ≡ true) → (l : Link)
    → TargetLinks g number l ↔ EntryLinks g number l
member_number_links g number member l = let at = member_at g number member in member_links g number at.0 at.1 at.2 l
