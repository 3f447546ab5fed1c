-- All links of what stands at a number, and of a graph.
use Rattle.std.proofs.Common.{◌≡◌, ◌⊎◌, inl, inr, ℕ, Bool, true, false, List, [], ◌∷◌, map, get_or, cond, Some, refl, sym, ap, ◌∙◌, subst}
use Rattle.std.proofs.Common.{arith}
use Rattle.std.specs.Prelude.{◌↔◌, ◌&&◌, nat_eq, slice_get}
use Rattle.std.specs.Cmp.Lexicographic.{pointwise}
use Rattle.std.specs.List.{Contains}
use Rattle.std.proofs.lemmas.List.Elements.{Contains-append_cases, Contains-append_left, Contains-append_right, Contains-push}
use Rattle.std.proofs.lemmas.List.Elements.{Contains-push_cases}
use Rattle.std.proofs.lemmas.Option.{none-some, same_Some}
use Rattle.sm_model.specs.Graphs.{Entry, shape_entry, member_entry, ShapeEntry}
use Rattle.sm_model.specs.GraphView.{AreShapeNumbers, At, HasMembers, is_member_entry, entries_of, ids}
use Rattle.sm_model.specs.Relations.{SaysInBody, SaysRelated, RelationFields, field_relations, relation_under}
use Rattle.sm_model.specs.declared.graph.Graph.{Graph}
use Rattle.sm_model.specs.declared.kind.Kind.{Kind}
use Rattle.sm_model.specs.declared.kind.Kind.TheVariants.{Blob, Boolean, Text as text_kind, Enum, Byte, Short, Integer, IntEnum, Long}
use Rattle.sm_model.specs.declared.kind.Kind.TheVariants.{Float, Double}
use Rattle.sm_model.specs.declared.kind.Kind.TheVariants.{BigInteger, BigDecimal, Timestamp, Document, List as list_kind, Map, Structure}
use Rattle.sm_model.specs.declared.kind.Kind.TheVariants.{Union}
use Rattle.sm_model.specs.declared.kind.Kind.TheVariants.{Service as service_kind, Operation as operation_kind, Resource as resource_kind}
use Rattle.sm_model.specs.declared.link.Link.{Link}
use Rattle.sm_model.specs.declared.relation.Relation.{Relation}
use Rattle.sm_model.specs.declared.relation.Relation.TheVariants.{Member, Container, Target, Input, Output, Error, Operation, Resource}
use Rattle.sm_model.specs.declared.relation.Relation.TheVariants.{Identifier, Property}
use Rattle.sm_model.specs.steps.Linking.{BodyLinks, BodySays, EntryLinks, MemberLinks, MembersLinks}
use Rattle.sm_model.proofs.GraphFacts.{id_at}
use Rattle.sm_model.proofs.Searching.{and_left, and_right}
use Rattle.sm_model.proofs.LinkNumbers.{at_opened, at_from, one_number, stands_at}
use Rattle.sm_model.proofs.LinkFacts.{link_is}

-- the relations that fields say
abbrev is_said : Relation → Bool
is_said Member = false
is_said Container = false
is_said Target = false
is_said Input = true
is_said Output = true
is_said Error = true
is_said Operation = true
is_said Resource = true
is_said Identifier = true
is_said Property = true

abbrev are_said : RelationFields → Bool
are_said [] = true
are_said (f ∷ fs) = is_said f.1 && are_said fs

said_under : (name : List ℕ) (fs : RelationFields) → are_said fs ≡ true → (r : Relation) → relation_under name fs ≡ Some r
    → is_said r ≡ true
said_under name [] all r e = absurd (none-some r e)
said_under name (f ∷ fs) all r e =
    by (pointwise nat_eq name f.0) (and_left (is_said f.1) (are_said fs) all) (λ is. said_under name fs (and_right (is_said f.1)
    (are_said fs) all) r is) e
  where
    by : (b : Bool) → is_said f.1 ≡ true → (relation_under name fs ≡ Some r → is_said r ≡ true)
        → (cond b (Some f.1) (relation_under name fs)) ≡ Some r → is_said r ≡ true
    by true here later is = subst (λ x. is_said x ≡ true) (same_Some f.1 r is) here
    by false here later is = later is

all_said : (kind : Kind) → are_said (field_relations kind) ≡ true
all_said operation_kind = refl
all_said service_kind = refl
all_said resource_kind = refl
all_said list_kind = refl
all_said Map = refl
all_said Structure = refl
all_said Union = refl
all_said Enum = refl
all_said IntEnum = refl
all_said Blob = refl
all_said Boolean = refl
all_said text_kind = refl
all_said Byte = refl
all_said Short = refl
all_said Integer = refl
all_said Long = refl
all_said Float = refl
all_said Double = refl
all_said BigInteger = refl
all_said BigDecimal = refl
all_said Timestamp = refl
all_said Document = refl

says_not : (r : Relation) → is_said r ≡ false → (s : ShapeEntry) (id : List ℕ) → SaysInBody r s id → ⊥
says_not r unsaid s id h =
    let said = said_under h.0 (field_relations s.kind) (all_said s.kind) r h.3 in
    let bad : false ≡ true = sym unsaid ∙ said in absurd (subst (λ c. cond c ⊥ (Unit {0})) bad tt)

-- no field says that a shape has a member, or that a member has a target
pub says_no_member : (s : ShapeEntry) (id : List ℕ) → SaysInBody Member s id → ⊥
says_no_member s id h = says_not Member refl s id h

pub says_no_target : (s : ShapeEntry) (id : List ℕ) → SaysInBody Target s id → ⊥
says_no_target s id h = says_not Target refl s id h

not_back : (r : Relation) → r ≡ Member → r ≡ Container → ⊥
not_back r e f = let bad : Member ≡ Container = sym e ∙ f in grind arith

-- elements of a list with a head
pub cons_cases : {X : Type 0} (x : X) (xs : List X) (y : X) → Contains (x ∷ xs) y → (x ≡ y) ⊎ Contains xs y
cons_cases x xs y h = elim (Contains-append_cases (x ∷ []) xs y h) [
  | inl one ↦ elim (Contains-push_cases [] x y one) [ inl none ↦ absurd (omega (arith, none.1)) | inr is ↦ inl is ]
  | inr later ↦ inr later
]

pub cons_here : {X : Type 0} (x : X) (xs : List X) → Contains (x ∷ xs) x
cons_here x xs = Contains-append_left (x ∷ []) xs x (Contains-push [] x)

-- the numbers of a shape's members are those of their ids
record MemberAmong (g : Graph) (ms : List ℕ) (id : List ℕ) (P : ℕ → Type 0) : Type 0 where
  pub number : ℕ
  pub entry : Entry
  pub there : slice_get (entries_of g) number ≡ Some (id, entry)
  pub so : P number

among : (g : Graph) (shape : ℕ) (ms : List ℕ) → AreShapeNumbers g ms → (id : List ℕ)
    → Contains (map (λ k. get_or (ids g) k []) ms) id → MemberAmong g ms id (λ k. (l : Link) → MemberLinks shape k l
    → MembersLinks shape ms l)
among g shape [] are id h = absurd (omega (arith, h.1))
among g shape (m ∷ ms) are id h = elim (cons_cases (get_or (ids g) m []) (map (λ k. get_or (ids g) k []) ms) id h) [
  | inl is ↦
      let at = stands_at g m are.0 in
      record {
        number = m;
        entry = at.1;
        there = subst (λ i. slice_get (entries_of g) m ≡ Some (i, at.1)) (sym (id_at g m at.0 at.1 at.2) ∙ is) at.2;
        so = λ l here. inl here;
      }
  | inr later ↦
      let rest = among g shape ms are.1 id later in
      record { number = rest.number; entry = rest.entry; there = rest.there; so = λ l here. inr (rest.so l here) }
]

-- a link to or from one of the members
record MemberLinked (g : Graph) (shape : ℕ) (names : List (List ℕ)) (l : Link) : Type 0 where
  pub number : ℕ
  pub id : List ℕ
  pub entry : Entry
  pub there : slice_get (entries_of g) number ≡ Some (id, entry)
  pub among : Contains names id
  pub link : MemberLinks shape number l

linked_member : (g : Graph) (shape : ℕ) (ms : List ℕ) → AreShapeNumbers g ms → (l : Link) → MembersLinks shape ms l
    → MemberLinked g shape (map (λ k. get_or (ids g) k []) ms) l
linked_member g shape [] are l h = absurd h
linked_member g shape (m ∷ ms) are l (inl here) =
    let at = stands_at g m are.0 in
    record {
      number = m;
      id = at.0;
      entry = at.1;
      there = at.2;
      among = subst (λ x. Contains (get_or (ids g) m [] ∷ map (λ k. get_or (ids g) k []) ms) x) (id_at g m at.0 at.1 at.2) (cons_here _ _);
      link = here;
    }
linked_member g shape (m ∷ ms) are l (inr later) =
    let rest = linked_member g shape ms are.1 l later in
    record {
      number = rest.number;
      id = rest.id;
      entry = rest.entry;
      there = rest.there;
      among = Contains-append_right (get_or (ids g) m [] ∷ []) (map (λ k. get_or (ids g) k []) ms) rest.id rest.among;
      link = rest.link;
    }

-- of a shape: by its members, and by its body
member_entry_links : (g : Graph) (shape : ℕ) (id : List ℕ) (s : ShapeEntry) → slice_get (entries_of g) shape ≡ Some (id, shape_entry s)
    → (l : Link) → MemberLinked g shape s.members l → EntryLinks g shape l
member_entry_links g shape id s there l m = elim m.link [
  | inl is ↦ inr (
    not_back l.relation (ap (λ x. x.relation) is),
    ap (λ x. x.from) is,
    at_from g shape (λ i e. At g l.to (λ j f. SaysRelated l.relation e j)) id (shape_entry s) there
        (subst (λ x. At g x.to (λ j f. SaysRelated x.relation (shape_entry s) j)) (sym is)
        (at_from g m.number (λ j f. SaysRelated Member (shape_entry s) j) m.id m.entry m.there (inl (refl, m.among)))),
  )
  | inr is ↦ inl (
    ap (λ x. x.relation) is,
    ap (λ x. x.to) is,
    at_from g shape (λ i e. At g l.from (λ j f. SaysRelated Member e j)) id (shape_entry s) there
        (subst (λ x. At g x.from (λ j f. SaysRelated Member (shape_entry s) j)) (sym is)
        (at_from g m.number (λ j f. SaysRelated Member (shape_entry s) j) m.id m.entry m.there (inl (refl, m.among)))),
  )
]

body_not_back : (g : Graph) (id : List ℕ) (s : ShapeEntry) (l : Link) → SaysInBody l.relation s id → l.relation ≡ Container → ⊥
body_not_back g id s l h back = says_not Container refl s id (subst (λ r. SaysInBody r s id) back h)

body_entry_links : (g : Graph) (shape : ℕ) (id : List ℕ) (s : ShapeEntry) → slice_get (entries_of g) shape ≡ Some (id, shape_entry s)
    → (l : Link) → BodyLinks g shape l → EntryLinks g shape l
body_entry_links g shape id s there l h =
    let o = at_opened g shape (λ i e. BodySays g l e) h.1 in
    let same : (o.id, o.entry) ≡ (id, shape_entry s) = same_Some (o.id, o.entry) (id, shape_entry s) (sym o.there ∙ there) in
    let says : BodySays g l (shape_entry s) = subst (λ (x : List ℕ × Entry). BodySays g l x.1) same o.is in
    let p = at_opened g l.to (λ i e. SaysInBody l.relation s i) says in
    inr (
      body_not_back g p.id s l p.is,
      h.0,
      at_from g shape (λ i e. At g l.to (λ j f. SaysRelated l.relation e j)) id (shape_entry s) there
          (at_from g l.to (λ j f. SaysRelated l.relation (shape_entry s) j) p.id p.entry p.there (inr p.is)),
    )

-- the two ways in which a shape says that it is related
entry_said : (g : Graph) (shape : ℕ) (id : List ℕ) (s : ShapeEntry) (ms : List ℕ)
    → slice_get (entries_of g) shape ≡ Some (id, shape_entry s)
    → s.members ≡ map (λ k. get_or (ids g) k []) ms → AreShapeNumbers g ms → (l : Link) → EntryLinks g shape l
    → MembersLinks shape ms l ⊎ BodyLinks g shape l
entry_said g shape id s ms there are_members numbers l (inl back) =
    let o = at_opened g shape (λ i e. At g l.from (λ j f. SaysRelated Member e j)) back.2 in
    let same : (o.id, o.entry) ≡ (id, shape_entry s) = same_Some (o.id, o.entry) (id, shape_entry s) (sym o.there ∙ there) in
    let p = at_opened g l.from (λ j f. SaysRelated Member (shape_entry s) j)
    (subst (λ (x : List ℕ × Entry). At g l.from (λ j f. SaysRelated Member x.1 j)) same o.is) in
    elim p.is [
      | inl m ↦
          let a = among g shape ms numbers p.id (subst (λ xs. Contains xs p.id) are_members m.1) in
          inl (a.so l (inr (link_is l Container a.number shape back.0
          (one_number g l.from a.number p.id p.entry a.entry p.there a.there) back.1)))
      | inr body ↦ absurd (says_not Member refl s p.id body)
    ]
entry_said g shape id s ms there are_members numbers l (inr on) =
    let o = at_opened g shape (λ i e. At g l.to (λ j f. SaysRelated l.relation e j)) on.2 in
    let same : (o.id, o.entry) ≡ (id, shape_entry s) = same_Some (o.id, o.entry) (id, shape_entry s) (sym o.there ∙ there) in
    let p = at_opened g l.to (λ j f. SaysRelated l.relation (shape_entry s) j)
    (subst (λ (x : List ℕ × Entry). At g l.to (λ j f. SaysRelated l.relation x.1 j)) same o.is) in
    elim p.is [
      | inl m ↦
          let a = among g shape ms numbers p.id (subst (λ xs. Contains xs p.id) are_members m.1) in
          inl (a.so l (inl (link_is l Member shape a.number m.0 on.1 (one_number g l.to a.number p.id p.entry a.entry p.there a.there))))
      | inr body ↦ inr (
        on.1,
        at_from g shape (λ i e. BodySays g l e) id (shape_entry s) there
            (at_from g l.to (λ i e. SaysInBody l.relation s i) p.id p.entry p.there body),
      )
    ]

shape_at : (g : Graph) (shape : ℕ) → At g shape (λ id e. is_member_entry e ≡ false)
    → (id : List ℕ) × (s : ShapeEntry) × (slice_get (entries_of g) shape ≡ Some (id, shape_entry s))
shape_at g shape h = let o = at_opened g shape (λ id e. is_member_entry e ≡ false) h in by o.id o.entry o.there o.is
  where
    by : (id : List ℕ) (e : Entry) → slice_get (entries_of g) shape ≡ Some (id, e) → is_member_entry e ≡ false
        → (i : List ℕ) × (s : ShapeEntry) × (slice_get (entries_of g) shape ≡ Some (i, shape_entry s))
    by id (shape_entry s) there h = (id, s, there)
    by id (member_entry m) there h = absurd (subst (λ c. cond c (Unit {0}) ⊥) h tt)

pub shape_links : (g : Graph) (shape : ℕ) (ms : List ℕ) → At g shape (λ id e. is_member_entry e ≡ false)
    → At g shape (λ id e. HasMembers (map (λ k. get_or (ids g) k []) ms) e) → AreShapeNumbers g ms
    → (l : Link) → (MembersLinks shape ms l ⊎ BodyLinks g shape l) ↔ EntryLinks g shape l
shape_links g shape ms is_shape has_members numbers l =
    let at = shape_at g shape is_shape in
    let o = at_opened g shape (λ id e. HasMembers (map (λ k. get_or (ids g) k []) ms) e) has_members in
    let same : (o.id, o.entry) ≡ (at.0, shape_entry at.1) = same_Some (o.id, o.entry) (at.0, shape_entry at.1) (sym o.there ∙ at.2) in
    let are : at.1.members ≡ map (λ k. get_or (ids g) k []) ms =
    subst (λ (x : List ℕ × Entry). HasMembers (map (λ k. get_or (ids g) k []) ms) x.1) same o.is in (
      λ h. elim h [
        | inl m ↦ member_entry_links g shape at.0 at.1 at.2 l
            (subst (λ xs. MemberLinked g shape xs l) (sym are) (linked_member g shape ms numbers l m))
        | inr b ↦ body_entry_links g shape at.0 at.1 at.2 l b
      ],
      λ h. entry_said g shape at.0 at.1 ms at.2 are numbers l h,
    )
