-- What each part of a graph's links says.
use Rattle.std.proofs.Common.{◌≡◌, ◌⊎◌, inl, inr, ℕ, List, [], ◌∷◌, Some, None, Option, refl, sym, ap, ◌∙◌, subst, arith}
use Rattle.std.specs.Prelude.{◌↔◌, slice_get}
use Rattle.std.specs.FinMap as fin
use Rattle.std.proofs.lemmas.Option.{none-some}
use Rattle.sm_tree.specs.Node.{Node, Nodes, Members, null, bool, int, number, text, bytes, tag, opaque, list, object, members_of, member}
use Rattle.sm_tree.specs.Node.{no_members}
use Rattle.sm_tree.specs.Same.{HasPair}
use Rattle.sm_model.specs.GraphView.{At, Stands, entries_of, maps_of}
use Rattle.sm_model.specs.Relations.{HasBodyPair, Refers, field_relations, relation_under}
use Rattle.sm_model.specs.declared.graph.Graph.{Graph}
use Rattle.sm_model.specs.declared.kind.Kind.{Kind}
use Rattle.sm_model.specs.declared.link.Link.{Link}
use Rattle.sm_model.specs.declared.relation.Relation.{Relation}
use Rattle.sm_model.specs.steps.Linking.{FieldLinks, FieldsLinks, RunsTo}
use Rattle.sm_model.proofs.GraphFacts.{entry_under}
use Rattle.sm_model.proofs.LinkNumbers.{at_opened, at_from, one_number}

-- two things that hold of one id hold of the same links
pub runs_same : (g : Graph) (relation : Relation) (from : ℕ) (A B : List ℕ → Type 0) → ((id : List ℕ) → A id ↔ B id)
    → (l : Link) → RunsTo g relation from A l ↔ RunsTo g relation from B l
runs_same g relation from A B same l = (
  λ h. (h.0, h.1, let o = at_opened g l.to (λ id e. A id) h.2 in at_from g l.to (λ id e. B id) o.id o.entry o.there ((same o.id).0 o.is)),
  λ h. (h.0, h.1, let o = at_opened g l.to (λ id e. B id) h.2 in at_from g l.to (λ id e. A id) o.id o.entry o.there ((same o.id).1 o.is)),
)

pub runs_none : (g : Graph) (relation : Relation) (from : ℕ) (A : List ℕ → Type 0) → ((id : List ℕ) → A id → ⊥)
    → (l : Link) → RunsTo g relation from A l → ⊥
runs_none g relation from A none l h = let o = at_opened g l.to (λ id e. A id) h.2 in none o.id o.is

pub runs_either : (g : Graph) (relation : Relation) (from : ℕ) (A B : List ℕ → Type 0)
    → (l : Link) → RunsTo g relation from (λ id. A id ⊎ B id) l ↔ (RunsTo g relation from A l ⊎ RunsTo g relation from B l)
runs_either g relation from A B l = (
  λ h. let o = at_opened g l.to (λ id e. A id ⊎ B id) h.2 in elim o.is [
    | inl a ↦ inl (h.0, h.1, at_from g l.to (λ id e. A id) o.id o.entry o.there a)
    | inr b ↦ inr (h.0, h.1, at_from g l.to (λ id e. B id) o.id o.entry o.there b)
  ],
  λ h. elim h [
    | inl a ↦ (
      a.0,
      a.1,
      let o = at_opened g l.to (λ id e. A id) a.2 in at_from g l.to (λ id e. A id ⊎ B id) o.id o.entry o.there
          (inl o.is),
    )
    | inr b ↦ (
      b.0,
      b.1,
      let o = at_opened g l.to (λ id e. B id) b.2 in at_from g l.to (λ id e. A id ⊎ B id) o.id o.entry o.there
          (inr o.is),
    )
  ],
)

-- a link by its parts
pub link_is : (l : Link) (relation : Relation) (from to : ℕ) → l.relation ≡ relation → l.from ≡ from → l.to ≡ to
    → l ≡ record { relation = relation; from = from; to = to }
link_is l relation from to r f t =
    let one : l ≡ record { relation = relation; from = l.from; to = l.to } = ap
    (λ x. record { relation = x; from = l.from; to = l.to }) r in
    let two : record { relation = relation; from = l.from; to = l.to } ≡ record { relation = relation; from = from; to = l.to } =
    ap (λ x. record { relation = relation; from = x; to = l.to }) f in
    one ∙ two ∙ ap (λ x. record { relation = relation; from = from; to = x }) t

-- what runs to the one id that stands at a number
pub runs_to_one : (g : Graph) (relation : Relation) (from to : ℕ) (id : List ℕ) → Stands g to id
    → (l : Link) → (l ≡ record { relation = relation; from = from; to = to }) ↔ RunsTo g relation from (λ i. id ≡ i) l
runs_to_one g relation from to id stands l =
    let o = at_opened g to (λ found e. (found ≡ id) × (fin.get (maps_of g).shapes id ≡ Some e)) stands in (
      λ is. (
        ap (λ x. x.relation) is,
        ap (λ x. x.from) is,
        subst (λ n. At g n (λ i e. id ≡ i)) (sym (ap (λ x. x.to) is)) (at_from g to (λ i e. id ≡ i) o.id o.entry o.there (sym o.is.0)),
      ),
      λ h. let p = at_opened g l.to (λ i e. id ≡ i) h.2 in
          link_is l relation from to h.0 h.1 (one_number g l.to to id p.entry o.entry
          (subst (λ i. slice_get (entries_of g) l.to ≡ Some (i, p.entry)) (sym p.is) p.there)
          (subst (λ i. slice_get (entries_of g) to ≡ Some (i, o.entry)) o.is.0 o.there)),
    )

-- an id that the graph has not is run to by none
pub runs_to_none : (g : Graph) (relation : Relation) (from : ℕ) (id : List ℕ) → fin.get (maps_of g).shapes id ≡ None
    → (l : Link) → RunsTo g relation from (λ i. id ≡ i) l → ⊥
runs_to_none g relation from id none l h =
    let p = at_opened g l.to (λ i e. id ≡ i) h.2 in
    none-some p.entry (sym none ∙ ap (fin.get (maps_of g).shapes) p.is ∙ entry_under g l.to p.id p.entry p.there)

-- a text refers to its id alone
pub text_same : (t u : List ℕ) → text t ≡ text u → t ≡ u
text_same t u e = grind arith

pub text_refers : (n : Node) (t : List ℕ) → n ≡ text t → (id : List ℕ) → (t ≡ id) ↔ (n ≡ text id)
text_refers n t is id = (λ h. is ∙ ap text h, λ h. text_same t id (sym is ∙ h))

-- what is neither a text nor a list nor an object refers to nothing
pub refers_none : (n : Node) → ((t : List ℕ) → n ≡ text t → ⊥) → ((ns : Nodes) → n ≡ list ns → ⊥) → ((ms : Members) → n ≡ object ms → ⊥)
    → (id : List ℕ) → Refers id n → ⊥
refers_none null a b c id h = h
refers_none (bool x) a b c id h = h
refers_none (int z) a b c id h = h
refers_none (number t) a b c id h = h
refers_none (text t) a b c id h = a t refl
refers_none (bytes t) a b c id h = h
refers_none (tag k n) a b c id h = h
refers_none (opaque x) a b c id h = h
refers_none (list ns) a b c id h = b ns refl
refers_none (object ms) a b c id h = c ms refl

-- nothing is a pair of what is no object
pub pair_none : (n : Node) → ((ms : Members) → n ≡ object ms → ⊥) → (k : List ℕ) (v : Node) → HasBodyPair k v n → ⊥
pair_none null c k v h = h
pair_none (bool x) c k v h = h
pair_none (int z) c k v h = h
pair_none (number t) c k v h = h
pair_none (text t) c k v h = h
pair_none (bytes t) c k v h = h
pair_none (tag i n) c k v h = h
pair_none (opaque x) c k v h = h
pair_none (list ns) c k v h = h
pair_none (object ms) c k v h = c ms refl

-- a field of an object that says the relation of a link and refers to an id
abbrev pub SaysInPairs : Relation → Kind → Members → List ℕ → Type 0
SaysInPairs relation kind ms id =
    (name : List ℕ) × (value : Node) × HasPair name value ms × (relation_under name (field_relations kind) ≡ Some relation)
    × Refers id value

abbrev pub FieldsRun : Graph → Kind → ℕ → Members → Link → Type 0
FieldsRun g kind shape ms l = (l.from ≡ shape) × At g l.to (λ id e. SaysInPairs l.relation kind ms id)

field_runs : (g : Graph) (kind : Kind) (shape : ℕ) (k : List ℕ) (n : Node) (ms : Members) (o : Option Relation)
    → relation_under k (field_relations kind) ≡ o → (l : Link) → FieldLinks g shape n o l → FieldsRun g kind shape (member k n ms) l
field_runs g kind shape k n ms None e l h = absurd h
field_runs g kind shape k n ms (Some r) e l h =
    let o = at_opened g l.to (λ id e. Refers id n) h.2 in (
      h.1,
      at_from g l.to (λ id e. SaysInPairs l.relation kind (member k n ms) id) o.id o.entry o.there
          (k, n, inl (refl, refl), e ∙ ap Some (sym h.0), o.is),
    )

later_runs : (g : Graph) (kind : Kind) (shape : ℕ) (k : List ℕ) (n : Node) (ms : Members) (l : Link) → FieldsRun g kind shape ms l
    → FieldsRun g kind shape (member k n ms) l
later_runs g kind shape k n ms l h =
    let o = at_opened g l.to (λ id e. SaysInPairs l.relation kind ms id) h.1 in (
      h.0,
      at_from g l.to (λ id e. SaysInPairs l.relation kind (member k n ms) id) o.id o.entry o.there
          (o.is.0, o.is.1, inr o.is.2, o.is.3, o.is.4),
    )

pub fields_run : (g : Graph) (kind : Kind) (shape : ℕ) (ps : List (List ℕ × Node)) (l : Link) → FieldsLinks g kind shape ps l
    → FieldsRun g kind shape (members_of ps) l
fields_run g kind shape [] l h = absurd h
fields_run g kind shape (p ∷ ps) l (inl here) =
    field_runs g kind shape p.0 p.1 (members_of ps) (relation_under p.0 (field_relations kind)) refl l here
fields_run g kind shape (p ∷ ps) l (inr later) = later_runs g kind shape p.0 p.1 (members_of ps) l (fields_run g kind shape ps l later)

pub runs_fields : (g : Graph) (kind : Kind) (shape : ℕ) (ps : List (List ℕ × Node)) (l : Link) → FieldsRun g kind shape (members_of ps) l
    → FieldsLinks g kind shape ps l
runs_fields g kind shape [] l h = let o = at_opened g l.to (λ id e. SaysInPairs l.relation kind no_members id) h.1 in absurd o.is.2
runs_fields g kind shape (p ∷ ps) l h =
    let o = at_opened g l.to (λ id e. SaysInPairs l.relation kind (member p.0 p.1 (members_of ps)) id) h.1 in
    elim o.is.2 [
      | inl here ↦ inl (
          subst (λ r. FieldLinks g shape p.1 r l)
          (sym (subst (λ k. relation_under k (field_relations kind) ≡ Some l.relation) here.0 o.is.3))
          (refl, h.0, at_from g l.to (λ id e. Refers id p.1) o.id o.entry o.there (subst (Refers o.id) here.1 o.is.4)))
      | inr later ↦ inr (runs_fields g kind shape ps l (
        h.0,
        at_from g l.to (λ id e. SaysInPairs l.relation kind (members_of ps) id) o.id o.entry o.there
            (o.is.0, o.is.1, later, o.is.3, o.is.4),
      ))
    ]
