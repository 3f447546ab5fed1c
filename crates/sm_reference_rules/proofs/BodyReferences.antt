-- What is told of the references of bodies, part by part, is what is told of all that bodies say.
use Rattle.std.proofs.Common.{◌≡◌, inl, inr, ℕ, true, List, [], ◌∷◌, Option, Some, None, length, refl, sym, ap, ◌∙◌, subst}
use denote.Ref.{Bor}
use Rattle.std.specs.Prelude.{MatchOption}
use Rattle.std.specs.FinMap as fin
use Rattle.std.specs.List.{Contains}
use Rattle.std.proofs.lemmas.Option.{none-some, same_Some}
use Rattle.sm_tree.specs.Node.{Node, Nodes, Members, text, list, object, members_of, nodes_of}
use Rattle.sm_tree.specs.Parts.{text_in}
use Rattle.sm_tree.specs.Same.{HasPair}
use Rattle.sm_tree.specs.View.{members_view, node_of, nodes_view}
use Rattle.sm_tree.specs.declared.tree.Tree.{Tree}
use Rattle.sm_model.specs.EventView.{EventTold}
use Rattle.sm_model.specs.GraphView.{At, HasBodyNode, entries_of, is_member_entry, maps_of}
use Rattle.sm_model.specs.Graphs.{Entry, shape_entry, member_entry, ShapeEntry, GraphMaps}
use Rattle.sm_model.specs.Reaching.{id_of_number}
use Rattle.sm_model.specs.Relations.{HasBodyPair, IsEntryText, IsValueText, Refers, field_relations, relation_under}
use Rattle.sm_model.specs.declared.event.ModelEvent.{ModelEvent}
use Rattle.sm_model.specs.declared.graph.Graph.{Graph}
use Rattle.sm_model.specs.declared.kind.Kind.{Kind}
use Rattle.sm_model.specs.declared.relation.Relation.{Relation}
use Rattle.sm_model.proofs.LinkFacts.{pair_none, refers_none}
use Rattle.sm_model.proofs.NumberedIds.{number_of}
use Rattle.sm_model.proofs.OneRising.{contains_behind, contains_either, contains_head, contains_none}
use Rattle.sm_model.proofs.Worklist.{apart}
use Rattle.sm_compile.proofs.LookedUp.{seen}
use Rattle.sm_rules.specs.Words.{IsOwnShape}
use Rattle.sm_rules.specs.RuleEvents.{Puts}
use Rattle.sm_passes.specs.Putting.{Below, ToldOf}
use Rattle.sm_passes.proofs.EventsPut.{puts_none, puts_same}
use Rattle.sm_reference_rules.specs.steps.References.{TellsOf, ToldByBodies, ToldField, ToldIn, ToldInBody, ToldOwnBody, ToldPair, ToldText}
use Rattle.sm_reference_rules.specs.steps.References.{body_in}
use Rattle.sm_passes.specs.Owned.{own_kind}
use Rattle.sm_passes.proofs.OwnKinds.{is_own_kind, own_shape}

-- an entry that is this text is one of the trees
entry_there : (ts : List Tree) (id : List ℕ) → IsEntryText id (nodes_of (nodes_view ts)) → (t : Tree) × Contains ts t ×
    (node_of t ≡ text id)
entry_there [] id h = absurd h
entry_there (t ∷ ts) id (inl is) = (t, contains_head t ts, is)
entry_there (t ∷ ts) id (inr later) = let r = entry_there ts id later in (r.0, contains_behind t r.0 ts r.1, r.2)

entry_among : (ts : List Tree) (id : List ℕ) (t : Tree) → Contains ts t → node_of t ≡ text id → IsEntryText id (nodes_of (nodes_view ts))
entry_among [] id t among is = absurd (contains_none t among)
entry_among (u ∷ ts) id t among is = elim (contains_either u t ts among) [
  | inl same ↦ inl (ap node_of same ∙ is)
  | inr later ↦ inr (entry_among ts id t later is)
]

-- a value that is this text is that of a pair
value_there : (ps : List (List ℕ × Tree)) (id : List ℕ) → IsValueText id (members_of (members_view ps))
    → (p : List ℕ × Tree) × Contains ps p × (node_of p.1 ≡ text id)
value_there [] id h = absurd h
value_there (p ∷ ps) id (inl is) = (p, contains_head p ps, is)
value_there (p ∷ ps) id (inr later) = let r = value_there ps id later in (r.0, contains_behind p r.0 ps r.1, r.2)

value_among : (ps : List (List ℕ × Tree)) (id : List ℕ) (p : List ℕ × Tree) → Contains ps p → node_of p.1 ≡ text id
    → IsValueText id (members_of (members_view ps))
value_among [] id p among is = absurd (contains_none p among)
value_among (q ∷ ps) id p among is = elim (contains_either q p ps among) [
  | inl same ↦ inl (ap (λ (x : List ℕ × Tree). node_of x.1) same ∙ is)
  | inr later ↦ inr (value_among ps id p later is)
]

-- a pair of an object is one of its pairs
pair_there : (ps : List (List ℕ × Tree)) (k : List ℕ) (n : Node) → HasPair k n (members_of (members_view ps))
    → (p : List ℕ × Tree) × Contains ps p × ((k ≡ p.0) × (n ≡ node_of p.1))
pair_there [] k n h = absurd h
pair_there (p ∷ ps) k n (inl is) = (p, contains_head p ps, is)
pair_there (p ∷ ps) k n (inr later) = let r = pair_there ps k n later in (r.0, contains_behind p r.0 ps r.1, r.2)

pair_among : (ps : List (List ℕ × Tree)) (p : List ℕ × Tree) → Contains ps p → HasPair p.0 (node_of p.1) (members_of (members_view ps))
pair_among [] p among = absurd (contains_none p among)
pair_among (q ∷ ps) p among = elim (contains_either q p ps among) [
  | inl same ↦ inl (ap (λ (x : List ℕ × Tree). x.0) (sym same), ap (λ (x : List ℕ × Tree). node_of x.1) (sym same))
  | inr later ↦ inr (pair_among ps p later)
]

-- what is told of the ids that a value refers to
module _ (Told : List ℕ → EventTold → Type 0) (n : Node) where
  pub text_alone : (id : List ℕ) → n ≡ text id → (a b : List ModelEvent) → Puts (Told id) a b → Puts (ToldText Told n) a b
  text_alone id is a b h =
      puts_same (Told id) (ToldText Told n) a b
      (λ e. (λ t. (id, is, t), λ t. subst (λ i. Told i e) (same_Some t.0 id (ap text_in (sym t.1 ∙ is))) t.2)) h

  pub no_text : ((t : List ℕ) → n ≡ text t → ⊥) → (es : List ModelEvent) → Puts (ToldText Told n) es es
  no_text none es = puts_none (ToldText Told n) es (λ e t. none t.0 t.1)

  pub text_put : (id : List ℕ) → n ≡ text id → (a b : List ModelEvent) → Puts (Told id) a b → Puts (ToldIn Told n) a b
  text_put id is a b h =
      puts_same (Told id) (ToldIn Told n) a b
      (λ e. (
        λ t. (id, subst (Refers id) (sym is) refl, t),
        λ t. subst (λ i. Told i e) (sym (subst (Refers t.0) is t.1)) t.2,
      )) h

  pub entries_put : (ts : List Tree) → n ≡ list (nodes_of (nodes_view ts)) → (a b : List ModelEvent)
      → Puts (ToldOf (λ t. ToldText Told (node_of t)) ts) a b → Puts (ToldIn Told n) a b
  entries_put ts is a b h =
      puts_same (ToldOf (λ t. ToldText Told (node_of t)) ts) (ToldIn Told n) a b
      (λ e. (
        λ t. let said = t.2 in (said.0, subst (Refers said.0) (sym is) (entry_among ts said.0 t.0 t.1 said.1), said.2),
        λ t. let r = entry_there ts t.0 (subst (Refers t.0) is t.1) in (r.0, r.1, (t.0, r.2, t.2)),
      )) h

  pub values_put : (ps : List (List ℕ × Tree)) → n ≡ object (members_of (members_view ps)) → (a b : List ModelEvent)
      → Puts (ToldOf (λ p. ToldText Told (node_of p.1)) ps) a b → Puts (ToldIn Told n) a b
  values_put ps is a b h =
      puts_same (ToldOf (λ p. ToldText Told (node_of p.1)) ps) (ToldIn Told n) a b
      (λ e. (
        λ t. let said = t.2 in (said.0, subst (Refers said.0) (sym is) (value_among ps said.0 t.0 t.1 said.1), said.2),
        λ t. let r = value_there ps t.0 (subst (Refers t.0) is t.1) in (r.0, r.1, (t.0, r.2, t.2)),
      )) h

  pub nothing_put : ((t : List ℕ) → n ≡ text t → ⊥) → ((ns : Nodes) → n ≡ list ns → ⊥) → ((ms : Members) → n ≡ object ms → ⊥)
      → (es : List ModelEvent) → Puts (ToldIn Told n) es es
  nothing_put a b c es = puts_none (ToldIn Told n) es (λ e t. refers_none n a b c t.0 t.1)

-- of a field, and of a body
module _ (Told : TellsOf) where
  pub field_said : (o : Option Relation) (relation : Relation) (n : Node) → o ≡ Some relation → (a b : List ModelEvent)
      → Puts (ToldIn (Told relation) n) a b → Puts (ToldField Told o n) a b
  field_said o relation n is a b h = subst (λ x. Puts (ToldField Told x n) a b) (sym is) h

  pub field_none : (o : Option Relation) (n : Node) → o ≡ None → (es : List ModelEvent) → Puts (ToldField Told o n) es es
  field_none o n is es = subst (λ x. Puts (ToldField Told x n) es es) (sym is) (puts_none (ToldField Told None n) es (λ e h. h))

  module _ (kind : Kind) (body : Option Node) where
    pub fields_put : (ps : List (List ℕ × Tree)) → body ≡ Some (object (members_of (members_view ps))) → (a b : List ModelEvent)
        → Puts (ToldOf (ToldPair Told kind) ps) a b → Puts (ToldInBody Told kind body) a b
    fields_put ps is a b h =
        puts_same (ToldOf (ToldPair Told kind) ps) (ToldInBody Told kind body) a b (λ e. (forth e, back e)) h
      where
        forth : (e : EventTold) → ToldOf (ToldPair Told kind) ps e → ToldInBody Told kind body e
        forth e t = (object (members_of (members_view ps)), is, ((t.0).0, node_of (t.0).1, pair_among ps t.0 t.1, t.2))

        back : (e : EventTold) → ToldInBody Told kind body e → ToldOf (ToldPair Told kind) ps e
        back e t =
            let n = t.0 in
            let said = t.2 in
            let same : n ≡ object (members_of (members_view ps)) = same_Some n (object (members_of (members_view ps))) (sym t.1 ∙ is) in
            let r = pair_there ps said.0 said.1 (subst (HasBodyPair said.0 said.1) same said.2) in (
              r.0,
              r.1,
              subst (λ k. ToldField Told (relation_under k (field_relations kind)) (node_of (r.0).1) e) r.2.0
                  (subst (λ v. ToldField Told (relation_under said.0 (field_relations kind)) v e) r.2.1 said.3),
            )

    pub no_fields : ((ms : Members) → body ≡ Some (object ms) → ⊥) → (es : List ModelEvent) → Puts (ToldInBody Told kind body) es es
    no_fields none es =
        puts_none (ToldInBody Told kind body) es
        (λ e t. pair_none t.0 (λ ms is. none ms (t.1 ∙ ap Some is)) t.2.0 t.2.1 t.2.2)

-- shape by shape
module _ (g : GraphMaps) (Told : List ℕ → TellsOf) (from : List ℕ) where
  pub body_put : (kind : Kind) → own_kind g from ≡ Some kind → (a b : List ModelEvent)
      → Puts (ToldInBody (Told from) kind (body_in (fin.get g.shapes from))) a b → Puts (ToldOwnBody g Told from) a b
  body_put kind is a b h =
      puts_same (ToldInBody (Told from) kind (body_in (fin.get g.shapes from))) (ToldOwnBody g Told from) a b
      (λ e. (
        λ t. (kind, is, t),
        λ t. subst (λ k. ToldInBody (Told from) k (body_in (fin.get g.shapes from)) e) (same_Some t.0 kind (sym t.1 ∙ is)) t.2,
      )) h

  pub no_body : own_kind g from ≡ None → (es : List ModelEvent) → Puts (ToldOwnBody g Told from) es es
  no_body none es = puts_none (ToldOwnBody g Told from) es (λ e t. none-some t.0 (sym none ∙ t.1))

module _ (g : Graph) (Told : List ℕ → TellsOf) where
  abbrev pub Numbers : EventTold → Type 0
  Numbers e = Below (λ k. ToldOwnBody (maps_of g) Told (id_of_number g k)) (length (entries_of g)) e

  forth : (e : EventTold) → Numbers e → ToldByBodies (maps_of g) Told e
  forth e b =
      let from = id_of_number g b.0 in
      let t = b.2 in
      let s = own_shape (maps_of g) from t.0 t.1 in
      of from t.0 s t.2
    where
      of : (from : List ℕ) (kind : Kind) (s : (s : ShapeEntry) × IsOwnShape (maps_of g) from s × (s.kind ≡ kind))
          → ToldInBody (Told from) kind (body_in (fin.get (maps_of g).shapes from)) e → ToldByBodies (maps_of g) Told e
      of from kind s t =
          let n = t.0 in
          let said = t.2 in
          let same : s.0.properties ≡ n = same_Some s.0.properties n (sym (ap body_in s.1.0) ∙ t.1) in
          by (relation_under said.0 (field_relations kind)) refl said.3 (subst (HasBodyPair said.0 said.1) (sym same) said.2)
        where
          by : (o : Option Relation) → relation_under (t.2).0 (field_relations kind) ≡ o → ToldField (Told from) o (t.2).1 e
              → HasBodyPair (t.2).0 (t.2).1 s.0.properties → ToldByBodies (maps_of g) Told e
          by None is h pair = absurd h
          by (Some relation) is h pair = (
            from,
            s.0,
            s.1,
            (
              relation,
              h.0,
              ((t.2).0, (t.2).1, pair, (ap (λ k. relation_under (t.2).0 (field_relations k)) s.2) ∙ is, h.1),
              h.2,
            ),
          )

  back : (e : EventTold) → ToldByBodies (maps_of g) Told e → Numbers e
  back e h =
      let s = h.1 in
      let said = h.3 in
      let says = said.2 in
      let found = number_of g h.0 (shape_entry s, h.2.0) in
      let field : ToldField (Told h.0) (relation_under says.0 (field_relations s.kind)) says.1 e =
      subst (λ o. ToldField (Told h.0) o says.1 e) (sym says.3) (said.1, says.4, said.3) in
      let here : ToldOwnBody (maps_of g) Told h.0 e =
      (s.kind, is_own_kind (maps_of g) h.0 s h.2, (s.properties, ap body_in h.2.0, (says.0, says.1, says.2, field))) in
      (found.0, found.1, subst (λ id. ToldOwnBody (maps_of g) Told id e) (sym found.2) here)

  pub bodies_put : (a b : List ModelEvent) → Puts Numbers a b → Puts (ToldByBodies (maps_of g) Told) a b
  bodies_put a b h = puts_same Numbers (ToldByBodies (maps_of g) Told) a b (λ e. (forth e, back e)) h

-- what a look-up of the body tells
module _ (g : Graph) (k : ℕ) where
  abbrev body : Option Node
  body = body_in (fin.get (maps_of g).shapes (id_of_number g k))

  pub member_body : At g k (λ id e. is_member_entry e ≡ true) → (ms : Members) → body ≡ Some (object ms) → ⊥
  member_body at ms is = none-some (object ms) (seen g k (λ o. None ≡ body_in o) (λ id e. is_member_entry e ≡ true) by at ∙ is)
    where
      by : (e : Entry) → is_member_entry e ≡ true → None ≡ body_in (Some e)
      by (shape_entry s) h = absurd (apart h)
      by (member_entry m) h = refl

  its_body : (n : Node) → At g k (λ id e. HasBodyNode n e) → body ≡ Some n
  its_body n at = seen g k (λ o. body_in o ≡ Some n) (λ id e. HasBodyNode n e) by at
    where
      by : (e : Entry) → HasBodyNode n e → body_in (Some e) ≡ Some n
      by (shape_entry s) h = ap Some h
      by (member_entry m) h = absurd h

  pub body_told : (n : Node) → At g k (λ id e. HasBodyNode n e) → (r : Option (Bor (List (List ℕ × Tree))))
      → MatchOption r ((ms : Members) → n ≡ object ms → ⊥) (λ ps. n ≡ object (members_of (members_view ps.now)))
      → MatchOption r ((ms : Members) → body ≡ Some (object ms) → ⊥) (λ ps. body ≡ Some (object (members_of (members_view ps.now))))
  body_told n at None h = λ ms is. h ms (same_Some n (object ms) (sym (its_body n at) ∙ is))
  body_told n at (Some ps) h = its_body n at ∙ ap Some h
