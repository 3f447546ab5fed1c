-- What is told of traits that are judged by the table, number by number, is what is told of each shape and member.
use Rattle.std.proofs.Common.{◌≡◌, inl, inr, ℕ, true, false, List, Option, Some, None, length, map, refl, sym, ap, ◌∙◌, subst}
use Rattle.std.specs.Prelude.{◌↔◌, ◌&&◌, not}
use Rattle.std.specs.FinMap as fin
use Rattle.std.specs.List.{Contains}
use Rattle.std.proofs.lemmas.Option.{none-some, same_Some}
use Rattle.sm_tree.specs.Node.{Node}
use Rattle.sm_tree.specs.View.{members_view, node_of}
use Rattle.sm_tree.specs.declared.tree.Tree.{Tree}
use Rattle.sm_model.specs.EventView.{EventTold}
use Rattle.sm_model.specs.GraphView.{IsShapeNumber, entries_of, maps_of}
use Rattle.sm_model.specs.Graphs.{Entry, shape_entry, member_entry, ShapeEntry, MemberEntry, GraphMaps, traits_in}
use Rattle.sm_model.specs.PreludeShapes.{is_prelude_id}
use Rattle.sm_model.specs.Reaching.{id_of_number}
use Rattle.sm_model.specs.declared.event.ModelEvent.{ModelEvent}
use Rattle.sm_model.specs.declared.graph.Graph.{Graph}
use Rattle.sm_model.specs.declared.kind.Kind.{Kind}
use Rattle.sm_model.proofs.GraphFacts.{entry_under, id_at}
use Rattle.sm_model.proofs.LinkNumbers.{stands_at}
use Rattle.sm_model.proofs.NumberedIds.{number_of}
use Rattle.sm_model.proofs.Searching.{and_left, and_right}
use Rattle.sm_model.proofs.Worklist.{apart}
use Rattle.sm_compile.specs.Looked.{kind_in, kind_under, listed_in, listed_under, target_in}
use Rattle.sm_compile.specs.Sound.{trait_in}
use Rattle.sm_rules.specs.TraitRows.{Spot, at_member, at_shape}
use Rattle.sm_rules.specs.Traits.{IsMemberSpot, IsSpot, of_member, of_shape}
use Rattle.sm_rules.specs.Words.{CarriesTrait}
use Rattle.sm_compile.proofs.TabledShapes.{mapped_from, mapped_to}
use Rattle.sm_rules.specs.RuleEvents.{IsEventOf, Puts, rule_event}
use Rattle.sm_rules.specs.declared.rule.Rule.{Rule}
use Rattle.sm_passes.specs.declared.rows.place.Behind.TheVariants as behind
use Rattle.sm_passes.specs.declared.rows.place.Stand.{Stand}
use Rattle.sm_passes.specs.declared.rows.place.Stand.TheVariants as stand
use Rattle.sm_passes.specs.Owned.{is_member_in}
use Rattle.sm_trait_rules.specs.steps.Judging.{Judgement, ToldJudged, ToldMember, ToldShape, ToldTrait, ToldTraits, behind_of, entry_where}
use Rattle.sm_trait_rules.specs.steps.Judging.{is_own_member}
use Rattle.sm_passes.specs.Places.{entry_behind, stand_at}
use Rattle.sm_passes.specs.Putting.{Below, IsWhere, ToldOf}
use Rattle.sm_passes.proofs.EventsPut.{puts_both, puts_none, puts_same}
use Rattle.sm_passes.proofs.OwnShapes.{member_in, not_so}
use Rattle.sm_passes.proofs.TraitEntries.{entry_found, found_entry}

module _ {X Y : Type 0} (f : X → Y) where
  -- what is told of each of the images
  pub told_mapped : (Told : Y → EventTold → Type 0) (xs : List X) (e : EventTold)
      → ToldOf (λ x. Told (f x)) xs e ↔ ToldOf Told (map f xs) e
  told_mapped Told xs e = (
    λ h. (f h.0, mapped_to f xs h.0 h.1, h.2),
    λ h. let r = mapped_from f xs h.0 h.1 in (r.0, r.1, subst (λ y. Told y e) (sym r.2) h.2),
  )

abbrev pub pair_seen : List ℕ × Tree → List ℕ × Node
pair_seen t = (t.0, node_of t.1)

-- the shape of a type
shape_of : (g : GraphMaps) (id : List ℕ) (kind : Kind) → kind_under g id ≡ Some kind
    → (s : ShapeEntry) × (fin.get g.shapes id ≡ Some (shape_entry s)) × (s.kind ≡ kind)
shape_of g id kind h = by (fin.get g.shapes id) refl h
  where
    by : (o : Option Entry) → fin.get g.shapes id ≡ o → kind_in o ≡ Some kind
        → (s : ShapeEntry) × (fin.get g.shapes id ≡ Some (shape_entry s)) × (s.kind ≡ kind)
    by None is h = absurd (none-some kind h)
    by (Some (shape_entry s)) is h = (s, is, same_Some s.kind kind h)
    by (Some (member_entry m)) is h = absurd (none-some kind h)

-- where a member stands, as the code has it
pub member_stands : (g : GraphMaps) (id : List ℕ) (m : MemberEntry) → fin.get g.shapes id ≡ Some (member_entry m)
    → behind_of g id ≡ entry_behind (fin.get g.shapes m.target)
member_stands g id m is = ap (λ o. entry_behind (entry_where g (target_in o))) is

module _ (rule : Rule) (wrong : Judgement) (g : GraphMaps) where
  -- of the traits of an entry
  module _ (id : List ℕ) (at : Stand) (x : Entry) (has : fin.get g.shapes id ≡ Some x) (ts : List (List ℕ × Tree))
      (are : fin.entries (traits_in x) ≡ members_view ts) where
    traits_told : (e : EventTold) → ToldOf (ToldTrait rule wrong id at) ts e ↔ ToldTraits rule wrong g id at e
    traits_told e = (
      λ h.
          let t = h.0 in
          let among : Contains (fin.entries (traits_in x)) (pair_seen t) =
          subst (λ ps. Contains ps (pair_seen t)) (sym are) (mapped_to pair_seen ts t h.1) in
          (t.0, node_of t.1, ap (trait_in t.0) has ∙ entry_found (traits_in x) (pair_seen t) among, h.2),
      λ h.
          let n = h.1 in
          let there = found_entry (traits_in x) h.0 n (sym (ap (trait_in h.0) has) ∙ h.2) in
          let of = mapped_from pair_seen ts (h.0, n) (subst (λ ps. Contains {X = List ℕ × Node} ps (h.0, n)) are there) in
          (of.0, of.1, subst (λ (p : List ℕ × Node). IsWhere (wrong p.0 at p.1) (rule_event rule id p.0) e) (sym of.2) h.3),
    )

    pub traits_put : (a b : List ModelEvent) → Puts (ToldOf (ToldTrait rule wrong id at) ts) a b → Puts (ToldTraits rule wrong g id at) a b
    traits_put a b h = puts_same (ToldOf (ToldTrait rule wrong id at) ts) (ToldTraits rule wrong g id at) a b traits_told h

  -- what is told, as the rules say it
  abbrev pub FailsJudged : List ℕ → List ℕ → Type 0
  FailsJudged id trait =
      (n : Node) × CarriesTrait g id trait n × ((spot : Spot) × IsSpot g id spot × (wrong trait (stand_at spot) n ≡ true))

  judged_forth : (id : List ℕ) (e : EventTold) → ToldJudged rule wrong g id e → IsEventOf rule FailsJudged e
  judged_forth id e told =
      let kind = told.0 in
      let s = shape_of g id kind told.1 in
      let own : is_prelude_id id ≡ false = not_so (is_prelude_id id) told.2 in
      of kind s own told.3
    where
      of : (kind : Kind) (s : (s : ShapeEntry) × (fin.get g.shapes id ≡ Some (shape_entry s)) × (s.kind ≡ kind)) → is_prelude_id id ≡ false
          → ToldShape rule wrong g id kind e → IsEventOf rule FailsJudged e
      of kind s own (inl t) = (
        id,
        t.0,
        (
          t.1,
          (own, t.2),
          (at_shape s.0.kind, of_shape (s.0, (s.1, own), refl), ap (λ k. wrong t.0 (stand.Shape k) t.1) s.2 ∙ t.3.0),
        ),
        t.3.1,
      )
      of kind s own (inr t) =
          let member = t.0 in
          let here = t.2 in
          let told = here.1 in
          let m = member_in (fin.get g.shapes member) (and_left (is_member_in (fin.get g.shapes member)) _ here.0) in
          let mine : is_prelude_id member ≡ false =
          not_so (is_prelude_id member) (and_right (is_member_in (fin.get g.shapes member)) _ here.0) in
          let among : Contains s.0.members member = subst (λ ids. Contains ids member) (ap listed_in s.1) t.1 in
          let there : IsMemberSpot g member (at_member s.0.kind (fin.get g.shapes m.0.target)) = record {
            shape = id;
            s = s.0;
            m = m.0;
            member = record { home = (s.1, own); among = among; there = m.1 };
            is = refl;
          } in (
            member,
            told.0,
            (
              told.1,
              (mine, told.2),
              (
                at_member s.0.kind (fin.get g.shapes m.0.target),
                of_member there,
                (λ i. wrong told.0 (stand.Member (s.2 i) (sym (member_stands g member m.0 m.1) i)) told.1) ∙ told.3.0,
              ),
            ),
            told.3.1,
          )

  -- and the other way round: at the number of the shape
  abbrev pub ToldSomewhere : EventTold → Type 0
  ToldSomewhere e = (id : List ℕ) × (x : Entry) × (fin.get g.shapes id ≡ Some x) × ToldJudged rule wrong g id e

  judged_back : (e : EventTold) → IsEventOf rule FailsJudged e → ToldSomewhere e
  judged_back e h = of h.0 h.1 (h.2).0 (h.2).1 (h.2).2.0 (h.2).2.2 (h.2).2.1 h.3
    where
      of : (id trait : List ℕ) (n : Node) → CarriesTrait g id trait n → (spot : Spot) → wrong trait (stand_at spot) n ≡ true
          → IsSpot g id spot → e ≡ rule_event rule id trait → ToldSomewhere e
      of id trait n carries spot bad (of_shape h) is =
          let s = h.0 in (
            id,
            shape_entry s,
            h.1.0,
            (
              s.kind,
              ap kind_in h.1.0,
              ap not h.1.1,
              inl (trait, n, carries.1, (ap (λ p. wrong trait (stand_at p) n) (sym h.2) ∙ bad, is)),
            ),
          )
      of id trait n carries spot bad (of_member h) is =
          let s = h.s in
          let m = h.m in
          let home = h.member.home in
          let here : is_own_member g id ≡ true =
          ap (λ o. is_member_in o && not (is_prelude_id id)) h.member.there ∙ ap not carries.0 in
          let value : wrong trait (stand.Member s.kind (behind_of g id)) n ≡ true =
          ap (λ b. wrong trait (stand.Member s.kind b) n) (member_stands g id m h.member.there)
          ∙ ap (λ p. wrong trait (stand_at p) n) (sym h.is) ∙ bad in (
            h.shape,
            shape_entry s,
            home.0,
            (
              s.kind,
              ap kind_in home.0,
              ap not home.1,
              inr (
                id,
                subst (λ ids. Contains ids id) (sym (ap listed_in home.0)) h.member.among,
                (here, (trait, n, carries.1, (value, is))),
              ),
            ),
          )

-- number by number
pub judged_numbers : (rule : Rule) (wrong : Judgement) (g : Graph) (e : EventTold)
    → Below (λ k. ToldJudged rule wrong (maps_of g) (id_of_number g k)) (length (entries_of g)) e
    ↔ IsEventOf rule (FailsJudged rule wrong (maps_of g)) e
judged_numbers rule wrong g e = (
  λ b. judged_forth rule wrong (maps_of g) (id_of_number g b.0) e b.2,
  λ h.
      let t = judged_back rule wrong (maps_of g) e h in
      let n = number_of g t.0 (t.1, t.2) in
      (n.0, n.1, subst (λ id. ToldJudged rule wrong (maps_of g) id e) (sym n.2) t.3),
)

-- what the parts of the walk put
module _ (rule : Rule) (wrong : Judgement) (g : GraphMaps) (id : List ℕ) where
  pub judged_put : (kind : Kind) → Some kind ≡ kind_under g id → is_prelude_id id ≡ false → (a b : List ModelEvent)
      → Puts (ToldShape rule wrong g id kind) a b → Puts (ToldJudged rule wrong g id) a b
  judged_put kind is own a b h =
      puts_same (ToldShape rule wrong g id kind) (ToldJudged rule wrong g id) a b
      (λ e. (
        λ t. (kind, sym is, ap not own, t),
        λ j. subst (λ k. ToldShape rule wrong g id k e) (same_Some j.0 kind (sym j.1 ∙ sym is)) j.3,
      )) h

  pub none_of_member : None ≡ kind_under g id → (es : List ModelEvent) → Puts (ToldJudged rule wrong g id) es es
  none_of_member is es = puts_none (ToldJudged rule wrong g id) es (λ e j. none-some j.0 (is ∙ j.1))

  pub member_put : (home : Kind) → is_own_member g id ≡ true → (a b : List ModelEvent)
      → Puts (ToldTraits rule wrong g id (stand.Member home (behind_of g id))) a b → Puts (ToldMember rule wrong g home id) a b
  member_put home own a b h =
      puts_same (ToldTraits rule wrong g id (stand.Member home (behind_of g id))) (ToldMember rule wrong g home id) a b
      (λ e. (λ t. (own, t), λ t. t.1)) h

  pub no_member_put : (home : Kind) → is_own_member g id ≡ false → (es : List ModelEvent) → Puts (ToldMember rule wrong g home id) es es
  no_member_put home other es = puts_none (ToldMember rule wrong g home id) es (λ e t. apart (sym other ∙ t.0))

-- a shape, and then its members by number
pub shape_put : (rule : Rule) (wrong : Judgement) (g : Graph) (k : ℕ) (kind : Kind) (ms : List ℕ)
    → map (id_of_number g) ms ≡ listed_under (maps_of g) (id_of_number g k) → (a b c : List ModelEvent)
    → Puts (ToldTraits rule wrong (maps_of g) (id_of_number g k) (stand.Shape kind)) a b
    → Puts (ToldOf (λ j. ToldMember rule wrong (maps_of g) kind (id_of_number g j)) ms) b c
    → Puts (ToldShape rule wrong (maps_of g) (id_of_number g k) kind) a c
shape_put rule wrong g k kind ms are a b c first second =
    puts_both (ToldTraits rule wrong (maps_of g) (id_of_number g k) (stand.Shape kind))
    (ToldOf (ToldMember rule wrong (maps_of g) kind) (listed_under (maps_of g) (id_of_number g k))) a b c first
    (subst (λ ids. Puts (ToldOf (ToldMember rule wrong (maps_of g) kind) ids) b c) are
    (puts_same _ (ToldOf (ToldMember rule wrong (maps_of g) kind) (map (id_of_number g) ms)) b c
    (told_mapped (id_of_number g) (ToldMember rule wrong (maps_of g) kind) ms) second))

-- what stands behind a target
pub shape_behind : (g : GraphMaps) (id : List ℕ) (kind : Kind) → Some kind ≡ kind_under g id
    → entry_behind (fin.get g.shapes id) ≡ behind.Shape kind
shape_behind g id kind is = by (fin.get g.shapes id) is
  where
    by : (o : Option Entry) → Some kind ≡ kind_in o → entry_behind o ≡ behind.Shape kind
    by None h = absurd (none-some kind (sym h))
    by (Some (shape_entry s)) h = ap behind.Shape (same_Some s.kind kind (sym h))
    by (Some (member_entry m)) h = absurd (none-some kind (sym h))

pub member_behind : (g : Graph) (k : ℕ) → IsShapeNumber g k → None ≡ kind_under (maps_of g) (id_of_number g k)
    → entry_behind (fin.get (maps_of g).shapes (id_of_number g k)) ≡ behind.Member
member_behind g k small is =
    let x = stands_at g k small in
    let same : x.0 ≡ id_of_number g k = sym (id_at g k x.0 x.1 x.2) in
    let has : fin.get (maps_of g).shapes (id_of_number g k) ≡ Some x.1 =
    subst (λ i. fin.get (maps_of g).shapes i ≡ Some x.1) same (entry_under g k x.0 x.1 x.2) in
    by x.1 has
  where
    by : (e : Entry) → fin.get (maps_of g).shapes (id_of_number g k) ≡ Some e
        → entry_behind (fin.get (maps_of g).shapes (id_of_number g k)) ≡ behind.Member
    by (shape_entry s) has = absurd (none-some s.kind (is ∙ ap kind_in has))
    by (member_entry m) has = ap entry_behind has

pub nothing_behind : (g : GraphMaps) (o : Option (List ℕ)) → ((id : List ℕ) → o ≡ Some id → fin.get g.shapes id ≡ None)
    → entry_behind (entry_where g o) ≡ behind.Nothing
nothing_behind g None h = refl
nothing_behind g (Some id) h = ap entry_behind (h id refl)
