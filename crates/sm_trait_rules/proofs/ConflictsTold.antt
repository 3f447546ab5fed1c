-- What is told of the traits of a shape or member, one after the other, is what the rule says.
use Rattle.std.proofs.Common.{◌≡◌, ◌⊎◌, inl, inr, ℕ, Bool, true, false, cond, List, Option, Some, None, refl, sym, ap, ◌∙◌, subst}
use Rattle.std.specs.Prelude.{◌&&◌, ◌↔◌, codes, is_some, not}
use denote.Ref.{Bor}
use Rattle.std.specs.BTreeSet.{BTreeSet}
use Rattle.std.specs.Cmp.Lexicographic.{nat_list_cmp_total}
use Rattle.std.specs.FinMap as fin
use Rattle.std.specs.List.{Contains}
use Rattle.std.specs.Option.{option_and_then, unwrap_or}
use Rattle.std.specs.Ordering.{ordering_reverse}
use Rattle.std.specs.declared.cmp.Ordering.{Ordering}
use Rattle.std.specs.declared.cmp.Ordering.TheVariants.{Less, Equal, Greater}
use Rattle.std.proofs.lemmas.Option.{same_Some}
use Rattle.sm_tree.specs.Node.{Node, Nodes, no_nodes, text}
use Rattle.sm_tree.specs.Parts.{entries_in, text_in}
use Rattle.sm_tree.specs.View.{members_view}
use Rattle.sm_tree.specs.declared.tree.Tree.{Tree}
use Rattle.sm_model.specs.Graphs.{text_cmp, Entry, GraphMaps, traits_in}
use Rattle.sm_model.specs.GraphView.{At, maps_of}
use Rattle.sm_model.specs.PreludeShapes.{is_prelude_id}
use Rattle.sm_model.specs.Reaching.{id_of_number}
use Rattle.sm_model.specs.Relations.{IsEntryText}
use Rattle.sm_model.specs.declared.event.ModelEvent.{ModelEvent}
use Rattle.sm_model.specs.declared.graph.Graph.{Graph}
use Rattle.sm_model.specs.Joins.{Joins}
use Rattle.sm_model.proofs.Linking.{joins_both, joins_none, joins_same}
use Rattle.sm_model.proofs.NumberedIds.{entry_here}
use Rattle.sm_model.proofs.Worklist.{apart}
use Rattle.sm_compile.specs.Sound.{trait_in, trait_of}
use Rattle.sm_compile.specs.TraitIds.{trait_id}
use Rattle.sm_compile.specs.TraitNodes.{field_of}
use Rattle.sm_rules.specs.TraitRows.{that_reads}
use Rattle.sm_rules.specs.Traits.{HasExclusiveTraits}
use Rattle.sm_rules.specs.Words.{IsOwn, field_in, has_trait}
use Rattle.sm_compile.proofs.TabledShapes.{mapped_from, mapped_to}
use Rattle.sm_rules.specs.RuleEvents.{IsEventAt, IsEventOf, Puts}
use Rattle.sm_rules.specs.declared.rule.Rule.TheVariants.{TraitConflict}
use Rattle.sm_passes.specs.Carrying.{carries}
use Rattle.sm_passes.specs.Owned.{is_own_shape, is_shape}
use Rattle.sm_passes.specs.Forms.{is_trait_value}
use Rattle.sm_passes.specs.Putting.{ToldOf}
use Rattle.sm_passes.proofs.EventsPut.{puts_same}
use Rattle.sm_trait_rules.proofs.JudgedTraits.{pair_seen}
use Rattle.sm_passes.proofs.OwnShapes.{own_told, told_own}
use Rattle.sm_passes.proofs.TraitEntries.{entry_found, found_entry}
use Rattle.sm_trait_rules.specs.steps.Conflicting.{HasText, IsGreaterBy, IsGreaterIfHeld, IsGreaterOfAny, IsGreaterOfBoth, IsGreaterOfTrait}
use Rattle.sm_trait_rules.specs.steps.Conflicting.{IsGreaterThere, IsHeldThere, IsOfSome, ToldHeld, conflicts_in, conflicts_under, has_text}
use Rattle.sm_rules.specs.TraitShapes.{Excludes, HasConflict, HasExcludedTrait}
use Rattle.sm_passes.proofs.PartsPut.{puts_parts}
use Rattle.sm_trait_rules.proofs.PlacesTold.{row_reads, some_of}

-- the entries of a list, where one is there
abbrev listed_in : Option Node → Nodes
listed_in o = unwrap_or (option_and_then entries_in o) no_nodes

conflicts_read : (o : Option Node) → listed_in (field_in (codes "conflicts") (that_reads trait_id o)) ≡ conflicts_in o
conflicts_read None = refl
conflicts_read (Some n) =
    ap (λ b. listed_in (field_in (codes "conflicts") (cond b (Some n) None))) (row_reads n) ∙ by (is_trait_value n)
  where
    by : (b : Bool) → listed_in (field_in (codes "conflicts") (cond b (Some n) None))
        ≡ cond b (listed_in (field_of (codes "conflicts") n)) no_nodes
    by true = refl
    by false = refl

value_listed : (o : Option Node) (other : List ℕ) → IsEntryText other (conflicts_in o) → is_some o ≡ true
value_listed None other h = absurd h
value_listed (Some n) other h = refl

-- what is seen to be excluded is what the trait's shape excludes
module _ (g : GraphMaps) (trait other : List ℕ) where
  seen_excluded : IsEntryText other (conflicts_under g trait) → Excludes g trait other
  seen_excluded h = by (is_own_shape g trait) refl h
    where
      by : (b : Bool) → is_own_shape g trait ≡ b → IsEntryText other (cond b (conflicts_in (trait_of g trait trait_id)) no_nodes)
          → Excludes g trait other
      by true is h =
          let own = own_told g trait is in
          let there = sym (ap (λ o. is_some (trait_in trait_id o)) own.1.0) ∙ value_listed (trait_of g trait trait_id) other h in
          ((own.0, own.1, there), subst (IsEntryText other) (sym (conflicts_read (trait_of g trait trait_id))) h)
      by false is h = absurd h

  excluded_seen : Excludes g trait other → IsEntryText other (conflicts_under g trait)
  excluded_seen (shape, among) =
      subst (IsEntryText other)
      (conflicts_read (trait_of g trait trait_id)
      ∙ sym (ap (λ b. cond b (conflicts_in (trait_of g trait trait_id)) no_nodes) (told_own g trait shape.0 shape.1))) among

module _ (g : GraphMaps) (at : List ℕ) where
  there_as : (e : Entry) → IsOwn g at e → (trait : List ℕ) → carries g trait at ≡ has_trait trait (traits_in e)
  there_as e own trait = ap (λ o. is_some (trait_in trait o)) own.0

  -- of two traits that stand there, one of which excludes the other, the greater is told
  pair_forth : (e : Entry) → IsOwn g at e → (trait other id : List ℕ) → carries g trait at ≡ true
      → IsEntryText other (conflicts_under g trait) → IsGreaterOfBoth g at trait other id → HasExcludedTrait g at id
  pair_forth e own trait other id here among both = by (text_cmp trait other) refl both.1
    where
      by : (o : Ordering) → text_cmp trait other ≡ o → IsGreaterBy o trait other id → HasExcludedTrait g at id
      by Less is same = subst (HasExcludedTrait g at) same (record {
        e = e;
        own = own;
        smaller = trait;
        excludes = inl (seen_excluded g trait other among);
        smaller_there = sym (there_as e own trait) ∙ here;
        greater_there = sym (there_as e own other) ∙ both.0;
        order = is;
      })
      by Equal is none = absurd none
      by Greater is same = subst (HasExcludedTrait g at) same (record {
        e = e;
        own = own;
        smaller = other;
        excludes = inr (seen_excluded g trait other among);
        smaller_there = sym (there_as e own other) ∙ both.0;
        greater_there = sym (there_as e own trait) ∙ here;
        order = nat_list_cmp_total.antisymm other trait ∙ ap ordering_reverse is;
      })

  pair_back : (id : List ℕ) → HasExcludedTrait g at id → IsGreaterThere g at id
  pair_back id h =
      let small = there_as h.e h.own h.smaller ∙ h.smaller_there in
      let great = there_as h.e h.own id ∙ h.greater_there in
      let turned : text_cmp id h.smaller ≡ Greater = nat_list_cmp_total.antisymm id h.smaller ∙ ap ordering_reverse h.order in
      elim h.excludes [
        | inl x ↦
            let both : IsGreaterOfBoth g at h.smaller id id = (great, subst (λ o. IsGreaterBy o h.smaller id id) (sym h.order) refl) in
            (h.smaller, small, (id, excluded_seen g h.smaller id x, both))
        | inr x ↦
            let both : IsGreaterOfBoth g at id h.smaller id = (small, subst (λ o. IsGreaterBy o id h.smaller id) (sym turned) refl) in
            (id, great, (h.smaller, excluded_seen g id h.smaller x, both))
      ]

  -- what was taken of all traits there, and is told
  pub held_put : (e : Entry) → IsOwn g at e → (none texts : BTreeSet (Bor (List ℕ))) → ((t : List ℕ) → has_text none t ≡ false)
      → Joins (HasText none) (IsGreaterThere g at) (HasText texts) → (a b : List ModelEvent)
      → Puts (IsEventAt TraitConflict (λ here id. IsHeldThere g here texts id) at) a b
      → Puts (IsEventAt TraitConflict (HasExcludedTrait g) at) a b
  held_put e own none texts empty joins a b h =
      puts_same (IsEventAt TraitConflict (λ here id. IsHeldThere g here texts id) at) (IsEventAt TraitConflict (HasExcludedTrait g) at) a b
      (λ x. (λ t. (t.0, forth t.0 t.1.1, t.2), λ t. (t.0, back t.0 t.1, t.2))) h
    where
      forth : (id : List ℕ) → HasText texts id → HasExcludedTrait g at id
      forth id held = elim ((joins id).0 held) [
        | inl old ↦ absurd (apart (sym (empty id) ∙ old))
        | inr r ↦ pair_forth e own r.0 r.2.0 id r.1 r.2.1 r.2.2
      ]

      back : (id : List ℕ) → HasExcludedTrait g at id → IsHeldThere g at texts id
      back id x = (there_as x.e x.own id ∙ x.greater_there, (joins id).1 (inr (pair_back id x)))

-- the traits at a number
module _ (g : Graph) (k : ℕ) (ts : List (List ℕ × Tree)) (at : At g k (λ id e. fin.entries (traits_in e) ≡ members_view ts)) where
  abbrev here : List ℕ
  here = id_of_number g k

  -- what stands in the list is carried, and what is carried stands in it
  pair_carried : (t : List ℕ × Tree) → Contains ts t → carries (maps_of g) t.0 here ≡ true
  pair_carried t c =
      let x = entry_here g k (λ id e. fin.entries (traits_in e) ≡ members_view ts) at in
      let among = subst (λ es. Contains {X = List ℕ × Node} es (pair_seen t)) (sym x.2) (mapped_to pair_seen ts t c) in
      ap (λ o. is_some (trait_in t.0 o)) x.1 ∙ ap is_some (entry_found (traits_in x.0) (pair_seen t) among)

  carried_pair : (trait : List ℕ) → carries (maps_of g) trait here ≡ true → (t : List ℕ × Tree) × Contains ts t × (t.0 ≡ trait)
  carried_pair trait is =
      let x = entry_here g k (λ id e. fin.entries (traits_in e) ≡ members_view ts) at in
      let n = some_of (trait_of (maps_of g) here trait) is in
      let found : fin.get (traits_in x.0) trait ≡ Some n.0 = sym (ap (trait_in trait) x.1) ∙ n.1 in
      let stands = subst (λ es. Contains {X = List ℕ × Node} es (trait, n.0)) x.2 (found_entry (traits_in x.0) trait n.0 found) in
      let t = mapped_from pair_seen ts (trait, n.0) stands in
      (t.0, t.1, ap (λ (y : List ℕ × Node). y.0) t.2)

  -- those of a set, beside a trait
  pub named_taken : (trait : List ℕ) (texts : BTreeSet (Bor (List ℕ))) (Old Now : List ℕ → Type 0)
      → Joins Old (IsOfSome (λ t. IsGreaterIfHeld (maps_of g) here trait texts t.0) ts) Now
      → Joins Old (IsGreaterOfAny (maps_of g) here trait (HasText texts)) Now
  named_taken trait texts Old Now joins =
      joins_same Old (IsOfSome (λ t. IsGreaterIfHeld (maps_of g) here trait texts t.0) ts)
      (IsGreaterOfAny (maps_of g) here trait (HasText texts)) Now
      (λ id. (
        λ p. let t = p.0 in (t.0, p.2.0, p.2.1),
        λ q.
            let p = carried_pair q.0 q.2.0 in
            let said : IsGreaterIfHeld (maps_of g) here trait texts q.0 id = (q.1, q.2) in
            (p.0, p.1, subst (λ o. IsGreaterIfHeld (maps_of g) here trait texts o id) (sym p.2) said),
      )) joins

  -- all of them
  pub carried_taken : (Old Now : List ℕ → Type 0) → Joins Old (IsOfSome (λ t. IsGreaterOfTrait (maps_of g) here t.0) ts) Now
      → Joins Old (IsGreaterThere (maps_of g) here) Now
  carried_taken Old Now joins =
      joins_same Old (IsOfSome (λ t. IsGreaterOfTrait (maps_of g) here t.0) ts) (IsGreaterThere (maps_of g) here) Now
      (λ id. (
        λ p. let t = p.0 in (t.0, pair_carried t p.1, p.2),
        λ q.
            let p = carried_pair q.0 q.1 in
            (p.0, p.1, subst (λ o. IsGreaterOfTrait (maps_of g) here o id) (sym p.2) q.2),
      )) joins

  -- those of a set are told
  pub carried_told : (texts : BTreeSet (Bor (List ℕ))) (a b : List ModelEvent) → Puts (ToldOf (λ t. ToldHeld here texts t.0) ts) a b
      → Puts (IsEventAt TraitConflict (λ at id. IsHeldThere (maps_of g) at texts id) here) a b
  carried_told texts a b h =
      puts_same (ToldOf (λ t. ToldHeld here texts t.0) ts) (IsEventAt TraitConflict (λ at id. IsHeldThere (maps_of g) at texts id) here) a b
      (λ e. (
        λ p. let t = p.0 in (t.0, (pair_carried t p.1, p.2.0), p.2.1),
        λ q.
            let p = carried_pair q.0 q.1.0 in
            let told : ToldHeld here texts q.0 e = (q.1.1, q.2) in
            (p.0, p.1, subst (λ o. ToldHeld here texts o e) (sym p.2) told),
      )) h

module _ (g : GraphMaps) (at trait : List ℕ) where
  -- what isn't there excludes nothing
  pub nothing_taken : fin.get g.shapes trait ≡ None → (Old : List ℕ → Type 0) → Joins Old (IsGreaterOfTrait g at trait) Old
  nothing_taken none Old =
      joins_none Old (IsGreaterOfTrait g at trait)
      (λ id h. subst (IsEntryText h.0)
      (ap (λ o. cond (is_shape o && not (is_prelude_id trait)) (conflicts_in (trait_of g trait trait_id)) no_nodes) none) h.1)

  -- of some, and then of others
  pub any_joined : (P Q R : List ℕ → Type 0) → ((o : List ℕ) → R o ↔ (P o ⊎ Q o)) → (Old Mid Now : List ℕ → Type 0)
      → Joins Old (IsGreaterOfAny g at trait P) Mid → Joins Mid (IsGreaterOfAny g at trait Q) Now
      → Joins Old (IsGreaterOfAny g at trait R) Now
  any_joined P Q R joins Old Mid Now h k =
      joins_same Old (λ id. IsGreaterOfAny g at trait P id ⊎ IsGreaterOfAny g at trait Q id) (IsGreaterOfAny g at trait R) Now
      (λ id. (
        λ s. elim s [ inl p ↦ (p.0, (joins p.0).1 (inl p.1), p.2) | inr q ↦ (q.0, (joins q.0).1 (inr q.1), q.2) ],
        λ r. elim ((joins r.0).0 r.1) [ inl p ↦ inl (r.0, p, r.2) | inr q ↦ inr (r.0, q, r.2) ],
      )) (joins_both Old (IsGreaterOfAny g at trait P) Mid (IsGreaterOfAny g at trait Q) Now h k)

  -- the same in other words
  pub any_same : (P R : List ℕ → Type 0) → ((o : List ℕ) → P o ↔ R o) → (Old Now : List ℕ → Type 0)
      → Joins Old (IsGreaterOfAny g at trait P) Now → Joins Old (IsGreaterOfAny g at trait R) Now
  any_same P R same Old Now h =
      joins_same Old (IsGreaterOfAny g at trait P) (IsGreaterOfAny g at trait R) Now
      (λ id. (λ p. (p.0, (same p.0).0 p.1, p.2), λ r. (r.0, (same r.0).1 r.1, r.2))) h

  pub any_none : (P : List ℕ → Type 0) → ((o : List ℕ) → P o → ⊥) → (Old : List ℕ → Type 0) → Joins Old (IsGreaterOfAny g at trait P) Old
  any_none P none Old = joins_none Old (IsGreaterOfAny g at trait P) (λ id p. none p.0 p.1)

  -- of the text that an entry is
  pub of_text : (n : Node) (other : List ℕ) → n ≡ text other → (Old Now : List ℕ → Type 0)
      → Joins Old (IsGreaterOfBoth g at trait other) Now → Joins Old (IsGreaterOfAny g at trait (λ o. n ≡ text o)) Now
  of_text n other is Old Now h =
      joins_same Old (IsGreaterOfBoth g at trait other) (IsGreaterOfAny g at trait (λ o. n ≡ text o)) Now
      (λ id. (
        λ t. (other, is, t),
        λ t. subst (λ o. IsGreaterOfBoth g at trait o id) (same_Some t.0 other (ap text_in (sym t.1 ∙ is))) t.2,
      )) h

-- where a test passes, and where it doesn't
module _ (P Old : List ℕ → Type 0) (test : Bool) where
  pub takes_passing : test ≡ true → (Now : List ℕ → Type 0) → Joins Old P Now → Joins Old (λ id. (test ≡ true) × P id) Now
  takes_passing passes Now h = joins_same Old P (λ id. (test ≡ true) × P id) Now (λ id. (λ t. (passes, t), λ p. p.1)) h

  pub takes_failing : test ≡ false → Joins Old (λ id. (test ≡ true) × P id) Old
  takes_failing fails = joins_none Old (λ id. (test ≡ true) × P id) (λ id p. apart (sym fails ∙ p.0))

-- what the table tells, and then what the shapes tell
both_parts : (g : GraphMaps) (id greater : List ℕ)
    → (HasExclusiveTraits g id greater ⊎ HasExcludedTrait g id greater) ↔ HasConflict g id greater
both_parts g id greater = (
  λ either. elim either [ inl table ↦ HasConflict.by_table table | inr shape ↦ HasConflict.by_shape shape ],
  parted,
)
  where
    parted : HasConflict g id greater → HasExclusiveTraits g id greater ⊎ HasExcludedTrait g id greater
    parted (HasConflict.by_table table) = inl table
    parted (HasConflict.by_shape shape) = inr shape

pub conflicts_put : (g : GraphMaps) (a b c : List ModelEvent) → Puts (IsEventOf TraitConflict (HasExclusiveTraits g)) a b
    → Puts (IsEventOf TraitConflict (HasExcludedTrait g)) b c → Puts (IsEventOf TraitConflict (HasConflict g)) a c
conflicts_put g a b c h k =
    puts_parts TraitConflict (HasExclusiveTraits g) (HasExcludedTrait g) (HasConflict g) a b c (both_parts g) h k
