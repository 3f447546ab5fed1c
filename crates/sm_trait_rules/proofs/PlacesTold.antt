-- What is told of the carriers of each trait by its selector is what the rule says.
use Rattle.std.proofs.Common.{◌≡◌, ◌<◌, ℕ, zero, suc, Bool, true, false, cond, List, [], ◌∷◌, ◌++◌, Option, Some, None, get_or, length, map}
use Rattle.std.proofs.Common.{refl, sym, ◌+◌, ap, ◌∙◌, subst, take, arith}
use Rattle.std.specs.Prelude.{◌&&◌, ◌==◌, ◌↔◌, codes, is_some, not}
use Rattle.std.specs.FinMap as fin
use Rattle.std.specs.List.{Contains}
use Rattle.std.proofs.lemmas.Bool.{eqb-true}
use Rattle.std.proofs.lemmas.List.{get_or_default, length-map, map-append, take_more}
use Rattle.std.proofs.lemmas.List.Elements.{Contains-get_or}
use Rattle.std.proofs.lemmas.Option.{none-some, same_Some}
use Rattle.std.proofs.Math.Bool.{and-true, or-false}
use Rattle.sm_tree.specs.Node.{Node}
use Rattle.sm_model.specs.EventView.{EventTold}
use Rattle.sm_model.specs.Graphs.{Entry, GraphMaps, shape_entry}
use Rattle.sm_model.specs.GraphView.{IsShapeNumber, entries_of, maps_of}
use Rattle.sm_model.specs.Reaching.{id_of_number}
use Rattle.sm_model.specs.declared.event.ModelEvent.{ModelEvent}
use Rattle.sm_model.specs.declared.graph.Graph.{Graph}
use Rattle.sm_model.proofs.NumberedIds.{number_of}
use Rattle.sm_model.proofs.Worklist.{apart}
use Rattle.sm_select.specs.Answers.{ArePickedAmong}
use Rattle.sm_select.specs.Picks.{IsPicked}
use Rattle.sm_select.specs.SelectorText.{IsSelectorText, SelectorText}
use Rattle.sm_select.specs.Selectors.{Steps}
use Rattle.sm_select.proofs.MarkedNumbers.{unset}
use Rattle.sm_select.proofs.OneAnswer.{one_selector}
use Rattle.sm_compile.specs.Sound.{trait_in, trait_of}
use Rattle.sm_compile.specs.TraitIds.{trait_id}
use Rattle.sm_compile.specs.TraitNodes.{field_of, is_object, is_text, text_of, where_there}
use Rattle.sm_rules.specs.TraitRows.{are_text_nodes, is_as_one, rows_of, that_reads}
use Rattle.sm_rules.specs.Words.{field_in}
use Rattle.sm_compile.proofs.TabledShapes.{mapped_from}
use Rattle.sm_rules.specs.RuleEvents.{IsEventOf, Puts, rule_event}
use Rattle.sm_rules.specs.declared.rule.Rule.TheVariants.{TraitPlace}
use Rattle.sm_http_traits.proofs.HttpSaid.{free}
use Rattle.sm_passes.specs.Owned.{is_own_shape}
use Rattle.sm_passes.specs.Forms.{is_trait_value}
use Rattle.sm_passes.specs.Putting.{Below, ToldOf}
use Rattle.sm_passes.proofs.EventsPut.{puts_none, puts_same}
use Rattle.sm_passes.proofs.OwnShapes.{own_told, told_own}
use Rattle.sm_trait_rules.specs.steps.Placing.{AreFirsts, AreOfText, AreUses, AreUsesThere, IsUse, SharesText, ToldOfUse, ToldOutside}
use Rattle.sm_trait_rules.specs.steps.Placing.{ToldUnmarked, selector_in, selector_under, told_use}
use Rattle.sm_rules.specs.TraitShapes.{IsNotPicked, IsTraitShape, selector_of}

-- the row of the trait `trait`
pub row_reads : (n : Node) → is_as_one (rows_of trait_id) n ≡ is_trait_value n
row_reads n =
    or-false _
    ∙ (λ i. is_object n && (and-true (where_there is_text (field_of (codes "selector") n)) i
    && free are_text_nodes (field_of (codes "conflicts") n) i))

selector_read : (o : Option Node) → text_of (field_in (codes "selector") (that_reads trait_id o)) ≡ selector_in o
selector_read None = refl
selector_read (Some n) = ap (λ b. text_of (field_in (codes "selector") (cond b (Some n) None))) (row_reads n) ∙ by (is_trait_value n)
  where
    by : (b : Bool) → text_of (field_in (codes "selector") (cond b (Some n) None)) ≡ cond b (text_of (field_of (codes "selector") n)) None
    by true = refl
    by false = refl

value_there : (o : Option Node) (text : List ℕ) → selector_in o ≡ Some text → is_some o ≡ true
value_there None text h = absurd (none-some text h)
value_there (Some n) text h = refl

pub some_of : (o : Option Node) → is_some o ≡ true → (n : Node) × (o ≡ Some n)
some_of None h = absurd (apart h)
some_of (Some n) h = (n, refl)

pub entry_of : (trait : List ℕ) (o : Option Entry) (n : Node) → trait_in trait o ≡ Some n → (e : Entry) × (o ≡ Some e)
entry_of trait None n h = absurd (none-some n h)
entry_of trait (Some e) n h = (e, refl)

module _ (g : GraphMaps) (trait : List ℕ) where
  -- a selector that is seen is that of a trait shape
  pub said_seen : (text : List ℕ) → selector_under g trait ≡ Some text → IsTraitShape g trait × (selector_of g trait ≡ Some text)
  said_seen text h = by (is_own_shape g trait) refl h
    where
      by : (b : Bool) → is_own_shape g trait ≡ b → cond b (selector_in (trait_of g trait trait_id)) None ≡ Some text
          → IsTraitShape g trait × (selector_of g trait ≡ Some text)
      by true is h =
          let own = own_told g trait is in
          let there = sym (ap (λ o. is_some (trait_in trait_id o)) own.1.0) ∙ value_there (trait_of g trait trait_id) text h in
          ((own.0, own.1, there), selector_read (trait_of g trait trait_id) ∙ h)
      by false is h = absurd (none-some text h)

  -- and that of a trait shape is seen
  pub seen_said : (text : List ℕ) → IsTraitShape g trait → selector_of g trait ≡ Some text → selector_under g trait ≡ Some text
  seen_said text shape said =
      ap (λ b. cond b (selector_in (trait_of g trait trait_id)) None) (told_own g trait shape.0 shape.1)
      ∙ sym (selector_read (trait_of g trait trait_id)) ∙ said

carrier_at : (us : List (ℕ × ℕ)) (i : ℕ) → get_or (map (λ (u : ℕ × ℕ). u.0) us) i 0 ≡ (get_or us i (0, 0)).0
carrier_at [] i = refl
carrier_at (u ∷ us) zero = refl
carrier_at (u ∷ us) (suc i) = carrier_at us i

-- uses that are there carry what is there, one more at a time
pub carriers_more : (us : List (ℕ × ℕ)) (i : ℕ) (u : ℕ × ℕ) (ks : List ℕ) → i < length us → u ≡ get_or us i u
    → ks ≡ map (λ (v : ℕ × ℕ). v.0) (take i us) → ks ++ u.0 ∷ [] ≡ map (λ (v : ℕ × ℕ). v.0) (take (i + 1) us)
carriers_more us i u ks within is so =
    ap (λ xs. xs ++ u.0 ∷ []) so ∙ sym (map-append (λ (v : ℕ × ℕ). v.0) (take i us) (u ∷ []))
    ∙ ap (map (λ (v : ℕ × ℕ). v.0)) (sym (take_more us i u within ∙ ap (λ y. take i us ++ y ∷ []) (sym is)))

pub carriers_there : (g : Graph) (us : List (ℕ × ℕ)) → AreUsesThere g us → (k : ℕ) → Contains (map (λ (u : ℕ × ℕ). u.0) us) k
    → IsShapeNumber g k
carriers_there g us are k among =
    let u = mapped_from (λ (v : ℕ × ℕ). v.0) us k among in
    subst (IsShapeNumber g) u.2 (are u.0 u.1).0

pub none_there : (us : List (ℕ × ℕ)) (b : Bool) → b ≡ (length us == 0) → b ≡ true → us ≡ []
none_there [] b said is = refl
none_there (u ∷ us) b said is = absurd (let n : length (u ∷ us) ≡ 0 = eqb-true (length (u ∷ us)) 0 (sym said ∙ is) in omega (arith, n))

module _ (g : Graph) where
  -- where a trait has no selector, nothing is told of its uses
  pub none_told : (us : List (ℕ × ℕ)) → AreOfText g None us → (es : List ModelEvent) → Puts (ToldOf (ToldOfUse g) us) es es
  none_told us of es =
      puts_none (ToldOf (ToldOfUse g) us) es
      (λ e t.
      let h = t.2.0 in
      none-some h.text (sym (of t.0 t.1).1 ∙ seen_said (maps_of g) (id_of_number g t.0.1) h.text h.shape h.said))

  module _ (text : List ℕ) (us : List (ℕ × ℕ)) (of : AreOfText g (Some text) us) where
    one_text : (u : ℕ × ℕ) → Contains us u → (h : IsNotPicked (maps_of g) (id_of_number g u.0) (id_of_number g u.1)) → h.text ≡ text
    one_text u among h =
        same_Some h.text text (sym (seen_said (maps_of g) (id_of_number g u.1) h.text h.shape h.said) ∙ (of u among).1)

    -- a text that is no selector isn't applied
    pub unapplied : (IsSelectorText text → ⊥) → (es : List ModelEvent) → Puts (ToldOf (ToldOfUse g) us) es es
    unapplied none es =
        puts_none (ToldOf (ToldOfUse g) us) es
        (λ e t.
        let h = t.2.0 in
        none (h.steps, subst (SelectorText h.steps) (one_text t.0 t.1 h) h.spells))

    applied : (steps : Steps) → SelectorText steps text → (e : EventTold) → ToldOf (ToldOutside g steps) us e ↔ ToldOf (ToldOfUse g) us e
    applied steps spells e = (
      λ t.
          let u = t.0 in
          let here = of u t.1 in
          let said = said_seen (maps_of g) (id_of_number g u.1) text here.1 in
          let told : IsNotPicked (maps_of g) (id_of_number g u.0) (id_of_number g u.1) =
          record {
            n = here.0.2.0;
            carries = here.0.2.1;
            shape = said.0;
            text = text;
            said = said.1;
            steps = steps;
            spells = spells;
            not_picked = t.2.0;
          } in
          (u, t.1, (told, t.2.1)),
      λ t.
          let u = t.0 in
          let h = t.2.0 in
          let same : steps ≡ h.steps =
          one_selector text steps h.steps spells (subst (SelectorText h.steps) (one_text u t.1 h) h.spells) in
          (u, t.1, (λ p. h.not_picked (subst (λ s. IsPicked (maps_of g) s (id_of_number g u.0)) same p), t.2.1)),
    )

    pub selector_put : (steps : Steps) → SelectorText steps text → (a b : List ModelEvent) → Puts (ToldOf (ToldOutside g steps) us) a b
        → Puts (ToldOf (ToldOfUse g) us) a b
    selector_put steps spells a b h = puts_same (ToldOf (ToldOutside g steps) us) (ToldOf (ToldOfUse g) us) a b (applied steps spells) h

  -- by marks of the carriers that are picked
  module _ (steps : Steps) (us : List (ℕ × ℕ)) (marks : List Bool)
      (are : ArePickedAmong g steps (map (λ (u : ℕ × ℕ). u.0) us) marks) where
    place_marked : (i : ℕ) → i < length us → IsPicked (maps_of g) steps (id_of_number g (get_or us i (0, 0)).0)
        → get_or marks i false ≡ true
    place_marked i small p =
        (are.marked i).1 (
          subst (λ n. i < n) (sym (length-map us (λ (u : ℕ × ℕ). u.0))) small,
          subst (λ k. IsPicked (maps_of g) steps (id_of_number g k)) (sym (carrier_at us i)) p,
        )

    marked_place : (i : ℕ) → get_or marks i false ≡ true → IsPicked (maps_of g) steps (id_of_number g (get_or us i (0, 0)).0)
    marked_place i m = subst (λ k. IsPicked (maps_of g) steps (id_of_number g k)) (carrier_at us i) ((are.marked i).0 m).1

    unmarked_told : (e : EventTold) → Below (ToldUnmarked g us marks) (length us) e ↔ ToldOf (ToldOutside g steps) us e
    unmarked_told e = (
      λ b.
          let u = get_or us b.0 (0, 0) in
          let unmarked : get_or marks b.0 false ≡ false = free_mark (get_or marks b.0 false) b.2.0 in
          (u, Contains-get_or us b.0 (0, 0) b.1, (λ p. apart (sym unmarked ∙ place_marked b.0 b.1 p), b.2.1)),
      λ t.
          let c = t.1 in
          let i = c.0 in
          let at : get_or us i (0, 0) ≡ t.0 = get_or_default us i (0, 0) t.0 c.1 ∙ c.2 in
          let unmarked : get_or marks i false ≡ false =
          unset (get_or marks i false)
          (λ m. t.2.0 (subst (λ (u : ℕ × ℕ). IsPicked (maps_of g) steps (id_of_number g u.0)) at (marked_place i m))) in
          (i, c.1, (ap not unmarked, t.2.1 ∙ ap (told_use g) (sym at))),
    )
      where
        free_mark : (b : Bool) → not b ≡ true → b ≡ false
        free_mark true h = absurd (apart h)
        free_mark false h = refl

    pub unmarked_put : (a b : List ModelEvent) → Puts (Below (ToldUnmarked g us marks) (length us)) a b
        → Puts (ToldOf (ToldOutside g steps) us) a b
    unmarked_put a b h =
        puts_same (Below (ToldUnmarked g us marks) (length us)) (ToldOf (ToldOutside g steps) us) a b unmarked_told h

  -- those that stand under one number have one text
  module _ (firsts : List (Option ℕ)) (rows : List (List (ℕ × ℕ))) (are : AreFirsts g firsts) (uses : AreUses g firsts rows) where
    pub of_text : (first : ℕ) → AreOfText g (selector_under (maps_of g) (id_of_number g first)) (get_or rows first [])
    of_text first u among =
        let h = (uses.uses (first, u)).0 among in
        let s = subst (SharesText g u.1) h.1 (are.each u.1 h.0.1) in
        (h.0, s.1.1 ∙ sym s.2.1)

    -- and each use stands under one
    rows_told : (e : EventTold)
        → Below (λ first. ToldOf (ToldOfUse g) (get_or rows first [])) (length (entries_of g)) e
        ↔ IsEventOf TraitPlace (IsNotPicked (maps_of g)) e
    rows_told e = (
      λ b. let t = b.2 in (id_of_number g t.0.0, id_of_number g t.0.1, t.2.0, t.2.1),
      λ t.
          let m = maps_of g in
          let h = t.2 in
          let j = number_of g t.0 (entry_of t.1 (fin.get m.shapes t.0) h.n h.carries.1) in
          let k = number_of g t.1 (shape_entry h.shape.0, h.shape.1.0) in
          let here : IsNotPicked m (id_of_number g j.0) (id_of_number g k.0) =
          subst (λ id. IsNotPicked m id (id_of_number g k.0)) (sym j.2) (subst (IsNotPicked m t.0) (sym k.2) h) in
          let used : IsUse g (j.0, k.0) = (j.1, k.1, (here.n, here.carries)) in
          let told : ToldOfUse g (j.0, k.0) e = (here, t.3 ∙ (λ i. rule_event TraitPlace (sym j.2 i) (sym k.2 i))) in
          let said = seen_said m (id_of_number g k.0) here.text here.shape here.said in
          under j.0 k.0 used told here.text said (get_or firsts k.0 None) refl (are.each k.0 k.1),
    )
      where
        under : (j k : ℕ) → IsUse g (j, k) → ToldOfUse g (j, k) e → (text : List ℕ)
            → selector_under (maps_of g) (id_of_number g k) ≡ Some text → (o : Option ℕ) → get_or firsts k None ≡ o → SharesText g k o
            → Below (λ first. ToldOf (ToldOfUse g) (get_or rows first [])) (length (entries_of g)) e
        under j k used told text said None is shares = absurd (none-some text (sym shares ∙ said))
        under j k used told text said (Some first) is shares =
            (first, shares.2.0, ((j, k), (uses.uses (first, (j, k))).1 (used, is), told))

    pub rows_put : (a b : List ModelEvent)
        → Puts (Below (λ first. ToldOf (ToldOfUse g) (get_or rows first [])) (length (entries_of g))) a b
        → Puts (IsEventOf TraitPlace (IsNotPicked (maps_of g))) a b
    rows_put a b h =
        puts_same (Below (λ first. ToldOf (ToldOfUse g) (get_or rows first [])) (length (entries_of g)))
        (IsEventOf TraitPlace (IsNotPicked (maps_of g))) a b rows_told h
