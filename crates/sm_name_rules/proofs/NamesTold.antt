-- What is told of the rows and pairs of a service is what the rule on its names says.
use Rattle.std.proofs.Common.{◌≡◌, ◌⊎◌, ◌<◌, inl, inr, ℕ, Bool, true, false, List, [], ◌∷◌, Option, Some, None, get_or, length, refl, sym}
use Rattle.std.proofs.Common.{ap, ◌∙◌, subst, arith}
use Rattle.std.specs.Prelude.{◌↔◌, ◌&&◌, ◌||◌, is_some, not}
use Rattle.std.specs.FinMap as fin
use Rattle.std.specs.Option.{unwrap_or}
use Rattle.std.proofs.lemmas.Option.{none-some}
use Rattle.sm_tree.specs.Node.{Node, members_of}
use Rattle.sm_tree.specs.Parts.{tree_named}
use Rattle.sm_tree.specs.Same.{HasName}
use Rattle.sm_tree.specs.View.{members_view}
use Rattle.sm_tree.specs.declared.tree.Tree.{Tree}
use Rattle.sm_model.specs.EventView.{EventTold}
use Rattle.sm_model.specs.Graphs.{text_cmp, Entry, shape_entry, member_entry, ShapeEntry, GraphMaps}
use Rattle.sm_model.specs.GraphView.{IsShapeNumber, entries_of, maps_of}
use Rattle.sm_model.specs.Reaching.{IsMarked, id_of_number}
use Rattle.sm_model.specs.Relations.{HasEntry, IsInGraph, Reaches, WalksBy}
use Rattle.sm_model.specs.declared.event.ModelEvent.{ModelEvent}
use Rattle.sm_model.specs.declared.graph.Graph.{Graph}
use Rattle.sm_model.specs.declared.kind.Kind.TheVariants.{Operation, Resource, Service}
use Rattle.sm_model.proofs.NumberedIds.{number_of, related_in}
use Rattle.sm_model.proofs.Searching.{and_left, and_right}
use Rattle.sm_model.proofs.Worklist.{apart}
use Rattle.sm_compile.specs.Looked.{kind_in, kind_under}
use Rattle.sm_compile.proofs.ReachedNumbers.{same_number}
use Rattle.sm_compile.specs.Sound.{trait_in}
use Rattle.sm_compile.specs.TraitIds.{error_id}
use Rattle.sm_compile.specs.TraitNodes.{text_of}
use Rattle.sm_rules.specs.TraitRows.{is_among}
use Rattle.sm_rules.specs.Services.{HasWrongNames, IsNamedIn, KeepsName, name_again, wrong_rename}
use Rattle.sm_rules.specs.Words.{IsOwnShape, has_trait}
use Rattle.sm_rules.specs.RuleEvents.{IsEventAt, IsEventOf, Puts, rule_event}
use Rattle.sm_rules.specs.declared.rule.Rule.TheVariants.{ServiceNames}
use Rattle.sm_passes.specs.Closures.{AreInside, ToldOfServices}
use Rattle.sm_passes.specs.Folded.{folded}
use Rattle.sm_passes.specs.Owned.{is_own_shape, is_own_service}
use Rattle.sm_passes.specs.Putting.{IsWhere, ToldOf}
use Rattle.sm_passes.proofs.EventsPut.{puts_both, puts_same}
use Rattle.sm_passes.proofs.IdsRise.{falling, rising}
use Rattle.sm_passes.proofs.OwnServices.{service_own}
use Rattle.sm_passes.proofs.EntriesThere.{entry_there}
use Rattle.sm_passes.proofs.OwnShapes.{not_so, own_told, told_own}
use Rattle.sm_name_rules.specs.steps.Naming.{AreAlikeAmong, AreRowsAmong, IsKeyBy, IsNameBy, IsWrongBy, IsWrongName, ToldNames, ToldWrong}
use Rattle.sm_name_rules.specs.steps.Naming.{is_kept_kind, is_left, is_named, is_named_kind, is_own_named, keeps_name, renames_under}
use Rattle.sm_name_rules.proofs.GivenNames.{given_name, name_of_pair, one_key, pair_of_name, renames_are, some_renames}
use Rattle.sm_name_rules.proofs.RowsBelow.{ToldRows, ToldTwice, told_twice, twice_told}

-- a walk stays in the graph
walk_in : (m : GraphMaps) (between : List (List ℕ)) (a b : List ℕ) → WalksBy m a between b → IsInGraph m b
walk_in m [] a b h = (related_in h.0 m a b h.2).1
walk_in m (n ∷ more) a b h = walk_in m more n b h.1

module _ (g : Graph) where
  abbrev m : GraphMaps
  m = maps_of g

  abbrev count : ℕ
  count = length (entries_of g)

  -- a shape that keeps its name
  kept_there : (id : List ℕ) → keeps_name m id ≡ true → KeepsName m id
  kept_there id h = by (fin.get m.shapes id) refl h
    where
      either : (a b : Bool) → (a || b) ≡ true → (a ≡ true) ⊎ (b ≡ true)
      either true b h = inl refl
      either false b h = inr h

      by : (o : Option Entry) → fin.get m.shapes id ≡ o
          → (is_some (kind_in o) && (is_some (trait_in error_id o) || is_kept_kind (kind_in o))) ≡ true → KeepsName m id
      by None is h = absurd (apart h)
      by (Some (shape_entry s)) is h = (s, is, either (has_trait error_id s.traits) (is_kept_kind (Some s.kind)) h)
      by (Some (member_entry e)) is h = absurd (apart h)

  there_kept : (id : List ℕ) → KeepsName m id → keeps_name m id ≡ true
  there_kept id (s, there, why) =
      ap (λ o. is_some (kind_in o) && (is_some (trait_in error_id o) || is_kept_kind (kind_in o))) there ∙ by why
    where
      left : (a b : Bool) → a ≡ true → (a || b) ≡ true
      left true b h = refl
      left false b h = absurd (apart h)

      right : (a b : Bool) → b ≡ true → (a || b) ≡ true
      right true b h = refl
      right false b h = h

      by : ((has_trait error_id s.traits ≡ true) ⊎ (is_among (Operation ∷ Resource ∷ Service ∷ []) s.kind ≡ true))
          → (has_trait error_id s.traits || is_kept_kind (Some s.kind)) ≡ true
      by (inl h) = left (has_trait error_id s.traits) (is_kept_kind (Some s.kind)) h
      by (inr h) = right (has_trait error_id s.traits) (is_kept_kind (Some s.kind)) h

  module _ (inside : List Bool) where
    -- a name of `rename` that stands at a number, and one of nothing
    pub wrong_there : (id : List ℕ) (k : ℕ) → IsShapeNumber g k → id_of_number g k ≡ id → (b : Bool) → b ≡ is_left g inside k
        → (b ≡ true) ↔ IsWrongBy g inside id
    wrong_there id k within same b is = (
      λ h. forth (keeps_name m (id_of_number g k)) refl (sym is ∙ h),
      λ w. is ∙ back w (keeps_name m (id_of_number g k)) refl (get_or inside k false) refl,
    )
      where
        forth : (c : Bool) → keeps_name m (id_of_number g k) ≡ c → (c || not (get_or inside k false)) ≡ true → IsWrongBy g inside id
        forth true kept h = inl (subst (KeepsName m) same (kept_there (id_of_number g k) kept))
        forth false kept h = inr (λ n.
            let here : n.0 ≡ k = same_number g n.0 k n.1 within (n.2 ∙ sym same) in
            apart (sym (not_so (get_or inside k false) h) ∙ subst (IsMarked inside) here n.3))

        back : IsWrongBy g inside id → (c : Bool) → keeps_name m (id_of_number g k) ≡ c → (d : Bool) → get_or inside k false ≡ d
            → (c || not d) ≡ true
        back w true kept d marked = refl
        back w false kept false marked = refl
        back (inl keeps) false kept true marked = absurd (apart
            (sym kept ∙ there_kept (id_of_number g k) (subst (KeepsName m) (sym same) keeps)))
        back (inr none) false kept true marked = absurd (none (k, within, same, marked))

    pub wrong_nowhere : (id : List ℕ) → fin.get m.shapes id ≡ None → (true ≡ true) ↔ IsWrongBy g inside id
    wrong_nowhere id none = (
      λ h. inr (λ n.
          let e = entry_there g n.0 n.1 in
          none-some e.0 (sym none ∙ ap (fin.get m.shapes) (sym n.2) ∙ e.1)),
      λ w. refl,
    )

  module _ (service : ℕ) (inside : List Bool) (are : AreInside g service inside) where
    abbrev sid : List ℕ
    sid = id_of_number g service

    -- by the marks, and by the model
    wrong_same : (id : List ℕ) → IsWrongBy g inside id ↔ IsWrongName m sid id
    wrong_same id = (forth, back)
      where
        forth : IsWrongBy g inside id → IsWrongName m sid id
        forth (inl keeps) = inl keeps
        forth (inr none) = inr (λ reach.
            let k = number_of g id (walk_in m reach.0 sid id reach.1) in
            none (k.0, k.1, k.2, (are.marked k.0).1 (k.1, subst (Reaches m sid) (sym k.2) reach)))

        back : IsWrongName m sid id → IsWrongBy g inside id
        back (inl keeps) = inl keeps
        back (inr none) = inr (λ n. none (subst (Reaches m sid) n.2 ((are.marked n.0).0 n.3).1))

    pub wrong_put : (name : List ℕ) (b : Bool) → (b ≡ true) ↔ IsWrongBy g inside name → (before now : List ModelEvent)
        → Puts (IsWhere b (rule_event ServiceNames sid name)) before now
        → Puts (λ e. IsWrongName m sid name × (e ≡ rule_event ServiceNames sid name)) before now
    wrong_put name b tells before now h =
        puts_same (IsWhere b (rule_event ServiceNames sid name))
        (λ e. IsWrongName m sid name × (e ≡ rule_event ServiceNames sid name)) before now
        (λ e. (
          λ w. ((wrong_same name).0 (tells.0 w.0), w.1),
          λ w. (tells.1 ((wrong_same name).1 w.0), w.1),
        )) h

    module _ (v : ShapeEntry) (own : IsOwnShape m sid v) (kind : v.kind ≡ Service) (given : List ℕ → Option Node)
        (given_is : (key : List ℕ) → given key ≡ tree_named key (renames_under m sid)) where
      marked : (k : ℕ) → is_named g inside k ≡ true → IsMarked inside k
      marked k h = and_left (get_or inside k false) (is_own_named m (id_of_number g k)) h

      -- a number that passes, with its name
      named_in : (k : ℕ) (name : List ℕ) → is_named g inside k ≡ true
          → IsNameBy (text_of (given (id_of_number g k))) (id_of_number g k) name → IsNamedIn m sid v (id_of_number g k) name
      named_in k name h (parts, spelled, is) =
          let id = id_of_number g k in
          let rest = and_right (get_or inside k false) (is_own_shape m id && is_named_kind (kind_under m id)) h in
          let s = own_told m id (and_left (is_own_shape m id) (is_named_kind (kind_under m id)) rest) in
          record {
            s = s.0;
            own = s.1;
            kind = sym (ap (λ o. is_named_kind (kind_in o)) s.1.0) ∙ and_right (is_own_shape m id) (is_named_kind (kind_under m id)) rest;
            inside = (
              (v, own, kind),
              ((are.marked k).0 (marked k h)).1,
            );
            named = (parts, spelled, is ∙ ap (λ o. unwrap_or o parts.name) (given_name m sid v own.0 given given_is id));
          }

      -- and the other way round
      passes_named : (w : ShapeEntry) → HasEntry m sid (shape_entry w) → (k : ℕ) → k < count → (name : List ℕ)
          → IsNamedIn m sid w (id_of_number g k) name
          → (is_named g inside k ≡ true) × IsNameBy (text_of (given (id_of_number g k))) (id_of_number g k) name
      passes_named w there k small name n =
          let id = id_of_number g k in
          let a : get_or inside k false ≡ true = (are.marked k).1 (small, n.inside.1) in
          let b : is_own_shape m id ≡ true = told_own m id n.s n.own in
          let c : is_named_kind (kind_under m id) ≡ true = ap (λ o. is_named_kind (kind_in o)) n.own.0 ∙ n.kind in (
            λ i. a i && (b i && c i),
            (
              n.named.0,
              n.named.1,
              n.named.2 ∙ ap (λ o. unwrap_or o n.named.0.name) (sym (given_name m sid w there given given_is id)),
            ),
          )

      -- rows of numbers among which are any two with one key
      module _ (pairs : List (List ℕ × Tree)) (pairs_are : members_of (members_view pairs) ≡ renames_under m sid) (Among : ℕ → Type 0)
          (alike : AreAlikeAmong g inside given Among) (rows : List (List ℕ × ℕ))
          (rows_are : AreRowsAmong Among (is_named g inside) (IsKeyBy given g) rows) where
        abbrev Holds : ℕ → Type 0
        Holds k = Among k × (is_named g inside k ≡ true)

        abbrev At : ℕ → EventTold → Type 0
        At k e = e ≡ rule_event ServiceNames sid (id_of_number g k)

        abbrev Told : EventTold → Type 0
        Told e = ToldRows At rows e ⊎ ToldOf (ToldWrong m sid) pairs e

        again : (e : EventTold) → ToldTwice At Holds (IsKeyBy given g) rows rows_are e → IsEventAt ServiceNames (HasWrongNames m) sid e
        again e (j, k, key, less, cj, ck, kj, kk, is) =
            let small : k < count = ((are.marked k).0 (marked k ck.1)).0 in (
              id_of_number g k,
              name_again (record {
                v = v;
                own = own;
                name = kk.0;
                named = named_in k kk.0 ck.1 kk.1;
                smaller = id_of_number g j;
                other = kj.0;
                other_named = named_in j kj.0 cj.1 kj.1;
                order = rising g j k less small;
                same = sym kj.2 ∙ kk.2;
              }),
              is,
            )

        forth : (e : EventTold) → Told e → IsEventAt ServiceNames (HasWrongNames m) sid e
        forth e (inl h) = again e (told_twice At Holds (IsKeyBy given g) rows rows_are e h)
        forth e (inr (p, among, w)) =
            let named = some_renames m sid v own.0 p.0 (subst (HasName p.0) pairs_are (name_of_pair pairs p among)) in (
              p.0,
              wrong_rename (record {
                v = v;
                own = own;
                kind = kind;
                pairs = named.0;
                rename = named.1;
                among = named.2;
                wrong = w.0;
              }),
              w.1,
            )

        back : (e : EventTold) → IsEventAt ServiceNames (HasWrongNames m) sid e → Told e
        back e (detail, name_again h, is) =
            let k = number_of g detail (shape_entry h.named.s, h.named.own.0) in
            let j = number_of g h.smaller (shape_entry h.other_named.s, h.other_named.own.0) in
            let nk = passes_named h.v h.own.0 k.0 k.1 h.name (subst (λ i. IsNamedIn m sid h.v i h.name) (sym k.2) h.named) in
            let nj = passes_named h.v h.own.0 j.0 j.1 h.other (subst (λ i. IsNamedIn m sid h.v i h.other) (sym j.2) h.other_named) in
            let order = ap (λ a. text_cmp a (id_of_number g k.0)) j.2 ∙ ap (text_cmp h.smaller) k.2 ∙ h.order in
            let less : j.0 < k.0 = falling g j.0 k.0 j.1 k.1 order in
            let kj : IsKeyBy given g j.0 (folded h.name) = (h.other, nj.1, sym h.same) in
            let kk : IsKeyBy given g k.0 (folded h.name) = (h.name, nk.1, refl) in
            let aj = alike j.0 k.0 (folded h.name) (λ same. omega (arith, less, same)) (nj.0, kj) (nk.0, kk) in
            let ak = alike k.0 j.0 (folded h.name) (λ same. omega (arith, less, same)) (nk.0, kk) (nj.0, kj) in
            inl (twice_told At Holds (IsKeyBy given g) rows rows_are (one_key given g) e (
              j.0,
              k.0,
              folded h.name,
              less,
              (aj, nj.0),
              (ak, nk.0),
              kj,
              kk,
              is ∙ ap (rule_event ServiceNames sid) (sym k.2),
            ))
        back e (detail, wrong_rename h, is) =
            let p = pair_of_name pairs detail
            (subst (HasName detail) (sym (renames_are m sid h.v h.own.0 h.pairs h.rename) ∙ sym pairs_are) h.among) in
            inr (p.0, p.1, (subst (IsWrongName m sid) (sym p.2) h.wrong, is ∙ ap (rule_event ServiceNames sid) (sym p.2)))

        pub names_put : (a b c : List ModelEvent) → Puts (ToldRows At rows) a b → Puts (ToldOf (ToldWrong m sid) pairs) b c
            → Puts (IsEventAt ServiceNames (HasWrongNames m) sid) a c
        names_put a b c h k =
            puts_same Told (IsEventAt ServiceNames (HasWrongNames m) sid) a c (λ e. (forth e, back e))
            (puts_both _ _ a b c h k)

-- who is told of is a service of the graph
pub names_there : (g : GraphMaps) (id detail : List ℕ) → HasWrongNames g id detail → IsInGraph g id
names_there g id detail (name_again h) = (shape_entry h.v, h.own.0)
names_there g id detail (wrong_rename h) = (shape_entry h.v, h.own.0)

-- and what is told at all services outside of the prelude is what is told
pub names_all : (g : Graph) (before now : List ModelEvent) → Puts (ToldOfServices g (ToldNames g)) before now
    → Puts (IsEventOf ServiceNames (HasWrongNames (maps_of g))) before now
names_all g before now h =
    puts_same (ToldOfServices g (ToldNames g)) (IsEventOf ServiceNames (HasWrongNames (maps_of g))) before now (λ e. (forth e, back e)) h
  where
    own : (id detail : List ℕ) → HasWrongNames (maps_of g) id detail → is_own_service (maps_of g) id ≡ true
    own id detail (name_again h) = service_own (maps_of g) id h.named.inside.0
    own id detail (wrong_rename h) = service_own (maps_of g) id (h.v, h.own, h.kind)

    forth : (e : EventTold) → ToldOfServices g (ToldNames g) e → IsEventOf ServiceNames (HasWrongNames (maps_of g)) e
    forth e (k, service, t) = (id_of_number g k, t.0, t.1, t.2)

    back : (e : EventTold) → IsEventOf ServiceNames (HasWrongNames (maps_of g)) e → ToldOfServices g (ToldNames g) e
    back e (id, detail, wrong, is) =
        let k = number_of g id (names_there (maps_of g) id detail wrong) in (
          k.0,
          (k.1, subst (λ i. is_own_service (maps_of g) i ≡ true) (sym k.2) (own id detail wrong)),
          subst (λ i. IsEventAt ServiceNames (HasWrongNames (maps_of g)) i e) (sym k.2) (detail, wrong, is),
        )
