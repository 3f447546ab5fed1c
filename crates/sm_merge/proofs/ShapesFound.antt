-- The table of shapes has what the first statement of each shape says, and its wrong ids are those of which statements differ.
use Rattle.std.proofs.Common.{◌≡◌, ◌⊎◌, ◌<◌, inl, inr, ℕ, zero, suc, Bool, true, false, cond, List, [], ◌∷◌, ◌++◌, map, length, Option}
use Rattle.std.proofs.Common.{Some, None, refl, sym, ap, subst, ◌∙◌, append_assoc, arith, bytes_eq}
use Rattle.std.specs.Prelude.{◌&&◌, if◌then◌else◌, not, slice_get}
use Rattle.std.specs.List.{Contains, cons_option, flat_map}
use Rattle.std.specs.Option.{is_some, option_map, unwrap_or}
use Rattle.std.specs.FinMap.Entries.{find}
use Rattle.std.specs.Ordering.{is_eq}
use Rattle.std.proofs.lemmas.Bool.{cases_Bool, true≢false}
use Rattle.std.proofs.lemmas.List.Elements.{filter_map-append}
use Rattle.std.proofs.lemmas.Option.{slice_get-map}
use Rattle.std.proofs.lemmas.Slice.Eq.{bytes_eq-Decides}
use Rattle.sm_tree.specs.Same.{SameToItself}
use Rattle.sm_model.specs.Graphs.{text_cmp}
use Rattle.sm_model.specs.PreludeShapes.{is_prelude_id}
use Rattle.sm_model.specs.steps.Rising.{IsBelow, Rise}
use Rattle.sm_merge.specs.Merged.{HasOtherShape, IsStatedAgain}
use Rattle.sm_merge.specs.Places.{Agree, shape_under, shapes_under}
use Rattle.sm_merge.specs.Stated.{ShapeStated, Stated, apply_stated, metadata_stated, shape_stated}
use Rattle.sm_groups.specs.Groups.{AreGroupsOf, all_under, if_under}
use Rattle.sm_merge.specs.steps.Placed.{Bare, bare_by, bare_of, bare_view, bares_view}
use Rattle.sm_merge.specs.steps.ShapeTables.{AgreeBare, ArePicked, AreShapesFrom, AreShapesOf, AreSoundRows, AreSoundUnder, AreWrong}
use Rattle.sm_merge.specs.steps.ShapeTables.{IsShapeTable, PutsIf, SomeDiffer}
use Rattle.sm_merge.specs.steps.ShapeTables.{all_bare, head_alone, ids_of, kept_of, shapes_view}
use Rattle.sm_merge.specs.steps.Tables.{HoldGroups}
use Rattle.sm_merge.specs.declared.parts.BareShape.{BareShape}
use Rattle.sm_merge.specs.declared.shapes.Shapes.{Shapes}
use Rattle.sm_groups.proofs.GroupsMade.{found_none, tests}
use Rattle.sm_merge.proofs.TablesMade.{AllFound, all_found, hold_groups, seen_under}

abbrev Groups : Type 0
Groups = List (List ℕ × List BareShape)

abbrev keys : Groups → List (List ℕ)
keys gs = map (λ g. g.0) gs

-- the groups stand under their own ids
sound_under : (key : List ℕ) (es : List (List ℕ × BareShape)) → AreSoundRows es → AreSoundUnder key (all_under key es)
sound_under key [] h = tt
sound_under key (e ∷ es) h = by_test (sound_under key es h.2) (bytes_eq e.0 key) refl
  where
    by_test : AreSoundUnder key (all_under key es) → (b : Bool) → bytes_eq e.0 key ≡ b
        → AreSoundUnder key (cons_option (if b then Some e.1 else None) (all_under key es))
    by_test rest true same = (h.0 ∙ (bytes_eq-Decides e.0 key).0 same, h.1, rest)
    by_test rest false same = rest

pub groups_sound : (es : List (List ℕ × BareShape)) (gs : Groups) → AreGroupsOf es gs → AreSoundRows es → HoldGroups AreSoundUnder gs
groups_sound es gs are h = hold_groups AreSoundUnder es gs are (λ key. sound_under key es h)

-- ids of those that are kept rise
below_kept : (k : List ℕ) (gs : Groups) → HoldGroups AreSoundUnder gs → IsBelow k (keys gs) → IsBelow k (ids_of (flat_map kept_of gs))
below_kept k [] sound below = tt
below_kept k (g ∷ gs) sound below = by_test (below_kept k gs sound.1 below.1) (is_prelude_id g.0) g.1 sound.0
  where
    by_test : IsBelow k (ids_of (flat_map kept_of gs)) → (b : Bool) (vs : List BareShape) → AreSoundUnder g.0 vs
        → IsBelow k (ids_of ((if b then [] else head_alone vs) ++ flat_map kept_of gs))
    by_test rest true vs s = rest
    by_test rest false [] s = rest
    by_test rest false (v ∷ vs) s = (ap (text_cmp k) s.0 ∙ below.0, rest)

rise_kept : (gs : Groups) → HoldGroups AreSoundUnder gs → Rise (keys gs) → Rise (ids_of (flat_map kept_of gs))
rise_kept [] sound rise = tt
rise_kept (g ∷ gs) sound rise = by_test (rise_kept gs sound.1 rise.1) (is_prelude_id g.0) g.1 sound.0
  where
    by_test : Rise (ids_of (flat_map kept_of gs)) → (b : Bool) (vs : List BareShape) → AreSoundUnder g.0 vs
        → Rise (ids_of ((if b then [] else head_alone vs) ++ flat_map kept_of gs))
    by_test rest true vs s = rest
    by_test rest false [] s = rest
    by_test rest false (v ∷ vs) s =
        (subst (λ k. IsBelow k (ids_of (flat_map kept_of gs))) (sym s.0) (below_kept g.0 gs sound.1 rise.0), rest)

-- what is found among those that are kept
abbrev first_bare : List BareShape → Option Bare
first_bare vs = option_map bare_view (slice_get vs 0)

abbrev kept_bare : List ℕ → Option (List BareShape) → Option Bare
kept_bare id o = if is_prelude_id id then None else first_bare (unwrap_or o [])

find_kept : (id : List ℕ) (gs : Groups) → HoldGroups AreSoundUnder gs → Rise (keys gs)
    → find text_cmp id (shapes_view (flat_map kept_of gs)) ≡ kept_bare id (find text_cmp id gs)
find_kept id [] sound rise = by_test (is_prelude_id id)
  where
    by_test : (b : Bool) → None ≡ (if b then None else first_bare [])
    by_test true = refl
    by_test false = refl
find_kept id (g ∷ gs) sound rise =
    by_key (find_kept id gs sound.1 rise.1) (bytes_eq g.0 id) refl (is_prelude_id g.0) refl g.1 sound.0
  where
    passed : bytes_eq g.0 id ≡ false → (vs : List BareShape)
        → cond (is_eq (text_cmp id g.0)) (Some vs) (find text_cmp id gs) ≡ find text_cmp id gs
    passed apart vs = ap (λ b. cond b (Some vs) (find text_cmp id gs)) (tests id g.0 ∙ apart)

    here : bytes_eq g.0 id ≡ true → (vs : List BareShape) → cond (is_eq (text_cmp id g.0)) (Some vs) (find text_cmp id gs) ≡ Some vs
    here same vs = ap (λ b. cond b (Some vs) (find text_cmp id gs)) (tests id g.0 ∙ same)

    prelude_same : bytes_eq g.0 id ≡ true → is_prelude_id id ≡ is_prelude_id g.0
    prelude_same same = ap is_prelude_id (sym ((bytes_eq-Decides g.0 id).0 same))

    none_behind : bytes_eq g.0 id ≡ true → find text_cmp id gs ≡ None
    none_behind same = subst (λ k. find text_cmp k gs ≡ None) ((bytes_eq-Decides g.0 id).0 same) (found_none g.0 gs rise.0)

    by_key : find text_cmp id (shapes_view (flat_map kept_of gs)) ≡ kept_bare id (find text_cmp id gs) → (t : Bool)
        → bytes_eq g.0 id ≡ t → (b : Bool) → is_prelude_id g.0 ≡ b → (vs : List BareShape) → AreSoundUnder g.0 vs
        → find text_cmp id (shapes_view ((if b then [] else head_alone vs) ++ flat_map kept_of gs))
        ≡ kept_bare id (cond (is_eq (text_cmp id g.0)) (Some vs) (find text_cmp id gs))
    by_key rest true same true of_prelude vs s =
        let is : is_prelude_id id ≡ true = prelude_same same ∙ of_prelude in
        rest ∙ ap (λ b. if b then None else first_bare (unwrap_or (find text_cmp id gs) [])) is
        ∙ sym (ap (λ b. if b then None else first_bare (unwrap_or (cond (is_eq (text_cmp id g.0)) (Some vs) (find text_cmp id gs)) [])) is)
    by_key rest true same false own [] s =
        rest ∙ ap (kept_bare id) (none_behind same) ∙ sym (ap (kept_bare id) (here same []))
    by_key rest true same false own (v ∷ vs) s =
        let at_v : bytes_eq v.id id ≡ true = ap (λ k. bytes_eq k id) s.0 ∙ same in
        ap (λ b. cond b (Some (bare_view v)) (find text_cmp id (shapes_view (flat_map kept_of gs)))) (tests id v.id ∙ at_v)
        ∙ sym (ap (kept_bare id) (here same (v ∷ vs))
        ∙ ap (λ b. if b then None else Some (bare_view v)) (prelude_same same ∙ own))
    by_key rest false apart true of_prelude vs s = rest ∙ sym (ap (kept_bare id) (passed apart vs))
    by_key rest false apart false own [] s = rest ∙ sym (ap (kept_bare id) (passed apart []))
    by_key rest false apart false own (v ∷ vs) s =
        let at_v : bytes_eq v.id id ≡ false = ap (λ k. bytes_eq k id) s.0 ∙ apart in
        ap (λ b. cond b (Some (bare_view v)) (find text_cmp id (shapes_view (flat_map kept_of gs)))) (tests id v.id ∙ at_v)
        ∙ rest ∙ sym (ap (kept_bare id) (passed apart (v ∷ vs)))

-- the shapes that are stated under an id, without traits
abbrev bares_under : List ℕ → List Stated → List Bare
bares_under id ss = all_under id (flat_map bare_by ss)

bares_joined : (id : List ℕ) (s : Stated) (ss : List Stated)
    → bares_under id (s ∷ ss) ≡ all_under id (bare_by s) ++ bares_under id ss
bares_joined id s ss = filter_map-append (if_under id) (bare_by s) (flat_map bare_by ss)

own_shapes : (id : List ℕ) → is_prelude_id id ≡ false → (ss : List Stated) → bares_under id ss ≡ map bare_of (shapes_under id ss)
own_shapes id own [] = refl
own_shapes id own (metadata_stated key value ∷ ss) = own_shapes id own ss
own_shapes id own (shape_stated s ∷ ss) = by_test (own_shapes id own ss) (bytes_eq s.shape.id id)
  where
    by_test : bares_under id ss ≡ map bare_of (shapes_under id ss) → (b : Bool)
        → cons_option (if b then Some (bare_of s) else None) (bares_under id ss)
        ≡ map bare_of (cons_option (if b && not (is_prelude_id id) then Some s else None) (shapes_under id ss))
    by_test rest true =
        ap (λ bs. bare_of s ∷ bs) rest
        ∙ sym (ap (λ p. map bare_of (cons_option (if not p then Some s else None) (shapes_under id ss))) own)
    by_test rest false = rest
own_shapes id own (apply_stated target traits ∷ ss) = own_shapes id own ss

no_shapes : (id : List ℕ) → is_prelude_id id ≡ true → (ss : List Stated) → shapes_under id ss ≡ []
no_shapes id is [] = refl
no_shapes id is (metadata_stated key value ∷ ss) = no_shapes id is ss
no_shapes id is (shape_stated s ∷ ss) = by_test (no_shapes id is ss) (bytes_eq s.shape.id id)
  where
    by_test : shapes_under id ss ≡ [] → (b : Bool)
        → cons_option (if b && not (is_prelude_id id) then Some s else None) (shapes_under id ss) ≡ []
    by_test rest true = ap (λ p. cons_option (if not p then Some s else None) (shapes_under id ss)) is ∙ rest
    by_test rest false = rest
no_shapes id is (apply_stated target traits ∷ ss) = no_shapes id is ss

-- the first of them is what defines the shape
first_stated : (id : List ℕ) (ss : List Stated) (vs : List BareShape) → all_bare vs ≡ bares_under id ss
    → (if is_prelude_id id then None else first_bare vs) ≡ option_map bare_of (shape_under id ss)
first_stated id ss vs same = elim (cases_Bool (is_prelude_id id)) [
  | inl is ↦
      ap (λ b. if b then None else first_bare vs) is ∙ sym (ap (λ shapes. option_map bare_of (slice_get shapes 0)) (no_shapes id is ss))
  | inr own ↦
      ap (λ b. if b then None else first_bare vs) own ∙ sym (slice_get-map bare_view vs 0)
      ∙ ap (λ bs. slice_get bs 0) (same ∙ own_shapes id own ss) ∙ slice_get-map bare_of (shapes_under id ss) 0
]

-- ids that are picked
picked_is : (gs : Groups) (ids : List (List ℕ)) (F : List ℕ → Option (List BareShape)) → AllFound F gs → ArePicked gs ids
    → (id : List ℕ) → Contains ids id → (vs : List BareShape) × (F id ≡ Some vs) × AreWrong id (all_bare vs)
picked_is [] ids F found h id (k, inside, at) = let none = ap length h in absurd (omega (arith, inside, none))
picked_is (g ∷ gs) ids F found (inr (right, h)) id has = picked_is gs ids F found.1 h id has
picked_is (g ∷ gs) ids F found (inl (wrong, (rest, is, h))) id has =
    by_place (λ later. picked_is gs rest F found.1 h id later) (subst (λ l. Contains l id) is has)
  where
    by_place : (Contains rest id → (vs : List BareShape) × (F id ≡ Some vs) × AreWrong id (all_bare vs)) → Contains (g.0 ∷ rest) id
        → (vs : List BareShape) × (F id ≡ Some vs) × AreWrong id (all_bare vs)
    by_place behind (zero, inside, at) = (g.1, subst (λ k. F k ≡ Some g.1) at found.0, subst (λ k. AreWrong k (all_bare g.1)) at wrong)
    by_place behind (suc k, inside, at) = let less : k < length rest = omega (arith, inside) in behind (k, less, at)

later_one : (id other : List ℕ) (ids : List (List ℕ)) → Contains ids id → Contains (other ∷ ids) id
later_one id other ids (k, inside, at) = let more : suc k < length (other ∷ ids) = omega (arith, inside) in (suc k, more, at)

same_some : {X : Type 0} (x y : X) → Some x ≡ Some y → x ≡ y
same_some x y e = ap (λ o. unwrap_or o x) e

none_there : {X : Type 0} (x : X) → None ≡ Some x → ⊥
none_there x e = subst (λ o. cond (is_some o) ⊥ (Unit {0})) e tt

is_picked : (gs : Groups) (ids : List (List ℕ)) → ArePicked gs ids → (id : List ℕ) (vs : List BareShape) → find text_cmp id gs ≡ Some vs
    → AreWrong id (all_bare vs) → Contains ids id
is_picked [] ids h id vs at wrong = absurd (none_there vs at)
is_picked (g ∷ gs) ids h id vs at wrong = elim (cases_Bool (bytes_eq g.0 id)) [
  | inl same ↦ here same h
  | inr apart ↦ behind h (λ rest more. is_picked gs rest more id vs (passed apart) wrong)
]
  where
    passed : bytes_eq g.0 id ≡ false → find text_cmp id gs ≡ Some vs
    passed apart = sym (ap (λ b. cond b (Some g.1) (find text_cmp id gs)) (tests id g.0 ∙ apart)) ∙ at

    here : bytes_eq g.0 id ≡ true → ArePicked (g ∷ gs) ids → Contains ids id
    here same (inl (is, (rest, all, more))) =
        let first : 0 < length (g.0 ∷ rest) = omega arith in
        subst (λ l. Contains l id) (sym all) (0, first, (bytes_eq-Decides g.0 id).0 same)
    here same (inr (right, more)) =
        let group : g.1 ≡ vs = same_some g.1 vs (sym (ap (λ b. cond b (Some g.1) (find text_cmp id gs)) (tests id g.0 ∙ same)) ∙ at) in
        absurd (right (subst (λ k. AreWrong k (all_bare g.1)) (sym ((bytes_eq-Decides g.0 id).0 same))
        (subst (λ us. AreWrong id (all_bare us)) (sym group) wrong)))

    behind : ArePicked (g ∷ gs) ids → ((rest : List (List ℕ)) → ArePicked gs rest → Contains rest id) → Contains ids id
    behind (inl (is, (rest, all, more))) later = subst (λ l. Contains l id) (sym all) (later_one id g.0 rest (later rest more))
    behind (inr (right, more)) later = later ids more

-- a shape is stated under an id
abbrev IsStatedAs : List Stated → List ℕ → Type 0
IsStatedAs ss id = (s : ShapeStated) × Contains ss (shape_stated s) × (s.shape.id ≡ id)

stated_later : (id : List ℕ) (other : Stated) (ss : List Stated) → IsStatedAs ss id → IsStatedAs (other ∷ ss) id
stated_later id other ss (s, (k, inside, at), is) =
    let more : suc k < length (other ∷ ss) = omega (arith, inside) in (s, (suc k, more, at), is)

some_stated : (id : List ℕ) (ss : List Stated) (b : Bare) (bs : List Bare) → bares_under id ss ≡ b ∷ bs → IsStatedAs ss id
some_stated id [] b bs e = let none = ap length e in absurd (omega (arith, none))
some_stated id (metadata_stated key value ∷ ss) b bs e = stated_later id (metadata_stated key value) ss (some_stated id ss b bs e)
some_stated id (shape_stated s ∷ ss) b bs e = by_test (λ rest. some_stated id ss b bs rest) (bytes_eq s.shape.id id) refl e
  where
    by_test : (bares_under id ss ≡ b ∷ bs → IsStatedAs ss id) → (t : Bool) → bytes_eq s.shape.id id ≡ t
        → cons_option (if t then Some (bare_of s) else None) (bares_under id ss) ≡ b ∷ bs
        → IsStatedAs (shape_stated s ∷ ss) id
    by_test later true same e =
        let first : 0 < length (shape_stated s ∷ ss) = omega arith in (s, (0, first, refl), (bytes_eq-Decides s.shape.id id).0 same)
    by_test later false same e = stated_later id (shape_stated s) ss (later e)
some_stated id (apply_stated target traits ∷ ss) b bs e = stated_later id (apply_stated target traits) ss (some_stated id ss b bs e)

abbrev IsSomeBare : List Bare → Type 0
IsSomeBare bs = (b : Bare) × (more : List Bare) × (bs ≡ b ∷ more)

stated_some : (id : List ℕ) (ss : List Stated) (s : ShapeStated) → s.shape.id ≡ id → Contains ss (shape_stated s)
    → IsSomeBare (bares_under id ss)
stated_some id [] s is (k, inside, at) = absurd (omega (arith, inside))
stated_some id (t ∷ ss) s is (zero, inside, at) = subst (λ u. IsSomeBare (bares_under id (u ∷ ss))) (sym at) (
  bare_of s,
  bares_under id ss,
  ap (λ b. cons_option (if b then Some (bare_of s) else None) (bares_under id ss)) ((bytes_eq-Decides s.shape.id id).1 is),
)
stated_some id (t ∷ ss) s is (suc k, inside, at) =
    let less : k < length ss = omega (arith, inside) in
    let rest = stated_some id ss s is (k, less, at) in
    behind (all_under id (bare_by t)) rest (bares_joined id t ss)
  where
    behind : (front : List Bare) → IsSomeBare (bares_under id ss) → bares_under id (t ∷ ss) ≡ front ++ bares_under id ss
        → IsSomeBare (bares_under id (t ∷ ss))
    behind [] (b, more, e) all = (b, more, all ∙ e)
    behind (b ∷ bs) rest all = (b, bs ++ bares_under id ss, all)

-- agreement sees what is left of shapes
agree_bare : (s t : ShapeStated) → Agree s t → AgreeBare (bare_of s) (bare_of t)
agree_bare s t h = record { kind = h.kind; members = h.members; mixins = h.mixins; properties = h.properties }

bare_agree : (s t : ShapeStated) → AgreeBare (bare_of s) (bare_of t) → Agree s t
bare_agree s t h = record { kind = h.kind; members = h.members; mixins = h.mixins; properties = h.properties }

agrees_itself : SameToItself → (s : ShapeStated) → Agree s s
agrees_itself itself s = record { kind = refl; members = refl; mixins = refl; properties = itself s.shape.properties }

-- among statements some differ from the first
differing : (first : ShapeStated) (more : List ShapeStated) → SomeDiffer (bare_of first) (map bare_of more)
    → (other : ShapeStated) × Contains more other × (Agree first other → ⊥)
differing first [] h = absurd h
differing first (s ∷ ss) (inl differ) =
    let inside : 0 < length (s ∷ ss) = omega arith in (s, (0, inside, refl), λ same. differ (agree_bare first s same))
differing first (s ∷ ss) (inr h) =
    let later = differing first ss h in
    let inside : suc later.1.0 < length (s ∷ ss) = let less = later.1.1 in omega (arith, less) in
    (later.0, (suc later.1.0, inside, later.1.2), later.2)

some_differs : (first other : ShapeStated) (more : List ShapeStated) → Contains more other → (Agree first other → ⊥)
    → SomeDiffer (bare_of first) (map bare_of more)
some_differs first other [] (k, inside, at) differ = absurd (omega (arith, inside))
some_differs first other (s ∷ ss) (zero, inside, at) differ = inl (λ same. differ (subst (Agree first) at (bare_agree first s same)))
some_differs first other (s ∷ ss) (suc k, inside, at) differ =
    let less : k < length ss = omega (arith, inside) in inr (some_differs first other ss (k, less, at) differ)

behind : (other s : ShapeStated) (more : List ShapeStated) → Contains more other → Contains (s ∷ more) other
behind other s more (k, inside, at) = let later : suc k < length (s ∷ more) = omega (arith, inside) in (suc k, later, at)

-- what is wrong with an id, by its shapes without traits
wrong_bare : (id : List ℕ) (ss : List Stated) → AreWrong id (bares_under id ss) → HasOtherShape ss id ⊎ IsStatedAgain ss id
wrong_bare id ss wrong = elim (cases_Bool (is_prelude_id id)) [
  | inl is ↦ inr (again is (bares_under id ss) refl wrong)
  | inr own ↦ inl (other own (shapes_under id ss) refl (subst (AreWrong id) (own_shapes id own ss) wrong))
]
  where
    again : is_prelude_id id ≡ true → (bs : List Bare) → bares_under id ss ≡ bs → AreWrong id bs → IsStatedAgain ss id
    again is [] e wrong = absurd wrong
    again is (b ∷ bs) e wrong =
        let stated = some_stated id ss b bs e in
        record { s = stated.0; among = stated.1; same = stated.2; of_prelude = is }

    other : is_prelude_id id ≡ false → (shapes : List ShapeStated) → shapes_under id ss ≡ shapes → AreWrong id (map bare_of shapes)
        → HasOtherShape ss id
    other own [] e wrong = absurd wrong
    other own (s ∷ more) e (inl prelude) = absurd (true≢false (sym prelude ∙ own))
    other own (s ∷ more) e (inr differ) =
        let found = differing s more differ in
        record {
          first = s;
          there = ap (λ shapes. slice_get shapes 0) e;
          other = found.0;
          among = subst (λ shapes. Contains shapes found.0) (sym e) (behind found.0 s more found.1);
          differs = found.2;
        }

bare_wrong : SameToItself → (id : List ℕ) (ss : List Stated) → HasOtherShape ss id ⊎ IsStatedAgain ss id → AreWrong id (bares_under id ss)
bare_wrong itself id ss (inr h) =
    let some = stated_some id ss h.s h.same h.among in
    subst (AreWrong id) (sym some.2) (inl h.of_prelude)
bare_wrong itself id ss (inl h) = by_shapes (shapes_under id ss) refl (cases_Bool (is_prelude_id id))
  where
    apart : (s : ShapeStated) (more : List ShapeStated) → s ≡ h.first → Contains (s ∷ more) h.other
        → SomeDiffer (bare_of s) (map bare_of more)
    apart s more first (zero, inside, at) =
        absurd (h.differs (subst (Agree h.first) (sym first ∙ at) (agrees_itself itself h.first)))
    apart s more first (suc k, inside, at) =
        let less : k < length more = omega (arith, inside) in
        some_differs s h.other more (k, less, at) (λ same. h.differs (subst (λ t. Agree t h.other) first same))

    by_shapes : (shapes : List ShapeStated) → shapes_under id ss ≡ shapes → (is_prelude_id id ≡ true) ⊎ (is_prelude_id id ≡ false)
        → AreWrong id (bares_under id ss)
    by_shapes [] e known = absurd (none_there h.first (sym (ap (λ shapes. slice_get shapes 0) e) ∙ h.there))
    by_shapes (s ∷ more) e (inl is) =
        let none = ap length (sym e ∙ no_shapes id is ss) in absurd (omega (arith, none))
    by_shapes (s ∷ more) e (inr own) =
        let first : s ≡ h.first = same_some s h.first (sym (ap (λ shapes. slice_get shapes 0) e) ∙ h.there) in
        subst (AreWrong id) (sym (own_shapes id own ss ∙ ap (map bare_of) e))
        (inr (apart s more first (subst (λ shapes. Contains shapes h.other) e h.among)))

-- the table tells shapes and wrong ids
module _ (itself : SameToItself) (ss : List Stated) (es : List (List ℕ × BareShape)) (t : Shapes) (seen : bares_view es
    ≡ flat_map bare_by ss)
    (sound : AreSoundRows es) (from : AreShapesFrom es t) where
  under : (id : List ℕ) → all_bare (unwrap_or (find text_cmp id from.groups) []) ≡ bares_under id ss
  under id = ap all_bare (from.are.each id) ∙ seen_under bare_view id es ∙ ap (all_under id) seen

  told_rows : AreShapesOf ss t.rows.items
  told_rows = subst (AreShapesOf ss) (sym from.rows) (record {
    rise = rise_kept from.groups (groups_sound es from.groups from.are sound) from.are.rise;
    each = λ id.
        find_kept id from.groups (groups_sound es from.groups from.are sound) from.are.rise
        ∙ first_stated id ss (unwrap_or (find text_cmp id from.groups) []) (under id);
  })

  told_wrong : (id : List ℕ) → Contains t.wrong.items id → HasOtherShape ss id ⊎ IsStatedAgain ss id
  told_wrong id has =
      let picked = picked_is from.groups t.wrong.items _ (all_found from.groups from.are.rise) from.wrong id has in
      wrong_bare id ss (subst (AreWrong id) (ap (λ o. all_bare (unwrap_or o [])) (sym picked.1) ∙ under id) picked.2)

  wrong_told : (id : List ℕ) → HasOtherShape ss id ⊎ IsStatedAgain ss id → Contains t.wrong.items id
  wrong_told id wrong = by_found (find text_cmp id from.groups) refl (subst (AreWrong id) (sym (under id)) (bare_wrong itself id ss wrong))
    where
      by_found : (o : Option (List BareShape)) → find text_cmp id from.groups ≡ o
          → AreWrong id (all_bare (unwrap_or (find text_cmp id from.groups) [])) → Contains t.wrong.items id
      by_found None e h = absurd (subst (λ o. AreWrong id (all_bare (unwrap_or o []))) e h)
      by_found (Some vs) e h =
          is_picked from.groups t.wrong.items from.wrong id vs e (subst (λ o. AreWrong id (all_bare (unwrap_or o []))) e h)

  pub table_told : IsShapeTable ss t
  table_told = record { rows = told_rows; wrong = λ id. (told_wrong id, wrong_told id) }

-- steps of the loop over groups
pub wrong_step : (g : List ℕ × List BareShape) (gs all : Groups) (before after : List (List ℕ))
    → PutsIf (AreWrong g.0 (all_bare g.1)) g.0 before after
    → ((more : List (List ℕ)) → ArePicked (g ∷ gs) more → ArePicked all (before ++ more))
    → (more : List (List ℕ)) → ArePicked gs more → ArePicked all (after ++ more)
wrong_step g gs all before after (inl (wrong, put)) step more h =
    subst (ArePicked all) (sym (ap (λ ids. ids ++ more) put ∙ append_assoc before (g.0 ∷ []) more))
    (step (g.0 ∷ more) (inl (wrong, (more, refl, h))))
wrong_step g gs all before after (inr (right, same)) step more h =
    subst (ArePicked all) (sym (ap (λ ids. ids ++ more) same)) (step more (inr (right, h)))

pub rows_step : (g : List ℕ × List BareShape) (gs all : Groups) (before after : List BareShape) → after ≡ before ++ kept_of g
    → before ++ flat_map kept_of (g ∷ gs) ≡ flat_map kept_of all → after ++ flat_map kept_of gs ≡ flat_map kept_of all
rows_step g gs all before after put step =
    ap (λ rows. rows ++ flat_map kept_of gs) put ∙ append_assoc before (kept_of g) (flat_map kept_of gs) ∙ step
