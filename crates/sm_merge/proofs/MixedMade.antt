-- The mixins that contribute, as loops find them, and the order in which each shape stands behind them.
use Rattle.std.proofs.Common.{◌≡◌, inl, inr, ℕ, zero, suc, ◌<◌, List, [], ◌∷◌, ◌++◌, length, get_or, Some, refl, sym, ap, subst, ◌∙◌}
use Rattle.std.proofs.Common.{append_assoc, arith}
use Rattle.std.specs.Prelude.{slice_get}
use Rattle.std.specs.Global.{Vec}
use Rattle.std.specs.List.{Contains}
use Rattle.std.proofs.lemmas.Option.{none-some, same_Some, slice_get_read}
use Rattle.sm_merge.specs.Mixins.{MixesIn}
use Rattle.sm_merge.specs.Places.{mixins_of, shape_under}
use Rattle.sm_merge.specs.Stated.{ShapeStated, Stated}
use Rattle.sm_merge.specs.steps.Contributing.{AreWalkedTables}
use Rattle.sm_merge.specs.steps.Links.{At}
use Rattle.sm_merge.specs.steps.MixedIn.{AllBelow, AreBehind, AreBelow, AreMixedIn, IsMixedOrder, MixIn, PutsMixin, vec_items}
use Rattle.sm_merge.specs.steps.Placed.{Bare, bare_view}
use Rattle.sm_merge.specs.steps.ShapeTables.{ids_of, shapes_view}
use Rattle.sm_merge.specs.declared.mixins.Contributing.{Contributing}
use Rattle.sm_merge.specs.declared.parts.BareShape.{BareShape}
use Rattle.sm_merge.specs.declared.table.PlaceRow.{PlaceRow}
use Rattle.sm_merge.specs.declared.walk.Walk.{Walk}
use Rattle.sm_merge.proofs.Ats.{at_either_one, at_map, at_one, at_there}
use Rattle.sm_merge.proofs.MixinsPut.{row_at}
use Rattle.sm_merge.proofs.ShapeNumbers.{ids_count}
use Rattle.sm_merge.proofs.EffectiveAll.{shape_row}

pub below_more : (n : ℕ) (cs : List Contributing) (c : Contributing) → AreBelow n cs → c.number < n → AreBelow n (cs ++ c ∷ [])
below_more n [] c h small = (small, tt)
below_more n (d ∷ cs) c h small = (h.0, below_more n cs c h.1 small)

pub all_below_more : (n : ℕ) (css : List (Vec Contributing)) (cs : Vec Contributing) → AllBelow n css → AreBelow n cs.items
    → AllBelow n (css ++ cs ∷ [])
all_below_more n [] cs h one = (one, tt)
all_below_more n (ds ∷ css) cs h one = (h.0, all_below_more n css cs h.1 one)

below_at : (n : ℕ) (css : List (Vec Contributing)) (v : ℕ) (cs : Vec Contributing) → AllBelow n css → At css v cs → AreBelow n cs.items
below_at n css v cs h there = by css v h there
  where
    by : (css : List (Vec Contributing)) (v : ℕ) → AllBelow n css → slice_get css v ≡ Some cs → AreBelow n cs.items
    by [] v h there = absurd (none-some cs there)
    by (d ∷ css) zero h there = subst (λ x. AreBelow n x.items) (same_Some d cs there) h.0
    by (d ∷ css) (suc v) h there = by css v h.1 there

-- as the code reads them at a number
pub below_read : (n m : ℕ) (css : List (Vec Contributing)) (v : ℕ) (cs : Vec Contributing) (seen : List Contributing) → AllBelow n css
    → length css ≡ n → m ≡ n → v < n → cs ≡ get_or css v cs → seen ≡ cs.items → AreBelow m seen
below_read n m css v cs seen h size same low is all =
    let small : v < length css = omega (arith, low, size) in
    subst (AreBelow m) (sym all) (subst (λ (k : ℕ). AreBelow k cs.items) (sym same)
    (below_at n css v cs h (slice_get_read css (length css) v cs refl small is)))

-- one more mixin, whatever follows
pub mixin_step : (ss : List Stated) (rows : List BareShape) (s : ShapeStated) (mixin : List ℕ) (left mixins : List (List ℕ))
    (before after : List Contributing) → PutsMixin ss rows s mixin before after
    → ((more : List Contributing) → MixIn ss rows s (mixin ∷ left) more → MixIn ss rows s mixins (before ++ more))
    → (more : List Contributing) → MixIn ss rows s left more → MixIn ss rows s mixins (after ++ more)
mixin_step ss rows s mixin left mixins before after (inl (never, same)) h more rest =
    subst (λ cs. MixIn ss rows s mixins (cs ++ more)) (sym same) (h more (inl (never, rest)))
mixin_step ss rows s mixin left mixins before after (inr (c, told, same)) h more rest =
    subst (λ cs. MixIn ss rows s mixins (cs ++ more)) (sym same)
    (subst (MixIn ss rows s mixins) (sym (append_assoc before (c ∷ []) more)) (h (c ∷ more) (inr (c, told, more, refl, rest))))

-- those of one more shape
abbrev pub MixedSoFar : List Stated → List BareShape → List (Vec Contributing) → Type 0
MixedSoFar ss rows all = (v : ℕ) (id : List ℕ) (s : ShapeStated) (cs : Vec Contributing) → At (ids_of rows) v id
    → shape_under id ss ≡ Some s
    → At all v cs → MixIn ss rows s s.mixins cs.items

pub mixed_more : (ss : List Stated) (rows : List BareShape) (traits : List PlaceRow) (walk : Walk) → AreWalkedTables ss rows traits walk
    → (i : ℕ) (row : BareShape) → i < length rows → row ≡ get_or rows i row → (all : List (Vec Contributing)) (found : Vec Contributing)
    → length all ≡ i → MixedSoFar ss rows all
    → ((s : ShapeStated) → s.shape.kind ≡ row.kind → MixIn ss rows s row.mixins.items found.items)
    → MixedSoFar ss rows (all ++ found ∷ [])
mixed_more ss rows traits walk t i row small is all found size before one v id s cs at_v there at_all = elim
    (at_either_one all found v cs at_all) [
      | inl here ↦ before v id s cs at_v there here
      | inr (last, same) ↦
          let r = row_at ss rows t.shapes i row small is in
          let place : v ≡ i = last ∙ size in
          let at_i : At (ids_of rows) i id = subst (λ j. At (ids_of rows) j id) place at_v in
          let seen : id ≡ row.id =
          at_one (ids_of rows) i id row.id at_i
          (at_map (λ (e : List ℕ × Bare). e.0) (shapes_view rows) i (row.id, bare_view row)
          (at_map (λ (x : BareShape). (x.id, bare_view x)) rows i row (slice_get_read rows (length rows) i row refl small is))) in
          let shape : r.s ≡ s = same_Some r.s s (sym r.there ∙ ap (λ k. shape_under k ss) (sym seen) ∙ there) in
          subst (λ x. MixIn ss rows s s.mixins x.items) (sym same)
          (subst (λ x. MixIn ss rows x x.mixins found.items) shape
          (subst (λ ms. MixIn ss rows r.s ms found.items) (sym r.mixins) (one r.s r.kind)))
    ]

-- each shape stands behind the mixins that contribute to it
module _ (ss : List Stated) (rows : List BareShape) (traits : List PlaceRow) (walk : Walk) (t : AreWalkedTables ss rows traits walk) where
  behind_each : (k v : ℕ) (id : List ℕ) (s : ShapeStated) → At walk.order.items k v → At (ids_of rows) v id → (mixins : List (List ℕ))
      (cs : List Contributing) → ((m : List ℕ) → Contains mixins m → MixesIn ss id m) → MixIn ss rows s mixins cs
      → AreBehind walk.order.items k cs
  behind_each k v id s at_k at_v [] cs all none = subst (AreBehind walk.order.items k) (sym none) tt
  behind_each k v id s at_k at_v (mixin ∷ mixins) cs all (inl (never, rest)) =
      behind_each k v id s at_k at_v mixins cs (λ m has. all m (later m has)) rest
    where
      later : (m : List ℕ) → Contains mixins m → Contains (mixin ∷ mixins) m
      later m (i, inside, is) = let more : suc i < length (mixin ∷ mixins) = omega (arith, inside) in (suc i, more, is)
  behind_each k v id s at_k at_v (mixin ∷ mixins) cs all (inr (c, told, rest, is, more)) =
      subst (AreBehind walk.order.items k) (sym is) (
        elim (t.walked.behind k v c.number id mixin at_k at_v told.there (all mixin first)) [
          | inl cycle ↦ absurd (told.contributes.acyclic cycle)
          | inr stands ↦ stands
        ],
        behind_each k v id s at_k at_v mixins rest (λ m has. all m (later m has)) more,
      )
    where
      first : Contains (mixin ∷ mixins) mixin
      first = let small : 0 < length (mixin ∷ mixins) = omega arith in (0, small, refl)

      later : (m : List ℕ) → Contains mixins m → Contains (mixin ∷ mixins) m
      later m (i, inside, is) = let more : suc i < length (mixin ∷ mixins) = omega (arith, inside) in (suc i, more, is)

  pub mixed_order : (mixed : List (Vec Contributing)) → AreMixedIn ss rows mixed → IsMixedOrder walk.order.items mixed
  mixed_order mixed are = record {
    once = t.walked.once;
    behind = λ k v at_k.
        let inside : v < length (ids_of rows) = t.walked.within k v at_k in
        let count : length (ids_of rows) ≡ length rows = ids_count rows in
        let size : length mixed ≡ length rows = are.size in
        let small : v < length mixed = omega (arith, inside, count, size) in
        let here = at_there mixed v small in
        let any = at_there (ids_of rows) v inside in
        let row = shape_row ss rows traits walk t v any.0 any.1 in
        subst (AreBehind walk.order.items k) (sym (ap vec_items here.1))
        (behind_each k v any.0 row.s at_k any.1 row.s.mixins here.0.items
        (λ m has. subst (λ x. Contains (mixins_of x) m) (sym row.there) has) (are.each v any.0 row.s here.0 any.1 row.there here.1));
  }
