-- Shapes in the order of their ids: what is found under an id, the number of a shape, and the numbers of its mixins.
use Rattle.std.proofs.Common.{◌≡◌, inl, inr, ℕ, zero, suc, ◌+◌, ◌<◌, ◌≤◌, Bool, true, false, cond, List, [], ◌∷◌, ◌++◌, map, length}
use Rattle.std.proofs.Common.{get_or, Option, Some, None, refl, sym, ap, subst, ◌∙◌, arith, length-append}
use Rattle.std.specs.Prelude.{slice_get, is_some, IsSomeAnd}
use Rattle.std.specs.Cmp.{tied_itself as tied_order}
use Rattle.std.specs.Cmp.Lexicographic.{nat_list_cmp_total}
use Rattle.std.specs.FinMap.{slice_cmp-IsAntisymmetric, nat_cmp-IsAntisymmetric}
use Rattle.std.specs.FinMap.Entries.{find, is_some-find}
use Rattle.std.specs.List.{Contains}
use Rattle.std.specs.Option.{option_map}
use Rattle.std.specs.Ordering.{eq_by_cmp, is_eq}
use Rattle.std.specs.declared.cmp.Ordering.{Ordering}
use Rattle.std.specs.declared.cmp.Ordering.TheVariants.{Less, Equal, Greater}
use Rattle.std.specs.Global.{Vec}
use Rattle.std.proofs.Math.Seq.{get_or-append_seam}
use Rattle.std.proofs.lemmas.List.{get_or_append_left}
use Rattle.std.proofs.lemmas.Map.Keys.{any_passes_from_place}
use Rattle.std.proofs.lemmas.Option.{get_or_from_slice_get, none-some, same_Some}
use Rattle.sm_model.specs.Graphs.{text_cmp}
use Rattle.sm_model.specs.steps.Rising.{Rise}
use Rattle.sm_model.proofs.Rises.{sorted_from_rise}
use Rattle.sm_model.proofs.Searching.{equal_to, keys_rise}
use Rattle.sm_merge.specs.Places.{mixins_of, shape_under}
use Rattle.sm_merge.specs.Stated.{ShapeStated, Stated}
use Rattle.sm_merge.specs.steps.Links.{At, AreLinks, Links, links_view}
use Rattle.sm_merge.specs.steps.MixinLinks.{AreLinksOf, LinksTo, PutsNumber, mixins_in}
use Rattle.sm_merge.specs.steps.Numbered.{AreMixinLinks, AreShapeIds, IsMixinWalk}
use Rattle.sm_merge.specs.steps.Placed.{Bare, bare_of}
use Rattle.sm_merge.specs.steps.ShapeTables.{AreShapesOf, IsAt, ids_of, shapes_view}
use Rattle.sm_merge.specs.steps.Walking.{IsWalked}
use Rattle.sm_merge.specs.declared.parts.BareShape.{BareShape}
use Rattle.sm_merge.specs.declared.walk.Walk.{Walk}
use Rattle.sm_merge.proofs.Cycles.{cycle_ring}
use Rattle.sm_merge.proofs.Ats.{at_contained, at_either_one, at_front, at_last, at_map, at_mapped, at_one, at_there, at_within}
use Rattle.sm_merge.proofs.Ats.{contains_at, sides}

tied : (id : List ℕ) → eq_by_cmp text_cmp id id ≡ true
tied id = ap is_eq (tied_order nat_list_cmp_total id)

equal_of : (r : Ordering) → is_eq r ≡ true → r ≡ Equal
equal_of Less h = absurd (subst (λ b. cond b ⊥ (Unit {0})) h tt)
equal_of Equal h = refl
equal_of Greater h = absurd (subst (λ b. cond b ⊥ (Unit {0})) h tt)

module _ {X : Type 0} where
  -- what stands in a table is found, and what is found stands there
  pub listed_found : (es : List (List ℕ × X)) → Rise (map (λ e. e.0) es) → (w : ℕ) (id : List ℕ) (x : X) → At es w (id, x)
      → find text_cmp id es ≡ Some x
  listed_found es rise w id x there =
      let here : get_or es w (id, x) ≡ (id, x) = get_or_from_slice_get es w (id, x) (id, x) there in
      equal_to es (sorted_from_rise es rise) (id, x) w (at_within es w (id, x) there) id
      (ap (λ (e : List ℕ × X). text_cmp e.0 id) here ∙ tied_order nat_list_cmp_total id)
      ∙ ap (λ (e : List ℕ × X). Some e.1) here

  pub found_listed : (es : List (List ℕ × X)) (id : List ℕ) (x : X) → find text_cmp id es ≡ Some x → (w : ℕ) × At es w (id, x)
  found_listed [] id x h = absurd (none-some x h)
  found_listed (e ∷ es) id x h = by (eq_by_cmp text_cmp id e.0) refl h (found_listed es id x)
    where
      by : (b : Bool) → eq_by_cmp text_cmp id e.0 ≡ b → cond b (Some e.1) (find text_cmp id es) ≡ Some x
          → (find text_cmp id es ≡ Some x → (w : ℕ) × At es w (id, x)) → (w : ℕ) × At (e ∷ es) w (id, x)
      by true is found later =
          let same : id ≡ e.0 = slice_cmp-IsAntisymmetric nat_cmp-IsAntisymmetric id e.0 (equal_of (text_cmp id e.0) is) in
          (0, ap (λ (k : List ℕ). Some (k, e.1)) (sym same) ∙ ap (λ (y : X). Some (id, y)) (same_Some e.1 x found))
      by false is found later = let rest = later found in (suc rest.0, rest.1)

  pub none_listed : (es : List (List ℕ × X)) (id : List ℕ) → find text_cmp id es ≡ None → (w : ℕ) → At (map (λ e. e.0) es) w id → ⊥
  none_listed es id none w there =
      let any = any_passes_from_place (eq_by_cmp text_cmp id) (map (λ e. e.0) es) w id there (tied id) in
      let bad : true ≡ false = sym any ∙ sym (is_some-find text_cmp id es) ∙ ap is_some none in
      subst (λ b. cond b (Unit {0}) ⊥) bad tt

  pub listed_once : (es : List (List ℕ × X)) → Rise (map (λ e. e.0) es) → (v w : ℕ) (id : List ℕ) → At (map (λ e. e.0) es) v id
      → At (map (λ e. e.0) es) w id → v ≡ w
  listed_once es rise v w id at_v at_w = elim (sides v w) [
    | inl low ↦ absurd (apart v w low at_v at_w)
    | inr high ↦ elim (sides w v) [
      | inl low ↦ absurd (apart w v low at_w at_v)
      | inr also ↦ omega (arith, high, also)
    ]
  ]
    where
      apart : (i j : ℕ) → i < j → At (map (λ e. e.0) es) i id → At (map (λ e. e.0) es) j id → ⊥
      apart i j less at_i at_j =
          let a = at_mapped (λ (e : List ℕ × X). e.0) es i id at_i in
          let b = at_mapped (λ (e : List ℕ × X). e.0) es j id at_j in
          let rises : text_cmp (get_or es i a.0).0 (get_or es j a.0).0 ≡ Less =
          keys_rise es (sorted_from_rise es rise) a.0 i j less (at_within es j b.0 b.1) in
          let first : (get_or es i a.0).0 ≡ id = ap (λ (e : List ℕ × X). e.0) (get_or_from_slice_get es i a.0 a.0 a.1) ∙ a.2 in
          let second : (get_or es j a.0).0 ≡ id = ap (λ (e : List ℕ × X). e.0) (get_or_from_slice_get es j b.0 a.0 b.1) ∙ b.2 in
          let bad : Equal ≡ Less =
          sym (tied_order nat_list_cmp_total id) ∙ ap (λ k. text_cmp k id) (sym first)
          ∙ ap (text_cmp (get_or es i a.0).0) (sym second) ∙ rises in
          subst (λ r. cond (is_eq r) (Unit {0}) ⊥) bad tt

-- the numbers of mixins, one more
pub one_link : (ids mixins : List (List ℕ)) (mixin : List ℕ) (before after : List ℕ)
    → ((v w : ℕ) (id : List ℕ) → At ids v id → At ids w id → v ≡ w) → PutsNumber ids mixin before after
    → LinksTo ids mixins before → LinksTo ids (mixins ++ mixin ∷ []) after
one_link ids mixins mixin before after once (inl (n, at_n, is)) h = subst (LinksTo ids (mixins ++ mixin ∷ [])) (sym is) (record {
  only = λ k w there. elim (at_either_one before n k w there) [
    | inl here ↦
        let m = h.only k w here in
        record { id = m.id; there = m.there; place = m.place; among = at_front mixins (mixin ∷ []) m.place m.id m.among }
    | inr (last, same) ↦
        record { id = mixin; there = subst (λ x. At ids x mixin) (sym same) at_n; place = length mixins; among = at_last mixins mixin }
  ];
  all = λ k w id there at_w. elim (at_either_one mixins mixin k id there) [
    | inl here ↦
        let s = h.all k w id here at_w in
        record { place = s.place; behind = s.behind; there = at_front before (n ∷ []) s.place w s.there }
    | inr (last, same) ↦ record {
      place = length before;
      behind = omega arith;
      there = subst (λ x. At (before ++ n ∷ []) (length before) x) (once n w mixin at_n (subst (λ i. At ids w i) same at_w))
          (at_last before n);
    }
  ];
})
one_link ids mixins mixin before after once (inr (none, is)) h = subst (LinksTo ids (mixins ++ mixin ∷ [])) (sym is) (record {
  only = λ k w there.
      let m = h.only k w there in
      record { id = m.id; there = m.there; place = m.place; among = at_front mixins (mixin ∷ []) m.place m.id m.among };
  all = λ k w id there at_w. elim (at_either_one mixins mixin k id there) [
    | inl here ↦ h.all k w id here at_w
    | inr (last, same) ↦ absurd (none w (subst (λ i. At ids w i) same at_w))
  ];
})

-- the links of one more shape
pub links_more : (ids : List (List ℕ)) (mixins : List (List (List ℕ))) (links : Links) (ms : List (List ℕ)) (ts : List ℕ)
    → AreLinksOf ids mixins links → LinksTo ids ms ts → AreLinksOf ids (mixins ++ ms ∷ []) (links ++ ts ∷ [])
links_more ids mixins links ms ts h one = record {
  size = length-append links (ts ∷ []) ∙ ap (λ n. n + 1) h.size ∙ sym (length-append mixins (ms ∷ []));
  each = λ v m there. elim (at_either_one mixins ms v m there) [
    | inl here ↦
        let small : v < length mixins = at_within mixins v m here in
        let size : length links ≡ length mixins = h.size in
        subst (LinksTo ids m) (sym (get_or_append_left links (ts ∷ []) [] v (omega (arith, small, size)))) (h.each v m here)
    | inr (is, same) ↦
        subst (λ x. LinksTo ids x (get_or (links ++ ts ∷ []) v [])) (sym same)
        (subst (LinksTo ids ms) (sym (ap (λ i. get_or (links ++ ts ∷ []) i []) (is ∙ sym h.size) ∙ get_or-append_seam links ts [] [])) one)
  ];
}

pub mixins_more : (rows : List BareShape) (r : BareShape) → mixins_in (rows ++ r ∷ []) ≡ mixins_in rows ++ r.mixins.items ∷ []
mixins_more [] r = refl
mixins_more (x ∷ rows) r = ap (λ ms. x.mixins.items ∷ ms) (mixins_more rows r)

pub links_view_more : (links : List (Vec ℕ)) (targets : Vec ℕ) → links_view (links ++ targets ∷ []) ≡ links_view links ++ targets.items ∷ []
links_view_more [] targets = refl
links_view_more (x ∷ links) targets = ap (λ ls. x.items ∷ ls) (links_view_more links targets)

pub ids_count : (rows : List BareShape) → length (ids_of rows) ≡ length rows
ids_count [] = refl
ids_count (r ∷ rows) = ap suc (ids_count rows)

pub number_at : (rows : List BareShape) (id : List ℕ) (w : ℕ) → IsAt rows id w → At (ids_of rows) w id
number_at rows id w h = by (slice_get (shapes_view rows) w) refl h
  where
    by : (o : Option (List ℕ × Bare)) → slice_get (shapes_view rows) w ≡ o
        → IsSomeAnd o (λ e. (e.0 ≡ id) × (find text_cmp id (shapes_view rows) ≡ Some e.1)) → At (ids_of rows) w id
    by None is none = absurd none
    by (Some e) is there = subst (At (ids_of rows) w) there.0 (at_map (λ (x : List ℕ × Bare). x.0) (shapes_view rows) w e is)

-- the shape of a number
pub record HasShape (ss : List Stated) (rows : List BareShape) (v : ℕ) (id : List ℕ) : Type 0 where
  pub s : ShapeStated
  pub there : shape_under id ss ≡ Some s
  pub bare : At (shapes_view rows) v (id, bare_of s)

pub shape_at : (ss : List Stated) (rows : List BareShape) → AreShapesOf ss rows → (v : ℕ) (id : List ℕ) → At (ids_of rows) v id
    → HasShape ss rows v id
shape_at ss rows h v id at_v = by (shape_under id ss) refl
  where
    e : (e : List ℕ × Bare) × At (shapes_view rows) v e × (e.0 ≡ id)
    e = at_mapped (λ (x : List ℕ × Bare). x.0) (shapes_view rows) v id at_v

    here : At (shapes_view rows) v (id, e.0.1)
    here = subst (λ i. At (shapes_view rows) v (i, e.0.1)) e.2 e.1

    found : Some e.0.1 ≡ option_map bare_of (shape_under id ss)
    found = sym (listed_found (shapes_view rows) h.rise v id e.0.1 here) ∙ h.each id

    by : (o : Option ShapeStated) → shape_under id ss ≡ o → HasShape ss rows v id
    by None is = absurd (none-some e.0.1 (sym (found ∙ ap (option_map bare_of) is)))
    by (Some s) is =
        let same : e.0.1 ≡ bare_of s = same_Some e.0.1 (bare_of s) (found ∙ ap (option_map bare_of) is) in
        record { s = s; there = is; bare = subst (λ b. At (shapes_view rows) v (id, b)) same here }

pub shape_ids : (ss : List Stated) (rows : List BareShape) → AreShapesOf ss rows → AreShapeIds ss (ids_of rows)
shape_ids ss rows h = record {
  all = λ id s is.
      let w = found_listed (shapes_view rows) id (bare_of s) (h.each id ∙ ap (option_map bare_of) is) in
      record { number = w.0; there = at_map (λ (x : List ℕ × Bare). x.0) (shapes_view rows) w.0 (id, bare_of s) w.1 };
  once = listed_once (shapes_view rows) h.rise;
}

past : (xs : Links) (v : ℕ) → length xs ≤ v → get_or xs v [] ≡ []
past [] v low = refl
past (x ∷ xs) zero low = absurd (omega (arith, low))
past (x ∷ xs) (suc v) low = past xs v (omega (arith, low))

-- links lead to numbers that are there
pub shapes_count : (rows : List BareShape) → length (mixins_in rows) ≡ length (ids_of rows)
shapes_count [] = refl
shapes_count (r ∷ rows) = ap suc (shapes_count rows)

pub links_within : (ids : List (List ℕ)) (mixins : List (List (List ℕ))) (links : Links) → length mixins ≡ length ids
    → AreLinksOf ids mixins links → AreLinks links
links_within ids mixins links same l v w leads = elim (sides v (length links)) [
  | inl low ↦
      let size : length links ≡ length mixins = l.size in
      let ms = at_there mixins v (omega (arith, low, size)) in
      let m = (l.each v ms.0 ms.1).only leads.place w leads.there in
      let small : w < length ids = at_within ids w m.id m.there in
      omega (arith, small, size, same)
  | inr high ↦ absurd (none-some w (subst (λ ts. At ts leads.place w) (past links v high) leads.there))
]

module _ (ss : List Stated) (rows : List BareShape) (links : Links) (h : AreShapesOf ss rows)
    (l : AreLinksOf (ids_of rows) (mixins_in rows) links) where
  links_of : (v : ℕ) (id : List ℕ) (s : HasShape ss rows v id) → LinksTo (ids_of rows) s.s.mixins (get_or links v [])
  links_of v id s = l.each v s.s.mixins (at_map (λ (e : List ℕ × Bare). e.1.mixins) (shapes_view rows) v (id, bare_of s.s) s.bare)

  counted : length links ≡ length (ids_of rows)
  counted = l.size ∙ shapes_count rows

  pub mixin_links_of : AreMixinLinks ss (ids_of rows) links
  mixin_links_of = record {
    size = counted;
    mixes = λ v w id mixin at_v at_w leads.
        let s = shape_at ss rows h v id at_v in
        let m = (links_of v id s).only leads.place w leads.there in
        let same : m.id ≡ mixin = at_one (ids_of rows) w m.id mixin m.there at_w in
        subst (λ o. Contains (mixins_of o) mixin) (sym s.there)
        (contains_at s.s.mixins m.place mixin (subst (At s.s.mixins m.place) same m.among));
    leads = λ v w id mixin at_v at_w mixes.
        let s = shape_at ss rows h v id at_v in
        let m = at_contained s.s.mixins mixin (subst (λ o. Contains (mixins_of o) mixin) s.there mixes) in
        let found = (links_of v id s).all m.0 w mixin m.1 at_w in
        record { place = found.place; there = found.there };
    within = links_within (ids_of rows) (mixins_in rows) links (shapes_count rows) l;
  }

  -- a walk over them is one over the shapes' mixins
  pub mixin_walk_of : (walk : Walk) → IsWalked links walk → IsMixinWalk ss (ids_of rows) walk
  mixin_walk_of walk w =
      let known = shape_ids ss rows h in
      record {
        size = w.size ∙ counted;
        on_cycle = λ v id at_v.
            let small : v < length (ids_of rows) = at_within (ids_of rows) v id at_v in
            let told = w.rings v (omega (arith, small, counted)) in
            let both = cycle_ring ss (ids_of rows) links known mixin_links_of v id at_v in
            (λ is. both.1 (told.0 is), λ cycle. told.1 (both.0 cycle));
        all = λ v small. w.order.all v (omega (arith, small, counted));
        within = λ k v there. let small = w.order.within k v there in omega (arith, small, counted);
        once = w.order.once;
        behind = λ k v u id mixin there at_v at_u mixes. elim
            (w.order.behind k v u there (mixin_links_of.leads v u id mixin at_v at_u mixes)) [
              | inl ring ↦ inl ((cycle_ring ss (ids_of rows) links known mixin_links_of u mixin at_u).1 ring)
              | inr before ↦ inr before
            ];
      }
