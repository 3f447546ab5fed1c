-- The sizes of shapes, counted along an order in which each stands once.
use Rattle.std.proofs.Common.{◌≡◌, ◌⊎◌, inl, inr, ℕ, suc, ◌+◌, ◌-◌, ◌^◌, ◌<◌, ◌≤◌, List, [], ◌∷◌, map, length, set, get_or, sum}
use Rattle.std.proofs.Common.{refl, sym, ap, subst, ◌∙◌, arith}
use Rattle.std.specs.Prelude.{min}
use Rattle.std.specs.Global.{Vec}
use Rattle.std.specs.List.{sum_by}
use Rattle.std.proofs.lemmas.List.{length-map, length-set}
use Rattle.std.proofs.lemmas.List.Sums.{sum_by-append, sum_by-cons, sum_by-set}
use Rattle.std.proofs.lemmas.Option.{get_or_from_slice_get, same_Some}
use Rattle.sm_bytes.specs.Lengths.{length_word}
use Rattle.sm_model.specs.Given.{AreGivenShapes}
use Rattle.sm_model.specs.Graphs.{given_entries, given_shape}
use Rattle.sm_merge.specs.Mixins.{EffectiveShape, IsEffective}
use Rattle.sm_merge.specs.Stated.{Stated}
use Rattle.sm_merge.specs.steps.Counting.{HasSize, IsCounted, IsPlaced}
use Rattle.sm_merge.specs.steps.EffectiveTables.{AreSoundTraits, effective_view}
use Rattle.sm_merge.specs.steps.Links.{At}
use Rattle.sm_merge.specs.steps.Made.{made_shape, made_shapes, shape_size, shapes_size}
use Rattle.sm_merge.specs.steps.Placed.{bare_view}
use Rattle.sm_merge.specs.steps.Whole.{AreEffective, whole_shape, whole_shapes}
use Rattle.sm_merge.specs.declared.effective.ShapeTraits.{ShapeTraits}
use Rattle.sm_merge.specs.declared.firsts.NamedTarget.{NamedTarget}
use Rattle.sm_merge.specs.declared.parts.BareShape.{BareShape}
use Rattle.sm_merge.proofs.Ats.{at_mapped, at_one, at_other, at_stored, at_there, at_was, at_within, sides}
use Rattle.sm_merge.proofs.GivenCounts.{its_size, sizes_counted}
use Rattle.sm_merge.proofs.MadeShapes.{made_given, shapes_made}
use Rattle.sm_merge.proofs.OneEffective.{one_effective}

sum_more : (n : ℕ) (ns : List ℕ) → sum (n ∷ ns) ≡ n + sum ns
sum_more n ns = sum_by-cons (λ (m : ℕ). m) n ns

-- nothing is counted yet
nothing : (rows : List BareShape) → sum (map (λ r. 0) rows) ≡ 0
nothing [] = refl
nothing (r ∷ rows) =
    let rest = nothing rows in
    let more = sum_more 0 (map (λ (x : BareShape). 0) rows) in omega (arith, rest, more)

pub counted_none : (rows : List BareShape) (members : List (Vec NamedTarget)) (order : List ℕ) (all : List ShapeTraits)
    → IsCounted rows members order 0 all 0
counted_none rows members order all = record {
  sizes = map (λ r. 0) rows;
  many = length-map rows (λ r. 0);
  each = λ v n there. inl (
    λ (p : IsPlaced order 0 v). let low : p.place < 0 = p.before in omega (arith, low),
    sym (at_mapped (λ r. 0) rows v n there).2,
  );
  total_is = sym (ap length_word (nothing rows));
}

-- one more
capped : (total more next before s : ℕ) → total ≡ length_word before → more ≡ length_word s → next ≡ min (total + more) (2 ^ 64 - 1)
    → next ≡ length_word (before + s)
capped total more next before s a b c = omega (arith, a, b, c)

module _ (rows : List BareShape) (members : List (Vec NamedTarget)) (order : List ℕ)
    (once : (i k v : ℕ) → At order i v → At order k v → i ≡ k) where
  kept_size : (all : List ShapeTraits) (v : ℕ) (t : ShapeTraits) (w n : ℕ) → (w ≡ v → ⊥) → HasSize rows members all w n
      → HasSize rows members (set all v t) w n
  kept_size all v t w n other h = record {
    row = h.row;
    list = h.list;
    entry = h.entry;
    at_row = h.at_row;
    at_list = h.at_list;
    at_entry = at_other all v t w h.entry other h.at_entry;
    size = h.size;
  }

  later : (k w : ℕ) → IsPlaced order k w → IsPlaced order (k + 1) w
  later k w p = let low : p.place < k = p.before in record { place = p.place; before = omega (arith, low); there = p.there }

  sooner : (k v w : ℕ) → At order k v → (w ≡ v → ⊥) → IsPlaced order (k + 1) w → IsPlaced order k w
  sooner k v w at_k other p = elim (sides p.place k) [
    | inl less ↦ record { place = p.place; before = less; there = p.there }
    | inr more ↦
        let low : p.place < k + 1 = p.before in
        let same : p.place ≡ k = omega (arith, low, more) in
        absurd (other (at_one order k w v (subst (λ i. At order i w) same p.there) at_k))
  ]

  pub counted_more : (k v : ℕ) (all : List ShapeTraits) (t : ShapeTraits) (row : BareShape) (list : Vec NamedTarget) (total more next : ℕ)
      → At order k v → v < length all → v < length rows → At rows v row → At members v list
      → more ≡ length_word (shape_size (made_shape (bare_view row) list.items t)) → next ≡ min (total + more) (2 ^ 64 - 1)
      → IsCounted rows members order k all total → IsCounted rows members order (k + 1) (set all v t) next
  counted_more k v all t row list total more next at_k inside low at_row at_list more_is next_is h =
      let s = shape_size (made_shape (bare_view row) list.items t) in
      let many : length h.sizes ≡ length rows = h.many in
      let small : v < length h.sizes = omega (arith, many, low) in
      let here = at_there h.sizes v small in
      let none : here.0 ≡ 0 = elim (h.each v here.0 here.1) [
        | inl (never, zero_is) ↦ zero_is
        | inr (placed, size) ↦
            let same : placed.place ≡ k = once placed.place k v placed.there at_k in
            let before : placed.place < k = placed.before in
            absurd (omega (arith, same, before))
      ] in
      let read : get_or h.sizes v 0 ≡ 0 = get_or_from_slice_get h.sizes v here.0 0 here.1 ∙ none in
      let added = sum_by-set (λ (n : ℕ). n) h.sizes v s 0 small in
      let all_of : sum (set h.sizes v s) ≡ sum h.sizes + s = omega (arith, added, read) in
      record {
        sizes = set h.sizes v s;
        many = length-set h.sizes v s ∙ h.many;
        each = λ w n there. elim (at_was h.sizes v s w n there) [
          | inl (same, is) ↦ inr (
            subst (IsPlaced order (k + 1)) (sym same)
                (let low : k < k + 1 = omega arith in record { place = k; before = low; there = at_k }),
            subst (λ u. HasSize rows members (set all v t) u n) (sym same) (record {
              row = row;
              list = list;
              entry = t;
              at_row = at_row;
              at_list = at_list;
              at_entry = at_stored all v t inside;
              size = is;
            }),
          )
          | inr (other, was) ↦ elim (h.each w n was) [
            | inl (never, zero_is) ↦ inl (λ p. never (sooner k v w at_k other p), zero_is)
            | inr (placed, size) ↦ inr (later k w placed, kept_size all v t w n other size)
          ]
        ];
        total_is =
            capped total more next (sum h.sizes) s h.total_is more_is next_is ∙ ap length_word (sym all_of);
      }

-- all are counted where each stands in the order
all_counted : (rows : List BareShape) (members : List (Vec NamedTarget)) (all : List ShapeTraits) (sizes : List ℕ)
    → length sizes ≡ length rows → length members ≡ length rows → length all ≡ length rows
    → ((v n : ℕ) → At sizes v n → HasSize rows members all v n) → sum sizes ≡ shapes_size (made_shapes rows members all)
all_counted [] ms ts [] a b c each = refl
all_counted [] ms ts (n ∷ ns) a b c each = absurd (omega (arith, a))
all_counted (r ∷ rows) ms ts [] a b c each = absurd (omega (arith, a))
all_counted (r ∷ rows) [] ts (n ∷ ns) a b c each = absurd (omega (arith, b))
all_counted (r ∷ rows) (ms ∷ mss) [] (n ∷ ns) a b c each = absurd (omega (arith, c))
all_counted (r ∷ rows) (ms ∷ mss) (t ∷ ts) (n ∷ ns) a b c each =
    let h : HasSize (r ∷ rows) (ms ∷ mss) (t ∷ ts) 0 n = each 0 n refl in
    let same : n ≡ shape_size (made_shape (bare_view r) ms.items t) =
    h.size
    ∙ (λ i. shape_size (made_shape (bare_view (same_Some h.row r (sym h.at_row) i)) (same_Some h.list ms (sym h.at_list) i).items
    (same_Some h.entry t (sym h.at_entry) i))) in
    sum_more n ns
    ∙ (λ i. same i
    + all_counted rows mss ts ns (omega (arith, a)) (omega (arith, b)) (omega (arith, c)) (λ v m there.
    let k : HasSize (r ∷ rows) (ms ∷ mss) (t ∷ ts) (suc v) m = each (suc v) m there in
    record { row = k.row; list = k.list; entry = k.entry; at_row = k.at_row; at_list = k.at_list; at_entry = k.at_entry; size = k.size }) i)

pub whole_counted : (rows : List BareShape) (members : List (Vec NamedTarget)) (order : List ℕ) (k : ℕ) (all : List ShapeTraits) (total : ℕ)
    → length members ≡ length rows → length all ≡ length rows → ((v : ℕ) → v < length rows → IsPlaced order k v)
    → IsCounted rows members order k all total → total ≡ length_word (shapes_size (made_shapes rows members all))
whole_counted rows members order k all total ms ts placed h =
    h.total_is ∙ ap length_word (all_counted rows members all h.sizes h.many ms ts (λ v n there. elim (h.each v n there) [
      | inl (never, zero_is) ↦
          let many : length h.sizes ≡ length rows = h.many in
          let inside : v < length h.sizes = at_within h.sizes v n there in
          let low : v < length rows = omega (arith, many, inside) in absurd (never (placed v low))
      | inr (p, size) ↦ size
    ]))

-- what is counted is no more than what shapes come to
module _ (ss : List Stated) where
  one_sized : (r : BareShape) (e : EffectiveShape) → AreGivenShapes (whole_shape (bare_view r) e ∷ []) → IsEffective ss r.id e
      → (list : Vec NamedTarget) (t : ShapeTraits) → AreSoundTraits t → IsEffective ss r.id (effective_view list.items t)
      → shape_size (made_shape (bare_view r) list.items t) ≡ sum_by its_size (given_shape (whole_shape (bare_view r) e))
  one_sized r e given is list t sound comes =
      let same = one_effective ss r.id (effective_view list.items t) e comes is in
      let given_made = made_given (r ∷ []) (list ∷ []) (t ∷ []) (sound, tt)
      (subst (λ x. AreGivenShapes (whole_shape (bare_view r) x ∷ [])) (sym same) given) in
      let counted = sizes_counted (made_shapes (r ∷ []) (list ∷ []) (t ∷ [])) given_made in
      nothing_more (shape_size (made_shape (bare_view r) list.items t)) ∙ sym counted
      ∙ ap (sum_by its_size) (shapes_made (r ∷ []) (list ∷ []) (t ∷ []))
      ∙ ap (λ x. sum_by its_size (given_entries (whole_shape (bare_view r) x ∷ []))) same
      ∙ sum_by-append its_size (given_shape (whole_shape (bare_view r) e)) []
      ∙ sym (nothing_more (sum_by its_size (given_shape (whole_shape (bare_view r) e))))
    where
      nothing_more : (n : ℕ) → n ≡ n + 0
      nothing_more n = omega arith

  -- a size that is nothing, or that of what the shape comes to
  pub record IsSized (rows : List BareShape) (v n : ℕ) : Type 0 where
    pub row : BareShape
    pub list : Vec NamedTarget
    pub entry : ShapeTraits
    pub at_row : At rows v row
    pub sound : AreSoundTraits entry
    pub comes : IsEffective ss row.id (effective_view list.items entry)
    pub size : n ≡ shape_size (made_shape (bare_view row) list.items entry)

  pub at_most_whole : (rows : List BareShape) (es : List EffectiveShape) → AreGivenShapes (whole_shapes rows es) → AreEffective ss rows es
      → (sizes : List ℕ) → length sizes ≡ length rows → ((v n : ℕ) → At sizes v n → (n ≡ 0) ⊎ IsSized rows v n)
      → sum sizes ≤ sum_by its_size (given_entries (whole_shapes rows es))
  at_most_whole [] es given are [] many each = omega arith
  at_most_whole [] es given are (n ∷ ns) many each = absurd (omega (arith, many))
  at_most_whole (r ∷ rows) es given are [] many each = absurd (omega (arith, many))
  at_most_whole (r ∷ rows) [] given are (n ∷ ns) many each = absurd are
  at_most_whole (r ∷ rows) (e ∷ es) given are (n ∷ ns) many each =
      let first = sum_by its_size (given_shape (whole_shape (bare_view r) e)) in
      let here : n ≤ first = elim (each 0 n refl) [
        | inl none ↦ omega (arith, none)
        | inr h ↦
            let row : h.row ≡ r = same_Some h.row r (sym h.at_row) in
            let is : n ≡ first =
            h.size ∙ ap (λ x. shape_size (made_shape (bare_view x) h.list.items h.entry)) row
            ∙ one_sized r e (given.0, tt) are.0 h.list h.entry h.sound
            (subst (λ x. IsEffective ss x.id (effective_view h.list.items h.entry)) row h.comes) in
            omega (arith, is)
      ] in
      let rest : sum ns ≤ sum_by its_size (given_entries (whole_shapes rows es)) =
      at_most_whole rows es given.1 are.1 ns (omega (arith, many)) (λ v m there. elim (each (suc v) m there) [
        | inl none ↦ inl none
        | inr h ↦ inr (record {
          row = h.row;
          list = h.list;
          entry = h.entry;
          at_row = h.at_row;
          sound = h.sound;
          comes = h.comes;
          size = h.size;
        })
      ]) in
      let joined = sum_by-append its_size (given_shape (whole_shape (bare_view r) e)) (given_entries (whole_shapes rows es)) in
      let sums = sum_more n ns in
      omega (arith, here, rest, joined, sums)
