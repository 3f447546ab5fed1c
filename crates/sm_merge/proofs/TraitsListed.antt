-- What stands in tables of traits is what the shapes come to, as far as they are listed.
use Rattle.std.proofs.Common.{◌≡◌, inl, inr, ℕ, zero, suc, ◌<◌, ◌≤◌, ◌+◌, ◌-◌, ◌^◌, List, [], ◌∷◌, length, set, subst, ◌∙◌, sum, arith}
use Rattle.std.specs.Prelude.{min}
use Rattle.std.specs.Global.{Vec}
use Rattle.std.specs.List.{sum_by}
use Rattle.std.proofs.lemmas.List.{length-set}
use Rattle.std.proofs.lemmas.Option.{none-some, same_Some}
use Rattle.sm_bytes.specs.Lengths.{length_word}
use Rattle.sm_model.specs.Given.{AreGivenShapes}
use Rattle.sm_model.specs.Graphs.{given_entries}
use Rattle.sm_merge.specs.Mixins.{EffectiveShape, IsEffective}
use Rattle.sm_merge.specs.Stated.{Stated}
use Rattle.sm_merge.specs.declared.effective.ShapeTraits.{ShapeTraits}
use Rattle.sm_merge.specs.declared.firsts.NamedTarget.{NamedTarget}
use Rattle.sm_merge.specs.Limits.{most_in_traits}
use Rattle.sm_merge.specs.declared.mixins.Contributing.{Contributing}
use Rattle.sm_merge.specs.declared.parts.BareShape.{BareShape}
use Rattle.sm_merge.specs.declared.table.PlaceRow.{PlaceRow}
use Rattle.sm_merge.specs.declared.walk.Walk.{Walk}
use Rattle.sm_merge.specs.steps.Contributing.{AreWalkedTables}
use Rattle.sm_merge.specs.steps.Counting.{AllTold, AreListedTo, AreListedTraits, AreSoundEntries}
use Rattle.sm_merge.specs.steps.Counting.{HasLargeTraits, IsPlaced, IsSoundEntry, TellsSize}
use Rattle.sm_merge.specs.steps.EffectiveTables.{AreEffectiveTables, effective_view}
use Rattle.sm_merge.specs.steps.Filling.{HasMixedMembers, HasMixedTraits, IsFilled, id_at, member_lists, members_at, own_traits}
use Rattle.sm_merge.specs.steps.Firsts.{targets_view}
use Rattle.sm_merge.specs.steps.Links.{At, StandsBefore}
use Rattle.sm_merge.specs.steps.Made.{made_shapes, shapes_size}
use Rattle.sm_merge.specs.steps.MixedIn.{AreMixedIn, IsMixedOrder, items_at, vec_items}
use Rattle.sm_merge.specs.steps.Placed.{Bare, bare_view}
use Rattle.sm_merge.specs.steps.ShapeTables.{ids_of, shapes_view}
use Rattle.sm_merge.specs.steps.Whole.{AreEffective, whole_shapes}
use Rattle.sm_merge.proofs.Ats.{at_map, at_within}
use Rattle.sm_merge.proofs.Counted.{at_most_whole, counted_more, whole_counted}
use Rattle.sm_merge.proofs.EffectiveAll.{done_by}
use Rattle.sm_merge.proofs.EffectiveMade.{seen_as}
use Rattle.sm_merge.proofs.Filled.{fill_step, traits_local}
use Rattle.sm_merge.proofs.GivenCounts.{its_size}
use Rattle.sm_merge.proofs.MixedMade.{mixed_order}
use Rattle.sm_merge.proofs.ShapeNumbers.{ids_count}
use Rattle.sm_merge.proofs.SoundEntries.{set_sound, sound_entry}

sound_at : (all : List ShapeTraits) → AreSoundEntries all → (v : ℕ) (t : ShapeTraits) → At all v t → IsSoundEntry t
sound_at [] h v t there = absurd (none-some t there)
sound_at (x ∷ all) h zero t there = subst IsSoundEntry (same_Some x t there) h.0
sound_at (x ∷ all) h (suc v) t there = sound_at all h.1 v t there

id_of_row : (rows : List BareShape) (v : ℕ) (row : BareShape) → At rows v row → At (ids_of rows) v row.id
id_of_row rows v row there =
    at_map (λ (e : List ℕ × Bare). e.0) (shapes_view rows) v (row.id, bare_view row)
    (at_map (λ (x : BareShape). (x.id, bare_view x)) rows v row there)

module _ (ss : List Stated) (rows : List BareShape) (traits : List PlaceRow) (walk : Walk) (t : AreWalkedTables ss rows traits walk)
    (mixed : List (Vec Contributing)) (are : AreMixedIn ss rows mixed) (members : List (Vec NamedTarget))
    (filled : IsFilled (HasMixedMembers rows mixed) walk.order.items (length walk.order.items) members) where
  order_is : IsMixedOrder walk.order.items mixed
  order_is = mixed_order ss rows traits walk t mixed are

  come : (all : List ShapeTraits) (n : ℕ) → IsFilled (HasMixedTraits traits rows members mixed) walk.order.items n all
      → (v : ℕ) (id : List ℕ) (ms : Vec NamedTarget) (ts : ShapeTraits) → IsPlaced walk.order.items n v → At (ids_of rows) v id
      → At members v ms → At all v ts → IsEffective ss id (effective_view ms.items ts)
  come all n with_traits v id ms ts p at_v at_ms at_ts =
      subst (IsEffective ss id) (λ i. seen_as (targets_view (vec_items (at_ms i))) (own_traits (at_ts i)) (member_lists (at_ts i)))
      ((done_by ss rows traits walk t mixed are order_is members all filled n with_traits p.place v p.before p.there).comes id at_v)

  all_placed : (v : ℕ) → v < length rows → IsPlaced walk.order.items (length walk.order.items) v
  all_placed v low =
      let count : length (ids_of rows) ≡ length rows = ids_count rows in
      let inside : v < length (ids_of rows) = omega (arith, low, count) in
      let stands : StandsBefore walk.order.items (length walk.order.items) v = t.walked.all v inside in
      record { place = stands.place; before = stands.before; there = stands.there }

  -- the tables are those of the shapes
  pub traits_are : (all : List ShapeTraits) → AreListedTraits rows traits members mixed walk.order.items all
      → AreEffectiveTables ss rows members all
  traits_are all h = record {
    size = h.listed.size;
    each = λ v id ms ts at_v at_ms at_ts.
        let inside : v < length (ids_of rows) = at_within (ids_of rows) v id at_v in
        let count : length (ids_of rows) ≡ length rows = ids_count rows in
        come all (length walk.order.items) (h.listed.filled order_is) v id ms ts (all_placed v (omega (arith, inside, count))) at_v
        at_ms at_ts;
    sound = λ v ts at_ts. (sound_at all h.listed.sound v ts at_ts).sound;
  }

  -- they aren't too large
  pub traits_small : (all : List ShapeTraits) → AreListedTraits rows traits members mixed walk.order.items all
      → length members ≡ length rows → most_in_traits < shapes_size (made_shapes rows members all) → ⊥
  traits_small all h size past =
      let is = whole_counted rows members walk.order.items (length walk.order.items) all h.total size h.listed.size
      all_placed (h.listed.counted order_is) in
      let small : h.total ≤ most_in_traits = h.small in
      omega (arith, is, past, small)

  -- or are, whatever the shapes come to
  pub traits_large : HasLargeTraits rows traits members mixed walk.order.items → (es : List EffectiveShape)
      → AreGivenShapes (whole_shapes rows es) → AreEffective ss rows es → most_in_traits < sum_by its_size
      (given_entries (whole_shapes rows es))
  traits_large h es given are_es =
      let c = h.listed.counted order_is in
      let most = at_most_whole ss rows es given are_es c.sizes c.many (λ v n there. elim (c.each v n there) [
        | inl (never, none) ↦ inl none
        | inr (p, s) ↦ inr (record {
          row = s.row;
          list = s.list;
          entry = s.entry;
          at_row = s.at_row;
          sound = (sound_at h.all h.listed.sound v s.entry s.at_entry).sound;
          comes = come h.all h.place (h.listed.filled order_is) v s.row.id s.list s.entry p (id_of_row rows v s.row s.at_row)
              s.at_list s.at_entry;
          size = s.size;
        })
      ]) in
      let total : h.total ≡ length_word (sum c.sizes) = c.total_is in
      let large : most_in_traits < h.total = h.large in
      omega (arith, most, total, large)

-- one more shape
pub listed_more : {rows : List BareShape} {traits : List PlaceRow} {members : List (Vec NamedTarget)} {mixed : List (Vec Contributing)}
    {order : List ℕ} {k v : ℕ} {all : List ShapeTraits} {e : ShapeTraits} {total more next : ℕ} → AllTold traits → At order k v
    → v < length rows → HasMixedTraits traits rows members mixed v all e → TellsSize rows members v e more
    → next ≡ min (total + more) (2 ^ 64 - 1) → AreListedTo rows traits members mixed order k all total
    → AreListedTo rows traits members mixed order (k + 1) (set all v e) next
listed_more {rows} {traits} {members} {mixed} {order} {k} {v} {all} {e} {total} {more} {next} told at_k low made sized next_is h =
    let count : length all ≡ length rows = h.size in
    let inside : v < length all = omega (arith, low, count) in
    record {
      size = length-set all v e ∙ h.size;
      sound =
          set_sound all v e h.sound
          (sound_entry traits told all h.sound (id_at rows v) (members_at members v) (items_at mixed v) e made);
      filled = λ o.
          fill_step mixed (HasMixedTraits traits rows members mixed) (traits_local traits rows members mixed) order o k v all e at_k inside
          made (h.filled o);
      counted = λ o.
          counted_more rows members order o.once k v all e sized.row sized.list total more next at_k inside low sized.at_row sized.at_list
          sized.size next_is (h.counted o);
    }
