use Rattle.std.proofs.Common.{◌≡◌, ◌<◌, ◌≤◌, ◌+◌, ℕ, length, get_or, set, ap, subst, ◌∙◌, arith}
use Rattle.std.proofs.lemmas.Option.{slice_get-get_or}
use Rattle.sm_merge.specs.steps.Counting.{AreListedTo}
use Rattle.sm_merge.specs.steps.Filling.{HasMixedTraits, id_at, members_at}
use Rattle.sm_merge.specs.steps.MixedIn.{items_at}
use Rattle.sm_merge.proofs.Counted.{counted_none}
use Rattle.sm_merge.proofs.SoundEntries.{sound_entry}
use Rattle.sm_merge.proofs.TraitsListed.{listed_more}
use Rattle.sm_merge.proofs.effective.all_traits.Goals as goal

pub loop-number-init : goal.loop-number-init
loop-number-init c = record {
  small = omega arith;
  listed = record {
    size = c.in_ok-all.ensures.size;
    sound = c.in_ok-all.ensures.sound;
    filled = λ o i v low at_i. absurd (omega (arith, low));
    counted = λ o. counted_none c.args.rows.now c.args.members.now c.args.order.now c.in_ok-all.all.items;
  };
}

pub entry_at-requires-clause-inside : goal.entry_at-requires-clause-inside
entry_at-requires-clause-inside c =
    c.requires.within c.loop-number.number-index (get_or c.args.order.now c.loop-number.number-index 0)
    (slice_get-get_or c.args.order.now c.loop-number.number-index 0 c.loop-number-test.true)

pub entry_at-requires-clause-many : goal.entry_at-requires-clause-many
entry_at-requires-clause-many c = ap length c.as_slice.ensures.value ∙ c.loop-number.invariant.listed.size

pub size_at-size-requires : goal.size_at-size-requires
size_at-size-requires c =
    let number = get_or c.args.order.now c.loop-number.number-index 0 in
    let made = subst (λ all. HasMixedTraits c.args.traits.now c.args.rows.now c.args.members.now c.args.mixed.now number all
    c.in_ok-entry.entry)
    c.as_slice.ensures.value c.in_ok-entry.ensures in
    record {
      inside = c.requires.within c.loop-number.number-index number
          (slice_get-get_or c.args.order.now c.loop-number.number-index 0 c.loop-number-test.true);
      members = c.requires.members;
      sound = (sound_entry c.args.traits.now c.requires.told c.loop-number.all.items c.loop-number.invariant.listed.sound
          (id_at c.args.rows.now number) (members_at c.args.members.now number) (items_at c.args.mixed.now number) c.in_ok-entry.entry
          made).sound;
    }

pub index_mut-requires : goal.index_mut-requires
index_mut-requires c =
    let number = get_or c.args.order.now c.loop-number.number-index 0 in
    let low : number < length c.args.rows.now =
    c.requires.within c.loop-number.number-index number (slice_get-get_or c.args.order.now c.loop-number.number-index 0
    c.loop-number-test.true) in
    let size : length c.loop-number.all.items ≡ length c.args.rows.now = c.loop-number.invariant.listed.size in
    omega (arith, low, size, c.loop-number.all.ok.0)

pub loop-number-preserved : goal.loop-number-preserved
loop-number-preserved c =
    let number = get_or c.args.order.now c.loop-number.number-index 0 in
    let at_k = slice_get-get_or c.args.order.now c.loop-number.number-index 0 c.loop-number-test.true in
    let low : number < length c.args.rows.now = c.requires.within c.loop-number.number-index number at_k in
    record {
      small = c.if-total-gt-TRAIT_LIMIT.false;
      listed =
          listed_more c.requires.told at_k low
          (subst (λ all. HasMixedTraits c.args.traits.now c.args.rows.now c.args.members.now c.args.mixed.now number all
          c.in_ok-entry.entry)
          c.as_slice.ensures.value c.in_ok-entry.ensures)
          c.size_at-size.ensures c.saturating_add-total.ensures c.loop-number.invariant.listed;
    }

pub returns-then-total-gt-TRAIT_LIMIT : goal.returns-then-total-gt-TRAIT_LIMIT
returns-then-total-gt-TRAIT_LIMIT c =
    let number = get_or c.args.order.now c.loop-number.number-index 0 in
    let at_k = slice_get-get_or c.args.order.now c.loop-number.number-index 0 c.loop-number-test.true in
    let low : number < length c.args.rows.now = c.requires.within c.loop-number.number-index number at_k in
    record {
      all = set c.loop-number.all.items number c.in_ok-entry.entry;
      place = c.loop-number.number-index + 1;
      total = c.saturating_add-total.result;
      large = c.if-total-gt-TRAIT_LIMIT.true;
      listed =
          listed_more c.requires.told at_k low
          (subst (λ all. HasMixedTraits c.args.traits.now c.args.rows.now c.args.members.now c.args.mixed.now number all
          c.in_ok-entry.entry)
          c.as_slice.ensures.value c.in_ok-entry.ensures)
          c.size_at-size.ensures c.saturating_add-total.ensures c.loop-number.invariant.listed;
    }

pub returns : goal.returns
returns c =
    let enough : length c.args.order.now ≤ c.loop-number.number-index = c.loop-number-test.false in
    let low : c.loop-number.number-index ≤ length c.args.order.now = c.loop-number.auto.number-index-end in
    let end : c.loop-number.number-index ≡ length c.args.order.now = omega (arith, enough, low) in
    record {
      total = c.loop-number.total;
      small = c.loop-number.invariant.small;
      listed =
          subst (λ (k : ℕ). AreListedTo c.args.rows.now c.args.traits.now c.args.members.now c.args.mixed.now c.args.order.now k
          c.loop-number.all.items c.loop-number.total) end c.loop-number.invariant.listed;
    }
