use Rattle.std.proofs.Common.{◌≡◌, ◌<◌, ◌≤◌, length, get_or, set, sym, ap, subst, ◌∙◌, arith}
use Rattle.std.proofs.lemmas.Bool.{true≢false}
use Rattle.std.proofs.lemmas.List.{length-set}
use Rattle.std.proofs.lemmas.Option.{slice_get-get_or}
use Rattle.sm_merge.specs.steps.Filling.{HasMixedMembers}
use Rattle.sm_merge.specs.Limits.{most_members}
use Rattle.sm_merge.proofs.Ats.{at_stored}
use Rattle.sm_merge.proofs.Filled.{fill_step, members_local}
use Rattle.sm_merge.proofs.Stopped.{set_short}
use Rattle.sm_merge.proofs.members.all_members.Goals as goal

pub members_at-requires-clause-inside : goal.members_at-requires-clause-inside
members_at-requires-clause-inside c =
    c.requires.within c.loop-number.number-index (get_or c.args.order.now c.loop-number.number-index 0)
    (slice_get-get_or c.args.order.now c.loop-number.number-index 0 c.loop-number-test.true)

pub members_at-requires-clause-many : goal.members_at-requires-clause-many
members_at-requires-clause-many c = ap length c.as_slice.ensures.value ∙ c.loop-number.invariant.size

pub index_mut-requires : goal.index_mut-requires
index_mut-requires c =
    let number = get_or c.args.order.now c.loop-number.number-index 0 in
    let low : number < length c.args.rows.now =
    c.requires.within c.loop-number.number-index number (slice_get-get_or c.args.order.now c.loop-number.number-index 0
    c.loop-number-test.true) in
    let size : length c.loop-number.all.items ≡ length c.args.rows.now = c.loop-number.invariant.size in
    omega (arith, low, size, c.loop-number.all.ok.0)

pub loop-number-preserved : goal.loop-number-preserved
loop-number-preserved c =
    let number = get_or c.args.order.now c.loop-number.number-index 0 in
    let at_k = slice_get-get_or c.args.order.now c.loop-number.number-index 0 c.loop-number-test.true in
    let low : number < length c.args.rows.now = c.requires.within c.loop-number.number-index number at_k in
    let count : length c.loop-number.all.items ≡ length c.args.rows.now = c.loop-number.invariant.size in
    let inside : number < length c.loop-number.all.items = omega (arith, low, count) in
    record {
      size = length-set c.loop-number.all.items number c.in_ok-members.members ∙ count;
      filled = λ o.
          fill_step c.args.mixed.now (HasMixedMembers c.args.rows.now c.args.mixed.now) (members_local c.args.rows.now c.args.mixed.now)
          c.args.order.now o c.loop-number.number-index number c.loop-number.all.items c.in_ok-members.members at_k inside
          (subst (λ all. HasMixedMembers c.args.rows.now c.args.mixed.now number all c.in_ok-members.members) c.as_slice.ensures.value
          c.in_ok-members.ensures)
          (c.loop-number.invariant.filled o);
      short = set_short c.loop-number.all.items number c.in_ok-members.members c.loop-number.invariant.short
          (λ many. true≢false (sym (c.is_long-long.ensures.1 (subst (λ ms. most_members < length ms)
          (sym c.as_slice-in-loop-number.ensures.value) many))
          ∙ c.if-long.false));
    }

pub returns-then-long : goal.returns-then-long
returns-then-long c =
    let number = get_or c.args.order.now c.loop-number.number-index 0 in
    let at_k = slice_get-get_or c.args.order.now c.loop-number.number-index 0 c.loop-number-test.true in
    let low : number < length c.args.rows.now = c.requires.within c.loop-number.number-index number at_k in
    let count : length c.loop-number.all.items ≡ length c.args.rows.now = c.loop-number.invariant.size in
    let inside : number < length c.loop-number.all.items = omega (arith, low, count) in
    record {
      all = set c.loop-number.all.items number c.in_ok-members.members;
      place = c.loop-number.number-index;
      number = number;
      list = c.in_ok-members.members;
      stands = at_k;
      there = at_stored c.loop-number.all.items number c.in_ok-members.members inside;
      long = subst (λ ms. most_members < length ms) c.as_slice-in-loop-number.ensures.value (c.is_long-long.ensures.0 c.if-long.true);
      filled = λ o.
          fill_step c.args.mixed.now (HasMixedMembers c.args.rows.now c.args.mixed.now) (members_local c.args.rows.now c.args.mixed.now)
          c.args.order.now o c.loop-number.number-index number c.loop-number.all.items c.in_ok-members.members at_k inside
          (subst (λ all. HasMixedMembers c.args.rows.now c.args.mixed.now number all c.in_ok-members.members) c.as_slice.ensures.value
          c.in_ok-members.ensures)
          (c.loop-number.invariant.filled o);
    }

pub returns : goal.returns
returns c = record {
  size = c.loop-number.invariant.size;
  filled = λ o i v low at_i.
      let enough : length c.args.order.now ≤ c.loop-number.number-index = c.loop-number-test.false in
      c.loop-number.invariant.filled o i v (omega (arith, low, enough)) at_i;
  short = c.loop-number.invariant.short;
}
