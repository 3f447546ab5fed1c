use Rattle.std.proofs.Common.{◌+◌, map, drop, refl, arith}
use Rattle.std.specs.Prelude.{slice_index_or}
use Rattle.std.specs.List.Sorted.{IsStrictlySortedBy}
use Rattle.std.specs.Ordering.{nat_cmp}
use Rattle.std.specs.Cmp.Lexicographic.{slice_cmp}
use Rattle.std.proofs.lemmas.Cmp.{nat_list_cmp_total}
use Rattle.std.proofs.lemmas.List.{drop_more}
use Rattle.sm_shapes.specs.TableView.{table_data}
use Rattle.codec_bodies.specs.Checked.{name_by}
use Rattle.codec_bodies.proofs.Rising.{rise_behind, none_rise, one_rises, step_behind, first_step, at_end, drop_none}
use Rattle.codec_bodies.proofs.order.names_rise.Goals.{in-Some+else-not-is_before, in-None}
use Rattle.codec_bodies.proofs.order.names_rise.Goals as goal

pub loop-member-preserved : goal.loop-member-preserved
loop-member-preserved c h =
    let i = c.loop-member.member-index in
    let xs = c.args.members.now in
    let x = slice_index_or xs i 0 in
    let name = name_by c.args.json (table_data c.args.table.now) in
    let cut = drop_more xs i 0 (omega (arith, c.loop-member-test.true, c.loop-member.auto.member-index-end)) in
    elim c.match-last.branch [
      | in-Some+else-not-is_before w ↦
          step_behind (λ ks. IsStrictlySortedBy (slice_cmp nat_cmp) (map name ks)) c.loop-member.last w.in-Some.before x (drop i xs)
          (drop (i + 1) xs) _ w.in-Some.is cut
          (rise_behind (slice_cmp nat_cmp) nat_list_cmp_total (name w.in-Some.before) (name x) (map name (drop (i + 1) xs))
          (w.if-not-is_before.ensures refl)) c.loop-member.invariant h
      | in-None w ↦
          first_step (λ ks. IsStrictlySortedBy (slice_cmp nat_cmp) (map name ks)) c.loop-member.last x (drop i xs) (drop (i + 1) xs) _
          w.in-None.is cut c.loop-member.invariant h
    ]

pub returns : goal.returns
returns c good =
    let name = name_by c.args.json (table_data c.args.table.now) in
    at_end (λ ks. IsStrictlySortedBy (slice_cmp nat_cmp) (map name ks)) c.loop-member.last
    (drop c.loop-member.member-index c.args.members.now) _
    (drop_none c.args.members.now c.loop-member.member-index
    (omega (arith, c.loop-member-test.false, c.loop-member.auto.member-index-end)))
    (none_rise (slice_cmp nat_cmp) nat_list_cmp_total) (λ k. one_rises (slice_cmp nat_cmp) nat_list_cmp_total (name k))
    c.loop-member.invariant
