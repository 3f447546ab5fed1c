use Rattle.std.proofs.Common.{◌≡◌, ◌+◌, ◌∷◌, drop, ap, sym, subst, ◌∙◌, arith, length-drop}
use Rattle.std.proofs.lemmas.List.{drop_more}
use Rattle.std.specs.Slice.Iter.{iter_rest}
use Rattle.sm_merge.specs.steps.Made.{AreAllSound, made_shape, made_shapes, parted_shapes}
use Rattle.sm_merge.specs.steps.Placed.{bare_view}
use Rattle.sm_merge.proofs.TraitsHeld.{no_more_lists, no_more_rows, no_more_tables, parts_end, parts_more}
use Rattle.sm_merge.proofs.shape_parts.shape_parts.Goals as goal

pub returns-in-None : goal.returns-in-None
returns-in-None c =
    let rest = drop c.loop-row.row-index c.args.rows.now in
    parts_end c.args.rows.now rest c.loop-row.parts.items _ _
    (no_more_lists rest (iter_rest c.loop-row.lists) (iter_rest c.loop-row.tables) c.in-None.ensures.steps.0) c.loop-row.invariant.parts

pub returns-in-None-next : goal.returns-in-None-next
returns-in-None-next c =
    let rest = drop c.loop-row.row-index c.args.rows.now in
    parts_end c.args.rows.now rest c.loop-row.parts.items _ _
    (no_more_tables rest (iter_rest c.loop-row.lists) (iter_rest c.loop-row.tables) c.in-None-next.ensures.steps.0)
    c.loop-row.invariant.parts

pub loop-row-preserved : goal.loop-row-preserved
loop-row-preserved c =
    let rows = c.args.rows.now in
    let i = c.loop-row.row-index in
    let row = c.row-item.result in
    let left = drop (i + 1) rows in
    let list = c.in-Some.list.now in
    let table = c.in-Some-next.table.now in
    let lists = iter_rest c.next.new.self in
    let tables = iter_rest c.next-in-Some.new.self in
    let rest : drop i rows ≡ row ∷ left = drop_more rows i row c.loop-row-test.true ∙ ap (λ r. r ∷ left) (sym c.row-item.is) in
    let more_lists : iter_rest c.loop-row.lists ≡ list ∷ lists = c.in-Some.ensures.steps in
    let more_tables : iter_rest c.loop-row.tables ≡ table ∷ tables = c.in-Some-next.ensures.steps in
    record {
      sound = (subst AreAllSound more_tables c.loop-row.invariant.sound).1;
      parts = λ more h.
          parts_more rows left row _ (made_shapes left lists tables) (made_shape (bare_view row) list.items table) c.loop-row.parts.items
          c.push.new.self.items more c.in_ok-shape_part-in-Some-next.field-0 c.in_ok-push-in-Some-next.ensures.items
          (c.in_ok-shape_part-in-Some-next.ensures ∙ ap (λ ms. made_shape (bare_view row) ms table) c.as_slice.ensures.value)
          (λ later e. c.loop-row.invariant.parts later
          (ap (λ rs. parted_shapes rs later) rest ∙ e ∙ sym (λ j. made_shapes (rest j) (more_lists j) (more_tables j)))) h;
    }

pub returns : goal.returns
returns c =
    let rows = c.args.rows.now in
    let rest = drop c.loop-row.row-index rows in
    let past = c.loop-row-test.false in
    let long = length-drop c.loop-row.row-index rows in
    parts_end rows rest c.loop-row.parts.items _ _
    (no_more_rows rest (iter_rest c.loop-row.lists) (iter_rest c.loop-row.tables) (omega (arith, past, long))) c.loop-row.invariant.parts
