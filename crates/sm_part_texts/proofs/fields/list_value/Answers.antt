use Rattle.std.proofs.Common.{◌≡◌, ◌+◌, ◌++◌, [], ◌∷◌, drop, map, true, false, sym, ap, ◌∙◌, append-nil, arith}
use Rattle.std.specs.List.{list_all}
use Rattle.std.proofs.lemmas.List.{drop_all, drop_more}
use Rattle.sm_time.proofs.StampForms.{and_second}
use Rattle.sm_shapes.specs.TableView.{table_data}
use Rattle.sm_shapes.specs.ValueView.{val_of, vals_view}
use Rattle.sm_codec.specs.PlaceView.{place_of}
use Rattle.sm_parts.specs.HeaderLists.{written_entry, written_list}
use Rattle.sm_part_texts.specs.CarriedTexts.{has_text_at}
use Rattle.sm_part_texts.specs.PlaceTexts.{in_fields, text_at}
use Rattle.sm_part_texts.specs.steps.Joining.{entries_joined, gap}
use Rattle.sm_part_texts.proofs.JoinedEntries.{entries_are, next_entry}
use Rattle.sm_part_texts.proofs.fields.list_value.Goals as goal

pub loop-item-preserved : goal.loop-item-preserved
loop-item-preserved c =
    let t = table_data c.args.table.now in
    let p = place_of c.args.entry in
    let all = c.args.items.now in
    let i = c.loop-item.item-index in
    let item = c.item-item.result in
    let cut = c.cut_at-cut.result in
    let out = c.loop-item.out.items in
    let first = c.loop-item.is_first in
    let rest = drop (i + 1) all in
    let texts = map (text_at in_fields t p) (vals_view rest) in
    let view : vals_view (drop i all) ≡ val_of item ∷ vals_view rest =
    ap vals_view (drop_more all i item c.loop-item-test.true ∙ ap (λ y. y ∷ rest) (sym c.item-item.is)) in
    let put = c.in_ok-put_entry.ensures ∙ ap (λ o. o ++ written_entry cut c.as_slice.result.now) c.in_ok-put_gap.ensures
    ∙ ap (λ u. (out ++ gap first) ++ written_entry cut u) (c.as_slice.ensures ∙ c.in_ok-text.ensures) in
    record {
      put = ap (λ o. o ++ entries_joined cut false texts) put ∙ next_entry cut out (text_at in_fields t p (val_of item)) first texts
          ∙ ap (λ vs. out ++ entries_joined cut first (map (text_at in_fields t p) vs)) (sym view) ∙ c.loop-item.invariant.put;
      has = and_second (has_text_at in_fields t p (val_of item)) (list_all (has_text_at in_fields t p) (vals_view rest))
          (ap (list_all (has_text_at in_fields t p)) (sym view) ∙ c.loop-item.invariant.has);
    }

pub returns : goal.returns
returns c =
    let t = table_data c.args.table.now in
    let p = place_of c.args.entry in
    let all = c.args.items.now in
    let cut = c.cut_at-cut.result in
    let out = c.loop-item.out.items in
    let texts = map (text_at in_fields t p) (vals_view all) in
    let none = drop_all c.loop-item.item-index all (omega (arith, c.loop-item-test.false)) in
    c.new.ensures
    ∙ sym (append-nil out)
    ∙ sym (ap (λ vs. out ++ entries_joined cut c.loop-item.is_first (map (text_at in_fields t p) (vals_view vs))) none)
    ∙ c.loop-item.invariant.put ∙ entries_are cut texts ∙ ap (λ k. written_list k texts) c.cut_at-cut.ensures
