use Rattle.std.proofs.Common.{drop, ap}
use Rattle.std.proofs.lemmas.List.{drop_all}
use Rattle.sm_tree.specs.View.{nodes_view, members_view}
use Rattle.sm_shapes.specs.TableView.{table_data}
use Rattle.sm_shapes.specs.Values.{vals_of, entries_of, fields_of}
use Rattle.sm_shapes.specs.ValueView.{vals_view, each_entry_view, each_field_view}
use Rattle.sm_codec.specs.PlaceView.{place_of}
use Rattle.sm_codec.specs.Written.{written_entries, written_pairs, written_fields}
use Rattle.sm_codec.proofs.EncodedValues.{all_entries, all_pairs}
use Rattle.sm_codec.proofs.encoding.+encode.Goals as goal

pub encode_entries-returns : goal.encode_entries-returns
encode_entries-returns g t c =
    let table = table_data c.args.table.now in
    let l = g.L.Leaves.convention c.args.leaves.now in
    let p = place_of c.args.place in
    let all = c.args.entries.now in
    let i = c.loop-entry.entry-index in
    all_pairs (written_pairs table l p (entries_of (each_entry_view all))) (written_pairs table l p (entries_of (each_entry_view (drop i
    all))))
    (members_view c.loop-entry.pairs.items)
    (ap (λ es. written_pairs table l p (entries_of (each_entry_view es))) (drop_all i all c.loop-entry-test.false))
    c.loop-entry.invariant.pairs

pub encode_fields-returns : goal.encode_fields-returns
encode_fields-returns g t c =
    let table = table_data c.args.table.now in
    let l = g.L.Leaves.convention c.args.leaves.now in
    let p = place_of c.args.place in
    let all = c.args.fields.now in
    let i = c.loop-part.part-index in
    all_pairs (written_fields table l p (fields_of (each_field_view all))) (written_fields table l p (fields_of (each_field_view (drop i
    all))))
    (members_view c.loop-part.pairs.items)
    (ap (λ fs. written_fields table l p (fields_of (each_field_view fs))) (drop_all i all c.loop-part-test.false))
    c.loop-part.invariant.pairs

pub encode_items-returns : goal.encode_items-returns
encode_items-returns g t c =
    let table = table_data c.args.table.now in
    let l = g.L.Leaves.convention c.args.leaves.now in
    let p = place_of c.args.place in
    let all = c.args.items.now in
    let i = c.loop-item.item-index in
    all_entries (written_entries table l p (vals_of (vals_view all))) (written_entries table l p (vals_of (vals_view (drop i all))))
    (nodes_view c.loop-item.entries.items)
    (ap (λ vs. written_entries table l p (vals_of (vals_view vs))) (drop_all i all c.loop-item-test.false))
    c.loop-item.invariant.entries
