use Rattle.std.proofs.Common.{◌≡◌, ◌+◌, suc, [], ◌∷◌, ◌++◌, drop, ap, sym, ◌∙◌, subst, append-nil}
use Rattle.std.proofs.lemmas.List.{drop_more}
use Rattle.sm_tree.specs.declared.path.Step.TheVariants.{Member, Index, Key}
use Rattle.sm_shapes.specs.Places.{member_place}
use Rattle.sm_shapes.specs.TableData.{name_at}
use Rattle.sm_shapes.specs.TableView.{table_data}
use Rattle.sm_shapes.specs.Values.{val, entry, vals_of, entries_of}
use Rattle.sm_shapes.specs.ValueView.{val_of, vals_view, each_entry_view}
use Rattle.sm_codec.specs.PlaceView.{place_of}
use Rattle.sm_codec.specs.Written.{uncarried, uncarried_entries, uncarried_pairs, paths_under}
use Rattle.sm_codec.specs.steps.ValueParts.{FoundFirst}
use Rattle.sm_codec.proofs.EncodedValues.{found_under}
use Rattle.sm_codec.proofs.uncarried.+first.Goals as goal

pub first_in_entries-returns-in-Some : goal.first_in_entries-returns-in-Some
first_in_entries-returns-in-Some g t c =
    let table = table_data c.args.table.now in
    let l = g.L.Leaves.convention c.args.leaves.now in
    let p = place_of c.args.place in
    let q = place_of c.value-inner.result in
    let all = c.args.entries.now in
    let i = c.loop-pair.pair-index in
    let item = c.pair-item.result in
    let v = val_of item.1 in
    let rest = entries_of (each_entry_view (drop (i + 1) all)) in
    let view : entries_of (each_entry_view (drop i all)) ≡ entry item.0 v rest =
    ap (λ es. entries_of (each_entry_view es)) (drop_more all i item c.loop-pair-test.true
    ∙ ap (λ y. y ∷ drop (i + 1) all) (sym c.pair-item.is)) in
    let whole = sym c.loop-pair.invariant.rest ∙ ap (uncarried_pairs table l p) view
    ∙ ap (λ x. paths_under (Key item.0) (uncarried table l x v) ++ uncarried_pairs table l p rest) (sym c.value-inner.ensures) in
    found_under (Key item.0) (uncarried table l q v) (uncarried_pairs table l p (entries_of (each_entry_view all)))
    (uncarried_pairs table l p rest) c.in-Some.path c.with_key.result (subst (FoundFirst (uncarried table l q v)) c.in-Some.is
    c.in-Ok.ensures)
    whole c.with_key.ensures

pub first_in_items-returns-in-Some : goal.first_in_items-returns-in-Some
first_in_items-returns-in-Some g t c =
    let table = table_data c.args.table.now in
    let l = g.L.Leaves.convention c.args.leaves.now in
    let p = place_of c.args.place in
    let q = place_of c.entry-entry.result in
    let all = c.args.items.now in
    let i = c.loop-item.item-index in
    let at = c.loop-item.at in
    let item = c.item-item.result in
    let v = val_of item in
    let rest = vals_of (vals_view (drop (i + 1) all)) in
    let more = uncarried_entries table l p (suc i) rest in
    let view : vals_of (vals_view (drop i all)) ≡ val v rest =
    ap (λ vs. vals_of (vals_view vs)) (drop_more all i item c.loop-item-test.true ∙ ap (λ y. y ∷ drop (i + 1) all) (sym c.item-item.is)) in
    let whole = sym c.loop-item.invariant.rest ∙ ap (uncarried_entries table l p i) view
    ∙ ap (λ x. paths_under (Index i) (uncarried table l x v) ++ more) (sym c.entry-entry.ensures)
    ∙ ap (λ n. paths_under (Index n) (uncarried table l q v) ++ more) (sym c.loop-item.invariant.at) in
    found_under (Index at) (uncarried table l q v) (uncarried_entries table l p 0 (vals_of (vals_view all))) more c.in-Some.path
    c.with_step.result (subst (FoundFirst (uncarried table l q v)) c.in-Some.is c.in-Ok.ensures) whole c.with_step.ensures

pub first_in_member-returns-in-Some : goal.first_in_member-returns-in-Some
first_in_member-returns-in-Some g t c =
    let table = table_data c.args.table.now in
    let k = c.args.member in
    let paths = uncarried table (g.L.Leaves.convention c.args.leaves.now) (member_place k) (val_of c.args.value.now) in
    let step = Member (name_at table k) in
    found_under step paths (paths_under step paths) [] c.in-Some.path c.with_member.result
    (subst (FoundFirst paths) c.in-Some.is c.in-Ok.ensures) (sym (append-nil (paths_under step paths))) c.with_member.ensures
