use Rattle.std.proofs.Common.{[], ◌∷◌, ap, sym, ◌∙◌, subst, arith, rules}
use Rattle.std.specs.Prelude.{None, OnOk, option_copied}
use Rattle.std.proofs.lemmas.List.{drop_all}
use Rattle.sm_tree.specs.Events.{key_event, end_object}
use Rattle.sm_shapes.specs.InOrder.{Shaped}
use Rattle.sm_shapes.specs.TableView.{table_data}
use Rattle.sm_shapes.specs.Values.{vals_nodes, entries_nodes, fields_nodes, vals_of, entries_of, fields_of}
use Rattle.sm_shapes.specs.ValueView.{val_of, vals_view, each_entry_view, each_field_view}
use Rattle.sm_codec.specs.Convention.{IsConvention}
use Rattle.sm_codec.specs.PlaceView.{place_of}
use Rattle.sm_codec.specs.steps.EventsHanded.{Came, IsReady, entries_left, fields_left, fields_stream, items_left}
use Rattle.sm_codec.specs.steps.EventsHanded.{named_stream, union_stream, value_stream}
use Rattle.sm_codec.specs.steps.ValueParts.{EntriesCarried, PairsCarried, PartsCarried, carried_leaf}
use Rattle.sm_codec.proofs.HandedEvents.{come_none, first_ready, last_came, rest_ready, then_came}
use Rattle.sm_codec.proofs.HandedLoops.{cut_at, end_came, end_ready, entry_came, entry_ready, field_came, field_ready, fields_end}
use Rattle.sm_codec.proofs.HandedLoops.{item_came, item_ready, list_opened, list_opens, none_came}
use Rattle.sm_codec.proofs.HandedLoops.{map_opened, map_opens, others_hold, part_came, part_holds, part_ready, structure_opened}
use Rattle.sm_codec.proofs.HandedLoops.{structure_opens, union_came, union_opens, union_ready}
use Rattle.sm_codec.proofs.events.+hand.Goals as goal

pub hand_items-hand-requires : goal.hand_items-hand-requires
hand_items-hand-requires g t c = record {
  ready = list_opens (table_data c.args.by.now.table.now) (g.L.Leaves.convention c.args.by.now.leaves.now)
      (place_of c.args.place) c.args.items.now c.requires.ready;
}

pub hand_items-loop-item-init : goal.hand_items-loop-item-init
hand_items-loop-item-init g t c =
    let table = table_data c.args.by.now.table.now in
    let l = g.L.Leaves.convention c.args.by.now.leaves.now in
    record {
      came = list_opened table l (place_of c.args.place) c.args.items.now c.requires.ready (g.E.EventSink.stands_for c.hand.new.to)
          (g.E.EventSink.takes c.hand.new.to) c.in-Ok.ensures.came;
      alike = c.in-Ok.ensures.alike;
      parts = subst (λ q. EntriesCarried table l q (vals_of (vals_view c.args.items.now))) (sym c.entry-entry.ensures) c.requires.parts;
      weight = omega arith;
    }

pub hand_items-hand_value-requires : goal.hand_items-hand_value-requires
hand_items-hand_value-requires g t c =
    let table = table_data c.args.by.now.table.now in
    let l = g.L.Leaves.convention c.args.by.now.leaves.now in
    let cut = cut_at c.args.items.now c.loop-item.item-index c.item-item.result c.loop-item-test.true c.item-item.is in
    let parts = subst (λ xs. EntriesCarried table l (place_of c.entry-entry.result) (vals_of (vals_view xs))) cut c.loop-item.invariant.parts in
    let ready = item_ready table l (place_of c.args.place) (place_of c.entry-entry.result) c.entry-entry.ensures cut c.loop-item.invariant.came in
    λ κs inside. (
      omega (arith, ap (λ xs. vals_nodes (vals_of (vals_view xs))) cut, c.loop-item.invariant.weight),
      (inside.0, (inside.1, (c.requires.laws, (c.requires.shaped, (parts.0, ready))))),
    )

pub hand_items-loop-item-preserved : goal.hand_items-loop-item-preserved
hand_items-loop-item-preserved g t c =
    let table = table_data c.args.by.now.table.now in
    let l = g.L.Leaves.convention c.args.by.now.leaves.now in
    let cut = cut_at c.args.items.now c.loop-item.item-index c.item-item.result c.loop-item-test.true c.item-item.is in
    let parts = subst (λ xs. EntriesCarried table l (place_of c.entry-entry.result) (vals_of (vals_view xs))) cut c.loop-item.invariant.parts in
    record {
      came = item_came table l (place_of c.args.place) (place_of c.entry-entry.result) c.entry-entry.ensures cut c.loop-item.invariant.came
          (g.E.EventSink.stands_for c.hand_value.new.to) (g.E.EventSink.takes c.hand_value.new.to) c.in-Ok-hand_value.ensures.came;
      alike = g.met.E.EventSink.alike_then c.args.to.now c.loop-item.to c.hand_value.new.to c.loop-item.invariant.alike c.in-Ok-hand_value.ensures.alike;
      parts = parts.1;
      weight = omega (arith, ap (λ xs. vals_nodes (vals_of (vals_view xs))) cut, c.loop-item.invariant.weight);
    }

pub hand_items-hand-requires-2 : goal.hand_items-hand-requires-2
hand_items-hand-requires-2 g t c = record {
  ready = end_ready (items_left (table_data c.args.by.now.table.now) (g.L.Leaves.convention c.args.by.now.leaves.now) (place_of c.args.place))
      (drop_all c.loop-item.item-index c.args.items.now c.loop-item-test.false) c.loop-item.invariant.came;
}

pub hand_items-returns-clause-came : goal.hand_items-returns-clause-came
hand_items-returns-clause-came g t c =
    end_came (items_left (table_data c.args.by.now.table.now) (g.L.Leaves.convention c.args.by.now.leaves.now) (place_of c.args.place))
    (drop_all c.loop-item.item-index c.args.items.now c.loop-item-test.false) c.loop-item.invariant.came (g.E.EventSink.stands_for c.hand-2.new.to) (g.E.EventSink.takes c.hand-2.new.to) c.hand-2.result c.hand-2.ensures.came

pub hand_items-returns-clause-alike : goal.hand_items-returns-clause-alike
hand_items-returns-clause-alike g t c =
    g.met.E.EventSink.alike_then c.args.to.now c.loop-item.to c.hand-2.new.to c.loop-item.invariant.alike c.hand-2.ensures.alike

pub hand_entries-hand-requires : goal.hand_entries-hand-requires
hand_entries-hand-requires g t c = record {
  ready = map_opens (table_data c.args.by.now.table.now) (g.L.Leaves.convention c.args.by.now.leaves.now)
      (place_of c.args.place) c.args.entries.now c.requires.ready;
}

pub hand_entries-loop-pair-init : goal.hand_entries-loop-pair-init
hand_entries-loop-pair-init g t c =
    let table = table_data c.args.by.now.table.now in
    let l = g.L.Leaves.convention c.args.by.now.leaves.now in
    record {
      came = map_opened table l (place_of c.args.place) c.args.entries.now c.requires.ready (g.E.EventSink.stands_for c.hand.new.to)
          (g.E.EventSink.takes c.hand.new.to) c.in-Ok.ensures.came;
      alike = c.in-Ok.ensures.alike;
      parts = subst (λ q. PairsCarried table l q (entries_of (each_entry_view c.args.entries.now))) (sym c.value-inner.ensures) c.requires.parts;
      weight = omega arith;
    }

pub hand_entries-hand_pair-requires : goal.hand_entries-hand_pair-requires
hand_entries-hand_pair-requires g t c =
    let table = table_data c.args.by.now.table.now in
    let l = g.L.Leaves.convention c.args.by.now.leaves.now in
    let cut = cut_at c.args.entries.now c.loop-pair.pair-index c.pair-item.result c.loop-pair-test.true c.pair-item.is in
    let parts = subst (λ xs. PairsCarried table l (place_of c.value-inner.result) (entries_of (each_entry_view xs))) cut c.loop-pair.invariant.parts in
    let ready = entry_ready table l (place_of c.args.place) (place_of c.value-inner.result) c.value-inner.ensures c.as_str.ensures.bytes cut c.loop-pair.invariant.came in
    λ κs inside. (
      omega (arith, ap (λ xs. entries_nodes (entries_of (each_entry_view xs))) cut, c.loop-pair.invariant.weight),
      (inside.0, (inside.1, (parts.1, (c.requires.laws, (c.requires.shaped, ready))))),
    )

pub hand_entries-loop-pair-preserved : goal.hand_entries-loop-pair-preserved
hand_entries-loop-pair-preserved g t c =
    let table = table_data c.args.by.now.table.now in
    let l = g.L.Leaves.convention c.args.by.now.leaves.now in
    let cut = cut_at c.args.entries.now c.loop-pair.pair-index c.pair-item.result c.loop-pair-test.true c.pair-item.is in
    let parts = subst (λ xs. PairsCarried table l (place_of c.value-inner.result) (entries_of (each_entry_view xs))) cut c.loop-pair.invariant.parts in
    record {
      came = entry_came table l (place_of c.args.place) (place_of c.value-inner.result) c.value-inner.ensures c.as_str.ensures.bytes cut c.loop-pair.invariant.came
          (g.E.EventSink.stands_for c.hand_pair.new.to) (g.E.EventSink.takes c.hand_pair.new.to) c.in-Ok-hand_pair.ensures.came;
      alike = g.met.E.EventSink.alike_then c.args.to.now c.loop-pair.to c.hand_pair.new.to c.loop-pair.invariant.alike c.in-Ok-hand_pair.ensures.alike;
      parts = parts.2;
      weight = omega (arith, ap (λ xs. entries_nodes (entries_of (each_entry_view xs))) cut, c.loop-pair.invariant.weight);
    }

pub hand_entries-hand-requires-2 : goal.hand_entries-hand-requires-2
hand_entries-hand-requires-2 g t c = record {
  ready = end_ready (entries_left (table_data c.args.by.now.table.now) (g.L.Leaves.convention c.args.by.now.leaves.now) (place_of c.args.place))
      (drop_all c.loop-pair.pair-index c.args.entries.now c.loop-pair-test.false) c.loop-pair.invariant.came;
}

pub hand_entries-returns-clause-came : goal.hand_entries-returns-clause-came
hand_entries-returns-clause-came g t c =
    end_came (entries_left (table_data c.args.by.now.table.now) (g.L.Leaves.convention c.args.by.now.leaves.now) (place_of c.args.place))
    (drop_all c.loop-pair.pair-index c.args.entries.now c.loop-pair-test.false) c.loop-pair.invariant.came (g.E.EventSink.stands_for c.hand-2.new.to) (g.E.EventSink.takes c.hand-2.new.to) c.hand-2.result c.hand-2.ensures.came

pub hand_entries-returns-clause-alike : goal.hand_entries-returns-clause-alike
hand_entries-returns-clause-alike g t c =
    g.met.E.EventSink.alike_then c.args.to.now c.loop-pair.to c.hand-2.new.to c.loop-pair.invariant.alike c.hand-2.ensures.alike

pub hand_structure-hand-requires : goal.hand_structure-hand-requires
hand_structure-hand-requires g t c = record {
  ready = structure_opens (table_data c.args.by.now.table.now) (g.L.Leaves.convention c.args.by.now.leaves.now) (place_of c.args.place) c.args.fields.now
      c.requires.ready;
}

pub hand_structure-hand_fields-requires : goal.hand_structure-hand_fields-requires
hand_structure-hand_fields-requires g t c =
    let opened = structure_opened (table_data c.args.by.now.table.now) (g.L.Leaves.convention c.args.by.now.leaves.now) (place_of c.args.place)
    c.args.fields.now c.requires.ready (g.E.EventSink.stands_for c.hand.new.to) (g.E.EventSink.takes c.hand.new.to) c.in-Ok.ensures.came in
    λ κs inside. (
      omega arith,
      (inside.0, (inside.1, (c.requires.laws, (c.requires.shaped, (c.requires.place, (tt, (c.requires.parts, opened.3))))))),
    )

pub hand_structure-returns-in-Ok-clause-came : goal.hand_structure-returns-in-Ok-clause-came
hand_structure-returns-in-Ok-clause-came g t c =
    let table = table_data c.args.by.now.table.now in
    let l = g.L.Leaves.convention c.args.by.now.leaves.now in
    let p = place_of c.args.place in
    let M = g.E.EventSink.stands_for c.hand.new.to in
    let U = g.E.EventSink.takes c.hand.new.to in
    let all = c.args.fields.now in
    last_came (g.E.EventSink.stands_for c.args.to.now) M (g.E.EventSink.stands_for c.hand_fields.new.to) (g.E.EventSink.takes c.args.to.now) U (g.E.EventSink.takes c.hand_fields.new.to)
    (fields_stream table l p all) (fields_left table l p None all) c.hand_fields.result
    (structure_opened table l p all c.requires.ready M U c.in-Ok.ensures.came) c.hand_fields.ensures.came

pub hand_fields-loop-part-init : goal.hand_fields-loop-part-init
hand_fields-loop-part-init g t c = record {
  came = come_none (g.E.EventSink.stands_for c.args.to.now) (g.E.EventSink.takes c.args.to.now) (fields_left (table_data c.args.by.now.table.now) (g.L.Leaves.convention c.args.by.now.leaves.now) (place_of c.args.place) (option_copied c.args.members) c.args.fields.now) c.requires.ready;
  alike = g.met.E.EventSink.alike_itself c.args.to.now;
  parts = c.requires.parts;
  weight = omega arith;
}

pub hand_fields-hand_field-requires : goal.hand_fields-hand_field-requires
hand_fields-hand_field-requires g t c =
    let table = table_data c.args.by.now.table.now in
    let l = g.L.Leaves.convention c.args.by.now.leaves.now in
    let o = option_copied c.args.members in
    let cut = cut_at c.args.fields.now c.loop-part.part-index c.part-item.result c.loop-part-test.true c.part-item.is in
    let part = part_holds table (carried_leaf table l) o cut c.loop-part.invariant.parts in
    let ready = part_ready table l (place_of c.args.place) o cut c.loop-part.invariant.came in
    λ κs inside. (
      omega (arith, ap (λ xs. fields_nodes (fields_of (each_field_view xs))) cut, c.loop-part.invariant.weight),
      (inside.0, (inside.1, (c.requires.rise, (c.requires.laws, (c.requires.shaped, (c.requires.place, (part, ready))))))),
    )

pub hand_fields-loop-part-preserved : goal.hand_fields-loop-part-preserved
hand_fields-loop-part-preserved g t c =
    let table = table_data c.args.by.now.table.now in
    let l = g.L.Leaves.convention c.args.by.now.leaves.now in
    let o = option_copied c.args.members in
    let cut = cut_at c.args.fields.now c.loop-part.part-index c.part-item.result c.loop-part-test.true c.part-item.is in
    record {
      came = part_came table l (place_of c.args.place) o cut c.loop-part.invariant.came (g.E.EventSink.stands_for c.hand_field.new.to)
          (g.E.EventSink.takes c.hand_field.new.to) c.in-Ok.ensures.came;
      alike = g.met.E.EventSink.alike_then c.args.to.now c.loop-part.to c.hand_field.new.to c.loop-part.invariant.alike
          c.in-Ok.ensures.alike;
      parts = others_hold table (carried_leaf table l) o cut c.loop-part.invariant.parts;
      weight = omega (arith, ap (λ xs. fields_nodes (fields_of (each_field_view xs))) cut, c.loop-part.invariant.weight);
    }

pub hand_fields-hand-requires : goal.hand_fields-hand-requires
hand_fields-hand-requires g t c =
    let table = table_data c.args.by.now.table.now in
    let l = g.L.Leaves.convention c.args.by.now.leaves.now in
    let o = option_copied c.args.members in
    let p = place_of c.args.place in
    let none = drop_all c.loop-part.part-index c.args.fields.now c.loop-part-test.false in
    record {
      ready = subst (IsReady (g.E.EventSink.stands_for c.loop-part.to) (g.E.EventSink.takes c.loop-part.to)) (fields_end table l p o)
          (end_ready (fields_left table l p o) none c.loop-part.invariant.came);
    }

pub hand_fields-returns-clause-came : goal.hand_fields-returns-clause-came
hand_fields-returns-clause-came g t c =
    let M = g.E.EventSink.stands_for c.loop-part.to in
    let U = g.E.EventSink.takes c.loop-part.to in
    let N = g.E.EventSink.stands_for c.hand.new.to in
    let V = g.E.EventSink.takes c.hand.new.to in
    let table = table_data c.args.by.now.table.now in
    let l = g.L.Leaves.convention c.args.by.now.leaves.now in
    let o = option_copied c.args.members in
    let p = place_of c.args.place in
    let none = drop_all c.loop-part.part-index c.args.fields.now c.loop-part-test.false in
    end_came (fields_left table l p o) none c.loop-part.invariant.came N V c.hand.result
    (subst (λ es. OnOk c.hand.result (Came M U es N V)) (sym (fields_end table l p o)) c.hand.ensures.came)

pub hand_fields-returns-clause-alike : goal.hand_fields-returns-clause-alike
hand_fields-returns-clause-alike g t c =
    g.met.E.EventSink.alike_then c.args.to.now c.loop-part.to c.hand.new.to c.loop-part.invariant.alike c.hand.ensures.alike

pub hand_field-wire_name-name-requires : goal.hand_field-wire_name-name-requires
hand_field-wire_name-name-requires g t c = (c.requires.part (sym c.is_written.ensures ∙ c.if-is_written.true)).0

pub hand_field-hand_pair-requires : goal.hand_field-hand_pair-requires
hand_field-hand_pair-requires g t c =
    let table = table_data c.args.by.now.table.now in
    let l = g.L.Leaves.convention c.args.by.now.leaves.now in
    let k = c.args.part.now.0 in
    let here = sym c.is_written.ensures ∙ c.if-is_written.true in
    let same = c.wire_name-name.ensures ∙ ap (λ s. l.name table s k) c.shape.ensures in
    let ready = field_ready table l (place_of c.args.place) (option_copied c.args.members) k (val_of c.args.part.now.1)
    (g.E.EventSink.stands_for c.args.to.now) (g.E.EventSink.takes c.args.to.now) here same c.requires.ready in
    λ κs inside. (omega arith, (inside.0, (inside.1, ((c.requires.part here).1, (c.requires.laws, (c.requires.shaped, ready))))))

pub hand_field-returns-then-is_written-clause-came : goal.hand_field-returns-then-is_written-clause-came
hand_field-returns-then-is_written-clause-came g t c =
    let table = table_data c.args.by.now.table.now in
    let l = g.L.Leaves.convention c.args.by.now.leaves.now in
    let k = c.args.part.now.0 in
    field_came table l (place_of c.args.place) (option_copied c.args.members) k (val_of c.args.part.now.1)
    (g.E.EventSink.stands_for c.args.to.now) (g.E.EventSink.takes c.args.to.now) (g.E.EventSink.stands_for c.hand_pair.new.to)
    (g.E.EventSink.takes c.hand_pair.new.to) c.hand_pair.result (sym c.is_written.ensures ∙ c.if-is_written.true)
    (c.wire_name-name.ensures ∙ ap (λ s. l.name table s k) c.shape.ensures) c.hand_pair.ensures.came

pub hand_field-returns-else-is_written-clause-came : goal.hand_field-returns-else-is_written-clause-came
hand_field-returns-else-is_written-clause-came g t c =
    none_came (table_data c.args.by.now.table.now) (g.L.Leaves.convention c.args.by.now.leaves.now) (place_of c.args.place) (option_copied c.args.members) c.args.part.now.0
    (val_of c.args.part.now.1) (g.E.EventSink.stands_for c.args.to.now) (g.E.EventSink.takes c.args.to.now)
    (sym c.is_written.ensures ∙ c.if-is_written.false)

pub hand_pair-hand_key-requires : goal.hand_pair-hand_key-requires
hand_pair-hand_key-requires g t c =
    let table = table_data c.args.by.now.table.now in
    let l = g.L.Leaves.convention c.args.by.now.leaves.now in
    let p = place_of c.args.place in
    let v = val_of c.args.value.now in
    let S = g.E.EventSink.stands_for c.args.to.now in
    let T = g.E.EventSink.takes c.args.to.now in
    let ready : IsReady S T (named_stream table l p c.args.name.now v) = search rules in
    record { ready = first_ready S T (key_event c.args.name.now ∷ []) (value_stream table l p v) ready }

pub hand_pair-hand_value-requires : goal.hand_pair-hand_value-requires
hand_pair-hand_value-requires g t c =
    let table = table_data c.args.by.now.table.now in
    let l = g.L.Leaves.convention c.args.by.now.leaves.now in
    let p = place_of c.args.place in
    let v = val_of c.args.value.now in
    let S = g.E.EventSink.stands_for c.args.to.now in
    let T = g.E.EventSink.takes c.args.to.now in
    let ready : IsReady S T (named_stream table l p c.args.name.now v) = search rules in
    let parts : PartsCarried table l p v = search rules in
    let laws : IsConvention l = search rules in
    let shaped : Shaped table = search rules in
    let next = rest_ready S (g.E.EventSink.stands_for c.hand_key.new.to) T (g.E.EventSink.takes c.hand_key.new.to)
    (key_event c.args.name.now ∷ []) (value_stream table l p v) ready c.in-Ok.ensures.came in
    λ κs inside. (omega arith, (inside.0, (inside.1, (laws, (shaped, (parts, next))))))

pub hand_pair-returns-in-Ok-clause-came : goal.hand_pair-returns-in-Ok-clause-came
hand_pair-returns-in-Ok-clause-came g t c =
    then_came (g.E.EventSink.stands_for c.args.to.now) (g.E.EventSink.stands_for c.hand_key.new.to) (g.E.EventSink.stands_for c.hand_value.new.to) (g.E.EventSink.takes c.args.to.now)
    (g.E.EventSink.takes c.hand_key.new.to) (g.E.EventSink.takes c.hand_value.new.to) (key_event c.args.name.now ∷ [])
    (value_stream (table_data c.args.by.now.table.now) (g.L.Leaves.convention c.args.by.now.leaves.now) (place_of c.args.place) (val_of c.args.value.now)) c.hand_value.result c.in-Ok.ensures.came
    c.hand_value.ensures.came

pub hand_one-hand-requires : goal.hand_one-hand-requires
hand_one-hand-requires g t c = record {
  ready = union_opens (table_data c.args.by.now.table.now) (g.L.Leaves.convention c.args.by.now.leaves.now) (place_of c.args.place) c.args.member
      (val_of c.args.value.now) c.requires.ready;
}

pub hand_one-hand_pair-requires : goal.hand_one-hand_pair-requires
hand_one-hand_pair-requires g t c =
    let table = table_data c.args.by.now.table.now in
    let l = g.L.Leaves.convention c.args.by.now.leaves.now in
    let ready = union_ready table l (place_of c.args.place) c.args.member (val_of c.args.value.now) c.requires.ready
    (c.wire_name-name.ensures ∙ ap (λ s. l.name table s c.args.member) c.shape.ensures) c.in-Ok.ensures.came in
    λ κs inside. (omega arith, (inside.0, (inside.1, (c.requires.parts, (c.requires.laws, (c.requires.shaped, ready))))))

pub hand_one-hand-requires-2 : goal.hand_one-hand-requires-2
hand_one-hand-requires-2 g t c =
    let table = table_data c.args.by.now.table.now in
    let l = g.L.Leaves.convention c.args.by.now.leaves.now in
    let came = union_came table l (place_of c.args.place) c.args.member (val_of c.args.value.now) c.requires.ready
    (c.wire_name-name.ensures ∙ ap (λ s. l.name table s c.args.member) c.shape.ensures) c.in-Ok.ensures.came
    (g.E.EventSink.stands_for c.hand_pair.new.to) (g.E.EventSink.takes c.hand_pair.new.to) c.in-Ok-hand_pair.ensures.came in
    record { ready = came.3 }

pub hand_one-returns-clause-came : goal.hand_one-returns-clause-came
hand_one-returns-clause-came g t c =
    let table = table_data c.args.by.now.table.now in
    let l = g.L.Leaves.convention c.args.by.now.leaves.now in
    let came = union_came table l (place_of c.args.place) c.args.member (val_of c.args.value.now) c.requires.ready
    (c.wire_name-name.ensures ∙ ap (λ s. l.name table s c.args.member) c.shape.ensures) c.in-Ok.ensures.came
    (g.E.EventSink.stands_for c.hand_pair.new.to) (g.E.EventSink.takes c.hand_pair.new.to) c.in-Ok-hand_pair.ensures.came in
    last_came (g.E.EventSink.stands_for c.args.to.now) (g.E.EventSink.stands_for c.hand_pair.new.to) (g.E.EventSink.stands_for c.hand-2.new.to) (g.E.EventSink.takes c.args.to.now)
    (g.E.EventSink.takes c.hand_pair.new.to) (g.E.EventSink.takes c.hand-2.new.to)
    (union_stream table l (place_of c.args.place) c.args.member (val_of c.args.value.now)) (end_object ∷ []) c.hand-2.result came
    c.hand-2.ensures.came
