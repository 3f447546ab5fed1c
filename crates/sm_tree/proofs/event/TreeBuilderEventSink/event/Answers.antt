-- Each call of the builder is brought where it has its place, and adds the event to those taken.
use Rattle.std.proofs.Common.{FitsSigned, w64, to_z-of_z, rules, ◌≡◌, sym, subst, ap, ◌∙◌, [], ◌∷◌, ◌++◌}
use Rattle.std.proofs.lemmas.Result.{on_ok_weaker}
use Rattle.sm_tree.specs.Events.{events}
use Rattle.sm_tree.specs.Streams.{unnumbered_event}
use Rattle.sm_tree.proofs.Views.{node_null, node_bool, node_int, node_number, node_text, node_bytes, node_opaque}
use Rattle.sm_tree.specs.Building.{so_far}
use Rattle.sm_tree.specs.steps.BuilderSteps.{Awaits}
use Rattle.sm_tree.specs.EventView.{event_of}
use Rattle.sm_tree.specs.View.{node_of}
use Rattle.sm_tree.specs.declared.tree.Tree.TheVariants.{Int}
use Rattle.sm_tree.specs.BuilderView.{building_of}
use Rattle.sm_tree.proofs.Awaited.{placed_awaited, taken_on}
use Rattle.sm_tree.proofs.event.TreeBuilderEventSink.event.Goals as goal

pub value_by_call-requires : goal.value_by_call-requires
value_by_call-requires c = subst (λ e. Awaits (building_of c.args.self.now) (unnumbered_event (event_of e))) c.in-Null.is
    (placed_awaited (building_of c.args.self.now) (event_of c.args.event) c.requires.placed)

pub value_by_call-requires-in-Bool : goal.value_by_call-requires-in-Bool
value_by_call-requires-in-Bool c = subst (λ e. Awaits (building_of c.args.self.now) (unnumbered_event (event_of e))) c.in-Bool.is
    (placed_awaited (building_of c.args.self.now) (event_of c.args.event) c.requires.placed)

pub value-requires : goal.value-requires
value-requires c = subst (λ e. Awaits (building_of c.args.self.now) (unnumbered_event (event_of e))) c.in-Int.is
    (placed_awaited (building_of c.args.self.now) (event_of c.args.event) c.requires.placed)

pub value_by_call-requires-in-Number : goal.value_by_call-requires-in-Number
value_by_call-requires-in-Number c = subst (λ e. Awaits (building_of c.args.self.now) (unnumbered_event (event_of e))) c.in-Number.is
    (placed_awaited (building_of c.args.self.now) (event_of c.args.event) c.requires.placed)

pub value-requires-in-Text : goal.value-requires-in-Text
value-requires-in-Text c = subst (λ e. Awaits (building_of c.args.self.now) (unnumbered_event (event_of e))) c.in-Text.is
    (placed_awaited (building_of c.args.self.now) (event_of c.args.event) c.requires.placed)

pub value_by_call-requires-in-Bytes : goal.value_by_call-requires-in-Bytes
value_by_call-requires-in-Bytes c = subst (λ e. Awaits (building_of c.args.self.now) (unnumbered_event (event_of e))) c.in-Bytes.is
    (placed_awaited (building_of c.args.self.now) (event_of c.args.event) c.requires.placed)

pub tag-requires : goal.tag-requires
tag-requires c = subst (λ e. Awaits (building_of c.args.self.now) (unnumbered_event (event_of e))) c.in-Tag.is
    (placed_awaited (building_of c.args.self.now) (event_of c.args.event) c.requires.placed)

pub value_by_call-requires-in-Opaque : goal.value_by_call-requires-in-Opaque
value_by_call-requires-in-Opaque c = subst (λ e. Awaits (building_of c.args.self.now) (unnumbered_event (event_of e))) c.in-Opaque.is
    (placed_awaited (building_of c.args.self.now) (event_of c.args.event) c.requires.placed)

pub start_list-requires : goal.start_list-requires
start_list-requires c = subst (λ e. Awaits (building_of c.args.self.now) (unnumbered_event (event_of e))) c.in-StartList.is
    (placed_awaited (building_of c.args.self.now) (event_of c.args.event) c.requires.placed)

pub end_list-requires-clause-innermost : goal.end_list-requires-clause-innermost
end_list-requires-clause-innermost c = (subst (λ e. Awaits (building_of c.args.self.now) (unnumbered_event (event_of e))) c.in-EndList.is
    (placed_awaited (building_of c.args.self.now) (event_of c.args.event) c.requires.placed)).0

pub end_list-requires-clause-content : goal.end_list-requires-clause-content
end_list-requires-clause-content c = (subst (λ e. Awaits (building_of c.args.self.now) (unnumbered_event (event_of e))) c.in-EndList.is
    (placed_awaited (building_of c.args.self.now) (event_of c.args.event) c.requires.placed)).1

pub start_object-requires : goal.start_object-requires
start_object-requires c = subst (λ e. Awaits (building_of c.args.self.now) (unnumbered_event (event_of e))) c.in-StartObject.is
    (placed_awaited (building_of c.args.self.now) (event_of c.args.event) c.requires.placed)

pub key-requires-clause-innermost : goal.key-requires-clause-innermost
key-requires-clause-innermost c = (subst (λ e. Awaits (building_of c.args.self.now) (unnumbered_event (event_of e))) c.in-Key.is
    (placed_awaited (building_of c.args.self.now) (event_of c.args.event) c.requires.placed)).0

pub key-requires-clause-unnamed : goal.key-requires-clause-unnamed
key-requires-clause-unnamed c = (subst (λ e. Awaits (building_of c.args.self.now) (unnumbered_event (event_of e))) c.in-Key.is
    (placed_awaited (building_of c.args.self.now) (event_of c.args.event) c.requires.placed)).1

pub end_object-requires-clause-innermost : goal.end_object-requires-clause-innermost
end_object-requires-clause-innermost c = (subst (λ e. Awaits (building_of c.args.self.now) (unnumbered_event (event_of e)))
    c.in-EndObject.is (placed_awaited (building_of c.args.self.now) (event_of c.args.event) c.requires.placed)).0

pub end_object-requires-clause-unnamed : goal.end_object-requires-clause-unnamed
end_object-requires-clause-unnamed c = (subst (λ e. Awaits (building_of c.args.self.now) (unnumbered_event (event_of e)))
    c.in-EndObject.is (placed_awaited (building_of c.args.self.now) (event_of c.args.event) c.requires.placed)).1

pub returns-in-Null-clause-stands : goal.returns-in-Null-clause-stands
returns-in-Null-clause-stands c = on_ok_weaker c.value_by_call.result
    (λ taken. taken_on (building_of c.args.self.now) (building_of c.value_by_call.new.self) (event_of c.args.event)
    (subst (λ e. so_far (building_of c.value_by_call.new.self) ≡ so_far (building_of c.args.self.now) ++ unnumbered_event
    (event_of e) ∷ []) (sym c.in-Null.is) (taken ∙ ap
    (λ n. so_far (building_of c.args.self.now) ++ events n []) node_null))) c.value_by_call.ensures

pub returns-in-Bool-clause-stands : goal.returns-in-Bool-clause-stands
returns-in-Bool-clause-stands c = on_ok_weaker c.value_by_call-in-Bool.result
    (λ taken. taken_on (building_of c.args.self.now) (building_of c.value_by_call-in-Bool.new.self) (event_of c.args.event)
    (subst (λ e. so_far (building_of c.value_by_call-in-Bool.new.self) ≡ so_far (building_of c.args.self.now) ++ unnumbered_event
    (event_of e) ∷ []) (sym c.in-Bool.is) (taken ∙ ap (λ n. so_far (building_of c.args.self.now) ++ events n [])
    (node_bool c.in-Bool.truth)))) c.value_by_call-in-Bool.ensures

pub returns-in-Int-clause-stands : goal.returns-in-Int-clause-stands
returns-in-Int-clause-stands c =
    let fits : FitsSigned w64 c.in-Int.integer = search rules in
    on_ok_weaker c.value.result (λ taken. taken_on (building_of c.args.self.now) (building_of c.value.new.self) (event_of c.args.event)
    (subst (λ e. so_far (building_of c.value.new.self) ≡ so_far (building_of c.args.self.now) ++ unnumbered_event (event_of e) ∷ [])
    (sym c.in-Int.is) (taken ∙ ap (λ z. so_far (building_of c.args.self.now) ++ events (node_of (Int z)) []) (to_z-of_z fits)
    ∙ ap (λ n. so_far (building_of c.args.self.now) ++ events n []) (node_int c.in-Int.integer)))) c.value.ensures.taken

pub returns-in-Number-clause-stands : goal.returns-in-Number-clause-stands
returns-in-Number-clause-stands c = on_ok_weaker c.value_by_call-in-Number.result
    (λ taken. taken_on (building_of c.args.self.now) (building_of c.value_by_call-in-Number.new.self) (event_of c.args.event)
    (subst (λ e. so_far (building_of c.value_by_call-in-Number.new.self) ≡ so_far (building_of c.args.self.now) ++ unnumbered_event
    (event_of e) ∷ []) (sym c.in-Number.is) (taken ∙ ap (λ n. so_far (building_of c.args.self.now) ++ events n [])
    (node_number c.in-Number.number)))) c.value_by_call-in-Number.ensures

pub returns-in-Text-clause-stands : goal.returns-in-Text-clause-stands
returns-in-Text-clause-stands c = on_ok_weaker c.value-in-Text.result
    (λ taken. taken_on (building_of c.args.self.now) (building_of c.value-in-Text.new.self) (event_of c.args.event)
    (subst (λ e. so_far (building_of c.value-in-Text.new.self) ≡ so_far (building_of c.args.self.now) ++ unnumbered_event
    (event_of e) ∷ []) (sym c.in-Text.is) (taken ∙ ap (λ n. so_far (building_of c.args.self.now) ++ events n [])
    (node_text c.in-Text.text)))) c.value-in-Text.ensures.taken

pub returns-in-Bytes-clause-stands : goal.returns-in-Bytes-clause-stands
returns-in-Bytes-clause-stands c = on_ok_weaker c.value_by_call-in-Bytes.result
    (λ taken. taken_on (building_of c.args.self.now) (building_of c.value_by_call-in-Bytes.new.self) (event_of c.args.event)
    (subst (λ e. so_far (building_of c.value_by_call-in-Bytes.new.self) ≡ so_far (building_of c.args.self.now) ++ unnumbered_event
    (event_of e) ∷ []) (sym c.in-Bytes.is) (taken ∙ ap (λ n. so_far (building_of c.args.self.now) ++ events n [])
    (node_bytes c.in-Bytes.bytes)))) c.value_by_call-in-Bytes.ensures

pub returns-in-Tag-clause-stands : goal.returns-in-Tag-clause-stands
returns-in-Tag-clause-stands c = on_ok_weaker c.tag.result (λ taken. taken_on (building_of c.args.self.now) (building_of c.tag.new.self)
    (event_of c.args.event) (subst (λ e. so_far (building_of c.tag.new.self) ≡ so_far (building_of c.args.self.now) ++ unnumbered_event
    (event_of e) ∷ []) (sym c.in-Tag.is) taken)) c.tag.ensures.taken

pub returns-in-Opaque-clause-stands : goal.returns-in-Opaque-clause-stands
returns-in-Opaque-clause-stands c = on_ok_weaker c.value_by_call-in-Opaque.result
    (λ taken. taken_on (building_of c.args.self.now) (building_of c.value_by_call-in-Opaque.new.self) (event_of c.args.event)
    (subst (λ e. so_far (building_of c.value_by_call-in-Opaque.new.self) ≡ so_far (building_of c.args.self.now) ++ unnumbered_event
    (event_of e) ∷ []) (sym c.in-Opaque.is) (taken ∙ ap (λ n. so_far (building_of c.args.self.now) ++ events n [])
    (node_opaque c.in-Opaque.byte)))) c.value_by_call-in-Opaque.ensures

pub returns-in-StartList-clause-stands : goal.returns-in-StartList-clause-stands
returns-in-StartList-clause-stands c = on_ok_weaker c.start_list.result
    (λ taken. taken_on (building_of c.args.self.now) (building_of c.start_list.new.self) (event_of c.args.event)
    (subst (λ e. so_far (building_of c.start_list.new.self) ≡ so_far (building_of c.args.self.now) ++ unnumbered_event
    (event_of e) ∷ []) (sym c.in-StartList.is) taken)) c.start_list.ensures.taken

pub returns-in-EndList-clause-stands : goal.returns-in-EndList-clause-stands
returns-in-EndList-clause-stands c = on_ok_weaker c.end_list.result
    (λ taken. taken_on (building_of c.args.self.now) (building_of c.end_list.new.self) (event_of c.args.event)
    (subst (λ e. so_far (building_of c.end_list.new.self) ≡ so_far (building_of c.args.self.now) ++ unnumbered_event
    (event_of e) ∷ []) (sym c.in-EndList.is) taken)) c.end_list.ensures.taken

pub returns-in-StartObject-clause-stands : goal.returns-in-StartObject-clause-stands
returns-in-StartObject-clause-stands c = on_ok_weaker c.start_object.result
    (λ taken. taken_on (building_of c.args.self.now) (building_of c.start_object.new.self) (event_of c.args.event)
    (subst (λ e. so_far (building_of c.start_object.new.self) ≡ so_far (building_of c.args.self.now) ++ unnumbered_event
    (event_of e) ∷ []) (sym c.in-StartObject.is) taken)) c.start_object.ensures.taken

pub returns-in-Key-clause-stands : goal.returns-in-Key-clause-stands
returns-in-Key-clause-stands c = taken_on (building_of c.args.self.now) (building_of c.key.new.self) (event_of c.args.event)
    (subst (λ e. so_far (building_of c.key.new.self) ≡ so_far (building_of c.args.self.now) ++ unnumbered_event (event_of e) ∷ [])
    (sym c.in-Key.is) c.key.ensures.taken)

pub returns-in-EndObject-clause-stands : goal.returns-in-EndObject-clause-stands
returns-in-EndObject-clause-stands c = on_ok_weaker c.end_object.result
    (λ taken. taken_on (building_of c.args.self.now) (building_of c.end_object.new.self) (event_of c.args.event)
    (subst (λ e. so_far (building_of c.end_object.new.self) ≡ so_far (building_of c.args.self.now) ++ unnumbered_event
    (event_of e) ∷ []) (sym c.in-EndObject.is) taken)) c.end_object.ensures.taken
