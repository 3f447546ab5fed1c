-- Events of each kind, in order and each once, are the events of the statements.
use Rattle.std.proofs.Common.{◌≡◌, ◌⊎◌, inl, inr, ℕ, List, [], ◌∷◌, ◌++◌}
use Rattle.std.specs.List.{Contains}
use Rattle.sm_model.specs.EventView.{AreInOrder, EventTold}
use Rattle.sm_merge.specs.Merged.{AreEventsOf, IsWrong, applied_to_nothing, bad_mixin, defined_otherwise, metadata_conflict, other_shape}
use Rattle.sm_merge.specs.Merged.{HasOtherShape, IsStatedAgain, stated_again, trait_conflict}
use Rattle.sm_merge.specs.Stated.{Stated}
use Rattle.sm_merge.specs.steps.AllEvents.{Kinds, TellsAll, all_kinds}
use Rattle.sm_merge.specs.steps.EventLists.{HaveSameEvents, shape_event}
use Rattle.sm_merge.proofs.OneList.{Has, each_has, has_each}

among_either : (e : EventTold) (es fs : List EventTold) → Has e (es ++ fs) → Has e es ⊎ Has e fs
among_either e [] fs has = inr has
among_either e (f ∷ es) fs (inl same) = inl (inl same)
among_either e (f ∷ es) fs (inr has) = elim (among_either e es fs has) [ inl here ↦ inl (inr here) | inr behind ↦ inr behind ]

among_first : (e : EventTold) (es fs : List EventTold) → Has e es → Has e (es ++ fs)
among_first e [] fs has = absurd has
among_first e (f ∷ es) fs (inl same) = inl same
among_first e (f ∷ es) fs (inr has) = inr (among_first e es fs has)

among_second : (e : EventTold) (es fs : List EventTold) → Has e fs → Has e (es ++ fs)
among_second e [] fs has = has
among_second e (f ∷ es) fs has = inr (among_second e es fs has)

either : (e : EventTold) (es fs : List EventTold) → Contains (es ++ fs) e → Contains es e ⊎ Contains fs e
either e es fs has = elim (among_either e es fs (has_each e (es ++ fs) has)) [
  | inl here ↦ inl (each_has e es here)
  | inr behind ↦ inr (each_has e fs behind)
]

first : (e : EventTold) (es fs : List EventTold) → Contains es e → Contains (es ++ fs) e
first e es fs has = each_has e (es ++ fs) (among_first e es fs (has_each e es has))

second : (e : EventTold) (es fs : List EventTold) → Contains fs e → Contains (es ++ fs) e
second e es fs has = each_has e (es ++ fs) (among_second e es fs (has_each e fs has))

module _ (ss : List Stated) (k : Kinds) (all : TellsAll ss k) (e : EventTold) where
  abbrev two : List EventTold
  two = k.members ++ k.mixins

  abbrev three : List EventTold
  three = k.applied ++ two

  abbrev four : List EventTold
  four = k.traits ++ three

  abbrev five : List EventTold
  five = k.metadata ++ four

  of_shapes : (id : List ℕ) × (HasOtherShape ss id ⊎ IsStatedAgain ss id) × (e ≡ shape_event id) → IsWrong ss e
  of_shapes (id, inl other, is) = other_shape id other is
  of_shapes (id, inr again, is) = stated_again id again is

  of_two : Contains two e → IsWrong ss e
  of_two has = elim (either e k.members k.mixins has) [
    | inl told ↦ let w = (all.members e).0 told in defined_otherwise w.0 w.1 w.2 w.3
    | inr told ↦ let w = (all.mixins e).0 told in bad_mixin w.0 w.1 w.2 w.3
  ]

  of_three : Contains three e → IsWrong ss e
  of_three has = elim (either e k.applied two has) [
    | inl told ↦ let w = (all.applied e).0 told in applied_to_nothing w.0 w.1 w.2
    | inr more ↦ of_two more
  ]

  of_four : Contains four e → IsWrong ss e
  of_four has = elim (either e k.traits three has) [
    | inl told ↦ let w = (all.traits e).0 told in trait_conflict w.0 w.1 w.2 w.3
    | inr more ↦ of_three more
  ]

  of_five : Contains five e → IsWrong ss e
  of_five has = elim (either e k.metadata four has) [
    | inl told ↦ let w = (all.metadata e).0 told in metadata_conflict w.0 w.1 w.2
    | inr more ↦ of_four more
  ]

  is_wrong : Contains (all_kinds k) e → IsWrong ss e
  is_wrong has = elim (either e k.shapes five has) [
    | inl told ↦ of_shapes ((all.shapes e).0 told)
    | inr more ↦ of_five more
  ]

  in_four : Contains four e → Contains (all_kinds k) e
  in_four has = second e k.shapes five (second e k.metadata four has)

  in_two : Contains two e → Contains (all_kinds k) e
  in_two has = in_four (second e k.traits three (second e k.applied two has))

  is_told : IsWrong ss e → Contains (all_kinds k) e
  is_told (other_shape id h is) = first e k.shapes five ((all.shapes e).1 (id, inl h, is))
  is_told (stated_again id h is) = first e k.shapes five ((all.shapes e).1 (id, inr h, is))
  is_told (trait_conflict id name h is) = in_four (first e k.traits three ((all.traits e).1 (id, name, h, is)))
  is_told (metadata_conflict key h is) = second e k.shapes five (first e k.metadata four ((all.metadata e).1 (key, h, is)))
  is_told (applied_to_nothing id h is) = in_four (second e k.traits three (first e k.applied two ((all.applied e).1 (id, h, is))))
  is_told (defined_otherwise id target h is) = in_two (first e k.members k.mixins ((all.members e).1 (id, target, h, is)))
  is_told (bad_mixin id mixin h is) = in_two (second e k.members k.mixins ((all.mixins e).1 (id, mixin, h, is)))

-- events of each kind, put into order
pub all_told : (ss : List Stated) (k : Kinds) (es : List EventTold) → TellsAll ss k → HaveSameEvents (all_kinds k) es → AreInOrder es
    → AreEventsOf ss es
all_told ss k es all same order = record {
  in_order = order;
  all = λ e. ((λ has. is_wrong ss k all e ((same e).1 has)), (λ wrong. (same e).0 (is_told ss k all e wrong)));
}
