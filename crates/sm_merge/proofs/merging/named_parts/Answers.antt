use Rattle.std.proofs.Common.{◌<◌, length, sym, subst, ◌∙◌}
use Rattle.std.proofs.lemmas.Bool.{true≢false}
use Rattle.sm_model.specs.steps.Rising.{Rise}
use Rattle.sm_merge.specs.steps.Contributing.{NamesRise}
use Rattle.sm_merge.specs.steps.Counting.{AllTold, ListsTraits}
use Rattle.sm_merge.specs.steps.Links.{At}
use Rattle.sm_merge.specs.steps.Tables.{places_in}
use Rattle.sm_merge.proofs.MergeTold.{all_many_told, slices_large, slices_whole}
use Rattle.sm_merge.proofs.SoundEntries.{all_told}
use Rattle.sm_merge.proofs.merging.named_parts.Goals as goal

pub returns-then-are_many_members : goal.returns-then-are_many_members
returns-then-are_many_members c = λ ss h.
    all_many_told ss c.args.tables.now c.args.walk.now c.args.mixed.now c.args.members.now h
    (c.are_many_members.ensures.0 c.if-are_many_members.true)

pub all_traits-requires-clause-places : goal.all_traits-requires-clause-places
all_traits-requires-clause-places c =
    subst (λ ts. Rise (places_in ts)) (sym c.as_slice-traits.ensures.value) c.requires.some.1.sound.tables.traits.rise

pub all_traits-requires-clause-names : goal.all_traits-requires-clause-names
all_traits-requires-clause-names c =
    subst NamesRise (sym c.as_slice-traits.ensures.value) c.requires.some.1.sound.tables.traits.names

pub all_traits-requires-clause-told : goal.all_traits-requires-clause-told
all_traits-requires-clause-told c =
    let t = c.args.tables.now in
    subst AllTold (sym c.as_slice-traits.ensures.value)
    (all_told c.requires.some.0 t.shapes.rows.items t.traits.items c.args.walk.now c.requires.some.1.walked)

pub all_traits-requires-clause-within : goal.all_traits-requires-clause-within
all_traits-requires-clause-within c = λ k v there.
    subst (λ rs. v < length rs) (sym c.as_slice-rows.ensures.value)
    (c.requires.within k v (subst (λ o. At o k v) c.as_slice.ensures.value there))

pub returns-in-Ok-None : goal.returns-in-Ok-None
returns-in-Ok-None c = λ ss h.
    slices_large ss c.args.tables.now c.args.walk.now c.args.mixed.now c.args.members.now h
    (λ past. true≢false (sym (c.are_many_members.ensures.1 past) ∙ c.if-are_many_members.false)) c.as_slice-rows.result.now
    c.as_slice-traits.result.now c.as_slice.result.now c.as_slice-rows.ensures.value c.as_slice-traits.ensures.value
    c.as_slice.ensures.value
    (subst (ListsTraits c.as_slice-rows.result.now c.as_slice-traits.result.now c.args.members.now c.args.mixed.now c.as_slice.result.now)
    c.in-Ok-None.field-0-is c.in-Ok-None.ensures)

pub whole_parts-requires-clause-some : goal.whole_parts-requires-clause-some
whole_parts-requires-clause-some c = (
  c.requires.some.0,
  slices_whole c.requires.some.0 c.args.tables.now c.args.walk.now c.args.mixed.now c.args.members.now c.requires.some.1
      (λ past. true≢false (sym (c.are_many_members.ensures.1 past) ∙ c.if-are_many_members.false)) c.as_slice-rows.result.now
      c.as_slice-traits.result.now c.as_slice.result.now c.as_slice-rows.ensures.value c.as_slice-traits.ensures.value
      c.as_slice.ensures.value c.in-Ok-Some.all
      (subst (ListsTraits c.as_slice-rows.result.now c.as_slice-traits.result.now c.args.members.now c.args.mixed.now c.as_slice.result.now)
      c.in-Ok-Some.field-0-is c.in-Ok-Some.ensures)
      c.as_slice-in-Ok-Some.result.now c.as_slice-in-Ok-Some.ensures.value,
)

pub returns-in-Ok-Some : goal.returns-in-Ok-Some
returns-in-Ok-Some c = λ ss h.
    c.whole_parts.ensures ss
    (slices_whole ss c.args.tables.now c.args.walk.now c.args.mixed.now c.args.members.now h
    (λ past. true≢false (sym (c.are_many_members.ensures.1 past) ∙ c.if-are_many_members.false)) c.as_slice-rows.result.now
    c.as_slice-traits.result.now c.as_slice.result.now c.as_slice-rows.ensures.value c.as_slice-traits.ensures.value
    c.as_slice.ensures.value c.in-Ok-Some.all
    (subst (ListsTraits c.as_slice-rows.result.now c.as_slice-traits.result.now c.args.members.now c.args.mixed.now c.as_slice.result.now)
    c.in-Ok-Some.field-0-is c.in-Ok-Some.ensures)
    c.as_slice-in-Ok-Some.result.now c.as_slice-in-Ok-Some.ensures.value)
