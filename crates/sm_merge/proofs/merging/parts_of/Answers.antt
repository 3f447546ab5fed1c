use Rattle.std.proofs.Common.{◌≡◌, ◌<◌, length, sym, subst, ◌∙◌, arith}
use Rattle.std.proofs.lemmas.Bool.{true≢false}
use Rattle.sm_model.specs.steps.Rising.{Rise}
use Rattle.sm_merge.specs.Limits.{most_shapes}
use Rattle.sm_merge.specs.steps.Contributing.{NamesRise}
use Rattle.sm_merge.specs.steps.Links.{At}
use Rattle.sm_merge.specs.steps.MixinLinks.{WalksMixins}
use Rattle.sm_merge.specs.steps.ShapeTables.{AreShapesOf, ids_of}
use Rattle.sm_merge.specs.steps.Stopping.{ListsMembers}
use Rattle.sm_merge.specs.steps.Tables.{places_in}
use Rattle.sm_merge.proofs.MergeTold.{many_shapes_told, slices_long, slices_named}
use Rattle.sm_merge.proofs.ShapeNumbers.{ids_count}
use Rattle.sm_merge.proofs.merging.parts_of.Goals as goal

pub mixin_walk-requires : goal.mixin_walk-requires
mixin_walk-requires c = subst (λ rs. Rise (ids_of rs)) (sym c.as_slice-rows.ensures.value) c.requires.1.tables.shapes.rows.rise

pub returns-then-are_many_shapes : goal.returns-then-are_many_shapes
returns-then-are_many_shapes c = λ ss h.
    many_shapes_told ss c.args.tables.now c.in-Ok.walk h
    (subst (λ rs. WalksMixins rs c.in-Ok.walk) c.as_slice-rows.ensures.value c.in-Ok.ensures)
    (subst (λ rs. most_shapes < length rs) c.as_slice-rows.ensures.value (c.are_many_shapes.ensures.0 c.if-are_many_shapes.true))

pub all_mixed_in-requires : goal.all_mixed_in-requires
all_mixed_in-requires c =
    let t = c.requires.1.tables in
    let rows = c.as_slice-rows.ensures.value in
    let w = c.in-Ok.ensures c.requires.0 (subst (AreShapesOf c.requires.0) (sym rows) t.shapes.rows) in
    record {
      ids = subst (λ rs. Rise (ids_of rs)) (sym rows) t.shapes.rows.rise;
      places = subst (λ ts. Rise (places_in ts)) (sym c.as_slice.ensures.value) t.traits.rise;
      names = subst NamesRise (sym c.as_slice.ensures.value) t.traits.names;
      walked = w.size ∙ ids_count c.as_slice-rows.result.now;
    }

pub all_members-requires-clause-within : goal.all_members-requires-clause-within
all_members-requires-clause-within c = λ k v there.
    let w = c.in-Ok.ensures c.requires.0 (subst (AreShapesOf c.requires.0) (sym c.as_slice-rows.ensures.value)
    c.requires.1.tables.shapes.rows) in
    let inside : v < length (ids_of c.as_slice-rows.result.now) = w.within k v (subst (λ o. At o k v) c.as_slice-3.ensures.value there) in
    let count : length (ids_of c.as_slice-rows.result.now) ≡ length c.as_slice-rows.result.now = ids_count c.as_slice-rows.result.now in
    omega (arith, inside, count)

pub returns-in-Ok-None : goal.returns-in-Ok-None
returns-in-Ok-None c = λ ss h.
    slices_long ss c.args.tables.now c.in-Ok.walk h c.as_slice-rows.result.now c.as_slice.result.now c.in-Ok-all_mixed_in.mixed.items
    c.as_slice-2.result.now c.as_slice-3.result.now c.as_slice-rows.ensures.value c.as_slice.ensures.value c.as_slice-2.ensures.value
    c.as_slice-3.ensures.value c.in-Ok.ensures
    (λ past. true≢false (sym (c.are_many_shapes.ensures.1 past) ∙ c.if-are_many_shapes.false))
    (c.in-Ok-all_mixed_in.ensures.mixed ss)
    (subst (ListsMembers c.as_slice-rows.result.now c.as_slice-2.result.now c.as_slice-3.result.now) c.in-Ok-None.field-0-is
    c.in-Ok-None.ensures)

pub named_parts-requires-clause-some : goal.named_parts-requires-clause-some
named_parts-requires-clause-some c = (
  c.requires.0,
  slices_named c.requires.0 c.args.tables.now c.in-Ok.walk c.requires.1 c.as_slice-rows.result.now c.as_slice.result.now
      c.in-Ok-all_mixed_in.mixed.items c.as_slice-2.result.now c.as_slice-3.result.now c.as_slice-rows.ensures.value
      c.as_slice.ensures.value
      c.as_slice-2.ensures.value c.as_slice-3.ensures.value c.in-Ok.ensures
      (λ past. true≢false (sym (c.are_many_shapes.ensures.1 past) ∙ c.if-are_many_shapes.false))
      (c.in-Ok-all_mixed_in.ensures.mixed c.requires.0) c.in-Ok-Some.members
      (subst (ListsMembers c.as_slice-rows.result.now c.as_slice-2.result.now c.as_slice-3.result.now) c.in-Ok-Some.field-0-is
      c.in-Ok-Some.ensures)
      c.as_slice-in-Ok-Some.result.now c.as_slice-in-Ok-Some.ensures.value c.as_slice-in-Ok-Some-2.result.now
      c.as_slice-in-Ok-Some-2.ensures.value,
)

pub named_parts-requires-clause-walked : goal.named_parts-requires-clause-walked
named_parts-requires-clause-walked c =
    let rows = c.as_slice-rows.ensures.value in
    let w = c.in-Ok.ensures c.requires.0 (subst (AreShapesOf c.requires.0) (sym rows) c.requires.1.tables.shapes.rows) in
    subst (λ rs. length c.in-Ok.walk.status.items ≡ length rs) rows (w.size ∙ ids_count c.as_slice-rows.result.now)

pub named_parts-requires-clause-within : goal.named_parts-requires-clause-within
named_parts-requires-clause-within c = λ k v there.
    let rows = c.as_slice-rows.ensures.value in
    let w = c.in-Ok.ensures c.requires.0 (subst (AreShapesOf c.requires.0) (sym rows) c.requires.1.tables.shapes.rows) in
    let inside : v < length (ids_of c.as_slice-rows.result.now) = w.within k v there in
    let count : length (ids_of c.as_slice-rows.result.now) ≡ length c.as_slice-rows.result.now = ids_count c.as_slice-rows.result.now in
    subst (λ rs. v < length rs) rows (omega (arith, inside, count))

pub returns : goal.returns
returns c = λ ss h.
    c.named_parts.ensures ss
    (slices_named ss c.args.tables.now c.in-Ok.walk h c.as_slice-rows.result.now c.as_slice.result.now c.in-Ok-all_mixed_in.mixed.items
    c.as_slice-2.result.now c.as_slice-3.result.now c.as_slice-rows.ensures.value c.as_slice.ensures.value c.as_slice-2.ensures.value
    c.as_slice-3.ensures.value c.in-Ok.ensures
    (λ past. true≢false (sym (c.are_many_shapes.ensures.1 past) ∙ c.if-are_many_shapes.false))
    (c.in-Ok-all_mixed_in.ensures.mixed ss) c.in-Ok-Some.members
    (subst (ListsMembers c.as_slice-rows.result.now c.as_slice-2.result.now c.as_slice-3.result.now) c.in-Ok-Some.field-0-is
    c.in-Ok-Some.ensures)
    c.as_slice-in-Ok-Some.result.now c.as_slice-in-Ok-Some.ensures.value c.as_slice-in-Ok-Some-2.result.now
    c.as_slice-in-Ok-Some-2.ensures.value)
