use Rattle.std.proofs.Common.{◌<◌, length, refl, rules}
use Rattle.std.proofs.lemmas.Option.{slice_get_read}
use Rattle.sm_merge.proofs.MembersMixed.{below_one}
use Rattle.sm_merge.proofs.effective_traits.mixin_entry.Goals as goal

pub bounds-all-mixin : goal.bounds-all-mixin
bounds-all-mixin c =
    below_one (length c.args.all.now) c.args.mixed.now c.args.place c.index-mixed-place.result c.requires.below c.requires.inside
    c.index-mixed-place.is

pub offset_bounds-all-mixin : goal.offset_bounds-all-mixin
offset_bounds-all-mixin c =
    let small : c.index-mixed-place.result.number < length c.args.all.now =
    below_one (length c.args.all.now) c.args.mixed.now c.args.place c.index-mixed-place.result c.requires.below c.requires.inside
    c.index-mixed-place.is in
    search rules

pub returns : goal.returns
returns c =
    let small = below_one (length c.args.all.now) c.args.mixed.now c.args.place c.index-mixed-place.result c.requires.below
    c.requires.inside
    c.index-mixed-place.is in
    record {
      mixin = c.index-mixed-place.result;
      there = slice_get_read c.args.mixed.now (length c.args.mixed.now) c.args.place c.index-mixed-place.result refl c.requires.inside
          c.index-mixed-place.is;
      entry = slice_get_read c.args.all.now (length c.args.all.now) c.index-mixed-place.result.number c.index-all-mixin.result refl small
          c.index-all-mixin.is;
    }
