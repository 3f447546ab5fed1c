use Rattle.std.proofs.Common.{◌≡◌, ◌<◌, length, refl, ap, ◌∙◌, arith}
use Rattle.std.proofs.lemmas.Option.{slice_get_read}
use Rattle.sm_bytes.specs.Lengths.{length_word}
use Rattle.sm_merge.specs.steps.Made.{made_shape, shape_size}
use Rattle.sm_merge.specs.steps.Placed.{bare_view}
use Rattle.sm_merge.proofs.effective.size_at.Goals as goal

pub returns : goal.returns
returns c =
    let number = c.args.number in
    let low : number < length c.args.rows.now = c.requires.inside in
    let many : length c.args.members.now ≡ length c.args.rows.now = c.requires.members in
    let few : number < length c.args.members.now = omega (arith, low, many) in
    record {
      row = c.index-rows-number.result;
      list = c.index-members-number.result;
      at_row = slice_get_read c.args.rows.now (length c.args.rows.now) number c.index-rows-number.result refl low c.index-rows-number.is;
      at_list = slice_get_read c.args.members.now (length c.args.members.now) number c.index-members-number.result refl few
          c.index-members-number.is;
      size = c.shape_size.ensures
          ∙ ap (λ ms. length_word (shape_size (made_shape (bare_view c.index-rows-number.result) ms c.args.traits.now)))
          c.as_slice.ensures.value;
    }
