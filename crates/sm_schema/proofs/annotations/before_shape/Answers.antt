use Rattle.std.proofs.Common.{codes, ap, ◌∙◌}
use Rattle.std.specs.Option.{option_copied, unwrap_or}
use Rattle.sm_time.specs.declared.format.Format.TheVariants.{EpochSeconds}
use Rattle.sm_tree.specs.Node.{text, member}
use Rattle.sm_shapes.specs.Places.{kind_of, shape_of}
use Rattle.sm_shapes.specs.TableView.{table_data}
use Rattle.sm_codec.specs.PlaceView.{place_of}
use Rattle.sm_schema.specs.Noted.{shape_notes, with_deprecated, with_form, with_shape_notes, with_text}
use Rattle.sm_schema.specs.NotesView.{notes_data}
use Rattle.sm_schema.specs.steps.Joined.{joined}
use Rattle.sm_schema.proofs.annotations.before_shape.Goals as goal

pub returns : goal.returns
returns c json_names ps more =
    let t = table_data c.args.table.now in
    let p = place_of c.args.place in
    let said = c.shape-said.result in
    let kind = c.kind.result in
    let format = c.unwrap_or-format.result in
    let last = with_form kind format more in
    let third = with_deprecated said.deprecated last in
    let second = with_text (codes "description") (option_copied said.description) third in
    c.in_ok-put_form.ensures more ∙ c.in_ok-put_deprecated.ensures last ∙ c.in_ok-put_said.ensures third ∙ c.in_ok-put_text.ensures second
    ∙ ap (λ ps. joined ps (member (codes "title") (text said.title.now) second)) c.no_pairs-pairs.ensures
    ∙ ap (λ s. with_shape_notes s kind format more) (c.shape-said.ensures ∙ ap (shape_notes (notes_data c.args.notes.now)) c.shape.ensures)
    ∙ ap (λ k. with_shape_notes (shape_notes (notes_data c.args.notes.now) (shape_of t p)) k format more) c.kind.ensures
    ∙ ap (λ f. with_shape_notes (shape_notes (notes_data c.args.notes.now) (shape_of t p)) (kind_of t p) f more)
    (c.unwrap_or-format.ensures ∙ ap (λ o. unwrap_or o EpochSeconds) c.format.ensures)
