use Rattle.std.proofs.Common.{sym, ap, true, ◌∙◌}
use Rattle.sm_shapes.specs.Places.{format_of, kind_of}
use Rattle.sm_shapes.specs.TableView.{table_data}
use Rattle.sm_shapes.specs.ValueView.{val_of}
use Rattle.sm_codec.specs.Codec.{codec_of}
use Rattle.sm_codec.specs.Conventions.{json_convention}
use Rattle.sm_codec.specs.PlaceView.{place_of}
use Rattle.sm_codec.specs.Sorts.{simple_in, sort_with}
use Rattle.sm_part_values.specs.FormView.{form_of}
use Rattle.sm_part_values.specs.PartTexts.{text_sort}
use Rattle.sm_part_values.proofs.TextsJoined.{judged_text}
use Rattle.sm_part_values.proofs.texts.text_value.Goals as goal

pub returns-in-Ok-clause-joins : goal.returns-in-Ok-clause-joins
returns-in-Ok-clause-joins g c =
    let t = table_data c.args.table.now in
    let codec = codec_of t (json_convention true) g.P.Patterns.test in
    let p = place_of c.args.place in
    let f = form_of c.args.form in
    judged_text f codec p c.args.text.now (text_sort f t p) c.in-Some.simple (val_of c.in-Ok.value) c.judged.result
    (sym (c.in-Some.ensures ∙ ap (λ usual. simple_in (sort_with usual (kind_of t p) (format_of t p))) c.usual.ensures)) c.in-Ok.ensures
    c.judged.ensures.joins
