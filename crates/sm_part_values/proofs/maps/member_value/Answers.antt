use Rattle.std.proofs.Common.{true, map, ap, sym, subst, ◌∷◌, ◌∙◌}
use Rattle.sm_shapes.specs.TableView.{table_data}
use Rattle.sm_codec.specs.Codec.{codec_of}
use Rattle.sm_codec.specs.Conventions.{json_convention}
use Rattle.sm_codec.specs.PlaceView.{place_of}
use Rattle.sm_codec.specs.Readings.{list_reading}
use Rattle.sm_part_values.specs.FormView.{form_of}
use Rattle.sm_part_values.specs.Joins.{JoinsTo}
use Rattle.sm_part_values.specs.PartTexts.{entry_child}
use Rattle.sm_part_values.specs.steps.Maps.{group_reading}
use Rattle.sm_part_values.proofs.EntriesJoined.{texts_entries}
use Rattle.sm_part_values.proofs.maps.member_value.Goals as goal

pub returns-in-Ok-clause-joins : goal.returns-in-Ok-clause-joins
returns-in-Ok-clause-joins g c =
    let codec = codec_of (table_data c.args.table.now) (json_convention true) g.P.Patterns.test in
    let f = form_of c.args.form in
    let p = place_of c.args.place in
    let us = c.args.group.now.first ∷ c.args.group.now.more.items in
    subst (λ l. JoinsTo (group_reading l f codec p us) c.entries_value.result) (sym c.if-not-lists.false)
    (subst (λ cs. JoinsTo (list_reading codec p cs) c.entries_value.result)
    (ap (map (entry_child f codec)) (c.as_slice-in-Ok.ensures.value ∙ c.in-Ok.ensures) ∙ texts_entries f codec us)
    c.entries_value.ensures.joins)
