use Rattle.std.proofs.Common.{true, sym, ap, ◌∙◌, subst}
use Rattle.sm_shapes.specs.Places.{member_place}
use Rattle.sm_shapes.specs.TableView.{table_data}
use Rattle.sm_shapes.specs.Values.{blob_val, text_val}
use Rattle.sm_shapes.specs.ValueView.{val_of}
use Rattle.sm_shapes.proofs.ValueViews.{blob_value, text_value}
use Rattle.sm_codec.specs.Conventions.{json_convention}
use Rattle.sm_codec.specs.Written.{uncarried}
use Rattle.sm_parts.specs.HeaderLists.{is_filled}
use Rattle.sm_part_texts.specs.CarriedTexts.{here_unless}
use Rattle.sm_bind_write.specs.CarriedParts.{uncarried_payload}
use Rattle.sm_bind_write.specs.steps.SeenParts.{SeenAs}
use Rattle.sm_bind_write.proofs.payload.seen_payload.Goals as goal

pub returns-in-Text : goal.returns-in-Text
returns-in-Text c =
    let t = table_data c.args.place.now.table.now in
    let k = c.args.member in
    let u = c.in-Text.text in
    let tree = uncarried t (json_convention true) (member_place k) (text_val u) in
    let filled = c.is_filled.ensures ∙ ap is_filled (c.as_bytes.ensures.value ∙ c.as_str.ensures.bytes) in
    subst (λ v. SeenAs (uncarried_payload t k v) (uncarried t (json_convention true) (member_place k) v) c.raw_unless.result)
    (sym (ap val_of c.in-Text.is ∙ text_value u))
    (subst (λ f. SeenAs (here_unless f) tree c.raw_unless.result) filled (c.raw_unless.ensures tree))

pub returns-in-Blob : goal.returns-in-Blob
returns-in-Blob c =
    let t = table_data c.args.place.now.table.now in
    let k = c.args.member in
    let u = c.in-Blob.bytes in
    let tree = uncarried t (json_convention true) (member_place k) (blob_val u) in
    let filled = c.is_filled-in-Blob.ensures ∙ ap is_filled c.as_slice.ensures in
    subst (λ v. SeenAs (uncarried_payload t k v) (uncarried t (json_convention true) (member_place k) v) c.raw_unless-in-Blob.result)
    (sym (ap val_of c.in-Blob.is ∙ blob_value u))
    (subst (λ f. SeenAs (here_unless f) tree c.raw_unless-in-Blob.result) filled (c.raw_unless-in-Blob.ensures tree))
