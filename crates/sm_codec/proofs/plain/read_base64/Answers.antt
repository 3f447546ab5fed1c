use Rattle.std.proofs.Common.{sym, ap, ◌∙◌}
use Rattle.std.specs.Prelude.{Ok}
use Rattle.base64.specs.Engines.{standard}
use Rattle.base64.specs.GeneralPurpose.{decode_of}
use Rattle.sm_tree.specs.View.{node_of}
use Rattle.sm_tree.proofs.Views.{node_text}
use Rattle.sm_shapes.specs.Values.{blob_val}
use Rattle.sm_shapes.proofs.ValueViews.{blob_value}
use Rattle.sm_codec.specs.Conventions.{read_base64}
use Rattle.sm_codec.proofs.PlainLeaves.{base64_is_read}
use Rattle.sm_codec.proofs.plain.read_base64.Goals as goal

pub returns-in-Ok : goal.returns-in-Ok
returns-in-Ok c =
    ap (λ t. read_base64 (node_of t)) c.in-Text.is ∙ ap read_base64 (node_text c.in-Text.text)
    ∙ base64_is_read c.in-Text.text c.in-Ok.bytes.items
    (ap (decode_of standard) (sym (c.as_bytes.ensures.value ∙ c.as_str.ensures.bytes)) ∙ c.in-Ok.ensures.ok) c.in-Ok.ensures.bytes
    ∙ ap (λ u. Ok (blob_val u)) (sym c.new.ensures) ∙ ap Ok (sym (blob_value c.new.result))
