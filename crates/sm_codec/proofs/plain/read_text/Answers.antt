use Rattle.std.proofs.Common.{ap, sym, ◌∙◌}
use Rattle.std.specs.Prelude.{Ok}
use Rattle.sm_tree.specs.Node.{text}
use Rattle.sm_tree.specs.View.{node_of}
use Rattle.sm_tree.proofs.Views.{node_text}
use Rattle.sm_shapes.proofs.ValueViews.{text_value}
use Rattle.sm_codec.specs.Conventions.{read_text}
use Rattle.sm_codec.proofs.PlainLeaves.{text_is_read}
use Rattle.sm_codec.proofs.plain.read_text.Goals as goal

pub returns-in-Ok : goal.returns-in-Ok
returns-in-Ok c =
    ap (λ t. read_text (node_of t)) c.in-Text.is ∙ ap read_text (node_text c.in-Text.text)
    ∙ ap (λ u. read_text (text u)) (sym (c.in-Ok.ensures.bytes ∙ c.as_str.ensures.bytes))
    ∙ text_is_read c.in-Ok.copy c.in-Ok.ensures.utf8 ∙ ap Ok (sym (text_value c.in-Ok.copy))
