use Rattle.std.proofs.Common.{sym, ap, ◌∙◌}
use Rattle.std.proofs.lemmas.Str.{is_utf8-from_IsUtf8}
use Rattle.sm_shapes.specs.ValueView.{val_of}
use Rattle.sm_shapes.proofs.ValueViews.{text_value}
use Rattle.sm_codec.specs.Convention.{is_of}
use Rattle.sm_codec.specs.declared.simple.Simple.TheVariants as simple_type
use Rattle.sm_codec.proofs.of_type.is_text.Goals as goal

pub returns-in-Text : goal.returns-in-Text
returns-in-Text c =
    sym (ap (λ v. is_of simple_type.Text (val_of v)) c.in-Text.is ∙ ap (is_of simple_type.Text) (text_value c.in-Text.text)
    ∙ is_utf8-from_IsUtf8 c.in-Text.text c.as_str-text.ensures.utf8)
