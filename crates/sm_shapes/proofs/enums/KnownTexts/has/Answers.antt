use Rattle.std.proofs.Common.{ap, ◌∙◌}
use Rattle.std.specs.List.{list_any}
use Rattle.std.specs.Str.{bytes_eq}
use Rattle.sm_shapes.proofs.enums.KnownTexts.has.Goals as goal

pub returns : goal.returns
returns c =
    c.contains.ensures ∙ c.self.inside.knows c.args.text.now ∙ ap (list_any (λ w. bytes_eq w c.args.text.now)) c.self.view_is
