use Rattle.std.proofs.Common.{refl, ◌∙◌, ap, ◌++◌, ◌∷◌, []}
use Rattle.sm_json.proofs.Readers.{number_goes}
use Rattle.sm_json.proofs.read.Reader.begin_number.Goals as goal

pub returns : goal.returns
returns c = number_goes c.args.self.now _ c.args.byte c.args.phase c.requires.place c.requires.black c.requires.begins refl
    (c.in_ok-push.ensures.items ∙ ap (λ x. x ++ c.args.byte ∷ []) c.clear.ensures.items) refl
