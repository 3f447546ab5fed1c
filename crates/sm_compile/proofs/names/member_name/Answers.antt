use Rattle.std.proofs.Common.{◌≡◌, ◌++◌, ◌∷◌, sym, ap, ◌∙◌}
use Rattle.sm_bytes.specs.Ascii.{dollar}
use Rattle.sm_model.specs.Reaching.{id_of_number}
use Rattle.sm_compile.proofs.NamesBehind.{name_told}
use Rattle.sm_compile.proofs.names.member_name.Goals as goal

pub returns-in-Some : goal.returns-in-Some
returns-in-Some c =
    let g = c.args.graph.now in
    let rest = c.in-Some.rest.now in
    let parts : c.id_text.result.now ≡ c.id_text-2.result.now ++ rest = c.in-Some.ensures in
    name_told (id_of_number g c.args.member) (id_of_number g c.args.shape) rest c.behind_dollar.result
    (sym c.id_text.ensures ∙ parts ∙ ap (λ s. s ++ rest) c.id_text-2.ensures) c.behind_dollar.ensures

pub returns-in-None : goal.returns-in-None
returns-in-None c name h =
    c.in-None.ensures (dollar ∷ name) (c.id_text.ensures ∙ h ∙ ap (λ s. s ++ dollar ∷ name) (sym c.id_text-2.ensures))
