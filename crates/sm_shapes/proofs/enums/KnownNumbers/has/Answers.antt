use Rattle.std.proofs.Common.{◌≡◌, ap, ◌∙◌, rules, FitsSigned, int_cmp, of_z, to_z, to_z-of_z, w64}
use Rattle.std.specs.BTreeSet.{contains}
use Rattle.std.specs.List.{list_any}
use Rattle.std.specs.Ordering.{int_eq}
use Rattle.sm_shapes.proofs.enums.KnownNumbers.has.Goals as goal

pub returns : goal.returns
returns c =
    let fits : FitsSigned w64 c.args.number = search rules in
    let same : to_z w64 (of_z w64 c.args.number) ≡ c.args.number = to_z-of_z fits in
    c.contains.ensures ∙ ap (contains int_cmp c.self.inside.known) same ∙ c.self.inside.knows c.args.number
    ∙ ap (list_any (λ w. int_eq w c.args.number)) c.self.view_is
