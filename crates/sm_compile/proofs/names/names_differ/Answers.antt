use Rattle.std.proofs.Common.{sym, ◌∙◌}
use Rattle.sm_compile.specs.steps.Naming.{texts_of_all}
use Rattle.sm_compile.proofs.Differing.{differ_in_names, differ_told}
use Rattle.sm_compile.proofs.names.names_differ.Goals as goal

pub returns : goal.returns
returns c =
    let ts = texts_of_all c.args.names.items in (
      λ h. (differ_in_names ts).0 ((differ_told ts).0 (sym c.texts_differ.ensures ∙ h)),
      λ d. c.texts_differ.ensures ∙ (differ_told ts).1 ((differ_in_names ts).1 d),
    )
