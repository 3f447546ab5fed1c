use Rattle.std.proofs.Common.{◌≡◌, Some, subst, sym}
use Rattle.std.specs.Prelude.{slice_get}
use Rattle.sm_compile.proofs.TextsStored.{named_at}
use Rattle.sm_compile.proofs.patterns.number_of.Goals as goal

pub returns-in-Some : goal.returns-in-Some
returns-in-Some c =
    named_at c.requires.numbered.0 c.in-Some.place c.args.text.now c.args.rows.now c.index-rows-place.result c.requires.numbered.1
    (subst (λ ts. slice_get ts c.in-Some.place ≡ Some c.args.text.now) (sym c.requires.texts) c.in-Some.ensures)
