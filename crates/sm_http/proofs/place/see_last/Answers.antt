use Rattle.std.proofs.Common.{subst}
use Rattle.sm_http.specs.declared.trailers.SeenTrailers.TheVariants.{Whole, Part, Never}
use Rattle.sm_http.specs.steps.Trailers.{SeesTrailers}
use Rattle.sm_http.proofs.Cuts.{rest_of}
use Rattle.sm_http.proofs.PlacesSeen.{last_whole, last_part, last_never}
use Rattle.sm_http.proofs.place.see_last.Goals as goal

pub returns-in-Whole : goal.returns-in-Whole
returns-in-Whole c =
    last_whole c.args.sum c.args.bytes.now c.args.len c.in-Whole.more c.requires.within c.requires.line
    (subst (λ x. SeesTrailers x (Whole c.in-Whole.more)) (rest_of c.args.bytes.now c.args.len) c.in-Whole.ensures)

pub returns-in-Part : goal.returns-in-Part
returns-in-Part c =
    last_part c.args.sum c.args.bytes.now c.args.len c.requires.within c.requires.line
    (subst (λ x. SeesTrailers x Part) (rest_of c.args.bytes.now c.args.len) c.in-Part.ensures)

pub returns-in-Never : goal.returns-in-Never
returns-in-Never c =
    last_never c.args.sum c.args.bytes.now c.args.len c.requires.within c.requires.line
    (subst (λ x. SeesTrailers x Never) (rest_of c.args.bytes.now c.args.len) c.in-Never.ensures)
