use Rattle.std.proofs.Common.{subst, arith}
use Rattle.std.proofs.lemmas.List.{length-drop}
use Rattle.sm_http.specs.declared.trailers.SeenTrailer.TheVariants.{Last, Line, Part, Never}
use Rattle.sm_http.specs.steps.Trailers.{SeesTrailer}
use Rattle.sm_http.proofs.Cuts.{rest_of}
use Rattle.sm_http.proofs.TrailersSeen.{same_more, all_last, all_part, all_never}
use Rattle.sm_http.proofs.trailers.see_trailers.Goals as goal

pub returns-in-Last : goal.returns-in-Last
returns-in-Last c =
    all_last c.loop-len.at c.args.bytes.now c.loop-len.invariant.within c.loop-len.invariant.inside c.loop-len.invariant.same
    (subst (λ x. SeesTrailer c.loop-len.at x Last) (rest_of c.args.bytes.now c.loop-len.at) c.in-Last.ensures)

pub loop-len-preserved : goal.loop-len-preserved
loop-len-preserved c =
    let line = subst (λ x. SeesTrailer c.loop-len.at x (Line c.in-Line.len)) (rest_of c.args.bytes.now c.loop-len.at) c.in-Line.ensures in
    record {
      inside = omega (arith, line.inside, length-drop c.loop-len.at c.args.bytes.now, c.loop-len.invariant.inside);
      within = line.within;
      same = same_more c.loop-len.at c.in-Line.len c.args.bytes.now c.loop-len.invariant.same line;
    }

pub returns-in-Part : goal.returns-in-Part
returns-in-Part c =
    all_part c.loop-len.at c.args.bytes.now c.loop-len.invariant.same
    (subst (λ x. SeesTrailer c.loop-len.at x Part) (rest_of c.args.bytes.now c.loop-len.at) c.in-Part.ensures)

pub returns-in-Never : goal.returns-in-Never
returns-in-Never c =
    all_never c.loop-len.at c.args.bytes.now c.loop-len.invariant.same
    (subst (λ x. SeesTrailer c.loop-len.at x Never) (rest_of c.args.bytes.now c.loop-len.at) c.in-Never.ensures)
