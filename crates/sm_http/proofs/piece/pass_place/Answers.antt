use Rattle.std.proofs.Common.{sym, ap, subst, ◌∙◌, arith, Ok, Err}
use Rattle.std.specs.Io.KnownBytes.{prepend_known}
use Rattle.sm_http.specs.declared.place.SeenPlace.TheVariants.{Next, Part}
use Rattle.sm_http.specs.Calls.{DecidesBody}
use Rattle.sm_http.specs.steps.Passing.{PassesTo}
use Rattle.sm_io.proofs.Told.{loses_both}
use Rattle.sm_http.proofs.ReadingHeads.{ahead_kept, fills_at}
use Rattle.sm_http.proofs.FillingLines.{loses_filled}
use Rattle.sm_http.proofs.ReadingPieces.{sees_at, undecided, decides_next, next_ahead, refused_ahead, ended_ahead, never_fault}
use Rattle.sm_http.proofs.piece.pass_place.Goals as goal

pub returns-in-Ok-Next-clause-bytes : goal.returns-in-Ok-Next-clause-bytes
returns-in-Ok-Next-clause-bytes g c =
    let sees = sees_at c.args.left.now _ _ _ (Ok (Next c.in-Ok-Next.used c.in-Ok-Next.next)) c.as_slice.ensures.bytes
    (c.in-Ok-Next.is ∙ ap Ok c.in-Ok-Next.field-0-is) c.see_place.ensures in
    subst (λ k. PassesTo c.args.left.now c.in-Ok-Next.next (prepend_known c.args.held.now (g.S.Source.left c.args.source.now))
    (prepend_known k (g.S.Source.left c.loop-used.source)))
    (sym c.advance.ensures)
    (next_ahead c.args.left.now c.in-Ok-Next.next (prepend_known c.args.held.now (g.S.Source.left c.args.source.now))
    (g.S.Source.left c.loop-used.source) c.loop-used.held c.in-Ok-Next.used c.loop-used.invariant.kept sees)

pub returns-in-Err-clause-bytes : goal.returns-in-Err-clause-bytes
returns-in-Err-clause-bytes g c =
    let sees = sees_at c.args.left.now _ _ _ (Err c.in-Err.refusal) c.as_slice.ensures.bytes c.in-Err.is c.see_place.ensures in
    refused_ahead c.args.left.now (prepend_known c.args.held.now (g.S.Source.left c.args.source.now))
    (g.S.Source.left c.loop-used.source) (g.S.Source.left c.loop-used.source) c.loop-used.held c.in-Err.refusal
    c.loop-used.invariant.kept sees

pub returns-in-Err-clause-cause : goal.returns-in-Err-clause-cause
returns-in-Err-clause-cause g c = λ e.
    let sees = sees_at c.args.left.now _ _ _ (Err c.in-Err.refusal) c.as_slice.ensures.bytes c.in-Err.is c.see_place.ensures in
    absurd (never_fault c.args.left.now c.loop-used.held c.in-Err.refusal e sees)

pub returns-in-Ok-eq0-clause-bytes : goal.returns-in-Ok-eq0-clause-bytes
returns-in-Ok-eq0-clause-bytes g c =
    let sees = sees_at c.args.left.now _ _ _ (Ok Part) c.as_slice.ensures.bytes
    (c.in-Ok-Part.is ∙ ap Ok c.in-Ok-Part.field-0-is) c.see_place.ensures in
    let fills = fills_at _ _ _ _ _ (Ok 0) (c.in-Ok-eq0.is ∙ ap Ok c.in-Ok-eq0.field-0-test) c.fill.ensures.bytes in
    ended_ahead c.args.left.now (prepend_known c.args.held.now (g.S.Source.left c.args.source.now)) (g.S.Source.left c.loop-used.source)
    (g.S.Source.left c.fill.new.source) c.loop-used.held c.fill.new.self c.loop-used.invariant.kept fills sees

pub loop-used-preserved : goal.loop-used-preserved
loop-used-preserved g c =
    let sees = sees_at c.args.left.now _ _ _ (Ok Part) c.as_slice.ensures.bytes
    (c.in-Ok-Part.is ∙ ap Ok c.in-Ok-Part.field-0-is) c.see_place.ensures in
    record {
      kept = ahead_kept _ _ _ _ _ c.in-Ok.field-0 c.loop-used.invariant.kept
          (fills_at _ _ _ _ _ (Ok c.in-Ok.field-0) c.in-Ok.is c.fill.ensures.bytes);
      taken = loses_both _ _ _ c.loop-used.invariant.taken (loses_filled _ _ _ _ _ c.fill.ensures.bytes);
      alone = λ decides. absurd (undecided c.args.left.now _ _ (c.loop-used.invariant.alone decides).1 sees decides);
      faults = omega (arith, c.loop-used.invariant.faults, c.fill.ensures.later);
    }

-- where the bytes held decide, the source isn't asked
pub returns-in-Ok-Next-clause-alone : goal.returns-in-Ok-Next-clause-alone
returns-in-Ok-Next-clause-alone g c = λ decides.
    let sees = sees_at c.args.left.now _ _ _ (Ok (Next c.in-Ok-Next.used c.in-Ok-Next.next)) c.as_slice.ensures.bytes
    (c.in-Ok-Next.is ∙ ap Ok c.in-Ok-Next.field-0-is) c.see_place.ensures in
    let same = c.loop-used.invariant.alone decides in (
      same.0,
      subst (λ k. DecidesBody c.in-Ok-Next.next k) (sym c.advance.ensures)
          (decides_next c.args.left.now c.in-Ok-Next.next c.loop-used.held c.in-Ok-Next.used sees
          (subst (λ k. DecidesBody c.args.left.now k) (sym same.1) decides)),
    )

pub returns-in-Ok-eq0-clause-alone : goal.returns-in-Ok-eq0-clause-alone
returns-in-Ok-eq0-clause-alone g c = λ decides.
    let sees = sees_at c.args.left.now _ _ _ (Ok Part) c.as_slice.ensures.bytes
    (c.in-Ok-Part.is ∙ ap Ok c.in-Ok-Part.field-0-is) c.see_place.ensures in
    absurd (undecided c.args.left.now _ _ (c.loop-used.invariant.alone decides).1 sees decides)

pub returns-in-Err-Failed-clause-alone : goal.returns-in-Err-Failed-clause-alone
returns-in-Err-Failed-clause-alone g c = λ decides.
    let sees = sees_at c.args.left.now _ _ _ (Ok Part) c.as_slice.ensures.bytes
    (c.in-Ok-Part.is ∙ ap Ok c.in-Ok-Part.field-0-is) c.see_place.ensures in
    absurd (undecided c.args.left.now _ _ (c.loop-used.invariant.alone decides).1 sees decides)

pub returns-in-Err-NoMemory-clause-alone : goal.returns-in-Err-NoMemory-clause-alone
returns-in-Err-NoMemory-clause-alone g c = λ decides.
    let sees = sees_at c.args.left.now _ _ _ (Ok Part) c.as_slice.ensures.bytes
    (c.in-Ok-Part.is ∙ ap Ok c.in-Ok-Part.field-0-is) c.see_place.ensures in
    absurd (undecided c.args.left.now _ _ (c.loop-used.invariant.alone decides).1 sees decides)
