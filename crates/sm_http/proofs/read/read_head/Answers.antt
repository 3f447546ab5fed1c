use Rattle.std.proofs.Common.{◌<◌, length, refl, sym, ap, subst, ◌∙◌, arith, Ok, Err, Some, None}
use Rattle.std.specs.Io.KnownBytes.{prepend_known, Keeps}
use Rattle.sm_http.specs.declared.see.SeenHead.TheVariants.{Part}
use Rattle.sm_http.specs.Limits.{head_limit}
use Rattle.sm_http.specs.steps.Seeing.{SeesHead}
use Rattle.sm_http.proofs.ReadingHeads.{ahead_same, ahead_kept, refused_ahead, large_ahead, ended_ahead, open_part}
use Rattle.sm_http.proofs.ReadingHeads.{part_undecided, never_fault}
use Rattle.sm_io.proofs.Told.{loses_none, loses_both}
use Rattle.sm_http.proofs.FillingLines.{loses_filled_on, found_ahead, found_within, looks_at, fills_on_at, failed_ahead, consumed_whole}
use Rattle.sm_http.proofs.read.read_head.Goals as goal

pub loop-found-init : goal.loop-found-init
loop-found-init g c = record {
  kept = ahead_same (g.S.Source.left c.args.source.now) c.args.held.now;
  taken = loses_none (g.S.Source.left c.args.source.now);
  alone = λ decides. (refl, refl);
  faults = omega arith;
}

pub returns-in-Ok-Some-clause-bytes : goal.returns-in-Ok-Some-clause-bytes
returns-in-Ok-Some-clause-bytes g c =
    found_ahead c.args.side (prepend_known c.args.held.now (g.S.Source.left c.args.source.now))
    (g.S.Source.left c.loop-found.source) c.loop-found.held c.look.new.held c.in-Ok-Some.found
    c.loop-found.invariant.kept c.look.ensures.few
    (looks_at c.args.side c.loop-found.held c.look.new.held c.look.result (Ok (Some c.in-Ok-Some.found))
    (c.in-Ok-Some.is ∙ ap Ok c.in-Ok-Some.field-0-is) c.look.ensures.bytes)

pub returns-in-Ok-Some-clause-within : goal.returns-in-Ok-Some-clause-within
returns-in-Ok-Some-clause-within g c =
    found_within c.args.side c.loop-found.held c.look.new.held c.in-Ok-Some.found
    (looks_at c.args.side c.loop-found.held c.look.new.held c.look.result (Ok (Some c.in-Ok-Some.found))
    (c.in-Ok-Some.is ∙ ap Ok c.in-Ok-Some.field-0-is) c.look.ensures.bytes)

pub returns-in-Err-clause-bytes : goal.returns-in-Err-clause-bytes
returns-in-Err-clause-bytes g c =
    refused_ahead c.args.side (prepend_known c.args.held.now (g.S.Source.left c.args.source.now)) (g.S.Source.left c.loop-found.source)
    (g.S.Source.left c.loop-found.source) c.loop-found.held c.in-Err.refusal
    c.loop-found.invariant.kept c.look.ensures.few
    (looks_at c.args.side c.loop-found.held c.look.new.held c.look.result (Err c.in-Err.refusal) c.in-Err.is c.look.ensures.bytes)

pub returns-then-as_slice-eq-HEAD_LIMIT-clause-bytes : goal.returns-then-as_slice-eq-HEAD_LIMIT-clause-bytes
returns-then-as_slice-eq-HEAD_LIMIT-clause-bytes g c =
    let none = looks_at c.args.side c.loop-found.held c.look.new.held c.look.result (Ok None)
    (c.in-Ok-None.is ∙ ap Ok c.in-Ok-None.field-0-is) c.look.ensures.bytes in
    large_ahead c.args.side (prepend_known c.args.held.now (g.S.Source.left c.args.source.now)) (g.S.Source.left c.loop-found.source)
    (g.S.Source.left c.loop-found.source) c.loop-found.held
    c.loop-found.invariant.kept (ap length (sym none.0) ∙ ap length (sym c.as_slice.ensures.bytes) ∙ c.if-as_slice-eq-HEAD_LIMIT.true)
    none.1

pub loop-found-preserved : goal.loop-found-preserved
loop-found-preserved g c =
    let none = looks_at c.args.side c.loop-found.held c.look.new.held c.look.result (Ok None)
    (c.in-Ok-None.is ∙ ap Ok c.in-Ok-None.field-0-is) c.look.ensures.bytes in
    let kept = subst (λ s. Keeps (prepend_known c.args.held.now (g.S.Source.left c.args.source.now))
    (prepend_known s (g.S.Source.left c.loop-found.source))) (sym none.0) c.loop-found.invariant.kept in
    record {
      kept = ahead_kept _ _ _ _ _ c.in-Ok.field-0 kept (fills_on_at _ _ _ _ _ (Ok c.in-Ok.field-0) c.in-Ok.is c.fill_line.ensures.bytes);
      taken = loses_both _ _ _ c.loop-found.invariant.taken (loses_filled_on _ _ _ _ _ c.fill_line.ensures.bytes);
      alone = λ decides. absurd (part_undecided c.args.side c.args.held.now c.loop-found.held c.look.new.held
          (c.loop-found.invariant.alone decides).1 none
          (omega (arith, ap length c.as_slice.ensures.bytes, c.look.ensures.still_few, c.if-as_slice-eq-HEAD_LIMIT.false)) decides);
      faults = omega (arith, c.loop-found.invariant.faults, c.fill_line.ensures.later);
    }

pub returns-else-len-eq0-clause-bytes : goal.returns-else-len-eq0-clause-bytes
returns-else-len-eq0-clause-bytes g c =
    let none = looks_at c.args.side c.loop-found.held c.look.new.held c.look.result (Ok None)
    (c.in-Ok-None.is ∙ ap Ok c.in-Ok-None.field-0-is) c.look.ensures.bytes in
    let kept = subst (λ s. Keeps (prepend_known c.args.held.now (g.S.Source.left c.args.source.now))
    (prepend_known s (g.S.Source.left c.loop-found.source))) (sym none.0) c.loop-found.invariant.kept in
    let sees = subst (λ s. SeesHead c.args.side s (Ok Part)) (sym none.0) none.1 in
    let fills = fills_on_at _ _ _ _ _ (Ok 0) (c.in-Ok-eq0.is ∙ ap Ok c.in-Ok-eq0.field-0-test) c.fill_line.ensures.bytes in
    let same = ap length c.as_slice.ensures.bytes in
    let short : length c.look.new.held < head_limit = omega (arith, same, c.look.ensures.still_few, c.if-as_slice-eq-HEAD_LIMIT.false) in
    let some : 0 < length c.fill_line.new.held = omega (arith, c.len.ensures.count, c.if-len-eq0.false) in
    ended_ahead c.args.side (prepend_known c.args.held.now (g.S.Source.left c.args.source.now)) (g.S.Source.left c.loop-found.source)
    (g.S.Source.left c.loop-found.source) (g.S.Source.left c.fill_line.new.source) c.look.new.held
    c.fill_line.new.held kept fills some short sees

pub returns-in-Ok-Some-look-clause-bytes : goal.returns-in-Ok-Some-look-clause-bytes
returns-in-Ok-Some-look-clause-bytes g c =
    let ahead = prepend_known c.args.held.now (g.S.Source.left c.args.source.now) in
    let now = failed_ahead c.args.side ahead (g.S.Source.left c.loop-found.source) (g.S.Source.left c.fill_line.new.source)
    c.loop-found.held c.look.new.held c.fill_line.new.held c.look.result c.fill_line.result
    (c.in-Ok-None.is ∙ ap Ok c.in-Ok-None.field-0-is) c.look.ensures.bytes
    (c.in-Err-Failed.is ∙ ap Err c.in-Err-Failed.field-0-is) c.fill_line.ensures.bytes c.loop-found.invariant.kept in
    found_ahead c.args.side ahead (g.S.Source.left c.fill_line.new.source) c.fill_line.new.held c.look-in-Err-Failed.new.held
    c.in-Ok-Some-look.found now c.look-in-Err-Failed.ensures.few
    (looks_at c.args.side c.fill_line.new.held c.look-in-Err-Failed.new.held c.look-in-Err-Failed.result
    (Ok (Some c.in-Ok-Some-look.found)) (c.in-Ok-Some-look.is ∙ ap Ok c.in-Ok-Some-look.field-0-is) c.look-in-Err-Failed.ensures.bytes)

pub returns-in-Ok-None-look-clause-bytes : goal.returns-in-Ok-None-look-clause-bytes
returns-in-Ok-None-look-clause-bytes g c =
    let ahead = prepend_known c.args.held.now (g.S.Source.left c.args.source.now) in
    let now = failed_ahead c.args.side ahead (g.S.Source.left c.loop-found.source) (g.S.Source.left c.fill_line.new.source)
    c.loop-found.held c.look.new.held c.fill_line.new.held c.look.result c.fill_line.result
    (c.in-Ok-None.is ∙ ap Ok c.in-Ok-None.field-0-is) c.look.ensures.bytes
    (c.in-Err-Failed.is ∙ ap Err c.in-Err-Failed.field-0-is) c.fill_line.ensures.bytes c.loop-found.invariant.kept in
    let sees = looks_at c.args.side c.fill_line.new.held c.look-in-Err-Failed.new.held c.look-in-Err-Failed.result (Ok None)
    (c.in-Ok-None-look.is ∙ ap Ok c.in-Ok-None-look.field-0-is) c.look-in-Err-Failed.ensures.bytes in
    let short = c.fill_line.ensures.part (c.in-Err-Failed.is ∙ ap Err c.in-Err-Failed.field-0-is) in (
      c.fill_line.new.held,
      consumed_whole ahead (g.S.Source.left c.fill_line.new.source) c.fill_line.new.held now,
      open_part c.args.side
          c.fill_line.new.held short sees.1,
    )

pub returns-in-Err-look-clause-bytes : goal.returns-in-Err-look-clause-bytes
returns-in-Err-look-clause-bytes g c =
    let ahead = prepend_known c.args.held.now (g.S.Source.left c.args.source.now) in
    let now = failed_ahead c.args.side ahead (g.S.Source.left c.loop-found.source) (g.S.Source.left c.fill_line.new.source)
    c.loop-found.held c.look.new.held c.fill_line.new.held c.look.result c.fill_line.result
    (c.in-Ok-None.is ∙ ap Ok c.in-Ok-None.field-0-is) c.look.ensures.bytes
    (c.in-Err-Failed.is ∙ ap Err c.in-Err-Failed.field-0-is) c.fill_line.ensures.bytes c.loop-found.invariant.kept in
    refused_ahead c.args.side ahead (g.S.Source.left c.fill_line.new.source)
    (g.S.Source.left c.fill_line.new.source) c.fill_line.new.held c.in-Err-look.refusal now c.look-in-Err-Failed.ensures.few
    (looks_at c.args.side c.fill_line.new.held c.look-in-Err-Failed.new.held c.look-in-Err-Failed.result
    (Err c.in-Err-look.refusal) c.in-Err-look.is c.look-in-Err-Failed.ensures.bytes)

pub returns-in-Err-clause-cause : goal.returns-in-Err-clause-cause
returns-in-Err-clause-cause g c = λ e.
    absurd (never_fault c.args.side c.loop-found.held c.in-Err.refusal e
    (looks_at c.args.side c.loop-found.held c.look.new.held c.look.result (Err c.in-Err.refusal) c.in-Err.is c.look.ensures.bytes))

-- where the bytes held decide, the source isn't asked
pub returns-in-Err-clause-unasked : goal.returns-in-Err-clause-unasked
returns-in-Err-clause-unasked g c = λ decides. (c.loop-found.invariant.alone decides).0

pub returns-else-len-eq0-clause-unasked : goal.returns-else-len-eq0-clause-unasked
returns-else-len-eq0-clause-unasked g c = λ decides.
    absurd (part_undecided c.args.side c.args.held.now c.loop-found.held c.look.new.held (c.loop-found.invariant.alone decides).1
    (looks_at c.args.side c.loop-found.held c.look.new.held c.look.result (Ok None)
    (c.in-Ok-None.is ∙ ap Ok c.in-Ok-None.field-0-is) c.look.ensures.bytes)
    (omega (arith, ap length c.as_slice.ensures.bytes, c.look.ensures.still_few, c.if-as_slice-eq-HEAD_LIMIT.false)) decides)

pub returns-in-Ok-Some-look-clause-unasked : goal.returns-in-Ok-Some-look-clause-unasked
returns-in-Ok-Some-look-clause-unasked g c = λ decides.
    absurd (part_undecided c.args.side c.args.held.now c.loop-found.held c.look.new.held (c.loop-found.invariant.alone decides).1
    (looks_at c.args.side c.loop-found.held c.look.new.held c.look.result (Ok None)
    (c.in-Ok-None.is ∙ ap Ok c.in-Ok-None.field-0-is) c.look.ensures.bytes)
    (omega (arith, ap length c.as_slice.ensures.bytes, c.look.ensures.still_few, c.if-as_slice-eq-HEAD_LIMIT.false)) decides)

pub returns-in-Ok-None-look-clause-unasked : goal.returns-in-Ok-None-look-clause-unasked
returns-in-Ok-None-look-clause-unasked g c = λ decides.
    absurd (part_undecided c.args.side c.args.held.now c.loop-found.held c.look.new.held (c.loop-found.invariant.alone decides).1
    (looks_at c.args.side c.loop-found.held c.look.new.held c.look.result (Ok None)
    (c.in-Ok-None.is ∙ ap Ok c.in-Ok-None.field-0-is) c.look.ensures.bytes)
    (omega (arith, ap length c.as_slice.ensures.bytes, c.look.ensures.still_few, c.if-as_slice-eq-HEAD_LIMIT.false)) decides)

pub returns-in-Err-look-clause-unasked : goal.returns-in-Err-look-clause-unasked
returns-in-Err-look-clause-unasked g c = λ decides.
    absurd (part_undecided c.args.side c.args.held.now c.loop-found.held c.look.new.held (c.loop-found.invariant.alone decides).1
    (looks_at c.args.side c.loop-found.held c.look.new.held c.look.result (Ok None)
    (c.in-Ok-None.is ∙ ap Ok c.in-Ok-None.field-0-is) c.look.ensures.bytes)
    (omega (arith, ap length c.as_slice.ensures.bytes, c.look.ensures.still_few, c.if-as_slice-eq-HEAD_LIMIT.false)) decides)

pub returns-in-Err-NoMemory-clause-unasked : goal.returns-in-Err-NoMemory-clause-unasked
returns-in-Err-NoMemory-clause-unasked g c = λ decides.
    absurd (part_undecided c.args.side c.args.held.now c.loop-found.held c.look.new.held (c.loop-found.invariant.alone decides).1
    (looks_at c.args.side c.loop-found.held c.look.new.held c.look.result (Ok None)
    (c.in-Ok-None.is ∙ ap Ok c.in-Ok-None.field-0-is) c.look.ensures.bytes)
    (omega (arith, ap length c.as_slice.ensures.bytes, c.look.ensures.still_few, c.if-as_slice-eq-HEAD_LIMIT.false)) decides)

-- what the source lost before, and what it lost up to an LF

pub returns-in-Ok-Some-look-clause-taken : goal.returns-in-Ok-Some-look-clause-taken
returns-in-Ok-Some-look-clause-taken g c =
    loses_both _ _ _ c.loop-found.invariant.taken (loses_filled_on _ _ _ _ _ c.fill_line.ensures.bytes)

pub returns-in-Ok-None-look-clause-taken : goal.returns-in-Ok-None-look-clause-taken
returns-in-Ok-None-look-clause-taken g c =
    loses_both _ _ _ c.loop-found.invariant.taken (loses_filled_on _ _ _ _ _ c.fill_line.ensures.bytes)

pub returns-in-Err-look-clause-taken : goal.returns-in-Err-look-clause-taken
returns-in-Err-look-clause-taken g c =
    loses_both _ _ _ c.loop-found.invariant.taken (loses_filled_on _ _ _ _ _ c.fill_line.ensures.bytes)

pub returns-in-Err-NoMemory-clause-taken : goal.returns-in-Err-NoMemory-clause-taken
returns-in-Err-NoMemory-clause-taken g c =
    loses_both _ _ _ c.loop-found.invariant.taken (loses_filled_on _ _ _ _ _ c.fill_line.ensures.bytes)
