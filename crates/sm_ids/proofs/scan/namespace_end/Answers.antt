use Rattle.std.proofs.Common.{◌<◌, length, subst, sym, arith}
use Rattle.std.proofs.lemmas.Result.{err_from_is_err_and}
use Rattle.sm_ids.specs.IdText.{IsIdText, BreaksAt}
use Rattle.sm_ids.specs.steps.Ahead.{in_namespace, IsIdentifierFrom}
use Rattle.sm_ids.proofs.Scanning.{breaks_from, breaks_in_namespace, breaks_at_byte, namespace_stops, namespace_to, one_taken}
use Rattle.sm_ids.proofs.scan.namespace_end.Goals as goal

pub returns-in_err-end : goal.returns-in_err-end
returns-in_err-end c =
    let p = err_from_is_err_and c.from_residual.result c.from_residual.ensures.1 in
    let i = c.identifiers.invariant in
    rw (p.1, p.2) (breaks_from in_namespace in_namespace c.args.bytes.now c.identifiers.from _ i.taken.leads i.within c.in_err-end.ensures.0
    (c.in_err-end.ensures.1 in_namespace))

pub returns-then-end-bytes : goal.returns-then-end-bytes
returns-then-end-bytes c =
    let i = c.identifiers.invariant in
    let last = c.if-end-bytes.true in
    let whole = subst (IsIdentifierFrom c.args.bytes.now c.identifiers.from) last c.in_ok-end.ensures in
    subst (BreaksAt IsIdText c.args.bytes.now) (sym last)
    (breaks_in_namespace c.args.bytes.now c.identifiers.from i.taken.leads i.within whole)

pub returns-then-bytes-end-eq35 : goal.returns-then-bytes-end-eq35
returns-then-bytes-end-eq35 c =
    let i = c.in_ok-end.ensures in
    let lt : c.in_ok-end.end < length c.args.bytes.now = omega (arith, i.within) in
    namespace_to c.args.bytes.now c.identifiers.from c.in_ok-end.end c.identifiers.invariant.taken i lt c.if-bytes-end-eq35.true

pub identifiers-preserved : goal.identifiers-preserved
identifiers-preserved c =
    let i = c.in_ok-end.ensures in
    let lt : c.in_ok-end.end < length c.args.bytes.now = omega (arith, i.within) in
    record {
      within = omega arith;
      taken = one_taken c.args.bytes.now c.identifiers.from c.in_ok-end.end c.identifiers.invariant.taken i lt
          c.if-bytes-end-ne46.false;
    }

pub returns-then-bytes-end-ne46 : goal.returns-then-bytes-end-ne46
returns-then-bytes-end-ne46 c =
    let t = c.identifiers.invariant in
    let i = c.in_ok-end.ensures in
    let lt : c.in_ok-end.end < length c.args.bytes.now = omega (arith, i.within) in
    breaks_at_byte in_namespace in_namespace c.args.bytes.now c.identifiers.from c.in_ok-end.end t.taken.leads t.within i lt
    (namespace_stops _ c.if-bytes-end-ne46.true c.if-bytes-end-eq35.false)
