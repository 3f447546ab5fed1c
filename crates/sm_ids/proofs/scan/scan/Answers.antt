use Rattle.std.proofs.Common.{◌<◌, ◌≤◌, ◌+◌, length, arith}
use Rattle.std.proofs.lemmas.Result.{err_from_is_err_and}
use Rattle.sm_ids.specs.steps.Ahead.{in_namespace, in_name, in_member}
use Rattle.sm_ids.proofs.Scanning.{breaks_from, breaks_at_byte, name_stops, member_stops, name_comes, member_begins, ends_with_name}
use Rattle.sm_ids.proofs.Scanning.{ends_with_member}
use Rattle.sm_ids.proofs.scan.scan.Goals as goal

pub returns-in_err-name : goal.returns-in_err-name
returns-in_err-name c =
    let p = err_from_is_err_and c.from_residual-in_err-name.result c.from_residual-in_err-name.ensures.1 in
    let n = c.in_ok-namespace.ensures in
    let start : c.in_ok-namespace.namespace + 1 ≤ length c.args.bytes.now = omega (arith, n.within) in
    rw (p.1, p.2) (breaks_from in_namespace in_name c.args.bytes.now (c.in_ok-namespace.namespace + 1) _
    (name_comes c.args.bytes.now c.in_ok-namespace.namespace n) start c.in_err-name.ensures.0 (c.in_err-name.ensures.1 in_name))

pub returns-then-name-bytes : goal.returns-then-name-bytes
returns-then-name-bytes c = ends_with_name c.args.bytes.now c.in_ok-namespace.namespace c.in_ok-name.name c.in_ok-namespace.ensures
    c.in_ok-name.ensures c.if-name-bytes.true

pub returns-then-bytes-name-ne36 : goal.returns-then-bytes-name-ne36
returns-then-bytes-name-ne36 c =
    let n = c.in_ok-namespace.ensures in
    let i = c.in_ok-name.ensures in
    let start : c.in_ok-namespace.namespace + 1 ≤ length c.args.bytes.now = omega (arith, n.within) in
    let lt : c.in_ok-name.name < length c.args.bytes.now = omega (arith, i.within) in
    breaks_at_byte in_namespace in_name c.args.bytes.now (c.in_ok-namespace.namespace + 1) c.in_ok-name.name
    (name_comes c.args.bytes.now c.in_ok-namespace.namespace n) start i lt (name_stops _ c.if-bytes-name-ne36.true)

pub returns-in_err-end : goal.returns-in_err-end
returns-in_err-end c =
    let p = err_from_is_err_and c.from_residual-in_err-end.result c.from_residual-in_err-end.ensures.1 in
    let i = c.in_ok-name.ensures in
    let m = member_begins c.args.bytes.now _ _ c.in_ok-namespace.ensures i (omega (arith, i.within)) c.if-bytes-name-ne36.false in
    rw (p.1, p.2) (breaks_from in_namespace in_member c.args.bytes.now (c.in_ok-name.name + 1) _ m.leads m.within
    c.in_err-end.ensures.0 (c.in_err-end.ensures.1 in_member))

pub returns-then-end-bytes : goal.returns-then-end-bytes
returns-then-end-bytes c =
    let i = c.in_ok-name.ensures in
    let m = member_begins c.args.bytes.now _ _ c.in_ok-namespace.ensures i (omega (arith, i.within)) c.if-bytes-name-ne36.false in
    breaks_at_byte in_namespace in_member c.args.bytes.now (c.in_ok-name.name + 1) c.in_ok-end.end m.leads m.within
    c.in_ok-end.ensures c.if-end-bytes.true (member_stops _)

pub returns : goal.returns
returns c =
    let lt : c.in_ok-name.name < length c.args.bytes.now = let i = c.in_ok-name.ensures in omega (arith, i.within) in
    ends_with_member c.args.bytes.now c.in_ok-namespace.namespace c.in_ok-name.name c.in_ok-end.end c.in_ok-namespace.ensures
    c.in_ok-name.ensures lt c.if-bytes-name-ne36.false c.in_ok-end.ensures c.if-end-bytes.false
