use Rattle.std.proofs.Common.{◌≡◌, ◌∙◌, None, rules, arith}
use Rattle.std.proofs.lemmas.Bool.{both_ways}
use Rattle.regex_meta.specs.Programs.{pattern_of}
use Rattle.sm_shapes.proofs.Searches.{nowhere_from, found_from, passed_over}
use Rattle.sm_shapes.proofs.compiled.finds_anew.Goals as goal

pub returns-in_default : goal.returns-in_default
returns-in_default c =
    let none : c.find.result ≡ None = search rules in
    nowhere_from (pattern_of c.args.program.now) c.args.text.now c.loop-from.at c.loop-from.invariant.1 c.find.result
    (rw (c.as_bytes-bytes.ensures.value, c.loop-from.invariant.2) at c.find.ensures.found) none

pub returns-then-is_char_boundary : goal.returns-then-is_char_boundary
returns-then-is_char_boundary c =
    found_from (pattern_of c.args.program.now) c.args.text.now c.loop-from.at c.loop-from.invariant.1 c.in-Some.from c.in-Some.field-0-1
    (rw (c.as_bytes-bytes.ensures.value, c.loop-from.invariant.2) at c.in-Some.ensures.found) (c.is_char_boundary.ensures.test.0
    c.if-is_char_boundary.true)

pub overflow_add-at : goal.overflow_add-at
overflow_add-at c =
    let over = passed_over (pattern_of c.args.program.now) c.args.text.now c.loop-from.at c.loop-from.invariant.1 c.in-Some.from
    c.in-Some.field-0-1 (rw (c.as_bytes-bytes.ensures.value, c.loop-from.invariant.2) at c.in-Some.ensures.found)
    (λ cut. both_ways _ c.if-is_char_boundary.false (c.is_char_boundary.ensures.test.1 cut)) in
    omega (arith, over.1, c.as_bytes-bytes.ensures.len)

pub loop-from-smaller : goal.loop-from-smaller
loop-from-smaller c =
    let over = passed_over (pattern_of c.args.program.now) c.args.text.now c.loop-from.at c.loop-from.invariant.1 c.in-Some.from
    c.in-Some.field-0-1 (rw (c.as_bytes-bytes.ensures.value, c.loop-from.invariant.2) at c.in-Some.ensures.found)
    (λ cut. both_ways _ c.if-is_char_boundary.false (c.is_char_boundary.ensures.test.1 cut)) in
    omega (arith, over.0, over.1)

pub loop-from-preserved : goal.loop-from-preserved
loop-from-preserved c =
    let over = passed_over (pattern_of c.args.program.now) c.args.text.now c.loop-from.at c.loop-from.invariant.1 c.in-Some.from
    c.in-Some.field-0-1 (rw (c.as_bytes-bytes.ensures.value, c.loop-from.invariant.2) at c.in-Some.ensures.found)
    (λ cut. both_ways _ c.if-is_char_boundary.false (c.is_char_boundary.ensures.test.1 cut)) in
    (omega (arith, over.1), over.2, c.in-Some.ensures.same ∙ c.loop-from.invariant.2)
