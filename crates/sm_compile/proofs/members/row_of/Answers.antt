use Rattle.sm_compile.specs.steps.Carrying.{texts_in}
use Rattle.sm_compile.proofs.ReadyRows.{pattern_among, ready_shape, says_row, stands_ready}
use Rattle.sm_compile.proofs.ValuesShared.{in_row, target_row_is}
use Rattle.sm_compile.proofs.members.row_of.Goals as goal

pub name_at-name-requires-clause-shape : goal.name_at-name-requires-clause-shape
name_at-name-requires-clause-shape c =
    (ready_shape c.args.parts.now.graph.now c.args.parts.now.shapes.now (texts_in c.args.parts.now.carried.now) c.requires.parts.ready
    c.args.home_row c.requires.home).number

pub name_at-name-requires-clause-named : goal.name_at-name-requires-clause-named
name_at-name-requires-clause-named c =
    (stands_ready c.args.parts.now.graph.now c.args.parts.now.shapes.now (texts_in c.args.parts.now.carried.now) c.requires.parts.ready
    c.args.home_row c.args.member c.requires.home c.requires.among).named

pub pattern_at-pattern-requires-clause-among : goal.pattern_at-pattern-requires-clause-among
pattern_at-pattern-requires-clause-among c u seen =
    let g = c.args.parts.now.graph.now in
    let shapes = c.args.parts.now.shapes.now in
    let texts = texts_in c.args.parts.now.carried.now in
    let place = c.member_place-place.result in
    let has = c.member_place-place.ensures in
    pattern_among g shapes texts c.args.home_row c.args.member
    (stands_ready g shapes texts c.requires.parts.ready c.args.home_row c.args.member c.requires.home c.requires.among)
    c.requires.parts.ready
    place.target place.target_kind u has.target_number has.target has.target_kind seen

pub returns-clause-says : goal.returns-clause-says
returns-clause-says c =
    let g = c.args.parts.now.graph.now in
    let shapes = c.args.parts.now.shapes.now in
    let texts = texts_in c.args.parts.now.carried.now in
    let row = c.in_ok-row.ensures in
    says_row g shapes texts c.args.home_row c.args.member
    (stands_ready g shapes texts c.requires.parts.ready c.args.home_row c.args.member c.requires.home c.requires.among)
    c.args.parts.now.patterns.now c.member_place-place.result c.in_ok-row.row c.name_at-name.result.now c.pattern_at-pattern.result
    c.requires.home
    c.member_place-place.ensures c.name_at-name.ensures row.told row.placed row.name row.pattern c.pattern_at-pattern.ensures

pub member_row-requires-clause-values : goal.member_row-requires-clause-values
member_row-requires-clause-values c =
    let place = c.member_place-place.result in
    let has = c.member_place-place.ensures in
    in_row c.args.parts.now.graph.now c.args.parts.now.shapes.now c.args.parts.now.values.now place.target_row place.target
    place.target_kind
    c.values_in-values.result.now c.requires.values c.values_in-values.ensures
    (target_row_is c.args.parts.now.shapes.now place.target_row place.target has.target_row) has.target_kind
