use Rattle.std.proofs.Common.{get_or, subst, arith}
use Rattle.std.specs.List.{Contains}
use Rattle.std.proofs.lemmas.List.Elements.{Contains-get_or}
use Rattle.sm_model.specs.Reaching.{id_of_number}
use Rattle.sm_compile.specs.steps.Carrying.{texts_in}
use Rattle.sm_compile.proofs.ReachedNumbers.{each_number, ids_among}
use Rattle.sm_compile.proofs.ReadyRows.{ready_shape}
use Rattle.sm_compile.proofs.RowsPut.{long_put, member_put, next_first}
use Rattle.sm_compile.proofs.members.put_members.Goals as goal

pub value_members-members-requires : goal.value_members-members-requires
value_members-members-requires c =
    (ready_shape c.args.parts.now.graph.now c.args.parts.now.shapes.now (texts_in c.args.parts.now.carried.now) c.requires.parts.ready
    c.args.home_row c.requires.home).number

pub row_of-requires-clause-member : goal.row_of-requires-clause-member
row_of-requires-clause-member c =
    let ms = c.value_members-members.result.now in
    let i = c.loop-member.member-index in
    each_number c.args.parts.now.graph.now ms c.value_members-members.ensures.numbers (get_or ms i 0)
    (Contains-get_or ms i 0 c.loop-member-test.true)

pub row_of-requires-clause-among : goal.row_of-requires-clause-among
row_of-requires-clause-among c =
    let g = c.args.parts.now.graph.now in
    let ms = c.value_members-members.result.now in
    let i = c.loop-member.member-index in
    subst (λ ids. Contains ids (id_of_number g (get_or ms i 0))) c.value_members-members.ensures.ids
    (ids_among g ms (get_or ms i 0) (Contains-get_or ms i 0 c.loop-member-test.true))

pub loop-member-preserved : goal.loop-member-preserved
loop-member-preserved c =
    let g = c.args.parts.now.graph.now in
    let shapes = c.args.parts.now.shapes.now in
    let ms = c.value_members-members.result.now in
    let at = c.loop-member in
    let row = c.in_ok-row.ensures in
    record {
      long = long_put g shapes c.args.parts.now.patterns.now c.args.home_row c.requires.home ms c.value_members-members.ensures.ids
          at.member-index
          at.rows.items c.push.new.self.items c.in_ok-row.row c.in_ok-push.ensures.items at.invariant.long;
      within = omega (arith, c.loop-member-test.true);
      each = member_put g shapes c.args.parts.now.patterns.now c.args.home_row c.requires.home ms c.value_members-members.ensures.ids
          at.member-index
          at.rows.items c.push.new.self.items c.in_ok-row.row c.loop-member-test.true c.in_ok-push.ensures.items at.invariant.long
          at.invariant.each
          row.says row.home row.spelled row.name row.json_name row.unbound;
    }

pub returns : goal.returns
returns c =
    let g = c.args.parts.now.graph.now in
    let at = c.loop-member in
    let next = next_first g c.args.parts.now.shapes.now c.args.parts.now.patterns.now c.args.home_row c.requires.home
    c.value_members-members.result.now c.value_members-members.ensures.ids in
    record {
      long = omega (arith, next, at.invariant.long, at.invariant.within, c.loop-member-test.false);
      each = at.invariant.each;
    }
