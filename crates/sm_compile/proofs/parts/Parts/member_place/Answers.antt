use Rattle.sm_compile.specs.steps.Carrying.{texts_in}
use Rattle.sm_compile.proofs.ReadyRows.{ready_shape, stands_ready, target_kind_there}
use Rattle.sm_compile.proofs.parts.Parts.member_place.Goals as goal

pub target_at-target-requires-clause-sound : goal.target_at-target-requires-clause-sound
target_at-target-requires-clause-sound c =
    let st = stands_ready c.args.self.now.graph.now c.args.self.now.shapes.now (texts_in c.args.self.now.carried.now) c.requires.parts.ready
    c.args.home_row c.args.member c.requires.home c.requires.among in
    (st.home.s.kind, st.sound)

pub kind_at-requires-clause-number : goal.kind_at-requires-clause-number
kind_at-requires-clause-number c =
    (ready_shape c.args.self.now.graph.now c.args.self.now.shapes.now (texts_in c.args.self.now.carried.now) c.requires.parts.ready
    c.args.home_row c.requires.home).number

pub kind_at-requires-2-clause-shape : goal.kind_at-requires-2-clause-shape
kind_at-requires-2-clause-shape c =
    let g = c.args.self.now.graph.now in
    let shapes = c.args.self.now.shapes.now in
    let texts = texts_in c.args.self.now.carried.now in
    target_kind_there g shapes texts c.args.home_row c.args.member
    (stands_ready g shapes texts c.requires.parts.ready c.args.home_row c.args.member c.requires.home c.requires.among)
    c.target_at-target.result c.target_at-target.ensures.target

pub row_at-requires-clause-there : goal.row_at-requires-clause-there
row_at-requires-clause-there c =
    (stands_ready c.args.self.now.graph.now c.args.self.now.shapes.now (texts_in c.args.self.now.carried.now) c.requires.parts.ready
    c.args.home_row c.args.member c.requires.home c.requires.among).member.target
    c.target_at-target.result c.target_at-target.ensures.number c.target_at-target.ensures.target
