use Rattle.std.proofs.Common.{get_or}
use Rattle.std.proofs.lemmas.List.Elements.{Contains-get_or}
use Rattle.sm_model.specs.GraphView.{maps_of}
use Rattle.sm_model.specs.Reaching.{id_of_number}
use Rattle.sm_compile.proofs.ReachedNumbers.{each_number}
use Rattle.sm_service.specs.steps.BindingsTold.{TellsMedia}
use Rattle.sm_service.proofs.RowsTold.{row_more}
use Rattle.sm_service.proofs.bound_members.media_of_members.Goals as goal

pub media_of_member-requires : goal.media_of_member-requires
media_of_member-requires c =
    let ks = c.args.members.now in
    let i = c.loop-member.member-index in
    each_number c.args.graph.now ks c.requires (get_or ks i 0) (Contains-get_or ks i 0 c.loop-member-test.true)

pub loop-member-preserved : goal.loop-member-preserved
loop-member-preserved c =
    let g = c.args.graph.now in
    let ks = c.args.members.now in
    let at = c.loop-member in
    let put = c.in_ok-push.ensures.items in
    row_more (TellsMedia (maps_of g)) (id_of_number g) ks at.member-index at.media.items c.push.new.self.items
    c.in_ok-media_of_member.field-0 c.loop-member-test.true put at.invariant c.in_ok-media_of_member.ensures
