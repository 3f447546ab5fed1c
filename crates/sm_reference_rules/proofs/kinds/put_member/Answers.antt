use Rattle.std.proofs.Common.{Bool, ap, ◌∙◌}
use Rattle.std.specs.Prelude.{not}
use Rattle.std.specs.FinMap as fin
use Rattle.sm_model.specs.GraphView.{maps_of}
use Rattle.sm_model.specs.Reaching.{id_of_number}
use Rattle.sm_rules.specs.Targets.{is_key}
use Rattle.sm_reference_rules.specs.steps.Targets.{may_stand_where}
use Rattle.sm_reference_rules.proofs.TargetKinds.{no_target, target_put}
use Rattle.sm_reference_rules.proofs.kinds.put_member.Goals as goal

pub returns-in_ok-put_if-in-Some : goal.returns-in_ok-put_if-in-Some
returns-in_ok-put_if-in-Some c =
    let g = c.args.graph.now in
    let to = c.in-Some.target in
    let key = is_key (id_of_number g c.args.shape) (id_of_number g c.args.member) in
    let found = fin.get (maps_of g).shapes (id_of_number g to) in
    target_put g c.args.home c.args.shape c.args.member to c.in-Some.ensures.1 (not c.may_stand-other.result) c.id_text.result.now
    c.id_text.ensures
    (ap not c.may_stand-other.ensures ∙ ap (λ (k : Bool). not (may_stand_where c.args.home k c.targets_unit.result found))
    c.is_key-key.ensures
    ∙ ap (λ (u : Bool). not (may_stand_where c.args.home key u found)) c.targets_unit.ensures)
    c.args.events.now.items c.put_if.new.events.items c.in_ok-put_if-in-Some.ensures

pub returns-in-None : goal.returns-in-None
returns-in-None c = no_target c.args.graph.now c.args.home c.args.shape c.args.member c.in-None.ensures c.args.events.now.items
