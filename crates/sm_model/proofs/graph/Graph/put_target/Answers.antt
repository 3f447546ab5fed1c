use Rattle.std.proofs.Common.{◌≡◌}
use Rattle.std.specs.List.{Contains}
use Rattle.std.proofs.lemmas.Result.{on_ok_weaker}
use Rattle.sm_model.specs.declared.relation.Relation.TheVariants.{Target}
use Rattle.sm_model.specs.steps.Linking.{TargetLinks}
use Rattle.sm_model.proofs.Linking.{joins_none, joins_same}
use Rattle.sm_model.proofs.LinkedGraphs.{member_entry_is, target_found, target_missing}
use Rattle.sm_model.proofs.graph.Graph.put_target.Goals as goal

pub returns-in-Some : goal.returns-in-Some
returns-in-Some c =
    let g = c.args.self.now in
    on_ok_weaker c.push_link.result
    (joins_same (Contains c.args.links.now.items) (λ l. l ≡ record { relation = Target; from = c.args.member; to = c.in-Some.to })
    (TargetLinks g c.args.member) (Contains c.push_link.new.links.items)
    (target_found g c.args.member c.in-Some.to (member_entry_is g c.args.member c.requires.is_member) c.in-Some.ensures))
    c.push_link.ensures

pub returns-in-None : goal.returns-in-None
returns-in-None c =
    joins_none (Contains c.args.links.now.items) (TargetLinks c.args.self.now c.args.member)
    (target_missing c.args.self.now c.args.member (member_entry_is c.args.self.now c.args.member c.requires.is_member) c.in-None.ensures)
