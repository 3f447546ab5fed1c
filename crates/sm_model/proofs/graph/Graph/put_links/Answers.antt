use Rattle.std.proofs.Common.{◌≡◌, ◌⊎◌, subst}
use Rattle.std.proofs.lemmas.Result.{on_ok_weaker}
use Rattle.std.specs.List.{Contains}
use Rattle.sm_model.specs.GraphView.{At, is_member_entry}
use Rattle.sm_model.specs.steps.Linking.{BodyLinks, EntryLinks, MembersLinks, TargetLinks}
use Rattle.sm_model.proofs.Linking.{joins_both, joins_same}
use Rattle.sm_model.proofs.LinkedEntries.{shape_links}
use Rattle.sm_model.proofs.LinkedGraphs.{member_number_links}
use Rattle.sm_model.proofs.graph.Graph.put_links.Goals as goal

pub returns-then-is_member : goal.returns-then-is_member
returns-then-is_member c =
    let g = c.args.self.now in
    let s = c.args.shape in
    on_ok_weaker c.put_target.result
    (joins_same (Contains c.args.links.now.items) (TargetLinks g s) (EntryLinks g s) (Contains c.put_target.new.links.items)
    (member_number_links g s (subst (λ b. At g s (λ id e. is_member_entry e ≡ b)) c.if-is_member.true c.is_member.ensures)))
    c.put_target.ensures

pub returns-in-Ok : goal.returns-in-Ok
returns-in-Ok c =
    let g = c.args.self.now in
    let s = c.args.shape in
    let ms = c.members.result.now in
    let mid = Contains c.put_members.new.links.items in
    let old = Contains c.args.links.now.items in
    let now = Contains c.put_body.new.links.items in
    on_ok_weaker c.put_body.result
    (λ body. joins_same old (λ l. MembersLinks s ms l ⊎ BodyLinks g s l) (EntryLinks g s) now
    (shape_links g s ms (subst (λ b. At g s (λ id e. is_member_entry e ≡ b)) c.if-is_member.false c.is_member.ensures) c.members.ensures.ids
    c.members.ensures.numbers) (joins_both old (MembersLinks s ms) mid (BodyLinks g s) now c.in-Ok.ensures body)) c.put_body.ensures
