use Rattle.std.proofs.Common.{◌≡◌}
use Rattle.std.specs.List.{Contains}
use Rattle.std.proofs.lemmas.Result.{on_ok_weaker}
use Rattle.sm_model.specs.declared.relation.Relation.TheVariants.{Container, Member}
use Rattle.sm_model.proofs.Linking.{joins_both}
use Rattle.sm_model.proofs.graph.links.push_both.Goals as goal

pub returns-in-Ok : goal.returns-in-Ok
returns-in-Ok c =
    on_ok_weaker c.push_link-in-Ok.result
    (joins_both (Contains c.args.links.now.items) (λ l. l ≡ record { relation = Member; from = c.args.shape; to = c.args.member })
    (Contains c.push_link.new.links.items) (λ l. l ≡ record { relation = Container; from = c.args.member; to = c.args.shape })
    (Contains c.push_link-in-Ok.new.links.items) c.in-Ok.ensures) c.push_link-in-Ok.ensures
