use Rattle.std.proofs.Common.{ap, ◌∙◌}
use Rattle.std.proofs.lemmas.Result.{on_ok_weaker}
use Rattle.sm_tree.specs.Building.{so_far, awaits_content}
use Rattle.sm_tree.specs.BuilderView.{building_of}
use Rattle.sm_tree.specs.declared.build.OpenKind.TheVariants.{Object as an_object}
use Rattle.sm_tree.proofs.Building.{end_object_taken, end_content}
use Rattle.sm_tree.proofs.build.TreeBuilder.end_object.Goals as goal

pub returns-clause-taken : goal.returns-clause-taken
returns-clause-taken c =
    on_ok_weaker c.end.result
    (λ ended. ap so_far ended ∙ end_object_taken (building_of c.args.self.now) c.requires.innermost c.requires.unnamed)
    c.end.ensures

pub returns-clause-content : goal.returns-clause-content
returns-clause-content c =
    on_ok_weaker c.end.result
    (λ ended. ap awaits_content ended ∙ end_content (building_of c.args.self.now) an_object c.requires.innermost)
    c.end.ensures
