use Rattle.std.proofs.Common.{Result, Ok, Err, sym, subst}
use Rattle.sm_model.specs.Graphs.{GraphMaps}
use Rattle.sm_model.specs.GraphView.{maps_of}
use Rattle.sm_load.specs.Loading.{AcceptsGraph}
use Rattle.sm_load.specs.declared.model.Model.{Model}
use Rattle.sm_transform.specs.Changed.{Change, Changed}
use Rattle.sm_transformed.specs.Transformed.{IsRefusedBy, Judges, TransformsTo, change_of}
use Rattle.sm_transformed.specs.declared.change.TransformRefusal.{TransformRefusal}
use Rattle.sm_transformed.specs.declared.change.TransformRefusal.TheVariants.{Namespace, Rejected, NoMemory}
use Rattle.sm_transformed.proofs.transforming.transform.Goals as goal

-- what the rules say of a changed graph is what the change makes
module _ (g : GraphMaps) (change : Change) (h : GraphMaps) (goes : IsRefusedBy g change → ⊥) (made : Changed g change h) where
  judged_change : (answer : Result Model TransformRefusal) → Judges h answer → TransformsTo g change answer
  judged_change (Ok m) judged =
      (goes, subst (Changed g change) (sym judged.0) made, subst (λ x. AcceptsGraph x m.events) (sym judged.0) judged.1)
  judged_change (Err Namespace) judged = absurd judged
  judged_change (Err (Rejected es)) judged = (goes, (h, made, judged))
  judged_change (Err NoMemory) judged = tt

pub returns-in-Ok : goal.returns-in-Ok
returns-in-Ok c =
    judged_change (maps_of c.args.graph.now) (change_of c.args.change.now) (maps_of c.in-Ok.made) c.in-Ok.ensures.0 c.in-Ok.ensures.1
    c.judged.result c.judged.ensures
