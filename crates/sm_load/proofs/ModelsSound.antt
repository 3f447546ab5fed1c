-- Of each shape and of each service of a model that is accepted a table can be made.
use Rattle.std.proofs.Common.{ℕ, List}
use Rattle.sm_model.specs.FormedGraph.{IsFormedGraph}
use Rattle.sm_model.specs.Graphs.{GraphMaps}
use Rattle.sm_rules.specs.Ready.{Ready}
use Rattle.sm_compile.specs.Sound.{Sound}
use Rattle.sm_load.specs.Loading.{AreAccepted}
use Rattle.sm_load.specs.ModelFiles.{FileGiven}
use Rattle.sm_merge.proofs.FormedGraphs.{merged_formed}
use Rattle.sm_load.proofs.NoErrors.{ready_without_errors, sound_without_errors}

module _ (files : List FileGiven) (g : GraphMaps) (accepted : AreAccepted files g) where
  -- it has the form of one
  pub model_formed : IsFormedGraph g
  model_formed = merged_formed accepted.said accepted.formed g accepted.merged.is_graph accepted.merged.within

  pub model_sound : (id : List ℕ) → Sound g id
  model_sound id = sound_without_errors g model_formed accepted.no_error id

  pub model_ready : (service : List ℕ) → Ready g service
  model_ready service = ready_without_errors g model_formed accepted.no_error service
