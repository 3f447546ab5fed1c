-- The step by the member of one number, from what look-ups tell.
use Rattle.std.proofs.Common.{◌≡◌, ℕ, zero, suc, ◌<◌, Bool, false, List, [], ◌∷◌, map, length, get_or, Option, Some, None, refl, sym, ap}
use Rattle.std.proofs.Common.{◌∙◌, subst, arith}
use Rattle.std.specs.Prelude.{slice_get}
use Rattle.std.specs.FinMap as fin
use Rattle.std.proofs.lemmas.Option.{none-some, same_Some}
use Rattle.sm_model.specs.Graphs.{Entry, GraphMaps, MemberEntry, member_entry, member_id, shape_entry}
use Rattle.sm_model.specs.GraphView.{IsShapeNumber}
use Rattle.sm_model.specs.Relations.{HasEntry}
use Rattle.sm_model.specs.declared.graph.Graph.{Graph}
use Rattle.sm_compile.specs.Compiled.{members_in, members_under}
use Rattle.sm_compile.specs.Served.{IsStep, WayStep}
use Rattle.sm_compile.specs.declared.way.NextStep.{NextStep}
use Rattle.sm_compile.specs.steps.Looked.{target_in, target_under}
use Rattle.sm_compile.specs.steps.Walking.{FindsAt, FindsTo}

module _ (g : GraphMaps) (id : List ℕ) where
  pub step_made : (step : WayStep) → slice_get (members_under g id) step.at ≡ Some (member_id id step.name)
      → target_under g (member_id id step.name) ≡ Some step.to → IsStep g id step
  step_made step at target = by (fin.get g.shapes id) refl at
    where
      with_member : (o : Option Entry) → fin.get g.shapes (member_id id step.name) ≡ o → target_in o ≡ Some step.to
          → (m : MemberEntry) × HasEntry g (member_id id step.name) (member_entry m) × (m.target ≡ step.to)
      with_member None has is = absurd (none-some step.to is)
      with_member (Some (shape_entry s)) has is = absurd (none-some step.to is)
      with_member (Some (member_entry m)) has is = (m, has, same_Some m.target step.to is)

      by : (o : Option Entry) → fin.get g.shapes id ≡ o → slice_get (members_in o) step.at ≡ Some (member_id id step.name) → IsStep g id
          step
      by None has is = absurd (none-some (member_id id step.name) is)
      by (Some (member_entry n)) has is = absurd (none-some (member_id id step.name) is)
      by (Some (shape_entry s)) has is =
          let x = with_member (fin.get g.shapes (member_id id step.name)) refl target in
          record { s = s; there = has; at = is; m = x.0; member_there = x.1; is = x.2 }

  pub step_at : (step : WayStep) → IsStep g id step → slice_get (members_under g id) step.at ≡ Some (member_id id step.name)
  step_at step h = ap (λ (o : Option Entry). slice_get (members_in o) step.at) h.there ∙ h.at

  pub step_target : (step : WayStep) → IsStep g id step → target_under g (member_id id step.name) ≡ Some step.to
  step_target step h = ap target_in h.member_there ∙ ap Some h.is

  -- the member of a step, where one stands at its number
  pub step_member : (step : WayStep) (at : ℕ) (member : List ℕ) → IsStep g id step → step.at ≡ at
      → slice_get (members_under g id) at ≡ Some member → member_id id step.name ≡ member
  step_member step at member h same stands =
      same_Some (member_id id step.name) member
      (sym (step_at step h) ∙ ap (slice_get (members_under g id)) same ∙ stands)

-- one that leads to a shape that wasn't entered
pub fresh_found : (g : Graph) (known marks : List Bool) (shape at to : ℕ) (found : Option NextStep) → IsShapeNumber g to
    → get_or marks to false ≡ false → FindsTo g shape at to found → FindsAt g known marks shape at found
fresh_found g known marks shape at to None lt fresh h = λ step is same. absurd (h step is same)
fresh_found g known marks shape at to (Some next) lt fresh h = record {
  is_at = h.0;
  target = subst (IsShapeNumber g) (sym h.1) lt;
  step = h.2;
  fresh = ap (λ k. get_or marks k false) h.1 ∙ fresh;
}

-- what a function gives for what stands at a place
pub mapped_at : (f : ℕ → List ℕ) (ns : List ℕ) (i : ℕ) → i < length ns → slice_get (map f ns) i ≡ Some (f (get_or ns i 0))
mapped_at f [] i lt = absurd (omega (arith, lt))
mapped_at f (n ∷ ns) zero lt = refl
mapped_at f (n ∷ ns) (suc i) lt = mapped_at f ns i (omega (arith, lt))
