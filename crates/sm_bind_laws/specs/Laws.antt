-- The laws: what is written for a value in the parts of a message is found there and read again as that value.
use Rattle.std.specs.Prelude.{◌≡◌, ℕ, List, [], Ok}
use Rattle.sm_shapes.specs.Fitting.{Fits, Test}
use Rattle.sm_shapes.specs.Places.{root_place}
use Rattle.sm_shapes.specs.Values.{Val}
use Rattle.sm_uri.specs.UriPattern.{IsUri, UriSaid, label_names}
use Rattle.sm_bind_read.specs.messages.MessageForm.{Content}
use Rattle.sm_routes.specs.WrittenTargets.{pairs_left, target_labels}
use Rattle.sm_bind_read.specs.bind.PartsData.{PartsData}
use Rattle.sm_bind_read.specs.bind.Roles.{Bound}
use Rattle.sm_bind_read.specs.PartFaults.{parts_reading}
use Rattle.sm_bind_write.specs.CarriedParts.{uncarried_parts}
use Rattle.sm_bind_write.specs.WrittenParts.{request_target, written_content, written_parts}
use Rattle.sm_bind_laws.specs.BoundRight.{IsBoundRight}
use Rattle.sm_bind_laws.specs.FoundParts.{AreFound, IsReadAs}
use Rattle.sm_bind_laws.specs.WrittenLabels.{CanBeWritten, texts_for}

-- of a structure that bindings serve: a value that fits and is carried
abbrev pub WrittenPartsRead : Type 0
WrittenPartsRead =
    (b : Bound) (test : Test) (labels : List (List ℕ)) (usual : ℕ) (v : Val) (found : PartsData) (content : Content)
    → IsBoundRight b test labels → Fits b.table test (root_place b.shape) v → uncarried_parts b v ≡ []
    → AreFound labels (written_parts b usual v) found → IsReadAs (written_content b v) content
    → parts_reading b test found content ≡ Ok v

-- a target has the labels of its pattern with their texts, and its literals leave the pairs
abbrev pub WrittenTargetRead : Type 0
WrittenTargetRead =
    (u : UriSaid) (parts : PartsData) → IsUri u → CanBeWritten u parts.labels parts.query
    → (target_labels u (request_target u parts) ≡ texts_for (label_names u.segments) parts.labels)
    × (pairs_left u (request_target u parts) ≡ parts.query)
