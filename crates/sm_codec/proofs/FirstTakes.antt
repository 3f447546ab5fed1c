-- What the innermost frame is told is what all of them are told; and what a list or an object comes to that has ended is taken below it.
use Rattle.std.proofs.Common.{◌≡◌, ℕ, Bool, List, ◌∷◌, sym, subst}
use Rattle.std.specs.Prelude.{None, Result, Ok, Err, IfOk}
use Rattle.sm_bytes.specs.declared.no_memory.NoMemory.{NoMemory}
use Rattle.sm_shapes.specs.Fitting.{Test}
use Rattle.sm_shapes.specs.TableData.{TableData}
use Rattle.sm_codec.specs.Convention.{Convention}
use Rattle.sm_codec.specs.Decoding as decoding
use Rattle.sm_codec.specs.FrameView.{outcome_of}
use Rattle.sm_codec.specs.StackView.{ClosedBy}
use Rattle.sm_codec.specs.steps.Arrivals.{Arrival, comes}
use Rattle.sm_codec.specs.steps.DecoderSteps.{FrameTakes, TakenBy}
use Rattle.sm_codec.specs.steps.OpeningSteps.{FrameNames, FirstNames}
use Rattle.sm_codec.specs.declared.frames.Outcome.{Outcome}

-- a tree, where these are the frames before and after
pub taken_first : (t : TableData) (test : Test) (x : Arrival) (fs rest : List decoding.Frame) (f g : decoding.Frame) (e : decoding.Decoding)
    → fs ≡ f ∷ rest → e.result ≡ None → e.frames ≡ g ∷ rest → FrameTakes t test x f g → TakenBy t test x fs e
taken_first t test x fs rest f g e at none now takes = subst (λ us. TakenBy t test x us e) (sym at) (none, (g, now, takes))

-- a name
pub named_first : (t : TableData) (l : Convention) (name : List ℕ) (known : Bool) (fs gs rest : List decoding.Frame) (f g : decoding.Frame)
    → fs ≡ f ∷ rest → gs ≡ g ∷ rest → FrameNames t l name known f g → FirstNames t l name known fs gs
named_first t l name known fs gs rest f g at now named = subst (λ us. FirstNames t l name known us gs) (sym at) (g, now, named)

-- an end
pub closed_takes : (t : TableData) (test : Test) (r : Result Outcome NoMemory) (o : decoding.Outcome) (fs : List decoding.Frame)
    (e : decoding.Decoding) → IfOk r (λ x. outcome_of x ≡ o) → ClosedBy t test r fs e → TakenBy t test (comes o) fs e
closed_takes t test (Ok x) o fs e is h = subst (λ y. TakenBy t test (comes y) fs e) is h
closed_takes t test (Err refusal) o fs e is h = absurd h
