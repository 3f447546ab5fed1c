-- What a command over a shape comes to: an answer that stands before the shape, or what it says of the shape's table.
use Rattle.std.proofs.Common.{◌≡◌, ℕ, inl, List, [], ◌∷◌, Some, None, Result, Err, sym, ap, ◌∙◌, refl}
use Rattle.std.specs.Global.{Vec}
use Rattle.sm_io.specs.Causes.{Rose}
use Rattle.sm_io.specs.Files.{Folder}
use Rattle.sm_io.specs.Seen.{FilesSeen, Stream}
use Rattle.sm_shapes.specs.Fitting.{Test}
use Rattle.sm_compile.specs.Answers.{StoreSeen}
use Rattle.sm_asked.specs.Answer.{Answer, Came, came}
use Rattle.sm_asked.specs.Answer.InputUse.{untouched}
use Rattle.sm_asked.specs.AskedLaws.{AreThere, ComesToOne, ComesToSome, ReachesInput, TellsAll, WritesAsNamed}
use Rattle.sm_asked.specs.CommandAsked.{Answers, CommandAsked, ReadFails, StopsShort, told_by}
use Rattle.sm_asked.specs.Comes.{CommandComesTo, StepComesTo}
use Rattle.sm_asked.specs.Outside.{InputsSeen, inputs_seen}
use Rattle.sm_asked.specs.Stages.{Told}
use Rattle.sm_asked.specs.declared.stop.CommandStop.{CommandStop}
use Rattle.sm_asked.proofs.Answered.{answer_before, none_is_some}
use Rattle.sm_asked.proofs.Stops.{comes_map, stops_map}
use Rattle.sm_asked_shape.specs.LoadsShape.{LoadsShape, StandsBefore}
use Rattle.sm_asked_shape.specs.OverShape.{over_shape}
use Rattle.sm_asked_shape.specs.ShapeAnswers.{ShapeAnswers}

-- whatever the command asks, if it says so of all that stands before a shape
pub shape_stops : (files files1 : FilesSeen) (input : Stream) (test : Test) (store store1 : StoreSeen) (name shape : List ℕ)
    (asked : CommandAsked) (stop : CommandStop)
    → files1.held ≡ files.held → ((t : Told) (a : Answer) → ShapeAnswers t name shape a → asked.says t (came untouched a))
    → LoadsShape files files1 test store store1 name shape (Err stop)
    → CommandComesTo (inputs_seen files input test store) (inputs_seen files1 input test store1) asked (Err stop)
shape_stops files files1 input test store store1 name shape asked stop held says h =
    let before : InputsSeen = inputs_seen files input test store in
    let after : InputsSeen = inputs_seen files1 input test store1 in
    stops_map (StandsBefore files test store store1 name shape) (Answers before after asked)
    (Rose files.read_faults files1.read_faults × (store1.refusals ≡ store.refusals)) (ReadFails before after asked) (Unit {0})
    (StopsShort before after asked) stop
    (λ a is. record {
      taken = untouched;
      written = None;
      pattern = is.pattern;
      by = is.by;
      only = is.only;
      says = says (told_by before is.pattern) a (is.says input.bytes);
      left = refl;
    })
    (λ p. inl (record { rose = p.0; held = held; input = refl; refusals = p.1 })) (λ short. inl refl) h

-- one that reads no input, by what it comes to behind the shape
pub shape_comes : (files files1 : FilesSeen) (input : Stream) (test : Test) (store store1 : StoreSeen) (name : List ℕ)
    (Says : Told → Answer → Type 0) (result : Result (Vec ℕ) CommandStop) → store1.refusals ≡ store.refusals
    → StepComesTo (Says (told_by (inputs_seen files input test store) None)) ⊥ (Unit {0}) result
    → CommandComesTo (inputs_seen files input test store) (inputs_seen files1 input test store1) (over_shape name Says) result
shape_comes files files1 input test store store1 name Says result count h =
    let before : InputsSeen = inputs_seen files input test store in
    let after : InputsSeen = inputs_seen files1 input test store1 in
    let asked = over_shape name Says in
    comes_map (Says (told_by before None)) (Answers before after asked) ⊥ (ReadFails before after asked) (Unit {0})
    (StopsShort before after asked) result (λ a says. answer_before before after asked a (a, says, refl) refl count)
    (λ never. absurd never) (λ short. inl refl) h

-- its laws, from those of its answers
pub one_over_shape : (name : List ℕ) (Says : Told → Answer → Type 0)
    → ((t : Told) (folder : Folder) (input : List ℕ) (a b : Answer) → TellsAll t folder input → Says t a → Says t b → a ≡ b)
    → ComesToOne (over_shape name Says)
one_over_shape name Says same t folder input c d all (a, h, e) (b, i, f) =
    e ∙ ap (came untouched) (same t folder input a b all h i) ∙ sym f

pub some_over_shape : (name : List ℕ) (Says : Told → Answer → Type 0)
    → ((t : Told) (folder : Folder) → t.files ≡ Some folder → AreThere folder (name ∷ []) → ((a : Answer) → Says t a → ⊥) → ⊥)
    → ComesToSome (over_shape name Says)
some_over_shape name Says some t folder input all there none =
    some t folder all.files there (λ a h. none (came untouched a) (a, h, refl))

pub reach_over_shape : (name : List ℕ) (Says : Told → Answer → Type 0) → ReachesInput (over_shape name Says)
reach_over_shape name Says t = (λ c says. inl (ap (λ (x : Came). x.input) says.2), λ h. absurd h)

pub none_over_shape : (name : List ℕ) (Says : Told → Answer → Type 0) → WritesAsNamed (over_shape name Says)
none_over_shape name Says t c file says is = none_is_some file (sym (ap (λ (x : Came). x.written) says.2) ∙ is)
