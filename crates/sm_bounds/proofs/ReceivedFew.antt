-- A body that has received some bytes holds few; and one that was begun for a message has received those that have come to it.
use Rattle.std.proofs.Common.{arith, ◌≡◌, ℕ, ◌≤◌, Bool, List, length, ap}
use Rattle.sm_tree.specs.OpenLevels.{KindsAreLevels, OpensNoMore}
use Rattle.sm_tree.specs.Sources.{ReadCompletes, SourceOf}
use Rattle.sm_tree.specs.TimingLaws.{BeginsTrees, HasFewEvents, TimesTexts}
use Rattle.sm_shapes.specs.Fitting.{Test}
use Rattle.sm_codec.specs.Bound.{KeptIsBounded}
use Rattle.sm_codec.specs.Codec.{Codec}
use Rattle.sm_codec.specs.CodecLaws.{IsCodec}
use Rattle.sm_codec.specs.Convention.{Convention}
use Rattle.sm_codec.specs.DecodingView.{decoding_of}
use Rattle.sm_bodies.proofs.BodiesFed.{held_few, held_shallow}
use Rattle.sm_http.specs.declared.message.Head.{Head}
use Rattle.sm_messages.specs.Begun.{BegunFor, BodyState, failed, fed, held}
use Rattle.sm_messages.specs.Goals.{Asked, goal_of, goal_shape}
use Rattle.sm_messages.specs.MessageForm.{MessageForm}
use Rattle.sm_messages.specs.TreeBodies.{tree_codec}
use Rattle.sm_messages.specs.service.ServiceData.{ServiceData}
use Rattle.sm_bounds.specs.FewHeld.{HasReceived, HoldsFew}

none_few : (n : ℕ) → 0 ≤ n
none_few n = omega arith

pub received_few : {R : Type 0} (S : SourceOf R) (c : Codec) (come : List ℕ) (b : BodyState R) → TimesTexts S.syntax.text S.timing
    → HasFewEvents S.timing → BeginsTrees S.timing → ReadCompletes S → KeptIsBounded → OpensNoMore → KindsAreLevels → IsCodec c
    → HasReceived S c come b → HoldsFew c.table come b
received_few S c come failed times few trees complete bounds opens levels is received =
    record { bytes = none_few _; nodes = none_few _; frames = none_few _ }
received_few S c come (held o m) times few trees complete bounds opens levels is received =
    record { bytes = received; nodes = none_few _; frames = none_few _ }
received_few S c come (fed o r d) times few trees complete bounds opens levels is (memory, shape, fed_so) = record {
  bytes = none_few _;
  nodes = held_few S c shape r d come times few trees complete is (bounds (decoding_of d)) memory fed_so;
  frames = held_shallow S c shape r d come times few trees complete opens levels is (bounds (decoding_of d)) memory fed_so;
}

-- a message that keeps all bytes keeps no more than have come
pub as_long : (kept come : List ℕ) → kept ≡ come → length kept ≤ length come
as_long kept come same = let lengths = ap length same in omega (arith, lengths)

pub begun_received : {R : Type 0} (S : SourceOf R) (l : Convention) (f : MessageForm) (s : ServiceData) (test : Test) (asked : Asked)
    (head : Head) (empty : Bool) (come : List ℕ) (b : BodyState R) → BegunFor S l f s test asked head empty come b
    → HasReceived S (tree_codec l s test) come b
begun_received S l f s test asked head empty come failed begun = tt
begun_received S l f s test asked head empty come (held o m) begun = as_long m.body come begun.body
begun_received S l f s test asked head empty come (fed o r d) begun = (begun.memory, goal_shape s (goal_of o begun.role), begun.come)
