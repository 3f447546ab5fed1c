-- What is kept at the start, behind each event, and at the end of a tree's stream.
use Rattle.std.proofs.Common.{◌≡◌, ℕ, ◌<◌, true, false, List, [], ◌∷◌, ◌++◌, map, refl, sym, ap, ◌∙◌, subst}
use Rattle.std.specs.Prelude.{Some, None, Result, Ok, Err}
use Rattle.sm_tree.specs.Node.{Node, null}
use Rattle.sm_tree.specs.Events.{NodeEvent, null_event, events}
use Rattle.sm_tree.specs.Streams.{BeginsStream, Streams, unnumbered_event}
use Rattle.sm_tree.specs.Building.{Building, nothing, whole, within, so_far, inner_kind, around_kind}
use Rattle.sm_tree.specs.steps.BuilderSteps.{Awaits}
use Rattle.sm_tree.proofs.Streams.{unnumbered_append, stream_events}
use Rattle.sm_tree.proofs.Awaited.{placed_awaited, whole_closed}
use Rattle.sm_tree.proofs.Events.{events_injective}
use Rattle.sm_shapes.specs.TableData.{TableData, shape_count}
use Rattle.sm_shapes.specs.Values.{Val}
use Rattle.sm_shapes.specs.Places.{Place, root_place}
use Rattle.sm_codec.specs.Answers.{Decodes}
use Rattle.sm_codec.specs.Codec.{Codec, InTable}
use Rattle.sm_codec.specs.CodecLaws.{IsCodec}
use Rattle.sm_codec.specs.FaultLists.{FaultAt, Reading, faults_in}
use Rattle.sm_codec.specs.Readings.{reading}
use Rattle.sm_codec.specs.Decoding.{Outcome, good, bad, Decoding}
use Rattle.sm_codec.specs.DecodingView.{StartsEmpty, IsWhole}
use Rattle.sm_codec.specs.Kept.{IsOutcome, Holds, Kept}
use Rattle.sm_codec.proofs.ReadValues.{one_value}

-- the decoder that has taken nothing
abbrev pub started : ℕ → Decoding
started s = record { shape = s; frames = []; result = None }

pub kept_start : (c : Codec) (s : ℕ) → InTable c.table (root_place s) → Kept c [] (started s)
kept_start c s inside = record {
  begins = (null, (null_event ∷ []), refl);
  in_table = inside;
  building = nothing [];
  taken = refl;
  holds = (refl, ([], refl, tt));
}

-- an event that may come next is one that the building awaits
pub kept_awaits : (c : Codec) (es : List NodeEvent) (e : NodeEvent) (d : Decoding) (k : Kept c es d) → BeginsStream (es ++ e ∷ [])
    → Awaits k.building (unnumbered_event e)
kept_awaits c es e d k begins = placed_awaited k.building e (es, k.taken, begins)

-- behind it
pub kept_on : (c : Codec) (es : List NodeEvent) (e : NodeEvent) (d now : Decoding) (k : Kept c es d) (b : Building)
    → BeginsStream (es ++ e ∷ [])
    → so_far b ≡ so_far k.building ++ unnumbered_event e ∷ [] → now.shape ≡ d.shape → Holds c b now → Kept c (es ++ e ∷ []) now
kept_on c es e d now k b begins taken root holds = record {
  begins = begins;
  in_table = subst (λ s. InTable c.table (root_place s)) (sym root) k.in_table;
  building = b;
  taken = unnumbered_append es (e ∷ []) ∙ ap (λ fs. fs ++ unnumbered_event e ∷ []) k.taken ∙ sym taken;
  holds = holds;
}

-- the end: the outcome is what the tree comes to
whole_is : (c : Codec) (b : Building) (n : Node) (d : Decoding) → so_far b ≡ events n [] → Holds c b d
    → (d.frames ≡ []) × ((o : Outcome) × (d.result ≡ Some o) × IsOutcome (reading c n (root_place d.shape)) o)
whole_is c (nothing ts) n d h holds = let closed : true ≡ false = (whole_closed (nothing ts) n h).1 in absurd cc
whole_is c (whole m) n d h holds =
    let same : m ≡ n = (events_injective m n [] [] h).0 in
    subst (λ x. (d.frames ≡ []) × ((o : Outcome) × (d.result ≡ Some o) × IsOutcome (reading c x (root_place d.shape)) o)) same holds
whole_is c (within ts i outer) n d h holds =
    let closed : inner_kind i ∷ map around_kind outer ≡ [] = (whole_closed (within ts i outer) n h).0 in absurd cc

pub kept_end : (c : Codec) (es : List NodeEvent) (n : Node) (d : Decoding) → Kept c es d → Streams n es []
    → (d.frames ≡ []) × ((o : Outcome) × (d.result ≡ Some o) × IsOutcome (reading c n (root_place d.shape)) o)
kept_end c es n d k streams = whole_is c k.building n d (sym k.taken ∙ stream_events n es [] streams) k.holds

-- and that is what decoding answers
abbrev pub outcome_of : Outcome → Result Val FaultAt
outcome_of (good v) = Ok v
outcome_of (bad f) = Err f

good_decodes : (c : Codec) (p : Place) (n : Node) (v : Val) (r : Reading) → IsCodec c → InTable c.table p → reading c n p ≡ r
    → IsOutcome r (good v) → Decodes c p n (Ok v)
good_decodes c p n v (Ok w) laws inside e h =
    let is_good : good v ≡ good w = h in
    let same : w ≡ v = cc in
    let is : reading c n p ≡ Ok v = e ∙ ap (λ x. Ok x) same in
    ((one_value c p v n laws inside).1 is, ap faults_in is)
good_decodes c p n v (Err fs) laws inside e h = let other : good v ≡ bad h.0 = h.3 in absurd cc

bad_decodes : (c : Codec) (p : Place) (n : Node) (f : FaultAt) (r : Reading) → reading c n p ≡ r → IsOutcome r (bad f)
    → Decodes c p n (Err f)
bad_decodes c p n f (Ok w) e h = let never : bad f ≡ good w = h in absurd cc
bad_decodes c p n f (Err fs) e h =
    let other : bad f ≡ bad h.0 = h.3 in
    let same : f ≡ h.0 = cc in
    (h.1, ap faults_in e ∙ h.2 ∙ ap (λ x. x ∷ h.1) (sym same))

pub decodes : (c : Codec) (p : Place) (n : Node) (o : Outcome) → IsCodec c → InTable c.table p → IsOutcome (reading c n p) o
    → Decodes c p n (outcome_of o)
decodes c p n (good v) laws inside h = good_decodes c p n v (reading c n p) laws inside refl h
decodes c p n (bad f) laws inside h = bad_decodes c p n f (reading c n p) refl h

-- a decoder of the code that has taken nothing
pub starts_empty : (t : TableData) (d : Decoding) → d.shape < shape_count t → d.frames ≡ [] → d.result ≡ None → StartsEmpty t d
starts_empty t d inside none unended c e =
    subst (Kept c []) (λ i. record { shape = d.shape; frames = sym none i; result = sym unended i })
    (kept_start c d.shape (subst (λ u. InTable u (root_place d.shape)) (sym e) inside))

-- and one that has taken a tree's stream
pub whole_ends : (d : Decoding) → IsWhole d → d.result ≡ None → ⊥
whole_ends d (c, es, n, kept, streams) none =
    let end = kept_end c es n d kept streams in
    let some : Some end.1.0 ≡ None = sym end.1.1 ∙ none in
    absurd cc

pub finish_is : (d : Decoding) (o : Outcome) → d.result ≡ Some o → (c : Codec) (es : List NodeEvent) (n : Node) → IsCodec c → Kept c es d
    → Streams n es [] → Decodes c (root_place d.shape) n (outcome_of o)
finish_is d o is c es n laws kept streams =
    let end = kept_end c es n d kept streams in
    let both : Some o ≡ Some end.1.0 = sym is ∙ end.1.1 in
    let same : o ≡ end.1.0 = cc in
    decodes c (root_place d.shape) n o laws kept.in_table (subst (λ x. IsOutcome (reading c n (root_place d.shape)) x) (sym same) end.1.2)
