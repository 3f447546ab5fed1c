-- What an event of the code asks of a decoder, and that behind it the decoder stands for the events before it and for the event.
use Rattle.std.proofs.Common.{◌≡◌, [], ◌∷◌, sym, subst}
use Rattle.std.specs.Prelude.{Result, Ok, Err, OnOk}
use Rattle.sm_tree.specs.Node.{Node}
use Rattle.sm_tree.specs.Events.{events}
use Rattle.sm_tree.specs.EventView.{event_of}
use Rattle.sm_tree.specs.Streams.{MayTake, TakesOn, unnumbered_event}
use Rattle.sm_bytes.specs.declared.no_memory.NoMemory.{NoMemory}
use Rattle.sm_tree.specs.declared.event.Event.{Event}
use Rattle.sm_shapes.specs.InOrder.{Shaped}
use Rattle.sm_codec.specs.Convention.{IsConvention}
use Rattle.sm_codec.specs.Codec.{Codec}
use Rattle.sm_codec.specs.Decoding.{Decoding}
use Rattle.sm_codec.specs.steps.DecoderSteps.{due_told}
use Rattle.sm_codec.specs.steps.EventsHanded.{IsPlain}
use Rattle.sm_codec.specs.steps.OpeningSteps.{LeafBy}
use Rattle.sm_codec.proofs.KeptMoves.{ComesAsTree, Stands, TreeReady, tree_ready, leaf_kept}

pub event_ready : (c : Codec) (d : Decoding) (e v : Event) → ComesAsTree (event_of v) → Shaped c.table → e ≡ v
    → MayTake (Stands c d) (event_of e) → TreeReady c d
event_ready c d e v comes shaped is may = tree_ready c d (event_of v) shaped comes (subst (λ x. MayTake (Stands c d) (event_of x)) is may)

-- what is said of a decoder that took the event
abbrev pub Took : Codec → Decoding → Decoding → Event → Result (Unit {0}) NoMemory → Type 0
Took c d now e r = OnOk r (TakesOn (Stands c d) (event_of e) (Stands c now))

pub took : (c : Codec) (d now : Decoding) (e v : Event) (r : Result (Unit {0}) NoMemory) (A B : Type 0) → e ≡ v
    → (A → B → TakesOn (Stands c d) (event_of v) (Stands c now)) → OnOk r A → B → Took c d now e r
took c d now e v (Ok x) A B is f a b = subst (λ y. TakesOn (Stands c d) (event_of y) (Stands c now)) (sym is) (f a b)
took c d now e v (Err x) A B is f a b = tt

pub leaf_took : (c : Codec) (d now : Decoding) (e v : Event) (m n : Node) (r : Result (Unit {0}) NoMemory) → IsConvention c.convention
    → Shaped c.table → e ≡ v → m ≡ n → IsPlain n → events n [] ≡ unnumbered_event (event_of v) ∷ [] → ComesAsTree (event_of v)
    → OnOk r (LeafBy c.table c.convention c.test (due_told c.table d.shape d.frames) m d.frames now) → now.shape ≡ d.shape
    → Took c d now e r
leaf_took c d now e v m n r laws shaped is node plain one comes read root =
    let Read : Node → Type 0 = λ x. LeafBy c.table c.convention c.test (due_told c.table d.shape d.frames) x d.frames now in
    took c d now e v r (Read m) (now.shape ≡ d.shape) is
    (λ by same. leaf_kept c d (event_of v) shaped now same n laws plain one comes (subst Read node by)) read root
