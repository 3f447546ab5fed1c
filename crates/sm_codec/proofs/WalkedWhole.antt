-- A decoder that walked a whole tree from its start stands for the tree's events.
use Rattle.std.proofs.Common.{◌≡◌, append-nil, ℕ, List, [], refl, sym, ap, ◌∙◌, subst}
use Rattle.std.specs.Prelude.{Result, Ok, Err}
use Rattle.sm_tree.specs.Node.{Node}
use Rattle.sm_tree.specs.Events.{NodeEvent, events}
use Rattle.sm_tree.specs.Streams.{Streams}
use Rattle.sm_tree.specs.Building.{whole}
use Rattle.sm_tree.proofs.Streams.{stream_events, events_stream}
use Rattle.sm_shapes.specs.Places.{root_place}
use Rattle.sm_shapes.specs.declared.values.Value.{Value}
use Rattle.sm_codec.specs.Convention.{IsConvention}
use Rattle.sm_codec.specs.Codec.{Codec, InTable}
use Rattle.sm_codec.specs.CodecLaws.{IsCodec}
use Rattle.sm_codec.specs.Decoding.{Decoding}
use Rattle.sm_codec.specs.DecodingView.{IsWhole, Finishes, DecodesTree}
use Rattle.sm_codec.specs.Kept.{IsOutcome, Kept}
use Rattle.sm_codec.specs.Readings.{reading}
use Rattle.sm_codec.specs.Walk.{due_at}
use Rattle.sm_codec.specs.declared.decoder.Refusal.{Refusal}
use Rattle.sm_codec.specs.declared.decoder.Refusal.TheVariants.{Fault as refused, NoMemory}
use Rattle.sm_codec.specs.steps.DecoderSteps.{root_outcome}
use Rattle.sm_codec.specs.steps.WalkSteps.{WalkReady, TreeTaken}
use Rattle.sm_codec.proofs.KeptOn.{started}
use Rattle.sm_codec.proofs.TreeComes.{root_is}

pub start_ready : (c : Codec) (s : ℕ) (d : Decoding) → d ≡ started s → InTable c.table (root_place s) → WalkReady c.table d
start_ready c s d is inside = subst (WalkReady c.table) (sym is) (inside, tt, refl)

module _ (c : Codec) (n : Node) (s : ℕ) (d e : Decoding) (laws : IsConvention c.convention) (is : d ≡ started s)
    (inside : InTable c.table (root_place s)) (root : e.shape ≡ d.shape) (taken : TreeTaken c n d e) where
  same_root : e.shape ≡ s
  same_root = root ∙ ap (λ x. x.shape) is

  walked : TreeTaken c n (started s) e
  walked = subst (λ x. TreeTaken c n x e) is taken

  walked_kept : Kept c (events n []) e
  walked_kept = record {
    begins = (n, [], subst (λ es. Streams n es []) (sym (append-nil (events n []))) (events_stream n []));
    in_table = subst (λ x. InTable c.table (root_place x)) (sym same_root) inside;
    building = whole n;
    taken = stream_events n (events n []) [] (events_stream n []);
    holds = (
      walked.2.0,
      (
        root_outcome walked.0,
        walked.2.1,
        subst (λ x. IsOutcome (reading c n (root_place x)) (root_outcome walked.0)) (sym same_root)
            (root_is c (due_at (root_place s)) n walked.0 laws walked.1),
      ),
    );
  }

  pub walked_whole : IsWhole e
  walked_whole = (c, events n [], n, walked_kept, events_stream n [])

  pub walked_finishes : (r : Result Value Refusal) → IsCodec c
      → ((k : Codec) (es : List NodeEvent) (m : Node) → IsCodec k → Kept k es e → Streams m es [] → Finishes k e.shape m r)
      → Finishes c s n r
  walked_finishes r codec h =
      subst (λ x. Finishes c x n r) same_root (h c (events n []) n codec walked_kept (events_stream n []))

-- what it answers
pub finished_decodes : (c : Codec) (s : ℕ) (n : Node) (r : Result Value Refusal) → Finishes c s n r → DecodesTree c (root_place s) n r
finished_decodes c s n (Ok v) h = h
finished_decodes c s n (Err (refused f)) h = h
finished_decodes c s n (Err NoMemory) h = absurd h
