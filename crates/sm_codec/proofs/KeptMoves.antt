-- What an event asks of a decoder that stands for the events before it, and that behind it the decoder stands for them and the event.
use Rattle.std.proofs.Common.{◌≡◌, append_assoc, ℕ, true, false, List, [], ◌∷◌, ◌++◌, refl, sym, ap, ◌∙◌, subst}
use Rattle.std.specs.Prelude.{Option, None}
use Rattle.sm_tree.specs.Node.{Node}
use Rattle.sm_tree.specs.Events.{NodeEvent, tag_event, start_list, end_list, start_object, key_event, end_object, events}
use Rattle.sm_tree.specs.Streams.{BeginsStream, MayTake, TakesOn, unnumbered_event}
use Rattle.sm_tree.specs.Building.{Building, nothing, whole, within, Inner, in_list, in_object, in_pair, Around, tag_events, inner_events}
use Rattle.sm_tree.specs.Building.{around_events, outer_events, so_far, kinds, inner_awaits, awaits_value, IsIn}
use Rattle.sm_tree.specs.steps.BuilderSteps.{after_value, after_tag, after_start, after_end, put_around, Awaits}
use Rattle.sm_tree.specs.declared.build.OpenKind.TheVariants.{List as a_list, Object as an_object}
use Rattle.sm_tree.proofs.Building.{MayEnd, end_of, value_taken, tag_taken, end_taken}
use Rattle.sm_shapes.specs.InOrder.{Shaped}
use Rattle.sm_shapes.specs.Places.{root_place}
use Rattle.sm_codec.specs.Convention.{IsConvention}
use Rattle.sm_codec.specs.Codec.{Codec, InTable}
use Rattle.sm_codec.specs.Decoding.{Decoding}
use Rattle.sm_codec.specs.Kept.{Holds, Kept}
use Rattle.sm_codec.specs.steps.DecoderSteps.{Told, due_told, FirstCanEnd, EndedBy}
use Rattle.sm_codec.specs.steps.EventsHanded.{IsPlain}
use Rattle.sm_codec.specs.steps.OpeningSteps.{ToldIn, CanRead, LeafBy, TagBy, list_start, object_start, StartBy, FirstCanName, NameBy}
use Rattle.sm_codec.proofs.KeptOn.{kept_awaits, kept_on}
use Rattle.sm_codec.proofs.Moves.{no_result, told_in, can_read, leaf_holds, tag_moves, list_moves, object_moves}
use Rattle.sm_codec.proofs.NameMoves.{name_taken, key_so_far}
use Rattle.sm_codec.proofs.TreeEnds.{tree_ends}

-- an event that may come only where a tree may
abbrev pub ComesAsTree : NodeEvent → Type 0
ComesAsTree ev = (b : Building) → Awaits b (unnumbered_event ev) → awaits_value b ≡ true

abbrev pub Stands : Codec → Decoding → List NodeEvent → Type 0
Stands c d es = Kept c es d

-- where a tree may come
abbrev pub TreeReady : Codec → Decoding → Type 0
TreeReady c d =
    ToldIn c.table (due_told c.table d.shape d.frames) × CanRead c.table (due_told c.table d.shape d.frames) d.frames × (d.result ≡ None)

module _ (c : Codec) (d : Decoding) (ev : NodeEvent) (shaped : Shaped c.table) where
  abbrev told : Told
  told = due_told c.table d.shape d.frames

  pub tree_ready : ComesAsTree ev → MayTake (Stands c d) ev → TreeReady c d
  tree_ready comes (es, k, begins) =
      let awaits = comes k.building (kept_awaits c es ev d k begins) in (
        told_in c d k.building shaped k.in_table awaits k.holds,
        can_read c d k.building shaped k.in_table awaits k.holds,
        no_result c d k.building shaped k.in_table awaits k.holds,
      )

  module _ (e : Decoding) (root : e.shape ≡ d.shape) where
    pub leaf_kept : (n : Node) → IsConvention c.convention → IsPlain n → events n [] ≡ unnumbered_event ev ∷ [] → ComesAsTree ev
        → LeafBy c.table c.convention c.test told n d.frames e → TakesOn (Stands c d) ev (Stands c e)
    leaf_kept n laws plain is comes by es k begins =
        let awaits = comes k.building (kept_awaits c es ev d k begins) in
        kept_on c es ev d e k (after_value n k.building) begins
        (value_taken k.building n awaits ∙ ap (λ fs. so_far k.building ++ fs) is) root
        (leaf_holds c d k.building shaped k.in_table awaits k.holds e n laws plain root by)

-- the events of an opener
around_same : (i : Inner) → inner_awaits i ≡ true → around_events (put_around i) ≡ inner_events i
around_same (in_list ns ts) h = refl
around_same (in_object ms) h = absurd cc
around_same (in_pair ms name ts) h = refl

start_taken : (new : Inner) (b : Building) → awaits_value b ≡ true → so_far (after_start new b) ≡ so_far b ++ inner_events new
start_taken new (nothing ts) h = refl
start_taken new (whole n) h = absurd cc
start_taken new (within ts i outer) h =
    ap (λ es. tag_events ts ++ ((outer_events outer ++ es) ++ inner_events new)) (around_same i h)
    ∙ sym (append_assoc (tag_events ts) (outer_events outer ++ inner_events i) (inner_events new))

-- a tag, and openers
module _ (c : Codec) (d e : Decoding) (shaped : Shaped c.table) (root : e.shape ≡ d.shape) (same : e.result ≡ d.result) where
  pub tag_kept : (j : ℕ) → TagBy c.table c.convention (due_told c.table d.shape d.frames) j d.frames e.frames
      → TakesOn (Stands c d) (tag_event j) (Stands c e)
  tag_kept j by es k begins =
      let awaits : awaits_value k.building ≡ true = kept_awaits c es (tag_event j) d k begins in
      kept_on c es (tag_event j) d e k (after_tag j k.building) begins (tag_taken k.building j awaits) root
      (tag_moves c d k.building shaped k.in_table awaits k.holds e root same j by)

  pub list_kept : (count : Option ℕ) → StartBy list_start c.table c.convention (due_told c.table d.shape d.frames) d.frames e.frames
      → TakesOn (Stands c d) (start_list count) (Stands c e)
  list_kept count by es k begins =
      let awaits : awaits_value k.building ≡ true = kept_awaits c es (start_list count) d k begins in
      kept_on c es (start_list count) d e k (after_start (in_list [] []) k.building) begins
      (start_taken (in_list [] []) k.building awaits) root
      (list_moves c d k.building shaped k.in_table awaits k.holds e root same by)

  pub object_kept : (count : Option ℕ) → StartBy object_start c.table c.convention (due_told c.table d.shape d.frames) d.frames e.frames
      → TakesOn (Stands c d) (start_object count) (Stands c e)
  object_kept count by es k begins =
      let awaits : awaits_value k.building ≡ true = kept_awaits c es (start_object count) d k begins in
      kept_on c es (start_object count) d e k (after_start (in_object []) k.building) begins
      (start_taken (in_object []) k.building awaits) root
      (object_moves c d k.building shaped k.in_table awaits k.holds e root same by)

-- a name
abbrev AwaitsName : Building → Type 0
AwaitsName b = IsIn an_object (kinds b) × (awaits_value b ≡ false)

module _ (c : Codec) (d : Decoding) (name : List ℕ) (shaped : Shaped c.table) (inside : InTable c.table (root_place d.shape)) where
  name_can : (b : Building) → AwaitsName b → Holds c b d → FirstCanName c.table d.frames
  name_can (nothing ts) may h = absurd may.0
  name_can (whole n) may h = absurd may.0
  name_can (within ts (in_list ns us) outer) may h = let other : a_list ≡ an_object = may.0 in absurd cc
  name_can (within ts (in_object ms) outer) may h = (name_taken c d ts ms outer name shaped inside h).0
  name_can (within ts (in_pair ms key us) outer) may h = let owed : true ≡ false = may.1 in absurd cc

  name_on : (es : List NodeEvent) (e : Decoding) (b : Building) (k : Kept c es d) → k.building ≡ b → AwaitsName b → Holds c b d
      → BeginsStream (es ++ key_event name ∷ []) → e.shape ≡ d.shape → e.result ≡ d.result
      → NameBy c.table c.convention name d.frames e.frames → Kept c (es ++ key_event name ∷ []) e
  name_on es e (nothing ts) k is may h begins root same by = absurd may.0
  name_on es e (whole n) k is may h begins root same by = absurd may.0
  name_on es e (within ts (in_list ns us) outer) k is may h begins root same by = let other : a_list ≡ an_object = may.0 in absurd cc
  name_on es e (within ts (in_object ms) outer) k is may h begins root same by =
      kept_on c es (key_event name) d e k (within ts (in_pair ms name []) outer) begins
      (key_so_far name ts ms outer ∙ ap (λ b. so_far b ++ key_event name ∷ []) (sym is)) root
      ((name_taken c d ts ms outer name shaped inside h).1 e root same by)
  name_on es e (within ts (in_pair ms key us) outer) k is may h begins root same by = let owed : true ≡ false = may.1 in absurd cc

pub name_ready : (c : Codec) (d : Decoding) (name : List ℕ) → Shaped c.table → MayTake (Stands c d) (key_event name)
    → FirstCanName c.table d.frames
name_ready c d name shaped (es, k, begins) =
    name_can c d name shaped k.in_table k.building (kept_awaits c es (key_event name) d k begins) k.holds

pub name_kept : (c : Codec) (d e : Decoding) (name : List ℕ) → Shaped c.table → e.shape ≡ d.shape → e.result ≡ d.result
    → NameBy c.table c.convention name d.frames e.frames → TakesOn (Stands c d) (key_event name) (Stands c e)
name_kept c d e name shaped root same by es k begins =
    name_on c d name shaped k.in_table es e k.building k refl (kept_awaits c es (key_event name) d k begins) k.holds begins root same by

-- an end
abbrev EndAwaited : NodeEvent → Type 0
EndAwaited ev =
    (b : Building) → Awaits b (unnumbered_event ev)
    → (ts : List ℕ) × (i : Inner) × (outer : List Around) × (b ≡ within ts i outer) × MayEnd i × (end_of i ≡ unnumbered_event ev)

list_awaited : EndAwaited end_list
list_awaited (nothing ts) h = absurd h.0
list_awaited (whole n) h = absurd h.0
list_awaited (within ts (in_list ns []) outer) h = (ts, in_list ns [], outer, refl, refl, refl)
list_awaited (within ts (in_list ns (u ∷ us)) outer) h = let tagged : true ≡ false = h.1 in absurd cc
list_awaited (within ts (in_object ms) outer) h = let other : an_object ≡ a_list = h.0 in absurd cc
list_awaited (within ts (in_pair ms key us) outer) h = let other : an_object ≡ a_list = h.0 in absurd cc

object_awaited : EndAwaited end_object
object_awaited (nothing ts) h = absurd h.0
object_awaited (whole n) h = absurd h.0
object_awaited (within ts (in_list ns us) outer) h = let other : a_list ≡ an_object = h.0 in absurd cc
object_awaited (within ts (in_object ms) outer) h = (ts, in_object ms, outer, refl, tt, refl)
object_awaited (within ts (in_pair ms key us) outer) h = let owed : true ≡ false = h.1 in absurd cc

abbrev pub EndReady : Codec → Decoding → Type 0
EndReady c d = FirstCanEnd c.table d.shape d.frames × (d.result ≡ None)

module _ (c : Codec) (d : Decoding) (ev : NodeEvent) (laws : IsConvention c.convention) (shaped : Shaped c.table)
    (awaited : EndAwaited ev) where
  end_ready : MayTake (Stands c d) ev → EndReady c d
  end_ready (es, k, begins) =
      let end = awaited k.building (kept_awaits c es ev d k begins) in
      let holds : Holds c (within end.0 end.1 end.2) d = subst (λ b. Holds c b d) end.3 k.holds in
      ((tree_ends c d end.0 end.1 end.2 laws shaped k.in_table end.4 holds).0, holds.0)

  end_kept : (e : Decoding) → e.shape ≡ d.shape → EndedBy c.table c.test d.shape d.frames e → TakesOn (Stands c d) ev (Stands c e)
  end_kept e root by es k begins =
      let end = awaited k.building (kept_awaits c es ev d k begins) in
      let holds : Holds c (within end.0 end.1 end.2) d = subst (λ b. Holds c b d) end.3 k.holds in
      kept_on c es ev d e k (after_end (within end.0 end.1 end.2)) begins
      (end_taken end.0 end.1 end.2 end.4 ∙ ap (λ x. so_far (within end.0 end.1 end.2) ++ x ∷ []) end.5
      ∙ ap (λ b. so_far b ++ unnumbered_event ev ∷ []) (sym end.3)) root
      ((tree_ends c d end.0 end.1 end.2 laws shaped k.in_table end.4 holds).1 e root by)

pub list_end_ready : (c : Codec) (d : Decoding) → IsConvention c.convention → Shaped c.table → MayTake (Stands c d) end_list → EndReady c d
list_end_ready c d laws shaped may = end_ready c d end_list laws shaped list_awaited may

pub object_end_ready : (c : Codec) (d : Decoding) → IsConvention c.convention → Shaped c.table → MayTake (Stands c d) end_object
    → EndReady c d
object_end_ready c d laws shaped may = end_ready c d end_object laws shaped object_awaited may

pub list_end_kept : (c : Codec) (d e : Decoding) → IsConvention c.convention → Shaped c.table → e.shape ≡ d.shape
    → EndedBy c.table c.test d.shape d.frames e → TakesOn (Stands c d) end_list (Stands c e)
list_end_kept c d e laws shaped root by = end_kept c d end_list laws shaped list_awaited e root by

pub object_end_kept : (c : Codec) (d e : Decoding) → IsConvention c.convention → Shaped c.table → e.shape ≡ d.shape
    → EndedBy c.table c.test d.shape d.frames e → TakesOn (Stands c d) end_object (Stands c e)
object_end_kept c d e laws shaped root by = end_kept c d end_object laws shaped object_awaited e root by
