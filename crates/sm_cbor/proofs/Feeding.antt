-- A reader that takes pieces, beside a sink: what a piece does to it, and what it answers at the end. The answers of `CborReader`
-- and of `read_by_bytes` cite these.
use Rattle.std.proofs.Common.{Ok, Err, ◌≡◌, ℕ, ◌+◌, ◌-◌, ◌≤◌, ◌<◌, List, [], ◌++◌, None, Some, sym, ap, subst, ◌∙◌, arith}
use Rattle.std.proofs.Common.{length, length-append, take, drop, take-append-drop, get_or, false}
use Rattle.std.proofs.Math.Seq.{take-append-add}
use Rattle.std.proofs.lemmas.List.{get_or-append-add, take_all, length-drop}
use Rattle.sm_tree.specs.Limits.{most_levels}
use Rattle.sm_tree.specs.Node.{Node}
use Rattle.sm_tree.specs.Events.{NodeEvent, events}
use Rattle.sm_tree.specs.Streams.{StandsFor, unnumbered}
use Rattle.sm_tree.specs.Building.{Building, so_far, kinds, awaits_value}
use Rattle.sm_tree.specs.View.{node_of}
use Rattle.sm_tree.specs.declared.tree.Tree.{Tree}
use Rattle.sm_tree.proofs.Streams.{stream_events}
use Rattle.sm_tree.proofs.Events.{events_injective}
use Rattle.sm_tree.proofs.Awaited.{whole_closed}
use Rattle.sm_tree.proofs.LongerBytes.{refused_longer}
use Rattle.sm_tree.proofs.Sources.{come_read, read_come, refused_come}
use Rattle.sm_cbor.specs.CborItem.{CborItem}
use Rattle.sm_tree.specs.Timing.{Completes, Follows}
use Rattle.sm_tree.specs.Syntax.{Reads, IsRead, IsRefused}
use Rattle.sm_tree.specs.Refusal.{IsWithin, moved_by}
use Rattle.sm_tree.specs.declared.refusal.SyntaxRefusal.{SyntaxRefusal}
use Rattle.sm_tree.specs.declared.refusal.SyntaxRefusal.TheVariants.{Bad, Ended, TooDeep, KeyKind, NoMemory}
use Rattle.sm_cbor.specs.Timing.{cbor_timing}
use Rattle.sm_cbor.specs.Refusals.{cbor_syntax}
use Rattle.sm_cbor.specs.Stands.{CborRuns, CborHasRead, cbor_source, CborStands, CborFeeds, CborEndsWith}
use Rattle.sm_cbor.specs.steps.Marks.{plain}
use Rattle.sm_cbor.specs.steps.Rest.{CborLeads, first_state}
use Rattle.sm_cbor.specs.steps.Sinks.{Reached}
use Rattle.sm_cbor.specs.steps.Machine.{cbor_state_of, levels_of, IsSoundReader, CborGoes, CborTakesAll, RefusesAt, IsPlaceOf}
use Rattle.sm_cbor.specs.declared.place.CborPlace.TheVariants.{After}
use Rattle.sm_cbor.specs.declared.read.Reader.{Reader}
use Rattle.sm_cbor.specs.declared.pieces.CborReader.{CborReader}
use Rattle.sm_cbor.proofs.Readings.{leads_none, leads_joined}
use Rattle.sm_cbor.proofs.Reaching.{CanGoOn, begun_stream, stands_follow, follow_stands}
use Rattle.sm_cbor.proofs.Completing.{leads_complete, nothing_complete}
use Rattle.sm_cbor.proofs.FeedSteps.{cut_short}
use Rattle.sm_cbor.proofs.Verdicts.{lives, refused_is, whole_read, cut_read}

can : (r : Reader) → IsSoundReader r → CanGoOn (cbor_state_of r)
can r sound = (lives r r.place sound.there, sound.there.room)

plainly : (bs : List ℕ) (out : List NodeEvent) (r : Reader) → CborRuns bs out r
    → CborLeads plain most_levels first_state bs out (cbor_state_of r)
plainly bs out r run = run.leads plain most_levels (omega arith)

-- before the first byte
pub first_come : (r : Reader) → cbor_state_of r ≡ first_state → IsSoundReader r → CborRuns [] [] r
first_come r first sound = record {
  leads = λ w limit high. subst (λ x. CborLeads w limit first_state [] [] x) (sym first) (leads_none w limit first_state);
  sound = sound;
}

-- what was read completes what was handed on
pub read_completes : (r : CborReader) (bs : List ℕ) → CborHasRead r bs → (es : List NodeEvent) × Completes cbor_timing bs es
read_completes r bs (out, run, taken) =
    let there = can r.reader run.sound in
    (out, leads_complete bs out (cbor_state_of r.reader) (plainly bs out r.reader run) run.sound.begun there.0 there.1)

-- what the sink stands for, and has reached
handed : (S : StandsFor) (bs : List ℕ) (out : List NodeEvent) (r : Reader) → CborRuns bs out r → Follows cbor_timing S bs → S out
handed S bs out r run follows =
    follow_stands S bs out (cbor_state_of r) (plainly bs out r run) run.sound.begun (can r run.sound) follows

pub fed_sound : (r : CborReader) (bs : List ℕ) → r.refused ≡ None → CborStands r bs → IsSoundReader r.reader
fed_sound r bs none stands = let (out, run, count) = come_read cbor_source r bs none stands.1 in run.sound

pub fed_reached : (r : CborReader) (S : StandsFor) (bs : List ℕ) → r.refused ≡ None → CborStands r bs → Follows cbor_timing S bs
    → Reached S (cbor_state_of r.reader)
fed_reached r S bs none stands follows =
    let (out, run, count) = come_read cbor_source r bs none stands.1 in
    (bs, out, (plainly bs out r.reader run).back, handed S bs out r.reader run follows)

-- behind more bytes
ran : (S T : StandsFor) (bs v : List ℕ) (out : List NodeEvent) (r q : Reader) → CborRuns bs out r → (goes : CborGoes S r [] r.place v T q)
    → CborRuns (bs ++ v) (out ++ goes.out) q
ran S T bs v out r q run goes = record {
  leads = λ w limit high. leads_joined w limit first_state (cbor_state_of r) (cbor_state_of q) bs v out goes.out (run.leads w limit high)
      (goes.leads w limit high);
  sound = goes.sound;
}

follows_on : (S T : StandsFor) (bs v : List ℕ) (out : List NodeEvent) (r q : Reader) → CborRuns bs out r → CborGoes S r [] r.place v T q
    → S out
    → Follows cbor_timing T (bs ++ v)
follows_on S T bs v out r q run goes stands =
    let on = ran S T bs v out r q run goes in
    let leads = plainly (bs ++ v) (out ++ goes.out) q on in
    stands_follow T (bs ++ v) (out ++ goes.out) (cbor_state_of q) leads on.sound.begun
    (goes.taken out stands (begun_stream (bs ++ v) (out ++ goes.out) (cbor_state_of q) leads.back (can q on.sound)))

-- a piece that is taken
pub fed : (S T : StandsFor) (before behind : CborReader) (piece : List ℕ) → before.refused ≡ None → behind.refused ≡ None
    → behind.taken ≡ before.taken + length piece → CborGoes S before.reader [] before.reader.place piece T behind.reader
    → CborFeeds S before piece T behind (Ok tt)
fed S T before behind piece none still count goes = (
  still,
  λ bs stands.
      let (out, run, taken) = come_read cbor_source before bs none stands.1 in (
        (
          tt,
          read_come cbor_source behind (bs ++ piece) still (
            out ++ goes.out,
            ran S T bs piece out before.reader behind.reader run goes,
            count ∙ ap (λ n. n + length piece) taken ∙ sym (length-append bs piece),
          ),
        ),
        λ follows. follows_on S T bs piece out before.reader behind.reader run goes (handed S bs out before.reader run follows),
      ),
)

-- a piece of which a byte is refused
refused_so : (S T : StandsFor) (r q : Reader) (bs piece : List ℕ) (out : List NodeEvent) (i : ℕ) (refusal : SyntaxRefusal)
    → i < length piece
    → CborRuns bs out r → CborGoes S r [] r.place (take i piece) T q → RefusesAt (cbor_state_of q) (get_or piece i 0) refusal
    → IsPlaceOf (length bs + i) refusal
    → Reads cbor_syntax (bs ++ piece) (Err refusal)
    × (Follows cbor_timing S bs → Follows cbor_timing T (take (length bs + i) (bs ++ piece)))
refused_so S T r q bs piece out i refusal inside run goes refuses is =
    let on = ran S T bs (take i piece) out r q run goes in
    let len = length-append bs piece in (
      refused_is (bs ++ piece) (length bs + i) (out ++ goes.out) q refusal (omega (arith, len, inside))
          (subst (λ v. CborRuns v (out ++ goes.out) q) (sym (take-append-add bs piece i)) on)
          (subst (λ c. RefusesAt (cbor_state_of q) c refusal) (sym (get_or-append-add bs piece i 0)) refuses) is,
      λ follows. subst (Follows cbor_timing T) (sym (take-append-add bs piece i))
          (follows_on S T bs (take i piece) out r q run goes (handed S bs out r run follows)),
    )

count_on : (taken at i : ℕ) (bs : List ℕ) → taken ≡ length bs → at ≡ i → taken + at ≡ length bs + i
count_on taken at i bs e f = omega arith

pub fed_refused : (S T : StandsFor) (before behind : CborReader) (x : Reader) (piece : List ℕ) (refusal : SyntaxRefusal)
    → before.refused ≡ None → behind.refused ≡ Some (moved_by before.taken refusal)
    → CborTakesAll S before.reader piece T x (Err refusal) → CborFeeds S before piece T behind (Err (moved_by before.taken refusal))
fed_refused S T before behind x piece NoMemory none told h = told
fed_refused S T before behind x piece Ended none told h = h
fed_refused S T before behind x piece (Bad n) none told (i, q, inside, goes, refuses, is) = (
  told,
  λ bs stands.
      let (out, run, taken) = come_read cbor_source before bs none stands.1 in
      let same = count_on before.taken n i bs taken is in
      let (refused, on) = refused_so S T before.reader q bs piece out i (Bad (before.taken + n)) inside run goes refuses same in (
        (tt, refused_come cbor_source behind (bs ++ piece) (Bad (before.taken + n)) told refused),
        refused,
        λ follows. subst (λ m. Follows cbor_timing T (take m (bs ++ piece))) (sym same) (on follows),
      ),
)
fed_refused S T before behind x piece (TooDeep n) none told (i, q, inside, goes, refuses, is) = (
  told,
  λ bs stands.
      let (out, run, taken) = come_read cbor_source before bs none stands.1 in
      let same = count_on before.taken n i bs taken is in
      let (refused, on) = refused_so S T before.reader q bs piece out i (TooDeep (before.taken + n)) inside run goes refuses same in (
        (tt, refused_come cbor_source behind (bs ++ piece) (TooDeep (before.taken + n)) told refused),
        refused,
        λ follows. subst (λ m. Follows cbor_timing T (take m (bs ++ piece))) (sym same) (on follows),
      ),
)
fed_refused S T before behind x piece (KeyKind n) none told (i, q, inside, goes, refuses, is) = (
  told,
  λ bs stands.
      let (out, run, taken) = come_read cbor_source before bs none stands.1 in
      let same = count_on before.taken n i bs taken is in
      let (refused, on) = refused_so S T before.reader q bs piece out i (KeyKind (before.taken + n)) inside run goes refuses same in (
        (tt, refused_come cbor_source behind (bs ++ piece) (KeyKind (before.taken + n)) told refused),
        refused,
        λ follows. subst (λ m. Follows cbor_timing T (take m (bs ++ piece))) (sym same) (on follows),
      ),
)

-- its place counts from the first of all bytes, and fits
pub refusal_fits : (S T : StandsFor) (r x : Reader) (piece : List ℕ) (refusal : SyntaxRefusal) (n : ℕ) → length piece ≤ n
    → CborTakesAll S r piece T x (Err refusal) → IsWithin n refusal
refusal_fits S T r x piece (Bad p) n room (i, q, inside, goes, refuses, is) = omega (arith, inside, is, room)
refusal_fits S T r x piece Ended n room h = tt
refusal_fits S T r x piece (TooDeep p) n room (i, q, inside, goes, refuses, is) = omega (arith, inside, is, room)
refusal_fits S T r x piece (KeyKind p) n room (i, q, inside, goes, refuses, is) = omega (arith, inside, is, room)
refusal_fits S T r x piece NoMemory n room h = tt

-- the end, where an item is whole; and where one is cut short
pub ended_whole : (r : CborReader) (bs : List ℕ) → r.refused ≡ None → (r.reader.place ≡ After) × (levels_of r.reader ≡ [])
    → CborStands r bs → CborEndsWith r bs (Ok tt)
ended_whole r bs none (place, open_to) stands =
    let (out, run, taken) = come_read cbor_source r bs none stands.1 in
    let (n, item, room, streams) = whole_read r.reader bs out run place open_to in
    let there = can r.reader run.sound in (
      n,
      out,
      (item, room),
      leads_complete bs out (cbor_state_of r.reader)
          (plainly bs out r.reader run) run.sound.begun there.0 there.1,
      streams,
    )

pub ended_cut : (r : CborReader) (bs : List ℕ) → r.refused ≡ None → (r.reader.place ≡ After → levels_of r.reader ≡ [] → ⊥)
    → CborStands r bs → IsRefused cbor_syntax bs Ended
ended_cut r bs none cut stands =
    let (out, run, taken) = come_read cbor_source r bs none stands.1 in
    cut_read r.reader bs out run (cut_short r.reader run.sound cut)

-- a builder beside the reader
abbrev pub built : Building → StandsFor
built b es = unnumbered es ≡ so_far b

-- it has refused nothing, and the builder has what the bytes complete
abbrev pub Reading : CborReader → Building → List ℕ → Type 0
Reading r b bs = (r.refused ≡ None) × CborStands r bs × Follows cbor_timing (built b) bs

pub reading_first : (r : CborReader) (b : Building) → r.refused ≡ None → CborStands r [] → so_far b ≡ [] → Reading r b []
reading_first r b fresh stands nothing = (fresh, stands, λ es h. ap unnumbered (nothing_complete es h) ∙ sym nothing)

pub reading_on : (b d : Building) (r q : CborReader) (bs piece : List ℕ) → Reading r b bs
    → (r.refused ≡ None → CborFeeds (built b) r piece (built d) q (Ok tt)) → Reading q d (bs ++ piece)
reading_on b d r q bs piece (fresh, stands, follows) feeds =
    let (still, on) = feeds fresh in let (there, next) = on bs stands in (still, there, next follows)

-- the first piece of two is taken, and then the second
pub first_taken : (b d : Building) (r q : CborReader) (bytes : List ℕ) (n : ℕ) → r.refused ≡ None → CborStands r [] → so_far b ≡ []
    → (r.refused ≡ None → CborFeeds (built b) r (take n bytes) (built d) q (Ok tt)) → Reading q d (take n bytes)
first_taken b d r q bytes n fresh stands nothing feeds = reading_on b d r q [] (take n bytes) (reading_first r b fresh stands nothing) feeds

-- a refusal of what came so far is one of all the bytes
pub reading_refused : (b d : Building) (r q : CborReader) (bs piece more : List ℕ) (refusal : SyntaxRefusal) → Reading r b bs
    → (r.refused ≡ None → CborFeeds (built b) r piece (built d) q (Err refusal)) → Reads cbor_syntax ((bs ++ piece) ++ more) (Err refusal)
reading_refused b d r q bs piece more NoMemory (fresh, stands, follows) feeds = tt
reading_refused b d r q bs piece more Ended (fresh, stands, follows) feeds = absurd (feeds fresh)
reading_refused b d r q bs piece more (Bad n) (fresh, stands, follows) feeds =
    let (told, on) = feeds fresh in
    let all = on bs stands in
    refused_longer cbor_syntax (bs ++ piece) more (Bad n) (λ e. cc) all.1
reading_refused b d r q bs piece more (TooDeep n) (fresh, stands, follows) feeds =
    let (told, on) = feeds fresh in
    let all = on bs stands in
    refused_longer cbor_syntax (bs ++ piece) more (TooDeep n) (λ e. cc) all.1
reading_refused b d r q bs piece more (KeyKind n) (fresh, stands, follows) feeds =
    let (told, on) = feeds fresh in
    let all = on bs stands in
    refused_longer cbor_syntax (bs ++ piece) more (KeyKind n) (λ e. cc) all.1

-- two pieces are all the bytes
pub both_pieces : (bytes : List ℕ) (n : ℕ) → n ≤ length bytes → take n bytes ++ take (length bytes - n) (drop n bytes) ≡ bytes
both_pieces bytes n inside =
    ap (λ v. take n bytes ++ v) (take_all (length bytes - n) (drop n bytes) (omega (arith, length-drop n bytes))) ∙ take-append-drop n bytes

pub both_taken : (d e : Building) (q x : CborReader) (bytes : List ℕ) (n : ℕ) → n ≤ length bytes → Reading q d (take n bytes)
    → (q.refused ≡ None → CborFeeds (built d) q (take (length bytes - n) (drop n bytes)) (built e) x (Ok tt)) → Reading x e bytes
both_taken d e q x bytes n inside reading feeds =
    subst (Reading x e) (both_pieces bytes n inside)
    (reading_on d e q x (take n bytes) (take (length bytes - n) (drop n bytes)) reading feeds)

pub tree_whole : (b : Building) (r : CborReader) (bytes : List ℕ) → Reading r b bytes
    → ((bs : List ℕ) → CborStands r bs → CborEndsWith r bs (Ok tt)) → (n : Node) × IsRead CborItem n bytes × (so_far b ≡ events n [])
tree_whole b r bytes (fresh, stands, follows) ends =
    let (n, es, read, completes, streams) = ends bytes stands in (n, read, sym (follows es completes) ∙ stream_events n es [] streams)

pub tree_closed : (b : Building) (bytes : List ℕ) → (n : Node) × IsRead CborItem n bytes × (so_far b ≡ events n [])
    → (kinds b ≡ []) × (awaits_value b ≡ false)
tree_closed b bytes (n, read, is) = whole_closed b n is

pub tree_read : (b : Building) (bytes : List ℕ) (tree : Tree) → (n : Node) × IsRead CborItem n bytes × (so_far b ≡ events n [])
    → so_far b ≡ events (node_of tree) [] → Reads cbor_syntax bytes (Ok tree)
tree_read b bytes tree (n, read, is) made =
    subst (λ m. IsRead CborItem m bytes) (events_injective n (node_of tree) [] [] (sym is ∙ made)).0 read

pub end_answers : (r : CborReader) (bytes : List ℕ) (refusal : SyntaxRefusal) → CborEndsWith r bytes (Err refusal)
    → Reads cbor_syntax bytes (Err refusal)
end_answers r bytes NoMemory h = tt
end_answers r bytes Ended h = h
end_answers r bytes (Bad n) h = h
end_answers r bytes (TooDeep n) h = h
end_answers r bytes (KeyKind n) h = h
