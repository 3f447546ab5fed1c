-- What the reader's answers say of the bytes: a tree of the whole text, or where no text goes on. The answers of
-- `read_tree` cite it.
use Rattle.std.proofs.Common.{Result, Ok, Err, ◌≡◌, ℕ, ◌+◌, ◌≤◌, List, [], ◌++◌, sym, ap, subst, ◌∙◌, arith, take, append-nil, IfOk}
use Rattle.sm_tree.specs.Node.{Node}
use Rattle.sm_tree.specs.Levels.{levels}
use Rattle.sm_tree.specs.Json.{IsJson}
use Rattle.std.specs.Prelude.{false}
use Rattle.sm_tree.specs.Events.{NodeEvent, events}
use Rattle.sm_tree.specs.Streams.{Streams, StandsFor, Takes, TakesEvery, BeginsStream, unnumbered}
use Rattle.sm_tree.specs.Timing.{untimed}
use Rattle.sm_tree.specs.Building.{Building, so_far, kinds, awaits_value}
use Rattle.sm_tree.proofs.Awaited.{whole_closed}
use Rattle.sm_tree.proofs.Handing.{begins_before}
use Rattle.sm_tree.proofs.Streams.{stream_events, events_stream}
use Rattle.sm_json.proofs.Feeding.{run_placed}
use Rattle.sm_tree.specs.Syntax.{most_levels, IsRead, Begins, BeginsRead, Reads}
use Rattle.sm_tree.specs.View.{node_of}
use Rattle.sm_tree.specs.declared.tree.Tree.{Tree}
use Rattle.sm_tree.specs.declared.refusal.SyntaxRefusal.{SyntaxRefusal}
use Rattle.sm_tree.specs.declared.refusal.SyntaxRefusal.TheVariants.{Bad, Ended, TooDeep, KeyKind, NoMemory}
use Rattle.sm_tree.proofs.Events.{events_injective}
use Rattle.sm_json.specs.JsonText.{JsonText, json_syntax}
use Rattle.sm_json.specs.steps.Rest.{json_start, JsonGoesOn}
use Rattle.sm_json.specs.steps.Feeding.{IsPlaced}
use Rattle.sm_json.specs.steps.Machine.{json_state, JsonIsPlaced, JsonGoes, JsonBrings, HaltsAt, DeepensAt, JsonTakesAll, JsonEndsText}
use Rattle.sm_json.specs.declared.read.Reader.{Reader}
use Rattle.sm_json.proofs.SpeltTrees.{text_json}
use Rattle.sm_json.proofs.Whole.{leads_none, start_text, text_start, run_is_text, run_is_cut}
use Rattle.sm_json.proofs.Onward.{reader_goes_on, on_back}
use Rattle.sm_json.proofs.Completed.{begun as begun_leads}

-- what goes on from the first state is what begins a text, at each limit
begun_text : (limit : ℕ) (bs : List ℕ) → JsonGoesOn limit json_start bs
    → (more : List ℕ) × (n : Node) × JsonText n (bs ++ more) × (levels n ≤ limit)
begun_text limit bs (s, ts, rest) = let (n, text, room, e) = start_text limit (bs ++ s) ts rest in (s, n, text, room)

text_begun : (limit : ℕ) (bs more : List ℕ) (n : Node) → JsonText n (bs ++ more) → levels n ≤ limit → JsonGoesOn limit json_start bs
text_begun limit bs more n text room = let (ts, rest) = text_start limit (bs ++ more) n text room in (more, ts, rest)

begins_read : (bs : List ℕ) → JsonGoesOn most_levels json_start bs → BeginsRead JsonText bs
begins_read bs h = let (more, n, text, room) = begun_text most_levels bs h in (more, n, (text, room))

read_begins : (bs : List ℕ) → BeginsRead JsonText bs → JsonGoesOn most_levels json_start bs
read_begins bs (more, n, (text, room)) = text_begun most_levels bs more n text room

begins_some : (limit : ℕ) (bs : List ℕ) → JsonGoesOn limit json_start bs → Begins JsonText bs
begins_some limit bs h = let (more, n, text, room) = begun_text limit bs h in (more, n, text)

-- no text begins so, where at each limit from the reader's on none does
begins_none : (bs : List ℕ) → ((limit : ℕ) → most_levels ≤ limit → JsonGoesOn limit json_start bs → ⊥) → Begins JsonText bs → ⊥
begins_none bs none (more, n, text) =
    none (most_levels + levels n) (omega arith) (text_begun (most_levels + levels n) bs more n text (omega arith))

-- the refusals of a reader that began with these bytes
pub bad_from_start : (bs : List ℕ) (i : ℕ) → HaltsAt json_start bs i → Reads json_syntax bs (Err (Bad i))
bad_from_start bs i h = record {
  bad = record { inside = h.inside; before = begins_read (take i bs) h.before; behind = begins_none (take (i + 1) bs) h.behind };
  no_key_kind = λ key. key.key;
}

pub deep_from_start : (bs : List ℕ) (i : ℕ) → DeepensAt json_start bs i → Reads json_syntax bs (Err (TooDeep i))
deep_from_start bs i h = record {
  inside = h.inside;
  before = begins_read (take i bs) h.before;
  goes_on = begins_some (most_levels + 1) (take (i + 1) bs) h.deeper;
  too_deep = λ g. h.stops (read_begins (take (i + 1) bs) g);
}

pub feed_refused : (r q : Reader) (S T : StandsFor) (takes : Takes) (bs : List ℕ) (refusal : SyntaxRefusal)
    → json_state r ≡ json_start → JsonTakesAll r S bs q T takes (Err refusal)
    → Reads json_syntax bs (Err refusal)
feed_refused r q S T takes bs (Bad p) begins h = bad_from_start bs p (subst (λ x. HaltsAt x bs p) begins h.0)
feed_refused r q S T takes bs Ended begins h = absurd h
feed_refused r q S T takes bs (TooDeep p) begins h = deep_from_start bs p (subst (λ x. DeepensAt x bs p) begins h.0)
feed_refused r q S T takes bs (KeyKind p) begins h = absurd h
feed_refused r q S T takes bs NoMemory begins h = tt

-- the builder stands for the streams that are what it took
abbrev pub took : Building → StandsFor
took b es = unnumbered es ≡ so_far b

pub first_placed : (r : Reader) (b : Building) (takes : Takes) → json_state r ≡ json_start → so_far b ≡ []
    → TakesEvery takes → JsonIsPlaced r (took b) takes
first_placed r b takes begins nothing all = record {
  takes_all = all;
  placed = subst (λ x. IsPlaced x (took b)) (sym begins)
      (run_placed [] [] json_start (took b) (leads_none most_levels json_start) (sym nothing));
}

-- the bytes end: the builder has taken the events of the one tree of the text, or they are no text
pub text_built : (r q : Reader) (bs : List ℕ) (first behind_bytes last : Building) (before behind : Takes) → json_state r ≡ json_start
    → so_far first ≡ [] → JsonBrings r (took first) bs q (took behind_bytes) before
    → JsonEndsText q (took behind_bytes) (took last) behind (Ok tt)
    → (n : Node) × IsRead JsonText n bs × (so_far last ≡ events n [])
text_built r q bs first behind_bytes last before behind begins nothing feeds (ts, rest, hands, all) =
    let (n, text, room, same) = run_is_text most_levels bs feeds.out ts (json_state q)
    (begun_leads r q bs feeds.out feeds.goes begins) rest in
    let whole : BeginsStream (feeds.out ++ untimed ts) = (
      n,
      [],
      subst (λ es. Streams n es [])
          (sym (append-nil (feeds.out ++ untimed ts) ∙ same)) (events_stream n []),
    ) in
    let some = feeds.hands [] (sym nothing) (begins_before feeds.out (untimed ts) whole) in
    let built = hands feeds.out some whole in
    (n, (text, room), sym built ∙ ap unnumbered same ∙ stream_events n (events n []) [] (events_stream n []))

pub begun_whole : (r q : Reader) (bs : List ℕ) (out : List NodeEvent) → json_state r ≡ json_start → JsonGoes r bs out q
    → BeginsRead JsonText bs
begun_whole r q bs out begins goes =
    begins_read bs (subst (λ x. JsonGoesOn most_levels x bs) begins
    (subst (JsonGoesOn most_levels (json_state r)) (append-nil bs)
    (on_back r q bs [] most_levels goes (omega arith) (reader_goes_on q goes.sound))))

pub tree_read : (n : Node) (bs : List ℕ) (tree : Tree) → IsRead JsonText n bs → events n [] ≡ events (node_of tree) []
    → Reads json_syntax bs (Ok tree)
tree_read n bs tree h same = subst (λ m. IsRead JsonText m bs) (events_injective n (node_of tree) [] [] same).0 h

pub builder_closed : (r q : Reader) (bs : List ℕ) (first middle last : Building) (before behind : Takes) → json_state r ≡ json_start
    → so_far first ≡ [] → JsonBrings r (took first) bs q (took middle) before → JsonEndsText q (took middle) (took last) behind (Ok tt)
    → (kinds last ≡ []) × (awaits_value last ≡ false)
builder_closed r q bs first middle last before behind begins nothing feeds ends =
    let (n, read, is) = text_built r q bs first middle last before behind begins nothing feeds ends in whole_closed last n is

pub tree_built : (r q : Reader) (bs : List ℕ) (first middle last : Building) (before behind : Takes) (tree : Tree)
    → json_state r ≡ json_start → so_far first ≡ [] → JsonBrings r (took first) bs q (took middle) before
    → JsonEndsText q (took middle) (took last) behind (Ok tt) → so_far last ≡ events (node_of tree) [] → Reads json_syntax bs (Ok tree)
tree_built r q bs first middle last before behind tree begins nothing feeds ends same =
    let (n, read, is) = text_built r q bs first middle last before behind begins nothing feeds ends in
    tree_read n bs tree read (sym is ∙ same)

pub end_refused : (r q : Reader) (S T U : StandsFor) (before behind : Takes) (bs : List ℕ) (refusal : SyntaxRefusal)
    → json_state r ≡ json_start → JsonBrings r S bs q T before → JsonEndsText q T U behind (Err refusal)
    → Reads json_syntax bs (Err refusal)
end_refused r q S T U before behind bs NoMemory begins feeds h = tt
end_refused r q S T U before behind bs (Bad p) begins feeds h = absurd h
end_refused r q S T U before behind bs Ended begins feeds h = record {
  begun = begun_whole r q bs feeds.out begins feeds.goes;
  no_text = λ n (text, room). run_is_cut most_levels bs feeds.out (json_state q) (begun_leads r q bs feeds.out feeds.goes begins) h n text
      room;
}
end_refused r q S T U before behind bs (TooDeep p) begins feeds h = absurd h
end_refused r q S T U before behind bs (KeyKind p) begins feeds h = absurd h

-- what is read can be written
pub read_json : (bs : List ℕ) (result : Result Tree SyntaxRefusal) → Reads json_syntax bs result
    → IfOk result (λ tree. IsJson (node_of tree))
read_json bs (Ok tree) h = text_json (node_of tree) bs h.0
read_json bs (Err refusal) h = tt
