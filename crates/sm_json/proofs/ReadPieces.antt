-- A reader that takes a text in pieces: what it stands for, what its sink stands for, and what it has refused, one piece behind
-- another. The answers of `JsonReader` cite these.
use Rattle.std.specs.Prelude.{Bool, IsTrue, ◌↔◌}
use Rattle.std.proofs.Common.{true, false, Ok, Err, ◌≡◌, ℕ, ◌+◌, ◌≤◌, List, [], ◌∷◌, ◌++◌, Some, None, refl, sym, ap, subst, ◌∙◌}
use Rattle.std.proofs.Common.{arith, length, take, append-nil, length-append}
use Rattle.std.proofs.Math.Seq.{take-append_seam, take-append-add, drop-append_seam}
use Rattle.sm_tree.specs.Node.{Node, null}
use Rattle.sm_tree.specs.Levels.{levels}
use Rattle.sm_tree.specs.Events.{NodeEvent, null_event, events}
use Rattle.sm_tree.specs.Streams.{Streams, StandsFor, Takes, TakesEvery, BeginsStream}
use Rattle.sm_tree.specs.Timing.{TimedEvent, by_byte, by_end, untimed, HandsOn, Follows, Completes, CompletesAll}
use Rattle.sm_tree.specs.Syntax.{most_levels, IsRefused}
use Rattle.sm_tree.specs.ReaderClauses.{TakesBeside}
use Rattle.sm_tree.specs.Refusal.{moved_by, IsWithin}
use Rattle.sm_tree.specs.declared.refusal.SyntaxRefusal.{SyntaxRefusal}
use Rattle.sm_tree.specs.declared.refusal.SyntaxRefusal.TheVariants.{Bad, Ended, TooDeep, KeyKind, NoMemory}
use Rattle.sm_tree.proofs.Handing.{begins_before}
use Rattle.sm_tree.proofs.Sources.{come_read, read_come, refused_come}
use Rattle.sm_tree.proofs.Streams.{events_stream}
use Rattle.sm_json.specs.JsonText.{JsonText, json_syntax}
use Rattle.sm_json.specs.Timing.{json_timing}
use Rattle.sm_json.specs.steps.Rest.{JsonState, json_start, JsonLeads, JsonGoesOn}
use Rattle.sm_json.specs.steps.Machine.{json_state, JsonIsSound, JsonIsPlaced, JsonGoes, JsonBrings, JsonBringsTo, HaltsAt, DeepensAt}
use Rattle.sm_json.specs.steps.Machine.{JsonTakesAll, JsonEndsText, JsonMayEnd}
use Rattle.sm_json.specs.Stands.{first_of, JsonHasRead, json_source, JsonHasCome, JsonStands, JsonFeeds, FollowsAll, JsonFlushes}
use Rattle.sm_json.specs.Stands.{JsonEndsWith, StandingCompletes}
use Rattle.sm_json.specs.declared.read.Reader.{Reader}
use Rattle.sm_json.specs.declared.pieces.JsonReader.{JsonReader}
use Rattle.sm_json.proofs.Onward.{reader_goes_on, halts_then, deepens_then}
use Rattle.sm_json.proofs.Turns.{goes_joined, goes_nowhere}
use Rattle.sm_json.proofs.Feeding.{run_placed}
use Rattle.sm_json.proofs.Completed.{begun, bytes_complete, bytes_complete_one}
use Rattle.sm_json.proofs.Answered.{bad_from_start, deep_from_start, begun_whole}
use Rattle.sm_json.proofs.Whole.{timed_start, run_is_text, run_is_cut}
use Rattle.sm_json.proofs.Timed.{text_timed, timed_text}
use Rattle.sm_json.proofs.OneTree.{one_tree}
use Rattle.sm_json.proofs.Starts.{FirstByte}
use Rattle.sm_json.proofs.NullTexts.{text_first, black_append, null_by_first, null_by_event, null_completes, null_whole}

-- a reader that has read nothing
pub reads_nothing : (j : JsonReader) → json_state j.reader ≡ json_start → JsonIsSound j.reader → j.taken ≡ 0 → j.first ≡ None
    → JsonHasRead j []
reads_nothing j begins sound none blank =
    record { first = j.reader; begins = begins; out = []; goes = goes_nowhere j.reader sound; taken = none; black = blank }

-- the events that bytes complete begin a stream
run_begins : (bs : List ℕ) (out : List NodeEvent) (x : JsonState) → JsonLeads most_levels json_start bs out x
    → JsonGoesOn most_levels x [] → BeginsStream out
run_begins bs out x leads (s, us, rest) =
    let (es, same, comes) = run_placed bs out x (λ es. es ≡ out) leads refl in
    subst BeginsStream same (begins_before es (untimed us) (comes s us rest))

whole_begins : (n : Node) (es : List NodeEvent) → es ≡ events n [] → BeginsStream es
whole_begins n es is = (n, [], subst (λ fs. Streams n fs []) (sym (append-nil es ∙ is)) (events_stream n []))

-- a sink that stands for what the bytes complete is placed at the reader's place
pub piece_placed : (j : JsonReader) (bytes : List ℕ) (S : StandsFor) (takes : Takes) → JsonHasRead j bytes → Follows json_timing S bytes
    → TakesEvery takes → JsonIsPlaced j.reader S takes
piece_placed j bytes S takes read follows all = record {
  takes_all = all;
  placed = run_placed bytes read.out (json_state j.reader) S (begun read.first j.reader bytes read.out read.goes read.begins)
      (follows read.out (bytes_complete read.first j.reader bytes read.out read.goes read.begins));
}

-- behind a piece it stands for the longer bytes
pub read_on : (j k : JsonReader) (bytes piece : List ℕ) (S T : StandsFor) (takes : Takes) → JsonHasRead j bytes
    → JsonBrings j.reader S piece k.reader T takes → k.taken ≡ j.taken + length piece → k.first ≡ first_of j.first piece
    → JsonHasRead k (bytes ++ piece)
read_on j k bytes piece S T takes read feeds taken black = record {
  first = read.first;
  begins = read.begins;
  out = read.out ++ feeds.out;
  goes = goes_joined read.first j.reader k.reader bytes piece read.goes feeds.goes;
  taken = taken ∙ ap (λ n. n + length piece) read.taken ∙ sym (length-append bytes piece);
  black = black ∙ ap (λ c. first_of c piece) read.black ∙ sym (black_append bytes piece);
}

-- and the sink for what these complete
pub follows_on : (j : JsonReader) (q : Reader) (bytes piece : List ℕ) (S T : StandsFor) (takes : Takes) → JsonHasRead j bytes
    → JsonBrings j.reader S piece q T takes → Follows json_timing S bytes → Follows json_timing T (bytes ++ piece)
follows_on j q bytes piece S T takes read feeds follows es done =
    let goes : JsonGoes read.first (bytes ++ piece) (read.out ++ feeds.out) q =
    goes_joined read.first j.reader q bytes piece read.goes feeds.goes in
    let is : es ≡ read.out ++ feeds.out = bytes_complete_one read.first q (bytes ++ piece)
    (read.out ++ feeds.out) es goes read.begins done in
    let stands : S read.out = follows read.out (bytes_complete read.first j.reader bytes read.out read.goes read.begins) in
    let begins : BeginsStream (read.out ++ feeds.out) =
    run_begins (bytes ++ piece) (read.out ++ feeds.out) (json_state q)
    (begun read.first q (bytes ++ piece) (read.out ++ feeds.out) goes read.begins) (reader_goes_on q goes.sound) in
    subst T (sym is) (feeds.hands read.out stands begins)

-- where a byte of the piece is refused, for what the bytes before it complete
pub follows_to : (j : JsonReader) (bytes piece : List ℕ) (p : ℕ) (S T : StandsFor) (takes : Takes) → JsonHasRead j bytes
    → JsonBringsTo j.reader S piece p T takes → Follows json_timing S bytes → Follows json_timing T (take (j.taken + p) (bytes ++ piece))
follows_to j bytes piece p S T takes read fed follows =
    subst (Follows json_timing T)
    (sym (ap (λ n. take (n + p) (bytes ++ piece)) read.taken ∙ take-append-add bytes piece p))
    (follows_on j fed.there bytes (take p piece) S T takes read fed.fed follows)

-- the bytes so far, as those before the piece
front_goes : (j : JsonReader) (bytes piece : List ℕ) (read : JsonHasRead j bytes)
    → JsonGoes read.first (take (length bytes) (bytes ++ piece)) read.out j.reader
front_goes j bytes piece read = subst (λ ws. JsonGoes read.first ws read.out j.reader) (sym (take-append_seam bytes piece)) read.goes

pub piece_bad : (j : JsonReader) (bytes piece : List ℕ) (p : ℕ) → JsonHasRead j bytes → HaltsAt (json_state j.reader) piece p
    → IsRefused json_syntax (bytes ++ piece) (Bad (j.taken + p))
piece_bad j bytes piece p read halts =
    bad_from_start (bytes ++ piece) (j.taken + p)
    (subst (λ n. HaltsAt json_start (bytes ++ piece) (n + p)) (sym read.taken)
    (subst (λ x. HaltsAt x (bytes ++ piece) (length bytes + p)) read.begins
    (halts_then read.first j.reader (bytes ++ piece) (length bytes) p (front_goes j bytes piece read)
    (subst (λ ws. HaltsAt (json_state j.reader) ws p) (sym (drop-append_seam bytes piece)) halts))))

pub piece_deep : (j : JsonReader) (bytes piece : List ℕ) (p : ℕ) → JsonHasRead j bytes → DeepensAt (json_state j.reader) piece p
    → IsRefused json_syntax (bytes ++ piece) (TooDeep (j.taken + p))
piece_deep j bytes piece p read deepens =
    deep_from_start (bytes ++ piece) (j.taken + p)
    (subst (λ n. DeepensAt json_start (bytes ++ piece) (n + p)) (sym read.taken)
    (subst (λ x. DeepensAt x (bytes ++ piece) (length bytes + p)) read.begins
    (deepens_then read.first j.reader (bytes ++ piece) (length bytes) p (front_goes j bytes piece read)
    (subst (λ ws. DeepensAt (json_state j.reader) ws p) (sym (drop-append_seam bytes piece)) deepens))))

-- the place of a refusal is one of the piece
pub feed_within : (r q : Reader) (S T : StandsFor) (takes : Takes) (bs : List ℕ) (refusal : SyntaxRefusal) (n : ℕ)
    → length bs ≤ n → JsonTakesAll r S bs q T takes (Err refusal) → IsWithin n refusal
feed_within r q S T takes bs (Bad p) n small h = omega (arith, h.0.inside)
feed_within r q S T takes bs Ended n small h = tt
feed_within r q S T takes bs (TooDeep p) n small h = omega (arith, h.0.inside)
feed_within r q S T takes bs (KeyKind p) n small h = absurd h
feed_within r q S T takes bs NoMemory n small h = tt

-- a piece that is taken, and one that is refused
pub piece_fed : (j k : JsonReader) (piece : List ℕ) (S T : StandsFor) (takes : Takes) → j.refused ≡ None → k.refused ≡ None
    → k.flushed ≡ j.flushed → k.taken ≡ j.taken + length piece → k.first ≡ first_of j.first piece
    → JsonBrings j.reader S piece k.reader T takes → JsonFeeds S j piece T k (Ok tt)
piece_fed j k piece S T takes fresh still same taken black brings = (still, fed)
  where
    fed : (bytes : List ℕ) → JsonStands j bytes
        → JsonStands k (bytes ++ piece) × (Follows json_timing S bytes → Follows json_timing T (bytes ++ piece))
    fed bytes (open_still, come) =
        let read : JsonHasRead j bytes = come_read json_source j bytes fresh come in (
          (same ∙ open_still, read_come json_source k (bytes ++ piece) still (read_on j k bytes piece S T takes read brings taken black)),
          follows_on j k.reader bytes piece S T takes read brings,
        )

pub piece_refused : (j k : JsonReader) (q : Reader) (piece : List ℕ) (S T : StandsFor) (takes : Takes) (refusal : SyntaxRefusal)
    → j.refused ≡ None → k.refused ≡ Some (moved_by j.taken refusal) → k.flushed ≡ j.flushed
    → JsonTakesAll j.reader S piece q T takes (Err refusal)
    → JsonFeeds S j piece T k (Err (moved_by j.taken refusal))
piece_refused j k q piece S T takes (Bad p) fresh refused same (halts, brings) = (refused, told)
  where
    told : (bytes : List ℕ) → JsonStands j bytes
        → JsonStands k (bytes ++ piece) × IsRefused json_syntax (bytes ++ piece) (Bad (j.taken + p))
        × (Follows json_timing S bytes → Follows json_timing T (take (j.taken + p) (bytes ++ piece)))
    told bytes (open_still, come) =
        let read : JsonHasRead j bytes = come_read json_source j bytes fresh come in
        let is : IsRefused json_syntax (bytes ++ piece) (Bad (j.taken + p)) = piece_bad j bytes piece p read halts in (
          (same ∙ open_still, refused_come json_source k (bytes ++ piece) (Bad (j.taken + p)) refused is),
          is,
          follows_to j bytes piece p S T takes read brings,
        )
piece_refused j k q piece S T takes Ended fresh refused same h = absurd h
piece_refused j k q piece S T takes (TooDeep p) fresh refused same (deepens, brings) = (refused, told)
  where
    told : (bytes : List ℕ) → JsonStands j bytes
        → JsonStands k (bytes ++ piece) × IsRefused json_syntax (bytes ++ piece) (TooDeep (j.taken + p))
        × (Follows json_timing S bytes → Follows json_timing T (take (j.taken + p) (bytes ++ piece)))
    told bytes (open_still, come) =
        let read : JsonHasRead j bytes = come_read json_source j bytes fresh come in
        let is : IsRefused json_syntax (bytes ++ piece) (TooDeep (j.taken + p)) = piece_deep j bytes piece p read deepens in (
          (same ∙ open_still, refused_come json_source k (bytes ++ piece) (TooDeep (j.taken + p)) refused is),
          is,
          follows_to j bytes piece p S T takes read brings,
        )
piece_refused j k q piece S T takes (KeyKind p) fresh refused same h = absurd h
piece_refused j k q piece S T takes NoMemory fresh refused same h = refused

pub takes_refused : (r q : Reader) (piece : List ℕ) (S T : StandsFor) (before takes : Takes) (by : ℕ) (refusal : SyntaxRefusal)
    → JsonTakesAll r S piece q T takes (Err refusal) → TakesBeside before takes (moved_by by refusal)
takes_refused r q piece S T before takes by (Bad p) h = λ e g. h.1.fed.takes_all e
takes_refused r q piece S T before takes by Ended h = absurd h
takes_refused r q piece S T before takes by (TooDeep p) h = λ e g. h.1.fed.takes_all e
takes_refused r q piece S T before takes by (KeyKind p) h = absurd h
takes_refused r q piece S T before takes by NoMemory h = tt

-- the end of the bytes
leads_of : (j : JsonReader) (bytes : List ℕ) (read : JsonHasRead j bytes)
    → JsonLeads most_levels json_start bytes read.out (json_state j.reader)
leads_of j bytes read = begun read.first j.reader bytes read.out read.goes read.begins

all_complete : (n : Node) (bytes : List ℕ) → JsonText n bytes → levels n ≤ most_levels
    → (es : List NodeEvent) × CompletesAll json_timing bytes es × Streams n es []
all_complete n bytes text room =
    let (ts, timed) = text_timed n bytes text in
    let (spelt, told) = timed_text n bytes ts timed in
    (untimed ts, (n, ts, timed, room, refl), subst (λ es. Streams n es []) (sym told) (events_stream n []))

pub ends_here : (j : JsonReader) (bytes : List ℕ) → JsonHasRead j bytes → JsonMayEnd j.reader true → JsonEndsWith j bytes (Ok tt)
ends_here j bytes read (last, rest) =
    let (n, text, room, is) = run_is_text most_levels bytes read.out last (json_state j.reader) (leads_of j bytes read) rest in
    let (es, all, stream) = all_complete n bytes text room in (n, es, (text, room), all, stream)

pub cut_here : (j : JsonReader) (bytes : List ℕ) → JsonHasRead j bytes → JsonMayEnd j.reader false → IsRefused json_syntax bytes Ended
cut_here j bytes read none = record {
  begun = begun_whole read.first j.reader bytes read.out read.begins read.goes;
  no_text = λ n (text, room). run_is_cut most_levels bytes read.out (json_state j.reader) (leads_of j bytes read) none n text room;
}

-- the sink stands for all the events of a text that ends
follows_last : (j : JsonReader) (bytes : List ℕ) (S T : StandsFor) (takes : Takes) → JsonHasRead j bytes
    → JsonEndsText j.reader S T takes (Ok tt)
    → Follows json_timing S bytes → FollowsAll T bytes
follows_last j bytes S T takes read (last, rest, hands, all) follows = (whole, λ unread. absurd (unread n (text, room)))
  where
    run : (n : Node) × JsonText n bytes × (levels n ≤ most_levels) × (read.out ++ untimed last ≡ events n [])
    run = run_is_text most_levels bytes read.out last (json_state j.reader) (leads_of j bytes read) rest

    n : Node
    n = run.0

    text : JsonText n bytes
    text = run.1

    room : levels n ≤ most_levels
    room = run.2

    whole : (es : List NodeEvent) → CompletesAll json_timing bytes es → T es
    whole es (m, ts, timed, deep, is) =
        let (spelt, told) = timed_text m bytes ts timed in
        let one : m ≡ n = one_tree m n bytes spelt text in
        let stands : S read.out = follows read.out (bytes_complete read.first j.reader bytes read.out read.goes read.begins) in
        let same : es ≡ read.out ++ untimed last = is ∙ told ∙ ap (λ x. events x []) one ∙ sym run.3 in
        subst T (sym same) (hands read.out stands (whole_begins n (read.out ++ untimed last) run.3))

-- without an end, what has come is all that the bytes complete, and no text ends there
follows_none : (j : JsonReader) (bytes : List ℕ) (S : StandsFor) → JsonHasRead j bytes → JsonMayEnd j.reader false
    → Follows json_timing S bytes → FollowsAll S bytes
follows_none j bytes S read none follows = (
  λ es (n, ts, timed, room, is).
      absurd (run_is_cut most_levels bytes read.out (json_state j.reader) (leads_of j bytes read) none n
      (timed_text n bytes ts timed).0 room),
  λ unread. follows,
)

-- a flush changes no more than that it was one
flushed_read : (j k : JsonReader) (bytes : List ℕ) → k ≡ record j { flushed = true } → JsonHasRead j bytes → JsonHasRead k bytes
flushed_read j k bytes same read =
    subst (λ i. JsonHasRead i bytes) (sym same)
    (record { first = read.first; begins = read.begins; out = read.out; goes = read.goes; taken = read.taken; black = read.black })

pub flush_last : (j : JsonReader) (S T : StandsFor) (takes : Takes) → j.refused ≡ None → JsonEndsText j.reader S T takes (Ok tt)
    → JsonFlushes S j T (record j { flushed = true }) (Ok tt)
flush_last j S T takes fresh ends = (
  fresh,
  λ bytes (open_still, come).
      let read : JsonHasRead j bytes = come_read json_source j bytes fresh come in
      let still = flushed_read j (record j { flushed = true }) bytes refl read in (
        (refl, read_come json_source (record j { flushed = true }) bytes fresh still),
        follows_last j bytes S T takes read ends,
      ),
)

pub flush_none : (j : JsonReader) (S : StandsFor) → j.refused ≡ None → (JsonIsSound j.reader → JsonMayEnd j.reader false)
    → JsonFlushes S j S (record j { flushed = true }) (Ok tt)
flush_none j S fresh none = (
  fresh,
  λ bytes (open_still, come).
      let read : JsonHasRead j bytes = come_read json_source j bytes fresh come in
      let still = flushed_read j (record j { flushed = true }) bytes refl read in (
        (refl, read_come json_source (record j { flushed = true }) bytes fresh still),
        follows_none j bytes S read (none read.goes.sound),
      ),
)

-- the bytes complete the event of `null` alone exactly where they are a text of it
null_handed : (n : Node) (bytes more : List ℕ) (os ts us : List TimedEvent) → HandsOn (length more) os (null_event ∷ []) → ts ≡ os ++ us
    → json_timing n (bytes ++ more) ts → JsonText null bytes
null_handed n bytes more [] ts us h parts timed = absurd h
null_handed n bytes more (by_end d ∷ os) ts us h parts timed = absurd h
null_handed n bytes more (by_byte d k ∷ os) ts us (same, less, rest) parts timed =
    let (spelt, told) = timed_text n (bytes ++ more) ts timed in
    let all : null_event ∷ untimed (os ++ us) ≡ events n [] =
    ap (λ e. e ∷ untimed (os ++ us)) (sym same) ∙ sym (ap untimed parts) ∙ told in
    let times : ts ≡ by_byte null_event k ∷ (os ++ us) = parts ∙ ap (λ e. by_byte e k ∷ (os ++ us)) same in
    null_whole bytes more k (os ++ us)
    (subst (λ m. json_timing m (bytes ++ more) (by_byte null_event k ∷ (os ++ us))) (null_by_event n (untimed (os ++ us)) all)
    (subst (json_timing n (bytes ++ more)) times timed)) less

null_text : (j : JsonReader) (bytes : List ℕ) → JsonHasRead j bytes → Completes json_timing bytes (null_event ∷ []) → JsonText null bytes
null_text j bytes read (more, n, ts, timed, room, is) =
    let one : null_event ∷ [] ≡ read.out =
    bytes_complete_one read.first j.reader bytes read.out (null_event ∷ []) read.goes read.begins (more, n, ts, timed, room, is) in
    let (os, us, parts, hands, rest) = (leads_of j bytes read).onward more ts (timed_start most_levels (bytes ++ more) n ts timed room) in
    null_handed n bytes more os ts us (subst (HandsOn (length more) os) (sym one) hands) parts timed

null_told : (j : JsonReader) (bytes : List ℕ) → JsonHasRead j bytes → j.first ≡ Some 110 → JsonMayEnd j.reader true
    → Completes json_timing bytes (null_event ∷ [])
null_told j bytes read first over =
    let (n, es, (text, room), all, stream) = ends_here j bytes read over in
    let (c, black, begins) = text_first n bytes text in
    let is : Some c ≡ Some 110 = sym black ∙ sym read.black ∙ first in
    let same : c ≡ 110 = cc in
    null_completes bytes (subst (λ m. JsonText m bytes) (null_by_first n (subst (FirstByte n) same begins)) text)

pub null_by_end : (j : JsonReader) (bytes : List ℕ) (over : Bool) → j.refused ≡ None → j.first ≡ Some 110
    → (JsonIsSound j.reader → JsonMayEnd j.reader over)
    → JsonHasCome j bytes → IsTrue over ↔ Completes json_timing bytes (null_event ∷ [])
null_by_end j bytes true fresh first ends come =
    let read : JsonHasRead j bytes = come_read json_source j bytes fresh come in
    (λ t. null_told j bytes read first (ends read.goes.sound), λ h. refl)
null_by_end j bytes false fresh first ends come =
    let read : JsonHasRead j bytes = come_read json_source j bytes fresh come in (
      λ e. cc,
      λ h. absurd (run_is_cut most_levels bytes read.out (json_state j.reader) (leads_of j bytes read) (ends read.goes.sound) null
          (null_text j bytes read h) (omega arith)),
    )

pub no_null : (j : JsonReader) (bytes : List ℕ) → j.refused ≡ None → (j.first ≡ Some 110 → ⊥) → JsonHasCome j bytes
    → IsTrue false ↔ Completes json_timing bytes (null_event ∷ [])
no_null j bytes fresh other come =
    let read : JsonHasRead j bytes = come_read json_source j bytes fresh come in (
      λ e. cc,
      λ h.
          let (c, black, is) = text_first null bytes (null_text j bytes read h) in
          absurd (other (read.black ∙ black ∙ ap Some is)),
    )

-- what was read completes what was handed on
pub read_completes : (j : JsonReader) (bytes : List ℕ) → JsonHasRead j bytes → (es : List NodeEvent) × Completes json_timing bytes es
read_completes j bytes read = (read.out, bytes_complete read.first j.reader bytes read.out read.goes read.begins)

pub standing_completes : StandingCompletes
standing_completes j bytes come fresh = read_completes j bytes (come_read json_source j bytes fresh come)
