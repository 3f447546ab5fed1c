-- Of a body by pieces: from what its reader says of a sink to what it says of the decoder in the sink.
use Rattle.std.proofs.Common.{arith, length, ◌≡◌, ◌≤◌, ◌+◌, ◌*◌, ℕ, List, [], ◌++◌, None, Some, take, drop, suc, refl, sym, ap, ◌∙◌, subst}
use Rattle.std.proofs.Math.Seq.{take-add}
use Rattle.std.proofs.lemmas.Nat.{mul-le}
use Rattle.std.specs.Prelude.{Result, Ok, Err, OnOk, IfSome, Option}
use Rattle.sm_tree.specs.Events.{NodeEvent}
use Rattle.sm_tree.specs.Streams.{StandsFor}
use Rattle.sm_tree.specs.Syntax.{Syntax}
use Rattle.sm_tree.specs.Timing.{Follows}
use Rattle.sm_tree.specs.TimingLaws.{TimesTexts, HasFewEvents, BeginsTrees}
use Rattle.sm_tree.specs.Limits.{most_levels}
use Rattle.sm_tree.specs.Building.{Building, nothing, whole, within, kinds}
use Rattle.sm_tree.specs.OpenLevels.{OpensNoMore, KindsAreLevels}
use Rattle.sm_codec.specs.Walk.{levels_open}
use Rattle.std.proofs.lemmas.List.{length-map}
use Rattle.sm_tree.specs.Sources.{SourceOf, SourceStands, FollowsAs, HasFed, MayFeed, SourceFeeds, ReadsInto, ReadCompletes}
use Rattle.sm_tree.specs.declared.refusal.SyntaxRefusal.{SyntaxRefusal}
use Rattle.sm_tree.specs.declared.refusal.SyntaxRefusal.TheVariants.{Bad, Ended, KeyKind, NoMemory, TooDeep}
use Rattle.sm_tree.proofs.Sources.{no_refusal, none_yet, follows_now, fed_to, fed_on, few_fed}
use Rattle.sm_shapes.specs.InOrder.{Shaped, AreStored, most_defaults}
use Rattle.sm_codec.specs.Bound.{decoding_nodes, known_trees, StaysBounded}
use Rattle.sm_codec.specs.Codec.{Codec}
use Rattle.sm_codec.specs.CodecLaws.{IsCodec}
use Rattle.sm_codec.specs.DecodingView.{decoding_of, decodes_so_far, IsFed}
use Rattle.sm_codec.specs.Kept.{Kept}
use Rattle.sm_codec.specs.declared.decoder.Decoder.{Decoder}
use Rattle.sm_bodies.specs.Fed.{BodyFed, SomeFed}

pub on_ok : {A E B C : Type 0} (r : Result A E) → OnOk r B → (B → C) → OnOk r C
on_ok (Ok x) h f = f h
on_ok (Err e) h f = tt

-- a body that was begun
pub body_begun : {R : Type 0} (s : SourceOf R) (c : Codec) (shape : ℕ) (r : R) (d : Decoder) → SourceStands s r [] → s.refusal r ≡ None
    → HasFewEvents s.timing → Kept c [] (decoding_of d) → (decoding_of d).shape ≡ shape → BodyFed s c shape r d []
body_begun s c shape r d stands fresh few empty is =
    let follows : Follows s.timing (decodes_so_far c d) [] = λ es done.
    subst (λ fs. Kept c fs (decoding_of d)) (sym (none_yet s.timing few es done)) empty in (
      is,
      (
        stands,
        λ ended. no_refusal (s.refusal r) Ended fresh ended,
        subst (λ o. FollowsAs s.timing (decodes_so_far c d) o []) (sym fresh) follows,
      ),
    )

-- a sink with the decoder stands for what the decoder does
sink_fed : {R : Type 0} (s : SourceOf R) (c : Codec) (added : List (List ℕ)) (r : R) (d : Decoder) (bytes : List ℕ) → Shaped c.table
    → AreStored c.table.patterns added → HasFed s r (decodes_so_far c d) bytes → HasFed s r (IsFed c added d) bytes
sink_fed s c added r d bytes shaped stored fed =
    fed_to s r (decodes_so_far c d) (IsFed c added d) bytes (λ es kept. (kept, shaped, stored)) fed

pub may_feed : {R : Type 0} (s : SourceOf R) (c : Codec) (added : List (List ℕ)) (r : R) (d : Decoder) → Shaped c.table
    → AreStored c.table.patterns added → SomeFed s c r d → MayFeed s r (IsFed c added d)
may_feed s c added r d shaped stored (shape, bytes, (is, fed)) =
    λ fresh. (
      bytes,
      fed.0,
      follows_now s r (IsFed c added d) bytes fresh (sink_fed s c added r d bytes shaped stored fed),
    )

-- a piece, and the end
pub piece_fed : {R : Type 0} (s : SourceOf R) (c : Codec) (added : List (List ℕ)) (T : StandsFor) (before behind : R) (d e : Decoder)
    (piece : List ℕ) (res : Result (Unit {0}) SyntaxRefusal) (Same : Type 0) → Shaped c.table → AreStored c.table.patterns added
    → (s.refusal before ≡ None → SourceFeeds s (IsFed c added d) before piece T behind res)
    → IfSome (s.refusal before) (λ given. (res ≡ Err given) × (behind ≡ before) × Same)
    → (Same → (es : List NodeEvent) → IsFed c added d es → T es) → ((es : List NodeEvent) → T es → Kept c es (decoding_of e))
    → (decoding_of d).shape ≡ (decoding_of e).shape → (shape : ℕ) (bytes : List ℕ) → BodyFed s c shape before d bytes
    → (res ≡ Err NoMemory → ⊥) → BodyFed s c shape behind e (bytes ++ piece)
piece_fed s c added T before behind d e piece res Same shaped stored feeds again still kept same shape bytes (is, fed) other =
    let sink = sink_fed s c added before d bytes shaped stored fed in
    let on = fed_on s (IsFed c added d) T before behind bytes piece res Same feeds again still sink other in
    (sym same ∙ is, fed_to s behind T (decodes_so_far c e) (bytes ++ piece) kept on)

read_as : (F : Syntax) (T U : StandsFor) (bytes : List ℕ) (res : Result (Unit {0}) SyntaxRefusal) → ((es : List NodeEvent) → T es → U es)
    → ReadsInto F T bytes res → ReadsInto F U bytes res
read_as F T U bytes (Ok x) on (n, es, read, stream, stands) = (n, es, read, stream, on es stands)
read_as F T U bytes (Err refusal) on h = h

pub end_fed : {R : Type 0} (s : SourceOf R) (c : Codec) (added : List (List ℕ)) (T : StandsFor) (r : R) (d e : Decoder)
    (res : Result (Unit {0}) SyntaxRefusal) → Shaped c.table → AreStored c.table.patterns added
    → ((bytes : List ℕ) → HasFed s r (IsFed c added d) bytes → ReadsInto s.syntax T bytes res)
    → ((es : List NodeEvent) → T es → IsFed c added e es) → (shape : ℕ) (bytes : List ℕ) → BodyFed s c shape r d bytes
    → ReadsInto s.syntax (IsFed c added e) bytes res
end_fed s c added T r d e res shaped stored ends kept shape bytes (is, fed) =
    read_as s.syntax T (IsFed c added e) bytes res kept (ends bytes (sink_fed s c added r d bytes shaped stored fed))

-- a reader that ran out of memory says so
told_again : {R : Type 0} (s : SourceOf R) (before behind : R) (given : SyntaxRefusal) (res : Result (Unit {0}) SyntaxRefusal)
    → s.refusal before ≡ Some given → res ≡ Err given → behind ≡ before → s.refusal behind ≡ Some NoMemory → res ≡ Err NoMemory
told_again s before behind given res is told same out =
    told ∙ ap Err (same_refusal given NoMemory (sym is ∙ ap s.refusal (sym same) ∙ out))
  where
    same_refusal : (a b : SyntaxRefusal) → Some a ≡ Some b → a ≡ b
    same_refusal a b e = cc

told_now : {R : Type 0} (s : SourceOf R) (S T : StandsFor) (before behind : R) (piece : List ℕ) (res : Result (Unit {0}) SyntaxRefusal)
    → SourceFeeds s S before piece T behind res → s.refusal behind ≡ Some NoMemory → res ≡ Err NoMemory
told_now s S T before behind piece (Ok x) h out = let first = h.0 in absurd cc
told_now s S T before behind piece (Err NoMemory) h out = refl
told_now s S T before behind piece (Err Ended) h out = absurd h
told_now s S T before behind piece (Err (Bad p)) h out = let first = h.0 in absurd cc
told_now s S T before behind piece (Err (TooDeep p)) h out = let first = h.0 in absurd cc
told_now s S T before behind piece (Err (KeyKind p)) h out = let first = h.0 in absurd cc

pub memory_told : {R : Type 0} (s : SourceOf R) (S T : StandsFor) (before behind : R) (piece : List ℕ) (res : Result (Unit {0}) SyntaxRefusal)
    (Same : Type 0) → (s.refusal before ≡ None → SourceFeeds s S before piece T behind res)
    → IfSome (s.refusal before) (λ given. (res ≡ Err given) × (behind ≡ before) × Same) → s.refusal behind ≡ Some NoMemory
    → res ≡ Err NoMemory
memory_told {R} s S T before behind piece res Same feeds again out = by (s.refusal before) refl again
  where
    by : (o : Option SyntaxRefusal) → s.refusal before ≡ o → IfSome o (λ given. (res ≡ Err given) × (behind ≡ before) × Same)
        → res ≡ Err NoMemory
    by None is h = told_now s S T before behind piece res (feeds is) out
    by (Some given) is h = told_again s before behind given res is h.0 h.1 out

-- the bytes so far, and a piece of so many behind them
pub piece_behind : (i n k : ℕ) (xs : List ℕ) → k ≡ n → take i xs ++ take k (drop i xs) ≡ take (i + n) xs
piece_behind i n k xs same = ap (λ m. take i xs ++ take m (drop i xs)) same ∙ sym (take-add i n xs)

-- what it holds is bounded: its values by its bytes, and its frames by the levels that are read
pub held_few : {R : Type 0} (s : SourceOf R) (c : Codec) (shape : ℕ) (r : R) (d : Decoder) (bytes : List ℕ)
    → TimesTexts s.syntax.text s.timing → HasFewEvents s.timing → BeginsTrees s.timing → ReadCompletes s → IsCodec c
    → StaysBounded (decoding_of d) → (s.refusal r ≡ Some NoMemory → ⊥) → BodyFed s c shape r d bytes
    → decoding_nodes (decoding_of d) ≤ (1 + most_defaults c.table) * (2 * length bytes)
held_few s c shape r d bytes times few trees complete laws stays memory (is, fed) =
    let (es, kept, count, begins) = few_fed s r (decodes_so_far c d) bytes times few trees complete memory fed in
    let bounded = stays c es laws kept in
    let nodes = bounded.nodes in
    let known = bounded.trees in
    let all = mul-le (1 + most_defaults c.table) (known_trees c (decoding_of d).shape kept.building) (1 + most_defaults c.table)
    (2 * length bytes) (omega arith) (omega (arith, known, count)) in
    omega (arith, nodes, all)

levels_counted : (b : Building) → length (levels_open b) ≡ length (kinds b)
levels_counted (nothing ts) = refl
levels_counted (whole n) = refl
levels_counted (within ts inner outer) = ap suc (length-map outer _ ∙ sym (length-map outer _))

pub held_shallow : {R : Type 0} (s : SourceOf R) (c : Codec) (shape : ℕ) (r : R) (d : Decoder) (bytes : List ℕ)
    → TimesTexts s.syntax.text s.timing → HasFewEvents s.timing → BeginsTrees s.timing → ReadCompletes s → OpensNoMore → KindsAreLevels
    → IsCodec c → StaysBounded (decoding_of d) → (s.refusal r ≡ Some NoMemory → ⊥) → BodyFed s c shape r d bytes
    → length (decoding_of d).frames ≤ most_levels + 1
held_shallow s c shape r d bytes times few trees complete opens levelled laws stays memory (is, fed) =
    let (es, kept, count, begins) = few_fed s r (decodes_so_far c d) bytes times few trees complete memory fed in
    let (n, more, stream, room) = begins in
    let bounded = stays c es laws kept in
    let frames = bounded.frames in
    let around = bounded.around in
    let same = levels_counted kept.building in
    let open_kinds = levelled kept.building in
    let open_few = opens kept.building es more n kept.taken stream in
    omega (arith, frames, around, same, open_kinds, open_few, room)
