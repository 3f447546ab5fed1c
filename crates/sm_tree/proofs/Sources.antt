-- Of any reader that takes pieces: what has come to it, where nothing is refused and where something is; what a refusal that was given
-- before says of more bytes, of a sink, and of the end.
use Rattle.std.proofs.Common.{◌≡◌, ◌≤◌, ◌*◌, ℕ, List, [], ◌∷◌, ◌++◌, Option, None, Some, refl, sym, ap, subst, ◌∙◌, arith}
use Rattle.std.proofs.Common.{length, length-append, take, drop, take-append-drop}
use Rattle.std.specs.Prelude.{Result, Ok, Err, IfSome}
use Rattle.sm_tree.specs.Events.{NodeEvent}
use Rattle.sm_tree.specs.Limits.{most_levels}
use Rattle.sm_tree.specs.Levels.{levels}
use Rattle.sm_tree.specs.Node.{Node}
use Rattle.sm_tree.specs.Streams.{StandsFor, Takes, Streams}
use Rattle.sm_tree.specs.Syntax.{Syntax, TreeFormat, BeginsRead}
use Rattle.sm_tree.specs.Refusal.{IsWithin}
use Rattle.sm_tree.specs.Timing.{Timing, complete_with, Completes, Follows}
use Rattle.sm_tree.specs.TimingLaws.{TimesTexts, HasFewEvents, BeginsTrees}
use Rattle.sm_tree.specs.ReaderClauses.{TakesBeside, StaysRefused}
use Rattle.sm_tree.specs.Sources.{SourceOf, RefusedSo, ComeAs, HasCome, SourceStands, FollowsAs, HasFed, RefusesWith, SourceFeeds}
use Rattle.sm_tree.specs.Sources.{EndsWith, ReadCompletes}
use Rattle.sm_tree.specs.declared.refusal.SyntaxRefusal.{SyntaxRefusal}
use Rattle.sm_tree.specs.declared.refusal.SyntaxRefusal.TheVariants.{Bad, Ended, TooDeep, KeyKind, NoMemory}
use Rattle.sm_tree.proofs.LongerBytes.{same_prefix, refused_longer}

-- one that has refused nothing has read what has come
pub come_read : {R : Type 0} (s : SourceOf R) (r : R) (bytes : List ℕ) → s.refusal r ≡ None → HasCome s r bytes → s.has_read r bytes
come_read s r bytes fresh come = subst (λ o. ComeAs s o r bytes) fresh come

pub read_come : {R : Type 0} (s : SourceOf R) (r : R) (bytes : List ℕ) → s.refusal r ≡ None → s.has_read r bytes → HasCome s r bytes
read_come s r bytes fresh read = subst (λ o. ComeAs s o r bytes) (sym fresh) read

-- to one that has refused, the bytes are refused so
pub come_refused : {R : Type 0} (s : SourceOf R) (r : R) (bytes : List ℕ) (refusal : SyntaxRefusal) → s.refusal r ≡ Some refusal
    → HasCome s r bytes → RefusedSo s.syntax bytes refusal
come_refused s r bytes refusal is come = subst (λ o. ComeAs s o r bytes) is come

pub refused_come : {R : Type 0} (s : SourceOf R) (r : R) (bytes : List ℕ) (refusal : SyntaxRefusal) → s.refusal r ≡ Some refusal
    → RefusedSo s.syntax bytes refusal → HasCome s r bytes
refused_come s r bytes refusal is refused = subst (λ o. ComeAs s o r bytes) (sym is) refused

-- it has refused nothing, or something
pub no_refusal : (refused : Option SyntaxRefusal) (refusal : SyntaxRefusal) → refused ≡ None → refused ≡ Some refusal → ⊥
no_refusal None refusal fresh is = cc
no_refusal (Some r) refusal fresh is = cc

-- what was refused at a place is refused so in longer bytes
longer : (F : Syntax) (bytes more : List ℕ) (refusal : SyntaxRefusal) → (refusal ≡ Ended → ⊥) → RefusedSo F bytes refusal
    → RefusedSo F (bytes ++ more) refusal
longer F bytes more (Bad at) other h = refused_longer F bytes more (Bad at) other h
longer F bytes more Ended other h = absurd (other refl)
longer F bytes more (TooDeep at) other h = refused_longer F bytes more (TooDeep at) other h
longer F bytes more (KeyKind at) other h = refused_longer F bytes more (KeyKind at) other h
longer F bytes more NoMemory other h = tt

stays : {R : Type 0} (s : SourceOf R) (r : R) (more : List ℕ) (refusal : SyntaxRefusal) → s.refusal r ≡ Some refusal
    → (refusal ≡ Ended → ⊥) → (bytes : List ℕ) → SourceStands s r bytes → SourceStands s r (bytes ++ more)
stays s r more refusal is other bytes (grows, come) =
    (grows, refused_come s r (bytes ++ more) refusal is (longer s.syntax bytes more refusal other (come_refused s r bytes refusal is come)))

stays_at : {R : Type 0} (s : SourceOf R) (o : Option SyntaxRefusal) (r : R) (more : List ℕ) → s.refusal r ≡ o
    → StaysRefused (SourceStands s) o r more
stays_at s None r more is = tt
stays_at s (Some NoMemory) r more is = tt
stays_at s (Some Ended) r more is = tt
stays_at s (Some (Bad at)) r more is = stays s r more (Bad at) is (λ e. cc)
stays_at s (Some (TooDeep at)) r more is = stays s r more (TooDeep at) is (λ e. cc)
stays_at s (Some (KeyKind at)) r more is = stays s r more (KeyKind at) is (λ e. cc)

pub stays_refused : {R : Type 0} (s : SourceOf R) (r : R) (more : List ℕ) → StaysRefused (SourceStands s) (s.refusal r) r more
stays_refused s r more = stays_at s (s.refusal r) r more refl

-- what a refusal leaves of what the sink takes
pub takes_again : (T : Takes) (refusal : SyntaxRefusal) → TakesBeside T T refusal
takes_again T (Bad at) = λ e h. h
takes_again T Ended = λ e h. h
takes_again T (TooDeep at) = λ e h. h
takes_again T (KeyKind at) = λ e h. h
takes_again T NoMemory = tt

-- the end, where it has refused before; and what is refused there
pub ended_again : {R : Type 0} (s : SourceOf R) (AllOf : List ℕ → List NodeEvent → Type 0) (r : R) (bytes : List ℕ)
    (refusal : SyntaxRefusal) → s.refusal r ≡ Some refusal → HasCome s r bytes → EndsWith s AllOf r bytes (Err refusal)
ended_again s AllOf r bytes (Bad at) is come = come_refused s r bytes (Bad at) is come
ended_again s AllOf r bytes Ended is come = come_refused s r bytes Ended is come
ended_again s AllOf r bytes (TooDeep at) is come = come_refused s r bytes (TooDeep at) is come
ended_again s AllOf r bytes (KeyKind at) is come = come_refused s r bytes (KeyKind at) is come
ended_again s AllOf r bytes NoMemory is come = is

pub end_refused : {R : Type 0} (s : SourceOf R) (AllOf : List ℕ → List NodeEvent → Type 0) (r : R) (bytes : List ℕ)
    (refusal : SyntaxRefusal) → EndsWith s AllOf r bytes (Err refusal) → RefusedSo s.syntax bytes refusal
end_refused s AllOf r bytes (Bad at) h = h
end_refused s AllOf r bytes Ended h = h
end_refused s AllOf r bytes (TooDeep at) h = h
end_refused s AllOf r bytes (KeyKind at) h = h
end_refused s AllOf r bytes NoMemory h = tt

-- what a sink stands for, seen by another relation
follows_to : (T : Timing) (S U : StandsFor) (o : Option SyntaxRefusal) (bytes : List ℕ) → ((es : List NodeEvent) → S es → U es)
    → FollowsAs T S o bytes → FollowsAs T U o bytes
follows_to T S U None bytes on h = λ es done. on es (h es done)
follows_to T S U (Some Ended) bytes on h = λ es done. on es (h es done)
follows_to T S U (Some (Bad at)) bytes on h = λ es done. on es (h es done)
follows_to T S U (Some (TooDeep at)) bytes on h = λ es done. on es (h es done)
follows_to T S U (Some (KeyKind at)) bytes on h = λ es done. on es (h es done)
follows_to T S U (Some NoMemory) bytes on h = tt

pub fed_to : {R : Type 0} (s : SourceOf R) (r : R) (S U : StandsFor) (bytes : List ℕ) → ((es : List NodeEvent) → S es → U es)
    → HasFed s r S bytes → HasFed s r U bytes
fed_to s r S U bytes on (stands, going, follows) = (stands, going, follows_to s.timing S U (s.refusal r) bytes on follows)

pub follows_now : {R : Type 0} (s : SourceOf R) (r : R) (S : StandsFor) (bytes : List ℕ) → s.refusal r ≡ None → HasFed s r S bytes
    → Follows s.timing S bytes
follows_now s r S bytes fresh (stands, going, follows) = subst (λ o. FollowsAs s.timing S o bytes) fresh follows

-- a place that is refused is one of the bytes, so those before it are the same with more behind
within_of : (F : Syntax) (bytes : List ℕ) (refusal : SyntaxRefusal) → RefusedSo F bytes refusal → IsWithin (length bytes) refusal
within_of F bytes (Bad at) h = h.bad.inside
within_of F bytes Ended h = tt
within_of F bytes (TooDeep at) h = h.inside
within_of F bytes (KeyKind at) h = h.bad.inside
within_of F bytes NoMemory h = tt

follows_longer : (T : Timing) (S : StandsFor) (bytes more : List ℕ) (given : SyntaxRefusal) → (given ≡ Ended → ⊥)
    → IsWithin (length bytes) given → FollowsAs T S (Some given) bytes → FollowsAs T S (Some given) (bytes ++ more)
follows_longer T S bytes more (Bad at) other inside h = subst (Follows T S) (sym (same_prefix bytes more at (omega (arith, inside)))) h
follows_longer T S bytes more Ended other inside h = absurd (other refl)
follows_longer T S bytes more (TooDeep at) other inside h = subst (Follows T S) (sym (same_prefix bytes more at (omega (arith, inside)))) h
follows_longer T S bytes more (KeyKind at) other inside h = subst (Follows T S) (sym (same_prefix bytes more at (omega (arith, inside)))) h
follows_longer T S bytes more NoMemory other inside h = tt

-- what was fed goes on with a piece, unless memory ran out
placed_on : {R : Type 0} (s : SourceOf R) (S T : StandsFor) (before behind : R) (bytes piece : List ℕ) (at : ℕ) (refusal : SyntaxRefusal)
    → s.refusal before ≡ None → RefusesWith s S before piece T behind at refusal → (refusal ≡ Ended → ⊥)
    → (Follows s.timing T (take at (bytes ++ piece)) → FollowsAs s.timing T (Some refusal) (bytes ++ piece)) → HasFed s before S bytes
    → HasFed s behind T (bytes ++ piece)
placed_on s S T before behind bytes piece at refusal fresh (told, on) other place fed =
    let (there, refused, next) = on bytes fed.0 in (
      there,
      λ is. let same : Some refusal ≡ Some Ended = sym told ∙ is in other cc,
      subst (λ o. FollowsAs s.timing T o (bytes ++ piece)) (sym told) (place (next (follows_now s before S bytes fresh fed))),
    )

fed_now : {R : Type 0} (s : SourceOf R) (S T : StandsFor) (before behind : R) (bytes piece : List ℕ)
    (res : Result (Unit {0}) SyntaxRefusal) → s.refusal before ≡ None → SourceFeeds s S before piece T behind res
    → HasFed s before S bytes → (res ≡ Err NoMemory → ⊥) → HasFed s behind T (bytes ++ piece)
fed_now s S T before behind bytes piece (Ok x) fresh (still, on) fed other =
    let (there, next) = on bytes fed.0 in (
      there,
      λ is. no_refusal (s.refusal behind) Ended still is,
      subst (λ o. FollowsAs s.timing T o (bytes ++ piece)) (sym still) (next (follows_now s before S bytes fresh fed)),
    )
fed_now s S T before behind bytes piece (Err (Bad at)) fresh feeds fed other =
    placed_on s S T before behind bytes piece at (Bad at) fresh feeds (λ e. cc) (λ h. h) fed
fed_now s S T before behind bytes piece (Err (TooDeep at)) fresh feeds fed other =
    placed_on s S T before behind bytes piece at (TooDeep at) fresh feeds (λ e. cc) (λ h. h) fed
fed_now s S T before behind bytes piece (Err (KeyKind at)) fresh feeds fed other =
    placed_on s S T before behind bytes piece at (KeyKind at) fresh feeds (λ e. cc) (λ h. h) fed
fed_now s S T before behind bytes piece (Err Ended) fresh feeds fed other = absurd feeds
fed_now s S T before behind bytes piece (Err NoMemory) fresh feeds fed other = absurd (other refl)

fed_again : {R : Type 0} (s : SourceOf R) (S T : StandsFor) (before : R) (bytes piece : List ℕ) (given : SyntaxRefusal)
    → s.refusal before ≡ Some given → ((es : List NodeEvent) → S es → T es) → HasFed s before S bytes
    → HasFed s before T (bytes ++ piece)
fed_again s S T before bytes piece given is on (stands, going, follows) =
    let no_end : given ≡ Ended → ⊥ = λ e. going (is ∙ ap Some e) in
    let inside = within_of s.syntax bytes given (come_refused s before bytes given is stands.1) in
    let told = subst (λ o. FollowsAs s.timing S o bytes) is follows in
    let longer_told = follows_longer s.timing S bytes piece given no_end inside told in (
      stays s before piece given is no_end bytes stands,
      going,
      subst (λ o. FollowsAs s.timing T o (bytes ++ piece)) (sym is)
          (follows_to s.timing S T (Some given) (bytes ++ piece) on longer_told),
    )

pub fed_on : {R : Type 0} (s : SourceOf R) (S T : StandsFor) (before behind : R) (bytes piece : List ℕ)
    (res : Result (Unit {0}) SyntaxRefusal) (Same : Type 0) → (s.refusal before ≡ None → SourceFeeds s S before piece T behind res)
    → IfSome (s.refusal before) (λ given. (res ≡ Err given) × (behind ≡ before) × Same)
    → (Same → (es : List NodeEvent) → S es → T es) → HasFed s before S bytes → (res ≡ Err NoMemory → ⊥)
    → HasFed s behind T (bytes ++ piece)
fed_on s S T before behind bytes piece res Same feeds again on fed other = by_refusal (s.refusal before) refl
  where
    by_refusal : (o : Option SyntaxRefusal) → s.refusal before ≡ o → HasFed s behind T (bytes ++ piece)
    by_refusal None is = fed_now s S T before behind bytes piece res is (feeds is) fed other
    by_refusal (Some given) is =
        let (told, same, rest) = subst (λ o. IfSome o (λ x. (res ≡ Err x) × (behind ≡ before) × Same)) is again in
        subst (λ q. HasFed s q T (bytes ++ piece)) (sym same) (fed_again s S T before bytes piece given is (on rest) fed)

-- before the first byte no event is complete
no_events : (es : List NodeEvent) → length es ≤ 0 → es ≡ []
no_events [] h = refl
no_events (e ∷ es) h = absurd (omega (arith, h))

pub none_yet : (T : Timing) → HasFewEvents T → (es : List NodeEvent) → Completes T [] es → es ≡ []
none_yet T few es done = no_events es (few [] es done)

-- what was fed to a sink is some events, at most two for each byte, unless memory ran out
begun_completes : (F : TreeFormat) (T : Timing) (bytes : List ℕ) → TimesTexts F T → BeginsRead F bytes
    → (es : List NodeEvent) × Completes T bytes es
begun_completes F T bytes times (more, n, (text, room)) =
    let (ts, timed) = times.timed n (bytes ++ more) text in
    (complete_with (length more) ts, (more, n, ts, timed, room, refl))

-- what some bytes completed: a sink has these events, at most two for each byte, and they begin a stream of a tree of at most 100 levels
abbrev pub HoldsFew : StandsFor → List ℕ → Type 0
HoldsFew S bytes =
    (es : List NodeEvent) × S es × (length es ≤ 2 * length bytes)
    × ((n : Node) × (more : List NodeEvent) × Streams n (es ++ more) [] × (levels n ≤ most_levels))

few_before : (T : Timing) (S : StandsFor) (bytes : List ℕ) (at : ℕ) → HasFewEvents T → BeginsTrees T → Follows T S (take at bytes)
    → (es : List NodeEvent) × Completes T (take at bytes) es → HoldsFew S bytes
few_before T S bytes at few trees follows (es, done) =
    let count = few (take at bytes) es done in
    let whole = ap length (take-append-drop at bytes) in
    let parts = length-append (take at bytes) (drop at bytes) in
    (es, follows es done, omega (arith, count, whole, parts), trees (take at bytes) es done)

pub few_fed : {R : Type 0} (s : SourceOf R) (r : R) (S : StandsFor) (bytes : List ℕ) → TimesTexts s.syntax.text s.timing
    → HasFewEvents s.timing → BeginsTrees s.timing → ReadCompletes s → (s.refusal r ≡ Some NoMemory → ⊥) → HasFed s r S bytes
    → HoldsFew S bytes
few_fed s r S bytes times few trees complete memory (stands, going, follows) = by_refusal (s.refusal r) refl
  where
    by_refusal : (o : Option SyntaxRefusal) → s.refusal r ≡ o → HoldsFew S bytes
    by_refusal None is =
        let (es, done) = complete r bytes (come_read s r bytes is stands.1) in
        (es, subst (λ o. FollowsAs s.timing S o bytes) is follows es done, few bytes es done, trees bytes es done)
    by_refusal (Some Ended) is = absurd (going is)
    by_refusal (Some NoMemory) is = absurd (memory is)
    by_refusal (Some (Bad p)) is =
        let refused = come_refused s r bytes (Bad p) is stands.1 in
        few_before s.timing S bytes p few trees (subst (λ o. FollowsAs s.timing S o bytes) is follows)
        (begun_completes s.syntax.text s.timing (take p bytes) times refused.bad.before)
    by_refusal (Some (TooDeep p)) is =
        let refused = come_refused s r bytes (TooDeep p) is stands.1 in
        few_before s.timing S bytes p few trees (subst (λ o. FollowsAs s.timing S o bytes) is follows)
        (begun_completes s.syntax.text s.timing (take p bytes) times refused.before)
    by_refusal (Some (KeyKind p)) is =
        let refused = come_refused s r bytes (KeyKind p) is stands.1 in
        few_before s.timing S bytes p few trees (subst (λ o. FollowsAs s.timing S o bytes) is follows)
        (begun_completes s.syntax.text s.timing (take p bytes) times refused.bad.before)
