-- A session that was run behind what was played is the whole one.
use Rattle.std.proofs.Common.{◌≡◌, ◌≤◌, ℕ, ◌+◌, List, [], ◌∷◌, ◌++◌, take, drop, length, sym, ap, ◌∙◌, subst, arith}
use Rattle.std.proofs.Common.{append_assoc, append-nil, Option, Some, None}
use Rattle.std.specs.Prelude.{IfSome}
use Rattle.std.specs.Io.KnownBytes.{Consumes, Appends}
use Rattle.std.proofs.Math.Seq.{take-add, take-append_seam, drop-append_seam}
use Rattle.std.proofs.lemmas.Grind.{flat_map-append}
use Rattle.sm_io.specs.Causes.{Rose}
use Rattle.sm_io.specs.Seen.{LinkSeen}
use Rattle.sm_io.specs.Writing.{AppendsPrefix}
use Rattle.sm_io.proofs.Told.{consumes_both}
use Rattle.sm_session.specs.declared.session_end.SessionEnd.{SessionEnd}
use Rattle.sm_session.specs.declared.session_end.SessionEnd.TheVariants.{Closed, Quota, FrontEnded, BackEnded, FrontFraming, BackFraming}
use Rattle.sm_session.specs.declared.session_end.SessionEnd.TheVariants.{FrontRead, FrontWrite, BackRead, BackWrite, NoMemory}
use Rattle.sm_session.specs.Turns.{Turning}
use Rattle.sm_session.specs.Sessions.{SessionSaid, TurnsFrom, flat}
use Rattle.sm_session.specs.Ends.{IfBoth, PutsSession, PutsPrefixes, IsPut, IsPutAsTaken, IsPutUnanswered, EndsSo, CountsStay, SessionRun}
use Rattle.sm_session.specs.steps.Played.{Played, behind_said}

-- ---- what is appended

pub appends_none : (a : Option (List ℕ)) → Appends a a []
appends_none None = tt
appends_none (Some xs) = sym (append-nil xs)

pub appends_then : (a b c : Option (List ℕ)) (x y : List ℕ) → Appends a b x → Appends b c y → Appends a c (x ++ y)
appends_then None b c x y one two = tt
appends_then (Some p) None c x y one two = absurd one
appends_then (Some p) (Some q) None x y one two = absurd two
appends_then (Some p) (Some q) (Some r) x y one two = two ∙ ap (λ s. s ++ y) one ∙ append_assoc p x y

-- a prefix of one list of pieces, behind another
pub prefix_then : (a b c : Option (List ℕ)) (x y : List ℕ) → Appends a b x → AppendsPrefix b c y → AppendsPrefix a c (x ++ y)
prefix_then a b c x y one (count, two) =
    (length x + count, subst (Appends a c) (sym (take_behind x y count)) (appends_then a b c x (take count y) one two))
  where
    take_behind : (x y : List ℕ) (count : ℕ) → take (length x + count) (x ++ y) ≡ x ++ take count y
    take_behind x y count =
        take-add (length x) count (x ++ y) ∙ ap (λ s. s ++ take count (drop (length x) (x ++ y))) (take-append_seam x y)
        ∙ ap (λ s. x ++ take count s) (drop-append_seam x y)

flat_both : (a b : List (List ℕ)) → flat (a ++ b) ≡ flat a ++ flat b
flat_both a b = flat_map-append (λ piece. piece) a b

pub appends_flat : (x y z : Option (List ℕ)) (a b : List (List ℕ)) → Appends x y (flat a) → Appends y z (flat b)
    → Appends x z (flat (a ++ b))
appends_flat x y z a b one two = subst (Appends x z) (sym (flat_both a b)) (appends_then x y z (flat a) (flat b) one two)

pub prefix_flat : (x y z : Option (List ℕ)) (a b : List (List ℕ)) → Appends x y (flat a) → AppendsPrefix y z (flat b)
    → AppendsPrefix x z (flat (a ++ b))
prefix_flat x y z a b one two = subst (AppendsPrefix x z) (sym (flat_both a b)) (prefix_then x y z (flat a) (flat b) one two)

-- ---- counts

rose_then : (a b c : ℕ) → a ≤ b → Rose b c → Rose a c
rose_then a b c le rose = omega (arith, le, rose)

pub counts_then : (first now last : LinkSeen) → CountsStay first now → CountsStay now last → CountsStay first last
counts_then first now last one two = record {
  front_in = omega (arith, one.front_in, two.front_in);
  front_out = omega (arith, one.front_out, two.front_out);
  back_in = omega (arith, one.back_in, two.back_in);
  back_out = omega (arith, one.back_out, two.back_out);
}

-- ---- behind what was played

both_on : (f0 f1 b0 b1 : Option (List ℕ)) (used gone : List ℕ) (P Q : List ℕ → List ℕ → Type 0) → Consumes f0 f1 used → Consumes b0 b1 gone
    → ((f b : List ℕ) → P f b → Q (used ++ f) (gone ++ b)) → IfBoth f1 b1 P → IfBoth f0 b0 Q
both_on None f1 b0 b1 used gone P Q front back on x = tt
both_on (Some f) None b0 b1 used gone P Q front back on x = absurd front
both_on (Some f) (Some g) None b1 used gone P Q front back on x = tt
both_on (Some f) (Some g) (Some b) None used gone P Q front back on x = absurd back
both_on (Some f) (Some g) (Some b) (Some c) used gone P Q front back on x =
    subst (λ u. Q u b) (sym front) (subst (λ v. Q (used ++ g) v) (sym back) (on g c x))

some_on : (b0 b1 : Option (List ℕ)) (gone : List ℕ) (P Q : List ℕ → Type 0) → Consumes b0 b1 gone
    → ((b : List ℕ) → P b → Q (gone ++ b)) → IfSome b1 P → IfSome b0 Q
some_on None b1 gone P Q back on x = tt
some_on (Some b) None gone P Q back on x = absurd back
some_on (Some b) (Some c) gone P Q back on x = subst Q (sym back) (on c x)

-- what stands before a run: what was played, and put
pub record PutSoFar (turning : Turning) (l0 l : ℕ) (first now : LinkSeen) : Type 0 where
  pub answers : List (List ℕ)
  pub requests : List (List ℕ)
  pub played : Played turning l0 l first.front_in.bytes now.front_in.bytes first.back_in.bytes now.back_in.bytes answers requests
  pub put_answers : Appends first.front_out.bytes now.front_out.bytes (flat answers)
  pub put_requests : Appends first.back_out.bytes now.back_out.bytes (flat requests)
  pub counts : CountsStay first now

puts_behind : (turning : Turning) (l0 l : ℕ) (first now last : LinkSeen) (p : PutSoFar turning l0 l first now) (s : SessionSaid)
    → PutsSession now last s → PutsSession first last (behind_said p.answers p.requests s)
puts_behind turning l0 l first now last p s x = record {
  answers = appends_flat first.front_out.bytes now.front_out.bytes last.front_out.bytes p.answers s.answers p.put_answers x.answers;
  requests = appends_flat first.back_out.bytes now.back_out.bytes last.back_out.bytes p.requests s.requests p.put_requests x.requests;
}

put_behind : (turning : Turning) (l0 l : ℕ) (first now last : LinkSeen) (end : SessionEnd) → PutSoFar turning l0 l first now
    → IfBoth now.front_in.bytes now.back_in.bytes (IsPut turning l now last end)
    → IfBoth first.front_in.bytes first.back_in.bytes (IsPut turning l0 first last end)
put_behind turning l0 l first now last end p x =
    both_on first.front_in.bytes now.front_in.bytes first.back_in.bytes now.back_in.bytes p.played.used_front p.played.used_back
    (IsPut turning l now last end) (IsPut turning l0 first last end) p.played.front_used p.played.back_used
    (λ f b y. record {
      said = behind_said p.answers p.requests y.said;
      session = p.played.on f b y.said y.session;
      ending = y.ending;
      puts = puts_behind turning l0 l first now last p y.said y.puts;
    }) x

taken_behind : (turning : Turning) (l0 l : ℕ) (first now last : LinkSeen) → PutSoFar turning l0 l first now
    → IfSome now.back_in.bytes (IsPutAsTaken turning l now last) → IfSome first.back_in.bytes (IsPutAsTaken turning l0 first last)
taken_behind turning l0 l first now last p x =
    some_on first.back_in.bytes now.back_in.bytes p.played.used_back (IsPutAsTaken turning l now last) (IsPutAsTaken turning l0 first last)
    p.played.back_used
    (λ b y. record {
      front = p.played.used_front ++ y.front;
      taken = consumes_both first.front_in.bytes now.front_in.bytes last.front_in.bytes p.played.used_front y.front
          p.played.front_used y.taken;
      said = behind_said p.answers p.requests y.said;
      session = p.played.on y.front b y.said y.session;
      puts = puts_behind turning l0 l first now last p y.said y.puts;
    }) x

unanswered_behind : (turning : Turning) (l0 l : ℕ) (first now last : LinkSeen) → PutSoFar turning l0 l first now
    → IsPutUnanswered turning l now last → IsPutUnanswered turning l0 first last
unanswered_behind turning l0 l first now last p y = record {
  front = p.played.used_front ++ y.front;
  back = p.played.used_back ++ y.back;
  front_taken = consumes_both first.front_in.bytes now.front_in.bytes last.front_in.bytes p.played.used_front y.front
      p.played.front_used y.front_taken;
  back_taken = consumes_both first.back_in.bytes now.back_in.bytes last.back_in.bytes p.played.used_back y.back
      p.played.back_used y.back_taken;
  said = behind_said p.answers p.requests y.said;
  session = p.played.on y.front y.back y.said y.session;
  ending = y.ending;
  put = p.answers ++ y.put;
  last = y.last;
  answers = ap (λ s. p.answers ++ s) y.answers ∙ sym (append_assoc p.answers y.put (y.last ∷ []));
  puts = puts_behind turning l0 l first now last p (record { answers = y.put; requests = y.said.requests; ending = BackEnded }) y.puts;
}

ends_behind : (turning : Turning) (l0 l : ℕ) (first now last : LinkSeen) (end : SessionEnd) → PutSoFar turning l0 l first now
    → EndsSo turning l now last end → EndsSo turning l0 first last end
ends_behind turning l0 l first now last Closed p x = put_behind turning l0 l first now last Closed p x
ends_behind turning l0 l first now last Quota p x = put_behind turning l0 l first now last Quota p x
ends_behind turning l0 l first now last FrontEnded p x = put_behind turning l0 l first now last FrontEnded p x
ends_behind turning l0 l first now last BackEnded p x = put_behind turning l0 l first now last BackEnded p x
ends_behind turning l0 l first now last (FrontFraming why) p x = put_behind turning l0 l first now last (FrontFraming why) p x
ends_behind turning l0 l first now last (BackFraming why) p x = put_behind turning l0 l first now last (BackFraming why) p x
ends_behind turning l0 l first now last FrontRead p (rose, x) =
    (rose_then _ _ _ p.counts.front_in rose, taken_behind turning l0 l first now last p x)
ends_behind turning l0 l first now last BackRead p (rose, x) =
    (rose_then _ _ _ p.counts.back_in rose, unanswered_behind turning l0 l first now last p x)
ends_behind turning l0 l first now last FrontWrite p x = rose_then _ _ _ p.counts.front_out x
ends_behind turning l0 l first now last BackWrite p x = rose_then _ _ _ p.counts.back_out x
ends_behind turning l0 l first now last NoMemory p x = tt

-- prefixes of the whole session
abbrev AllPrefixes : Turning → ℕ → LinkSeen → LinkSeen → List ℕ → List ℕ → Type 0
AllPrefixes turning l before after front back = (s : SessionSaid) → TurnsFrom turning l front back s → PutsPrefixes before after s

prefixes_behind : (turning : Turning) (l0 l : ℕ) (first now last : LinkSeen) → PutSoFar turning l0 l first now
    → IfBoth now.front_in.bytes now.back_in.bytes (AllPrefixes turning l now last)
    → IfBoth first.front_in.bytes first.back_in.bytes (AllPrefixes turning l0 first last)
prefixes_behind turning l0 l first now last p x =
    both_on first.front_in.bytes now.front_in.bytes first.back_in.bytes now.back_in.bytes p.played.used_front p.played.used_back
    (AllPrefixes turning l now last) (AllPrefixes turning l0 first last) p.played.front_used p.played.back_used
    (λ f b y s session.
    let more = p.played.from f b s session in
    let puts = y more.0 more.1 in
    subst (PutsPrefixes first last) (sym more.2) (record {
      answers = prefix_flat first.front_out.bytes now.front_out.bytes last.front_out.bytes p.answers more.0.answers
          p.put_answers puts.answers;
      requests = prefix_flat first.back_out.bytes now.back_out.bytes last.back_out.bytes p.requests more.0.requests
          p.put_requests puts.requests;
    })) x

pub run_behind : (turning : Turning) (l0 l : ℕ) (first now last : LinkSeen) (end : SessionEnd) → PutSoFar turning l0 l first now
    → SessionRun turning l now last end → SessionRun turning l0 first last end
run_behind turning l0 l first now last end p x = record {
  so = ends_behind turning l0 l first now last end p x.so;
  prefixes = prefixes_behind turning l0 l first now last p x.prefixes;
  front_taken = (
    p.played.used_front ++ x.front_taken.0,
    consumes_both first.front_in.bytes now.front_in.bytes last.front_in.bytes p.played.used_front x.front_taken.0
        p.played.front_used x.front_taken.1,
  );
  back_taken = (
    p.played.used_back ++ x.back_taken.0,
    consumes_both first.back_in.bytes now.back_in.bytes last.back_in.bytes p.played.used_back x.back_taken.0
        p.played.back_used x.back_taken.1,
  );
  counts = counts_then first now last p.counts x.counts;
}
