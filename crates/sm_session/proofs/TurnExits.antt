-- The ways out of one turn.
use Rattle.std.proofs.Common.{◌≡◌, ℕ, zero, suc, List, [], ◌∷◌, ◌++◌, take, length, refl, sym, ap, ◌∙◌, subst}
use Rattle.std.proofs.Common.{append-nil, inl, inr, Option, Some, None}
use Rattle.std.specs.Prelude.{◌≢◌, IfSome}
use Rattle.std.specs.Io.KnownBytes.{Keeps, Appends}
use Rattle.sm_io.specs.Causes.{Rose}
use Rattle.sm_io.specs.Reading.{LosesPrefix}
use Rattle.sm_io.specs.Seen.{LinkSeen}
use Rattle.sm_io.specs.Writing.{AppendsPrefix}
use Rattle.sm_http.specs.declared.message.MessageSide.{MessageSide}
use Rattle.sm_http.specs.declared.message.MessageSide.TheVariants.{Request as of_requests}
use Rattle.sm_http.specs.declared.refusal.HttpRefusal.{HttpRefusal}
use Rattle.sm_http.specs.declared.refusal.HttpRefusal.TheVariants.{Ended}
use Rattle.sm_http.specs.Framed.{no_message, message_refused, Framed}
use Rattle.sm_http.specs.Calls.{Uses, IfTaken, IsOpen}
use Rattle.sm_session.specs.declared.session_end.SessionEnd.{SessionEnd}
use Rattle.sm_session.specs.declared.session_end.SessionEnd.TheVariants.{Closed, FrontEnded, FrontFraming}
use Rattle.sm_session.specs.declared.session_end.SessionEnd.TheVariants.{FrontRead, FrontWrite, NoMemory}
use Rattle.sm_session.specs.OwnAnswers.{framing_text}
use Rattle.sm_session.specs.Turns.{Turning}
use Rattle.sm_session.specs.Sessions.{SessionSaid, TurnsFrom, flat, ends, turn_then}
use Rattle.sm_session.specs.Sessions.{front_closed, front_cut, front_refused}
use Rattle.sm_session.specs.Ends.{IfBoth, PutsSession, PutsPrefixes, IsPut, IsPutAsTaken, EndsSo, CountsStay, SessionRun}
use Rattle.sm_session.specs.Ends.{Ended as EndedSo}
use Rattle.sm_session.specs.Laws.{HasOneSession}
use Rattle.sm_session.specs.steps.Taking.{HasNone}
use Rattle.sm_session.specs.steps.Turning.{Refused}

-- ---- what is put

-- what a run leaves beside its end: sources that lost a prefix, and counts that didn't fall
pub record IsKept (before after : LinkSeen) : Type 0 where
  pub front_taken : LosesPrefix before.front_in.bytes after.front_in.bytes
  pub back_taken : LosesPrefix before.back_in.bytes after.back_in.bytes
  pub counts : CountsStay before after

-- the whole of a piece, as the pieces of a list
pub one_piece : (a b : Option (List ℕ)) (x : List ℕ) → Appends a b x → Appends a b (flat (x ∷ []))
one_piece a b x put = subst (Appends a b) (sym (append-nil x)) put

-- nothing is a prefix of all
pub nothing_put : (a b : Option (List ℕ)) (x : List ℕ) → Appends a b [] → AppendsPrefix a b x
nothing_put a b x put = (0, put)

pub kept_none : (a b : Option (List ℕ)) → Keeps a b → Appends a b []
kept_none None b x = tt
kept_none (Some a) None x = absurd x
kept_none (Some a) (Some b) x = x ∙ sym (append-nil a)

take_longer : (n : ℕ) (x y : List ℕ) → (k : ℕ) × (take n x ≡ take k (x ++ y))
take_longer zero x y = (0, refl)
take_longer (suc n) [] y = (0, refl)
take_longer (suc n) (e ∷ x) y = let rest = take_longer n x y in (suc rest.0, ap (λ s. e ∷ s) rest.1)

-- a prefix of what stands first
pub first_prefix : (a b : Option (List ℕ)) (x y : List ℕ) → AppendsPrefix a b x → AppendsPrefix a b (x ++ y)
first_prefix a b x y (n, put) = let same = take_longer n x y in (same.0, subst (Appends a b) same.1 put)

take_whole : (x : List ℕ) → take (length x) x ≡ x
take_whole [] = refl
take_whole (e ∷ x) = ap (λ s. e ∷ s) (take_whole x)

pub whole_prefix : (a b : Option (List ℕ)) (x : List ℕ) → Appends a b x → AppendsPrefix a b x
whole_prefix a b x put = (length x, subst (Appends a b) (sym (take_whole x)) put)

pub prefixes_put : (before after : LinkSeen) (s : SessionSaid) → PutsSession before after s → PutsPrefixes before after s
prefixes_put before after s x = record {
  answers = whole_prefix before.front_out.bytes after.front_out.bytes (flat s.answers) x.answers;
  requests = whole_prefix before.back_out.bytes after.back_out.bytes (flat s.requests) x.requests;
}

-- ---- of bytes that may be told

pub both : (f b : Option (List ℕ)) (P Q : List ℕ → List ℕ → Type 0) → ((x y : List ℕ) → P x y → Q x y) → IfBoth f b P → IfBoth f b Q
both None b P Q on x = tt
both (Some f) None P Q on x = tt
both (Some f) (Some b) P Q on x = on f b x

pub both_all : (f b : Option (List ℕ)) (P : List ℕ → List ℕ → Type 0) → ((x y : List ℕ) → P x y) → IfBoth f b P
both_all None b P on = tt
both_all (Some f) None P on = tt
both_all (Some f) (Some b) P on = on f b

pub front_only : (f b : Option (List ℕ)) (P : List ℕ → Type 0) (Q : List ℕ → List ℕ → Type 0) → ((x y : List ℕ) → P x → Q x y)
    → IfSome f P → IfBoth f b Q
front_only None b P Q on x = tt
front_only (Some f) None P Q on x = tt
front_only (Some f) (Some b) P Q on x = on f b x

pub used_told : (f0 f1 : Option (List ℕ)) (b : Option (List ℕ)) (P : List ℕ → List ℕ → Type 0) (R : List ℕ → Type 0)
    (Q : List ℕ → List ℕ → Type 0)
    → Uses f0 f1 P → IfSome b R
    → ((used more back : List ℕ) → P used more → R back → Q (used ++ more) back) → IfBoth f0 b Q
used_told None f1 b P R Q uses x on = tt
used_told (Some f) None b P R Q (used, consumes, holds) x on = absurd consumes
used_told (Some f) (Some g) None P R Q uses x on = tt
used_told (Some f) (Some g) (Some b) P R Q (used, consumes, holds) x on =
    subst (λ u. Q u b) (sym consumes) (on used g b (holds g) x)

pub none_told : (side : MessageSide) (ahead now : Option (List ℕ)) → HasNone side ahead now
    → IfSome ahead (λ bytes. Framed side bytes no_message)
none_told side None now x = tt
none_told side (Some a) None x = absurd x
none_told side (Some a) (Some b) x = x.0

-- ---- a session that is known

-- the session of these bytes was put, or prefixes of it
pub run_known : (turning : Turning) (left : ℕ) (before after : LinkSeen) (end : SessionEnd) (said : SessionSaid) → HasOneSession turning
    → IsKept before after → IfBoth before.front_in.bytes before.back_in.bytes (λ f b. TurnsFrom turning left f b said)
    → PutsPrefixes before after said → EndsSo turning left before after end → SessionRun turning left before after end
run_known turning left before after end said one kept known puts so = record {
  so = so;
  prefixes = both before.front_in.bytes before.back_in.bytes (λ f b. TurnsFrom turning left f b said)
      (λ f b. (s : SessionSaid) → TurnsFrom turning left f b s → PutsPrefixes before after s)
      (λ f b x s y. subst (PutsPrefixes before after) (one left f b said s x y) puts) known;
  front_taken = kept.front_taken;
  back_taken = kept.back_taken;
  counts = kept.counts;
}

-- it ends so, and was put whole
pub run_whole : (turning : Turning) (left : ℕ) (before after : LinkSeen) (said : SessionSaid) → HasOneSession turning
    → IsKept before after → IfBoth before.front_in.bytes before.back_in.bytes (λ f b. TurnsFrom turning left f b said)
    → PutsSession before after said
    → (EndedSo turning left before after said.ending → EndsSo turning left before after said.ending)
    → SessionRun turning left before after said.ending
run_whole turning left before after said one kept known puts lift =
    run_known turning left before after said.ending said one kept known (prefixes_put before after said puts)
    (lift (both before.front_in.bytes before.back_in.bytes (λ f b. TurnsFrom turning left f b said)
    (IsPut turning left before after said.ending)
    (λ f b x. record { said = said; session = x; ending = refl; puts = puts }) known))

-- nothing was put
pub run_nothing : (turning : Turning) (left : ℕ) (before after : LinkSeen) (end : SessionEnd) → IsKept before after
    → Appends before.front_out.bytes after.front_out.bytes [] → Appends before.back_out.bytes after.back_out.bytes []
    → EndsSo turning left before after end → SessionRun turning left before after end
run_nothing turning left before after end kept front back so = record {
  so = so;
  prefixes = both_all before.front_in.bytes before.back_in.bytes
      (λ f b. (s : SessionSaid) → TurnsFrom turning left f b s → PutsPrefixes before after s)
      (λ f b s x. record {
        answers = nothing_put before.front_out.bytes after.front_out.bytes (flat s.answers) front;
        requests = nothing_put before.back_out.bytes after.back_out.bytes (flat s.requests) back;
      });
  front_taken = kept.front_taken;
  back_taken = kept.back_taken;
  counts = kept.counts;
}

-- ---- the front's bytes are no request

-- no byte is left
pub closed_run : (turning : Turning) (left : ℕ) (before after : LinkSeen) (now : Option (List ℕ)) → HasOneSession turning
    → IsKept before after → HasNone of_requests before.front_in.bytes now
    → Appends before.front_out.bytes after.front_out.bytes [] → Appends before.back_out.bytes after.back_out.bytes []
    → SessionRun turning left before after Closed
closed_run turning left before after now one kept none front back =
    run_whole turning left before after (ends Closed) one kept
    (front_only before.front_in.bytes before.back_in.bytes (λ f. Framed of_requests f no_message)
    (λ f b. TurnsFrom turning left f b (ends Closed)) (λ f b x. front_closed x) (none_told of_requests before.front_in.bytes now none))
    (record { answers = front; requests = back }) (λ x. x)

-- they end inside one
pub cut_run : (turning : Turning) (left : ℕ) (before after : LinkSeen) → HasOneSession turning
    → IsKept before after → IfSome before.front_in.bytes (λ f. Framed of_requests f (message_refused Ended))
    → Appends before.front_out.bytes after.front_out.bytes [] → Appends before.back_out.bytes after.back_out.bytes []
    → SessionRun turning left before after FrontEnded
cut_run turning left before after one kept cut front back =
    run_whole turning left before after (ends FrontEnded) one kept
    (front_only before.front_in.bytes before.back_in.bytes (λ f. Framed of_requests f (message_refused Ended))
    (λ f b. TurnsFrom turning left f b (ends FrontEnded)) (λ f b x. front_cut x) cut)
    (record { answers = front; requests = back }) (λ x. x)

-- the source failed within one
open_session : (turning : Turning) (left : ℕ) (taken back : List ℕ) → IsOpen of_requests taken
    → (said : SessionSaid) × TurnsFrom turning left taken back said × (said.answers ≡ []) × (said.requests ≡ [])
open_session turning left taken back (inl x) = (ends Closed, front_closed x, refl, refl)
open_session turning left taken back (inr x) = (ends FrontEnded, front_cut x, refl, refl)

as_taken : (turning : Turning) (left : ℕ) (before after : LinkSeen) (back : List ℕ)
    → IfTaken before.front_in.bytes after.front_in.bytes (IsOpen of_requests)
    → Appends before.front_out.bytes after.front_out.bytes [] → Appends before.back_out.bytes after.back_out.bytes []
    → IsPutAsTaken turning left before after back
as_taken turning left before after back (taken, takes, opened) front put =
    let session = open_session turning left taken back opened in
    record {
      front = taken;
      taken = takes;
      said = session.0;
      session = session.1;
      puts = record {
        answers = subst (λ s. Appends before.front_out.bytes after.front_out.bytes (flat s)) (sym session.2) front;
        requests = subst (λ s. Appends before.back_out.bytes after.back_out.bytes (flat s)) (sym session.3) put;
      };
    }

if_told : (b : Option (List ℕ)) (P : List ℕ → Type 0) → ((x : List ℕ) → P x) → IfSome b P
if_told None P on = tt
if_told (Some b) P on = on b

pub failed_run : (turning : Turning) (left : ℕ) (before after : LinkSeen) → IsKept before after
    → Rose before.front_in.faults after.front_in.faults
    → IfTaken before.front_in.bytes after.front_in.bytes (IsOpen of_requests)
    → Appends before.front_out.bytes after.front_out.bytes [] → Appends before.back_out.bytes after.back_out.bytes []
    → SessionRun turning left before after FrontRead
failed_run turning left before after kept rose taken front back =
    run_nothing turning left before after FrontRead kept front back (
      rose,
      if_told before.back_in.bytes (IsPutAsTaken turning left before after)
          (λ b. as_taken turning left before after b taken front back),
    )

-- they are refused, and this is answered, whole or in part
pub refused_run : (turning : Turning) (left : ℕ) (before after : LinkSeen) (why : HttpRefusal) (end : SessionEnd) → HasOneSession turning
    → IsKept before after → why ≢ Ended → IfSome before.front_in.bytes (λ f. Framed of_requests f (message_refused why))
    → Refused why before.front_out after.front_out end → Appends before.back_out.bytes after.back_out.bytes []
    → SessionRun turning left before after end
refused_run turning left before after why end one kept other refused (inl (is, put)) back =
    subst (SessionRun turning left before after) (sym is)
    (run_whole turning left before after (turn_then None (framing_text why) (ends (FrontFraming why))) one kept
    (front_only before.front_in.bytes before.back_in.bytes (λ f. Framed of_requests f (message_refused why))
    (λ f b. TurnsFrom turning left f b (turn_then None (framing_text why) (ends (FrontFraming why))))
    (λ f b x. front_refused x other) refused)
    (record { answers = one_piece before.front_out.bytes after.front_out.bytes (framing_text why) put; requests = back }) (λ x. x))
refused_run turning left before after why end one kept other refused (inr (inl (is, put, rose))) back =
    subst (SessionRun turning left before after) (sym is)
    (run_known turning left before after FrontWrite (turn_then None (framing_text why) (ends (FrontFraming why))) one kept
    (front_only before.front_in.bytes before.back_in.bytes (λ f. Framed of_requests f (message_refused why))
    (λ f b. TurnsFrom turning left f b (turn_then None (framing_text why) (ends (FrontFraming why))))
    (λ f b x. front_refused x other) refused)
    (record {
      answers = first_prefix before.front_out.bytes after.front_out.bytes (framing_text why) [] put;
      requests = nothing_put before.back_out.bytes after.back_out.bytes [] back;
    })
    rose)
refused_run turning left before after why end one kept other refused (inr (inr (is, keeps))) back =
    subst (SessionRun turning left before after) (sym is)
    (run_nothing turning left before after NoMemory kept (kept_none before.front_out.bytes after.front_out.bytes keeps) back tt)
