-- A session, turn by turn from its start.
use Rattle.std.proofs.Common.{◌≡◌, ◌<◌, ◌-◌, ℕ, suc, List, [], ◌++◌, sym, ap, ◌∙◌, subst, arith, Option}
use Rattle.std.specs.Io.KnownBytes.{prepend_known}
use Rattle.sm_io.specs.Seen.{Stream, LinkSeen, stream, link_seen}
use Rattle.sm_session.specs.Turns.{Turning}
use Rattle.sm_session.specs.steps.Turning.{TurnRan}
use Rattle.sm_session.proofs.Playing.{played_none, played_then}
use Rattle.sm_session.proofs.SessionRuns.{PutSoFar, appends_none, appends_flat, counts_then}
use Rattle.sm_session.proofs.TurnSteps.{nothing_held}

-- nothing was played yet
pub nothing_so_far : (turning : Turning) (left : ℕ) (first now : LinkSeen) → first ≡ now → PutSoFar turning left left first now
nothing_so_far turning left first now same =
    subst (PutSoFar turning left left first) same (record {
      answers = [];
      requests = [];
      played = played_none turning left first.front_in.bytes first.back_in.bytes;
      put_answers = appends_none first.front_out.bytes;
      put_requests = appends_none first.back_out.bytes;
      counts = record { front_in = omega arith; front_out = omega arith; back_in = omega arith; back_out = omega arith };
    })

-- nothing is held of the two sources
pub unheld : (front back : Option (List ℕ)) (n k : ℕ) (held gone : List ℕ) (out requests : Stream) → held ≡ [] → gone ≡ []
    → link_seen (stream front n) out (stream back k) requests
    ≡ link_seen (stream (prepend_known held front) n) out (stream (prepend_known gone back) k) requests
unheld front back n k held gone out requests none nothing =
    ap (λ f. link_seen (stream f n) out (stream back k) requests)
    (sym (nothing_held front) ∙ ap (λ h. prepend_known h front) (sym none))
    ∙ ap (λ b. link_seen (stream (prepend_known held front) n) out (stream b k) requests)
    (sym (nothing_held back) ∙ ap (λ h. prepend_known h back) (sym nothing))

-- a turn more
pub one_more : (turning : Turning) (l0 after : ℕ) (first now next : LinkSeen) → PutSoFar turning l0 (suc after) first now
    → TurnRan turning after now next → PutSoFar turning l0 after first next
one_more turning l0 after first now next p r = record {
  answers = p.answers ++ r.answers;
  requests = p.requests ++ r.requests;
  played = played_then turning l0 (suc after) after first.front_in.bytes now.front_in.bytes next.front_in.bytes
      first.back_in.bytes now.back_in.bytes next.back_in.bytes p.answers r.answers p.requests r.requests p.played r.played;
  put_answers = appends_flat first.front_out.bytes now.front_out.bytes next.front_out.bytes p.answers r.answers p.put_answers r.put_answers;
  put_requests = appends_flat first.back_out.bytes now.back_out.bytes next.back_out.bytes p.requests r.requests p.put_requests r.put_requests;
  counts = counts_then first now next p.counts r.counts;
}

-- so many turns may still come
pub fewer : (turning : Turning) (l0 after : ℕ) (first now : LinkSeen) → 0 < after → PutSoFar turning l0 after first now
    → PutSoFar turning l0 (suc (after - 1)) first now
fewer turning l0 after first now some p =
    let same : suc (after - 1) ≡ after = omega arith in
    subst (λ n. PutSoFar turning l0 n first now) (sym same) p
