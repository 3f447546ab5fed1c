-- A session that was run over a back in memory, by what was run of it.
use Rattle.std.proofs.Common.{◌≡◌, ℕ, List, [], Option, None, Some, subst, refl, arith}
use Rattle.std.specs.Prelude.{IfSome}
use Rattle.std.specs.Io.KnownBytes.{Appends}
use Rattle.sm_io.specs.Causes.{Quiet}
use Rattle.sm_io.specs.Seen.{LinkSeen}
use Rattle.sm_io.specs.Writing.{AppendsPrefix}
use Rattle.sm_io.proofs.Counts.{quiet_not_rose}
use Rattle.sm_shapes.specs.Fitting.{Test}
use Rattle.sm_session.specs.Ends.{EndsSo, IfBoth, IsPut, PutsPrefixes, SessionRun}
use Rattle.sm_session.specs.Sessions.{SessionSaid, flat, turn_limit}
use Rattle.sm_session.specs.declared.session_end.SessionEnd.{SessionEnd}
use Rattle.sm_session.specs.declared.session_end.SessionEnd.TheVariants.{Closed, Quota, FrontEnded, BackEnded, FrontFraming, BackFraming}
use Rattle.sm_session.specs.declared.session_end.SessionEnd.TheVariants.{FrontRead, FrontWrite, BackRead, BackWrite, NoMemory}
use Rattle.sm_asked_gateway.specs.gateway.GatewayData.{GatewayData}
use Rattle.sm_asked_gateway.specs.gateway.GatewayTurns.{Session, gateway_turn}
use Rattle.sm_cross_command.specs.steps.CrossSteps.{PartsPut, RanOver, SessionEnds, WholeSession}

-- a count that never rises
pub quiet_zero : Quiet 0 0
quiet_zero = record { same = refl; below = omega arith }

-- where the back is told, what holds of both holds of the front
front_of : (f b : Option (List ℕ)) (back : List ℕ) (P : List ℕ → List ℕ → Type 0) (Q : List ℕ → Type 0) → b ≡ Some back
    → ((front : List ℕ) → P front back → Q front) → IfBoth f b P → IfSome f Q
front_of None b back P Q is on x = tt
front_of (Some front) b back P Q is on x = on front (subst (λ o. IfSome o (λ y. P front y)) is x)

module _ (g : GatewayData) (test : Test) (before after : LinkSeen) (back requests : List ℕ) (told : before.back_in.bytes ≡ Some back)
    (empty : before.back_out.bytes ≡ Some []) (put : after.back_out.bytes ≡ Some requests)
    (reads : Quiet before.back_in.faults after.back_in.faults) (writes : Quiet before.back_out.faults after.back_out.faults) where
  -- what was put to the back is what it holds
  all_put : (x : List ℕ) → Appends before.back_out.bytes after.back_out.bytes x → requests ≡ x
  all_put x h = subst (λ o. Appends (Some []) o x) put (subst (λ o. Appends o after.back_out.bytes x) empty h)

  part_put : (x : List ℕ) → AppendsPrefix before.back_out.bytes after.back_out.bytes x → AppendsPrefix (Some []) (Some requests) x
  part_put x h = subst (λ o. AppendsPrefix (Some []) o x) put (subst (λ o. AppendsPrefix o after.back_out.bytes x) empty h)

  whole : (end : SessionEnd) (front : List ℕ) → IsPut (gateway_turn g test) turn_limit before after end front back
      → WholeSession g test back before.front_out after.front_out requests end front
  whole end front h = record {
    said = h.said;
    is = h.session;
    ending = h.ending;
    answers = h.puts.answers;
    requests_are = all_put (flat h.said.requests) h.puts.requests;
  }

  ended : (end : SessionEnd)
      → IfBoth before.front_in.bytes before.back_in.bytes (IsPut (gateway_turn g test) turn_limit before after end)
      → IfSome before.front_in.bytes (WholeSession g test back before.front_out after.front_out requests end)
  ended end x = front_of before.front_in.bytes before.back_in.bytes back (IsPut (gateway_turn g test) turn_limit before after end)
      (WholeSession g test back before.front_out after.front_out requests end) told (whole end) x

  by_end : (end : SessionEnd) → EndsSo (gateway_turn g test) turn_limit before after end
      → SessionEnds g test back before.front_in after.front_in before.front_out after.front_out requests end
  by_end Closed x = ended Closed x
  by_end Quota x = ended Quota x
  by_end FrontEnded x = ended FrontEnded x
  by_end BackEnded x = ended BackEnded x
  by_end (FrontFraming why) x = ended (FrontFraming why) x
  by_end (BackFraming why) x = ended (BackFraming why) x
  by_end FrontRead x = x.0
  by_end FrontWrite x = x
  by_end BackRead x = quiet_not_rose before.back_in.faults after.back_in.faults reads x.0
  by_end BackWrite x = quiet_not_rose before.back_out.faults after.back_out.faults writes x
  by_end NoMemory x = tt

  parts_of : IfBoth before.front_in.bytes before.back_in.bytes
      (λ f b. (said : SessionSaid) → Session g test f b said → PutsPrefixes before after said)
      → IfSome before.front_in.bytes
      (λ front. (said : SessionSaid) → Session g test front back said → PartsPut before.front_out after.front_out requests said)
  parts_of x = front_of before.front_in.bytes before.back_in.bytes back
      (λ f b. (said : SessionSaid) → Session g test f b said → PutsPrefixes before after said)
      (λ front. (said : SessionSaid) → Session g test front back said → PartsPut before.front_out after.front_out requests said) told
      (λ front on said is.
      let puts = on said is in
      record { answers = puts.answers; requests_are = part_put (flat said.requests) puts.requests }) x

  pub ran_over : (end : SessionEnd) → SessionRun (gateway_turn g test) turn_limit before after end
      → RanOver g test back before.front_in after.front_in before.front_out after.front_out requests end
  ran_over end run = record { so = by_end end run.so; parts = parts_of run.prefixes }
