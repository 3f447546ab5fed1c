-- What a session that was run has put to its link.
use Rattle.std.proofs.Common.{◌≡◌, ◌≤◌, ◌+◌, ℕ, Bool, false, List, Option, None, Some, true≢false, arith}
use Rattle.sm_io.specs.Causes.{Quiet}
use Rattle.sm_io.specs.Seen.{LinkSeen}
use Rattle.sm_io.proofs.Counts.{quiet_not_rose}
use Rattle.sm_shapes.specs.Fitting.{Test}
use Rattle.sm_doors.specs.DoorsSeen.{closed_link, link_faults, opened_link}
use Rattle.sm_session.specs.Ends.{CountsStay, EndsSo, IfBoth, IsPut, PutsPrefixes, SessionRun}
use Rattle.sm_session.specs.Sessions.{SessionSaid, turn_limit}
use Rattle.sm_session.specs.declared.session_end.SessionEnd.{SessionEnd}
use Rattle.sm_session.specs.declared.session_end.SessionEnd.TheVariants.{Closed, Quota, FrontEnded, BackEnded, FrontFraming, BackFraming}
use Rattle.sm_session.specs.declared.session_end.SessionEnd.TheVariants.{FrontRead, FrontWrite, BackRead, BackWrite, NoMemory}
use Rattle.sm_asked_gateway.specs.gateway.GatewayData.{GatewayData}
use Rattle.sm_asked_gateway.specs.gateway.GatewayTurns.{Session, gateway_turn}
use Rattle.sm_serve.specs.Links.{PrefixesPut, PutsAll, PutsPart, SessionPut}
use Rattle.sm_serve.specs.steps.LinkSteps.{short_after}

-- what holds of both where they are told
both_map : (f b : Option (List ℕ)) (P Q : List ℕ → List ℕ → Type 0) → ((x y : List ℕ) → P x y → Q x y) → IfBoth f b P → IfBoth f b Q
both_map None b P Q on h = tt
both_map (Some x) None P Q on h = tt
both_map (Some x) (Some y) P Q on h = on x y h

-- counts whose sum stayed quiet did
pub record AllQuiet (before after : LinkSeen) : Type 0 where
  pub front_in : Quiet before.front_in.faults after.front_in.faults
  pub front_out : Quiet before.front_out.faults after.front_out.faults
  pub back_in : Quiet before.back_in.faults after.back_in.faults
  pub back_out : Quiet before.back_out.faults after.back_out.faults

first_quiet : (a b a1 b1 : ℕ) → a ≤ a1 → b ≤ b1 → Quiet (a + b) (a1 + b1) → Quiet a a1
first_quiet a b a1 b1 later other h =
    record { same = omega (arith, later, other, h.same); below = omega (arith, h.below) }

last_quiet : (a b a1 b1 : ℕ) → a ≤ a1 → b ≤ b1 → Quiet (a + b) (a1 + b1) → Quiet b b1
last_quiet a b a1 b1 later other h =
    record { same = omega (arith, later, other, h.same); below = omega (arith, h.below) }

three_later : (a b c a1 b1 c1 : ℕ) → a ≤ a1 → b ≤ b1 → c ≤ c1 → a + b + c ≤ a1 + b1 + c1
three_later a b c a1 b1 c1 x y z = omega (arith, x, y, z)

all_quiet : (before after : LinkSeen) → CountsStay before after → Quiet (link_faults before) (link_faults after) → AllQuiet before after
all_quiet before after stay quiet =
    let a = before.front_in.faults in
    let b = before.front_out.faults in
    let c = before.back_in.faults in
    let d = before.back_out.faults in
    let a1 = after.front_in.faults in
    let b1 = after.front_out.faults in
    let c1 = after.back_in.faults in
    let d1 = after.back_out.faults in
    let two : a + b ≤ a1 + b1 = omega (arith, stay.front_in, stay.front_out) in
    let three : a + b + c ≤ a1 + b1 + c1 = omega (arith, two, stay.back_in) in
    let q3 : Quiet (a + b + c) (a1 + b1 + c1) = first_quiet (a + b + c) d (a1 + b1 + c1) d1 three stay.back_out quiet in
    let q2 : Quiet (a + b) (a1 + b1) = first_quiet (a + b) c (a1 + b1) c1 two stay.back_in q3 in record {
      front_in = first_quiet a b a1 b1 stay.front_in stay.front_out q2;
      front_out = last_quiet a b a1 b1 stay.front_in stay.front_out q2;
      back_in = last_quiet (a + b) c (a1 + b1) c1 two stay.back_in q3;
      back_out = last_quiet (a + b + c) d (a1 + b1 + c1) d1 three stay.back_out quiet;
    }

module _ (g : GatewayData) (test : Test) (before after : LinkSeen) where
  whole : (end : SessionEnd) (front back : List ℕ) → IsPut (gateway_turn g test) turn_limit before after end front back
      → SessionPut g test (opened_link before) (closed_link after) front back
  whole end front back h = record {
    said = h.said;
    session = h.session;
    puts = record { answers = h.puts.answers; requests = h.puts.requests };
  }

  ended : (end : SessionEnd)
      → IfBoth before.front_in.bytes before.back_in.bytes (IsPut (gateway_turn g test) turn_limit before after end)
      → IfBoth before.front_in.bytes before.back_in.bytes (SessionPut g test (opened_link before) (closed_link after))
  ended end x = both_map before.front_in.bytes before.back_in.bytes (IsPut (gateway_turn g test) turn_limit before after end)
      (SessionPut g test (opened_link before) (closed_link after)) (whole end) x

  -- by its end: nothing failed, and memory didn't run out
  by_end : AllQuiet before after → (short : Bool) (end : SessionEnd) → short_after short end ≡ false
      → EndsSo (gateway_turn g test) turn_limit before after end
      → IfBoth before.front_in.bytes before.back_in.bytes (SessionPut g test (opened_link before) (closed_link after))
  by_end quiet short Closed ample x = ended Closed x
  by_end quiet short Quota ample x = ended Quota x
  by_end quiet short FrontEnded ample x = ended FrontEnded x
  by_end quiet short BackEnded ample x = ended BackEnded x
  by_end quiet short (FrontFraming why) ample x = ended (FrontFraming why) x
  by_end quiet short (BackFraming why) ample x = ended (BackFraming why) x
  by_end quiet short FrontRead ample x =
      absurd (quiet_not_rose before.front_in.faults after.front_in.faults quiet.front_in x.0)
  by_end quiet short FrontWrite ample x = absurd (quiet_not_rose before.front_out.faults after.front_out.faults quiet.front_out x)
  by_end quiet short BackRead ample x = absurd (quiet_not_rose before.back_in.faults after.back_in.faults quiet.back_in x.0)
  by_end quiet short BackWrite ample x = absurd (quiet_not_rose before.back_out.faults after.back_out.faults quiet.back_out x)
  by_end quiet short NoMemory ample x = absurd (true≢false ample)

  module _ (end : SessionEnd) (run : SessionRun (gateway_turn g test) turn_limit before after end) where
    pub part_put : PutsPart g test (opened_link before) (closed_link after)
    part_put = both_map before.front_in.bytes before.back_in.bytes
        (λ f b. (said : SessionSaid) → Session g test f b said → PutsPrefixes before after said)
        (λ f b. (said : SessionSaid) → Session g test f b said → PrefixesPut (opened_link before) (closed_link after) said)
        (λ f b on said is. let puts = on said is in record { answers = puts.answers; requests = puts.requests }) run.prefixes

    pub all_put : (short : Bool) → short_after short end ≡ false → PutsAll g test (opened_link before) (closed_link after)
    all_put short ample quiet = by_end (all_quiet before after run.counts quiet) short end ample run.so
