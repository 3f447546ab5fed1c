-- Links that were served, one after the other: none, one more, and the status behind them.
use Rattle.std.proofs.Common.{◌≡◌, ◌≤◌, ◌+◌, ℕ, zero, suc, Bool, true, false, List, [], ◌∷◌, ◌++◌, Option, None, Some}
use Rattle.std.proofs.Common.{refl, sym, ap, subst, ◌∙◌, arith, length-append}
use Rattle.std.proofs.lemmas.List.{append-nil, append_assoc}
use Rattle.sm_io.specs.Causes.{last_count, next_count}
use Rattle.sm_io.specs.Seen.{LinkSeen}
use Rattle.sm_shapes.specs.Fitting.{Test}
use Rattle.sm_doors.specs.DoorsSeen.{ClosedLink, DoorsSeen, LinksSeen, OpenedLink, behind_accept, behind_close, closed_link, opened_link}
use Rattle.sm_doors.specs.DoorsSeen.{with_closed, with_opened}
use Rattle.sm_doors.specs.declared.doors.Phase.TheVariants.{Open}
use Rattle.sm_session.specs.declared.session_end.SessionEnd.{SessionEnd}
use Rattle.sm_session.specs.declared.session_end.SessionEnd.TheVariants.{Closed, Quota, FrontEnded, BackEnded, FrontFraming, BackFraming}
use Rattle.sm_session.specs.declared.session_end.SessionEnd.TheVariants.{FrontRead, FrontWrite, BackRead, BackWrite, NoMemory}
use Rattle.sm_asked_gateway.specs.asked.Answer.{code_of}
use Rattle.sm_asked_gateway.specs.asked.declared.status.Status.{Status}
use Rattle.sm_asked_gateway.specs.asked.declared.status.Status.TheVariants.{Done, Refused, Usage, ReadFault, WriteFault, Pattern, Limit}
use Rattle.sm_asked_gateway.specs.asked.declared.status.Status.TheVariants.{NoMemory as ends_by_memory}
use Rattle.sm_asked_gateway.specs.gateway.GatewayData.{GatewayData}
use Rattle.sm_serve.specs.Links.{EachLink, HasServed, LinksEnd, PutsAll, PutsPart, ServesLinks, TellsServed, risen}
use Rattle.sm_serve.specs.steps.LinkSteps.{ServesLink, all_status, short_after}
use Rattle.sm_serve.proofs.SessionsPut.{all_put, part_put}

-- from none, a count is the number of links
pub risen_from_zero : (n : ℕ) → n ≤ last_count → risen 0 n ≡ n
risen_from_zero zero small = refl
risen_from_zero (suc n) small = let before = risen_from_zero n (omega arith) in ap next_count before ∙ omega arith

-- one more
each_more : (P : OpenedLink → ClosedLink → Type 0) (os : List OpenedLink) (cs : List ClosedLink) (o : OpenedLink) (c : ClosedLink)
    → EachLink P os cs → P o c → EachLink P (os ++ o ∷ []) (cs ++ c ∷ [])
each_more P [] [] o c all one = (one, tt)
each_more P [] (x ∷ cs) o c all one = absurd all
each_more P (y ∷ os) [] o c all one = absurd all
each_more P (y ∷ os) (x ∷ cs) o c all one = (all.0, each_more P os cs o c all.1 one)

-- where memory didn't run out with one more, it hadn't before
ample_before : (short : Bool) (end : SessionEnd) → short_after short end ≡ false → short ≡ false
ample_before short Closed e = e
ample_before short Quota e = e
ample_before short FrontEnded e = e
ample_before short BackEnded e = e
ample_before short (FrontFraming why) e = e
ample_before short (BackFraming why) e = e
ample_before short FrontRead e = e
ample_before short FrontWrite e = e
ample_before short BackRead e = e
ample_before short BackWrite e = e
ample_before short NoMemory e = absurd cc

module _ (g : GatewayData) (test : Test) where
  -- nothing was served yet
  none_told : (links : Option LinksSeen) → TellsServed g test false 0 links links
  none_told None = tt
  none_told (Some links) = record {
    opened = [];
    closed = [];
    counts = refl;
    opened_are = sym (append-nil links.opened);
    closed_are = sym (append-nil links.closed);
    parts = tt;
    whole = λ ample. tt;
  }

  pub none_served : (doors : DoorsSeen) → doors.phase ≡ Open → HasServed g test false 0 doors doors
  none_served doors is = record { phase = is; accepted = refl; closed = refl; links = none_told doors.links }

  module _ (short : Bool) (n : ℕ) (link left : LinkSeen) (end : SessionEnd)
      (part : PutsPart g test (opened_link link) (closed_link left))
      (all : short_after short end ≡ false → PutsAll g test (opened_link link) (closed_link left)) where
    more_told : (before now : Option LinksSeen) → TellsServed g test short n before now
        → TellsServed g test (short_after short end) (suc n) before (with_closed (with_opened now (opened_link link)) (closed_link left))
    more_told None now h = tt
    more_told (Some links) None h = absurd h
    more_told (Some links) (Some now) h = record {
      opened = h.opened ++ opened_link link ∷ [];
      closed = h.closed ++ closed_link left ∷ [];
      counts = length-append h.opened (opened_link link ∷ []) ∙ (omega (arith, h.counts));
      opened_are = ap (λ os. os ++ opened_link link ∷ []) h.opened_are ∙ append_assoc links.opened h.opened (opened_link link ∷ []);
      closed_are = ap (λ cs. cs ++ closed_link left ∷ []) h.closed_are ∙ append_assoc links.closed h.closed (closed_link left ∷ []);
      parts = each_more (PutsPart g test) h.opened h.closed (opened_link link) (closed_link left) h.parts part;
      whole = λ ample. each_more (PutsAll g test) h.opened h.closed (opened_link link) (closed_link left)
          (h.whole (ample_before short end ample)) (all ample);
    }

  -- a link was accepted, served and closed
  more_served : (short : Bool) (n : ℕ) (before now lent after : DoorsSeen) (link : LinkSeen) (end : SessionEnd)
      → HasServed g test short n before now → lent ≡ behind_accept now link → ServesLink g test link lent after end
      → HasServed g test (short_after short end) (suc n) before after
  more_served short n before now lent after link end h accepts serves =
      let is : after ≡ behind_close (behind_accept now link) serves.left =
      serves.closes ∙ ap (λ doors. behind_close doors serves.left) accepts in record {
        phase = ap (λ (d : DoorsSeen). d.phase) is;
        accepted = ap (λ (d : DoorsSeen). d.accepted) is ∙ ap next_count h.accepted;
        closed = ap (λ (d : DoorsSeen). d.closed) is ∙ ap next_count h.closed;
        links = subst (TellsServed g test (short_after short end) (suc n) before.links) (sym (ap (λ (d : DoorsSeen). d.links) is))
            (more_told short n link serves.left end (part_put g test link serves.left end serves.run)
            (λ ample. all_put g test link serves.left end serves.run short ample) before.links now.links h.links);
      }

  -- the same, as a loop counts
  pub next_served : (short short1 : Bool) (n : ℕ) (before now lent after : DoorsSeen) (link : LinkSeen) (end : SessionEnd)
      → HasServed g test short n before now → lent ≡ behind_accept now link → ServesLink g test link lent after end
      → short1 ≡ short_after short end → HasServed g test short1 (n + 1) before after
  next_served short short1 n before now lent after link end h accepts serves is =
      let count : suc n ≡ n + 1 = omega arith in
      subst (λ b. HasServed g test b (n + 1) before after) (sym is)
      (subst (λ k. HasServed g test (short_after short end) k before after) count
      (more_served short n before now lent after link end h accepts serves))

  -- by the status
  module _ (before after : DoorsSeen) where
    all_end : (faults faults1 count : ℕ) (short : Bool) → HasServed g test short count before after
        → LinksEnd g test before after faults faults1 count (all_status short)
    all_end faults faults1 count true h = h
    all_end faults faults1 count false h = h

    pub all_served : (faults faults1 count code : ℕ) (short : Bool) → HasServed g test short count before after
        → code ≡ code_of (all_status short) → ServesLinks g test before after faults faults1 count code
    all_served faults faults1 count code short h is = (all_status short, is, all_end faults faults1 count short h)

    earlier_end : (faults faults1 faults2 count : ℕ) → faults ≤ faults1 → (status : Status)
        → LinksEnd g test before after faults1 faults2 count status → LinksEnd g test before after faults faults2 count status
    earlier_end f f1 f2 count later Done h = h
    earlier_end f f1 f2 count later ends_by_memory h = h
    earlier_end f f1 f2 count later ReadFault h = (h.0, h.1, h.2, omega (arith, later, h.3), h.4)
    earlier_end f f1 f2 count later Refused h = h
    earlier_end f f1 f2 count later Usage h = h
    earlier_end f f1 f2 count later WriteFault h = h
    earlier_end f f1 f2 count later Pattern h = h
    earlier_end f f1 f2 count later Limit h = h

    -- a fault behind an earlier count is one behind it
    pub served_earlier : (faults faults1 faults2 count code : ℕ) → faults ≤ faults1
        → ServesLinks g test before after faults1 faults2 count code → ServesLinks g test before after faults faults2 count code
    served_earlier f f1 f2 count code later h = (h.0, h.1, earlier_end f f1 f2 count later h.0 h.2)
