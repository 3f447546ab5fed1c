-- A message that crosses is framed as itself: it is what the far end writes for a value that it carries.
use Rattle.std.proofs.Common.{◌≡◌, ℕ, List, None, Some, refl, sym, ◌∙◌, subst}
use Rattle.std.specs.Prelude.{Option}
use Rattle.sm_tree.specs.Syntax.{IsRead}
use Rattle.sm_compile.specs.declared.compiled.Served.{Served}
use Rattle.sm_compile.specs.declared.compiled.Served.TheVariants.{Yes, Unserved}
use Rattle.sm_shapes.specs.Fitting.{Test}
use Rattle.sm_http.specs.declared.message.Message.{Message}
use Rattle.sm_bind_laws.specs.service.ServiceData.{ServiceData}
use Rattle.sm_bind_laws.specs.messages.Crossings.{Crossing, CrossesAs, crosses, not_carried, or_by, refused, stays, towards, written}
use Rattle.sm_bind_laws.specs.messages.Goals.{Asked, Goal, operation_at}
use Rattle.sm_bind_laws.specs.messages.HeadAnswers.{path_unserved}
use Rattle.sm_bind_laws.specs.messages.IsForm.{ReadsMessages, Serves, ServesGoal, ServesOperation}
use Rattle.sm_bind_laws.specs.messages.Laws.{MayAsk}
use Rattle.sm_bind_laws.specs.messages.MessageAnswers.{Refusal, the_value}
use Rattle.sm_bind_laws.specs.messages.MessageForm.{MessageForm}
use Rattle.sm_gateway.specs.GatewayData.{IsHost}
use Rattle.sm_bind_laws.proofs.messages.CrossedMessages.{found, near_serves}
use Rattle.sm_bind_laws.proofs.messages.OneReplies.{goal_of_head}
use Rattle.sm_framed_laws.specs.Framing.{CrossedIsFramed, IsFramed, IsWithinLimits, WrittenIsFramed, side_of}

pub crosses_or_stays : (g : Goal) (n : Message) (r : Refusal) → crosses g n ≡ stays r → ⊥
crosses_or_stays g n r e = cc

pub same_crossed : (g h : Goal) (m n : Message) → crosses g m ≡ crosses h n → (g ≡ h) × (m ≡ n)
same_crossed g h m n e = (cc, cc)

-- what both ends serve each of them serves
path_or_none : (o p : Option (List ℕ)) → or_by o p ≡ None → p ≡ None
path_or_none None p e = e
path_or_none (Some path) p e = absurd cc

far_serves : (near far : MessageForm) (s : ServiceData) (o : ℕ) → ServesOperation (towards near far) s o → ServesOperation far s o
far_serves near far s o h = record { within = h.within; served = by (operation_at s o).served h.served }
  where
    by : (served : Served) → path_unserved served (or_by (near.restriction s o) (far.restriction s o)) ≡ None
        → path_unserved served (far.restriction s o) ≡ None
    by Yes e = path_or_none (near.restriction s o) (far.restriction s o) e
    by (Unserved path) e = absurd cc

pub near_of : (near far : MessageForm) (s : ServiceData) (test : Test) → Serves (towards near far) s test → Serves near s test
near_of near far s test serves = record { servable = serves.servable; asks = serves.asks.0; defaults = serves.defaults }

far_of : (near far : MessageForm) (s : ServiceData) (test : Test) → Serves (towards near far) s test → Serves far s test
far_of near far s test serves = record { servable = serves.servable; asks = serves.asks.1; defaults = serves.defaults }

module _ (near far : MessageForm) (is : ReadsMessages near) (framed : WrittenIsFramed far) (s : ServiceData) (test : Test) (asked : Asked)
    (host : List ℕ) (m : Message) (serves : Serves (towards near far) s test) (may : MayAsk (towards near far) s asked) (host_is : IsHost host) where
  crossed : (g : Goal) (n : Message) (a : Crossing) → CrossesAs near far s test asked host m.head m.body a → a ≡ crosses g n
      → IsWithinLimits n → IsFramed (side_of g) n
  crossed g n a (refused r x e) d within = absurd (crosses_or_stays g n r (sym d ∙ e))
  crossed g n a (not_carried h v path more x are e) d within = absurd (crosses_or_stays g n _ (sym d ∙ e))
  crossed g n a (written h v x none e) d within =
      let same = same_crossed h g (far.written s h host v) n (sym e ∙ d) in
      let (served, at, short) = found near far is s test asked m h v (the_value h v) may x refl in
      let near_goal : ServesGoal near s h = record {
        operation = near_serves near far s h.operation served;
        goal = goal_of_head (IsRead near.syntax.text) near is s m.head m.body short.there h (near_serves near far s h.operation served)
            short.head short.goal;
      } in
      let fits = is.spelled_fits s test h m.head short.content v (near_of near far s test serves) near_goal short.spells in
      let goal : ServesGoal far s h = record { operation = far_serves near far s h.operation served; goal = near_goal.goal } in
      subst (λ k. IsFramed (side_of k) n) same.0
      (subst (IsFramed (side_of h)) same.1
      (framed s test h host v (far_of near far s test serves) goal fits none host_is (subst IsWithinLimits (sym same.1) within)))

pub crossed_framed : (near far : MessageForm) → ReadsMessages near → WrittenIsFramed far → CrossedIsFramed near far
crossed_framed near far is framed s test asked host m n g serves may x host_is within =
    crossed near far is framed s test asked host m serves may host_is g n (crosses g n) x refl_of within
  where
    refl_of : crosses g n ≡ crosses g n
    refl_of = cc
