-- A message crosses exactly where it spells a value that the far end carries.
use Rattle.std.proofs.Common.{◌≡◌, ◌↔◌, ℕ, true, false, Bool, List, [], ◌∷◌, Option, None, Some, refl, sym, ap, ◌∙◌, subst}
use Rattle.sm_ids.proofs.Cutting.{clash as true_or_false}
use Rattle.sm_tree.specs.Syntax.{IsRead, TreeFormat}
use Rattle.sm_tree.specs.declared.path.Step.{Step}
use Rattle.sm_shapes.specs.Fitting.{Test}
use Rattle.sm_shapes.specs.Values.{Val}
use Rattle.sm_compile.specs.declared.compiled.Served.{Served}
use Rattle.sm_compile.specs.declared.compiled.Served.TheVariants.{Yes, Unserved}
use Rattle.sm_http.specs.declared.message.Head.{Head}
use Rattle.sm_http.specs.declared.message.Message.{Message}
use Rattle.sm_service.specs.ServiceData.{ServiceData}
use Rattle.sm_messages.specs.Crossings.{Crossing, CrossesAs, CrossesOrRefused, IsAsked, crosses, not_carried, or_by, refused}
use Rattle.sm_messages.specs.Crossings.{stays, towards, written}
use Rattle.sm_messages.specs.Goals.{Asked, Goal, a_request, a_response, goal_of, is_input, operation_at, the_input}
use Rattle.sm_messages.specs.HeadAnswers.{Address, IsJudged, addressed, of_request, of_response, request_answer, response_answer, to_goal}
use Rattle.sm_messages.specs.HeadAnswers.{path_unserved, to_named_error, unserved}
use Rattle.sm_messages.specs.Heads.{is_empty}
use Rattle.sm_messages.specs.IsForm.{ReadsMessages, Serves, ServesGoal, ServesOperation}
use Rattle.sm_messages.specs.Laws.{MayAsk}
use Rattle.sm_messages.specs.MessageAnswers.{MessageAnswer, MessageAnswers, Reaches, Refusal, at_head, fault, no_name, no_text, the_refusal}
use Rattle.sm_messages.specs.MessageAnswers.{the_value, value}
use Rattle.sm_messages.specs.MessageForm.{MessageForm}
use Rattle.sm_messages.specs.Messages.{IsHeadOf, LeadsTo, NamesError, ShortMsg, request_head, response_head}
use Rattle.sm_messages.proofs.HeadsJudged.{AskedAt, goal_of_response, goal_served, judged_address, request_addressed, response_of}

path_or_none : (o p : Option (List ℕ)) → or_by o p ≡ None → o ≡ None
path_or_none None p e = refl
path_or_none (Some path) p e = absurd cc

-- what both ends serve the near end serves
pub near_serves : (near far : MessageForm) (s : ServiceData) (o : ℕ) → ServesOperation (towards near far) s o → ServesOperation near s o
near_serves near far s o h = record { within = h.within; served = by (operation_at s o).served h.served }
  where
    by : (served : Served) → path_unserved served (or_by (near.restriction s o) (far.restriction s o)) ≡ None
        → path_unserved served (near.restriction s o) ≡ None
    by Yes e = path_or_none (near.restriction s o) (far.restriction s o) e
    by (Unserved path) e = absurd cc

-- so a form towards another reads messages as it does
pub reads_towards : (near far : MessageForm) → ReadsMessages near → ReadsMessages (towards near far)
reads_towards near far is = record {
  one_operation = λ s test head o p serves x y.
      is.one_operation s test head o p (record { servable = serves.servable; asks = serves.asks.0; defaults = serves.defaults }) x y;
  asked_for = is.asked_for;
  within = is.within;
  one_reading = is.one_reading;
  one_answer = is.one_answer;
  some_answer = is.some_answer;
  empty_tells_none = is.empty_tells_none;
  no_fault = λ s test g head c serves served.
      is.no_fault s test g head c (record { servable = serves.servable; asks = serves.asks.0; defaults = serves.defaults })
      (record { operation = near_serves near far s g.operation served.operation; goal = served.goal });
  one_value = λ s test g head c v w serves served x y.
      is.one_value s test g head c v w (record { servable = serves.servable; asks = serves.asks.0; defaults = serves.defaults })
      (record { operation = near_serves near far s g.operation served.operation; goal = served.goal }) x y;
  spelled_fits = λ s test g head c v serves served x.
      is.spelled_fits s test g head c v (record { servable = serves.servable; asks = serves.asks.0; defaults = serves.defaults })
      (record { operation = near_serves near far s g.operation served.operation; goal = served.goal }) x;
}

-- heads and goals are those of the near end
near_head : (near far : MessageForm) (s : ServiceData) (head : Head) (empty : Bool) (there : Address)
    → IsHeadOf (towards near far) s head empty there → IsHeadOf near s head empty there
near_head near far s head empty there (request_head o m asks right e) = request_head o m asks right e
near_head near far s head empty there (response_head o m e) = response_head o m e

near_led : (near far : MessageForm) (F : TreeFormat) (s : ServiceData) (body : List ℕ) (there : Address) (g : Goal)
    → LeadsTo F (towards near far) s body there g → LeadsTo F near s body there g
near_led near far F s body (to_goal k) g led = led
near_led near far F s body (to_named_error o) g (e, names, same) =
    (e, record { tree = names.tree; has = names.has; names = names.names }, same)

pub far_led : (near far : MessageForm) (F : TreeFormat) (s : ServiceData) (body : List ℕ) (there : Address) (g : Goal)
    → LeadsTo F near s body there g → LeadsTo F (towards near far) s body there g
far_led near far F s body (to_goal k) g led = led
far_led near far F s body (to_named_error o) g (e, names, same) =
    (e, record { tree = names.tree; has = names.has; names = names.names }, same)

-- the goal of what is asked
asked_goal : (near far : MessageForm) (F : TreeFormat) (s : ServiceData) (asked : Asked) (head : Head) (body : List ℕ) (there : Address)
    (g : Goal) → AskedAt (towards near far) s asked head there → LeadsTo F (towards near far) s body there g → IsAsked near s asked head g
asked_goal near far F s a_request head body there g (o, goes, free, same) led =
    let to_input : goal_of o the_input ≡ g = subst (λ t. LeadsTo F (towards near far) s body t g) same led in
    subst (λ h. near.goes_to s head h.operation × (is_input h.role ≡ true)) to_input (goes, refl)
asked_goal near far F s (a_response o) head body there g at led =
    let found = goal_of_response F (towards near far) s body o there g (response_of (towards near far) s head o there at) led in
    (found.0, found.1)

other_refusal : (g : Goal) (m : Message) (r : Refusal) → crosses g m ≡ stays r → ⊥
other_refusal g m r e = cc

same_goal : (g h : Goal) (m n : Message) → crosses g m ≡ crosses h n → g ≡ h
same_goal g h m n e = cc

same_valued : (g h : Goal) (v w : Val) → the_value g v ≡ the_value h w → (g ≡ h) × (v ≡ w)
same_valued g h v w e = (cc, cc)

value_or_refusal : (g : Goal) (v : Val) (r : Refusal) → the_value g v ≡ the_refusal r → ⊥
value_or_refusal g v r e = cc

-- what an answer with a value says
abbrev pub Found : MessageForm → MessageForm → ServiceData → Test → Asked → Message → Goal → Val → Type 0
Found near far s test asked m g v =
    ServesOperation (towards near far) s g.operation × IsAsked near s asked m.head g × ShortMsg near s test g v m

of_value : (near far : MessageForm) → ReadsMessages near → (s : ServiceData) (test : Test) (asked : Asked) (m : Message) (g : Goal) (v : Val)
    → MayAsk (towards near far) s asked → (there : Reaches (towards near far) s asked m.head m.body g)
    → near.spells s test g m.head there.content v → Found near far s test asked m g v
of_value near far is s test asked m g v may there spells =
    let both = towards near far in
    let F = IsRead near.syntax.text in
    let (head, at) = judged_address both (reads_towards near far is) s asked m.head (is_empty m.body) there.there there.judged in
    let served = goal_served both (reads_towards near far is) F s asked m.head m.body there.there g may at there.goal in (
      served.operation,
      asked_goal near far F s asked m.head m.body there.there g at there.goal,
      record {
        there = there.there;
        head = near_head near far s m.head (is_empty m.body) there.there head;
        goal = near_led near far F s m.body there.there g there.goal;
        content = there.content;
        has = there.has;
        spells = spells;
      },
    )

pub found : (near far : MessageForm) → ReadsMessages near → (s : ServiceData) (test : Test) (asked : Asked) (m : Message) (g : Goal) (v : Val)
    (a : MessageAnswer) → MayAsk (towards near far) s asked → MessageAnswers (towards near far) s test asked m.head m.body a
    → a ≡ the_value g v → Found near far s test asked m g v
found near far is s test asked m g v a may (at_head r judged e) d = absurd (value_or_refusal g v _ (sym d ∙ e))
found near far is s test asked m g v a may (no_text there r judged used bad e) d = absurd (value_or_refusal g v _ (sym d ∙ e))
found near far is s test asked m g v a may (no_name o n judged has none e) d = absurd (value_or_refusal g v _ (sym d ∙ e))
found near far is s test asked m g v a may (fault h path kind later there first e) d = absurd (value_or_refusal g v _ (sym d ∙ e))
found near far is s test asked m g v a may (value h w there spells e) d =
    let (goals, vals) = same_valued h g w v (sym e ∙ d) in
    subst (λ k. Found near far s test asked m k v) goals
    (subst (λ x. Found near far s test asked m h x) vals (of_value near far is s test asked m h w may there spells))

crossed : (near far : MessageForm) → ReadsMessages near → (s : ServiceData) (test : Test) (asked : Asked) (host : List ℕ) (m : Message)
    (g : Goal) (n : Message) (a : Crossing) → MayAsk (towards near far) s asked → CrossesAs near far s test asked host m.head m.body a
    → a ≡ crosses g n
    → ServesOperation (towards near far) s g.operation × IsAsked near s asked m.head g
    × ((v : Val) × ShortMsg near s test g v m × (far.uncarried s g v ≡ []))
crossed near far is s test asked host m g n a may (refused r x e) d = absurd (other_refusal g n r (sym d ∙ e))
crossed near far is s test asked host m g n a may (not_carried h v path more x are e) d = absurd (other_refusal g n _ (sym d ∙ e))
crossed near far is s test asked host m g n a may (written h v x none e) d =
    let goals = same_goal h g _ n (sym e ∙ d) in
    let (served, at, message) = found near far is s test asked m g v (the_value h v) may x (ap (λ k. the_value k v) goals) in
    (served, at, (v, message, subst (λ k. far.uncarried s k v ≡ []) goals none))

-- and back: the head of a message that spells a value has its address
judged_so : (near far : MessageForm) → ReadsMessages near → (s : ServiceData) (asked : Asked) (head : Head) (body : List ℕ)
    (there : Address) (g : Goal) → ServesOperation (towards near far) s g.operation → IsAsked near s asked head g
    → IsHeadOf near s head (is_empty body) there → LeadsTo (IsRead near.syntax.text) near s body there g
    → IsJudged (towards near far) s asked head (is_empty body) (addressed there)
judged_so near far is s a_request head body there g served (goes, side) (request_head o m asks right e) led =
    let to_input : goal_of o the_input ≡ g = subst (λ t. LeadsTo (IsRead near.syntax.text) near s body t g) e led in
    let ops : g.operation ≡ o = sym (ap (λ k. k.operation) to_input) in
    of_request (Some o) m refl (subst (λ p. near.goes_to s head p) ops goes)
    (ap addressed e ∙ sym (request_addressed (towards near far) s head (is_empty body) o
    (subst (λ p. unserved (towards near far) s p ≡ None) ops served.served) right))
judged_so near far is s a_request head body there g served (goes, side) (response_head o m e) led =
    let answered = (goal_of_response (IsRead near.syntax.text) near s body o there g (response_of near s head o there e) led).1 in
    absurd (true_or_false (is_input g.role) side answered)
judged_so near far is s (a_response p) head body there g served (same, side) (request_head o m asks right e) led =
    let to_input : goal_of o the_input ≡ g = subst (λ t. LeadsTo (IsRead near.syntax.text) near s body t g) e led in
    absurd (true_or_false (is_input g.role) (sym (ap (λ k. is_input k.role) to_input)) side)
judged_so near far is s (a_response p) head body there g served (same, side) (response_head o m e) led =
    let ops = (goal_of_response (IsRead near.syntax.text) near s body o there g (response_of near s head o there e) led).0 in
    of_response p m refl (sym e ∙ ap (response_answer near s head) (sym ops ∙ same))

pub crosses_or_refused : (near far : MessageForm) → ReadsMessages near → CrossesOrRefused near far
crosses_or_refused near far is s test asked host m g serves may =
    (λ x. crossed near far is s test asked host m g x.0 (crosses g x.0) may x.1 refl, λ x. back x.0 x.1 x.2.0 x.2.1 x.2.2)
  where
    back : ServesOperation (towards near far) s g.operation → IsAsked near s asked m.head g → (v : Val) → ShortMsg near s test g v m
        → far.uncarried s g v ≡ [] → (n : Message) × CrossesAs near far s test asked host m.head m.body (crosses g n)
    back served at v message none = (
      far.written s g host v,
      written g v (value g v (record {
        there = message.there;
        judged = judged_so near far is s asked m.head m.body message.there g served at message.head message.goal;
        goal = far_led near far (IsRead near.syntax.text) s m.body message.there g message.goal;
        content = message.content;
        has = message.has;
      }) message.spells refl) none refl,
    )
