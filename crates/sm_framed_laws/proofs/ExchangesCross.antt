-- Values that both ends carry cross: each by itself, and so a session of them.
use Rattle.std.proofs.Common.{◌≡◌, ◌<◌, ◌^◌, ◌≤◌, ℕ, zero, suc, false, List, [], ◌∷◌, Option, None, Some, length, refl, sym, ap, ◌∙◌}
use Rattle.std.proofs.Common.{arith, subst}
use Rattle.std.specs.Prelude.{◌==◌, All, if◌then◌else◌}
use Rattle.std.proofs.lemmas.Bool.Decides.{nat_tests}
use Rattle.std.proofs.lemmas.List.Elements.{All-head, All-tail}
use Rattle.sm_tree.specs.Syntax.{IsRead, TreeFormat}
use Rattle.sm_compile.specs.declared.compiled.Served.{Served}
use Rattle.sm_compile.specs.declared.compiled.Served.TheVariants.{Yes, Unserved}
use Rattle.sm_shapes.specs.Fitting.{Test}
use Rattle.sm_shapes.specs.Values.{Val}
use Rattle.sm_http.specs.Connections.{says_close}
use Rattle.sm_http.specs.Framed.{Framed, message}
use Rattle.sm_http.specs.Limits.{message_body_limit}
use Rattle.sm_http.specs.Written as http
use Rattle.sm_http.specs.declared.message.Message.{Message}
use Rattle.sm_session.specs.Sessions.{TurnsFrom, front_closed, one_turn, turn_end, turn_limit}
use Rattle.sm_session.specs.Turns.{TurnSaid, asks, back_end, back_replied, replied_with}
use Rattle.sm_session.specs.declared.session_end.SessionEnd.TheVariants.{Closed, Quota}
use Rattle.sm_bind_laws.specs.service.ServiceData.{ServiceData}
use Rattle.sm_bind_laws.specs.messages.Crossings.{Crossing, CrossesAs, CrossesOrRefused, IsAsked, crosses, not_carried, or_by, refused}
use Rattle.sm_bind_laws.specs.messages.Crossings.{towards, written}
use Rattle.sm_bind_laws.specs.messages.Goals.{Asked, Goal, HasGoal, a_request, a_response, is_input, operation_at}
use Rattle.sm_bind_laws.specs.messages.HeadAnswers.{Address, path_unserved, to_goal, to_named_error}
use Rattle.sm_bind_laws.specs.messages.Heads.{is_empty}
use Rattle.sm_bind_laws.specs.messages.IsForm.{IsForm, Serves, ServesGoal, ServesOperation}
use Rattle.sm_bind_laws.specs.messages.Laws.{MayAsk}
use Rattle.sm_bind_laws.specs.messages.MessageAnswers.{the_value}
use Rattle.sm_bind_laws.specs.messages.MessageForm.{BodyUse, Content, HasContent, MessageForm, a_tree, as_bytes, as_empty_object, as_text, naming}
use Rattle.sm_bind_laws.specs.messages.MessageForm.{nothing, raw_bytes, unread}
use Rattle.sm_bind_laws.specs.messages.Messages.{LeadsTo, Msg, ShortMsg}
use Rattle.sm_bind_laws.proofs.messages.Contents.{read_once}
use Rattle.sm_bind_laws.proofs.messages.CrossedMessages.{found, near_serves}
use Rattle.sm_bind_laws.proofs.messages.OneReplies.{one_value_spelt}
use Rattle.sm_gateway.specs.GatewayData.{GatewayData, IsHost, ServesBoth, back_form, front_form}
use Rattle.sm_gateway.specs.GatewayTurns.{GatewayAsks, GatewayReplies, gateway_turn}
use Rattle.sm_framed_laws.specs.Exchanges.{Exchange, IsCarriedByBoth, MayBeExchanged, NestFew, back_sends, exchanged, front_sends}
use Rattle.sm_framed_laws.specs.Exchanges.{input_of, reply_by, reply_of, request_by}
use Rattle.sm_framed_laws.specs.Framing.{WrittenIsFramed, side_by}
use Rattle.sm_framed_laws.proofs.CrossedFramed.{crosses_or_stays, near_of, same_crossed}
use Rattle.sm_framed_laws.proofs.OpenHeads.{StaysOpen}

-- a body whose trees nest few levels is read within the limit
few_content : (F : TreeFormat) (u : BodyUse) (bytes : List ℕ) (c : Content) → NestFew F bytes → HasContent F u bytes c
    → HasContent (IsRead F) u bytes c
few_content F as_text bytes (a_tree n) few x = (x, few n x)
few_content F as_text bytes (raw_bytes b) few x = absurd x
few_content F as_text bytes nothing few x = absurd x
few_content F as_empty_object bytes c few x = x
few_content F as_bytes bytes c few x = x
few_content F unread bytes c few x = x

few_goal : (f : MessageForm) (s : ServiceData) (body : List ℕ) (there : Address) (g : Goal) → NestFew f.syntax.text body
    → LeadsTo f.syntax.text f s body there g → LeadsTo (IsRead f.syntax.text) f s body there g
few_goal f s body (to_goal k) g few x = x
few_goal f s body (to_named_error o) g few (e, names, same) = (
  e,
  record {
    tree = names.tree;
    has = few_content f.syntax.text (naming f (is_empty body)) body (a_tree names.tree) few names.has;
    names = names.names;
  },
  same,
)

few_spells : (f : MessageForm) (s : ServiceData) (test : Test) (g : Goal) (v : Val) (m : Message) → NestFew f.syntax.text m.body
    → Msg f s test g v m → ShortMsg f s test g v m
few_spells f s test g v m few x = record {
  there = x.there;
  head = x.head;
  goal = few_goal f s m.body x.there g few x.goal;
  content = x.content;
  has = few_content f.syntax.text (f.body_use s g (is_empty m.body)) m.body x.content few x.has;
  spells = x.spells;
}

-- the length of a body within the limits fits 64 bits
fits_bits : (n : ℕ) → n ≤ message_body_limit → n < 2 ^ 64
fits_bits n h = omega (arith, h)

-- a message that spells a value crosses as the one that is written for it
module _ (near far : MessageForm) (is : IsForm near) (s : ServiceData) (test : Test) (asked : Asked) (host : List ℕ)
    (serves : Serves (towards near far) s test) (may : MayAsk (towards near far) s asked) (g : Goal) (v : Val) (m : Message)
    (short : ShortMsg near s test g v m) (operation : ServesOperation (towards near far) s g.operation) where
  of_value : (n : Message) (a : Crossing) → CrossesAs near far s test asked host m.head m.body a → a ≡ crosses g n
      → n ≡ far.written s g host v
  of_value n a (refused r x e) d = absurd (crosses_or_stays g n r (sym d ∙ e))
  of_value n a (not_carried h w path more x are e) d = absurd (crosses_or_stays g n _ (sym d ∙ e))
  of_value n a (written h w x none e) d =
      let same = same_crossed h g (far.written s h host w) n (sym e ∙ d) in
      let read = (found near far is.reads s test asked m h w (the_value h w) may x refl).2 in
      let one = one_value_spelt (IsRead near.syntax.text) (read_once near.syntax.text is.reads.one_reading) near is.reads s test g h v w m
      (near_of near far s test serves) (near_serves near far s g.operation operation)
      (ap (λ k. k.operation) (sym same.0), ap (λ k. is_input k.role) (sym same.0)) short read in
      sym same.1 ∙ ap (λ k. far.written s k host w) same.0 ∙ ap (far.written s g host) (sym one.1)

value_crosses : (near far : MessageForm) → IsForm near → CrossesOrRefused near far → (s : ServiceData) (test : Test) (asked : Asked)
    (host own : List ℕ) (g : Goal) (v : Val) → Serves (towards near far) s test → MayAsk (towards near far) s asked
    → ServesOperation (towards near far) s g.operation → HasGoal s g → IsAsked near s asked (near.written s g host v).head g
    → IsCarriedByBoth near far s test host g v
    → CrossesAs near far s test asked own (near.written s g host v).head (near.written s g host v).body (crosses g (far.written s g own v))
value_crosses near far is crossed s test asked host own g v serves may operation has at carried =
    let m = near.written s g host v in
    let goal : ServesGoal near s g = record { operation = near_serves near far s g.operation operation; goal = has } in
    let spells = is.written_is s test g host v (near_of near far s test serves) goal carried.fits carried.near_carries
    (fits_bits (length m.body) carried.within.body) in
    let short = few_spells near s test g v m carried.few spells in
    let (n, x) = (crossed s test asked own m g serves may).1 (operation, at, (v, short, carried.far_carries)) in
    let same = of_value near far is s test asked own serves may g v m short operation n (crosses g n) x refl in
    subst (λ k. CrossesAs near far s test asked own m.head m.body (crosses g k)) same x

-- what both ends serve is served from either side
other_way : (near far : MessageForm) (s : ServiceData) (test : Test) → Serves (towards near far) s test → Serves (towards far near) s test
other_way near far s test serves =
    record { servable = serves.servable; asks = (serves.asks.1, serves.asks.0); defaults = serves.defaults }

none_either : (o p : Option (List ℕ)) → or_by o p ≡ None → or_by p o ≡ None
none_either None None e = refl
none_either None (Some path) e = e
none_either (Some path) p e = absurd cc

operation_other_way : (near far : MessageForm) (s : ServiceData) (o : ℕ) → ServesOperation (towards near far) s o
    → ServesOperation (towards far near) s o
operation_other_way near far s o h = record { within = h.within; served = by (operation_at s o).served h.served }
  where
    by : (served : Served) → path_unserved served (or_by (near.restriction s o) (far.restriction s o)) ≡ None
        → path_unserved served (or_by (far.restriction s o) (near.restriction s o)) ≡ None
    by Yes e = none_either (near.restriction s o) (far.restriction s o) e
    by (Unserved path) e = absurd cc

not_last : (n after : ℕ) → suc n < suc after → after == 0 ≡ false
not_last n after h = grind (arith, nat_tests)

-- what is known of each protocol
pub record IsKnown (f : MessageForm) : Type 0 where
  pub form : IsForm f
  pub framed : WrittenIsFramed f
  pub stays : StaysOpen f

module _ (g : GatewayData) (test : Test) (host : List ℕ) (serves : ServesBoth g test) (host_is : IsHost host)
    (front : IsKnown (front_form g)) (back : IsKnown (back_form g)) (asks_cross : CrossesOrRefused (front_form g) (back_form g))
    (replies_cross : CrossesOrRefused (back_form g) (front_form g)) where
  abbrev s : ServiceData
  s = g.service

  abbrev backwards : Serves (towards (back_form g) (front_form g)) s test
  backwards = other_way (front_form g) (back_form g) s test serves

  -- of one exchange
  module _ (e : Exchange) (may : MayBeExchanged g test host e) where
    abbrev request : Message
    request = request_by (front_form g) s host e

    abbrev reply : Message
    reply = reply_by (back_form g) s host e

    abbrev answer : Message
    answer = reply_by (front_form g) s g.host e

    abbrev served_back : ServesOperation (towards (back_form g) (front_form g)) s e.operation
    served_back = operation_other_way (front_form g) (back_form g) s e.operation may.served

    request_goal : ServesGoal (front_form g) s (input_of e)
    request_goal =
        record { operation = near_serves (front_form g) (back_form g) s e.operation may.served; goal = (may.served.within, tt) }

    reply_goal : ServesGoal (back_form g) s (reply_of e)
    reply_goal =
        record { operation = near_serves (back_form g) (front_form g) s e.operation served_back; goal = (may.served.within, may.role) }

    asked : CrossesAs (front_form g) (back_form g) s test a_request g.host request.head request.body
        (crosses (input_of e) (request_by (back_form g) s g.host e))
    asked =
        value_crosses (front_form g) (back_form g) front.form asks_cross s test a_request host g.host (input_of e) e.input serves tt may.served
        (may.served.within, tt) (may.goes, refl) may.input

    replied : CrossesAs (back_form g) (front_form g) s test (a_response e.operation) g.host reply.head reply.body (crosses (reply_of e) answer)
    replied =
        value_crosses (back_form g) (front_form g) back.form replies_cross s test (a_response e.operation) host g.host (reply_of e) e.reply
        backwards served_back served_back (may.served.within, may.role) (refl, may.replies) may.reply

    asks_back : GatewayAsks g test request (asks (http.written (request_by (back_form g) s g.host e)))
    asks_back = record { crossing = crosses (input_of e) (request_by (back_form g) s g.host e); crossed = asked; same = refl }

    answers : GatewayReplies g test request reply answer
    answers = record {
      goal = input_of e;
      far = request_by (back_form g) s g.host e;
      request = asked;
      crossing = crosses (reply_of e) answer;
      crossed = replied;
      same = refl;
    }

    request_open : says_close request.head ≡ false
    request_open =
        front.stays s test (input_of e) host e.input (near_of (front_form g) (back_form g) s test serves) request_goal may.input.fits
        may.input.near_carries host_is

    reply_open : says_close reply.head ≡ false
    reply_open =
        back.stays s test (reply_of e) host e.reply (near_of (back_form g) (front_form g) s test backwards) reply_goal may.reply.fits
        may.reply.near_carries host_is

    abbrev said : List ℕ → TurnSaid
    said rest = replied_with (http.written (request_by (back_form g) s g.host e)) reply rest answer

    -- the session goes on behind it
    goes_on : (after : ℕ) (rest : List ℕ) → after == 0 ≡ false → turn_end after request.head (said rest).ending ≡ None
    goes_on after rest more =
        ap (λ closes. turn_end after request.head (back_end closes)) reply_open
        ∙ ap (λ closes. if closes then Some Closed else (if after == 0 then Some Quota else None)) request_open
        ∙ ap (λ last. if last then Some Quota else None) more

  -- so many turns may come, and fewer exchanges do
  all_cross : (left : ℕ) (es : List Exchange) → length es < left → All (MayBeExchanged g test host) es
      → TurnsFrom (gateway_turn g test) left (front_sends g host es) (back_sends g host es) (exchanged g host es)
  all_cross left [] few may = front_closed refl
  all_cross zero (e ∷ es) few may = absurd (omega (arith, few))
  all_cross (suc after) (e ∷ es) few may =
      let one = All-head (MayBeExchanged g test host) e es may in
      let request_framed = front.framed s test (input_of e) host e.input (near_of (front_form g) (back_form g) s test serves)
      (request_goal e one) one.input.fits one.input.near_carries host_is one.input.within (front_sends g host es) in
      let reply_framed = back.framed s test (reply_of e) host e.reply (near_of (back_form g) (front_form g) s test backwards)
      (reply_goal e one) one.reply.fits one.reply.near_carries host_is one.reply.within (back_sends g host es) in
      let back_framed = subst (λ t. Framed (side_by t) (back_sends g host (e ∷ es)) (message (reply e one) (back_sends g host es)))
      one.replies reply_framed in
      one_turn request_framed (back_replied (asks_back e one) back_framed (answers e one))
      (goes_on e one after (back_sends g host es) (not_last (length es) after few))
      (all_cross after es (omega (arith, few)) (All-tail (MayBeExchanged g test host) e es may))

  pub messages_cross : (es : List Exchange) → length es < turn_limit → All (MayBeExchanged g test host) es
      → TurnsFrom (gateway_turn g test) turn_limit (front_sends g host es) (back_sends g host es) (exchanged g host es)
  messages_cross es few may = all_cross turn_limit es few may
