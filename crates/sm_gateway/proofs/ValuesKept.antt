-- A message that crosses goes out as the one that is written for its value, and both spell that value alone.
use Rattle.std.proofs.Common.{◌≡◌, ◌<◌, ℕ, List, [], ◌∷◌, Option, None, Some, length, refl, sym, subst}
use Rattle.std.specs.Prelude.{◌^◌}
use Rattle.sm_tree.specs.Syntax.{IsRead}
use Rattle.sm_tree.specs.declared.path.Step.{Step}
use Rattle.sm_shapes.specs.Fitting.{Test}
use Rattle.sm_shapes.specs.Values.{Val}
use Rattle.sm_shapes.specs.declared.fault.FaultKind.TheVariants.{NotCarried}
use Rattle.sm_compile.specs.declared.compiled.Served.{Served}
use Rattle.sm_compile.specs.declared.compiled.Served.TheVariants.{Yes, Unserved}
use Rattle.sm_http.specs.declared.message.Message.{Message}
use Rattle.sm_protocols.specs.service.ServiceData.{ServiceData}
use Rattle.sm_protocols.specs.messages.Crossings.{crosses, or_by, stays, towards}
use Rattle.sm_protocols.specs.messages.Goals.{Asked, Goal, operation_at}
use Rattle.sm_protocols.specs.messages.HeadAnswers.{Address, path_unserved, to_goal, to_named_error}
use Rattle.sm_protocols.specs.messages.Heads.{is_empty}
use Rattle.sm_protocols.specs.messages.IsForm.{IsForm, ReadsMessages, Serves, ServesGoal, ServesOperation}
use Rattle.sm_protocols.specs.messages.MessageAnswers.{MessageAnswer, MessageAnswers, Refusal, by_fault, the_refusal, the_value}
use Rattle.sm_protocols.specs.messages.MessageForm.{BodyUse, Content, HasContent, MessageForm, a_tree, as_bytes, as_empty_object, as_text, naming}
use Rattle.sm_protocols.specs.messages.MessageForm.{nothing, raw_bytes, unread}
use Rattle.sm_protocols.specs.messages.Messages.{LeadsTo, Msg, ShortMsg}
use Rattle.sm_protocols.proofs.messages.OneReplies.{one_reply}
use Rattle.sm_gateway.specs.Laws.{SpellsAlone, ValuesKept}
use Rattle.sm_gateway.proofs.OneCrossing.{answer_of_crossing, crossing_of, unless_carried}
use Rattle.sm_gateway.proofs.ValuesRead.{near_of, value_read}

-- a body that is read within the limit on levels is one of any number of them
read_content : (f : MessageForm) (u : BodyUse) (bytes : List ℕ) (c : Content) → HasContent (IsRead f.syntax.text) u bytes c
    → HasContent f.syntax.text u bytes c
read_content f as_text bytes (a_tree n) x = x.0
read_content f as_text bytes (raw_bytes b) x = absurd x
read_content f as_text bytes nothing x = absurd x
read_content f as_empty_object bytes c x = x
read_content f as_bytes bytes c x = x
read_content f unread bytes c x = x

read_goal : (f : MessageForm) (s : ServiceData) (body : List ℕ) (there : Address) (g : Goal)
    → LeadsTo (IsRead f.syntax.text) f s body there g → LeadsTo f.syntax.text f s body there g
read_goal f s body (to_goal k) g x = x
read_goal f s body (to_named_error o) g (e, names, same) = (
  e,
  record {
    tree = names.tree;
    has = read_content f (naming f (is_empty body)) body (a_tree names.tree) names.has;
    names = names.names;
  },
  same,
)

short_spells : (f : MessageForm) (s : ServiceData) (test : Test) (g : Goal) (v : Val) (m : Message) → ShortMsg f s test g v m
    → Msg f s test g v m
short_spells f s test g v m x = record {
  there = x.there;
  head = x.head;
  goal = read_goal f s m.body x.there g x.goal;
  content = x.content;
  has = read_content f (f.body_use s g (is_empty m.body)) m.body x.content x.has;
  spells = x.spells;
}

-- of a message that crosses: its value, which the far end carries, and what is written for it
record Carried (near far : MessageForm) (s : ServiceData) (test : Test) (asked : Asked) (host : List ℕ) (m n : Message) (g : Goal)
    : Type 0 where
  pub value : Val
  pub answers : MessageAnswers (towards near far) s test asked m.head m.body (the_value g value)
  pub carried : far.uncarried s g value ≡ []
  pub same : n ≡ far.written s g host value

crosses_or_stays : (g : Goal) (n : Message) (r : Refusal) → crosses g n ≡ stays r → ⊥
crosses_or_stays g n r e = cc

same_crossed : (g h : Goal) (m n : Message) → crosses g m ≡ crosses h n → (g ≡ h) × (m ≡ n)
same_crossed g h m n e = (cc, cc)

carried_of : (near far : MessageForm) (s : ServiceData) (test : Test) (asked : Asked) (host : List ℕ) (m n : Message) (g : Goal)
    (p : MessageAnswer) → MessageAnswers (towards near far) s test asked m.head m.body p → crosses g n ≡ crossing_of far s host p
    → Carried near far s test asked host m n g
carried_of near far s test asked host m n g (the_refusal r) x e = absurd (crosses_or_stays g n r e)
carried_of near far s test asked host m n g (the_value h v) x e = by (far.uncarried s h v) refl e
  where
    by : (ps : List (List Step)) → far.uncarried s h v ≡ ps → crosses g n ≡ unless_carried ps (crosses h (far.written s h host v))
        → Carried near far s test asked host m n g
    by (path ∷ more) are d = absurd (crosses_or_stays g n (by_fault path NotCarried) d)
    by [] none d =
        let (goals, same) = same_crossed g h n (far.written s h host v) d in
        subst (λ k. Carried near far s test asked host m n k) (sym goals) (record {
          value = v;
          answers = x;
          carried = none;
          same = same;
        })

-- what both ends serve the far end serves
path_or_none : (o p : Option (List ℕ)) → or_by o p ≡ None → p ≡ None
path_or_none None p e = e
path_or_none (Some path) p e = absurd cc

pub far_serves : (near far : MessageForm) (s : ServiceData) (o : ℕ) → ServesOperation (towards near far) s o → ServesOperation far s o
far_serves near far s o h = record { within = h.within; served = by (operation_at s o).served h.served }
  where
    by : (served : Served) → path_unserved served (or_by (near.restriction s o) (far.restriction s o)) ≡ None
        → path_unserved served (far.restriction s o) ≡ None
    by Yes e = path_or_none (near.restriction s o) (far.restriction s o) e
    by (Unserved path) e = absurd cc

pub far_of : (near far : MessageForm) (s : ServiceData) (test : Test) → Serves (towards near far) s test → Serves far s test
far_of near far s test serves = record { servable = serves.servable; asks = serves.asks.1; defaults = serves.defaults }

-- a message that spells a value spells it alone
spells_alone : (f : MessageForm) → ReadsMessages f → (s : ServiceData) (test : Test) (g : Goal) (v : Val) (m : Message) → Serves f s test
    → ServesOperation f s g.operation → Msg f s test g v m → SpellsAlone f s test g v m
spells_alone f is s test g v m serves served x =
    record { is = x; alone = λ h w of_one y. one_reply f is s test g h v w m serves served of_one x y }

pub values_kept : (near far : MessageForm) → ReadsMessages near → IsForm far → ValuesKept near far
values_kept near far is far_is s test asked host m n g serves may x small =
    let (p, answers, same) = answer_of_crossing near far s test asked host m.head m.body (crosses g n) x in
    let carried = carried_of near far s test asked host m n g p answers same in
    let v = carried.value in
    let read = value_read near far is s test asked m g v serves may carried.answers in
    let far_served = far_serves near far s g.operation read.served in
    let far_goal : ServesGoal far s g = record { operation = far_served; goal = read.near_goal.goal } in
    let far_message = far_is.written_is s test g host v (far_of near far s test serves) far_goal read.fits carried.carried
    (subst (λ k. length k.body < 2 ^ 64) carried.same small) in
    record {
      value = v;
      short = read.short;
      near_spells = spells_alone near is s test g v m (near_of near far s test serves) read.near_goal.operation
          (short_spells near s test g v m read.short);
      same = carried.same;
      far_spells = spells_alone far far_is.reads s test g v n (far_of near far s test serves) far_served
          (subst (λ k. Msg far s test g v k) (sym carried.same) far_message);
    }
