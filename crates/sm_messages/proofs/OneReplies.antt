-- A message spells one value at most for an operation, on one side.
use Rattle.std.proofs.Common.{◌≡◌, ℕ, true, false, List, refl, sym, ap, ◌∙◌, subst}
use Rattle.sm_tree.specs.Syntax.{TreeFormat}
use Rattle.sm_shapes.specs.Fitting.{Test}
use Rattle.sm_shapes.specs.Values.{Val}
use Rattle.sm_http.specs.declared.message.Head.{Head}
use Rattle.sm_http.specs.declared.message.Message.{Message}
use Rattle.sm_service.specs.ServiceData.{ServiceData}
use Rattle.sm_messages.specs.Goals.{AreOfOne, Goal, HasGoal, HasRole, goal_of, is_input, operation_at, the_input}
use Rattle.sm_messages.specs.HeadAnswers.{Address, addressed, response_answer, to_goal}
use Rattle.sm_messages.specs.Heads.{is_empty}
use Rattle.sm_messages.specs.IsForm.{ReadsMessages, Serves, ServesGoal, ServesOperation}
use Rattle.sm_messages.specs.Laws.{OneReply}
use Rattle.sm_messages.specs.MessageForm.{HasContent, MessageForm}
use Rattle.sm_messages.specs.Messages.{IsHeadOf, LeadsTo, SpellsBy, request_head, response_head}
use Rattle.sm_messages.proofs.Contents.{HasOneTree, one_content, one_goal}
use Rattle.sm_messages.proofs.HeadsJudged.{AddressOf, goal_of_response, response_of, same_address}

true_or_false : (a : Goal) → is_input a.role ≡ true → is_input a.role ≡ false → ⊥
true_or_false a e d = let same : true ≡ false = sym e ∙ d in cc

-- the goal of a head: of a request the input of its operation, else one of the operation's responses
pub goal_of_head : (F : TreeFormat) (f : MessageForm) → ReadsMessages f → (s : ServiceData) (head : Head) (body : List ℕ) (there : Address)
    (g : Goal) → ServesOperation f s g.operation → IsHeadOf f s head (is_empty body) there → LeadsTo F f s body there g → HasGoal s g
goal_of_head F f is s head body there g serves (request_head o m asks right same) led =
    let to_input : LeadsTo F f s body (to_goal (goal_of o the_input)) g = subst (λ t. LeadsTo F f s body t g) same led in
    (serves.within, subst (λ h. HasRole (operation_at s h.operation) h.role) to_input tt)
goal_of_head F f is s head body there g serves (response_head o m e) led =
    let (same, side, role) = goal_of_response F f s body o there g (response_of f s head o there e) led in
    (serves.within, subst (λ p. HasRole (operation_at s p) g.role) (sym same) role)

-- goals of one operation and side have one address
one_address : (F : TreeFormat) (f : MessageForm) (s : ServiceData) (head : Head) (body : List ℕ) (there here : Address) (g h : Goal)
    → AreOfOne g h → IsHeadOf f s head (is_empty body) there → LeadsTo F f s body there g → IsHeadOf f s head (is_empty body) here
    → LeadsTo F f s body here h → there ≡ here
one_address F f s head body there here g h (same, side) (request_head o m asks right e) led (request_head p n asks1 right1 d) led1 =
    let to_input : goal_of o the_input ≡ g = subst (λ t. LeadsTo F f s body t g) e led in
    let to_input1 : goal_of p the_input ≡ h = subst (λ t. LeadsTo F f s body t h) d led1 in
    let ops : o ≡ p = ap (λ k. k.operation) to_input ∙ same ∙ sym (ap (λ k. k.operation) to_input1) in
    e ∙ ap (λ q. to_goal (goal_of q the_input)) ops ∙ sym d
one_address F f s head body there here g h (same, side) (request_head o m asks right e) led (response_head p n d) led1 =
    let to_input : goal_of o the_input ≡ g = subst (λ t. LeadsTo F f s body t g) e led in
    let asked : is_input g.role ≡ true = sym (ap (λ k. is_input k.role) to_input) in
    let answered = (goal_of_response F f s body p here h (response_of f s head p here d) led1).1 in
    absurd (true_or_false g asked (side ∙ answered))
one_address F f s head body there here g h (same, side) (response_head o m e) led (request_head p n asks1 right1 d) led1 =
    let to_input : goal_of p the_input ≡ h = subst (λ t. LeadsTo F f s body t h) d led1 in
    let asked : is_input h.role ≡ true = sym (ap (λ k. is_input k.role) to_input) in
    let answered = (goal_of_response F f s body o there g (response_of f s head o there e) led).1 in
    absurd (true_or_false h asked (sym side ∙ answered))
one_address F f s head body there here g h (same, side) (response_head o m e) led (response_head p n d) led1 =
    let first = (goal_of_response F f s body o there g (response_of f s head o there e) led).0 in
    let second = (goal_of_response F f s body p here h (response_of f s head p here d) led1).0 in
    let ops : o ≡ p = sym first ∙ same ∙ second in
    same_address there here (sym e ∙ ap (response_answer f s head) ops ∙ d)

pub one_value_spelt : (F : TreeFormat) → HasOneTree F → (f : MessageForm) → ReadsMessages f → (s : ServiceData) (test : Test) (g h : Goal)
    (v w : Val) (m : Message) → Serves f s test → ServesOperation f s g.operation → AreOfOne g h → SpellsBy F f s test g v m
    → SpellsBy F f s test h w m → (g ≡ h) × (v ≡ w)
one_value_spelt F one f is s test g h v w m serves served of_one x y =
    let address = one_address F f s m.head m.body x.there y.there g h of_one x.head x.goal y.head y.goal in
    let goals = one_goal F one f s m.body y.there g h (subst (λ t. LeadsTo F f s m.body t g) address x.goal) y.goal in
    let has = subst (λ k. HasContent F (f.body_use s k (is_empty m.body)) m.body x.content) goals x.has in
    let contents = one_content F one (f.body_use s h (is_empty m.body)) m.body x.content y.content has y.has in
    let spells = subst (λ c. f.spells s test h m.head c v) contents (subst (λ k. f.spells s test k m.head x.content v) goals x.spells) in
    let inside : HasGoal s h = subst (λ k. HasGoal s k) goals (goal_of_head F f is s m.head m.body x.there g served x.head x.goal) in
    let there : ServesGoal f s h = record { operation = subst (λ k. ServesOperation f s k.operation) goals served; goal = inside } in
    (goals, is.one_value s test h m.head y.content v w serves there spells y.spells)

pub one_reply : (f : MessageForm) → ReadsMessages f → OneReply f
one_reply f is s test g h v w m serves served of_one x y =
    one_value_spelt f.syntax.text is.one_reading f is s test g h v w m serves served of_one x y
