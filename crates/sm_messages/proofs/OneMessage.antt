-- A message has one answer.
use Rattle.std.proofs.Common.{◌≡◌, ◌⊎◌, inl, inr, ℕ, List, [], ◌∷◌, refl, sym, ap, ◌∙◌, subst}
use Rattle.sm_tree.specs.Syntax.{IsRead}
use Rattle.sm_tree.specs.declared.path.Step.{Step}
use Rattle.sm_shapes.specs.Fitting.{Test}
use Rattle.sm_shapes.specs.Values.{Val}
use Rattle.sm_shapes.specs.declared.fault.FaultKind.{FaultKind}
use Rattle.sm_codec.specs.FaultLists.{FaultAt}
use Rattle.sm_http.specs.declared.message.Head.{Head}
use Rattle.sm_service.specs.ServiceData.{ServiceData}
use Rattle.sm_messages.specs.Goals.{Asked, Goal}
use Rattle.sm_messages.specs.HeadAnswers.{Address, HeadAnswer, IsJudged, addressed, refused_at_head, to_named_error, unknown_error}
use Rattle.sm_messages.specs.Heads.{is_empty}
use Rattle.sm_messages.specs.IsForm.{ReadsMessages, Serves, ServesGoal}
use Rattle.sm_messages.specs.Laws.{MayAsk, OneAnswer}
use Rattle.sm_messages.specs.MessageAnswers.{MessageAnswer, MessageAnswers, Reaches, at_head, by_fault, by_head, by_syntax, fault, no_name}
use Rattle.sm_messages.specs.MessageAnswers.{no_text, the_refusal, the_value, value}
use Rattle.sm_messages.specs.MessageForm.{Content, MessageForm}
use Rattle.sm_messages.proofs.Contents.{Arrived, Arrives, arrived, no_error, no_tree, one_arrival}
use Rattle.sm_messages.proofs.HeadsJudged.{goal_served, judged_address, one_judged}

-- what stands at a goal spells a value, or has a first fault
abbrev pub Concludes : MessageForm → ServiceData → Test → Head → Arrived → MessageAnswer → Type 0
Concludes f s test head (no_tree r) a = a ≡ the_refusal (by_syntax r)
Concludes f s test head no_error a = a ≡ the_refusal (by_head unknown_error)
Concludes f s test head (arrived g c) a =
    ((v : Val) × f.spells s test g head c v × (a ≡ the_value g v))
    ⊎ ((path : List Step) × (kind : FaultKind) × (later : List FaultAt) × (f.faults s test g head c ≡ (path, kind) ∷ later)
    × (a ≡ the_refusal (by_fault path kind)))

abbrev pub IsServed : MessageForm → ServiceData → Arrived → Type 0
IsServed f s (no_tree r) = Unit {0}
IsServed f s no_error = Unit {0}
IsServed f s (arrived g c) = ServesGoal f s g

-- by what its head comes to
abbrev pub ComesSo : MessageForm → ServiceData → Test → Head → List ℕ → MessageAnswer → HeadAnswer → Type 0
ComesSo f s test head body a (refused_at_head r) = a ≡ the_refusal (by_head r)
ComesSo f s test head body a (addressed there) =
    (b : Arrived) × Arrives f s body there b × IsServed f s b × Concludes f s test head b a

reached : (f : MessageForm) → ReadsMessages f → (s : ServiceData) (test : Test) (asked : Asked) (head : Head) (body : List ℕ)
    (a : MessageAnswer) (g : Goal) → MayAsk f s asked → (there : Reaches f s asked head body g)
    → Concludes f s test head (arrived g there.content) a → ComesSo f s test head body a (addressed there.there)
reached f is s test asked head body a g may there so =
    let at = (judged_address f is s asked head (is_empty body) there.there there.judged).1 in (
      arrived g there.content,
      (there.goal, there.has),
      goal_served f is (IsRead f.syntax.text) s asked head body there.there g may at
          there.goal,
      so,
    )

pub comes_so : (f : MessageForm) → ReadsMessages f → (s : ServiceData) (test : Test) (asked : Asked) (head : Head) (body : List ℕ)
    (a : MessageAnswer) → MayAsk f s asked → MessageAnswers f s test asked head body a
    → (j : HeadAnswer) × IsJudged f s asked head (is_empty body) j × ComesSo f s test head body a j
comes_so f is s test asked head body a may (at_head r judged e) = (refused_at_head r, judged, e)
comes_so f is s test asked head body a may (no_text there r judged used refused e) =
    (addressed there, judged, (no_tree r, (used, refused), tt, e))
comes_so f is s test asked head body a may (no_name o n judged has none e) =
    (addressed (to_named_error o), judged, (no_error, (n, has, none), tt, e))
comes_so f is s test asked head body a may (fault g path kind later there first e) =
    (addressed there.there, there.judged, reached f is s test asked head body a g may there (inr (path, kind, later, first, e)))
comes_so f is s test asked head body a may (value g v there spells e) =
    (addressed there.there, there.judged, reached f is s test asked head body a g may there (inl (v, spells, e)))

first_or_none : (path : List Step) (kind : FaultKind) (later fs : List FaultAt) → fs ≡ (path, kind) ∷ later → fs ≡ [] → ⊥
first_or_none path kind later fs e d = let same : [] ≡ (path, kind) ∷ later = sym d ∙ e in cc

abbrev first_of : List FaultAt → MessageAnswer → MessageAnswer
first_of [] a = a
first_of (f ∷ fs) a = the_refusal (by_fault f.0 f.1)

one_conclusion : (f : MessageForm) → ReadsMessages f → (s : ServiceData) (test : Test) (head : Head) (b : Arrived) (a d : MessageAnswer)
    → Serves f s test → IsServed f s b → Concludes f s test head b a → Concludes f s test head b d → a ≡ d
one_conclusion f is s test head (no_tree r) a d serves served x y = x ∙ sym y
one_conclusion f is s test head no_error a d serves served x y = x ∙ sym y
one_conclusion f is s test head (arrived g c) a d serves served (inl (v, x, e)) (inl (w, y, h)) =
    e ∙ ap (the_value g) (is.one_value s test g head c v w serves served x y) ∙ sym h
one_conclusion f is s test head (arrived g c) a d serves served (inl (v, x, e)) (inr (path, kind, later, first, h)) =
    absurd (first_or_none path kind later (f.faults s test g head c) first ((is.no_fault s test g head c serves served).1 (v, x)))
one_conclusion f is s test head (arrived g c) a d serves served (inr (path, kind, later, first, h)) (inl (v, x, e)) =
    absurd (first_or_none path kind later (f.faults s test g head c) first ((is.no_fault s test g head c serves served).1 (v, x)))
one_conclusion f is s test head (arrived g c) a d serves served (inr (path, kind, later, first, e)) (inr (way, sort, rest, begin, h)) =
    e ∙ ap (λ fs. first_of fs a) (sym first ∙ begin) ∙ sym h

one_by_head : (f : MessageForm) → ReadsMessages f → (s : ServiceData) (test : Test) (head : Head) (body : List ℕ) (j : HeadAnswer)
    (a d : MessageAnswer) → Serves f s test → ComesSo f s test head body a j → ComesSo f s test head body d j → a ≡ d
one_by_head f is s test head body (refused_at_head r) a d serves x y = x ∙ sym y
one_by_head f is s test head body (addressed there) a d serves (b, comes, served, so) (c, comes1, served1, so1) =
    let same = one_arrival f is s body there c b comes1 comes in
    one_conclusion f is s test head b a d serves served so (subst (λ k. Concludes f s test head k d) same so1)

pub one_message : (f : MessageForm) → ReadsMessages f → OneAnswer f
one_message f is s test asked head body a d serves may x y =
    let (j, judged, so) = comes_so f is s test asked head body a may x in
    let (k, judged1, so1) = comes_so f is s test asked head body d may y in
    let same = one_judged f is s test serves asked head (is_empty body) k j judged1 judged in
    one_by_head f is s test head body j a d serves so (subst (λ h. ComesSo f s test head body d h) same so1)
