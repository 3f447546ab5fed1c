-- A message has one crossing, and some: it is its answer at the near end, and of a value what the far end can't carry.
use Rattle.std.proofs.Common.{◌≡◌, ℕ, List, [], ◌∷◌, refl, sym, ap, ◌∙◌, subst}
use Rattle.sm_tree.specs.declared.path.Step.{Step}
use Rattle.sm_shapes.specs.Fitting.{Test}
use Rattle.sm_shapes.specs.declared.fault.FaultKind.TheVariants.{NotCarried}
use Rattle.sm_http.specs.declared.message.Head.{Head}
use Rattle.sm_protocols.specs.service.ServiceData.{ServiceData}
use Rattle.sm_protocols.specs.messages.Crossings.{Crossing, CrossesAs, crosses, not_carried, refused, stays, towards, written}
use Rattle.sm_protocols.specs.messages.Goals.{Asked}
use Rattle.sm_protocols.specs.messages.IsForm.{ReadsMessages}
use Rattle.sm_protocols.specs.messages.MessageAnswers.{MessageAnswer, MessageAnswers, by_fault, the_refusal, the_value}
use Rattle.sm_protocols.specs.messages.MessageForm.{MessageForm}
use Rattle.sm_protocols.proofs.messages.CrossedMessages.{reads_towards}
use Rattle.sm_protocols.proofs.messages.OneMessage.{one_message}
use Rattle.sm_protocols.proofs.messages.SomeMessage.{some_message}
use Rattle.sm_gateway.specs.Laws.{OneCrossing, SomeCrossing}

-- a crossing, where these paths of its value aren't carried
abbrev pub unless_carried : List (List Step) → Crossing → Crossing
unless_carried [] a = a
unless_carried (path ∷ more) a = stays (by_fault path NotCarried)

-- the crossing by an answer at the near end
abbrev pub crossing_of : MessageForm → ServiceData → List ℕ → MessageAnswer → Crossing
crossing_of far s host (the_refusal r) = stays r
crossing_of far s host (the_value g v) = unless_carried (far.uncarried s g v) (crosses g (far.written s g host v))

pub answer_of_crossing : (near far : MessageForm) (s : ServiceData) (test : Test) (asked : Asked) (host : List ℕ) (head : Head)
    (body : List ℕ) (a : Crossing) → CrossesAs near far s test asked host head body a
    → (p : MessageAnswer) × MessageAnswers (towards near far) s test asked head body p × (a ≡ crossing_of far s host p)
answer_of_crossing near far s test asked host head body a (refused r x e) = (the_refusal r, x, e)
answer_of_crossing near far s test asked host head body a (not_carried g v path more x are e) =
    (the_value g v, x, e ∙ sym (ap (λ ps. unless_carried ps (crosses g (far.written s g host v))) are))
answer_of_crossing near far s test asked host head body a (written g v x none e) =
    (the_value g v, x, e ∙ sym (ap (λ ps. unless_carried ps (crosses g (far.written s g host v))) none))

pub crossing_of_answer : (near far : MessageForm) (s : ServiceData) (test : Test) (asked : Asked) (host : List ℕ) (head : Head)
    (body : List ℕ) (p : MessageAnswer) → MessageAnswers (towards near far) s test asked head body p
    → CrossesAs near far s test asked host head body (crossing_of far s host p)
crossing_of_answer near far s test asked host head body (the_refusal r) x = refused r x refl
crossing_of_answer near far s test asked host head body (the_value g v) x = by (far.uncarried s g v) refl
  where
    by : (ps : List (List Step)) → far.uncarried s g v ≡ ps
        → CrossesAs near far s test asked host head body (crossing_of far s host (the_value g v))
    by [] e =
        subst (λ ps. CrossesAs near far s test asked host head body (unless_carried ps (crosses g (far.written s g host v)))) (sym e)
        (written g v x e refl)
    by (path ∷ more) e =
        subst (λ ps. CrossesAs near far s test asked host head body (unless_carried ps (crosses g (far.written s g host v)))) (sym e)
        (not_carried g v path more x e refl)

pub one_crossing : (near far : MessageForm) → ReadsMessages near → OneCrossing near far
one_crossing near far is s test asked host head body a b serves may x y =
    let (p, answers, same) = answer_of_crossing near far s test asked host head body a x in
    let (q, answers1, same1) = answer_of_crossing near far s test asked host head body b y in
    let one = one_message (towards near far) (reads_towards near far is) s test asked head body p q serves may answers answers1 in
    same ∙ ap (crossing_of far s host) one ∙ sym same1

pub some_crossing : (near far : MessageForm) → ReadsMessages near → SomeCrossing near far
some_crossing near far is s test asked host head body serves may deny =
    some_message (towards near far) (reads_towards near far is) s test asked head body serves may
    (λ p x. deny (crossing_of far s host p) (crossing_of_answer near far s test asked host head body p x))
