-- A piece more of a message that a gateway began to read.
use Rattle.std.proofs.Common.{◌≡◌, ℕ, Bool, List, ◌++◌, sym, subst}
use Rattle.std.specs.Prelude.{OnOk, Result}
use Rattle.std.proofs.lemmas.Result.{on_ok_weaker}
use Rattle.sm_bytes.specs.declared.no_memory.NoMemory.{NoMemory}
use Rattle.sm_shapes.specs.Fitting.{Test}
use Rattle.sm_shapes.specs.InOrder.{DefaultsPass}
use Rattle.sm_http.specs.declared.message.Head.{Head}
use Rattle.sm_protocols.specs.service.ServiceData.{ServiceData}
use Rattle.sm_session.specs.Responding.{HasRead, HoldsOn, ReadsOn}
use Rattle.sm_protocols.specs.messages.Goals.{Asked, a_request, a_response}
use Rattle.sm_protocols.specs.messages.declared.refusal.MessageRefusal.{MessageRefusal}
use Rattle.sm_protocols.specs.ProtocolBodies.{HoldsFewOn, ProtocolBegun, SomeBegun}
use Rattle.sm_protocols.specs.declared.body.ProtocolBody.{ProtocolBody}
use Rattle.sm_protocols.specs.declared.spoken.Spoken.{Spoken}
use Rattle.sm_gateway.specs.GatewayData.{GatewayData}
use Rattle.sm_gateway.specs.declared.body.GatewayBody.{GatewayBody}
use Rattle.sm_gateway.specs.declared.body.GatewayBody.TheVariants.{Refused, Reply, Request}
use Rattle.sm_gateway.specs.steps.Reading.{BothSpoken, GatewayHolds, GatewayReads}

-- one that is refused is read no more
pub refused_on : (both : BothSpoken) (g : GatewayData) (test : Test) (old : GatewayBody) (refusal : MessageRefusal) (piece : List ℕ) → old
    ≡ Refused refusal
    → ReadsOn (GatewayReads both g test old) (GatewayReads both g test old) piece
refused_on both g test old refusal piece at = λ begun bytes x.
    subst (λ k. GatewayReads both g test k begun (bytes ++ piece)) (sym at) (subst (λ k. GatewayReads both g test k begun bytes) at x)

-- a body that was begun takes a piece
pub request_begun : (both : BothSpoken) (g : GatewayData) (test : Test) (old : GatewayBody) (b : ProtocolBody) → old ≡ Request b
    → HasRead (GatewayReads both g test old) → SomeBegun both.front g.service test b
request_begun both g test old b at (begun, bytes, x) =
    let (none, admits, is) = subst (λ k. GatewayReads both g test k begun bytes) at x in (a_request, begun.head, begun.empty, bytes, is)

pub reply_begun : (both : BothSpoken) (g : GatewayData) (test : Test) (old : GatewayBody) (o : ℕ) (b : ProtocolBody) → old ≡ Reply o b
    → HasRead (GatewayReads both g test old) → SomeBegun both.back g.service test b
reply_begun both g test old o b at (begun, bytes, x) =
    let (m, some, asked, is) = subst (λ k. GatewayReads both g test k begun bytes) at x in
    (a_response o, begun.head, begun.empty, bytes, is)

abbrev pub TakesOn : Spoken → ServiceData → Test → ProtocolBody → ProtocolBody → List ℕ → Type 0
TakesOn p s test old now piece =
    (asked : Asked) (head : Head) (empty : Bool) (come : List ℕ) → ProtocolBegun p s test asked old head empty come
    → ProtocolBegun p s test asked now head empty (come ++ piece)

-- what was read of its message has the piece more
request_more : (both : BothSpoken) (g : GatewayData) (test : Test) (old now : GatewayBody) (b c : ProtocolBody) (piece : List ℕ) → old
    ≡ Request b
    → now ≡ Request c → TakesOn both.front g.service test b c piece → ReadsOn (GatewayReads both g test old)
    (GatewayReads both g test now) piece
request_more both g test old now b c piece at is takes = λ begun bytes x.
    let (none, admits, come) = subst (λ k. GatewayReads both g test k begun bytes) at x in
    subst (λ k. GatewayReads both g test k begun (bytes ++ piece)) (sym is)
    (none, admits, takes a_request begun.head begun.empty bytes come)

pub request_on : (both : BothSpoken) (g : GatewayData) (test : Test) (old now : GatewayBody) (b c : ProtocolBody) (piece : List ℕ)
    (result : Result (Unit {0}) NoMemory) → old ≡ Request b → now ≡ Request c
    → OnOk result (TakesOn both.front g.service test b c piece)
    → OnOk result (ReadsOn (GatewayReads both g test old) (GatewayReads both g test now) piece)
request_on both g test old now b c piece result at is takes =
    on_ok_weaker result (request_more both g test old now b c piece at is) takes

reply_more : (both : BothSpoken) (g : GatewayData) (test : Test) (old now : GatewayBody) (o : ℕ) (b c : ProtocolBody) (piece : List ℕ)
    → old ≡ Reply o b
    → now ≡ Reply o c → TakesOn both.back g.service test b c piece → ReadsOn (GatewayReads both g test old) (GatewayReads both g test now)
    piece
reply_more both g test old now o b c piece at is takes = λ begun bytes x.
    let (m, some, asked, come) = subst (λ k. GatewayReads both g test k begun bytes) at x in
    subst (λ k. GatewayReads both g test k begun (bytes ++ piece)) (sym is)
    (m, some, asked, takes (a_response o) begun.head begun.empty bytes come)

pub reply_on : (both : BothSpoken) (g : GatewayData) (test : Test) (old now : GatewayBody) (o : ℕ) (b c : ProtocolBody) (piece : List ℕ)
    (result : Result (Unit {0}) NoMemory) → old ≡ Reply o b → now ≡ Reply o c
    → OnOk result (TakesOn both.back g.service test b c piece)
    → OnOk result (ReadsOn (GatewayReads both g test old) (GatewayReads both g test now) piece)
reply_on both g test old now o b c piece result at is takes = on_ok_weaker result (reply_more both g test old now o b c piece at is) takes

-- and what is held of it is few
pub refused_holds : (both : BothSpoken) (g : GatewayData) (test : Test) (old : GatewayBody) (refusal : MessageRefusal) (piece : List ℕ)
    → old ≡ Refused refusal → HoldsOn (GatewayReads both g test old) (GatewayHolds both g old) piece
refused_holds both g test old refusal piece at =
    λ begun bytes x. subst (λ k. GatewayHolds both g k (bytes ++ piece)) (sym at) tt

request_few : (both : BothSpoken) (g : GatewayData) (test : Test) (old now : GatewayBody) (b c : ProtocolBody) (piece : List ℕ)
    → DefaultsPass g.service.table test → old ≡ Request b → now ≡ Request c → HoldsFewOn both.front g.service test b c piece
    → HoldsOn (GatewayReads both g test old) (GatewayHolds both g now) piece
request_few both g test old now b c piece pass at is few = λ begun bytes x.
    let (none, admits, come) = subst (λ k. GatewayReads both g test k begun bytes) at x in
    subst (λ k. GatewayHolds both g k (bytes ++ piece)) (sym is) (few a_request begun.head begun.empty bytes pass come)

pub request_holds : (both : BothSpoken) (g : GatewayData) (test : Test) (old now : GatewayBody) (b c : ProtocolBody) (piece : List ℕ)
    (result : Result (Unit {0}) NoMemory) → DefaultsPass g.service.table test → old ≡ Request b → now ≡ Request c
    → OnOk result (HoldsFewOn both.front g.service test b c piece)
    → OnOk result (HoldsOn (GatewayReads both g test old) (GatewayHolds both g now) piece)
request_holds both g test old now b c piece result pass at is few =
    on_ok_weaker result (request_few both g test old now b c piece pass at is) few

reply_few : (both : BothSpoken) (g : GatewayData) (test : Test) (old now : GatewayBody) (o : ℕ) (b c : ProtocolBody) (piece : List ℕ)
    → DefaultsPass g.service.table test → old ≡ Reply o b → now ≡ Reply o c → HoldsFewOn both.back g.service test b c piece
    → HoldsOn (GatewayReads both g test old) (GatewayHolds both g now) piece
reply_few both g test old now o b c piece pass at is few = λ begun bytes x.
    let (m, some, asked, come) = subst (λ k. GatewayReads both g test k begun bytes) at x in
    subst (λ k. GatewayHolds both g k (bytes ++ piece)) (sym is) (few (a_response o) begun.head begun.empty bytes pass come)

pub reply_holds : (both : BothSpoken) (g : GatewayData) (test : Test) (old now : GatewayBody) (o : ℕ) (b c : ProtocolBody) (piece : List ℕ)
    (result : Result (Unit {0}) NoMemory) → DefaultsPass g.service.table test → old ≡ Reply o b → now ≡ Reply o c
    → OnOk result (HoldsFewOn both.back g.service test b c piece)
    → OnOk result (HoldsOn (GatewayReads both g test old) (GatewayHolds both g now) piece)
reply_holds both g test old now o b c piece result pass at is few =
    on_ok_weaker result (reply_few both g test old now o b c piece pass at is) few
