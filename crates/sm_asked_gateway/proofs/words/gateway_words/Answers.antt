use Rattle.std.proofs.Common.{◌++◌, sym, ◌∙◌, refl, true≢false, arith}
use Rattle.sm_asked_gateway.specs.GatewayView.{gateway_asked}
use Rattle.sm_asked_gateway.specs.GatewayWords.{gateway_texts}
use Rattle.sm_asked_gateway.proofs.GatewayForms.{gateway_formed, no_back, no_front, no_host}
use Rattle.sm_asked_gateway.proofs.words.gateway_words.Goals as goal

pub returns-in_default : goal.returns-in_default
returns-in_default c = λ w rest count form.
    c.in_default.ensures w.models (gateway_texts w ++ rest) (omega (arith, count)) form.are

pub returns-in_default-protocol_named : goal.returns-in_default-protocol_named
returns-in_default-protocol_named c =
    no_front c.args.words.now c.args.name.now c.in-Some.models.now c.in-Some.behind.now c.args.more c.in-Some.ensures.0 c.in-Some.ensures.1
    c.index-behind-1.result c.index-behind-1.result c.index-behind-1.is c.in_default-protocol_named.ensures

pub returns-in_default-protocol_named-2 : goal.returns-in_default-protocol_named-2
returns-in_default-protocol_named-2 c =
    no_back c.args.words.now c.args.name.now c.in-Some.models.now c.in-Some.behind.now c.args.more c.in-Some.ensures.0 c.in-Some.ensures.1
    c.index-behind-2.result c.index-behind-2.result c.index-behind-2.is c.in_default-protocol_named-2.ensures

pub returns-then-not-is_host : goal.returns-then-not-is_host
returns-then-not-is_host c =
    no_host c.args.words.now c.args.name.now c.in-Some.models.now c.in-Some.behind.now c.args.more c.in-Some.ensures.0 c.in-Some.ensures.1
    c.as_str-host.result.now c.index-behind-3.result (c.as_str-host.ensures.bytes ∙ c.index-behind-3.is)
    (λ h. true≢false (sym (c.is_host.ensures.1 h) ∙ c.if-not-is_host.true))

pub returns : goal.returns
returns c = (
  gateway_formed c.args.words.now c.args.name.now c.in-Some.models.now c.in-Some.behind.now c.args.more c.in-Some.ensures.0
      c.in-Some.ensures.1
      (gateway_asked record {
        models = c.in-Some.models;
        service = c.as_str.result;
        front = c.in-Some-protocol_named.front;
        back = c.in-Some-protocol_named-2.back;
        host = c.as_str-host.result;
      })
      c.split_at.result.1.now c.index-behind-0.result c.index-behind-1.result c.index-behind-2.result c.index-behind-3.result
      c.split_at.ensures.back refl (c.is_host.ensures.0 c.if-not-is_host.false)
      (c.as_str.ensures.bytes ∙ c.index-behind-0.is) (sym c.in-Some-protocol_named.ensures ∙ c.index-behind-1.is)
      (sym c.in-Some-protocol_named-2.ensures ∙ c.index-behind-2.is) (c.as_str-host.ensures.bytes ∙ c.index-behind-3.is),
  omega (arith, c.split_at.ensures.back_len, c.in-Some.ensures.1),
)
