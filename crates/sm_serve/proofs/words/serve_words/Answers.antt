use Rattle.std.proofs.Common.{◌∙◌, refl}
use Rattle.sm_asked_gateway.specs.GatewayView.{gateway_asked}
use Rattle.sm_serve.specs.ServeView.{serve_said}
use Rattle.sm_serve.proofs.ServeForms.{no_count, no_gateway, serve_formed}
use Rattle.sm_serve.proofs.words.serve_words.Goals as goal

pub returns-in_default : goal.returns-in_default
returns-in_default c = no_gateway c.args.words.now c.in_default.ensures

pub returns-in_default-link_count : goal.returns-in_default-link_count
returns-in_default-link_count c =
    no_count c.args.words.now (gateway_asked c.in-Some.gateway) c.in-Some.behind.now c.in-Some.ensures.1 c.in-Some.ensures.0
    c.as_str.result.now c.index-behind-2.result (c.as_str.ensures.bytes ∙ c.index-behind-2.is) c.in_default-link_count.ensures

pub returns : goal.returns
returns c =
    serve_formed c.args.words.now (gateway_asked c.in-Some.gateway) c.in-Some.behind.now c.in-Some.ensures.1 c.in-Some.ensures.0
    (serve_said record {
      gateway = c.in-Some.gateway;
      listen = c.as_str-2.result;
      connect = c.as_str-3.result;
      count = c.in-Some-link_count.count;
    })
    c.as_str.result.now c.index-behind-0.result c.index-behind-1.result c.index-behind-2.result refl c.in-Some-link_count.ensures
    (c.as_str-2.ensures.bytes ∙ c.index-behind-0.is) (c.as_str-3.ensures.bytes ∙ c.index-behind-1.is)
    (c.as_str.ensures.bytes ∙ c.index-behind-2.is)
