use Rattle.std.proofs.Common.{◌≡◌, ◌+◌, ◌++◌, ◌∙◌, length, ap, lit<, arith, string_bytes}
use Rattle.sm_ids.specs.View.{id_of}
use Rattle.sm_ids.proofs.Parting.{printed_parts, member_of_copy}
use Rattle.sm_ids.proofs.owned.ShapeId.new.Goals as goal

pub invariant_of-result : goal.invariant_of-result
invariant_of-result c =
    let id = c.args.id.now in
    let made = c.in_ok-text.ensures in
    let spaced = c.in_ok-push_str.ensures in
    let hashed = c.in_ok-push.ensures in
    let named = c.in_ok-push_str-2.ensures in
    let sign = hashed.ascii (lit< tt) in
    let sign_len = ap length sign in
    let namespace : length id.namespace.now ≡ c.len-namespace.result = omega (arith, made.len, spaced.len) in
    let name : length id.namespace.now + 1 + length id.name.now ≡ c.len-name.result =
    omega (arith, made.len, spaced.len, hashed.len, named.len, sign_len) in
    printed_parts (id_of id) _ _ _ _ _ _ (record
    { namespace = id.is_namespace; name = id.is_name; member = member_of_copy id.member id.is_member }) made.bytes spaced.bytes
    (hashed.bytes ∙ ap (λ x. string_bytes c.push_str.new.self ++ x) sign) named.bytes c.in_ok-push_member.ensures namespace name
