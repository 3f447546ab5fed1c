use Rattle.std.proofs.Common.{◌≡◌, ◌+◌, drop, get_or, map, min, sym, ap, ◌∙◌, arith}
use Rattle.std.specs.List.{cons_option, filter_map}
use Rattle.std.proofs.lemmas.List.{drop_all, drop_more}
use Rattle.sm_messages.specs.service.WireMembers.{query_of}
use Rattle.sm_bind.specs.BoundView.{bound_of}
use Rattle.sm_bind.specs.Roles.{binding_on, is_among}
use Rattle.sm_bind_write.specs.steps.FreeKeys.{keys_before}
use Rattle.sm_bind_write.specs.steps.Naming.{is_named}
use Rattle.sm_bind_write.proofs.KeysFree.{begun, ended, next_optional}
use Rattle.sm_bind_write.proofs.taken.before_names.Goals as goal

pub loop-member-init : goal.loop-member-init
loop-member-init c = record {
  least = begun (is_among (filter_map (λ k. query_of (binding_on (bound_of c.args.place.now) k)) c.args.members.now)) c.args.entries.now;
  within = omega arith;
}

pub loop-member-preserved : goal.loop-member-preserved
loop-member-preserved c =
    let keys = map (λ e. e.0) c.args.entries.now in
    let b = bound_of c.args.place.now in
    let all = c.args.members.now in
    let i = c.loop-member.member-index in
    let k = get_or all i 0 in
    let len = c.loop-member.len in
    let rest = filter_map (λ j. query_of (binding_on b j)) (drop (i + 1) all) in
    let view : filter_map (λ j. query_of (binding_on b j)) (drop i all) ≡ cons_option (query_of (binding_on b k)) rest =
    ap (filter_map (λ j. query_of (binding_on b j))) (drop_more all i 0 c.loop-member-test.true) in
    let before : c.before_bound.result ≡ keys_before (is_named (query_of (binding_on b k))) keys =
    c.before_bound.ensures ∙ ap (λ o. keys_before (is_named (query_of o)) keys) c.counted-binding.ensures in
    let small = c.smaller-len.ensures in
    record {
      least = ap (λ n. min n (keys_before (is_among rest) keys)) (small ∙ ap (λ n. min len n) before)
          ∙ next_optional (query_of (binding_on b k)) rest keys len ∙ ap (λ ns. min len (keys_before (is_among ns) keys)) (sym view)
          ∙ c.loop-member.invariant.least;
      within = omega (arith, small, c.loop-member.invariant.within);
    }

pub returns : goal.returns
returns c =
    let keys = map (λ e. e.0) c.args.entries.now in
    let b = bound_of c.args.place.now in
    let len = c.loop-member.len in
    let none = drop_all c.loop-member.member-index c.args.members.now (omega (arith, c.loop-member-test.false)) in
    sym (ended c.args.entries.now len c.loop-member.invariant.within)
    ∙ sym (ap (λ ks. min len (keys_before (is_among (filter_map (λ j. query_of (binding_on b j)) ks)) keys)) none)
    ∙ c.loop-member.invariant.least
