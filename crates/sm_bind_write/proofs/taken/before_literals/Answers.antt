use Rattle.std.proofs.Common.{◌≡◌, ◌+◌, ◌∷◌, drop, map, min, sym, ap, ◌∙◌, arith}
use Rattle.std.specs.Str.{bytes_eq}
use Rattle.std.proofs.lemmas.List.{drop_all, drop_more}
use Rattle.sm_bind.specs.Roles.{is_among}
use Rattle.sm_bind_write.specs.steps.FreeKeys.{keys_before}
use Rattle.sm_bind_write.proofs.KeysFree.{begun, ended, next_key}
use Rattle.sm_bind_write.proofs.taken.before_literals.Goals as goal

pub loop-literal-init : goal.loop-literal-init
loop-literal-init c = record {
  least = begun (is_among (map (λ m. m.0) c.args.literals.now)) c.args.entries.now;
  within = omega arith;
}

pub loop-literal-preserved : goal.loop-literal-preserved
loop-literal-preserved c =
    let keys = map (λ e. e.0) c.args.entries.now in
    let all = c.args.literals.now in
    let i = c.loop-literal.literal-index in
    let item = c.literal-item.result in
    let len = c.loop-literal.len in
    let rest = map (λ m. m.0) (drop (i + 1) all) in
    let view : map (λ m. m.0) (drop i all) ≡ item.0 ∷ rest =
    ap (map (λ m. m.0)) (drop_more all i item c.loop-literal-test.true ∙ ap (λ y. y ∷ drop (i + 1) all) (sym c.literal-item.is)) in
    let before : c.before_key.result ≡ keys_before (λ k. bytes_eq k item.0) keys =
    c.before_key.ensures ∙ ap (λ u. keys_before (λ k. bytes_eq k u) keys) c.as_str.ensures.bytes in
    let small = c.smaller-len.ensures in
    record {
      least = ap (λ n. min n (keys_before (is_among rest) keys)) (small ∙ ap (λ n. min len n) before)
          ∙ next_key item.0 rest keys len ∙ ap (λ ns. min len (keys_before (is_among ns) keys)) (sym view)
          ∙ c.loop-literal.invariant.least;
      within = omega (arith, small, c.loop-literal.invariant.within);
    }

pub returns : goal.returns
returns c =
    let keys = map (λ e. e.0) c.args.entries.now in
    let len = c.loop-literal.len in
    let none = drop_all c.loop-literal.literal-index c.args.literals.now (omega (arith, c.loop-literal-test.false)) in
    sym (ended c.args.entries.now len c.loop-literal.invariant.within)
    ∙ sym (ap (λ ls. min len (keys_before (is_among (map (λ m. m.0) ls)) keys)) none) ∙ c.loop-literal.invariant.least
