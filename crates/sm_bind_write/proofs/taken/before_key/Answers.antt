use Rattle.std.proofs.Common.{rules, sym}
use Rattle.std.specs.Ordering.{nat_cmp}
use Rattle.std.specs.Cmp.Lexicographic.{slice_cmp}
use Rattle.std.proofs.lemmas.Fn.{always_returns_same}
use Rattle.sm_bind_write.proofs.KeySearch.{key_found, key_missing, searchable}
use Rattle.sm_bind_write.proofs.taken.before_key.Goals as goal

pub returns-in-Ok : goal.returns-in-Ok
returns-in-Ok c =
    let q = c.args.name.now in
    let held = c.in-Ok.ensures.position (λ e. slice_cmp nat_cmp e.0 q) (always_returns_same _ _ _ (λ a r g called. search rules)) in
    sym (key_found (λ e. e.0) c.args.entries.now c.requires.rise q c.in-Ok.place c.in-Ok.ensures.bound held)

pub returns-in-Err : goal.returns-in-Err
returns-in-Err c =
    let q = c.args.name.now in
    let parted = c.in-Err.ensures.position (λ e. slice_cmp nat_cmp e.0 q) (always_returns_same _ _ _ (λ a r g called. search rules)) in
    sym (key_missing (λ e. e.0) c.args.entries.now q c.in-Err.field-0
    (parted (searchable (λ e. e.0) c.args.entries.now c.requires.rise q)))
