use Rattle.std.proofs.Common.{◌≡◌, ◌+◌, Some, length, map, sym, subst, arith, rules}
use Rattle.std.specs.Prelude.{MatchOption, slice_get}
use Rattle.std.specs.List.{Contains}
use Rattle.std.specs.Option.{option_map}
use Rattle.sm_shapes.specs.SharedView.{shared_list}
use Rattle.sm_service.specs.ErrorsView.{but_at}
use Rattle.sm_service.specs.ServiceData.{name_of_error}
use Rattle.sm_service.proofs.ErrorsNamed.{behind_few, named_behind, named_own, none_named}
use Rattle.sm_service.proofs.errors.Errors.named.Goals as goal

pub kept_named-requires-clause-other : goal.kept_named-requires-clause-other
kept_named-requires-clause-other c = λ k among is.
    let own = c.self.inside.own.items in
    none_named own c.args.name.now (search rules)
    (subst (Contains (map name_of_error own)) is
    (c.self.invariant.named k (subst (λ ks. Contains ks k) c.as_slice-in-None.ensures.value among)))

pub behind-requires : goal.behind-requires
behind-requires c = λ k is.
    let own = c.self.inside.own.items in
    let kept = but_at c.self.inside.again.items 0 (shared_list c.self.inside.shared) in
    let found : slice_get (map name_of_error kept) k ≡ Some c.args.name.now = search rules in
    let few = behind_few own kept c.args.self.now c.args.name.now k c.self.view_is found in
    let count : c.len.result ≡ length own = search rules in
    omega (arith, few, count, c.requires)

pub returns-in-Some : goal.returns-in-Some
returns-in-Some c =
    let own = c.self.inside.own.items in
    let kept = but_at c.self.inside.again.items 0 (shared_list c.self.inside.shared) in
    subst (λ es. slice_get (map name_of_error es) c.in-Some.place ≡ Some c.args.name.now) c.self.view_is
    (named_own own kept c.args.name.now c.in-Some.place (search rules))

pub returns-in-None : goal.returns-in-None
returns-in-None c =
    let own = c.self.inside.own.items in
    let again = c.self.inside.again.items in
    let shared = shared_list c.self.inside.shared in
    let name = c.args.name.now in
    let kept = subst (λ ks. MatchOption c.kept_named.result (Contains (map name_of_error shared) name → ⊥)
    (λ k. slice_get (map name_of_error (but_at ks 0 shared)) k ≡ Some name)) c.as_slice-in-None.ensures.value c.kept_named.ensures in
    let count : length own ≡ c.len.result = search rules in
    let all = named_behind own again shared name c.kept_named.result (search rules) kept in
    subst (λ r. MatchOption r (Contains (map name_of_error c.args.self.now) name → ⊥)
    (λ k. slice_get (map name_of_error c.args.self.now) k ≡ Some name)) (sym c.behind.ensures)
    (subst (λ n. MatchOption (option_map (λ k. n + k) c.kept_named.result) (Contains (map name_of_error c.args.self.now) name → ⊥)
    (λ k. slice_get (map name_of_error c.args.self.now) k ≡ Some name)) count
    (subst (λ es. MatchOption (option_map (λ k. length own + k) c.kept_named.result) (Contains (map name_of_error es) name → ⊥)
    (λ k. slice_get (map name_of_error es) k ≡ Some name)) c.self.view_is all))
