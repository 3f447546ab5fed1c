use Rattle.std.proofs.Common.{◌≡◌, ◌<◌, ◌≤◌, ℕ, true, false, ◌∷◌, get_or, length, refl, sym, ap, ◌∙◌, subst}
use Rattle.std.specs.Prelude.{Err, is_ok}
use Rattle.std.specs.List.Sorted.{IsNonDecreasing, IsPermutation}
use Rattle.std.specs.declared.cmp.Ordering.TheVariants.{Equal}
use Rattle.std.proofs.lemmas.Cmp.{ranked}
use Rattle.std.proofs.lemmas.List.Sorted.{searched, IsPermutation-insert}
use Rattle.sm_codec.specs.steps.MemberSteps.{is_seen}
use Rattle.sm_codec.proofs.SeenMembers.{seen_at, not_seen, put_or_same, rises_put}
use Rattle.sm_codec.proofs.frames.seen.Members.add.Goals as goal

pub invariant_of-self-inside : goal.invariant_of-self-inside
invariant_of-self-inside c =
    let xs = c.self.inside.numbers.items in
    let rises = subst IsNonDecreasing (sym c.as_slice.ensures) c.self.inside.rises in
    let at = subst (λ ys. (c.in-Err.place ≤ length ys) × ((k : ℕ) → k < c.in-Err.place → get_or ys k 0 < c.args.member)
    × ((k : ℕ) → c.in-Err.place ≤ k → k < length ys → c.args.member < get_or ys k 0)) c.as_slice.ensures
    (searched c.as_slice.result.now c.args.member (Err c.in-Err.place) c.in-Err.ensures.position (λ i j le lt. rises i j 0 le lt)) in (
      rises_put xs c.insert.new.self.items c.in-Err.place c.args.member (is_ok c.insert.result)
          (put_or_same c.self.inside.numbers c.insert.new.self c.insert.result c.in-Err.place c.args.member
          c.insert.ensures.ok c.insert.ensures.err) c.self.inside.rises
          at.0 at.1 at.2,
      tt,
    )

pub returns-in-Ok : goal.returns-in-Ok
returns-in-Ok c =
    let xs = c.as_slice.result.now in
    let i = c.in-Ok.field-0 in
    let named = ranked (get_or xs i 0) c.args.member Equal (sym (c.in-Ok.ensures.position 0)) in
    let there = subst (λ ys. is_seen c.args.member ys ≡ true) c.as_slice.ensures (seen_at c.args.member xs i c.in-Ok.ensures.bound named) in
    (ap (is_seen c.args.member) (sym c.self.view_is) ∙ there, refl)

pub returns-in_ok-insert-in-Err : goal.returns-in_ok-insert-in-Err
returns-in_ok-insert-in-Err c =
    let k = c.args.member in
    let xs = c.self.inside.numbers.items in
    let i = c.in-Err.place in
    let rises = subst IsNonDecreasing (sym c.as_slice.ensures) c.self.inside.rises in
    let at = searched c.as_slice.result.now k (Err i) c.in-Err.ensures.position (λ m n le lt. rises m n 0 le lt) in
    let absent = subst (λ ys. is_seen k ys ≡ false) c.as_slice.ensures (not_seen k c.as_slice.result.now i at.1 at.2) in
    let put = subst (λ ys. IsPermutation (k ∷ xs) ys) (sym c.in_ok-insert-in-Err.ensures.ok) (IsPermutation-insert xs i k) in
    (ap (is_seen k) (sym c.self.view_is) ∙ absent, subst (λ ys. IsPermutation (k ∷ ys) c.insert.new.self.items) c.self.view_is put)
