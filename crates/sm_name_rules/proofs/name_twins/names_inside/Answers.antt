use Rattle.std.proofs.Common.{ap, get_or, length, subst, sym, take, ◌<◌, ◌≤◌, ◌∙◌}
use Rattle.std.proofs.lemmas.List.{take_all, take_more}
use Rattle.std.proofs.lemmas.List.Elements.{Contains-get_or}
use Rattle.sm_passes.specs.Firsts.{number_in}
use Rattle.sm_name_rules.specs.steps.NameTwins.{AreCounted, AreNameTwins, Counts, IsOneNamed, earlier_in, number_under, one_of}
use Rattle.sm_name_rules.proofs.NamesNumbered.{are_twins, one_there}
use Rattle.sm_name_rules.proofs.NumbersCounted.{counted_next}
use Rattle.sm_name_rules.proofs.name_twins.names_inside.Goals as goal

pub loop-number-preserved : goal.loop-number-preserved
loop-number-preserved c =
    let ns = c.args.closure.now.found.items in
    let marks = c.args.closure.now.marks.items in
    let earlier = earlier_in c.args.earlier.now in
    let i = c.loop-number.number-index in
    let ones = number_under c.loop-number.ones in
    let now = number_under c.count_number.new.ones in
    let inside : i < length ns = subst (λ ks. i < length ks) c.numbers-number-items.ensures c.loop-number-test.true in
    let n = get_or ns i 0 in
    subst (λ ks. AreCounted marks earlier ks now c.count_number.new.twins.items) (sym (take_more ns i 0 inside))
    (counted_next marks earlier (take i ns) n ((c.requires n).0 (Contains-get_or ns i 0 inside)) ones c.loop-number.twins.items
    c.loop-number.invariant now c.count_number.new.twins.items
    (subst (λ ms. Counts (earlier n) (one_of ms ones (earlier n)) n ones c.loop-number.twins.items now c.count_number.new.twins.items)
    c.marks-inside.ensures
    (subst (λ ks. Counts (earlier (get_or ks i 0)) (one_of c.marks-inside.result.now ones (earlier (get_or ks i 0))) (get_or ks i 0) ones
    c.loop-number.twins.items now c.count_number.new.twins.items) c.numbers-number-items.ensures c.in_ok-count_number.ensures)))

pub returns : goal.returns
returns c = (
  c.marks-inside.ensures,
  λ g are whole.
      let ns = c.args.closure.now.found.items in
      let marks = c.args.closure.now.marks.items in
      let first = number_in c.args.firsts.now in
      let earlier = earlier_in c.args.earlier.now in
      let ones = number_under c.loop-number.ones in
      let twins = c.loop-number.twins.items in
      let i = c.loop-number.number-index in
      let past : length ns ≤ i = subst (λ ks. length ks ≤ i) c.numbers-number-items.ensures c.loop-number-test.false in
      let done : AreCounted marks earlier ns ones twins =
      subst (λ ks. AreCounted marks earlier ks ones twins) (take_all i ns past) c.loop-number.invariant in
      record {
        whole = ap length c.marks-inside.ensures ∙ whole;
        twins = subst (λ ms. AreNameTwins g ms twins) (sym c.marks-inside.ensures)
            (are_twins g first earlier are marks whole ones twins ns (λ k marked. (c.requires k).1 marked) done);
        one = λ key.
            subst (λ ms. IsOneNamed g ms key (one_of ms ones (first key))) (sym c.marks-inside.ensures)
            (one_there g first earlier are marks whole ones twins ns (λ k marked. (c.requires k).1 marked) done key);
      },
)
