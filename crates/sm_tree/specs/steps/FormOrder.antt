-- That forms are in a total order.
use Rattle.std.specs.Cmp.{IsTotalOrder}
use Rattle.std.proofs.lemmas.Cmp.{then_total, on_total, lists_total, int_cmp_total, nat_list_cmp_total}
use Rattle.sm_tree.specs.steps.Canonical.{Word, word_cmp, form_cmp}

pub word_total : IsTotalOrder word_cmp
word_total = then_total (on_total (λ (w : Word). w.0) int_cmp_total) (on_total (λ (w : Word). w.1) nat_list_cmp_total)

pub form_total : IsTotalOrder form_cmp
form_total = lists_total word_total
