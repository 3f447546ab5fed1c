use Rattle.std.proofs.Common.{map, rules}
use Rattle.std.proofs.lemmas.Fn.{always_returns_same}
use Rattle.std.proofs.lemmas.List.Sorted.{ranks_by}
use Rattle.std.specs.Cmp.Lexicographic.{nat_list_cmp_total}
use Rattle.std.specs.Ordering.{is_lt}
use Rattle.sm_model.specs.Graphs.{text_cmp}
use Rattle.sm_shapes.specs.TableData.{name_at}
use Rattle.sm_shapes.specs.TableView.{member_data}
use Rattle.sm_excerpts.specs.steps.Rows.{rows_alone}
use Rattle.sm_excerpts.proofs.NamesOrdered.{by_names}
use Rattle.sm_excerpts.proofs.orders.by_name.Goals as goal

pub returns : goal.returns
returns c =
    let name = name_at (rows_alone (map member_data c.args.rows.now)) in
    by_names name c.args.numbers.items c.sort_unstable_by.new.self.items c.sort_unstable_by.ensures.permutation
    (c.sort_unstable_by.ensures.sorted (λ a b. is_lt (text_cmp (name a) (name b))) (ranks_by nat_list_cmp_total name)
    (always_returns_same _ _ _ (λ a r f called. search rules))) c.requires
