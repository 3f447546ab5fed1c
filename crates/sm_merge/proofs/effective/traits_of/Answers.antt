use Rattle.std.proofs.Common.{◌++◌, sym, subst, ◌∙◌}
use Rattle.std.specs.FinMap.Entries.{find}
use Rattle.sm_model.specs.Graphs.{text_cmp}
use Rattle.sm_model.specs.steps.Rising.{Rise}
use Rattle.sm_merge.specs.Mixins.{mixin_trait}
use Rattle.sm_merge.specs.steps.Filling.{AreFirstRows, copied_at, copies_by, folded_rows, last_first}
use Rattle.sm_merge.specs.steps.Tables.{named_view, names_in}
use Rattle.sm_merge.proofs.effective.traits_of.Goals as goal

pub copied_traits-requires : goal.copied_traits-requires
copied_traits-requires c = subst (λ vs. Rise (names_in vs)) (sym c.traits_at-given.ensures) (c.requires.names c.args.id.now)

pub returns : goal.returns
returns c = record {
  own = subst (λ vs. AreFirstRows (named_view vs ++ last_first (copied_at c.args.all.now) c.args.mixed.now) c.in_ok-own.own.items)
      c.traits_at-given.ensures c.in_ok-own.ensures;
  copied = c.in_ok-copied.ensures
      ∙ (λ i. copies_by (find text_cmp mixin_trait (named_view (c.traits_at-given.ensures i))) (folded_rows (c.as_slice.ensures.value i)));
  rise = c.in_ok-members.ensures.rise;
  members = c.in_ok-members.ensures.each;
}
