use Rattle.std.proofs.Common.{lit<, ◌∙◌, refl, sym}
use Rattle.std.proofs.lemmas.Bool.Decides.{same_from_decides}
use Rattle.std.proofs.lemmas.Iterator.Search.{all_from_yields_List}
use Rattle.std.proofs.lemmas.Iterator.Splits.{YieldsList-from_str_split}
use Rattle.sm_ids.specs.Identifier.{is_identifier}
use Rattle.sm_ids.proofs.identifier.is_namespace.Goals as goal

pub returns : goal.returns
returns c =
    let all = all_from_yields_List is_identifier _ _ c.all.result c.all.ensures.ran
    (YieldsList-from_str_split 46 c.args.text.now (lit< tt) c.split.ensures.text c.split.ensures.has_more c.split.ensures.pattern)
    (λ x b q called. (refl, same_from_decides b (is_identifier x.now) called.met (λ e. e, λ e. e))) in (λ e. sym all ∙ e, λ e. all ∙ e)
