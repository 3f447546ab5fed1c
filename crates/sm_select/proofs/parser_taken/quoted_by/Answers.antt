use Rattle.std.proofs.Common.{◌∷◌, ◌++◌, Some, None, sym, ap, ◌∙◌}
use Rattle.std.proofs.lemmas.Str.Pattern.{split_parts, strip_prefix_char}
use Rattle.sm_ids.proofs.Cutting.{tails}
use Rattle.sm_select.proofs.TakenQuotes.{free_from, never_closed}
use Rattle.sm_select.proofs.parser_taken.quoted_by.Goals as goal

pub returns-in-Some-split_once : goal.returns-in-Some-split_once
returns-in-Some-split_once c =
    let front = strip_prefix_char c.args.mark c.args.rest.now (Some c.in-Some.inside) c.in-Some.ensures.cases c.requires in
    let parts = split_parts c.args.mark c.in-Some.inside.now (Some (c.in-Some-split_once.text, c.in-Some-split_once.behind))
    c.in-Some-split_once.ensures.cases c.requires in
    (front ∙ ap (λ x. c.args.mark ∷ x) parts.0, free_from c.args.mark c.in-Some-split_once.text.now parts.1)

pub returns-in-None-split_once : goal.returns-in-None-split_once
returns-in-None-split_once c = λ v b e f.
    let front = strip_prefix_char c.args.mark c.args.rest.now (Some c.in-Some.inside) c.in-Some.ensures.cases c.requires in
    let lacks = split_parts c.args.mark c.in-Some.inside.now None c.in-None-split_once.ensures.cases c.requires in
    never_closed c.args.mark c.in-Some.inside.now v b lacks
    (tails c.args.mark c.args.mark c.in-Some.inside.now (v ++ c.args.mark ∷ b) (sym front ∙ e))

pub returns-in-None : goal.returns-in-None
returns-in-None c = λ v b e f.
    strip_prefix_char c.args.mark c.args.rest.now None c.in-None.ensures.cases c.requires (v ++ c.args.mark ∷ b) e
