use Rattle.std.proofs.Common.{Some, None, sym, ap, ◌∙◌, lit<}
use Rattle.std.proofs.lemmas.Str.Pattern.{strip_prefix_char}
use Rattle.sm_select.proofs.OtherForms.{by_category, by_name, opens_form, opens_other}
use Rattle.sm_select.proofs.other_forms.is_other_form.Goals as goal

pub returns-then-begins_other : goal.returns-then-begins_other
returns-then-begins_other c =
    opens_form c.args.rest.now (ap opens_other (sym c.as_bytes.ensures.value) ∙ sym c.begins_other.ensures ∙ c.if-begins_other.true)

pub returns-in-Some : goal.returns-in-Some
returns-in-Some c =
    by_name c.args.rest.now (ap opens_other (sym c.as_bytes.ensures.value) ∙ sym c.begins_other.ensures ∙ c.if-begins_other.false)
    c.in-Some.more.now c.run_at.result.now
    (strip_prefix_char 58 c.args.rest.now (Some c.in-Some.more) c.in-Some.ensures.cases (lit< tt)) c.run_at.ensures c.is_other_name.result
    c.is_other_name.ensures

pub returns-in-None : goal.returns-in-None
returns-in-None c =
    by_category c.args.rest.now (ap opens_other (sym c.as_bytes.ensures.value) ∙ sym c.begins_other.ensures ∙ c.if-begins_other.false)
    c.run_at-in-None.result.now (strip_prefix_char 58 c.args.rest.now None c.in-None.ensures.cases (lit< tt)) c.run_at-in-None.ensures
    c.is_category.result c.is_category.ensures
