use Rattle.std.proofs.Common.{[], ◌∷◌, ◌++◌, sym, subst, ◌∙◌}
use Rattle.sm_select.specs.Selectors.{compares}
use Rattle.sm_select.specs.View.{path_view}
use Rattle.sm_select.specs.steps.Places.{behind_path, stepping, value_wanted}
use Rattle.sm_select.specs.steps.Reader.{Refuses}
use Rattle.sm_select.specs.steps.Standing.{Passes}
use Rattle.sm_select.proofs.Boundaries.{dark_now}
use Rattle.sm_select.proofs.Passing.{passes_joined}
use Rattle.sm_select.proofs.ReadAttributes.{after_path_refused, op_read, path_closed}
use Rattle.sm_select.proofs.SelectorViews.{step_compare, step_has}
use Rattle.sm_select.proofs.Stopped.{refused_behind}
use Rattle.sm_select.proofs.parser_attribute.behind_path.Goals as goal

pub returns-then-starts-clause-read : goal.returns-then-starts-clause-read
returns-then-starts-clause-read c ss fs =
    let p = path_view c.args.path in
    let s = c.args.reading.now.rest.now in
    let r = c.pass_sign.new.self.rest.now in
    subst (λ x. Passes (behind_path ss fs p) s (stepping (ss ++ x ∷ []) fs) r) (sym (step_has c.args.path))
    (path_closed ss fs p s r (sym c.starts.ensures ∙ c.if-starts.true) c.pass_sign.ensures.rest (dark_now r c.pass_sign.new.self.dark))

pub returns-in-Ok-clause-read : goal.returns-in-Ok-clause-read
returns-in-Ok-clause-read c ss fs =
    let p = path_view c.args.path in
    let s = c.args.reading.now.rest.now in
    let r = c.pass_sign-in-Some.new.self.rest.now in
    let x = c.compared.new.reading.rest.now in
    let d = c.in-Ok.compare in
    subst (λ y. Passes (behind_path ss fs p) s (stepping (ss ++ y ∷ []) fs) x) (sym (step_compare d))
    (passes_joined (behind_path ss fs p) (value_wanted ss fs p c.in-Some.op [])
    (stepping (ss ++ compares (path_view d.path) d.op d.values d.fold ∷ []) fs) s r x
    (op_read ss fs p c.in-Some.op s r c.in-Some.ensures c.pass_sign-in-Some.ensures.rest (dark_now r c.pass_sign-in-Some.new.self.dark))
    (c.in-Ok.ensures.read ss fs))

pub returns-in-Err-clause-read : goal.returns-in-Err-clause-read
returns-in-Err-clause-read c ss fs =
    let p = path_view c.args.path in
    let s = c.args.reading.now.rest.now in
    let r = c.pass_sign-in-Some.new.self.rest.now in
    refused_behind c.args.reading.now.len (behind_path ss fs p) (value_wanted ss fs p c.in-Some.op []) s r c.in-Err.refusal
    (op_read ss fs p c.in-Some.op s r c.in-Some.ensures c.pass_sign-in-Some.ensures.rest (dark_now r c.pass_sign-in-Some.new.self.dark))
    (subst (λ n. Refuses n (value_wanted ss fs p c.in-Some.op []) r c.in-Err.refusal) c.pass_sign-in-Some.ensures.len
    (c.in-Err.ensures.read ss fs))

pub returns-in-None-clause-read : goal.returns-in-None-clause-read
returns-in-None-clause-read c ss fs =
    let s = c.args.reading.now.rest.now in
    after_path_refused c.args.reading.now.len ss fs (path_view c.args.path) s c.refused.result c.requires
    (sym c.starts.ensures ∙ c.if-starts.false) c.in-None.ensures (dark_now s c.args.reading.now.dark) c.refused.ensures
