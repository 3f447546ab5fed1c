use Rattle.std.proofs.Common.{sym, ◌∙◌}
use Rattle.sm_select.specs.View.{path_view}
use Rattle.sm_select.specs.steps.Places.{behind_path, path_wanted, trait_wanted}
use Rattle.sm_select.proofs.Boundaries.{dark_now}
use Rattle.sm_select.proofs.ReadAttributes.{trait_opened}
use Rattle.sm_select.proofs.Stopped.{read_behind}
use Rattle.sm_select.proofs.parser_attribute.path.Goals as goal

pub returns-then-starts-3-clause-read : goal.returns-then-starts-3-clause-read
returns-then-starts-3-clause-read c ss fs =
    let s = c.args.reading.now.rest.now in
    let r = c.pass_sign-then-starts-3.new.self.rest.now in
    read_behind c.args.reading.now.len c.pass_sign-then-starts-3.new.self.len (path_wanted ss fs)
    (trait_wanted ss fs) s r c.trait_path.new.reading.rest.now
    (λ path. behind_path ss fs (path_view path)) c.trait_path.result c.pass_sign-then-starts-3.ensures.len
    (trait_opened ss fs s r (sym c.starts-else-starts-2.ensures ∙ c.if-starts-3.true) c.pass_sign-then-starts-3.ensures.rest
    (dark_now r c.pass_sign-then-starts-3.new.self.dark))
    (c.trait_path.ensures.read ss fs)
