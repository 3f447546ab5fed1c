use Rattle.std.proofs.Common.{◌≡◌, ◌<◌, length, arith, rules, slice_index_or, slice_range, subst}
use Rattle.sm_idl.specs.steps.DocSteps.{DocumentsTrait}
use Rattle.sm_idl.proofs.Taken.{taken}
use Rattle.sm_idl.proofs.ReadDocs.{docs_moved, docs_none}
use Rattle.sm_idl.specs.steps.ReaderView.{left}
use Rattle.sm_idl.proofs.reader.Reader.docs.Goals as goal

pub returns-then-self : goal.returns-then-self
returns-then-self c = let r = c.args.self.now in
    docs_none r.text.now r.behind r.at r.tokens.now c.new.result.items (omega (arith, c.if-self.true)) c.new.ensures.items

pub returns : goal.returns
returns c = let r = c.args.self.now in
    let inside : r.at < length r.tokens.now = omega (arith, c.if-self.false) in
    let space : c.range.result.now ≡ slice_range r.text.now r.behind (slice_index_or r.tokens.now r.at c.index-self-self.result).start =
    search rules in
    docs_moved (left r) _ _ c.docs_of.result (taken r.text.now r.behind r.tokens.now r.at c.index-self-self.result inside)
    (subst (λ z. DocumentsTrait z c.docs_of.result) space c.docs_of.ensures)
