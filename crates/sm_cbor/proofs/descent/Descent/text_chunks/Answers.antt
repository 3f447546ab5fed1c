use Rattle.std.proofs.Common.{◌++◌, sym, ap, subst, ◌∙◌, IsUtf8, string_bytes}
use Rattle.sm_cbor.specs.Heads.{text_type}
use Rattle.sm_cbor.specs.CborItem.{Definite}
use Rattle.sm_cbor.specs.steps.Descent.{number_of, Joined}
use Rattle.sm_cbor.proofs.Descending.{chunk_before, no_chunk}
use Rattle.sm_cbor.proofs.descent.Descent.text_chunks.Goals as goal

pub returns-then-takes_break : goal.returns-then-takes_break
returns-then-takes_break c = no_chunk text_type IsUtf8 (string_bytes c.loop.text) c.loop.self.rest.now c.takes_break.new.self.rest.now
    c.args.self.now.rest.now c.loop.invariant c.if-takes_break.ensures

pub loop-preserved : goal.loop-preserved
loop-preserved c = λ u r more.
    let before = c.takes_break.new.self.rest.now in
    let behind = c.definite_text.new.self.rest.now in
    let chunk = c.in_ok-chunk.chunk.now in
    let is = subst (λ m. Definite m IsUtf8 chunk before behind) (c.in-Some-Text.ensures.1 ∙ ap number_of c.in-Some-Text.field-0-is)
    c.in_ok-chunk.ensures in
    let same = c.if-takes_break.ensures.0 in
    subst (λ t. Joined text_type IsUtf8 (t ++ u) c.args.self.now.rest.now r) (sym c.in_ok-push_str.ensures.bytes)
    (chunk_before text_type IsUtf8 (string_bytes c.loop.text) chunk u c.loop.self.rest.now behind r c.args.self.now.rest.now
    c.loop.invariant
    (subst (λ s. Definite text_type IsUtf8 chunk s behind) (sym same) is) more)
