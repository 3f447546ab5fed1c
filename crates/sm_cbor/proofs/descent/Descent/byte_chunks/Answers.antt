use Rattle.std.proofs.Common.{◌++◌, sym, ap, subst, ◌∙◌}
use Rattle.sm_tree.specs.Json.{AreBytes}
use Rattle.sm_cbor.specs.Heads.{bytes_type}
use Rattle.sm_cbor.specs.CborItem.{Definite}
use Rattle.sm_cbor.specs.steps.Descent.{number_of, Joined}
use Rattle.sm_cbor.proofs.Descending.{chunk_before, no_chunk}
use Rattle.sm_cbor.proofs.descent.Descent.byte_chunks.Goals as goal

pub returns-then-takes_break : goal.returns-then-takes_break
returns-then-takes_break c = no_chunk bytes_type AreBytes c.loop.bytes.items c.loop.self.rest.now c.takes_break.new.self.rest.now
    c.args.self.now.rest.now c.loop.invariant c.if-takes_break.ensures

pub loop-preserved : goal.loop-preserved
loop-preserved c = λ u r more.
    let before = c.takes_break.new.self.rest.now in
    let behind = c.run.new.self.rest.now in
    let chunk = c.in_ok-chunk.chunk.now in
    let is = subst (λ m. Definite m AreBytes chunk before behind) (c.in-Some-Bytes.ensures.1 ∙ ap number_of c.in-Some-Bytes.field-0-is)
    c.in_ok-chunk.ensures in
    let same = c.if-takes_break.ensures.0 in
    subst (λ t. Joined bytes_type AreBytes (t ++ u) c.args.self.now.rest.now r) (sym c.in_ok-extend_from_slice.ensures.items)
    (chunk_before bytes_type AreBytes c.loop.bytes.items chunk u c.loop.self.rest.now behind r c.args.self.now.rest.now c.loop.invariant
    (subst (λ s. Definite bytes_type AreBytes chunk s behind) (sym same) is) more)
