use Rattle.std.proofs.Common.{ℕ, List, ◌++◌, string_bytes, IsUtf8}
use Rattle.sm_cbor.specs.Heads.{text_type}
use Rattle.sm_cbor.specs.steps.Descent.{Joined}
use Rattle.sm_cbor.proofs.descent.Descent.text_chunks.Given as goal

abbrev pub invariant-loop : goal.invariant-loop
invariant-loop l = (u r : List ℕ) → Joined text_type IsUtf8 u l.self.rest.now r
    → Joined text_type IsUtf8 (string_bytes l.text ++ u) l.fn.self.rest.now r
