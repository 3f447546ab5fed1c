use Rattle.std.proofs.Common.{ℕ, List, ◌++◌}
use Rattle.sm_tree.specs.Json.{AreBytes}
use Rattle.sm_cbor.specs.Heads.{bytes_type}
use Rattle.sm_cbor.specs.steps.Descent.{Joined}
use Rattle.sm_cbor.proofs.descent.Descent.byte_chunks.Given as goal

abbrev pub invariant-loop : goal.invariant-loop
invariant-loop l = (u r : List ℕ) → Joined bytes_type AreBytes u l.self.rest.now r
    → Joined bytes_type AreBytes (l.bytes.items ++ u) l.fn.self.rest.now r
