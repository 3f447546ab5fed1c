-- The end of an item that came in pieces.
use Rattle.std.proofs.Common.{◌≡◌, ℕ, List, Option, None, Some, refl}
use Rattle.std.specs.Prelude.{Result, Ok, Err, IfSome}
use Rattle.sm_tree.specs.Streams.{StandsFor}
use Rattle.sm_tree.specs.Timing.{Completes}
use Rattle.sm_tree.specs.Sources.{HasFed, ReadsInto}
use Rattle.sm_tree.specs.declared.refusal.SyntaxRefusal.{SyntaxRefusal}
use Rattle.sm_tree.proofs.Sources.{end_refused, follows_now}
use Rattle.sm_cbor.specs.Refusals.{cbor_syntax}
use Rattle.sm_cbor.specs.Timing.{cbor_timing}
use Rattle.sm_cbor.specs.Stands.{cbor_source, refusal_of, CborEndsWith}
use Rattle.sm_cbor.specs.declared.pieces.CborReader.{CborReader}

abbrev passed : Unit {0} → Result (Unit {0}) SyntaxRefusal
passed x = Ok x

-- one that doesn't refuse had refused nothing
was_fresh : (o : Option SyntaxRefusal) (x : Unit {0}) → IfSome o (λ given. passed x ≡ Err given) → o ≡ None
was_fresh None x again = refl
was_fresh (Some given) x again = cc

pub ended : (S : StandsFor) (r : CborReader) (bytes : List ℕ) (end : Result (Unit {0}) SyntaxRefusal) → HasFed cbor_source r S bytes
    → IfSome (refusal_of r) (λ given. end ≡ Err given) → CborEndsWith r bytes end → ReadsInto cbor_syntax S bytes end
ended S r bytes (Ok x) fed again (n, es, read, complete, stream) =
    (n, es, read, stream, follows_now cbor_source r S bytes (was_fresh (refusal_of r) x again) fed es complete)
ended S r bytes (Err refusal) fed again ends = end_refused cbor_source (Completes cbor_timing) r bytes refusal ends
