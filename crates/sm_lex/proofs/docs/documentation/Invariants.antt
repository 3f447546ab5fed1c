use Rattle.std.proofs.Common.{length}
use Rattle.std.specs.Prelude.{List, ℕ, Option, None, IsUtf8, string_bytes}
use Rattle.std.specs.Option.{option_map}
use Rattle.sm_lex.proofs.DocTexts.{Docs}
use Rattle.sm_lex.proofs.docs.documentation.Given as goal

abbrev pub decreases-loop-part : goal.decreases-loop-part
decreases-loop-part l = length l.rest

abbrev pub invariant-loop-part : goal.invariant-loop-part
invariant-loop-part l = record {
  utf8 : IsUtf8 l.rest;
  docs : (r : List ℕ) (all : Option (List ℕ)) → Docs (option_map string_bytes l.docs) l.rest r all → Docs None l.text r all;
}
