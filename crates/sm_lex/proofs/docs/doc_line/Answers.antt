use Rattle.std.proofs.Common.{subst, arith}
use Rattle.std.specs.Str.{IsCharBoundary}
use Rattle.std.proofs.lemmas.Str.{IsCharBoundary-after_ascii}
use Rattle.sm_lex.proofs.docs.doc_line.Goals as goal

pub split_at-requires : goal.split_at-requires
split_at-requires c = subst (λ s. IsCharBoundary s 3) c.as_bytes.ensures.value
    (IsCharBoundary-after_ascii c.as_bytes.result.now 2 c.as_bytes.ensures.utf8 (omega arith) (omega arith))
