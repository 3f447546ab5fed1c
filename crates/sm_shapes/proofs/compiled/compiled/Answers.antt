use Rattle.std.proofs.Common.{map, option_map, string_bytes, sym, subst}
use Rattle.regex_hir.specs.Meaning.{meaning}
use Rattle.regex_syntax.specs.Verdict.{Reads, Refuses}
use Rattle.regex_syntax.specs.WellFormed.{IsWellFormed}
use Rattle.regex.specs.Writes.{HasTextParts}
use Rattle.sm_shapes.specs.Regexes.{FindsAsWritten}
use Rattle.sm_shapes.proofs.Regexes.{finds_as_written, is_regex, refused_by_parser}
use Rattle.sm_shapes.proofs.WholeCharacters.{has_text_parts}
use Rattle.sm_shapes.proofs.compiled.compiled.Goals as goal

pub returns-in_default : goal.returns-in_default
returns-in_default c = record {
  finds = tt;
  whole = tt;
  read = tt;
  refused = λ _. refused_by_parser c.args.text.now c.in-Err.error c.in_default.not-OutOfMemory
      (subst (λ g. Refuses g c.args.text.now c.in-Err.error.kind) c.default.ensures c.in-Err.ensures.err) c.in-Err.ensures.span;
}

pub returns-in-Ok-new-clause-finds : goal.returns-in-Ok-new-clause-finds
returns-in-Ok-new-clause-finds c =
    subst (λ h. FindsAsWritten (meaning h) c.args.text.now) (sym c.in-Ok-new.ensures.pattern)
    (finds_as_written c.in-Ok.parsed.hir (map (option_map string_bytes) c.in-Ok.parsed.names.items) c.args.text.now
    (subst (λ g. Reads g c.args.text.now c.in-Ok.parsed.hir (map (option_map string_bytes) c.in-Ok.parsed.names.items))
    c.default.ensures c.in-Ok.ensures.ok))

pub returns-in-Ok-new-clause-whole : goal.returns-in-Ok-new-clause-whole
returns-in-Ok-new-clause-whole c =
    ∣ subst (λ h. HasTextParts (meaning h)) (sym c.in-Ok-new.ensures.pattern)
    (has_text_parts c.in-Ok.parsed.hir (subst (λ g. IsWellFormed g.utf8 c.in-Ok.parsed.hir) c.default.ensures c.in-Ok.ensures.formed)) ∣₁

pub returns-in-Ok-new-clause-read : goal.returns-in-Ok-new-clause-read
returns-in-Ok-new-clause-read c =
    is_regex c.in-Ok.parsed.hir (map (option_map string_bytes) c.in-Ok.parsed.names.items) c.args.text.now
    (subst (λ g. Reads g c.args.text.now c.in-Ok.parsed.hir (map (option_map string_bytes) c.in-Ok.parsed.names.items))
    c.default.ensures c.in-Ok.ensures.ok)
