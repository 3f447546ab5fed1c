use Rattle.std.proofs.Common.{◌≤◌, subst, sym, ◌∙◌, ap, refl, length, take, drop, []}
use Rattle.std.specs.Prelude.{Some, IsUtf8, string_bytes}
use Rattle.std.specs.Option.{option_map}
use Rattle.std.specs.Str.{IsCharBoundary}
use Rattle.std.proofs.lemmas.Str.{IsUtf8-drop}
use Rattle.sm_lex.specs.Space.{EndsSpace}
use Rattle.sm_lex.specs.steps.LexSteps.{PartOfSpace, part_len}
use Rattle.sm_lex.proofs.Spaces.{skips_part}
use Rattle.sm_lex.proofs.Leading.{space_cut}
use Rattle.sm_lex.proofs.DocTexts.{Docs, docs_part, docs_end}
use Rattle.sm_lex.proofs.docs.documentation.Goals as goal
use Rattle.sm_lex.proofs.docs.documentation.Goals.{After-len}

-- the piece that was found
found : (c : After-len) → PartOfSpace c.loop-part.rest.now (Some c.in-Some.part)
found c = subst (λ s. PartOfSpace s (Some c.in-Some.part)) c.as_bytes.ensures.value c.in-Some.ensures.part

cut : (c : After-len) → IsCharBoundary c.loop-part.rest.now c.len.result
cut c =
    let rest = c.loop-part.rest.now in
    let n = part_len c.in-Some.part in
    let within : n ≤ length rest = subst (λ s. n ≤ length s) c.as_bytes.ensures.value c.in-Some.ensures.within in
    subst (IsCharBoundary rest) (sym c.len.ensures)
    (space_cut rest n within (skips_part rest (drop n rest) c.in-Some.part (found c) ([], refl)) c.loop-part.invariant.utf8)

pub split_at-requires : goal.split_at-requires
split_at-requires c = cut (goal.at.split_at-requires c).After-len

pub loop-part-preserved : goal.loop-part-preserved
loop-part-preserved c =
    let here = (goal.at.loop-part-preserved c).After-len in
    let rest = c.loop-part.rest.now in
    let now = c.loop-part.invariant in
    let piece = c.split_at.ensures.front ∙ ap (λ n. take n rest) c.len.ensures in
    let behind = c.split_at.ensures.back ∙ ap (λ n. drop n rest) c.len.ensures in record {
      utf8 = subst IsUtf8 (sym c.split_at.ensures.back) (IsUtf8-drop rest c.len.result now.utf8 (cut here));
      docs = λ r all h. now.docs r all (docs_part (option_map string_bytes c.loop-part.docs) all rest r c.split_at.result.0.now
          c.split_at.result.1.now c.in-Some.part (found here) piece behind
          (subst (λ d. Docs d c.split_at.result.1.now r all) c.in-Ok.ensures h));
    }

pub returns : goal.returns
returns c =
    let rest = c.loop-part.rest.now in
    let all = c.loop-part.invariant.docs rest (option_map string_bytes c.loop-part.docs)
    (docs_end (option_map string_bytes c.loop-part.docs) rest) in
    (all.0, rest, all.1, subst EndsSpace c.as_bytes.ensures.value c.in_default.ensures.part, all.2)
