use Rattle.std.proofs.Common.{refl, inl, inr, subst, ◌∙◌, ap, cond, get_or, take}
use Rattle.std.specs.Prelude.{codes}
use Rattle.std.specs.List.{prefix_len}
use Rattle.sm_tree.specs.Numbers.{IsNumber}
use Rattle.sm_lex.specs.Bytes.{first_of, is_word_byte, opens_with}
use Rattle.sm_lex.specs.Tokens.{LongestNumber}
use Rattle.sm_lex.proofs.Measured.{begins, found_word, found_number, broken_number, found_mark}
use Rattle.sm_lex.proofs.lex.measure.Goals as goal

pub returns-in-Word : goal.returns-in-Word
returns-in-Word c =
    let s = c.args.text.now in
    let same = c.as_bytes-bytes.ensures.value in
    found_word c.args.start c.run_len.result s c.utf8.text
    (begins _ s c.requires.some (c.in-Word.ensures ∙ ap (λ t. first_of (get_or t 0 0)) same)) (c.run_len.ensures.run
    ∙ ap (prefix_len is_word_byte) same)

pub returns-in-Ok : goal.returns-in-Ok
returns-in-Ok c =
    let s = c.args.text.now in
    let same = c.as_bytes-bytes.ensures.value in
    let found = subst (λ t. LongestNumber t c.in-Ok.len × IsNumber (take c.in-Ok.len t)) same c.in-Ok.ensures in
    found_number c.args.start c.in-Ok.len s c.utf8.text
    (begins _ s c.requires.some (c.in-Number.ensures ∙ ap (λ t. first_of (get_or t 0 0)) same)) found.0 found.1

pub returns-in-Err : goal.returns-in-Err
returns-in-Err c =
    let s = c.args.text.now in
    let same = c.as_bytes-bytes.ensures.value in
    let found = subst (λ t. LongestNumber t c.in-Err.len × (IsNumber (take c.in-Err.len t) → ⊥)) same c.in-Err.ensures in
    inr (inl (
      c.in-Err.len,
      broken_number c.in-Err.len s
          (begins _ s c.requires.some (c.in-Number.ensures ∙ ap (λ t. first_of (get_or t 0 0)) same)) found.0 found.1,
      refl,
    ))

pub returns-in-Mark : goal.returns-in-Mark
returns-in-Mark c =
    let s = c.args.text.now in
    let same = c.as_bytes-bytes.ensures.value in
    found_mark c.args.start c.mark_len.result s c.utf8.text
    (begins _ s c.requires.some (c.in-Mark.ensures ∙ ap (λ t. first_of (get_or t 0 0)) same)) (c.mark_len.ensures
    ∙ ap (λ t. cond (opens_with t (codes ":=")) 2 1) same)
