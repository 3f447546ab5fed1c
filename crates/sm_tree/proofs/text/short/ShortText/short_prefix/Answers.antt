use Rattle.std.proofs.Common.{IsAscii, refl, sym, subst, ◌∙◌, true≢false}
use Rattle.sm_tree.proofs.ShortTexts.{same_prefix}
use Rattle.sm_tree.proofs.text.short.ShortText.short_prefix.Goals as goal

pub returns-then-is_ascii_prefix-clause-some : goal.returns-then-is_ascii_prefix-clause-some
returns-then-is_ascii_prefix-clause-some c =
    let same = same_prefix c.args.len c.args.bytes.now c.copy_from_slice.new.self c.if-len-gt-SHORT_LEN.false
    c.copy_from_slice.ensures.after in (
      λ _. (
        c.if-len-gt-SHORT_LEN.false,
        c.if-bytes-lt-SHORT_LEN.false,
        subst (λ bs. IsAscii bs) same (c.is_ascii_prefix.ensures.ascii.0 c.if-is_ascii_prefix.true),
      ),
      λ _. refl,
    )

pub returns-else-is_ascii_prefix-clause-some : goal.returns-else-is_ascii_prefix-clause-some
returns-else-is_ascii_prefix-clause-some c =
    let same = same_prefix c.args.len c.args.bytes.now c.copy_from_slice.new.self c.if-len-gt-SHORT_LEN.false
    c.copy_from_slice.ensures.after in (
      λ no. absurd (true≢false (sym no)),
      λ seen. sym c.if-is_ascii_prefix.false
          ∙ c.is_ascii_prefix.ensures.ascii.1 (subst (λ bs. IsAscii bs) (sym same) seen.2),
    )

pub returns-then-is_ascii_prefix-clause-bytes : goal.returns-then-is_ascii_prefix-clause-bytes
returns-then-is_ascii_prefix-clause-bytes c =
    same_prefix c.args.len c.args.bytes.now c.copy_from_slice.new.self c.if-len-gt-SHORT_LEN.false c.copy_from_slice.ensures.after
