use Rattle.std.proofs.Common.{◌≡◌, length, true, sym, ◌∙◌, lit<, true≢false}
use Rattle.std.specs.List.{position_or_len}
use Rattle.sm_idl.proofs.RelativeIds.{is_dollar, relative_parts, parts_relative, plain_relative, name_relative, all_plain}
use Rattle.sm_idl.proofs.RelativeIds.{IsCutAtDollar, cut_at_dollar}
use Rattle.sm_idl.proofs.word.is_relative_id.Goals as goal

pub returns-in-None : goal.returns-in-None
returns-in-None c =
    let text = c.args.text.now in
    let at : position_or_len is_dollar text ≡ length text = c.in-None.ensures.byte (lit< tt) (λ w o h. h) in (
      (λ t. name_relative text (c.is_identifier-in-None.ensures.0 t)),
      (λ r. c.is_identifier-in-None.ensures.1 (plain_relative text (all_plain text at) r)),
    )

pub returns-then-is_identifier : goal.returns-then-is_identifier
returns-then-is_identifier c =
    let text = c.args.text.now in
    let name = c.in-Some.name.now in
    let member = c.in-Some.member.now in
    let h = c.in-Some.ensures.byte (lit< tt) (λ w o k. k) in
    let s : IsCutAtDollar text name member = cut_at_dollar text name member h.0 h.1 h.2 in (
      (λ t. parts_relative text name member s.cut s.plain (c.is_identifier.ensures.0 c.if-is_identifier.true)
          (c.is_identifier-then-is_identifier.ensures.0 t)),
      (λ r. c.is_identifier-then-is_identifier.ensures.1 (relative_parts text name member s.cut s.plain r).1),
    )

pub returns-else-is_identifier : goal.returns-else-is_identifier
returns-else-is_identifier c =
    let text = c.args.text.now in
    let name = c.in-Some.name.now in
    let member = c.in-Some.member.now in
    let h = c.in-Some.ensures.byte (lit< tt) (λ w o k. k) in
    let s : IsCutAtDollar text name member = cut_at_dollar text name member h.0 h.1 h.2 in (
      (λ t. absurd (true≢false (sym t ∙ c.if-is_identifier.false))),
      (λ r. c.is_identifier.ensures.1 (relative_parts text name member s.cut s.plain r).0),
    )
