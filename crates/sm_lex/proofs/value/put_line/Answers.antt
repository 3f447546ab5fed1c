use Rattle.std.proofs.Common.{◌+◌, ◌++◌, subst, sym, ◌∙◌, ap, arith, take, drop, append_assoc, length-drop}
use Rattle.std.specs.Prelude.{IsUtf8, string_bytes}
use Rattle.std.specs.Char.{encode_utf8}
use Rattle.std.proofs.lemmas.List.{drop-drop}
use Rattle.std.proofs.lemmas.Str.{IsUtf8-drop}
use Rattle.sm_lex.specs.steps.LexSteps.{PartOfLine}
use Rattle.sm_lex.specs.declared.part.Part.TheVariants.{Plain, Escaped, Bad as BadPart}
use Rattle.sm_lex.proofs.LineParts.{gave_plain, gave_escaped, gave_bad, plain_cut, escaped_cut}
use Rattle.sm_lex.proofs.value.put_line.Goals as goal

pub split_at-requires-in-Escaped : goal.split_at-requires-in-Escaped
split_at-requires-in-Escaped c = escaped_cut c.args.last c.loop-rest.rest.now c.in-Escaped.escape c.loop-rest.invariant.utf8
    (subst (λ t. PartOfLine c.args.last t (Escaped c.in-Escaped.escape)) c.as_bytes.ensures.value c.in-Escaped.ensures)

pub loop-rest-preserved-in-Plain : goal.loop-rest-preserved-in-Plain
loop-rest-preserved-in-Plain c =
    let s = c.args.line.text.now in
    let len = c.in-Plain.len in
    let now = c.loop-rest.invariant in
    let before = now.gave in
    let at = before.0 in
    let text = before.1 in
    let cut = c.split_at.ensures in
    let here = subst (λ t. PartOfLine c.args.last t (Plain len)) c.as_bytes.ensures.value c.in-Plain.ensures in
    let part = subst (λ t. PartOfLine c.args.last t (Plain len)) before.3 here in record {
      utf8 = subst IsUtf8 (sym cut.back) (IsUtf8-drop c.loop-rest.rest.now len now.utf8
          (plain_cut c.args.last c.loop-rest.rest.now len here));
      gave = (
        at + len,
        text ++ take len (drop at s),
        omega (arith, part.1, length-drop at s, before.2),
        cut.back ∙ ap (drop len) before.3 ∙ drop-drop len at s,
        c.in_ok-push_str-in-Plain.ensures.bytes ∙ ap (λ t. t ++ c.split_at.result.0.now) before.4
            ∙ append_assoc (string_bytes c.args.out.now) text c.split_at.result.0.now
            ∙ ap (λ u. string_bytes c.args.out.now ++ (text ++ u)) (cut.front ∙ ap (take len) before.3),
        gave_plain c.args.last c.args.line.at at len s text before.5 part,
      );
    }

pub loop-rest-preserved : goal.loop-rest-preserved
loop-rest-preserved c =
    let s = c.args.line.text.now in
    let e = c.in-Escaped.escape in
    let now = c.loop-rest.invariant in
    let before = now.gave in
    let at = before.0 in
    let text = before.1 in
    let cut = c.split_at-in-Escaped.ensures in
    let here = subst (λ t. PartOfLine c.args.last t (Escaped e)) c.as_bytes.ensures.value c.in-Escaped.ensures in
    let part = subst (λ t. PartOfLine c.args.last t (Escaped e)) before.3 here in record {
      utf8 = subst IsUtf8 (sym cut.back) (IsUtf8-drop c.loop-rest.rest.now (1 + e.count) now.utf8
          (escaped_cut c.args.last c.loop-rest.rest.now e now.utf8 here));
      gave = (
        at + (1 + e.count),
        text ++ encode_utf8 e.character,
        omega (arith, part.0, length-drop at s, before.2),
        cut.back ∙ ap (drop (1 + e.count)) before.3 ∙ drop-drop (1 + e.count) at s,
        c.in_ok-push-in-Escaped.ensures.bytes ∙ ap (λ t. t ++ encode_utf8 e.character) before.4
            ∙ append_assoc (string_bytes c.args.out.now) text (encode_utf8 e.character),
        gave_escaped c.args.last c.args.line.at at s text e before.5 part,
      );
    }

pub unreachable-requires : goal.unreachable-requires
unreachable-requires c =
    let before = c.loop-rest.invariant.gave in
    let part = subst (λ t. PartOfLine c.args.last t BadPart) (c.as_bytes.ensures.value ∙ before.3) c.in-Bad.ensures in
    c.requires (c.args.line.at + before.0) (gave_bad c.args.last c.args.line.at before.0 c.args.line.text.now before.1 before.5 part)
