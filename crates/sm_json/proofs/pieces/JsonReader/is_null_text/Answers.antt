use Rattle.std.proofs.Common.{ap, sym, ◌∙◌, ◌≡◌, Some}
use Rattle.sm_json.proofs.ReadPieces.{null_by_end, no_null}
use Rattle.sm_json.proofs.pieces.JsonReader.is_null_text.Goals as goal

pub returns-then-byte-eq110 : goal.returns-then-byte-eq110
returns-then-byte-eq110 c bytes come =
    null_by_end c.args.self.now bytes c.is_over.result c.requires (c.in-Some.is ∙ ap Some c.if-byte-eq110.true) c.is_over.ensures come

pub returns-else-byte-eq110 : goal.returns-else-byte-eq110
returns-else-byte-eq110 c bytes come =
    no_null c.args.self.now bytes c.requires
    (λ e. let same : Some c.in-Some.byte ≡ Some 110 = sym c.in-Some.is ∙ e in c.if-byte-eq110.false cc) come

pub returns-in-None : goal.returns-in-None
returns-in-None c bytes come = no_null c.args.self.now bytes c.requires (λ e. let same = sym c.in-None.is ∙ e in cc) come
