use Rattle.sm_parts.proofs.QuotedLists.{unopened_puts}
use Rattle.sm_parts.proofs.quotes.put_unquoted.Goals as goal

pub returns-in-Ok : goal.returns-in-Ok
returns-in-Ok c =
    unopened_puts c.args.entries.now.items c.put_plain.new.entries.items c.args.text.now c.cut_at-piece.result.taken.now
    c.cut_at-piece.result.behind c.requires c.cut_at-piece.ensures c.in-Ok.ensures
