use Rattle.std.proofs.Common.{subst}
use Rattle.sm_bytes.specs.Ascii.{comma}
use Rattle.sm_parts.specs.Cuts.{IsCutBy}
use Rattle.sm_parts.proofs.EntryLists.{second_piece_is}
use Rattle.sm_parts.proofs.listing.second_piece.Goals as goal

pub returns-in-Some : goal.returns-in-Some
returns-in-Some c =
    second_piece_is c.args.rest.now c.args.first.taken.now c.in-Some.behind.now c.cut_at-second.result.taken.now
    c.cut_at-second.result.behind (subst (IsCutBy comma c.args.rest.now c.args.first.taken.now) c.in-Some.is c.requires)
    c.cut_at-second.ensures
