use Rattle.std.proofs.Common.{length, sym, ap, ◌∙◌}
use Rattle.sm_cbor.specs.Heads.{map_type}
use Rattle.sm_cbor.specs.Written.{written_head}
use Rattle.sm_cbor.proofs.Counts.{members_counted}
use Rattle.sm_cbor.proofs.length.map_head_len.Goals as goal

pub returns : goal.returns
returns c = c.head_len.ensures map_type ∙ ap (λ n. length (written_head map_type n)) (sym (members_counted c.args.pairs.now))
