use Rattle.std.proofs.Common.{length, sym, ap, ◌∙◌}
use Rattle.sm_cbor.specs.Heads.{array_type}
use Rattle.sm_cbor.specs.Written.{written_head}
use Rattle.sm_cbor.proofs.Counts.{nodes_counted}
use Rattle.sm_cbor.proofs.length.list_head_len.Goals as goal

pub returns : goal.returns
returns c = c.head_len.ensures array_type ∙ ap (λ n. length (written_head array_type n)) (sym (nodes_counted c.args.items.now))
