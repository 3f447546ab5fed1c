use Rattle.std.proofs.Common.{subst, sym}
use Rattle.std.specs.Str.{IsAscii}
use Rattle.sm_ids.specs.View.{id_of}
use Rattle.sm_ids.proofs.Parting.{id_ascii}
use Rattle.sm_http_rules.proofs.naming.id_behind.Goals as goal

pub text_behind-requires : goal.text_behind-requires
text_behind-requires c =
    subst IsAscii (sym c.as_str.ensures) (id_ascii (id_of c.as_ref-parts.result) c.args.id.now c.as_ref-parts.ensures)
