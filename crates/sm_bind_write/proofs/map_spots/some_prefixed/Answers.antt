use Rattle.std.proofs.Common.{sym, ap, ◌∙◌}
use Rattle.std.specs.Str.{str_to_ascii_lowercase}
use Rattle.sm_codec.specs.Encoded.{first_path}
use Rattle.sm_codec.specs.PlaceView.{place_of}
use Rattle.sm_bind.specs.BoundView.{bound_of}
use Rattle.sm_bind_write.proofs.KeysFree.{not_empty, prefixed_of}
use Rattle.sm_bind_write.proofs.map_spots.some_prefixed.Goals as goal

pub returns : goal.returns
returns c =
    let es = c.args.entries.now in
    c.first_prefixed.ensures
    ∙ ap first_path (prefixed_of (bound_of c.args.place.now) (str_to_ascii_lowercase c.args.prefix.now) (place_of c.args.at) es
    (not_empty es (sym c.is_empty.ensures ∙ c.if-is_empty.false)))
