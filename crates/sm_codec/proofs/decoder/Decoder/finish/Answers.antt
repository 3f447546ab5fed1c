use Rattle.std.specs.Prelude.{Some}
use Rattle.std.specs.Option.{option_map}
use Rattle.std.proofs.Common.{ap, ◌∙◌}
use Rattle.sm_shapes.specs.ValueView.{val_of}
use Rattle.sm_codec.specs.Decoding.{good, bad}
use Rattle.sm_codec.specs.DecodingView.{decoding_of}
use Rattle.sm_codec.specs.FrameView.{fault_at, outcome_of}
use Rattle.sm_codec.proofs.KeptOn.{whole_ends, finish_is}
use Rattle.sm_codec.proofs.decoder.Decoder.finish.Goals as goal

pub returns-in-Some-Good : goal.returns-in-Some-Good
returns-in-Some-Good c =
    finish_is (decoding_of c.args.self) (good (val_of c.in-Some-Good.value))
    (ap (option_map outcome_of) c.in-Some-Good.is ∙ ap (λ o. Some (outcome_of o)) c.in-Some-Good.field-0-is)

pub returns-in-Some-Bad : goal.returns-in-Some-Bad
returns-in-Some-Bad c =
    finish_is (decoding_of c.args.self) (bad (fault_at c.in-Some-Bad.fault))
    (ap (option_map outcome_of) c.in-Some-Bad.is ∙ ap (λ o. Some (outcome_of o)) c.in-Some-Bad.field-0-is)

pub unreachable-requires : goal.unreachable-requires
unreachable-requires c = whole_ends (decoding_of c.args.self) c.requires.whole (ap (option_map outcome_of) c.in-None.is)
