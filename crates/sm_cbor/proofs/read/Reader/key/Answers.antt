use Rattle.std.proofs.Common.{refl}
use Rattle.sm_cbor.proofs.InitialSteps.{other_key}
use Rattle.sm_cbor.proofs.read.Reader.key.Goals as goal

pub returns-in_default : goal.returns-in_default
returns-in_default g c =
    record {
      goes = (
        refl,
        other_key c.args.self.now c.args.byte c.head_of.result c.requires.sound c.head_of.ensures c.in_default.not-NoItem
            c.if-byte-eq-TEXT.false,
        λ es h. h,
      );
      takes = λ e h. h;
      alike = g.met.E.EventSink.alike_itself c.args.to.now;
    }
