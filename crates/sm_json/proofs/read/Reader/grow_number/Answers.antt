use Rattle.std.proofs.Common.{refl}
use Rattle.sm_json.proofs.Turns.{number_grows}
use Rattle.sm_json.proofs.read.Reader.grow_number.Goals as goal

pub returns : goal.returns
returns c =
    number_grows c.args.self.now _ c.args.bytes.now c.args.phase c.number_run-run.result c.requires.sound c.requires.place
    c.number_run-run.ensures.within
    c.number_run-run.ensures.taken c.number_run-run.ensures.bytes c.number_run-run.ensures.longest refl
    c.in_ok-extend_from_slice.ensures.items refl
