use Rattle.std.proofs.Common.{refl, ◌≡◌, true, false}
use Rattle.sm_json.proofs.Turns.{number_halts, number_and_halts, number_then, keeps}
use Rattle.sm_json.proofs.MayCome.{number_over_placed}
use Rattle.sm_json.proofs.read.Reader.end_number.Goals as goal

pub returns-then-not-is_whole-clause-goes : goal.returns-then-not-is_whole-clause-goes
returns-then-not-is_whole-clause-goes g c = (
  refl,
  number_halts c.args.self.now c.args.phase c.args.byte c.requires.sound c.requires.place c.requires.stops
      (λ whole. let clash : false ≡ true = c.if-not-is_whole.ensures.1 whole in cc),
  keeps c.args.self.now _ _ c.requires.placed,
)

pub returns-then-not-may_follow-clause-goes : goal.returns-then-not-may_follow-clause-goes
returns-then-not-may_follow-clause-goes g c = (
  refl,
  number_and_halts c.args.self.now c.args.phase c.args.byte c.requires.sound c.requires.place c.requires.stops
      (c.if-not-is_whole.ensures.0 refl) c.if-not-may_follow.ensures,
  keeps c.args.self.now _ _ c.requires.placed,
)

pub behind-requires-clause-placed : goal.behind-requires-clause-placed
behind-requires-clause-placed g c = number_over_placed c.args.self.now _ _ _ _ c.args.phase c.requires.place c.requires.placed
    c.in_ok-hand_number.ensures.goes

pub returns-clause-goes : goal.returns-clause-goes
returns-clause-goes g c =
    number_then c.args.self.now c.behind.new.self _ _ _ _ _ c.args.phase c.args.byte c.behind.result c.requires.sound
    c.requires.place c.requires.stops c.in_ok-hand_number.ensures.goes c.if-not-may_follow.ensures c.behind.ensures.goes
