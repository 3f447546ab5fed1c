use Rattle.std.proofs.Common.{length, drop, sym, subst, ◌≤◌, ◌∙◌, ap}
use Rattle.sm_http.proofs.Rooms.{used_of_part}
use Rattle.sm_http.proofs.held.Held.advance.Goals as goal

pub returns : goal.returns
returns c =
    used_of_part c.self.inside.room.items c.self.inside.at c.self.inside.end c.args.count
    (subst (λ v. c.args.count ≤ length v) (sym c.self.view_is) c.requires)
    ∙ ap (drop c.args.count) c.self.view_is
