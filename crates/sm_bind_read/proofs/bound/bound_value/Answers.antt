use Rattle.std.proofs.Common.{◌≡◌, sym, ap, subst, ◌∙◌}
use Rattle.std.specs.Prelude.{None, Some}
use Rattle.std.specs.Option.{option_map}
use Rattle.std.proofs.lemmas.Bool.{true≢false}
use Rattle.sm_shapes.specs.TableData.{binding_in}
use Rattle.sm_shapes.specs.TableView.{binding_data}
use Rattle.sm_codec.specs.Readings.{member_reading, when_closed}
use Rattle.sm_part_values.specs.Joins.{MemberJoins}
use Rattle.sm_bind.specs.BindingsView.{parts_data}
use Rattle.sm_bind.specs.BoundView.{bound_of}
use Rattle.sm_bind.specs.Roles.{binding_on}
use Rattle.sm_bind_read.specs.PartFaults.{bound_codec}
use Rattle.sm_bind_read.specs.Parts.{bound_children}
use Rattle.sm_bind_read.specs.steps.Coming.{is_body_by, is_map_bound}
use Rattle.sm_bind_read.proofs.BoundStands.{counts_there}
use Rattle.sm_bind_read.proofs.bound.bound_value.Goals as goal

pub binding_value-requires-clause-maps : goal.binding_value-requires-clause-maps
binding_value-requires-clause-maps g c = λ h.
    let b = bound_of c.args.place.now in
    let there : binding_on b c.args.member ≡ Some (binding_data c.in-Some.binding) =
    counts_there b c.args.member c.requires.bound ∙ ap binding_in c.member.ensures ∙ ap (option_map binding_data) c.in-Some.is in
    c.requires.maps (ap is_map_bound there ∙ h)

pub binding_value-requires-clause-bound : goal.binding_value-requires-clause-bound
binding_value-requires-clause-bound g c =
    let b = bound_of c.args.place.now in
    let there : binding_on b c.args.member ≡ Some (binding_data c.in-Some.binding) =
    counts_there b c.args.member c.requires.bound ∙ ap binding_in c.member.ensures ∙ ap (option_map binding_data) c.in-Some.is in
    sym (ap is_body_by there) ∙ c.requires.bound

pub returns-in-Some-clause-joins : goal.returns-in-Some-clause-joins
returns-in-Some-clause-joins g c = λ content.
    let b = bound_of c.args.place.now in
    let there : binding_on b c.args.member ≡ Some (binding_data c.in-Some.binding) =
    counts_there b c.args.member c.requires.bound ∙ ap binding_in c.member.ensures ∙ ap (option_map binding_data) c.in-Some.is in
    subst (λ o. MemberJoins (member_reading (when_closed b.table) c.args.member
    (bound_children o b (bound_codec b g.P.Patterns.test) (parts_data c.args.parts.now) content c.args.member)) c.binding_value.result) (sym there)
    (c.binding_value.ensures.joins content)

pub returns-in-None-clause-joins : goal.returns-in-None-clause-joins
returns-in-None-clause-joins g c = λ content.
    let b = bound_of c.args.place.now in
    let there : binding_on b c.args.member ≡ None =
    counts_there b c.args.member c.requires.bound ∙ ap binding_in c.member.ensures ∙ ap (option_map binding_data) c.in-None.is in
    absurd (true≢false (sym (ap is_body_by there) ∙ c.requires.bound))
