-- What is told of the value of a member: that it is carried, what of it isn't, or that its leaves decide, since it is a tree.
use Rattle.std.specs.Prelude.{◌≡◌, ◌<◌, List, Option, None, Some, IfSome, false}
use Rattle.std.specs.Option.{option_map}
use Rattle.sm_tree.specs.declared.path.Step.{Step}
use Rattle.sm_tree.specs.declared.path.Step.TheVariants.{Member}
use Rattle.sm_shapes.specs.Fitting.{Fits, any_text}
use Rattle.sm_shapes.specs.Places.{member_place}
use Rattle.sm_shapes.specs.TableData.{member_count, name_at}
use Rattle.sm_shapes.specs.Values.{Val}
use Rattle.sm_shapes.specs.ValueView.{val_of}
use Rattle.sm_codec.specs.Encoded.{are_none, first_path}
use Rattle.sm_codec.specs.Written.{paths_under}
use Rattle.sm_bind.specs.Roles.{Bound}
use Rattle.sm_bind_write.specs.CarriedParts.{uncarried_member}
use Rattle.sm_bind_write.specs.PartSpots.{part_path}
use Rattle.sm_bind_write.specs.declared.carried.Missed.{Missed}
use Rattle.sm_bind_write.specs.declared.spots.Seen.{Seen}
use Rattle.sm_bind_write.specs.declared.spots.Seen.TheVariants.{Carried, Part, Leaves}

-- of these paths, where those of a tree are these
abbrev pub SeenAs : List (List Step) → List (List Step) → Seen → Type 0
SeenAs paths tree Carried = first_path paths ≡ None
SeenAs paths tree (Part spot) = first_path paths ≡ Some (part_path spot)
SeenAs paths tree Leaves = paths ≡ tree

-- a member of the table, whose value fits, if it is present
abbrev pub value_seen : Missed → Option Val
value_seen m = option_map (λ v. val_of v.now) m.value

abbrev pub IsMet : Bound → Missed → Type 0
IsMet b m = (m.member < member_count b.table) × IfSome (value_seen m) (λ v. Fits b.table any_text (member_place m.member) v)

-- of several members, the first that isn't carried
abbrev pub paths_of : Bound → Missed → List (List Step)
paths_of b m = uncarried_member b m.member (value_seen m)

abbrev pub MissedIn : Bound → List (List Step) → Option Missed → Type 0
MissedIn b paths None = first_path paths ≡ None
MissedIn b paths (Some m) =
    IsMet b m × (first_path paths ≡ first_path (paths_under (Member (name_at b.table m.member)) (paths_of b m)))
    × (are_none (paths_of b m) ≡ false)
