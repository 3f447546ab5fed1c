use Rattle.std.proofs.Common.{◌∙◌}
use Rattle.sm_shapes.specs.TableView.{table_data}
use Rattle.sm_schema.proofs.NumberedPlaces.{root_added, member_added}
use Rattle.sm_schema.proofs.listing.DefinedPlaces.add.Goals as goal

pub returns-in-Root-clause-numbered : goal.returns-in-Root-clause-numbered
returns-in-Root-clause-numbered c =
    root_added (table_data c.args.table.now) c.args.self.now.places.items c.push.new.self.items c.args.place c.args.self.now.shapes.items
    c.args.self.now.members.items c.args.self.now.values_known c.in-Root.shape c.len-number.result c.requires.numbered c.requires.new c.requires.inside c.in-Root.is
    c.in_ok-push.ensures.items (c.len-number.ensures ∙ c.args.self.now.places.ok.0)

pub returns-in-Member-clause-numbered : goal.returns-in-Member-clause-numbered
returns-in-Member-clause-numbered c =
    member_added (table_data c.args.table.now) c.args.self.now.places.items c.push.new.self.items c.args.place c.args.self.now.shapes.items
    c.args.self.now.members.items c.args.self.now.values_known c.in-Member.member c.len-number.result c.requires.numbered c.requires.new c.requires.inside c.in-Member.is
    c.in_ok-push.ensures.items (c.len-number.ensures ∙ c.args.self.now.places.ok.0)
