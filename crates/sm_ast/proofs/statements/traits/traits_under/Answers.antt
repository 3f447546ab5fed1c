use Rattle.sm_ast.specs.Layout.{traits_name}
use Rattle.sm_tree.specs.Node.{members_of}
use Rattle.sm_tree.specs.View.{members_view}
use Rattle.sm_ast.proofs.JsonParts.{json_under}
use Rattle.sm_ast.proofs.statements.traits.traits_under.Goals as goal

pub trait_uses-requires : goal.trait_uses-requires
trait_uses-requires c = json_under traits_name (members_of (members_view c.args.pairs.now)) _ c.requires c.in-Some.ensures _
    c.pairs_or_none.ensures
