-- What events are told from: tables, the walk over mixins, those that contribute, and members.
use Rattle.std.specs.Prelude.{◌≡◌, ℕ, List, Some}
use Rattle.std.specs.Global.{Vec}
use Rattle.sm_merge.specs.Mixins.{EffectiveShape, IsEffective}
use Rattle.sm_merge.specs.Places.{shape_under}
use Rattle.sm_merge.specs.Stated.{ShapeStated, Stated}
use Rattle.sm_merge.specs.steps.AllTables.{AreTablesOf}
use Rattle.sm_merge.specs.steps.Contributing.{AreWalkedTables}
use Rattle.sm_merge.specs.steps.EffectiveTables.{AreMembersOf}
use Rattle.sm_merge.specs.steps.MixedIn.{AreMixedIn}
use Rattle.sm_merge.specs.declared.firsts.NamedTarget.{NamedTarget}
use Rattle.sm_merge.specs.declared.mixins.Contributing.{Contributing}
use Rattle.sm_merge.specs.declared.tables.Tables.{Tables}
use Rattle.sm_merge.specs.declared.walk.Walk.{Walk}

-- each shape comes to something
abbrev pub AllMade : List Stated → Type 0
AllMade ss = (id : List ℕ) (s : ShapeStated) → shape_under id ss ≡ Some s → (m : EffectiveShape) × IsEffective ss id m

pub record AreToldFrom (ss : List Stated) (t : Tables) (walk : Walk) (cs : List (Vec Contributing))
    (ms : List (Vec NamedTarget)) : Type 0 where
  pub tables : AreTablesOf ss t
  pub walked : AreWalkedTables ss t.shapes.rows.items t.traits.items walk
  pub mixed : AreMixedIn ss t.shapes.rows.items cs
  pub members : AreMembersOf ss t.shapes.rows.items ms
  pub made : AllMade ss
