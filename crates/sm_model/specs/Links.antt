-- The links of a graph of the code: which numbers its relations lead from and to.
use Rattle.std.specs.Prelude.{◌↔◌, List, [], get_or}
use Rattle.std.specs.List.{Contains}
use Rattle.sm_model.specs.GraphView.{IsShapeNumber, ids, maps_of}
use Rattle.sm_model.specs.Relations.{IsRelated}
use Rattle.sm_model.specs.declared.graph.Graph.{Graph}
use Rattle.sm_model.specs.declared.link.Link.{Link}

-- what stands at the two numbers is related
pub record IsLinked (g : Graph) (l : Link) : Type 0 where
  pub from : IsShapeNumber g l.from
  pub to : IsShapeNumber g l.to
  pub related : IsRelated l.relation (maps_of g) (get_or (ids g) l.from []) (get_or (ids g) l.to [])

-- these are all links, and nothing else
abbrev pub AreLinks : Graph → List Link → Type 0
AreLinks g links = (l : Link) → Contains links l ↔ IsLinked g l
