-- Sets of ids to which all belongs that members and targets lead to from what is of them: so is what is of a service.
use Rattle.std.proofs.Common.{inl, inr, ℕ, List, [], ◌∷◌, refl, subst, arith}
use Rattle.std.specs.List.{Contains}
use Rattle.sm_model.specs.Graphs.{GraphMaps, ShapeEntry, member_entry, shape_entry}
use Rattle.sm_model.specs.Relations.{HasEntry, IsNeighbor, Reaches, WalksBy}
use Rattle.sm_model.specs.declared.relation.Relation.TheVariants.{Member, Target}
use Rattle.sm_model.proofs.LinkedEntries.{cons_cases}
use Rattle.sm_compile.specs.Compiled.{IdSet}
use Rattle.sm_compile.specs.Reached.{IsReached, LeadsBy, LeadsTo}
use Rattle.sm_rules.specs.Ready.{IsOfService}
use Rattle.sm_rules.specs.Words.{IsService}
use Rattle.sm_accepted.proofs.FormedShapes.{AreThere, IsThere}

abbrev pub IsClosed : GraphMaps → IdSet → Type 0
IsClosed g In = (from to : List ℕ) → In from → LeadsTo g from to → In to

-- all of these are of the set
abbrev pub AreIn : IdSet → List (List ℕ) → Type 0
AreIn In ids = (id : List ℕ) → Contains ids id → In id

-- one of those that are there
pub is_there : (g : GraphMaps) (ids : List (List ℕ)) (id : List ℕ) → AreThere g ids → Contains ids id → IsThere g id
is_there g [] id there among = absurd (omega (arith, among.1))
is_there g (k ∷ ids) id there among = elim (cons_cases k ids id among) [
  | inl is ↦ subst (IsThere g) is there.0
  | inr later ↦ is_there g ids id there.1 later
]

module _ (g : GraphMaps) (In : IdSet) (closed : IsClosed g In) where
  -- the members of a shape of the set
  pub members_inside : (shape : List ℕ) (s : ShapeEntry) → HasEntry g shape (shape_entry s) → AreThere g s.members → In shape
      → AreIn In s.members
  members_inside shape s is there inside id among =
      let m = is_there g s.members id there among in
      closed shape id inside (inl (shape_entry s, is, inl (refl, among), (member_entry m.0, m.1)))

  -- what is reached from an id of the set
  led_inside : (by : List (List ℕ)) (from to : List ℕ) → In from → LeadsBy g from by to → In to
  led_inside [] from to inside is = subst In is inside
  led_inside (next ∷ more) from to inside led = led_inside more next to (closed from next inside led.0) led.1

  pub reached_inside : (root id : List ℕ) → In root → IsReached g root id → In id
  reached_inside root id inside reached = led_inside reached.0 root id inside reached.1

-- each such step is one that closures follow
neighbor : (g : GraphMaps) (from to : List ℕ) → LeadsTo g from to → IsNeighbor g from to
neighbor g from to (inl member) = (Member, λ e. cc, member)
neighbor g from to (inr target) = (Target, λ e. cc, target)

reaches_on : (g : GraphMaps) (between : List (List ℕ)) (from last to : List ℕ) → WalksBy g from between last → IsNeighbor g last to
    → Reaches g from to
reaches_on g [] from last to walk step = (last ∷ [], (walk, step))
reaches_on g (next ∷ more) from last to walk step =
    let rest = reaches_on g more next last to walk.1 step in (next ∷ rest.0, (walk.0, rest.1))

pub service_closed : (g : GraphMaps) (service : List ℕ) → IsService g service → IsClosed g (IsOfService g service)
service_closed g service is from to (inl same) step = inr (is, ([], subst (λ i. IsNeighbor g i to) same (neighbor g from to step)))
service_closed g service is from to (inr inside) step =
    inr (is, reaches_on g inside.1.0 service from to inside.1.1 (neighbor g from to step))
