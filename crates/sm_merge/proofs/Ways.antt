-- Ways from number to number, joined.
use Rattle.std.proofs.Common.{inl, inr, ℕ, List, [], ◌∷◌, subst, sym}
use Rattle.sm_merge.specs.steps.Links.{Links, LeadsTo, IsWay, Reaches, Comes}

joined_way : (links : Links) (us : List ℕ) (v u w : ℕ) → IsWay links v us u → LeadsTo links u w → Reaches links v w
joined_way links [] v u w h k = record { between = u ∷ []; way = (h, k) }
joined_way links (t ∷ us) v u w (first, more) k =
    let rest = joined_way links us t u w more k in record { between = t ∷ rest.between; way = (first, rest.way) }

pub one_way : (links : Links) (v w : ℕ) → LeadsTo links v w → Reaches links v w
one_way links v w h = record { between = []; way = h }

pub and_one : (links : Links) (v u w : ℕ) → Reaches links v u → LeadsTo links u w → Reaches links v w
and_one links v u w h k = joined_way links h.between v u w h.way k

through : (links : Links) (v u : ℕ) (ws : List ℕ) (w : ℕ) → Reaches links v u → IsWay links u ws w → Reaches links v w
through links v u [] w h k = and_one links v u w h k
through links v u (t ∷ ws) w h (first, more) = through links v t ws w (and_one links v u t h first) more

pub by_way : (links : Links) (v u w : ℕ) → Reaches links v u → Reaches links u w → Reaches links v w
by_way links v u w h k = through links v u k.between w h k.way

pub comes_reaches : (links : Links) (v u w : ℕ) → Comes links v u → Reaches links u w → Reaches links v w
comes_reaches links v u w (inl same) k = subst (λ x. Reaches links x w) (sym same) k
comes_reaches links v u w (inr h) k = by_way links v u w h k

pub reaches_comes : (links : Links) (v u w : ℕ) → Reaches links v u → Comes links u w → Reaches links v w
reaches_comes links v u w h (inl same) = subst (Reaches links v) same h
reaches_comes links v u w h (inr k) = by_way links v u w h k

-- a way from what has a property that each target of such a number has ends at one that has it
pub stays : (links : Links) (Done : ℕ → Type 0) → ((v w : ℕ) → Done v → LeadsTo links v w → Done w) → (us : List ℕ) (v w : ℕ) → Done v
    → IsWay links v us w → Done w
stays links Done closed [] v w d h = closed v w d h
stays links Done closed (u ∷ us) v w d (first, more) = stays links Done closed us u w (closed v u d first) more
