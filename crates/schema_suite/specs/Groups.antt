-- Groups of cases: a schema, and trees that it must accept or must refuse, as the official test suite of JSON Schema has them.
use Rattle.std.specs.Prelude.{◌≡◌, ℕ, ◌==◌, Bool, true, false, cond, not, List, [], ◌∷◌, codes}
use Rattle.std.specs.List.{list_all}
use Rattle.std.specs.Str.{bytes_eq}
use Rattle.sm_tree.specs.Node.{Node}
use Rattle.sm_shapes.specs.Fitting.{Test}
use Rattle.sm_schema.specs.Valid.{is_valid}

pub record Case : Type 0 where
  pub tree : Node
  pub is_accepted : Bool

abbrev pub valid : Node → Case
valid n = record { tree = n; is_accepted = true }

abbrev pub invalid : Node → Case
invalid n = record { tree = n; is_accepted = false }

pub record Group : Type 0 where
  pub schema : Node
  pub cases : List Case

abbrev pub group : Node → List Case → Group
group schema cases = record { schema = schema; cases = cases }

-- the two patterns of the suite: `^a*$`, whose texts have no other letter than `a`, and `a+`, whose texts have that one
abbrev pub is_a : ℕ → Bool
is_a b = b == 97

abbrev pub has_a : List ℕ → Bool
has_a [] = false
has_a (b ∷ bs) = cond (is_a b) true (has_a bs)

abbrev pub suite_test : Test
suite_test pattern u = cond (bytes_eq pattern (codes "a+")) (has_a u) (list_all is_a u)

-- the definition of validity says of each tree what the suite says
abbrev pub is_met : Group → Bool
is_met g = list_all (λ c. cond c.is_accepted (is_valid suite_test g.schema c.tree) (not (is_valid suite_test g.schema c.tree))) g.cases

abbrev pub AreMet : List Group → Type 0
AreMet gs = list_all is_met gs ≡ true
