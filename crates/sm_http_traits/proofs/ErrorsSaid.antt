-- What `httpError` of a structure is seen to say is what the rules say of it.
use Rattle.std.proofs.Common.{◌≡◌, ℕ, ℤ, Bool, true, false, List, Option, Some, None, refl, sym, ap, ◌∙◌}
use Rattle.std.specs.Prelude.{◌||◌, cond, is_some}
use Rattle.std.proofs.lemmas.Option.{none-some}
use Rattle.sm_tree.specs.Node.{Node}
use Rattle.sm_model.specs.Graphs.{GraphMaps}
use Rattle.sm_compile.specs.Sound.{trait_of}
use Rattle.sm_compile.specs.TraitIds.{http_error_id}
use Rattle.sm_compile.specs.TraitNodes.{number_in, number_of}
use Rattle.sm_rules.specs.TraitRows.{that_reads}
use Rattle.sm_rules.specs.Words.{read_trait}
use Rattle.sm_http_traits.specs.Carriers.{is_own_structure}
use Rattle.sm_http_traits.specs.Errors.{status_seen}

-- a number that reads is the number that is there
pub number_read : (o : Option Node) → number_of (that_reads http_error_id o) ≡ number_of o
number_read None = refl
number_read (Some n) = by (number_in n) refl
  where
    by : (z : Option ℤ) → number_in n ≡ z → number_of (cond (is_some (number_in n) || false) (Some n) None) ≡ number_in n
    by (Some z) is = ap (λ y. number_of (cond (is_some y || false) (Some n) None)) is
    by None is = ap (λ y. number_of (cond (is_some y || false) (Some n) None)) is ∙ sym is

module _ (g : GraphMaps) (id : List ℕ) where
  -- the status of an error, where it is told
  pub status_said : (z : ℤ) → Some z ≡ status_seen g id
      → (is_own_structure g id ≡ true) × (number_of (read_trait g id http_error_id) ≡ Some z)
  status_said z is = by (is_own_structure g id) refl (sym is)
    where
      by : (b : Bool) → is_own_structure g id ≡ b → cond b (number_of (trait_of g id http_error_id)) None ≡ Some z
          → (is_own_structure g id ≡ true) × (number_of (read_trait g id http_error_id) ≡ Some z)
      by true own h = (own, number_read (trait_of g id http_error_id) ∙ h)
      by false own h = absurd (none-some z h)
