-- Each rule is in the list, and its id is no other's: the list has one line for each, and so has this lemma.
use Rattle.std.proofs.Common.{◌≡◌, ℕ, Bool, true, false, cond, List, [], ◌∷◌, Some, bytes_eq, refl, sym, ap, ◌∙◌, subst}
use Rattle.std.specs.List.{Contains, find}
use Rattle.std.proofs.lemmas.Option.{none-some, same_Some}
use Rattle.std.proofs.lemmas.Slice.Eq.{bytes_eq-Decides}
use Rattle.sm_model.proofs.OneRising.{contains_behind, contains_head}
use Rattle.sm_rules.specs.RuleList.{all_rules, rule_id, rule_named}
use Rattle.sm_rules.specs.declared.rule.Rule.{Rule}
use Rattle.sm_rules.specs.declared.rule.Rule.TheVariants as rule

pub named : (r : Rule) → rule_named (rule_id r) ≡ Some r
named rule.IdCase = refl
named rule.MemberCase = refl
named rule.TargetMissing = refl
named rule.TargetKind = refl
named rule.TraitUnknown = refl
named rule.TraitValue = refl
named rule.TraitPlace = refl
named rule.TraitConflict = refl
named rule.TraitSingle = refl
named rule.ShapeInfinite = refl
named rule.EnumValues = refl
named rule.DefaultValue = refl
named rule.ConstraintBounds = refl
named rule.ServiceNames = refl
named rule.HttpUri = refl
named rule.HttpLabels = refl
named rule.HttpTarget = refl
named rule.WireNames = refl
named rule.HttpRoutes = refl
named rule.HttpCode = refl
named rule.HttpMethod = refl
named rule.ShapeUnused = refl

-- what is found in a list is in it
pub found_there : {X : Type 0} (test : X → Bool) (xs : List X) (x : X) → find test xs ≡ Some x → Contains xs x
found_there test [] x h = absurd (none-some x h)
found_there test (y ∷ ys) x h = by (test y) (found_there test ys x) h
  where
    by : (b : Bool) → (find test ys ≡ Some x → Contains ys x) → cond b (Some y) (find test ys) ≡ Some x → Contains (y ∷ ys) x
    by true rest is = subst (Contains (y ∷ ys)) (same_Some y x is) (contains_head y ys)
    by false rest is = contains_behind y x ys (rest is)

pub each_listed : (r : Rule) → Contains all_rules r
each_listed r = found_there (λ x. bytes_eq (rule_id r) (rule_id x)) all_rules r (named r)

-- what is found in a list passes the test
pub found_passes : {X : Type 0} (test : X → Bool) (xs : List X) (x : X) → find test xs ≡ Some x → test x ≡ true
found_passes test [] x h = absurd (none-some x h)
found_passes test (y ∷ ys) x h = by (test y) refl (found_passes test ys x) h
  where
    by : (b : Bool) → test y ≡ b → (find test ys ≡ Some x → test x ≡ true) → cond b (Some y) (find test ys) ≡ Some x → test x ≡ true
    by true passes rest is = ap test (sym (same_Some y x is)) ∙ passes
    by false passes rest is = rest is

pub id_found : (event : List ℕ) (r : Rule) → rule_named event ≡ Some r → event ≡ rule_id r
id_found event r h = (bytes_eq-Decides event (rule_id r)).0 (found_passes (λ x. bytes_eq event (rule_id x)) all_rules r h)
