-- A table of a set is one of every set that has the same shapes with values, and the same shapes and members that carry patterns.
use Rattle.std.proofs.Common.{ℕ, List, [], ◌∷◌}
use Rattle.std.specs.Prelude.{◌↔◌}
use Rattle.sm_model.specs.Graphs.{GraphMaps}
use Rattle.sm_shapes.specs.TableData.{TableData}
use Rattle.sm_compile.specs.Answers.{IsPatternOfSetRefused, StoreSeen}
use Rattle.sm_compile.specs.Compiled.{ArePatternsOf, CarriesPattern, EachSays, IdSet, IsCarrier, IsCompiled, IsFirstCarrier, IsTabled}
use Rattle.sm_compile.specs.Compiled.{IsTabledMember, Numbering}
use Rattle.sm_compile.specs.Sound.{IsValueShape}

module _ (g : GraphMaps) (A B : IdSet) (values : (id : List ℕ) → IsValueShape g id → A id ↔ B id)
    (carriers : (u id : List ℕ) → CarriesPattern g id u → A id ↔ B id) where
  tabled : (id : List ℕ) → IsTabled g A id ↔ IsTabled g B id
  tabled id = (λ h. ((values id h.1).0 h.0, h.1), λ h. ((values id h.1).1 h.0, h.1))

  member : (id : List ℕ) → IsTabledMember g A id ↔ IsTabledMember g B id
  member id = (
    λ h. (h.0, h.1, (tabled h.0).0 h.2, h.3, h.4),
    λ h. (h.0, h.1, (tabled h.0).1 h.2, h.3, h.4),
  )

  carrier : (u id : List ℕ) → IsCarrier g A u id ↔ IsCarrier g B u id
  carrier u id = (λ h. ((carriers u id h.1).0 h.0, h.1), λ h. ((carriers u id h.1).1 h.0, h.1))

  first : (u id : List ℕ) → IsFirstCarrier g A u id → IsFirstCarrier g B u id
  first u id h = record {
    carries = (carrier u id).0 h.carries;
    least = λ other there. h.least other ((carrier u other).1 there);
  }

  each_first : (us ids : List (List ℕ)) → EachSays (λ u id. IsFirstCarrier g A u id) us ids
      → EachSays (λ u id. IsFirstCarrier g B u id) us ids
  each_first [] [] h = tt
  each_first [] (id ∷ ids) h = absurd h
  each_first (u ∷ us) [] h = absurd h
  each_first (u ∷ us) (id ∷ ids) h = (first u id h.0, each_first us ids h.1)

  pub patterns_along : (us : List (List ℕ)) → ArePatternsOf g A us → ArePatternsOf g B us
  patterns_along us h = record {
    firsts = h.firsts;
    each = each_first us h.firsts h.each;
    rise = h.rise;
    all = λ u id there. h.all u id ((carrier u id).1 there);
  }

  pub compiled_along : (t : TableData) (n : Numbering) → IsCompiled g A t n → IsCompiled g B t n
  compiled_along t n h = record {
    shapes = λ id. (λ there. (tabled id).0 ((h.shapes id).0 there), λ there. (h.shapes id).1 ((tabled id).1 there));
    members = λ id. (λ there. (member id).0 ((h.members id).0 there), λ there. (h.members id).1 ((member id).1 there));
    shapes_rise = h.shapes_rise;
    members_follow = h.members_follow;
    shapes_once = h.shapes_once;
    members_once = h.members_once;
    says_shapes = h.says_shapes;
    says_members = h.says_members;
    patterns = patterns_along _ h.patterns;
  }

  pub refused_along : (before now : StoreSeen) (id : List ℕ) → IsPatternOfSetRefused g A before now id
      → IsPatternOfSetRefused g B before now id
  refused_along before now id h = record {
    text = h.text;
    earlier = h.earlier;
    later = h.later;
    patterns = patterns_along _ h.patterns;
    added = h.added;
    refused = h.refused;
    refusals = h.refusals;
    carrier = first h.text id h.carrier;
  }
