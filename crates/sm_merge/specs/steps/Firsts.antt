-- Members of several shapes, one after the other: each name once, with the target that stands with it first.
use Rattle.std.specs.Prelude.{ℕ, Bool, not, List, [], ◌∷◌, map}
use Rattle.std.specs.List.{filter, list_any}
use Rattle.std.specs.Str.{bytes_eq}
use Rattle.sm_merge.specs.Meaning.{Defined}
use Rattle.sm_merge.specs.declared.firsts.NamedTarget.{NamedTarget}

-- names with targets
abbrev pub NamesAndTargets : Type 0
NamesAndTargets = List (List ℕ × List ℕ)

abbrev pub firsts : NamesAndTargets → NamesAndTargets
firsts [] = []
firsts (p ∷ ps) = p ∷ filter (λ q. not (bytes_eq p.0 q.0)) (firsts ps)

-- those whose names aren't among the ones that were seen
abbrev pub unseen : Defined → NamesAndTargets → NamesAndTargets
unseen seen ps = filter (λ p. not (seen p.0)) ps

abbrev pub is_name_of : List ℕ → NamesAndTargets → Bool
is_name_of name ps = list_any (λ p. bytes_eq p.0 name) ps

-- in the code
abbrev pub target_view : NamedTarget → List ℕ × List ℕ
target_view t = (t.name.now, t.target.now)

abbrev pub targets_view : List NamedTarget → NamesAndTargets
targets_view ts = map target_view ts
