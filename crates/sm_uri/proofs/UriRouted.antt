-- Routes by the texts of their patterns.
use Rattle.std.proofs.Common.{◌≡◌, true, List, [], ◌∷◌, ◌++◌, map, refl}
use Rattle.std.specs.List.{list_all}
use Rattle.sm_ids.proofs.Cutting.{both, and_also}
use Rattle.sm_uri.specs.UriPattern.{UriSaid, is_segment, path_text, query_text, printed_uri}
use Rattle.sm_uri.specs.UriRoutes.{one_named, unnamed, IsSameRoute, RoutesByTexts}
use Rattle.sm_uri.proofs.UriOnce.{same_path, same_query}
use Rattle.sm_uri.specs.declared.pattern.Segment.{Segment}
use Rattle.sm_uri.specs.declared.pattern.Segment.TheVariants.{Literal, Label, Greedy}

named_is : (s : Segment) → is_segment s ≡ true → is_segment (one_named s) ≡ true
named_is (Literal t) h = h
named_is (Label n) h = refl
named_is (Greedy n) h = refl

all_named : (ss : List Segment) → list_all is_segment ss ≡ true → list_all is_segment (map one_named ss) ≡ true
all_named [] h = refl
all_named (s ∷ ss) h =
    let k = both (is_segment s) (list_all is_segment ss) h in
    and_also (is_segment (one_named s)) (list_all is_segment (map one_named ss)) (named_is s k.0) (all_named ss k.1)

same_texts : (u v : UriSaid) → IsSameRoute u v → printed_uri (unnamed u) ≡ printed_uri (unnamed v)
same_texts u v r = λ i. path_text (r.segments i) ++ query_text (r.literals i)

pub routes_by_texts : RoutesByTexts
routes_by_texts u v h k = (
  λ e.
      let p = same_path (map one_named u.segments) (map one_named v.segments) u.literals v.literals (all_named u.segments h.segments)
      (all_named v.segments k.segments) e in
      record { segments = p.0; literals = same_query u.literals v.literals h.literals k.literals p.1 },
  same_texts u v,
)
