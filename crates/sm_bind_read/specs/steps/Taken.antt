-- Names of fields and keys of queries, member by member, and which of them a set holds.
use Rattle.std.specs.Prelude.{ℕ, Bool, List, map}
use Rattle.std.specs.BTreeSet as sorted
use Rattle.std.specs.BTreeSet.{BTreeSet}
use Rattle.std.specs.Cmp.Lexicographic.{slice_cmp}
use Rattle.std.specs.List.{filter_map}
use Rattle.std.specs.Ordering.{nat_cmp}
use Rattle.std.specs.Str.{str_to_ascii_lowercase}
use denote.Ref.{Bor}
use Rattle.sm_messages.specs.service.WireMembers.{header_of, query_of}
use Rattle.sm_bind.specs.Roles.{Bound, binding_on}

-- the names of headers of these members, in lower case, and their keys of queries
abbrev pub headers_of : Bound → List ℕ → List (List ℕ)
headers_of b ks = map str_to_ascii_lowercase (filter_map (λ k. header_of (binding_on b k)) ks)

abbrev pub queries_of : Bound → List ℕ → List (List ℕ)
queries_of b ks = filter_map (λ k. query_of (binding_on b k)) ks

-- the set has the text
abbrev pub has_text : BTreeSet (Bor (List ℕ)) → List ℕ → Bool
has_text set text = sorted.contains_by (λ k. slice_cmp nat_cmp text k.now) set
