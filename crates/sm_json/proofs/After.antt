-- What a byte does behind a value, by what is open: the laws of `JsonLeads` and `JsonStops` there.
use Rattle.std.proofs.Common.{◌≡◌, ◌≢◌, ℕ, ◌≤◌, inl, inr, true, false, max, List, [], ◌∷◌, refl, subst, arith, lit<, length}
use Rattle.sm_tree.specs.Node.{no_nodes, node, no_members, member}
use Rattle.sm_tree.specs.Levels.{levels, nodes_levels, members_levels}
use Rattle.sm_tree.specs.Events.{end_list, end_object}
use Rattle.sm_tree.specs.Timing.{TimedEvent, by_byte}
use Rattle.sm_tree.specs.declared.build.OpenKind.{OpenKind}
use Rattle.sm_tree.specs.declared.build.OpenKind.TheVariants.{List as a_list, Object as an_object}
use Rattle.sm_json.specs.Strings.{is_whitespace, Whitespace}
use Rattle.sm_json.specs.steps.Rest.{value, next_key, after, JsonEnds, ValueComes, NameComes, JsonLeads, JsonStops}
use Rattle.sm_json.proofs.Starts.{below, above, skips_none}
use Rattle.sm_json.proofs.Opening.{at}
use Rattle.sm_json.proofs.Between.{here_is, here_rest, ended}
use Rattle.sm_json.proofs.Whole.{silent_leads, spoken_leads}

-- in a list: a comma, or the end
comma_onward : (limit : ℕ) (ks : List OpenKind) (s : List ℕ) (ts : List TimedEvent) → JsonEnds limit (a_list ∷ ks) (44 ∷ s) ts
    → ValueComes limit (a_list ∷ ks) s ts
comma_onward limit ks s ts (no_nodes, r, us, (k, timed), room, en) = absurd (below 44 93 (lit< tt) (here_is 44 93 s r refl k))
comma_onward limit ks s ts (node n ns, r, us, (s1, s2, vs, (x, k, k1), v, m), room, en) =
    let below : levels n ≤ max (levels n) (nodes_levels ns) = omega arith in
    let rest : nodes_levels ns ≤ max (levels n) (nodes_levels ns) = omega arith in (
      s1,
      subst (λ y. Whitespace y s1) (here_rest 44 44 s x refl k) k1,
      (n, s2, vs, v, omega arith, (ns, r, us, m, omega arith, en)),
    )

comma_back : (limit : ℕ) (ks : List OpenKind) (s : List ℕ) (ts : List TimedEvent) → ValueComes limit (a_list ∷ ks) s ts
    → JsonEnds limit (a_list ∷ ks) (44 ∷ s) ts
comma_back limit ks s ts (s1, k, (n, s2, vs, v, room, (ns, r, us, m, room1, en))) =
    (node n ns, r, us, (s1, s2, vs, (s, skips_none (44 ∷ s), k), v, m), omega arith, en)

pub list_goes_on : (limit : ℕ) (ks : List OpenKind) → JsonLeads limit (at after (a_list ∷ ks)) (44 ∷ []) [] (at value (a_list ∷ ks))
list_goes_on limit ks =
    silent_leads limit (at after (a_list ∷ ks)) (44 ∷ []) (at value (a_list ∷ ks))
    (λ s ts h. comma_onward limit ks s ts h)
    (λ s ts h. comma_back limit ks s ts h)

list_closed : (limit : ℕ) (ks : List OpenKind) (s : List ℕ) (ts : List TimedEvent) → JsonEnds limit (a_list ∷ ks) (93 ∷ s) ts
    → (us : List TimedEvent) × (ts ≡ by_byte end_list (length s) ∷ us) × JsonEnds limit ks s us
list_closed limit ks s ts (no_nodes, r, us, (k, timed), room, en) = ended limit ks s ts r us end_list (here_rest 93 93 s r refl k) timed en
list_closed limit ks s ts (node n ns, r, us, (s1, s2, vs, (x, k, k1), v, m), room, en) =
    absurd (above 93 44 (lit< tt) (here_is 93 44 s x refl k))

pub list_ends : (limit : ℕ) (ks : List OpenKind) → length (a_list ∷ ks) ≤ limit
    → JsonLeads limit (at after (a_list ∷ ks)) (93 ∷ []) (end_list ∷ []) (at after ks)
list_ends limit ks room =
    spoken_leads limit (at after (a_list ∷ ks)) (93 ∷ []) end_list (at after ks)
    (λ s ts h. list_closed limit ks s ts h)
    (λ s us h. (no_nodes, s, us, (skips_none (93 ∷ s), refl), omega arith, h))

pub list_stops : (limit : ℕ) (c : ℕ) (ks : List OpenKind) → is_whitespace c ≡ false → c ≢ 44 → c ≢ 93
    → JsonStops limit (at after (a_list ∷ ks)) c
list_stops limit c ks w f g s ts (no_nodes, r, us, (k, timed), room, en) = g (here_is c 93 s r w k)
list_stops limit c ks w f g s ts (node n ns, r, us, (s1, s2, vs, (x, k, k1), v, m), room, en) = f (here_is c 44 s x w k)

-- in an object: a comma, or the end
pair_onward : (limit : ℕ) (ks : List OpenKind) (s : List ℕ) (ts : List TimedEvent) → JsonEnds limit (an_object ∷ ks) (44 ∷ s) ts
    → NameComes limit (an_object ∷ ks) s ts
pair_onward limit ks s ts (no_members, r, us, (k, timed), room, en) = absurd (below 44 125 (lit< tt) (here_is 44 125 s r refl k))
pair_onward limit ks s ts (member name n ms, r, us, (s1, s2, s3, s4, vs, ws, (x, k, k0), sp, timed, (y, k1, k2), v, m), room, en) =
    let below : levels n ≤ max (levels n) (members_levels ms) = omega arith in
    let rest : members_levels ms ≤ max (levels n) (members_levels ms) = omega arith in (
      s1,
      subst (λ z. Whitespace z s1) (here_rest 44 44 s x refl k) k0,
      (name, s2, vs, sp, (y, k1, (s3, k2, (n, s4, ws, v, omega arith, (ms, r, us, m, omega arith, en)))), timed),
    )

pair_back : (limit : ℕ) (ks : List OpenKind) (s : List ℕ) (ts : List TimedEvent) → NameComes limit (an_object ∷ ks) s ts
    → JsonEnds limit (an_object ∷ ks) (44 ∷ s) ts
pair_back limit ks s ts (s1, k, (name, s2, vs, sp, (x, k1, (s3, k2, (n, s4, ws, v, room, (ms, r, us, m, room1, en)))), timed)) =
    (member name n ms, r, us, (s1, s2, s3, s4, vs, ws, (s, skips_none (44 ∷ s), k), sp, timed, (x, k1, k2), v, m), omega arith, en)

pub object_goes_on : (limit : ℕ) (ks : List OpenKind)
    → JsonLeads limit (at after (an_object ∷ ks)) (44 ∷ []) [] (at next_key (an_object ∷ ks))
object_goes_on limit ks =
    silent_leads limit (at after (an_object ∷ ks)) (44 ∷ []) (at next_key (an_object ∷ ks))
    (λ s ts h. pair_onward limit ks s ts h)
    (λ s ts h. pair_back limit ks s ts h)

object_closed : (limit : ℕ) (ks : List OpenKind) (s : List ℕ) (ts : List TimedEvent) → JsonEnds limit (an_object ∷ ks) (125 ∷ s) ts
    → (us : List TimedEvent) × (ts ≡ by_byte end_object (length s) ∷ us) × JsonEnds limit ks s us
object_closed limit ks s ts (no_members, r, us, (k, timed), room, en) =
    ended limit ks s ts r us end_object (here_rest 125 125 s r refl k) timed en
object_closed limit ks s ts (member name n ms, r, us, (s1, s2, s3, s4, vs, ws, (x, k, k0), sp, timed, sep, v, m), room, en) =
    absurd (above 125 44 (lit< tt) (here_is 125 44 s x refl k))

pub object_ends : (limit : ℕ) (ks : List OpenKind) → length (an_object ∷ ks) ≤ limit
    → JsonLeads limit (at after (an_object ∷ ks)) (125 ∷ []) (end_object ∷ []) (at after ks)
object_ends limit ks room =
    spoken_leads limit (at after (an_object ∷ ks)) (125 ∷ []) end_object (at after ks)
    (λ s ts h. object_closed limit ks s ts h)
    (λ s us h. (no_members, s, us, (skips_none (125 ∷ s), refl), omega arith, h))

pub object_stops : (limit : ℕ) (c : ℕ) (ks : List OpenKind) → is_whitespace c ≡ false → c ≢ 44 → c ≢ 125
    → JsonStops limit (at after (an_object ∷ ks)) c
object_stops limit c ks w f g s ts (no_members, r, us, (k, timed), room, en) = g (here_is c 125 s r w k)
object_stops limit c ks w f g s ts (member name n ms, r, us, (s1, s2, s3, s4, vs, ws, (x, k, k0), sp, timed, sep, v, m), room, en) =
    f (here_is c 44 s x w k)

-- behind the text's one value: whitespace alone
pub end_stops : (limit : ℕ) (c : ℕ) → is_whitespace c ≡ false → JsonStops limit (at after []) c
end_stops limit c w s ts (inl e, e1) = let e2 : [] ≡ c ∷ s = e in cc
end_stops limit c w s ts (inr h, e1) = let e2 : is_whitespace c ≡ true = h.0 in cc
