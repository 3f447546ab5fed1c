-- Nodes that are the same count the same: an object's pairs are taken out of the other's, one by one.
use Rattle.std.proofs.Common.{◌≡◌, inl, inr, ℕ, ◌+◌, List, length, refl, subst, sym, ap, ◌∙◌, arith}
use Rattle.sm_tree.specs.Node.{Node, Nodes, Members, null, bool, int, number, text, bytes, tag, opaque, list, object, no_nodes, node}
use Rattle.sm_tree.specs.Node.{no_members, member}
use Rattle.sm_tree.specs.Same.{HasPair, HasName, HasDistinctNames, HaveDistinctNames, AreDistinct, Same, SameEntries, AllIn, HasSamePair}
use Rattle.sm_tree.specs.Size.{node_size, nodes_size, members_size}

-- the pairs but for this one
abbrev without : (k : List ℕ) (q : Node) (qs : Members) → HasPair k q qs → Members
without k q no_members h = no_members
without k q (member l m qs) (inl here) = qs
without k q (member l m qs) (inr later) = member l m (without k q qs later)

taken : (k : List ℕ) (q : Node) (qs : Members) (h : HasPair k q qs)
    → members_size qs ≡ length k + node_size q + members_size (without k q qs h)
taken k q no_members h = absurd h
taken k q (member l m qs) (inl (name, value)) = λ i. length (sym name i) + node_size (sym value i) + members_size qs
taken k q (member l m qs) (inr later) = let rest = taken k q qs later in omega (arith, rest)

named : (k : List ℕ) (q : Node) (qs : Members) → HasPair k q qs → HasName k qs
named k q no_members h = h
named k q (member l m qs) (inl (name, value)) = inl name
named k q (member l m qs) (inr later) = inr (named k q qs later)

was_named : (j k : List ℕ) (q : Node) (qs : Members) (h : HasPair k q qs) → HasName j (without k q qs h) → HasName j qs
was_named j k q no_members h has = has
was_named j k q (member l m qs) (inl here) has = inr has
was_named j k q (member l m qs) (inr later) (inl first) = inl first
was_named j k q (member l m qs) (inr later) (inr has) = inr (was_named j k q qs later has)

was_pair : (j : List ℕ) (x : Node) (k : List ℕ) (q : Node) (qs : Members) (h : HasPair k q qs) → HasPair j x (without k q qs h)
    → HasPair j x qs
was_pair j x k q no_members h has = has
was_pair j x k q (member l m qs) (inl here) has = inr has
was_pair j x k q (member l m qs) (inr later) (inl first) = inl first
was_pair j x k q (member l m qs) (inr later) (inr has) = inr (was_pair j x k q qs later has)

still_pair : (j : List ℕ) (x : Node) (k : List ℕ) (q : Node) (qs : Members) (h : HasPair k q qs) → (j ≡ k → ⊥) → HasPair j x qs
    → HasPair j x (without k q qs h)
still_pair j x k q no_members h other has = has
still_pair j x k q (member l m qs) (inl (name, value)) other (inl (same, is)) = absurd (other (same ∙ sym name))
still_pair j x k q (member l m qs) (inl here) other (inr has) = has
still_pair j x k q (member l m qs) (inr later) other (inl first) = inl first
still_pair j x k q (member l m qs) (inr later) other (inr has) = inr (still_pair j x k q qs later other has)

distinct_still : (k : List ℕ) (q : Node) (qs : Members) (h : HasPair k q qs) → AreDistinct qs → AreDistinct (without k q qs h)
distinct_still k q no_members h d = d
distinct_still k q (member l m qs) (inl here) d = d.2
distinct_still k q (member l m qs) (inr later) d = (λ has. d.0 (was_named l k q qs later has), d.1, distinct_still k q qs later d.2)

name_gone : (k : List ℕ) (q : Node) (qs : Members) (h : HasPair k q qs) → AreDistinct qs → HasName k (without k q qs h) → ⊥
name_gone k q no_members h d has = has
name_gone k q (member l m qs) (inl (name, value)) d has = d.0 (subst (λ j. HasName j qs) name has)
name_gone k q (member l m qs) (inr later) d (inl first) = d.0 (subst (λ j. HasName j qs) first (named k q qs later))
name_gone k q (member l m qs) (inr later) d (inr has) = name_gone k q qs later d.2 has

distinct_value : (k : List ℕ) (q : Node) (qs : Members) → HasPair k q qs → AreDistinct qs → HasDistinctNames q
distinct_value k q no_members h d = absurd h
distinct_value k q (member l m qs) (inl (name, value)) d = subst HasDistinctNames (sym value) d.1
distinct_value k q (member l m qs) (inr later) d = distinct_value k q qs later d.2

all_still : (k : List ℕ) (q : Node) (ps qs : Members) (h : HasPair k q qs) → (HasName k ps → ⊥) → AllIn ps qs → AllIn ps (without k q qs h)
all_still k q no_members qs h gone all = tt
all_still k q (member j n ps) qs h gone all = (
  (all.0.0, still_pair j all.0.0 k q qs h (λ e. gone (inl (sym e))) all.0.1, all.0.2),
  all_still k q ps qs h (λ has. gone (inr has)) all.1,
)

-- of the pairs that are left each is one of the others
left_same : (k j : List ℕ) (n q x : Node) (ps qs : Members) (h : HasPair k q qs) → AreDistinct qs → HasPair j x (without k q qs h)
    → HasSamePair (member k n ps) j x → HasSamePair ps j x
left_same k j n q x ps qs h d has (inl (same, value)) =
    absurd (name_gone k q qs h d (subst (λ l. HasName l (without k q qs h)) (sym same) (named j x (without k q qs h) has)))
left_same k j n q x ps qs h d has (inr later) = later

mutual
  pub same_size : (n m : Node) → HasDistinctNames n → HasDistinctNames m → Same n m → node_size n ≡ node_size m
  same_size null m d e h = ap node_size (sym h)
  same_size (bool b) m d e h = ap node_size (sym h)
  same_size (int z) m d e h = ap node_size (sym h)
  same_size (number t) m d e h = ap node_size (sym h)
  same_size (text t) m d e h = ap node_size (sym h)
  same_size (bytes t) m d e h = ap node_size (sym h)
  same_size (opaque b) m d e h = ap node_size (sym h)
  same_size (tag k n) m d e (content, is, same) =
      ap (λ s. 1 + s) (same_size n content d (subst HasDistinctNames is e) same) ∙ ap node_size (sym is)
  same_size (list ns) m d e (entries, is, same) =
      ap (λ s. 1 + s) (same_entries ns entries d (subst HasDistinctNames is e) same) ∙ ap node_size (sym is)
  same_size (object ps) m d e (qs, is, all, back) =
      ap (λ s. 1 + s) (same_pairs ps qs d (subst HasDistinctNames is e) all back) ∙ ap node_size (sym is)

  same_entries : (ns ms : Nodes) → HaveDistinctNames ns → HaveDistinctNames ms → SameEntries ns ms → nodes_size ns ≡ nodes_size ms
  same_entries no_nodes ms d e h = ap nodes_size (sym h)
  same_entries (node n ns) ms d e (first, more, is, same, rest) =
      let differ : HaveDistinctNames (node first more) = subst HaveDistinctNames is e in
      let one = same_size n first d.0 differ.0 same in
      let others = same_entries ns more d.1 differ.1 rest in
      (λ i. one i + others i) ∙ ap nodes_size (sym is)

  same_pairs : (ps qs : Members) → AreDistinct ps → AreDistinct qs → AllIn ps qs
      → ((k : List ℕ) (q : Node) → HasPair k q qs → HasSamePair ps k q) → members_size ps ≡ members_size qs
  same_pairs no_members no_members d e all back = refl
  same_pairs no_members (member k q qs) d e all back = absurd (back k q (inl (refl, refl)))
  same_pairs (member k n ps) qs d e ((q, has, same), rest) back =
      let value = same_size n q d.1 (distinct_value k q qs has e) same in
      let others = same_pairs ps (without k q qs has) d.2 (distinct_still k q qs has e) (all_still k q ps qs has d.0 rest)
      (λ j x h. left_same k j n q x ps qs has e h (back j x (was_pair j x k q qs has h))) in
      (λ i. length k + value i + others i) ∙ sym (taken k q qs has)
