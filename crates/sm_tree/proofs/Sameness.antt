-- That Same is reflexive, symmetric and transitive, and that a name stands for one value.
use Rattle.std.proofs.Common.{◌≡◌, inl, inr, ℕ, List, refl, subst, sym, ◌∙◌}
use Rattle.sm_tree.specs.Node.{Node, Nodes, Members, null, bool, int, number, text, bytes, tag, opaque, list, object, no_nodes, node}
use Rattle.sm_tree.specs.Node.{no_members, member}
use Rattle.sm_tree.specs.Same.{HasPair, HasName, AreDistinct, Same, SameEntries, AllIn, HasSamePair, OneValueAName}

-- more pairs on the left
all_in-more : (k : List ℕ) (n : Node) (ps qs : Members) → AllIn ps qs → AllIn ps (member k n qs)
all_in-more k n no_members qs h = tt
all_in-more k n (member l m ps) qs h = ((h.0.0, inr h.0.1, h.0.2), all_in-more k n ps qs h.1)

mutual
  pub reflexive : (n : Node) → Same n n
  reflexive null = refl
  reflexive (bool b) = refl
  reflexive (int z) = refl
  reflexive (number t) = refl
  reflexive (text t) = refl
  reflexive (bytes t) = refl
  reflexive (tag k n) = (n, refl, reflexive n)
  reflexive (opaque b) = refl
  reflexive (list ns) = (ns, refl, entries-refl ns)
  reflexive (object ps) = (ps, refl, all_in-refl ps, is_in-refl ps)

  entries-refl : (ns : Nodes) → SameEntries ns ns
  entries-refl no_nodes = refl
  entries-refl (node n ns) = (n, ns, refl, reflexive n, entries-refl ns)

  all_in-refl : (ps : Members) → AllIn ps ps
  all_in-refl no_members = tt
  all_in-refl (member k n ps) = ((n, inl (refl, refl), reflexive n), all_in-more k n ps ps (all_in-refl ps))

  is_in-refl : (ps : Members) → (k : List ℕ) (q : Node) → HasPair k q ps → HasSamePair ps k q
  is_in-refl no_members k q h = h
  is_in-refl (member l n ps) k q (inl here) = inl (sym here.0, subst (Same n) (sym here.1) (reflexive n))
  is_in-refl (member l n ps) k q (inr later) = inr (is_in-refl ps k q later)

-- pairs that are each one of an object's, whatever the object
all_in-from : (ps qs : Members) → ((k : List ℕ) (q : Node) → HasPair k q qs → (n : Node) × HasPair k n ps × Same q n) → AllIn qs ps
all_in-from ps no_members h = tt
all_in-from ps (member k q qs) h = (h k q (inl (refl, refl)), all_in-from ps qs (λ l m has. h l m (inr has)))

-- a pair of the object with a same value
is_in-from : (qs : Members) (k : List ℕ) (q n : Node) → HasPair k q qs → Same q n → HasSamePair qs k n
is_in-from no_members k q n h same = h
is_in-from (member l m qs) k q n (inl here) same = inl (sym here.0, subst (λ x. Same x n) here.1 same)
is_in-from (member l m qs) k q n (inr later) same = inr (is_in-from qs k q n later same)

mutual
  pub symmetric : (n m : Node) → Same n m → Same m n
  symmetric null m h = subst (λ x. Same x null) (sym h) refl
  symmetric (bool b) m h = subst (λ x. Same x (bool b)) (sym h) refl
  symmetric (int z) m h = subst (λ x. Same x (int z)) (sym h) refl
  symmetric (number t) m h = subst (λ x. Same x (number t)) (sym h) refl
  symmetric (text t) m h = subst (λ x. Same x (text t)) (sym h) refl
  symmetric (bytes t) m h = subst (λ x. Same x (bytes t)) (sym h) refl
  symmetric (tag k n) m h = subst (λ x. Same x (tag k n)) (sym h.1) (n, refl, symmetric n h.0 h.2)
  symmetric (opaque b) m h = subst (λ x. Same x (opaque b)) (sym h) refl
  symmetric (list ns) m h = subst (λ x. Same x (list ns)) (sym h.1) (ns, refl, entries-sym ns h.0 h.2)
  symmetric (object ps) m h =
      let back : Same (object h.0) (object ps) =
      (ps, refl, all_in-from ps h.0 (λ k q has. partner-sym ps k q (h.3 k q has)), λ k n has. is_in-sym ps h.0 h.2 k n has) in
      subst (λ x. Same x (object ps)) (sym h.1) back

  entries-sym : (ns ms : Nodes) → SameEntries ns ms → SameEntries ms ns
  entries-sym no_nodes ms h = subst (λ x. SameEntries x no_nodes) (sym h) refl
  entries-sym (node n ns) ms h =
      subst (λ x. SameEntries x (node n ns)) (sym h.2) (n, ns, refl, symmetric n h.0 h.3, entries-sym ns h.1 h.4)

  partner-sym : (ps : Members) (k : List ℕ) (q : Node) → HasSamePair ps k q → (n : Node) × HasPair k n ps × Same q n
  partner-sym no_members k q h = absurd h
  partner-sym (member l n ps) k q (inl here) = (n, inl (sym here.0, refl), symmetric n q here.1)
  partner-sym (member l n ps) k q (inr later) = let found = partner-sym ps k q later in (found.0, inr found.1, found.2)

  is_in-sym : (ps qs : Members) → AllIn ps qs → (k : List ℕ) (n : Node) → HasPair k n ps → HasSamePair qs k n
  is_in-sym no_members qs h k n has = absurd has
  is_in-sym (member l m ps) qs h k n (inl here) =
      subst (λ x. HasSamePair qs x n) (sym here.0) (is_in-from qs l h.0.0 n h.0.1
      (subst (λ x. Same h.0.0 x) (sym here.1) (symmetric m h.0.0 h.0.2)))
  is_in-sym (member l m ps) qs h k n (inr later) = is_in-sym ps qs h.1 k n later

-- the partner of a pair in another object
partner : (qs rs : Members) → AllIn qs rs → (k : List ℕ) (q : Node) → HasPair k q qs → (r : Node) × HasPair k r rs × Same q r
partner no_members rs all k q h = absurd h
partner (member l m qs) rs all k q (inl here) =
    (all.0.0, subst (λ x. HasPair x all.0.0 rs) (sym here.0) all.0.1, subst (λ x. Same x all.0.0) (sym here.1) all.0.2)
partner (member l m qs) rs all k q (inr later) = partner qs rs all.1 k q later

-- the pair of an object whose value is the same as this one
same_pair : (qs : Members) (l : List ℕ) (r : Node) → HasSamePair qs l r → (q : Node) × HasPair l q qs × Same q r
same_pair no_members l r h = absurd h
same_pair (member k n qs) l r (inl here) = (n, inl (sym here.0, refl), here.1)
same_pair (member k n qs) l r (inr later) = let found = same_pair qs l r later in (found.0, inr found.1, found.2)

mutual
  pub transitive : (n m k : Node) → Same n m → Same m k → Same n k
  transitive null m k h i = subst (λ x. Same x k) h i
  transitive (bool b) m k h i = subst (λ x. Same x k) h i
  transitive (int z) m k h i = subst (λ x. Same x k) h i
  transitive (number t) m k h i = subst (λ x. Same x k) h i
  transitive (text t) m k h i = subst (λ x. Same x k) h i
  transitive (bytes t) m k h i = subst (λ x. Same x k) h i
  transitive (tag a n) m k h i =
      let j : Same (tag a h.0) k = subst (λ x. Same x k) h.1 i in
      (j.0, j.1, transitive n h.0 j.0 h.2 j.2)
  transitive (opaque b) m k h i = subst (λ x. Same x k) h i
  transitive (list ns) m k h i =
      let j : Same (list h.0) k = subst (λ x. Same x k) h.1 i in
      (j.0, j.1, entries-trans ns h.0 j.0 h.2 j.2)
  transitive (object ps) m k h i =
      let j : Same (object h.0) k = subst (λ x. Same x k) h.1 i in (
        j.0,
        j.1,
        all_in-trans ps h.0 j.0 h.2 j.2,
        λ l r has. let found = same_pair h.0 l r (j.3 l r has) in pair-trans ps l found.0 r (h.3 l found.0 found.1) found.2,
      )

  entries-trans : (ns ms ks : Nodes) → SameEntries ns ms → SameEntries ms ks → SameEntries ns ks
  entries-trans no_nodes ms ks h i = subst (λ x. SameEntries x ks) h i
  entries-trans (node n ns) ms ks h i =
      let j : SameEntries (node h.0 h.1) ks = subst (λ x. SameEntries x ks) h.2 i in
      (j.0, j.1, j.2, transitive n h.0 j.0 h.3 j.3, entries-trans ns h.1 j.1 h.4 j.4)

  all_in-trans : (ps qs rs : Members) → AllIn ps qs → AllIn qs rs → AllIn ps rs
  all_in-trans no_members qs rs h i = tt
  all_in-trans (member k n ps) qs rs h i =
      let found = partner qs rs i k h.0.0 h.0.1 in
      ((found.0, found.1, transitive n h.0.0 found.0 h.0.2 found.2), all_in-trans ps qs rs h.1 i)

  pair-trans : (ps : Members) (l : List ℕ) (q r : Node) → HasSamePair ps l q → Same q r → HasSamePair ps l r
  pair-trans no_members l q r h same = h
  pair-trans (member k n ps) l q r (inl here) same = inl (here.0, transitive n q r here.1 same)
  pair-trans (member k n ps) l q r (inr later) same = inr (pair-trans ps l q r later same)

has_name : (k : List ℕ) (n : Node) (ms : Members) → HasPair k n ms → HasName k ms
has_name k n no_members h = h
has_name k n (member l m ms) (inl here) = inl here.0
has_name k n (member l m ms) (inr later) = inr (has_name k n ms later)

one_value : (ms : Members) → AreDistinct ms → (k : List ℕ) (n m : Node) → HasPair k n ms → HasPair k m ms → n ≡ m
one_value no_members distinct k n m h i = absurd h
one_value (member l v ms) distinct k n m (inl h) (inl i) = h.1 ∙ sym i.1
one_value (member l v ms) distinct k n m (inl h) (inr i) = absurd (distinct.0 (has_name l m ms (subst (λ x. HasPair x m ms) h.0 i)))
one_value (member l v ms) distinct k n m (inr h) (inl i) = absurd (distinct.0 (has_name l n ms (subst (λ x. HasPair x n ms) i.0 h)))
one_value (member l v ms) distinct k n m (inr h) (inr i) = one_value ms distinct.2 k n m h i

pub one_value_each : OneValueAName
one_value_each ms is_node k n m h i = one_value ms is_node.1 k n m h i
