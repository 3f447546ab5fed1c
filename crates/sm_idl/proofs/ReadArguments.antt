-- Between a trait's parentheses: pairs, or a node. A word or a string begins both; where a colon stands behind it, or where it is
-- no node, pairs are read.
use Rattle.std.proofs.Common.{◌≡◌, inl, inr, ℕ, zero, suc, List, [], ◌∷◌, ◌++◌}
use Rattle.std.proofs.Common.{take, Option, codes, refl, sym, ap, subst, ◌∙◌, ◌<◌, length, arith}
use Rattle.sm_model.specs.Raw.{Raw}
use Rattle.sm_idl.specs.Productions.{Spaced, Tokens, Production, EachSpells, each, ◌or◌}
use Rattle.sm_idl.specs.Words.{IsKey}
use Rattle.sm_idl.specs.Nodes.{Home, Pair, LeafSays, pair_of, as_object, object_of, list_of, node}
use Rattle.sm_idl.specs.declared.reader.ReadStop.{ReadStop}
use Rattle.sm_idl.specs.declared.reader.ReadStop.TheVariants.{Syntax, NoMemory}
use Rattle.sm_idl.specs.steps.ReaderView.{NoToken, StopsIn}
use Rattle.sm_idl.specs.steps.Firm.{HeadIs, IsFirm}
use Rattle.sm_idl.specs.steps.Classes.{AMark, NoMark, NodeStart, PairGoesOn, PairAhead}
use Rattle.sm_idl.specs.steps.Reading.{IsRead, IsStuck}
use Rattle.sm_idl.proofs.TokenLists.{no_tokens, heads, tails, head_moved, head_of_whole, head_up_to, both_none}
use Rattle.sm_idl.proofs.FirmEach.{head_left, head_right, starts}
use Rattle.sm_idl.proofs.TokenClasses.{mark_no_leaf}
use Rattle.sm_idl.proofs.FirmNodes.{node_firm, object_firm, list_firm, key_no_mark}
use Rattle.sm_idl.proofs.FirmArguments.{some_pairs, some_pairs_firm, one_token_node, no_node_begun, colon_behind, colon_begun, both_ways}
use Rattle.sm_idl.proofs.FirmArguments.{pairs_and_cut_node}
use Rattle.sm_idl.proofs.Passing.{nothing, head_longer, shorter}
use Rattle.sm_idl.proofs.ReadNodes.{list_apart}

-- where a word or a string comes first, a node is what it says
leaf_first : (home : Option Home) (levels : ℕ) (n : Raw) (t : Spaced) (s r : Tokens) → NoMark t → (node home levels).whole n (t ∷ s) r
    → LeafSays home t.token n
unfolding node
leaf_first home zero n t s r plain (u, e, h) = subst (λ v. LeafSays home v.token n) (sym (heads t u s r e)) h
leaf_first home (suc levels) n t s r plain (inl (u, e, h)) = subst (λ v. LeafSays home v.token n) (sym (heads t u s r e)) h
leaf_first home (suc levels) n t s r plain (inr (inl h)) =
    absurd (mark_no_leaf (codes "{") t (starts (AMark (codes "{")) NoToken (object_of (node home levels))
    (object_firm NodeStart (node home levels) (node_firm home levels)) n (t ∷ s) r h) plain)
leaf_first home (suc levels) n t s r plain (inr (inr h)) =
    absurd (mark_no_leaf (codes "[") t (starts (AMark (codes "[")) NoToken (list_of (node home levels))
    (list_firm NodeStart (node home levels) (node_firm home levels) list_apart) n (t ∷ s) r h) plain)

leaf_whole : (home : Option Home) (levels : ℕ) (n : Raw) (t : Spaced) (s : Tokens) → LeafSays home t.token n
    → (node home levels).whole n (t ∷ s) s
unfolding node
leaf_whole home zero n t s h = (t, refl, h)
leaf_whole home (suc levels) n t s h = inl (t, refl, h)

module _ (value : Production Raw) where
  -- some pairs are any number of pairs
  as_each : (n : Raw) (s r : Tokens) → (some_pairs value).whole n s r
      → (xs : List Pair) × (n ≡ as_object xs) × EachSpells (pair_of value) [] xs s r
  as_each n s r (first, s1, h, (more, s2, k, (e, f))) = (
    first ∷ more,
    e,
    (
      s1,
      h,
      subst (λ z. EachSpells (pair_of value)
          (first ∷ []) more s1 z) f k,
    ),
  )

  as_each_begun : (s : Tokens) → (some_pairs value).begun s → (each (pair_of value)).begun s
  as_each_begun s (inl h) = ([], s, refl, inr h)
  as_each_begun s (inr (first, s1, h, inl (more, t, k, c))) = (first ∷ more, t, (s1, h, k), c)
  as_each_begun s (inr (first, s1, h, inr (more, t, k, e))) = (first ∷ more, t, (s1, h, k), inl e)

  each_begun : (s : Tokens) → (some_pairs value).begun [] → (each (pair_of value)).begun s → (some_pairs value).begun s
  each_begun s none ([], t, e, inl f) = subst (λ z. (some_pairs value).begun z) (sym (e ∙ f)) none
  each_begun s none ([], t, e, inr h) = inl (subst (λ z. (pair_of value []).begun z) (sym e) h)
  each_begun s none (first ∷ more, t, (s1, h, k), c) = inr (first, s1, h, inl (more, t, k, c))

  each_some : (xs : List Pair) (s r : Tokens) → (xs ≡ [] → ⊥) → EachSpells (pair_of value) [] xs s r
      → (some_pairs value).whole (as_object xs) s r
  each_some [] s r n h = absurd (n refl)
  each_some (first ∷ more) s r n (s1, h, k) = (first, s1, h, (more, r, k, (refl, refl)))

  key_begun : (t : Spaced) (k : List ℕ) → IsKey k t.token → (some_pairs value).begun (t ∷ [])
  key_begun t k h = inl (inr (k, [], (t, refl, (h, λ m. m)), inl refl))

  -- pairs that were read where a key stands are some
  not_none : (t : Spaced) (q r : Tokens) (k : List ℕ) → IsKey k t.token → IsRead NoMark (each (pair_of value)) [] (t ∷ q) r → ⊥
  not_none t q r k h m =
      no_tokens t [] (sym (m.over (t ∷ []) q (sym (m.spells r) ∙ sym m.cut)
      (subst (λ z. (each (pair_of value)).begun z) (sym (m.spells (t ∷ []))) (as_each_begun (t ∷ []) (key_begun t k h)))))

  some_read : (xs : List Pair) (s r : Tokens) → (xs ≡ [] → ⊥) → IsRead NoMark (each (pair_of value)) xs s r
      → IsRead NoMark (some_pairs value) (as_object xs) s r
  some_read xs s r n m = record {
    taken = m.taken;
    cut = m.cut;
    spells = λ q. each_some xs (m.taken ++ q) q n (m.spells q);
    one = λ w q e y v h. (let k = as_each y (m.taken ++ w) v h in elim (m.one w q e k.0 v k.2) [
      | inl f ↦ inl (k.1 ∙ ap as_object f.0, f.1)
      | inr g ↦ inr g
    ]);
    over = λ w q e h. m.over w q e (as_each_begun (m.taken ++ w) h);
  }

  some_stuck : (s r : Tokens) → (some_pairs value).begun [] → IsStuck NoMark (each (pair_of value)) s r
      → IsStuck NoMark (some_pairs value) s r
  some_stuck s r none k = record {
    before = k.before;
    cut = k.cut;
    begun = each_begun k.before none k.begun;
    wholes = λ x u h. let m = as_each x (k.before ++ take 1 r) u h in k.wholes m.0 u m.2;
    stops = λ t q e h. k.stops t q e (as_each_begun (k.before ++ t ∷ []) h);
  }

  -- pairs, and what begins them, begin with a key
  key_of_whole : (n : Raw) (t : Spaced) (s r : Tokens) → (some_pairs value).whole n (t ∷ s) r → (k : List ℕ) × IsKey k t.token
  key_of_whole n t s r (first, s1, (k, s2, (u, e, h), behind), more) = (k, subst (λ v. IsKey k v.token) (sym (heads t u s s2 e)) h.0)

  key_of_begun : (t : Spaced) (s : Tokens) → (some_pairs value).begun (t ∷ s) → (k : List ℕ) × IsKey k t.token
  key_of_begun t s (inl (inl e)) = absurd (no_tokens t s (sym e))
  key_of_begun t s (inl (inr (k, s2, (u, e, h), behind))) = (k, subst (λ v. IsKey k v.token) (sym (heads t u s s2 e)) h.0)
  key_of_begun t s (inr (first, s1, (k, s2, (u, e, h), behind), more)) =
      (k, subst (λ v. IsKey k v.token) (sym (heads t u s s2 e)) h.0)

module _ (home : Option Home) (levels : ℕ) where
  firm : IsFirm ⊥ NodeStart NoToken (node home levels)
  firm = node_firm home levels

  pairs_firm : IsFirm ⊥ NoMark NoMark (some_pairs (node home levels))
  pairs_firm = some_pairs_firm (node home levels) (node_firm home levels)

  not_begun : (s : Tokens) → HeadIs NoMark s → (node home levels).begun s → ⊥
  not_begun [] plain h = plain
  not_begun (t ∷ s) plain h = no_node_begun home levels t s plain h

  -- pairs are read
  pub pairs_read : (xs : List Pair) (s r : Tokens) → PairAhead home s → IsRead NoMark (each (pair_of (node home levels))) xs s r
      → IsRead PairGoesOn (some_pairs (node home levels) or node home levels) (as_object xs) s r
  pairs_read xs [] r ahead m = absurd ahead
  pairs_read [] (t ∷ s) r ahead m = absurd (not_none (node home levels) t s r ahead.0 ahead.1 m)
  pairs_read (x ∷ xs) (t ∷ s) r ahead m =
      let k = some_read (node home levels) (x ∷ xs) (t ∷ s) r (λ e. no_pairs x xs e) m in
      record {
        taken = k.taken;
        cut = k.cut;
        spells = λ q. inl (k.spells q);
        one = λ w q e y v h. elim h [
          | inl g ↦ elim (k.one w q e y v g) [ inl f ↦ inl f | inr f ↦ inr (head_right (AMark (codes ":")) NoMark v f) ]
          | inr g ↦ inr (both_ways home levels (as_object (x ∷ xs)) y (k.taken ++ w) w v (k.spells w) g)
        ];
        over = λ w q e h. elim h [
          | inl g ↦ k.over w q e g
          | inr g ↦ absurd (pairs_and_cut_node home levels (as_object (x ∷ xs)) (k.taken ++ w) w (k.spells w) g)
        ];
      }
    where
      no_pairs : (p : Pair) (ps : List Pair) → p ∷ ps ≡ [] → ⊥
      no_pairs p ps e = cc

  -- pairs stop
  over_pairs : (t : Spaced) (s before r : Tokens) → PairAhead home (t ∷ s) → t ∷ s ≡ before ++ r
      → ((u : Spaced) (q : Tokens) → r ≡ u ∷ q → (some_pairs (node home levels)).begun (before ++ u ∷ []) → ⊥)
      → (x : Raw) (u : Tokens) → (node home levels).whole x (before ++ take 1 r) u → HeadIs PairGoesOn u
  over_pairs t s [] r ahead e stops x u h = absurd (stops t s (sym e) (key_begun (node home levels) t ahead.0 ahead.1))
  over_pairs t s (b ∷ bs) r (k, is_key, second) e stops x u h =
      let plain : NoMark b = subst NoMark (heads t b s (bs ++ r) e) (key_no_mark t k is_key) in
      let rest : bs ++ take 1 r ≡ u = one_token_node home levels x b (bs ++ take 1 r) u plain h in
      elim second [
        | inl colon ↦ head_left (AMark (codes ":")) NoMark u (head_moved (AMark (codes ":")) (bs ++ take 1 r) u rest
            (head_of_whole (AMark (codes ":")) bs r (head_moved (AMark (codes ":")) s (bs ++ r) (tails t b s (bs ++ r) e) colon)))
        | inr none ↦ absurd (none x (subst (λ v. LeafSays home v.token x) (sym (heads t b s (bs ++ r) e))
            (leaf_first home levels x b (bs ++ take 1 r) u plain h)))
      ]

  pub pairs_stop : (s r : Tokens) (stop : ReadStop) → PairAhead home s → StopsIn NoMark (each (pair_of (node home levels))) s r stop
      → StopsIn PairGoesOn (some_pairs (node home levels) or node home levels) s r stop
  pairs_stop s r NoMemory ahead m = tt
  pairs_stop [] r Syntax ahead m = absurd ahead
  pairs_stop (t ∷ s) r Syntax ahead m =
      let k = some_stuck (node home levels) (t ∷ s) r pairs_firm.empty m in
      record {
        before = k.before;
        cut = k.cut;
        begun = inl k.begun;
        wholes = λ x u h. elim h [
          | inl g ↦ head_right (AMark (codes ":")) NoMark u (k.wholes x u g)
          | inr g ↦ over_pairs t s k.before r ahead k.cut k.stops x u g
        ];
        stops = λ v q e h. elim h [
          | inl g ↦ k.stops v q e g
          | inr g ↦ not_begun (k.before ++ v ∷ []) (head_up_to NoMark k.before v q
              (head_moved NoMark (t ∷ s) (k.before ++ v ∷ q) (k.cut ∙ ap (λ z. k.before ++ z) e)
              (key_no_mark t ahead.0 ahead.1))) g
        ];
      }

  -- a node is read
  same_rest : (n : Raw) (t : Spaced) (a w : Tokens) → NoMark t → (node home levels).whole n (t ∷ (a ++ w)) w → a ++ w ≡ w
  same_rest n t a w plain h = one_token_node home levels n t (a ++ w) w plain h

  no_pairs_whole : (n : Raw) (a r w q : Tokens) → ((PairAhead home (a ++ r)) → ⊥) → r ≡ w ++ q
      → ((v : Tokens) → (node home levels).whole n (a ++ v) v) → (y : Raw) (u : Tokens)
      → (some_pairs (node home levels)).whole y (a ++ w) u → ⊥
  no_pairs_whole n [] r w q none e h y u g =
      let less : length w < length w = shorter (node home levels) firm n w w (h w) in absurd (omega arith)
  no_pairs_whole n (t ∷ a) r w q none e h y u g =
      let plain : NoMark t = starts NoMark NoMark (some_pairs (node home levels)) pairs_firm y (t ∷ (a ++ w)) u g in
      let colon : HeadIs (AMark (codes ":")) (a ++ w) = colon_behind (node home levels) y t (a ++ w) u g in
      let key = key_of_whole (node home levels) y t (a ++ w) u g in
      none (
        key.0,
        key.1,
        inl (head_moved (AMark (codes ":")) r (a ++ r) (sym (same_rest n t a r plain (h r)))
            (head_longer (AMark (codes ":")) w q r e (head_moved (AMark (codes ":")) (a ++ w) w (same_rest n t a w plain (h w)) colon))),
      )

  no_pairs_begun : (n : Raw) (a r w q : Tokens) → ((PairAhead home (a ++ r)) → ⊥) → r ≡ w ++ q
      → ((v : Tokens) → (node home levels).whole n (a ++ v) v)
      → (some_pairs (node home levels)).begun (a ++ w) → w ≡ []
  no_pairs_begun n [] r w q none e h g =
      let less : length w < length w = shorter (node home levels) firm n w w (h w) in absurd (omega arith)
  no_pairs_begun n (t ∷ a) r w q none e h g =
      let key = key_of_begun (node home levels) t (a ++ w) g in
      let plain : NoMark t = key_no_mark t key.0 key.1 in
      elim (colon_begun (node home levels) t (a ++ w) g) [
        | inl f ↦ (both_none a w f).1
        | inr colon ↦ absurd (none (
          key.0,
          key.1,
          inl (head_moved (AMark (codes ":")) r (a ++ r) (sym (same_rest n t a r plain (h r)))
              (head_longer (AMark (codes ":")) w q r e
              (head_moved (AMark (codes ":")) (a ++ w) w (same_rest n t a w plain (h w)) colon))),
        ))
      ]

  pub node_read : (n : Raw) (s r : Tokens) → (PairAhead home s → ⊥) → IsRead NoToken (node home levels) n s r
      → IsRead PairGoesOn (some_pairs (node home levels) or node home levels) n s r
  node_read n s r none k =
      let apart : PairAhead home (k.taken ++ r) → ⊥ = subst (λ z. PairAhead home z → ⊥) k.cut none in
      record {
        taken = k.taken;
        cut = k.cut;
        spells = λ q. inr (k.spells q);
        one = λ w q e y v h. elim h [
          | inl g ↦ absurd (no_pairs_whole n k.taken r w q apart e k.spells y v g)
          | inr g ↦ elim (k.one w q e y v g) [ inl f ↦ inl f | inr f ↦ absurd (nothing v f) ]
        ];
        over = λ w q e h. elim h [
          | inl g ↦ no_pairs_begun n k.taken r w q apart e k.spells g
          | inr g ↦ k.over w q e g
        ];
      }

  -- or stops
  stuck_whole : (before r : Tokens) → (node home levels).begun before → (x : Raw) (u : Tokens)
      → (some_pairs (node home levels)).whole x (before ++ take 1 r) u → ⊥
  stuck_whole [] [] b x u g = starts NoMark NoMark (some_pairs (node home levels)) pairs_firm x [] u g
  stuck_whole [] (t ∷ r) b x u g = colon_behind (node home levels) x t [] u g
  stuck_whole (t ∷ a) r b x u g =
      not_begun (t ∷ a) (starts NoMark NoMark (some_pairs (node home levels)) pairs_firm x (t ∷ (a ++ take 1 r)) u g) b

  stuck_begun : (before r : Tokens) (t : Spaced) (q : Tokens) → r ≡ t ∷ q → (PairAhead home (before ++ r) → ⊥)
      → (node home levels).begun before
      → ((x : Raw) (u : Tokens) → (node home levels).whole x (before ++ take 1 r) u → HeadIs NoToken u)
      → (some_pairs (node home levels)).begun (before ++ t ∷ []) → ⊥
  stuck_begun (b ∷ bs) r t q e none h wholes g =
      let key = key_of_begun (node home levels) b (bs ++ t ∷ []) g in not_begun (b ∷ bs) (key_no_mark b key.0 key.1) h
  stuck_begun [] r t q e none h wholes g =
      let key = key_of_begun (node home levels) t [] g in
      none (subst (λ z. PairAhead home z) (sym e) (
        key.0,
        key.1,
        inr (λ n leaf. wholes n []
            (subst (λ z. (node home levels).whole n (take 1 z) []) (sym e) (leaf_whole home levels n t [] leaf))),
      ))

  pub node_stop : (s r : Tokens) (stop : ReadStop) → (PairAhead home s → ⊥) → StopsIn NoToken (node home levels) s r stop
      → StopsIn PairGoesOn (some_pairs (node home levels) or node home levels) s r stop
  node_stop s r NoMemory none k = tt
  node_stop s r Syntax none k = record {
    before = k.before;
    cut = k.cut;
    begun = inr k.begun;
    wholes = λ x u h. elim h [
      | inl g ↦ absurd (stuck_whole k.before r k.begun x u g)
      | inr g ↦ absurd (nothing u (k.wholes x u g))
    ];
    stops = λ t q e h. elim h [
      | inl g ↦ stuck_begun k.before r t q e (subst (λ z. PairAhead home z → ⊥) k.cut none) k.begun k.wholes g
      | inr g ↦ k.stops t q e g
    ];
  }
