-- What stands between a trait's parentheses: a word or a string begins a pair and a node at once, and the colon behind it tells.
use Rattle.std.proofs.Common.{◌≡◌, ◌⊎◌, inl, inr, ℕ, zero, suc, [], ◌∷◌, ◌++◌, Option, Some, codes, refl, sym, subst, ◌∙◌}
use Rattle.sm_model.specs.Raw.{Raw}
use Rattle.sm_idl.specs.Productions.{Spaced, Tokens, Production, gives, ◌>>=◌, ◌or◌, each_behind, maybe}
use Rattle.sm_idl.specs.Words.{mark}
use Rattle.sm_idl.specs.Nodes.{Home, pair_of, as_object, object_of, list_of, node}
use Rattle.sm_idl.specs.Traits.{pairs_or_node, arguments}
use Rattle.sm_tree.specs.Limits.{most_levels}
use Rattle.sm_idl.specs.steps.ReaderView.{NoToken}
use Rattle.sm_idl.specs.steps.Classes.{Either, AMark, NoMark, NodeStart, PairGoesOn}
use Rattle.sm_idl.specs.steps.Firm.{HeadIs, Takes, IsFirm}
use Rattle.sm_idl.proofs.TokenLists.{no_tokens, tails, head_moved, head_wider}
use Rattle.sm_idl.proofs.FirmParts.{firm_wider}
use Rattle.sm_idl.proofs.FirmEach.{head_left, head_right, firm_maybe, starts}
use Rattle.sm_idl.proofs.FirmShort.{then_firm, given_firm, tail_firm, front_firm, row_firm}
use Rattle.sm_idl.proofs.TokenClasses.{marks_unlike, mark_no_leaf, turned, either_apart}
use Rattle.sm_idl.proofs.FirmNodes.{mark_firm, node_firm, node_apart, pair_firm, object_firm, list_firm}

-- pair+
abbrev pub some_pairs : Production Raw → Production Raw
some_pairs value = do
  first ← pair_of value []
  more ← each_behind (pair_of value) (first ∷ [])
  gives (as_object (first ∷ more))

pub some_pairs_firm : (value : Production Raw) → IsFirm ⊥ NodeStart NoToken value → IsFirm ⊥ NoMark NoMark (some_pairs value)
some_pairs_firm value v =
    firm_wider (λ e. e) (λ t a. a) (λ t g. elim g [ inl n ↦ n | inr n ↦ absurd n ])
    (tail_firm (pair_of value []) _ (pair_firm NodeStart value v [])
    (λ first. given_firm (each_behind (pair_of value) (first ∷ [])) (λ more. as_object (first ∷ more))
    (row_firm (pair_of value) (first ∷ []) (pair_firm NodeStart value v))) (λ t n a. n))

-- where a word or a string comes first, a node is this token
pub one_token_node : (home : Option Home) (levels : ℕ) (n : Raw) (t : Spaced) (s r : Tokens) → NoMark t
    → (node home levels).whole n (t ∷ s) r → s ≡ r
unfolding node
one_token_node home zero n t s r plain (u, e, h) = tails t u s r e
one_token_node home (suc levels) n t s r plain (inl (u, e, h)) = tails t u s r e
one_token_node home (suc levels) n t s r plain (inr (inl h)) =
    absurd (mark_no_leaf (codes "{") t (starts (AMark (codes "{")) NoToken (object_of (node home levels))
    (object_firm NodeStart (node home levels) (node_firm home levels)) n (t ∷ s) r h) plain)
one_token_node home (suc levels) n t s r plain (inr (inr h)) =
    absurd (mark_no_leaf (codes "[") t (starts (AMark (codes "[")) NoToken (list_of (node home levels))
    (list_firm NodeStart (node home levels) (node_firm home levels)
    (node_apart (codes "]") (marks_unlike (codes "{") (codes "]") refl) (marks_unlike (codes "[") (codes "]") refl))) n (t ∷ s) r h) plain)

-- and none is begun
pub no_node_begun : (home : Option Home) (levels : ℕ) (t : Spaced) (s : Tokens) → NoMark t → (node home levels).begun (t ∷ s) → ⊥
unfolding node
no_node_begun home zero t s plain e = no_tokens t s (sym e)
no_node_begun home (suc levels) t s plain (inl e) = no_tokens t s (sym e)
no_node_begun home (suc levels) t s plain (inr (inl h)) =
    elim ((object_firm NodeStart (node home levels) (node_firm home levels)).head_cut (t ∷ s) h) [
      | inl e ↦ no_tokens t s (sym e)
      | inr a ↦ mark_no_leaf (codes "{") t a plain
    ]
no_node_begun home (suc levels) t s plain (inr (inr h)) =
    elim ((list_firm NodeStart (node home levels) (node_firm home levels)
    (node_apart (codes "]") (marks_unlike (codes "{") (codes "]") refl) (marks_unlike (codes "[") (codes "]") refl))).head_cut (t ∷ s) h) [
      | inl e ↦ no_tokens t s (sym e)
      | inr a ↦ mark_no_leaf (codes "[") t a plain
    ]

-- behind the name of a pair comes a colon, if anything
pub colon_behind : (value : Production Raw) (n : Raw) (t : Spaced) (s r : Tokens) → (some_pairs value).whole n (t ∷ s) r
    → HeadIs (AMark (codes ":")) s
colon_behind value n t s r (first, s1, (k, s2, (u, e, h), (_, s3, (c, f, g), more)), behind) =
    head_moved (AMark (codes ":")) s2 s (sym (tails t u s s2 e)) (subst (HeadIs (AMark (codes ":"))) (sym f) g)

pub colon_begun : (value : Production Raw) (t : Spaced) (s : Tokens) → (some_pairs value).begun (t ∷ s)
    → (s ≡ []) ⊎ HeadIs (AMark (codes ":")) s
colon_begun value t s (inl (inl e)) = absurd (no_tokens t s (sym e))
colon_begun value t s (inl (inr (k, s2, (u, e, h), inl f))) = inl (tails t u s s2 e ∙ f)
colon_begun value t s (inl (inr (k, s2, (u, e, h), inr (_, s3, (c, f, g), more)))) =
    inr (head_moved (AMark (codes ":")) s2 s (sym (tails t u s s2 e)) (subst (HeadIs (AMark (codes ":"))) (sym f) g))
colon_begun value t s (inr (first, s1, (k, s2, (u, e, h), (_, s3, (c, f, g), more)), behind)) =
    inr (head_moved (AMark (codes ":")) s2 s (sym (tails t u s s2 e)) (subst (HeadIs (AMark (codes ":"))) (sym f) g))

module _ (home : Option Home) (levels : ℕ) where
  abbrev value : Production Raw
  value = node home levels

  value_firm : IsFirm ⊥ NodeStart NoToken value
  value_firm = node_firm home levels

  pairs_first : (n : Raw) (s r : Tokens) → (some_pairs value).whole n s r → HeadIs NoMark s
  pairs_first n s r h = starts NoMark NoMark (some_pairs value) (some_pairs_firm value value_firm) n s r h

  -- a node and pairs of the same tokens: a colon stands behind the node
  pub both_ways : (m n : Raw) (s r w : Tokens) → (some_pairs value).whole m s r → value.whole n s w → HeadIs PairGoesOn w
  both_ways m n [] r w h k = absurd (pairs_first m [] r h)
  both_ways m n (t ∷ s) r w h k =
      head_left (AMark (codes ":")) NoMark w (head_moved (AMark (codes ":")) s w
      (one_token_node home levels n t s w (pairs_first m (t ∷ s) r h) k) (colon_behind value m t s r h))

  node_and_cut_pairs : (n : Raw) (s w : Tokens) → value.whole n s w → (some_pairs value).begun s → (w ≡ []) ⊎ HeadIs PairGoesOn w
  node_and_cut_pairs n [] w h k = absurd (starts NodeStart NoToken value value_firm n [] w h)
  node_and_cut_pairs n (t ∷ s) w h k = elim ((some_pairs_firm value value_firm).head_cut (t ∷ s) k) [
    | inl e ↦ absurd (no_tokens t s (sym e))
    | inr plain ↦ (let e = one_token_node home levels n t s w plain h in elim (colon_begun value t s k) [
      | inl f ↦ inl (sym e ∙ f)
      | inr c ↦ inr (head_left (AMark (codes ":")) NoMark w (head_moved (AMark (codes ":")) s w e c))
    ])
  ]

  pub pairs_and_cut_node : (n : Raw) (s r : Tokens) → (some_pairs value).whole n s r → value.begun s → ⊥
  pairs_and_cut_node n [] r h k = pairs_first n [] r h
  pairs_and_cut_node n (t ∷ s) r h k = no_node_begun home levels t s (pairs_first n (t ∷ s) r h) k

  pn_takes : (x : Raw) (s r : Tokens) → (some_pairs value or value).whole x s r → Takes ⊥ (some_pairs value or value) x s r
  pn_takes x s r (inl h) = let a = (some_pairs_firm value value_firm).takes x s r h in
      record { taken = a.taken; cut = a.cut; some = a.some; spells = λ w. inl (a.spells w) }
  pn_takes x s r (inr h) = let a = value_firm.takes x s r h in
      record { taken = a.taken; cut = a.cut; some = a.some; spells = λ w. inr (a.spells w) }

  pn_head : (x : Raw) (s r : Tokens) → (some_pairs value or value).whole x s r → (⊥ × (s ≡ r)) ⊎ HeadIs NodeStart s
  pn_head x s r (inl h) = inr (head_left NoMark (Either (AMark (codes "{")) (AMark (codes "["))) s (pairs_first x s r h))
  pn_head x s r (inr h) = value_firm.head x s r h

  pn_head_cut : (s : Tokens) → (some_pairs value or value).begun s → (s ≡ []) ⊎ HeadIs NodeStart s
  pn_head_cut s (inl h) = elim ((some_pairs_firm value value_firm).head_cut s h) [
    | inl e ↦ inl e
    | inr a ↦ inr (head_left NoMark (Either (AMark (codes "{")) (AMark (codes "["))) s a)
  ]
  pn_head_cut s (inr h) = value_firm.head_cut s h

  pn_single : (x y : Raw) (s r w : Tokens) → (some_pairs value or value).whole x s r → (some_pairs value or value).whole y s w
      → ((x ≡ y) × (r ≡ w)) ⊎ (HeadIs PairGoesOn r ⊎ HeadIs PairGoesOn w)
  pn_single x y s r w (inl h) (inl k) = elim ((some_pairs_firm value value_firm).single x y s r w h k) [
    | inl e ↦ inl e
    | inr a ↦ inr (elim a [
      | inl b ↦ inl (head_right (AMark (codes ":")) NoMark r b)
      | inr b ↦ inr (head_right (AMark
          (codes ":")) NoMark w b)
    ])
  ]
  pn_single x y s r w (inr h) (inr k) = elim (value_firm.single x y s r w h k) [
    | inl e ↦ inl e
    | inr a ↦ inr (elim a [
      | inl b ↦ inl (head_wider NoToken PairGoesOn r (λ t n. absurd n) b)
      | inr b ↦ inr
          (head_wider NoToken PairGoesOn w (λ t n. absurd n) b)
    ])
  ]
  pn_single x y s r w (inl h) (inr k) = inr (inr (both_ways x y s r w h k))
  pn_single x y s r w (inr h) (inl k) = inr (inl (both_ways y x s w r k h))

  pn_cut : (x : Raw) (s r : Tokens) → (some_pairs value or value).whole x s r → (some_pairs value or value).begun s
      → (r ≡ []) ⊎ HeadIs PairGoesOn r
  pn_cut x s r (inl h) (inl k) = elim ((some_pairs_firm value value_firm).cut x s r h k) [
    | inl e ↦ inl e
    | inr b ↦ inr (head_right (AMark (codes ":")) NoMark r b)
  ]
  pn_cut x s r (inr h) (inr k) = elim (value_firm.cut x s r h k) [
    | inl e ↦ inl e
    | inr b ↦ inr (head_wider NoToken PairGoesOn r (λ t n. absurd n) b)
  ]
  pn_cut x s r (inl h) (inr k) = absurd (pairs_and_cut_node x s r h k)
  pn_cut x s r (inr h) (inl k) = node_and_cut_pairs x s r h k

  pn_prefix : (x : Raw) (a : Tokens) (t : Spaced) (b : Tokens) → (some_pairs value or value).whole x (a ++ t ∷ b) []
      → (some_pairs value or value).begun a
  pn_prefix x a t b (inl h) = inl ((some_pairs_firm value value_firm).prefix x a t b h)
  pn_prefix x a t b (inr h) = inr (value_firm.prefix x a t b h)

  pn_closed : (a : Tokens) (t : Spaced) (b : Tokens) → (some_pairs value or value).begun (a ++ t ∷ b) → (some_pairs value or value).begun a
  pn_closed a t b (inl h) = inl ((some_pairs_firm value value_firm).closed a t b h)
  pn_closed a t b (inr h) = inr (value_firm.closed a t b h)

  pub pairs_or_node_firm : IsFirm ⊥ NodeStart PairGoesOn (some_pairs (node home levels) or node home levels)
  pairs_or_node_firm = record {
    empty = inr value_firm.empty;
    takes = pn_takes;
    head = pn_head;
    head_cut = pn_head_cut;
    single = pn_single;
    cut = pn_cut;
    prefix = pn_prefix;
    closed = pn_closed;
  }

pub arguments_firm : (home : Home) → IsFirm ⊥ (AMark (codes "(")) NoToken (arguments home)
arguments_firm home =
    then_firm (mark (codes "(")) _ (mark_firm (codes "(")) (λ _.
    front_firm (maybe (pairs_or_node home)) _ (firm_maybe NodeStart PairGoesOn (pairs_or_node home) (pairs_or_node_firm
    (Some home) most_levels))
    (λ given. given_firm (mark (codes ")")) (λ _. given) (mark_firm (codes ")")))
    (either_apart _ _ _ (node_apart (codes ")") (marks_unlike (codes "{") (codes ")") refl) (marks_unlike (codes "[") (codes ")") refl))
    (either_apart _ _ _ (marks_unlike (codes ":") (codes ")") refl) (turned _ _ (mark_no_leaf (codes ")"))))))
