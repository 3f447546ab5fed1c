-- What the parts of a node's reading say of the node.
use Rattle.std.proofs.Common.{inl, inr, ℕ, zero, suc, List, [], ◌∷◌, Option, Result, Ok, Err, codes, refl}
use Rattle.sm_model.specs.Raw.{Raw}
use Rattle.sm_model.specs.RawView.{raw_view}
use Rattle.sm_model.specs.declared.raw.RawNode.{RawNode}
use Rattle.sm_idl.specs.Productions.{Tokens, Production, ◌or◌}
use Rattle.sm_idl.specs.Words.{mark, key}
use Rattle.sm_idl.specs.Nodes.{Home, leaf, Pair, pair_names, pair_of, object_of, list_of, node}
use Rattle.sm_idl.specs.declared.reader.ReadStop.{ReadStop}
use Rattle.sm_idl.specs.steps.ReaderView.{NoToken, StopsIn, ReadsAs}
use Rattle.sm_idl.specs.steps.Firm.{Class, HeadIs, AreApart, IsFirm}
use Rattle.sm_idl.specs.steps.Classes.{Either, AMark, NoMark, NodeStart}
use Rattle.sm_idl.proofs.TokenLists.{head_apart}
use Rattle.sm_idl.proofs.FirmParts.{firm_wider}
use Rattle.sm_idl.proofs.FirmEach.{firm_or}
use Rattle.sm_idl.proofs.TokenClasses.{marks_unlike, mark_no_leaf, turned, apart_either}
use Rattle.sm_idl.proofs.FirmNodes.{mark_firm, key_firm, leaf_firm, node_firm, object_firm, list_firm, node_apart}
use Rattle.sm_idl.proofs.Passing.{stops_first, stops_behind}
use Rattle.sm_idl.proofs.Choosing.{left_stop, right_stop}

-- pairs

pub stops_at_key : (value : Production Raw) (before : List Pair) (s r : Tokens) (stop : ReadStop)
    → StopsIn NoToken (key (pair_names before)) s r stop → StopsIn NoToken (pair_of value before) s r stop
stops_at_key value before s r stop k = stops_first NoToken (key (pair_names before)) _ s r stop k

pub stops_at_colon : (value : Production Raw) (before : List Pair) (k : List ℕ) (s a r : Tokens) (stop : ReadStop)
    → (key (pair_names before)).whole k s a → StopsIn NoToken (mark (codes ":")) a r stop → StopsIn NoToken (pair_of value before) s r stop
stops_at_colon value before k s a r stop h m =
    stops_behind NoToken (key (pair_names before)) _ (key_firm (pair_names before)) k s a r stop h
    (stops_first NoToken (mark (codes ":")) _ a r stop m)

pub stops_at_value : (value : Production Raw) (before : List Pair) (k : List ℕ) (s a b r : Tokens) (stop : ReadStop)
    → (key (pair_names before)).whole k s a → (mark (codes ":")).whole tt a b → StopsIn NoToken value b r stop
    → StopsIn NoToken (pair_of value before) s r stop
stops_at_value value before k s a b r stop h m v =
    stops_behind NoToken (key (pair_names before)) _ (key_firm (pair_names before)) k s a r stop h
    (stops_behind NoToken (mark (codes ":")) _ (mark_firm (codes ":")) tt a b r stop m (stops_first NoToken value _ b r stop v))

-- nodes by their first token

abbrev Opener : Class
Opener = Either (AMark (codes "{")) (AMark (codes "["))

braces_no_brackets : AreApart (AMark (codes "{")) (AMark (codes "["))
braces_no_brackets = marks_unlike (codes "{") (codes "[") refl

pub list_apart : AreApart NodeStart (AMark (codes "]"))
list_apart = node_apart (codes "]") (marks_unlike (codes "{") (codes "]") refl) (marks_unlike (codes "[") (codes "]") refl)

leaf_no_opener : AreApart NoMark Opener
leaf_no_opener = apart_either _ _ _ (turned _ _ (mark_no_leaf (codes "{"))) (turned _ _ (mark_no_leaf (codes "[")))

no_opener : (s : Tokens) → (HeadIs (AMark (codes "{")) s → ⊥) → (HeadIs (AMark (codes "[")) s → ⊥) → HeadIs Opener s → ⊥
no_opener [] h k m = m
no_opener (t ∷ s) h k (inl m) = h m
no_opener (t ∷ s) h k (inr m) = k m

no_leaf : (m : List ℕ) (s : Tokens) → HeadIs (AMark m) s → HeadIs NoMark s → ⊥
no_leaf m s h k = head_apart (AMark m) NoMark s (mark_no_leaf m) h k

module _ (home : Option Home) (n : ℕ) where
  objects : IsFirm ⊥ (AMark (codes "{")) NoToken (object_of (node home n))
  objects = object_firm NodeStart (node home n) (node_firm home n)

  lists : IsFirm ⊥ (AMark (codes "[")) NoToken (list_of (node home n))
  lists = list_firm NodeStart (node home n) (node_firm home n) list_apart

  brackets : IsFirm ⊥ Opener NoToken (object_of (node home n) or list_of (node home n))
  brackets = firm_wider (λ e. e) (λ t a. a) (λ t g. elim g [ inl m ↦ m | inr m ↦ m ])
      (firm_or (AMark (codes "{")) (AMark (codes "[")) NoToken NoToken (object_of (node home n)) (list_of (node home n)) objects lists
      braces_no_brackets)

  pub leaf_node : (s r : Tokens) (result : Result RawNode ReadStop) → (HeadIs (AMark (codes "{")) s → ⊥)
      → (HeadIs (AMark (codes "[")) s → ⊥)
      → ReadsAs raw_view (leaf home) s r result → ReadsAs raw_view (node home (suc n)) s r result
  unfolding node
  leaf_node s r (Ok v) h k m = inl m
  leaf_node s r (Err stop) h k m =
      left_stop NoMark Opener NoToken NoToken (leaf home) (object_of (node home n) or list_of (node home n)) (leaf_firm home) brackets
      leaf_no_opener s r stop (no_opener s h k) m

  pub object_node : (s r : Tokens) (result : Result RawNode ReadStop) → HeadIs (AMark (codes "{")) s
      → ReadsAs raw_view (object_of (node home n)) s r result → ReadsAs raw_view (node home (suc n)) s r result
  unfolding node
  object_node s r (Ok v) here m = inr (inl m)
  object_node s r (Err stop) here m =
      right_stop NoMark Opener NoToken NoToken (leaf home) (object_of (node home n) or list_of (node home n)) (leaf_firm home) brackets
      (turned _ _ leaf_no_opener) s r stop (no_leaf (codes "{") s here)
      (left_stop (AMark (codes "{")) (AMark (codes "[")) NoToken NoToken (object_of (node home n)) (list_of (node home n)) objects lists
      braces_no_brackets s r stop (λ k. head_apart (AMark (codes "{")) (AMark (codes "[")) s braces_no_brackets here k) m)

  pub list_node : (s r : Tokens) (result : Result RawNode ReadStop) → HeadIs (AMark (codes "[")) s
      → ReadsAs raw_view (list_of (node home n)) s r result → ReadsAs raw_view (node home (suc n)) s r result
  unfolding node
  list_node s r (Ok v) here m = inr (inr m)
  list_node s r (Err stop) here m =
      right_stop NoMark Opener NoToken NoToken (leaf home) (object_of (node home n) or list_of (node home n)) (leaf_firm home) brackets
      (turned _ _ leaf_no_opener) s r stop (no_leaf (codes "[") s here)
      (right_stop (AMark (codes "{")) (AMark (codes "[")) NoToken NoToken (object_of (node home n)) (list_of (node home n)) objects lists
      (turned _ _ braces_no_brackets) s r stop (λ k. head_apart (AMark (codes "{")) (AMark (codes "[")) s braces_no_brackets k here) m)

-- with no level left, a node is a leaf
pub flat_node : (home : Option Home) (s r : Tokens) (result : Result RawNode ReadStop) → ReadsAs raw_view (leaf home) s r result
    → ReadsAs raw_view (node home zero) s r result
unfolding node
flat_node home s r (Ok v) m = m
flat_node home s r (Err stop) m = m
