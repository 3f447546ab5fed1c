-- The rows of nodes and pairs that the reader fills, one entry more at a time.
use Rattle.std.proofs.Common.{◌≡◌, ◌↔◌, ◌<◌, ℕ, suc, Bool, true, false, List, []}
use Rattle.std.proofs.Common.{◌∷◌, ◌++◌, Option, Result, IsTrue, codes, refl, sym, ap, subst}
use Rattle.std.proofs.Common.{◌∙◌, length, true≢false}
use Rattle.std.proofs.lemmas.List.{map_push}
use Rattle.std.specs.BTreeSet.{BTreeSet}
use Rattle.std.specs.List.{list_any}
use Rattle.std.specs.declared.alloc.Global.{Global}
use Rattle.std.specs.declared.string.String.{String}
use Rattle.sm_model.specs.Raw.{Raw, raws_of, raw_list}
use Rattle.sm_model.specs.RawView.{raw_view, raws_view, raw_members_view}
use Rattle.sm_model.specs.declared.raw.RawNode.{RawNode}
use Rattle.sm_idl.specs.Productions.{Tokens, Production, each, many}
use Rattle.sm_idl.specs.Words.{mark, key}
use Rattle.sm_idl.specs.Nodes.{Home, leaf, Pair, pair_names, as_object, pair_of, object_of, list_of, node}
use Rattle.sm_idl.specs.declared.reader.ReadStop.{ReadStop}
use Rattle.sm_idl.specs.steps.ReaderView.{NoToken, StopsIn, ReadsAs, raw_pair}
use Rattle.sm_idl.specs.steps.Firm.{HeadIs, AreApart, IsFirm}
use Rattle.sm_idl.specs.steps.Classes.{Either, AMark, NoMark, NodeStart}
use Rattle.sm_idl.specs.steps.Names.{Remembers}
use Rattle.sm_idl.specs.steps.Reading.{IsRead}
use Rattle.sm_idl.proofs.TokenClasses.{mark_no_leaf, turned}
use Rattle.sm_idl.proofs.FirmNodes.{node_firm, pair_firm}
use Rattle.sm_idl.proofs.Passing.{shorter}
use Rattle.sm_idl.proofs.Rows.{IsRow, row_none, ended_more, ended_read, ended_stop}
use Rattle.sm_idl.proofs.Bracketed as bracketed
use Rattle.sm_idl.proofs.ReadNodes.{list_apart, leaf_node, object_node, list_node, flat_node}

-- what a test tells where it fails
pub refused : (b : Bool) (P : Type 0) → IsTrue b ↔ P → b ≡ false → P → ⊥
refused b P told fails h = true≢false (sym (told.1 h) ∙ fails)

none_any : {K : Type 0} (f : K → Bool) (ks : List K) → ks ≡ [] → list_any f ks ≡ true → ⊥
none_any f ks e h = true≢false (sym h ∙ ap (list_any f) e)

pub none_seen : (set : BTreeSet (String Global)) → set.keys ≡ [] → Remembers set []
none_seen set e k = ((λ h. none_any _ set.keys e h), (λ n. absurd n))

module _ (home : Option Home) (n : ℕ) where
  abbrev value : Production Raw
  value = node home n

  -- the nodes of a list
  pub nodes_none : (items : List RawNode) (s : Tokens) → items ≡ [] → IsRow (Either NodeStart NoToken) (λ _. value) [] (raws_view items) s s
  nodes_none items s e =
      subst (λ l. IsRow (Either NodeStart NoToken) (λ _. value) [] (raws_view l) s s) (sym e)
      (row_none NodeStart NoToken (λ _. value) (λ _. node_firm home n) (λ t m a. m) [] s)

  pub nodes_more : (items more : List RawNode) (x : RawNode) (s a r : Tokens) → more ≡ items ++ x ∷ []
      → IsRow (Either NodeStart NoToken) (λ _. value) [] (raws_view items) s a → value.whole (raw_view x) a r
      → IsRow (Either NodeStart NoToken) (λ _. value) [] (raws_view more) s r
  nodes_more items more x s a r e i h =
      subst (λ l. IsRow (Either NodeStart NoToken) (λ _. value) [] l s r) (sym (ap raws_view e ∙ map_push raw_view items x))
      (ended_more NodeStart (λ _. value) (λ _. node_firm home n) [] (raws_view items) (raw_view x) s a r i h)

  pub nodes_fewer : (x : Raw) (a r : Tokens) → value.whole x a r → length r < length a
  nodes_fewer x a r h = shorter value (node_firm home n) x a r h

  pub nodes_read : (xs : List Raw) (s a : Tokens) → IsRow (Either NodeStart NoToken) (λ _. value) [] xs s a → (HeadIs NodeStart a → ⊥)
      → IsRead NodeStart (many value) xs s a
  nodes_read xs s a i none = ended_read NodeStart (λ _. value) (λ _. node_firm home n) [] xs s a i none

  pub nodes_stop : (xs : List Raw) (s a r : Tokens) (stop : ReadStop) → IsRow (Either NodeStart NoToken) (λ _. value) [] xs s a
      → HeadIs NodeStart a → StopsIn NoToken value a r stop → StopsIn NodeStart (many value) s r stop
  nodes_stop xs s a r stop i here k = ended_stop NodeStart (λ _. value) (λ _. node_firm home n) [] xs s a r stop i here k

  -- the pairs of an object
  pairs_firm : (before : List Pair) → IsFirm ⊥ NoMark NoToken (pair_of value before)
  pairs_firm before = pair_firm NodeStart value (node_firm home n) before

  pub pairs_none : (pairs : List (List ℕ × RawNode)) (s : Tokens) → pairs ≡ []
      → IsRow (Either NoMark NoToken) (pair_of value) [] (raw_members_view pairs) s s
  pairs_none pairs s e =
      subst (λ l. IsRow (Either NoMark NoToken) (pair_of value) [] (raw_members_view l) s s) (sym e)
      (row_none NoMark NoToken (pair_of value) pairs_firm (λ t m a. m) [] s)

  pub pairs_grow : (pairs more : List (List ℕ × RawNode)) (x : List ℕ × RawNode) → more ≡ pairs ++ x ∷ []
      → raw_members_view more ≡ raw_members_view pairs ++ raw_pair x ∷ []
  pairs_grow pairs more x e = ap raw_members_view e ∙ map_push raw_pair pairs x

  pub pairs_more : (pairs more : List (List ℕ × RawNode)) (x : List ℕ × RawNode) (s a r : Tokens) → more ≡ pairs ++ x ∷ []
      → IsRow (Either NoMark NoToken) (pair_of value) [] (raw_members_view pairs) s a
      → (pair_of value (raw_members_view pairs)).whole (raw_pair x) a r
      → IsRow (Either NoMark NoToken) (pair_of value) [] (raw_members_view more) s r
  pairs_more pairs more x s a r e i h =
      subst (λ l. IsRow (Either NoMark NoToken) (pair_of value) [] l s r) (sym (pairs_grow pairs more x e))
      (ended_more NoMark (pair_of value) pairs_firm [] (raw_members_view pairs) (raw_pair x) s a r i h)

  pub pairs_seen : (set : BTreeSet (String Global)) (pairs more : List (List ℕ × RawNode)) (x : List ℕ × RawNode)
      → more ≡ pairs ++ x ∷ []
      → Remembers set (pair_names (raw_members_view pairs ++ raw_pair x ∷ [])) → Remembers set (pair_names (raw_members_view more))
  pairs_seen set pairs more x e h = subst (λ l. Remembers set (pair_names l)) (sym (pairs_grow pairs more x e)) h

  pub pairs_fewer : (before : List Pair) (x : Pair) (a r : Tokens) → (pair_of value before).whole x a r → length r < length a
  pairs_fewer before x a r h = shorter (pair_of value before) (pairs_firm before) x a r h

  pub pairs_read : (xs : List Pair) (s a : Tokens) → IsRow (Either NoMark NoToken) (pair_of value) [] xs s a → (HeadIs NoMark a → ⊥)
      → IsRead NoMark (each (pair_of value)) xs s a
  pairs_read xs s a i none = ended_read NoMark (pair_of value) pairs_firm [] xs s a i none

  pub pairs_stop : (xs : List Pair) (s a r : Tokens) (stop : ReadStop) → IsRow (Either NoMark NoToken) (pair_of value) [] xs s a
      → HeadIs NoMark a → StopsIn NoToken (pair_of value xs) a r stop → StopsIn NoMark (each (pair_of value)) s r stop
  pairs_stop xs s a r stop i here k = ended_stop NoMark (pair_of value) pairs_firm [] xs s a r stop i here k

  pub pair_read : (before : List Pair) (k : List ℕ) (m : Raw) (s a b r : Tokens) → (key (pair_names before)).whole k s a
      → (mark (codes ":")).whole tt a b → value.whole m b r → (pair_of value before).whole (k, m) s r
  pair_read before k m s a b r h colon v = (k, a, h, (tt, b, colon, (m, r, v, (refl, refl))))

  -- brackets
  abbrev made_list : List Raw → Raw
  made_list ns = raw_list (raws_of ns)

  no_mark_closes : AreApart NoMark (AMark (codes "}"))
  no_mark_closes = turned _ _ (mark_no_leaf (codes "}"))

  pub list_open : (s r : Tokens) (stop : ReadStop) → StopsIn NoToken (mark (codes "[")) s r stop → StopsIn NoToken (list_of value) s r stop
  list_open s r stop k = bracketed.stops_at_opener (codes "[") (codes "]") NodeStart (many value) made_list list_apart s r stop k

  pub list_within : (s a r : Tokens) (stop : ReadStop) → (mark (codes "[")).whole tt s a → StopsIn NodeStart (many value) a r stop
      → StopsIn NoToken (list_of value) s r stop
  list_within s a r stop h k = bracketed.stops_between (codes "[") (codes "]") NodeStart (many value) made_list list_apart s a r stop h k

  pub list_close : (xs : List Raw) (s a b r : Tokens) (stop : ReadStop) → (mark (codes "[")).whole tt s a
      → IsRead NodeStart (many value) xs a b
      → StopsIn NoToken (mark (codes "]")) b r stop → StopsIn NoToken (list_of value) s r stop
  list_close xs s a b r stop h m k =
      bracketed.stops_at_close (codes "[") (codes "]") NodeStart (many value) made_list list_apart xs s a b r stop h m k

  pub object_open : (s r : Tokens) (stop : ReadStop) → StopsIn NoToken (mark (codes "{")) s r stop
      → StopsIn NoToken (object_of value) s r stop
  object_open s r stop k = bracketed.stops_at_opener (codes "{") (codes "}") NoMark (each (pair_of value)) as_object no_mark_closes s r
      stop k

  pub object_within : (s a r : Tokens) (stop : ReadStop) → (mark (codes "{")).whole tt s a → StopsIn NoMark (each (pair_of value)) a r stop
      → StopsIn NoToken (object_of value) s r stop
  object_within s a r stop h k =
      bracketed.stops_between (codes "{") (codes "}") NoMark (each (pair_of value)) as_object no_mark_closes s a r stop h k

  pub object_close : (xs : List Pair) (s a b r : Tokens) (stop : ReadStop) → (mark (codes "{")).whole tt s a
      → IsRead NoMark (each (pair_of value)) xs a b → StopsIn NoToken (mark (codes "}")) b r stop
      → StopsIn NoToken (object_of value) s r stop
  object_close xs s a b r stop h m k =
      bracketed.stops_at_close (codes "{") (codes "}") NoMark (each (pair_of value)) as_object no_mark_closes xs s a b r stop h m k

-- a node of so many levels
module _ (home : Option Home) (levels n : ℕ) (one_more : levels ≡ suc n) (s r : Tokens) (result : Result RawNode ReadStop) where
  at_level : ReadsAs raw_view (node home (suc n)) s r result → ReadsAs raw_view (node home levels) s r result
  at_level h = subst (λ l. ReadsAs raw_view (node home l) s r result) (sym one_more) h

  pub leaf_at : (HeadIs (AMark (codes "{")) s → ⊥) → (HeadIs (AMark (codes "[")) s → ⊥) → ReadsAs raw_view (leaf home) s r result
      → ReadsAs raw_view (node home levels) s r result
  leaf_at no_brace no_bracket h = at_level (leaf_node home n s r result no_brace no_bracket h)

  pub object_at : HeadIs (AMark (codes "{")) s → ReadsAs raw_view (object_of (node home n)) s r result
      → ReadsAs raw_view (node home levels) s r result
  object_at here h = at_level (object_node home n s r result here h)

  pub list_at : HeadIs (AMark (codes "[")) s → ReadsAs raw_view (list_of (node home n)) s r result
      → ReadsAs raw_view (node home levels) s r result
  list_at here h = at_level (list_node home n s r result here h)

pub flat_at : (home : Option Home) (levels : ℕ) → levels ≡ 0 → (s r : Tokens) (result : Result RawNode ReadStop)
    → ReadsAs raw_view (leaf home) s r result → ReadsAs raw_view (node home levels) s r result
flat_at home levels none s r result h =
    subst (λ l. ReadsAs raw_view (node home l) s r result) (sym none) (flat_node home s r result h)
