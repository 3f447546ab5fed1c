-- Nodes can be read from the front, and end by themselves.
use Rattle.std.proofs.Common.{inl, inr, ℕ, zero, suc, List, [], Option, codes, refl}
use Rattle.sm_model.specs.Raw.{Raw}
use Rattle.sm_idl.specs.Productions.{Spaced, Production, ◌or◌, each, many}
use Rattle.sm_idl.specs.Words.{IsMark, IsKey, IsNew, mark, key}
use Rattle.sm_idl.specs.Nodes.{Home, LeafSays, leaf, Pair, pair_names, pair_of, object_of, list_of, node_over, node}
use Rattle.sm_idl.specs.steps.ReaderView.{NoToken}
use Rattle.sm_idl.specs.steps.Classes.{Either, AMark, NoMark, NodeStart}
use Rattle.sm_idl.specs.steps.Firm.{Class, AreApart, IsFirm}
use Rattle.sm_idl.proofs.FirmParts.{firm_wider}
use Rattle.sm_idl.proofs.FirmEach.{firm_or}
use Rattle.sm_idl.proofs.FirmShort.{token_firm, then_firm, given_firm, front_firm, row_firm}
use Rattle.sm_idl.proofs.TokenClasses.{marks_unlike, mark_no_leaf, word_no_mark, text_no_mark, turned}
use Rattle.sm_idl.proofs.TokenClasses.{apart_either, either_apart}
use Rattle.sm_idl.proofs.OneSaying.{one_key, one_leaf, leaf_no_mark}

pub mark_firm : (m : List ℕ) → IsFirm ⊥ (AMark m) NoToken (mark m)
mark_firm m = token_firm (λ t _. IsMark m t) (AMark m) (λ t x y h k. refl) (λ t x h. h)

pub key_no_mark : (t : Spaced) (k : List ℕ) → IsKey k t.token → NoMark t
key_no_mark t k (inl h) = word_no_mark t h.0
key_no_mark t k (inr h) = text_no_mark t h.0

pub key_firm : (before : List (List ℕ)) → IsFirm ⊥ NoMark NoToken (key before)
key_firm before = token_firm (λ t k. IsKey k t × IsNew k before) NoMark (λ t j k h m. one_key t j k h.0 m.0) (λ t k h. key_no_mark t k h.0)

pub leaf_firm : (home : Option Home) → IsFirm ⊥ NoMark NoToken (leaf home)
leaf_firm home = token_firm (LeafSays home) NoMark (one_leaf home) (λ t n h. leaf_no_mark home t.token n h)

pub pair_firm : (A : Class) (value : Production Raw) → IsFirm ⊥ A NoToken value → (before : List Pair)
    → IsFirm ⊥ NoMark NoToken (pair_of value before)
pair_firm A value v before =
    then_firm (key (pair_names before)) _ (key_firm (pair_names before)) (λ k.
    then_firm (mark (codes ":")) _ (mark_firm (codes ":")) (λ _. given_firm value (λ n. (k, n)) v))

pub object_firm : (A : Class) (value : Production Raw) → IsFirm ⊥ A NoToken value → IsFirm ⊥ (AMark (codes "{")) NoToken (object_of value)
object_firm A value v =
    then_firm (mark (codes "{")) _ (mark_firm (codes "{")) (λ _.
    front_firm (each (pair_of value)) _ (row_firm (pair_of value) [] (pair_firm A value v))
    (λ ps. given_firm (mark (codes "}")) (λ _. _) (mark_firm (codes "}"))) (turned _ _ (mark_no_leaf (codes "}"))))

pub list_firm : (A : Class) (value : Production Raw) → IsFirm ⊥ A NoToken value → AreApart A (AMark (codes "]"))
    → IsFirm ⊥ (AMark (codes "[")) NoToken (list_of value)
list_firm A value v apart =
    then_firm (mark (codes "[")) _ (mark_firm (codes "[")) (λ _.
    front_firm (many value) _ (row_firm (λ _. value) [] (λ _. v))
    (λ ns. given_firm (mark (codes "]")) (λ _. _) (mark_firm (codes "]"))) apart)

-- a mark that begins no node
pub node_apart : (m : List ℕ) → AreApart (AMark (codes "{")) (AMark m) → AreApart (AMark (codes "[")) (AMark m)
    → AreApart NodeStart (AMark m)
node_apart m h k = either_apart _ _ _ (turned _ _ (mark_no_leaf m)) (either_apart _ _ _ h k)

node_over_firm : (home : Option Home) (inner : Production Raw) → IsFirm ⊥ NodeStart NoToken inner
    → IsFirm ⊥ NodeStart NoToken (node_over home inner)
node_over_firm home inner v =
    firm_wider (λ e. e) (λ t a. a) (λ t g. elim g [ inl n ↦ n | inr n ↦ elim n [ inl o ↦ o | inr o ↦ o ] ])
    (firm_or NoMark (Either (AMark (codes "{")) (AMark (codes "["))) NoToken (Either NoToken NoToken) (leaf home)
    (object_of inner or list_of inner)
    (leaf_firm home)
    (firm_or (AMark (codes "{")) (AMark (codes "[")) NoToken NoToken (object_of inner) (list_of inner) (object_firm NodeStart inner v)
    (list_firm NodeStart inner v (node_apart (codes "]") (marks_unlike (codes "{") (codes "]") refl) (marks_unlike (codes "[")
    (codes "]") refl)))
    (marks_unlike (codes "{") (codes "[") refl))
    (apart_either _ _ _ (turned _ _ (mark_no_leaf (codes "{"))) (turned _ _ (mark_no_leaf (codes "[")))))

pub node_firm : (home : Option Home) (levels : ℕ) → IsFirm ⊥ NodeStart NoToken (node home levels)
unfolding node
node_firm home zero = firm_wider (λ e. e) (λ t a. inl a) (λ t g. g) (leaf_firm home)
node_firm home (suc levels) = node_over_firm home (node home levels) (node_firm home levels)
