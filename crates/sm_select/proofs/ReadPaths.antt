-- The reader of attributes: what stands where a path is wanted, behind a path, and behind a value leads on.
use Rattle.std.proofs.Common.{◌≡◌, ◌⊎◌, inl, inr, ℕ, List, length, drop, None, refl, codes}
use Rattle.sm_select.specs.Selectors.{Step, Attribute, id_of}
use Rattle.sm_select.specs.declared.selector.SelectorOp.{SelectorOp}
use Rattle.sm_select.specs.declared.tokens.Sign.{Sign}
use Rattle.sm_select.specs.declared.tokens.Sign.TheVariants.{ClosePath, Comma, Bar, IdNamespace, IdName, IdMember, TraitBar, Op}
use Rattle.sm_select.specs.Tokens.{EndsWhite, SkipsWhite}
use Rattle.sm_select.specs.declared.refusal.SelectorRefusal.{SelectorRefusal}
use Rattle.sm_select.specs.steps.Signs.{first_sign, path_signs, behind_value_signs}
use Rattle.sm_select.specs.steps.Places.{Piece, sign, id_word, fold_word, Frame, Place, path_wanted, behind_path}
use Rattle.sm_select.specs.steps.Places.{behind_value, behind_fold, Moves, at_id, at_namespace, at_name, at_member, at_trait, bar, had}
use Rattle.sm_select.specs.steps.Places.{stands_to, another_value, folds, compared}
use Rattle.sm_select.specs.steps.Standing.{Passes}
use Rattle.sm_select.specs.steps.Reader.{IsRunAt, IsPlaced, Refuses}
use Rattle.sm_select.proofs.ReadWords.{Named, NoSign, word_passes, none_no_sign, named_stops, signs_stop}
use Rattle.sm_select.proofs.ReadNames.{flat_refused}

pub id_read : (ss : List Step) (fs : List Frame) (s w behind : List ℕ) → first_sign path_signs s ≡ None → IsRunAt s w → w ≡ codes "id"
    → SkipsWhite (drop (length w) s) behind
    → EndsWhite behind
    → Passes (path_wanted ss fs) s (behind_path ss fs id_of) behind
id_read ss fs s w behind none at e gone dark =
    word_passes (path_wanted ss fs) (behind_path ss fs id_of) id_word w s behind at e at_id none gone dark

path_kinds : {ss : List Step} {fs : List Frame} {x : Piece} {q : Place} → Moves (path_wanted ss fs) x q
    → ((v : List ℕ) × Named x v) ⊎ ((a : Sign) × (x ≡ sign a))
path_kinds at_id = inl (codes "id", refl)
path_kinds at_namespace = inr (IdNamespace, refl)
path_kinds at_name = inr (IdName, refl)
path_kinds at_member = inr (IdMember, refl)
path_kinds at_trait = inr (TraitBar, refl)

no_id : {ss : List Step} {fs : List Frame} {x : Piece} {q : Place} (w : List ℕ) → (w ≡ codes "id" → ⊥) → Moves (path_wanted ss fs) x q →
    Named x w
    → ⊥
no_id w none at_id n = none n
no_id w none at_namespace n = n
no_id w none at_name n = n
no_id w none at_member n = n
no_id w none at_trait n = n

pub path_refused : (len : ℕ) (ss : List Step) (fs : List Frame) (s w : List ℕ) (e : SelectorRefusal) → first_sign path_signs s ≡ None
    → IsRunAt s w
    → (w ≡ codes "id" → ⊥)
    → EndsWhite s
    → IsPlaced len s e
    → Refuses len (path_wanted ss fs) s e
path_refused len ss fs s w e none at other dark placed =
    flat_refused len (path_wanted ss fs) s e (λ x. x) (λ steps x. x)
    (named_stops (path_wanted ss fs) s w (none_no_sign (path_wanted ss fs) s none) at (λ x q m. path_kinds m) (λ x q m n. no_id w other m
    n))
    dark placed

behind_path_kinds : {ss : List Step} {fs : List Frame} {path : Attribute} {x : Piece} {q : Place} → Moves (behind_path ss fs path) x q
    → (a : Sign) × (x ≡ sign a)
behind_path_kinds bar = (Bar, refl)
behind_path_kinds had = (ClosePath, refl)
behind_path_kinds (stands_to {op = op}) = (Op op, refl)

pub behind_path_refused : (len : ℕ) (ss : List Step) (fs : List Frame) (path : Attribute) (s : List ℕ) (e : SelectorRefusal)
    → NoSign (behind_path ss fs path) s
    → EndsWhite s
    → IsPlaced len s e
    → Refuses len (behind_path ss fs path) s e
behind_path_refused len ss fs path s e none dark placed =
    flat_refused len (behind_path ss fs path) s e (λ x. x) (λ steps x. x)
    (signs_stop (behind_path ss fs path) s none (λ x q m. behind_path_kinds m)) dark placed

pub fold_read : (ss : List Step) (fs : List Frame) (path : Attribute) (op : SelectorOp) (vs : List (List ℕ)) (s w behind : List ℕ)
    → first_sign behind_value_signs s ≡ None
    → IsRunAt s w
    → w ≡ codes "i"
    → SkipsWhite (drop (length w) s) behind
    → EndsWhite behind
    → Passes (behind_value ss fs path op vs) s (behind_fold ss fs path op vs) behind
fold_read ss fs path op vs s w behind none at e gone dark =
    word_passes (behind_value ss fs path op vs) (behind_fold ss fs path op vs) fold_word w s behind at e folds none gone dark

value_kinds : {ss : List Step} {fs : List Frame} {path : Attribute} {op : SelectorOp} {vs : List (List ℕ)} {x : Piece} {q : Place}
    → Moves (behind_value ss fs path op vs) x q
    → ((v : List ℕ) × Named x v) ⊎ ((a : Sign) × (x ≡ sign a))
value_kinds another_value = inr (Comma, refl)
value_kinds folds = inl (codes "i", refl)
value_kinds compared = inr (ClosePath, refl)

no_fold : {ss : List Step} {fs : List Frame} {path : Attribute} {op : SelectorOp} {vs : List (List ℕ)} {x : Piece} {q : Place} (w : List ℕ)
    → (w ≡ codes "i" → ⊥)
    → Moves (behind_value ss fs path op vs) x q
    → Named x w
    → ⊥
no_fold w none another_value n = n
no_fold w none folds n = none n
no_fold w none compared n = n

pub behind_value_refused : (len : ℕ) (ss : List Step) (fs : List Frame) (path : Attribute) (op : SelectorOp) (vs : List (List ℕ)) (s w :
    List ℕ)
    (e : SelectorRefusal) → first_sign behind_value_signs s ≡ None
    → IsRunAt s w
    → (w ≡ codes "i" → ⊥)
    → EndsWhite s
    → IsPlaced len s e
    → Refuses len (behind_value ss fs path op vs) s e
behind_value_refused len ss fs path op vs s w e none at other dark placed =
    flat_refused len (behind_value ss fs path op vs) s e (λ x. x) (λ steps x. x)
    (named_stops (behind_value ss fs path op vs) s w (none_no_sign (behind_value ss fs path op vs) s none) at (λ x q m. value_kinds m)
    (λ x q m n. no_fold w other m n))
    dark placed
