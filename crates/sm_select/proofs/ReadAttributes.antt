-- The reader of attributes: each sign by itself, and where none of those that are asked for leads on.
use Rattle.std.proofs.Common.{◌≡◌, ℕ, ◌<◌, true, false, cond, List, [], ◌∷◌, ◌++◌, length, drop, Some, None, refl, ap, ◌∙◌}
use Rattle.std.proofs.Common.{arith}
use Rattle.sm_ids.proofs.Cutting.{clash}
use Rattle.sm_select.specs.Selectors.{Step, Attribute, trait_of, namespace_of, name_of, member_of, has, compares}
use Rattle.sm_select.specs.declared.selector.SelectorOp.{SelectorOp}
use Rattle.sm_select.specs.declared.tokens.Sign.{Sign}
use Rattle.sm_select.specs.declared.tokens.Sign.TheVariants.{ClosePath, Comma, Bar, IdNamespace, IdName, IdMember, TraitBar, Op}
use Rattle.sm_select.specs.Tokens.{EndsWhite, SkipsWhite}
use Rattle.sm_select.specs.declared.refusal.SelectorRefusal.{SelectorRefusal}
use Rattle.sm_select.specs.steps.Signs.{sign_text, stands, first_sign, path_signs, behind_path_signs, behind_value_signs}
use Rattle.sm_select.specs.steps.Places.{Piece, sign, Frame, Place, stepping, path_wanted, key_wanted, behind_path, trait_wanted}
use Rattle.sm_select.specs.steps.Places.{value_wanted}
use Rattle.sm_select.specs.steps.Places.{at_namespace, at_name, at_member, at_trait}
use Rattle.sm_select.specs.steps.Places.{behind_value, behind_fold, Moves, bar, had, stands_to, another_value, compared, compared_folded}
use Rattle.sm_select.specs.steps.Standing.{Passes}
use Rattle.sm_select.specs.steps.Reader.{IsPlaced, NoKeyFollows, Refuses}
use Rattle.sm_select.proofs.Passing.{passes_shorter}
use Rattle.sm_select.proofs.ReadWords.{sign_passes, first_stands, signs_stop}
use Rattle.sm_select.proofs.ReadNames.{flat_refused}
use Rattle.sm_select.proofs.ReadPaths.{behind_path_refused}

-- no sign of a path
pub no_path_sign : (s : List ℕ) → stands IdNamespace s ≡ false → stands IdMember s ≡ false → stands TraitBar s ≡ false
    → stands IdName s ≡ false
    → first_sign path_signs s ≡ None
no_path_sign s a b c d = ap (λ x. cond x (Some IdNamespace) (first_sign (IdMember ∷ TraitBar ∷ IdName ∷ []) s)) a
    ∙ ap (λ x. cond x (Some IdMember) (first_sign (TraitBar ∷ IdName ∷ []) s)) b
    ∙ ap (λ x. cond x (Some TraitBar) (first_sign (IdName ∷ []) s)) c
    ∙ ap (λ x. cond x (Some IdName) None) d

pub no_value_sign : (s : List ℕ) → stands Comma s ≡ false → stands ClosePath s ≡ false → first_sign behind_value_signs s ≡ None
no_value_sign s a b = ap (λ x. cond x (Some Comma) (first_sign (ClosePath ∷ []) s)) a ∙ ap (λ x. cond x (Some ClosePath) None) b

-- keys
pub bar_read : (ss : List Step) (fs : List Frame) (u : List ℕ) (ks : List (List ℕ)) (s r : List ℕ) → stands Bar s ≡ true
    → SkipsWhite (drop (length (sign_text Bar)) s) r
    → EndsWhite r
    → Passes (behind_path ss fs (trait_of u ks)) s (key_wanted ss fs u ks) r
bar_read ss fs u ks s r e gone dark =
    sign_passes (behind_path ss fs (trait_of u ks)) (key_wanted ss fs u ks) Bar s r e bar gone dark

pub key_shorter : (ss : List Step) (fs : List Frame) (u : List ℕ) (ks more : List (List ℕ)) (s r x : List ℕ)
    → Passes (behind_path ss fs (trait_of u ks)) s (key_wanted ss fs u ks) r
    → Passes (key_wanted ss fs u ks) r (behind_path ss fs (trait_of u more)) x
    → length x < length s
key_shorter ss fs u ks more s r x a b =
    let first = passes_shorter (behind_path ss fs (trait_of u ks)) (key_wanted ss fs u ks) s r a (λ e. cc) in
    let second = passes_shorter (key_wanted ss fs u ks) (behind_path ss fs (trait_of u more)) r x b (λ e. cc) in omega arith

-- behind a path
pub path_closed : (ss : List Step) (fs : List Frame) (path : Attribute) (s r : List ℕ) → stands ClosePath s ≡ true
    → SkipsWhite (drop (length (sign_text ClosePath)) s) r
    → EndsWhite r
    → Passes (behind_path ss fs path) s (stepping (ss ++ has path ∷ []) fs) r
path_closed ss fs path s r e gone dark =
    sign_passes (behind_path ss fs path) (stepping (ss ++ has path ∷ []) fs) ClosePath s r e had gone dark

pub op_read : (ss : List Step) (fs : List Frame) (path : Attribute) (op : SelectorOp) (s r : List ℕ) → stands (Op op) s ≡ true
    → SkipsWhite (drop (length (sign_text (Op op))) s) r
    → EndsWhite r
    → Passes (behind_path ss fs path) s (value_wanted ss fs path op []) r
op_read ss fs path op s r e gone dark =
    sign_passes (behind_path ss fs path) (value_wanted ss fs path op []) (Op op) s r e stands_to gone dark

none_leads : {ss : List Step} {fs : List Frame} {path : Attribute} {a : Sign} {q : Place} (s : List ℕ) → NoKeyFollows path s
    → stands ClosePath s ≡ false
    → ((op : SelectorOp) → stands (Op op) s ≡ false)
    → first_sign behind_path_signs s ≡ Some a
    → Moves (behind_path ss fs path) (sign a) q
    → ⊥
none_leads s no_key no_close no_op e bar = clash (stands Bar s) (first_stands behind_path_signs s Bar e) no_key
none_leads s no_key no_close no_op e had = clash (stands ClosePath s) (first_stands behind_path_signs s ClosePath e) no_close
none_leads s no_key no_close no_op e (stands_to {op = op}) =
    clash (stands (Op op) s) (first_stands behind_path_signs s (Op op) e) (no_op op)

pub after_path_refused : (len : ℕ) (ss : List Step) (fs : List Frame) (path : Attribute) (s : List ℕ) (e : SelectorRefusal)
    → NoKeyFollows path s
    → stands ClosePath s ≡ false
    → ((op : SelectorOp) → stands (Op op) s ≡ false)
    → EndsWhite s
    → IsPlaced len s e
    → Refuses len (behind_path ss fs path) s e
after_path_refused len ss fs path s e no_key no_close no_op dark placed =
    behind_path_refused len ss fs path s e (λ a q f m. none_leads s no_key no_close no_op f m) dark placed

-- behind a value
pub comma_read : (ss : List Step) (fs : List Frame) (path : Attribute) (op : SelectorOp) (vs : List (List ℕ)) (s r : List ℕ)
    → stands Comma s ≡ true
    → SkipsWhite (drop (length (sign_text Comma)) s) r
    → EndsWhite r
    → Passes (behind_value ss fs path op vs) s (value_wanted ss fs path op vs) r
comma_read ss fs path op vs s r e gone dark =
    sign_passes (behind_value ss fs path op vs) (value_wanted ss fs path op vs) Comma s r e another_value gone dark

pub values_closed : (ss : List Step) (fs : List Frame) (path : Attribute) (op : SelectorOp) (vs : List (List ℕ)) (s r : List ℕ)
    → stands ClosePath s ≡ true
    → SkipsWhite (drop (length (sign_text ClosePath)) s) r
    → EndsWhite r
    → Passes (behind_value ss fs path op vs) s (stepping (ss ++ compares path op vs false ∷ []) fs) r
values_closed ss fs path op vs s r e gone dark =
    sign_passes (behind_value ss fs path op vs) (stepping (ss ++ compares path op vs false ∷ []) fs) ClosePath s r e compared gone dark

pub fold_closed : (ss : List Step) (fs : List Frame) (path : Attribute) (op : SelectorOp) (vs : List (List ℕ)) (s r : List ℕ)
    → stands ClosePath s ≡ true
    → SkipsWhite (drop (length (sign_text ClosePath)) s) r
    → EndsWhite r
    → Passes (behind_fold ss fs path op vs) s (stepping (ss ++ compares path op vs true ∷ []) fs) r
fold_closed ss fs path op vs s r e gone dark =
    sign_passes (behind_fold ss fs path op vs) (stepping (ss ++ compares path op vs true ∷ []) fs) ClosePath s r e compared_folded gone dark

only_close : {ss : List Step} {fs : List Frame} {path : Attribute} {op : SelectorOp} {vs : List (List ℕ)} {x : Piece} {q : Place}
    → Moves (behind_fold ss fs path op vs) x q
    → (a : Sign) × (x ≡ sign a)
only_close compared_folded = (ClosePath, refl)

fold_leads : {ss : List Step} {fs : List Frame} {path : Attribute} {op : SelectorOp} {vs : List (List ℕ)} {a : Sign} {q : Place}
    (s : List ℕ)
    → stands ClosePath s ≡ false
    → first_sign behind_path_signs s ≡ Some a
    → Moves (behind_fold ss fs path op vs) (sign a) q
    → ⊥
fold_leads s none e compared_folded = clash (stands ClosePath s) (first_stands behind_path_signs s ClosePath e) none

pub fold_refused : (len : ℕ) (ss : List Step) (fs : List Frame) (path : Attribute) (op : SelectorOp) (vs : List (List ℕ)) (s : List ℕ)
    (e : SelectorRefusal) → stands ClosePath s ≡ false
    → EndsWhite s
    → IsPlaced len s e
    → Refuses len (behind_fold ss fs path op vs) s e
fold_refused len ss fs path op vs s e none dark placed =
    flat_refused len (behind_fold ss fs path op vs) s e (λ x. x) (λ steps x. x)
    (signs_stop (behind_fold ss fs path op vs) s (λ a q f m. fold_leads s none f m) (λ x q m. only_close m)) dark placed

-- one value more
pub value_shorter : (ss : List Step) (fs : List Frame) (path : Attribute) (op : SelectorOp) (vs more : List (List ℕ)) (s r x : List ℕ)
    → Passes (value_wanted ss fs path op vs) s (behind_value ss fs path op more) r
    → Passes (behind_value ss fs path op more) r (value_wanted ss fs path op more) x
    → length x < length s
value_shorter ss fs path op vs more s r x a b =
    let first = passes_shorter (value_wanted ss fs path op vs) (behind_value ss fs path op more) s r a (λ e. cc) in
    let second = passes_shorter (behind_value ss fs path op more) (value_wanted ss fs path op more) r x b (λ e. cc) in omega arith

-- the signs of a path
pub namespace_read : (ss : List Step) (fs : List Frame) (s r : List ℕ) → stands IdNamespace s ≡ true
    → SkipsWhite (drop (length (sign_text IdNamespace)) s) r
    → EndsWhite r
    → Passes (path_wanted ss fs) s (behind_path ss fs namespace_of) r
namespace_read ss fs s r e gone dark = sign_passes (path_wanted ss fs)
    (behind_path ss fs namespace_of) IdNamespace s r e at_namespace gone dark

pub shape_name_read : (ss : List Step) (fs : List Frame) (s r : List ℕ) → stands IdName s ≡ true
    → SkipsWhite (drop (length (sign_text IdName)) s) r
    → EndsWhite r
    → Passes (path_wanted ss fs) s (behind_path ss fs name_of) r
shape_name_read ss fs s r e gone dark = sign_passes (path_wanted ss fs) (behind_path ss fs name_of) IdName s r e at_name gone dark

pub member_name_read : (ss : List Step) (fs : List Frame) (s r : List ℕ) → stands IdMember s ≡ true
    → SkipsWhite (drop (length (sign_text IdMember)) s) r
    → EndsWhite r
    → Passes (path_wanted ss fs) s (behind_path ss fs member_of) r
member_name_read ss fs s r e gone dark = sign_passes (path_wanted ss fs) (behind_path ss fs member_of) IdMember s r e at_member gone dark

pub trait_opened : (ss : List Step) (fs : List Frame) (s r : List ℕ) → stands TraitBar s ≡ true
    → SkipsWhite (drop (length (sign_text TraitBar)) s) r
    → EndsWhite r
    → Passes (path_wanted ss fs) s (trait_wanted ss fs) r
trait_opened ss fs s r e gone dark = sign_passes (path_wanted ss fs) (trait_wanted ss fs) TraitBar s r e at_trait gone dark
