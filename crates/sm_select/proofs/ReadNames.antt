-- The reader of names: a relation's name leads on, and so does what stands behind it.
use Rattle.std.proofs.Common.{◌≡◌, ◌⊎◌, inl, ℕ, true, false, cond, List, [], ◌∷◌, ◌++◌, length, drop, Some, None, refl, ap, ◌∙◌, ◌<◌, arith}
use Rattle.sm_model.specs.Relations.{relation_name}
use Rattle.sm_model.specs.declared.relation.Relation.{Relation}
use Rattle.sm_select.specs.Selectors.{Step, Steps, along}
use Rattle.sm_select.specs.declared.tokens.Sign.{Sign}
use Rattle.sm_select.specs.declared.tokens.Sign.TheVariants.{Comma, CloseNames}
use Rattle.sm_select.specs.Tokens.{EndsWhite, SkipsWhite}
use Rattle.sm_select.specs.declared.refusal.SelectorRefusal.{SelectorRefusal}
use Rattle.sm_select.specs.declared.refusal.SelectorRefusal.TheVariants.{Syntax, OutOfProfile, NoMemory}
use Rattle.sm_select.specs.steps.Signs.{sign_text, stands, first_sign, behind_name_signs}
use Rattle.sm_select.specs.steps.Places.{Piece, sign, relation, Frame, Place, stepping, name_wanted, behind_name, Moves, of_name}
use Rattle.sm_select.specs.steps.Places.{another_name}
use Rattle.sm_select.specs.steps.Places.{closes_names, IsStepping, IsWhole}
use Rattle.sm_select.specs.steps.Standing.{Passes, StopsAt}
use Rattle.sm_select.specs.steps.Reader.{IsRunAt, IsPlaced, Refuses}
use Rattle.sm_select.proofs.Passing.{passes_white, no_white, passes_shorter}
use Rattle.sm_select.proofs.ReadWords.{Named, word_passes, sign_passes, none_no_sign, named_stops, signs_stop}

-- a refusal where no step may come
pub flat_refused : (len : ℕ) (q : Place) (rest : List ℕ) (e : SelectorRefusal) → (IsStepping q → ⊥) → ((steps : Steps) → IsWhole q steps
    → ⊥)
    → StopsAt q rest
    → EndsWhite rest
    → IsPlaced len rest e
    → Refuses len q rest e
flat_refused len q rest (Syntax at) flat never stops dark placed = (
  q,
  rest,
  record { passes = passes_white q rest rest (no_white rest) dark; dark = dark; stops = stops },
  λ e steps w. never steps w,
  λ steps other. flat steps,
  placed,
)
flat_refused len q rest (OutOfProfile at) flat never stops dark placed = absurd placed
flat_refused len q rest NoMemory flat never stops dark placed = tt

only_relations : {ss : List Step} {fs : List Frame} {ns : List Relation} {x : Piece} {q : Place} → Moves (name_wanted ss fs ns) x q
    → ((v : List ℕ) × Named x v) ⊎ ((a : Sign) × (x ≡ sign a))
only_relations (of_name {r = r}) = inl (relation_name r, refl)

none_of_these : {ss : List Step} {fs : List Frame} {ns : List Relation} {x : Piece} {q : Place} (w : List ℕ)
    → ((r : Relation) → w ≡ relation_name r → ⊥)
    → Moves (name_wanted ss fs ns) x q
    → Named x w
    → ⊥
none_of_these w none (of_name {r = r}) e = none r e

pub name_read : (ss : List Step) (fs : List Frame) (ns : List Relation) (s w behind : List ℕ) (r : Relation) → IsRunAt s w → w ≡
    relation_name r
    → SkipsWhite (drop (length w) s) behind
    → EndsWhite behind
    → Passes (name_wanted ss fs ns) s (behind_name ss fs (ns ++ r ∷ [])) behind
name_read ss fs ns s w behind r at e gone dark =
    word_passes (name_wanted ss fs ns) (behind_name ss fs (ns ++ r ∷ [])) (relation r) w s behind at e of_name refl gone dark

pub name_refused : (len : ℕ) (ss : List Step) (fs : List Frame) (ns : List Relation) (s w : List ℕ) (e : SelectorRefusal) → IsRunAt s w
    → ((r : Relation) → w ≡ relation_name r → ⊥)
    → EndsWhite s
    → IsPlaced len s e
    → Refuses len (name_wanted ss fs ns) s e
name_refused len ss fs ns s w e at none dark placed =
    flat_refused len (name_wanted ss fs ns) s e (λ x. x) (λ steps x. x)
    (named_stops (name_wanted ss fs ns) s w (none_no_sign (name_wanted ss fs ns) s refl) at (λ x q m. only_relations m)
    (λ x q m n. none_of_these w none m n))
    dark placed

only_signs : {ss : List Step} {fs : List Frame} {ns : List Relation} {x : Piece} {q : Place} → Moves (behind_name ss fs ns) x q
    → (a : Sign) × (x ≡ sign a)
only_signs another_name = (Comma, refl)
only_signs closes_names = (CloseNames, refl)

pub comma_read : (ss : List Step) (fs : List Frame) (ns : List Relation) (s behind : List ℕ) → stands Comma s ≡ true
    → SkipsWhite (drop (length (sign_text Comma)) s) behind
    → EndsWhite behind
    → Passes (behind_name ss fs ns) s (name_wanted ss fs ns) behind
comma_read ss fs ns s behind e gone dark =
    sign_passes (behind_name ss fs ns) (name_wanted ss fs ns) Comma s behind e another_name gone
    dark

pub names_closed : (ss : List Step) (fs : List Frame) (ns : List Relation) (s behind : List ℕ) → stands CloseNames s ≡ true
    → SkipsWhite (drop (length (sign_text CloseNames)) s) behind
    → EndsWhite behind
    → Passes (behind_name ss fs ns) s (stepping (ss ++ along ns ∷ []) fs) behind
names_closed ss fs ns s behind e gone dark =
    sign_passes (behind_name ss fs ns) (stepping (ss ++ along ns ∷ []) fs) CloseNames s behind e
    closes_names gone dark

neither : (s : List ℕ) → stands Comma s ≡ false → stands CloseNames s ≡ false → first_sign behind_name_signs s ≡ None
neither s h k = ap (λ b. cond b (Some Comma) (first_sign (CloseNames ∷ []) s)) h ∙ ap (λ b. cond b (Some CloseNames) None) k

pub names_refused : (len : ℕ) (ss : List Step) (fs : List Frame) (ns : List Relation) (s : List ℕ) (e : SelectorRefusal)
    → stands Comma s ≡ false
    → stands CloseNames s ≡ false
    → EndsWhite s
    → IsPlaced len s e
    → Refuses len (behind_name ss fs ns) s e
names_refused len ss fs ns s e no_comma no_close dark placed =
    flat_refused len (behind_name ss fs ns) s e (λ x. x) (λ steps x. x)
    (signs_stop (behind_name ss fs ns) s (none_no_sign (behind_name ss fs ns) s (neither s no_comma no_close)) (λ x q m. only_signs m))
    dark placed

-- one name more
pub name_shorter : (ss : List Step) (fs : List Frame) (ns more : List Relation) (s r x : List ℕ)
    → Passes (name_wanted ss fs ns) s (behind_name ss fs more) r
    → Passes (behind_name ss fs more) r (name_wanted ss fs more) x
    → length x < length s
name_shorter ss fs ns more s r x a b =
    let first = passes_shorter (name_wanted ss fs ns) (behind_name ss fs more) s r a (λ e. cc) in
    let second = passes_shorter (behind_name ss fs more) (name_wanted ss fs more) r x b (λ e. cc) in omega arith
