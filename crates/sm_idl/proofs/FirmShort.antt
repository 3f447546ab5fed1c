-- The forms in which productions stand one behind the other, with their classes made short.
use Rattle.std.proofs.Common.{◌≡◌, inl, inr, List}
use Rattle.sm_lex.specs.Tokens.{Lexeme}
use Rattle.sm_idl.specs.Productions.{Spaced, Production, one, gives, ◌>>=◌, maybe, each_behind}
use Rattle.sm_idl.specs.steps.ReaderView.{NoToken}
use Rattle.sm_idl.specs.steps.Classes.{Either}
use Rattle.sm_idl.specs.steps.Firm.{Class, AreApart, IsFirm}
use Rattle.sm_idl.proofs.FirmParts.{firm_one, firm_gives, firm_wider}
use Rattle.sm_idl.proofs.FirmBoth.{firm_both}
use Rattle.sm_idl.proofs.FirmEach.{firm_maybe}
use Rattle.sm_idl.proofs.FirmMany.{firm_each}

abbrev pub AnyToken : Class
AnyToken t = Unit {0}

-- a token that says one thing, with a wider class
pub token_firm : {X : Type 0} (Is : Lexeme → X → Type 0) (A : Class) → ((t : Lexeme) (x y : X) → Is t x → Is t y → x ≡ y)
    → ((t : Spaced) (x : X) → Is t.token x → A t) → IsFirm ⊥ A NoToken (one Is)
token_firm Is A same wider = firm_wider (λ e. e) (λ t s. wider t s.0 s.1) (λ t g. g) (firm_one Is same)

-- behind one that takes tokens and ends by itself
pub then_firm : {X Y : Type 0} {F : Type 0} {A B H : Class} (P : Production X) (Q : X → Production Y) → IsFirm ⊥ A NoToken P
    → ((x : X) → IsFirm F B H (Q x)) → IsFirm ⊥ A H (P >>= Q)
then_firm {F = F} {A = A} {B = B} {H = H} P Q p q =
    firm_wider (λ e. e.0) (λ t s. elim s [ inl a ↦ a | inr b ↦ absurd b.0 ]) (λ t s. elim s [ inl h ↦ h | inr b ↦ absurd b.1 ])
    (firm_both ⊥ F A B NoToken H P Q p q (λ t n b. n))

-- what it gives is made from its value
pub given_firm : {X Y : Type 0} {E : Type 0} {A G : Class} (P : Production X) (f : X → Y) → IsFirm E A G P
    → IsFirm E A G (P >>= (λ x. gives (f x)))
given_firm {E = E} {A = A} {G = G} P f p =
    firm_wider (λ e. e.0) (λ t s. elim s [ inl a ↦ a | inr b ↦ absurd b.1 ]) (λ t s. elim s [ inl h ↦ absurd h | inr b ↦ b.1 ])
    (firm_both E (Unit {0}) A NoToken G NoToken P (λ x. gives (f x)) p (λ x. firm_gives (f x)) (λ t g n. n))

-- behind one that may be none comes one that takes tokens
pub front_firm : {X Y : Type 0} {A B G H : Class} (P : Production X) (Q : X → Production Y) → IsFirm (Unit {0}) A G P
    → ((x : X) → IsFirm ⊥ B H (Q x)) → AreApart G B → IsFirm ⊥ (Either A B) H (P >>= Q)
front_firm {A = A} {B = B} {G = G} {H = H} P Q p q apart =
    firm_wider (λ e. e.1) (λ t s. elim s [ inl a ↦ inl a | inr b ↦ inr b.1 ]) (λ t s. elim s [ inl h ↦ h | inr b ↦ absurd b.0 ])
    (firm_both (Unit {0}) ⊥ A B G H P Q p q apart)

-- or one that may be none too
pub loose_firm : {X Y : Type 0} {A B G H : Class} (P : Production X) (Q : X → Production Y) → IsFirm (Unit {0}) A G P
    → ((x : X) → IsFirm (Unit {0}) B H (Q x)) → AreApart G B → IsFirm (Unit {0}) (Either A B) (Either H G) (P >>= Q)
loose_firm {A = A} {B = B} {G = G} {H = H} P Q p q apart =
    firm_wider (λ e. tt) (λ t s. elim s [ inl a ↦ inl a | inr b ↦ inr b.1 ]) (λ t s. elim s [ inl h ↦ inl h | inr b ↦ inr b.1 ])
    (firm_both (Unit {0}) (Unit {0}) A B G H P Q p q apart)

-- or one that may be none
pub tail_firm : {X Y : Type 0} {A B G H : Class} (P : Production X) (Q : X → Production Y) → IsFirm ⊥ A G P
    → ((x : X) → IsFirm (Unit {0}) B H (Q x)) → AreApart G B → IsFirm ⊥ A (Either H G) (P >>= Q)
tail_firm {A = A} {B = B} {G = G} {H = H} P Q p q apart =
    firm_wider (λ e. e.0) (λ t s. elim s [ inl a ↦ a | inr b ↦ absurd b.0 ]) (λ t s. elim s [ inl h ↦ inl h | inr b ↦ inr b.1 ])
    (firm_both ⊥ (Unit {0}) A B G H P Q p q apart)

-- any number of such as end by themselves
pub row_firm : {X : Type 0} {A : Class} (P : List X → Production X) (before : List X) → ((xs : List X) → IsFirm ⊥ A NoToken (P xs))
    → IsFirm (Unit {0}) A A (each_behind P before)
row_firm {A = A} P before p =
    firm_wider (λ e. e) (λ t a. a) (λ t s. elim s [ inl a ↦ a | inr b ↦ absurd b ]) (firm_each A NoToken P p (λ t n a. n) before)

pub option_firm : {X : Type 0} {A : Class} (P : Production X) → IsFirm ⊥ A NoToken P → IsFirm (Unit {0}) A A (maybe P)
option_firm {A = A} P p = firm_wider (λ e. e) (λ t a. a) (λ t s. elim s [ inl a ↦ a | inr b ↦ absurd b ]) (firm_maybe A NoToken P p)
