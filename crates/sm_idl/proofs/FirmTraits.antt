-- Traits and apply statements can be read from the front.
use Rattle.std.proofs.Common.{inl, inr, List, [], ◌∷◌, Some, codes, refl, ℕ}
use Rattle.sm_idl.specs.Productions.{◌or◌, maybe}
use Rattle.sm_idl.specs.Words.{IsWord, IsWordId, mark, the_word, word_that, id}
use Rattle.sm_idl.specs.Nodes.{Home}
use Rattle.sm_idl.specs.Traits.{node_in, arguments, applied, traits, one_trait, braced_traits, apply}
use Rattle.sm_tree.specs.Limits.{most_levels}
use Rattle.sm_idl.specs.steps.ReaderView.{NoToken}
use Rattle.sm_idl.specs.steps.Classes.{AMark, AWord, AnyWord, NodeStart, At, Paren, TraitGoesOn}
use Rattle.sm_idl.specs.steps.Firm.{AreApart, IsFirm}
use Rattle.sm_idl.proofs.FirmParts.{firm_wider}
use Rattle.sm_idl.proofs.FirmEach.{firm_or}
use Rattle.sm_idl.proofs.FirmMany.{firm_each}
use Rattle.sm_idl.proofs.FirmShort.{token_firm, then_firm, given_firm, front_firm, option_firm}
use Rattle.sm_idl.proofs.TokenClasses.{marks_unlike, either_apart}
use Rattle.sm_idl.proofs.OneSaying.{one_word}
use Rattle.sm_idl.proofs.FirmNodes.{mark_firm, node_firm}
use Rattle.sm_idl.proofs.FirmArguments.{arguments_firm}

pub word_firm : (Is : List ℕ → Type 0) → IsFirm ⊥ AnyWord NoToken (word_that Is)
word_firm Is = token_firm (λ t w. IsWord w t × Is w) AnyWord (λ t v w h k. one_word t v w h.0 k.0) (λ t w h. h.0.0)

pub the_word_firm : (w : List ℕ) → IsFirm ⊥ (AWord w) NoToken (the_word w)
the_word_firm w = token_firm (λ t _. IsWord w t) (AWord w) (λ t x y h k. refl) (λ t x h. h)

pub node_in_firm : (home : Home) → IsFirm ⊥ NodeStart NoToken (node_in home)
node_in_firm home = node_firm (Some home) most_levels

pub applied_firm : (home : Home) → IsFirm ⊥ At Paren (applied home)
applied_firm home =
    then_firm (mark (codes "@")) _ (mark_firm (codes "@")) (λ _.
    then_firm id _ (word_firm IsWordId) (λ w.
    given_firm (maybe (arguments home)) (λ given. _) (option_firm (arguments home) (arguments_firm home))))

pub paren_no_at : AreApart Paren At
paren_no_at = marks_unlike (codes "(") (codes "@") refl

pub traits_firm : (home : Home) → IsFirm (Unit {0}) At TraitGoesOn (traits home)
traits_firm home = firm_each At Paren (λ _. applied home) (λ _. applied_firm home) paren_no_at []

pub braced_firm : (home : Home) → IsFirm ⊥ (AMark (codes "{")) NoToken (braced_traits home)
braced_firm home =
    then_firm (mark (codes "{")) _ (mark_firm (codes "{")) (λ _.
    front_firm (traits home) _ (traits_firm home) (λ ts. given_firm (mark (codes "}")) (λ _. ts) (mark_firm (codes "}")))
    (either_apart _ _ _ (marks_unlike (codes "@") (codes "}") refl) (marks_unlike (codes "(") (codes "}") refl)))

pub apply_firm : (home : Home) → IsFirm ⊥ (AWord (codes "apply")) Paren (apply home)
apply_firm home =
    then_firm (the_word (codes "apply")) _ (the_word_firm (codes "apply")) (λ _.
    then_firm id _ (word_firm IsWordId) (λ w.
    given_firm (one_trait home or braced_traits home) (λ ts. _)
    (firm_wider (λ e. e) (λ t a. a) (λ t g. elim g [ inl p ↦ p | inr n ↦ absurd n ])
    (firm_or At (AMark (codes "{")) Paren NoToken (one_trait home) (braced_traits home)
    (given_firm (applied home) (λ t. t ∷ []) (applied_firm home)) (braced_firm home) (marks_unlike (codes "@") (codes "{") refl)))))
