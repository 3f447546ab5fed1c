-- The reader of values, keys and ids of traits: the places where they are wanted, and where each leads.
use Rattle.std.proofs.Common.{ℕ, List, [], ◌∷◌, ◌++◌}
use Rattle.sm_select.specs.Selectors.{Step, Attribute, trait_of}
use Rattle.sm_select.specs.declared.selector.SelectorOp.{SelectorOp}
use Rattle.sm_select.specs.Tokens.{Token}
use Rattle.sm_select.specs.steps.Places.{Piece, key, trait, value, ReadAs, Frame, Place, trait_wanted, key_wanted, behind_path}
use Rattle.sm_select.specs.steps.Places.{value_wanted}
use Rattle.sm_select.specs.steps.Places.{behind_value, Moves, of_trait, of_key, of_value}
use Rattle.sm_select.specs.steps.Taking.{IsKeyToken, IsTraitToken, IsValueToken, LeadsBy}

value_moves : {ss : List Step} {fs : List Frame} {path : Attribute} {op : SelectorOp} {vs : List (List ℕ)} {x : Piece} {n : Place}
    (t : Token)
    → Moves (value_wanted ss fs path op vs) x n
    → ReadAs x t
    → (v : List ℕ) × IsValueToken v t
value_moves t (of_value {v = v}) k = (v, k)

pub value_leads : (ss : List Step) (fs : List Frame) (path : Attribute) (op : SelectorOp) (vs : List (List ℕ))
    → LeadsBy IsValueToken (value_wanted ss fs path op vs) (λ v. behind_value ss fs path op (vs ++ v ∷ []))
value_leads ss fs path op vs = record {
  leads = λ v t k. record { piece = value v; read = k; moves = of_value };
  only = λ t n l. value_moves t l.moves l.read;
  flat = λ x. x;
}

key_moves : {ss : List Step} {fs : List Frame} {u : List ℕ} {ks : List (List ℕ)} {x : Piece} {n : Place} (t : Token)
    → Moves (key_wanted ss fs u ks) x n
    → ReadAs x t
    → (v : List ℕ) × IsKeyToken v t
key_moves t (of_key {k = k}) h = (k, h)

pub key_leads : (ss : List Step) (fs : List Frame) (u : List ℕ) (ks : List (List ℕ))
    → LeadsBy IsKeyToken (key_wanted ss fs u ks) (λ k. behind_path ss fs (trait_of u (ks ++ k ∷ [])))
key_leads ss fs u ks = record {
  leads = λ v t k. record { piece = key v; read = k; moves = of_key };
  only = λ t n l. key_moves t l.moves l.read;
  flat = λ x. x;
}

trait_moves : {ss : List Step} {fs : List Frame} {x : Piece} {n : Place} (t : Token) → Moves (trait_wanted ss fs) x n → ReadAs x t
    → (v : List ℕ) × IsTraitToken v t
trait_moves t (of_trait {u = u}) k = (u, k)

pub trait_leads : (ss : List Step) (fs : List Frame) → LeadsBy IsTraitToken (trait_wanted ss fs) (λ u. behind_path ss fs (trait_of u []))
trait_leads ss fs = record {
  leads = λ v t k. record { piece = trait v; read = k; moves = of_trait };
  only = λ t n l. trait_moves t l.moves l.read;
  flat = λ x. x;
}
