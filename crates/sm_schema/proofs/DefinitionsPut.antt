-- Definitions that are put one behind the other.
use Rattle.std.proofs.Common.{◌≡◌, ◌<◌, ℕ, zero, suc, List, [], ◌∷◌, length, map, drop, get_or, Option, sym, ap, ◌∙◌, subst, arith}
use Rattle.sm_tree.specs.Node.{Node, Members, member}
use Rattle.sm_codec.specs.PlaceView.{place_of}
use Rattle.sm_codec.specs.declared.places.ValuePlace.{ValuePlace}
use Rattle.sm_schema.specs.Definitions.{Listing, definition_name}
use Rattle.sm_schema.specs.Noted.{NotesData}
use Rattle.sm_schema.specs.steps.Joined.{joined}
use Rattle.sm_schema.specs.steps.WithNotes.{definition_for, definitions_for}

places_cut : (ps : List ValuePlace) (n : ℕ) (p : ValuePlace) → n < length ps → p ≡ get_or ps n p
    → drop n (map place_of ps) ≡ place_of p ∷ drop (suc n) (map place_of ps)
places_cut [] n p lt e = absurd (omega (arith, lt))
places_cut (q ∷ ps) zero p lt e = ap (λ x. place_of x ∷ map place_of ps) (sym e)
places_cut (q ∷ ps) (suc n) p lt e = places_cut ps n p (omega (arith, lt)) e

pub definition_put : (o : Option NotesData) (d : Listing) (ps : List ValuePlace) (n next : ℕ) (p : ValuePlace) (before after : List (List ℕ × Node))
    (name : List ℕ) (tree : Node) (all : Members) → n < length ps → p ≡ get_or ps n p → next ≡ suc n
    → ((more : Members) → joined after more ≡ joined before (member name tree more)) → name ≡ definition_name n
    → tree ≡ definition_for o d (place_of p) → joined before (definitions_for o d n (drop n (map place_of ps))) ≡ all
    → joined after (definitions_for o d next (drop next (map place_of ps))) ≡ all
definition_put o d ps n next p before after name tree all lt e step puts named says rest =
    let more = definitions_for o d (suc n) (drop (suc n) (map place_of ps)) in
    subst (λ m. joined after (definitions_for o d m (drop m (map place_of ps))) ≡ all) (sym step)
    (puts more ∙ ap (λ x. joined before (member x tree more)) named
    ∙ ap (λ x. joined before (member (definition_name n) x more)) says
    ∙ sym (ap (λ qs. joined before (definitions_for o d n qs)) (places_cut ps n p lt e)) ∙ rest)
