-- The traits that a mixin keeps for itself, as the code finds them.
use Rattle.std.proofs.Common.{◌≡◌, ℕ, Bool, List, sym, ap, ◌∙◌, bytes_eq}
use Rattle.std.specs.Prelude.{◌||◌}
use Rattle.std.specs.List.{list_any}
use Rattle.sm_tree.specs.Node.{Node, text, no_nodes, node}
use Rattle.sm_merge.specs.Mixins.{texts_among}
use Rattle.sm_merge.proofs.EffectiveMade.{same_either}
use Rattle.sm_merge.proofs.NamesKnown.{or_none}

-- the text that an entry is
pub text_held : (had : Bool) (id key : List ℕ) (n : Node) → n ≡ text key
    → (had || bytes_eq key id) ≡ (had || list_any (bytes_eq id) (texts_among (node n no_nodes)))
text_held had id key n is =
    ap (λ b. had || b) (same_either key id ∙ or_none (bytes_eq id key))
    ∙ sym (ap (λ m. had || list_any (bytes_eq id) (texts_among (node m no_nodes))) is)
