-- Classes of tokens: by which a production begins, and by which it goes on.
use Rattle.std.specs.Prelude.{◌≡◌, ◌⊎◌, ℕ, List, [], ◌∷◌, Option, codes}
use Rattle.sm_lex.specs.declared.token.TokenKind.TheVariants.{Word, Mark}
use Rattle.sm_model.specs.Raw.{Raw}
use Rattle.sm_idl.specs.Productions.{Tokens}
use Rattle.sm_idl.specs.Words.{IsMark, IsWord, IsKey}
use Rattle.sm_idl.specs.Nodes.{Home, LeafSays}
use Rattle.sm_idl.specs.steps.Firm.{Class, HeadIs}

-- tokens of one class or the other
abbrev pub Either : Class → Class → Class
Either A B t = A t ⊎ B t

abbrev pub AMark : List ℕ → Class
AMark text t = IsMark text t.token

abbrev pub AWord : List ℕ → Class
AWord text t = IsWord text t.token

abbrev pub AnyWord : Class
AnyWord t = t.token.kind ≡ Word

abbrev pub NoMark : Class
NoMark t = t.token.kind ≡ Mark → ⊥

-- what begins a node
abbrev pub NodeStart : Class
NodeStart = Either NoMark (Either (AMark (codes "{")) (AMark (codes "[")))

-- what comes behind a node that might have been a pair's name
abbrev pub PairGoesOn : Class
PairGoesOn = Either (AMark (codes ":")) NoMark

-- a key stands here, with a colon behind it, or it is no node
abbrev pub PairAhead : Option Home → Tokens → Type 0
PairAhead home [] = ⊥
PairAhead home (t ∷ s) =
    (k : List ℕ) × IsKey k t.token × (HeadIs (AMark (codes ":")) s ⊎ ((n : Raw) → LeafSays home t.token n → ⊥))

abbrev pub At : Class
At = AMark (codes "@")

abbrev pub Paren : Class
Paren = AMark (codes "(")

-- behind traits, more of them or the arguments of the last
abbrev pub TraitGoesOn : Class
TraitGoesOn = Either At Paren

-- behind what stands between a trait's parentheses
abbrev pub ArgumentGoesOn : Class
ArgumentGoesOn = Either NodeStart PairGoesOn

abbrev pub With : Class
With = AWord (codes "with")

abbrev pub Equals : Class
Equals = AMark (codes "=")

-- what begins a member, and what goes on behind its traits
abbrev pub MemberStart : Class
MemberStart = Either At AnyWord

abbrev pub Brace : Class
Brace = AMark (codes "{")
