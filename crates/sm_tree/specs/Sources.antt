-- What a reader stands for that takes the bytes of a text in pieces, whatever its format: the bytes that have come to it. And what it
-- makes of a piece, and of the end of the bytes, beside a sink that stood for S before and stands for T behind.
use Rattle.std.specs.Prelude.{◌≡◌, ℕ, List, [], ◌++◌, take, Option, None, Some, Result, Ok, Err}
use Rattle.sm_tree.specs.Node.{Node}
use Rattle.sm_tree.specs.Events.{NodeEvent}
use Rattle.sm_tree.specs.Streams.{StandsFor, Streams}
use Rattle.sm_tree.specs.Syntax.{Syntax, IsRead, IsRefused}
use Rattle.sm_tree.specs.Timing.{Timing, Completes, Follows}
use Rattle.sm_tree.specs.declared.refusal.SyntaxRefusal.{SyntaxRefusal}
use Rattle.sm_tree.specs.declared.refusal.SyntaxRefusal.TheVariants.{Bad, Ended, TooDeep, KeyKind, NoMemory}

-- a format, and readers of it
pub record SourceOf (R : Type 0) : Type 1 where
  pub syntax : Syntax
  -- when the bytes of its texts complete their events
  pub timing : Timing
  -- none of these bytes is refused: they led the reader to where it stands
  pub has_read : R → List ℕ → Type 0
  -- the refusal that it has given
  pub refusal : R → Option SyntaxRefusal
  -- no end was told: more bytes may come
  pub may_grow : R → Type 0

-- the bytes are refused so, or memory ran out
abbrev pub RefusedSo : Syntax → List ℕ → SyntaxRefusal → Type 0
RefusedSo F bytes (Bad at) = IsRefused F bytes (Bad at)
RefusedSo F bytes Ended = IsRefused F bytes Ended
RefusedSo F bytes (TooDeep at) = IsRefused F bytes (TooDeep at)
RefusedSo F bytes (KeyKind at) = IsRefused F bytes (KeyKind at)
RefusedSo F bytes NoMemory = Unit {0}

-- these bytes have come: none of them is refused, or they are refused so
abbrev pub ComeAs : {R : Type 0} → SourceOf R → Option SyntaxRefusal → R → List ℕ → Type 0
ComeAs s None r bytes = s.has_read r bytes
ComeAs s (Some refusal) r bytes = RefusedSo s.syntax bytes refusal

abbrev pub HasCome : {R : Type 0} → SourceOf R → R → List ℕ → Type 0
HasCome s r bytes = ComeAs s (s.refusal r) r bytes

-- these bytes have come, and more may
abbrev pub SourceStands : {R : Type 0} → SourceOf R → R → List ℕ → Type 0
SourceStands s r bytes = s.may_grow r × HasCome s r bytes

-- what stands for streams by this relation stands for the events that the bytes complete; where they are refused at a place, for those
-- that the bytes before it complete
abbrev pub FollowsAs : Timing → StandsFor → Option SyntaxRefusal → List ℕ → Type 0
FollowsAs T S None bytes = Follows T S bytes
FollowsAs T S (Some Ended) bytes = Follows T S bytes
FollowsAs T S (Some (Bad at)) bytes = Follows T S (take at bytes)
FollowsAs T S (Some (TooDeep at)) bytes = Follows T S (take at bytes)
FollowsAs T S (Some (KeyKind at)) bytes = Follows T S (take at bytes)
FollowsAs T S (Some NoMemory) bytes = Unit {0}

-- these bytes have come, and more may; no end was refused; and the sink stands for what they complete
abbrev pub HasFed : {R : Type 0} → SourceOf R → R → StandsFor → List ℕ → Type 0
HasFed s r S bytes = SourceStands s r bytes × (s.refusal r ≡ Some Ended → ⊥) × FollowsAs s.timing S (s.refusal r) bytes

-- bytes that were read complete some events
abbrev pub ReadCompletes : {R : Type 0} → SourceOf R → Type 0
ReadCompletes {R = R} s = (r : R) (bytes : List ℕ) → s.has_read r bytes → (es : List NodeEvent) × Completes s.timing bytes es

-- it has refused; or some bytes have come, and the sink stands for what they complete
abbrev pub MayFeed : {R : Type 0} → SourceOf R → R → StandsFor → Type 0
MayFeed s r S = s.refusal r ≡ None → (bytes : List ℕ) × SourceStands s r bytes × Follows s.timing S bytes

-- with this piece the bytes are refused so, and the sink stands for what those before the place complete
abbrev pub RefusesWith : {R : Type 0} → SourceOf R → StandsFor → R → List ℕ → StandsFor → R → ℕ → SyntaxRefusal → Type 0
RefusesWith s S before piece T behind at refusal =
    (s.refusal behind ≡ Some refusal)
    × ((bytes : List ℕ) → SourceStands s before bytes
    → SourceStands s behind (bytes ++ piece) × IsRefused s.syntax (bytes ++ piece) refusal
    × (Follows s.timing S bytes → Follows s.timing T (take at (bytes ++ piece))))

-- what one that has refused nothing makes of a piece
abbrev pub SourceFeeds : {R : Type 0} → SourceOf R → StandsFor → R → List ℕ → StandsFor → R → Result (Unit {0}) SyntaxRefusal → Type 0
SourceFeeds s S before piece T behind (Ok x) =
    (s.refusal behind ≡ None)
    × ((bytes : List ℕ) → SourceStands s before bytes
    → SourceStands s behind (bytes ++ piece) × (Follows s.timing S bytes → Follows s.timing T (bytes ++ piece)))
SourceFeeds s S before piece T behind (Err NoMemory) = s.refusal behind ≡ Some NoMemory
SourceFeeds s S before piece T behind (Err Ended) = ⊥
SourceFeeds s S before piece T behind (Err (Bad at)) = RefusesWith s S before piece T behind at (Bad at)
SourceFeeds s S before piece T behind (Err (TooDeep at)) = RefusesWith s S before piece T behind at (TooDeep at)
SourceFeeds s S before piece T behind (Err (KeyKind at)) = RefusesWith s S before piece T behind at (KeyKind at)

-- what it answers where the bytes end: they are a text, of which these are all events, a stream of its tree; or they are refused
abbrev pub EndsWith : {R : Type 0} → SourceOf R → (List ℕ → List NodeEvent → Type 0) → R → List ℕ → Result (Unit {0}) SyntaxRefusal → Type 0
EndsWith s AllOf r bytes (Ok x) = (n : Node) × (es : List NodeEvent) × IsRead s.syntax.text n bytes × AllOf bytes es × Streams n es []
EndsWith s AllOf r bytes (Err NoMemory) = s.refusal r ≡ Some NoMemory
EndsWith s AllOf r bytes (Err Ended) = IsRefused s.syntax bytes Ended
EndsWith s AllOf r bytes (Err (Bad at)) = IsRefused s.syntax bytes (Bad at)
EndsWith s AllOf r bytes (Err (TooDeep at)) = IsRefused s.syntax bytes (TooDeep at)
EndsWith s AllOf r bytes (Err (KeyKind at)) = IsRefused s.syntax bytes (KeyKind at)

-- what stands for streams by this relation stands for one of a tree whose text the bytes are
abbrev pub HasTree : Syntax → StandsFor → List ℕ → Type 0
HasTree F T bytes = (n : Node) × (es : List NodeEvent) × IsRead F.text n bytes × Streams n es [] × T es

-- so it does behind the end of the bytes; or they are refused, or memory ran out
abbrev pub ReadsInto : Syntax → StandsFor → List ℕ → Result (Unit {0}) SyntaxRefusal → Type 0
ReadsInto F T bytes (Ok x) = HasTree F T bytes
ReadsInto F T bytes (Err refusal) = RefusedSo F bytes refusal
