-- A row between two marks, and what it makes.
use Rattle.std.proofs.Common.{ℕ, List, ◌++◌, refl, take}
use Rattle.sm_idl.specs.Productions.{Tokens, Production, gives, ◌>>=◌, ◌>>◌}
use Rattle.sm_idl.specs.Words.{mark}
use Rattle.sm_idl.specs.declared.reader.ReadStop.{ReadStop}
use Rattle.sm_idl.specs.declared.reader.ReadStop.TheVariants.{Syntax, NoMemory}
use Rattle.sm_idl.specs.steps.ReaderView.{NoToken, StopsIn}
use Rattle.sm_idl.specs.steps.Firm.{Class, AreApart, IsFirm}
use Rattle.sm_idl.specs.steps.Classes.{AMark}
use Rattle.sm_idl.specs.steps.Reading.{IsRead}
use Rattle.sm_idl.proofs.FirmNodes.{mark_firm}
use Rattle.sm_idl.proofs.FirmShort.{given_firm}
use Rattle.sm_idl.proofs.Passing.{read_whole, stops_first, stops_behind, stops_in_row, stops_past_row}

abbrev pub closed : {X Y : Type 0} → List ℕ → (X → Y) → X → Production Y
closed close made x = mark close >> gives (made x)

abbrev pub between : {X Y : Type 0} → List ℕ → Production X → List ℕ → (X → Y) → Production Y
between opener row close made = mark opener >> (row >>= closed close made)

module _ {X Y : Type 0} (opener close : List ℕ) (G : Class) (row : Production X) (made : X → Y) (apart : AreApart G (AMark close)) where
  closing : (x : X) → IsFirm ⊥ (AMark close) NoToken (closed close made x)
  closing x = given_firm (mark close) (λ _. made x) (mark_firm close)

  pub stops_at_opener : (s r : Tokens) (stop : ReadStop) → StopsIn NoToken (mark opener) s r stop
      → StopsIn NoToken (between opener row close made) s r stop
  stops_at_opener s r stop k = stops_first NoToken (mark opener) (λ _. row >>= closed close made) s r stop k

  pub stops_between : (s a r : Tokens) (stop : ReadStop) → (mark opener).whole tt s a → StopsIn G row a r stop
      → StopsIn NoToken (between opener row close made) s r stop
  stops_between s a r stop h k =
      stops_behind NoToken (mark opener) (λ _. row >>= closed close made) (mark_firm opener) tt s a r stop h
      (stops_in_row row (closed close made) closing apart a r stop k)

  pub stops_at_close : (x : X) (s a b r : Tokens) (stop : ReadStop) → (mark opener).whole tt s a → IsRead G row x a b
      → StopsIn NoToken (mark close) b r stop
      → StopsIn NoToken (between opener row close made) s r stop
  stops_at_close x s a b r stop h m k =
      stops_behind NoToken (mark opener) (λ _. row >>= closed close made) (mark_firm opener) tt s a r stop h
      (stops_past_row row (closed close made) closing apart x a b r stop m
      (stops_first NoToken (mark close) (λ _. gives (made x)) b r stop k))

  pub read_between : (x : X) (s a b r : Tokens) → (mark opener).whole tt s a → IsRead G row x a b → (mark close).whole tt b r
      → (between opener row close made).whole (made x) s r
  read_between x s a b r h m k = (tt, a, h, (x, b, read_whole row x a b m, (tt, r, k, (refl, refl))))

-- where reading stops doesn't depend on what is made of the row
module _ {X Y Z : Type 0} (opener close : List ℕ) (row : Production X) (made : X → Y) (other : X → Z) where
  made_whole : (z : Z) (s r : Tokens) → (between opener row close other).whole z s r
      → (y : Y) × (between opener row close made).whole y s r
  made_whole z s r (_, a, h, (x, b, m, (_, q, k, (e, last)))) = (made x, (tt, a, h, (x, b, m, (tt, q, k, (refl, last)))))

  pub other_stop : (s r : Tokens) (stop : ReadStop) → StopsIn NoToken (between opener row close made) s r stop
      → StopsIn NoToken (between opener row close other) s r stop
  other_stop s r NoMemory k = k
  other_stop s r Syntax k = record {
    before = k.before;
    cut = k.cut;
    begun = k.begun;
    wholes = λ z u h. let w = made_whole z (k.before ++ take 1 r) u h in k.wholes w.0 u w.1;
    stops = k.stops;
  }
