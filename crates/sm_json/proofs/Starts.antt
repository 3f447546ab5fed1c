-- Which byte a spelling begins with, what may follow a value, and what whitespace does before a byte.
use Rattle.std.proofs.Common.{◌≡◌, ℕ, ◌<◌, ◌⊎◌, inl, inr, true, false, List, [], ◌∷◌, ◌++◌, Some, refl, sym, ap, subst, ◌∙◌}
use Rattle.std.proofs.Common.{arith}
pub use Rattle.sm_tree.proofs.ListEnds.{heads, tails}
use Rattle.sm_tree.specs.Node.{Node, null, bool, int, number, text, bytes, tag, opaque, list, object}
use Rattle.sm_tree.specs.Numbers.{IsDigit, IsMinus, IsInt, IsNumber, NumberText}
use Rattle.sm_json.specs.Strings.{is_whitespace, Whitespace}
use Rattle.sm_json.specs.JsonText.{SpellsNumber, SpellsValue}

-- equal where both are there
pub some_same : (x y : ℕ) → Some x ≡ Some y → x ≡ y
some_same x y e = cc

-- two numbers apart are not equal
pub below : (c d : ℕ) → c < d → c ≡ d → ⊥
below c d h e = omega arith

pub above : (c d : ℕ) → d < c → c ≡ d → ⊥
above c d h e = omega arith

-- whitespace: none, one more, and past a byte that isn't white
pub skips_none : (s : List ℕ) → Whitespace s s
skips_none [] = refl
skips_none (c ∷ s) = inl refl

pub not_white : (c d : ℕ) → is_whitespace d ≡ false → c ≡ d → is_whitespace c ≡ true → ⊥
not_white c d f e t = cc

pub skips_past : (c d : ℕ) (s r : List ℕ) → is_whitespace c ≡ true → is_whitespace d ≡ false → Whitespace (c ∷ s) (d ∷ r)
    → Whitespace s (d ∷ r)
skips_past c d s r w f (inl e) = absurd (not_white c d f (sym (heads d c r s e)) w)
skips_past c d s r w f (inr h) = h.1

pub skips_here : (c : ℕ) (s r : List ℕ) → is_whitespace c ≡ false → Whitespace (c ∷ s) r → r ≡ c ∷ s
skips_here c s r f (inl e) = e
skips_here c s r f (inr h) = absurd (not_white c c f refl h.0)

-- a byte that a number begins with
abbrev pub StartsNumber : ℕ → Type 0
StartsNumber c = IsDigit c ⊎ (c ≡ 45)

int_start : (t u : List ℕ) → IsInt t → (c : ℕ) × (s : List ℕ) × (t ++ u ≡ c ∷ s) × StartsNumber c
int_start t u (inl e) = (48, u, ap (λ x. x ++ u) e, inl (omega arith, omega arith))
int_start t u (inr (c, ds, e, low, high, digits)) = (c, ds ++ u, ap (λ x. x ++ u) e, inl (omega arith, omega arith))

minus_start : (m t u : List ℕ) → IsMinus m → IsInt t → (c : ℕ) × (s : List ℕ) × (m ++ (t ++ u) ≡ c ∷ s) × StartsNumber c
minus_start m t u (inl e) i =
    let h = int_start t u i in (h.0, h.1, ap (λ x. x ++ (t ++ u)) e ∙ h.2, h.3)
minus_start m t u (inr e) i = (45, t ++ u, ap (λ x. x ++ (t ++ u)) e, inr refl)

pub number_start : (t : List ℕ) → IsNumber t → (c : ℕ) × (s : List ℕ) × (t ≡ c ∷ s) × StartsNumber c
number_start t n =
    let h = minus_start n.minus n.whole (n.fraction ++ n.exponent) n.is_minus n.is_int in (h.0, h.1, n.parts ∙ h.2, h.3)

-- the byte that a spelling of a tree begins with
abbrev pub FirstByte : Node → ℕ → Type 0
FirstByte null c = c ≡ 110
FirstByte (bool true) c = c ≡ 116
FirstByte (bool false) c = c ≡ 102
FirstByte (int z) c = StartsNumber c
FirstByte (number t) c = StartsNumber c
FirstByte (text t) c = c ≡ 34
FirstByte (bytes t) c = ⊥
FirstByte (tag k n) c = ⊥
FirstByte (opaque b) c = ⊥
FirstByte (list ns) c = c ≡ 91
FirstByte (object ms) c = c ≡ 123

-- a list that begins with a byte
abbrev pub Opens : (ℕ → Type 0) → List ℕ → Type 0
Opens P s = (c : ℕ) × (s1 : List ℕ) × (s ≡ c ∷ s1) × P c

spelled_number : (n : Node) (s r : List ℕ) → ((t : List ℕ) → NumberText n t → IsNumber t) → SpellsNumber n s r → Opens StartsNumber s
spelled_number n s r f (t, e, x) =
    let h = number_start t (f t x) in (h.0, h.1 ++ r, e ∙ ap (λ y. y ++ r) h.2, h.3)

pub spells_start : (n : Node) (s r : List ℕ) → SpellsValue n s r → Opens (FirstByte n) s
spells_start null s r e = (110, _, e, refl)
spells_start (bool true) s r e = (116, _, e, refl)
spells_start (bool false) s r e = (102, _, e, refl)
spells_start (int z) s r h = spelled_number (int z) s r (λ t x. x.0) h
spells_start (number t) s r h = spelled_number (number t) s r (λ u x. x.0) h
spells_start (text t) s r (cs, s1, e, o, h) = (34, s1, o, refl)
spells_start (bytes t) s r h = absurd h
spells_start (tag k n) s r h = absurd h
spells_start (opaque b) s r h = absurd h
spells_start (list ns) s r (s1, e, h) = (91, s1, e, refl)
spells_start (object ms) s r (s1, e, h) = (123, s1, e, refl)

-- at a known byte
pub spells_first : (n : Node) (c : ℕ) (s r : List ℕ) → SpellsValue n (c ∷ s) r → FirstByte n c
spells_first n c s r h =
    let o = spells_start n (c ∷ s) r h in subst (FirstByte n) (sym (heads c o.0 s o.1 o.2)) o.3

pub spells_none : (n : Node) (r : List ℕ) → SpellsValue n [] r → ⊥
spells_none n r h = let o = spells_start n [] r h in let e : [] ≡ o.0 ∷ o.1 = o.2 in cc
