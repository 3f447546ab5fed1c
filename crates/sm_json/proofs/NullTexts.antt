-- The texts of `null`: the first byte that is no whitespace tells which kind of tree a text is of, and bytes that complete no event
-- but that of `null` are a text of it.
use Rattle.std.specs.Prelude.{Bool, cond}
use Rattle.std.specs.List.{prefix_len}
use Rattle.std.proofs.Common.{◌≡◌, ℕ, suc, ◌+◌, ◌≤◌, ◌<◌, inl, inr, true, false, Some, None, List, [], ◌∷◌, ◌++◌, refl, sym, ap, subst}
use Rattle.std.proofs.Common.{◌∙◌, arith, length, length-append, append-nil, get_or, lit<, codes}
use Rattle.sm_tree.specs.Node.{Node, null, bool, int, number, text, bytes, tag, opaque, list, object}
use Rattle.sm_tree.specs.Events.{NodeEvent, null_event, events}
use Rattle.sm_tree.specs.Timing.{TimedEvent, by_byte, Completes}
use Rattle.sm_tree.proofs.Handing.{handed_complete}
use Rattle.sm_json.specs.Strings.{is_whitespace, Whitespace}
use Rattle.sm_json.specs.JsonText.{JsonText}
use Rattle.sm_json.specs.Timing.{json_timing}
use Rattle.sm_json.specs.Stands.{first_black, first_of}
use Rattle.sm_json.proofs.EventCounts.{white_shorter}
use Rattle.sm_json.proofs.Starts.{FirstByte, StartsNumber, spells_start, below, above}
use Rattle.sm_json.proofs.White.{first_not_white}

-- the first byte of a text that is no whitespace begins its value
black_first : (bs s : List ℕ) (c : ℕ) (s1 : List ℕ) → Whitespace bs s → s ≡ c ∷ s1 → is_whitespace c ≡ false → first_black bs ≡ Some c
black_first [] s c s1 skips is black = let none : [] ≡ c ∷ s1 = sym skips ∙ is in cc
black_first (d ∷ bs) s c s1 (inl here) is black =
    let same : c ∷ s1 ≡ d ∷ bs = sym is ∙ here in
    let head : c ≡ d = cc in
    let test : is_whitespace d ≡ false = subst (λ x. is_whitespace x ≡ false) head black in
    ap (λ b. cond b (first_black bs) (Some d)) test ∙ ap Some (sym head)
black_first (d ∷ bs) s c s1 (inr past) is black =
    ap (λ b. cond b (first_black bs) (Some d)) past.0 ∙ black_first bs s c s1 past.1 is black

pub text_first : (n : Node) (bs : List ℕ) → JsonText n bs → (c : ℕ) × (first_black bs ≡ Some c) × FirstByte n c
text_first n bs (s, r, skips, spelt, white) =
    let (c, s1, is, first) = spells_start n s r spelt in (c, black_first bs s c s1 skips is (first_not_white n c first), first)

-- of bytes and more bytes
pub black_append : (bs more : List ℕ) → first_black (bs ++ more) ≡ first_of (first_black bs) more
black_append [] more = refl
black_append (c ∷ bs) more = by_test (is_whitespace c) refl (black_append bs more)
  where
    by_test : (b : Bool) → is_whitespace c ≡ b → first_black (bs ++ more) ≡ first_of (first_black bs) more
        → first_black (c ∷ (bs ++ more)) ≡ first_of (first_black (c ∷ bs)) more
    by_test true is rest =
        ap (λ b. cond b (first_black (bs ++ more)) (Some c)) is ∙ rest
        ∙ sym (ap (λ b. first_of (cond b (first_black bs) (Some c)) more) is)
    by_test false is rest =
        ap (λ b. cond b (first_black (bs ++ more)) (Some c)) is ∙ sym (ap (λ b. first_of (cond b (first_black bs) (Some c)) more) is)

-- behind a run of whitespace
abbrev BlackOfRun : List ℕ → Type 0
BlackOfRun bs =
    (prefix_len is_whitespace bs < length bs → first_black bs ≡ Some (get_or bs (prefix_len is_whitespace bs) 0))
    × (length bs ≤ prefix_len is_whitespace bs → first_black bs ≡ None)

pub black_of_run : (bs : List ℕ) → BlackOfRun bs
black_of_run [] = (λ h. absurd (omega arith), λ h. refl)
black_of_run (c ∷ bs) = by_test (is_whitespace c) refl (black_of_run bs)
  where
    by_test : (b : Bool) → is_whitespace c ≡ b → BlackOfRun bs → BlackOfRun (c ∷ bs)
    by_test true is rest =
        let next : 1 + prefix_len is_whitespace bs ≡ suc (prefix_len is_whitespace bs) = omega arith in
        rw is (λ h. rest.0 (omega arith) ∙ ap (λ n. Some (get_or (c ∷ bs) n 0)) (sym next), λ h. rest.1 (omega arith))
    by_test false is rest = rw is (λ h. refl, λ h. absurd (omega arith))

-- the tree whose first byte is `n`, and the one whose events begin with that of `null`
no_number : StartsNumber 110 → ⊥
no_number (inl (low, high)) = omega arith
no_number (inr e) = above 110 45 (lit< tt) e

pub null_by_first : (n : Node) → FirstByte n 110 → n ≡ null
null_by_first null h = refl
null_by_first (bool true) h = absurd (below 110 116 (lit< tt) h)
null_by_first (bool false) h = absurd (above 110 102 (lit< tt) h)
null_by_first (int z) h = absurd (no_number h)
null_by_first (number t) h = absurd (no_number h)
null_by_first (text t) h = absurd (above 110 34 (lit< tt) h)
null_by_first (bytes t) h = absurd h
null_by_first (tag k m) h = absurd h
null_by_first (opaque b) h = absurd h
null_by_first (list ns) h = absurd (above 110 91 (lit< tt) h)
null_by_first (object ms) h = absurd (below 110 123 (lit< tt) h)

pub null_by_event : (n : Node) (es : List NodeEvent) → null_event ∷ es ≡ events n [] → n ≡ null
null_by_event null es h = refl
null_by_event (bool b) es h = cc
null_by_event (int z) es h = cc
null_by_event (number t) es h = cc
null_by_event (text t) es h = cc
null_by_event (bytes t) es h = cc
null_by_event (tag k n) es h = cc
null_by_event (opaque b) es h = cc
null_by_event (list ns) es h = cc
null_by_event (object ms) es h = cc

-- a text of `null` completes its event
pub null_completes : (bs : List ℕ) → JsonText null bs → Completes json_timing bs (null_event ∷ [])
null_completes bs (s, r, skips, spelt, white) =
    let timed : json_timing null (bs ++ []) (by_byte null_event (length r) ∷ []) =
    subst (λ ws. json_timing null ws (by_byte null_event (length r) ∷ [])) (sym (append-nil bs)) (s, r, skips, (spelt, refl), white) in
    let all = handed_complete 0 (by_byte null_event (length r) ∷ []) [] (null_event ∷ []) (refl, omega arith, tt) tt in
    ([], null, by_byte null_event (length r) ∷ [], timed, omega arith, sym all)

-- where the same bytes are cut twice, the front with the shorter rest begins with the other one
front_of : (v r ws more : List ℕ) → v ++ r ≡ ws ++ more → length more ≤ length r → (q : List ℕ) × (ws ≡ v ++ q) × (r ≡ q ++ more)
front_of [] r ws more is less = (ws, refl, is)
front_of (a ∷ v) r [] more is less =
    let none : ⊥ = omega (arith, ap length is, length-append v r, less) in absurd none
front_of (a ∷ v) r (b ∷ ws) more is less =
    let tail : v ++ r ≡ ws ++ more = cc in
    let head : b ≡ a = cc in
    let (q, front, rest) = front_of v r ws more tail less in (q, ap (λ x. b ∷ x) front ∙ ap (λ c. c ∷ (v ++ q)) head, rest)

white_front : (q more : List ℕ) → Whitespace (q ++ more) [] → Whitespace q []
white_front [] more h = refl
white_front (c ∷ q) more (inl same) = cc
white_front (c ∷ q) more (inr past) = inr (past.0, white_front q more past.1)

-- bytes behind which less comes than behind the word have the word
word_within : (bs more r : List ℕ) → Whitespace (bs ++ more) (codes "null" ++ r) → length more ≤ length r → Whitespace r []
    → (q : List ℕ) × Whitespace bs (codes "null" ++ q) × Whitespace q []
word_within [] more r skips less white =
    let none : ⊥ = omega (arith, white_shorter more (codes "null" ++ r) skips, less) in absurd none
word_within (c ∷ bs) more r (inl same) less white =
    let (q, front, rest) = front_of (codes "null") r (c ∷ bs) more same less in
    (q, inl (sym front), white_front q more (subst (λ x. Whitespace x []) rest white))
word_within (c ∷ bs) more r (inr past) less white =
    let (q, skips, behind) = word_within bs more r past.1 less white in (q, inr (past.0, skips), behind)

-- a text of `null` goes on with no more bytes than stand behind the word: then these bytes are one already
pub null_whole : (bs more : List ℕ) (k : ℕ) (ts : List TimedEvent) → json_timing null (bs ++ more) (by_byte null_event k ∷ ts)
    → length more ≤ k → JsonText null bs
null_whole bs more k ts (s, r, skips, (spelt, timed), white) less =
    let same : k ≡ length r = cc in
    let (q, front, behind) = word_within bs more r (subst (Whitespace (bs ++ more)) spelt skips) (omega (arith, same, less)) white in
    (codes "null" ++ q, q, front, refl, behind)
