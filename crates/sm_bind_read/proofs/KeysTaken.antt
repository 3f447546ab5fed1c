-- Sets of texts, as texts come.
use Rattle.std.proofs.Common.{◌≡◌, ℕ, Bool, true, false, cond, List, [], ◌∷◌, map, refl, sym, ap, ◌∙◌}
use Rattle.std.specs.Prelude.{◌||◌, None, Option, Some}
use Rattle.std.specs.List.{cons_option, filter_map}
use Rattle.std.specs.BTreeSet as sorted
use Rattle.std.specs.BTreeSet.{BTreeSet}
use Rattle.std.specs.Cmp.Lexicographic.{slice_cmp}
use Rattle.std.specs.Ordering.{nat_cmp}
use Rattle.std.specs.Str.{bytes_eq, str_to_ascii_lowercase}
use Rattle.std.proofs.lemmas.Map.Text.{is_eq-slice_cmp}
use Rattle.std.proofs.lemmas.Slice.Eq.{bytes_eq-Decides}
use denote.Ref.{Bor}
use Rattle.sm_messages.specs.service.WireMembers.{header_of, query_of}
use Rattle.sm_bind.specs.Roles.{Bound, binding_on, is_among}
use Rattle.sm_bind_read.specs.steps.Taken.{has_text, headers_of, queries_of}

or_other : (a b : Bool) → cond a true b ≡ (b || a)
or_other true true = refl
or_other true false = refl
or_other false true = refl
or_other false false = refl

same_bools : (a b : Bool) → (a ≡ true → b ≡ true) → (b ≡ true → a ≡ true) → a ≡ b
same_bools true b h k = sym (h refl)
same_bools false true h k = k refl
same_bools false false h k = refl

either_way : (u v : List ℕ) → bytes_eq u v ≡ bytes_eq v u
either_way u v = same_bools (bytes_eq u v) (bytes_eq v u)
    (λ h. (bytes_eq-Decides v u).1 (sym ((bytes_eq-Decides u v).0 h)))
    (λ h. (bytes_eq-Decides u v).1 (sym ((bytes_eq-Decides v u).0 h)))

-- with one text more
pub one_more : (old new : BTreeSet (Bor (List ℕ))) (text : List ℕ)
    → sorted.UpdatesBy (λ x y. slice_cmp nat_cmp x.now y.now) (λ k. slice_cmp nat_cmp text k.now) old new true
    → (key : List ℕ) → has_text new key ≡ (has_text old key || bytes_eq key text)
one_more old new text u key =
    u.0 (record { ref_ptr = (0, 0); now = key }) ∙ ap (λ b. cond b true (has_text old key)) (is_eq-slice_cmp text key ∙ either_way text key)
    ∙ or_other (bytes_eq key text) (has_text old key)

pub or_none : (a : Bool) → a ≡ (a || false)
or_none true = refl
or_none false = refl

regroup : (a b c : Bool) → ((a || b) || c) ≡ (a || (b || c))
regroup true b c = refl
regroup false b c = refl

-- what is held and what is still to come
pub held : (had has here rest whole : Bool) → has ≡ (had || here) → (had || (here || rest)) ≡ whole → (has || rest) ≡ whole
held had has here rest whole now before = ap (λ b. b || rest) now ∙ regroup had here rest ∙ before

-- member by member
one_there : (w : List ℕ) (o : Option (List ℕ)) (rest : List (List ℕ))
    → is_among (cons_option o rest) w ≡ (is_among (cons_option o []) w || is_among rest w)
one_there w None rest = refl
one_there w (Some name) rest = sym (regroup (bytes_eq w name) false (is_among rest w))

pub queries_split : (b : Bound) (k : ℕ) (ks : List ℕ) (w : List ℕ)
    → is_among (queries_of b (k ∷ ks)) w ≡ (is_among (queries_of b (k ∷ [])) w || is_among (queries_of b ks) w)
queries_split b k ks w = one_there w (query_of (binding_on b k)) (queries_of b ks)

pub headers_split : (b : Bound) (k : ℕ) (ks : List ℕ) (w : List ℕ)
    → is_among (headers_of b (k ∷ ks)) w ≡ (is_among (headers_of b (k ∷ [])) w || is_among (headers_of b ks) w)
headers_split b k ks w = by (header_of (binding_on b k))
  where
    by : (o : Option (List ℕ)) → is_among (map str_to_ascii_lowercase (cons_option o (filter_map (λ j. header_of (binding_on b j)) ks))) w
        ≡ (is_among (map str_to_ascii_lowercase (cons_option o [])) w || is_among (headers_of b ks) w)
    by None = refl
    by (Some name) = sym (regroup (bytes_eq w (str_to_ascii_lowercase name)) false (is_among (headers_of b ks) w))
