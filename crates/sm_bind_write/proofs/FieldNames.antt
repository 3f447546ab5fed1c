-- Names of fields that are a prefix in lower case and a key.
use Rattle.std.proofs.Common.{◌≡◌, ℕ, ◌<◌, nat_lt, Bool, true, false, ◌&&◌, ◌||◌, List, [], ◌∷◌, ◌++◌, length, map, refl, sym, ap, ◌∙◌}
use Rattle.std.proofs.Common.{arith}
use Rattle.std.specs.Prelude.{◌==◌, Option, Some, None}
use Rattle.std.specs.Char.{to_ascii_lowercase}
use Rattle.std.specs.List.{cons_option, list_all}
use Rattle.std.specs.Option.{option_map}
use Rattle.std.specs.Str.{bytes_eq, str_to_ascii_lowercase}
use Rattle.std.proofs.lemmas.Bool.{false_from_ne_true}
use Rattle.std.proofs.lemmas.Bool.Decides.{Decides-ltb}
use Rattle.std.proofs.lemmas.List.{length-append, length-map, map-append}
use Rattle.std.proofs.lemmas.List.Folds.{list_all-append, list_all-map}
use Rattle.std.proofs.lemmas.Slice.Eq.{bytes_eq-Decides}
use Rattle.httparse.specs.Grammar.{is_token, is_token_byte}
use Rattle.sm_parts.specs.HeaderLists.{is_filled}
use Rattle.sm_bind.specs.Roles.{is_among}
use Rattle.sm_bind_write.specs.steps.Naming.{is_named, joined}

has_first : (b : ℕ) (u : List ℕ) → nat_lt 0 (length (b ∷ u)) ≡ true
has_first b u = (Decides-ltb 0 (length (b ∷ u))).1 (omega arith)

joined_filled : (prefix key : List ℕ) → nat_lt 0 (length (joined prefix key)) ≡ (is_filled prefix || is_filled key)
joined_filled [] [] = refl
joined_filled [] (b ∷ key) = has_first b key
joined_filled (b ∷ prefix) key = has_first (to_ascii_lowercase b) (str_to_ascii_lowercase prefix ++ key)

-- a token, by its two parts
pub token_joined : (prefix key : List ℕ)
    → ((is_filled prefix || is_filled key) && (list_all (λ b. is_token_byte (to_ascii_lowercase b)) prefix && list_all is_token_byte key))
    ≡ is_token (joined prefix key)
token_joined prefix key =
    let lower = str_to_ascii_lowercase prefix in
    sym (ap (λ t. t && list_all is_token_byte (joined prefix key)) (joined_filled prefix key)
    ∙ ap (λ t. (is_filled prefix || is_filled key) && t) (list_all-append is_token_byte lower key
    ∙ ap (λ t. t && list_all is_token_byte key) (list_all-map is_token_byte to_ascii_lowercase prefix)))

-- bytes compared by their parts
eq_parts : (a b k m : List ℕ) → length a ≡ length b → bytes_eq (a ++ k) (b ++ m) ≡ (bytes_eq a b && bytes_eq k m)
eq_parts [] [] k m same = refl
eq_parts [] (y ∷ b) k m same = absurd (omega (arith, same))
eq_parts (x ∷ a) [] k m same = absurd (omega (arith, same))
eq_parts (x ∷ a) (y ∷ b) k m same =
    ap (λ t. (x == y) && t) (eq_parts a b k m (omega (arith, same))) ∙ assoc (x == y) (bytes_eq a b) (bytes_eq k m)
  where
    assoc : (p q r : Bool) → (p && (q && r)) ≡ ((p && q) && r)
    assoc true q r = refl
    assoc false q r = refl

-- a name whose first bytes are as many as those of the prefix
pub joined_parts : (prefix key name front back : List ℕ) → name ≡ front ++ back → length front ≡ length prefix
    → bytes_eq (str_to_ascii_lowercase key) key ≡ true
    → (bytes_eq (str_to_ascii_lowercase prefix) (str_to_ascii_lowercase front)
    && bytes_eq (str_to_ascii_lowercase key) (str_to_ascii_lowercase back))
    ≡ bytes_eq (joined prefix key) (str_to_ascii_lowercase name)
joined_parts prefix key name front back e same lower =
    let p = str_to_ascii_lowercase prefix in
    let f = str_to_ascii_lowercase front in
    let k = (bytes_eq-Decides (str_to_ascii_lowercase key) key).0 lower in
    let lengths = length-map prefix to_ascii_lowercase in
    let others = length-map front to_ascii_lowercase in
    ap (λ u. bytes_eq p f && bytes_eq u (str_to_ascii_lowercase back)) k
    ∙ sym (eq_parts p f key (str_to_ascii_lowercase back) (lengths ∙ sym same ∙ sym others))
    ∙ ap (bytes_eq (p ++ key)) (sym (ap str_to_ascii_lowercase e ∙ map-append to_ascii_lowercase front back))

-- one that has fewer
pub joined_longer : (prefix key name : List ℕ) → length name < length prefix
    → false ≡ bytes_eq (joined prefix key) (str_to_ascii_lowercase name)
joined_longer prefix key name short =
    sym (false_from_ne_true (bytes_eq (joined prefix key) (str_to_ascii_lowercase name)) (λ e.
    let same = ap length ((bytes_eq-Decides (joined prefix key) (str_to_ascii_lowercase name)).0 e) in
    let whole = length-append (str_to_ascii_lowercase prefix) key in
    let first = length-map prefix to_ascii_lowercase in
    let other = length-map name to_ascii_lowercase in
    absurd (omega (arith, same, whole, first, other, short))))

-- names that there may be, one after the other
pub next_named : (o : Option (List ℕ)) (name : List ℕ) (names : List (List ℕ)) → false ≡ is_named o name
    → is_among (cons_option o names) name ≡ is_among names name
next_named None name names h = refl
next_named (Some other) name names h = ap (λ t. t || is_among names name) (sym h)

pub first_named : (o : Option (List ℕ)) (name : List ℕ) (names : List (List ℕ)) → true ≡ is_named o name
    → true ≡ is_among (cons_option o names) name
first_named None name names h = absurd cc
first_named (Some other) name names h = ap (λ t. t || is_among names name) h

pub next_lower : (o : Option (List ℕ)) (name : List ℕ) (names : List (List ℕ)) → false ≡ is_named (option_map str_to_ascii_lowercase o) name
    → is_among (map str_to_ascii_lowercase (cons_option o names)) name ≡ is_among (map str_to_ascii_lowercase names) name
next_lower None name names h = refl
next_lower (Some other) name names h = ap (λ t. t || is_among (map str_to_ascii_lowercase names) name) (sym h)

pub first_lower : (o : Option (List ℕ)) (name : List ℕ) (names : List (List ℕ)) → true ≡ is_named (option_map str_to_ascii_lowercase o) name
    → true ≡ is_among (map str_to_ascii_lowercase (cons_option o names)) name
first_lower None name names h = absurd cc
first_lower (Some other) name names h = ap (λ t. t || is_among (map str_to_ascii_lowercase names) name) h
