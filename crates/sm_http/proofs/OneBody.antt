-- What follows a head comes to one answer.
use Rattle.std.proofs.Common.{◌≡◌, ℕ, List, [], ◌++◌, refl, sym, ap, ◌∙◌, append-nil}
use Rattle.sm_http.specs.declared.message.BodyLeft.{BodyLeft}
use Rattle.sm_http.specs.declared.message.BodyLeft.TheVariants.{Known, Size, Data, Done}
use Rattle.sm_http.specs.declared.refusal.HttpRefusal.{HttpRefusal}
use Rattle.sm_http.specs.declared.refusal.HttpRefusal.TheVariants.{ReadFault, Ended, HeadTooLarge, Coding, Length, TooLong, Chunk, NoMemory}
use Rattle.sm_http.specs.declared.refusal.HttpRefusal.TheVariants.{Head as BadHead}
use Rattle.sm_http.specs.Chunks.{print_chunked, chunks_data}
use Rattle.sm_http.specs.Bodies.{HasBody, body, body_refused, BodyFramed}
use Rattle.sm_http.specs.Laws.{HasOneBody}
use Rattle.sm_http.proofs.Cuts.{same_cut}
use Rattle.sm_http.proofs.OneChunked.{behind_line, chunked_unique}

-- bytes begin with one whole body at most
pub body_unique : (left : BodyLeft) (bytes a b r q : List ℕ) → HasBody left bytes a r → HasBody left bytes b q → (a ≡ b) × (r ≡ q)
body_unique (Known count) bytes a b r q x y =
    let same = same_cut x.0 y.0 r q (x.1.0 ∙ sym y.1.0) (sym x.2 ∙ y.2) in
    (x.1.1 ∙ same.0 ∙ sym y.1.1, same.1)
body_unique (Size sum) bytes a b r q x y =
    let texts = ap (λ s. s ++ r) (sym x.1.2) ∙ sym x.2 ∙ y.2 ∙ ap (λ s. s ++ q) y.1.2 in
    let same = chunked_unique x.1.0 y.1.0 r q x.1.1 y.1.1 texts in
    (x.1.3 ∙ same.0 ∙ sym y.1.3, same.1)
body_unique (Data left total) bytes a b r q x y =
    let texts = sym (behind_line x.1.0 (print_chunked x.1.1) r) ∙ ap (λ s. s ++ r) (sym x.1.4) ∙ sym x.2 ∙ y.2
    ∙ ap (λ s. s ++ q) y.1.4 ∙ behind_line y.1.0 (print_chunked y.1.1) q in
    let opens = same_cut x.1.0 y.1.0 _ _ (x.1.2 ∙ sym y.1.2) texts in
    let same = chunked_unique x.1.1 y.1.1 r q x.1.3 y.1.3 (let behind = opens.1 in cc) in
    let contents = ap (λ s. s ++ chunks_data x.1.1.chunks) opens.0 ∙ ap (λ s. y.1.0 ++ s) same.0 in
    (x.1.5 ∙ contents ∙ sym y.1.5, same.1)
body_unique Done bytes a b r q x y =
    (x.1.0 ∙ sym y.1.0, sym (ap (λ s. s ++ r) x.1.1) ∙ sym x.2 ∙ y.2 ∙ ap (λ s. s ++ q) y.1.1)

-- a whole body is refused by no word
not_both : (left : BodyLeft) (bytes content rest : List ℕ) (why : HttpRefusal) → BodyFramed left bytes (body content rest)
    → BodyFramed left bytes (body_refused why) → ⊥
not_both left bytes content rest ReadFault x y = y
not_both left bytes content rest Ended x y = y.0 content rest x.0
not_both left bytes content rest BadHead x y = y
not_both left bytes content rest HeadTooLarge x y = y
not_both left bytes content rest Coding x y = y
not_both left bytes content rest Length x y = y
not_both left bytes content rest TooLong x y = x.1 y
not_both left bytes content rest Chunk x y = y.0 [] content rest (x.0.0, x.0.1, append-nil bytes ∙ x.0.2)
not_both left bytes content rest NoMemory x y = y

-- nor by two
one_word : (left : BodyLeft) (bytes : List ℕ) (a b : HttpRefusal) → BodyFramed left bytes (body_refused a)
    → BodyFramed left bytes (body_refused b) → a ≡ b
one_word left bytes ReadFault b x y = absurd x
one_word left bytes BadHead b x y = absurd x
one_word left bytes HeadTooLarge b x y = absurd x
one_word left bytes Coding b x y = absurd x
one_word left bytes Length b x y = absurd x
one_word left bytes NoMemory b x y = absurd x
one_word left bytes Ended ReadFault x y = absurd y
one_word left bytes Ended Ended x y = refl
one_word left bytes Ended BadHead x y = absurd y
one_word left bytes Ended HeadTooLarge x y = absurd y
one_word left bytes Ended Coding x y = absurd y
one_word left bytes Ended Length x y = absurd y
one_word left bytes Ended TooLong x y = absurd (x.2 y)
one_word left bytes Ended Chunk x y = absurd (x.1 y.0)
one_word left bytes Ended NoMemory x y = absurd y
one_word left bytes TooLong ReadFault x y = absurd y
one_word left bytes TooLong Ended x y = absurd (y.2 x)
one_word left bytes TooLong BadHead x y = absurd y
one_word left bytes TooLong HeadTooLarge x y = absurd y
one_word left bytes TooLong Coding x y = absurd y
one_word left bytes TooLong Length x y = absurd y
one_word left bytes TooLong TooLong x y = refl
one_word left bytes TooLong Chunk x y = absurd (y.1 x)
one_word left bytes TooLong NoMemory x y = absurd y
one_word left bytes Chunk ReadFault x y = absurd y
one_word left bytes Chunk Ended x y = absurd (y.1 x.0)
one_word left bytes Chunk BadHead x y = absurd y
one_word left bytes Chunk HeadTooLarge x y = absurd y
one_word left bytes Chunk Coding x y = absurd y
one_word left bytes Chunk Length x y = absurd y
one_word left bytes Chunk TooLong x y = absurd (x.1 y)
one_word left bytes Chunk Chunk x y = refl
one_word left bytes Chunk NoMemory x y = absurd y

pub one_body : (left : BodyLeft) → HasOneBody left
one_body left bytes (body a r) (body b q) x y =
    let same = body_unique left bytes a b r q x.0 y.0 in ap (λ c. body c r) same.0 ∙ ap (λ s. body b s) same.1
one_body left bytes (body a r) (body_refused b) x y = absurd (not_both left bytes a r b x y)
one_body left bytes (body_refused a) (body b q) x y = absurd (not_both left bytes b q a y x)
one_body left bytes (body_refused a) (body_refused b) x y = ap body_refused (one_word left bytes a b x y)
