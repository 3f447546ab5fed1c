-- The bytes of a side come to one head, or to one word.
use Rattle.std.proofs.Common.{◌≡◌, ℕ, true, List, [], ◌∷◌, length, take, refl, sym, ap, ◌∙◌, subst, arith, append-nil, inl, inr, Option}
use Rattle.std.proofs.Common.{Some, None, ◌⊎◌}
use Rattle.std.proofs.Common.{true≢false}
use Rattle.httparse.specs.Grammar.{print_request, print_response, print_blank, print_version}
use Rattle.httparse.proofs.GrammarLemmas.{request_unique, response_unique, print_request-append, print_response-append}
use Rattle.sm_http.specs.declared.message.MessageSide.{MessageSide}
use Rattle.sm_http.specs.declared.message.MessageSide.TheVariants.{Request as of_requests, Response as of_responses}
use Rattle.sm_http.specs.declared.refusal.HttpRefusal.{HttpRefusal}
use Rattle.sm_http.specs.declared.refusal.HttpRefusal.TheVariants.{ReadFault, Ended, HeadTooLarge, Coding, Length, TooLong, Chunk, NoMemory}
use Rattle.sm_http.specs.declared.refusal.HttpRefusal.TheVariants.{Head as BadHead}
use Rattle.sm_http.specs.Limits.{head_limit}
use Rattle.sm_http.specs.Heads.{HeadText, request_text, response_text, ReadsHead, HasNoHead, NeverHasHead, HeadStands, has_first_line}
use Rattle.sm_http.specs.BodyFields.{head_refusal}
use Rattle.sm_http.specs.Framed.{no_head, head, head_refused, RefusesPart, RefusesWhole}
use Rattle.sm_http.specs.Laws.{HasOneHead}
use Rattle.sm_http.proofs.Cuts.{cut_behind, right_empty}

-- bytes begin with one head at most
pub head_unique : (side : MessageSide) (bytes : List ℕ) (t u : HeadText) (r q : List ℕ) → ReadsHead side bytes t r
    → ReadsHead side bytes u q → (t ≡ u) × (r ≡ q)
head_unique of_requests bytes t u r q x y =
    let same = request_unique bytes x.0 y.0 r q x.1 y.1 in (x.2 ∙ ap request_text same.0 ∙ sym y.2, same.1)
head_unique of_responses bytes t u r q x y =
    let same = response_unique bytes x.0 y.0 r q x.1 y.1 in (x.2 ∙ ap response_text same.0 ∙ sym y.2, same.1)

-- what can never become a head is none
none_from_never : (side : MessageSide) (bytes : List ℕ) → NeverHasHead side bytes → HasNoHead side bytes
none_from_never of_requests bytes never = λ h rest x. never [] h rest (x.0, append-nil bytes ∙ x.1)
none_from_never of_responses bytes never = λ h rest x. never [] h rest (x.0, append-nil bytes ∙ x.1)

-- a whole head stands within the first bytes, so these aren't without one
stands_within : (side : MessageSide) (bytes : List ℕ) (text : HeadText) (rest : List ℕ) → HeadStands side bytes text rest
    → HasNoHead side (take head_limit bytes) → ⊥
stands_within of_requests bytes text rest whole none =
    let reads = whole.reads in
    none reads.0 _ (reads.1.0, cut_behind head_limit bytes (print_request reads.0) rest reads.1.1 whole.within)
stands_within of_responses bytes text rest whole none =
    let reads = whole.reads in
    none reads.0 _ (reads.1.0, cut_behind head_limit bytes (print_response reads.0) rest reads.1.1 whole.within)

-- a head has bytes
no_empty_head : (side : MessageSide) (text : HeadText) (rest : List ℕ) → ReadsHead side [] text rest → ⊥
no_empty_head of_requests text rest x =
    let h = x.0 in
    let behind = right_empty h.method _ (right_empty (print_blank h.blank) _ (x.1.1 ∙ print_request-append h rest)) in
    let none : [] ≡ 32 ∷ _ = behind in
    cc
no_empty_head of_responses text rest x =
    let h = x.0 in
    let behind = right_empty (print_version h.minor) _ (right_empty (print_blank h.blank) _ (x.1.1 ∙ print_response-append h rest)) in
    let none : [] ≡ 32 ∷ _ = behind in
    cc

no_empty_whole : (side : MessageSide) (bytes : List ℕ) (text : HeadText) (rest : List ℕ) → bytes ≡ [] → HeadStands side bytes text rest → ⊥
no_empty_whole side bytes text rest e whole = no_empty_head side text rest (subst (λ b. ReadsHead side b text rest) e whole.reads)

-- where a whole head stands, no part of one is refused
no_part : (side : MessageSide) (bytes : List ℕ) (text : HeadText) (rest : List ℕ) (why : HttpRefusal) → HeadStands side bytes text rest
    → RefusesPart side bytes why → ⊥
no_part side bytes text rest ReadFault whole part = part
no_part side bytes text rest Ended whole part = stands_within side bytes text rest whole part.0.no_head
no_part side bytes text rest BadHead whole part =
    stands_within side bytes text rest whole (none_from_never side (take head_limit bytes) part.never)
no_part side bytes text rest HeadTooLarge whole part = stands_within side bytes text rest whole part.0.no_head
no_part side bytes text rest Coding whole part = part
no_part side bytes text rest Length whole part = part
no_part side bytes text rest TooLong whole part = part
no_part side bytes text rest Chunk whole part = part
no_part side bytes text rest NoMemory whole part = part

-- no byte is no part of a head
no_empty_part : (side : MessageSide) (bytes : List ℕ) (why : HttpRefusal) → bytes ≡ [] → RefusesPart side bytes why → ⊥
no_empty_part side bytes ReadFault e part = part
no_empty_part side bytes Ended e part = let some = part.0.some in let none : length bytes ≡ 0 = ap length e in omega arith
no_empty_part side bytes BadHead e part =
    true≢false (sym (subst (λ b. has_first_line (take head_limit b) ≡ true) e part.ended))
no_empty_part side bytes HeadTooLarge e part = let some = part.0.some in let none : length bytes ≡ 0 = ap length e in omega arith
no_empty_part side bytes Coding e part = part
no_empty_part side bytes Length e part = part
no_empty_part side bytes TooLong e part = part
no_empty_part side bytes Chunk e part = part
no_empty_part side bytes NoMemory e part = part

one_part : (side : MessageSide) (bytes : List ℕ) (a b : HttpRefusal) → RefusesPart side bytes a → RefusesPart side bytes b → a ≡ b
one_part side bytes ReadFault b x y = absurd x
one_part side bytes Coding b x y = absurd x
one_part side bytes Length b x y = absurd x
one_part side bytes TooLong b x y = absurd x
one_part side bytes Chunk b x y = absurd x
one_part side bytes NoMemory b x y = absurd x
one_part side bytes Ended ReadFault x y = absurd y
one_part side bytes Ended Ended x y = refl
one_part side bytes Ended BadHead x y = absurd (x.0.not_refused y)
one_part side bytes Ended HeadTooLarge x y = let short = x.1 in let long = y.1 in absurd (omega arith)
one_part side bytes Ended Coding x y = absurd y
one_part side bytes Ended Length x y = absurd y
one_part side bytes Ended TooLong x y = absurd y
one_part side bytes Ended Chunk x y = absurd y
one_part side bytes Ended NoMemory x y = absurd y
one_part side bytes BadHead ReadFault x y = absurd y
one_part side bytes BadHead Ended x y = absurd (y.0.not_refused x)
one_part side bytes BadHead BadHead x y = refl
one_part side bytes BadHead HeadTooLarge x y = absurd (y.0.not_refused x)
one_part side bytes BadHead Coding x y = absurd y
one_part side bytes BadHead Length x y = absurd y
one_part side bytes BadHead TooLong x y = absurd y
one_part side bytes BadHead Chunk x y = absurd y
one_part side bytes BadHead NoMemory x y = absurd y
one_part side bytes HeadTooLarge ReadFault x y = absurd y
one_part side bytes HeadTooLarge Ended x y = let long = x.1 in let short = y.1 in absurd (omega arith)
one_part side bytes HeadTooLarge BadHead x y = absurd (x.0.not_refused y)
one_part side bytes HeadTooLarge HeadTooLarge x y = refl
one_part side bytes HeadTooLarge Coding x y = absurd y
one_part side bytes HeadTooLarge Length x y = absurd y
one_part side bytes HeadTooLarge TooLong x y = absurd y
one_part side bytes HeadTooLarge Chunk x y = absurd y
one_part side bytes HeadTooLarge NoMemory x y = absurd y

one_whole : (side : MessageSide) (bytes : List ℕ) (a b : HttpRefusal) → RefusesWhole side bytes a → RefusesWhole side bytes b → a ≡ b
one_whole side bytes a b x y =
    let same = head_unique side bytes x.0 y.0 x.1 y.1 x.2.reads y.2.reads in
    let words : Some a ≡ Some b = sym x.3 ∙ ap head_refusal same.0 ∙ y.3 in
    cc

one_refusal : (side : MessageSide) (bytes : List ℕ) (a b : HttpRefusal) → RefusesPart side bytes a ⊎ RefusesWhole side bytes a
    → RefusesPart side bytes b ⊎ RefusesWhole side bytes b → a ≡ b
one_refusal side bytes a b (inl x) (inl y) = one_part side bytes a b x y
one_refusal side bytes a b (inl x) (inr y) = absurd (no_part side bytes y.0 y.1 a y.2 x)
one_refusal side bytes a b (inr x) (inl y) = absurd (no_part side bytes x.0 x.1 b x.2 y)
one_refusal side bytes a b (inr x) (inr y) = one_whole side bytes a b x y

-- a head is refused by no word
taken_or_refused : (side : MessageSide) (bytes : List ℕ) (text : HeadText) (rest : List ℕ) (why : HttpRefusal)
    → HeadStands side bytes text rest → head_refusal text ≡ None → RefusesPart side bytes why ⊎ RefusesWhole side bytes why → ⊥
taken_or_refused side bytes text rest why whole taken (inl part) = no_part side bytes text rest why whole part
taken_or_refused side bytes text rest why whole taken (inr refused) =
    let same = head_unique side bytes text refused.0 rest refused.1 whole.reads refused.2.reads in
    let words : ◌≡◌ {A = Option HttpRefusal} None (Some why) = sym taken ∙ ap head_refusal same.0 ∙ refused.3 in
    cc

no_empty_refusal : (side : MessageSide) (bytes : List ℕ) (why : HttpRefusal) → bytes ≡ []
    → RefusesPart side bytes why ⊎ RefusesWhole side bytes why → ⊥
no_empty_refusal side bytes why e (inl part) = no_empty_part side bytes why e part
no_empty_refusal side bytes why e (inr refused) = no_empty_whole side bytes refused.0 refused.1 e refused.2

pub one_head : (side : MessageSide) → HasOneHead side
one_head side bytes no_head no_head x y = refl
one_head side bytes no_head (head b q) x y = absurd (no_empty_whole side bytes y.0 q x y.1)
one_head side bytes no_head (head_refused b) x y = absurd (no_empty_refusal side bytes b x y)
one_head side bytes (head a r) no_head x y = absurd (no_empty_whole side bytes x.0 r y x.1)
one_head side bytes (head a r) (head b q) x y =
    let same = head_unique side bytes x.0 y.0 r q x.1.reads y.1.reads in
    ap (λ h. head h r) (sym x.3 ∙ ap (λ t. t.head) same.0 ∙ y.3) ∙ ap (λ s. head b s) same.1
one_head side bytes (head a r) (head_refused b) x y = absurd (taken_or_refused side bytes x.0 r b x.1 x.2 y)
one_head side bytes (head_refused a) no_head x y = absurd (no_empty_refusal side bytes a y x)
one_head side bytes (head_refused a) (head b q) x y = absurd (taken_or_refused side bytes y.0 q a y.1 y.2 x)
one_head side bytes (head_refused a) (head_refused b) x y = ap head_refused (one_refusal side bytes a b x y)
