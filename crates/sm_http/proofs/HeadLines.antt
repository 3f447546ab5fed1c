-- The first line of a head has ended, and it hasn't where a request's target goes on.
use Rattle.std.proofs.Common.{◌≡◌, ℕ, ◌+◌, ◌<◌, Bool, true, false, ◌||◌, List, [], ◌∷◌, ◌++◌, length, refl, sym, ap, ◌∙◌, arith}
use Rattle.std.proofs.Common.{append_assoc, inl, inr}
use Rattle.std.proofs.Common.{true≢false}
use Rattle.std.specs.Prelude.{if◌then◌else◌, ◌==◌, codes}
use Rattle.std.proofs.lemmas.Bool.{eqb-true}
use Rattle.std.proofs.lemmas.List.Elements.{All-head, All-tail}
use Rattle.std.proofs.lemmas.List.Folds.{list_any-append}
use Rattle.sm_bytes.specs.Ascii.{carriage_return, line_feed}
use Rattle.httparse.specs.Grammar.{is_token_byte, is_uri_byte, IsToken, AllPass, LineEnd, crlf, lf, print_end, print_blank, print_version}
use Rattle.httparse.specs.Grammar.{print_section, print_reason, RequestHead, ReadsRequest, ResponseHead, ReadsResponse, EndsInTarget}
use Rattle.httparse.proofs.GrammarLemmas.{print_request-append, print_response-append}
use Rattle.sm_http.specs.declared.message.MessageSide.{MessageSide}
use Rattle.sm_http.specs.declared.message.MessageSide.TheVariants.{Request as of_requests, Response as of_responses}
use Rattle.sm_http.specs.Heads.{HasNoHead, NeverHasHead, is_line_byte, has_line_feed, has_first_line}
use Rattle.sm_http.specs.steps.Finding.{MayBecomeHead}

-- ---- where an LF stands

or_true : (p q : Bool) → q ≡ true → (p || q) ≡ true
or_true false q e = e
or_true true q e = refl

lf_behind : (a b : List ℕ) → has_line_feed b ≡ true → has_line_feed (a ++ b) ≡ true
lf_behind a b e = list_any-append (λ c. c == line_feed) a b ∙ or_true (has_line_feed a) (has_line_feed b) e

lf_in_end : (end : LineEnd) (rest : List ℕ) → has_line_feed (print_end end ++ rest) ≡ true
lf_in_end crlf rest = refl
lf_in_end lf rest = refl

-- ---- empty lines are passed over

blank_line : (end : LineEnd) (f rest : List ℕ) → has_first_line (f ++ rest) ≡ has_first_line rest
    → has_first_line ((print_end end ++ f) ++ rest) ≡ has_first_line rest
blank_line crlf f rest e = e
blank_line lf f rest e = e

behind_blanks : (ends : List LineEnd) (rest : List ℕ) → has_first_line (print_blank ends ++ rest) ≡ has_first_line rest
behind_blanks [] rest = refl
behind_blanks (end ∷ ends) rest = blank_line end (print_blank ends) rest (behind_blanks ends rest)

-- ---- a token is no CR and no LF

line_byte_cases : (b : ℕ) (t u : Bool) → (b == carriage_return) ≡ t → (b == line_feed) ≡ u → is_token_byte b ≡ true → is_line_byte b ≡ false
unfolding is_token_byte
line_byte_cases b true u e f token =
    absurd (true≢false (sym token ∙ ap is_token_byte (eqb-true b carriage_return e)))
line_byte_cases b false true e f token =
    absurd (true≢false (sym token ∙ ap is_token_byte (eqb-true b line_feed f)))
line_byte_cases b false false e f token = ap (λ t. t || b == line_feed) e ∙ f

token_first : (m rest : List ℕ) → IsToken m → has_line_feed rest ≡ true → has_first_line (m ++ rest) ≡ true
token_first [] rest token e = let some : 0 < length {A = ℕ} [] = token.0 in absurd (omega arith)
token_first (c ∷ m) rest token e =
    let first = line_byte_cases c _ _ refl refl (All-head (λ v. is_token_byte v ≡ true) c m token.1) in
    ap (λ t. if t then has_first_line (m ++ rest) else has_line_feed (m ++ rest)) first ∙ lf_behind m rest e

-- ---- a head's first line has ended

request_line : (bytes rest : List ℕ) (h : RequestHead) → ReadsRequest bytes h rest → has_first_line bytes ≡ true
request_line bytes rest h reads =
    let behind = print_section h.fields h.last ++ rest in
    let line = lf_behind (print_version h.minor) (print_end h.line_end ++ behind) (lf_in_end h.line_end behind) in
    let target = lf_behind h.target (32 ∷ (print_version h.minor ++ (print_end h.line_end ++ behind))) line in
    ap has_first_line (reads.1 ∙ print_request-append h rest)
    ∙ behind_blanks h.blank (h.method ++ 32 ∷ (h.target ++ 32 ∷ (print_version h.minor ++ (print_end h.line_end ++ behind))))
    ∙ token_first h.method (32 ∷ (h.target ++ 32 ∷ (print_version h.minor ++ (print_end h.line_end ++ behind)))) reads.0.method target

response_line : (bytes rest : List ℕ) (h : ResponseHead) → ReadsResponse bytes h rest → has_first_line bytes ≡ true
response_line bytes rest h reads =
    let behind = print_section h.fields h.last ++ rest in
    let reason = lf_behind (print_reason h.reason) (print_end h.line_end ++ behind) (lf_in_end h.line_end behind) in
    let code = lf_behind h.digits (print_reason h.reason ++ (print_end h.line_end ++ behind)) reason in
    ap has_first_line (reads.1 ∙ print_response-append h rest)
    ∙ behind_blanks h.blank (print_version h.minor ++ 32 ∷ (h.digits ++ (print_reason h.reason ++ (print_end h.line_end ++ behind))))
    ∙ lf_behind (codes "TTP/1." ++ (48 + h.minor) ∷ [])
    (32 ∷ (h.digits ++ (print_reason h.reason ++ (print_end h.line_end ++ behind)))) code

-- where the first line hasn't ended there is no head
pub no_line_no_head : (side : MessageSide) (bytes : List ℕ) → has_first_line bytes ≡ false → HasNoHead side bytes
no_line_no_head of_requests bytes e = λ h rest x. true≢false (sym (request_line bytes rest h x) ∙ e)
no_line_no_head of_responses bytes e = λ h rest x. true≢false (sym (response_line bytes rest h x) ∙ e)

-- ---- a target that goes on

no_lf_target : (bytes : List ℕ) → AllPass is_uri_byte bytes → has_line_feed bytes ≡ false
no_lf_target [] all = refl
no_lf_target (b ∷ bytes) all =
    uri_first b bytes _ refl (All-head (λ v. is_uri_byte v ≡ true) b bytes all)
    (no_lf_target bytes (All-tail (λ v. is_uri_byte v ≡ true) b bytes all))
  where
    uri_first : (b : ℕ) (bytes : List ℕ) (t : Bool) → (b == line_feed) ≡ t → is_uri_byte b ≡ true → has_line_feed bytes ≡ false
        → (b == line_feed || has_line_feed bytes) ≡ false
    uri_first b bytes true e uri rest = absurd (true≢false (sym uri ∙ ap is_uri_byte (eqb-true b line_feed e)))
    uri_first b bytes false e uri rest = ap (λ t. t || has_line_feed bytes) e ∙ rest

token_byte : (b : ℕ) (bytes : List ℕ) (t : Bool) → (b == line_feed) ≡ t → is_token_byte b ≡ true → has_line_feed bytes ≡ false
    → (b == line_feed || has_line_feed bytes) ≡ false
unfolding is_token_byte
token_byte b bytes true e token rest = absurd (true≢false (sym token ∙ ap is_token_byte (eqb-true b line_feed e)))
token_byte b bytes false e token rest = ap (λ t. t || has_line_feed bytes) e ∙ rest

no_lf_token : (m rest : List ℕ) → AllPass is_token_byte m → has_line_feed rest ≡ false → has_line_feed (m ++ rest) ≡ false
no_lf_token [] rest all e = e
no_lf_token (b ∷ m) rest all e =
    token_byte b (m ++ rest) _ refl (All-head (λ v. is_token_byte v ≡ true) b m all)
    (no_lf_token m rest (All-tail (λ v. is_token_byte v ≡ true) b m all) e)

no_line_token : (m rest : List ℕ) → IsToken m → has_line_feed rest ≡ false → has_first_line (m ++ rest) ≡ false
no_line_token [] rest token e = let some : 0 < length {A = ℕ} [] = token.0 in absurd (omega arith)
no_line_token (c ∷ m) rest token e =
    let first = line_byte_cases c _ _ refl refl (All-head (λ v. is_token_byte v ≡ true) c m token.1) in
    ap (λ t. if t then has_first_line (m ++ rest) else has_line_feed (m ++ rest)) first
    ∙ no_lf_token m rest (All-tail (λ v. is_token_byte v ≡ true) c m token.1) e

no_line_in_target : (bytes : List ℕ) → EndsInTarget bytes → has_first_line bytes ≡ false
no_line_in_target bytes x =
    ap has_first_line (x.5 ∙ append_assoc (print_blank x.0) x.1 (32 ∷ x.2)) ∙ behind_blanks x.0 (x.1 ++ 32 ∷ x.2)
    ∙ no_line_token x.1 (32 ∷ x.2) x.3 (no_lf_target x.2 x.4)

-- where the first line has ended and more may come, it can't be that nothing may
pub not_never : (side : MessageSide) (bytes : List ℕ) → MayBecomeHead side bytes → has_first_line bytes ≡ true → NeverHasHead side bytes → ⊥
not_never of_requests bytes (inl more) line never = never more.0 more.1 [] more.2
not_never of_requests bytes (inr ends) line never = true≢false (sym line ∙ no_line_in_target bytes ends)
not_never of_responses bytes more line never = never more.0 more.1 [] more.2

-- ---- more bytes keep the first line's end

or_left : (p q : Bool) → p ≡ true → (p || q) ≡ true
or_left true q e = refl
or_left false q e = absurd (true≢false (sym e))

stays : (t : Bool) (bytes more : List ℕ) → (has_first_line bytes ≡ true → has_first_line (bytes ++ more) ≡ true)
    → (if t then has_first_line bytes else has_line_feed bytes) ≡ true
    → (if t then has_first_line (bytes ++ more) else has_line_feed (bytes ++ more)) ≡ true
stays true bytes more rest e = rest e
stays false bytes more rest e =
    list_any-append (λ c. c == line_feed) bytes more ∙ or_left (has_line_feed bytes) (has_line_feed more) e

pub first_line_stays : (bytes more : List ℕ) → has_first_line bytes ≡ true → has_first_line (bytes ++ more) ≡ true
first_line_stays [] more e = absurd (true≢false (sym e))
first_line_stays (b ∷ bytes) more e = stays (is_line_byte b) bytes more (first_line_stays bytes more) e
