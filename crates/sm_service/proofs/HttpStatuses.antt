-- The status of a success, and those of errors, are of their side where no rule fails; and a status without a body has none.
use Rattle.std.proofs.Common.{◌≡◌, ◌⊎◌, inl, inr, ℕ, ℤ, pos, ◌≤◌, Bool, true, false, not, ◌||◌, List, [], Option, Some, None, refl, sym, ap, subst}
use Rattle.std.proofs.Common.{◌∙◌, arith, bytes_eq}
use Rattle.std.specs.Prelude.{codes}
use Rattle.std.specs.Fmt.{signed_decimal}
use Rattle.std.specs.List.{Contains}
use Rattle.std.specs.Option.{option_map, unwrap_or}
use Rattle.sm_model.specs.Graphs.{GraphMaps, ShapeEntry}
use Rattle.sm_model.specs.declared.kind.Kind.TheVariants.{Structure}
use Rattle.sm_model.proofs.Worklist.{apart}
use Rattle.sm_compile.specs.Compiled.{IdSet, Numbering}
use Rattle.sm_compile.specs.TraitIds.{error_id}
use Rattle.sm_compile.proofs.SoundTests.{first_of, second_of}
use Rattle.sm_rules.specs.Bindings.{an_output}
use Rattle.sm_rules.specs.Http.{HasOutputBody, forbids_body, is_from_to, is_status_of, success_code_of, wrong_code}
use Rattle.sm_rules.specs.Ready.{NoneFailsIn}
use Rattle.sm_rules.specs.Words.{IsOperation, IsOwnShape, has_trait}
use Rattle.sm_accepted.proofs.TraitsRight.{must}
use Rattle.sm_service.specs.Compiled.{SaysError}
use Rattle.sm_service.specs.HttpServable.{IsStatusOf, IsSuccessCode}
use Rattle.sm_service.specs.WireMembers.{WireMember, stands_in_body}
use Rattle.sm_service.specs.declared.error.ErrorShape.{ErrorShape}
use Rattle.sm_service.proofs.ErrorSides.{IsClientOrServer, between, right, side}

number_is : (a b : ℕ) → Path ℤ (pos a) (pos b) → a ≡ b
number_is a b h = cc

-- a status by whose error it is
server_else : (a b : Bool) → (a || (b || false)) ≡ true → a ≡ false → b ≡ true
server_else true b h e = absurd (apart (sym e))
server_else false true h e = refl
server_else false false h e = h

judged : (b c : Bool) → b ≡ true → (not b || c) ≡ true → c ≡ true
judged true c is h = h
judged false c is h = absurd (apart is)

status_by : (client : Bool) (status : Option ℕ) (t : List ℕ) → client ≡ bytes_eq t (codes "client") → IsClientOrServer t
    → ((k : ℕ) → status ≡ Some k → is_status_of (Some t) (pos k) ≡ true) → IsStatusOf client status
status_by true None t is either right = tt
status_by false None t is either right = tt
status_by true (Some k) t is either right =
    between 400 499 k (judged (bytes_eq t (codes "client")) (is_from_to (pos 400) (pos 499) (pos k)) (sym is)
    (first_of (not (bytes_eq t (codes "client")) || is_from_to (pos 400) (pos 499) (pos k)) _ (right k refl)))
status_by false (Some k) t is either right =
    between 500 599 k (judged (bytes_eq t (codes "server")) (is_from_to (pos 500) (pos 599) (pos k))
    (server_else (bytes_eq t (codes "client")) (bytes_eq t (codes "server")) either (sym is))
    (second_of (not (bytes_eq t (codes "client")) || is_from_to (pos 400) (pos 499) (pos k)) _ (right k refl)))

module _ (g : GraphMaps) (In : IdSet) (none : NoneFailsIn g In) where
  module _ (shape : List ℕ) (s : ShapeEntry) (own : IsOwnShape g shape s) (inside : In shape) (kind : s.kind ≡ Structure)
      (error : has_trait error_id s.traits ≡ true) where
    pub status_of_error : (n : Numbering) (e : ErrorShape) → SaysError g n shape e → IsStatusOf e.client e.status
    status_of_error n e says =
        let t = side g In none shape s own inside kind error in
        status_by e.client e.status t.0
        (says.client ∙ ap (λ (o : Option (List ℕ)). bytes_eq (unwrap_or o []) (codes "client")) t.1) t.2
        (λ k is. right g In none shape s own inside kind error (pos k) (sym says.status ∙ ap (option_map pos) is))

  -- the status of a success
  module _ (id : List ℕ) (inside : In id) (operation : IsOperation g id) (code : ℕ)
      (is : pos code ≡ unwrap_or (success_code_of g id) (pos 200)) where
    code_between : (o : Option ℤ) → success_code_of g id ≡ o → pos code ≡ unwrap_or o (pos 200) → (200 ≤ code) × (code ≤ 299)
    code_between None said same =
        let e = number_is code 200 same in (omega (arith, e), omega (arith, e))
    code_between (Some z) said same =
        between 200 299 code (subst (λ z. is_from_to (pos 200) (pos 299) z ≡ true) (sym same)
        (must (is_from_to (pos 200) (pos 299) z) (λ wrong. none.numbers id (signed_decimal z) inside
        (wrong_code z (record { is_operation = operation; said = said; wrong = inl wrong }) refl))))

    forbidden : (k : ℕ) → ((k ≡ 204) ⊎ (k ≡ 205)) → forbids_body (pos k) ≡ true
    forbidden k (inl e) = ap (λ (j : ℕ). forbids_body (pos j)) e
    forbidden k (inr e) = ap (λ (j : ℕ). forbids_body (pos j)) e

    no_body : HasOutputBody g id → (o : Option ℤ) → success_code_of g id ≡ o → pos code ≡ unwrap_or o (pos 200)
        → ((code ≡ 204) ⊎ (code ≡ 205)) → ⊥
    no_body body None said same (inl e) = let c = number_is code 200 same in omega (arith, c, e)
    no_body body None said same (inr e) = let c = number_is code 200 same in omega (arith, c, e)
    no_body body (Some z) said same e =
        none.numbers id (signed_decimal z) inside (wrong_code z (record {
          is_operation = operation;
          said = said;
          wrong = inr (subst (λ y. forbids_body y ≡ true) same (forbidden code e), body);
        }) refl)

    pub success_code : (ws : List WireMember)
        → ((m : WireMember) → Contains ws m → stands_in_body an_output m ≡ true → HasOutputBody g id) → IsSuccessCode ws code
    success_code ws body =
        let b = code_between (success_code_of g id) refl is in
        record {
          least = b.0;
          most = b.1;
          body = λ m among stands e. no_body (body m among stands) (success_code_of g id) refl is e;
        }
