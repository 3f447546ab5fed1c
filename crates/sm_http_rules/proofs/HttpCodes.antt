-- What is told of the code of an operation, and of the status of an error.
use Rattle.std.proofs.Common.{◌≡◌, ◌⊎◌, inl, inr, ℕ, ℤ, Bool, true, false, List, [], Option, Some, None, refl, sym, ap, ◌∙◌}
use Rattle.std.specs.Prelude.{◌↔◌, ◌&&◌, ◌||◌, cond, codes, is_some, not, pos}
use Rattle.std.specs.Fmt.{signed_decimal}
use Rattle.std.specs.Option.{unwrap_or}
use Rattle.std.specs.Str.{bytes_eq}
use Rattle.std.proofs.lemmas.Option.{none-some, same_Some}
use Rattle.sm_tree.specs.Node.{Node}
use Rattle.sm_tree.specs.Parts.{text_in}
use Rattle.sm_model.specs.EventView.{EventTold}
use Rattle.sm_model.specs.Graphs.{shape_entry, GraphMaps}
use Rattle.sm_model.specs.Relations.{IsInGraph}
use Rattle.sm_model.specs.declared.event.ModelEvent.{ModelEvent}
use Rattle.sm_model.proofs.Worklist.{apart}
use Rattle.sm_compile.specs.Sound.{trait_of}
use Rattle.sm_compile.specs.TraitIds.{error_id, http_error_id}
use Rattle.sm_compile.specs.TraitNodes.{number_of, text_of}
use Rattle.sm_rules.specs.TraitRows.{that_reads}
use Rattle.sm_rules.specs.Http.{HasOutputBody, HasWrongStatus, HasWrongStatusCode, wrong_code, wrong_status, forbids_body, is_from_to}
use Rattle.sm_rules.specs.Http.{is_status_of}
use Rattle.sm_rules.specs.Words.{field_in}
use Rattle.sm_rules.specs.RuleEvents.{IsEventAt, Puts, rule_event}
use Rattle.sm_rules.specs.declared.rule.Rule.TheVariants.{HttpCode}
use Rattle.sm_http_traits.specs.Errors.{status_seen}
use Rattle.sm_http_traits.specs.Http.{code_seen}
use Rattle.sm_http_traits.proofs.ErrorsSaid.{number_read, status_said}
use Rattle.sm_http_traits.proofs.HttpSaid.{operation_there, said_seen, seen_said}
use Rattle.sm_http_traits.proofs.OwnStructures.{is_own, not_so, own_structure}
use Rattle.sm_http_rules.specs.steps.Codes.{TellsCode, TellsStatus, is_wrong_code, is_wrong_status}
use Rattle.sm_passes.specs.Putting.{IsWhere}
use Rattle.sm_passes.proofs.EventsPut.{puts_both, puts_none, puts_same}

-- whose error it is counts where it is the client's or the server's
status_read : (o : Option Node) (z : ℤ) → is_status_of (text_of (that_reads error_id o)) z ≡ is_status_of (text_of o) z
status_read None z = refl
status_read (Some n) z = ap judged (text_cond (value (text_in n))) ∙ over (text_in n)
  where
    client : List ℕ → Bool
    client t = bytes_eq t (codes "client")

    server : List ℕ → Bool
    server t = bytes_eq t (codes "server")

    value : Option (List ℕ) → Bool
    value o = (is_some o && (client (unwrap_or o []) || (server (unwrap_or o []) || false))) || false

    judged : Option (List ℕ) → Bool
    judged o = is_status_of o z

    text_cond : (b : Bool) → text_of (cond b (Some n) None) ≡ cond b (text_in n) None
    text_cond true = refl
    text_cond false = refl

    over_text : (t : List ℕ) (a b : Bool) → client t ≡ a → server t ≡ b → judged (cond (value (Some t)) (Some t) None) ≡ judged (Some t)
    over_text t true b is so = ap (λ y. judged (cond ((y || (server t || false)) || false) (Some t) None)) is
    over_text t false true is so =
        ap (λ y. judged (cond ((y || (server t || false)) || false) (Some t) None)) is
        ∙ ap (λ y. judged (cond ((y || false) || false) (Some t) None)) so
    over_text t false false is so =
        let right : judged (Some t) ≡ true = λ i. (not (is i) || is_from_to (pos 400) (pos 499) z)
        && (not (so i) || is_from_to (pos 500) (pos 599) z) in
        ap (λ y. judged (cond ((y || (server t || false)) || false) (Some t) None)) is
        ∙ ap (λ y. judged (cond ((y || false) || false) (Some t) None)) so
        ∙ sym right

    over : (o : Option (List ℕ)) → judged (cond (value o) o None) ≡ judged o
    over None = refl
    over (Some t) = over_text t (client t) (server t) refl refl

module _ (g : GraphMaps) (id : List ℕ) where
  module _ (z : ℤ) where
    -- the two ways in which a code is wrong
    code_wrong : (bodied : Bool) → ((bodied ≡ true) ↔ HasOutputBody g id)
        → (is_wrong_code bodied z ≡ true)
        ↔ ((is_from_to (pos 200) (pos 299) z ≡ false) ⊎ ((forbids_body z ≡ true) × HasOutputBody g id))
    code_wrong bodied are = (
      λ h. forth (is_from_to (pos 200) (pos 299) z) (forbids_body z) bodied refl refl refl h,
      λ h. elim h [
        | inl out ↦ ap (λ b. not b || (forbids_body z && bodied)) out
        | inr bars ↦ back (is_from_to (pos 200) (pos 299) z) (forbids_body z) bodied bars.0 (are.1 bars.1)
      ],
    )
      where
        forth : (a b c : Bool) → is_from_to (pos 200) (pos 299) z ≡ a → forbids_body z ≡ b → bodied ≡ c → (not a || (b && c)) ≡ true
            → (is_from_to (pos 200) (pos 299) z ≡ false) ⊎ ((forbids_body z ≡ true) × HasOutputBody g id)
        forth false b c is bars has h = inl is
        forth true true true is bars has h = inr (bars, are.0 has)
        forth true true false is bars has h = absurd (apart h)
        forth true false c is bars has h = absurd (apart h)

        back : (a b c : Bool) → b ≡ true → c ≡ true → (not a || (b && c)) ≡ true
        back false b c bars has = refl
        back true true true bars has = refl
        back true true false bars has = absurd (apart has)
        back true false c bars has = absurd (apart bars)

  -- a field that is read, and nothing where there is none
  abbrev pub field_number : Option Node → Option ℤ
  field_number o = number_of (field_in (codes "code") o)

  pub code_put : (bodied : Bool) → ((bodied ≡ true) ↔ HasOutputBody g id) → (z : ℤ) → Some z ≡ code_seen g id → (a b : List ModelEvent)
      → Puts (IsWhere (is_wrong_code bodied z) (rule_event HttpCode id (signed_decimal z))) a b → Puts (TellsCode g id) a b
  code_put bodied are z is a b h =
      puts_same (IsWhere (is_wrong_code bodied z) (rule_event HttpCode id (signed_decimal z))) (TellsCode g id) a b
      (λ e. (forth e, back e)) h
    where
      forth : (e : EventTold) → IsWhere (is_wrong_code bodied z) (rule_event HttpCode id (signed_decimal z)) e → TellsCode g id e
      forth e h =
          let said = seen_said g id field_number refl z (sym is) in
          (z, record { is_operation = said.0; said = said.1; wrong = (code_wrong z bodied are).0 h.0 }, h.1)

      back : (e : EventTold) → TellsCode g id e → IsWhere (is_wrong_code bodied z) (rule_event HttpCode id (signed_decimal z)) e
      back e h =
          let c = h.1 in
          let seen = said_seen g id field_number refl h.0 c.is_operation c.said in
          let same : z ≡ h.0 = same_Some z h.0 (is ∙ seen) in (
            ap (is_wrong_code bodied) same ∙ (code_wrong h.0 bodied are).1 c.wrong,
            h.2 ∙ ap (λ y. rule_event HttpCode id (signed_decimal y)) (sym same),
          )

  pub no_code : None ≡ code_seen g id → (es : List ModelEvent) → Puts (TellsCode g id) es es
  no_code is es =
      puts_none (TellsCode g id) es
      (λ e h. none-some h.0 (is ∙ said_seen g id field_number refl h.0 h.1.is_operation h.1.said))

  said_status : (z : ℤ) → HasWrongStatus g id z → status_seen g id ≡ Some z
  said_status z h =
      let own = h.is_structure in
      ap (λ b. cond b (number_of (trait_of g id http_error_id)) None) (is_own g id own) ∙ sym (number_read (trait_of g id http_error_id))
      ∙ h.said

  pub status_put : (z : ℤ) → Some z ≡ status_seen g id → (a b : List ModelEvent)
      → Puts (IsWhere (is_wrong_status g id z) (rule_event HttpCode id (signed_decimal z))) a b → Puts (TellsStatus g id) a b
  status_put z is a b h =
      puts_same (IsWhere (is_wrong_status g id z) (rule_event HttpCode id (signed_decimal z))) (TellsStatus g id) a b
      (λ e. (forth e, back e)) h
    where
      forth : (e : EventTold) → IsWhere (is_wrong_status g id z) (rule_event HttpCode id (signed_decimal z)) e → TellsStatus g id e
      forth e h =
          let said = status_said g id z is in (
            z,
            record {
              is_structure = own_structure g id said.0;
              said = said.1;
              wrong = status_read (trait_of g id error_id) z ∙ not_so (is_status_of (text_of (trait_of g id error_id)) z) h.0;
            },
            h.1,
          )

      back : (e : EventTold) → TellsStatus g id e → IsWhere (is_wrong_status g id z) (rule_event HttpCode id (signed_decimal z)) e
      back e h =
          let same : z ≡ h.0 = same_Some z h.0 (is ∙ said_status h.0 h.1) in (
            ap (is_wrong_status g id) same ∙ ap not (sym (status_read (trait_of g id error_id) h.0) ∙ h.1.wrong),
            h.2 ∙ ap (λ y. rule_event HttpCode id (signed_decimal y)) (sym same),
          )

  pub no_status : None ≡ status_seen g id → (es : List ModelEvent) → Puts (TellsStatus g id) es es
  no_status is es = puts_none (TellsStatus g id) es (λ e h. none-some h.0 (is ∙ said_status h.0 h.1))

  -- both together
  pub codes_put : (a b c : List ModelEvent) → Puts (TellsCode g id) a b → Puts (TellsStatus g id) b c
      → Puts (IsEventAt HttpCode (HasWrongStatusCode g) id) a c
  codes_put a b c first second =
      puts_same (λ e. TellsCode g id e ⊎ TellsStatus g id e) (IsEventAt HttpCode (HasWrongStatusCode g) id) a c
      (λ e. (forth e, λ h. back e h.0 h.1 h.2)) (puts_both (TellsCode g id) (TellsStatus g id) a b c first second)
    where
      forth : (e : EventTold) → TellsCode g id e ⊎ TellsStatus g id e → IsEventAt HttpCode (HasWrongStatusCode g) id e
      forth e (inl h) = (signed_decimal h.0, wrong_code h.0 h.1 refl, h.2)
      forth e (inr h) = (signed_decimal h.0, wrong_status h.0 h.1 refl, h.2)

      back : (e : EventTold) (detail : List ℕ) → HasWrongStatusCode g id detail → e ≡ rule_event HttpCode id detail
          → TellsCode g id e ⊎ TellsStatus g id e
      back e detail (wrong_code z h is) told = inl (z, h, told ∙ ap (rule_event HttpCode id) is)
      back e detail (wrong_status z h is) told = inr (z, h, told ∙ ap (rule_event HttpCode id) is)

pub code_there : (g : GraphMaps) (id detail : List ℕ) → HasWrongStatusCode g id detail → IsInGraph g id
code_there g id detail (wrong_code z h is) = operation_there g id h.is_operation
code_there g id detail (wrong_status z h is) = (shape_entry h.is_structure.0, h.is_structure.1.0)
