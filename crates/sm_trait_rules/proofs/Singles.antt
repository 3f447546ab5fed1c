-- Two members of a structure carry a trait exactly where the test says so.
use Rattle.std.proofs.Common.{◌≡◌, ◌⊎◌, inl, inr, ℕ, ◌<◌, ◌+◌, Bool, true, false, List, [], ◌∷◌, ◌++◌, drop, get_or, length, map}
use Rattle.std.proofs.Common.{refl, sym, ap, ◌∙◌, subst}
use Rattle.std.specs.Prelude.{◌↔◌, ◌&&◌, ◌||◌, cond}
use Rattle.std.specs.List.{Contains, list_any}
use Rattle.std.proofs.lemmas.List.{drop_more}
use Rattle.sm_model.specs.EventView.{EventTold}
use Rattle.sm_model.specs.GraphView.{maps_of}
use Rattle.sm_model.specs.Graphs.{GraphMaps}
use Rattle.sm_model.specs.Reaching.{id_of_number}
use Rattle.sm_model.specs.declared.graph.Graph.{Graph}
use Rattle.sm_model.specs.declared.event.ModelEvent.{ModelEvent}
use Rattle.sm_model.proofs.OneRising.{contains_behind, contains_either, contains_head, contains_none}
use Rattle.sm_model.proofs.Worklist.{apart}
use Rattle.sm_compile.specs.TraitIds.{idempotency_token_id, http_payload_id, http_prefix_headers_id, http_query_params_id}
use Rattle.sm_compile.specs.TraitIds.{http_response_code_id}
use Rattle.sm_rules.specs.Traits.{CarriesTwice, single_traits}
use Rattle.sm_compile.specs.Looked.{listed_in, listed_under}
use Rattle.sm_rules.specs.RuleEvents.{IsEventAt, Puts}
use Rattle.sm_rules.specs.declared.rule.Rule.TheVariants.{TraitSingle}
use Rattle.sm_http_traits.specs.Carriers.{is_own_structure}
use Rattle.sm_http_traits.proofs.OwnStructures.{OwnStructure, is_own, own_structure}
use Rattle.sm_trait_rules.specs.steps.Twice.{ToldTwice, carried_twice}
use Rattle.sm_passes.specs.Carrying.{carries}
use Rattle.sm_passes.proofs.EventsPut.{puts_both, puts_none, puts_same}

module _ (p : List ℕ → Bool) where
  -- the first that passes
  pub any_split : (ids : List (List ℕ)) → list_any p ids ≡ true
      → (before : List (List ℕ)) × (x : List ℕ) × (later : List (List ℕ)) × (ids ≡ before ++ x ∷ later) × (p x ≡ true)
  any_split [] h = absurd (apart h)
  any_split (id ∷ ids) h = by (p id) refl (any_split ids) h
    where
      by : (b : Bool) → p id ≡ b
          → (list_any p ids ≡ true
          → (before : List (List ℕ)) × (x : List ℕ) × (later : List (List ℕ)) × (ids ≡ before ++ x ∷ later) × (p x ≡ true))
          → (b || list_any p ids) ≡ true
          → (before : List (List ℕ)) × (x : List ℕ) × (later : List (List ℕ)) × (id ∷ ids ≡ before ++ x ∷ later) × (p x ≡ true)
      by true is rest h = ([], id, ids, refl, is)
      by false is rest h = let r = rest h in (id ∷ r.0, r.1, r.2, ap (λ y. id ∷ y) r.3, r.4)

  pub any_back : (before : List (List ℕ)) (x : List ℕ) (later : List (List ℕ)) → p x ≡ true → list_any p (before ++ x ∷ later) ≡ true
  any_back [] x later h = ap (λ b. b || list_any p later) h
  any_back (id ∷ before) x later h = by (p id) (any_back before x later h)
    where
      by : (b : Bool) → list_any p (before ++ x ∷ later) ≡ true → (b || list_any p (before ++ x ∷ later)) ≡ true
      by true h = refl
      by false h = h

module _ (g : GraphMaps) (trait : List ℕ) where
  -- two of these ids carry it, one behind the other
  abbrev pub TwoOf : List (List ℕ) → Type 0
  TwoOf ids =
      (before : List (List ℕ)) × (second : List ℕ) × (later : List (List ℕ)) × (ids ≡ before ++ second ∷ later)
      × ((first : List ℕ) × Contains before first × (carries g trait first ≡ true)) × (carries g trait second ≡ true)

  twice_split : (ids : List (List ℕ)) → carried_twice g trait ids ≡ true → TwoOf ids
  twice_split [] h = absurd (apart h)
  twice_split (id ∷ ids) h = by (carries g trait id) refl (twice_split ids) h
    where
      by : (b : Bool) → carries g trait id ≡ b → (carried_twice g trait ids ≡ true → TwoOf ids)
          → cond b (list_any (carries g trait) ids) (carried_twice g trait ids) ≡ true → TwoOf (id ∷ ids)
      by true is rest h =
          let r = any_split (carries g trait) ids h in
          (id ∷ r.0, r.1, r.2, ap (λ y. id ∷ y) r.3, (id, contains_head id r.0, is), r.4)
      by false is rest h =
          let r = rest h in
          let first = r.4 in
          (id ∷ r.0, r.1, r.2, ap (λ y. id ∷ y) r.3, (first.0, contains_behind id first.0 r.0 first.1, first.2), r.5)

  twice_back : (before : List (List ℕ)) (second : List ℕ) (later : List (List ℕ)) (first : List ℕ) → Contains before first
      → carries g trait first ≡ true → carries g trait second ≡ true → carried_twice g trait (before ++ second ∷ later) ≡ true
  twice_back [] second later first there h k = absurd (contains_none first there)
  twice_back (id ∷ before) second later first there h k =
      by (carries g trait id) refl (contains_either id first before there) (λ more. twice_back before second later first more h k)
    where
      by : (b : Bool) → carries g trait id ≡ b → (id ≡ first) ⊎ Contains before first
          → (Contains before first → carried_twice g trait (before ++ second ∷ later) ≡ true)
          → cond b (list_any (carries g trait) (before ++ second ∷ later)) (carried_twice g trait (before ++ second ∷ later)) ≡ true
      by true is there rest = any_back (carries g trait) before second later k
      by false is (inl same) rest = absurd (apart (sym (subst (λ i. carries g trait i ≡ false) same is) ∙ h))
      by false is (inr more) rest = rest more

  -- where it stands among those of which one member carries one at most
  twice_told : Contains single_traits trait → (id : List ℕ) → OwnStructure g id → carried_twice g trait (listed_under g id) ≡ true
      → CarriesTwice g id trait
  twice_told among id own h =
      let two = twice_split (listed_under g id) h in
      let first = two.4 in
      record {
        s = own.0;
        kind = own.2;
        among = among;
        before = two.0;
        second = two.1;
        behind = record {
          home = own.1;
          later = two.2;
          members = sym (ap listed_in own.1.0) ∙ two.3;
        };
        first = first.0;
        earlier = first.1;
        first_carries = first.2;
        second_carries = two.5;
      }

  told_twice : (id : List ℕ) → CarriesTwice g id trait → carried_twice g trait (listed_under g id) ≡ true
  told_twice id h =
      ap (λ o. carried_twice g trait (listed_in o)) h.behind.home.0 ∙ ap (carried_twice g trait) h.behind.members
      ∙ twice_back h.before h.second h.behind.later h.first h.earlier h.first_carries h.second_carries

-- the traits behind each of them
abbrev behind_params : List (List ℕ)
behind_params = http_response_code_id ∷ []

abbrev behind_prefix : List (List ℕ)
behind_prefix = http_query_params_id ∷ behind_params

abbrev behind_payload : List (List ℕ)
behind_payload = http_prefix_headers_id ∷ behind_prefix

abbrev behind_token : List (List ℕ)
behind_token = http_payload_id ∷ behind_payload

module _ (g : GraphMaps) (id : List ℕ) where
  abbrev pub AnyToldTwice : EventTold → Type 0
  AnyToldTwice e =
      ToldTwice g id idempotency_token_id e ⊎ (ToldTwice g id http_payload_id e ⊎ (ToldTwice g id http_prefix_headers_id e
      ⊎ (ToldTwice g id http_query_params_id e ⊎ ToldTwice g id http_response_code_id e)))

  told_at : (e : EventTold) (trait : List ℕ) → OwnStructure g id → Contains single_traits trait → ToldTwice g id trait e
      → IsEventAt TraitSingle (CarriesTwice g) id e
  told_at e trait own among h = (trait, twice_told g trait among id own h.0, h.1)

  one_told : (e : EventTold) (trait : List ℕ) → Contains single_traits trait → ToldTwice g id trait e → AnyToldTwice e
  one_told e trait c h =
      let at : (t : List ℕ) → t ≡ trait → ToldTwice g id t e = λ t is. subst (λ u. ToldTwice g id u e) (sym is) h in
      elim (contains_either idempotency_token_id trait behind_token c) [
        | inl is ↦ inl (at _ is)
        | inr c2 ↦ elim (contains_either http_payload_id trait behind_payload c2) [
          | inl is ↦ inr (inl (at _ is))
          | inr c3 ↦ elim (contains_either http_prefix_headers_id trait behind_prefix c3) [
            | inl is ↦ inr (inr (inl (at _ is)))
            | inr c4 ↦ elim (contains_either http_query_params_id trait behind_params c4) [
              | inl is ↦ inr (inr (inr (inl (at _ is))))
              | inr c5 ↦ elim (contains_either http_response_code_id trait [] c5) [
                | inl is ↦ inr (inr (inr (inr (at _ is))))
                | inr none ↦ absurd (contains_none trait none)
              ]
            ]
          ]
        ]
      ]

  among_first : Contains single_traits idempotency_token_id
  among_first =
      contains_head idempotency_token_id behind_token

  among_second : Contains single_traits http_payload_id
  among_second =
      contains_behind idempotency_token_id http_payload_id behind_token (contains_head http_payload_id behind_payload)

  among_third : Contains single_traits http_prefix_headers_id
  among_third =
      contains_behind idempotency_token_id http_prefix_headers_id behind_token
      (contains_behind http_payload_id http_prefix_headers_id behind_payload
      (contains_head http_prefix_headers_id behind_prefix))

  among_fourth : Contains single_traits http_query_params_id
  among_fourth =
      contains_behind idempotency_token_id http_query_params_id behind_token
      (contains_behind http_payload_id http_query_params_id behind_payload
      (contains_behind http_prefix_headers_id http_query_params_id behind_prefix
      (contains_head http_query_params_id behind_params)))

  among_fifth : Contains single_traits http_response_code_id
  among_fifth =
      contains_behind idempotency_token_id http_response_code_id behind_token
      (contains_behind http_payload_id http_response_code_id behind_payload
      (contains_behind http_prefix_headers_id http_response_code_id behind_prefix
      (contains_behind http_query_params_id http_response_code_id behind_params
      (contains_head http_response_code_id []))))

  any_told : OwnStructure g id → (e : EventTold) → AnyToldTwice e ↔ IsEventAt TraitSingle (CarriesTwice g) id e
  any_told own e = (forth, λ h. one_told e h.0 h.1.among (told_twice g h.0 id h.1, h.2))
    where
      forth : AnyToldTwice e → IsEventAt TraitSingle (CarriesTwice g) id e
      forth (inl h) = told_at e idempotency_token_id own among_first h
      forth (inr (inl h)) = told_at e http_payload_id own among_second h
      forth (inr (inr (inl h))) = told_at e http_prefix_headers_id own among_third h
      forth (inr (inr (inr (inl h)))) = told_at e http_query_params_id own among_fourth h
      forth (inr (inr (inr (inr h)))) = told_at e http_response_code_id own among_fifth h

  -- the events of each of the traits, one after the other, are those of the rule at a structure
  pub singles_put : (a b c d e f : List ModelEvent) → is_own_structure g id ≡ true → Puts (ToldTwice g id idempotency_token_id) a b
      → Puts (ToldTwice g id http_payload_id) b c → Puts (ToldTwice g id http_prefix_headers_id) c d
      → Puts (ToldTwice g id http_query_params_id) d e → Puts (ToldTwice g id http_response_code_id) e f
      → Puts (IsEventAt TraitSingle (CarriesTwice g) id) a f
  singles_put a b c d e f own p1 p2 p3 p4 p5 =
      puts_same AnyToldTwice (IsEventAt TraitSingle (CarriesTwice g) id) a f (any_told (own_structure g id own))
      (puts_both _ _ a b f p1 (puts_both _ _ b c f p2 (puts_both _ _ c d f p3 (puts_both _ _ d e f p4 p5))))

  -- and at what is none there are none
  pub no_singles : (es : List ModelEvent) → is_own_structure g id ≡ false → Puts (IsEventAt TraitSingle (CarriesTwice g) id) es es
  no_singles es other =
      puts_none (IsEventAt TraitSingle (CarriesTwice g) id) es
      (λ e h. apart (sym other ∙ is_own g id (h.1.s, h.1.behind.home, h.1.kind)))

-- one step of the walk over members
pub seen_more : (seen here any twice : Bool) → (here && seen) ≡ false
    → cond (seen || here) any twice ≡ cond seen (here || any) (cond here any twice)
seen_more true true any twice h = absurd (apart (sym h))
seen_more true false any twice h = refl
seen_more false true any twice h = refl
seen_more false false any twice h = refl

pub seen_both : (seen here any twice : Bool) → (here && seen) ≡ true → cond seen (here || any) (cond here any twice) ≡ true
seen_both true true any twice h = refl
seen_both true false any twice h = absurd (apart h)
seen_both false true any twice h = absurd (apart h)
seen_both false false any twice h = absurd (apart h)

pub seen_last : (seen : Bool) → cond seen false false ≡ false
seen_last true = refl
seen_last false = refl

-- whether two of what is left carry it, or one where one was seen
abbrev pub twice_from : GraphMaps → List ℕ → Bool → List (List ℕ) → Bool
twice_from g trait seen ids = cond seen (list_any (carries g trait) ids) (carried_twice g trait ids)

module _ (g : GraphMaps) (trait : List ℕ) (seen : Bool) (id : List ℕ) (ids : List (List ℕ)) where
  -- by the first of them, where none before it and it both carry it
  pub first_seen : (carries g trait id && seen) ≡ false
      → twice_from g trait (seen || carries g trait id) ids ≡ twice_from g trait seen (id ∷ ids)
  first_seen h = seen_more seen (carries g trait id) (list_any (carries g trait) ids) (carried_twice g trait ids) h

  -- and where they do
  pub second_seen : (carries g trait id && seen) ≡ true → twice_from g trait seen (id ∷ ids) ≡ true
  second_seen h = seen_both seen (carries g trait id) (list_any (carries g trait) ids) (carried_twice g trait ids) h

-- the members from a place on are the one there and those behind it
pub members_from : (g : Graph) (trait : List ℕ) (seen : Bool) (ms : List ℕ) (i : ℕ) → i < length ms
    → twice_from (maps_of g) trait seen (map (id_of_number g) (get_or ms i 0 ∷ drop (i + 1) ms))
    ≡ twice_from (maps_of g) trait seen (map (id_of_number g) (drop i ms))
members_from g trait seen ms i within =
    ap (λ ks. twice_from (maps_of g) trait seen (map (id_of_number g) ks)) (sym (drop_more ms i 0 within))
