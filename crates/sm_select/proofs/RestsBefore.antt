-- What completes a selector behind a token completes it before the token, from the place that the token leads on from.
use Rattle.std.proofs.Common.{◌≡◌, inl, inr, true, false, List, [], ◌∷◌, ◌++◌, refl, sym, ap, ◌∙◌, subst, append_assoc, append-nil, codes}
use Rattle.std.specs.Prelude.{map}
use Rattle.sm_select.specs.Selectors.{Attribute, id_of, namespace_of, name_of, member_of, trait_of}
use Rattle.sm_select.specs.Selectors.{Step, any_shape, of_kind, has, compares, forward, back, walk, along, picked_by, picks_none}
use Rattle.sm_select.specs.Selectors.{picks_some}
use Rattle.sm_select.specs.Selectors.{Steps, no_steps, then, Alternatives, no_selectors, or_by, steps_of, alternatives_of}
use Rattle.sm_select.specs.declared.tokens.SelectorForm.{SelectorForm}
use Rattle.sm_select.specs.declared.tokens.SelectorForm.TheVariants.{Is, Not, Test}
use Rattle.sm_select.specs.Tokens.{Token, terminal, word}
use Rattle.sm_select.specs.Grammar.{type_word, SpellsPath, SpellsStep, SpellsSteps, SpellsMoreList}
use Rattle.sm_select.specs.steps.Places.{Piece, ReadAs, Frame, frame, held, IsListed, Place, stepping, path_wanted, trait_wanted}
use Rattle.sm_select.specs.steps.Places.{key_wanted}
use Rattle.sm_select.specs.steps.Places.{behind_path, value_wanted, behind_value, behind_fold, name_wanted, behind_name, Moves, star}
use Rattle.sm_select.specs.steps.Places.{a_kind}
use Rattle.sm_select.specs.steps.Places.{greater, smaller, tilde, opens_path, opens_names, opens_is, opens_not, opens_test, closes, another}
use Rattle.sm_select.specs.steps.Places.{at_id, at_namespace, at_name, at_member, at_trait, of_trait, bar, of_key, had, stands_to, of_value}
use Rattle.sm_select.specs.steps.Places.{another_value, folds, compared, compared_folded, of_name, another_name, closes_names, Runs}
use Rattle.sm_select.specs.steps.Places.{IsWhole}
use Rattle.sm_select.specs.steps.Resting.{step_list, selector_list, Closing, Onward, Compared, Rest}

pub steps_back : (ss : Steps) → steps_of (step_list ss) ≡ ss
steps_back no_steps = refl
steps_back (then s ss) = ap (then s) (steps_back ss)

pub selectors_back : (a : Alternatives) → alternatives_of (map steps_of (selector_list a)) ≡ a
selectors_back no_selectors = refl
selectors_back (or_by ss a) = ap (λ x. or_by x (alternatives_of (map steps_of (selector_list a)))) (steps_back ss)
    ∙ ap (or_by ss) (selectors_back a)

-- a step stands first, and behind it the selector goes on or ends
step_came : (step : Step) (ss : List Step) (fs : List Frame) (ts r : List Token) (steps : Steps) → SpellsStep step ts r
    → Onward (ss ++ step ∷ []) fs r steps → Rest (stepping ss fs) ts steps
step_came step [] fs ts r steps spelled (on, b, more, closing) = (then step on, b, (r, spelled, more), closing)
step_came step (s ∷ ss) fs ts r steps spelled (on, b, more, closing) = (
  then step on,
  b,
  (r, spelled, more),
  subst (λ x. Closing fs x b steps) (append_assoc (s ∷ ss) (step ∷ []) (step_list on)) closing,
)

-- behind a step the selector goes on or ends
onward : (step : Step) (ss : List Step) (fs : List Frame) (ts : List Token) (steps : Steps) → Rest (stepping (ss ++ step ∷ []) fs) ts steps
    → Onward (ss ++ step ∷ []) fs ts steps
onward step [] fs ts steps rest = rest
onward step (s ∷ ss) fs ts steps rest = rest

-- a step of one token
single : (step : Step) (ss : List Step) (fs : List Frame) (t u : Token) (ts : List Token) (steps : Steps) → SpellsStep step (u ∷ ts) ts
    → t ≡ u → Rest (stepping (ss ++ step ∷ []) fs) ts steps → Rest (stepping ss fs) (t ∷ ts) steps
single step ss fs t u ts steps spelled e rest =
    subst (λ x. Rest (stepping ss fs) (x ∷ ts) steps) (sym e) (step_came step ss fs (u ∷ ts) ts steps spelled (onward step ss fs ts steps
    rest))

-- an attribute
attribute : (ss : List Step) (fs : List Frame) (t : Token) (ts : List Token) (steps : Steps) → t ≡ terminal (codes "[")
    → Rest (path_wanted ss fs) ts steps → Rest (stepping ss fs) (t ∷ ts) steps
attribute ss fs t ts steps e (path, b, spelled, inl (r, closed, on)) =
    step_came (has path) ss fs (t ∷ ts) r steps (ts, ap (λ x. x ∷ ts) e, subst (λ x. SpellsPath path ts x) closed spelled) on
attribute ss fs t ts steps e (path, b, spelled, inr (op, vs, fold, here, c, r, signed, values, folded, on)) =
    step_came (compares path op vs fold) ss fs (t ∷ ts) r steps (record {
      opened = ts;
      compared = here;
      valued = c;
      opens = ap (λ x. x ∷ ts) e;
      of_path = subst (λ x. SpellsPath path ts x) signed spelled;
      with_values = values;
      folded = folded;
    }) on

-- a form
form_is : (ss : List Step) (fs : List Frame) (t : Token) (ts : List Token) (steps : Steps) → t ≡ terminal (codes ":is(")
    → Rest (stepping [] (frame Is ss [] ∷ fs)) ts steps → Rest (stepping ss fs) (t ∷ ts) steps
form_is ss fs t ts steps e (on, r, spelled, (more, after, b, c, listed, one, went, closing)) =
    step_came (picked_by (or_by on more)) ss fs (t ∷ ts) b steps (ts, ap (λ x. x ∷ ts) e, (r, spelled, listed)) (after, c, went, moved)
  where
    same : picked_by (alternatives_of (map steps_of (step_list on ∷ selector_list more))) ≡ picked_by (or_by on more)
    same = ap picked_by (selectors_back (or_by on more))

    moved : Closing fs ((ss ++ picked_by (or_by on more) ∷ []) ++ step_list after) c steps
    moved = subst (λ x. Closing fs x c steps) (ap (λ x. ss ++ x ∷ step_list after) same
        ∙ sym (append_assoc ss (picked_by (or_by on more) ∷ []) (step_list after))) closing

form_test : (ss : List Step) (fs : List Frame) (t : Token) (ts : List Token) (steps : Steps) → t ≡ terminal (codes ":test(")
    → Rest (stepping [] (frame Test ss [] ∷ fs)) ts steps → Rest (stepping ss fs) (t ∷ ts) steps
form_test ss fs t ts steps e (on, r, spelled, (more, after, b, c, listed, one, went, closing)) =
    step_came (picks_some (or_by on more)) ss fs (t ∷ ts) b steps (ts, ap (λ x. x ∷ ts) e, (r, spelled, listed)) (after, c, went, moved)
  where
    same : picks_some (alternatives_of (map steps_of (step_list on ∷ selector_list more))) ≡ picks_some (or_by on more)
    same = ap picks_some (selectors_back (or_by on more))

    moved : Closing fs ((ss ++ picks_some (or_by on more) ∷ []) ++ step_list after) c steps
    moved = subst (λ x. Closing fs x c steps) (ap (λ x. ss ++ x ∷ step_list after) same
        ∙ sym (append_assoc ss (picks_some (or_by on more) ∷ []) (step_list after))) closing

form_not : (ss : List Step) (fs : List Frame) (t : Token) (ts : List Token) (steps : Steps) → t ≡ terminal (codes ":not(")
    → Rest (stepping [] (frame Not ss [] ∷ fs)) ts steps → Rest (stepping ss fs) (t ∷ ts) steps
form_not ss fs t ts steps e (on, r, spelled, (more, after, b, c, listed, inr several, went, closing)) = absurd several
form_not ss fs t ts steps e (on, r, spelled, (more, after, b, c, listed, inl one, went, closing)) =
    step_came (picks_none on) ss fs (t ∷ ts) b steps (ts, ap (λ x. x ∷ ts) e, subst (λ x. SpellsSteps on ts x) closed spelled)
    (after, c, went, moved)
  where
    closed : r ≡ terminal (codes ")") ∷ b
    closed = subst (λ x. SpellsMoreList x r b) one listed

    moved : Closing fs ((ss ++ picks_none on ∷ []) ++ step_list after) c steps
    moved = subst (λ x. Closing fs x c steps) (ap (λ x. ss ++ picks_none x ∷ step_list after) (steps_back on)
        ∙ sym (append_assoc ss (picks_none on ∷ []) (step_list after))) closing

form_closed : (s : Step) (ss : List Step) (form : SelectorForm) (outer : List Step) (done : List (List Step)) (fs : List Frame) (t : Token)
    (ts : List Token)
    (steps : Steps) → t ≡ terminal (codes ")") → Onward (outer ++ held form (done ++ (s ∷ ss) ∷ []) ∷ []) fs ts steps
    → Rest (stepping (s ∷ ss) (frame form outer done ∷ fs)) (t ∷ ts) steps
form_closed s ss form outer done fs t ts steps e (on, b, went, closing) = (
  no_steps,
  t ∷ ts,
  refl,
  (no_selectors, on, ts, b, ap (λ x. x ∷ ts) e, inl refl, went, moved),
)
  where
    same : (outer ++ held form (done ++ (s ∷ ss) ∷ []) ∷ []) ++ step_list on ≡ outer ++ held form (done ++ ((s ∷ ss) ++ []) ∷ []) ∷
        step_list on
    same = append_assoc outer (held form (done ++ (s ∷ ss) ∷ []) ∷ []) (step_list on)
        ∙ ap (λ x. outer ++ held form (done ++ x ∷ []) ∷ step_list on) (sym (append-nil (s ∷ ss)))

    moved : Closing fs (outer ++ held form (done ++ ((s ∷ ss) ++ []) ∷ []) ∷ step_list on) b steps
    moved = subst (λ x. Closing fs x b steps) same closing

form_goes_on : (s : Step) (ss : List Step) (form : SelectorForm) (outer : List Step) (done : List (List Step)) (fs : List Frame) (t : Token)
    (ts : List Token)
    (steps : Steps) → IsListed form → t ≡ terminal (codes ",")
    → Rest (stepping [] (frame form outer (done ++ (s ∷ ss) ∷ []) ∷ fs)) ts steps
    → Rest (stepping (s ∷ ss) (frame form outer done ∷ fs)) (t ∷ ts) steps
form_goes_on s ss form outer done fs t ts steps several e (on, r, spelled, (more, after, b, c, listed, one, went, closing)) = (
  no_steps,
  t ∷ ts,
  refl,
  (or_by on more, after, b, c, (ts, r, ap (λ x. x ∷ ts) e, spelled, listed), inr several, went, moved),
)
  where
    same : (done ++ (s ∷ ss) ∷ []) ++ step_list on ∷ selector_list more ≡ done ++ ((s ∷ ss) ++ []) ∷ step_list on ∷ selector_list more
    same = append_assoc done ((s ∷ ss) ∷ []) (step_list on ∷ selector_list more)
        ∙ ap (λ x. done ++ x ∷ step_list on ∷ selector_list more) (sym (append-nil (s ∷ ss)))

    moved : Closing fs (outer ++ held form (done ++ ((s ∷ ss) ++ []) ∷ step_list on ∷ selector_list more) ∷ step_list after) c steps
    moved = subst (λ x. Closing fs (outer ++ held form x ∷ step_list after) c steps) same closing

-- a path's end
path_ends : (ss : List Step) (fs : List Frame) (path : Attribute) (ts : List Token) (steps : Steps) → Compared ss fs path ts steps
    → Rest (behind_path ss fs path) ts steps
path_ends ss fs id_of ts steps c = c
path_ends ss fs namespace_of ts steps c = c
path_ends ss fs name_of ts steps c = c
path_ends ss fs member_of ts steps c = c
path_ends ss fs (trait_of u ks) ts steps c = ([], ts, refl, subst (λ x. Compared ss fs (trait_of u x) ts steps) (sym (append-nil ks)) c)

pub rest_before : {p q : Place} {x : Piece} (t : Token) (ts : List Token) (steps : Steps) → Moves p x q → ReadAs x t → Rest q ts steps
    → Rest p (t ∷ ts) steps
rest_before t ts steps (star {ss} {fs}) e rest = single any_shape ss fs t (terminal (codes "*")) ts steps refl e rest
rest_before t ts steps (a_kind {ss} {fs} {k}) e rest = single (of_kind k) ss fs t (word (type_word k)) ts steps refl e rest
rest_before t ts steps (greater {ss} {fs}) e rest = single forward ss fs t (terminal (codes ">")) ts steps refl e rest
rest_before t ts steps (smaller {ss} {fs}) e rest = single back ss fs t (terminal (codes "<")) ts steps refl e rest
rest_before t ts steps (tilde {ss} {fs}) e rest = single walk ss fs t (terminal (codes "~>")) ts steps refl e rest
rest_before t ts steps (opens_path {ss} {fs}) e rest = attribute ss fs t ts steps e rest
rest_before t ts steps (opens_names {ss} {fs}) e (n, more, here, r, named, others, on) =
    step_came (along (n ∷ more)) ss fs (t ∷ ts) r steps (ts, ap (λ x. x ∷ ts) e, (here, named, others)) on
rest_before t ts steps (opens_is {ss} {fs}) e rest = form_is ss fs t ts steps e rest
rest_before t ts steps (opens_not {ss} {fs}) e rest = form_not ss fs t ts steps e rest
rest_before t ts steps (opens_test {ss} {fs}) e rest = form_test ss fs t ts steps e rest
rest_before t ts steps (closes {s} {ss} {form} {outer} {done} {fs}) e rest =
    form_closed s ss form outer done fs t ts steps e (onward (held form (done ++ (s ∷ ss) ∷ [])) outer fs ts steps rest)
rest_before t ts steps (another {s} {ss} {form} {outer} {done} {fs} several) e rest =
    form_goes_on s ss form outer done fs t ts steps several e rest
rest_before t ts steps (at_id {ss} {fs}) e rest = (id_of, ts, ap (λ x. x ∷ ts) e, rest)
rest_before t ts steps (at_namespace {ss} {fs}) e rest = (namespace_of, ts, ap (λ x. x ∷ ts) e, rest)
rest_before t ts steps (at_name {ss} {fs}) e rest = (name_of, ts, ap (λ x. x ∷ ts) e, rest)
rest_before t ts steps (at_member {ss} {fs}) e rest = (member_of, ts, ap (λ x. x ∷ ts) e, rest)
rest_before t ts steps (at_trait {ss} {fs}) e (w, u, ks, here, b, worded, means, keys, c) =
    (trait_of u ks, b, (w, here, ap (λ x. x ∷ ts) e ∙ ap (λ x. terminal (codes "trait|") ∷ x) worded, means, keys), c)
rest_before t ts steps (of_trait {ss} {fs} {u}) (w, e, means) (more, b, keys, c) = (w, u, more, ts, b, ap (λ x. x ∷ ts) e, means, keys, c)
rest_before t ts steps (bar {ss} {fs} {u} {ks}) e (k, more, here, b, keyed, keys, c) =
    (k ∷ more, b, (ts, here, ap (λ x. x ∷ ts) e, keyed, keys), c)
rest_before t ts steps (of_key {ss} {fs} {u} {ks} {k}) read (more, b, keys, c) = (
  k,
  more,
  ts,
  b,
  elim read [ inl (is, e) ↦ inl (is, ap (λ x. x ∷ ts) e) | inr e ↦ inr (ap (λ x. x ∷ ts) e) ],
  keys,
  subst (λ x. Compared ss fs (trait_of u x) b steps) (append_assoc ks (k ∷ []) more) c,
)
rest_before t ts steps (had {ss} {fs} {path}) e rest =
    path_ends ss fs path (t ∷ ts) steps (inl (ts, ap (λ x. x ∷ ts) e, onward (has path) ss fs ts steps rest))
rest_before t ts steps (stands_to {ss} {fs} {path} {op}) e (v, more, fold, here, b, r, valued, values, folded, on) =
    path_ends ss fs path (t ∷ ts) steps (inr (op, v ∷ more, fold, ts, b, r, ap (λ x. x ∷ ts) e, (here, valued, values), folded, on))
rest_before t ts steps (of_value {ss} {fs} {path} {op} {vs} {v}) read (more, fold, b, r, values, folded, on) = (
  v,
  more,
  fold,
  ts,
  b,
  r,
  elim read [
    | inl e ↦ inl (ap (λ x. x ∷ ts) e)
    | inr (inl e) ↦ inr (inl (ap (λ x. x ∷ ts) e))
    | inr (inr (is, e)) ↦ inr (inr (
      is,
      ap (λ
          x. x ∷ ts) e,
    ))
  ],
  values,
  folded,
  subst (λ x. Onward (ss ++ compares path op x fold ∷ []) fs r steps) (append_assoc vs (v ∷ []) more) on,
)
rest_before t ts steps (another_value {ss} {fs} {path} {op} {vs}) e (v, more, fold, here, b, r, valued, values, folded, on) =
    (v ∷ more, fold, b, r, (ts, here, ap (λ x. x ∷ ts) e, valued, values), folded, on)
rest_before t ts steps (folds {ss} {fs} {path} {op} {vs}) e (r, closed, on) = (
  [],
  true,
  t ∷ ts,
  r,
  refl,
  ap (λ x. x ∷ ts) e ∙ ap (λ x. word (codes "i") ∷ x) closed,
  subst (λ x. Onward (ss ++ compares path op x true ∷ []) fs r steps) (sym (append-nil vs)) on,
)
rest_before t ts steps (compared {ss} {fs} {path} {op} {vs}) e rest = (
  [],
  false,
  t ∷ ts,
  ts,
  refl,
  ap (λ x. x ∷ ts) e,
  subst (λ x. Onward (ss ++ compares path op x false ∷ []) fs ts steps) (sym (append-nil vs))
      (onward (compares path op vs false) ss fs ts steps rest),
)
rest_before t ts steps (compared_folded {ss} {fs} {path} {op} {vs}) e rest =
    (ts, ap (λ x. x ∷ ts) e, onward (compares path op vs true) ss fs ts steps rest)
rest_before t ts steps (of_name {ss} {fs} {ns} {r}) e (more, b, names, on) =
    (r, more, ts, b, ap (λ x. x ∷ ts) e, names, subst (λ x. Onward (ss ++ along x ∷ []) fs b steps) (append_assoc ns (r ∷ []) more) on)
rest_before t ts steps (another_name {ss} {fs} {ns}) e (n, more, here, r, named, names, on) =
    (n ∷ more, r, (here, ap (λ x. x ∷ ts) e ∙ ap (λ x. terminal (codes ",") ∷ x) named, names), on)
rest_before t ts steps (closes_names {ss} {fs} {ns}) e rest = (
  [],
  ts,
  ap (λ x. x ∷ ts) e,
  subst (λ x. Onward (ss ++ along x ∷ []) fs ts steps) (sym (append-nil ns)) (onward (along ns) ss fs ts steps rest),
)

-- so what leads to a whole selector spells it
whole_rests : (p : Place) (steps : Steps) → IsWhole p steps → Rest p [] steps
whole_rests (stepping [] fs) steps w = absurd w
whole_rests (stepping (s ∷ ss) []) steps w =
    (no_steps, [], refl, (refl, w ∙ ap steps_of (sym (append-nil (s ∷ ss)))))
whole_rests (stepping (s ∷ ss) (f ∷ fs)) steps w = absurd w
whole_rests (path_wanted ss fs) steps w = absurd w
whole_rests (trait_wanted ss fs) steps w = absurd w
whole_rests (key_wanted ss fs u ks) steps w = absurd w
whole_rests (behind_path ss fs path) steps w = absurd w
whole_rests (value_wanted ss fs path op vs) steps w = absurd w
whole_rests (behind_value ss fs path op vs) steps w = absurd w
whole_rests (behind_fold ss fs path op vs) steps w = absurd w
whole_rests (name_wanted ss fs ns) steps w = absurd w
whole_rests (behind_name ss fs ns) steps w = absurd w

pub run_rests : (p q : Place) (ts : List Token) (steps : Steps) → Runs p ts q → IsWhole q steps → Rest p ts steps
run_rests p q [] steps e w = whole_rests p steps (subst (λ x. IsWhole x steps) (sym e) w)
run_rests p q (t ∷ ts) steps (next, leads, run) w = rest_before t ts steps leads.moves leads.read (run_rests next q ts steps run w)

pub run_spells : (q : Place) (ts : List Token) (steps : Steps) → Runs (stepping [] []) ts q → IsWhole q steps → SpellsSteps steps ts []
run_spells q ts steps run w = by_rest (run_rests (stepping [] []) q ts steps run w)
  where
    by_rest : Rest (stepping [] []) ts steps → SpellsSteps steps ts []
    by_rest (on, r, spelled, (none, same)) = subst (λ x. SpellsSteps x ts []) (sym (same ∙ steps_back on)) (subst (λ x. SpellsSteps on ts
        x) none spelled)
