-- What the parts of ids between brackets say of them, and those of a shape's mixins.
use Rattle.std.proofs.Common.{◌≡◌, ℕ, false, List, [], map, Some, None, Result, Ok, Err, codes, sym, subst}
use Rattle.sm_model.specs.declared.reference.Ref.{Ref}
use Rattle.sm_idl.specs.Productions.{Tokens, maybe, many}
use Rattle.sm_idl.specs.Words.{mark, the_word, id}
use Rattle.sm_idl.specs.Nodes.{Home, written}
use Rattle.sm_idl.specs.Members.{with_mixins, mixins, or_none}
use Rattle.sm_idl.specs.declared.reader.ReadStop.{ReadStop}
use Rattle.sm_idl.specs.steps.ReaderView.{NoToken, StopsIn, ReadsAs, ReadsOn}
use Rattle.sm_idl.specs.steps.Firm.{HeadIs, AreApart}
use Rattle.sm_idl.specs.steps.Classes.{AMark, AnyWord, With}
use Rattle.sm_idl.specs.steps.IdSteps.{listed_ids}
use Rattle.sm_idl.specs.steps.Reading.{IsRead}
use Rattle.sm_idl.proofs.TokenClasses.{mark_no_word, turned}
use Rattle.sm_idl.proofs.FirmTraits.{the_word_firm}
use Rattle.sm_idl.proofs.FirmMembers.{with_mixins_firm}
use Rattle.sm_idl.proofs.Passing.{one_class, read_wider, stop_wider, whole_read, stops_first, value_read, value_stop}
use Rattle.sm_idl.proofs.Answered.{as_behind}
use Rattle.sm_idl.proofs.Choosing as choosing
use Rattle.sm_idl.proofs.Bracketed as bracketed

pub word_no_bracket : AreApart AnyWord (AMark (codes "]"))
word_no_bracket = turned _ _ (mark_no_word (codes "]"))

module _ (home : Home) where
  abbrev pub made_ids : List (List ℕ) → List Ref
  made_ids ws = map (λ w. written home w false) ws

  pub ids_open : (s r : Tokens) (stop : ReadStop) → StopsIn NoToken (mark (codes "[")) s r stop → StopsIn NoToken (listed_ids home) s r stop
  ids_open s r stop k = bracketed.stops_at_opener (codes "[") (codes "]") AnyWord (many id) made_ids word_no_bracket s r stop k

  pub ids_within : (s a r : Tokens) (stop : ReadStop) → (mark (codes "[")).whole tt s a → StopsIn AnyWord (many id) a r stop
      → StopsIn NoToken (listed_ids home) s r stop
  ids_within s a r stop h k = bracketed.stops_between (codes "[") (codes "]") AnyWord (many id) made_ids word_no_bracket s a r stop h k

  pub ids_close : (ws : List (List ℕ)) (s a b r : Tokens) (stop : ReadStop) → (mark (codes "[")).whole tt s a
      → IsRead AnyWord (many id) ws a b → StopsIn NoToken (mark (codes "]")) b r stop → StopsIn NoToken (listed_ids home) s r stop
  ids_close ws s a b r stop h m k =
      bracketed.stops_at_close (codes "[") (codes "]") AnyWord (many id) made_ids word_no_bracket ws s a b r stop h m k

  pub ids_listed : (ws : List (List ℕ)) (refs : List Ref) (s a b r : Tokens) → refs ≡ made_ids ws → (mark (codes "[")).whole tt s a
      → IsRead AnyWord (many id) ws a b → (mark (codes "]")).whole tt b r → (listed_ids home).whole refs s r
  ids_listed ws refs s a b r e h m k =
      subst (λ z. (listed_ids home).whole z s r) (sym e)
      (bracketed.read_between (codes "[") (codes "]") AnyWord (many id) made_ids word_no_bracket ws s a b r h m k)

  pub stops_at_with : (s r : Tokens) (stop : ReadStop) → StopsIn NoToken (the_word (codes "with")) s r stop
      → StopsIn NoToken (with_mixins home) s r stop
  stops_at_with s r stop k = stops_first NoToken (the_word (codes "with")) (λ _. listed_ids home) s r stop k

  pub behind_with : {V : Type 0} (view : V → List Ref) (s a r : Tokens) (result : Result V ReadStop)
      → (the_word (codes "with")).whole tt s a → ReadsAs view (listed_ids home) a r result → ReadsAs view (with_mixins home) s r result
  behind_with view s a r result h k =
      as_behind view (the_word (codes "with")) (λ _. listed_ids home) (the_word_firm (codes "with")) tt s a r result h k

  pub mixins_none : (s : Tokens) → (HeadIs With s → ⊥) → IsRead With (mixins home) [] s s
  mixins_none s none =
      value_read (maybe (with_mixins home)) or_none None s s (read_wider (maybe (with_mixins home)) None s s (one_class With)
      (choosing.none_read With NoToken (with_mixins home) (with_mixins_firm home) s none))

  pub mixins_some : (refs : List Ref) (s r : Tokens) → (with_mixins home).whole refs s r → IsRead With (mixins home) refs s r
  mixins_some refs s r h =
      value_read (maybe (with_mixins home)) or_none (Some refs) s r (read_wider (maybe (with_mixins home)) (Some refs) s r (one_class With)
      (choosing.some_read With NoToken (with_mixins home) (with_mixins_firm home) refs s r
      (whole_read (with_mixins home) (with_mixins_firm home) refs s r h)))

  pub mixins_stop : (s r : Tokens) (stop : ReadStop) → HeadIs With s → StopsIn NoToken (with_mixins home) s r stop
      → StopsIn With (mixins home) s r stop
  mixins_stop s r stop here k =
      value_stop With (maybe (with_mixins home)) or_none s r stop (stop_wider (maybe (with_mixins home)) s r stop (one_class With)
      (choosing.some_stop With NoToken (with_mixins home) (with_mixins_firm home) s r stop here k))

  pub mixins_here : {V : Type 0} (view : V → List Ref) (s r : Tokens) (result : Result V ReadStop) → HeadIs With s
      → ReadsAs view (with_mixins home) s r result → ReadsOn With view (mixins home) s r result
  mixins_here view s r (Ok v) here m = mixins_some (view v) s r m
  mixins_here view s r (Err stop) here m = mixins_stop s r stop here m

  pub no_mixins : (refs : List Ref) (s : Tokens) → refs ≡ [] → (HeadIs With s → ⊥) → IsRead With (mixins home) refs s s
  no_mixins refs s e none = subst (λ l. IsRead With (mixins home) l s s) (sym e) (mixins_none s none)
