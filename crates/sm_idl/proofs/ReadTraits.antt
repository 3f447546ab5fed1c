-- What the parts of a trait's reading say of the trait, and those of an apply statement's of the statement.
use Rattle.std.proofs.Common.{◌≡◌, ℕ, true, false, List, [], ◌∷◌, Option, Some, None, codes, Result, Ok, Err, refl, sym, ap, subst, ◌∙◌}
use Rattle.sm_tree.specs.Limits.{most_levels}
use Rattle.sm_model.specs.Raw.{Raw}
use Rattle.sm_model.specs.declared.reference.Ref.{Ref}
use Rattle.sm_model.specs.Said.{TraitSaid, Said, apply_said}
use Rattle.sm_idl.specs.Productions.{Tokens, Production, gives, ◌>>=◌, ◌or◌, each, maybe}
use Rattle.sm_idl.specs.Words.{IsWordId, mark, the_word, id}
use Rattle.sm_idl.specs.Nodes.{Home, written, Pair, pair_of, as_object}
use Rattle.sm_idl.specs.Traits.{node_in, pairs_or_node, arguments, argument_value, applied, traits, one_trait, braced_traits, apply}
use Rattle.sm_idl.specs.declared.reader.ReadStop.{ReadStop}
use Rattle.sm_idl.specs.steps.ReaderView.{NoToken, StopsIn, ReadsAs, ReadsOn}
use Rattle.sm_idl.specs.steps.Firm.{HeadIs, AreApart, IsFirm}
use Rattle.sm_idl.specs.steps.Classes.{AMark, NoMark, NodeStart, PairGoesOn, PairAhead, At, Paren, TraitGoesOn, ArgumentGoesOn}
use Rattle.sm_idl.specs.steps.Reading.{IsRead}
use Rattle.sm_idl.proofs.TokenLists.{head_apart}
use Rattle.sm_idl.proofs.FirmShort.{given_firm}
use Rattle.sm_idl.proofs.TokenClasses.{marks_unlike, mark_no_leaf, turned, either_apart}
use Rattle.sm_idl.proofs.FirmNodes.{mark_firm, node_apart}
use Rattle.sm_idl.proofs.FirmArguments.{pairs_or_node_firm, arguments_firm}
use Rattle.sm_idl.proofs.FirmTraits.{word_firm, the_word_firm, node_in_firm, applied_firm, braced_firm}
use Rattle.sm_idl.proofs.Passing.{one_class, read_wider, stop_wider, whole_read}
use Rattle.sm_idl.proofs.Passing.{stops_first, stops_behind, behind_read, value_read, value_stop}
use Rattle.sm_idl.proofs.Choosing as choosing
use Rattle.sm_idl.proofs.Bracketed.{stops_at_opener, stops_between, stops_at_close, read_between}
use Rattle.sm_idl.proofs.PairsAhead.{pair_starts}
use Rattle.sm_idl.proofs.ReadArguments.{pairs_read, pairs_stop, node_read, node_stop}

module _ (home : Home) where
  firm : IsFirm ⊥ NodeStart PairGoesOn (pairs_or_node home)
  firm = pairs_or_node_firm (Some home) most_levels

  -- between the parentheses stands nothing, pairs or a node
  pub argument_none : (s : Tokens) → (HeadIs NodeStart s → ⊥) → IsRead ArgumentGoesOn (maybe (pairs_or_node home)) None s s
  argument_none s none = choosing.none_read NodeStart PairGoesOn (pairs_or_node home) firm s none

  pub argument_pairs : (xs : List Pair) (s r : Tokens) → PairAhead (Some home) s → IsRead NoMark (each (pair_of (node_in home))) xs s r
      → IsRead ArgumentGoesOn (maybe (pairs_or_node home)) (Some (as_object xs)) s r
  argument_pairs xs s r ahead m =
      choosing.some_read NodeStart PairGoesOn (pairs_or_node home) firm (as_object xs) s r
      (pairs_read (Some home) most_levels xs s r ahead m)

  pub argument_pairs_stop : (s r : Tokens) (stop : ReadStop) → PairAhead (Some home) s
      → StopsIn NoMark (each (pair_of (node_in home))) s r stop → StopsIn ArgumentGoesOn (maybe (pairs_or_node home)) s r stop
  argument_pairs_stop s r stop ahead k =
      choosing.some_stop NodeStart PairGoesOn (pairs_or_node home) firm s r stop (pair_starts (Some home) s ahead)
      (pairs_stop (Some home) most_levels s r stop ahead k)

  pub argument_node : (n : Raw) (s r : Tokens) → (PairAhead (Some home) s → ⊥) → (node_in home).whole n s r
      → IsRead ArgumentGoesOn (maybe (pairs_or_node home)) (Some n) s r
  argument_node n s r none h =
      choosing.some_read NodeStart PairGoesOn (pairs_or_node home) firm n s r
      (node_read (Some home) most_levels n s r none (whole_read (node_in home) (node_in_firm home) n s r h))

  pub argument_node_stop : (s r : Tokens) (stop : ReadStop) → HeadIs NodeStart s → (PairAhead (Some home) s → ⊥)
      → StopsIn NoToken (node_in home) s r stop → StopsIn ArgumentGoesOn (maybe (pairs_or_node home)) s r stop
  argument_node_stop s r stop here none k =
      choosing.some_stop NodeStart PairGoesOn (pairs_or_node home) firm s r stop here (node_stop (Some home) most_levels s r stop none k)

  abbrev between_parens : Production (Option Raw)
  between_parens = maybe (pairs_or_node home)

  abbrev kept : Option Raw → Option Raw
  kept v = v

  argument_apart : AreApart ArgumentGoesOn (AMark (codes ")"))
  argument_apart = either_apart _ _ _ (node_apart (codes ")") (marks_unlike (codes "{") (codes ")") refl) (marks_unlike (codes "[")
      (codes ")") refl)) (either_apart _ _ _ (marks_unlike (codes ":") (codes ")") refl) (turned _ _ (mark_no_leaf (codes ")"))))

  pub parens_open : (s r : Tokens) (stop : ReadStop) → StopsIn NoToken (mark (codes "(")) s r stop
      → StopsIn NoToken (arguments home) s r stop
  parens_open s r stop k = stops_at_opener (codes "(") (codes ")") ArgumentGoesOn between_parens kept argument_apart s r stop k

  pub parens_within : (s a r : Tokens) (stop : ReadStop) → (mark (codes "(")).whole tt s a → StopsIn ArgumentGoesOn between_parens a r stop
      → StopsIn NoToken (arguments home) s r stop
  parens_within s a r stop h k = stops_between (codes "(") (codes ")") ArgumentGoesOn between_parens kept argument_apart s a r stop h k

  pub parens_close : (v : Option Raw) (s a b r : Tokens) (stop : ReadStop) → (mark (codes "(")).whole tt s a
      → IsRead ArgumentGoesOn between_parens v a b → StopsIn NoToken (mark (codes ")")) b r stop → StopsIn NoToken (arguments home) s r stop
  parens_close v s a b r stop h m k =
      stops_at_close (codes "(") (codes ")") ArgumentGoesOn between_parens kept argument_apart v s a b r stop h m k

  -- the braces of an apply statement
  abbrev all : List TraitSaid → List TraitSaid
  all ts = ts

  traits_apart : AreApart TraitGoesOn (AMark (codes "}"))
  traits_apart = either_apart _ _ _ (marks_unlike (codes "@") (codes "}") refl) (marks_unlike (codes "(") (codes "}") refl)

  pub braces_open : (s r : Tokens) (stop : ReadStop) → StopsIn NoToken (mark (codes "{")) s r stop
      → StopsIn NoToken (braced_traits home) s r stop
  braces_open s r stop k = stops_at_opener (codes "{") (codes "}") TraitGoesOn (traits home) all traits_apart s r stop k

  pub braces_within : (s a r : Tokens) (stop : ReadStop) → (mark (codes "{")).whole tt s a → StopsIn TraitGoesOn (traits home) a r stop
      → StopsIn NoToken (braced_traits home) s r stop
  braces_within s a r stop h k = stops_between (codes "{") (codes "}") TraitGoesOn (traits home) all traits_apart s a r stop h k

  pub braces_close : (ts : List TraitSaid) (s a b r : Tokens) (stop : ReadStop) → (mark (codes "{")).whole tt s a
      → IsRead TraitGoesOn (traits home) ts a b → StopsIn NoToken (mark (codes "}")) b r stop
      → StopsIn NoToken (braced_traits home) s r stop
  braces_close ts s a b r stop h m k =
      stops_at_close (codes "{") (codes "}") TraitGoesOn (traits home) all traits_apart ts s a b r stop h m k

  pub braces_read : (ts all_of : List TraitSaid) (s a b r : Tokens) → all_of ≡ ts → (mark (codes "{")).whole tt s a
      → IsRead TraitGoesOn (traits home) ts a b → (mark (codes "}")).whole tt b r → (braced_traits home).whole all_of s r
  braces_read ts all_of s a b r e h m k =
      subst (λ l. (braced_traits home).whole l s r) (sym e)
      (read_between (codes "{") (codes "}") TraitGoesOn (traits home) all traits_apart ts s a b r h m k)

  -- parentheses, or none
  pub given_none : (s : Tokens) → (HeadIs Paren s → ⊥) → IsRead Paren (maybe (arguments home)) None s s
  given_none s none =
      read_wider (maybe (arguments home)) None s s (one_class Paren)
      (choosing.none_read Paren NoToken (arguments home) (arguments_firm home) s none)

  pub given_some : (v : Option Raw) (s r : Tokens) → (arguments home).whole v s r → IsRead Paren (maybe (arguments home)) (Some v) s r
  given_some v s r h =
      read_wider (maybe (arguments home)) (Some v) s r (one_class Paren)
      (choosing.some_read Paren NoToken (arguments home) (arguments_firm home) v s r
      (whole_read (arguments home) (arguments_firm home) v s r h))

  pub given_stop : (s r : Tokens) (stop : ReadStop) → HeadIs Paren s → StopsIn NoToken (arguments home) s r stop
      → StopsIn Paren (maybe (arguments home)) s r stop
  given_stop s r stop here k =
      stop_wider (maybe (arguments home)) s r stop (one_class Paren)
      (choosing.some_stop Paren NoToken (arguments home) (arguments_firm home) s r stop here k)

  -- a trait
  abbrev made : List ℕ → Option (Option Raw) → TraitSaid
  made w given = record { id = written home w true; value = argument_value given }

  abbrev behind_id : List ℕ → Production TraitSaid
  behind_id w = maybe (arguments home) >>= (λ given. gives (made w given))

  pub stops_at_sign : (s r : Tokens) (stop : ReadStop) → StopsIn NoToken (mark (codes "@")) s r stop → StopsIn Paren (applied home) s r stop
  stops_at_sign s r stop k = stops_first Paren (mark (codes "@")) (λ _. id >>= behind_id) s r stop k

  pub stops_at_id : (s a r : Tokens) (stop : ReadStop) → (mark (codes "@")).whole tt s a → StopsIn NoToken id a r stop
      → StopsIn Paren (applied home) s r stop
  stops_at_id s a r stop h k =
      stops_behind Paren (mark (codes "@")) (λ _. id >>= behind_id) (mark_firm (codes "@")) tt s a r stop h
      (stops_first Paren id behind_id a r stop k)

  pub stops_at_given : (w : List ℕ) (s a b r : Tokens) (stop : ReadStop) → (mark (codes "@")).whole tt s a → id.whole w a b
      → StopsIn Paren (maybe (arguments home)) b r stop → StopsIn Paren (applied home) s r stop
  stops_at_given w s a b r stop h k m =
      stops_behind Paren (mark (codes "@")) (λ _. id >>= behind_id) (mark_firm (codes "@")) tt s a r stop h
      (stops_behind Paren id behind_id (word_firm IsWordId) w a b r stop k (value_stop Paren (maybe (arguments home)) (made w) b r stop m))

  pub applied_read : (w : List ℕ) (given : Option (Option Raw)) (s a b r : Tokens) → (mark (codes "@")).whole tt s a → id.whole w a b
      → IsRead Paren (maybe (arguments home)) given b r → IsRead Paren (applied home) (made w given) s r
  applied_read w given s a b r h k m =
      behind_read (mark (codes "@")) (λ _. id >>= behind_id) (mark_firm (codes "@")) tt (made w given) s a r h
      (behind_read id behind_id (word_firm IsWordId) w (made w given) a b r k (value_read (maybe (arguments home)) (made w) given b r m))

  said_of : Ref → Raw → TraitSaid
  said_of i v = record { id = i; value = v }

  same_said : (x : TraitSaid) (i : Ref) (v : Raw) → x.id ≡ i → x.value ≡ v → x ≡ said_of i v
  unfolding said_of
  same_said x i v e f = ap (λ j. said_of j x.value) e ∙ ap (λ u. said_of i u) f

  pub applied_made : (w : List ℕ) (given : Option (Option Raw)) (x : TraitSaid) (s a b r : Tokens) → x.id ≡ written home w true
      → x.value ≡ argument_value given
      → (mark (codes "@")).whole tt s a → id.whole w a b → IsRead Paren (maybe (arguments home)) given b r
      → IsRead Paren (applied home) x s r
  unfolding said_of
  applied_made w given x s a b r e f h k m =
      subst (λ z. IsRead Paren (applied home) z s r) (sym (same_said x (written home w true) (argument_value given) e f))
      (applied_read w given s a b r h k m)

  -- the traits of an apply statement
  abbrev targets : Production (List TraitSaid)
  targets = one_trait home or braced_traits home

  one_firm : IsFirm ⊥ At Paren (one_trait home)
  one_firm = given_firm (applied home) (λ t. t ∷ []) (applied_firm home)

  sign_no_brace : AreApart At (AMark (codes "{"))
  sign_no_brace = marks_unlike (codes "@") (codes "{") refl

  pub one_read : (t : TraitSaid) (s r : Tokens) → IsRead Paren (applied home) t s r → IsRead Paren targets (t ∷ []) s r
  one_read t s r m =
      choosing.left_read At (AMark (codes "{")) Paren NoToken (one_trait home) (braced_traits home) one_firm (braced_firm home)
      sign_no_brace
      (t ∷ []) s r (value_read (applied home) (λ v. v ∷ []) t s r m)

  pub one_stop : (s r : Tokens) (stop : ReadStop) → (HeadIs (AMark (codes "{")) s → ⊥) → StopsIn Paren (applied home) s r stop
      → StopsIn Paren targets s r stop
  one_stop s r stop none k =
      choosing.left_stop At (AMark (codes "{")) Paren NoToken (one_trait home) (braced_traits home) one_firm (braced_firm home)
      sign_no_brace
      s r stop none (value_stop Paren (applied home) (λ v. v ∷ []) s r stop k)

  pub braced_read : (ts : List TraitSaid) (s r : Tokens) → (braced_traits home).whole ts s r → IsRead Paren targets ts s r
  braced_read ts s r h =
      read_wider targets ts s r (λ t n. absurd n)
      (choosing.right_read At (AMark (codes "{")) Paren NoToken (one_trait home) (braced_traits home) one_firm (braced_firm home)
      (turned _ _ sign_no_brace) ts s r (whole_read (braced_traits home) (braced_firm home) ts s r h))

  pub braced_stop : (s r : Tokens) (stop : ReadStop) → (HeadIs At s → ⊥) → StopsIn NoToken (braced_traits home) s r stop
      → StopsIn Paren targets s r stop
  braced_stop s r stop none k =
      stop_wider targets s r stop (λ t n. absurd n)
      (choosing.right_stop At (AMark (codes "{")) Paren NoToken (one_trait home) (braced_traits home) one_firm (braced_firm home)
      (turned _ _ sign_no_brace) s r stop none k)

  abbrev said : List ℕ → List TraitSaid → Said
  said w ts = apply_said (written home w false) ts

  pub apply_word_stop : (s r : Tokens) (stop : ReadStop) → StopsIn NoToken (the_word (codes "apply")) s r stop
      → StopsIn Paren (apply home) s r stop
  apply_word_stop s r stop k = stops_first Paren (the_word (codes "apply")) (λ _. id >>= (λ w. targets >>= (λ ts. gives (said w ts)))) s
      r stop k

  pub apply_id_stop : (s a r : Tokens) (stop : ReadStop) → (the_word (codes "apply")).whole tt s a → StopsIn NoToken id a r stop
      → StopsIn Paren (apply home) s r stop
  apply_id_stop s a r stop h k =
      stops_behind Paren (the_word (codes "apply")) (λ _. id >>= (λ w. targets >>= (λ ts. gives (said w ts))))
      (the_word_firm (codes "apply")) tt s a r
      stop h (stops_first Paren id (λ w. targets >>= (λ ts. gives (said w ts))) a r stop k)

  pub apply_traits_stop : (w : List ℕ) (s a b r : Tokens) (stop : ReadStop) → (the_word (codes "apply")).whole tt s a → id.whole w a b
      → StopsIn Paren targets b r stop → StopsIn Paren (apply home) s r stop
  apply_traits_stop w s a b r stop h k m =
      stops_behind Paren (the_word (codes "apply")) (λ _. id >>= (λ w. targets >>= (λ ts. gives (said w ts))))
      (the_word_firm (codes "apply")) tt s a r
      stop h (stops_behind Paren id (λ w. targets >>= (λ ts. gives (said w ts))) (word_firm IsWordId) w a b r stop k
      (value_stop Paren targets (said w) b r stop m))

  pub apply_read : (w : List ℕ) (ts : List TraitSaid) (s a b r : Tokens) → (the_word (codes "apply")).whole tt s a → id.whole w a b
      → IsRead Paren targets ts b r → IsRead Paren (apply home) (said w ts) s r
  apply_read w ts s a b r h k m =
      behind_read (the_word (codes "apply")) (λ _. id >>= (λ w. targets >>= (λ ts. gives (said w ts)))) (the_word_firm (codes "apply")) tt
      (said w ts) s a r h (behind_read id (λ w. targets >>= (λ ts. gives (said w ts))) (word_firm IsWordId) w (said w ts) a b r k
      (value_read targets (said w) ts b r m))

  pub apply_made : (w : List ℕ) (ts all_of : List TraitSaid) (i : Ref) (s a b r : Tokens) → i ≡ written home w false → all_of ≡ ts
      → (the_word (codes "apply")).whole tt s a → id.whole w a b → IsRead Paren targets ts b r
      → IsRead Paren (apply home) (apply_said i all_of) s r
  apply_made w ts all_of i s a b r e f h k m =
      subst (λ z. IsRead Paren (apply home) z s r)
      (sym (ap (λ j. apply_said j all_of) e ∙ ap (λ l. apply_said (written home w false) l) f))
      (apply_read w ts s a b r h k m)

  pub braced_targets : {V : Type 0} (view : V → List TraitSaid) (s r : Tokens) (result : Result V ReadStop) → HeadIs (AMark (codes "{")) s
      → ReadsAs view (braced_traits home) s r result → ReadsOn Paren view targets s r result
  braced_targets view s r (Ok v) here m = braced_read (view v) s r m
  braced_targets view s r (Err stop) here m =
      braced_stop s r stop (λ k. head_apart At (AMark (codes "{")) s sign_no_brace k here) m
