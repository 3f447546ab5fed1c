-- What the parts of an operation's reading say of it.
use Rattle.std.proofs.Common.{◌≡◌, ◌<◌, ℕ, false, inl, inr, List, [], ◌∷◌, ◌++◌, map}
use Rattle.std.proofs.Common.{Option, codes, Result, Ok, Err, IfOk, refl, sym, ap, subst, ◌∙◌, length}
use Rattle.std.proofs.Common.{append-nil}
use Rattle.std.specs.List.{flat_map}
use Rattle.std.proofs.lemmas.List.{map_push}
use Rattle.std.proofs.lemmas.Grind.{flat_map-append}
use Rattle.std.specs.BTreeSet.{BTreeSet}
use Rattle.std.specs.declared.alloc.Global.{Global}
use Rattle.std.specs.declared.string.String.{String}
use Rattle.sm_model.specs.Kinds.{any}
use Rattle.sm_model.specs.Raw.{raw_id, raw_list, raws_of}
use Rattle.sm_model.specs.RawView.{raw_view, raw_members_view}
use Rattle.sm_model.specs.Said.{TraitSaid, MemberSaid}
use Rattle.sm_model.specs.SaidView.{statements_view}
use Rattle.sm_model.specs.declared.raw.RawNode.{RawNode}
use Rattle.sm_model.specs.declared.reference.Ref.{Ref}
use Rattle.sm_model.specs.declared.statement.Statement.{Statement}
use Rattle.sm_idl.specs.Productions.{Tokens, Production, gives, ◌>>=◌, ◌or◌, each, many}
use Rattle.sm_idl.specs.Words.{mark, id}
use Rattle.sm_idl.specs.Nodes.{Home, written}
use Rattle.sm_idl.specs.Traits.{traits}
use Rattle.sm_idl.specs.Members.{field, members, mixins}
use Rattle.sm_idl.specs.Bodies.{Suffixes, PartSaid, part_names, part_word, part_target, inline_name, inline_said, inline_with, part_inline}
use Rattle.sm_idl.specs.Bodies.{part_shape, part_errors, part}
use Rattle.sm_idl.specs.Shapes.{part_pairs}
use Rattle.sm_idl.specs.declared.operations.Part.{Part}
use Rattle.sm_idl.specs.declared.reader.ReadStop.{ReadStop}
use Rattle.sm_idl.specs.steps.Classes.{Either, AMark, AWord, AnyWord, TraitGoesOn, Brace, With}
use Rattle.sm_idl.specs.steps.Firm.{Class, HeadIs, AreApart, IsFirm}
use Rattle.sm_idl.specs.steps.IdSteps.{listed_ids}
use Rattle.sm_idl.specs.steps.Names.{Remembers}
use Rattle.sm_idl.specs.steps.PartSteps.{part_view, target_said, errors_said}
use Rattle.sm_idl.specs.steps.ReaderView.{NoToken, StopsIn, ReadsAs}
use Rattle.sm_idl.specs.steps.Reading.{IsRead}
use Rattle.sm_idl.proofs.TokenLists.{head_apart}
use Rattle.sm_idl.proofs.TokenClasses.{marks_unlike, words_unlike, apart_either}
use Rattle.sm_idl.proofs.FirmParts.{firm_wider}
use Rattle.sm_idl.proofs.FirmEach.{firm_or}
use Rattle.sm_idl.proofs.FirmShort.{given_firm, front_firm}
use Rattle.sm_idl.proofs.FirmNodes.{mark_firm}
use Rattle.sm_idl.proofs.FirmMembers.{mixins_firm, members_firm, field_firm}
use Rattle.sm_idl.proofs.FirmBodies.{part_word_firm, target_firm, inline_firm, shape_part_firm, errors_firm}
use Rattle.sm_idl.proofs.FirmBodies.{part_firm, traits_no_body, with_no_brace}
use Rattle.sm_idl.proofs.Passing.{read_whole, shorter, stops_first, stops_behind, stops_in_row, stops_past_row}
use Rattle.sm_idl.proofs.Answered.{as_behind, as_left, as_right}
use Rattle.sm_idl.proofs.Bracketed as bracketed
use Rattle.sm_idl.proofs.Rows.{IsRow, row_none, ended_more, ended_read, ended_stop}

-- the names of the parts that came, with one more
pub part_seen : (set : BTreeSet (String Global)) (before : List PartSaid) (name : List ℕ) (p : PartSaid) → p.name ≡ name
    → Remembers set (part_names before ++ name ∷ []) → Remembers set (part_names (before ++ p ∷ []))
part_seen set before name p e h =
    subst (λ l. Remembers set l) (ap (λ z. part_names before ++ z ∷ []) (sym e) ∙ sym (map_push (λ n. n.name) before p)) h

-- what is read has the part's name, so that is the one that came
pub read_seen : {V : Type 0} (view : V → PartSaid) (P : Production PartSaid) (name : List ℕ)
    → ((p : PartSaid) (s r : Tokens) → P.whole p s r → p.name ≡ name)
    → (set : BTreeSet (String Global)) (before : List PartSaid) (s r : Tokens)
    (result : Result V ReadStop) → ReadsAs view P s r result → Remembers set (part_names before ++ name ∷ [])
    → IfOk result (λ part. Remembers set (part_names (before ++ view part ∷ [])))
read_seen view P name named set before s r (Ok v) h k = part_seen set before name (view v) (named (view v) s r h) k
read_seen view P name named set before s r (Err stop) h k = tt

pub target_named : (home : Home) (name : List ℕ) (p : PartSaid) (s r : Tokens) → (part_target home name).whole p s r → p.name ≡ name
target_named home name p s r (_, a, colon, (w, b, h, (e, last))) = ap (λ q. q.name) e

pub inline_named : (home : Home) (operation : List ℕ) (suffix : Option (List ℕ)) (name : List ℕ) (p : PartSaid) (s r : Tokens)
    → (part_inline home operation suffix name).whole p s r → p.name ≡ name
inline_named home operation suffix name p s r (structure, a, h, (d, doc, (ts, b, i, (mixed, c, j, (ms, v, k, (e, last)))))) = ap
    (λ q. q.name) e

module _ (home : Home) where
  -- a reference
  abbrev behind_target : List ℕ → List ℕ → Production PartSaid
  behind_target name w = gives (target_said home name w)

  pub target_colon_stop : (name : List ℕ) (s r : Tokens) (stop : ReadStop) → StopsIn NoToken (mark (codes ":")) s r stop
      → StopsIn NoToken (part_target home name) s r stop
  target_colon_stop name s r stop k = stops_first NoToken (mark (codes ":")) _ s r stop k

  pub target_id_stop : (name : List ℕ) (s a r : Tokens) (stop : ReadStop) → (mark (codes ":")).whole tt s a → StopsIn NoToken id a r stop
      → StopsIn NoToken (part_target home name) s r stop
  target_id_stop name s a r stop h k =
      stops_behind NoToken (mark (codes ":")) _ (mark_firm (codes ":")) tt s a r stop h
      (stops_first NoToken id (behind_target name) a r stop k)

  pub target_made : (name w : List ℕ) (p : PartSaid) (s a r : Tokens) → p ≡ target_said home name w → (mark (codes ":")).whole tt s a
      → id.whole w a r → (part_target home name).whole p s r
  target_made name w p s a r e h k = (tt, a, h, (w, r, k, (e, refl)))

  -- a structure that is defined in place
  module _ (structure name : List ℕ) (docs : List TraitSaid) where
    abbrev behind_mixins : List TraitSaid → List Ref → Production PartSaid
    behind_mixins ts mixed = members any (field home) >>= (λ ms. gives (inline_said home structure name (docs ++ ts) mixed ms))

    abbrev behind_traits : List TraitSaid → Production PartSaid
    behind_traits ts = mixins home >>= behind_mixins ts

    mixins_rest : (ts : List TraitSaid) (mixed : List Ref) → IsFirm ⊥ Brace NoToken (behind_mixins ts mixed)
    mixins_rest ts mixed = given_firm (members any (field home)) (λ ms. _) (members_firm any (field home) (field_firm home))

    traits_rest : (ts : List TraitSaid) → IsFirm ⊥ (Either With Brace) NoToken (behind_traits ts)
    traits_rest ts = front_firm (mixins home) (behind_mixins ts) (mixins_firm home) (mixins_rest ts) with_no_brace

    pub inline_traits_stop : (s r : Tokens) (stop : ReadStop) → StopsIn TraitGoesOn (traits home) s r stop
        → StopsIn NoToken (inline_with home structure name docs) s r stop
    inline_traits_stop s r stop k = stops_in_row (traits home) behind_traits traits_rest traits_no_body s r stop k

    past_inline_traits : (ts : List TraitSaid) (s a r : Tokens) (stop : ReadStop) → IsRead TraitGoesOn (traits home) ts s a
        → StopsIn NoToken (behind_traits ts) a r stop → StopsIn NoToken (inline_with home structure name docs) s r stop
    past_inline_traits ts s a r stop m k = stops_past_row (traits home) behind_traits traits_rest traits_no_body ts s a r stop m k

    pub inline_mixins_stop : (ts : List TraitSaid) (s a r : Tokens) (stop : ReadStop) → IsRead TraitGoesOn (traits home) ts s a
        → StopsIn With (mixins home) a r stop → StopsIn NoToken (inline_with home structure name docs) s r stop
    inline_mixins_stop ts s a r stop m k =
        past_inline_traits ts s a r stop m (stops_in_row (mixins home) (behind_mixins ts) (mixins_rest ts) with_no_brace a r stop k)

    pub inline_members_stop : (ts : List TraitSaid) (mixed : List Ref) (s a b r : Tokens) (stop : ReadStop)
        → IsRead TraitGoesOn (traits home) ts s a → IsRead With (mixins home) mixed a b
        → StopsIn NoToken (members any (field home)) b r stop
        → StopsIn NoToken (inline_with home structure name docs) s r stop
    inline_members_stop ts mixed s a b r stop m n k =
        past_inline_traits ts s a r stop m
        (stops_past_row (mixins home) (behind_mixins ts) (mixins_rest ts) with_no_brace mixed a b r stop n
        (stops_first NoToken (members any (field home)) _ b r stop k))

    pub inline_made : (ts : List TraitSaid) (mixed : List Ref) (ms : List MemberSaid) (p : PartSaid) (s a b r : Tokens)
        → p ≡ inline_said home structure name (docs ++ ts) mixed ms → IsRead TraitGoesOn (traits home) ts s a
        → IsRead With (mixins home) mixed a b → (members any (field home)).whole ms b r
        → (inline_with home structure name docs).whole p s r
    inline_made ts mixed ms p s a b r e m n k =
        (ts, a, read_whole (traits home) ts s a m, (mixed, b, read_whole (mixins home) mixed a b n, (ms, r, k, (e, refl))))

  module _ (operation : List ℕ) (suffix : Option (List ℕ)) (name : List ℕ) where
    pub inline_name_stop : (s r : Tokens) (stop : ReadStop) → StopsIn NoToken (inline_name operation suffix) s r stop
        → StopsIn NoToken (part_inline home operation suffix name) s r stop
    inline_name_stop s r stop k = stops_first NoToken (inline_name operation suffix) _ s r stop k

    -- an input or an output
    colons_apart : AreApart (AMark (codes ":")) (AMark (codes ":="))
    colons_apart = marks_unlike (codes ":") (codes ":=") refl

    abbrev either : Production PartSaid
    either = part_target home name or part_inline home operation suffix name

    either_firm : IsFirm ⊥ (Either (AMark (codes ":")) (AMark (codes ":="))) (Either NoToken NoToken) either
    either_firm = firm_or (AMark (codes ":")) (AMark (codes ":=")) NoToken NoToken (part_target home name)
        (part_inline home operation suffix name) (target_firm home name) (inline_firm home operation suffix name) colons_apart

    pub shape_word_stop : (before : List PartSaid) (s r : Tokens) (stop : ReadStop) → StopsIn NoToken (part_word name before) s r stop
        → StopsIn NoToken (part_shape home operation suffix name before) s r stop
    shape_word_stop before s r stop k = stops_first NoToken (part_word name before) (λ _. either) s r stop k

    pub shape_target : {V : Type 0} (view : V → PartSaid) (before : List PartSaid) (s a r : Tokens) (result : Result V ReadStop)
        → (part_word name before).whole tt s a → HeadIs (AMark (codes ":")) a → ReadsAs view (part_target home name) a r result
        → ReadsAs view (part_shape home operation suffix name before) s r result
    shape_target view before s a r result h here k =
        as_behind view (part_word name before) (λ _. either) (part_word_firm name before) tt s a r result h
        (as_left (AMark (codes ":")) (AMark (codes ":=")) view (part_target home name) (part_inline home operation suffix name)
        (target_firm home name) (inline_firm home operation suffix name) colons_apart a r result
        (λ m. head_apart (AMark (codes ":")) (AMark (codes ":=")) a colons_apart here m) k)

    pub shape_inline : {V : Type 0} (view : V → PartSaid) (before : List PartSaid) (s a r : Tokens) (result : Result V ReadStop)
        → (part_word name before).whole tt s a → (HeadIs (AMark (codes ":")) a → ⊥)
        → ReadsAs view (part_inline home operation suffix name) a r result
        → ReadsAs view (part_shape home operation suffix name before) s r result
    shape_inline view before s a r result h none k =
        as_behind view (part_word name before) (λ _. either) (part_word_firm name before) tt s a r result h
        (as_right (AMark (codes ":")) (AMark (codes ":=")) view (part_target home name) (part_inline home operation suffix name)
        (target_firm home name) (inline_firm home operation suffix name) colons_apart a r result none k)

  -- the errors
  abbrev errors_made : List (List ℕ) → PartSaid
  errors_made ws = record {
    name = codes "errors";
    value = raw_list (raws_of (map (λ w. raw_id (written home w false)) ws));
    defined = [];
  }

  abbrev listed : Production PartSaid
  listed = bracketed.between (codes "[") (many id) (codes "]") errors_made

  module _ (before : List PartSaid) where
    abbrev errors_word : Production Unit
    errors_word = part_word (codes "errors") before

    pub errors_word_stop : (s r : Tokens) (stop : ReadStop) → StopsIn NoToken errors_word s r stop
        → StopsIn NoToken (part_errors home before) s r stop
    errors_word_stop s r stop k = stops_first NoToken errors_word _ s r stop k

    pub errors_colon_stop : (s a r : Tokens) (stop : ReadStop) → errors_word.whole tt s a → StopsIn NoToken (mark (codes ":")) a r stop
        → StopsIn NoToken (part_errors home before) s r stop
    errors_colon_stop s a r stop h k =
        stops_behind NoToken errors_word _ (part_word_firm (codes "errors") before) tt s a r stop h
        (stops_first NoToken (mark (codes ":")) (λ _. listed) a r stop k)

    pub errors_ids_stop : (s a b r : Tokens) (stop : ReadStop) → errors_word.whole tt s a → (mark (codes ":")).whole tt a b
        → StopsIn NoToken (listed_ids home) b r stop → StopsIn NoToken (part_errors home before) s r stop
    errors_ids_stop s a b r stop h colon k =
        stops_behind NoToken errors_word _ (part_word_firm (codes "errors") before) tt s a r stop h
        (stops_behind NoToken (mark (codes ":")) (λ _. listed) (mark_firm (codes ":")) tt a b r stop colon
        (bracketed.other_stop (codes "[") (codes "]") (many id) (λ ws. map (λ w. written home w false) ws) errors_made b r stop k))

    pub errors_read : (refs : List Ref) (p : PartSaid) (s a b r : Tokens) → p ≡ errors_said refs → errors_word.whole tt s a
        → (mark (codes ":")).whole tt a b → (listed_ids home).whole refs b r → (part_errors home before).whole p s r
    errors_read refs p s a b r e h colon (_, c, o, (ws, d, m, (_, q, k, (f, last)))) =
        let same : p ≡ errors_made ws =
        e ∙ ap errors_said f ∙ ap (λ l. record { name = codes "errors"; value = raw_list (raws_of l); defined = [] }) (both_maps ws) in
        (tt, a, h, (tt, b, colon, (tt, c, o, (ws, d, m, (tt, q, k, (same, last))))))
      where
        both_maps : (vs : List (List ℕ)) → map raw_id (map (λ w. written home w false) vs) ≡ map (λ w. raw_id (written home w false)) vs
        both_maps [] = refl
        both_maps (v ∷ vs) = ap (λ l. raw_id (written home v false) ∷ l) (both_maps vs)

  -- a part, by its word
  module _ (endings : Suffixes) (operation : List ℕ) (before : List PartSaid) where
    abbrev inputs : Production PartSaid
    inputs = part_shape home operation endings.input (codes "input") before

    abbrev outputs : Production PartSaid
    outputs = part_shape home operation endings.output (codes "output") before

    inputs_firm : IsFirm ⊥ (AWord (codes "input")) NoToken inputs
    inputs_firm = shape_part_firm home operation endings.input (codes "input") before

    outputs_firm : IsFirm ⊥ (AWord (codes "output")) NoToken outputs
    outputs_firm = shape_part_firm home operation endings.output (codes "output") before

    no_output : AreApart (AWord (codes "output")) (AWord (codes "errors"))
    no_output = words_unlike (codes "output") (codes "errors") refl

    abbrev Later : Class
    Later = Either (AWord (codes "output")) (AWord (codes "errors"))

    no_input : AreApart (AWord (codes "input")) Later
    no_input = apart_either _ _ _ (words_unlike (codes "input") (codes "output") refl) (words_unlike (codes "input") (codes "errors") refl)

    later_firm : IsFirm ⊥ Later NoToken (outputs or part_errors home before)
    later_firm = firm_wider (λ e. e) (λ t a. a) (λ t g. elim g [ inl n ↦ n | inr n ↦ n ])
        (firm_or (AWord (codes "output")) (AWord (codes "errors")) NoToken NoToken outputs (part_errors home before) outputs_firm
        (errors_firm home before) no_output)

    module _ {V : Type 0} (view : V → PartSaid) (s r : Tokens) (result : Result V ReadStop) where
      pub part_input : HeadIs (AWord (codes "input")) s → ReadsAs view inputs s r result
          → ReadsAs view (part home endings operation before) s r result
      part_input here k =
          as_left (AWord (codes "input")) Later view inputs (outputs or part_errors home before) inputs_firm later_firm no_input s r result
          (λ m. head_apart (AWord (codes "input")) Later s no_input here m) k

      past_input : (HeadIs (AWord (codes "input")) s → ⊥) → ReadsAs view (outputs or part_errors home before) s r result
          → ReadsAs view (part home endings operation before) s r result
      past_input none k =
          as_right (AWord (codes "input")) Later view inputs (outputs or part_errors home before) inputs_firm later_firm no_input s r
          result none
          k

      pub part_output : (HeadIs (AWord (codes "input")) s → ⊥) → HeadIs (AWord (codes "output")) s → ReadsAs view outputs s r result
          → ReadsAs view (part home endings operation before) s r result
      part_output none here k =
          past_input none
          (as_left (AWord (codes "output")) (AWord (codes "errors")) view outputs (part_errors home before) outputs_firm
          (errors_firm home before) no_output s r result
          (λ m. head_apart (AWord (codes "output")) (AWord (codes "errors")) s no_output here m) k)

      pub part_last : (HeadIs (AWord (codes "input")) s → ⊥) → (HeadIs (AWord (codes "output")) s → ⊥)
          → ReadsAs view (part_errors home before) s r result → ReadsAs view (part home endings operation before) s r result
      part_last none later k =
          past_input none
          (as_right (AWord (codes "output")) (AWord (codes "errors")) view outputs (part_errors home before) outputs_firm
          (errors_firm home before) no_output s r result later k)

  -- parts that came
  module _ (endings : Suffixes) (operation : List ℕ) where
    abbrev pub PartsSoFar : List (List ℕ × RawNode) → List Statement → List PartSaid → Tokens → Tokens → Type 0
    PartsSoFar pairs defined ps s a =
        (raw_members_view pairs ≡ part_pairs ps) × (statements_view defined ≡ flat_map (λ p. p.defined) ps)
        × IsRow (Either AnyWord NoToken) (part home endings operation) [] ps s a

    pub parts_none : (pairs : List (List ℕ × RawNode)) (defined : List Statement) (s : Tokens) → pairs ≡ [] → defined ≡ []
        → PartsSoFar pairs defined [] s s
    parts_none pairs defined s e f = (
      ap raw_members_view e,
      ap statements_view f,
      row_none AnyWord NoToken (part home endings operation)
          (part_firm home endings operation) (λ t n a. n) [] s,
    )

    pub parts_more : (ps : List PartSaid) (p : Part) (pairs more : List (List ℕ × RawNode)) (defined longer : List Statement)
        (s a r : Tokens)
        → raw_members_view more ≡ raw_members_view pairs ++ (p.name, raw_view p.value) ∷ []
        → statements_view longer ≡ statements_view defined ++ (part_view p).defined → PartsSoFar pairs defined ps s a
        → (part home endings operation ps).whole (part_view p) a r → PartsSoFar more longer (ps ++ part_view p ∷ []) s r
    parts_more ps p pairs more defined longer s a r e f (g, h, i) k = (
      e ∙ ap (λ l. l ++ (p.name, raw_view p.value) ∷ []) g ∙ sym (map_push (λ q. (q.name, q.value)) ps (part_view p)),
      f ∙ ap (λ l. l ++ (part_view p).defined) h
          ∙ ap (λ l. flat_map (λ q. q.defined) ps ++ l) (sym (append-nil (part_view p).defined))
          ∙ sym (flat_map-append (λ q. q.defined) ps (part_view p ∷ [])),
      ended_more AnyWord (part home endings operation) (part_firm home endings operation) [] ps (part_view p) s a r i k,
    )

    pub parts_fewer : (before : List PartSaid) (p : PartSaid) (a r : Tokens) → (part home endings operation before).whole p a r
        → length r < length a
    parts_fewer before p a r h = shorter (part home endings operation before) (part_firm home endings operation before) p a r h

    pub parts_read : (ps : List PartSaid) (pairs : List (List ℕ × RawNode)) (defined : List Statement) (s a : Tokens)
        → PartsSoFar pairs defined ps s a → (HeadIs AnyWord a → ⊥)
        → (qs : List PartSaid) × (raw_members_view pairs ≡ part_pairs qs) × (statements_view defined ≡ flat_map (λ p. p.defined) qs)
        × IsRead AnyWord (each (part home endings operation)) qs s a
    parts_read ps pairs defined s a (g, h, i) none =
        (ps, g, h, ended_read AnyWord (part home endings operation) (part_firm home endings operation) [] ps s a i none)

    pub parts_stop : (ps : List PartSaid) (pairs : List (List ℕ × RawNode)) (defined : List Statement) (s a r : Tokens) (stop : ReadStop)
        → PartsSoFar pairs defined ps s a → HeadIs AnyWord a → StopsIn NoToken (part home endings operation ps) a r stop
        → StopsIn AnyWord (each (part home endings operation)) s r stop
    parts_stop ps pairs defined s a r stop (g, h, i) here k =
        ended_stop AnyWord (part home endings operation) (part_firm home endings operation) [] ps s a r stop i here k
