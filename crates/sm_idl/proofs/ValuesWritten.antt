-- What is written for the fields of bodies: references, lists of them, references under names, texts and new names.
use Rattle.std.proofs.Common.{◌≡◌, ◌⊎◌, ℕ, inl, inr, Bool, true, false, List, [], ◌∷◌, ◌++◌, refl, sym, ap, subst}
use Rattle.std.proofs.Common.{◌∙◌, append_assoc, arith, codes, true≢false}
use Rattle.std.specs.Prelude.{◌==◌, ◌||◌, nat_eq}
use Rattle.std.specs.Str.{bytes_eq}
use Rattle.std.proofs.lemmas.Bool.Decides.{nat_tests}
use Rattle.std.proofs.lemmas.List.Folds.{list_any-append}
use Rattle.sm_ids.specs.Identifier.{IsIdentifier}
use Rattle.sm_ids.specs.IdText.{IsIdText, member_text}
use Rattle.sm_json.specs.Written.{written as json, written_text, more_written_pairs}
use Rattle.sm_lex.specs.Bytes.{begins_word, opens_with}
use Rattle.sm_tree.specs.Node.{Node, Nodes, Members, text, no_nodes, node, no_members, member}
use Rattle.sm_tree.specs.Same.{AreDistinct}
use Rattle.sm_tree.proofs.Equal.{bytes_equal_is}
use Rattle.sm_model.specs.Given.{IsIdNode, AreIdNodes, AreNamedIds, AreRenamed}
use Rattle.sm_model.specs.Raw.{Raw, raw_leaf, raw_id, raw_list, raws_of}
use Rattle.sm_idl.specs.Productions.{Tokens, one, each, each_behind, many}
use Rattle.sm_idl.specs.Words.{IsWord, IsString, IsBlock, IsKey, IsNew, word_that, key}
use Rattle.sm_idl.specs.Nodes.{Home, written, is_literal, IsNodeId, Pair, pair_names, as_object, pair_of}
use Rattle.sm_idl.specs.Bodies.{reference, references, braced_pairs, new_name, renaming}
use Rattle.sm_idl.specs.Idl.{is_absolute}
use Rattle.sm_idl.specs.Written.{written_id, more_ids, named_id, more_named_ids}
use Rattle.sm_idl.specs.WrittenFile.{id_said, ids_said, named_ids_said, leaves_said}
use Rattle.sm_idl.proofs.TextTokens.{Goes, Spells, goes_white, goes_gives, goes_both, goes_none, goes_next, goes_joined, goes_flat}
use Rattle.sm_idl.proofs.WrittenTokens.{Closed, goes_marked, goes_word, id_word}
use Rattle.sm_idl.proofs.StringsWritten.{goes_text}
use Rattle.sm_idl.proofs.NodesWritten.{AreNew, new_later, no_equals, pairs_closed}

-- an id is no literal
pub or_true : (b : Bool) → (b || true) ≡ true
or_true true = refl
or_true false = refl

has_sign : (w : List ℕ) → IsIdText w → is_absolute w ≡ true
has_sign w (id, spelt) =
    ap is_absolute spelt.spelled ∙ list_any-append (λ c. c == 35) id.namespace (35 ∷ (id.name ++ member_text id.member))
    ∙ or_true (is_absolute id.namespace)

apart : (w k : List ℕ) (b : Bool) → bytes_eq w k ≡ b → is_absolute w ≡ true → is_absolute k ≡ false → bytes_eq w k ≡ false
apart w k true e h g = absurd (true≢false (sym h ∙ ap is_absolute ((bytes_equal_is w k).0 e) ∙ g))
apart w k false e h g = e

no_literal : (w : List ℕ) → IsIdText w → is_literal w ≡ false
no_literal w is =
    let h = has_sign w is in
    ap (λ b. b || (bytes_eq w (codes "false") || bytes_eq w (codes "null"))) (apart w (codes "true") _ refl h refl)
    ∙ ap (λ b. b || bytes_eq w (codes "null")) (apart w (codes "false") _ refl h refl)
    ∙ apart w (codes "null") _ refl h refl

-- a reference
pub reference_goes : (home : Home) (t : List ℕ) (s : List ℕ) {Q : Tokens → Type 0} → IsIdText t → Closed s → Goes Q s
    → Goes (Spells (reference home) (raw_id (written home t false)) Q) (t ++ s)
reference_goes home t s is closed h =
    goes_both (word_that IsNodeId) _ t
    (goes_word (λ u w. IsWord w u × IsNodeId w) t t (id_word t is) closed (λ u w. (w, (no_literal t is, inl is)))
    (goes_gives (raw_id (written home t false)) h))

-- where the graph has the node of its text
pub node_reference : (home : Home) (n : Node) (s : List ℕ) {Q : Tokens → Type 0} → IsIdNode n → Closed s → Goes Q s
    → Goes (Spells (reference home) (id_said home n) Q) (written_id n ++ s)
node_reference home n s {Q = Q} (t, e, is) closed h =
    subst (λ m. Goes (Spells (reference home) (id_said home m) Q) (written_id m ++ s)) (sym e) (reference_goes home t s is closed h)

-- a list of them, read by this production
pub ids_closed : (ns : Nodes) (s : List ℕ) → Closed (more_ids ns ++ s)
ids_closed no_nodes s = refl
ids_closed (node n ns) s = refl

pub more_ids_go : (home : Home) (ns : Nodes) (before : List Raw) (s : List ℕ) {Q : Tokens → Type 0} → AreIdNodes ns → Goes Q (93 ∷ s)
    → Goes (Spells (each_behind (λ _. reference home) before) (ids_said home ns) Q) (more_ids ns ++ s)
more_ids_go home no_nodes before s are h = goes_none (λ _. reference home) before h
more_ids_go home (node n ns) before s are h =
    goes_white 44 refl
    (goes_white 32 refl
    (goes_joined (written_id n) (more_ids ns) s
    (goes_next (λ _. reference home) before (id_said home n) (ids_said home ns)
    (node_reference home n (more_ids ns ++ s) are.0 (ids_closed ns s)
    (more_ids_go home ns (before ++ id_said home n ∷ []) s are.1 h)))))

pub references_go : (home : Home) (n : Node) (ns : Nodes) (s : List ℕ) {Q : Tokens → Type 0} → AreIdNodes (node n ns) → Goes Q s
    → Goes (Spells (references home) (raw_list (raws_of (id_said home n ∷ ids_said home ns))) Q)
    (91 ∷ ((written_id n ++ more_ids ns) ++ s))
references_go home n ns s are h =
    let said : List Raw = id_said home n ∷ ids_said home ns in
    goes_marked 91 _ refl refl
    (goes_both (many (reference home)) _ said
    (goes_joined (written_id n) (more_ids ns) s
    (goes_next (λ _. reference home) [] (id_said home n) (ids_said home ns)
    (node_reference home n (more_ids ns ++ s) are.0 (ids_closed ns s)
    (more_ids_go home ns (id_said home n ∷ []) s are.1
    (goes_marked 93 _ refl refl (goes_gives (raw_list (raws_of said)) h)))))))

-- `:=` doesn't stand before an id
word_no_equals : (c : ℕ) → begins_word c ≡ true → nat_eq 61 c ≡ false
word_no_equals c h = grind (arith, nat_tests)

pub id_no_equals : (t s : List ℕ) → IsIdText t → opens_with (58 ∷ (t ++ s)) (codes ":=") ≡ false
id_no_equals t s is =
    let it = id_word t is in
    subst (λ u. opens_with (58 ∷ (u ++ s)) (codes ":=") ≡ false) (sym it.is)
    (no_equals it.first (it.more ++ s) (word_no_equals it.first it.begins))

node_no_equals : (n : Node) (s : List ℕ) → IsIdNode n → opens_with (58 ∷ (written_id n ++ s)) (codes ":=") ≡ false
node_no_equals n s (t, e, is) = subst (λ m. opens_with (58 ∷ (written_id m ++ s)) (codes ":=") ≡ false) (sym e) (id_no_equals t s is)

-- references under names
named_closed : (ms : Members) (s : List ℕ) → Closed (more_named_ids ms ++ s)
named_closed no_members s = refl
named_closed (member k n ms) s = refl

one_named : (home : Home) (before : List Pair) (k : List ℕ) (n : Node) (s : List ℕ) {Q : Tokens → Type 0} → IsIdNode n
    → IsNew k (pair_names before) → Closed s → Goes Q s
    → Goes (Spells (pair_of (reference home) before) (k, id_said home n) Q) (written_text k ++ (58 ∷ (written_id n ++ s)))
one_named home before k n s is new closed h =
    goes_both (key (pair_names before)) _ k
    (goes_text (λ t i. IsKey i t × IsNew i (pair_names before)) k k refl (λ t kind it. (inr it, new))
    (goes_marked 58 _ refl (node_no_equals n s is)
    (goes_both (reference home) _ (id_said home n)
    (node_reference home n s is closed (goes_gives (k, id_said home n) h)))))

named_text : (k : List ℕ) (n : Node) (ms : Members) (s : List ℕ)
    → named_id k n ++ more_named_ids ms ++ s ≡ written_text k ++ (58 ∷ (written_id n ++ (more_named_ids ms ++ s)))
named_text k n ms s =
    append_assoc (named_id k n) (more_named_ids ms) s ∙ append_assoc (written_text k) (58 ∷ written_id n) (more_named_ids ms ++ s)

more_named_go : (home : Home) (ms : Members) (before : List Pair) (s : List ℕ) {Q : Tokens → Type 0} → AreNamedIds ms → AreDistinct ms
    → AreNew before ms → Goes Q (125 ∷ s)
    → Goes (Spells (each_behind (pair_of (reference home)) before) (named_ids_said home ms) Q) (more_named_ids ms ++ s)
more_named_go home no_members before s are differ new h = goes_none (pair_of (reference home)) before h
more_named_go home (member k n ms) before s are differ new h =
    goes_white 44 refl
    (goes_flat (named_text k n ms s)
    (goes_next (pair_of (reference home)) before (k, id_said home n) (named_ids_said home ms)
    (one_named home before k n (more_named_ids ms ++ s) are.0 (new k (inl refl)) (named_closed ms s)
    (more_named_go home ms (before ++ (k, id_said home n) ∷ []) s are.1 differ.2
    (new_later before k (id_said home n) n ms new differ.0) h))))

pub named_go : (home : Home) (k : List ℕ) (n : Node) (ms : Members) (s : List ℕ) {Q : Tokens → Type 0} → AreNamedIds (member k n ms)
    → AreDistinct (member k n ms) → Goes Q s
    → Goes (Spells (braced_pairs (pair_of (reference home))) (as_object ((k, id_said home n) ∷ named_ids_said home ms)) Q)
    (123 ∷ ((named_id k n ++ more_named_ids ms) ++ s))
named_go home k n ms s are differ h =
    let said : List Pair = (k, id_said home n) ∷ named_ids_said home ms in
    let none : AreNew [] (member k n ms) = λ j has among. among in
    goes_marked 123 _ refl refl
    (goes_both (each (pair_of (reference home))) _ said
    (goes_flat (named_text k n ms s)
    (goes_next (pair_of (reference home)) [] (k, id_said home n) (named_ids_said home ms)
    (one_named home [] k n (more_named_ids ms ++ s) are.0 (none k (inl refl)) (named_closed ms s)
    (more_named_go home ms ((k, id_said home n) ∷ []) s are.1 differ.2 (new_later [] k (id_said home n) n ms none differ.0)
    (goes_marked 125 _ refl refl (goes_gives (as_object said) h)))))))

-- new names under ids
abbrev IsNewName : Node → Type 0
IsNewName n = (t : List ℕ) × (n ≡ text t) × IsIdentifier t

name_no_equals : (n : Node) (s : List ℕ) → IsNewName n → opens_with (58 ∷ (json n ++ s)) (codes ":=") ≡ false
name_no_equals n s (t, e, is) = subst (λ m. opens_with (58 ∷ (json m ++ s)) (codes ":=") ≡ false) (sym e) refl

new_name_goes : (n : Node) (s : List ℕ) {Q : Tokens → Type 0} → IsNewName n → Closed s → Goes Q s
    → Goes (Spells new_name (raw_leaf n) Q) (json n ++ s)
new_name_goes n s {Q = Q} (t, e, is) closed h =
    subst (λ m. Goes (Spells new_name (raw_leaf m) Q) (json m ++ s)) (sym e)
    (goes_text (λ u x. (v : List ℕ) × (IsString v u ⊎ IsBlock v u) × IsIdentifier v × (x ≡ raw_leaf (text v))) (raw_leaf (text t)) t closed
    (λ u kind it. (t, inl it, is, refl)) h)

one_renamed : (before : List Pair) (k : List ℕ) (n : Node) (s : List ℕ) {Q : Tokens → Type 0} → IsIdText k → IsNewName n
    → IsNew k (pair_names before) → Closed s → Goes Q s
    → Goes (Spells (renaming before) (k, raw_leaf n) Q) (written_text k ++ (58 ∷ (json n ++ s)))
one_renamed before k n s is named new closed h =
    goes_both (one (λ t i. IsKey i t × IsIdText i × IsNew i (pair_names before))) _ k
    (goes_text (λ t i. IsKey i t × IsIdText i × IsNew i (pair_names before)) k k refl (λ t kind it. (inr it, is, new))
    (goes_marked 58 _ refl (name_no_equals n s named)
    (goes_both new_name _ (raw_leaf n) (new_name_goes n s named closed (goes_gives (k, raw_leaf n) h)))))

renamed_text : (k : List ℕ) (n : Node) (ms : Members) (s : List ℕ)
    → (written_text k ++ (58 ∷ (json n ++ more_written_pairs ms))) ++ s ≡ written_text k ++ (58 ∷ (json n ++ (more_written_pairs ms ++ s)))
renamed_text k n ms s =
    append_assoc (written_text k) (58 ∷ (json n ++ more_written_pairs ms)) s
    ∙ ap (λ (u : List ℕ). written_text k ++ (58 ∷ u)) (append_assoc (json n) (more_written_pairs ms) s)

more_renamed_go : (ms : Members) (before : List Pair) (s : List ℕ) {Q : Tokens → Type 0} → AreRenamed ms → AreDistinct ms
    → AreNew before ms → Goes Q (125 ∷ s) → Goes (Spells (each_behind renaming before) (leaves_said ms) Q) (more_written_pairs ms ++ s)
more_renamed_go no_members before s are differ new h = goes_none renaming before h
more_renamed_go (member k n ms) before s are differ new h =
    goes_white 44 refl
    (goes_flat (renamed_text k n ms s)
    (goes_next renaming before (k, raw_leaf n) (leaves_said ms)
    (one_renamed before k n (more_written_pairs ms ++ s) are.0 are.1 (new k (inl refl)) (pairs_closed ms s)
    (more_renamed_go ms (before ++ (k, raw_leaf n) ∷ []) s are.2 differ.2 (new_later before k (raw_leaf n) n ms new differ.0) h))))

pub renamed_go : (k : List ℕ) (n : Node) (ms : Members) (s : List ℕ) {Q : Tokens → Type 0} → AreRenamed (member k n ms)
    → AreDistinct (member k n ms) → Goes Q s
    → Goes (Spells (braced_pairs renaming) (as_object ((k, raw_leaf n) ∷ leaves_said ms)) Q)
    (123 ∷ ((written_text k ++ (58 ∷ (json n ++ more_written_pairs ms))) ++ s))
renamed_go k n ms s are differ h =
    let said : List Pair = (k, raw_leaf n) ∷ leaves_said ms in
    let none : AreNew [] (member k n ms) = λ j has among. among in
    goes_marked 123 _ refl refl
    (goes_both (each renaming) _ said
    (goes_flat (renamed_text k n ms s)
    (goes_next renaming [] (k, raw_leaf n) (leaves_said ms)
    (one_renamed [] k n (more_written_pairs ms ++ s) are.0 are.1 (none k (inl refl)) (pairs_closed ms s)
    (more_renamed_go ms ((k, raw_leaf n) ∷ []) s are.2 differ.2 (new_later [] k (raw_leaf n) n ms none differ.0)
    (goes_marked 125 _ refl refl (goes_gives (as_object said) h)))))))
