-- The lines of traits and of metadata: each is read as what it was written for.
use Rattle.std.proofs.Common.{◌≤◌, ℕ, inl, inr, List, [], ◌∷◌, ◌++◌, map, Some, refl, subst}
use Rattle.std.proofs.Common.{codes}
use Rattle.std.proofs.lemmas.List.{map_push}
use Rattle.sm_ids.specs.IdText.{IsIdText}
use Rattle.sm_json.specs.Written.{written as json, written_text}
use Rattle.sm_tree.specs.Levels.{levels}
use Rattle.sm_tree.specs.Limits.{most_levels}
use Rattle.sm_tree.specs.Node.{Node}
use Rattle.sm_tree.specs.Same.{IsNode}
use Rattle.sm_model.specs.Formed.{StandsAmong, DifferInNames}
use Rattle.sm_model.specs.Raw.{Raw, raw_of}
use Rattle.sm_model.specs.Said.{TraitSaid}
use Rattle.sm_model.proofs.MapFacts.{Each, keys}
use Rattle.sm_idl.specs.Productions.{Tokens, maybe, each_behind}
use Rattle.sm_idl.specs.Words.{IsWord, IsKey, IsNew, IsWordId, id as id_word_of, key}
use Rattle.sm_idl.specs.Nodes.{Home, Pair, pair_names, node}
use Rattle.sm_idl.specs.Traits.{node_in, pairs_or_node, arguments, applied}
use Rattle.sm_idl.specs.Idl.{metadata}
use Rattle.sm_idl.specs.Written.{NodePairs, metadata_line, metadata_lines, trait_line, trait_lines}
use Rattle.sm_idl.specs.WrittenFile.{trait_said, traits_said}
use Rattle.sm_idl.proofs.NamesSeen.{among_last}
use Rattle.sm_idl.proofs.TextTokens.{AreWhite, Goes, Spells, goes_joined, goes_white, goes_whites, goes_gives, goes_both, goes_right}
use Rattle.sm_idl.proofs.TextTokens.{goes_there}
use Rattle.sm_idl.proofs.TextTokens.{goes_none, goes_next, goes_flat, flat_four, flat_five}
use Rattle.sm_idl.proofs.WrittenTokens.{goes_marked, goes_word, goes_worded, id_word, word_text}
use Rattle.sm_idl.proofs.StringsWritten.{goes_text}
use Rattle.sm_idl.proofs.NodesWritten.{node_goes}

-- a value that is written: it is a node of as many levels as are read
abbrev pub IsValue : Node → Type 0
IsValue n = IsNode n × (levels n ≤ most_levels)

abbrev pub IsTraitValue : List ℕ → Node → Type 0
IsTraitValue id n = IsIdText id × IsValue n

abbrev pub IsMetadata : List ℕ → Node → Type 0
IsMetadata k n = IsValue n

-- a trait
trait_goes : (home : Home) (id : List ℕ) (n : Node) (s : List ℕ) {Q : Tokens → Type 0} → IsTraitValue id n → Goes Q s
    → Goes (Spells (applied home) (trait_said home id n) Q) (64 ∷ (id ++ (40 ∷ (json n ++ (41 ∷ (10 ∷ s))))))
trait_goes home id n s is h =
    goes_marked 64 _ refl refl
    (goes_both id_word_of _ id
    (goes_word (λ t w. IsWord w t × IsWordId w) id id (id_word id is.0) refl (λ t w. (w, inl is.0))
    (goes_both (maybe (arguments home)) _ (Some (Some (raw_of n)))
    (goes_there (arguments home)
    (goes_marked 40 _ refl refl
    (goes_both (maybe (pairs_or_node home)) _ (Some (raw_of n))
    (goes_there (pairs_or_node home)
    (goes_right _ (node_in home)
    (node_goes home n most_levels (41 ∷ (10 ∷ s)) is.1.0.0 is.1.0.1 is.1.1 refl
    (goes_marked 41 _ refl refl
    (goes_gives (Some (raw_of n)) (goes_gives (trait_said home id n) (goes_white 10 refl h)))))))))))))

pub traits_go : (home : Home) (margin : List ℕ) (ts : NodePairs) (before : List TraitSaid) (s : List ℕ) {Q : Tokens → Type 0}
    → AreWhite margin → Each IsTraitValue ts → Goes Q s
    → Goes (Spells (each_behind (λ _. applied home) before) (traits_said home ts) Q) (trait_lines margin ts ++ s)
traits_go home margin [] before s white are h = goes_none (λ _. applied home) before h
traits_go home margin (t ∷ ts) before s white are h =
    let said = trait_said home t.0 t.1 in
    let rest : List ℕ = trait_lines margin ts ++ s in
    goes_joined (trait_line margin t.0 t.1) (trait_lines margin ts) s
    (goes_flat (flat_five margin (codes "@") t.0 (codes "(") (json t.1) (codes ")\n") rest)
    (goes_whites margin white
    (goes_next (λ _. applied home) before said (traits_said home ts)
    (trait_goes home t.0 t.1 rest are.0
    (traits_go home margin ts (before ++ said ∷ []) s white are.1 h)))))

-- metadata
abbrev pub metadata_pairs : NodePairs → List Pair
metadata_pairs ms = map (λ m. (m.0, raw_of m.1)) ms

one_metadata : (home : Home) (before : List Pair) (k : List ℕ) (n : Node) (s : List ℕ) {Q : Tokens → Type 0} → IsValue n
    → IsNew k (pair_names before) → Goes Q s
    → Goes (Spells (metadata (Some home) before) (k, raw_of n) Q)
    (codes "metadata" ++ (32 ∷ (written_text k ++ (32 ∷ (61 ∷ (32 ∷ (json n ++ (10 ∷ s))))))))
one_metadata home before k n s is new h =
    goes_worded (codes "metadata") _ (word_text (codes "metadata") 109 (codes "etadata") refl refl refl) refl
    (goes_white 32 refl
    (goes_both (key (pair_names before)) _ k
    (goes_text (λ t i. IsKey i t × IsNew i (pair_names before)) k k refl (λ t kind it. (inr it, new))
    (goes_white 32 refl
    (goes_marked 61 _ refl refl
    (goes_white 32 refl
    (goes_both (node (Some home) most_levels) _ (raw_of n)
    (node_goes home n most_levels (10 ∷ s) is.0.0 is.0.1 is.1 refl
    (goes_gives (k, raw_of n) (goes_white 10 refl h))))))))))

-- names that are new
pub new_names : (names : List (List ℕ)) (k : List ℕ) (ks : List (List ℕ)) → ((j : List ℕ) → StandsAmong j (k ∷ ks) → IsNew j names)
    → (StandsAmong k ks → ⊥) → (j : List ℕ) → StandsAmong j ks → IsNew j (names ++ k ∷ [])
new_names names k ks new apart j has among = elim (among_last j k names among) [
  | inl earlier ↦ new j (inr has) earlier
  | inr same ↦ apart (subst (λ i. StandsAmong i ks) same has)
]

abbrev pub AreNewKeys : List Pair → List (List ℕ) → Type 0
AreNewKeys before ks = (k : List ℕ) → StandsAmong k ks → IsNew k (pair_names before)

new_keys : (before : List Pair) (k : List ℕ) (x : Raw) (ks : List (List ℕ)) → AreNewKeys before (k ∷ ks) → (StandsAmong k ks → ⊥)
    → AreNewKeys (before ++ (k, x) ∷ []) ks
new_keys before k x ks new apart j has among =
    new_names (pair_names before) k ks new apart j has (subst (StandsAmong j) (map_push (λ p. p.0) before (k, x)) among)

pub metadata_go : (home : Home) (ms : NodePairs) (before : List Pair) (s : List ℕ) {Q : Tokens → Type 0} → Each IsMetadata ms
    → DifferInNames (keys ms) → AreNewKeys before (keys ms) → Goes Q s
    → Goes (Spells (each_behind (metadata (Some home)) before) (metadata_pairs ms) Q) (metadata_lines ms ++ s)
metadata_go home [] before s are differ new h = goes_none (metadata (Some home)) before h
metadata_go home (m ∷ ms) before s are differ new h =
    let rest : List ℕ = metadata_lines ms ++ s in
    goes_joined (metadata_line m.0 m.1) (metadata_lines ms) s
    (goes_flat (flat_four (codes "metadata ") (written_text m.0) (codes " = ") (json m.1) (codes "\n") rest)
    (goes_next (metadata (Some home)) before (m.0, raw_of m.1) (metadata_pairs ms)
    (one_metadata home before m.0 m.1 rest are.0 (new m.0 (inl refl))
    (metadata_go home ms (before ++ (m.0, raw_of m.1) ∷ []) s are.1 differ.1
    (new_keys before m.0 (raw_of m.1) (keys ms) new differ.0) h))))
