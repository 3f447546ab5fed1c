-- Nodes, traits and documentation of a text that is UTF-8 are as merging asks for them.
use Rattle.std.proofs.Common.{◌≡◌, ◌<◌, ◌⊎◌, ℕ, zero, suc, inl, inr, Bool, true, false, if◌then◌else◌, List, [], ◌∷◌, ◌++◌, Option}
use Rattle.std.proofs.Common.{Some, None}
use Rattle.std.proofs.Common.{arith, codes, refl, sym, ap, subst, append-nil}
use Rattle.std.specs.Prelude.{IsUtf8, FitsSigned}
use Rattle.std.specs.Int.{w64}
use Rattle.std.proofs.lemmas.List.{map_push}
use Rattle.std.specs.Char.{is_ascii}
use Rattle.std.specs.List.{list_all}
use Rattle.std.proofs.lemmas.Bool.Decides.{nat_tests}
use Rattle.std.proofs.lemmas.List.Sums.{AllPass-from_list_all}
use Rattle.std.proofs.lemmas.Str.{IsUtf8-append, IsUtf8-from_ascii}
use Rattle.std.proofs.lemmas.Str.Ascii.{IsAscii-from_all}
use Rattle.sm_ids.specs.Identifier.{IsIdentifier, IsNamespace}
use Rattle.sm_lex.specs.Shapes.{HasShape}
use Rattle.sm_lex.specs.Tokens.{Lexeme}
use Rattle.sm_lex.specs.declared.token.TokenKind.{TokenKind}
use Rattle.sm_lex.specs.declared.token.TokenKind.TheVariants.{Word, Number, Text, Block, Mark}
use Rattle.sm_lex.proofs.Wholes.{text_shape, text_block_shape}
use Rattle.sm_tree.specs.Limits.{most_levels}
use Rattle.sm_tree.specs.Node.{Node, null, bool, int, number, text, bytes, tag, opaque, list, object}
use Rattle.sm_tree.specs.Numbers.{NumberText, IsNumber, IsInt64}
use Rattle.sm_model.specs.Formed.{StandsAmong, DifferInNames, raw_names, IsLeaf, IsRaw, AreRaw, AreRawMembers, AreTraits, IsFormed}
use Rattle.sm_model.specs.PreludeShapes.{api_id}
use Rattle.sm_model.specs.Raw.{Raw, raw_leaf, raw_list, raws_of, raw_members_of, empty_raw}
use Rattle.sm_model.specs.References.{IsReference, IsShapeId, AreIds, absolute}
use Rattle.sm_model.specs.Said.{TraitSaid, apply_said}
use Rattle.sm_idl.specs.Productions.{Spaced, Tokens, Production, gives, ◌>>=◌, maybe, each, each_behind, many}
use Rattle.sm_idl.specs.Words.{IsWord, IsString, IsBlock, IsKey, IsNew, IsWordId, mark, id, key}
use Rattle.sm_idl.specs.Nodes.{Home, written, word_meant, WordSays, LeafSaid, leaf, Pair, pair_names, as_object, pair_of, object_of}
use Rattle.sm_idl.specs.Nodes.{list_of, node}
use Rattle.sm_idl.specs.Traits.{node_in, pairs_or_node, arguments, argument_value, applied, traits, standing_for, value_trait, DocsBefore}
use Rattle.sm_idl.specs.Traits.{docs_trait}
use Rattle.sm_idl.specs.Traits.{documented, one_trait, braced_traits, apply}
use Rattle.sm_idl.proofs.TextsRead.{string_utf8, block_utf8, documents_utf8, DocsUtf8}
use Rattle.sm_idl.proofs.Yields.{IsFine, AreFine, Yields, IfThere, Each, each_more, yields_one, yields_gives, yields_both, yields_or}
use Rattle.sm_idl.proofs.Yields.{yields_as}
use Rattle.sm_idl.proofs.Yields.{yields_maybe, yields_each, yields_many, yields_word, yields_marked, yields_worded, yields_given}

-- what words of a file are relative to
abbrev pub IsHome : Home → Type 0
IsHome home = IsNamespace home.namespace × AreIds home.uses

-- texts of tokens
pub string_fine : (t : Spaced) (v : List ℕ) → IsFine t → IsString v t.token → IsUtf8 v
string_fine t v fine (kind, e) =
    string_utf8 t.token.start t.token.text fine.text (text_shape t.token.kind t.token.start t.token.text fine.shape kind) v e

pub block_fine : (t : Spaced) (v : List ℕ) → IsFine t → IsBlock v t.token → IsUtf8 v
block_fine t v fine (kind, e) =
    block_utf8 t.token.start t.token.text fine.text (text_block_shape t.token.kind t.token.start t.token.text fine.shape kind) v e

pub text_fine : (t : Spaced) (v : List ℕ) → IsFine t → IsString v t.token ⊎ IsBlock v t.token → IsUtf8 v
text_fine t v fine (inl h) = string_fine t v fine h
text_fine t v fine (inr h) = block_fine t v fine h

pub word_fine : (t : Spaced) (w : List ℕ) → IsFine t → IsWord w t.token → IsUtf8 w
word_fine t w fine (kind, e) = subst IsUtf8 e fine.text

pub key_fine : (t : Spaced) (k : List ℕ) → IsFine t → IsKey k t.token → IsUtf8 k
key_fine t k fine (inl h) = word_fine t k fine h
key_fine t k fine (inr h) = string_fine t k fine h

pub key_yields : (before : List (List ℕ)) → Yields (key before) (λ k. IsUtf8 k × IsNew k before)
key_yields before = yields_one _ _ (λ t k fine h. (key_fine t k fine h.0, h.1))

-- ids and references
none_some : (m : List ℕ) → None ≡ Some m → ⊥
none_some m e = cc

pub shape_id : (namespace name : List ℕ) → IsNamespace namespace → IsIdentifier name → IsShapeId (namespace ++ 35 ∷ name)
shape_id namespace name n i = (
  record { namespace = namespace; name = name; member = None },
  record {
    is_id = record { namespace = n; name = i; member = λ m e. absurd (none_some m e) };
    spelled = ap (λ t. namespace ++ 35 ∷ t) (sym (append-nil name));
  },
  refl,
)

pub defined_reference : (namespace name : List ℕ) (b : Bool) → IsNamespace namespace → IsIdentifier name
    → IsReference (absolute (namespace ++ 35 ∷ name) b)
defined_reference namespace name b n i = let h = shape_id namespace name n i in record { text = (h.0, h.1); uses = tt }

pub api_reference : (name : List ℕ) (b : Bool) → IsIdentifier name → IsReference (absolute (api_id name) b)
api_reference name b i = defined_reference (codes "smithy.api") name b refl i

pub written_reference : (home : Home) (w : List ℕ) (b : Bool) → IsHome home → IsWordId w → IsReference (written home w b)
written_reference home w b h k = record { text = (h.0, k); uses = h.1 }

-- leaves
number_leaf : (v : Node) (t : List ℕ) → NumberText v t → IsLeaf v
number_leaf null t h = absurd h
number_leaf (bool b) t h = absurd h
number_leaf (int z) t h = subst (FitsSigned w64) h.2 h.1.in_range
number_leaf (number u) t h = (subst IsNumber h.2 h.0, λ i. h.1 (subst IsInt64 (sym h.2) i), refl)
number_leaf (text u) t h = absurd h
number_leaf (bytes u) t h = absurd h
number_leaf (tag k n) t h = absurd h
number_leaf (opaque b) t h = absurd h
number_leaf (list ns) t h = absurd h
number_leaf (object ms) t h = absurd h

below : (c : ℕ) → is_ascii c ≡ true → c < 128
below c h = grind (arith, nat_tests)

ascii_utf8 : (t : List ℕ) → list_all is_ascii t ≡ true → IsUtf8 t
ascii_utf8 t h = IsUtf8-from_ascii t (IsAscii-from_all t (λ k d lt. below _ (AllPass-from_list_all is_ascii t h k d lt)))

of_prelude_utf8 : (b : Bool) (w : List ℕ) → IsUtf8 w → IsUtf8 (if b then api_id w else w)
of_prelude_utf8 true w u = IsUtf8-append (codes "smithy.api#") w (ascii_utf8 (codes "smithy.api#") refl) u
of_prelude_utf8 false w u = u

meant_raw : (home : Option Home) (w : List ℕ) → IfThere IsHome home → IsUtf8 w → IsWordId w → IsRaw (word_meant home w)
meant_raw None w h u k = of_prelude_utf8 _ w u
meant_raw (Some home) w h u k = written_reference home w false h k

word_raw : (home : Option Home) (w : List ℕ) (n : Raw) → IfThere IsHome home → IsUtf8 w → WordSays home w n → IsRaw n
word_raw home w n h u (inl (e, is)) = subst IsRaw (sym is) tt
word_raw home w n h u (inr (inl (e, is))) = subst IsRaw (sym is) tt
word_raw home w n h u (inr (inr (inl (e, is)))) = subst IsRaw (sym is) tt
word_raw home w n h u (inr (inr (inr (k, is)))) = subst IsRaw (sym is) (meant_raw home w h u k.1)

leaf_raw : (home : Option Home) (kind : TokenKind) (t : Lexeme) (n : Raw) → IfThere IsHome home → IsUtf8 t.text
    → HasShape kind t.start t.text
    → LeafSaid home kind t n → IsRaw n
leaf_raw home Text t n h u shape (v, e, is) = subst IsRaw (sym is) (string_utf8 t.start t.text u shape v e)
leaf_raw home Block t n h u shape (v, e, is) = subst IsRaw (sym is) (block_utf8 t.start t.text u shape v e)
leaf_raw home Number t n h u shape (v, e, is) = subst IsRaw (sym is) (number_leaf v t.text e)
leaf_raw home Word t n h u shape says = word_raw home t.text n h u says
leaf_raw home Mark t n h u shape says = absurd says

pub leaf_yields : (home : Option Home) → IfThere IsHome home → Yields (leaf home) IsRaw
leaf_yields home h = yields_one _ IsRaw (λ t n fine says. leaf_raw home t.token.kind t.token n h fine.text fine.shape says)

-- names that differ
among_more : (j k : List ℕ) (js : List (List ℕ)) → StandsAmong j (js ++ k ∷ []) → StandsAmong j js ⊎ (j ≡ k)
among_more j k [] (inl e) = inr e
among_more j k [] (inr n) = absurd n
among_more j k (i ∷ js) (inl e) = inl (inl e)
among_more j k (i ∷ js) (inr h) = elim (among_more j k js h) [ inl a ↦ inl (inr a) | inr e ↦ inr e ]

pub differ_more : (js : List (List ℕ)) (k : List ℕ) → DifferInNames js → IsNew k js → DifferInNames (js ++ k ∷ [])
differ_more [] k d new = ((λ a. a), tt)
differ_more (j ∷ js) k d new = (
  λ a. elim (among_more j k js a) [ inl b ↦ d.0 b | inr e ↦ new (inl (sym e)) ],
  differ_more js k d.1 (λ a. new (inr a)),
)

-- pairs of an object
abbrev pub PairsAre : (Pair → Type 0) → List Pair → Type 0
PairsAre G ps = DifferInNames (pair_names ps) × Each G ps

abbrev pub IsRawPair : Pair → Type 0
IsRawPair p = IsUtf8 p.0 × IsRaw p.1

pub pairs_more : (G : Pair → Type 0) (before : List Pair) (p : Pair) → PairsAre G before → IsNew p.0 (pair_names before) → G p
    → PairsAre G (before ++ p ∷ [])
pairs_more G before p h new good = (
  subst DifferInNames (sym (map_push (λ q. q.0) before p)) (differ_more (pair_names before) p.0 h.0 new),
  each_more G before p h.1 good,
)

pub pair_yields : (value : Production Raw) (Good : Raw → Type 0) → Yields value Good → (before : List Pair)
    → PairsAre (λ p. IsUtf8 p.0 × Good p.1) before → Yields (pair_of value before) (λ p. PairsAre (λ q. IsUtf8 q.0 × Good q.1)
    (before ++ p ∷ []))
pair_yields value Good h before are =
    yields_both (key (pair_names before)) _ _ _ (key_yields (pair_names before)) (λ k new.
    yields_marked (codes ":") _ _ (λ _.
    yields_given value (λ n. (k, n)) Good _ h (λ n good.
    pairs_more (λ q. IsUtf8 q.0 × Good q.1) before (k, n) are new.1 (new.0, good))))

names_same : (ps : List Pair) → raw_names (raw_members_of ps) ≡ pair_names ps
names_same [] = refl
names_same (p ∷ ps) = ap (λ l. p.0 ∷ l) (names_same ps)

raw_pairs : (ps : List Pair) → Each IsRawPair ps → AreRawMembers (raw_members_of ps)
raw_pairs [] h = tt
raw_pairs (p ∷ ps) h = (h.0.0, h.0.1, raw_pairs ps h.1)

pub object_raw : (ps : List Pair) → PairsAre IsRawPair ps → IsRaw (as_object ps)
object_raw ps h = (subst DifferInNames (sym (names_same ps)) h.0, raw_pairs ps h.1)

pub list_raw : (ns : List Raw) → Each IsRaw ns → AreRaw (raws_of ns)
list_raw [] h = tt
list_raw (n ∷ ns) h = (h.0, list_raw ns h.1)

-- nodes
pub braced_yields : (p : List Pair → Production Pair) (G : Pair → Type 0) (H : Raw → Type 0)
    → ((before : List Pair) → PairsAre G before → Yields (p before) (λ x. PairsAre G (before ++ x ∷ [])))
    → ((ps : List Pair) → PairsAre G ps → H (as_object ps))
    → Yields (mark (codes "{") >>= (λ _. each p >>= (λ ps. mark (codes "}") >>= (λ _. gives (as_object ps))))) H
braced_yields p G H h k =
    yields_marked (codes "{") _ H (λ _.
    yields_both (each p) _ (PairsAre G) H (yields_each p (PairsAre G) h [] (tt, tt)) (λ ps are.
    yields_marked (codes "}") _ H (λ _. yields_gives (as_object ps) H (k ps are))))

object_yields : (value : Production Raw) → Yields value IsRaw → Yields (object_of value) IsRaw
object_yields value h = braced_yields (pair_of value) IsRawPair IsRaw (pair_yields value IsRaw h) object_raw

list_yields : (value : Production Raw) → Yields value IsRaw → Yields (list_of value) IsRaw
list_yields value h =
    yields_marked (codes "[") _ IsRaw (λ _.
    yields_both (many value) _ (Each IsRaw) IsRaw (yields_many value IsRaw h) (λ ns are.
    yields_marked (codes "]") _ IsRaw (λ _. yields_gives (raw_list (raws_of ns)) IsRaw (list_raw ns are))))

pub node_yields : (home : Option Home) (levels : ℕ) → IfThere IsHome home → Yields (node home levels) IsRaw
unfolding node
node_yields home zero h = leaf_yields home h
node_yields home (suc levels) h =
    let inner = node_yields home levels h in
    yields_or (leaf home) _ IsRaw (leaf_yields home h)
    (yields_or (object_of (node home levels)) _ IsRaw (object_yields (node home levels) inner) (list_yields (node home levels) inner))

pub node_in_yields : (home : Home) → IsHome home → Yields (node_in home) IsRaw
node_in_yields home h = node_yields (Some home) most_levels h

-- traits
pairs_or_node_yields : (home : Home) → IsHome home → Yields (pairs_or_node home) IsRaw
pairs_or_node_yields home h =
    let pair = pair_yields (node_in home) IsRaw (node_in_yields home h) in
    yields_or _ (node_in home) IsRaw
    (yields_both (pair_of (node_in home) []) _ (λ p. PairsAre IsRawPair (p ∷ [])) IsRaw (pair [] (tt, tt)) (λ first are.
    yields_both (each_behind (pair_of (node_in home)) (first ∷ [])) _ (λ more. PairsAre IsRawPair (first ∷ more)) IsRaw
    (yields_each (pair_of (node_in home)) (PairsAre IsRawPair) pair (first ∷ []) are) (λ more all.
    yields_gives (as_object (first ∷ more)) IsRaw (object_raw (first ∷ more) all))))
    (node_in_yields home h)

arguments_yields : (home : Home) → IsHome home → Yields (arguments home) (IfThere IsRaw)
arguments_yields home h =
    yields_marked (codes "(") _ (IfThere IsRaw) (λ _.
    yields_both (maybe (pairs_or_node home)) _ (IfThere IsRaw) (IfThere IsRaw)
    (yields_maybe (pairs_or_node home) IsRaw (pairs_or_node_yields home h)) (λ value raw.
    yields_marked (codes ")") _ (IfThere IsRaw) (λ _. yields_gives value (IfThere IsRaw) raw)))

pub empty_is_raw : IsRaw empty_raw
empty_is_raw = (tt, tt)

argument_raw : (o : Option (Option Raw)) → IfThere (IfThere IsRaw) o → IsRaw (argument_value o)
argument_raw None h = empty_is_raw
argument_raw (Some None) h = empty_is_raw
argument_raw (Some (Some value)) h = h

abbrev pub IsTrait : TraitSaid → Type 0
IsTrait t = IsReference t.id × IsRaw t.value

applied_yields : (home : Home) → IsHome home → Yields (applied home) IsTrait
applied_yields home h =
    yields_marked (codes "@") _ IsTrait (λ _.
    yields_both id _ IsWordId IsTrait (yields_word IsWordId) (λ w is.
    yields_given (maybe (arguments home)) _ (IfThere (IfThere IsRaw)) IsTrait
    (yields_maybe (arguments home) (IfThere IsRaw) (arguments_yields home h)) (λ given raw.
    (written_reference home w true h is, argument_raw given raw))))

each_trait : (ts : List TraitSaid) → Each IsTrait ts → AreTraits ts
each_trait [] h = tt
each_trait (t ∷ ts) h = (h.0.0, h.0.1, each_trait ts h.1)

pub traits_yields : (home : Home) → IsHome home → Yields (traits home) AreTraits
traits_yields home h =
    yields_as (traits home) (Each IsTrait) AreTraits (yields_many (applied home) IsTrait (applied_yields home h)) each_trait

pub traits_joined : (ts us : List TraitSaid) → AreTraits ts → AreTraits us → AreTraits (ts ++ us)
traits_joined [] us h k = k
traits_joined (t ∷ ts) us h k = (h.0, h.1, traits_joined ts us h.2 k)

pub standing : (name : List ℕ) (value : Raw) (ts : List TraitSaid) → IsIdentifier name → IsRaw value → AreTraits ts
    → AreTraits (standing_for name value ∷ ts)
standing name value ts i raw h = (api_reference name true i, raw, h)

pub value_traits : (name : List ℕ) (o : Option Raw) → IsIdentifier name → IfThere IsRaw o → AreTraits (value_trait name o)
value_traits name None i h = tt
value_traits name (Some value) i h = standing name value [] i h tt

-- documentation
docs_fine : (s : Tokens) (docs : Option (List ℕ)) → AreFine s → DocsBefore s docs → DocsUtf8 docs
docs_fine [] docs fine e = subst DocsUtf8 (sym e) tt
docs_fine (t ∷ s) docs fine h = documents_utf8 t.space docs fine.0.space h

docs_traits : (docs : Option (List ℕ)) → DocsUtf8 docs → AreTraits (docs_trait docs)
docs_traits None u = tt
docs_traits (Some docs) u = standing (codes "documentation") (raw_leaf (text docs)) [] refl u tt

documented_good : {X : Type 0} (p : List TraitSaid → Production X) (G : X → Type 0)
    → ((docs : List TraitSaid) → AreTraits docs → Yields (p docs) G) → (x : X) (s r : Tokens) → AreFine s → (documented p).whole x s r
    → G x × AreFine r
documented_good p G h x s r fine (docs, before, a) =
    (h (docs_trait docs) (docs_traits docs (docs_fine s docs fine before))).good x s r fine a

pub documented_yields : {X : Type 0} (p : List TraitSaid → Production X) (G : X → Type 0)
    → ((docs : List TraitSaid) → AreTraits docs → Yields (p docs) G) → Yields (documented p) G
documented_yields p G h = record { good = documented_good p G h }

-- the apply statement
one_trait_yields : (home : Home) → IsHome home → Yields (one_trait home) AreTraits
one_trait_yields home h =
    yields_given (applied home) (λ t. t ∷ []) IsTrait AreTraits (applied_yields home h) (λ t is. (is.0, is.1, tt))

braced_traits_yields : (home : Home) → IsHome home → Yields (braced_traits home) AreTraits
braced_traits_yields home h =
    yields_marked (codes "{") _ AreTraits (λ _.
    yields_both (traits home) _ AreTraits AreTraits (traits_yields home h) (λ ts are.
    yields_marked (codes "}") _ AreTraits (λ _. yields_gives ts AreTraits are)))

pub apply_yields : (home : Home) → IsHome home → Yields (apply home) IsFormed
apply_yields home h =
    yields_worded (codes "apply") _ IsFormed (λ _.
    yields_both id _ IsWordId IsFormed (yields_word IsWordId) (λ w is.
    yields_given _ (λ ts. apply_said (written home w false) ts) AreTraits IsFormed
    (yields_or (one_trait home) (braced_traits home) AreTraits (one_trait_yields home h) (braced_traits_yields home h)) (λ ts are.
    (written_reference home w false h is, are))))
