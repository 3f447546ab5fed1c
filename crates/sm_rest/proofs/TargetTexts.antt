-- The texts that a service writes into targets are bytes, where the values of traits in its graph are JSON.
use Rattle.std.proofs.Common.{◌≡◌, ◌⊎◌, inl, inr, ℕ, zero, suc, ◌<◌, Bool, true, false, ◌&&◌, cond, List, [], ◌∷◌, ◌++◌, refl, sym, ap}
use Rattle.std.proofs.Common.{◌∙◌, subst, arith}
use Rattle.std.proofs.Common.{encode_utf8_all}
use Rattle.std.specs.Prelude.{All, IsUtf8, Option, None, Some, codes, if◌then◌else◌, slice_get, unwrap_or}
use Rattle.std.specs.List.{flat_map}
use Rattle.std.specs.Str.{bytes_eq}
use Rattle.std.proofs.lemmas.Bool.Decides.{nat_tests}
use Rattle.std.proofs.lemmas.List.Elements.{All-append, All-cons, All-contains, All-head, All-nil, All-tail}
use Rattle.std.proofs.lemmas.Option.{none-some, same_Some}
use Rattle.sm_bytes.specs.Ascii.{equals, slash}
use Rattle.sm_bytes.specs.Utf8.{IsSecond}
use Rattle.sm_bytes.proofs.CharacterShapes.{IsFour, IsOne, IsThree, IsTwo, shape}
use Rattle.sm_tree.specs.Json.{AreJsonMembers, IsJson}
use Rattle.sm_tree.specs.Node.{Members, Node, member, no_members, object, text}
use Rattle.sm_tree.specs.Parts.{tree_named}
use Rattle.sm_model.specs.Graphs.{GraphMaps}
use Rattle.sm_uri.specs.UriPattern.{QueryLiteral, UriSaid, ampersand, literal_text, more_text, path_text, printed_uri, query_text}
use Rattle.sm_uri.specs.UriPattern.{question_mark}
use Rattle.sm_uri.specs.UriPattern.{segment_text, value_text}
use Rattle.sm_uri.specs.declared.pattern.Segment.{Segment}
use Rattle.sm_uri.specs.declared.pattern.Segment.TheVariants.{Greedy, Label, Literal}
use Rattle.sm_shapes.specs.TableData.{MemberData, binding_in, query}
use Rattle.sm_compile.specs.Compiled.{EachSays}
use Rattle.sm_compile.specs.Sound.{trait_in, trait_of}
use Rattle.sm_compile.specs.TraitIds.{http_id, http_query_id}
use Rattle.sm_compile.specs.TraitNodes.{field_of, text_of}
use Rattle.sm_rules.specs.TraitRows.{is_as_one, rows_of, that_reads}
use Rattle.sm_rules.specs.Words.{field_in, read_trait}
use Rattle.sm_parts.specs.Laws.{AreBytesOf}
use Rattle.sm_routes.specs.KeptOrder.{literal_bytes}
use Rattle.sm_routes.specs.Routes.{literal_pair}
use Rattle.sm_bind_read.specs.service.Bound.{BindsMember, SaysBinding}
use Rattle.sm_bind_read.specs.service.Compiled.{SaysHttp, SaysHttpRule}
use Rattle.sm_bind_read.specs.service.ServiceData.{HttpData}
use Rattle.sm_rest.specs.Laws.{HasJsonTraits, TargetTextsWhereJson}
use Rattle.sm_rest.specs.RestServable.{AreTextBytes, HasByteLiterals}
use lib.Utf8.{encode, scalar, scalars}

-- texts in UTF-8 are bytes
abbrev IsTextByte : ℕ → Type 0
IsTextByte b = b < 256

second_byte : (x y : ℕ) → IsSecond x y → y < 256
second_byte x y h = grind (arith, nat_tests)

one : (b : ℕ) (u : List ℕ) → b < 256 → AreTextBytes u → AreTextBytes (b ∷ u)
one b u lt h = All-cons IsTextByte b u lt h

none : AreTextBytes []
none = All-nil IsTextByte

character_bytes : (c : ℕ) → IsOne c ⊎ (IsTwo c ⊎ (IsThree c ⊎ IsFour c)) → AreTextBytes (encode c)
character_bytes c (inl (small, e)) = subst AreTextBytes (sym e) (one c [] (omega (arith, small)) none)
character_bytes c (inr (inl (x, y, low, high, tail, e))) =
    subst AreTextBytes (sym e) (one x (y ∷ []) (omega (arith, high)) (one y [] (omega (arith, tail.1)) none))
character_bytes c (inr (inr (inl (x, y, z, low, high, second, tail, e)))) =
    subst AreTextBytes (sym e)
    (one x (y ∷ z ∷ []) (omega (arith, high)) (one y (z ∷ []) (second_byte x y second) (one z [] (omega (arith, tail.1)) none)))
character_bytes c (inr (inr (inr (x, y, z, w, low, high, second, tail, last, e)))) =
    subst AreTextBytes (sym e)
    (one x (y ∷ z ∷ w ∷ []) (omega (arith, high))
    (one y (z ∷ w ∷ []) (second_byte x y second) (one z (w ∷ []) (omega (arith, tail.1)) (one w [] (omega (arith, last.1)) none))))

both : (x y : Bool) → (x && y) ≡ true → (x ≡ true) × (y ≡ true)
both true y e = (refl, e)
both false y e = absurd cc

characters_bytes : (cs : List ℕ) → scalars cs ≡ true → AreTextBytes (encode_utf8_all cs)
characters_bytes [] e = none
characters_bytes (c ∷ cs) e =
    let parts = both (scalar c) (scalars cs) e in
    All-append IsTextByte (encode c) (encode_utf8_all cs) (character_bytes c (shape c parts.0)) (characters_bytes cs parts.1)

pub utf8_bytes : (u : List ℕ) → IsUtf8 u → AreTextBytes u
utf8_bytes u (cs, (e, f)) = subst AreTextBytes f (characters_bytes cs e)

-- parts of a text
before : (u v : List ℕ) → AreTextBytes (u ++ v) → AreTextBytes u
before [] v h = none
before (b ∷ u) v h = one b u (All-head IsTextByte b (u ++ v) h) (before u v (All-tail IsTextByte b (u ++ v) h))

behind : (u v : List ℕ) → AreTextBytes (u ++ v) → AreTextBytes v
behind [] v h = h
behind (b ∷ u) v h = behind u v (All-tail IsTextByte b (u ++ v) h)

-- the literals of a pattern whose text is bytes
abbrev IsByteSegment : Segment → Type 0
IsByteSegment segment = AreTextBytes (literal_bytes segment)

own_bytes : (segment : Segment) → AreTextBytes (segment_text segment) → IsByteSegment segment
own_bytes (Literal t) h = All-tail IsTextByte slash t h
own_bytes (Label name) h = none
own_bytes (Greedy name) h = none

each_segment : (segments : List Segment) → AreTextBytes (flat_map segment_text segments) → All IsByteSegment segments
each_segment [] h = All-nil IsByteSegment
each_segment (segment ∷ segments) h =
    All-cons IsByteSegment segment segments (own_bytes segment (before (segment_text segment) (flat_map segment_text segments) h))
    (each_segment segments (behind (segment_text segment) (flat_map segment_text segments) h))

path_segments : (segments : List Segment) → AreTextBytes (path_text segments) → All IsByteSegment segments
path_segments [] h = All-nil IsByteSegment
path_segments (segment ∷ segments) h = each_segment (segment ∷ segments) h

abbrev IsByteLiteral : QueryLiteral → Type 0
IsByteLiteral l = AreBytesOf (literal_pair l)

value_bytes : (o : Option (List ℕ)) → AreTextBytes (value_text o) → AreTextBytes (unwrap_or o [])
value_bytes None h = none
value_bytes (Some value) h = All-tail IsTextByte equals value h

pair_bytes : (l : QueryLiteral) → AreTextBytes (literal_text l) → IsByteLiteral l
pair_bytes l h = (before l.0 (value_text l.1) h, value_bytes l.1 (behind l.0 (value_text l.1) h))

more_literals : (ls : List QueryLiteral) → AreTextBytes (more_text ls) → All IsByteLiteral ls
more_literals [] h = All-nil IsByteLiteral
more_literals (l ∷ ls) h =
    let own = All-tail IsTextByte ampersand (literal_text l) (before (ampersand ∷ literal_text l) (more_text ls) h) in
    All-cons IsByteLiteral l ls (pair_bytes l own) (more_literals ls (behind (ampersand ∷ literal_text l) (more_text ls) h))

query_literals : (ls : List QueryLiteral) → AreTextBytes (query_text ls) → All IsByteLiteral ls
query_literals [] h = All-nil IsByteLiteral
query_literals (l ∷ ls) h =
    let own = All-tail IsTextByte question_mark (literal_text l ++ more_text ls) h in
    All-cons IsByteLiteral l ls (pair_bytes l (before (literal_text l) (more_text ls) own))
    (more_literals ls (behind (literal_text l) (more_text ls) own))

pattern_bytes : (u : UriSaid) → AreTextBytes (printed_uri u) → HasByteLiterals u
pattern_bytes u h =
    let path = path_segments u.segments (before (path_text u.segments) (query_text u.literals) h) in
    let literals = query_literals u.literals (behind (path_text u.segments) (query_text u.literals) h) in
    record {
      segments = λ segment there. All-contains IsByteSegment u.segments segment path there;
      literals = λ l there. All-contains IsByteLiteral u.literals l literals there;
    }

-- texts in the values of traits
reads_json : (trait : List ℕ) (o : Option Node) (n : Node) → ((m : Node) → o ≡ Some m → IsJson m) → that_reads trait o ≡ Some n → IsJson n
reads_json trait None n h e = absurd (none-some n e)
reads_json trait (Some m) n h e = by (is_as_one (rows_of trait) m) e
  where
    by : (t : Bool) → cond t (Some m) None ≡ Some n → IsJson n
    by true f = h n f
    by false f = absurd (none-some n f)

tree_json : (name : List ℕ) (ms : Members) (n : Node) → AreJsonMembers ms → tree_named name ms ≡ Some n → IsJson n
tree_json name no_members n h e = absurd (none-some n e)
tree_json name (member k m ms) n h e = by (bytes_eq k name) (λ f. tree_json name ms n h.2 f) e
  where
    by : (t : Bool) → (tree_named name ms ≡ Some n → IsJson n) → (if t then Some m else tree_named name ms) ≡ Some n → IsJson n
    by true more f = subst IsJson (same_Some m n f) h.1
    by false more f = more f

field_json : (name : List ℕ) (m n : Node) → IsJson m → field_of name m ≡ Some n → IsJson n
field_json name (object ms) n h e = tree_json name ms n h e
field_json name m n h e = absurd (none-some n e)

among_json : (name : List ℕ) (o : Option Node) (n : Node) → ((m : Node) → o ≡ Some m → IsJson m) → field_in name o ≡ Some n → IsJson n
among_json name None n h e = absurd (none-some n e)
among_json name (Some m) n h e = field_json name m n (h m refl) e

text_json : (o : Option Node) (u : List ℕ) → ((m : Node) → o ≡ Some m → IsJson m) → text_of o ≡ Some u → IsUtf8 u
text_json None u h e = absurd (none-some u e)
text_json (Some (text t)) u h e = subst IsUtf8 (same_Some t u e) (h (text t) refl)
text_json (Some n) u h e = absurd (none-some u e)

module _ (g : GraphMaps) (json : HasJsonTraits g) where
  rule_bytes : (id : List ℕ) (h : HttpData) → SaysHttpRule g id h → HasByteLiterals h.uri
  rule_bytes id h says =
      let http = trait_of g id http_id in
      let read = read_trait g id http_id in
      let utf8 = text_json (field_in (codes "uri") read) says.uri.t
      (λ n e. among_json (codes "uri") read n (λ m f. reads_json http_id http m (json id http_id) f) e) says.uri.said in
      pattern_bytes h.uri (subst AreTextBytes says.uri.spells.spelled (utf8_bytes says.uri.t utf8))

  http_bytes : (id : List ℕ) (o : Option HttpData) (h : HttpData) → SaysHttp g id o → o ≡ Some h → HasByteLiterals h.uri
  http_bytes id None h says e = absurd (none-some h e)
  http_bytes id (Some r) h says e = subst (λ x. HasByteLiterals x.uri) (same_Some r h e) (rule_bytes id r says)

  row_says : (ids : List (List ℕ)) (ds : List MemberData) (k : ℕ) (d : MemberData) → slice_get ds k ≡ Some d
      → EachSays (BindsMember g) ids ds → (id : List ℕ) × BindsMember g id d
  row_says ids [] k d e h = absurd (none-some d e)
  row_says [] (x ∷ ds) k d e h = absurd h
  row_says (id ∷ ids) (x ∷ ds) zero d e h = (id, subst (BindsMember g id) (same_Some x d e) h.0)
  row_says (id ∷ ids) (x ∷ ds) (suc k) d e h = row_says ids ds k d e h.1

  key_bytes : (id : List ℕ) (d : MemberData) (name : List ℕ) → BindsMember g id d → d.binding ≡ Some (query name) → AreTextBytes name
  key_bytes id d name binds e =
      let said = subst (SaysBinding binds.m.traits) e binds.binding in
      utf8_bytes name (text_json (trait_of g id http_query_id) name (json id http_query_id)
      (ap (λ o. text_of (trait_in http_query_id o)) binds.there ∙ said))

pub target_texts : TargetTextsWhereJson
target_texts g id s json is = record {
  patterns = λ o h there e. http_bytes g json o.id o.http h (is.operations.each o there).1.http e;
  queries = λ k name e. by k name (slice_get s.table.members k) refl e;
}
  where
    by : (k : ℕ) (name : List ℕ) (o : Option MemberData) → slice_get s.table.members k ≡ o → binding_in o ≡ Some (query name)
        → AreTextBytes name
    by k name None at e = absurd (none-some (query name) e)
    by k name (Some d) at e =
        let row = row_says g json is.numbering.members s.table.members k d at is.binds.members in key_bytes g json row.0 d name row.1 e
