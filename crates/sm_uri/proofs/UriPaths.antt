-- Paths of patterns: what was read, and where the whole text stops.
use Rattle.std.proofs.Common.{◌≡◌, ◌==◌, ℕ, ◌+◌, ◌⊎◌, inl, inr, Bool, true, false, ◌||◌, List, [], ◌∷◌, ◌++◌, append_assoc}
use Rattle.std.proofs.Common.{append-nil, Err, refl, sym, ap, subst, ◌∙◌}
use Rattle.std.specs.List.{list_any, flat_map}
use Rattle.std.specs.Str.{bytes_eq}
use Rattle.std.proofs.lemmas.Grind.{flat_map-append}
use Rattle.std.proofs.lemmas.Bool.{eqb-true}
use Rattle.sm_ids.specs.steps.Ahead.{EndsRun}
use Rattle.sm_ids.proofs.Cutting.{heads, tails}
use Rattle.sm_uri.specs.UriPattern.{QueryLiteral, is_literal_byte, is_text_of, is_segment, label_names, greedy_name, greedy_names}
use Rattle.sm_uri.specs.UriPattern.{body_text, segment_text, path_text, query_text, UriText, IsUriText}
use Rattle.sm_uri.specs.steps.UriReading.{NoneGoesOn, StopsBefore, ends_segment, ends_path, IsNotRoot, AfterSlash, IsQuery, QueryAhead}
use Rattle.sm_uri.specs.steps.UriReading.{IsNameCut, closing_text, labelled, holds_text, is_some_name, IsPathRead, IsSegmentRead}
use Rattle.sm_uri.specs.steps.UriReading.{IsPathBefore, ReadsSegment, ReadsPath, ReadsQuery, ReadsUri}
use Rattle.sm_uri.proofs.UriStops.{stops_behind, ends_none}
use Rattle.sm_uri.proofs.UriNames.{names_of_both, name_of_label}
use Rattle.sm_uri.proofs.UriSegments.{label_body, middle_is, behind_segment, tail_slash, tail_question, root_question}
use Rattle.sm_uri.proofs.UriParts.{AreSegments, text_more, label_more, empty_stops, literal_stops}
use Rattle.sm_uri.specs.declared.path.Path as reader
use Rattle.sm_uri.specs.declared.stop.PatternStop.{PatternStop}
use Rattle.sm_uri.specs.declared.stop.PatternStop.TheVariants.{At, NoMemory}
use Rattle.sm_uri.specs.declared.pattern.Segment.{Segment}
use Rattle.sm_uri.specs.declared.pattern.Segment.TheVariants.{Literal, Label, Greedy}

abbrev pub slashed : List Segment → List ℕ
slashed segments = flat_map segment_text segments

-- the texts of segments, one behind the other
flat_tail : (before : List Segment) (s : Segment) (more : List Segment) (q : List ℕ)
    → slashed (before ++ s ∷ more) ++ q ≡ slashed before ++ 47 ∷ (body_text s ++ (slashed more ++ q))
flat_tail before s more q =
    ap (λ x. x ++ q) (flat_map-append segment_text before (s ∷ more))
    ∙ append_assoc (slashed before) (47 ∷ (body_text s ++ slashed more)) q
    ∙ ap (λ x. slashed before ++ 47 ∷ x) (append_assoc (body_text s) (slashed more) q)

flat_more : (before : List Segment) (s : Segment) (q : List ℕ) → slashed (before ++ s ∷ []) ++ q ≡ slashed before ++ 47 ∷ (body_text s ++ q)
flat_more before s q = flat_tail before s [] q

path_some : (before : List Segment) (s : Segment) (more : List Segment) → path_text (before ++ s ∷ more) ≡ slashed (before ++ s ∷ more)
path_some [] s more = refl
path_some (b ∷ before) s more = refl

last_is : (before : List Segment) (s : Segment) → AreSegments (before ++ s ∷ []) → is_segment s ≡ true
last_is before s u = middle_is before s [] u.segments

-- behind segments that were read and a slash
pub record PathTaken (text : List ℕ) (before : List Segment) (rest : List ℕ) : Type 0 where
  pub root : IsNotRoot before rest
  pub spelled : text ≡ slashed before ++ 47 ∷ rest
  pub leads : (x : List ℕ) → IsUriText (slashed before ++ 47 ∷ x) → AfterSlash before x

from_slash : (segments : List Segment) (literals : List QueryLiteral) (x : List ℕ)
    → UriText (record { segments = segments; literals = literals }) (47 ∷ x) → AfterSlash [] x
from_slash [] literals x t =
    inr (record { none = refl; literals = literals; spelled = tails 47 47 x (query_text literals) t.spelled; are = t.is_uri.literals })
from_slash (s ∷ ss) literals x t =
    inl (tail_slash [] x (record { more = s ∷ ss; literals = literals; spelled = t.spelled; is_uri = t.is_uri }))

pub path_begun : (text rest : List ℕ) → text ≡ 47 ∷ rest → ends_path rest ≡ false → PathTaken text [] rest
path_begun text rest e going = record {
  root = λ n. going;
  spelled = e;
  leads = λ x (u, t). from_slash u.segments u.literals x t;
}

not_empty : (before : List Segment) (s : Segment) → before ++ s ∷ [] ≡ [] → ⊥
not_empty [] s e = cc
not_empty (b ∷ before) s e = cc

pub path_more : (text : List ℕ) (before : List Segment) (s : Segment) (rest next : List ℕ) → PathTaken text before rest
    → AreSegments (before ++ s ∷ []) → rest ≡ body_text s ++ 47 ∷ next → PathTaken text (before ++ s ∷ []) next
path_more text before s rest next t u e = record {
  root = λ n. absurd (not_empty before s n);
  spelled = t.spelled ∙ ap (λ x. slashed before ++ 47 ∷ x) e ∙ sym (flat_more before s (47 ∷ next));
  leads = λ x l.
      inl (tail_slash (before ++ s ∷ []) x
      (behind_segment before s (47 ∷ x) (last_is before s u) refl
      (t.leads (body_text s ++ 47 ∷ x) (subst IsUriText (flat_more before s (47 ∷ x)) l))));
}

ends_there : (x : List ℕ) → ends_segment x ≡ true → ((more : List ℕ) → x ≡ 47 ∷ more → ⊥) → ends_path x ≡ true
ends_there [] h none = refl
ends_there (c ∷ x) h none = by_slash (c == 47) refl h
  where
    by_slash : (b : Bool) → (c == 47) ≡ b → (b || (c == 63)) ≡ true → (c == 63) ≡ true
    by_slash true e k = absurd (none x (ap (λ d. d ∷ x) (let f : c ≡ 47 = eqb-true c 47 e in f)))
    by_slash false e k = k

pub path_end : (text : List ℕ) (before : List Segment) (s : Segment) (rest behind : List ℕ) → PathTaken text before rest
    → AreSegments (before ++ s ∷ []) → rest ≡ body_text s ++ behind → ends_segment behind ≡ true
    → ((more : List ℕ) → behind ≡ 47 ∷ more → ⊥) → IsPathBefore text (before ++ s ∷ []) behind
path_end text before s rest behind t u e ends none = record {
  is_uri = u;
  spelled =
      t.spelled ∙ ap (λ x. slashed before ++ 47 ∷ x) e ∙ sym (flat_more before s behind)
      ∙ ap (λ x. x ++ behind) (sym (path_some before s []));
  ends = ends_there behind ends none;
  leads = λ x l.
      tail_question (before ++ s ∷ []) x
      (behind_segment before s (63 ∷ x) (last_is before s u) refl
      (t.leads (body_text s ++ 63 ∷ x)
      (subst IsUriText (ap (λ y. y ++ 63 ∷ x) (path_some before s []) ∙ flat_more before s (63 ∷ x)) l)));
}

no_segments : AreSegments []
no_segments = record { segments = refl; names = tt; greedy = tt; literals = refl }

pub path_root : (text rest : List ℕ) → text ≡ 47 ∷ rest → ends_path rest ≡ true → IsPathBefore text [] rest
path_root text rest e ends = record {
  is_uri = no_segments;
  spelled = e;
  ends = ends;
  leads = λ x (u, t). root_question x (from_slash u.segments u.literals (63 ∷ x) t);
}

-- what comes behind makes a whole text
ahead_whole : (before : List Segment) (x : List ℕ) → AfterSlash before x → IsUriText (slashed before ++ 47 ∷ x)
ahead_whole before x (inl a) = (
  record { segments = before ++ a.segment ∷ a.more; literals = a.literals },
  record {
    is_uri = a.is_uri;
    spelled =
        ap (λ y. slashed before ++ 47 ∷ y) a.spelled ∙ sym (flat_tail before a.segment a.more (query_text a.literals))
        ∙ ap (λ y. y ++ query_text a.literals) (sym (path_some before a.segment a.more));
  },
)
ahead_whole before x (inr r) = (
  record { segments = []; literals = r.literals },
  record {
    is_uri = record { segments = refl; names = tt; greedy = tt; literals = r.are };
    spelled = ap (λ b. slashed b ++ 47 ∷ x) r.none ∙ ap (λ y. 47 ∷ y) r.spelled;
  },
)

pub path_stops : (text : List ℕ) (before : List Segment) (rest left : List ℕ) → PathTaken text before rest
    → StopsBefore (AfterSlash before) rest left → StopsBefore IsUriText text left
path_stops text before rest left t b =
    let w = slashed before ++ 47 ∷ [] in
    let joined : (x : List ℕ) → w ++ x ≡ slashed before ++ 47 ∷ x = λ x. append_assoc (slashed before) (47 ∷ []) x in
    subst (λ y. StopsBefore IsUriText y left) (joined rest ∙ sym t.spelled)
    (stops_behind (λ c. Bool.false) IsUriText (AfterSlash before) w rest left (λ x o l. t.leads x (subst IsUriText (joined x) l))
    (λ x a. subst IsUriText (sym (joined x)) (ahead_whole before x a)) (ends_none rest) b)

uri_head : (segments : List Segment) (literals : List QueryLiteral) (x : List ℕ) (c : ℕ)
    → c ∷ x ≡ path_text segments ++ query_text literals → c ≡ 47
uri_head [] literals x c e = heads c 47 x _ e
uri_head (s ∷ ss) literals x c e = heads c 47 x _ e

uri_some : (segments : List Segment) (literals : List QueryLiteral) → [] ≡ path_text segments ++ query_text literals → ⊥
uri_some [] literals e = cc
uri_some (s ∷ ss) literals e = cc

-- a pattern begins with a slash
no_slash_goes_on : (text : List ℕ) → ((more : List ℕ) → text ≡ 47 ∷ more → ⊥) → NoneGoesOn IsUriText [] text
no_slash_goes_on [] none = λ (u, t). uri_some u.segments u.literals t.spelled
no_slash_goes_on (c ∷ x) none = λ more (u, t). none x (ap (λ d. d ∷ x) (uri_head u.segments u.literals more c t.spelled))

pub no_slash : (text : List ℕ) → ((more : List ℕ) → text ≡ 47 ∷ more → ⊥) → StopsBefore IsUriText text text
no_slash text none = record {
  taken = [];
  cut = refl;
  begun = (47 ∷ [], (record { segments = []; literals = [] }, record { is_uri = no_segments; spelled = refl }));
  none = no_slash_goes_on text none;
}

-- the whole
pub whole_path : (text : List ℕ) (segments : List Segment) (behind : List ℕ) → IsPathBefore text segments behind
    → ((more : List ℕ) → behind ≡ 63 ∷ more → ⊥) → UriText (record { segments = segments; literals = [] }) text
whole_path text segments behind p none = record {
  is_uri = p.is_uri;
  spelled = p.spelled ∙ ap (λ x. path_text segments ++ x) (nothing behind p.ends none);
}
  where
    nothing : (x : List ℕ) → ends_path x ≡ true → ((more : List ℕ) → x ≡ 63 ∷ more → ⊥) → x ≡ []
    nothing [] h f = refl
    nothing (c ∷ x) h f = absurd (f x (ap (λ d. d ∷ x) (eqb-true c 63 h)))

pub whole_query : (text : List ℕ) (segments : List Segment) (behind query : List ℕ) (literals : List QueryLiteral)
    → IsPathBefore text segments behind → behind ≡ 63 ∷ query → IsQuery literals query
    → UriText (record { segments = segments; literals = literals }) text
whole_query text segments behind query literals p e q = record {
  is_uri = record { segments = p.is_uri.segments; names = p.is_uri.names; greedy = p.is_uri.greedy; literals = q.are };
  spelled = p.spelled ∙ ap (λ x. path_text segments ++ x) (e ∙ q.spelled);
}

pub query_stops : (text : List ℕ) (segments : List Segment) (behind query left : List ℕ) → IsPathBefore text segments behind
    → behind ≡ 63 ∷ query → StopsBefore QueryAhead query left → StopsBefore IsUriText text left
query_stops text segments behind query left p e b =
    let w = path_text segments ++ 63 ∷ [] in
    let joined : (x : List ℕ) → w ++ x ≡ path_text segments ++ 63 ∷ x = λ x. append_assoc (path_text segments) (63 ∷ []) x in
    subst (λ y. StopsBefore IsUriText y left) (joined query ∙ ap (λ x. path_text segments ++ x) (sym e) ∙ sym p.spelled)
    (stops_behind (λ c. Bool.false) IsUriText QueryAhead w query left (λ x o l. p.leads x (subst IsUriText (joined x) l))
    (λ x (ls, q). (
      record { segments = segments; literals = ls },
      subst (λ y. UriText (record { segments = segments; literals = ls }) y) (sym (joined x))
          (whole_query (path_text segments ++ 63 ∷ x) segments (63 ∷ x) x ls
          (record { is_uri = p.is_uri; spelled = refl; ends = refl; leads = p.leads }) refl q),
    )) (ends_none query) b)

-- what a reader of segments knows, of one more
among_more : (p : List ℕ → Bool) (xs : List (List ℕ)) (y : List ℕ) → list_any p (xs ++ y ∷ []) ≡ (list_any p xs || p y)
among_more p [] y = or_false (p y)
  where
    or_false : (b : Bool) → (b || false) ≡ b
    or_false true = refl
    or_false false = refl
among_more p (x ∷ xs) y = by_first (p x) (among_more p xs y)
  where
    by_first : (b : Bool) → list_any p (xs ++ y ∷ []) ≡ (list_any p xs || p y)
        → (b || list_any p (xs ++ y ∷ [])) ≡ ((b || list_any p xs) || p y)
    by_first true e = refl
    by_first false e = e

names_more : (before : List Segment) (greedy : Bool) (name : List ℕ)
    → label_names (before ++ labelled greedy name ∷ []) ≡ label_names before ++ name ∷ []
names_more before greedy name =
    names_of_both before (labelled greedy name ∷ []) ∙ ap (λ ns. label_names before ++ (ns ++ [])) (name_of_label greedy name)

names_same : (before : List Segment) (text : List ℕ) → label_names (before ++ Literal text ∷ []) ≡ label_names before
names_same before text = names_of_both before (Literal text ∷ []) ∙ append-nil (label_names before)

greedy_same : (before : List Segment) (text : List ℕ) → greedy_names (before ++ Literal text ∷ []) ≡ greedy_names before
greedy_same before text = flat_map-append greedy_name before (Literal text ∷ []) ∙ append-nil (greedy_names before)

greedy_more : (before : List Segment) (greedy : Bool) (name : List ℕ) → is_some_name (greedy_names before) ≡ false
    → greedy ≡ is_some_name (greedy_names (before ++ labelled greedy name ∷ []))
greedy_more [] true name h = refl
greedy_more [] false name h = refl
greedy_more (Literal t ∷ before) greedy name h = greedy_more before greedy name h
greedy_more (Label n ∷ before) greedy name h = greedy_more before greedy name h
greedy_more (Greedy n ∷ before) greedy name h = cc

-- literal text was read
pub literal_read : (old new : reader.Path) (rest text behind : List ℕ) → IsPathRead old
    → new.segments.items ≡ old.segments.items ++ Literal text ∷ [] → new.names ≡ old.names → new.greedy ≡ old.greedy
    → rest ≡ text ++ behind → is_text_of is_literal_byte text ≡ true → ends_segment behind ≡ true → IsSegmentRead old new rest behind
literal_read old new rest text behind r is names greedy e h ends = record {
  segment = Literal text;
  read = record {
    is_uri = subst AreSegments (sym is) (text_more old.segments.items text r.is_uri h);
    names = λ id.
        ap (λ set. holds_text set id) names ∙ r.names id
        ∙ ap (list_any (λ k. bytes_eq k id)) (sym (ap label_names is ∙ names_same old.segments.items text));
    greedy = greedy ∙ r.greedy ∙ ap is_some_name (sym (ap greedy_names is ∙ greedy_same old.segments.items text));
  };
  is = is;
  spelled = e;
  ends = ends;
}

-- a label was read
pub label_read : (old new : reader.Path) (greedy : Bool) (name inside closing behind : List ℕ) → IsPathRead old → old.greedy ≡ false
    → IsNameCut inside name closing → holds_text old.names name ≡ false → closing ≡ closing_text greedy ++ behind
    → ends_segment behind ≡ true
    → new.segments.items ≡ old.segments.items ++ labelled greedy name ∷ []
    → ((id : List ℕ) → holds_text new.names id ≡ (holds_text old.names id || bytes_eq name id)) → new.greedy ≡ greedy
    → IsSegmentRead old new (123 ∷ inside) behind
label_read old new greedy name inside closing behind r first n absent e ends is names last =
    let none : is_some_name (greedy_names old.segments.items) ≡ false = sym r.greedy ∙ first in record {
      segment = labelled greedy name;
      read = record {
        is_uri = subst AreSegments (sym is) (label_more old.segments.items greedy name r.is_uri n.name (sym (r.names name) ∙ absent) none);
        names = λ id.
            names id ∙ ap (λ b. b || bytes_eq name id) (r.names id)
            ∙ sym (ap (list_any (λ k. bytes_eq k id)) (ap label_names is ∙ names_more old.segments.items greedy name)
            ∙ among_more (λ k. bytes_eq k id) (label_names old.segments.items) name);
        greedy = last ∙ greedy_more old.segments.items greedy name none ∙ ap (λ ss. is_some_name (greedy_names ss)) (sym is);
      };
      is = is;
      spelled =
          ap (λ x. 123 ∷ x) (n.parts ∙ ap (λ x. name ++ x) e ∙ sym (append_assoc name (closing_text greedy) behind))
          ∙ ap (λ x. x ++ behind) (sym (label_body greedy name));
      ends = ends;
    }

-- literal text stops
pub text_stops : (before : List Segment) (rest taken behind : List ℕ) → AreSegments before → IsNotRoot before rest
    → ((more : List ℕ) → rest ≡ 123 ∷ more → ⊥) → rest ≡ taken ++ behind → EndsRun is_literal_byte behind
    → (taken ≡ []) ⊎ ((is_text_of is_literal_byte taken ≡ true) × (ends_segment behind ≡ false))
    → StopsBefore (AfterSlash before) rest behind
text_stops before rest taken behind u root brace e ends (inl none) =
    let same : rest ≡ behind = e ∙ ap (λ x. x ++ behind) none in
    subst (λ x. StopsBefore (AfterSlash before) rest x) same (empty_stops before rest u root
    (subst (EndsRun is_literal_byte) (sym same) ends) brace)
text_stops before rest taken behind u root brace e ends (inr k) =
    subst (λ x. StopsBefore (AfterSlash before) x behind) (sym e) (literal_stops before taken behind u k.0 ends k.1)

-- the steps of the reader
pub path_failed : (text : List ℕ) (old new : reader.Path) (rest : List ℕ) (stop : PatternStop) → PathTaken text old.segments.items rest
    → ReadsSegment old new rest (Err stop) → ReadsPath text (Err stop)
path_failed text old new rest (At left) t r = path_stops text old.segments.items rest left.now t r
path_failed text old new rest NoMemory t r = tt

pub path_done : (text : List ℕ) (old new : reader.Path) (rest behind : List ℕ) → PathTaken text old.segments.items rest
    → IsSegmentRead old new rest behind → ((more : List ℕ) → behind ≡ 47 ∷ more → ⊥) → IsPathBefore text new.segments.items behind
path_done text old new rest behind t r none =
    subst (λ ss. IsPathBefore text ss behind) (sym r.is)
    (path_end text old.segments.items r.segment rest behind t (subst AreSegments r.is r.read.is_uri) r.spelled r.ends none)

pub path_on : (text : List ℕ) (old new : reader.Path) (rest behind next : List ℕ) → PathTaken text old.segments.items rest
    → IsSegmentRead old new rest behind → behind ≡ 47 ∷ next → PathTaken text new.segments.items next
path_on text old new rest behind next t r e =
    subst (λ ss. PathTaken text ss next) (sym r.is)
    (path_more text old.segments.items r.segment rest next t (subst AreSegments r.is r.read.is_uri)
    (r.spelled ∙ ap (λ x. body_text r.segment ++ x) e))

pub query_refused : (text : List ℕ) (segments : List Segment) (behind query : List ℕ) (stop : PatternStop) → IsPathBefore text segments behind
    → behind ≡ 63 ∷ query → ReadsQuery query (Err stop) → ReadsUri text (Err stop)
query_refused text segments behind query (At left) p e r = query_stops text segments behind query left.now p e r
query_refused text segments behind query NoMemory p e r = tt

-- nothing was read yet
pub path_none : (p : reader.Path) → p.segments.items ≡ [] → ((id : List ℕ) → holds_text p.names id ≡ false) → p.greedy ≡ false
    → IsPathRead p
path_none p none empty first = record {
  is_uri = subst AreSegments (sym none) no_segments;
  names = λ id. empty id ∙ sym (ap (λ ss. list_any (λ k. bytes_eq k id) (label_names ss)) none);
  greedy = first ∙ sym (ap (λ ss. is_some_name (greedy_names ss)) none);
}
