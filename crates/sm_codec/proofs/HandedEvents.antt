-- Events handed to a sink one after the other: what may come next, and what came.
use Rattle.std.proofs.Common.{◌≡◌, ℕ, suc, List, [], ◌∷◌, ◌++◌, length, refl, sym, ap, ◌∙◌, subst, append-nil, append_assoc}
use Rattle.sm_tree.specs.Node.{Node, Nodes, Members, null, bool, int, number, text, bytes, tag, opaque, list, object, no_nodes, node}
use Rattle.sm_tree.specs.Node.{no_members, member}
use Rattle.sm_tree.specs.Events.{NodeEvent, key_event, tag_event, start_list, start_object}
use Rattle.sm_tree.specs.Streams.{StandsFor, Takes, BeginsStream, TakesSame, TakesEach, Streams, numbered, numbered_entries}
use Rattle.sm_tree.specs.Streams.{numbered_pairs, entry_count, pair_count}
use Rattle.sm_tree.proofs.Handing.{begins_before, takes_none, takes_both}
use Rattle.sm_tree.proofs.Streams.{numbered_stream}
use Rattle.std.specs.Prelude.{Some, Result, Ok, Err, OnOk}
use Rattle.sm_shapes.specs.Values.{Val, vals_of, entries_of, fields_of}
use Rattle.sm_shapes.specs.TableData.{TableData}
use Rattle.sm_shapes.specs.Places.{Place}
use Rattle.sm_codec.specs.Convention.{Convention}
use Rattle.sm_codec.specs.Written.{written_entries, written_pairs, written_fields}
use Rattle.sm_codec.specs.steps.EventsHanded.{IsReady, Came, CameUpTo, list_stream, object_stream, pair_stream}

mutual
  -- what follows a tree's events follows them
  pub numbered_then : (n : Node) (es fs : List NodeEvent) → numbered n (es ++ fs) ≡ numbered n es ++ fs
  numbered_then null es fs = refl
  numbered_then (bool b) es fs = refl
  numbered_then (int z) es fs = refl
  numbered_then (number t) es fs = refl
  numbered_then (text t) es fs = refl
  numbered_then (bytes t) es fs = refl
  numbered_then (tag k n) es fs = ap (λ gs. tag_event k ∷ gs) (numbered_then n es fs)
  numbered_then (opaque b) es fs = refl
  numbered_then (list ns) es fs = ap (λ gs. start_list (Some (entry_count ns)) ∷ gs) (entries_then ns es fs)
  numbered_then (object ms) es fs = ap (λ gs. start_object (Some (pair_count ms)) ∷ gs) (pairs_then ms es fs)

  entries_then : (ns : Nodes) (es fs : List NodeEvent) → numbered_entries ns (es ++ fs) ≡ numbered_entries ns es ++ fs
  entries_then no_nodes es fs = refl
  entries_then (node n ns) es fs = ap (λ gs. numbered n gs) (entries_then ns es fs) ∙ numbered_then n (numbered_entries ns es) fs

  pairs_then : (ms : Members) (es fs : List NodeEvent) → numbered_pairs ms (es ++ fs) ≡ numbered_pairs ms es ++ fs
  pairs_then no_members es fs = refl
  pairs_then (member k n ms) es fs =
      ap (λ gs. key_event k ∷ gs) (ap (λ gs. numbered n gs) (pairs_then ms es fs) ∙ numbered_then n (numbered_pairs ms es) fs)

-- an entry and those behind it, and a pair and those behind it
pub entry_then : (n : Node) (ns : Nodes) → numbered_entries (node n ns) [] ≡ numbered n [] ++ numbered_entries ns []
entry_then n ns = numbered_then n [] (numbered_entries ns [])

pub pair_then : (k : List ℕ) (n : Node) (ms : Members) → numbered_pairs (member k n ms) [] ≡ (key_event k ∷ numbered n []) ++
    numbered_pairs ms []
pair_then k n ms = ap (λ gs. key_event k ∷ gs) (numbered_then n [] (numbered_pairs ms []))

module _ (T : Takes) where
  first_taken : (a b : List NodeEvent) → TakesEach T (a ++ b) → TakesEach T a
  first_taken [] b h = tt
  first_taken (e ∷ a) b h = (h.0, first_taken a b h.1)

  rest_taken : (a b : List NodeEvent) → TakesEach T (a ++ b) → TakesEach T b
  rest_taken [] b h = h
  rest_taken (e ∷ a) b h = rest_taken a b h.1

  still_taken : (U : Takes) (a : List NodeEvent) → TakesSame T U → TakesEach T a → TakesEach U a
  still_taken U [] same h = tt
  still_taken U (e ∷ a) same h = (same e h.0, still_taken U a same h.1)

-- the first of some events may come, and behind them the rest
pub first_ready : (S : StandsFor) (T : Takes) (a b : List NodeEvent) → IsReady S T (a ++ b) → IsReady S T a
first_ready S T a b h = record {
  next = (h.next.0, h.next.1, begins_before (h.next.0 ++ a) b (subst BeginsStream (sym (append_assoc h.next.0 a b)) h.next.2));
  takes = first_taken T a b h.takes;
}

pub rest_ready : (S M : StandsFor) (T U : Takes) (a b : List NodeEvent) → IsReady S T (a ++ b) → Came S T a M U → IsReady M U b
rest_ready S M T U a b h came =
    let all = subst BeginsStream (sym (append_assoc h.next.0 a b)) h.next.2 in record {
      next = (h.next.0 ++ a, came.stands h.next.0 h.next.1 (begins_before (h.next.0 ++ a) b all), all);
      takes = still_taken T U b came.same (rest_taken T a b h.takes);
    }

pub came_both : (S M N : StandsFor) (T U V : Takes) (a b : List NodeEvent) → Came S T a M U → Came M U b N V → Came S T (a ++ b) N V
came_both S M N T U V a b first second = record {
  stands = takes_both S M N a b first.stands second.stands;
  same = λ e h. second.same e (first.same e h);
}

-- none yet, one piece more, and the last piece
pub come_none : (S : StandsFor) (T : Takes) (out : List NodeEvent) → IsReady S T out → CameUpTo S T out S T out
come_none S T out h = ([], refl, record { stands = takes_none S; same = λ e h. h }, h)

pub come_more : (S M N : StandsFor) (T U V : Takes) (out a b : List NodeEvent) → CameUpTo S T out M U (a ++ b) → Came M U a N V
    → CameUpTo S T out N V b
come_more S M N T U V out a b h came = (
  h.0 ++ a,
  append_assoc h.0 a b ∙ h.1,
  came_both S M N T U V h.0 a h.2 came,
  rest_ready M N U V a b h.3 came,
)

pub come_all : (S M N : StandsFor) (T U V : Takes) (out a : List NodeEvent) → CameUpTo S T out M U a → Came M U a N V → Came S T out N V
come_all S M N T U V out a h came = subst (λ es. Came S T es N V) h.1 (came_both S M N T U V h.0 a h.2 came)

-- a list: its opener with its number, an entry, and what is left then
pub list_opener_ready : (S : StandsFor) (T : Takes) (ns : Nodes) (k : ℕ) → entry_count ns ≡ k → IsReady S T (list_stream ns)
    → IsReady S T (start_list (Some k) ∷ [])
list_opener_ready S T ns k e h =
    subst (λ j. IsReady S T (start_list (Some j) ∷ [])) e (first_ready S T (start_list (Some (entry_count ns)) ∷ []) (numbered_entries ns
    []) h)

pub list_begun : (S M : StandsFor) (T U : Takes) (ns : Nodes) (k : ℕ) → entry_count ns ≡ k → IsReady S T (list_stream ns)
    → Came S T (start_list (Some k) ∷ []) M U → CameUpTo S T (list_stream ns) M U (numbered_entries ns [])
list_begun S M T U ns k e h came =
    come_more S S M T T U (list_stream ns) (start_list (Some (entry_count ns)) ∷ []) (numbered_entries ns [])
    (come_none S T (list_stream ns) h) (subst (λ j. Came S T (start_list (Some j) ∷ []) M U) (sym e) came)

-- the same of an object and its pairs
pub object_opener_ready : (S : StandsFor) (T : Takes) (ms : Members) (k : ℕ) → pair_count ms ≡ k → IsReady S T (object_stream ms)
    → IsReady S T (start_object (Some k) ∷ [])
object_opener_ready S T ms k e h =
    subst (λ j. IsReady S T (start_object (Some j) ∷ [])) e (first_ready S T (start_object (Some (pair_count ms)) ∷ []) (numbered_pairs
    ms []) h)

pub object_begun : (S M : StandsFor) (T U : Takes) (ms : Members) (k : ℕ) → pair_count ms ≡ k → IsReady S T (object_stream ms)
    → Came S T (start_object (Some k) ∷ []) M U → CameUpTo S T (object_stream ms) M U (numbered_pairs ms [])
object_begun S M T U ms k e h came =
    come_more S S M T T U (object_stream ms) (start_object (Some (pair_count ms)) ∷ []) (numbered_pairs ms [])
    (come_none S T (object_stream ms) h) (subst (λ j. Came S T (start_object (Some j) ∷ []) M U) (sym e) came)

pub pair_ready : (S M : StandsFor) (T U : Takes) (out : List NodeEvent) (k : List ℕ) (n : Node) (ms : Members)
    → CameUpTo S T out M U (numbered_pairs (member k n ms) []) → IsReady M U (pair_stream k n)
pair_ready S M T U out k n ms h =
    first_ready M U (pair_stream k n) (numbered_pairs ms []) (subst (IsReady M U) (pair_then k n ms) h.3)

pub pair_came : (S M N : StandsFor) (T U V : Takes) (out : List NodeEvent) (k : List ℕ) (n : Node) (ms : Members)
    → CameUpTo S T out M U (numbered_pairs (member k n ms) []) → Came M U (pair_stream k n) N V
    → CameUpTo S T out N V (numbered_pairs ms [])
pair_came S M N T U V out k n ms h came =
    come_more S M N T U V out (pair_stream k n) (numbered_pairs ms []) (subst (CameUpTo S T out M U) (pair_then k n ms) h) came

-- an object of one pair, whose name may be told by another word
pub one_pair_ready : (S M : StandsFor) (T U : Takes) (k w : List ℕ) (n : Node) → w ≡ k → IsReady S T (object_stream (member k n no_members))
    → Came S T (start_object (Some 1) ∷ []) M U → IsReady M U (pair_stream w n)
one_pair_ready S M T U k w n same h came =
    let ms = member k n no_members in
    subst (λ x. IsReady M U (pair_stream x n)) (sym same)
    (pair_ready S M T U (object_stream ms) k n no_members (object_begun S M T U ms 1 refl h came))

pub one_pair_came : (S M N : StandsFor) (T U V : Takes) (k w : List ℕ) (n : Node) → w ≡ k
    → IsReady S T (object_stream (member k n no_members)) → Came S T (start_object (Some 1) ∷ []) M U → Came M U (pair_stream w n) N V
    → CameUpTo S T (object_stream (member k n no_members)) N V (numbered_pairs no_members [])
one_pair_came S M N T U V k w n same h came pair =
    let ms = member k n no_members in
    pair_came S M N T U V (object_stream ms) k n no_members (object_begun S M T U ms 1 refl h came)
    (subst (λ x. Came M U (pair_stream x n) N V) same pair)

-- how many entries and pairs are written
pub entries_counted : (t : TableData) (l : Convention) (p : Place) (vs : List Val) → entry_count (written_entries t l p (vals_of vs)) ≡
    length vs
entries_counted t l p [] = refl
entries_counted t l p (v ∷ vs) = ap suc (entries_counted t l p vs)

pub pairs_counted : (t : TableData) (l : Convention) (p : Place) (es : List (List ℕ × Val))
    → pair_count (written_pairs t l p (entries_of es)) ≡ length es
pairs_counted t l p [] = refl
pairs_counted t l p (e ∷ es) = ap suc (pairs_counted t l p es)

pub fields_counted : (t : TableData) (l : Convention) (p : Place) (fs : List (ℕ × Val))
    → pair_count (written_fields t l p (fields_of fs)) ≡ length fs
fields_counted t l p [] = refl
fields_counted t l p (f ∷ fs) = ap suc (fields_counted t l p fs)

-- the same where the last piece may be refused
pub then_came : {A E : Type 0} (S M N : StandsFor) (T U V : Takes) (a b : List NodeEvent) (r : Result A E) → Came S T a M U
    → OnOk r (Came M U b N V) → OnOk r (Came S T (a ++ b) N V)
then_came S M N T U V a b (Ok x) first second = came_both S M N T U V a b first second
then_came S M N T U V a b (Err e) first second = tt

pub last_came : {A E : Type 0} (S M N : StandsFor) (T U V : Takes) (out a : List NodeEvent) (r : Result A E) → CameUpTo S T out M U a
    → OnOk r (Came M U a N V) → OnOk r (Came S T out N V)
last_came S M N T U V out a (Ok x) h came = come_all S M N T U V out a h came
last_came S M N T U V out a (Err e) h came = tt

-- to a sink that stands for no event the events of a tree may come, and then it stands for them
begins_all : (n : Node) → BeginsStream (numbered n [])
begins_all n = (n, [], subst (λ es. Streams n es []) (sym (append-nil (numbered n []))) (numbered_stream n []))

pub empty_ready : (S : StandsFor) (T : Takes) (n : Node) → S [] → TakesEach T (numbered n []) → IsReady S T (numbered n [])
empty_ready S T n none takes = record { next = ([], none, begins_all n); takes = takes }

pub all_stand : {A E : Type 0} (S M : StandsFor) (T U : Takes) (n : Node) (r : Result A E) → S [] → OnOk r (Came S T (numbered n []) M U)
    → OnOk r (M (numbered n []))
all_stand S M T U n (Ok x) none came = came.stands [] none (begins_all n)
all_stand S M T U n (Err e) none came = tt
