-- What the scanner's places mean in its text: prefixes and rests of the bytes.
use Rattle.std.proofs.Common.{◌≡◌, ◌≢◌, ◌↔◌, ◌==◌, ℕ, ◌+◌, ◌-◌, ◌<◌, ◌≤◌, inl, inr, true, List, [], ◌∷◌, ◌++◌, length, take, drop, get_or}
use Rattle.std.proofs.Common.{append_assoc, append-nil, Option, Some, None, sym, ap, subst, ◌∙◌, arith, length-drop, eq-eqb}
use Rattle.std.proofs.Math.Seq.{take-add}
use Rattle.std.proofs.lemmas.List.Folds.{drop_split}
use Rattle.std.specs.List.{slice_range}
use Rattle.std.proofs.lemmas.List.{take-append-drop}
use Rattle.std.proofs.lemmas.Bool.{eqb-true}
use Rattle.std.proofs.lemmas.Grind.{common_steps}
use Rattle.sm_ids.specs.Identifier.{IsIdentifier, IsNamespace}
use Rattle.std.specs.Option.{ForSome}
use Rattle.sm_ids.specs.IdText.{IsIdText, member_text, BreaksAt}
use Rattle.sm_ids.specs.steps.Parts.{HasParts}
use Rattle.sm_ids.specs.steps.Ahead.{Part, in_namespace, in_name, in_member, Ahead, IsIdentifierFrom, IsNamespaceTo}
use Rattle.sm_ids.proofs.Cutting.{heads}
use Rattle.sm_ids.proofs.Identifiers.{made_of_bytes}
use Rattle.sm_ids.proofs.Namespaces.{one_identifier, one_more}
use Rattle.sm_ids.proofs.Aheads.{After, after_run, some_member, no_member, LeadsToPart, leads_nowhere, leads_joined, full_stop_leads}
use Rattle.sm_ids.proofs.Aheads.{hash_leads, dollar_leads}
use Rattle.sm_ids.proofs.Breaking.{breaks_after, breaks_behind}

-- where the rest breaks behind what leads there, the text breaks
pub breaks_from : (p q : Part) (bs : List ℕ) (from at : ℕ) → LeadsToPart p (take from bs) q → from ≤ length bs → from ≤ at
    → BreaksAt (Ahead q) (drop from bs) (at - from) → BreaksAt (Ahead p) bs at
breaks_from p q bs from at leads within before b =
    let len : length (take from bs) ≡ from = grind (arith, common_steps) in
    let place : length (take from bs) + (at - from) ≡ at = omega arith in
    let whole : BreaksAt (Ahead p) (take from bs ++ drop from bs) (length (take from bs) + (at - from)) =
    breaks_after (Ahead p) (Ahead q) (take from bs) (drop from bs) (at - from) leads.onward leads.back b in
    subst (λ x. BreaksAt (Ahead p) x at) (take-append-drop from bs) (subst (BreaksAt (Ahead p) (take from bs ++ drop from bs)) place whole)

-- how long a prefix and a part of the bytes are
take_len : (bs : List ℕ) (n : ℕ) → n ≤ length bs → length (take n bs) ≡ n
take_len bs n within = grind (arith, common_steps)

pub slice_len : (bs : List ℕ) (from to : ℕ) → from ≤ to → to ≤ length bs → length (slice_range bs from to) ≡ to - from
slice_len bs from to before within = grind (arith, common_steps)

-- a prefix is an earlier one and what is between
pub prefix_cut : (bs : List ℕ) (from to : ℕ) → from ≤ to → take to bs ≡ take from bs ++ slice_range bs from to
prefix_cut bs from to before = ap (λ n. take n bs) (let e : to ≡ from + (to - from) = omega arith in e) ∙ take-add from (to - from) bs

pub byte_cut : (bs : List ℕ) (i : ℕ) → i < length bs → drop i bs ≡ get_or bs i 0 ∷ drop (i + 1) bs
byte_cut bs i lt = grind (arith, common_steps)

-- the text breaks behind an identifier, at its end or before a byte that may not stand there
pub breaks_at_identifier : (p q : Part) (bs : List ℕ) (from to : ℕ) → LeadsToPart p (take from bs) q → from ≤ length bs
    → IsIdentifierFrom bs from to → (After q (drop to bs) → ⊥) → ((c : ℕ) (w more : List ℕ) → drop to bs ≡ c ∷ w → After q (c ∷ more) → ⊥)
    → BreaksAt (Ahead p) bs to
breaks_at_identifier p q bs from to leads within i none stop =
    let identifier = slice_range bs from to in
    let b : BreaksAt (Ahead q) (identifier ++ drop to bs) (length identifier) =
    breaks_behind q identifier (drop to bs) i.identifier i.ends none stop in
    let cut : identifier ++ drop to bs ≡ drop from bs = sym (drop_split bs from to i.above) in
    let c : BreaksAt (Ahead q) (drop from bs) (to - from) =
    subst (λ x. BreaksAt (Ahead q) x (to - from)) cut
    (subst (BreaksAt (Ahead q) (identifier ++ drop to bs)) (slice_len bs from to i.above i.within) b) in
    breaks_from p q bs from to leads within i.above c

-- no text goes on behind an identifier with this byte
abbrev pub StopsPart : Part → ℕ → Type 0
StopsPart q c = (more : List ℕ) → After q (c ∷ more) → ⊥

pub breaks_at_byte : (p q : Part) (bs : List ℕ) (from to : ℕ) → LeadsToPart p (take from bs) q → from ≤ length bs
    → IsIdentifierFrom bs from to → to < length bs → StopsPart q (get_or bs to 0) → BreaksAt (Ahead p) bs to
breaks_at_byte p q bs from to leads within i lt stop = breaks_at_identifier p q bs from to leads within i
    (λ a. stop (drop (to + 1) bs) (subst (After q) (byte_cut bs to lt) a))
    (λ c w more e a. stop more (subst (λ d. After q (d ∷ more))
    (sym (heads (get_or bs to 0) c (drop (to + 1) bs) w (sym (byte_cut bs to lt) ∙ e))) a))

-- a namespace doesn't end the text
pub breaks_in_namespace : (bs : List ℕ) (from : ℕ) → LeadsToPart in_namespace (take from bs) in_namespace → from ≤ length bs
    → IsIdentifierFrom bs from (length bs) → BreaksAt IsIdText bs (length bs)
breaks_in_namespace bs from leads within i =
    let none : drop (length bs) bs ≡ [] = grind (arith, common_steps) in
    breaks_at_identifier in_namespace in_namespace bs from (length bs) leads within i (λ a. nothing (subst (After in_namespace) none a))
    (λ c w more e a. let f : [] ≡ c ∷ w = sym none ∙ e in cc)
  where
    nothing : After in_namespace [] → ⊥
    nothing (inl (w, e, t)) = cc
    nothing (inr (w, e, n)) = cc

pub namespace_stops : (c : ℕ) → c ≢ 46 → c ≢ 35 → StopsPart in_namespace c
namespace_stops c f g more (inl (w, e, t)) = f (heads c 46 more w e)
namespace_stops c f g more (inr (w, e, n)) = g (heads c 35 more w e)

pub name_stops : (c : ℕ) → c ≢ 36 → StopsPart in_name c
name_stops c f more (inl e) = cc
name_stops c f more (inr (w, e, k)) = f (heads c 36 more w e)

pub member_stops : (c : ℕ) → StopsPart in_member c
member_stops c more e = cc

-- a prefix, an identifier and the byte behind it
pub prefix_more : (bs : List ℕ) (from to c : ℕ) → from ≤ to → to < length bs → get_or bs to 0 ≡ c
    → take (to + 1) bs ≡ take from bs ++ (slice_range bs from to ++ c ∷ [])
prefix_more bs from to c before lt is =
    let one : take (to + 1) bs ≡ take to bs ++ get_or bs to 0 ∷ [] = grind (arith, common_steps) in
    one ∙ ap (λ x. x ++ get_or bs to 0 ∷ []) (prefix_cut bs from to before)
    ∙ append_assoc (take from bs) (slice_range bs from to) (get_or bs to 0 ∷ [])
    ∙ ap (λ d. take from bs ++ (slice_range bs from to ++ d ∷ [])) is

-- what the loop over a namespace has taken so far: identifiers, each with its full stop
pub record InNamespace (w : List ℕ) : Type 0 where
  pub leads : LeadsToPart in_namespace w in_namespace
  pub joins : (x : List ℕ) → IsNamespace x → IsNamespace (w ++ x)

pub nothing_taken : InNamespace []
nothing_taken = record { leads = leads_nowhere in_namespace; joins = λ x h. h }

pub one_taken : (bs : List ℕ) (from to : ℕ) → InNamespace (take from bs) → IsIdentifierFrom bs from to → to < length bs
    → get_or bs to 0 ≡ 46 → InNamespace (take (to + 1) bs)
one_taken bs from to taken i lt stop =
    let more = prefix_more bs from to 46 i.above lt stop in
    subst InNamespace (sym more) (record {
      leads = leads_joined in_namespace in_namespace in_namespace (take from bs) (slice_range bs from to ++ 46 ∷ []) taken.leads
          (full_stop_leads (slice_range bs from to) i.identifier);
      joins = λ x h. subst IsNamespace (sym (append_assoc (take from bs) (slice_range bs from to ++ 46 ∷ []) x
          ∙ ap (λ y. take from bs ++ y) (append_assoc (slice_range bs from to) (46 ∷ []) x)))
          (taken.joins (slice_range bs from to ++ 46 ∷ x) (one_more (slice_range bs from to) x i.identifier h));
    })

pub namespace_to : (bs : List ℕ) (from to : ℕ) → InNamespace (take from bs) → IsIdentifierFrom bs from to → to < length bs
    → get_or bs to 0 ≡ 35 → IsNamespaceTo bs to
namespace_to bs from to taken i lt hash = record {
  within = lt;
  namespace = subst IsNamespace (sym (prefix_cut bs from to i.above))
      (taken.joins (slice_range bs from to) (one_identifier (slice_range bs from to) i.identifier));
  hash = hash;
}

-- behind a namespace and its `#` a name comes
pub name_comes : (bs : List ℕ) (to : ℕ) → IsNamespaceTo bs to → LeadsToPart in_namespace (take (to + 1) bs) in_name
name_comes bs to n =
    let lt = n.within in
    let more : take (to + 1) bs ≡ take to bs ++ get_or bs to 0 ∷ [] = grind (arith, common_steps) in
    subst (λ x. LeadsToPart in_namespace x in_name) (sym (more ∙ ap (λ c. take to bs ++ c ∷ []) n.hash))
    (hash_leads (take to bs) n.namespace)

-- behind a name and its `$` a member comes
member_comes : (bs : List ℕ) (from to : ℕ) → LeadsToPart in_namespace (take from bs) in_name → IsIdentifierFrom bs from to
    → to < length bs → get_or bs to 0 ≡ 36 → LeadsToPart in_namespace (take (to + 1) bs) in_member
member_comes bs from to leads i lt dollar =
    subst (λ x. LeadsToPart in_namespace x in_member) (sym (prefix_more bs from to 36 i.above lt dollar))
    (leads_joined in_namespace in_name in_member (take from bs) (slice_range bs from to ++ 36 ∷ []) leads
    (dollar_leads (slice_range bs from to) i.identifier))

-- behind a namespace, a name and its `$`
pub record InMember (bs : List ℕ) (from : ℕ) : Type 0 where
  pub leads : LeadsToPart in_namespace (take from bs) in_member
  pub within : from ≤ length bs

pub member_begins : (bs : List ℕ) (namespace name : ℕ) → IsNamespaceTo bs namespace → IsIdentifierFrom bs (namespace + 1) name
    → name < length bs → get_or bs name 0 ≡ 36 → InMember bs (name + 1)
member_begins bs namespace name n i lt dollar = record {
  leads = member_comes bs (namespace + 1) name (name_comes bs namespace n) i lt dollar;
  within = omega arith;
}

-- the places of an id's parts, by what is behind the name
parts : (bs : List ℕ) (namespace name : ℕ) (member : Option (List ℕ)) → IsNamespaceTo bs namespace
    → IsIdentifierFrom bs (namespace + 1) name → drop name bs ≡ member_text member → ForSome member IsIdentifier
    → HasParts bs (record { namespace = namespace; name = name })
parts bs namespace name member n i rest is_member = record {
  id = record { namespace = take namespace bs; name = slice_range bs (namespace + 1) name; member = member };
  spells = record {
    is_id = record { namespace = n.namespace; name = i.identifier; member = is_member };
    spelled = sym (take-append-drop namespace bs)
        ∙ ap (λ r. take namespace bs ++ r) (byte_cut bs namespace n.within ∙ ap (λ c. c ∷ drop (namespace + 1) bs) n.hash)
        ∙ ap (λ r. take namespace bs ++ 35 ∷ r) (drop_split bs (namespace + 1) name i.above
        ∙ ap (λ r. slice_range bs (namespace + 1) name ++ r) rest);
  };
  namespace = take_len bs namespace (let lt = n.within in omega arith);
  name =
      let a = take_len bs namespace (let lt = n.within in omega arith) in
      let b = slice_len bs (namespace + 1) name i.above i.within in
      let le = i.above in
      omega arith;
}

-- a name at the end of the bytes
pub ends_with_name : (bs : List ℕ) (namespace name : ℕ) → IsNamespaceTo bs namespace → IsIdentifierFrom bs (namespace + 1) name
    → name ≡ length bs → HasParts bs (record { namespace = namespace; name = name })
ends_with_name bs namespace name n i last =
    let none : drop name bs ≡ [] = grind (arith, common_steps) in
    parts bs namespace name None n i none no_member

-- a member at the end of the bytes
pub ends_with_member : (bs : List ℕ) (namespace name end : ℕ) → IsNamespaceTo bs namespace → IsIdentifierFrom bs (namespace + 1) name
    → name < length bs → get_or bs name 0 ≡ 36 → IsIdentifierFrom bs (name + 1) end → length bs ≤ end
    → HasParts bs (record { namespace = namespace; name = name })
ends_with_member bs namespace name end n i lt dollar m last =
    let none : drop end bs ≡ [] = grind (arith, common_steps) in
    let rest : drop name bs ≡ 36 ∷ slice_range bs (name + 1) end =
    byte_cut bs name lt ∙ ap (λ c. c ∷ drop (name + 1) bs) dollar
    ∙ ap (λ r. 36 ∷ r) (drop_split bs (name + 1) end m.above ∙ ap (λ r. slice_range bs (name + 1) end ++ r) none
    ∙ append-nil (slice_range bs (name + 1) end)) in
    parts bs namespace name (Some (slice_range bs (name + 1) end)) n i rest (some_member (slice_range bs (name + 1) end) m.identifier)

-- an identifier at the start is all there is exactly where the bytes are one
pub alone : (bs : List ℕ) (end : ℕ) → IsIdentifierFrom bs 0 end → ((end == length bs) ≡ true) ↔ IsIdentifier bs
alone bs end i =
    let cut : bs ≡ slice_range bs 0 end ++ drop end bs = drop_split bs 0 end i.above in (
      λ last.
          let e : end ≡ length bs = eqb-true end (length bs) last in
          let none : drop end bs ≡ [] = grind (arith, common_steps) in
          subst IsIdentifier (sym (cut ∙ ap (λ r. slice_range bs 0 end ++ r) none ∙ append-nil (slice_range bs 0 end))) i.identifier,
      λ whole.
          let none : drop end bs ≡ [] = after_run in_member (slice_range bs 0 end) (drop end bs)
          (made_of_bytes (slice_range bs 0 end) i.identifier) i.ends (subst IsIdentifier cut whole) in
          let empty : length (drop end bs) ≡ 0 = ap length none in
          let len = length-drop end bs in
          let within = i.within in
          let e : end ≡ length bs = omega arith in
          eq-eqb end (length bs) e,
    )
