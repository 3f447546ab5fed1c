-- What may stand from the start of an identifier on is an identifier, and then what may stand behind it.
use Rattle.std.proofs.Common.{◌≡◌, ℕ, ◌⊎◌, inl, inr, true, List, [], ◌∷◌, ◌++◌, append_assoc, append-nil, Option, Some, None, refl, sym}
use Rattle.std.proofs.Common.{ap, subst, ◌∙◌, lit<}
use Rattle.std.specs.List.{list_all}
use Rattle.std.specs.Option.{ForSome}
use Rattle.sm_ids.specs.Identifier.{is_identifier_byte, IsIdentifier, IsNamespace}
use Rattle.sm_ids.specs.IdText.{Id, IsId, IdText, IsIdText, member_text}
use Rattle.sm_ids.specs.steps.Ahead.{Part, in_namespace, in_name, in_member, EndsRun, NameAhead, Ahead}
use Rattle.sm_ids.proofs.Cutting.{one_cut, heads, tails, above}
use Rattle.sm_ids.proofs.Identifiers.{made_of_bytes}
use Rattle.sm_ids.proofs.Namespaces.{FirstIdentifier, namespace_first, one_identifier, one_more}
use Rattle.sm_ids.proofs.Spellings.{hash_cut}

-- what may stand behind an identifier of this part
abbrev pub After : Part → List ℕ → Type 0
After in_namespace v = ((w : List ℕ) × (v ≡ 46 ∷ w) × IsIdText w) ⊎ ((w : List ℕ) × (v ≡ 35 ∷ w) × NameAhead w)
After in_name v = (v ≡ []) ⊎ ((w : List ℕ) × (v ≡ 36 ∷ w) × IsIdentifier w)
After in_member v = v ≡ []

pub record Opened (part : Part) (u : List ℕ) : Type 0 where
  pub opening : List ℕ
  pub behind : List ℕ
  pub is_opening : IsIdentifier opening
  pub parts : u ≡ opening ++ behind
  pub after : After part behind

pub some_member : (m : List ℕ) → IsIdentifier m → ForSome (Some m) IsIdentifier
some_member m h x e = let same : m ≡ x = cc in subst IsIdentifier same h

pub no_member : ForSome None IsIdentifier
no_member x e = let f : None ≡ Some x = e in cc

name_of : (id : Id) → IsId id → NameAhead (id.name ++ member_text id.member)
name_of id h = record { name = id.name; member = id.member; is_name = h.name; is_member = h.member; spelled = refl }

-- an id's text whose namespace is cut behind its first identifier
open_namespace : (u : List ℕ) (id : Id) → IdText id u → FirstIdentifier id.namespace → Opened in_namespace u
open_namespace u id h f = elim f.is_rest [
  | inl none ↦ record {
    opening = f.first;
    behind = 35 ∷ (id.name ++ member_text id.member);
    is_opening = f.is_first;
    parts = h.spelled ∙ ap (λ ns. ns ++ 35 ∷ (id.name ++ member_text id.member))
        (f.parts ∙ ap (λ r. f.first ++ r) none ∙ append-nil f.first);
    after = inr (id.name ++ member_text id.member, refl, name_of id h.is_id);
  }
  | inr more ↦ record {
    opening = f.first;
    behind = 46 ∷ (more.0 ++ 35 ∷ (id.name ++ member_text id.member));
    is_opening = f.is_first;
    parts = h.spelled ∙ ap (λ ns. ns ++ 35 ∷ (id.name ++ member_text id.member)) (f.parts ∙ ap (λ r. f.first ++ r) more.1)
        ∙ append_assoc f.first (46 ∷ more.0) (35 ∷ (id.name ++ member_text id.member));
    after = inl (
      more.0 ++ 35 ∷ (id.name ++ member_text id.member),
      refl,
      (
        record id { namespace = more.0 },
        record
            { is_id = record { namespace = more.2; name = h.is_id.name; member = h.is_id.member }; spelled = refl },
      ),
    );
  }
]

open_name : (u name : List ℕ) (member : Option (List ℕ)) → IsIdentifier name → ForSome member IsIdentifier → u ≡ name ++ member_text member
    → Opened in_name u
open_name u name None h k e = record { opening = name; behind = []; is_opening = h; parts = e; after = inl refl }
open_name u name (Some m) h k e = record { opening = name; behind = 36 ∷ m; is_opening = h; parts = e; after = inr (m, refl, k m refl) }

pub opened : (part : Part) (u : List ℕ) → Ahead part u → Opened part u
opened in_namespace u (id, h) = open_namespace u id h (namespace_first id.namespace h.is_id.namespace)
opened in_name u h = open_name u h.name h.member h.is_name h.is_member h.spelled
opened in_member u h = record { opening = u; behind = []; is_opening = h; parts = sym (append-nil u); after = refl }

join_full_stop : (i w : List ℕ) → IsIdentifier i → IsIdText w → IsIdText (i ++ 46 ∷ w)
join_full_stop i w h (id, t) = (
  record id { namespace = i ++ 46 ∷ id.namespace },
  record {
    is_id = record { namespace = one_more i id.namespace h t.is_id.namespace; name = t.is_id.name; member = t.is_id.member };
    spelled = ap (λ x. i ++ 46 ∷ x) t.spelled ∙ sym (append_assoc i (46 ∷ id.namespace) (35 ∷ (id.name ++ member_text id.member)));
  },
)

pub join_hash : (ns w : List ℕ) → IsNamespace ns → NameAhead w → IsIdText (ns ++ 35 ∷ w)
join_hash ns w h n = (
  record { namespace = ns; name = n.name; member = n.member },
  record { is_id = record { namespace = h; name = n.is_name; member = n.is_member }; spelled = ap (λ x. ns ++ 35 ∷ x) n.spelled },
)

pub joined : (part : Part) (i v : List ℕ) → IsIdentifier i → After part v → Ahead part (i ++ v)
joined in_namespace i v h (inl (w, e, t)) = subst (λ x. IsIdText (i ++ x)) (sym e) (join_full_stop i w h t)
joined in_namespace i v h (inr (w, e, n)) = subst (λ x. IsIdText (i ++ x)) (sym e) (join_hash i w (one_identifier i h) n)
joined in_name i v h (inl e) = record { name = i; member = None; is_name = h; is_member = no_member; spelled = ap (λ x. i ++ x) e }
joined in_name i v h (inr (w, e, k)) = record
    { name = i; member = Some w; is_name = h; is_member = some_member w k; spelled = ap (λ x. i ++ x) e }
joined in_member i v h e = subst IsIdentifier (sym (append-nil i) ∙ ap (λ x. i ++ x) (sym e)) h

-- none of it goes on with the identifier
after_ends : (part : Part) (v : List ℕ) → After part v → EndsRun is_identifier_byte v
after_ends in_namespace v (inl (w, e, t)) = subst (EndsRun is_identifier_byte) (sym e) refl
after_ends in_namespace v (inr (w, e, n)) = subst (EndsRun is_identifier_byte) (sym e) refl
after_ends in_name v (inl e) = subst (EndsRun is_identifier_byte) (sym e) tt
after_ends in_name v (inr (w, e, k)) = subst (EndsRun is_identifier_byte) (sym e) refl
after_ends in_member v e = subst (EndsRun is_identifier_byte) (sym e) tt

-- behind the longest run of identifier bytes stands what may stand behind an identifier
pub after_run : (part : Part) (i v : List ℕ) → list_all is_identifier_byte i ≡ true → EndsRun is_identifier_byte v → Ahead part (i ++ v)
    → After part v
after_run part i v h o a =
    let x = opened part (i ++ v) a in
    let k = one_cut is_identifier_byte i x.opening v x.behind h (made_of_bytes x.opening x.is_opening) o (after_ends part x.behind x.after)
    x.parts in
    subst (After part) (sym k.1) x.after

-- from here on
pub record LeadsToPart (part : Part) (w : List ℕ) (next : Part) : Type 0 where
  pub onward : (x : List ℕ) → Ahead part (w ++ x) → Ahead next x
  pub back : (x : List ℕ) → Ahead next x → Ahead part (w ++ x)

pub leads_nowhere : (part : Part) → LeadsToPart part [] part
leads_nowhere part = record { onward = λ x a. a; back = λ x a. a }

pub leads_joined : (p q r : Part) (w v : List ℕ) → LeadsToPart p w q → LeadsToPart q v r → LeadsToPart p (w ++ v) r
leads_joined p q r w v h k = record {
  onward = λ x a. k.onward x (h.onward (v ++ x) (subst (Ahead p) (append_assoc w v x) a));
  back = λ x a. subst (Ahead p) (sym (append_assoc w v x)) (h.back (v ++ x) (k.back x a));
}

-- an identifier of a namespace and a full stop
pub full_stop_leads : (i : List ℕ) → IsIdentifier i → LeadsToPart in_namespace (i ++ 46 ∷ []) in_namespace
full_stop_leads i h = record {
  onward = λ x a. behind_stop x (after_run in_namespace i (46 ∷ x) (made_of_bytes i h) refl
      (subst IsIdText (append_assoc i (46 ∷ []) x) a));
  back = λ x a. subst IsIdText (sym (append_assoc i (46 ∷ []) x)) (join_full_stop i x h a);
}
  where
    behind_stop : (x : List ℕ) → After in_namespace (46 ∷ x) → IsIdText x
    behind_stop x (inl (w, e, t)) = subst IsIdText (sym (tails 46 46 x w e)) t
    behind_stop x (inr (w, e, n)) = absurd (above 46 35 (lit< tt) (heads 46 35 x w e))

-- a namespace and a hash
pub hash_leads : (ns : List ℕ) → IsNamespace ns → LeadsToPart in_namespace (ns ++ 35 ∷ []) in_name
hash_leads ns h = record {
  onward = λ x (id, t). subst NameAhead (hash_cut id.namespace ns (id.name ++ member_text id.member) x t.is_id.namespace h
      (sym t.spelled ∙ append_assoc ns (35 ∷ []) x)).1 (name_of id t.is_id);
  back = λ x n. subst IsIdText (sym (append_assoc ns (35 ∷ []) x)) (join_hash ns x h n);
}

-- a name and a dollar sign
pub dollar_leads : (i : List ℕ) → IsIdentifier i → LeadsToPart in_name (i ++ 36 ∷ []) in_member
dollar_leads i h = record {
  onward = λ x a. behind_dollar x (after_run in_name i (36 ∷ x) (made_of_bytes i h) refl (subst NameAhead (append_assoc i (36 ∷ []) x) a));
  back = λ x a. subst NameAhead (sym (append_assoc i (36 ∷ []) x)) (joined in_name i (36 ∷ x) h (inr (x, refl, a)));
}
  where
    behind_dollar : (x : List ℕ) → After in_name (36 ∷ x) → IsIdentifier x
    behind_dollar x (inl e) = cc
    behind_dollar x (inr (w, e, k)) = subst IsIdentifier (sym (tails 36 36 x w e)) k
