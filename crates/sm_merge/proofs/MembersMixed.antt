-- Members of mixins one after the other, each name once: two lists, and one entry of a table of members.
use Rattle.std.proofs.Common.{◌≡◌, ◌+◌, ℕ, zero, suc, ◌<◌, Bool, false, cond, List, [], ◌∷◌, ◌++◌, filter, length, get_or, drop, refl}
use Rattle.std.proofs.Common.{sym, ap, subst, ◌∙◌, append_assoc, arith, bytes_eq}
use Rattle.std.specs.Prelude.{◌||◌, not}
use Rattle.std.specs.Global.{Vec}
use Rattle.std.proofs.lemmas.List.{drop_more}
use Rattle.std.proofs.lemmas.Option.{slice_get_read}
use Rattle.sm_merge.specs.Meaning.{Defined}
use Rattle.sm_merge.specs.steps.Filling.{HasMixedMembers, all_targets, members_at, mixed_members, own_in}
use Rattle.sm_merge.specs.steps.Firsts.{NamesAndTargets, firsts, is_name_of, targets_view, unseen}
use Rattle.sm_merge.specs.steps.Links.{At}
use Rattle.sm_merge.specs.steps.MixedIn.{AreBelow, vec_items}
use Rattle.sm_merge.specs.declared.firsts.NamedTarget.{NamedTarget}
use Rattle.sm_merge.specs.declared.mixins.Contributing.{Contributing}
use Rattle.sm_merge.specs.declared.parts.BareShape.{BareShape}
use Rattle.sm_merge.proofs.FirstNames.{unseen_more}
use Rattle.sm_merge.proofs.NamesKnown.{or_none, regroup}

same_kept : (a b : List ℕ × List ℕ → Bool) → ((p : List ℕ × List ℕ) → a p ≡ b p) → (ps : NamesAndTargets) → filter a ps ≡ filter b ps
same_kept a b same [] = refl
same_kept a b same (p ∷ ps) = λ i. cond (same p i) (p ∷ same_kept a b same ps i) (same_kept a b same ps i)

pub all_unseen : (seen : Defined) → ((id : List ℕ) → seen id ≡ false) → (ps : NamesAndTargets) → unseen seen ps ≡ ps
all_unseen seen none [] = refl
all_unseen seen none (p ∷ ps) =
    ap (λ b. cond (not b) (p ∷ unseen seen ps) (unseen seen ps)) (none p.0) ∙ ap (λ rest. p ∷ rest) (all_unseen seen none ps)

-- the names of two lists, one after the other
pub unseen_joined : (seen now : Defined) (xs ys : NamesAndTargets) → ((id : List ℕ) → now id ≡ (seen id || is_name_of id xs))
    → unseen seen (firsts (xs ++ ys)) ≡ unseen seen (firsts xs) ++ unseen now (firsts ys)
unseen_joined seen now [] ys h =
    same_kept (λ p. not (seen p.0)) (λ p. not (now p.0)) (λ p. ap not (or_none (seen p.0) ∙ sym (h p.0))) (firsts ys)
unseen_joined seen now (x ∷ xs) ys h =
    unseen_more seen (λ id. seen id || bytes_eq x.0 id) x (xs ++ ys) (λ id. refl)
    ∙ ap (λ rest. unseen seen (x ∷ []) ++ rest)
    (unseen_joined (λ id. seen id || bytes_eq x.0 id) now xs ys
    (λ id. h id ∙ sym (regroup (seen id) (bytes_eq x.0 id) (is_name_of id xs))))
    ∙ sym (append_assoc (unseen seen (x ∷ [])) (unseen (λ id. seen id || bytes_eq x.0 id) (firsts xs)) (unseen now (firsts ys)))
    ∙ ap (λ front. front ++ unseen now (firsts ys)) (sym (unseen_more seen (λ id. seen id || bytes_eq x.0 id) x xs (λ id. refl)))

-- what has come with those of one more mixin, and then the rest
pub mixin_members : (before after all : NamesAndTargets) (seen now : Defined) (xs ys : NamesAndTargets)
    → after ≡ before ++ unseen seen (firsts xs) → ((id : List ℕ) → now id ≡ (seen id || is_name_of id xs))
    → before ++ unseen seen (firsts (xs ++ ys)) ≡ all → after ++ unseen now (firsts ys) ≡ all
mixin_members before after all seen now xs ys put h step =
    ap (λ l. l ++ unseen now (firsts ys)) put ∙ append_assoc before (unseen seen (firsts xs)) (unseen now (firsts ys))
    ∙ ap (λ l. before ++ l) (sym (unseen_joined seen now xs ys h)) ∙ step

pub below_one : (n : ℕ) (cs : List Contributing) (i : ℕ) (c : Contributing) → AreBelow n cs → i < length cs → c ≡ get_or cs i c
    → c.number < n
below_one n [] i c h small is = absurd (omega (arith, small))
below_one n (d ∷ cs) zero c h small is = subst (λ x. x.number < n) (sym is) h.0
below_one n (d ∷ cs) (suc i) c h small is = below_one n cs i c h.1 (omega (arith, small)) is

-- those of the mixin at a place, as a loop reads them, and those behind it
pub mixin_here : (all : List (Vec NamedTarget)) (mixed : List Contributing) (i : ℕ) (c : Contributing) (ms : Vec NamedTarget)
    (seen : List NamedTarget) (own : NamesAndTargets) → AreBelow (length all) mixed → i < length mixed → c ≡ get_or mixed i c
    → ms ≡ get_or all c.number ms → seen ≡ ms.items
    → targets_view seen ++ all_targets all (drop (i + 1) mixed) own ≡ all_targets all (drop i mixed) own
mixin_here all mixed i c ms seen own below small is there same =
    let parts : drop i mixed ≡ c ∷ drop (i + 1) mixed = drop_more mixed i c small ∙ ap (λ d. d ∷ drop (i + 1) mixed) (sym is) in
    let low = below_one (length all) mixed i c below small is in
    let here = slice_get_read all (length all) c.number ms refl low there in
    ap (λ ps. targets_view ps ++ all_targets all (drop (i + 1) mixed) own) (same ∙ sym (ap vec_items here))
    ∙ sym (append_assoc (members_at all c.number) (mixed_members all (drop (i + 1) mixed)) own)
    ∙ ap (λ cs. all_targets all cs own) (sym parts)

-- an entry of the table
pub entry_made : (rows : List BareShape) (mixed : List (Vec Contributing)) (v : ℕ) (all : List (Vec NamedTarget)) (ms : Vec NamedTarget)
    (row : BareShape) (cs : Vec Contributing) → At rows v row → At mixed v cs
    → targets_view ms.items ≡ firsts (all_targets all cs.items row.members.items) → HasMixedMembers rows mixed v all ms
entry_made rows mixed v all ms row cs at_row at_mixed is =
    is ∙ sym (λ i. firsts (all_targets all (vec_items (at_mixed i)) (own_in (at_row i))))
