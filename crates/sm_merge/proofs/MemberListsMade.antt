-- Rows of traits under members' names: what is put, in order or the last mixin first, and the first of each name.
use Rattle.std.proofs.Common.{◌≡◌, ◌+◌, ◌-◌, ◌<◌, ℕ, zero, suc, Bool, true, false, List, [], ◌∷◌, ◌++◌, length, get_or, drop, Option, Some}
use Rattle.std.proofs.Common.{None, refl, sym, ap, subst, ◌∙◌, append_assoc, append-nil, arith, bytes_eq}
use Rattle.std.specs.Prelude.{MatchOption, if◌then◌else◌}
use Rattle.std.specs.Global.{Vec}
use Rattle.std.specs.List.{cons_option}
use Rattle.std.specs.Option.{unwrap_or}
use Rattle.std.specs.FinMap.Entries.{find}
use Rattle.std.proofs.lemmas.List.Elements.{filter_map-append}
use Rattle.std.proofs.lemmas.Option.{get_or_from_slice_get}
use Rattle.sm_model.specs.Graphs.{text_cmp}
use Rattle.sm_merge.specs.steps.EffectiveTables.{by_members}
use Rattle.sm_merge.specs.steps.Filling.{AreFirstRows, FoldedRows, folded_rows, last_first}
use Rattle.sm_groups.specs.Groups.{AreGroupsOf, all_under, if_under}
use Rattle.sm_merge.specs.steps.Links.{At}
use Rattle.sm_merge.specs.steps.MemberLists.{AreMemberTraits, ComeToFirsts, joined_rows, rows_under}
use Rattle.sm_merge.specs.declared.effective.MemberTraits.{MemberTraits}
use Rattle.sm_merge.specs.declared.effective.NamedFolded.{NamedFolded}
use Rattle.sm_merge.specs.declared.mixins.Contributing.{Contributing}
use Rattle.sm_merge.proofs.Ats.{at_within}
use Rattle.sm_merge.proofs.TablesMade.{table_of}

-- the mixin before the others is put behind them
pub last_step : (f : Contributing → FoldedRows) (start before after : FoldedRows) (mixed : List Contributing) (left : ℕ)
    (c : Contributing) → 0 < left → At mixed (left - 1) c → before ≡ start ++ last_first f (drop left mixed) → after ≡ before ++ f c
    → after ≡ start ++ last_first f (drop (left - 1) mixed)
last_step f start before after mixed left c some there was put =
    let next : left ≡ (left - 1) + 1 = omega (arith, some) in
    put ∙ ap (λ l. l ++ f c) was ∙ append_assoc start (last_first f (drop left mixed)) (f c)
    ∙ ap (λ l. start ++ l) (sym (parts mixed (left - 1) left next (at_within mixed (left - 1) c there)
    (sym (get_or_from_slice_get mixed (left - 1) c c there))))
  where
    parts : (mixed : List Contributing) (i j : ℕ) → j ≡ i + 1 → i < length mixed → c ≡ get_or mixed i c
        → last_first f (drop i mixed) ≡ last_first f (drop j mixed) ++ f c
    parts [] i j next small is = absurd (omega (arith, small))
    parts (d ∷ mixed) zero j next small is =
        (λ k. last_first f mixed ++ f (sym is k)) ∙ ap (λ n. last_first f (drop n (d ∷ mixed)) ++ f c) (sym next)
    parts (d ∷ mixed) (suc i) j next small is =
        parts mixed i (i + 1) refl (omega (arith, small)) is
        ∙ ap (λ n. last_first f (drop n (d ∷ mixed)) ++ f c) (lower ∙ sym next)
      where
        lower : suc (i + 1) ≡ suc i + 1
        lower = omega arith

-- a list under a name
joined_more : (xs ys : List (Vec NamedFolded)) → joined_rows (xs ++ ys) ≡ joined_rows xs ++ joined_rows ys
joined_more [] ys = refl
joined_more (x ∷ xs) ys =
    ap (λ rest. folded_rows x.items ++ rest) (joined_more xs ys) ∙ sym (append_assoc (folded_rows x.items) (joined_rows xs)
    (joined_rows ys))

pub put_one : (name m : List ℕ) (lists : List (List ℕ × Vec NamedFolded)) (v : Vec NamedFolded)
    → rows_under name (lists ++ (m, v) ∷ []) ≡ rows_under name lists ++ (if bytes_eq m name then folded_rows v.items else [])
put_one name m lists v =
    ap joined_rows (filter_map-append (if_under name) lists ((m, v) ∷ []))
    ∙ joined_more (all_under name lists) (all_under name ((m, v) ∷ []))
    ∙ ap (λ l. rows_under name lists ++ l) (by (bytes_eq m name))
  where
    by : (b : Bool) → joined_rows (cons_option (if b then Some v else None) []) ≡ (if b then folded_rows v.items else [])
    by true = append-nil (folded_rows v.items)
    by false = refl

pub none_put : (b : Bool) (rows start : FoldedRows) → rows ≡ [] → start ≡ start ++ (if b then rows else [])
none_put true rows start none = sym (append-nil start) ∙ ap (λ l. start ++ l) (sym none)
none_put false rows start none = sym (append-nil start)

-- tables of the first rows
pub made_lists : (es : List (List ℕ × Vec NamedFolded)) (gs : List (List ℕ × List (Vec NamedFolded))) (lists : List MemberTraits)
    (rows : List ℕ → FoldedRows) → AreGroupsOf es gs → ComeToFirsts gs lists → ((name : List ℕ) → rows_under name es ≡ rows name)
    → AreMemberTraits rows lists
made_lists es gs lists rows are come same =
    let table = table_of (λ vs ts. AreFirstRows (joined_rows vs) ts) es gs (by_members lists) are come in
    record { rise = table.rise; each = λ name. by name (find text_cmp name (by_members lists)) (table.each name) }
  where
    by : (name : List ℕ) (o : Option (List NamedFolded))
        → MatchOption o (all_under name es ≡ []) (λ ts. AreFirstRows (joined_rows (all_under name es)) ts)
        → AreFirstRows (rows name) (unwrap_or o [])
    by name None none = subst (λ r. AreFirstRows r []) (ap joined_rows (sym none) ∙ same name) (record { rise = tt; same = λ k. refl })
    by name (Some ts) is = subst (λ r. AreFirstRows r ts) (same name) is

-- rows put behind rows
pub rows_joined : (xs ys : List NamedFolded) → folded_rows (xs ++ ys) ≡ folded_rows xs ++ folded_rows ys
rows_joined [] ys = refl
rows_joined (x ∷ xs) ys = ap (λ rest. (x.name.now, x.folded.now) ∷ rest) (rows_joined xs ys)
