-- How much each value counts is told in all rows, since it is told where the values stand.
use Rattle.std.proofs.Common.{◌≡◌, ℕ, zero, suc, Bool, true, false, cond, List, [], ◌∷◌, ◌++◌, map, filter, Option, Some, None}
use Rattle.std.proofs.Common.{refl, sym, ap, subst, ◌∙◌, set, bytes_eq}
use Rattle.std.specs.Prelude.{MatchOption, if◌then◌else◌, slice_get, not}
use Rattle.std.specs.Global.{Vec}
use Rattle.std.specs.Option.{option_or}
use Rattle.std.specs.Ordering.{eq_by_cmp}
use Rattle.std.specs.FinMap.Entries.{find}
use Rattle.std.proofs.lemmas.Option.{none-some, same_Some}
use Rattle.sm_tree.specs.View.{node_of}
use Rattle.sm_model.specs.Graphs.{member_id, text_cmp}
use Rattle.sm_model.specs.steps.Rising.{Rise}
use Rattle.sm_merge.specs.Mixins.{is_copied, mixin_trait}
use Rattle.sm_merge.specs.Places.{trait_values}
use Rattle.sm_merge.specs.Stated.{Stated}
use Rattle.sm_merge.specs.steps.Contributing.{AreWalkedTables}
use Rattle.sm_merge.specs.steps.Counting.{AllTold, AreSoundEntries, AreTold, IsSoundEntry}
use Rattle.sm_merge.specs.steps.EffectiveTables.{AreRunning, AreTraitRows, by_members, trait_names, traits_of_member}
use Rattle.sm_merge.specs.steps.Filling.{AreFirstRows, AreTraitsFrom, FoldedRows, copied_at}
use Rattle.sm_merge.specs.steps.Filling.{copied_traits, copies_by, folded_rows, given_rows}
use Rattle.sm_merge.specs.steps.Filling.{kept_by, kept_of, last_first, member_lists, mixin_value}
use Rattle.sm_merge.specs.steps.Firsts.{NamesAndTargets}
use Rattle.sm_merge.specs.steps.Folding.{IsFolded, IsRunning}
use Rattle.sm_merge.specs.steps.Tables.{named_view, traits_found}
use Rattle.sm_merge.specs.declared.effective.MemberTraits.{MemberTraits}
use Rattle.sm_merge.specs.declared.effective.NamedFolded.{NamedFolded}
use Rattle.sm_merge.specs.declared.effective.ShapeTraits.{ShapeTraits}
use Rattle.sm_merge.specs.declared.mixins.Contributing.{Contributing}
use Rattle.sm_merge.specs.declared.parts.BareShape.{BareShape}
use Rattle.sm_merge.specs.declared.table.PlaceRow.{PlaceRow}
use Rattle.sm_merge.specs.declared.value.Folded.{Folded}
use Rattle.sm_merge.specs.declared.walk.Walk.{Walk}
use Rattle.sm_merge.proofs.EffectiveAll.{direct}
use Rattle.sm_merge.proofs.FoundRows.{find_joined, find_kept}
use Rattle.sm_merge.proofs.KeptOnce.{kept_once}
use Rattle.sm_merge.proofs.TablesMade.{AllFound, all_found}

told_joined : (es fs : FoldedRows) → AreTold es → AreTold fs → AreTold (es ++ fs)
told_joined es fs h g k f is = by (find text_cmp k es) refl (sym (find_joined k es fs) ∙ is)
  where
    by : (o : Option Folded) → find text_cmp k es ≡ o → option_or o (find text_cmp k fs) ≡ Some f → IsRunning f
    by None e found = g k f found
    by (Some x) e found = h k f (e ∙ found)

told_kept : (p : List ℕ → Bool) (es : FoldedRows) → AreTold es → AreTold (filter (λ e. p e.0) es)
told_kept p es h k f is = by (p k) (sym (find_kept k p es) ∙ is)
  where
    by : (b : Bool) → cond b (find text_cmp k es) None ≡ Some f → IsRunning f
    by true found = h k f found
    by false found = absurd (none-some f found)

told_none : AreTold []
told_none k f is = absurd (none-some f is)

told_first : (rows : FoldedRows) (ts : List NamedFolded) → AreFirstRows rows ts → AreTold rows → AreTold (folded_rows ts)
told_first rows ts first h k f is = h k f (sym (first.same k) ∙ is)

-- rows whose names rise are all found
names_of_rows : (ts : List NamedFolded) → trait_names ts ≡ map (λ r. r.0) (folded_rows ts)
names_of_rows [] = refl
names_of_rows (t ∷ ts) = ap (λ ns. t.name.now ∷ ns) (names_of_rows ts)

rows_told : (ts : List NamedFolded) → Rise (trait_names ts) → AreTold (folded_rows ts) → AreTraitRows ts
rows_told ts rise told = record {
  rise = rise;
  running = each ts (all_found (folded_rows ts) (subst Rise (names_of_rows ts) rise));
}
  where
    each : (us : List NamedFolded) → AllFound (λ k. find text_cmp k (folded_rows ts)) (folded_rows us) → AreRunning us
    each [] h = tt
    each (u ∷ us) h = (told u.name.now u.folded.now h.0, each us h.1)

-- and what is found is one of the rows
told_rows : (ts : List NamedFolded) → AreRunning ts → AreTold (folded_rows ts)
told_rows [] h k f is = told_none k f is
told_rows (t ∷ ts) h k f is = by (told_rows ts h.1 k f) (eq_by_cmp text_cmp k t.name.now) is
  where
    by : (find text_cmp k (folded_rows ts) ≡ Some f → IsRunning f) → (b : Bool)
        → cond b (Some t.folded.now) (find text_cmp k (folded_rows ts)) ≡ Some f → IsRunning f
    by later true found = subst IsRunning (same_Some t.folded.now f found) h.0
    by later false found = later found

module _ (traits : List PlaceRow) (told : AllTold traits) where
  told_members : (id : List ℕ) (ms : NamesAndTargets) (name : List ℕ) → AreTold (given_rows traits id ms name)
  told_members id [] name = told_none
  told_members id (p ∷ ps) name = by (told_members id ps name) (bytes_eq p.0 name)
    where
      by : AreTold (given_rows traits id ps name) → (b : Bool)
          → AreTold ((if b then named_view (traits_found (member_id id p.0) traits) else []) ++ given_rows traits id ps name)
      by rest true =
          told_joined (named_view (traits_found (member_id id p.0) traits)) (given_rows traits id ps name) (told (member_id id p.0)) rest
      by rest false = rest

  told_copies : (id : List ℕ) (es : FoldedRows) → AreTold es → AreTold (copies_by (mixin_value traits id) es)
  told_copies id es h = by (mixin_value traits id)
    where
      by : (o : Option Folded) → AreTold (copies_by o es)
      by None = told_none
      by (Some f) = told_kept (is_copied (node_of f.value)) es h

  module _ (all : List ShapeTraits) (sound : AreSoundEntries all) where
    -- what mixins have
    abbrev HasTold : Option ShapeTraits → Type 0
    HasTold o = AreTold (folded_rows (copied_traits o)) × ((name : List ℕ) → AreTold (kept_of (member_lists o) name))

    told_entry : (ts : List ShapeTraits) → AreSoundEntries ts → (v : ℕ) → HasTold (slice_get ts v)
    told_entry [] h v = (told_none, λ name. told_none)
    told_entry (t ∷ ts) h zero =
        let s = h.0.sound in (
          h.0.copied,
          λ name.
              subst AreTold (sym (kept_once name t.members.items s.rise))
              (told_kept (λ k. not (bytes_eq k mixin_trait)) (folded_rows (traits_of_member name t.members.items))
              (told_rows (traits_of_member name t.members.items) (s.members name).running)),
        )
    told_entry (t ∷ ts) h (suc v) = told_entry ts h.1 v

    told_copied : (cs : List Contributing) → AreTold (last_first (copied_at all) cs)
    told_copied [] = told_none
    told_copied (c ∷ cs) =
        told_joined (last_first (copied_at all) cs) (copied_at all c) (told_copied cs) (told_entry all sound c.number).0

    told_mixed : (name : List ℕ) (cs : List Contributing) → AreTold (last_first (kept_by name all) cs)
    told_mixed name [] = told_none
    told_mixed name (c ∷ cs) =
        told_joined (last_first (kept_by name all) cs) (kept_by name all c) (told_mixed name cs) ((told_entry all sound c.number).1 name)

    pub sound_entry : (id : List ℕ) (ms : NamesAndTargets) (cs : List Contributing) (t : ShapeTraits) → AreTraitsFrom traits id ms cs all t
        → IsSoundEntry t
    sound_entry id ms cs t from =
        let own = told_first _ t.own.items from.own
        (told_joined (named_view (traits_found id traits)) (last_first (copied_at all) cs) (told id) (told_copied cs)) in
        record {
          sound = record {
            own = rows_told t.own.items from.own.rise own;
            rise = from.rise;
            members = λ name.
                rows_told (traits_of_member name t.members.items) (from.members name).rise
                (told_first _ (traits_of_member name t.members.items) (from.members name)
                (told_joined (given_rows traits id ms name) (last_first (kept_by name all) cs) (told_members id ms name)
                (told_mixed name cs)));
          };
          copied = subst AreTold (sym from.copied) (told_copies id (folded_rows t.own.items) own);
        }

-- no traits
pub none_sound : (own copied : Vec NamedFolded) (members : Vec MemberTraits) → own.items ≡ [] → copied.items ≡ [] → members.items ≡ []
    → IsSoundEntry (record { own = own; copied = copied; members = members })
none_sound own copied members a b c = record {
  sound = record {
    own = subst AreTraitRows (sym a) no_rows;
    rise = subst (λ ms. Rise (map (λ m. m.0) (by_members ms))) (sym c) tt;
    members = λ name. subst (λ ms. AreTraitRows (traits_of_member name ms)) (sym c) no_rows;
  };
  copied = subst (λ ts. AreTold (folded_rows ts)) (sym b) told_none;
}
  where
    no_rows : AreTraitRows []
    no_rows = record { rise = tt; running = tt }

-- one more entry
pub set_sound : (all : List ShapeTraits) (v : ℕ) (t : ShapeTraits) → AreSoundEntries all → IsSoundEntry t → AreSoundEntries (set all v t)
set_sound [] v t h one = tt
set_sound (x ∷ all) zero t h one = (one, h.1)
set_sound (x ∷ all) (suc v) t h one = (h.0, set_sound all v t h.1 one)

pub put_sound : (all : List ShapeTraits) (t : ShapeTraits) → AreSoundEntries all → IsSoundEntry t → AreSoundEntries (all ++ t ∷ [])
put_sound [] t h one = (one, tt)
put_sound (x ∷ all) t h one = (h.0, put_sound all t h.1 one)

-- the tables of statements tell it
pub all_told : (ss : List Stated) (rows : List BareShape) (traits : List PlaceRow) (walk : Walk) → AreWalkedTables ss rows traits walk
    → AllTold traits
all_told ss rows traits walk t place k f is =
    (subst (λ o. MatchOption o (trait_values ss place k ≡ []) (IsFolded (trait_values ss place k))) is
    (direct ss rows traits walk t place k)).running
