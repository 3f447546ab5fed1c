-- Tokens are those of one file, and what a file's tokens begin with is begun.
use Rattle.std.proofs.Common.{◌≡◌, inl, inr, List, [], ◌∷◌, ◌++◌, Option, Some, None, codes, append-nil, refl, sym, ap, ◌∙◌, subst}
use Rattle.sm_lex.proofs.OneReading.{one_reading as one_lexing}
use Rattle.sm_ids.specs.Identifier.{IsNamespace}
use Rattle.sm_idl.specs.Productions.{Tokens, spaced, Production, OptionSpells, EachSpells, each, many}
use Rattle.sm_idl.specs.Words.{the_word, word_that}
use Rattle.sm_idl.specs.Nodes.{Home}
use Rattle.sm_idl.specs.Bodies.{Suffixes, suffixes}
use Rattle.sm_idl.specs.Idl.{control, metadata, used, home_of, SectionSaid, items}
use Rattle.sm_idl.specs.Idl.{section, section_home, section_said, metadata_statements, FileSaid, file, FileSpelled}
use Rattle.sm_idl.specs.Laws.{OneReading, PrefixesAreBegun}
use Rattle.sm_idl.specs.steps.ReaderView.{NoToken}
use Rattle.sm_idl.specs.steps.Classes.{Either}
use Rattle.sm_idl.specs.steps.FileClasses.{ItemStart, Dollar, Metadata, Namespace, Use, ItemsGoOn, AfterControls}
use Rattle.sm_idl.specs.steps.Firm.{Class, HeadIs, AreApart, IsFirm}
use Rattle.sm_idl.proofs.TokenLists.{head_apart, head_moved}
use Rattle.sm_idl.proofs.FirmEach.{starts}
use Rattle.sm_idl.proofs.FirmShort.{row_firm}
use Rattle.sm_idl.proofs.TokenClasses.{words_unlike}
use Rattle.sm_idl.proofs.FirmTraits.{word_firm, the_word_firm}
use Rattle.sm_idl.proofs.FirmShapes.{no_item}
use Rattle.sm_idl.proofs.FirmFiles.{control_firm, metadata_firm, used_firm}
use Rattle.sm_idl.proofs.FirmFiles.{items_firm, section_firm, last_part, last_firm, behind_controls, behind_firm}
use Rattle.sm_idl.proofs.FirmFiles.{dollar_apart, file_firm}
use Rattle.sm_idl.proofs.OtherHomes.{controls_alike, metadata_alike}

-- a production that may be none stands here, so no token of another class does
not_here : {X : Type 0} (A B G : Class) (P : Production X) → IsFirm (Unit {0}) A G P → AreApart B A → (x : X) (s : Tokens) → P.whole x s []
    → HeadIs B s → ⊥
not_here A B G P p apart x s h b = elim (p.head x s [] h) [
  | inl e ↦ head_moved B s [] e.1 b
  | inr a ↦ head_apart B A s apart b a
]

-- the two ends of rows of one production are one, where no more of them stand behind
pub one_end : {X : Type 0} (A : Class) (P : List X → Production X) → IsFirm (Unit {0}) A A (each P) → (xs ys : List X) (s r q : Tokens)
    → EachSpells P [] xs s r → EachSpells P [] ys s q → (HeadIs A r → ⊥) → (HeadIs A q → ⊥) → (xs ≡ ys) × (r ≡ q)
one_end A P p xs ys s r q h k here there = elim (p.single xs ys s r q h k) [
  | inl e ↦ e
  | inr m ↦ elim m [ inl a ↦ absurd (here a) | inr a ↦ absurd (there a) ]
]

one_ended : {X : Type 0} (A : Class) (P : Production X) → IsFirm ⊥ A NoToken P → (x y : X) (s r q : Tokens) → P.whole x s r → P.whole y s q
    → (x ≡ y) × (r ≡ q)
one_ended A P p x y s r q h k = elim (p.single x y s r q h k) [
  | inl e ↦ e
  | inr m ↦ elim m [ inl a ↦ absurd (nothing r a) | inr a ↦ absurd (nothing q a) ]
]
  where
    nothing : (t : Tokens) → HeadIs NoToken t → ⊥
    nothing [] n = n
    nothing (u ∷ t) n = n

use_row : IsFirm (Unit {0}) Use Use (many used)
use_row = row_firm (λ _. used) [] (λ _. used_firm)

-- the namespace and the ids that are used are the same, whatever the controls say
section_home_same : (cs ds : Suffixes) (a b : SectionSaid) (s : Tokens) → (section cs).whole a s [] → (section ds).whole b s []
    → a.home ≡ b.home
section_home_same cs ds a b s (_, s1, w, (n, s2, h, (ws, s3, k, (is, s4, m, (e, last))))) (
  _,
  t1,
  v,
  (
    o,
    t2,
    i,
    (
      vs,
      t3,
      l,
      (
        js,
        t4,
        p,
        (f, end),
      ),
    ),
  ),
) =
    let first = one_ended Namespace (the_word (codes "namespace")) (the_word_firm (codes "namespace")) tt tt s s1 t1 w v in
    let name = one_ended _ (word_that IsNamespace) (word_firm IsNamespace) n o t1 s2 t2 (subst (λ z.
    (word_that IsNamespace).whole n z s2) first.1 h) i in
    let uses = one_end Use (λ _. used) use_row ws vs t2 s3 t3 (subst (λ z. EachSpells (λ _. used) [] ws z s3) name.1 k) l
    (not_here ItemStart Use ItemsGoOn (items (home_of n ws) cs) (items_firm (home_of n ws) cs) (no_item (codes "use") refl refl) a s3
    (is, s4, m, (e, last)))
    (not_here ItemStart Use ItemsGoOn (items (home_of o vs) ds) (items_firm (home_of o vs) ds) (no_item (codes "use") refl refl) b t3
    (js, t4, p, (f, end))) in
    ap (λ z. z.home) e ∙ ap (λ x. home_of x ws) name.0 ∙ ap (λ x. home_of o x) uses.0 ∙ sym (ap (λ z. z.home) f)

sections_home_same : (cs ds : Suffixes) (a b : Option SectionSaid) (s : Tokens) → OptionSpells (section cs) a s []
    → OptionSpells (section ds) b s []
    → section_home a ≡ section_home b
sections_home_same cs ds None None s h k = refl
sections_home_same cs ds (Some a) (Some b) s h k = ap Some (section_home_same cs ds a b s h k)
sections_home_same cs ds None (Some b) s h k = absurd (head_moved Namespace s [] h (starts Namespace (Either ItemsGoOn Use) (section ds)
    (section_firm ds) b s [] k))
sections_home_same cs ds (Some a) None s h k = absurd (head_moved Namespace s [] k (starts Namespace (Either ItemsGoOn Use) (section cs)
    (section_firm cs) a s [] h))

-- so is what a file's words are relative to
home_same : (g h : Option Home) (a b : FileSaid) (s : Tokens) → (file g).whole a s [] → (file h).whole b s [] → a.home ≡ b.home
home_same g h a b s (cs, s1, c, (ms, s2, m, (x, s3, n, (e, last)))) (ds, t1, d, (ns, t2, k, (y, t3, o, (f, end)))) =
    let other = controls_alike h g [] [] ds s t1 refl d in
    let controls = one_end Dollar (control g) (row_firm (control g) [] (control_firm g)) cs other.0 s s1 t1 c other.1
    (not_here AfterControls Dollar _ (behind_controls g cs) (behind_firm g cs) dollar_apart a s1 (ms, s2, m, (x, s3, n, (e, last))))
    (not_here AfterControls Dollar _ (behind_controls h ds) (behind_firm h ds) dollar_apart b t1 (ns, t2, k, (y, t3, o, (f, end)))) in
    let others = metadata_alike h g [] [] ns t1 t2 refl k in
    let data_end = one_end Metadata (metadata g) (row_firm (metadata g) [] (metadata_firm g)) ms others.0 t1 s2 t2
    (subst (λ z. EachSpells (metadata g) [] ms z s2) controls.1 m) others.1
    (not_here Namespace Metadata _ (last_part cs ms) (last_firm cs ms) (words_unlike (codes "metadata") (codes "namespace") refl) a s2
    (x, s3, n, (e, last)))
    (not_here Namespace Metadata _ (last_part ds ns) (last_firm ds ns) (words_unlike (codes "metadata") (codes "namespace") refl) b t2
    (y, t3, o, (f, end))) in
    ap (λ z. z.home) e
    ∙ sections_home_same (suffixes cs) (suffixes ds) x y t2 (subst (λ z. OptionSpells (section (suffixes cs)) x z []) data_end.1
    (subst (λ z. OptionSpells
    (section (suffixes cs)) x s2 z) last n))
    (subst (λ z. OptionSpells (section (suffixes ds)) y t2 z) end o)
    ∙ sym (ap (λ z. z.home) f)

one_file : (a b : FileSaid) (ts : Tokens) → FileSpelled a ts → FileSpelled b ts → Path FileSaid a b
one_file a b ts h k =
    let homes = home_same a.home b.home a b ts h k in
    elim ((file_firm b.home).single a b ts [] [] (subst (λ z. (file z).whole a ts []) homes h) k) [
      | inl e ↦ e.0
      | inr m ↦ elim m [ inl n ↦ absurd n | inr n ↦ absurd n ]
    ]

pub one_reading : OneReading
one_reading bytes a b (xs, spelled, h) (ys, again, k) =
    one_file a b (spaced bytes ys) (subst (λ zs. FileSpelled a (spaced bytes zs)) (one_lexing bytes xs ys spelled again) h) k

some_is_none : (h : Home) → Some h ≡ None → ⊥
some_is_none h e = cc

-- a whole file is begun, and so is all that it begins with
pub whole_begun : (home : Option Home) (f : FileSaid) (ts : Tokens) → (file home).whole f ts [] → (file home).begun ts
whole_begun home f ts (cs, s1, c, (ms, s2, m, (x, s3, n, (e, last)))) = inr (cs, s1, c, inr (ms, s2, m, inr (x, s3, n, last)))

-- What spells a file spells one whose words are ids: without a namespace only the nodes of its controls and metadata differ
pub with_ids : (home : Option Home) (f : FileSaid) (ts : Tokens) → f.home ≡ home → (file home).whole f ts []
    → (h : Home) × ((g : FileSaid) × (file (Some h)).whole g ts [])
with_ids (Some h) f ts is k = (h, (f, k))
with_ids None f ts is (cs, s1, c, (ms, s2, m, (None, s3, n, (e, last)))) =
    let h : Home = record { namespace = []; uses = [] } in
    let ds = controls_alike None (Some h) [] [] cs ts s1 refl c in
    let ns = metadata_alike None (Some h) [] [] ms s1 s2 refl m in (
      h,
      (
        record { home = section_home None; controls = ds.0; said = metadata_statements ns.0 ++ section_said None },
        (ds.0, s1, ds.1, (ns.0, s2, ns.1, (None, s3, n, (refl, last)))),
      ),
    )
with_ids None f ts is (cs, s1, c, (ms, s2, m, (Some x, s3, n, (e, last)))) = absurd (some_is_none x.home (sym (ap (λ z. z.home) e) ∙ is))

pub prefixes_are_begun : PrefixesAreBegun
prefixes_are_begun f ts [] h =
    let g = with_ids f.home f ts refl (subst (λ z. FileSpelled f z) (append-nil ts) h) in (g.0, whole_begun (Some g.0) g.1.0 ts g.1.1)
prefixes_are_begun f ts (u ∷ us) h =
    let g = with_ids f.home f (ts ++ u ∷ us) refl h in (g.0, (file_firm (Some g.0)).prefix g.1.0 ts u us g.1.1)
