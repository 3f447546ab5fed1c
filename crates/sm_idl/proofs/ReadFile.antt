-- What the parts of a file's reading say of it.
use Rattle.std.proofs.Common.{◌≡◌, inl, inr, ℕ, List, [], ◌∷◌, ◌++◌, take, Option, Some, None, codes, refl, sym, ap, subst, ◌∙◌, append-nil}
use Rattle.std.specs.List.{flat_map, filter}
use Rattle.sm_ids.specs.Identifier.{IsNamespace}
use Rattle.sm_model.specs.Said.{Said}
use Rattle.sm_idl.specs.Productions.{Tokens, Production, EachSpells, ◌>>=◌, each, many, maybe}
use Rattle.sm_idl.specs.Words.{the_word, word_that}
use Rattle.sm_idl.specs.Nodes.{Home, Pair}
use Rattle.sm_idl.specs.Bodies.{Suffixes, suffixes}
use Rattle.sm_idl.specs.Shapes.{item}
use Rattle.sm_idl.specs.Idl.{control, metadata, used, is_absolute, home_of, SectionSaid, items, section, section_home, section_said}
use Rattle.sm_idl.specs.Idl.{metadata_statements, FileSaid, file, FileSpelled}
use Rattle.sm_idl.specs.declared.reader.ReadStop.{ReadStop}
use Rattle.sm_idl.specs.declared.reader.ReadStop.TheVariants.{Syntax, NoMemory}
use Rattle.sm_idl.specs.steps.Classes.{Either}
use Rattle.sm_idl.specs.steps.FileClasses.{Dollar, Metadata, Namespace, Use, ItemsGoOn, SectionGoesOn, FileGoesOn}
use Rattle.sm_idl.specs.steps.Firm.{Class, HeadIs, AreApart, IsFirm}
use Rattle.sm_idl.specs.steps.FileSteps.{no_namespace, BeginSaid, BeginStops, FileStops, FileStopped, InSection}
use Rattle.sm_idl.specs.steps.ReaderView.{NoToken, StopsIn}
use Rattle.sm_idl.specs.steps.Reading.{IsRead, IsStuck}
use Rattle.sm_idl.proofs.TokenLists.{no_tokens}
use Rattle.sm_idl.proofs.TokenClasses.{words_unlike}
use Rattle.sm_idl.proofs.FirmShort.{row_firm}
use Rattle.sm_idl.proofs.FirmTraits.{word_firm, the_word_firm}
use Rattle.sm_idl.proofs.FirmShapes.{no_item}
use Rattle.sm_idl.proofs.FirmFiles.{control_firm, metadata_firm, items_firm, section_firm, last_part, last_firm}
use Rattle.sm_idl.proofs.FirmFiles.{behind_controls, behind_firm, dollar_apart}
use Rattle.sm_idl.proofs.OtherHomes.{controls_alike, metadata_alike}
use Rattle.sm_idl.proofs.OtherBeginnings.{controls_begun, metadata_begun}
use Rattle.sm_idl.proofs.OneFile.{one_end, whole_begun}
use Rattle.sm_idl.proofs.Passing.{Follows, ended, first_stop, second_stop, both_read, follows_loose, stops_first, stops_behind}
use Rattle.sm_idl.proofs.Passing.{behind_read, read_whole, value_read, value_stop}
use Rattle.sm_idl.proofs.Choosing.{none_read, some_read, some_stop}

-- where one production stops, another of the same tokens does
stuck_other : {X Y : Type 0} (G : Class) (P : Production X) (Q : Production Y)
    → ((y : Y) (s r : Tokens) → Q.whole y s r → (x : X) × P.whole x s r) → ((s : Tokens) → P.begun s → Q.begun s)
    → ((s : Tokens) → Q.begun s → P.begun s) → (s r : Tokens) → IsStuck G P s r → IsStuck G Q s r
stuck_other G P Q back on off s r k = record {
  before = k.before;
  cut = k.cut;
  begun = on k.before k.begun;
  wholes = λ y u h. (let x = back y (k.before ++ take 1 r) u h in k.wholes x.0 u x.1);
  stops = λ t q e h. k.stops t q e (off (k.before ++ t ∷ []) h);
}

controls_row : (g : Option Home) → IsFirm (Unit {0}) Dollar Dollar (each (control g))
controls_row g = row_firm (control g) [] (control_firm g)

metadata_row : (g : Option Home) → IsFirm (Unit {0}) Metadata Metadata (each (metadata g))
metadata_row g = row_firm (metadata g) [] (metadata_firm g)

metadata_apart : AreApart Metadata Namespace
metadata_apart = words_unlike (codes "metadata") (codes "namespace") refl

-- the beginning of a file, whatever its words are relative to
module _ (g h : Option Home) where
  controls_stuck : (s r : Tokens) → IsStuck Dollar (each (control g)) s r → IsStuck Dollar (each (control h)) s r
  controls_stuck s r k =
      stuck_other Dollar (each (control g)) (each (control h)) (λ ys t u m. controls_alike h g [] [] ys t u refl m)
      (controls_begun g h) (controls_begun h g) s r k

  metadata_stuck : (s r : Tokens) → IsStuck Metadata (each (metadata g)) s r → IsStuck Metadata (each (metadata h)) s r
  metadata_stuck s r k =
      stuck_other Metadata (each (metadata g)) (each (metadata h)) (λ ys t u m. metadata_alike h g [] [] ys t u refl m)
      (metadata_begun g h) (metadata_begun h g) s r k

  -- it ends at one place
  pub one_beginning : (cs ms ds ns : List Pair) (s a b : Tokens) → BeginSaid g cs ms s a → BeginSaid h ds ns s b → a ≡ b
  one_beginning cs ms ds ns s a b (m, c, no_dollar, d, none) (n, e, no_more, f, nothing) =
      let controls = controls_alike g h [] [] cs s m refl c in
      let middle = one_end Dollar (control h) (controls_row h) controls.0 ds s m n controls.1 e no_dollar no_more in
      let entries = metadata_alike g h [] [] ms m a refl d in
      (one_end Metadata (metadata h) (metadata_row h) entries.0 ns n a b
      (subst (λ z. EachSpells (metadata h) [] entries.0 z a) middle.1 entries.1) f none
      nothing).1

-- what stands behind the metadata
module _ (h : Home) (cs ms : List Pair) where
  abbrev said_of : Option SectionSaid → FileSaid
  said_of x = record { home = section_home x; controls = cs; said = metadata_statements ms ++ section_said x }

  abbrev BehindData : Class
  BehindData = Either SectionGoesOn Metadata

  behind_data_stop : (a b r : Tokens) (stop : ReadStop) → (each (metadata (Some h))).whole ms a b → (HeadIs Metadata b → ⊥)
      → StopsIn SectionGoesOn (maybe (section (suffixes cs))) b r stop → StopsIn BehindData (behind_controls (Some h) cs) a r stop
  behind_data_stop a b r stop m none k =
      second_stop Metadata SectionGoesOn BehindData (each (metadata (Some h))) (last_part cs)
      (follows_loose (last_part cs) (last_firm cs) metadata_apart) ms a b r stop
      (ended (each (metadata (Some h))) (metadata_row (Some h)) ms a b none m)
      (value_stop SectionGoesOn (maybe (section (suffixes cs))) said_of b r stop k)

  behind_data_read : (x : Option SectionSaid) (a b r : Tokens) → (each (metadata (Some h))).whole ms a b → (HeadIs Metadata b → ⊥)
      → IsRead SectionGoesOn (maybe (section (suffixes cs))) x b r → IsRead BehindData (behind_controls (Some h) cs) (said_of x) a r
  behind_data_read x a b r m none k =
      both_read Metadata SectionGoesOn BehindData (each (metadata (Some h))) (last_part cs)
      (follows_loose (last_part cs) (last_firm cs) metadata_apart) ms (said_of x) a b r
      (ended (each (metadata (Some h))) (metadata_row (Some h)) ms a b none m)
      (value_read (maybe (section (suffixes cs))) said_of x b r k)

  behind_stop : (s a r : Tokens) (stop : ReadStop) → (each (control (Some h))).whole cs s a → (HeadIs Dollar a → ⊥)
      → StopsIn BehindData (behind_controls (Some h) cs) a r stop → StopsIn FileGoesOn (file (Some h)) s r stop
  behind_stop s a r stop c none k =
      second_stop Dollar BehindData FileGoesOn (each (control (Some h))) (behind_controls (Some h))
      (follows_loose (behind_controls (Some h)) (behind_firm (Some h)) dollar_apart) cs s a r stop
      (ended (each (control (Some h))) (controls_row (Some h)) cs s a none c) k

  pub section_stop : (s b r : Tokens) (stop : ReadStop) → BeginSaid (Some h) cs ms s b
      → StopsIn SectionGoesOn (maybe (section (suffixes cs))) b r stop → StopsIn FileGoesOn (file (Some h)) s r stop
  section_stop s b r stop (a, c, no_dollar, m, none) k = behind_stop s a r stop c no_dollar (behind_data_stop a b r stop m none k)

  pub section_read : (x : Option SectionSaid) (s b r : Tokens) → BeginSaid (Some h) cs ms s b
      → IsRead SectionGoesOn (maybe (section (suffixes cs))) x b r → IsRead FileGoesOn (file (Some h)) (said_of x) s r
  section_read x s b r (a, c, no_dollar, m, none) k =
      both_read Dollar BehindData FileGoesOn (each (control (Some h))) (behind_controls (Some h))
      (follows_loose (behind_controls (Some h)) (behind_firm (Some h)) dollar_apart) cs (said_of x) s a r
      (ended (each (control (Some h))) (controls_row (Some h)) cs s a no_dollar c) (behind_data_read x a b r m none k)

  data_stop : (a r : Tokens) (stop : ReadStop) → StopsIn Metadata (each (metadata (Some h))) a r stop
      → StopsIn BehindData (behind_controls (Some h) cs) a r stop
  data_stop a r stop k =
      first_stop Metadata SectionGoesOn BehindData (each (metadata (Some h))) (last_part cs)
      (follows_loose (last_part cs) (last_firm cs) metadata_apart) a r stop k

-- where the beginning stops, whatever its words are relative to
pub beginning_stuck : (g : Option Home) (h : Home) (s r : Tokens) → BeginStops g s r Syntax → IsStuck FileGoesOn (file (Some h)) s r
beginning_stuck g h s r (inl k) =
    first_stop Dollar (Either SectionGoesOn Metadata) FileGoesOn (each (control (Some h))) (behind_controls (Some h))
    (follows_loose (behind_controls (Some h)) (behind_firm (Some h)) dollar_apart) s r Syntax (controls_stuck g (Some h) s r k)
beginning_stuck g h s r (inr (cs, a, c, none, k)) =
    let ds = controls_alike g (Some h) [] [] cs s a refl c in
    behind_stop h ds.0 [] s a r Syntax ds.1 none (data_stop h ds.0 [] a r Syntax (metadata_stuck g (Some h) a r k))

-- the section: a namespace, the ids that are used, and items
module _ (e : Suffixes) where
  abbrev Behind : Class
  Behind = Either ItemsGoOn Use

  abbrev behind_namespace : List ℕ → Production SectionSaid
  behind_namespace n = many used >>= (λ ws. items (home_of n ws) e)

  follows_uses : (n : List ℕ) → Follows Use ItemsGoOn Behind (λ ws. items (home_of n ws) e)
  follows_uses n = follows_loose (λ ws. items (home_of n ws) e) (λ ws. items_firm (home_of n ws) e) (no_item (codes "use") refl refl)

  in_section : (s r : Tokens) (stop : ReadStop) → HeadIs Namespace s → StopsIn Behind (section e) s r stop
      → StopsIn SectionGoesOn (maybe (section e)) s r stop
  in_section s r stop here k = some_stop Namespace Behind (section e) (section_firm e) s r stop here k

  pub namespace_word_stop : (s r : Tokens) (stop : ReadStop) → HeadIs Namespace s → StopsIn NoToken (the_word (codes "namespace")) s r stop
      → StopsIn SectionGoesOn (maybe (section e)) s r stop
  namespace_word_stop s r stop here k = in_section s r stop here (stops_first Behind (the_word (codes "namespace")) _ s r stop k)

  past_word : (s a r : Tokens) (stop : ReadStop) → HeadIs Namespace s → (the_word (codes "namespace")).whole tt s a
      → StopsIn Behind (word_that IsNamespace >>= behind_namespace) a r stop → StopsIn SectionGoesOn (maybe (section e)) s r stop
  past_word s a r stop here h k =
      in_section s r stop here (stops_behind Behind (the_word (codes "namespace")) _ (the_word_firm (codes "namespace")) tt s a r stop h k)

  pub namespace_stop : (s a r : Tokens) (stop : ReadStop) → HeadIs Namespace s → (the_word (codes "namespace")).whole tt s a
      → StopsIn NoToken (word_that IsNamespace) a r stop → StopsIn SectionGoesOn (maybe (section e)) s r stop
  namespace_stop s a r stop here h k =
      past_word s a r stop here h (stops_first Behind (word_that IsNamespace) behind_namespace a r stop k)

  past_namespace : (n : List ℕ) (s a b r : Tokens) (stop : ReadStop) → HeadIs Namespace s → (the_word (codes "namespace")).whole tt s a
      → (word_that IsNamespace).whole n a b → StopsIn Behind (behind_namespace n) b r stop
      → StopsIn SectionGoesOn (maybe (section e)) s r stop
  past_namespace n s a b r stop here h i k =
      past_word s a r stop here h (stops_behind Behind (word_that IsNamespace) behind_namespace (word_firm IsNamespace) n a b r stop i k)

  pub uses_stop : (n : List ℕ) (s a b r : Tokens) (stop : ReadStop) → HeadIs Namespace s → (the_word (codes "namespace")).whole tt s a
      → (word_that IsNamespace).whole n a b → StopsIn Use (many used) b r stop → StopsIn SectionGoesOn (maybe (section e)) s r stop
  uses_stop n s a b r stop here h i k =
      past_namespace n s a b r stop here h i
      (first_stop Use ItemsGoOn Behind (many used) (λ ws. items (home_of n ws) e) (follows_uses n) b r stop k)

  abbrev section_of : Home → List (List Said) → SectionSaid
  section_of home sss = record { home = home; said = flat_map (λ ss. ss) sss }

  pub statements_stop : (n : List ℕ) (ws : List (List ℕ)) (s a b c r : Tokens) (stop : ReadStop) → HeadIs Namespace s
      → (the_word (codes "namespace")).whole tt s a → (word_that IsNamespace).whole n a b → IsRead Use (many used) ws b c
      → StopsIn ItemsGoOn (many (item (home_of n ws) e)) c r stop → StopsIn SectionGoesOn (maybe (section e)) s r stop
  statements_stop n ws s a b c r stop here h i m k =
      past_namespace n s a b r stop here h i
      (second_stop Use ItemsGoOn Behind (many used) (λ us. items (home_of n us) e) (follows_uses n) ws b c r stop m
      (value_stop ItemsGoOn (many (item (home_of n ws) e)) (section_of (home_of n ws)) c r stop k))

  pub statements_read : (n : List ℕ) (ws : List (List ℕ)) (sss : List (List Said)) (s a b c r : Tokens)
      → (the_word (codes "namespace")).whole tt s a → (word_that IsNamespace).whole n a b → IsRead Use (many used) ws b c
      → IsRead ItemsGoOn (many (item (home_of n ws) e)) sss c r
      → IsRead SectionGoesOn (maybe (section e)) (Some (section_of (home_of n ws) sss)) s r
  statements_read n ws sss s a b c r h i m k =
      some_read Namespace Behind (section e) (section_firm e) (section_of (home_of n ws) sss) s r
      (behind_read (the_word (codes "namespace")) _ (the_word_firm (codes "namespace")) tt (section_of (home_of n ws) sss) s a r h
      (behind_read (word_that IsNamespace) behind_namespace (word_firm IsNamespace) n (section_of (home_of n ws) sss) a b r i
      (both_read Use ItemsGoOn Behind (many used) (λ us. items (home_of n us) e) (follows_uses n) ws (section_of (home_of n ws) sss) b c r m
      (value_read (many (item (home_of n ws) e)) (section_of (home_of n ws)) sss c r k))))

  pub no_section : (s : Tokens) → (HeadIs Namespace s → ⊥) → IsRead SectionGoesOn (maybe (section e)) None s s
  no_section s none = none_read Namespace Behind (section e) (section_firm e) s none

-- where reading stops
pub stuck_stops : (h : Home) (s r : Tokens) → IsStuck FileGoesOn (file (Some h)) s r → FileStops s r
stuck_stops h s r k = record {
  home = h;
  before = k.before;
  cut = k.cut;
  begun = k.begun;
  stops = k.stops;
  none = λ e f w. k.wholes f [] (subst (λ z. (file (Some h)).whole f z [])
      (sym (ap (λ z. k.before ++ take 1 z) e ∙ append-nil k.before)) w);
}

-- a file is read, and more stands behind it
pub read_stops : (h : Home) (f : FileSaid) (s r : Tokens) → IsRead FileGoesOn (file (Some h)) f s r → (r ≡ [] → ⊥) → FileStops s r
read_stops h f s r m some = record {
  home = h;
  before = m.taken;
  cut = m.cut;
  begun = whole_begun (Some h) f m.taken (subst (λ z. (file (Some h)).whole f z []) (append-nil m.taken) (m.spells []));
  stops = λ t q e b. no_tokens t [] (sym (m.over (t ∷ []) q e b));
  none = λ e g w. some e;
}

-- without a namespace
abbrev pub plain_file : List Pair → List Pair → FileSaid
plain_file cs ms = record { home = None; controls = cs; said = metadata_statements ms ++ [] }

pub without_namespace : (cs ms : List Pair) (s : Tokens) → BeginSaid None cs ms s [] → FileSpelled (plain_file cs ms) s
without_namespace cs ms s (a, c, no_dollar, m, none) = (cs, a, c, (ms, [], m, (None, [], refl, (refl, refl))))

-- a stop of the file, as its answer
pub as_stop : (h : Home) (s r : Tokens) (stop : ReadStop) → StopsIn FileGoesOn (file (Some h)) s r stop → FileStopped s r stop
as_stop h s r Syntax k = stuck_stops h s r k
as_stop h s r NoMemory k = tt

pub beginning_stop : (g : Option Home) (s r : Tokens) (stop : ReadStop) → BeginStops g s r stop → FileStopped s r stop
beginning_stop g s r Syntax k = stuck_stops no_namespace s r (beginning_stuck g no_namespace s r k)
beginning_stop g s r NoMemory k = tt

-- Behind the beginning stands a section
module _ (cs ms : List Pair) (s b : Tokens) (begins : BeginSaid (Some no_namespace) cs ms s b) where
  pub word_stop : (r : Tokens) (stop : ReadStop) → HeadIs Namespace b → StopsIn NoToken (the_word (codes "namespace")) b r stop
      → FileStopped s r stop
  word_stop r stop here k =
      as_stop no_namespace s r stop
      (section_stop no_namespace cs ms s b r stop begins (namespace_word_stop (suffixes cs) b r stop here k))

  pub name_stop : (a r : Tokens) (stop : ReadStop) → HeadIs Namespace b → (the_word (codes "namespace")).whole tt b a
      → StopsIn NoToken (word_that IsNamespace) a r stop → FileStopped s r stop
  name_stop a r stop here h k =
      as_stop no_namespace s r stop
      (section_stop no_namespace cs ms s b r stop begins (namespace_stop (suffixes cs) b a r stop here h k))

  pub use_stop : (n : List ℕ) (a c r : Tokens) (stop : ReadStop) → HeadIs Namespace b → (the_word (codes "namespace")).whole tt b a
      → (word_that IsNamespace).whole n a c → StopsIn Use (many used) c r stop → FileStopped s r stop
  use_stop n a c r stop here h i k =
      as_stop no_namespace s r stop
      (section_stop no_namespace cs ms s b r stop begins (uses_stop (suffixes cs) n b a c r stop here h i k))

  pub in_section_at : (home : Home) (ws : List (List ℕ)) (a c r : Tokens) → HeadIs Namespace b → (the_word (codes "namespace")).whole tt b a
      → (word_that IsNamespace).whole home.namespace a c → home.uses ≡ filter is_absolute ws → IsRead Use (many used) ws c r
      → InSection home s r
  in_section_at home ws a c r here h i e k = record {
    controls = cs;
    metadata = ms;
    before = b;
    begins = begins;
    here = here;
    behind_word = a;
    word = h;
    behind_name = c;
    name = i;
    words = ws;
    uses = e;
    read = k;
  }

  -- or nothing that a file has
  pub no_more_stop : (HeadIs Namespace b → ⊥) → (b ≡ [] → ⊥) → FileStopped s b Syntax
  no_more_stop none some =
      read_stops no_namespace (said_of no_namespace cs ms None) s b
      (section_read no_namespace cs ms None s b b begins (no_section (suffixes cs) b none)) some

home_with : List ℕ → List (List ℕ) → Home
home_with n us = record { namespace = n; uses = us }

same_home : (home : Home) (ws : List (List ℕ)) → home.uses ≡ filter is_absolute ws → home ≡ home_of home.namespace ws
unfolding home_with
same_home home ws e = ap (λ us. home_with home.namespace us) e

-- Behind the ids that are used stand statements, whose words are relative to home
module _ (home : Home) (s c : Tokens) (k : InSection home s c) (cs ms : List Pair) (b : Tokens) (begins : BeginSaid (Some home) cs ms s b)
    (endings : Suffixes) (same : endings ≡ suffixes cs) where
  abbrev real : Home
  real = home_of home.namespace k.words

  begins_there : BeginSaid (Some real) cs ms s k.before
  begins_there =
      subst (λ z. BeginSaid (Some z) cs ms s k.before) (same_home home k.words k.uses)
      (subst (λ z. BeginSaid (Some home) cs ms s z)
      (one_beginning (Some home) (Some no_namespace) cs ms k.controls k.metadata s b k.before begins k.begins) begins)

  pub items_stopped : (r : Tokens) (stop : ReadStop) → StopsIn ItemsGoOn (many (item home endings)) c r stop → FileStopped s r stop
  items_stopped r stop m =
      as_stop real s r stop
      (section_stop real cs ms s k.before r stop begins_there
      (statements_stop (suffixes cs) home.namespace k.words k.before k.behind_word k.behind_name c r stop k.here k.word k.name k.read
      (subst (λ z. StopsIn ItemsGoOn (many (item z (suffixes cs))) c r stop) (same_home home k.words k.uses)
      (subst (λ z. StopsIn ItemsGoOn (many (item home z)) c r stop) same m))))

  abbrev made : List (List Said) → FileSaid
  made sss = said_of real cs ms (Some (section_of (suffixes cs) real sss))

  file_read : (sss : List (List Said)) (r : Tokens) → IsRead ItemsGoOn (many (item home endings)) sss c r
      → IsRead FileGoesOn (file (Some real)) (made sss) s r
  file_read sss r m =
      section_read real cs ms (Some (section_of (suffixes cs) real sss)) s k.before r begins_there
      (statements_read (suffixes cs) home.namespace k.words sss k.before k.behind_word k.behind_name c r k.word k.name k.read
      (subst (λ z. IsRead ItemsGoOn (many (item z (suffixes cs))) sss c r) (same_home home k.words k.uses)
      (subst (λ z. IsRead ItemsGoOn (many (item home z)) sss c r) same m)))

  pub items_behind : (sss : List (List Said)) (r : Tokens) → IsRead ItemsGoOn (many (item home endings)) sss c r → (r ≡ [] → ⊥)
      → FileStopped s r Syntax
  items_behind sss r m some = read_stops real (made sss) s r (file_read sss r m) some

  pub file_said : (sss : List (List Said)) (r : Tokens) (old new : List Said) → IsRead ItemsGoOn (many (item home endings)) sss c r → r ≡ []
      → old ≡ metadata_statements ms → new ≡ old ++ flat_map (λ ss. ss) sss
      → (f : FileSaid) × (f.controls ≡ cs) × (f.said ≡ new) × FileSpelled f s
  file_said sss r old new m e g h = (
    made sss,
    refl,
    sym (h ∙ ap (λ l. l ++ flat_map (λ ss. ss) sss) g),
    subst (λ z. (file (Some real)).whole (made sss) s z) e (read_whole (file (Some real)) (made sss) s r (file_read sss r m)),
  )
