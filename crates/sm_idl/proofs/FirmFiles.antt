-- Files can be read from the front, so what is begun and what is spelled exclude each other as they should.
use Rattle.std.proofs.Common.{List, [], ◌++◌, Option, codes, refl}
use Rattle.sm_tree.specs.Limits.{most_levels}
use Rattle.sm_ids.specs.Identifier.{IsNamespace}
use Rattle.sm_idl.specs.Productions.{Production, gives, ◌>>=◌, maybe, each, many}
use Rattle.sm_idl.specs.Words.{IsWordId, mark, the_word, word_that, key}
use Rattle.sm_idl.specs.Nodes.{Home, Pair, pair_names, node}
use Rattle.sm_idl.specs.Bodies.{Controls, Suffixes, suffixes}
use Rattle.sm_idl.specs.Shapes.{item}
use Rattle.sm_idl.specs.Idl.{control, metadata, used, home_of, items, section, FileSaid, section_home, section_said}
use Rattle.sm_idl.specs.Idl.{metadata_statements, file}
use Rattle.sm_idl.specs.steps.ReaderView.{NoToken}
use Rattle.sm_idl.specs.steps.Classes.{Either, NodeStart}
use Rattle.sm_idl.specs.steps.FileClasses.{ItemStart, ItemGoesOn, Dollar, Metadata, Namespace}
use Rattle.sm_idl.specs.steps.FileClasses.{Use, ItemsGoOn, SectionGoesOn, AfterControls, FileGoesOn}
use Rattle.sm_idl.specs.steps.Firm.{AreApart, IsFirm}
use Rattle.sm_idl.proofs.FirmEach.{firm_maybe}
use Rattle.sm_idl.proofs.FirmMany.{firm_each}
use Rattle.sm_idl.proofs.FirmShort.{then_firm, given_firm, loose_firm, row_firm}
use Rattle.sm_idl.proofs.TokenClasses.{words_unlike, mark_no_word, apart_either}
use Rattle.sm_idl.proofs.FirmNodes.{mark_firm, key_firm, node_firm, pair_firm}
use Rattle.sm_idl.proofs.FirmTraits.{word_firm, the_word_firm}
use Rattle.sm_idl.proofs.FirmShapes.{item_firm, item_apart, no_item}

pub control_firm : (home : Option Home) (before : List Pair) → IsFirm ⊥ Dollar NoToken (control home before)
control_firm home before =
    then_firm (mark (codes "$")) _ (mark_firm (codes "$")) (λ _. pair_firm NodeStart (node home most_levels)
    (node_firm home most_levels) before)

pub metadata_firm : (home : Option Home) (before : List Pair) → IsFirm ⊥ Metadata NoToken (metadata home before)
metadata_firm home before =
    then_firm (the_word (codes "metadata")) _ (the_word_firm (codes "metadata")) (λ _.
    then_firm (key (pair_names before)) _ (key_firm (pair_names before)) (λ k.
    then_firm (mark (codes "=")) _ (mark_firm (codes "=")) (λ _. given_firm (node home most_levels) (λ n. (k, n))
    (node_firm home most_levels))))

pub used_firm : IsFirm ⊥ Use NoToken used
used_firm = then_firm (the_word (codes "use")) _ (the_word_firm (codes "use")) (λ _. word_firm IsWordId)

pub items_firm : (home : Home) (endings : Suffixes) → IsFirm (Unit {0}) ItemStart ItemsGoOn (items home endings)
items_firm home endings = given_firm (many (item home endings)) (λ said. _)
    (firm_each ItemStart ItemGoesOn (λ _. item home endings) (λ _. item_firm home endings) item_apart [])

pub section_firm : (endings : Suffixes) → IsFirm ⊥ Namespace (Either ItemsGoOn Use) (section endings)
section_firm endings =
    then_firm (the_word (codes "namespace")) _ (the_word_firm (codes "namespace")) (λ _.
    then_firm (word_that IsNamespace) _ (word_firm IsNamespace) (λ namespace.
    loose_firm (many used) _ (row_firm (λ _. used) [] (λ _. used_firm)) (λ ws. items_firm (home_of namespace ws) endings)
    (no_item (codes "use") refl refl)))

pub sections_firm : (cs : Suffixes) → IsFirm (Unit {0}) Namespace SectionGoesOn (maybe (section cs))
sections_firm cs = firm_maybe Namespace (Either ItemsGoOn Use) (section cs) (section_firm cs)

-- what stands behind the metadata, and behind the controls
abbrev pub last_part : Controls → List Pair → Production FileSaid
last_part cs ms = do
  s ← maybe (section (suffixes cs))
  gives (record { home = section_home s; controls = cs; said = metadata_statements ms ++ section_said s })

abbrev pub behind_controls : Option Home → Controls → Production FileSaid
behind_controls home cs = each (metadata home) >>= last_part cs

pub last_firm : (cs : Controls) (ms : List Pair) → IsFirm (Unit {0}) Namespace SectionGoesOn (last_part cs ms)
last_firm cs ms = given_firm (maybe (section (suffixes cs))) (λ s. _) (sections_firm (suffixes cs))

pub behind_firm : (home : Option Home) (cs : Controls) → IsFirm (Unit {0}) AfterControls (Either SectionGoesOn Metadata)
    (behind_controls home cs)
behind_firm home cs =
    loose_firm (each (metadata home)) _ (row_firm (metadata home) [] (metadata_firm home)) (last_firm cs)
    (words_unlike (codes "metadata") (codes "namespace") refl)

pub dollar_apart : AreApart Dollar AfterControls
dollar_apart = apart_either _ _ _ (λ t h k. mark_no_word (codes "$") t h k.0) (λ t h k. mark_no_word (codes "$") t h k.0)

pub file_firm : (home : Option Home) → IsFirm (Unit {0}) (Either Dollar AfterControls) FileGoesOn (file home)
file_firm home =
    loose_firm (each (control home)) (behind_controls home) (row_firm (control home) [] (control_firm home)) (behind_firm home) dollar_apart
