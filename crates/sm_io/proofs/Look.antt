-- Looking up a name in a list of files, of which the first of that name counts.
use Rattle.std.proofs.Common.{◌≡◌, ◌≢◌, ◌<◌, ℕ, zero, suc, Bool, true, false, cond, List, [], ◌∷◌, ◌++◌, length, get_or, set, Option, None}
use Rattle.std.proofs.Common.{Some, Vec, String, string_bytes, true≢false, refl, sym, ap, ◌∙◌, arith}
use Rattle.std.specs.FinMap as fin
use Rattle.std.specs.FinMap.{nat_cmp-IsAntisymmetric, slice_cmp-IsAntisymmetric}
use Rattle.std.specs.Ordering.{nat_cmp, eq_by_cmp}
use Rattle.std.specs.Cmp.Lexicographic.{slice_cmp, bytes_decides, texts_ties, nat_list_cmp_total}
use Rattle.std.specs.declared.alloc.Global.{Global}
use Rattle.sm_io.specs.Files.{FileMap, Others, entries, file_map, file_at, or_other}
use Rattle.sm_io.specs.steps.Named.{NoneNamed}

abbrev pub Entry : Type 0
Entry = String Global × Vec ℕ Global

-- the bytes of the first file of the name
abbrev pub look : List ℕ → List Entry → Option (List ℕ)
look name files = fin.find (slice_cmp nat_cmp) name (entries files)

-- which is what the map of the files answers
pub look_map : (name : List ℕ) (files : List Entry) → fin.get (file_map files) name ≡ look name files
look_map name files = fin.get-from_entries nat_list_cmp_total (entries files) name

unless : (b : Bool) → (b ≡ true → ⊥) → b ≡ false
unless true never = absurd (never refl)
unless false never = refl

-- two names tie where they are the same
same_name : (a b : List ℕ) → a ≡ b → eq_by_cmp (slice_cmp nat_cmp) a b ≡ true
same_name a b is = sym (texts_ties a b) ∙ (bytes_decides a b).1 is

other_name : (a b : List ℕ) → a ≢ b → eq_by_cmp (slice_cmp nat_cmp) a b ≡ false
other_name a b apart = unless _ (λ tied. apart ((bytes_decides a b).0 (texts_ties a b ∙ tied)))

-- a first file of the name is found
pub look_first : (file : Entry) (files : List Entry) (name : List ℕ) → string_bytes file.0 ≡ name
    → look name (file ∷ files) ≡ Some file.1.items
look_first file files name is = rw (same_name name (string_bytes file.0) (sym is)) refl

-- and one of another name is passed over
pub look_past : (file : Entry) (files : List Entry) (name : List ℕ) → name ≢ string_bytes file.0
    → look name (file ∷ files) ≡ look name files
look_past file files name apart = rw (other_name name (string_bytes file.0) apart) refl

rest_has_none : (first : Entry) (files : List Entry) (count : ℕ) (name : List ℕ) → NoneNamed (first ∷ files) (suc count) name
    → NoneNamed files count name
rest_has_none first files count name none k file within = none (suc k) file (omega arith)

first_apart : (first : Entry) (files : List Entry) (count : ℕ) (name : List ℕ) → NoneNamed (first ∷ files) (suc count) name
    → name ≢ string_bytes first.0
first_apart first files count name none is = none 0 first (omega arith) (sym is)

-- no file of the name: none is found, and one that is added at the end is
pub look_none : (files : List Entry) (name : List ℕ) → NoneNamed files (length files) name → look name files ≡ None
look_none [] name none = refl
look_none (first ∷ files) name none = look_past first files name (first_apart first files (length files) name none)
    ∙ look_none files name (rest_has_none first files (length files) name none)

pub look_added : (files : List Entry) (added : Entry) (name : List ℕ) → NoneNamed files (length files) name → string_bytes added.0 ≡ name
    → look name (files ++ added ∷ []) ≡ Some added.1.items
look_added [] added name none is = look_first added [] name is
look_added (first ∷ files) added name none is =
    look_past first (files ++ added ∷ []) name (first_apart first files (length files) name none)
    ∙ look_added files added name (rest_has_none first files (length files) name none) is

-- the first file of the name, put there in place of another
pub look_put : (files : List Entry) (place : ℕ) (file : Entry) (name : List ℕ) → place < length files → NoneNamed files place name
    → string_bytes file.0 ≡ name → look name (set files place file) ≡ Some file.1.items
look_put [] place file name within none is = absurd (omega arith)
look_put (first ∷ files) zero file name within none is = look_first file files name is
look_put (first ∷ files) (suc place) file name within none is =
    look_past first (set files place file) name (first_apart first files place name none)
    ∙ look_put files place file name (omega arith) (rest_has_none first files place name none) is

-- every other name stands for what it stood for
pub look_other_added : (files : List Entry) (added : Entry) (other : List ℕ) → other ≢ string_bytes added.0
    → look other (files ++ added ∷ []) ≡ look other files
look_other_added [] added other apart = look_past added [] other apart
look_other_added (first ∷ files) added other apart =
    ap (cond (eq_by_cmp (slice_cmp nat_cmp) other (string_bytes first.0)) (Some first.1.items)) (look_other_added files added other apart)

pub look_other_put : (files : List Entry) (place : ℕ) (file : Entry) (other : List ℕ) → other ≢ string_bytes file.0
    → ((old : Entry) → other ≢ string_bytes (get_or files place old).0) → look other (set files place file) ≡ look other files
look_other_put [] place file other apart apart_old = refl
look_other_put (first ∷ files) zero file other apart apart_old = look_past file files other apart
    ∙ sym (look_past first files other (apart_old first))
look_other_put (first ∷ files) (suc place) file other apart apart_old =
    ap (cond (eq_by_cmp (slice_cmp nat_cmp) other (string_bytes first.0)) (Some first.1.items))
    (look_other_put files place file other apart apart_old)

-- the first file of the name is the one that is found
pub look_found : (files : List Entry) (place : ℕ) (file : Entry) (name : List ℕ) → place < length files → NoneNamed files place name
    → string_bytes (get_or files place file).0 ≡ name → look name files ≡ Some (get_or files place file).1.items
look_found [] place file name within none is = absurd (omega arith)
look_found (first ∷ files) zero file name within none is = look_first first files name is
look_found (first ∷ files) (suc place) file name within none is = look_past first files name (first_apart first files place name none)
    ∙ look_found files place file name (omega arith) (rest_has_none first files place name none) is

-- what the map answers with an entry put in: at its name the bytes, and at every other name what it answered
get_put : (files : FileMap) (name bytes : List ℕ) → fin.get (fin.insert files name bytes) name ≡ Some bytes
get_put files name bytes = fin.get-insert nat_list_cmp_total files name bytes name
    ∙ ap (λ tied. cond tied (Some bytes) (fin.get files name)) (same_name name name refl)

get_other : (files : FileMap) (name bytes other : List ℕ) → other ≢ name → fin.get (fin.insert files name bytes) other ≡ fin.get files other
get_other files name bytes other apart = fin.get-insert nat_list_cmp_total files name bytes other
    ∙ ap (λ tied. cond tied (Some bytes) (fin.get files other)) (other_name other name apart)

-- files that differ in one name alone are the map with that entry put in
pub map_with : (before after : List Entry) (name bytes : List ℕ) → look name after ≡ Some bytes
    → ((other : List ℕ) → other ≢ name → look other after ≡ look other before)
    → file_map after ≡ fin.insert (file_map before) name bytes
map_with before after name bytes is others = fin.same_map nat_list_cmp_total (slice_cmp-IsAntisymmetric nat_cmp-IsAntisymmetric) _ _
    (λ q. by_tie q (eq_by_cmp (slice_cmp nat_cmp) q name) refl)
  where
    by_tie : (q : List ℕ) (tied : Bool) → eq_by_cmp (slice_cmp nat_cmp) q name ≡ tied
        → fin.get (file_map after) q ≡ fin.get (fin.insert (file_map before) name bytes) q
    by_tie q true tied = let same : q ≡ name = (bytes_decides q name).0 (texts_ties q name ∙ tied) in
        ap (fin.get (file_map after)) same ∙ look_map name after ∙ is
        ∙ sym (get_put (file_map before) name bytes) ∙ ap (fin.get (fin.insert (file_map before) name bytes)) (sym same)
    by_tie q false tied = let apart : q ≢ name = λ same. true≢false (sym (same_name q name same) ∙ tied) in
        look_map q after ∙ others q apart ∙ sym (look_map q before) ∙ sym (get_other (file_map before) name bytes q apart)

-- so its name stands for these bytes, and every other name for what it stood for
pub stands_for : (before now : FileMap) (others : Others) (name bytes : List ℕ) → now ≡ fin.insert before name bytes
    → (file_at (record { named = now; others = others }) name ≡ Some bytes)
    × ((other : List ℕ) → other ≢ name
    → file_at (record { named = now; others = others }) other ≡ file_at (record { named = before; others = others }) other)
stands_for before now others name bytes is = (
  ap (λ files. or_other (fin.get files name) others) is ∙ ap (λ found. or_other found others) (get_put before name bytes),
  λ other apart. ap (λ files. or_other (fin.get files other) others) is
      ∙ ap (λ found. or_other found others) (get_other before name bytes other apart),
)
