-- Model files come to one model or one answer: at each decision two answers go the same way.
use Rattle.std.proofs.Common.{◌≡◌, ◌<◌, ◌≤◌, ◌+◌, ℕ, inl, inr, List, [], ◌∷◌, Some, Err, length, sym, ap, subst, ◌∙◌, arith}
use Rattle.sm_io.specs.Files.{Folder}
use Rattle.sm_model.specs.Graphs.{GraphMaps}
use Rattle.sm_load.specs.Loading.{AreAccepted, LoadsTo}
use Rattle.sm_load.specs.ModelFiles.{FileGiven, file_given}
use Rattle.sm_load.specs.declared.model.LoadRefusal.{LoadRefusal}
use Rattle.sm_load.proofs.OneModelLoaded.{accepted_refused, one_accepted, one_refused}
use Rattle.sm_asked.specs.Limits.{bytes_limit}
use Rattle.sm_asked.specs.Answer.{Answer}
use Rattle.sm_asked.specs.Stages.{FileRead}
use Rattle.sm_asked.specs.Loading.{AreRefused, FilesRead, Loaded, LoadAnswers, refusal_answer}
use Rattle.sm_asked.specs.Loading.LoadAnswers.{many_files, long_files, not_loaded}
use Rattle.sm_asked.specs.ModelFiles.{AreRead, PassesOne}
use Rattle.sm_asked.specs.declared.lines.Shown.{Shown}
use Rattle.sm_asked.proofs.FilesRead.{bytes_same, not_long}

-- a file that is read twice has one length
file_same : (folder : Folder) (name : List ℕ) (h i : FileRead (Some folder) name) → h.bytes ≡ i.bytes
file_same folder name h i = bytes_same folder name h.bytes i.bytes h.held i.held

crowded : (folder : Folder) (name : List ℕ) (before : ℕ) (h i : FileRead (Some folder) name) → bytes_limit < before + length h.bytes
    → before + length i.bytes ≤ bytes_limit → ⊥
crowded folder name before h i over within =
    omega (arith, subst (λ x. bytes_limit < before + length x) (file_same folder name h i) over, within)

-- one limit is passed
pass_same : (folder : Folder) (before : ℕ) (names : List (List ℕ)) (a b : Answer) → PassesOne (Some folder) before names a
    → PassesOne (Some folder) before names b → a ≡ b
pass_same folder before [] a b h i = absurd h
pass_same folder before (name ∷ names) a b (inl (w, is)) (inl (w1, is1)) = is ∙ sym is1
pass_same folder before (name ∷ names) a b (inl (w, is)) (inr (inl (file, over, is1))) = absurd (not_long folder name w file)
pass_same folder before (name ∷ names) a b (inl (w, is)) (inr (inr (file, within, later))) = absurd (not_long folder name w file)
pass_same folder before (name ∷ names) a b (inr (inl (file, over, is))) (inl (w, is1)) = absurd (not_long folder name w file)
pass_same folder before (name ∷ names) a b (inr (inl (file, over, is))) (inr (inl (file1, over1, is1))) = is ∙ sym is1
pass_same folder before (name ∷ names) a b (inr (inl (file, over, is))) (inr (inr (file1, within, later))) =
    absurd (crowded folder name before file file1 over within)
pass_same folder before (name ∷ names) a b (inr (inr (file, within, later))) (inl (w, is1)) = absurd (not_long folder name w file)
pass_same folder before (name ∷ names) a b (inr (inr (file, within, later))) (inr (inl (file1, over, is1))) =
    absurd (crowded folder name before file1 file over within)
pass_same folder before (name ∷ names) a b (inr (inr (file, within, later))) (inr (inr (file1, within1, later1))) =
    pass_same folder (before + length file1.bytes) names a b
    (subst (λ x. PassesOne (Some folder) (before + length x) names a) (file_same folder name file file1) later) later1

-- or all are read, and they are one list
pass_apart : (folder : Folder) (before : ℕ) (names : List (List ℕ)) (a : Answer) (read : List FileGiven)
    → PassesOne (Some folder) before names a → AreRead (Some folder) before names read → ⊥
pass_apart folder before [] a read h i = h
pass_apart folder before (name ∷ names) a read (inl (w, is)) (file, more, e, within, later) = not_long folder name w file
pass_apart folder before (name ∷ names) a read (inr (inl (file1, over, is))) (file, more, e, within, later) =
    crowded folder name before file1 file over within
pass_apart folder before (name ∷ names) a read (inr (inr (file1, within1, later1))) (file, more, e, within, later) =
    pass_apart folder (before + length file.bytes) names a more
    (subst (λ x. PassesOne (Some folder) (before + length x) names a) (file_same folder name file1 file) later1) later

read_same : (folder : Folder) (before : ℕ) (names : List (List ℕ)) (xs ys : List FileGiven) → AreRead (Some folder) before names xs
    → AreRead (Some folder) before names ys → xs ≡ ys
read_same folder before [] xs ys h i = h ∙ sym i
read_same folder before (name ∷ names) xs ys (file, more, e, within, later) (file1, more1, e1, within1, later1) =
    let bytes = file_same folder name file file1 in
    let rest : more ≡ more1 = read_same folder (before + length file1.bytes) names more more1
    (subst (λ x. AreRead (Some folder) (before + length x) names more) bytes later) later1 in
    e ∙ ap (λ x. file_given name x ∷ more) bytes ∙ ap (λ fs. file_given name file1.bytes ∷ fs) rest ∙ sym e1

-- and so have model files
texts_same : (folder : Folder) (names : List (List ℕ)) (x y : FilesRead (Some folder) names) → x.read ≡ y.read
texts_same folder names x y = read_same folder 0 names x.read y.read x.are_read y.are_read

refused_same : (shown : Shown) (folder : Folder) (names : List (List ℕ)) (a b : Answer) (x y : FilesRead (Some folder) names)
    (r q : LoadRefusal)
    → AreRefused x.read r → AreRefused y.read q → a ≡ refusal_answer shown x.read r → b ≡ refusal_answer shown y.read q → a ≡ b
refused_same shown folder names a b x y r q h i is is1 =
    let same = texts_same folder names x y in
    let one : r ≡ q = one_refused y.read r q (subst (λ fs. LoadsTo fs (Err r)) same h.loads) i.loads h.told i.told in
    is ∙ ap (λ fs. refusal_answer shown fs r) same ∙ ap (refusal_answer shown y.read) one ∙ sym is1

pub load_same : (shown : Shown) (folder : Folder) (names : List (List ℕ)) (a b : Answer) → LoadAnswers shown (Some folder) names a
    → LoadAnswers shown (Some folder) names b → a ≡ b
load_same shown folder names a b (many_files many is) (many_files many1 is1) = is ∙ sym is1
load_same shown folder names a b (many_files many is) (long_files few passes) = absurd (omega (arith, many, few))
load_same shown folder names a b (many_files many is) (not_loaded texts r h is1) = absurd (omega (arith, many, texts.few))
load_same shown folder names a b (long_files few passes) (many_files many is) = absurd (omega (arith, many, few))
load_same shown folder names a b (long_files few passes) (long_files few1 passes1) = pass_same folder 0 names a b passes passes1
load_same shown folder names a b (long_files few passes) (not_loaded texts r h is) =
    absurd (pass_apart folder 0 names a texts.read passes texts.are_read)
load_same shown folder names a b (not_loaded texts r h is) (many_files many is1) = absurd (omega (arith, many, texts.few))
load_same shown folder names a b (not_loaded texts r h is) (long_files few passes) =
    absurd (pass_apart folder 0 names b texts.read passes texts.are_read)
load_same shown folder names a b (not_loaded x r h is) (not_loaded y q i is1) = refused_same shown folder names a b x y r q h i is is1

pub load_apart : (shown : Shown) (folder : Folder) (names : List (List ℕ)) (a : Answer) → LoadAnswers shown (Some folder) names a
    → Loaded (Some folder) names → ⊥
load_apart shown folder names a (many_files many is) l = omega (arith, many, l.texts.few)
load_apart shown folder names a (long_files few passes) l = pass_apart folder 0 names a l.texts.read passes l.texts.are_read
load_apart shown folder names a (not_loaded texts r h is) l =
    accepted_refused l.texts.read l.graph r l.accepted
    (subst (λ fs. LoadsTo fs (Err r)) (texts_same folder names texts l.texts) h.loads) h.told

pub graph_same : (folder : Folder) (names : List (List ℕ)) (k l : Loaded (Some folder) names) → Path GraphMaps k.graph l.graph
graph_same folder names k l =
    one_accepted l.texts.read k.graph l.graph (subst (λ fs. AreAccepted fs k.graph) (texts_same folder names k.texts l.texts) k.accepted)
    l.accepted
