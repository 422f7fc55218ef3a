-- Files after files.
use Rattle.std.proofs.Common.{◌≡◌, ℕ, ◌+◌, List, [], ◌∷◌, ◌++◌, ◌-◌, ◌≤◌, refl, sym, ap, ◌∙◌, subst, inl, inr, arith, length, take, drop, get_or, map, true, false, Option, None, Some, Err}
use Rattle.std.specs.Prelude.{IsErrOf, option_map}
use Rattle.std.specs.Io.KnownBytes.{Appends, Keeps, append_known}
use Rattle.std.proofs.lemmas.List.{take_all}
use Rattle.outside.specs.Outside.{AppendsPrefix, HasCauses, Increased, counts_of, known_count}
use Rattle.outside.specs.Reads.{ReadCall, ReadsFile}
use Rattle.outside.specs.declared.shelf.ShelfFault.TheVariants as shelf
use Rattle.outside.proofs.Grows.{Appends-none, Appends-then, AppendsPrefix-last, AppendsPrefix-then}
use Rattle.outside.proofs.Buffered.{flush_failed, flushed, put_failed}
use Rattle.outside.proofs.ReadOrder.{file_unread}
use Rattle.page_spec.specs.Items.{Found, PageFault}
use Rattle.page_spec.specs.Lines.{items_text}
use Rattle.page_files.specs.Puts.{HasFileWriteCause, PutsFile, shelf_fault_of}
use Rattle.page_files.specs.declared.file.FileStop.{FileStop}
use Rattle.page_files.specs.declared.file.FileStop.TheVariants as stop
use Rattle.convert_core.specs.Convert.{Output, RunFault, fault_of_cpu, output_then, run_fault, with_content}
use Rattle.convert_core.specs.Runs.{FailuresAreCounted, IsNoFile, PutsOutput, ReadsInOrder, RunCounts, counts_of_run, ends_whole, shelf_fault_in, status_at}
use Rattle.convert_core.specs.declared.status.Status.{Status}
use Rattle.convert_core.specs.declared.status.Status.TheVariants as status

-- a list of names, by its first one
pub names_split : {X : Type 0} → (f : X → List ℕ) (xs : List X) (first : X) → 1 ≤ length xs → first ≡ get_or xs 0 first → map f xs ≡ f first ∷ map f (take (length xs - 1) (drop 1 xs))
names_split f [] first some is = absurd (omega (arith, some))
names_split f (x ∷ xs) first some is =
    let rest : take (length (x ∷ xs) - 1) (drop 1 (x ∷ xs)) ≡ xs = take_all (length (x ∷ xs) - 1) xs (omega arith) in
    let same : first ≡ x = is in
    ap (λ y. f y ∷ map f xs) (sym same) ∙ ap (λ ys. f first ∷ map f ys) (sym rest)

-- the first file's bytes, and those of the others
pub record Split (first : Option (List ℕ)) (others : Option (List (List ℕ))) (wholes : List (List ℕ)) : Type 0 where
  pub whole : List ℕ
  pub rest : List (List ℕ)
  pub first_is : first ≡ Some whole
  pub others_are : others ≡ Some rest
  pub both : wholes ≡ whole ∷ rest

pub split : (first : Option (List ℕ)) (others : Option (List (List ℕ))) (wholes : List (List ℕ)) → with_content first others ≡ Some wholes → Split first others wholes
split None others wholes is = cc
split (Some whole) None wholes is = cc
split (Some whole) (Some rest) wholes is = record { whole = whole; rest = rest; first_is = refl; others_are = refl; both = cc }

-- ---- the output

-- a prefix of a file's text is a prefix of the output's
prefix_output : (old new : Option (List ℕ)) (text : List ℕ) (fault : Option RunFault) (rest : Output) → AppendsPrefix old new text → AppendsPrefix old new (output_then text fault rest).text
prefix_output old new text None rest prefix = AppendsPrefix-then old old new [] text rest.text (Appends-none old) prefix
prefix_output old new text (Some why) rest prefix = prefix

-- a file's end is the output's
pub file_stops_output : (T : Type 0) (old new : Option (List ℕ)) (cpu : ℕ) (found : Found PageFault) (rest : Output) (stopped : FileStop)
    → PutsFile {T = T} old new cpu found (Err stopped) → PutsOutput old new (output_then (items_text cpu found.items) (option_map (fault_of_cpu cpu) found.fault) rest) (status_at cpu stopped)
file_stops_output T old new cpu found rest (stop.Refused page byte why) puts =
    let text = items_text cpu found.items in
    let whole : output_then text (option_map (fault_of_cpu cpu) found.fault) rest ≡ record { text = text; fault = Some (run_fault cpu page byte why) } =
    ap (λ fault. output_then text (option_map (fault_of_cpu cpu) fault) rest) puts.0 in
    (ap (λ (o : Output). o.fault) whole, subst (λ t. Appends old new t) (sym (ap (λ (o : Output). o.text) whole)) puts.1)
file_stops_output T old new cpu found rest stop.NoFile puts = prefix_output old new (items_text cpu found.items) (option_map (fault_of_cpu cpu) found.fault) rest puts
file_stops_output T old new cpu found rest stop.ReadFault puts = prefix_output old new (items_text cpu found.items) (option_map (fault_of_cpu cpu) found.fault) rest puts
file_stops_output T old new cpu found rest stop.WriteFault puts = prefix_output old new (items_text cpu found.items) (option_map (fault_of_cpu cpu) found.fault) rest puts

-- a text and then an output
text_then : (old mid new : Option (List ℕ)) (text : List ℕ) (rest : Output) (result : Status) → Appends old mid text → PutsOutput mid new rest result
    → PutsOutput old new (record { text = text ++ rest.text; fault = rest.fault }) result
text_then old mid new text rest status.Done first puts = (puts.0, Appends-then old mid new text rest.text first puts.1)
text_then old mid new text rest (status.Page cpu page byte why) first puts = (puts.0, Appends-then old mid new text rest.text first puts.1)
text_then old mid new text rest (status.NoFile file) first puts = AppendsPrefix-last old mid new text rest.text first puts
text_then old mid new text rest status.ReadFault first puts = AppendsPrefix-last old mid new text rest.text first puts
text_then old mid new text rest status.WriteFault first puts = AppendsPrefix-last old mid new text rest.text first puts
text_then old mid new text rest status.Usage first puts = absurd puts
text_then old mid new text rest (status.Table fault) first puts = absurd puts
text_then old mid new text rest (status.NoMemory none) first puts = absurd puts

-- a file without a fault, and then the others
pub file_then_output : (old mid new : Option (List ℕ)) (cpu : ℕ) (found : Found PageFault) (rest : Output) (result : Status)
    → (found.fault ≡ None) × Appends old mid (items_text cpu found.items) → PutsOutput mid new rest result
    → PutsOutput old new (output_then (items_text cpu found.items) (option_map (fault_of_cpu cpu) found.fault) rest) result
file_then_output old mid new cpu found rest result first puts =
    let text = items_text cpu found.items in
    let whole : output_then text (option_map (fault_of_cpu cpu) found.fault) rest ≡ record { text = text ++ rest.text; fault = rest.fault } =
    ap (λ fault. output_then text (option_map (fault_of_cpu cpu) fault) rest) first.0 in
    subst (λ (o : Output). PutsOutput old new o result) (sym whole) (text_then old mid new text rest result first.1 puts)

-- ---- failures

-- the end of a file
pub file_counts : (T : Type 0) (cpu f0 a0 w0 f1 a1 w1 : ℕ) (stopped : FileStop)
    → HasCauses (counts_of f0 a0) (counts_of f1 a1) (IsErrOf {T = T} (Err stopped) stop.ReadFault) (IsErrOf {T = T} (Err stopped) stop.NoFile)
    → HasFileWriteCause {T = T} w0 w1 (Err stopped) → FailuresAreCounted (counts_of_run f0 a0 w0) (counts_of_run f1 a1 w1) (status_at cpu stopped)
file_counts T cpu f0 a0 w0 f1 a1 w1 stop.NoFile causes writes = record {
  faults = record { increased = λ is. cc is; same = λ _. causes.faults_same (λ is. cc is) };
  absent = record { increased = λ _. causes.missed refl; same = λ not. absurd (not (cpu + 1, refl)) };
  writes = record { increased = λ is. cc is; same = λ _. writes.same (λ is. cc is) };
}
file_counts T cpu f0 a0 w0 f1 a1 w1 stop.ReadFault causes writes = record {
  faults = record { increased = λ _. causes.failed refl; same = λ not. absurd (not refl) };
  absent = record { increased = λ is. cc is.1; same = λ _. causes.absent_same (λ is. cc is) };
  writes = record { increased = λ is. cc is; same = λ _. writes.same (λ is. cc is) };
}
file_counts T cpu f0 a0 w0 f1 a1 w1 (stop.Refused page byte why) causes writes = record {
  faults = record { increased = λ is. cc is; same = λ _. causes.faults_same (λ is. cc is) };
  absent = record { increased = λ is. cc is.1; same = λ _. causes.absent_same (λ is. cc is) };
  writes = record { increased = λ is. cc is; same = λ _. writes.same (λ is. cc is) };
}
file_counts T cpu f0 a0 w0 f1 a1 w1 stop.WriteFault causes writes = record {
  faults = record { increased = λ is. cc is; same = λ _. causes.faults_same (λ is. cc is) };
  absent = record { increased = λ is. cc is.1; same = λ _. causes.absent_same (λ is. cc is) };
  writes = record { increased = λ _. writes.failed refl; same = λ not. absurd (not refl) };
}

-- counts that stayed the same, and then others
pub counts_then : (f0 a0 w0 f1 a1 w1 : ℕ) (now : RunCounts) (result : Status) → f1 ≡ f0 → a1 ≡ a0 → w1 ≡ w0 → FailuresAreCounted (counts_of_run f1 a1 w1) now result → FailuresAreCounted (counts_of_run f0 a0 w0) now result
counts_then f0 a0 w0 f1 a1 w1 now result faults absent writes counts =
    subst (λ f. FailuresAreCounted (counts_of_run f a0 w0) now result) faults
    (subst (λ a. FailuresAreCounted (counts_of_run f1 a w0) now result) absent (subst (λ w. FailuresAreCounted (counts_of_run f1 a1 w) now result) writes counts))

-- nothing failed
pub no_failure : (counts : RunCounts) (result : Status) → ¬ (result ≡ status.ReadFault) → ¬ IsNoFile result → ¬ (result ≡ status.WriteFault) → FailuresAreCounted counts counts result
no_failure counts result read missed wrote = record {
  faults = record { increased = λ is. absurd (read is); same = λ _. refl };
  absent = record { increased = λ is. absurd (missed is); same = λ _. refl };
  writes = record { increased = λ is. absurd (wrote is); same = λ _. refl };
}

-- ---- reads

-- nothing is read
pub unread_in_order : (names : List (List ℕ)) (log : List ReadCall) → ReadsInOrder names log log None
unread_in_order [] log = (refl, refl)
unread_in_order (name ∷ names) log = inl (log, file_unread name 0 log, unread_in_order names log)

-- a file's end, after which nothing more is read
pub stop_in_order : (cpu : ℕ) (name : List ℕ) (names : List (List ℕ)) (before now : List ReadCall) (stopped : FileStop) → ReadsFile name 0 before now (shelf_fault_of stopped)
    → ReadsInOrder (name ∷ names) before now (shelf_fault_in (status_at cpu stopped))
stop_in_order cpu name names before now stop.NoFile reads = inr (shelf.NoFile, reads, refl)
stop_in_order cpu name names before now stop.ReadFault reads = inr (shelf.Failed, reads, refl)
stop_in_order cpu name names before now (stop.Refused page byte why) reads = inl (now, reads, unread_in_order names now)
stop_in_order cpu name names before now stop.WriteFault reads = inl (now, reads, unread_in_order names now)

-- ---- missing files

-- the status of a missing file
pub missing_at : (cpu : ℕ) (stopped : FileStop) (file : ℕ) → status_at cpu stopped ≡ status.NoFile file → (file ≡ cpu + 1) × (stopped ≡ stop.NoFile)
missing_at cpu stop.NoFile file is = (cc is, refl)
missing_at cpu stop.ReadFault file is = cc is
missing_at cpu (stop.Refused page byte why) file is = cc is
missing_at cpu stop.WriteFault file is = cc is

-- ---- the inner sink of a buffered one

-- the whole output was written, and sent
pub sent : (had mid below : Option (List ℕ)) (pending left : List ℕ) (output : Output) (result : Status) → ends_whole result ≡ true → PutsOutput (append_known had []) (append_known mid pending) output result
    → Keeps (append_known mid pending) (append_known below left) → left ≡ [] → PutsOutput had below output result
sent had mid below pending left output status.Done whole puts kept none = (puts.0, flushed had mid below pending left output.text puts.1 kept none)
sent had mid below pending left output (status.Page cpu page byte why) whole puts kept none = (puts.0, flushed had mid below pending left output.text puts.1 kept none)
sent had mid below pending left output (status.NoFile file) whole puts kept none = cc
sent had mid below pending left output status.ReadFault whole puts kept none = cc
sent had mid below pending left output status.WriteFault whole puts kept none = cc
sent had mid below pending left output status.Usage whole puts kept none = cc
sent had mid below pending left output (status.Table fault) whole puts kept none = cc
sent had mid below pending left output (status.NoMemory none') whole puts kept none = cc

-- the whole output was written, and not all of it sent
pub unsent : (had mid below : Option (List ℕ)) (pending left : List ℕ) (output : Output) (result : Status) → ends_whole result ≡ true → PutsOutput (append_known had []) (append_known mid pending) output result
    → Keeps (append_known mid pending) (append_known below left) → known_count had ≤ known_count below → PutsOutput had below output status.WriteFault
unsent had mid below pending left output status.Done whole puts kept more = flush_failed had mid below pending left output.text puts.1 kept more
unsent had mid below pending left output (status.Page cpu page byte why) whole puts kept more = flush_failed had mid below pending left output.text puts.1 kept more
unsent had mid below pending left output (status.NoFile file) whole puts kept more = cc
unsent had mid below pending left output status.ReadFault whole puts kept more = cc
unsent had mid below pending left output status.WriteFault whole puts kept more = cc
unsent had mid below pending left output status.Usage whole puts kept more = cc
unsent had mid below pending left output (status.Table fault) whole puts kept more = cc
unsent had mid below pending left output (status.NoMemory none) whole puts kept more = cc

-- a prefix of it was written
pub stopped : (had below : Option (List ℕ)) (pending : List ℕ) (output : Output) (result : Status) → ends_whole result ≡ false → PutsOutput (append_known had []) (append_known below pending) output result
    → known_count had ≤ known_count below → PutsOutput had below output result
stopped had below pending output status.Done early puts more = cc
stopped had below pending output (status.Page cpu page byte why) early puts more = cc
stopped had below pending output (status.NoFile file) early puts more = put_failed had below pending output.text puts more
stopped had below pending output status.ReadFault early puts more = put_failed had below pending output.text puts more
stopped had below pending output status.WriteFault early puts more = put_failed had below pending output.text puts more
stopped had below pending output status.Usage early puts more = absurd puts
stopped had below pending output (status.Table fault) early puts more = absurd puts
stopped had below pending output (status.NoMemory none) early puts more = absurd puts

-- the output wasn't sent: its status isn't of a failed read, a missing file or a failed write
pub unsent_counts : (f0 a0 w0 f1 a1 w1 w2 : ℕ) (result : Status) → ends_whole result ≡ true → FailuresAreCounted (counts_of_run f0 a0 w0) (counts_of_run f1 a1 w1) result → Increased w1 w2
    → FailuresAreCounted (counts_of_run f0 a0 w0) (counts_of_run f1 a1 w2) status.WriteFault
unsent_counts f0 a0 w0 f1 a1 w1 w2 result whole counts more = record {
  faults = record { increased = λ is. cc is; same = λ _. counts.faults.same (λ is. not_whole result whole is) };
  absent = record { increased = λ is. cc is.1; same = λ _. counts.absent.same (λ is. missing_not_whole result whole is) };
  writes = record { increased = λ _. subst (λ w. Increased w w2) (counts.writes.same (λ is. written_not_whole result whole is)) more; same = λ not. absurd (not refl) };
}
  where
    not_whole : (r : Status) → ends_whole r ≡ true → r ≡ status.ReadFault → ⊥
    not_whole r w is = let no : ends_whole status.ReadFault ≡ true = subst (λ (s : Status). ends_whole s ≡ true) is w in cc no

    missing_not_whole : (r : Status) → ends_whole r ≡ true → IsNoFile r → ⊥
    missing_not_whole r w is = let no : ends_whole (status.NoFile is.0) ≡ true = subst (λ (s : Status). ends_whole s ≡ true) is.1 w in cc no

    written_not_whole : (r : Status) → ends_whole r ≡ true → r ≡ status.WriteFault → ⊥
    written_not_whole r w is = let no : ends_whole status.WriteFault ≡ true = subst (λ (s : Status). ends_whole s ≡ true) is w in cc no

-- the same counts, but for failed writes
pub same_writes : (f0 a0 w0 f1 a1 w1 w2 : ℕ) (result : Status) → w2 ≡ w1 → FailuresAreCounted (counts_of_run f0 a0 w0) (counts_of_run f1 a1 w1) result → FailuresAreCounted (counts_of_run f0 a0 w0) (counts_of_run f1 a1 w2) result
same_writes f0 a0 w0 f1 a1 w1 w2 result same counts = subst (λ w. FailuresAreCounted (counts_of_run f0 a0 w0) (counts_of_run f1 a1 w) result) (sym same) counts

-- no read failed
pub whole_reads : (names : List (List ℕ)) (before now : List ReadCall) (result : Status) → ends_whole result ≡ true → ReadsInOrder names before now (shelf_fault_in result) → ReadsInOrder names before now None
whole_reads names before now status.Done whole reads = reads
whole_reads names before now (status.Page cpu page byte why) whole reads = reads
whole_reads names before now (status.NoFile file) whole reads = cc
whole_reads names before now status.ReadFault whole reads = cc
whole_reads names before now status.WriteFault whole reads = reads
whole_reads names before now status.Usage whole reads = reads
whole_reads names before now (status.Table fault) whole reads = reads
whole_reads names before now (status.NoMemory none) whole reads = reads
