use Rattle.std.proofs.Common.{◌≡◌, ◌+◌, ◌-◌, ◌∷◌, ◌∙◌, Global, List, Some, ap, drop, length, map, string_bytes, subst, sym, take, ℕ}
use Rattle.outside.specs.Outside.{content_of}
use Rattle.page_spec.specs.Items.{file_found}
use Rattle.convert_core.specs.Convert.{contents_of, files_output}
use Rattle.convert_core.specs.Runs.{PutsOutput, ReadsInOrder, shelf_fault_in}
use Rattle.convert_core.specs.declared.status.Status.{Status}
use Rattle.convert_core.proofs.Wholes.{file_then_output, names_split, split, stop_in_order}
use Rattle.convert_core.proofs.files.+put_files.Goals as goal

pub returns-in-Ok-clause-bytes : goal.returns-in-Ok-clause-bytes
returns-in-Ok-clause-bytes g t c = λ wholes known.
    let files = g.S.Shelf.holds c.args.shelf.now in
    let name = c.as_str.result.now in
    let names : List (List ℕ) = map (string_bytes {Z = Global}) (take (length c.args.names.now - 1) (drop 1 c.args.names.now)) in
    let all : map (string_bytes {Z = Global}) c.args.names.now ≡ name ∷ names =
    names_split (string_bytes {Z = Global}) c.args.names.now c.first-item.result c.in-len1-up.len_at_least c.first-item.is ∙ ap (λ (n : List ℕ). n ∷ names) (sym c.as_str.ensures.value) in
    let parts = split (content_of files name) (contents_of files names) wholes (subst (λ (ns : List (List ℕ)). contents_of files ns ≡ Some wholes) all known) in
    let layout = c.args.layout.now in
    subst (λ (ws : List (List ℕ)). PutsOutput (g.K.Sink.has c.args.out.now) (g.K.Sink.has c.put_files.new.out) (files_output layout c.args.cpu ws) c.put_files.result) (sym parts.both)
    (file_then_output (g.K.Sink.has c.args.out.now) (g.K.Sink.has c.put_file.new.out) (g.K.Sink.has c.put_files.new.out) c.args.cpu (file_found layout parts.whole)
    (files_output layout (c.args.cpu + 1) parts.rest) c.put_files.result (c.in-Ok.ensures.bytes parts.whole parts.first_is)
    (c.put_files.ensures.bytes parts.rest (rw c.in-Ok.ensures.unchanged parts.others_are)))

pub returns-in-Err-clause-order : goal.returns-in-Err-clause-order
returns-in-Err-clause-order g t c =
    let name = c.as_str.result.now in
    let names : List (List ℕ) = map (string_bytes {Z = Global}) (take (length c.args.names.now - 1) (drop 1 c.args.names.now)) in
    let all : map (string_bytes {Z = Global}) c.args.names.now ≡ name ∷ names =
    names_split (string_bytes {Z = Global}) c.args.names.now c.first-item.result c.in-len1-up.len_at_least c.first-item.is ∙ ap (λ (n : List ℕ). n ∷ names) (sym c.as_str.ensures.value) in
    let before = g.S.Shelf.reads c.args.shelf.now in
    let now = g.S.Shelf.reads c.put_file.new.shelf in
    subst (λ (ns : List (List ℕ)). ReadsInOrder ns before now (shelf_fault_in c.status_at.result)) (sym all)
    (subst (λ (s : Status). ReadsInOrder (name ∷ names) before now (shelf_fault_in s)) (sym c.status_at.ensures.exact) (stop_in_order c.args.cpu name names before now c.in-Err.stop c.in-Err.ensures.order))
