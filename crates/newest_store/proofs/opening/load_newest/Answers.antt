use Rattle.std.proofs.Common.{◌≡◌, ◌⊎◌, sym, ◌∙◌, subst}
use Rattle.std.proofs.lemmas.Result.{err_from_is_err_and}
use Rattle.newest_store.specs.Search.{disk_fault}
use Rattle.newest_store.specs.declared.fault.NewestFault.{NewestFault}
use Rattle.newest_store.specs.declared.fault.NewestFault.TheVariants.{Damaged, Failed, NoMemory}
use Rattle.store_journal.proofs.ContentsLemmas.{contents_as}
use Rattle.newest_store.proofs.NewestLemmas.{store_contents, newest_undamaged}
use Rattle.newest_store.proofs.SearchLemmas.{disk_fault-cases, disk_fault-undamaged, reads_told, clear_told, whole_is_found, newest_loaded, one_is_left}
use Rattle.newest_store.proofs.ClearingLemmas.{while_loaded, while_older, erasing_survives, erasing_unsealed}
use Rattle.newest_store.proofs.opening.load_newest.Goals as goal

pub returns-in_err-loaded-clause-whole : goal.returns-in_err-loaded-clause-whole
returns-in_err-loaded-clause-whole g c file id changes fault is now tells =
    let p = err_from_is_err_and c.from_residual.result c.from_residual.ensures.1 in
    let also = sym p.1 ∙ is in
    let same : c.in_err-loaded.field-0.0 ≡ fault = cc in
    subst (λ (f : NewestFault). (f ≡ Failed) ⊎ (f ≡ NoMemory)) same
    (whole_is_found (g.D.Disk.view c.args.disk.now) (g.D.Disk.view c.load_found.new.disk) _ _ file id changes _ c.in_err-loaded.ensures.refused now tells)

pub returns-in_err-loaded-clause-moments : goal.returns-in_err-loaded-clause-moments
returns-in_err-loaded-clause-moments g c = while_loaded _ _ c.load_found.ensures.reads_only

pub returns-in_err-loaded-clause-spoiled : goal.returns-in_err-loaded-clause-spoiled
returns-in_err-loaded-clause-spoiled g c file at tells damaged = (c.load_found.ensures.reads_only.same, c.load_found.ensures.reads_only.moments)

pub returns-in_err-clear-clause-damaged : goal.returns-in_err-clear-clause-damaged
returns-in_err-clear-clause-damaged g c file at is tells =
    let p = err_from_is_err_and c.from_residual-in_err-clear.result c.from_residual-in_err-clear.ensures.1 in
    let also = sym p.1 ∙ is in
    let same : disk_fault c.in_err-clear.field-0.0 ≡ Damaged file at = cc in
    absurd (disk_fault-undamaged c.in_err-clear.field-0.0 file at same)

pub returns-in_err-clear-clause-whole : goal.returns-in_err-clear-clause-whole
returns-in_err-clear-clause-whole g c file id changes fault is now tells =
    let p = err_from_is_err_and c.from_residual-in_err-clear.result c.from_residual-in_err-clear.ensures.1 in
    let also = sym p.1 ∙ is in
    let same : disk_fault c.in_err-clear.field-0.0 ≡ fault = cc in
    subst (λ (f : NewestFault). (f ≡ Failed) ⊎ (f ≡ NoMemory)) same (disk_fault-cases c.in_err-clear.field-0.0)

pub returns-in_err-clear-clause-spoiled : goal.returns-in_err-clear-clause-spoiled
returns-in_err-clear-clause-spoiled g c file at tells damaged = absurd (newest_undamaged _ _ _ _ _ file at (newest_loaded _ _ _ _ _ _ c.in_ok-loaded.ensures.loaded.so tells) damaged)

pub returns-clause-spoiled : goal.returns-clause-spoiled
returns-clause-spoiled g c file at tells damaged = absurd (newest_undamaged _ _ _ _ _ file at (newest_loaded _ _ _ _ _ _ c.in_ok-loaded.ensures.loaded.so tells) damaged)

pub returns-in_err-loaded-clause-survives : goal.returns-in_err-loaded-clause-survives
returns-in_err-loaded-clause-survives g c file id changes now = erasing_survives _ _ _ _ file id changes (returns-in_err-loaded-clause-moments g c) now

pub returns-in_err-loaded-clause-unsealed : goal.returns-in_err-loaded-clause-unsealed
returns-in_err-loaded-clause-unsealed g c file within now = erasing_unsealed _ _ file (returns-in_err-loaded-clause-moments g c) within now

pub returns-in_err-loaded-clause-told : goal.returns-in_err-loaded-clause-told
returns-in_err-loaded-clause-told g c = λ tells. reads_told _ _ c.load_found.ensures.reads_only tells

pub returns-in_err-clear-clause-moments : goal.returns-in_err-clear-clause-moments
returns-in_err-clear-clause-moments g c =
    while_older _ _ _ _ _ _ _ c.requires.first c.requires.second c.load_found.ensures.reads_only c.in_ok-loaded.ensures.loaded.so c.clear.ensures.moments c.clear.ensures.unsealed_moments

pub returns-in_err-clear-clause-survives : goal.returns-in_err-clear-clause-survives
returns-in_err-clear-clause-survives g c file id changes now = erasing_survives _ _ _ _ file id changes (returns-in_err-clear-clause-moments g c) now

pub returns-in_err-clear-clause-unsealed : goal.returns-in_err-clear-clause-unsealed
returns-in_err-clear-clause-unsealed g c file within now = erasing_unsealed _ _ file (returns-in_err-clear-clause-moments g c) within now

pub returns-in_err-clear-clause-told : goal.returns-in_err-clear-clause-told
returns-in_err-clear-clause-told g c = λ tells. clear_told _ _ _ _ c.load_found.ensures.reads_only c.clear.ensures.moments tells

pub returns-in_err-clear-clause-blank : goal.returns-in_err-clear-clause-blank
returns-in_err-clear-clause-blank g c = λ tells none. let newest = c.in_ok-loaded.ensures.loaded.so.newest tells in absurd (none _ newest.one_of_two newest.sealed)

pub returns-clause-opened : goal.returns-clause-opened
returns-clause-opened g c =
    contents_as _ _ _ (λ mutations is. record {
      opened = one_is_left _ _ _ _ _ _ _ c.requires.first c.requires.second is c.clear.ensures.moments c.in_ok-clear.ensures.cleared;
      read = λ tells. newest_loaded _ _ _ _ _ _ is tells;
      contents = λ file id changes now tells. store_contents _ _ _ _ file id changes _ (newest_loaded _ _ _ _ _ _ is tells) (now _ tells);
    }) c.in_ok-loaded.ensures.loaded

pub returns-clause-moments : goal.returns-clause-moments
returns-clause-moments g c =
    while_older _ _ _ _ _ _ _ c.requires.first c.requires.second c.load_found.ensures.reads_only c.in_ok-loaded.ensures.loaded.so c.clear.ensures.moments c.clear.ensures.unsealed_moments

pub returns-clause-survives : goal.returns-clause-survives
returns-clause-survives g c file id changes now = erasing_survives _ _ _ _ file id changes (returns-clause-moments g c) now

pub returns-clause-unsealed : goal.returns-clause-unsealed
returns-clause-unsealed g c file within now = erasing_unsealed _ _ file (returns-clause-moments g c) within now

pub returns-clause-told : goal.returns-clause-told
returns-clause-told g c = λ tells. clear_told _ _ _ _ c.load_found.ensures.reads_only c.clear.ensures.moments tells

pub returns-clause-blank : goal.returns-clause-blank
returns-clause-blank g c = λ tells none. let newest = c.in_ok-loaded.ensures.loaded.so.newest tells in absurd (none _ newest.one_of_two newest.sealed)
