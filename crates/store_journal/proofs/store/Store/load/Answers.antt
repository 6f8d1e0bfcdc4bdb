use Rattle.std.proofs.Common.{ap, refl, sym, ◌∙◌, Err}
use Rattle.std.proofs.lemmas.Result.{err_from_is_err_and}
use Rattle.store_journal.proofs.LoadLemmas.{store_refused, err_same, loaded_is}
use Rattle.store_journal.proofs.store.Store.load.Goals as goal

pub returns-in_err-found-clause-whole : goal.returns-in_err-found-clause-whole
returns-in_err-found-clause-whole g c header groups fault is other tells text one two =
    let p = err_from_is_err_and c.from_residual-in_err-found.result c.from_residual-in_err-found.ensures.1 in
    store_refused _ c.judge.result _ c.as_slice.result.now _ _ _ p.0 fault header groups (c.in_err-found.was ∙ ap Err (sym p.2)) c.judge.ensures.judged
    (err_same _ c.from_residual-in_err-found.result p.0 fault p.1 is) (c.as_slice.ensures.value ∙ c.in_ok-bytes.ensures.told tells) text one two

pub returns-clause-loaded : goal.returns-clause-loaded
returns-clause-loaded g c = loaded_is _ _ c.args.partition c.args.partitions _ c.as_slice.result.now _ _ _ c.in_ok-found.ensures.judged.0
    (λ tells. c.as_slice.ensures.value ∙ c.in_ok-bytes.ensures.told tells) c.in_ok-bytes.ensures.reads_only.same refl refl
