use Rattle.std.proofs.Common.{◌≡◌, ℕ, List, subst}
use Rattle.cache_key.specs.Names.{IsName}
use Rattle.plan_words.specs.declared.words.WordFault.TheVariants.{Words}
use Rattle.plan_words.proofs.WordsLemmas.{one_host, planned, disk_alone, name_not_refused}
use Rattle.plan_words.proofs.words.site_plan.Goals as goal

pub returns-in-Err-clause-words : goal.returns-in-Err-clause-words
returns-in-Err-clause-words c = λ reason is hosts partitions plan.
    let mine = planned _ _ _ _ _ c.in-Some.ensures.found c.in-Some-chosen_by.ensures.found in
    let same = one_host _ _ _ _ _ _ _ plan.words_are mine in
    let name : IsName c.in-Some.word.now = subst (λ (w : List ℕ). IsName w) same plan.name in
    let words : c.host_fault.result ≡ Words reason = cc in
    name_not_refused c.in-Some.word.now c.in-Err.fault c.host_fault.result reason name c.in-Err.ensures.empty c.in-Err.ensures.long c.in-Err.ensures.bad_byte c.host_fault.ensures words

pub returns-clause-disk_alone : goal.returns-clause-disk_alone
returns-clause-disk_alone c =
    let disk = c.in_ok-plan.ensures.disk in
    disk_alone _ _ _ _ _ c.in-Some.ensures.found c.in-Some-chosen_by.ensures.found c.in_ok-plan.plan.cut c.in_ok-plan.plan.pick disk.0 disk.1
