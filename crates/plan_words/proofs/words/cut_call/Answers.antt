use Rattle.std.proofs.Common.{rules, ◌≡◌, codes}
use Rattle.plan_words.proofs.OptionLemmas.{not_the_disk, cut_found, cut_none}
use Rattle.plan_words.proofs.words.cut_call.Goals as goal

pub returns-in_err-call-clause-none : goal.returns-in_err-call-clause-none
returns-in_err-call-clause-none c =
    let other = not_the_disk c.args.host.now c.args.option.now c.args.value.now c.in_ok-disk.disk.now c.in_ok-disk.ensures.found c.in_err-call.ensures.none in
    search rules

pub returns-clause-found : goal.returns-clause-found
returns-clause-found c =
    let cut : c.args.option.now ≡ codes "--cut" = search rules in
    cut_found _ _ _ c.in_ok-disk.disk.now c.in_ok-call.call.now c.call_of.result cut c.in_ok-disk.ensures.found c.in_ok-call.ensures.found c.call_of.ensures.found

pub returns-clause-none : goal.returns-clause-none
returns-clause-none c = cut_none _ _ _ c.in_ok-disk.disk.now c.in_ok-call.call.now c.call_of.result c.in_ok-disk.ensures.found c.in_ok-call.ensures.found c.call_of.ensures.none
