use Rattle.std.proofs.Common.{◌≡◌, ℕ, List, [], ◌∷◌, ◌++◌, sym, ap, ◌∙◌, append_assoc}
use Rattle.serde_json.specs.Data.{string, put}
use Rattle.serde_json.specs.View.{members_view}
use Rattle.report_lines.proofs.Members.{listed, put-listed_next, listed_all, pairs_data-listed}
use Rattle.report_lines.proofs.contents.pairs_members.Goals as goal

-- this pair goes after those so far
pub loop-key-preserved : goal.loop-key-preserved
loop-key-preserved c =
    let done = c.loop-key.invariant.0 in
    let pair : List ℕ × List ℕ = (c.in-Some.key.now, c.in-Some.value.now) in
    let left = c.next.new.self in
    let all : c.args.pairs.now.entries ≡ done ++ pair ∷ left = c.loop-key.invariant.1 ∙ ap (λ entries. done ++ entries) c.in-Some.ensures.steps in
    let last = put-listed_next string c.args.pairs.now.entries done pair left all c.iter-key-items.ensures.ordered in
    let added : members_view c.put.new.map.entries ≡ put pair.0 (string pair.1) (listed string done) =
    c.in_ok-put.ensures.ok ∙ rw (c.text-name.ensures.bytes, c.in_ok-text.ensures, c.text.ensures.bytes, c.loop-key.invariant.2) in
    (done ++ pair ∷ [], all ∙ sym (append_assoc done (pair ∷ []) left), added ∙ last)

pub returns : goal.returns
returns c =
    let pairs = c.args.pairs.now.entries in
    let so_far = c.loop-key.invariant in
    so_far.2 ∙ listed_all string pairs so_far.0 c.loop-key.key-iterator so_far.1 c.in-None.ensures.steps.0 ∙ pairs_data-listed pairs
