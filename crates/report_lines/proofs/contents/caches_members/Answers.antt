use Rattle.std.proofs.Common.{◌≡◌, ℕ, List, [], ◌∷◌, ◌++◌, sym, ap, ◌∙◌, append_assoc}
use Rattle.std.specs.BTreeMap.{BTreeMap}
use Rattle.serde_json.specs.Data.{put}
use Rattle.serde_json.specs.View.{members_view}
use Rattle.report_lines.proofs.Members.{listed, cache_data, put-listed_next, listed_all, caches_data-listed}
use Rattle.report_lines.proofs.contents.caches_members.Goals as goal

-- this cache goes after those so far
pub loop-name-preserved : goal.loop-name-preserved
loop-name-preserved c =
    let done = c.loop-name.invariant.0 in
    let cache : List ℕ × BTreeMap (List ℕ) (List ℕ) = (c.in-Some.name.now, c.in-Some.pairs.now) in
    let left = c.next.new.self in
    let all : c.args.caches.now.entries ≡ done ++ cache ∷ left = c.loop-name.invariant.1 ∙ ap (λ entries. done ++ entries) c.in-Some.ensures.steps in
    let last = put-listed_next cache_data c.args.caches.now.entries done cache left all c.iter-name-items.ensures.ordered in
    let added : members_view c.put.new.map.entries ≡ put cache.0 (cache_data cache.1) (listed cache_data done) =
    c.in_ok-put.ensures.ok ∙ rw (c.text.ensures.bytes, c.from-object.ensures, c.in_ok-pairs_members.ensures, c.loop-name.invariant.2) in
    (done ++ cache ∷ [], all ∙ sym (append_assoc done (cache ∷ []) left), added ∙ last)

pub returns : goal.returns
returns c =
    let caches = c.args.caches.now.entries in
    let so_far = c.loop-name.invariant in
    so_far.2 ∙ listed_all cache_data caches so_far.0 c.loop-name.name-iterator so_far.1 c.in-None.ensures.steps.0 ∙ caches_data-listed caches
