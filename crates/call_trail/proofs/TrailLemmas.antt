-- What the entries of a trail changed, and what they are replied.
use Rattle.std.proofs.Common.{◌≡◌, ℕ, ◌<◌, ⊎_elim, List, [], ◌∷◌, ◌++◌, length, length-append, take, slice_get, Some, refl, sym, ◌∙◌, ap, subst, arith, append_assoc}
use Rattle.std.proofs.Math.Seq.{take-append_seam, get_or-append_seam}
use Rattle.std.proofs.lemmas.Bool.{cases_lt}
use Rattle.std.proofs.lemmas.List.{append-nil, take-append-le, get_or_append_left}
use Rattle.std.proofs.lemmas.Option.{slice_get_within, slice_get-get_or}
use Rattle.cache_key.specs.declared.request.Request.{Request}
use Rattle.cache_key.specs.declared.request.Request.TheVariants.{Get, Put, Remove, Ensure, Truncate, Destroy, PutAll, Size}
use Rattle.cache_key.specs.declared.request.Reply.TheVariants.{Value, Count}
use Rattle.cache_model.specs.Caches.{Caches}
use Rattle.cache_model.specs.Change.{Change, reset}
use Rattle.cache_model.specs.Contents.{AreContentsAfter}
use Rattle.cache_model.specs.Reply.{changes_asked, reply_after}
use Rattle.cache_model.proofs.SizeLemmas.{size_after-contents}
use Rattle.call_trail.specs.Trails.{IsLegal, trail_changes, changes_of_entries}
use Rattle.call_trail.specs.declared.entry.Entry.{Entry}

-- the same contents are replied the same
pub reply_same : (changes others : List Change) (caches : Caches) (request : Request) → AreContentsAfter changes caches → AreContentsAfter others caches
    → reply_after changes request ≡ reply_after others request
reply_same changes others caches (Get cache key) one two = ap Value (sym (one.values cache key) ∙ two.values cache key)
reply_same changes others caches (Put cache key value) one two = ap Value (sym (one.values cache key) ∙ two.values cache key)
reply_same changes others caches (Remove cache key) one two = ap Value (sym (one.values cache key) ∙ two.values cache key)
reply_same changes others caches (Ensure cache) one two = refl
reply_same changes others caches (Truncate cache) one two = refl
reply_same changes others caches (Destroy cache) one two = refl
reply_same changes others caches (PutAll cache pairs) one two = refl
reply_same changes others caches (Size cache) one two = ap Count (size_after-contents changes caches cache one ∙ sym (size_after-contents others caches cache two))

-- one entry more
asked_more : (entries : List Entry) (entry : Entry) → changes_of_entries (entries ++ entry ∷ []) ≡ changes_of_entries entries ++ changes_asked entry.request
asked_more [] entry = append-nil (changes_asked entry.request)
asked_more (e ∷ es) entry = ap (λ (l : List Change). changes_asked e.request ++ l) (asked_more es entry) ∙ sym (append_assoc (changes_asked e.request) (changes_of_entries es) (changes_asked entry.request))

pub changes_more : (base : Caches) (entries : List Entry) (entry : Entry) → trail_changes base (entries ++ entry ∷ []) ≡ trail_changes base entries ++ changes_asked entry.request
changes_more base entries entry = ap (λ (l : List Change). reset base ∷ l) (asked_more entries entry)

-- what stands in a list with one element more
read_before : (entries : List Entry) (entry other : Entry) (k : ℕ) → k < length entries → slice_get (entries ++ entry ∷ []) k ≡ Some other → slice_get entries k ≡ Some other
read_before entries entry other k lt is =
    slice_get-get_or entries k entry lt ∙ ap Some (sym (get_or_append_left entries (entry ∷ []) entry k lt))
    ∙ sym (slice_get-get_or (entries ++ entry ∷ []) k entry (slice_get_within (entries ++ entry ∷ []) k other is)) ∙ is

read_last : (entries : List Entry) (entry other : Entry) → slice_get (entries ++ entry ∷ []) (length entries) ≡ Some other → entry ≡ other
read_last entries entry other is =
    let there = slice_get-get_or (entries ++ entry ∷ []) (length entries) entry (slice_get_within (entries ++ entry ∷ []) (length entries) other is) in
    let last = get_or-append_seam entries entry [] entry in
    let read : Some entry ≡ Some other = ap Some (sym last) ∙ sym there ∙ is in
    cc

-- a trail with a right entry more is legal
pub legal_more : (base : Caches) (entries : List Entry) (entry : Entry) → IsLegal base entries → entry.reply ≡ reply_after (trail_changes base entries) entry.request
    → IsLegal base (entries ++ entry ∷ [])
legal_more base entries entry legal right k other is = ⊎_elim
    (λ lt.
    let before = take-append-le k entries (entry ∷ []) (omega (arith, lt)) in
    legal k other (read_before entries entry other k lt is) ∙ ap (λ (l : List Entry). reply_after (trail_changes base l) other.request) (sym before))
    (λ le.
    let within = slice_get_within (entries ++ entry ∷ []) k other is in
    let many = length-append entries (entry ∷ []) in
    let last : k ≡ length entries = omega (arith, le, within, many) in
    let same : entry ≡ other = read_last entries entry other (subst (λ (n : ℕ). slice_get (entries ++ entry ∷ []) n ≡ Some other) last is) in
    let before = ap (λ (n : ℕ). take n (entries ++ entry ∷ [])) last ∙ take-append_seam entries (entry ∷ []) in
    subst (λ (e : Entry). e.reply ≡ reply_after (trail_changes base (take k (entries ++ entry ∷ []))) e.request) same
    (right ∙ ap (λ (l : List Entry). reply_after (trail_changes base l) entry.request) (sym before)))
    (cases_lt k (length entries))
