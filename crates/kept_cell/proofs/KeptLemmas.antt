-- What a cell's contents are to its trail.
use Rattle.std.proofs.Common.{◌≡◌, ℕ, ◌<◌, List, [], ◌∷◌, ◌++◌, ◌⊎◌, inl, length, Some, None, refl, sym, ◌∙◌, ap, subst, arith}
use Rattle.cache_key.specs.declared.request.Mutation.{Mutation}
use Rattle.cache_key.specs.declared.request.Mutation.TheVariants as mutations
use Rattle.cache_key.specs.declared.request.Request.{Request}
use Rattle.cache_key.specs.declared.request.Request.TheVariants.{Get, Put, Remove, Ensure, Truncate, Destroy, PutAll, Size}
use Rattle.cache_model.specs.Caches.{Caches}
use Rattle.cache_model.specs.Change.{Change, change_of, reset}
use Rattle.cache_model.specs.Contents.{SameContents, AreContentsAfter}
use Rattle.std.proofs.lemmas.List.{append-nil}
use Rattle.cache_model.specs.PlainList.{live}
use Rattle.cache_model.specs.Reply.{mutation_of, changes_asked, changes_in}
use Rattle.slot_board.specs.Slots.{slot_at}
use Rattle.cache_model.proofs.ContentsLemmas.{SameContents-from_one}
use Rattle.cache_model.proofs.SameLemmas.{same_after_more}
use Rattle.call_trail.specs.Trails.{trail_changes}
use Rattle.call_trail.specs.declared.entry.Entry.{Entry}
use Rattle.call_trail.proofs.TrailLemmas.{changes_more}
use Rattle.cache_key.specs.declared.request.Reply.{Reply}
use Rattle.cache_model.specs.Reply.{reply_after}
use Rattle.kept_cell.specs.KeptCells.{KeptCell, receipt_after, request_asking}
use Rattle.disk_lane.specs.Lanes.{LaneImage, IsLaneImage, LaneEvent}
use Rattle.disk_lane.proofs.LaneLemmas.{no_event}
use Rattle.disk_trait.specs.View.{View}
use Rattle.file_kinds.specs.Order.{SurvivesIn}
use Rattle.partition_cell.specs.Cells.{Cell, caches_of, flight_of, Surviving, SurvivingBefore}
use Rattle.partition_cell.specs.Limits.{IsFit}

-- a mutation is of one request
pub asks : (request : Request) (mutation : Mutation) → mutation_of request ≡ Some mutation → request ≡ request_asking mutation
asks (Get cache key) mutation is = let e : None ≡ Some mutation = is in absurd (cc e)
asks (Put cache key value) mutation is = let e : mutations.Put cache key value ≡ mutation = cc is in ap request_asking e
asks (Remove cache key) mutation is = let e : mutations.Remove cache key ≡ mutation = cc is in ap request_asking e
asks (Ensure cache) mutation is = let e : mutations.Ensure cache ≡ mutation = cc is in ap request_asking e
asks (Truncate cache) mutation is = let e : mutations.Truncate cache ≡ mutation = cc is in ap request_asking e
asks (Destroy cache) mutation is = let e : mutations.Destroy cache ≡ mutation = cc is in ap request_asking e
asks (PutAll cache pairs) mutation is = let e : mutations.Batch cache pairs ≡ mutation = cc is in ap request_asking e
asks (Size cache) mutation is = let e : None ≡ Some mutation = is in absurd (cc e)

asked_by : (mutation : Mutation) → changes_asked (request_asking mutation) ≡ change_of mutation ∷ []
asked_by (mutations.Put cache key value) = refl
asked_by (mutations.Remove cache key) = refl
asked_by (mutations.Ensure cache) = refl
asked_by (mutations.Truncate cache) = refl
asked_by (mutations.Destroy cache) = refl
asked_by (mutations.Batch cache pairs) = refl

-- contents in place of all are the contents
pub begun : (changes : List Change) (caches : Caches) → AreContentsAfter changes caches → AreContentsAfter (trail_changes caches []) caches
begun changes caches are = record { names_rise = are.names_rise; keys_rise = are.keys_rise; presence = λ cache. refl; values = λ cache key. refl }

-- the same contents are those of either list
shared : (changes others : List Change) (caches : Caches) → SameContents changes others → AreContentsAfter others caches → AreContentsAfter changes caches
shared changes others caches same are = record {
  names_rise = are.names_rise;
  keys_rise = are.keys_rise;
  presence = λ cache. are.presence cache ∙ sym (same.presence cache);
  values = λ cache key. are.values cache key ∙ sym (same.values cache key);
}

-- after a mutation the contents are those of the trail with its entry
pub entered : (base : Caches) (entries : List Entry) (entry : Entry) (mutation : Mutation) (changes : List Change) (before after : Caches)
    → entry.request ≡ request_asking mutation → AreContentsAfter (trail_changes base entries) before → AreContentsAfter changes before → AreContentsAfter (changes ++ change_of mutation ∷ []) after
    → AreContentsAfter (trail_changes base (entries ++ entry ∷ [])) after
entered base entries entry mutation changes before after asked trail had has =
    let more : trail_changes base (entries ++ entry ∷ []) ≡ trail_changes base entries ++ change_of mutation ∷ [] =
    changes_more base entries entry ∙ ap (λ (r : Request). trail_changes base entries ++ changes_asked r) asked ∙ ap (λ (l : List Change). trail_changes base entries ++ l) (asked_by mutation) in
    subst (λ (l : List Change). AreContentsAfter l after) (sym more)
    (shared (trail_changes base entries ++ change_of mutation ∷ []) (changes ++ change_of mutation ∷ []) after
    (same_after_more (trail_changes base entries) changes (change_of mutation ∷ []) (SameContents-from_one (trail_changes base entries) changes before trail had)) has)

-- a read leaves them
pub entered_read : (base : Caches) (entries : List Entry) (entry : Entry) (caches : Caches) → mutation_of entry.request ≡ None → AreContentsAfter (trail_changes base entries) caches → AreContentsAfter (trail_changes base (entries ++ entry ∷ [])) caches
entered_read base entries entry caches read are =
    let none : changes_asked entry.request ≡ [] = ap changes_in read in
    let more : trail_changes base (entries ++ entry ∷ []) ≡ trail_changes base entries =
    changes_more base entries entry ∙ ap (λ (l : List Change). trail_changes base entries ++ l) none ∙ append-nil (trail_changes base entries) in
    subst (λ (l : List Change). AreContentsAfter l caches) (sym more) are

-- a map that was made ready leaves a cell fit
pub fit_back : {D : Type 0} (a b : Cell D) → b ≡ record a { maps = b.maps } → caches_of b ≡ caches_of a → IsFit a → IsFit b
fit_back a b kept same fit = record {
  sound = record {
    none = ap (λ (c : Cell _). c.flight) kept ∙ fit.sound.none;
    no_doubt = λ h f le is. fit.sound.no_doubt h f le (ap (λ (c : Cell _). (slot_at c.board h f).kind) (sym kept) ∙ is);
  };
  short =
      let end = ap (λ (c : Cell _). c.store.end) kept in
      let size = ap live same in
      omega (arith, fit.short, end, size);
}

-- no disk was called
pub uncalled : {D : Type 0} (view : D → View) (a : Cell D) (change : Change) → a.owner < length a.disks → ((ms : LaneImage) → IsLaneImage view a.disks ms → Surviving a ms)
    → LaneEvent view a.owner a.disks a.disks (λ ms. Surviving a ms ⊎ SurvivingBefore a change ms)
uncalled view a change there survives = no_event view a.disks a.owner (λ ms. Surviving a ms ⊎ SurvivingBefore a change ms) there (λ ms is. inl (survives ms is))

-- what happens to a cell whose map was made ready has happened to it before, too
pub readied_event : {D : Type 0} (view : D → View) (a b : Cell D) (last : List D) (change : Change) → b ≡ record a { maps = b.maps } → caches_of b ≡ caches_of a
    → LaneEvent view b.owner b.disks last (λ ms. Surviving b ms ⊎ SurvivingBefore b change ms) → LaneEvent view a.owner a.disks last (λ ms. Surviving a ms ⊎ SurvivingBefore a change ms)
readied_event view a b last change kept same event =
    subst (λ (c : Caches). LaneEvent view a.owner a.disks last (λ ms. SurvivesIn a.board a.owner a.number (reset c ∷ []) (flight_of a) ms ⊎ SurvivesIn a.board a.owner a.number (reset c ∷ []) (change ∷ []) ms)) same
    (subst (λ (x : Cell _). LaneEvent view x.owner x.disks last (λ ms. Surviving x ms ⊎ SurvivingBefore x change ms)) kept event)

-- a receipt by its parts
pub receipt_is : {D : Type 0} (kept : KeptCell D) (client number : ℕ) (request : Request) (partition place : ℕ) (reply : Reply) → partition ≡ kept.cell.number.partition → place ≡ length kept.trail.entries
    → reply ≡ reply_after (trail_changes kept.trail.base kept.trail.entries) request
    → record { partition = partition; place = place; client = client; number = number; request = request; reply = reply } ≡ receipt_after kept client number request
receipt_is kept client number request partition place reply one two three =
    let first : record { partition = partition; place = place; client = client; number = number; request = request; reply = reply }
    ≡ record { partition = kept.cell.number.partition; place = place; client = client; number = number; request = request; reply = reply } =
    ap (λ (n : ℕ). record { partition = n; place = place; client = client; number = number; request = request; reply = reply }) one in
    let second : record { partition = kept.cell.number.partition; place = place; client = client; number = number; request = request; reply = reply }
    ≡ record { partition = kept.cell.number.partition; place = length kept.trail.entries; client = client; number = number; request = request; reply = reply } =
    ap (λ (n : ℕ). record { partition = kept.cell.number.partition; place = n; client = client; number = number; request = request; reply = reply }) two in
    let third : record { partition = kept.cell.number.partition; place = length kept.trail.entries; client = client; number = number; request = request; reply = reply } ≡ receipt_after kept client number request =
    ap (λ (r : Reply). record { partition = kept.cell.number.partition; place = length kept.trail.entries; client = client; number = number; request = request; reply = r }) three in
    first ∙ second ∙ third
