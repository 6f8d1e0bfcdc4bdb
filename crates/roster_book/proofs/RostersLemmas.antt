-- What several hosts show, host by host.
use Rattle.std.proofs.Common.{◌≡◌, ℕ, suc, ◌+◌, ◌<◌, ◌≤◌, List, [], ◌∷◌, ◌++◌, take, drop, get_or, length, slice_get, slice_set, Option, None, Some, refl, sym, ◌∙◌, ap, subst, arith}
use Rattle.std.proofs.lemmas.List.Elements.{All-append, All-nil, All-cons}
use Rattle.std.proofs.lemmas.List.{map-append, take_more, take_all}
use Rattle.std.proofs.lemmas.Option.{slice_get_within}
use Rattle.std.proofs.Math.Seq.{split_at}
use Rattle.disk_lane.specs.Lanes.{HasFailedOn}
use Rattle.disk_lane.proofs.LaneLemmas.{written_same, some_same, disk_there}
use Rattle.disk_trait.specs.View.{Image, View}
use Rattle.disk_trait.proofs.Runs.{started, same_none, onward_none}
use Rattle.store_journal.specs.Created.{IsUnsealed}
use Rattle.store_journal.specs.Loading.{OnlyReads}
use Rattle.newest_store.specs.Choice.{OnlyReadsLane}
use Rattle.newest_store.proofs.ChoiceLemmas.{reads_joined, failed_since}
use Rattle.roster_form.specs.RosterFault.{roster_fault}
use Rattle.roster_form.specs.RosterText.{IsRosterText}
use Rattle.roster_form.specs.Shown.{Shows}
use Rattle.roster_form.specs.declared.roster.Roster.{Roster}
use Rattle.roster_book.proofs.ReadingLemmas.{newest_alike}
use Rattle.roster_book.specs.Rosters.{IsShownBy, IsFoundOn, AreFound, IsDamagedRoster, IsDamagedOn, IsReadRefusal, IsRefusedOn, IsHostRefusal}
use Rattle.roster_book.specs.declared.found.Found.{Found}
use Rattle.roster_book.specs.declared.rosters.BookRefusal.{BookRefusal}
use Rattle.roster_book.specs.declared.rosters.BookRefusal.TheVariants.{Fault, DamagedRoster, NoMemory}

-- ---- the same files

shows_alike : (m n : Image) (shown : Option Roster) → ((f : ℕ) → m f ≡ n f) → Shows m shown → Shows n shown
shows_alike m n None alike shows = λ file within. subst IsUnsealed (alike file) (shows file within)
shows_alike m n (Some roster) alike shows = (shows.0, newest_alike m n shows.0 (λ f within. alike f) shows.1, subst (IsRosterText roster) (alike shows.0) shows.2)

-- ---- one host's disk in the list

module _ {D : Type 0} (view : D → View) (services : List D) (host : ℕ) (before now : D) (was : slice_get services host ≡ Some before) where
  pub host_found : (partitions : ℕ) (found : Found) → found.host ≡ host → IsShownBy (view before) partitions found.roster → IsFoundOn view services partitions found
  host_found partitions found is shown = λ service there.
      subst (λ (d : D). IsShownBy (view d) partitions found.roster) (some_same before service (slice_get services host) was (ap (slice_get services) (sym is) ∙ there)) shown

  pub host_unread : (partitions : ℕ) (refusal : BookRefusal) → IsHostRefusal (view before) (view now) partitions host refusal → IsRefusedOn view services (slice_set services host now) partitions host refusal
  host_unread partitions (Fault h) is = (is.0, record { before = before; now = now; was = was; is = written_same services host now (slice_get_within services host before was); rose = is.1 })
  host_unread partitions (DamagedRoster h file at) is = (is.0, λ service there. subst (λ (d : D). IsDamagedRoster (view d) partitions file at) (some_same before service (slice_get services host) was there) is.1)
  host_unread partitions NoMemory is = tt

-- ---- several hosts' disks

-- what the hosts so far show
pub record FoundSoFar {D : Type 0} (view : D → View) (old now : List D) (partitions : ℕ) (hosts : List ℕ) (found : List Found) : Type 0 where
  pub reads : OnlyReadsLane view old now
  pub are : AreFound view old partitions hosts found

pub none_found : {D : Type 0} (view : D → View) (services : List D) (partitions : ℕ) (hosts : List ℕ) (found : List Found) → found ≡ [] → FoundSoFar view services services partitions (take 0 hosts) found
none_found view services partitions hosts found none = record {
  reads = record {
    as_many = refl;
    each = λ h first last one two.
        subst (λ d. OnlyReads (view first) (view d)) (some_same first last (slice_get services h) one two)
        (record { same = same_none (view first); moments = started (view first) (view first).images (λ m is. is); onward = onward_none (view first) });
  };
  are = subst (λ (l : List Found). AreFound view services partitions [] l) (sym none) (record { of_hosts = refl; shown = All-nil (IsFoundOn view services partitions) });
}

module _ {D : Type 0} (view : D → View) (old mid : List D) (reads : OnlyReadsLane view old mid) where
  -- a host's disk, before the reads and after them
  after_reads : (host : ℕ) (service : D) → slice_get old host ≡ Some service → (now : D) × (slice_get mid host ≡ Some now) × OnlyReads (view service) (view now)
  after_reads host service is =
      let now = disk_there mid host (let less = slice_get_within old host service is in omega (arith, less, reads.as_many)) in
      (now.0, now.1, reads.each host service now.0 is now.1)

  found_before : (partitions : ℕ) (found : Found) → IsFoundOn view mid partitions found → IsFoundOn view old partitions found
  found_before partitions found is = λ service there.
      let now = after_reads found.host service there in
      let shown = is now.0 now.1 in
      record {
        shows = λ tells. shows_alike (view now.0).seen (view service).seen found.roster now.2.same.seen (shown.shows (now.2.onward.tells tells));
        site = shown.site;
      }

  damaged_before : (partitions host file at : ℕ) → IsDamagedOn view mid partitions host file at → IsDamagedOn view old partitions host file at
  damaged_before partitions host file at is = λ service there tells.
      let now = after_reads host service there in
      let damaged = is now.0 now.1 (now.2.onward.tells tells) in (
        newest_alike (view now.0).seen (view service).seen file (λ f within. now.2.same.seen f) damaged.0,
        subst (λ (bytes : List ℕ). roster_fault partitions bytes ≡ Some at) (now.2.same.seen file) damaged.1,
      )

  one_found_more : (new : List D) (partitions : ℕ) (hosts : List ℕ) (host : ℕ) (found : List Found) (own : Found) → AreFound view old partitions hosts found → OnlyReadsLane view mid new
      → own.host ≡ host → IsFoundOn view mid partitions own → FoundSoFar view old new partitions (hosts ++ host ∷ []) (found ++ own ∷ [])
  one_found_more new partitions hosts host found own are then is shown = record {
    reads = reads_joined view old mid reads new then;
    are = record {
      of_hosts = map-append (λ (f : Found). f.host) found (own ∷ []) ∙ ap (λ (l : List ℕ). l ++ own.host ∷ []) are.of_hosts ∙ ap (λ (h : ℕ). hosts ++ h ∷ []) is;
      shown = All-append (IsFoundOn view old partitions) found (own ∷ []) are.shown
          (All-cons (IsFoundOn view old partitions) own [] (found_before partitions own shown) (All-nil (IsFoundOn view old partitions)));
    };
  }

  refused_after : (new : List D) (partitions : ℕ) (before after hosts : List ℕ) (host : ℕ) (found : List Found) (refusal : BookRefusal) → hosts ≡ before ++ host ∷ after → AreFound view old partitions before found
      → IsRefusedOn view mid new partitions host refusal → IsReadRefusal view old new partitions hosts refusal
  refused_after new partitions before after hosts host found (Fault h) place are is = record {
    before = before;
    after = after;
    place = place ∙ ap (λ (k : ℕ). before ++ k ∷ after) (sym is.0);
    found = found;
    are = are;
    why = subst (λ (k : ℕ). HasFailedOn view k old new) (sym is.0) (failed_since view old mid reads host new is.1);
  }
  refused_after new partitions before after hosts host found (DamagedRoster h file at) place are is = record {
    before = before;
    after = after;
    place = place ∙ ap (λ (k : ℕ). before ++ k ∷ after) (sym is.0);
    found = found;
    are = are;
    why = subst (λ (k : ℕ). IsDamagedOn view old partitions k file at) (sym is.0) (damaged_before partitions host file at is.1);
  }
  refused_after new partitions before after hosts host found NoMemory place are is = tt

-- ---- the loop over the hosts

pub refused_here : {D : Type 0} (view : D → View) (old mid new : List D) (partitions : ℕ) (hosts : List ℕ) (index d : ℕ) (found : List Found) (refusal : BookRefusal) → FoundSoFar view old mid partitions (take index hosts) found
    → index < length hosts → IsRefusedOn view mid new partitions (get_or hosts index d) refusal → IsReadRefusal view old new partitions hosts refusal
refused_here view old mid new partitions hosts index d found refusal far within is =
    refused_after view old mid far.reads new partitions (take index hosts) (drop (suc index) hosts) hosts (get_or hosts index d) found refusal (split_at hosts index d within) far.are is

pub found_here : {D : Type 0} (view : D → View) (old mid new : List D) (partitions : ℕ) (hosts : List ℕ) (index d : ℕ) (found : List Found) (own : Found) → FoundSoFar view old mid partitions (take index hosts) found
    → index < length hosts → OnlyReadsLane view mid new → own.host ≡ get_or hosts index d → IsFoundOn view mid partitions own → FoundSoFar view old new partitions (take (index + 1) hosts) (found ++ own ∷ [])
found_here view old mid new partitions hosts index d found own far within then is shown =
    subst (λ (l : List ℕ). FoundSoFar view old new partitions l (found ++ own ∷ [])) (sym (take_more hosts index d within))
    (one_found_more view old mid far.reads new partitions (take index hosts) (get_or hosts index d) found own far.are then is shown)

-- the loop ends after the last host
pub all_found : {D : Type 0} (view : D → View) (old now : List D) (partitions : ℕ) (hosts : List ℕ) (index : ℕ) (found : List Found) → FoundSoFar view old now partitions (take index hosts) found → length hosts ≤ index
    → FoundSoFar view old now partitions hosts found
all_found view old now partitions hosts index found far past = subst (λ (l : List ℕ). FoundSoFar view old now partitions l found) (take_all index hosts past) far
