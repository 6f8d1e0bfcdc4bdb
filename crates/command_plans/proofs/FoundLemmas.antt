-- Where a recovery of what a run found is refused for a partition, the files are so.
use Rattle.std.proofs.Common.{◌≡◌, ◌≤◌, ◌⊎◌, inl, inr, ⊎_elim, ℕ, zero, suc, List, [], ◌∷◌, Option, Some, None, Bool, true, false, refl, sym, ◌∙◌, ap, subst, arith, if◌then◌else◌}
use Rattle.std.specs.Prelude.{Contains}
use Rattle.roster_form.proofs.PassLemmas.{some_is}
use Rattle.roster_form.proofs.ContainsLemmas.{contains_first, contains_same, contains_later, contains_cases, contains_none}
use Rattle.command_plans.specs.Found.{FileSight, not_sealed, without_header, damaged_from, has_store, LaneFile, lane_files, LaneFinding, finds_none, finds_damage, finds_store, or_else, header_damage, first_without_header, version_seen, is_later_version, later_file, newest_file, found_in, found_newest, finding_in}

-- ---- findings differ

abbrev offsets_of : LaneFinding → ℕ × ℕ × ℕ
offsets_of finds_none = (0, 0, 0)
offsets_of (finds_damage host file offset) = (host, file, offset)
offsets_of (finds_store store file) = (0, 0, 0)

abbrev is_damage : LaneFinding → Type 0
is_damage finds_none = ⊥
is_damage (finds_damage host file offset) = Unit {0}
is_damage (finds_store store file) = ⊥

abbrev is_none : LaneFinding → Type 0
is_none finds_none = Unit {0}
is_none (finds_damage host file offset) = ⊥
is_none (finds_store store file) = ⊥

abbrev is_headed : FileSight → Type 0
is_headed not_sealed = Unit {0}
is_headed (without_header offset) = ⊥
is_headed (damaged_from version offset) = Unit {0}
is_headed (has_store store) = Unit {0}

-- ---- a damaged file

-- one of these files, damaged at this offset
pub record IsDamagedAmong (files : List LaneFile) (host file offset : ℕ) : Type 0 where
  pub at : LaneFile
  pub among : Contains files at
  pub host_is : at.host ≡ host
  pub file_is : at.file ≡ file
  pub sight : (at.sight ≡ without_header offset) ⊎ ((version : ℕ) × (at.sight ≡ damaged_from version offset))

later_among : (first : LaneFile) (others : List LaneFile) (host file offset : ℕ) → IsDamagedAmong others host file offset → IsDamagedAmong (first ∷ others) host file offset
later_among first others host file offset found = record { at = found.at; among = contains_later first others found.at found.among; host_is = found.host_is; file_is = found.file_is; sight = found.sight }

damaged_here : (files : List LaneFile) (at : LaneFile) (host file offset offset_here : ℕ) → Contains files at → (at.sight ≡ without_header offset_here) ⊎ ((version : ℕ) × (at.sight ≡ damaged_from version offset_here))
    → finds_damage at.host at.file offset_here ≡ finds_damage host file offset → IsDamagedAmong files host file offset
damaged_here files at host file offset offset_here among sight is =
    let parts = ap offsets_of is in
    record {
      at = at;
      among = among;
      host_is = ap (λ (p : ℕ × ℕ × ℕ). p.0) parts;
      file_is = ap (λ (p : ℕ × ℕ × ℕ). p.1) parts;
      sight = subst (λ (o : ℕ). (at.sight ≡ without_header o) ⊎ ((version : ℕ) × (at.sight ≡ damaged_from version o))) (ap (λ (p : ℕ × ℕ × ℕ). p.2) parts) sight;
    }

-- a header that is damaged
header_found : (files : List LaneFile) (host file offset : ℕ) → first_without_header files ≡ finds_damage host file offset → IsDamagedAmong files host file offset
header_found [] host file offset is = absurd (subst is_damage (sym is) tt)
header_found (first ∷ others) host file offset is = by (λ rest. later_among first others host file offset (header_found others host file offset rest)) first.sight refl is
  where
    by : (first_without_header others ≡ finds_damage host file offset → IsDamagedAmong (first ∷ others) host file offset) → (sight : FileSight) → first.sight ≡ sight
        → or_else (header_damage first sight) (first_without_header others) ≡ finds_damage host file offset → IsDamagedAmong (first ∷ others) host file offset
    by later not_sealed e rest = later rest
    by later (without_header here) e rest = damaged_here (first ∷ others) first host file offset here (contains_first first others) (inl e) rest
    by later (damaged_from version here) e rest = later rest
    by later (has_store store) e rest = later rest

-- of two files one is taken
later_cases : (first second : LaneFile) (b : Bool) → ((if b then second else first) ≡ second) ⊎ ((if b then second else first) ≡ first)
later_cases first second true = inl refl
later_cases first second false = inr refl

newest_among : (files : List LaneFile) (at : LaneFile) → newest_file files ≡ Some at → Contains files at
newest_among [] at is = absurd cc
newest_among (first ∷ others) at is = by (newest_among others) (newest_file others) refl is
  where
    by : ((one : LaneFile) → newest_file others ≡ Some one → Contains others one) → (newest : Option LaneFile) → newest_file others ≡ newest → Some (later_file first newest) ≡ Some at → Contains (first ∷ others) at
    by later None e found = contains_same first others at (sym (some_is first at found))
    by later (Some second) e found =
        let taken = some_is (later_file first (Some second)) at found in
        ⊎_elim
        (λ is_second. contains_later first others at (subst (λ (f : LaneFile). Contains others f) (sym is_second ∙ taken) (later second e)))
        (λ is_first. contains_same first others at (sym (sym is_first ∙ taken)))
        (later_cases first second (is_later_version (version_seen first.sight) (version_seen second.sight)))

newest_found : (files : List LaneFile) (host file offset : ℕ) → found_newest (newest_file files) ≡ finds_damage host file offset → IsDamagedAmong files host file offset
newest_found files host file offset is = by (newest_file files) refl is
  where
    by : (newest : Option LaneFile) → newest_file files ≡ newest → found_newest newest ≡ finds_damage host file offset → IsDamagedAmong files host file offset
    by None e found = absurd (subst is_damage (sym found) tt)
    by (Some at) e found = seen at.sight refl found
      where
        seen : (sight : FileSight) → at.sight ≡ sight → found_in at sight ≡ finds_damage host file offset → IsDamagedAmong files host file offset
        seen not_sealed s is_ = absurd (subst is_damage (sym is_) tt)
        seen (without_header here) s is_ = damaged_here files at host file offset here (newest_among files at e) (inl s) is_
        seen (damaged_from version here) s is_ = damaged_here files at host file offset here (newest_among files at e) (inr (version, s)) is_
        seen (has_store store) s is_ = absurd (subst is_damage (sym is_) tt)

pub damage_found : (files : List LaneFile) (host file offset : ℕ) → finding_in files ≡ finds_damage host file offset → IsDamagedAmong files host file offset
damage_found files host file offset is = by (first_without_header files) refl is
  where
    by : (finding : LaneFinding) → first_without_header files ≡ finding → or_else finding (found_newest (newest_file files)) ≡ finds_damage host file offset → IsDamagedAmong files host file offset
    by finds_none e found = newest_found files host file offset found
    by (finds_damage h f o) e found = header_found files host file offset (e ∙ found)
    by (finds_store store f) e found = absurd (subst is_damage (sym found) tt)

-- ---- no file

-- none of these files is sealed
abbrev pub NoneSealed : List LaneFile → Type 0
NoneSealed files = (at : LaneFile) → Contains files at → at.sight ≡ not_sealed

no_header : (files : List LaneFile) → first_without_header files ≡ finds_none → (at : LaneFile) (offset : ℕ) → Contains files at → at.sight ≡ without_header offset → ⊥
no_header [] none at offset among sight = contains_none at among
no_header (first ∷ others) none at offset among sight = by (λ rest there. no_header others rest at offset there sight) first.sight refl none (contains_cases first others at among)
  where
    apart : (seen : FileSight) → first.sight ≡ seen → is_headed seen → at ≡ first → ⊥
    apart seen e headed here = subst is_headed (sym e ∙ sym (ap (λ (f : LaneFile). f.sight) here) ∙ sight) headed

    by : (first_without_header others ≡ finds_none → Contains others at → ⊥) → (seen : FileSight) → first.sight ≡ seen → or_else (header_damage first seen) (first_without_header others) ≡ finds_none → (at ≡ first) ⊎ Contains others at → ⊥
    by later not_sealed e rest which = ⊎_elim (apart not_sealed e tt) (later rest) which
    by later (without_header here) e rest which = subst is_none (sym rest) tt
    by later (damaged_from version here) e rest which = ⊎_elim (apart (damaged_from version here) e tt) (later rest) which
    by later (has_store store) e rest which = ⊎_elim (apart (has_store store) e tt) (later rest) which

some_newest : (files : List LaneFile) (at : LaneFile) → newest_file files ≡ None → Contains files at → ⊥
some_newest [] at is among = contains_none at among
some_newest (first ∷ others) at is among = cc

none_later : (v : Option ℕ) → is_later_version v None ≡ false
none_later None = refl
none_later (Some version) = refl

none_earlier : (v : Option ℕ) → is_later_version None v ≡ false → v ≡ None
none_earlier None e = refl
none_earlier (Some version) e = cc

no_version : (files : List LaneFile) (newest : LaneFile) → newest_file files ≡ Some newest → version_seen newest.sight ≡ None → (at : LaneFile) → Contains files at → version_seen at.sight ≡ None
no_version [] newest is none at among = absurd cc
no_version (first ∷ others) newest is none at among = by (λ second e missing there. no_version others second e missing at there) (newest_file others) refl is (contains_cases first others at among)
  where
    here_none : newest ≡ first → at ≡ first → version_seen at.sight ≡ None
    here_none is_first here = ap (λ (f : LaneFile). version_seen f.sight) (here ∙ sym is_first) ∙ none

    by : ((second : LaneFile) → newest_file others ≡ Some second → version_seen second.sight ≡ None → Contains others at → version_seen at.sight ≡ None) → (seen : Option LaneFile) → newest_file others ≡ seen → Some (later_file first seen) ≡ Some newest
        → (at ≡ first) ⊎ Contains others at → version_seen at.sight ≡ None
    by later None e found which = ⊎_elim (here_none (sym (some_is first newest found))) (λ there. absurd (some_newest others at e there)) which
    by later (Some second) e found which = versions (is_later_version (version_seen first.sight) (version_seen second.sight)) refl (some_is (later_file first (Some second)) newest found)
      where
        versions : (b : Bool) → is_later_version (version_seen first.sight) (version_seen second.sight) ≡ b → (if b then second else first) ≡ newest → version_seen at.sight ≡ None
        versions true t taken = let no : true ≡ false = sym t ∙ ap (is_later_version (version_seen first.sight)) (ap (λ (f : LaneFile). version_seen f.sight) taken ∙ none) ∙ none_later (version_seen first.sight) in cc
        versions false t taken =
            let lacks = none_earlier (version_seen second.sight) (sym (ap (λ (v : Option ℕ). is_later_version v (version_seen second.sight)) (ap (λ (f : LaneFile). version_seen f.sight) taken ∙ none)) ∙ t) in
            ⊎_elim (here_none (sym taken)) (λ there. later second e lacks there) which

pub none_found : (files : List LaneFile) → finding_in files ≡ finds_none → NoneSealed files
none_found files is at among = by (first_without_header files) refl is
  where
    unsealed : (sight : FileSight) → at.sight ≡ sight → version_seen sight ≡ None → ((offset : ℕ) → at.sight ≡ without_header offset → ⊥) → at.sight ≡ not_sealed
    unsealed not_sealed e missing headed = e
    unsealed (without_header offset) e missing headed = absurd (headed offset e)
    unsealed (damaged_from version offset) e missing headed = absurd cc
    unsealed (has_store store) e missing headed = absurd cc

    nothing : (newest : LaneFile) (sight : FileSight) → newest.sight ≡ sight → found_in newest sight ≡ finds_none → version_seen newest.sight ≡ None
    nothing newest not_sealed e none = ap version_seen e
    nothing newest (without_header offset) e none = absurd (subst is_none (sym none) tt)
    nothing newest (damaged_from version offset) e none = absurd (subst is_none (sym none) tt)
    nothing newest (has_store store) e none = absurd (subst is_none (sym none) tt)

    newest_none : first_without_header files ≡ finds_none → (newest : Option LaneFile) → newest_file files ≡ newest → found_newest newest ≡ finds_none → at.sight ≡ not_sealed
    newest_none headed None e none = absurd (some_newest files at e among)
    newest_none headed (Some newest) e none =
        unsealed at.sight refl (no_version files newest e (nothing newest newest.sight refl none) at among) (λ offset sight. no_header files headed at offset among sight)

    by : (finding : LaneFinding) → first_without_header files ≡ finding → or_else finding (found_newest (newest_file files)) ≡ finds_none → at.sight ≡ not_sealed
    by finds_none e none = newest_none e (newest_file files) refl none
    by (finds_damage host file offset) e none = absurd (subst is_none (sym none) tt)
    by (finds_store store file) e none = absurd (subst is_none (sym none) tt)

-- ---- files 0 and 1 of some hosts

-- a file among them
pub record IsLaneFile (files : ℕ → ℕ → FileSight) (hosts : List ℕ) (at : LaneFile) : Type 0 where
  pub host : Contains hosts at.host
  pub file : at.file ≤ 1
  pub sight : at.sight ≡ files at.host at.file

pub lane_file_is : (files : ℕ → ℕ → FileSight) (hosts : List ℕ) (at : LaneFile) → Contains (lane_files files hosts) at → IsLaneFile files hosts at
lane_file_is files [] at among = absurd (contains_none at among)
lane_file_is files (host ∷ hosts) at among = ⊎_elim
    (λ first. subst (IsLaneFile files (host ∷ hosts)) (sym first) (record { host = contains_first host hosts; file = omega (arith); sight = refl }))
    (λ rest. ⊎_elim
    (λ second. subst (IsLaneFile files (host ∷ hosts)) (sym second) (record { host = contains_first host hosts; file = omega (arith); sight = refl }))
    (λ there. let found = lane_file_is files hosts at there in record { host = contains_later host hosts at.host found.host; file = found.file; sight = found.sight })
    (contains_cases (record { host = host; file = 1; sight = files host 1 }) (lane_files files hosts) at rest))
    (contains_cases (record { host = host; file = 0; sight = files host 0 }) (record { host = host; file = 1; sight = files host 1 } ∷ lane_files files hosts) at among)

pub is_lane_file : (files : ℕ → ℕ → FileSight) (hosts : List ℕ) (host file : ℕ) → Contains hosts host → file ≤ 1 → Contains (lane_files files hosts) (record { host = host; file = file; sight = files host file })
is_lane_file files [] host file among low = absurd (contains_none host among)
is_lane_file files (first ∷ hosts) host file among low = ⊎_elim
    (λ here. of_first here file low)
    (λ there. contains_later (slot first 0) (slot first 1 ∷ lane_files files hosts) (slot host file) (contains_later (slot first 1) (lane_files files hosts) (slot host file) (is_lane_file files hosts host file there low)))
    (contains_cases first hosts host among)
  where
    slot : ℕ → ℕ → LaneFile
    slot h f = record { host = h; file = f; sight = files h f }

    of_first : host ≡ first → (f : ℕ) → f ≤ 1 → Contains (slot first 0 ∷ slot first 1 ∷ lane_files files hosts) (slot host f)
    of_first here zero low_ = contains_same (slot first 0) (slot first 1 ∷ lane_files files hosts) (slot host 0) (ap (λ (h : ℕ). slot h 0) here)
    of_first here (suc zero) low_ = contains_later (slot first 0) (slot first 1 ∷ lane_files files hosts) (slot host 1) (contains_same (slot first 1) (lane_files files hosts) (slot host 1) (ap (λ (h : ℕ). slot h 1) here))
    of_first here (suc (suc f)) low_ = absurd (omega (arith, low_))
