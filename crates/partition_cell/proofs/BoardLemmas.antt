-- What a board's changes do to the order of the versions.
use Rattle.std.proofs.Common.{◌≡◌, ◌≢◌, ◌⊎◌, inl, inr, ⊎_elim, ℕ, ◌+◌, ◌<◌, ◌≤◌, List, refl, sym, ◌∙◌, ap, subst, arith}
use Rattle.std.proofs.lemmas.Bool.{cases_eq}
use Rattle.cache_model.specs.Change.{Change}
use Rattle.slot_board.specs.declared.board.Board.{Board}
use Rattle.slot_board.specs.declared.board.Slot.{Slot}
use Rattle.slot_board.specs.declared.board.SlotKind.{SlotKind}
use Rattle.slot_board.specs.declared.board.SlotKind.TheVariants.{Empty, Blank, Stale, Doubt, Current, Unknown}
use Rattle.slot_board.specs.Slots.{slot_at, hosts_of, told_by, target_of, aged, superseded, IsSet, IsSuperseded}
use Rattle.file_kinds.specs.Kinds.{PartitionNumber, MayCount}
use Rattle.partition_cell.specs.Cells.{ByHost, NoneForgotten}
use Rattle.file_kinds.specs.Order.{IsOrdered, IsRecorded, AreRecorded, SurvivesIn}
use Rattle.disk_lane.specs.Lanes.{LaneImage}

-- kinds that differ
pub blank_is_not_current : Blank ≢ Current
blank_is_not_current e = cc

pub blank_is_not_unknown : Blank ≢ Unknown
blank_is_not_unknown e = cc

-- a slot is this one or another
pub same_or : (h f k j : ℕ) → ((h ≡ k) × (f ≡ j)) ⊎ ((h ≡ k) × (f ≡ j) → ⊥)
same_or h f k j = ⊎_elim
    (λ e. ⊎_elim (λ e'. inl (e, e')) (λ ne. inr (λ same. ne same.1)) (cases_eq f j))
    (λ ne. inr (λ same. ne same.0))
    (cases_eq h k)

-- after a set
module _ (board later : Board) (host file : ℕ) (slot : Slot) (set : IsSet board later host file slot) where
  pub slot_is : (h f : ℕ) → (h ≡ host) × (f ≡ file) → slot_at later h f ≡ slot
  slot_is h f same = ap (λ (k : ℕ). slot_at later k f) same.0 ∙ ap (λ (j : ℕ). slot_at later host j) same.1 ∙ set.here

  pub at_slot : (P : Slot → Type 0) (h f : ℕ) → f ≤ 1 → ((h ≡ host) × (f ≡ file) → P slot) → (((h ≡ host) × (f ≡ file) → ⊥) → P (slot_at board h f)) → P (slot_at later h f)
  at_slot P h f le here other = ⊎_elim
      (λ same. subst P (sym (slot_is h f same)) (here same))
      (λ apart. subst P (sym (set.others h f le apart)) (other apart))
      (same_or h f host file)

  pub set_known : slot.kind ≢ Unknown → NoneForgotten board later
  set_known known = record {
    as_many = set.hosts;
    known = λ h f le. at_slot (λ s. s.kind ≡ Unknown → (slot_at board h f).kind ≡ Unknown) h f le (λ same is. absurd (known is)) (λ apart is. is);
  }

  -- a kind that doesn't count
  module _ (owner current : ℕ) (ordered : IsOrdered board owner current) (free : MayCount slot.kind → ⊥) (past : slot.kind ≢ Current) (fresh : slot.kind ≢ Stale) (sure : slot.kind ≢ Doubt) (apart : (owner ≡ host) × (current ≡ file) → ⊥) where
    same_current : slot_at later owner current ≡ slot_at board owner current
    same_current = set.others owner current ordered.one_of_two apart

    counts : (h f : ℕ) → f ≤ 1 → MayCount (slot_at later h f).kind → MayCount (slot_at board h f).kind × (slot_at later h f ≡ slot_at board h f)
    counts h f le may = ⊎_elim
        (λ same. absurd (free (subst (λ (s : Slot). MayCount s.kind) (slot_is h f same) may)))
        (λ other. let e = set.others h f le other in (subst (λ (s : Slot). MayCount s.kind) e may, e))
        (same_or h f host file)

    pub ordered_free : IsOrdered later owner current
    ordered_free = record {
      one_of_two = ordered.one_of_two;
      there = omega (arith, ordered.there, set.hosts);
      current = ap (λ (s : Slot). s.kind) same_current ∙ ordered.current;
      alone = λ h f le. at_slot (λ s. s.kind ≡ Current → (h ≡ owner) × (f ≡ current)) h f le (λ same is. absurd (past is)) (λ other is. ordered.alone h f le is);
      stale = λ h f le. subst (λ (s : Slot). (slot_at later h f).kind ≡ Stale → (slot_at later h f).version < s.version) (sym same_current)
          (at_slot (λ s. s.kind ≡ Stale → s.version < (slot_at board owner current).version) h f le (λ same is. absurd (fresh is)) (λ other is. ordered.stale h f le is));
      doubt = λ h f le. subst (λ (s : Slot). (slot_at later h f).kind ≡ Doubt → s.version < (slot_at later h f).version) (sym same_current)
          (at_slot (λ s. s.kind ≡ Doubt → (slot_at board owner current).version < s.version) h f le (λ same is. absurd (sure is)) (λ other is. ordered.doubt h f le is));
      differ = λ h f k j le le' one two equal.
          let a = counts h f le one in
          let b = counts k j le' two in
          ordered.differ h f k j le le' a.0 b.0 (sym (ap (λ (s : Slot). s.version) a.1) ∙ equal ∙ ap (λ (s : Slot). s.version) b.1);
      told = λ h f le may.
          let a = counts h f le may in
          let below = ordered.told h f le a.0 in
          let same : (slot_at later h f).version ≡ (slot_at board h f).version = ap (λ (s : Slot). s.version) a.1 in
          omega (arith, below, same, set.told);
    }

-- a store is about to be sealed: it may be, from now on
module _ (board later : Board) (host file version : ℕ) (set : IsSet board later host file (record { kind = Doubt; version = version })) (next : version ≡ told_by board + 1) (owner current : ℕ) (ordered : IsOrdered board owner current)
    (blank : (slot_at board host file).kind ≡ Blank) where
  apart_current : (owner ≡ host) × (current ≡ file) → ⊥
  apart_current same =
      let is : (slot_at board host file).kind ≡ Current = ap (λ (k : ℕ). (slot_at board k file).kind) (sym same.0) ∙ ap (λ (j : ℕ). (slot_at board owner j).kind) (sym same.1) ∙ ordered.current in
      let e : Blank ≡ Current = sym blank ∙ is in
      blank_is_not_current e

  same_now : slot_at later owner current ≡ slot_at board owner current
  same_now = set.others owner current ordered.one_of_two apart_current

  low : (h f : ℕ) → f ≤ 1 → ((h ≡ host) × (f ≡ file) → ⊥) → MayCount (slot_at later h f).kind → MayCount (slot_at board h f).kind × (slot_at later h f ≡ slot_at board h f) × ((slot_at later h f).version ≤ told_by board)
  low h f le other may =
      let e = set.others h f le other in
      let counts = subst (λ (s : Slot). MayCount s.kind) e may in
      let same : (slot_at later h f).version ≡ (slot_at board h f).version = ap (λ (s : Slot). s.version) e in
      let below = ordered.told h f le counts in
      (counts, e, omega (arith, below, same))

  here_version : (h f : ℕ) → (h ≡ host) × (f ≡ file) → (slot_at later h f).version ≡ version
  here_version h f same = ap (λ (s : Slot). s.version) (slot_is board later host file (record { kind = Doubt; version = version }) set h f same)

  current_low : (slot_at board owner current).version ≤ told_by board
  current_low = ordered.told owner current ordered.one_of_two (subst MayCount (sym ordered.current) tt)

  pub ordered_doubt : IsOrdered later owner current
  ordered_doubt = record {
    one_of_two = ordered.one_of_two;
    there = omega (arith, ordered.there, set.hosts);
    current = ap (λ (s : Slot). s.kind) same_now ∙ ordered.current;
    alone = λ h f le. at_slot board later host file (record { kind = Doubt; version = version }) set (λ s. s.kind ≡ Current → (h ≡ owner) × (f ≡ current)) h f le
        (λ same is. let e : Doubt ≡ Current = is in absurd (cc e)) (λ other is. ordered.alone h f le is);
    stale = λ h f le. subst (λ (s : Slot). (slot_at later h f).kind ≡ Stale → (slot_at later h f).version < s.version) (sym same_now)
        (at_slot board later host file (record { kind = Doubt; version = version }) set (λ s. s.kind ≡ Stale → s.version < (slot_at board owner current).version) h f le
        (λ same is. let e : Doubt ≡ Stale = is in absurd (cc e)) (λ other is. ordered.stale h f le is));
    doubt = λ h f le. subst (λ (s : Slot). (slot_at later h f).kind ≡ Doubt → s.version < (slot_at later h f).version) (sym same_now)
        (at_slot board later host file (record { kind = Doubt; version = version }) set (λ s. s.kind ≡ Doubt → (slot_at board owner current).version < s.version) h f le
        (λ same is. omega (arith, next, current_low)) (λ other is. ordered.doubt h f le is));
    differ = λ h f k j le le' one two equal. ⊎_elim
        (λ same. ⊎_elim
        (λ also. (same.0 ∙ sym also.0, same.1 ∙ sym also.1))
        (λ other. let b = low k j le' other two in let v = here_version h f same in absurd (omega (arith, equal, b.2, v, next)))
        (same_or k j host file))
        (λ apart. let a = low h f le apart one in ⊎_elim
        (λ also. let v = here_version k j also in absurd (omega (arith, equal, a.2, v, next)))
        (λ other.
        let b = low k j le' other two in
        ordered.differ h f k j le le' a.0 b.0 (sym (ap (λ (s : Slot). s.version) a.1) ∙ equal ∙ ap (λ (s : Slot). s.version) b.1))
        (same_or k j host file))
        (same_or h f host file);
    told = λ h f le may. ⊎_elim
        (λ same. let v = here_version h f same in omega (arith, v, set.told))
        (λ other. let a = low h f le other may in omega (arith, a.2, set.told))
        (same_or h f host file);
  }

-- ageing
pub aged_counts : (kind : SlotKind) → MayCount (aged kind) → MayCount kind
aged_counts Empty may = may
aged_counts Blank may = may
aged_counts Stale may = may
aged_counts Doubt may = tt
aged_counts Current may = tt
aged_counts Unknown may = may

pub aged_stale : (kind : SlotKind) → aged kind ≡ Stale → MayCount kind
aged_stale Empty is = cc
aged_stale Blank is = cc
aged_stale Stale is = tt
aged_stale Doubt is = tt
aged_stale Current is = tt
aged_stale Unknown is = cc

pub aged_sure : (kind : SlotKind) → aged kind ≢ Doubt
aged_sure Empty is = cc
aged_sure Blank is = cc
aged_sure Stale is = cc
aged_sure Doubt is = cc
aged_sure Current is = cc
aged_sure Unknown is = cc

pub aged_past : (kind : SlotKind) → aged kind ≢ Current
aged_past Empty is = cc
aged_past Blank is = cc
aged_past Stale is = cc
aged_past Doubt is = cc
aged_past Current is = cc
aged_past Unknown is = cc

pub aged_known : (kind : SlotKind) → aged kind ≡ Unknown → kind ≡ Unknown
aged_known Empty is = cc
aged_known Blank is = cc
aged_known Stale is = cc
aged_known Doubt is = cc
aged_known Current is = cc
aged_known Unknown is = refl

-- a store is sealed, which is newer than all others
module _ (board old later : Board) (host file version : ℕ) (super : IsSuperseded board old) (set : IsSet old later host file (record { kind = Current; version = version })) (owner current : ℕ) (ordered : IsOrdered board owner current)
    (here : slot_at board host file ≡ record { kind = Doubt; version = version }) (newest : told_by board ≡ version) (there : host < hosts_of board) (one_of_two : file ≤ 1) where
  -- another slot that may count is older
  aged_low : (h f : ℕ) → f ≤ 1 → ((h ≡ host) × (f ≡ file) → ⊥) → MayCount (slot_at later h f).kind
      → MayCount (slot_at board h f).kind × ((slot_at later h f).version ≡ (slot_at board h f).version) × ((slot_at later h f).version < version)
  aged_low h f le other may =
      let e : slot_at later h f ≡ superseded (slot_at board h f) = set.others h f le other ∙ super.slots h f in
      let counts = aged_counts (slot_at board h f).kind (subst (λ (s : Slot). MayCount s.kind) e may) in
      let same : (slot_at later h f).version ≡ (slot_at board h f).version = ap (λ (s : Slot). s.version) e in
      let below = ordered.told h f le counts in
      let doubt : MayCount (slot_at board host file).kind = subst (λ (s : Slot). MayCount s.kind) (sym here) tt in
      let version_here : (slot_at board host file).version ≡ version = ap (λ (s : Slot). s.version) here in
      let ne : (slot_at board h f).version ≢ version = λ equal. other (ordered.differ h f host file le one_of_two counts doubt (equal ∙ sym version_here)) in
      (counts, same, omega (arith, below, same, newest, ne))

  version_there : (h f : ℕ) → (h ≡ host) × (f ≡ file) → (slot_at later h f).version ≡ version
  version_there h f same = ap (λ (s : Slot). s.version) (slot_is old later host file (record { kind = Current; version = version }) set h f same)

  new_version : (slot_at later host file).version ≡ version
  new_version = ap (λ (s : Slot). s.version) set.here

  other_kind : (h f : ℕ) → f ≤ 1 → ((h ≡ host) × (f ≡ file) → ⊥) → (slot_at later h f).kind ≡ aged (slot_at board h f).kind
  other_kind h f le other = ap (λ (s : Slot). s.kind) (set.others h f le other ∙ super.slots h f)

  pub ordered_sealed : IsOrdered later host file
  ordered_sealed = record {
    one_of_two = one_of_two;
    there = omega (arith, there, set.hosts, super.hosts);
    current = ap (λ (s : Slot). s.kind) set.here;
    alone = λ h f le is. ⊎_elim (λ same. same) (λ other. absurd (aged_past (slot_at board h f).kind (sym (other_kind h f le other) ∙ is))) (same_or h f host file);
    stale = λ h f le is. ⊎_elim
        (λ same. let e : Current ≡ Stale = sym (ap (λ (s : Slot). s.kind) (slot_is old later host file (record { kind = Current; version = version }) set h f same)) ∙ is in absurd (cc e))
        (λ other. let low = aged_low h f le other (subst MayCount (sym is) tt) in omega (arith, low.2, new_version))
        (same_or h f host file);
    doubt = λ h f le is. ⊎_elim
        (λ same. let e : Current ≡ Doubt = sym (ap (λ (s : Slot). s.kind) (slot_is old later host file (record { kind = Current; version = version }) set h f same)) ∙ is in absurd (cc e))
        (λ other. absurd (aged_sure (slot_at board h f).kind (sym (other_kind h f le other) ∙ is)))
        (same_or h f host file);
    differ = λ h f k j le le' one two equal. ⊎_elim
        (λ same. ⊎_elim
        (λ also. (same.0 ∙ sym also.0, same.1 ∙ sym also.1))
        (λ other. let b = aged_low k j le' other two in let v = version_there h f same in absurd (omega (arith, equal, b.2, v)))
        (same_or k j host file))
        (λ apart. let a = aged_low h f le apart one in ⊎_elim
        (λ also. let v = version_there k j also in absurd (omega (arith, equal, a.2, v)))
        (λ other.
        let b = aged_low k j le' other two in
        ordered.differ h f k j le le' a.0 b.0 (sym a.1 ∙ equal ∙ b.1))
        (same_or k j host file))
        (same_or h f host file);
    told = λ h f le may. ⊎_elim
        (λ same. let v = version_there h f same in omega (arith, v, set.told))
        (λ other. let a = aged_low h f le other may in omega (arith, a.2, set.told))
        (same_or h f host file);
  }

  -- and no file is in doubt
  pub none_in_doubt : (h f : ℕ) → f ≤ 1 → (slot_at later h f).kind ≢ Doubt
  none_in_doubt h f le is = ⊎_elim
      (λ same. let e : Current ≡ Doubt = sym (ap (λ (s : Slot). s.kind) (slot_is old later host file (record { kind = Current; version = version }) set h f same)) ∙ is in absurd (cc e))
      (λ other. aged_sure (slot_at board h f).kind (sym (other_kind h f le other) ∙ is))
      (same_or h f host file)

  pub sealed_known : NoneForgotten board later
  sealed_known = record {
    as_many = set.hosts ∙ super.hosts;
    known = λ h f le is. ⊎_elim
        (λ same. let e : Current ≡ Unknown = sym (ap (λ (s : Slot). s.kind) (slot_is old later host file (record { kind = Current; version = version }) set h f same)) ∙ is in absurd (cc e))
        (λ other. aged_known (slot_at board h f).kind (sym (other_kind h f le other) ∙ is))
        (same_or h f host file);
  }

-- the same hosts are recorded
pub known_joined : (a b c : Board) → NoneForgotten a b → NoneForgotten b c → NoneForgotten a c
known_joined a b c first second = record { as_many = second.as_many ∙ first.as_many; known = λ h f le is. first.known h f le (second.known h f le is) }

pub recorded_on : (board later : Board) (owner : ℕ) (hosts : List ℕ) → NoneForgotten board later → AreRecorded board owner hosts → AreRecorded later owner hosts
recorded_on board later owner hosts same are = record {
  recorded = λ k h at. let is = are.recorded k h at in record { there = let many = same.as_many in let lt = is.there in omega (arith, lt, many); known = λ f le unknown. is.known f le (same.known h f le unknown) };
  once = are.once;
  with_owner = are.with_owner;
}

pub survives_on : (board later : Board) (owner : ℕ) (number : PartitionNumber) (changes flight : List Change) (ms : LaneImage) → NoneForgotten board later → SurvivesIn later owner number changes flight ms → SurvivesIn board owner number changes flight ms
survives_on board later owner number changes flight ms same survives hosts recorded = survives hosts (recorded_on board later owner hosts same recorded)

-- the file that is chosen isn't the current one
pub target_sure : (first second : SlotKind) → (first ≡ Current → second ≡ Current → ⊥) → (target_of first second ≡ 0 → first ≢ Current) × (target_of first second ≡ 1 → second ≢ Current) × (target_of first second ≤ 1)
target_sure Empty second once = (λ _ is. cc, λ (e : 0 ≡ 1). absurd (omega (arith, e)), omega arith)
target_sure Blank second once = (λ _ is. cc, λ (e : 0 ≡ 1). absurd (omega (arith, e)), omega arith)
target_sure Stale Empty once = (λ _ is. cc, λ _ is. cc, omega arith)
target_sure Stale Blank once = (λ _ is. cc, λ _ is. cc, omega arith)
target_sure Stale Stale once = (λ _ is. cc, λ _ is. cc, omega arith)
target_sure Stale Doubt once = (λ _ is. cc, λ _ is. cc, omega arith)
target_sure Stale Current once = (λ _ is. cc, λ (e : 0 ≡ 1). absurd (omega (arith, e)), omega arith)
target_sure Stale Unknown once = (λ _ is. cc, λ _ is. cc, omega arith)
target_sure Doubt Empty once = (λ _ is. cc, λ _ is. cc, omega arith)
target_sure Doubt Blank once = (λ _ is. cc, λ _ is. cc, omega arith)
target_sure Doubt Stale once = (λ _ is. cc, λ _ is. cc, omega arith)
target_sure Doubt Doubt once = (λ _ is. cc, λ _ is. cc, omega arith)
target_sure Doubt Current once = (λ _ is. cc, λ (e : 0 ≡ 1). absurd (omega (arith, e)), omega arith)
target_sure Doubt Unknown once = (λ _ is. cc, λ _ is. cc, omega arith)
target_sure Unknown Empty once = (λ _ is. cc, λ _ is. cc, omega arith)
target_sure Unknown Blank once = (λ _ is. cc, λ _ is. cc, omega arith)
target_sure Unknown Stale once = (λ _ is. cc, λ _ is. cc, omega arith)
target_sure Unknown Doubt once = (λ _ is. cc, λ _ is. cc, omega arith)
target_sure Unknown Current once = (λ _ is. cc, λ (e : 0 ≡ 1). absurd (omega (arith, e)), omega arith)
target_sure Unknown Unknown once = (λ _ is. cc, λ _ is. cc, omega arith)
target_sure Current Empty once = (λ (e : 1 ≡ 0). absurd (omega (arith, e)), λ _ is. cc, omega arith)
target_sure Current Blank once = (λ (e : 1 ≡ 0). absurd (omega (arith, e)), λ _ is. cc, omega arith)
target_sure Current Stale once = (λ (e : 1 ≡ 0). absurd (omega (arith, e)), λ _ is. cc, omega arith)
target_sure Current Doubt once = (λ (e : 1 ≡ 0). absurd (omega (arith, e)), λ _ is. cc, omega arith)
target_sure Current Current once = absurd (once refl refl)
target_sure Current Unknown once = (λ (e : 1 ≡ 0). absurd (omega (arith, e)), λ _ is. cc, omega arith)

-- hosts go on being recorded as a whole
pub by_host_set : (board later : Board) (host file : ℕ) (slot : Slot) → IsSet board later host file slot → slot.kind ≢ Unknown → (slot_at board host file).kind ≢ Unknown → ByHost board → ByHost later
by_host_set board later host file slot set known was by_host h f j le le' is =
    let apart : (h ≡ host) × (f ≡ file) → ⊥ = λ same. known (sym (ap (λ (s : Slot). s.kind) (slot_is board later host file slot set h f same)) ∙ is) in
    let old : (slot_at board h j).kind ≡ Unknown = by_host h f j le le' (sym (ap (λ (s : Slot). s.kind) (set.others h f le apart)) ∙ is) in
    let other : (h ≡ host) × (j ≡ file) → ⊥ = λ same. was (sym (ap (λ (k : ℕ). (slot_at board k j).kind) same.0 ∙ ap (λ (i : ℕ). (slot_at board host i).kind) same.1) ∙ old) in
    ap (λ (s : Slot). s.kind) (set.others h j le' other) ∙ old

pub by_host_aged : (board later : Board) → IsSuperseded board later → ByHost board → ByHost later
by_host_aged board later super by_host h f j le le' is =
    let old = aged_known (slot_at board h f).kind (sym (ap (λ (s : Slot). s.kind) (super.slots h f)) ∙ is) in
    ap (λ (s : Slot). s.kind) (super.slots h j) ∙ ap aged (by_host h f j le le' old)

-- the owner is recorded
pub owner_recorded : (board : Board) (owner current : ℕ) → IsOrdered board owner current → ByHost board → IsRecorded board owner
owner_recorded board owner current ordered by_host = record {
  there = ordered.there;
  known = λ f le is. let e : Current ≡ Unknown = sym ordered.current ∙ by_host owner f current le ordered.one_of_two is in absurd (cc e);
}
