-- Worked examples, computed from the definitions.
use Rattle.std.proofs.Common.{◌≡◌, ℕ, List, [], ◌∷◌, Option, Some, None, refl}
use Rattle.roster_form.specs.Membership.{Host}
use Rattle.roster_form.specs.Choice.{Sighting}
use Rattle.roster_form.specs.declared.roster.Roster.{Roster}
use Rattle.quorum.specs.Judged.{verdict_of}
use Rattle.quorum.specs.declared.verdict.Verdict.TheVariants.{Met, Short, NotCreated}

abbrev a : Host
a = 97 ∷ []

abbrev b : Host
b = 98 ∷ []

abbrev c : Host
c = 99 ∷ []

abbrev roster : ℕ → List Host → Option ℕ → Roster
roster epoch hosts joining = record { epoch = epoch; hosts = hosts; joining = joining; partitions = 2 }

abbrev seen : Host → Option Roster → Sighting
seen host shown = record { host = host; shown = shown }

abbrev both : Option Roster
both = Some (roster 3 (a ∷ b ∷ []) None)

abbrev all_three : Option Roster
all_three = Some (roster 5 (a ∷ b ∷ c ∷ []) None)

abbrev joining : Option Roster
joining = Some (roster 2 (a ∷ b ∷ []) (Some 1))

pub nobody : verdict_of [] ≡ NotCreated
nobody = refl

pub nothing_shown : verdict_of (seen a None ∷ seen b None ∷ []) ≡ NotCreated
nothing_shown = refl

pub one_host : verdict_of (seen a (Some (roster 1 (a ∷ []) None)) ∷ []) ≡ Met 1 (a ∷ [])
one_host = refl

pub two_of_three : verdict_of (seen a all_three ∷ seen b all_three ∷ []) ≡ Short (c ∷ [])
two_of_three = refl

pub latest_counts : verdict_of (seen a (Some (roster 1 (a ∷ []) None)) ∷ seen b all_three ∷ []) ≡ Short (c ∷ [])
latest_counts = refl

pub joining_absent : verdict_of (seen a joining ∷ []) ≡ Short (b ∷ [])
joining_absent = refl

pub joining_without_roster : verdict_of (seen a joining ∷ seen b None ∷ []) ≡ Met 2 (a ∷ b ∷ [])
joining_without_roster = refl

pub joining_with_roster : verdict_of (seen a joining ∷ seen b joining ∷ []) ≡ Met 2 (a ∷ b ∷ [])
joining_with_roster = refl

pub recorded_without_roster : verdict_of (seen a both ∷ seen b None ∷ []) ≡ Short (b ∷ [])
recorded_without_roster = refl

pub one_that_left : verdict_of (seen a (Some (roster 6 (a ∷ b ∷ []) None)) ∷ seen b (Some (roster 6 (a ∷ b ∷ []) None)) ∷ seen c all_three ∷ []) ≡ Met 6 (a ∷ b ∷ [])
one_that_left = refl

pub first_of_one_epoch : verdict_of (seen a (Some (roster 1 (a ∷ []) None)) ∷ seen b (Some (roster 1 (b ∷ []) None)) ∷ []) ≡ Met 1 (a ∷ [])
first_of_one_epoch = refl
