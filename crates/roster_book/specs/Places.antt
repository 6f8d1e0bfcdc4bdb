-- Files of service disks.
use Rattle.std.specs.Prelude.{◌≢◌, Bool, not, ◌==◌, ◌&&◌, List}
use Rattle.std.specs.List.{filter, AllPairs}
use Rattle.roster_book.specs.declared.place.Place.{Place}

-- whether they are the same file of the same host
abbrev pub is_same_place : Place → Place → Bool
is_same_place one other = one.host == other.host && one.file == other.file

-- the others, in their order
abbrev pub places_but : Place → List Place → List Place
places_but place places = filter (λ each. not (is_same_place each place)) places

-- none of them stands twice
abbrev pub IsEachOnce : List Place → Type 0
IsEachOnce places = AllPairs (λ one later. one ≢ later) places
