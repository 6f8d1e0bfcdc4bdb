-- The numbers of named hosts.
use Rattle.std.proofs.Common.{◌≡◌, ◌≢◌, ◌⊎◌, inl, inr, ⊎_elim, ℕ, zero, suc, ◌+◌, Bool, true, false, ◌||◌, List, [], ◌∷◌, slice_get, Some, refl, sym, ap, subst, arith, if◌then◌else◌}
use Rattle.std.specs.Prelude.{Contains}
use Rattle.std.specs.Cmp.Lexicographic.{bytes_decides}
use Rattle.cache_model.specs.Caches.{same}
use Rattle.roster_form.specs.Membership.{Host}
use Rattle.roster_form.proofs.PassLemmas.{some_is}
use Rattle.roster_form.proofs.ContainsLemmas.{contains_same, contains_later, contains_cases, contains_none}
use Rattle.cluster_model.specs.Site.{is_among, numbers_from, numbers_of}

either_of : (a b : Bool) → (a || b) ≡ true → (a ≡ true) ⊎ (b ≡ true)
either_of true b e = inl refl
either_of false b e = inr e

or_left : (a b : Bool) → a ≡ true → (a || b) ≡ true
or_left true b e = refl
or_left false b e = absurd cc

or_right : (a b : Bool) → b ≡ true → (a || b) ≡ true
or_right true b e = refl
or_right false b e = e

pub same_or_other : (b : Bool) (one other : Host) → same one other ≡ b → (one ≡ other) ⊎ (one ≢ other)
same_or_other true one other e = inl ((bytes_decides one other).0 e)
same_or_other false one other e = inr (λ is. let t : same one other ≡ true = (bytes_decides one other).1 is in absurd cc)

pub among_in : (hosts : List Host) (host : Host) → is_among hosts host ≡ true → Contains hosts host
among_in [] host e = absurd cc
among_in (first ∷ hosts) host e = ⊎_elim
    (λ here. contains_same first hosts host (sym ((bytes_decides first host).0 here)))
    (λ there. contains_later first hosts host (among_in hosts host there))
    (either_of (same first host) (is_among hosts host) e)

pub in_among : (hosts : List Host) (host : Host) → Contains hosts host → is_among hosts host ≡ true
in_among [] host is = absurd (contains_none host is)
in_among (first ∷ hosts) host is = ⊎_elim
    (λ here. or_left (same first host) (is_among hosts host) ((bytes_decides first host).1 (sym here)))
    (λ there. or_right (same first host) (is_among hosts host) (in_among hosts host there))
    (contains_cases first hosts host is)

-- a number of a list whose first host has number k, with the host that it is the number of
abbrev IsNumberIn : ℕ → List Host → List Host → ℕ → Type 0
IsNumberIn k hosts named number = (index : ℕ) × (number ≡ k + index) × (host : Host) × (slice_get hosts index ≡ Some host) × Contains named host

numbered_later : (k : ℕ) (first : Host) (hosts named : List Host) (number : ℕ) → IsNumberIn (suc k) hosts named number → IsNumberIn k (first ∷ hosts) named number
numbered_later k first hosts named number found = (suc found.0, let at = found.1 in omega (arith, at), found.2, found.3, found.4)

numbered : (k : ℕ) (hosts named : List Host) (number : ℕ) → Contains (numbers_from k hosts named) number → IsNumberIn k hosts named number
numbered k [] named number is = absurd (contains_none number is)
numbered k (host ∷ hosts) named number is = go (is_among named host) refl (λ there. numbered_later k host hosts named number (numbered (suc k) hosts named number there)) is
  where
    go : (b : Bool) → is_among named host ≡ b → (Contains (numbers_from (suc k) hosts named) number → IsNumberIn k (host ∷ hosts) named number)
        → Contains (if b then k ∷ numbers_from (suc k) hosts named else numbers_from (suc k) hosts named) number → IsNumberIn k (host ∷ hosts) named number
    go true e later has = ⊎_elim (λ here. (0, omega (arith, here), host, refl, among_in named host e)) later (contains_cases k (numbers_from (suc k) hosts named) number has)
    go false e later has = later has

has_number : (k : ℕ) (hosts named : List Host) (index : ℕ) (host : Host) → slice_get hosts index ≡ Some host → Contains named host → Contains (numbers_from k hosts named) (k + index)
has_number k [] named index host at is = absurd cc
has_number k (first ∷ hosts) named index host at is = go (is_among named first) refl (λ i there. subst (λ (n : ℕ). Contains (numbers_from (suc k) hosts named) n) (omega arith) (has_number (suc k) hosts named i host there is)) index at
  where
    go : (b : Bool) → is_among named first ≡ b → ((i : ℕ) → slice_get hosts i ≡ Some host → Contains (numbers_from (suc k) hosts named) (k + suc i))
        → (i : ℕ) → slice_get (first ∷ hosts) i ≡ Some host → Contains (if b then k ∷ numbers_from (suc k) hosts named else numbers_from (suc k) hosts named) (k + i)
    go true e further zero here = contains_same k (numbers_from (suc k) hosts named) (k + 0) (omega arith)
    go false e further zero here = absurd (let yes : is_among named first ≡ true = in_among named first (subst (λ (h : Host). Contains named h) (sym (some_is first host here)) is) in cc)
    go true e further (suc i) there = contains_later k (numbers_from (suc k) hosts named) (k + suc i) (further i there)
    go false e further (suc i) there = further i there

-- which host has the number
pub host_of_number : (hosts named : List Host) (number : ℕ) → Contains (numbers_of hosts named) number → (host : Host) × (slice_get hosts number ≡ Some host) × Contains named host
host_of_number hosts named number is =
    let found = numbered 0 hosts named number is in
    let at : found.0 ≡ number = (let e = found.1 in omega (arith, e)) in
    (found.2, subst (λ (n : ℕ). slice_get hosts n ≡ Some found.2) at found.3, found.4)

pub number_of_host : (hosts named : List Host) (number : ℕ) (host : Host) → slice_get hosts number ≡ Some host → Contains named host → Contains (numbers_of hosts named) number
number_of_host hosts named number host at is = subst (λ (n : ℕ). Contains (numbers_of hosts named) n) (omega arith) (has_number 0 hosts named number host at is)

-- more named hosts have more numbers
pub more_numbers : (hosts named wide : List Host) → ((host : Host) → Contains named host → Contains wide host) → (number : ℕ) → Contains (numbers_of hosts named) number → Contains (numbers_of hosts wide) number
more_numbers hosts named wide more number is =
    let found = host_of_number hosts named number is in
    number_of_host hosts wide number found.0 found.1 (more found.0 found.2)

-- a host of the site has a number
pub has_a_number : (hosts : List Host) (host : Host) → Contains hosts host → (number : ℕ) × (slice_get hosts number ≡ Some host)
has_a_number [] host is = absurd (contains_none host is)
has_a_number (first ∷ hosts) host is = ⊎_elim
    (λ here. (0, ap (λ (h : Host). Some h) (sym here)))
    (λ there. let found = has_a_number hosts host there in (suc found.0, found.1))
    (contains_cases first hosts host is)
