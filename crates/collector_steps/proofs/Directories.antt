-- A directory: how many it has, and what is taken out.
use Rattle.std.proofs.Common.{◌≡◌, ℕ, ◌+◌, ◌<◌, ◌≤◌, List, [], ◌∷◌, length, refl, ap, arith, true, false, cond, not, nat_lt, nat_le, ◌&&◌}
use Rattle.collector_steps.proofs.Words.{Colours, Kind, Listing, Puid, and_parts, blocks_rise, filter, is_listing, keys_of, list_all, nat_tests, rises, taken_by, unmarked}

-- ---- how many

above : (ids : List Puid) (b : ℕ) → list_all (λ y. nat_lt b y.block) ids ≡ true → list_all (λ y. nat_le (b + 1) y.block) ids ≡ true
above [] b h = refl
above (x ∷ ids) b h =
    let both = and_parts (nat_lt b x.block) (list_all (λ y. nat_lt b y.block) ids) h in
    let first : nat_le (b + 1) x.block ≡ true = grind (arith, nat_tests, both.0) in rw first (above ids b both.1)

-- blocks from one on that rise, below another
few : (ids : List Puid) (b room : ℕ) → b ≤ room → list_all (λ y. nat_le b y.block) ids ≡ true → blocks_rise ids ≡ true → list_all (λ y. nat_lt y.block room) ids ≡ true → b + length ids ≤ room
few [] b room le from up below = omega (arith, le)
few (x ∷ ids) b room le from up below =
    let here = and_parts (nat_le b x.block) (list_all (λ y. nat_le b y.block) ids) from in
    let rise = and_parts (list_all (λ y. nat_lt x.block y.block) ids) (blocks_rise ids) up in
    let under = and_parts (nat_lt x.block room) (list_all (λ y. nat_lt y.block room) ids) below in
    let start : b ≤ x.block = grind (arith, nat_tests, here.0) in
    let end : x.block < room = grind (arith, nat_tests, under.0) in
    let rest = few ids (x.block + 1) room (omega (arith, end)) (above ids x.block rise.0) rise.1 under.1 in
    omega (arith, rest, start)

length-keys : (named : List (Puid × Kind)) → length (keys_of named) ≡ length named
length-keys [] = refl
length-keys (e ∷ named) = rw (length-keys named) refl

all_from : (ids : List Puid) → list_all (λ y. nat_le 0 y.block) ids ≡ true
all_from [] = refl
all_from (x ∷ ids) = let first : nat_le 0 x.block ≡ true = grind (arith, nat_tests) in rw first (all_from ids)

pub few_named : (d : Listing) → is_listing d ≡ true → length d.named ≤ d.room
few_named d is =
    let ids = keys_of d.named in
    let parts = and_parts (rises ids && blocks_rise ids) (list_all (λ x. nat_lt x.block d.room) ids) is in
    let rise = and_parts (rises ids) (blocks_rise ids) parts.0 in
    omega (arith, few ids 0 d.room (omega arith) (all_from ids) rise.1 parts.1, length-keys d.named)

-- ---- what is taken out

pub taken_unmarked : (c : Colours) (named : List (Puid × Kind)) → taken_by c.marked named ≡ unmarked c (keys_of named)
taken_unmarked c [] = refl
taken_unmarked c (e ∷ named) =
    elim (c.marked e.0.block) as (λ t. keys_of (cond (not t) (e ∷ filter (λ d. not (c.marked d.0.block)) named) (filter (λ d. not (c.marked d.0.block)) named))
    ≡ cond (not t) (e.0 ∷ unmarked c (keys_of named)) (unmarked c (keys_of named))) [
      | true ↦ taken_unmarked c named
      | false ↦ ap (λ (ids : List Puid). e.0 ∷ ids) (taken_unmarked c named)
    ]
