-- Objects shaded one after another, and what a directory's look-up tells.
use Rattle.std.proofs.Common.{◌≡◌, ℕ, suc, ◌+◌, ◌-◌, ◌<◌, List, [], ◌∷◌, refl, sym, arith, true, false, cond, Option, Some, None, nat_lt, ◌&&◌, map}
use Rattle.collector_steps.proofs.Words.{Colours, IfSome, Kind, Listing, Puid, all_shaded, and_parts, blocks_rise, cons_option, filter_map, ids_from, is_listing, keys_of, directory_kind, list_all, nat_tests, option_to_list, range_with_len, rises, same_puid, same_puid_is, slot_in}

-- ---- a directory

found_below : (named : List (Puid × Kind)) (room : ℕ) (id : Puid) (kind : Kind) → list_all (λ x. nat_lt x.block room) (keys_of named) ≡ true → directory_kind named id ≡ Some kind → id.block < room
found_below [] room id kind all found = cc
found_below (e ∷ es) room id kind all found =
    let both = and_parts (nat_lt e.0.block room) (list_all (λ x. nat_lt x.block room) (keys_of es)) all in
    elim (same_puid id e.0) as (λ t. same_puid id e.0 ≡ t → cond t (Some e.1) (directory_kind es id) ≡ Some kind → id.block < room) [
      | true ↦ λ is at. rw (same_puid_is id e.0 is) (grind (arith, nat_tests, both.0))
      | false ↦ λ is at. found_below es room id kind both.1 at
    ] refl found

-- where an object is there its root block has room
pub kind_below : (d : Listing) (id : Puid) (kind : Kind) → is_listing d ≡ true → directory_kind d.named id ≡ Some kind → id.block < d.room
kind_below d id kind is found =
    let ids = keys_of d.named in
    let parts = and_parts (rises ids && blocks_rise ids) (list_all (λ x. nat_lt x.block d.room) ids) is in
    found_below d.named d.room id kind parts.1 found

pub if_below : (d : Listing) (id : Puid) (kind : Option Kind) → is_listing d ≡ true → kind ≡ directory_kind d.named id → IfSome kind (λ _. id.block < d.room)
if_below d id None is at = tt
if_below d id (Some kind) is at = kind_below d id kind is (sym at)

-- ---- one after another

-- the slots of a leaf from one on: that one, and the rest
pub shaded_from : (directory : List (Puid × Kind)) (bytes : List ℕ) (slot : ℕ) (c : Colours) → slot < 64
    → all_shaded directory (ids_from bytes slot) c ≡ all_shaded directory (ids_from bytes (slot + 1)) (all_shaded directory (option_to_list (slot_in bytes slot)) c)
unfolding ids_from
shaded_from directory bytes slot c below =
    let rest : 64 - slot ≡ suc (64 - (slot + 1)) = omega (arith, below) in
    rw rest (here (slot_in bytes slot))
  where
    others : List Puid
    others = filter_map (λ held. held) (map (slot_in bytes) (range_with_len (slot + 1) (64 - (slot + 1))))

    here : (held : Option Puid) → all_shaded directory (cons_option held others) c ≡ all_shaded directory others (all_shaded directory (option_to_list held) c)
    here None = refl
    here (Some x) = refl

pub shaded_last : (directory : List (Puid × Kind)) (bytes : List ℕ) (c : Colours) → all_shaded directory (ids_from bytes 64) c ≡ c
unfolding ids_from
shaded_last directory bytes c = refl
