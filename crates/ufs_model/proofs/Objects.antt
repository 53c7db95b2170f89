-- A change that is within an object keeps it well-formed, and of its kind.
use Rattle.std.proofs.Common.{◌≡◌, ℕ, ◌+◌, ◌-◌, ◌*◌, ◌/◌, ◌<◌, ◌≤◌, List, ◌++◌, length, take, drop, replicate, set, refl, ◌∙◌, ap, arith, true, false, not, ◌||◌, Some, None, Option, inl, inr, length-append, length-set}
use Rattle.ufs_model.proofs.Words.{Change, File, FileKind, Fill, Index, IsInside, Object, Overwrite, Puid, SetSize, and_from, and_parts, byte_may_stand, cases_lt, changed_object, each_from, eq-eqb, filled, has_number, is_none, is_object, le-leb, leaves_in, length-replicate, length-take, length-take-le, list_all, lt-ltb, nat_le, nat_lt, new_file, new_index, numbers_rise, or_cases, or_left, or_right, resized, slot_may_stand, touched, written, ◌==◌}
use Rattle.ufs_model.specs.Limits.{most_bytes, most_slots}
use Rattle.std.proofs.lemmas.List.{length-drop}
use Rattle.ufs_model.specs.declared.object.Object.TheVariants as objects
use Rattle.ufs_model.proofs.Tests.{all_passing, each_append, each_take, each_drop, each_set, each_same, each_weaker, each_all}
use Rattle.ufs_model.proofs.Rising.{withs_new, withs_old, with_itself, with_others, all_with, all_withs, all_numbers, withs-rise, with_number-rises, filter-rises, to_numbers, to_filter}

-- ---- parts of the same kind: what a change keeps

-- files of one kind and fill byte, and indices of as many slots
abbrev pub IsAlike : Object → Object → Type 0
IsAlike (objects.File f) (objects.File d) = (d.kind ≡ f.kind) × (d.fill ≡ f.fill)
IsAlike (objects.File f) (objects.Index i) = ⊥
IsAlike (objects.Index i) (objects.File f) = ⊥
IsAlike (objects.Index i) (objects.Index j) = length j.slots ≡ length i.slots

pub changed_alike : (c : Change) (o : Object) → IsAlike o (changed_object c o)
changed_alike (Fill slot what) (objects.Index i) = length-set i.slots slot what
changed_alike (Fill slot what) (objects.File f) = (refl, refl)
changed_alike (Overwrite offset bytes) (objects.File f) = (refl, refl)
changed_alike (Overwrite offset bytes) (objects.Index i) = refl
changed_alike (SetSize size) (objects.File f) = (refl, refl)
changed_alike (SetSize size) (objects.Index i) = refl

-- ---- files

module _ (f : File) where
  may_stand : (at byte : ℕ) → byte_may_stand f at byte ≡ true → (nat_lt byte 256 ≡ true) × (((byte == f.fill) || has_number (at / 512) f.held) ≡ true)
  may_stand at byte h = and_parts (nat_lt byte 256) ((byte == f.fill) || has_number (at / 512) f.held) h

-- a byte may stand where more is held
still_may_stand : (f d : File) (at byte : ℕ) → d.fill ≡ f.fill → (has_number (at / 512) f.held ≡ true → has_number (at / 512) d.held ≡ true) → byte_may_stand f at byte ≡ true → byte_may_stand d at byte ≡ true
still_may_stand f d at byte same more h =
    let two = may_stand f at byte h in
    and_from (nat_lt byte 256) ((byte == d.fill) || has_number (at / 512) d.held) two.0 (elim (or_cases (byte == f.fill) (has_number (at / 512) f.held) two.1) [
      | inl fill ↦ or_left (byte == d.fill) (has_number (at / 512) d.held) (ap (λ (n : ℕ). byte == n) same ∙ fill)
      | inr held ↦ or_right (byte == d.fill) (has_number (at / 512) d.held) (more held)
    ])

record FileParts (f : File) : Type 0 where
  size : nat_le (length f.bytes) most_bytes ≡ true
  fill : nat_lt f.fill 256 ≡ true
  rise : numbers_rise f.held ≡ true
  within : list_all (λ leaf. nat_lt leaf (leaves_in (length f.bytes))) f.held ≡ true
  each : each_from (byte_may_stand f) 0 f.bytes ≡ true

file_parts : (f : File) → is_object (objects.File f) ≡ true → FileParts f
file_parts f h =
    let last = and_parts _ (each_from (byte_may_stand f) 0 f.bytes) h in
    let third = and_parts _ (list_all (λ leaf. nat_lt leaf (leaves_in (length f.bytes))) f.held) last.0 in
    let second = and_parts _ (numbers_rise f.held) third.0 in
    let first = and_parts (nat_le (length f.bytes) most_bytes) (nat_lt f.fill 256) second.0 in
    record { size = first.0; fill = first.1; rise = second.1; within = third.1; each = last.1 }

file_whole : (f : File) → FileParts f → is_object (objects.File f) ≡ true
file_whole f p = and_from _ _ (and_from _ _ (and_from _ _ (and_from _ _ p.size p.fill) p.rise) p.within) p.each

module _ (f : File) (parts : FileParts f) where
  -- bytes within the size
  module _ (offset : ℕ) (bytes : List ℕ) (fits : offset + length bytes ≤ length f.bytes) (small : list_all (λ byte. nat_lt byte 256) bytes ≡ true) where
    abbrev now : File
    now = written f offset bytes

    written_size : length now.bytes ≡ length f.bytes
    written_size =
        length-append (take offset f.bytes ++ bytes) (drop (offset + length bytes) f.bytes)
        ∙ omega (arith, length-append (take offset f.bytes) bytes, length-take-le offset f.bytes (omega arith), length-drop (offset + length bytes) f.bytes)

    touched_leaf : (k : ℕ) → offset ≤ k → k < offset + length bytes → has_number (k / 512) (touched offset (length bytes)) ≡ true
    touched_leaf k from below = to_numbers (k / 512) (offset / 512) (leaves_in (offset + length bytes) - offset / 512) (omega arith) (omega arith)

    still : (k byte : ℕ) → byte_may_stand f k byte ≡ true → byte_may_stand now k byte ≡ true
    still k byte h = still_may_stand f now k byte refl (λ held. withs_old (k / 512) (touched offset (length bytes)) f.held held) h

    new_bytes : (k byte : ℕ) → offset ≤ k → k < offset + length bytes → nat_lt byte 256 ≡ true → byte_may_stand now k byte ≡ true
    new_bytes k byte from below h =
        and_from (nat_lt byte 256) ((byte == now.fill) || has_number (k / 512) now.held) h
        (or_right (byte == now.fill) (has_number (k / 512) now.held) (withs_new (k / 512) (touched offset (length bytes)) f.held (touched_leaf k from below)))

    written_each : each_from (byte_may_stand now) 0 now.bytes ≡ true
    written_each =
        let front : length (take offset f.bytes) ≡ offset = length-take-le offset f.bytes (omega arith) in
        each_append (byte_may_stand now) 0 (offset + length bytes) (take offset f.bytes ++ bytes) (drop (offset + length bytes) f.bytes) (omega (arith, length-append (take offset f.bytes) bytes))
        (each_append (byte_may_stand now) 0 offset (take offset f.bytes) bytes (omega arith)
        (each_weaker (byte_may_stand f) (byte_may_stand now) 0 (take offset f.bytes) (λ k byte _ _ h. still k byte h) (each_take (byte_may_stand f) 0 offset f.bytes parts.each))
        (each_weaker (λ _ byte. nat_lt byte 256) (byte_may_stand now) offset bytes new_bytes (each_all (λ byte. nat_lt byte 256) offset bytes small)))
        (each_weaker (byte_may_stand f) (byte_may_stand now) (offset + length bytes) (drop (offset + length bytes) f.bytes) (λ k byte _ _ h. still k byte h)
        (each_drop (byte_may_stand f) 0 (offset + length bytes) (offset + length bytes) f.bytes (omega arith) parts.each))

    written_leaves : list_all (λ leaf. nat_lt leaf (leaves_in (length f.bytes))) (touched offset (length bytes)) ≡ true
    written_leaves =
        all_numbers (λ leaf. nat_lt leaf (leaves_in (length f.bytes))) (offset / 512) (leaves_in (offset + length bytes) - offset / 512) (λ x from below. lt-ltb x (leaves_in (length f.bytes)) (omega arith))

    written_whole : is_object (objects.File now) ≡ true
    written_whole = file_whole now (record {
      size = rw written_size parts.size;
      fill = parts.fill;
      rise = withs-rise (touched offset (length bytes)) f.held parts.rise;
      within = rw written_size (all_withs (λ leaf. nat_lt leaf (leaves_in (length f.bytes))) (touched offset (length bytes)) f.held written_leaves parts.within);
      each = written_each;
    })

  -- a size
  module _ (size : ℕ) (few : size ≤ most_bytes) where
    abbrev cut : File
    cut = resized f size

    resized_size : length cut.bytes ≡ size
    resized_size =
        length-append (take size f.bytes) (replicate (size - length f.bytes) f.fill)
        ∙ elim (cases_lt size (length f.bytes)) [
          | inl less ↦ omega (arith, length-take-le size f.bytes (omega arith), length-replicate (size - length f.bytes) f.fill)
          | inr more ↦ omega (arith, length-take size f.bytes, length-replicate (size - length f.bytes) f.fill)
        ]

    kept_leaf : (k byte : ℕ) → k < size → byte_may_stand f k byte ≡ true → byte_may_stand cut k byte ≡ true
    kept_leaf k byte below h =
        still_may_stand f cut k byte refl (λ held. to_filter (λ leaf. nat_lt leaf (leaves_in size)) (k / 512) f.held (lt-ltb (k / 512) (leaves_in size) (omega arith)) held) h

    resized_each : each_from (byte_may_stand cut) 0 cut.bytes ≡ true
    resized_each =
        each_append (byte_may_stand cut) 0 (length (take size f.bytes)) (take size f.bytes) (replicate (size - length f.bytes) f.fill) (omega arith)
        (each_weaker (byte_may_stand f) (byte_may_stand cut) 0 (take size f.bytes) (λ k byte _ below h. kept_leaf k byte (omega (arith, length-take size f.bytes)) h) (each_take (byte_may_stand f) 0 size f.bytes parts.each))
        (each_same (byte_may_stand cut) (length (take size f.bytes)) (size - length f.bytes) f.fill
        (λ k _. and_from (nat_lt f.fill 256) ((f.fill == f.fill) || has_number (k / 512) cut.held) parts.fill (or_left (f.fill == f.fill) (has_number (k / 512) cut.held) (eq-eqb f.fill f.fill refl))))

    resized_whole : is_object (objects.File cut) ≡ true
    resized_whole = file_whole cut (record {
      size = rw resized_size (le-leb size most_bytes few);
      fill = parts.fill;
      rise = filter-rises (λ leaf. nat_lt leaf (leaves_in size)) f.held parts.rise;
      within = rw resized_size (all_passing (λ leaf. nat_lt leaf (leaves_in size)) f.held);
      each = resized_each;
    })

-- ---- indices

record IndexParts (i : Index) : Type 0 where
  some : not (length i.slots == 0) ≡ true
  size : nat_le (length i.slots) most_slots ≡ true
  rise : numbers_rise i.held ≡ true
  within : list_all (λ leaf. nat_lt (leaf * 64) (length i.slots)) i.held ≡ true
  each : each_from (slot_may_stand i) 0 i.slots ≡ true

index_parts : (i : Index) → is_object (objects.Index i) ≡ true → IndexParts i
index_parts i h =
    let last = and_parts _ (each_from (slot_may_stand i) 0 i.slots) h in
    let third = and_parts _ (list_all (λ leaf. nat_lt (leaf * 64) (length i.slots)) i.held) last.0 in
    let second = and_parts _ (numbers_rise i.held) third.0 in
    let first = and_parts (not (length i.slots == 0)) (nat_le (length i.slots) most_slots) second.0 in
    record { some = first.0; size = first.1; rise = second.1; within = third.1; each = last.1 }

index_whole : (i : Index) → IndexParts i → is_object (objects.Index i) ≡ true
index_whole i p = and_from _ _ (and_from _ _ (and_from _ _ (and_from _ _ p.some p.size) p.rise) p.within) p.each

filled_slots : (i j : Index) (slot : ℕ) (what : Option Puid) → IndexParts i → j.slots ≡ set i.slots slot what → ((n : ℕ) → has_number n i.held ≡ true → has_number n j.held ≡ true)
    → (is_none what || has_number (slot / 64) j.held) ≡ true → each_from (slot_may_stand j) 0 j.slots ≡ true
filled_slots i j slot what parts is more new =
    rw is (each_set (slot_may_stand j) 0 slot slot what i.slots (omega arith) new (each_weaker (slot_may_stand i) (slot_may_stand j) 0 i.slots still parts.each))
  where
    still : (k : ℕ) (x : Option Puid) → 0 ≤ k → k < 0 + length i.slots → slot_may_stand i k x ≡ true → slot_may_stand j k x ≡ true
    still k x _ _ h = elim (or_cases (is_none x) (has_number (k / 64) i.held) h) [
      | inl none ↦ or_left (is_none x) (has_number (k / 64) j.held) none
      | inr held ↦ or_right (is_none x) (has_number (k / 64) j.held) (more (k / 64) held)
    ]

filled_whole : (i : Index) (slot : ℕ) (what : Option Puid) → slot < length i.slots → is_object (objects.Index i) ≡ true → is_object (objects.Index (filled i slot what)) ≡ true
filled_whole i slot None below h =
    let parts = index_parts i h in
    let same : length (set i.slots slot None) ≡ length i.slots = length-set i.slots slot None in
    index_whole (filled i slot None) (record {
      some = rw same parts.some;
      size = rw same parts.size;
      rise = parts.rise;
      within = rw same parts.within;
      each = filled_slots i (filled i slot None) slot None parts refl (λ n held. held) refl;
    })
filled_whole i slot (Some id) below h =
    let parts = index_parts i h in
    let same : length (set i.slots slot (Some id)) ≡ length i.slots = length-set i.slots slot (Some id) in
    index_whole (filled i slot (Some id)) (record {
      some = rw same parts.some;
      size = rw same parts.size;
      rise = with_number-rises (slot / 64) i.held parts.rise;
      within = rw same (all_with (λ leaf. nat_lt (leaf * 64) (length i.slots)) (slot / 64) i.held (lt-ltb (slot / 64 * 64) (length i.slots) (omega arith)) parts.within);
      each = filled_slots i (filled i slot (Some id)) slot (Some id) parts refl (λ n held. with_others n (slot / 64) i.held held) (with_itself (slot / 64) i.held);
    })

-- ---- any change

-- what it writes is bytes
abbrev pub IsOfBytes : Change → Type 0
IsOfBytes (Fill slot what) = Unit {0}
IsOfBytes (Overwrite offset bytes) = list_all (λ byte. nat_lt byte 256) bytes ≡ true
IsOfBytes (SetSize size) = Unit {0}

pub changed_whole : (c : Change) (o : Object) → IsInside c o → IsOfBytes c → is_object o ≡ true → is_object (changed_object c o) ≡ true
changed_whole (Fill slot what) (objects.Index i) inside small h = filled_whole i slot what inside h
changed_whole (Fill slot what) (objects.File f) inside small h = h
changed_whole (Overwrite offset bytes) (objects.File f) inside small h = written_whole f (file_parts f h) offset bytes inside small
changed_whole (Overwrite offset bytes) (objects.Index i) inside small h = h
changed_whole (SetSize size) (objects.File f) inside small h = resized_whole f (file_parts f h) size inside
changed_whole (SetSize size) (objects.Index i) inside small h = h

-- ---- new ones

pub new_file_whole : (kind : FileKind) (fill : ℕ) → nat_lt fill 256 ≡ true → is_object (objects.File (new_file kind fill)) ≡ true
new_file_whole kind fill small = file_whole (new_file kind fill) (record { size = refl; fill = small; rise = refl; within = refl; each = refl })

pub new_index_whole : (slots : ℕ) → (slots == 0) ≡ false → slots ≤ most_slots → is_object (objects.Index (new_index slots)) ≡ true
new_index_whole slots some few =
    let long : length (new_index slots).slots ≡ slots = length-replicate slots None in
    index_whole (new_index slots) (record {
      some = rw long (ap not some);
      size = rw long (le-leb slots most_slots few);
      rise = refl;
      within = refl;
      each = each_same (slot_may_stand (new_index slots)) 0 slots None (λ k _. refl);
    })
