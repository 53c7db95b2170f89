-- A directory, opened: what its table shows, and the changes of one cell.
use Rattle.std.proofs.Common.{◌≡◌, vec_len, ℕ, zero, suc, ◌+◌, ◌-◌, ◌^◌, ◌<◌, ◌≤◌, List, [], ◌∷◌, length, get_or, set, refl, sym, ap, ◌∙◌, arith, Option, Some, None, Bool, true, false, cond, eqb, ltb, is_some}
use Rattle.puid_space.proofs.Words.{Cell, Inside, IsTable, Kind, Less, Listing, Puid, blocks_rise, get_or_default, has_root_in, insert_entry, is_listing, is_lt, keys_of, directory_kind, list_all, listed, nat_tests, puid_cmp, rises, without_id}
use Rattle.puid_space.proofs.Listed.{kind_here, kind-listed, root-listed, listed-filled, listed-emptied, below}
use Rattle.puid_space.proofs.Tables.{length-listed, IsTable-filled, IsTable-emptied}

-- ---- what a look-up tells of a cell

pub none-is : {X : Type 0} (o : Option X) → is_some o ≡ false → o ≡ None
none-is None h = refl
none-is (Some x) h = cc

pub free-cell : (cells : List (Option Cell)) (named : List (Puid × Kind)) (n : ℕ) → listed 0 cells ≡ named → has_root_in named n ≡ false → get_or cells n None ≡ None
free-cell cells named n is free =
    none-is (get_or cells n None) (sym (root-listed 0 cells n n (omega arith)) ∙ ap (λ named. has_root_in named n) is ∙ free)

cell-of-kind : (o : Option Cell) (word : ℕ) → is_some (kind_here o word) ≡ true → (kind : Kind) × (o ≡ Some (record { word = word; kind = kind }))
cell-of-kind None word h = cc
cell-of-kind (Some cell) word h =
    elim (eqb cell.word word) as (λ t. eqb cell.word word ≡ t → is_some (cond t (Some cell.kind) None) ≡ true → (kind : Kind) × (Some cell ≡ Some (record { word = word; kind = kind }))) [
      | true ↦ λ is some. let same : cell.word ≡ word = grind (arith, nat_tests) in (cell.kind, ap (λ w. Some (record { word = w; kind = cell.kind })) same)
      | false ↦ λ is some. cc
    ] refl h

pub found-cell : (cells : List (Option Cell)) (named : List (Puid × Kind)) (id : Puid) → listed 0 cells ≡ named → is_some (directory_kind named id) ≡ true
    → (kind : Kind) × (get_or cells id.block None ≡ Some (record { word = id.word; kind = kind })) × (id.block < length cells)
found-cell cells named id is found =
    let cell = cell-of-kind (get_or cells id.block None) id.word
    (ap is_some (sym (kind-listed 0 cells id.block id (omega arith))) ∙ ap (λ named. is_some (directory_kind named id)) is ∙ found) in
    (cell.0, cell.1, within cells id.block (record { word = id.word; kind = cell.0 }) cell.1)
  where
    within : (cells : List (Option Cell)) (i : ℕ) (cell : Cell) → get_or cells i None ≡ Some cell → i < length cells
    within [] i cell h = cc
    within (c ∷ cells) zero cell h = omega arith
    within (c ∷ cells) (suc i) cell h = omega (arith, within cells i cell h)

-- ---- the list is in order

listed-all : (test : Puid → Bool) (b : ℕ) (cells : List (Option Cell)) → ((id : Puid) → b ≤ id.block → id.block < b + length cells → test id ≡ true)
    → list_all test (keys_of (listed b cells)) ≡ true
listed-all test b [] h = refl
listed-all test b (None ∷ cells) h = listed-all test (b + 1) cells (λ id low high. h id (omega arith) (omega arith))
listed-all test b (Some cell ∷ cells) h =
    rw (h (record { block = b; word = cell.word }) (omega arith) (omega arith)) (listed-all test (b + 1) cells (λ id low high. h id (omega arith) (omega arith)))

listed-rises : (b : ℕ) (cells : List (Option Cell)) → rises (keys_of (listed b cells)) ≡ true
listed-rises b [] = refl
listed-rises b (None ∷ cells) = listed-rises (b + 1) cells
listed-rises b (Some cell ∷ cells) =
    let id : Puid = record { block = b; word = cell.word } in
    rw (listed-all (λ y. is_lt (puid_cmp id y)) (b + 1) cells (λ y low high. let less : puid_cmp id y ≡ Less = below id y (omega arith) in rw less refl)) (listed-rises (b + 1) cells)

listed-blocks_rise : (b : ℕ) (cells : List (Option Cell)) → blocks_rise (keys_of (listed b cells)) ≡ true
listed-blocks_rise b [] = refl
listed-blocks_rise b (None ∷ cells) = listed-blocks_rise (b + 1) cells
listed-blocks_rise b (Some cell ∷ cells) =
    rw (listed-all (λ y. ltb b y.block) (b + 1) cells (λ y low high. grind (arith, nat_tests))) (listed-blocks_rise (b + 1) cells)

pub listed-is_listing : (cells : List (Option Cell)) (d : Listing) → listed 0 cells ≡ d.named → length cells ≡ d.room → is_listing d ≡ true
listed-is_listing cells d named room =
    let each = listed-all (λ id. ltb id.block d.room) 0 cells (λ id low high. grind (arith, nat_tests)) in
    rw (← named, listed-rises 0 cells, listed-blocks_rise 0 cells) each

-- ---- a directory, opened

module _ (i : Inside) (d : Listing) (is : record { named = listed 0 i.cells.items; room = vec_len i.cells } ≡ d) (table : IsTable i.cells.items i.len) where
  named_is : listed 0 i.cells.items ≡ d.named
  named_is = ap (λ (d : Listing). d.named) is

  room_is : length i.cells.items ≡ d.room
  room_is = sym i.cells.ok.0 ∙ ap (λ (d : Listing). d.room) is

  pub in_order : is_listing d ≡ true
  in_order = listed-is_listing i.cells.items d named_is room_is

  pub added : (id : Puid) (kind : Kind) → id.block < d.room → has_root_in d.named id.block ≡ false → id.word < 2 ^ 32
      → let cells = set i.cells.items id.block (Some (record { word = id.word; kind = kind })) in
      IsTable cells (i.len + 1) × (listed 0 cells ≡ insert_entry puid_cmp d.named id kind) × (i.len + 1 < 2 ^ 32)
  added id kind room free fits =
      let inside : id.block < length i.cells.items = omega (arith, room_is) in
      let none = free-cell i.cells.items d.named id.block named_is free in
      let whole = IsTable-filled i.cells.items i.len id.block (record { word = id.word; kind = kind }) table inside none fits in
      let count = length-listed 0 (set i.cells.items id.block (Some (record { word = id.word; kind = kind }))) in
      let counted = whole.counted in
      let small = whole.room in
      (whole, listed-filled 0 i.cells.items id.block id kind (omega arith) inside none ∙ ap (λ named. insert_entry puid_cmp named id kind) named_is, omega arith)

  pub removed : (id : Puid) → is_some (directory_kind d.named id) ≡ true
      → let cells = set i.cells.items id.block None in
      (id.block < vec_len i.cells) × IsTable cells (i.len - 1) × (listed 0 cells ≡ without_id d.named id)
  removed id there =
      let cell = found-cell i.cells.items d.named id named_is there in (
        omega (arith, cell.2, i.cells.ok.0),
        IsTable-emptied i.cells.items i.len id.block (record { word = id.word; kind = cell.0 }) table cell.2 cell.1,
        listed-emptied 0 i.cells.items id.block id cell.0 (omega arith) cell.1 ∙ ap (λ named. without_id named id) named_is,
      )

-- ---- what a cell reads

pub cell-is : {items slice : List (Option Cell)} {cell other : Option Cell} (n : ℕ) → cell ≡ get_or slice n None → slice ≡ items → cell ≡ other → get_or items n None ≡ other
cell-is n read same is = sym (read ∙ ap (λ cells. get_or cells n None) same) ∙ is

pub cell-at : (items : List (Option Cell)) (none : Option Cell) {cell other : Option Cell} (n : ℕ) → n < length items → cell ≡ get_or items n none → cell ≡ other → get_or items n None ≡ other
cell-at items none n inside read is = get_or_default items n None none inside ∙ sym read ∙ is
